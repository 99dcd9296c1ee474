use Rattle.std.proofs.lemmas.Result.{on_ok_weaker}
use Rattle.std.specs.Prelude.{codes, decimal}
use Rattle.xr_report.proofs.Pieces.{four_pieces}
use Rattle.xr_report.proofs.lines.push_projection.Goals as goal

pub returns : goal.returns
returns c =
    on_ok_weaker c.push_number-2.result
    (four_pieces c.args.out.now.items c.push_text.new.out.items c.push_number.new.out.items c.push_text-2.new.out.items c.push_number-2.new.out.items
    (codes " projection:") (decimal c.args.left) (codes ",") (decimal c.args.right)
    c.in_ok-push_text.ensures c.in_ok-push_number.ensures c.in_ok-push_text-2.ensures)
    c.push_number-2.ensures
