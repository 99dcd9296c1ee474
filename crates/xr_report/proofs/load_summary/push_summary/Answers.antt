use Rattle.std.proofs.Common.{rules, ◌≡◌, ◌++◌, subst}
use Rattle.std.specs.Prelude.{length, codes}
use Rattle.xr_types.specs.Code.{every_code}
use Rattle.xr_model.specs.report.Report.{status_line}
use Rattle.xr_model.specs.report.Summary.{number_line, first_calls, code_lines, frame_lines}
use Rattle.xr_report.proofs.Pieces.{five_pieces}
use Rattle.xr_report.proofs.load_summary.push_summary.Goals as goal

pub returns : goal.returns
returns c =
    let same : c.first_calls-calls.result.now ≡ first_calls c.args.lists.now.apps = search rules in
    five_pieces c.args.out.now.items c.push_number_line.new.out.items c.push_number_line-2.new.out.items c.push_codes.new.out.items c.push_frame_lines.new.out.items c.push_status.new.out.items
    (number_line (codes "xrsim load") c.args.n) (number_line (codes "calls") (length (first_calls c.args.lists.now.apps)))
    (code_lines (first_calls c.args.lists.now.apps) every_code) (frame_lines c.args.lists.now.compositor) (status_line c.args.lists.now)
    (search rules) (search rules)
    (subst (λ calls. c.push_codes.new.out.items ≡ c.push_number_line-2.new.out.items ++ code_lines calls every_code) same c.in_ok-push_codes.ensures)
    (search rules) (search rules)
