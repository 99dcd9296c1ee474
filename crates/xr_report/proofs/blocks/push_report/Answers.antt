use Rattle.std.proofs.Common.{rules}
use Rattle.std.specs.Prelude.{codes}
use Rattle.xr_model.specs.report.Report.{threads_from, compositor_block, device_block, stuck_block, status_line}
use Rattle.xr_report.proofs.Pieces.{six_pieces}
use Rattle.xr_report.proofs.blocks.push_report.Goals as goal

pub returns : goal.returns
returns c =
    six_pieces c.args.out.now.items c.push_text.new.out.items c.push_threads.new.out.items c.push_compositor.new.out.items c.push_device.new.out.items c.push_stuck.new.out.items c.push_status.new.out.items
    (codes "xrsim report 1\n") (threads_from c.args.places 1 c.args.lists.now.apps)
    (compositor_block c.args.places c.args.lists.now.compositor c.args.lists.now.shown c.args.lists.now.ended)
    (device_block c.args.places c.args.lists.now.events c.args.lists.now.device)
    (stuck_block c.args.lists.now.next) (status_line c.args.lists.now)
    c.in_ok-push_text.ensures (search rules) (search rules) (search rules) (search rules) (search rules)
