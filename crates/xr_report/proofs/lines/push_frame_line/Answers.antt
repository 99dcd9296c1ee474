use Rattle.std.proofs.Common.{rules, append_assoc}
use Rattle.xr_report.proofs.lines.push_frame_line.Goals as goal

pub returns : goal.returns
returns c = search (rules, append_assoc)
