use Rattle.std.proofs.Common.{rules, append_assoc}
use Rattle.xr_report.proofs.lines.push_call.Goals as goal

pub returns : goal.returns
returns c = search (rules, append_assoc)
