use Rattle.std.proofs.Common.{◌++◌, ap, ◌∙◌}
use Rattle.std.proofs.lemmas.Result.{on_ok_weaker}
use Rattle.xr_types.specs.Code.{every_code}
use Rattle.xr_report.proofs.CodeCounts.{same_lines}
use Rattle.xr_report.proofs.load_summary.push_codes.Goals as goal

pub returns : goal.returns
returns c = on_ok_weaker c.push_counts.result (λ e. e ∙ ap (λ r. c.args.out.now.items ++ r) (same_lines c.counts_of-counts.result c.args.calls.now every_code c.counts_of-counts.ensures)) c.push_counts.ensures
