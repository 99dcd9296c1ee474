use Rattle.std.proofs.Common.{◌≡◌, ◌≤◌, ◌<◌, ◌+◌, ℕ, drop, length}
use Rattle.std.specs.Prelude.{slice_index}
use Rattle.xr_model.specs.report.Summary.{code_count}
use Rattle.xr_report.proofs.load_summary.counts_of.Given as goal

abbrev pub invariant-loop-made : goal.invariant-loop-made
invariant-loop-made l = (length l.counts ≡ 40) × ((n : ℕ) → n < 40 → slice_index l.counts n ≤ l.made-index) × ((n : ℕ) → n < 40 → code_count n l.calls ≡ slice_index l.counts n + code_count n (drop l.made-index l.calls))
