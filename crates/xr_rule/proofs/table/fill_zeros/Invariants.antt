use Rattle.std.proofs.Common.{◌≡◌, ℕ, ◌≤◌, ◌-◌, slice_index, vec_len, vec_capacity}
use Rattle.xr_rule.specs.Rule.{word_count}
use Rattle.xr_rule.proofs.table.fill_zeros.Given as goal

abbrev pub invariant-loop-words : goal.invariant-loop-words
invariant-loop-words l = record { few : vec_len l.words ≤ word_count; room : word_count ≤ vec_capacity l.words; zeros : (i : ℕ) → slice_index l.words.items i ≡ 0 }

abbrev pub decreases-loop-words : goal.decreases-loop-words
decreases-loop-words l = word_count - vec_len l.words
