-- The counts of results: they begin at 0, and the lines by them are those of the calls.
use Rattle.std.proofs.Common.{◌≡◌, ◌≤◌, ◌+◌, ℕ, zero, suc, List, [], ◌∷◌, refl, arith}
use Rattle.std.proofs.lemmas.Option.{slice_get_within}
use Rattle.std.specs.Prelude.{slice_index, replicate, ◌<◌}
use Rattle.xr_types.specs.Code.{every_code, number_of_code}
use Rattle.xr_types.specs.declared.code.Code.{Code}
use Rattle.xr_types.specs.declared.made.Made.{Made}
use Rattle.xr_types.proofs.CodeNumbers.{numbers_are_places}
use Rattle.xr_model.specs.report.Summary.{code_count, code_lines}
use Rattle.xr_report.specs.inside.Counts.{lines_by}

zeros : (n k : ℕ) → slice_index (replicate n 0) k ≡ 0
zeros zero k = refl
zeros (suc n) zero = refl
zeros (suc n) (suc k) = zeros n k

pub none_yet : (n k : ℕ) → slice_index (replicate n 0) k ≤ 0
none_yet n k = rw (zeros n k) (omega arith)

pub all_to_come : (n k t : ℕ) → t ≡ slice_index (replicate n 0) k + t
all_to_come n k t = rw (zeros n k) (omega arith)

-- a result stands among all, so its number is below their count
number_is_small : (c : Code) → number_of_code c < 40
number_is_small c = slice_get_within every_code (number_of_code c) c (numbers_are_places.placed c)

pub same_lines : (counts : List ℕ) (calls : List Made) (cs : List Code)
    → ((n : ℕ) → n < 40 → slice_index counts n ≡ code_count n calls) → lines_by counts cs ≡ code_lines calls cs
same_lines counts calls [] h = refl
same_lines counts calls (c ∷ cs) h = rw (h (number_of_code c) (number_is_small c), same_lines counts calls cs h) refl
