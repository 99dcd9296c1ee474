-- The names of inputs, by their rows.
use Rattle.std.proofs.Common.{◌≡◌, ℕ, ◌<◌, ◌+◌, List, [], map, length, slice_index_or, sym, arith}
use Rattle.std.proofs.lemmas.List.{get_or-map}
use Rattle.std.proofs.lemmas.Bool.Decides.{nat_tests}
use Rattle.std.specs.Borrow.{Bor}
use Rattle.xr_types.specs.InputNames.{input_names, input_name}

-- what a reference in a table points to
pub now-slice_index_or : (e : List ℕ) (refs : List (Bor (List ℕ))) (i : ℕ) (d : Bor (List ℕ)) → i < length refs
    → (slice_index_or refs i d).now ≡ slice_index_or (map (λ (r : Bor (List ℕ)). r.now) refs) i e
now-slice_index_or e refs i d h = sym (get_or-map (λ (r : Bor (List ℕ)). r.now) refs i d e h)

-- a row of the table
pub input_name-row : (row i : ℕ) → i + 1 ≡ row → i < 40 → input_name row ≡ slice_index_or input_names i []
input_name-row row i h k = grind (arith, nat_tests)
