-- Passes of a run's applications, before their calls and behind them.
use Rattle.std.proofs.Common.{◌≡◌, ℕ, ◌+◌, ◌<◌, List, [], ◌∷◌, ◌++◌, length, slice_get, sym, ap, ◌∙◌, subst, Some, arith}
use Rattle.std.specs.Prelude.{slice_index_or}
use Rattle.std.proofs.lemmas.Option.{slice_get-get_or, slice_get_within}
use Rattle.atomic_table.specs.Seated.{TableId}
use Rattle.xr_runtime.proofs.Starting.{last_at}
use Rattle.xr_runtime.specs.Passes.{Rests, IsApp, IsFirst, AreFirst}
use Rattle.xr_runtime.specs.declared.passes.AppPass.{AppPass}

-- ---- each pass of a list

pub each_first : (table : TableId) (l : List AppPass) → AreFirst table l → (i : ℕ) (d : AppPass) → i < length l → IsFirst table (i + 1) (slice_index_or l i d)
each_first table l first i d within = first i (slice_index_or l i d) (slice_get-get_or l i d within)

same_pass : (a b : AppPass) → Some a ≡ Some b → a ≡ b
same_pass a b is = cc

each_rests : (table : TableId) (l : List AppPass) (n : ℕ) → length l ≡ n → ((i : ℕ) (d : AppPass) → i < n → IsApp table (slice_index_or l i d)) → (i : ℕ) (a : AppPass) → slice_get l i ≡ Some a → Rests table a.seat
each_rests table l n long all i a at =
    let within = slice_get_within l i a at in
    subst (λ (x : AppPass). Rests table x.seat) (same_pass (slice_index_or l i a) a (sym (slice_get-get_or l i a within) ∙ at)) (all i a (omega (arith, within, long))).rests

-- whichever list it is that has these passes
pub all_rest : (table : TableId) (items l : List AppPass) (n : ℕ) → items ≡ l → length l ≡ n → ((i : ℕ) (d : AppPass) → i < n → IsApp table (slice_index_or l i d)) → (i : ℕ) (a : AppPass) → slice_get items i ≡ Some a → Rests table a.seat
all_rest table items l n same long all i a at = each_rests table l n long all i a (ap (λ (m : List AppPass). slice_get m i) (sym same) ∙ at)

-- the last of a start's passes
pub popped : (table : TableId) (items rest : List AppPass) (a : AppPass) → items ≡ rest ++ a ∷ [] → AreFirst table items → IsApp table a
popped table items rest a same first = (first (length rest) a (ap (λ (l : List AppPass). slice_get l (length rest)) same ∙ last_at rest a)).is
