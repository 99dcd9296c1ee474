-- Rows in which nothing was found, and rows that show nothing.
use Rattle.std.proofs.Common.{◌≡◌, ℕ, zero, suc, ℤ, Bool, true, false, List, [], ◌∷◌, refl, sym, ◌∙◌, arith, length}
use Rattle.std.specs.Prelude.{slice_index_or, replicate, All}
use Rattle.xr_types.specs.declared.input.Column.{Column}
use Rattle.xr_types.specs.declared.input.Found.{Found}
use Rattle.xr_model.specs.machine.Sync.{nothing_found, inactive, inactive_row, no_columns, column_after}
use Rattle.xr_sync.specs.Tables.{no_row, no_table, row_after, IsQuiet, IsTidy}

all_same : {T : Type 0} (P : T → Type 0) (n : ℕ) (x : T) → P x → All P (replicate n x)
all_same P zero x this k d within = absurd (omega (arith, within))
all_same P (suc n) x this zero d within = this
all_same P (suc n) x this (suc k) d within = all_same P n x this k d (omega (arith, within))

pub quiet_table : All IsQuiet no_table
quiet_table = all_same IsQuiet 64 no_row (λ e. refl)

pub tidy_columns : All IsTidy no_columns
tidy_columns = all_same IsTidy 64 inactive_row (λ e. refl)

-- nothing is found where nothing was shown
pub stays : (clock : ℤ) (row : List Column) (found : List Found) → IsQuiet found → IsTidy row → (slice_index_or row 0 inactive).active ≡ false → (slice_index_or found 0 nothing_found).active ≡ false
    → (row ≡ row_after clock row found) × (found ≡ no_row)
unfolding column_after
stays clock row found quiet tidy shown seen = rw (tidy shown, quiet seen) (refl, refl)

first_after : (clock : ℤ) (c : Column) (f : Found) → (column_after clock c f).active ≡ f.active
unfolding column_after
first_after clock c f = by f.active refl
  where
    by : (b : Bool) → f.active ≡ b → (column_after clock c f).active ≡ b
    by true e = rw e refl
    by false e = rw e refl

pub none_after : (clock : ℤ) (row : List Column) → length row ≡ 6 → row_after clock row no_row ≡ inactive_row
unfolding column_after
none_after clock [] h = absurd (omega (arith, h))
none_after clock (a ∷ []) h = absurd (omega (arith, h))
none_after clock (a ∷ b ∷ []) h = absurd (omega (arith, h))
none_after clock (a ∷ b ∷ c ∷ []) h = absurd (omega (arith, h))
none_after clock (a ∷ b ∷ c ∷ d ∷ []) h = absurd (omega (arith, h))
none_after clock (a ∷ b ∷ c ∷ d ∷ e ∷ []) h = absurd (omega (arith, h))
none_after clock (a ∷ b ∷ c ∷ d ∷ e ∷ f ∷ []) h = refl
none_after clock (a ∷ b ∷ c ∷ d ∷ e ∷ f ∷ g ∷ xs) h = absurd (omega (arith, h))

-- what is shown then is tidy
pub tidy_after : (clock : ℤ) (row : List Column) (found : List Found) → length row ≡ 6 → IsQuiet found → IsTidy (row_after clock row found)
tidy_after clock row found h quiet e = rw (quiet (seen row found h e)) (none_after clock row h)
  where
    seen : (row : List Column) (found : List Found) → length row ≡ 6 → (slice_index_or (row_after clock row found) 0 inactive).active ≡ false → (slice_index_or found 0 nothing_found).active ≡ false
    seen [] found h e = absurd (omega (arith, h))
    seen (c ∷ cs) [] h e = refl
    seen (c ∷ cs) (f ∷ fs) h e = sym (first_after clock c f) ∙ e
