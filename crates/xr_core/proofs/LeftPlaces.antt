-- What is left of columns and of spaces, told in which places actions stand.
use Rattle.std.proofs.Common.{◌≡◌, ◌+◌, ℕ, Bool, List, [], ◌∷◌, map, Option, Some, None, option_and_then, refl, ap, if◌then◌else◌}
use Rattle.xr_types.specs.declared.input.Column.{Column}
use Rattle.xr_types.specs.declared.spaces.Root.{Root}
use Rattle.xr_types.specs.declared.spaces.Root.TheVariants.{Fixed, Action}
use Rattle.xr_model.specs.machine.Spaces.{Space, Spaces, is_left, with_left, left_spaces}
use Rattle.xr_model.specs.machine.Sync.{each_from, inactive_row, left_columns}

module _ (f g : ℕ → Bool) (same : (place : ℕ) → f place ≡ g place) where
  columns_from : (n : ℕ) (rows : List (List Column)) → each_from (λ place row. if f place then row else inactive_row) n rows ≡ each_from (λ place row. if g place then row else inactive_row) n rows
  columns_from n [] = refl
  columns_from n (row ∷ rows) = rw (same n, columns_from (n + 1) rows) refl

  pub columns_same : (rows : List (List Column)) → left_columns f rows ≡ left_columns g rows
  columns_same rows = columns_from 0 rows

  -- in each slot
  pub slots_same : (columns : List (List (List Column))) → map (left_columns f) columns ≡ map (left_columns g) columns
  slots_same [] = refl
  slots_same (c ∷ columns) = rw (columns_same c, slots_same columns) refl

  root_same : (r : Root) → is_left f r ≡ is_left g r
  root_same (Fixed what) = refl
  root_same (Action place column) = same place

  space_same : (x : Space) → with_left f x ≡ with_left g x
  space_same x = by x.root
    where
      by : (o : Option Root) → record x { root = option_and_then (λ r. if is_left f r then Some r else None) o } ≡ record x { root = option_and_then (λ r. if is_left g r then Some r else None) o }
      by None = refl
      by (Some r) = rw (root_same r) refl

  all_same : (xs : List Space) → map (with_left f) xs ≡ map (with_left g) xs
  all_same [] = refl
  all_same (x ∷ xs) = rw (space_same x, all_same xs) refl

  pub spaces_same : (s : Spaces) → left_spaces f s ≡ left_spaces g s
  spaces_same s = ap (λ (xs : List Space). let t : Spaces = record s { spaces = xs } in t) (all_same s.spaces)

-- each space keeps its handle
pub names_stay : (there : ℕ → Bool) (xs : List Space) → map (λ x. x.handle) (map (with_left there) xs) ≡ map (λ x. x.handle) xs
names_stay there [] = refl
names_stay there (x ∷ xs) = ap (λ (l : List ℕ). x.handle ∷ l) (names_stay there xs)
