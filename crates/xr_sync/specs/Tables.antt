-- A table of what all columns find, what one more live binding changes in it, and the columns that it leads to.
use Rattle.std.specs.Prelude.{◌≡◌, ◌≤◌, ◌-◌, ℕ, ℤ, ◌==◌, true, false, List, [], ◌∷◌, drop, replicate, slice_index_or, if◌then◌else◌}
use Rattle.std.specs.List.{list_all}
use Rattle.xr_types.specs.declared.input.Column.{Column}
use Rattle.xr_types.specs.declared.input.Found.{Found}
use Rattle.xr_types.specs.declared.input.Inputs.{Inputs}
use Rattle.xr_types.specs.declared.input.Ranked.{Ranked}
use Rattle.xr_types.specs.Device.{is_time}
use Rattle.xr_model.specs.machine.Sync.{nothing_found, inactive, inactive_row, with_binding, counts_in, each_from, column_after}

-- ---- what is found

abbrev pub no_row : List Found
no_row = replicate 6 nothing_found

abbrev pub no_table : List (List Found)
no_table = replicate 64 no_row

abbrev pub row_with : Inputs → Ranked → List Found → List Found
row_with inputs b row = each_from (λ column found. if counts_in column b then with_binding inputs found b else found) 0 row

abbrev pub table_with : Inputs → Ranked → List (List Found) → List (List Found)
table_with inputs b rows = each_from (λ place row. if b.place == place then row_with inputs b row else row) 0 rows

abbrev pub table_from : Inputs → List (List Found) → List Ranked → List (List Found)
table_from inputs rows [] = rows
table_from inputs rows (b ∷ bs) = table_from inputs (table_with inputs b rows) bs

-- where the first column has found nothing, none has
abbrev pub IsQuiet : List Found → Type 0
IsQuiet row = (slice_index_or row 0 nothing_found).active ≡ false → row ≡ no_row

-- ---- columns by what each finds

abbrev pub row_after : ℤ → List Column → List Found → List Column
row_after clock [] fs = []
row_after clock (c ∷ cs) [] = []
row_after clock (c ∷ cs) (f ∷ fs) = column_after clock c f ∷ row_after clock cs fs

abbrev pub rows_after : ℤ → List (List Column) → List (List Found) → List (List Column)
rows_after clock [] rows = []
rows_after clock (r ∷ rs) [] = []
rows_after clock (r ∷ rs) (f ∷ fs) = row_after clock r f ∷ rows_after clock rs fs

-- where the first column is inactive, each is
abbrev pub IsTidy : List Column → Type 0
IsTidy row = (slice_index_or row 0 inactive).active ≡ false → row ≡ inactive_row

-- Places below this one are as they are; from it on nothing was found, or each column is inactive.
pub record AreBeyond {T : Type 0} (reach : ℕ) (none : T) (rows : List T) : Type 0 where
  pub within : reach ≤ 64
  pub rest : drop reach rows ≡ replicate (64 - reach) none

-- the time of each column is one that a device's clock shows
abbrev pub AreTimed : List (List Column) → Type 0
AreTimed columns = list_all (λ row. list_all (λ c. is_time c.time) row) columns ≡ true
