-- The table of what all columns find is the columns' own definition. A grid is a table by a function of place and column.
use Rattle.std.proofs.Common.{◌≡◌, ◌==◌, ◌+◌, ℕ, ℤ, zero, suc, Bool, true, false, List, [], ◌∷◌, refl, ap, ◌∙◌, sym, arith, length}
use Rattle.std.specs.Prelude.{replicate, if◌then◌else◌, All}
use Rattle.std.specs.List.{filter}
use Rattle.xr_types.specs.declared.input.Column.{Column}
use Rattle.xr_types.specs.declared.input.Found.{Found}
use Rattle.xr_types.specs.declared.input.Heard.{Heard}
use Rattle.xr_types.specs.declared.input.Inputs.{Inputs}
use Rattle.xr_types.specs.declared.input.Ranked.{Ranked}
use Rattle.xr_model.specs.machine.Sync.{each_from, is_of, counts_in, with_binding, found_from, nothing_found, column_after, columns_after}
use Rattle.xr_sync.specs.Ranks.{live_bindings}
use Rattle.xr_sync.specs.Tables.{no_table, row_with, table_from, row_after, rows_after}

pub first_is : {T : Type 0} (P : T → Type 0) (x : T) (xs : List T) → All P (x ∷ xs) → P x
first_is P x xs each = each 0 x (omega arith)

pub rest_are : {T : Type 0} (P : T → Type 0) (x : T) (xs : List T) → All P (x ∷ xs) → All P xs
rest_are P x xs each k d h = each (suc k) d (omega (arith, h))

abbrev line : (ℕ → Found) → ℕ → ℕ → List Found
line f c zero = []
line f c (suc m) = f c ∷ line f (c + 1) m

abbrev grid : (ℕ → ℕ → Found) → ℕ → ℕ → ℕ → List (List Found)
grid f p zero m = []
grid f p (suc n) m = line (f p) 0 m ∷ grid f (p + 1) n m

same_line : (f g : ℕ → Found) (c m : ℕ) → ((k : ℕ) → f k ≡ g k) → line f c m ≡ line g c m
same_line f g c zero h = refl
same_line f g c (suc m) h = rw (h c, same_line f g (c + 1) m h) refl

same_grid : (f g : ℕ → ℕ → Found) (p n m : ℕ) → ((k c : ℕ) → f k c ≡ g k c) → grid f p n m ≡ grid g p n m
same_grid f g p zero m h = refl
same_grid f g p (suc n) m h = rw (same_line (f p) (g p) 0 m (h p), same_grid f g (p + 1) n m h) refl

line_of_one : (x : Found) (c m : ℕ) → replicate m x ≡ line (λ k. x) c m
line_of_one x c zero = refl
line_of_one x c (suc m) = ap (λ r. x ∷ r) (line_of_one x (c + 1) m)

grid_of_one : (x : Found) (p n m : ℕ) → replicate n (replicate m x) ≡ grid (λ k c. x) p n m
grid_of_one x p zero m = refl
grid_of_one x p (suc n) m = rw (sym (grid_of_one x (p + 1) n m), sym (line_of_one x 0 m)) refl

each_of_line : (g : ℕ → Found → Found) (f : ℕ → Found) (c m : ℕ) → each_from g c (line f c m) ≡ line (λ k. g k (f k)) c m
each_of_line g f c zero = refl
each_of_line g f c (suc m) = ap (λ r. g c (f c) ∷ r) (each_of_line g f (c + 1) m)

-- what one more binding makes of a grid's function
abbrev cell_with : Inputs → Ranked → (ℕ → ℕ → Found) → ℕ → ℕ → Found
cell_with inputs b f p c = if b.place == p then (if counts_in c b then with_binding inputs (f p c) b else f p c) else f p c

row_of_line : (inputs : Inputs) (b : Ranked) (f : ℕ → ℕ → Found) (p m : ℕ)
    → (if b.place == p then row_with inputs b (line (f p) 0 m) else line (f p) 0 m) ≡ line (cell_with inputs b f p) 0 m
row_of_line inputs b f p m = by (b.place == p) refl
  where
    by : (t : Bool) → (b.place == p) ≡ t → (if b.place == p then row_with inputs b (line (f p) 0 m) else line (f p) 0 m) ≡ line (cell_with inputs b f p) 0 m
    by true e = rw e (each_of_line (λ c found. if counts_in c b then with_binding inputs found b else found) (f p) 0 m ∙ same_line _ (cell_with inputs b f p) 0 m (λ k. rw e refl))
    by false e = rw e (same_line (f p) (cell_with inputs b f p) 0 m (λ k. rw e refl))

with_grid : (inputs : Inputs) (b : Ranked) (f : ℕ → ℕ → Found) (p n m : ℕ)
    → each_from (λ place row. if b.place == place then row_with inputs b row else row) p (grid f p n m) ≡ grid (cell_with inputs b f) p n m
with_grid inputs b f p zero m = refl
with_grid inputs b f p (suc n) m = rw (row_of_line inputs b f p m, with_grid inputs b f (p + 1) n m) refl

found_next : (inputs : Inputs) (b : Ranked) (bs : List Ranked) (f : ℕ → ℕ → Found) (p c : ℕ)
    → found_from inputs (cell_with inputs b f p c) (filter (is_of p c) bs) ≡ found_from inputs (f p c) (filter (is_of p c) (b ∷ bs))
found_next inputs b bs f p c = by (b.place == p) refl (counts_in c b) refl
  where
    by : (t : Bool) → (b.place == p) ≡ t → (u : Bool) → counts_in c b ≡ u
        → found_from inputs (cell_with inputs b f p c) (filter (is_of p c) bs) ≡ found_from inputs (f p c) (filter (is_of p c) (b ∷ bs))
    by true e true h = rw (e, h) refl
    by true e false h = rw (e, h) refl
    by false e u h = rw e refl

gathered : (inputs : Inputs) (bs : List Ranked) (f : ℕ → ℕ → Found) (n m : ℕ)
    → table_from inputs (grid f 0 n m) bs ≡ grid (λ p c. found_from inputs (f p c) (filter (is_of p c) bs)) 0 n m
gathered inputs [] f n m = same_grid f _ 0 n m (λ p c. refl)
gathered inputs (b ∷ bs) f n m =
    ap (λ t. table_from inputs t bs) (with_grid inputs b f 0 n m)
    ∙ gathered inputs bs (cell_with inputs b f) n m
    ∙ same_grid _ _ 0 n m (λ p c. found_next inputs b bs f p c)

row_by_line : (clock : ℤ) (row : List Column) (g : ℕ → Found) (c m : ℕ) → length row ≡ m → row_after clock row (line g c m) ≡ each_from (λ k col. column_after clock col (g k)) c row
row_by_line clock [] g c zero h = refl
row_by_line clock (x ∷ xs) g c (suc m) h = ap (λ r. column_after clock x (g c) ∷ r) (row_by_line clock xs g (c + 1) m (omega (arith, h)))
row_by_line clock [] g c (suc m) h = refl
row_by_line clock (x ∷ xs) g c zero h = absurd (omega (arith, h))

rows_by_grid : (clock : ℤ) (rows : List (List Column)) (f : ℕ → ℕ → Found) (p n m : ℕ) → length rows ≡ n → All (λ r. length r ≡ m) rows
    → rows_after clock rows (grid f p n m) ≡ each_from (λ place row. each_from (λ k col. column_after clock col (f place k)) 0 row) p rows
rows_by_grid clock [] f p zero m h each = refl
rows_by_grid clock (r ∷ rs) f p (suc n) m h each = rw (row_by_line clock r (f p) 0 m (first_is (λ (q : List Column). length q ≡ m) r rs each), rows_by_grid clock rs f (p + 1) n m (omega (arith, h)) (rest_are (λ (q : List Column). length q ≡ m) r rs each)) refl
rows_by_grid clock [] f p (suc n) m h each = refl
rows_by_grid clock (r ∷ rs) f p zero m h each = absurd (omega (arith, h))

pub columns_by_table : (active : List Heard) (all : List Ranked) (inputs : Inputs) (clock : ℤ) (before : List (List Column)) → length before ≡ 64 → All (λ r. length r ≡ 6) before
    → rows_after clock before (table_from inputs no_table (live_bindings active all)) ≡ columns_after active all inputs clock before
columns_by_table active all inputs clock before h each =
    ap (λ t. rows_after clock before (table_from inputs t (live_bindings active all))) (grid_of_one nothing_found 0 64 6)
    ∙ ap (rows_after clock before) (gathered inputs (live_bindings active all) (λ p c. nothing_found) 64 6)
    ∙ rows_by_grid clock before (λ p c. found_from inputs nothing_found (filter (is_of p c) (live_bindings active all))) 0 64 6 h each
