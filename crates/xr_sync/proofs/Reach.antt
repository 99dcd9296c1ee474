-- The places from which on nothing is found and nothing is shown.
use Rattle.std.proofs.Common.{◌≡◌, ◌==◌, ◌+◌, ◌-◌, ◌<◌, ◌≤◌, ◌++◌, ℕ, ℤ, zero, suc, Bool, true, false, List, [], ◌∷◌, refl, sym, ap, ◌∙◌, arith, length, take, drop, get_or, nat_lt}
use Rattle.std.specs.Prelude.{replicate, if◌then◌else◌, All}
use Rattle.std.specs.List.{filter}
use Rattle.std.proofs.lemmas.List.{take-append-drop, replicate-append-replicate, drop-replicate, drop-drop, get_or-drop, get_or-replicate}
use Rattle.std.proofs.lemmas.Bool.{ltb-true, ltb-false}
use Rattle.xr_types.specs.declared.input.Column.{Column}
use Rattle.xr_types.specs.declared.input.Found.{Found}
use Rattle.xr_types.specs.declared.input.Inputs.{Inputs}
use Rattle.xr_types.specs.declared.input.Ranked.{Ranked}
use Rattle.xr_model.specs.machine.Sync.{each_from, inactive_row}
use Rattle.xr_sync.specs.Tables.{no_row, no_table, row_with, table_with, table_from, rows_after, AreBeyond}
use Rattle.xr_sync.proofs.ColumnTables.{first_is, rest_are}
use Rattle.xr_sync.proofs.Quiet.{none_after}
use Rattle.xr_sync.proofs.Rows.{untouched}

drop_each : {T : Type 0} (f : ℕ → T → T) (n k m : ℕ) (xs : List T) → m ≡ k + n → drop n (each_from f k xs) ≡ each_from f m (drop n xs)
drop_each f zero k m xs e = let same : k ≡ m = omega (arith, e) in ap (λ (j : ℕ). each_from f j xs) same
drop_each f (suc n) k m [] e = refl
drop_each f (suc n) k m (x ∷ xs) e = drop_each f n (k + 1) m xs (omega (arith, e))

-- ---- what is found

table_stays : (inputs : Inputs) (b : Ranked) (n : ℕ) (rows : List (List Found)) → b.place < n → drop n (table_with inputs b rows) ≡ drop n rows
table_stays inputs b n rows before = drop_each (λ place row. if b.place == place then row_with inputs b row else row) n 0 n rows (omega arith) ∙ untouched (row_with inputs b) b.place n (drop n rows) before

pub table_beyond : (inputs : Inputs) (p : Ranked → Bool) (n : ℕ) (bs : List Ranked) (rows : List (List Found)) → All (λ b. b.place < n) bs → drop n (table_from inputs rows (filter p bs)) ≡ drop n rows
table_beyond inputs p n [] rows each = refl
table_beyond inputs p n (b ∷ bs) rows each = by (p b) (λ later. table_beyond inputs p n bs later (rest_are (λ (b : Ranked). b.place < n) b bs each))
  where
    by : (t : Bool) → ((later : List (List Found)) → drop n (table_from inputs later (filter p bs)) ≡ drop n later) → drop n (table_from inputs rows (if t then b ∷ filter p bs else filter p bs)) ≡ drop n rows
    by true more = more (table_with inputs b rows) ∙ table_stays inputs b n rows (first_is (λ (b : Ranked). b.place < n) b bs each)
    by false more = more rows

pub none_beyond : (reach : ℕ) → reach ≤ 64 → AreBeyond reach no_row no_table
none_beyond reach within = record { within = within; rest = drop-replicate reach 64 no_row }

-- ---- what is shown

after_none : (clock : ℤ) (k : ℕ) → rows_after clock (replicate k inactive_row) (replicate k no_row) ≡ replicate k inactive_row
after_none clock zero = refl
after_none clock (suc k) = rw (none_after clock inactive_row refl, after_none clock k) refl

-- a table is its front and what lies beyond
pub whole : {T : Type 0} (reach : ℕ) (x : T) (xs : List T) → reach ≤ 64 → take reach xs ≡ replicate reach x → drop reach xs ≡ replicate (64 - reach) x → xs ≡ replicate 64 x
whole reach x xs within front rest =
    let all : reach + (64 - reach) ≡ 64 = omega (arith, within) in
    sym (take-append-drop reach xs) ∙ rw (front, rest) (replicate-append-replicate reach (64 - reach) x ∙ ap (λ (n : ℕ). replicate n x) all)

pub further : {T : Type 0} (least reach : ℕ) (x : T) (xs : List T) → AreBeyond least x xs → least ≤ reach → reach ≤ 64 → AreBeyond reach x xs
further least reach x xs beyond more within =
    let here : least + (reach - least) ≡ reach = omega (arith, more) in
    let left : 64 - least - (reach - least) ≡ 64 - reach = omega (arith, more, within) in
    record {
      within = within;
      rest = ap (λ (n : ℕ). drop n xs) (sym here) ∙ sym (drop-drop (reach - least) least xs) ∙ ap (drop (reach - least)) beyond.rest
          ∙ drop-replicate (reach - least) (64 - least) x ∙ ap (λ (n : ℕ). replicate n x) left;
    }

pub settled_whole : (clock : ℤ) (reach : ℕ) (rows before : List (List Column)) (found seen : List (List Found)) → AreBeyond reach inactive_row before → AreBeyond reach no_row seen
    → drop reach rows ≡ drop reach before → drop reach found ≡ drop reach seen → take reach rows ++ rows_after clock (drop reach rows) (drop reach found) ≡ rows
settled_whole clock reach rows before found seen shown beyond same later =
    let e : drop reach rows ≡ replicate (64 - reach) inactive_row = same ∙ shown.rest in
    let g : drop reach found ≡ replicate (64 - reach) no_row = later ∙ beyond.rest in
    ap (λ (r : List (List Column)). take reach rows ++ r) (rw (e, g) (after_none clock (64 - reach)) ∙ sym e) ∙ take-append-drop reach rows

left_none : (there : ℕ → Bool) (n k : ℕ) → each_from (λ place row. if there place then row else inactive_row) n (replicate k inactive_row) ≡ replicate k inactive_row
left_none there n zero = refl
left_none there n (suc k) = rw (same (there n), left_none there (n + 1) k) refl
  where
    same : (b : Bool) → (if b then inactive_row else inactive_row) ≡ inactive_row
    same true = refl
    same false = refl

pub left_whole : (there : ℕ → Bool) (reach : ℕ) (rows before : List (List Column)) → AreBeyond reach inactive_row before → drop reach rows ≡ drop reach before
    → take reach rows ++ each_from (λ place row. if there place then row else inactive_row) reach (drop reach rows) ≡ rows
left_whole there reach rows before beyond same =
    let e : drop reach rows ≡ replicate (64 - reach) inactive_row = same ∙ beyond.rest in
    ap (λ (r : List (List Column)). take reach rows ++ r) (rw e (left_none there reach (64 - reach)) ∙ sym e) ∙ take-append-drop reach rows

pub all_six : (reach : ℕ) (rows : List (List Column)) → AreBeyond reach inactive_row rows → length rows ≡ 64 → ((k : ℕ) (d : List Column) → k < reach → length (get_or rows k d) ≡ 6) → All (λ row. length row ≡ 6) rows
all_six reach rows beyond long first k d within = by (nat_lt k reach) refl
  where
    by : (b : Bool) → nat_lt k reach ≡ b → length (get_or rows k d) ≡ 6
    by true e = first k d (ltb-true k reach e)
    by false e =
        let over : reach ≤ k = ltb-false k reach e in
        let here : reach + (k - reach) ≡ k = omega (arith, over) in
        let item : get_or rows k d ≡ inactive_row =
        ap (λ (i : ℕ). get_or rows i d) (sym here) ∙ sym (get_or-drop reach rows (k - reach) d) ∙ ap (λ (r : List (List Column)). get_or r (k - reach) d) beyond.rest
        ∙ get_or-replicate (64 - reach) (k - reach) inactive_row d (omega (arith, over, within, long)) in
        rw item refl
