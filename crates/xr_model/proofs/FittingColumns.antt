-- What columns show has room in words: their values are of 32 bits, and their times are those of the device's clock.
use Rattle.std.proofs.Common.{◌≡◌, ◌+◌, ◌-◌, ◌==◌, ◌&&◌, ℕ, ℤ, pos, negsuc, zero, suc, Bool, true, false, List, [], ◌∷◌, length, refl, ap, ◌∙◌}
use Rattle.std.specs.Prelude.{int_le, slice_get, slice_set, unwrap_or, if◌then◌else◌}
use Rattle.std.specs.List.{list_all}
use Rattle.xr_types.specs.declared.input.ActionType.{ActionType}
use Rattle.xr_types.specs.declared.input.ActionType.TheVariants as type
use Rattle.xr_types.specs.declared.input.Column.{Column}
use Rattle.xr_types.specs.declared.input.Found.{Found}
use Rattle.xr_types.specs.declared.input.Heard.{Heard}
use Rattle.xr_types.specs.declared.input.Inputs.{Inputs}
use Rattle.xr_types.specs.declared.input.Part.{Part}
use Rattle.xr_types.specs.declared.input.Part.TheVariants as part
use Rattle.xr_types.specs.declared.input.Pick.{Pick}
use Rattle.xr_types.specs.declared.input.Ranked.{Ranked}
use Rattle.xr_types.specs.declared.input.User.{User}
use Rattle.xr_types.specs.Device.{in_range, is_time}
use Rattle.xr_types.specs.InputNames.{is_digital, is_value}
use Rattle.xr_types.specs.InputValues.{clamped, is_larger, is_longer}
use Rattle.xr_types.specs.Users.{user_place}
use Rattle.xr_model.specs.machine.Inputs.{values_at, value_at, with_value, without_values}
use Rattle.xr_model.specs.machine.Sync.{is_zero, is_down, amount, axes, nothing_found, with_kind, with_binding, found_from, found_at, live_in, value_before, differs, time_of, column_after, each_from, inactive, inactive_row, left_columns, synced_column, columns_after}
use Rattle.xr_model.proofs.Lists.{all_set}
use Rattle.xr_model.proofs.Rows.{both_of}

-- ---- lists

-- one of a list is as all are, and so is what stands for none
pub got : {T : Type 0} (p : T → Bool) (xs : List T) (i : ℕ) (d : T) → list_all p xs ≡ true → p d ≡ true → p (unwrap_or (slice_get xs i) d) ≡ true
got p [] i d each good = good
got p (x ∷ xs) zero d each good = (both_of (p x) (list_all p xs) each).0
got p (x ∷ xs) (suc i) d each good = got p xs i d (both_of (p x) (list_all p xs) each).1 good

pub each_fits : {T : Type 0} (p : T → Bool) (f : ℕ → T → T) → ((k : ℕ) (x : T) → p x ≡ true → p (f k x) ≡ true) → (n : ℕ) (xs : List T) → list_all p xs ≡ true → list_all p (each_from f n xs) ≡ true
each_fits p f keeps n [] each = refl
each_fits p f keeps n (x ∷ xs) each = let two = both_of (p x) (list_all p xs) each in rw (keeps n x two.0) (each_fits p f keeps (n + 1) xs two.1)

pub each_length : {T : Type 0} (f : ℕ → T → T) (n : ℕ) (xs : List T) → length (each_from f n xs) ≡ length xs
each_length f n [] = refl
each_length f n (x ∷ xs) = ap suc (each_length f (n + 1) xs)

-- ---- values

-- a value of an input, or of an axis
abbrev pub is_small : ℤ → Bool
is_small value = in_range value (negsuc 32767) (pos 32768)

abbrev pub AreSmall : Inputs → Type 0
AreSmall inputs = list_all (list_all is_small) inputs.values ≡ true

if_small : (b : Bool) (x y : ℤ) → is_small x ≡ true → is_small y ≡ true → is_small (if b then x else y) ≡ true
if_small true x y one two = one
if_small false x y one two = two

value_small : (inputs : Inputs) (who : User) (row : ℕ) → AreSmall inputs → is_small (value_at inputs who row) ≡ true
value_small inputs who row small = got is_small (values_at inputs who) (row - 1) (pos 0) (got (list_all is_small) inputs.values (user_place who) [] small refl) refl

clamped_small : (row : ℕ) (value : ℤ) → is_small value ≡ true → is_small (clamped row value) ≡ true
clamped_small row value small = by (is_digital row) (is_value row)
  where
    by : (a b : Bool) → is_small (if a then (if int_le (pos 1) value then pos 1 else pos 0) else (if b then (if int_le (pos 0) value then value else pos 0) else value)) ≡ true
    by true b = if_small (int_le (pos 1) value) (pos 1) (pos 0) refl refl
    by false true = if_small (int_le (pos 0) value) value (pos 0) small refl
    by false false = small

pub value_set : (inputs : Inputs) (who : User) (row : ℕ) (value : ℤ) → is_small value ≡ true → AreSmall inputs → AreSmall (with_value inputs who row value)
value_set inputs who row value small each =
    all_set (list_all is_small) inputs.values (user_place who) (slice_set (values_at inputs who) (row - 1) (clamped row value)) each
    (all_set is_small (values_at inputs who) (row - 1) (clamped row value) (got (list_all is_small) inputs.values (user_place who) [] each refl) (clamped_small row value small))

pub values_gone : (inputs : Inputs) (who : User) → AreSmall inputs → AreSmall (without_values inputs who)
values_gone inputs who each = all_set (list_all is_small) inputs.values (user_place who) _ each refl

-- ---- what a column finds

pub record FoundFits (f : Found) : Type 0 where
  pub x : is_small f.x ≡ true
  pub y : is_small f.y ≡ true

amount_small : (inputs : Inputs) (who : User) (where_ : Part) → AreSmall inputs → is_small (amount inputs who where_) ≡ true
amount_small inputs who (part.Digital row) small = if_small (is_zero (value_at inputs who row)) (pos 0) (pos 32768) refl refl
amount_small inputs who (part.Analogue row) small = value_small inputs who row small
amount_small inputs who _ small = refl

axes_small : (inputs : Inputs) (who : User) (where_ : Part) → AreSmall inputs → (is_small (axes inputs who where_).0 ≡ true) × (is_small (axes inputs who where_).1 ≡ true)
axes_small inputs who (part.Both x y) small = (value_small inputs who _ small, value_small inputs who _ small)
axes_small inputs who _ small = (refl, refl)

kind_fits : (inputs : Inputs) (kind : ActionType) (found : Found) (pick : Pick) → AreSmall inputs → FoundFits found → FoundFits (with_kind kind inputs found pick)
kind_fits inputs type.Boolean found pick small fits = record { x = if_small (is_down inputs pick.user pick.part) (pos 1) found.x refl fits.x; y = fits.y }
kind_fits inputs type.Float found pick small fits =
    record { x = if_small (is_larger found.x (amount inputs pick.user pick.part)) (amount inputs pick.user pick.part) found.x (amount_small inputs pick.user pick.part small) fits.x; y = fits.y }
kind_fits inputs type.Vector found pick small fits = by (is_longer (found.x, found.y) (axes inputs pick.user pick.part))
  where
    value : ℤ × ℤ
    value = axes inputs pick.user pick.part

    by : (b : Bool) → FoundFits (if b then record found { active = true; x = (axes inputs pick.user pick.part).0; y = (axes inputs pick.user pick.part).1 } else record found { active = true })
    by true = record { x = (axes_small inputs pick.user pick.part small).0; y = (axes_small inputs pick.user pick.part small).1 }
    by false = record { x = fits.x; y = fits.y }
kind_fits inputs type.Pose found pick small fits = record { x = fits.x; y = fits.y }
kind_fits inputs type.Vibration found pick small fits = record { x = fits.x; y = fits.y }

found_fits : (inputs : Inputs) (found : Found) (bs : List Ranked) → AreSmall inputs → FoundFits found → FoundFits (found_from inputs found bs)
found_fits inputs found [] small fits = fits
found_fits inputs found (b ∷ bs) small fits = found_fits inputs (with_binding inputs found b) bs small (kind_fits inputs b.kind found b.bound.pick small fits)

-- ---- columns

abbrev pub column_fits : Column → Bool
column_fits c = is_small c.x && (is_small c.y && is_time c.time)

abbrev pub row_fits : List Column → Bool
row_fits row = (length row == 6) && list_all column_fits row

if_time : (b : Bool) (x y : ℤ) → is_time x ≡ true → is_time y ≡ true → is_time (if b then x else y) ≡ true
if_time true x y one two = one
if_time false x y one two = two

-- the time of a column is that of the clock, or was the column's before
pub after_timed : (clock : ℤ) (before : Column) (found : Found) → is_time clock ≡ true → is_time before.time ≡ true → is_time (column_after clock before found).time ≡ true
unfolding column_after
after_timed clock before found now then_ = by found.active
  where
    by : (b : Bool) → is_time (if b then record { x = found.x; y = found.y; changed = differs found (value_before before); time = time_of (differs found (value_before before)) clock before; active = true; origin = found.origin } else inactive).time ≡ true
    by true = if_time (differs found (value_before before)) clock (if before.active then before.time else pos 0) now (if_time before.active before.time (pos 0) then_ refl)
    by false = refl

after_fits : (clock : ℤ) (before : Column) (found : Found) → is_time clock ≡ true → column_fits before ≡ true → FoundFits found → column_fits (column_after clock before found) ≡ true
unfolding column_after
after_fits clock before found now fits small =
    let then_ = (both_of (is_small before.y) (is_time before.time) (both_of (is_small before.x) (is_small before.y && is_time before.time) fits).1).1 in
    by found.active (after_timed clock before found now then_)
  where
    by : (b : Bool) → is_time (if b then record { x = found.x; y = found.y; changed = differs found (value_before before); time = time_of (differs found (value_before before)) clock before; active = true; origin = found.origin } else inactive).time ≡ true
        → column_fits (if b then record { x = found.x; y = found.y; changed = differs found (value_before before); time = time_of (differs found (value_before before)) clock before; active = true; origin = found.origin } else inactive) ≡ true
    by true time = rw (small.x, small.y, time) refl
    by false time = refl

synced_row : (active : List Heard) (all : List Ranked) (inputs : Inputs) (clock : ℤ) (place : ℕ) (row : List Column) → AreSmall inputs → is_time clock ≡ true → row_fits row ≡ true
    → row_fits (each_from (λ column c. synced_column active all inputs clock place column c) 0 row) ≡ true
synced_row active all inputs clock place row small now fits =
    let two = both_of (length row == 6) (list_all column_fits row) fits in
    rw (each_length (λ column c. synced_column active all inputs clock place column c) 0 row, two.0)
    (each_fits column_fits (λ column c. synced_column active all inputs clock place column c)
    (λ column c fit. after_fits clock c (found_at active all inputs place column) now fit (found_fits inputs nothing_found (live_in active all place column) small (record { x = refl; y = refl }))) 0 row two.1)

-- of all actions
pub record ColumnsFit (columns : List (List Column)) : Type 0 where
  pub rows : length columns ≡ 64
  pub each : list_all row_fits columns ≡ true

pub synced_fit : (active : List Heard) (all : List Ranked) (inputs : Inputs) (clock : ℤ) (columns : List (List Column)) → AreSmall inputs → is_time clock ≡ true → ColumnsFit columns → ColumnsFit (columns_after active all inputs clock columns)
synced_fit active all inputs clock columns small now fits = record {
  rows = each_length _ 0 columns ∙ fits.rows;
  each = each_fits row_fits _ (λ place row fit. synced_row active all inputs clock place row small now fit) 0 columns fits.each;
}

pub left_fit : (there : ℕ → Bool) (columns : List (List Column)) → ColumnsFit columns → ColumnsFit (left_columns there columns)
left_fit there columns fits = record {
  rows = each_length _ 0 columns ∙ fits.rows;
  each = each_fits row_fits _ (λ place row fit. by (there place) row fit) 0 columns fits.each;
}
  where
    by : (b : Bool) (row : List Column) → row_fits row ≡ true → row_fits (if b then row else inactive_row) ≡ true
    by true row fit = fit
    by false row fit = refl

-- ---- times alone

abbrev pub is_timed : List Column → Bool
is_timed row = list_all (λ c. is_time c.time) row

pub synced_timed : (active : List Heard) (all : List Ranked) (inputs : Inputs) (clock : ℤ) (columns : List (List Column)) → is_time clock ≡ true → list_all is_timed columns ≡ true → list_all is_timed (columns_after active all inputs clock columns) ≡ true
synced_timed active all inputs clock columns now each =
    each_fits is_timed _ (λ place row timed. each_fits (λ (c : Column). is_time c.time) _ (λ column c time. after_timed clock c (found_at active all inputs place column) now time) 0 row timed) 0 columns each

pub left_timed : (there : ℕ → Bool) (columns : List (List Column)) → list_all is_timed columns ≡ true → list_all is_timed (left_columns there columns) ≡ true
left_timed there columns each = each_fits is_timed _ (λ place row timed. by (there place) row timed) 0 columns each
  where
    by : (b : Bool) (row : List Column) → is_timed row ≡ true → is_timed (if b then row else inactive_row) ≡ true
    by true row timed = timed
    by false row timed = refl
