-- Which columns are active after a sync, and what an inactive one shows.
use Rattle.std.proofs.Common.{◌≡◌, ◌+◌, ◌==◌, ◌&&◌, ◌||◌, not, ℕ, ℤ, Bool, true, false, List, [], ◌∷◌, refl, sym, ap, ◌∙◌, arith, true≢false, if◌then◌else◌}
use Rattle.std.specs.Prelude.{slice_get, unwrap_or}
use Rattle.std.specs.List.{list_any, list_all, filter}
use Rattle.std.proofs.lemmas.Bool.Decides.{nat_tests}
use Rattle.xr_types.specs.declared.input.ActionType.{ActionType}
use Rattle.xr_types.specs.declared.input.ActionType.TheVariants as type
use Rattle.xr_types.specs.declared.input.Column.{Column}
use Rattle.xr_types.specs.declared.input.Found.{Found}
use Rattle.xr_types.specs.declared.input.Inputs.{Inputs}
use Rattle.xr_types.specs.declared.input.Pick.{Pick}
use Rattle.xr_types.specs.declared.input.Ranked.{Ranked}
use Rattle.xr_types.specs.declared.input.User.{User}
use Rattle.xr_types.specs.InputValues.{is_longer}
use Rattle.xr_types.specs.Users.{user_place}
use Rattle.xr_model.specs.machine.Sets.{is_declared}
use Rattle.xr_model.specs.machine.Sync.{live_in, is_live, is_of, counts_in, axes, nothing_found, with_vector, with_kind, with_binding, found_from, found_at, column_after}
use Rattle.xr_model.specs.laws.SyncLaws.{has_some, NothingIsInactive, ChangedIsActive, FirstColumnIsOfAll, UndeclaredIsInactive}
use Rattle.xr_model.proofs.Rows.{both_of, not_true, or_true, same_key}

-- ---- what is found is active

longer_active : (f : Found) (v : ℤ × ℤ) → (with_vector f v).active ≡ true
longer_active f v = by (is_longer (f.x, f.y) v)
  where
    by : (b : Bool) → (let g : Found = if b then record f { active = true; x = v.0; y = v.1 } else record f { active = true } in g.active) ≡ true
    by true = refl
    by false = refl

kind_active : (kind : ActionType) (inputs : Inputs) (f : Found) (pick : Pick) → (with_kind kind inputs f pick).active ≡ true
kind_active type.Boolean inputs f pick = refl
kind_active type.Float inputs f pick = refl
kind_active type.Vector inputs f pick = longer_active f (axes inputs pick.user pick.part)
kind_active type.Pose inputs f pick = refl
kind_active type.Vibration inputs f pick = refl

pub active_from : (inputs : Inputs) (bs : List Ranked) (f : Found) → (found_from inputs f bs).active ≡ f.active || has_some bs
active_from inputs [] f = sym (or_false f.active)
  where
    or_false : (b : Bool) → b || false ≡ b
    or_false true = refl
    or_false false = refl
active_from inputs (b ∷ bs) f = active_from inputs bs (with_binding inputs f b) ∙ rw (kind_active b.kind inputs f b.bound.pick) (sym (or_true f.active))

-- ---- what a column shows

column_active : (clock : ℤ) (before : Column) (found : Found) → (column_after clock before found).active ≡ found.active
unfolding column_after
column_active clock before found = by found.active refl
  where
    by : (b : Bool) → found.active ≡ b → (column_after clock before found).active ≡ b
    by true e = rw e refl
    by false e = rw e refl

pub nothing_is_inactive : NothingIsInactive
unfolding column_after
nothing_is_inactive active all inputs clock place column before none = ap (λ (bs : List Ranked). column_after clock before (found_from inputs nothing_found bs)) none

pub changed_is_active : ChangedIsActive
unfolding column_after
changed_is_active clock before found changed = by found.active refl changed
  where
    by : (b : Bool) → found.active ≡ b → (column_after clock before found).changed ≡ true → (column_after clock before found).active ≡ true
    by true e changed = rw e refl
    by false e changed = absurd (true≢false (sym changed ∙ rw e refl))

-- ---- column 0

some_left : {T : Type 0} (p q r : T → Bool) → ((x : T) → q x ≡ r x) → (xs : List T) → has_some (filter q (filter p xs)) ≡ list_any (λ x. p x && r x) xs
some_left p q r same [] = refl
some_left p q r same (x ∷ xs) = by (p x) (q x) refl (some_left p q r same xs)
  where
    by : (b c : Bool) → q x ≡ c → has_some (filter q (filter p xs)) ≡ list_any (λ y. p y && r y) xs
        → has_some (filter q (if b then x ∷ filter p xs else filter p xs)) ≡ (b && r x) || list_any (λ y. p y && r y) xs
    by true true e more = rw (← same x, e) refl
    by true false e more = rw (← same x, e) more
    by false c e more = more

in_first : (place : ℕ) (b : Ranked) → is_of place 0 b ≡ (b.place == place)
in_first place b = and_true (b.place == place)
  where
    and_true : (c : Bool) → c && true ≡ c
    and_true true = refl
    and_true false = refl

pub first_column_is_of_all : FirstColumnIsOfAll
first_column_is_of_all active all inputs clock place before =
    column_active clock before (found_at active all inputs place 0) ∙ active_from inputs (live_in active all place 0) nothing_found
    ∙ some_left (is_live active all) (is_of place 0) (λ b. b.place == place) (in_first place) all

-- ---- user paths that aren't declared

none_left : {T : Type 0} (p q r : T → Bool) → ((x : T) → r x ≡ false → q x ≡ false) → (xs : List T) → list_all (λ x. not (r x)) xs ≡ true → filter q (filter p xs) ≡ []
none_left p q r none [] all = refl
none_left p q r none (x ∷ xs) all =
    let both = both_of (not (r x)) (list_all (λ y. not (r y)) xs) all in
    by (p x) both.0 (none_left p q r none xs both.1)
  where
    by : (b : Bool) → not (r x) ≡ true → filter q (filter p xs) ≡ [] → filter q (if b then x ∷ filter p xs else filter p xs) ≡ []
    by true this more = rw (none x (not_true (r x) this)) more
    by false this more = more

not_counted : (place : ℕ) (who : User) (b : Ranked) → b.place == place && is_declared b.declared who ≡ false → is_of place (user_place who + 1) b ≡ false
not_counted place who b none = by (b.place == place) none
  where
    same : user_place who + 1 == user_place b.bound.pick.user + 1 ≡ true → is_declared b.declared who ≡ is_declared b.declared b.bound.pick.user
    same e = ap (λ n. unwrap_or (slice_get b.declared n) false) (omega (arith, same_key (user_place who + 1) (user_place b.bound.pick.user + 1) e))

    counted : (c : Bool) → (user_place who + 1 == user_place b.bound.pick.user + 1) ≡ c → is_declared b.declared who ≡ false → counts_in (user_place who + 1) b ≡ false
    counted true e none =
        let first : (user_place who + 1 == 0) ≡ false = grind (arith, nat_tests) in
        rw (first, e, ← same e, none) refl
    counted false e none =
        let first : (user_place who + 1 == 0) ≡ false = grind (arith, nat_tests) in
        rw (first, e) refl

    by : (c : Bool) → c && is_declared b.declared who ≡ false → c && counts_in (user_place who + 1) b ≡ false
    by true none = counted (user_place who + 1 == user_place b.bound.pick.user + 1) refl none
    by false none = refl

pub undeclared_is_inactive : UndeclaredIsInactive
undeclared_is_inactive active all inputs clock place who before none =
    let left : live_in active all place (user_place who + 1) ≡ [] =
    none_left (is_live active all) (is_of place (user_place who + 1)) (λ b. b.place == place && is_declared b.declared who) (not_counted place who) all none
    in
    column_active clock before (found_at active all inputs place (user_place who + 1)) ∙ active_from inputs (live_in active all place (user_place who + 1)) nothing_found ∙ rw left refl
