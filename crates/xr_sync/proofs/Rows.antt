-- Rows of six, and a place of a table.
use Rattle.std.proofs.Common.{◌≡◌, ◌==◌, ◌+◌, ◌<◌, ◌&&◌, ◌||◌, ℕ, ℤ, zero, suc, Bool, true, false, List, [], ◌∷◌, refl, ap, ◌∙◌, sym, arith, length, get_or, set, take, drop, ◌++◌, append_assoc}
use Rattle.std.specs.Prelude.{if◌then◌else◌}
use Rattle.std.proofs.lemmas.Bool.Decides.{nat_tests}
use Rattle.xr_types.specs.declared.input.ActionType.{ActionType}
use Rattle.xr_types.specs.declared.input.ActionType.TheVariants as type
use Rattle.xr_types.specs.declared.input.Column.{Column}
use Rattle.xr_types.specs.declared.input.Inputs.{Inputs}
use Rattle.xr_types.specs.declared.input.Pick.{Pick}
use Rattle.xr_types.specs.declared.input.Ranked.{Ranked}
use Rattle.xr_types.specs.declared.input.User.{User}
use Rattle.xr_types.specs.declared.input.User.TheVariants as user
use Rattle.xr_types.specs.InputValues.{is_longer}
use Rattle.xr_types.specs.Users.{user_place}
use Rattle.xr_types.specs.declared.input.Found.{Found}
use Rattle.std.proofs.lemmas.List.{drop_more, take_more_set, drop-set-lt}
use Rattle.xr_model.specs.machine.Sets.{is_declared}
use Rattle.xr_model.specs.machine.Sync.{each_from, with_kind, counts_in}
use Rattle.xr_sync.specs.declared.given.Given.{Given}
use Rattle.xr_sync.specs.declared.given.Given.TheVariants as given
use Rattle.xr_sync.specs.Given.{given_by, with_given}
use Rattle.xr_sync.specs.Tables.{row_with, row_after, rows_after}

-- one more in the column of all user paths, and in that of its own where it is declared
pub two_columns : (g : Found → Found) (who : User) (declared : Bool) (row : List Found) (o : Found) → length row ≡ 6
    → (if declared then set (set row 0 (g (get_or row 0 o))) (user_place who + 1) (g (get_or (set row 0 (g (get_or row 0 o))) (user_place who + 1) o)) else set row 0 (g (get_or row 0 o)))
    ≡ each_from (λ column found. if (column == 0) || ((column == user_place who + 1) && declared) then g found else found) 0 row
two_columns g who declared [] o h = absurd (omega (arith, h))
two_columns g who declared (a ∷ []) o h = absurd (omega (arith, h))
two_columns g who declared (a ∷ b ∷ []) o h = absurd (omega (arith, h))
two_columns g who declared (a ∷ b ∷ c ∷ []) o h = absurd (omega (arith, h))
two_columns g who declared (a ∷ b ∷ c ∷ d ∷ []) o h = absurd (omega (arith, h))
two_columns g who declared (a ∷ b ∷ c ∷ d ∷ e ∷ []) o h = absurd (omega (arith, h))
two_columns g who declared (a ∷ b ∷ c ∷ d ∷ e ∷ f ∷ []) o h = by who declared
  where
    by : (who : User) (declared : Bool)
        → (let first : List Found = g a ∷ b ∷ c ∷ d ∷ e ∷ f ∷ [] in if declared then set first (user_place who + 1) (g (get_or first (user_place who + 1) o)) else first)
        ≡ each_from (λ column found. if (column == 0) || ((column == user_place who + 1) && declared) then g found else found) 0 (a ∷ b ∷ c ∷ d ∷ e ∷ f ∷ [])
    by user.Left true = refl
    by user.Left false = refl
    by user.Right true = refl
    by user.Right false = refl
    by user.Head true = refl
    by user.Head false = refl
    by user.Gamepad true = refl
    by user.Gamepad false = refl
    by user.Treadmill true = refl
    by user.Treadmill false = refl
two_columns g who declared (a ∷ b ∷ c ∷ d ∷ e ∷ f ∷ x ∷ xs) o h = absurd (omega (arith, h))

-- what is given is what a binding gives
by_given : (kind : ActionType) (inputs : Inputs) (pick : Pick) (counts : ℕ → Bool) (n : ℕ) (row : List Found)
    → each_from (λ column found. if counts column then with_given found (given_by kind inputs pick) else found) n row ≡ each_from (λ column found. if counts column then with_kind kind inputs found pick else found) n row
by_given type.Boolean inputs pick counts n row = refl
by_given type.Float inputs pick counts n row = refl
by_given type.Vector inputs pick counts n row = refl
by_given type.Pose inputs pick counts n row = refl
by_given type.Vibration inputs pick counts n row = refl

pub added : (inputs : Inputs) (b : Ranked) (declared : Bool) (row : List Found) (o : Found) → length row ≡ 6 → is_declared b.declared b.bound.pick.user ≡ declared
    → (let given : Given = given_by b.kind inputs b.bound.pick in
    let first : List Found = set row 0 (with_given (get_or row 0 o) given) in
    if declared then set first (user_place b.bound.pick.user + 1) (with_given (get_or first (user_place b.bound.pick.user + 1) o) given) else first)
    ≡ row_with inputs b row
added inputs b declared row o h is =
    two_columns (λ f. with_given f (given_by b.kind inputs b.bound.pick)) b.bound.pick.user declared row o h
    ∙ rw (← is) (by_given b.kind inputs b.bound.pick (λ column. counts_in column b) 0 row)

pub given_active : (f : Found) (g : Given) → (with_given f g).active ≡ true
given_active f (given.Boolean down) = refl
given_active f (given.Float value) = refl
given_active f (given.Vector x y) = by (is_longer (f.x, f.y) (x, y))
  where
    by : (b : Bool) → (let h : Found = if b then record f { active = true; x = x; y = y } else record f { active = true } in h.active) ≡ true
    by true = refl
    by false = refl
given_active f (given.Pose pose) = refl
given_active f given.Vibration = refl

pub untouched : (g : List Found → List Found) (m n : ℕ) (rows : List (List Found)) → m < n → each_from (λ p r. if m == p then g r else r) n rows ≡ rows
untouched g m n [] h = refl
untouched g m n (r ∷ rs) h =
    let other : (m == n) ≡ false = grind (arith, nat_tests, h) in
    rw (other, untouched g m (n + 1) rs (omega (arith, h))) refl

pub set_is_each : (g : List Found → List Found) (rows : List (List Found)) (k n m : ℕ) (d : List Found) → m ≡ k + n → k < length rows
    → set rows k (g (get_or rows k d)) ≡ each_from (λ p r. if m == p then g r else r) n rows
set_is_each g [] k n m d e h = absurd (omega (arith, h))
set_is_each g (r ∷ rs) zero n m d e h =
    let same : (m == n) ≡ true = grind (arith, nat_tests, e) in
    rw (same, untouched g m (n + 1) rs (omega (arith, e))) refl
set_is_each g (r ∷ rs) (suc k) n m d e h =
    let other : (m == n) ≡ false = grind (arith, nat_tests, e) in
    rw other (ap (λ q. r ∷ q) (set_is_each g rs k (n + 1) m d (omega (arith, e)) (omega (arith, h))))

pub left_more : (f : ℕ → List Column → List Column) (rows : List (List Column)) (i : ℕ) (d new : List Column) → i < length rows → new ≡ f i (get_or rows i d)
    → take i rows ++ each_from f i (drop i rows) ≡ take (i + 1) (set rows i new) ++ each_from f (i + 1) (drop (i + 1) (set rows i new))
left_more f rows i d new h e =
    rw (drop_more rows i d h, ← e, take_more_set rows i new h, drop-set-lt (i + 1) rows i new (omega arith))
    (sym (append_assoc (take i rows) (new ∷ []) (each_from f (i + 1) (drop (i + 1) rows))))

pub settled_more : (clock : ℤ) (rows : List (List Column)) (found : List (List Found)) (i : ℕ) (d : List Column) (e : List Found) → i < length rows → i < length found
    → take i rows ++ rows_after clock (drop i rows) (drop i found)
    ≡ take (i + 1) (set rows i (row_after clock (get_or rows i d) (get_or found i e))) ++ rows_after clock (drop (i + 1) (set rows i (row_after clock (get_or rows i d) (get_or found i e)))) (drop (i + 1) found)
settled_more clock rows found i d e h k =
    let new : List Column = row_after clock (get_or rows i d) (get_or found i e) in
    rw (drop_more rows i d h, drop_more found i e k, take_more_set rows i (row_after clock (get_or rows i d) (get_or found i e)) h, drop-set-lt (i + 1) rows i (row_after clock (get_or rows i d) (get_or found i e)) (omega arith))
    (sym (append_assoc (take i rows) (row_after clock (get_or rows i d) (get_or found i e) ∷ []) (rows_after clock (drop (i + 1) rows) (drop (i + 1) found))))
