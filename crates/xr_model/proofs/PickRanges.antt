-- What a path picks: an identifier of the list, and rows of inputs or of poses.
use Rattle.std.proofs.Common.{◌≡◌, ◌&&◌, ◌||◌, ◌++◌, not, ℕ, Bool, true, false, List, [], ◌∷◌, Option, Some, None, option_map, refl, sym, ◌∙◌, subst, arith, true≢false, append_assoc, if◌then◌else◌}
use Rattle.std.specs.Prelude.{nat_le, nat_lt, codes, option_and_then, bytes_eq}
use Rattle.std.specs.List.{list_any, list_all, find, filter}
use Rattle.std.proofs.lemmas.Bool.Decides.{nat_tests}
use Rattle.std.specs.Cmp.Lexicographic.{bytes_decides}
use Rattle.std.proofs.lemmas.List.Quantifiers.{position-Some}
use Rattle.xr_types.specs.declared.input.ActionType.{ActionType}
use Rattle.xr_types.specs.declared.input.ActionType.TheVariants as type
use Rattle.xr_types.specs.declared.input.Part.{Part}
use Rattle.xr_types.specs.declared.input.Part.TheVariants as part
use Rattle.xr_types.specs.declared.input.Pick.{Pick}
use Rattle.xr_types.specs.declared.input.Profile.{Profile}
use Rattle.xr_types.specs.declared.input.Profile.TheVariants as profile
use Rattle.xr_types.specs.declared.input.User.{User}
use Rattle.xr_types.specs.declared.input.User.TheVariants as user
use Rattle.xr_types.specs.InputNames.{is_digital}
use Rattle.xr_types.specs.Words.{behind}
use Rattle.xr_types.specs.Printed.{user_path, all_users}
use Rattle.xr_model.specs.machine.Profiles.{entry_name, rows_at, outputs_at, identifiers, identifier_place, before_slash, row_named, row_alone, is_input, is_pose, part_of, first_some, both, picked, picked_output, pick_by, pick_at, pick_among}
use Rattle.xr_model.specs.laws.SyncLaws.{is_row, has_rows, is_pick, PicksAreInRange}
use Rattle.xr_model.proofs.Rows.{both_of, or_true}

-- ---- where an option is some

some_is : {X : Type 0} (x y : X) → Some x ≡ Some y → x ≡ y
some_is x y e = cc

module _ {X : Type 0} (good : X → Bool) where
  abbrev pub AreGood : Option X → Type 0
  AreGood o = (x : X) → o ≡ Some x → good x ≡ true

  none_good : AreGood None
  none_good x e = cc

  first_good : (a b : Option X) → AreGood a → AreGood b → AreGood (first_some a b)
  first_good (Some y) b first second x e = first x e
  first_good None b first second x e = second x e

  then_good : {Y : Type 0} (f : Y → Option X) → ((y : Y) → AreGood (f y)) → (o : Option Y) → AreGood (option_and_then f o)
  then_good f each None x e = cc
  then_good f each (Some y) x e = each y x e

map_good : {X Y : Type 0} (good : X → Bool) (well : Y → Bool) (f : X → Y) → ((x : X) → good x ≡ true → well (f x) ≡ true) → (o : Option X) → AreGood good o → AreGood well (option_map f o)
map_good good well f each None all y e = cc
map_good good well f each (Some x) all y e = subst (λ z. well z ≡ true) (some_is (f x) y e) (each x (all x refl))

-- ---- which rows a component is of

abbrev suffixes : List ℕ → List (List ℕ)
suffixes [] = [] ∷ []
suffixes (x ∷ xs) = (x ∷ xs) ∷ suffixes xs

rest_is : (x w : ℕ) (xs ws : List ℕ) → x ∷ xs ≡ w ∷ ws → xs ≡ ws
rest_is x w xs ws e = cc

ends : (front tail whole : List ℕ) → front ++ tail ≡ whole → list_any (λ s. bytes_eq tail s) (suffixes whole) ≡ true
ends [] tail [] e = rw e refl
ends [] tail (w ∷ ws) e = rw ((bytes_decides tail (w ∷ ws)).1 e) refl
ends (x ∷ front) tail [] e = cc
ends (x ∷ front) tail (w ∷ ws) e = rw (ends front tail ws (rest_is x w (front ++ tail) ws e)) (or_true (bytes_eq tail (w ∷ ws)))

-- the row's name ends in this component
abbrev ends_in : List ℕ → ℕ → Bool
ends_in component row = list_any (λ s. bytes_eq (codes "/" ++ component) s) (suffixes (entry_name row))

abbrev is_known : ℕ → Bool
is_known row = nat_le 1 row && nat_le row 42

-- a row whose name ends in a component is kept
abbrev fits : List ℕ → (ℕ → Bool) → ℕ → Bool
fits component keep row = is_known row && (not (ends_in component row) || keep row)

abbrev is_fit : ℕ → Bool
is_fit row = fits (codes "click") is_input row && (fits (codes "value") is_input row && (fits (codes "x") is_input row && (fits (codes "y") is_input row && fits (codes "pose") is_pose row)))

fit_rows : (which : Profile) (who : User) → list_all is_fit (rows_at which who) ≡ true
fit_rows profile.Simple user.Left = refl
fit_rows profile.Simple user.Right = refl
fit_rows profile.Simple user.Head = refl
fit_rows profile.Simple user.Gamepad = refl
fit_rows profile.Simple user.Treadmill = refl
fit_rows profile.Touch user.Left = refl
fit_rows profile.Touch user.Right = refl
fit_rows profile.Touch user.Head = refl
fit_rows profile.Touch user.Gamepad = refl
fit_rows profile.Touch user.Treadmill = refl
fit_rows profile.Vive user.Left = refl
fit_rows profile.Vive user.Right = refl
fit_rows profile.Vive user.Head = refl
fit_rows profile.Vive user.Gamepad = refl
fit_rows profile.Vive user.Treadmill = refl
fit_rows profile.Xbox user.Left = refl
fit_rows profile.Xbox user.Right = refl
fit_rows profile.Xbox user.Head = refl
fit_rows profile.Xbox user.Gamepad = refl
fit_rows profile.Xbox user.Treadmill = refl

all_weaker : (p q : ℕ → Bool) → ((n : ℕ) → p n ≡ true → q n ≡ true) → (ns : List ℕ) → list_all p ns ≡ true → list_all q ns ≡ true
all_weaker p q each [] all = refl
all_weaker p q each (n ∷ ns) all =
    let both = both_of (p n) (list_all p ns) all in
    rw (each n both.0, all_weaker p q each ns both.1) refl

-- ---- the rows that are found

-- a row that is found is one of the list, and has the test
found_row : (known test : ℕ → Bool) (rows : List ℕ) → list_all known rows ≡ true → (row : ℕ) → find test rows ≡ Some row → known row && test row ≡ true
found_row known test [] all row e = cc
found_row known test (x ∷ xs) all row e =
    let two = both_of (known x) (list_all known xs) all in
    by (test x) refl two.0 (λ later. found_row known test xs two.1 row later) e
  where
    by : (b : Bool) → test x ≡ b → known x ≡ true → (find test xs ≡ Some row → known row && test row ≡ true) → (if b then Some x else find test xs) ≡ Some row → known row && test row ≡ true
    by true t k more e = subst (λ r. known r && test r ≡ true) (some_is x row e) (rw (k, t) refl)
    by false t k more e = more e

kept_rows : (known keep : ℕ → Bool) (rows : List ℕ) → list_all known rows ≡ true → list_all (λ row. known row && keep row) (filter keep rows) ≡ true
kept_rows known keep [] all = refl
kept_rows known keep (x ∷ xs) all =
    let two = both_of (known x) (list_all known xs) all in
    by (keep x) refl two.0 (kept_rows known keep xs two.1)
  where
    by : (b : Bool) → keep x ≡ b → known x ≡ true → list_all (λ row. known row && keep row) (filter keep xs) ≡ true → list_all (λ row. known row && keep row) (if b then x ∷ filter keep xs else filter keep xs) ≡ true
    by true k this more = rw (this, k, more) refl
    by false k this more = more

-- a row among those that are kept
named_good : (keep : ℕ → Bool) (rows : List ℕ) (entry : List ℕ) → list_all is_known rows ≡ true → AreGood (λ row. is_known row && keep row) (row_named (filter keep rows) entry)
named_good keep rows entry all row e =
    (both_of (is_known row && keep row) (bytes_eq entry (entry_name row)) (found_row (λ r. is_known r && keep r) (λ r. bytes_eq entry (entry_name r)) (filter keep rows) (kept_rows is_known keep rows all) row e)).0

kept : (ends k : Bool) → ends ≡ true → not ends || k ≡ true → k ≡ true
kept true k is h = h
kept false k is h = absurd (true≢false (sym is))

-- a row of an identifier alone
alone_good : (keep : ℕ → Bool) (rows : List ℕ) (entry component : List ℕ) → list_all (fits component keep) rows ≡ true → AreGood (λ row. is_known row && keep row) (row_alone rows entry component)
alone_good keep rows entry component all row e =
    let name = entry ++ codes "/" ++ component in
    let found = both_of (fits component keep row) (bytes_eq name (entry_name row)) (found_row (fits component keep) (λ r. bytes_eq name (entry_name r)) rows all row e) in
    let fit = both_of (is_known row) (not (ends_in component row) || keep row) found.0 in
    let ends_so : ends_in component row ≡ true = ends entry (codes "/" ++ component) (entry_name row) (sym (append_assoc entry (codes "/") component) ∙ (bytes_decides name (entry_name row)).0 found.1) in
    rw (fit.0, kept (ends_in component row) (keep row) ends_so fit.1) refl

-- ---- parts

input_row : (row : ℕ) → is_known row && is_input row ≡ true → is_row row ≡ true
input_row row e = grind (arith, nat_tests, e)

pose_row : (row : ℕ) → is_known row && is_pose row ≡ true → is_pose row ≡ true
pose_row row e = (both_of (is_known row) (is_pose row) e).1

part_good : (row : ℕ) → is_known row && is_input row ≡ true → has_rows (part_of row) ≡ true
part_good row e = by (is_digital row)
  where
    by : (b : Bool) → has_rows (if b then part.Digital row else part.Analogue row) ≡ true
    by true = input_row row e
    by false = input_row row e

both_good : (a b : Option ℕ) → AreGood (λ row. is_known row && is_input row) a → AreGood (λ row. is_known row && is_input row) b → AreGood has_rows (both a b)
both_good None b first second p e = cc
both_good (Some x) None first second p e = cc
both_good (Some x) (Some y) first second p e = subst (λ q. has_rows q ≡ true) (some_is (part.Both x y) p e) (rw (input_row x (first x refl), input_row y (second y refl)) refl)

-- what all of these rows are
record Rows (rows : List ℕ) : Type 0 where
  known : list_all is_known rows ≡ true
  clicks : list_all (fits (codes "click") is_input) rows ≡ true
  values : list_all (fits (codes "value") is_input) rows ≡ true
  xs : list_all (fits (codes "x") is_input) rows ≡ true
  ys : list_all (fits (codes "y") is_input) rows ≡ true
  poses : list_all (fits (codes "pose") is_pose) rows ≡ true

rows_of : (rows : List ℕ) → list_all is_fit rows ≡ true → Rows rows
rows_of rows all = record {
  known = all_weaker is_fit is_known (λ n e. (both_of (is_known n) (not (ends_in (codes "click") n) || is_input n) (click n e)).0) rows all;
  clicks = all_weaker is_fit (fits (codes "click") is_input) click rows all;
  values = all_weaker is_fit (fits (codes "value") is_input) (λ n e. (value n e).0) rows all;
  xs = all_weaker is_fit (fits (codes "x") is_input) (λ n e. (axis n e).0) rows all;
  ys = all_weaker is_fit (fits (codes "y") is_input) (λ n e. (last n e).0) rows all;
  poses = all_weaker is_fit (fits (codes "pose") is_pose) (λ n e. (last n e).1) rows all;
}
  where
    click : (n : ℕ) → is_fit n ≡ true → fits (codes "click") is_input n ≡ true
    click n e = (both_of (fits (codes "click") is_input n) (fits (codes "value") is_input n && (fits (codes "x") is_input n && (fits (codes "y") is_input n && fits (codes "pose") is_pose n))) e).0

    value : (n : ℕ) → is_fit n ≡ true → (fits (codes "value") is_input n ≡ true) × (fits (codes "x") is_input n && (fits (codes "y") is_input n && fits (codes "pose") is_pose n) ≡ true)
    value n e =
        both_of (fits (codes "value") is_input n) (fits (codes "x") is_input n && (fits (codes "y") is_input n && fits (codes "pose") is_pose n))
        (both_of (fits (codes "click") is_input n) (fits (codes "value") is_input n && (fits (codes "x") is_input n && (fits (codes "y") is_input n && fits (codes "pose") is_pose n))) e).1

    axis : (n : ℕ) → is_fit n ≡ true → (fits (codes "x") is_input n ≡ true) × (fits (codes "y") is_input n && fits (codes "pose") is_pose n ≡ true)
    axis n e = both_of (fits (codes "x") is_input n) (fits (codes "y") is_input n && fits (codes "pose") is_pose n) (value n e).1

    last : (n : ℕ) → is_fit n ≡ true → (fits (codes "y") is_input n ≡ true) × (fits (codes "pose") is_pose n ≡ true)
    last n e = both_of (fits (codes "y") is_input n) (fits (codes "pose") is_pose n) (axis n e).1

part_picked : (wanted : ActionType) (rows : List ℕ) (entry : List ℕ) → Rows rows → AreGood has_rows (picked wanted rows entry)
part_picked type.Boolean rows entry r =
    map_good (λ row. is_known row && is_input row) has_rows part_of part_good (first_some (row_named (filter is_input rows) entry) (first_some (row_alone rows entry (codes "click")) (row_alone rows entry (codes "value"))))
    (first_good (λ row. is_known row && is_input row) (row_named (filter is_input rows) entry) (first_some (row_alone rows entry (codes "click")) (row_alone rows entry (codes "value"))) (named_good is_input rows entry r.known)
    (first_good (λ row. is_known row && is_input row) (row_alone rows entry (codes "click")) (row_alone rows entry (codes "value")) (alone_good is_input rows entry (codes "click") r.clicks) (alone_good is_input rows entry (codes "value") r.values)))
part_picked type.Float rows entry r =
    map_good (λ row. is_known row && is_input row) has_rows part_of part_good (first_some (row_named (filter is_input rows) entry) (first_some (row_alone rows entry (codes "value")) (row_alone rows entry (codes "click"))))
    (first_good (λ row. is_known row && is_input row) (row_named (filter is_input rows) entry) (first_some (row_alone rows entry (codes "value")) (row_alone rows entry (codes "click"))) (named_good is_input rows entry r.known)
    (first_good (λ row. is_known row && is_input row) (row_alone rows entry (codes "value")) (row_alone rows entry (codes "click")) (alone_good is_input rows entry (codes "value") r.values) (alone_good is_input rows entry (codes "click") r.clicks)))
part_picked type.Vector rows entry r = both_good (row_alone rows entry (codes "x")) (row_alone rows entry (codes "y")) (alone_good is_input rows entry (codes "x") r.xs) (alone_good is_input rows entry (codes "y") r.ys)
part_picked type.Pose rows entry r =
    map_good (λ row. is_known row && is_pose row) has_rows (λ row. part.Pose row) pose_row (first_some (row_named (filter is_pose rows) entry) (row_alone rows entry (codes "pose")))
    (first_good (λ row. is_known row && is_pose row) (row_named (filter is_pose rows) entry) (row_alone rows entry (codes "pose")) (named_good is_pose rows entry r.known) (alone_good is_pose rows entry (codes "pose") r.poses))
part_picked type.Vibration rows entry r = none_good has_rows

output_picked : (wanted : ActionType) (outputs : List (List ℕ)) (entry : List ℕ) → AreGood has_rows (picked_output wanted outputs entry)
output_picked type.Boolean outputs entry p e = cc
output_picked type.Float outputs entry p e = cc
output_picked type.Vector outputs entry p e = cc
output_picked type.Pose outputs entry p e = cc
output_picked type.Vibration outputs entry p e = by (list_any (λ name. bytes_eq entry name) outputs) e
  where
    by : (b : Bool) → (if b then Some part.Output else None) ≡ Some p → has_rows p ≡ true
    by true e = subst (λ q. has_rows q ≡ true) (some_is part.Output p e) refl
    by false e = cc

-- ---- picks

placed_good : (who : User) (entry : List ℕ) (what : Option Part) → AreGood has_rows what → AreGood is_pick (pick_by who entry what)
placed_good who entry None all pick e = cc
placed_good who entry (Some p) all pick e = by (identifier_place (before_slash entry)) refl e
  where
    by : (o : Option ℕ) → identifier_place (before_slash entry) ≡ o → option_map (λ place. (let q : Pick = record { user = who; identifier = place; part = p } in q)) o ≡ Some pick → is_pick pick ≡ true
    by None at e = cc
    by (Some place) at e =
        let within = (position-Some (λ known. bytes_eq (before_slash entry) known) identifiers place [] at).0 in
        let few : nat_lt place 30 ≡ true = grind (arith, nat_tests, within) in
        let q : Pick = record { user = who; identifier = place; part = p } in
        subst (λ z. is_pick z ≡ true) (some_is q pick e) (rw (few, all p refl) refl)

at_good : (which : Profile) (wanted : ActionType) (path : List ℕ) (who : User) → AreGood is_pick (pick_at which wanted path who)
at_good which wanted path who =
    first_good is_pick
    (option_and_then (λ entry. pick_by who entry (picked wanted (rows_at which who) entry)) (behind (user_path who ++ codes "/input/") path))
    (option_and_then (λ entry. pick_by who entry (picked_output wanted (outputs_at which who) entry)) (behind (user_path who ++ codes "/output/") path))
    (then_good is_pick (λ entry. pick_by who entry (picked wanted (rows_at which who) entry)) (λ entry. placed_good who entry (picked wanted (rows_at which who) entry) (part_picked wanted (rows_at which who) entry (rows_of (rows_at which who) (fit_rows which who)))) (behind (user_path who ++ codes "/input/") path))
    (then_good is_pick (λ entry. pick_by who entry (picked_output wanted (outputs_at which who) entry)) (λ entry. placed_good who entry (picked_output wanted (outputs_at which who) entry) (output_picked wanted (outputs_at which who) entry)) (behind (user_path who ++ codes "/output/") path))

among_good : (which : Profile) (wanted : ActionType) (path : List ℕ) (users : List User) → AreGood is_pick (pick_among which wanted path users)
among_good which wanted path [] = none_good is_pick
among_good which wanted path (who ∷ more) = first_good is_pick (pick_at which wanted path who) (pick_among which wanted path more) (at_good which wanted path who) (among_good which wanted path more)

pub picks_are_in_range : PicksAreInRange
picks_are_in_range which wanted path pick e = among_good which wanted path all_users pick e
