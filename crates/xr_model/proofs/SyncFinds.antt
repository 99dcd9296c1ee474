-- What a column finds, by its live bindings: of booleans, floats, vectors and poses.
use Rattle.std.proofs.Common.{◌≡◌, ◌+◌, ◌*◌, ◌&&◌, ◌||◌, ◌++◌, ℕ, zero, suc, ℤ, pos, negsuc, Bool, true, false, List, [], ◌∷◌, map, Option, Some, None, refl, sym, ap, ◌∙◌, subst, arith, true≢false, append_assoc, append-nil, if◌then◌else◌}
use Rattle.std.specs.Prelude.{is_some, nat_lt, nat_le, unsigned_abs, option_and_then, slice_get}
use Rattle.std.specs.List.{list_any, list_all}
use Rattle.std.proofs.lemmas.Bool.Decides.{nat_tests}
use Rattle.std.proofs.lemmas.List.Folds.{list_all-append}
use Rattle.xr_types.specs.declared.input.ActionType.{ActionType}
use Rattle.xr_types.specs.declared.input.ActionType.TheVariants as type
use Rattle.xr_types.specs.declared.input.Found.{Found}
use Rattle.xr_types.specs.declared.input.Inputs.{Inputs}
use Rattle.xr_types.specs.declared.input.Pick.{Pick}
use Rattle.xr_types.specs.declared.input.Ranked.{Ranked}
use Rattle.xr_types.specs.declared.spaces.Origin.{Origin}
use Rattle.xr_types.specs.InputValues.{is_longer, square_of}
use Rattle.xr_model.specs.machine.Sync.{live_in, is_down, amount, axes, pose_of, nothing_found, with_boolean, with_float, with_vector, with_pose, with_kind, found_from}
use Rattle.xr_model.specs.laws.SyncLaws.{is_boolean, is_float, is_vector, is_pose, has_some, IsFirstLargest, BooleansAreDownOnce, FloatsAreLargest, VectorsAreLongest, PosesAreTheFirst}
use Rattle.xr_model.proofs.Rows.{both_of}

abbrev down_of : Inputs → Ranked → Bool
down_of inputs b = is_down inputs b.bound.pick.user b.bound.pick.part

abbrev amount_of : Inputs → Ranked → ℤ
amount_of inputs b = amount inputs b.bound.pick.user b.bound.pick.part

abbrev axes_of : Inputs → Ranked → ℤ × ℤ
axes_of inputs b = axes inputs b.bound.pick.user b.bound.pick.part

abbrev pose_by : Ranked → Option Origin
pose_by b = pose_of b.bound.pick.user b.bound.pick.part

-- ---- booleans

down_once : (any down : Bool) (x : ℤ) → (if any then pos 1 else (if down then pos 1 else x)) ≡ (if down || any then pos 1 else x)
down_once true true x = refl
down_once true false x = refl
down_once false true x = refl
down_once false false x = refl

boolean_kind : (kind : ActionType) (inputs : Inputs) (f : Found) (pick : Pick) (any : Bool) (bs : List Ranked) → is_boolean kind ≡ true
    → ((g : Found) → (found_from inputs g bs).x ≡ (if any then pos 1 else g.x))
    → (found_from inputs (with_kind kind inputs f pick) bs).x ≡ (if is_down inputs pick.user pick.part || any then pos 1 else f.x)
boolean_kind type.Boolean inputs f pick any bs kind more = more (with_boolean f (is_down inputs pick.user pick.part)) ∙ down_once any (is_down inputs pick.user pick.part) f.x
boolean_kind type.Float inputs f pick any bs kind more = absurd (true≢false (sym kind))
boolean_kind type.Vector inputs f pick any bs kind more = absurd (true≢false (sym kind))
boolean_kind type.Pose inputs f pick any bs kind more = absurd (true≢false (sym kind))
boolean_kind type.Vibration inputs f pick any bs kind more = absurd (true≢false (sym kind))

down_from : (inputs : Inputs) (bs : List Ranked) → list_all (λ b. is_boolean b.kind) bs ≡ true → (f : Found) → (found_from inputs f bs).x ≡ (if list_any (down_of inputs) bs then pos 1 else f.x)
down_from inputs [] kinds f = refl
down_from inputs (b ∷ bs) kinds f =
    let both = both_of (is_boolean b.kind) (list_all (λ o. is_boolean o.kind) bs) kinds in
    boolean_kind b.kind inputs f b.bound.pick (list_any (down_of inputs) bs) bs both.0 (down_from inputs bs both.1)

pub booleans_are_down_once : BooleansAreDownOnce
booleans_are_down_once active all inputs place column kinds = down_from inputs (live_in active all place column) kinds nothing_found

-- ---- the first of the largest

abbrev best_from : {T : Type 0} → (T → ℕ) → T → List T → T
best_from size best [] = best
best_from size best (v ∷ vs) = best_from size (if nat_lt (size best) (size v) then v else best) vs

module _ {T : Type 0} (size : T → ℕ) where
  still_smaller : (a b : ℕ) (xs : List T) → nat_lt a b ≡ true → list_all (λ v. nat_lt (size v) a) xs ≡ true → list_all (λ v. nat_lt (size v) b) xs ≡ true
  still_smaller a b [] less all = refl
  still_smaller a b (x ∷ xs) less all =
      let both = both_of (nat_lt (size x) a) (list_all (λ v. nat_lt (size v) a) xs) all in
      let this : nat_lt (size x) b ≡ true = grind (arith, nat_tests, both.0, less) in
      rw (this, still_smaller a b xs less both.1) refl

  now_smaller : (a b : ℕ) (xs : List T) → nat_lt a b ≡ true → list_all (λ v. nat_le (size v) a) xs ≡ true → list_all (λ v. nat_lt (size v) b) xs ≡ true
  now_smaller a b [] less all = refl
  now_smaller a b (x ∷ xs) less all =
      let both = both_of (nat_le (size x) a) (list_all (λ v. nat_le (size v) a) xs) all in
      let this : nat_lt (size x) b ≡ true = grind (arith, nat_tests, both.0, less) in
      rw (this, now_smaller a b xs less both.1) refl

  largest_from : (best : T) (before behind vs : List T) → list_all (λ v. nat_lt (size v) (size best)) before ≡ true → list_all (λ v. nat_le (size v) (size best)) behind ≡ true
      → IsFirstLargest size (best_from size best vs) ((before ++ best ∷ behind) ++ vs)
  largest_from best before behind [] smaller none = record { before = before; behind = behind; are = append-nil _; smaller = smaller; none_larger = none }
  largest_from best before behind (v ∷ vs) smaller none = by (nat_lt (size best) (size v)) refl (λ all. largest_from v (before ++ best ∷ behind) [] vs all refl) (λ all. largest_from best before (behind ++ v ∷ []) vs smaller all)
    where
      by : (b : Bool) → nat_lt (size best) (size v) ≡ b
          → (list_all (λ u. nat_lt (size u) (size v)) (before ++ best ∷ behind) ≡ true → IsFirstLargest size (best_from size v vs) (((before ++ best ∷ behind) ++ v ∷ []) ++ vs))
          → (list_all (λ u. nat_le (size u) (size best)) (behind ++ v ∷ []) ≡ true → IsFirstLargest size (best_from size best vs) ((before ++ best ∷ (behind ++ v ∷ [])) ++ vs))
          → IsFirstLargest size (best_from size (if b then v else best) vs) ((before ++ best ∷ behind) ++ v ∷ vs)
      by true less larger same =
          let all : list_all (λ u. nat_lt (size u) (size v)) (before ++ best ∷ behind) ≡ true =
          list_all-append (λ u. nat_lt (size u) (size v)) before (best ∷ behind) ∙ rw (still_smaller (size best) (size v) before less smaller, less, now_smaller (size best) (size v) behind less none) refl
          in
          subst (λ (l : List T). IsFirstLargest size (best_from size v vs) l) (append_assoc (before ++ best ∷ behind) (v ∷ []) vs) (larger all)
      by false less larger same =
          let this : nat_le (size v) (size best) ≡ true = grind (arith, nat_tests, less) in
          let all : list_all (λ u. nat_le (size u) (size best)) (behind ++ v ∷ []) ≡ true = list_all-append (λ u. nat_le (size u) (size best)) behind (v ∷ []) ∙ rw (none, this) refl in
          let joined : (before ++ best ∷ (behind ++ v ∷ [])) ++ vs ≡ (before ++ best ∷ behind) ++ v ∷ vs =
          ap (λ (l : List T). l ++ vs) (sym (append_assoc before (best ∷ behind) (v ∷ []))) ∙ append_assoc (before ++ best ∷ behind) (v ∷ []) vs
          in
          subst (λ (l : List T). IsFirstLargest size (best_from size best vs) l) joined (same all)

  -- Nothing is smaller than the value that is begun with, and it alone is as small.
  largest_of : (least : T) → size least ≡ 0 → (v : T) (vs : List T) → (size v ≡ 0 → v ≡ least) → IsFirstLargest size (best_from size least (v ∷ vs)) (v ∷ vs)
  largest_of least none v vs alone = by (nat_lt (size least) (size v)) refl
    where
      by : (b : Bool) → nat_lt (size least) (size v) ≡ b → IsFirstLargest size (best_from size (if b then v else least) vs) (v ∷ vs)
      by true less = largest_from v [] [] vs refl refl
      by false less =
          let zero_size : size v ≡ 0 = grind (arith, nat_tests, less, none) in
          subst (λ u. IsFirstLargest size (best_from size u vs) (v ∷ vs)) (alone zero_size) (largest_from v [] [] vs refl refl)

-- ---- floats

float_kind : (kind : ActionType) (inputs : Inputs) (f : Found) (pick : Pick) (vs : List ℤ) (bs : List Ranked) → is_float kind ≡ true
    → ((g : Found) → (found_from inputs g bs).x ≡ best_from unsigned_abs g.x vs)
    → (found_from inputs (with_kind kind inputs f pick) bs).x ≡ best_from unsigned_abs f.x (amount inputs pick.user pick.part ∷ vs)
float_kind type.Boolean inputs f pick vs bs kind more = absurd (true≢false (sym kind))
float_kind type.Float inputs f pick vs bs kind more = more (with_float f (amount inputs pick.user pick.part))
float_kind type.Vector inputs f pick vs bs kind more = absurd (true≢false (sym kind))
float_kind type.Pose inputs f pick vs bs kind more = absurd (true≢false (sym kind))
float_kind type.Vibration inputs f pick vs bs kind more = absurd (true≢false (sym kind))

float_from : (inputs : Inputs) (bs : List Ranked) → list_all (λ b. is_float b.kind) bs ≡ true → (f : Found) → (found_from inputs f bs).x ≡ best_from unsigned_abs f.x (map (amount_of inputs) bs)
float_from inputs [] kinds f = refl
float_from inputs (b ∷ bs) kinds f =
    let both = both_of (is_float b.kind) (list_all (λ o. is_float o.kind) bs) kinds in
    float_kind b.kind inputs f b.bound.pick (map (amount_of inputs) bs) bs both.0 (float_from inputs bs both.1)

no_size : (x : ℤ) → unsigned_abs x ≡ 0 → x ≡ pos 0
no_size (pos n) e = ap pos e
no_size (negsuc n) e = cc

pub floats_are_largest : FloatsAreLargest
floats_are_largest active all inputs place column kinds some = largest (live_in active all place column) kinds some
  where
    largest : (bs : List Ranked) → list_all (λ b. is_float b.kind) bs ≡ true → has_some bs ≡ true → IsFirstLargest unsigned_abs (found_from inputs nothing_found bs).x (map (amount_of inputs) bs)
    largest [] kinds some = absurd (true≢false (sym some))
    largest (b ∷ bs) kinds some =
        subst (λ x. IsFirstLargest unsigned_abs x (map (amount_of inputs) (b ∷ bs))) (sym (float_from inputs (b ∷ bs) kinds nothing_found))
        (largest_of unsigned_abs (pos 0) refl (amount_of inputs b) (map (amount_of inputs) bs) (no_size (amount_of inputs b)))

-- ---- vectors

abbrev pair_of : Found → ℤ × ℤ
pair_of f = (f.x, f.y)

longer_pair : (f : Found) (v : ℤ × ℤ) → pair_of (with_vector f v) ≡ (if is_longer (pair_of f) v then v else pair_of f)
longer_pair f v = by (is_longer (f.x, f.y) v)
  where
    by : (b : Bool) → (let g : Found = if b then record f { active = true; x = v.0; y = v.1 } else record f { active = true } in pair_of g) ≡ (if b then v else pair_of f)
    by true = refl
    by false = refl

vector_kind : (kind : ActionType) (inputs : Inputs) (f : Found) (pick : Pick) (vs : List (ℤ × ℤ)) (bs : List Ranked) → is_vector kind ≡ true
    → ((g : Found) → pair_of (found_from inputs g bs) ≡ best_from square_of (pair_of g) vs)
    → pair_of (found_from inputs (with_kind kind inputs f pick) bs) ≡ best_from square_of (pair_of f) (axes inputs pick.user pick.part ∷ vs)
vector_kind type.Boolean inputs f pick vs bs kind more = absurd (true≢false (sym kind))
vector_kind type.Float inputs f pick vs bs kind more = absurd (true≢false (sym kind))
vector_kind type.Vector inputs f pick vs bs kind more =
    more (with_vector f (axes inputs pick.user pick.part)) ∙ ap (λ best. best_from square_of best vs) (longer_pair f (axes inputs pick.user pick.part))
vector_kind type.Pose inputs f pick vs bs kind more = absurd (true≢false (sym kind))
vector_kind type.Vibration inputs f pick vs bs kind more = absurd (true≢false (sym kind))

vector_from : (inputs : Inputs) (bs : List Ranked) → list_all (λ b. is_vector b.kind) bs ≡ true → (f : Found) → pair_of (found_from inputs f bs) ≡ best_from square_of (pair_of f) (map (axes_of inputs) bs)
vector_from inputs [] kinds f = refl
vector_from inputs (b ∷ bs) kinds f =
    let both = both_of (is_vector b.kind) (list_all (λ o. is_vector o.kind) bs) kinds in
    vector_kind b.kind inputs f b.bound.pick (map (axes_of inputs) bs) bs both.0 (vector_from inputs bs both.1)

no_square : (n : ℕ) → n * n ≡ 0 → n ≡ 0
no_square zero e = refl
no_square (suc n) e = omega (arith, e)

no_sum : (a b : ℕ) → a + b ≡ 0 → (a ≡ 0) × (b ≡ 0)
no_sum a b e = (omega (arith, e), omega (arith, e))

no_length : (v : ℤ × ℤ) → square_of v ≡ 0 → v ≡ (pos 0, pos 0)
no_length (x, y) e =
    let both = no_sum (unsigned_abs x * unsigned_abs x) (unsigned_abs y * unsigned_abs y) e in
    rw (no_size x (no_square (unsigned_abs x) both.0), no_size y (no_square (unsigned_abs y) both.1)) refl

pub vectors_are_longest : VectorsAreLongest
vectors_are_longest active all inputs place column kinds some = longest (live_in active all place column) kinds some
  where
    longest : (bs : List Ranked) → list_all (λ b. is_vector b.kind) bs ≡ true → has_some bs ≡ true → IsFirstLargest square_of (pair_of (found_from inputs nothing_found bs)) (map (axes_of inputs) bs)
    longest [] kinds some = absurd (true≢false (sym some))
    longest (b ∷ bs) kinds some =
        subst (λ (v : ℤ × ℤ). IsFirstLargest square_of v (map (axes_of inputs) (b ∷ bs))) (sym (vector_from inputs (b ∷ bs) kinds nothing_found))
        (largest_of square_of (pos 0, pos 0) refl (axes_of inputs b) (map (axes_of inputs) bs) (no_length (axes_of inputs b)))

-- ---- poses

pose_kind : (kind : ActionType) (inputs : Inputs) (f : Found) (pick : Pick) (bs : List Ranked) (here : Option Origin) → is_pose kind ≡ true
    → (with_pose f (pose_of pick.user pick.part)).origin ≡ here
    → ((g : Found) → g.origin ≡ here → (found_from inputs g bs).origin ≡ here)
    → (found_from inputs (with_kind kind inputs f pick) bs).origin ≡ here
pose_kind type.Boolean inputs f pick bs here kind first more = absurd (true≢false (sym kind))
pose_kind type.Float inputs f pick bs here kind first more = absurd (true≢false (sym kind))
pose_kind type.Vector inputs f pick bs here kind first more = absurd (true≢false (sym kind))
pose_kind type.Pose inputs f pick bs here kind first more = more (with_pose f (pose_of pick.user pick.part)) first
pose_kind type.Vibration inputs f pick bs here kind first more = absurd (true≢false (sym kind))

pose_stays : (inputs : Inputs) (o : Origin) (bs : List Ranked) → list_all (λ b. is_pose b.kind && is_some (pose_by b)) bs ≡ true → (f : Found) → f.origin ≡ Some o → (found_from inputs f bs).origin ≡ Some o
pose_stays inputs o [] kinds f first = first
pose_stays inputs o (b ∷ bs) kinds f first =
    let both = both_of (is_pose b.kind && is_some (pose_by b)) (list_all (λ c. is_pose c.kind && is_some (pose_by c)) bs) kinds in
    pose_kind b.kind inputs f b.bound.pick bs (Some o) (both_of (is_pose b.kind) (is_some (pose_by b)) both.0).0 (rw first refl) (pose_stays inputs o bs both.1)

pub poses_are_the_first : PosesAreTheFirst
poses_are_the_first active all inputs place column kinds = first (live_in active all place column) kinds
  where
    first : (bs : List Ranked) → list_all (λ b. is_pose b.kind && is_some (pose_by b)) bs ≡ true → (found_from inputs nothing_found bs).origin ≡ option_and_then pose_by (slice_get bs 0)
    first [] kinds = refl
    first (b ∷ bs) kinds = by (pose_by b) refl
      where
        both : (is_pose b.kind && is_some (pose_by b) ≡ true) × (list_all (λ c. is_pose c.kind && is_some (pose_by c)) bs ≡ true)
        both = both_of (is_pose b.kind && is_some (pose_by b)) (list_all (λ c. is_pose c.kind && is_some (pose_by c)) bs) kinds

        this : (is_pose b.kind ≡ true) × (is_some (pose_by b) ≡ true)
        this = both_of (is_pose b.kind) (is_some (pose_by b)) both.0

        by : (o : Option Origin) → pose_by b ≡ o → (found_from inputs nothing_found (b ∷ bs)).origin ≡ pose_by b
        by None e = absurd (true≢false (sym this.1 ∙ rw e refl))
        by (Some o) e = pose_kind b.kind inputs nothing_found b.bound.pick bs (Some o) this.0 e (pose_stays inputs o bs both.1) ∙ sym e
