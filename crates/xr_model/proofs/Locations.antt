-- What a new space is, and what a location tells.
use Rattle.std.proofs.Common.{◌≡◌, ◌≢◌, ◌+◌, ◌==◌, ◌++◌, inl, inr, ℕ, Bool, true, false, not, List, [], ◌∷◌, Option, Some, None, pos, unwrap_or, refl, sym, ap, subst, ◌∙◌, true≢false}
use Rattle.std.specs.Prelude.{codes, int_le, is_none, is_some, option_and_then, if◌then◌else◌}
use Rattle.xr_types.specs.Code.{is_success}
use Rattle.xr_types.specs.Printed.{kind_name, origin_name, user_path}
use Rattle.xr_types.specs.Users.{user_place}
use Rattle.xr_types.specs.declared.code.Code.TheVariants.{ActionTypeMismatch, PathUnsupported, PoseInvalid, TimeInvalid}
use Rattle.xr_types.specs.declared.calls.Call.{Call}
use Rattle.xr_types.specs.declared.calls.Call.TheVariants as ask
use Rattle.xr_types.specs.declared.calls.Gives.TheVariants as gives
use Rattle.xr_types.specs.declared.handles.Kind.TheVariants as kind
use Rattle.xr_types.specs.declared.input.User.{User}
use Rattle.xr_types.specs.declared.input.User.TheVariants as user
use Rattle.xr_types.specs.declared.spaces.Location.{Location}
use Rattle.xr_types.specs.declared.spaces.Location.TheVariants.{Missing}
use Rattle.xr_types.specs.declared.spaces.Origin.{Origin}
use Rattle.xr_types.specs.declared.spaces.Origin.TheVariants as origin
use Rattle.xr_types.specs.declared.spaces.RefKind.{RefKind}
use Rattle.xr_types.specs.declared.spaces.RefKind.TheVariants as ref
use Rattle.xr_types.specs.declared.spaces.Root.{Root}
use Rattle.xr_types.specs.declared.spaces.Root.TheVariants.{Fixed}
use Rattle.xr_model.specs.machine.Calls.{Entry}
use Rattle.xr_model.specs.machine.Handles.{no_room, was_given}
use Rattle.xr_model.specs.machine.Refusals.{when}
use Rattle.xr_model.specs.machine.Rules.Sets.{user_at}
use Rattle.xr_model.specs.machine.Rules.Sync.{action_root, column_named, is_of_poses}
use Rattle.xr_model.specs.machine.Sets.{action_declares}
use Rattle.xr_model.specs.machine.Spaces.{Space, space_at, origin_of_kind, factors, location, located, pose_at, pose_of, samples_of}
use Rattle.xr_model.specs.machine.State.{CoreState, Settings, State, opening}
use Rattle.xr_model.specs.machine.Machine.{IsAllowed, IsGiven, reads_of, rule, step}
use Rattle.xr_model.specs.machine.History.{after, opening_clocks, IsLegal}
use Rattle.xr_model.specs.laws.LocationLaws.{ReferenceSpacesAreAsAsked, IsColumnOf, MovesWithColumn, ActionSpacesFollowTheirColumns, ReferenceSpacesHaveTheirOrigins, PosesFollowColumns, IsLocated, LocationsAreFactors, shown_at}
use Rattle.xr_model.proofs.ChainOrder.{chains_history, given_nonzero, new_given}
use Rattle.xr_model.proofs.DestroyedForGood.{legal_behind}
use Rattle.xr_model.proofs.FrameCalls.{where_done}
use Rattle.xr_model.proofs.FrameOrder.{clear, none_first}
use Rattle.xr_model.proofs.Histories.{fronts_are_legal}
use Rattle.xr_model.proofs.Lists.{all_kept}
use Rattle.xr_model.proofs.Rows.{itself, same_key}
use Rattle.xr_model.specs.machine.Rules.Spaces.{session_above}

-- ---- new spaces

-- what isn't found in a list is found behind it
found_new : (xs : List Space) (new : Space) → is_some (space_at xs new.handle) ≡ false → space_at (xs ++ new ∷ []) new.handle ≡ Some new
found_new [] new none = rw (itself new.handle) refl
found_new (x ∷ xs) new none = by (x.handle == new.handle) none (found_new xs new)
  where
    by : (b : Bool) → is_some (if b then Some x else space_at xs new.handle) ≡ false → (is_some (space_at xs new.handle) ≡ false → space_at (xs ++ new ∷ []) new.handle ≡ Some new)
        → (if b then Some x else space_at (xs ++ new ∷ []) new.handle) ≡ Some new
    by true none more = absurd (true≢false none)
    by false none more = more none

-- a handle that may be given is that of no space
module _ (settings : Settings) (es : List Entry) (g : ℕ) (legal : IsLegal settings es) where
  abbrev now : CoreState
  now = (after (opening settings) es).core

  fresh_space : g ≢ 0 → was_given now.handles g ≡ false → is_some (space_at now.room.spaces g) ≡ false
  fresh_space some new =
      let nz = given_nonzero g some in
      (all_kept settings es legal).spaces g ∙ rw (nz, ((chains_history settings es legal).known g nz new).spaces) refl

module _ (settings : Settings) (es : List Entry) (e : Entry) (legal : IsLegal settings (es ++ e ∷ [])) where
  abbrev s : State
  s = after (opening settings) es

  front : IsLegal settings es
  front = fronts_are_legal (opening settings) (opening_clocks settings) es (e ∷ []) legal

  allowed : IsAllowed s e
  allowed = (legal_behind (opening settings) (opening_clocks settings) es (e ∷ []) legal).0

  -- the space that a successful creation gives
  created : (b : Bool) → IsGiven b s.core.handles e.given → b ≡ true → (root : Root) (offset : ℕ)
      → space_at (s.core.room.spaces ++ record { handle = e.given; root = Some root; offset = offset } ∷ []) e.given ≡ Some (record { handle = e.given; root = Some root; offset = offset })
  created b is good root offset =
      let given = new_given b s.core.handles e.given good is in
      found_new s.core.room.spaces (record { handle = e.given; root = Some root; offset = offset }) (fresh_space settings es e.given front given.0 given.1)

  reference : (session : ℕ) (what : RefKind) (offset : ℕ) → e.call ≡ ask.CreateReferenceSpace session what offset → is_success (step s e).1.reply.code ≡ true
      → space_at (step s e).0.core.room.spaces e.given ≡ Some (record { handle = e.given; root = Some (Fixed what); offset = offset })
  reference session what offset is good = subst Made (sym is) made (subst (λ (r : Call). IsAllowed s (record e { call = r })) is allowed) (subst (λ (r : Call). is_success (step s (record e { call = r })).1.reply.code ≡ true) is good)
    where
      Made : Call → Type 0
      Made r = IsAllowed s (record e { call = ask.CreateReferenceSpace session what offset }) → is_success (step s (record e { call = ask.CreateReferenceSpace session what offset })).1.reply.code ≡ true
          → space_at (step s (record e { call = r })).0.core.room.spaces e.given ≡ Some (record { handle = e.given; root = Some (Fixed what); offset = offset })

      made : Made (ask.CreateReferenceSpace session what offset)
      made may well =
          let f = rule s.core (reads_of s (ask.CreateReferenceSpace session what offset)) (record e { call = ask.CreateReferenceSpace session what offset }) in
          where_done (λ x. space_at x.state.room.spaces e.given ≡ Some (record { handle = e.given; root = Some (Fixed what); offset = offset })) s.core f e.short refl
          (λ none. created (is_success (step s (record e { call = ask.CreateReferenceSpace session what offset })).1.reply.code) may.handle well (Fixed what) offset) well

  -- the column that was asked for
  column_of : (action sub : ℕ) → is_none (column_named s.core action sub) ≡ false → IsColumnOf s.core.atoms sub (unwrap_or (column_named s.core action sub) 0)
  column_of action sub some = by (sub == 0) refl (user_at s.core.atoms sub) refl some
    where
      declared : (who : User) → user_at s.core.atoms sub ≡ Some who → (b : Bool) → is_none (if b then Some (user_place who + 1) else None) ≡ false
          → IsColumnOf s.core.atoms sub (unwrap_or (if b then Some (user_place who + 1) else None) 0)
      declared who is true some = inr (who, is, refl)
      declared who is false some = absurd (true≢false some)

      by : (z : Bool) → (sub == 0) ≡ z → (o : Option User) → user_at s.core.atoms sub ≡ o
          → is_none (if z then Some 0 else option_and_then (λ who. if action_declares s.core.inputs action who then Some (user_place who + 1) else None) o) ≡ false
          → IsColumnOf s.core.atoms sub (unwrap_or (if z then Some 0 else option_and_then (λ who. if action_declares s.core.inputs action who then Some (user_place who + 1) else None) o) 0)
      by true ez o eo some = inl (same_key sub 0 ez, refl)
      by false ez None eo some = absurd (true≢false some)
      by false ez (Some who) eo some = declared who eo (action_declares s.core.inputs action who) some

  action_space : (session action sub offset : ℕ) → e.call ≡ ask.CreateActionSpace session action sub offset → is_success (step s e).1.reply.code ≡ true
      → MovesWithColumn s.core action sub offset e.given (step s e).0.core.room.spaces
  action_space session action sub offset is good = subst Made (sym is) made (subst (λ (r : Call). IsAllowed s (record e { call = r })) is allowed) (subst (λ (r : Call). is_success (step s (record e { call = r })).1.reply.code ≡ true) is good)
    where
      Made : Call → Type 0
      Made r = IsAllowed s (record e { call = ask.CreateActionSpace session action sub offset }) → is_success (step s (record e { call = ask.CreateActionSpace session action sub offset })).1.reply.code ≡ true
          → MovesWithColumn s.core action sub offset e.given (step s (record e { call = r })).0.core.room.spaces

      made : Made (ask.CreateActionSpace session action sub offset)
      made may well =
          let f = rule s.core (reads_of s (ask.CreateActionSpace session action sub offset)) (record e { call = ask.CreateActionSpace session action sub offset }) in
          where_done (λ x. MovesWithColumn s.core action sub offset e.given x.state.room.spaces) s.core f e.short refl
          (λ none.
          let one = none_first (not (is_of_poses s.core action)) ActionTypeMismatch (when (is_none (column_named s.core action sub)) PathUnsupported ∷ when (offset == 0) PoseInvalid ∷ no_room s.core.handles kind.Space ∷ []) (clear f e.short none).behind in
          let two = none_first (is_none (column_named s.core action sub)) PathUnsupported (when (offset == 0) PoseInvalid ∷ no_room s.core.handles kind.Space ∷ []) one.1 in
          record {
            column = unwrap_or (column_named s.core action sub) 0;
            asked = column_of action sub two.0;
            there = created (is_success (step s (record e { call = ask.CreateActionSpace session action sub offset })).1.reply.code) may.handle well (action_root s.core action sub) offset;
          }) well

pub reference_spaces_are_as_asked : ReferenceSpacesAreAsAsked
reference_spaces_are_as_asked settings es e session what offset legal is good = reference settings es e legal session what offset is good

pub action_spaces_follow_their_columns : ActionSpacesFollowTheirColumns
action_spaces_follow_their_columns settings es e session action sub offset legal is good = action_space settings es e legal session action sub offset is good

-- ---- locations

pub poses_follow_columns : PosesFollowColumns
poses_follow_columns s session time x place column c root at = rw (root, at) (by c.active)
  where
    by : (b : Bool) → option_and_then (λ o. pose_at time (samples_of s.room.samples o)) (if b then c.origin else None)
        ≡ (if b then option_and_then (λ o. pose_at time (samples_of s.room.samples o)) c.origin else None)
    by true = refl
    by false = refl

abbrev starts : List ℕ → Bool
starts [] = false
starts (b ∷ bs) = b == 47

differ : (n m : ℕ) → (n == m) ≡ false → n ≡ m → ⊥
differ n m e same = true≢false (sym (itself m) ∙ subst (λ (k : ℕ). (k == m) ≡ false) same e)

-- a path is the name of no kind
no_path : (who : User) (tail : List ℕ) (what : RefKind) → user_path who ++ tail ≡ kind_name what → ⊥
no_path who tail what e = true≢false (sym (slash who) ∙ ap starts e ∙ none what)
  where
    slash : (w : User) → starts (user_path w ++ tail) ≡ true
    slash user.Left = refl
    slash user.Right = refl
    slash user.Head = refl
    slash user.Gamepad = refl
    slash user.Treadmill = refl

    none : (k : RefKind) → starts (kind_name k) ≡ false
    none ref.View = refl
    none ref.Local = refl
    none ref.Stage = refl

abbrev letter : List ℕ → ℕ
letter [] = 0
letter (b ∷ bs) = b

-- no two names of kinds and origins are one
kind_named : (what : RefKind) (o : Origin) → origin_name o ≡ kind_name what → origin_of_kind what ≡ o
kind_named ref.View origin.View e = refl
kind_named ref.Local origin.Local e = refl
kind_named ref.Stage origin.Stage e = refl
kind_named ref.View origin.Local e = absurd (differ 108 118 refl (ap letter e))
kind_named ref.View origin.Stage e = absurd (differ 115 118 refl (ap letter e))
kind_named ref.Local origin.View e = absurd (differ 118 108 refl (ap letter e))
kind_named ref.Local origin.Stage e = absurd (differ 115 108 refl (ap letter e))
kind_named ref.Stage origin.View e = absurd (differ 118 115 refl (ap letter e))
kind_named ref.Stage origin.Local e = absurd (differ 108 115 refl (ap letter e))
kind_named what (origin.Grip who) e = absurd (no_path who (codes "/input/grip/pose") what e)
kind_named what (origin.Aim who) e = absurd (no_path who (codes "/input/aim/pose") what e)

pub reference_spaces_have_their_origins : ReferenceSpacesHaveTheirOrigins
reference_spaces_have_their_origins s session time x what o root e = rw root (ap (λ (p : Origin). pose_at time (samples_of s.room.samples p)) (kind_named what o e))

is_located : (x base : Space) (pose base_pose : Option ℕ) → IsLocated x base pose base_pose (factors x base pose base_pose)
is_located x base (Some a) (Some b) = (refl, refl, refl, refl)
is_located x base None b = inl refl
is_located x base (Some a) None = inr refl

same_location : (a b : Location) → gives.Location a ≡ gives.Location b → a ≡ b
same_location a b same = cc

pub locations_are_factors : LocationsAreFactors
locations_are_factors s e space base time x b l is = subst Locates (sym is) located_so
  where
    Locates : Call → Type 0
    Locates r = is_success (step s (record e { call = r })).1.reply.code ≡ true → space_at s.core.room.spaces space ≡ Some x → space_at s.core.room.spaces base ≡ Some b
        → (step s (record e { call = r })).1.reply.gives ≡ gives.Location l
        → IsLocated x b (pose_of s.core.room (shown_at s.core (session_above s.core.handles space)) time x) (pose_of s.core.room (shown_at s.core (session_above s.core.handles space)) time b) l

    located_so : Locates (ask.LocateSpace space base time)
    located_so good at base_at same =
        let f = rule s.core (reads_of s (ask.LocateSpace space base time)) (record e { call = ask.LocateSpace space base time }) in
        where_done (λ y. y.gives ≡ gives.Location l → IsLocated x b (pose_of s.core.room (shown_at s.core (session_above s.core.handles space)) time x) (pose_of s.core.room (shown_at s.core (session_above s.core.handles space)) time b) l) s.core f e.short refl
        (λ none told.
        let early = (none_first (int_le time (pos 0)) TimeInvalid [] (clear f e.short none).behind).0 in
        let is_it : located s.core.room (shown_at s.core (session_above s.core.handles space)) space base time ≡ Some (location s.core.room (shown_at s.core (session_above s.core.handles space)) time x b) = rw (early, at, base_at) refl in
        let same_one = same_location _ l (ap (λ (o : Option Location). gives.Location (unwrap_or o Missing)) (sym is_it) ∙ told) in
        subst (λ (m : Location). IsLocated x b (pose_of s.core.room (shown_at s.core (session_above s.core.handles space)) time x) (pose_of s.core.room (shown_at s.core (session_above s.core.handles space)) time b) m) same_one
        (is_located x b (pose_of s.core.room (shown_at s.core (session_above s.core.handles space)) time x) (pose_of s.core.room (shown_at s.core (session_above s.core.handles space)) time b))) good same
