-- The bindings of a sync: that they are the suggestions for the connected profiles, and which place and priority each has.
use Rattle.std.proofs.Common.{◌≡◌, ◌+◌, ◌==◌, ◌&&◌, ◌||◌, ◌++◌, ℕ, zero, suc, Bool, true, false, List, [], ◌∷◌, Option, Some, None, option_map, map, slice_get, append-nil, refl, sym, ap, subst, ◌∙◌, arith, true≢false}
use Rattle.std.specs.Prelude.{flat_map, is_some, option_and_then, unwrap_or, if◌then◌else◌}
use Rattle.std.specs.List.{filter, list_all, position_from}
use Rattle.xr_types.specs.Printed.{all_users}
use Rattle.xr_types.specs.Users.{user_place}
use Rattle.xr_types.specs.declared.handles.Kind.TheVariants as kind
use Rattle.xr_types.specs.declared.handles.Slot.{Slot}
use Rattle.xr_types.specs.declared.input.Bound.{Bound}
use Rattle.xr_types.specs.declared.input.Profile.{Profile}
use Rattle.xr_types.specs.declared.input.Ranked.{Ranked}
use Rattle.xr_types.specs.declared.input.User.{User}
use Rattle.xr_types.specs.declared.input.User.TheVariants as user
use Rattle.xr_model.specs.machine.Bindings.{suggestions_of}
use Rattle.xr_model.specs.machine.Handles.{has}
use Rattle.xr_model.specs.machine.HandlePlaces.{place_among}
use Rattle.xr_model.specs.machine.Rules.Sync.{ranked, ranked_by, suggested_at, connected_at, bindings_of}
use Rattle.xr_model.specs.machine.Sets as sets
use Rattle.xr_model.specs.machine.Sets.{Set, action_at, set_at, set_priority}
use Rattle.xr_model.specs.machine.State.{CoreState, Settings, opening}
use Rattle.xr_model.specs.machine.Calls.{Entry}
use Rattle.xr_model.specs.machine.History.{after, IsLegal}
use Rattle.xr_model.specs.laws.SyncedLaws.{bindings_at, BindingsAreTheSuggestions, IsRanked, BindingsAreRanked}
use Rattle.xr_model.proofs.ChainPlaces.{same_some}
use Rattle.xr_model.proofs.DestroyingTakes.{under_parent}
use Rattle.xr_model.proofs.GetterColumns.{position_got}
use Rattle.xr_model.proofs.HeardBindings.{among_each}
use Rattle.xr_model.proofs.Lists.{all_kept, listed_live}
use Rattle.xr_model.proofs.Orphans.{no_orphans}
use Rattle.xr_model.proofs.Rows.{both_of, same_key}
use Rattle.xr_model.proofs.SyncedColumns.{filters_twice}

-- ---- filters

filter_joined : {T : Type 0} (p : T → Bool) (xs ys : List T) → filter p (xs ++ ys) ≡ filter p xs ++ filter p ys
filter_joined p [] ys = refl
filter_joined p (x ∷ xs) ys = by (p x) (filter_joined p xs ys)
  where
    by : (b : Bool) → filter p (xs ++ ys) ≡ filter p xs ++ filter p ys → (if b then x ∷ filter p (xs ++ ys) else filter p (xs ++ ys)) ≡ (if b then x ∷ filter p xs else filter p xs) ++ filter p ys
    by true more = ap (λ l. x ∷ l) more
    by false more = more

map_joined : {S T : Type 0} (f : S → T) (xs ys : List S) → map f (xs ++ ys) ≡ map f xs ++ map f ys
map_joined f [] ys = refl
map_joined f (x ∷ xs) ys = ap (λ l. f x ∷ l) (map_joined f xs ys)

all_pass : {T : Type 0} (p : T → Bool) (xs : List T) → list_all p (filter p xs) ≡ true
all_pass p [] = refl
all_pass p (x ∷ xs) = by (p x) refl (all_pass p xs)
  where
    by : (b : Bool) → p x ≡ b → list_all p (filter p xs) ≡ true → list_all p (if b then x ∷ filter p xs else filter p xs) ≡ true
    by true eb more = rw (eb, more) refl
    by false eb more = more

-- ---- the bindings at a user path

module _ (s : CoreState) where
  abbrev own : User → Ranked → Bool
  own who r = user_place r.bound.pick.user == user_place who

  abbrev at_users : User → List Ranked
  at_users who = flat_map (ranked s.inputs s.handles) (connected_at s who)

  -- a suggestion has the user path that it was made for
  ranked_own : (who : User) (b : Bound) → filter (own who) (ranked s.inputs s.handles b) ≡ (if user_place b.pick.user == user_place who then ranked s.inputs s.handles b else [])
  ranked_own who b = by (action_at s.inputs b.action) (user_place b.pick.user == user_place who) refl
    where
      by : (o : Option sets.Action) (c : Bool) → (user_place b.pick.user == user_place who) ≡ c
          → filter (own who) (unwrap_or (option_map (λ x. ranked_by s.inputs s.handles x b ∷ []) o) []) ≡ (if c then unwrap_or (option_map (λ x. ranked_by s.inputs s.handles x b ∷ []) o) [] else [])
      by None true ec = refl
      by None false ec = refl
      by (Some x) true ec = rw ec refl
      by (Some x) false ec = rw ec refl

  -- those of one user path are its own, and none is another's
  user_own : (who w : User) (bs : List Bound) → list_all (λ b. user_place b.pick.user == user_place w) bs ≡ true
      → filter (own who) (flat_map (ranked s.inputs s.handles) bs) ≡ (if user_place w == user_place who then flat_map (ranked s.inputs s.handles) bs else [])
  user_own who w [] all = by (user_place w == user_place who)
    where
      by : (c : Bool) → [] ≡ (if c then flat_map (ranked s.inputs s.handles) [] else [])
      by true = refl
      by false = refl
  user_own who w (b ∷ bs) all =
      let two = both_of (user_place b.pick.user == user_place w) (list_all (λ x. user_place x.pick.user == user_place w) bs) all in
      filter_joined (own who) (ranked s.inputs s.handles b) (flat_map (ranked s.inputs s.handles) bs)
      ∙ by (user_place w == user_place who) (ranked_own who b ∙ ap (λ (n : ℕ). if n == user_place who then ranked s.inputs s.handles b else []) (same_key (user_place b.pick.user) (user_place w) two.0)) (user_own who w bs two.1)
    where
      by : (c : Bool) → filter (own who) (ranked s.inputs s.handles b) ≡ (if c then ranked s.inputs s.handles b else [])
          → filter (own who) (flat_map (ranked s.inputs s.handles) bs) ≡ (if c then flat_map (ranked s.inputs s.handles) bs else [])
          → filter (own who) (ranked s.inputs s.handles b) ++ filter (own who) (flat_map (ranked s.inputs s.handles) bs) ≡ (if c then flat_map (ranked s.inputs s.handles) (b ∷ bs) else [])
      by true here more = rw (here, more) refl
      by false here more = rw (here, more) refl

  connected_own : (w : User) → list_all (λ b. user_place b.pick.user == user_place w) (connected_at s w) ≡ true
  connected_own w = by (option_and_then (λ p. p) (slice_get s.device.profiles (user_place w)))
    where
      by : (o : Option Profile) → list_all (λ b. user_place b.pick.user == user_place w) (suggested_at s.suggestions w o) ≡ true
      by None = refl
      by (Some which) = all_pass (λ b. user_place b.pick.user == user_place w) (suggestions_of s.suggestions which)

  users_own : (who : User) (users : List User) → filter (own who) (flat_map at_users users) ≡ flat_map (λ w. if user_place w == user_place who then at_users w else []) users
  users_own who [] = refl
  users_own who (w ∷ users) =
      filter_joined (own who) (at_users w) (flat_map at_users users)
      ∙ ap (λ (l : List Ranked). l ++ filter (own who) (flat_map at_users users)) (user_own who w (connected_at s w) (connected_own w))
      ∙ ap (λ (l : List Ranked). (if user_place w == user_place who then at_users w else []) ++ l) (users_own who users)

  own_are : (who : User) → bindings_at s who ≡ at_users who
  own_are who = users_own who all_users ∙ by who
    where
      by : (w : User) → flat_map (λ v. if user_place v == user_place w then at_users v else []) all_users ≡ at_users w
      by user.Left = append-nil (at_users user.Left)
      by user.Right = append-nil (at_users user.Right)
      by user.Head = append-nil (at_users user.Head)
      by user.Gamepad = append-nil (at_users user.Gamepad)
      by user.Treadmill = append-nil (at_users user.Treadmill)

  -- of each listed action, and of no other
  bounds_are : (bs : List Bound) → map (λ (r : Ranked). r.bound) (flat_map (ranked s.inputs s.handles) bs) ≡ filter (λ b. is_some (action_at s.inputs b.action)) bs
  bounds_are [] = refl
  bounds_are (b ∷ bs) = map_joined (λ (r : Ranked). r.bound) (ranked s.inputs s.handles b) (flat_map (ranked s.inputs s.handles) bs) ∙ by (action_at s.inputs b.action) (bounds_are bs)
    where
      by : (o : Option sets.Action) → map (λ (r : Ranked). r.bound) (flat_map (ranked s.inputs s.handles) bs) ≡ filter (λ x. is_some (action_at s.inputs x.action)) bs
          → map (λ (r : Ranked). r.bound) (unwrap_or (option_map (λ x. ranked_by s.inputs s.handles x b ∷ []) o) []) ++ map (λ (r : Ranked). r.bound) (flat_map (ranked s.inputs s.handles) bs)
          ≡ (if is_some o then b ∷ filter (λ x. is_some (action_at s.inputs x.action)) bs else filter (λ x. is_some (action_at s.inputs x.action)) bs)
      by None more = more
      by (Some x) more = ap (λ (l : List Bound). b ∷ l) more

pub bindings_are_the_suggestions : BindingsAreTheSuggestions
bindings_are_the_suggestions s = record {
  own = λ who which connected.
      ap (map (λ (r : Ranked). r.bound)) (own_are s who) ∙ bounds_are s (connected_at s who)
      ∙ ap (λ (o : Option (Option Profile)). filter (λ b. is_some (action_at s.inputs b.action)) (suggested_at s.suggestions who (option_and_then (λ p. p) o))) connected
      ∙ filters_twice (λ b. user_place b.pick.user == user_place who) (λ b. is_some (action_at s.inputs b.action)) (λ b. (user_place b.pick.user == user_place who) && is_some (action_at s.inputs b.action)) (λ b. refl) (suggestions_of s.suggestions which);
  all =
      rw (own_are s user.Left, own_are s user.Right, own_are s user.Head, own_are s user.Gamepad, own_are s user.Treadmill)
      (ap (λ (l : List Ranked). at_users s user.Left ++ (at_users s user.Right ++ (at_users s user.Head ++ (at_users s user.Gamepad ++ l)))) (append-nil (at_users s user.Treadmill)));
}

-- ---- places and priorities

-- a binding is a suggestion with what is known of its action
record IsMade (s : CoreState) (r : Ranked) : Type 0 where
  action : sets.Action
  listed : action_at s.inputs r.bound.action ≡ Some action
  made : ranked_by s.inputs s.handles action r.bound ≡ r

all_made : (s : CoreState) (k : ℕ) (r : Ranked) → slice_get (bindings_of s) k ≡ Some r → IsMade s r
all_made s k r found = search (of_users)
  where
    by : (b : Bound) (o : Option sets.Action) → action_at s.inputs b.action ≡ o → (k : ℕ) (r : Ranked) → slice_get (unwrap_or (option_map (λ x. ranked_by s.inputs s.handles x b ∷ []) o) []) k ≡ Some r → IsMade s r
    by b None eo k r found = cc
    by b (Some x) eo zero r found = subst (IsMade s) (same_some (ranked_by s.inputs s.handles x b) r found) (record { action = x; listed = eo; made = refl })
    by b (Some x) eo (suc k) r found = cc

    at_user : (who : User) (k : ℕ) (r : Ranked) → slice_get (flat_map (ranked s.inputs s.handles) (connected_at s who)) k ≡ Some r → IsMade s r
    at_user who = among_each (IsMade s) (ranked s.inputs s.handles) (connected_at s who) (λ m b there. by b (action_at s.inputs b.action) refl)

    of_users : (users : List User) (k : ℕ) (r : Ranked) → slice_get (flat_map (λ who. flat_map (ranked s.inputs s.handles) (connected_at s who)) users) k ≡ Some r → IsMade s r
    of_users users = among_each (IsMade s) (λ who. flat_map (ranked s.inputs s.handles) (connected_at s who)) users (λ n who there. at_user who)

-- what is in a row has a place there
some_place : (row : List Slot) (handle n : ℕ) → has row handle ≡ true → (i : ℕ) × (position_from (λ x. x.handle == handle) n row ≡ Some i)
some_place [] handle n there = absurd (true≢false (sym there))
some_place (x ∷ row) handle n there = by (x.handle == handle) there (some_place row handle (n + 1))
  where
    by : (b : Bool) → b || has row handle ≡ true → (has row handle ≡ true → (i : ℕ) × (position_from (λ y. y.handle == handle) (n + 1) row ≡ Some i))
        → (i : ℕ) × ((if b then Some n else position_from (λ y. y.handle == handle) (n + 1) row) ≡ Some i)
    by true there more = (n, refl)
    by false there more = more there

module _ (settings : Settings) (es : List Entry) (legal : IsLegal settings es) where
  abbrev s : CoreState
  s = (after (opening settings) es).core

  -- the set of a listed action is listed
  set_listed : (k : ℕ) (x : sets.Action) → action_at s.inputs k ≡ Some x → is_some (set_at s.inputs x.set) ≡ true
  set_listed k x found =
      let kept = all_kept settings es legal in
      let here = listed_live s.handles _ _ _ kept k x found in
      let over = under_parent s.handles.sets s.handles.actions k here.0 (no_orphans settings es).actions here.1 in
      let above = kept.above k x found in
      let nz : (x.set == 0) ≡ false = subst (λ (n : ℕ). (n == 0) ≡ false) above over.0 in
      let there : has s.handles.sets x.set ≡ true = subst (λ (n : ℕ). has s.handles.sets n ≡ true) above over.1 in
      kept.sets x.set ∙ rw (nz, there) refl

  is_ranked : (b : Ranked) → IsMade s b → IsRanked s b
  is_ranked b is = subst (IsRanked s) is.made (by (set_at s.inputs is.action.set) refl (set_listed b.bound.action is.action is.listed))
    where
      x : sets.Action
      x = is.action

      live : ((b.bound.action == 0) ≡ false) × (has s.handles.actions b.bound.action ≡ true)
      live = listed_live s.handles _ _ _ (all_kept settings es legal) b.bound.action is.action is.listed

      by : (o : Option Set) → set_at s.inputs is.action.set ≡ o → is_some o ≡ true → IsRanked s (ranked_by s.inputs s.handles is.action b.bound)
      by None eo some = absurd (true≢false (sym some))
      by (Some set) eo some =
          let at = some_place s.handles.actions b.bound.action 0 live.1 in
          let got = position_got (λ (y : Slot). y.handle == b.bound.action) s.handles.actions 0 at.0 at.1 in
          let i = got.0 in
          let counted = got.1 in
          let same : at.0 ≡ i = omega (arith, counted) in
          let place : unwrap_or (place_among s.handles kind.Action b.bound.action) 0 ≡ i = rw (live.0, live.1, at.1) same in
          record {
            slot = got.2;
            stands = ap (λ (n : ℕ). slice_get s.handles.actions n) place ∙ got.3;
            own = same_key got.2.handle b.bound.action got.4;
            set = set;
            listed = eo;
            priority = rw eo refl;
          }

pub bindings_are_ranked : BindingsAreRanked
bindings_are_ranked settings es k b legal found = is_ranked settings es legal b (all_made (after (opening settings) es).core k b found)
