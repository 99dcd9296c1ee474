-- A call that destroys a handle takes what is within it out of the lists, and nothing else.
use Rattle.std.proofs.Common.{◌≡◌, ◌≤◌, ◌==◌, ◌&&◌, ◌||◌, ℕ, not, Bool, true, false, List, [], ◌∷◌, map, Option, Some, None, refl, sym, ap, subst, ◌∙◌, arith, true≢false}
use Rattle.std.specs.Prelude.{is_some, option_map, unwrap_or}
use Rattle.std.specs.List.{find, filter, list_all}
use Rattle.xr_types.specs.Code.{is_success}
use Rattle.xr_types.specs.declared.handles.Kind.{Kind}
use Rattle.xr_types.specs.declared.handles.Kind.TheVariants.{Instance, Session, ActionSet, Action, Space, Swapchain}
use Rattle.xr_types.specs.declared.input.Bound.{Bound}
use Rattle.xr_model.specs.machine.Chains.{Chain}
use Rattle.xr_model.specs.machine.Calls.{Entry}
use Rattle.xr_types.specs.declared.calls.Call.{Call}
use Rattle.xr_types.specs.declared.calls.Call.TheVariants as ask
use Rattle.xr_model.specs.machine.Handles.{Handles, has, is_live, is_among, destroyed_by, without, without_alone}
use Rattle.xr_model.specs.machine.LiveSessions as sessions
use Rattle.xr_types.specs.declared.device.Wish.{Wish}
use Rattle.xr_model.specs.machine.SessionLife.{Changed}
use Rattle.xr_model.specs.machine.Target.{Standing, rounds, most_rounds}
use Rattle.xr_model.proofs.Targets.{Steady, rounds_keep}
use Rattle.xr_model.specs.machine.LiveSessions.{each_changed, without_sets, still_live}
use Rattle.xr_model.specs.machine.Sets as inputs
use Rattle.xr_model.specs.machine.Sets.{Set}
use Rattle.xr_model.specs.machine.Spaces as spaces
use Rattle.xr_model.specs.machine.Spaces.{Spaces, with_left, without_space, without_spaces}
use Rattle.xr_model.specs.machine.State.{CoreState, State, opening}
use Rattle.xr_model.specs.machine.Destroyed.{without_handle, has_action, left_session, sessions_left}
use Rattle.xr_model.specs.machine.Rule.{Effect, unless_refused, locked_after, published_after}
use Rattle.xr_model.specs.machine.Refusals.{when, first_of}
use Rattle.xr_types.specs.declared.code.Code.TheVariants.{HandleInvalid}
use Rattle.xr_model.specs.machine.Rules.Spaces.{with_space_gone}
use Rattle.xr_model.specs.machine.Rules.Swapchains.{with_chain_gone}
use Rattle.xr_model.specs.machine.Machine.{step, effect, rule, reads_of}
use Rattle.xr_model.specs.machine.History.{after}
use Rattle.xr_model.specs.laws.HandleLaws.{count_in, StandOnce, AreUnder, is_within, destroys}
use Rattle.xr_model.specs.laws.SessionLaws.{AreListed}
use Rattle.xr_model.specs.laws.ListLaws.{staying, standing, AreFiltered, DestroyingFilters, without_attached, attaches_live}
use Rattle.xr_model.proofs.Rows.{same_key, both_of, not_true}
use Rattle.xr_model.proofs.Keyed.{all_found, filters_agree}
use Rattle.xr_model.proofs.Orphans.{no_orphans}
use Rattle.xr_model.proofs.StandOnce.{handles_stand_once}
use Rattle.xr_model.proofs.DestroyedForGood.{alone_is_whole, chain_is_whole}
use Rattle.xr_model.proofs.DestroyingTakes.{AreRoots, one_cleared, without_takes, roots_after}
use Rattle.xr_model.proofs.LostSessions.{sessions_are_listed}
use Rattle.xr_model.proofs.ListSteps.{Has}
use Rattle.xr_model.proofs.Lists.{Kept, all_left, set_gone, action_gone, space_gone, all_kept}
use Rattle.xr_model.proofs.AttachedSets.{AttachLive, all_attached}

-- ---- all that is listed is live

-- a space keeps its handle and its offset where an action goes
standing_still : (there : ℕ → Bool) (xs : List spaces.Space) → map standing (map (with_left there) xs) ≡ map standing xs
standing_still there [] = refl
standing_still there (x ∷ xs) = ap (λ (l : List (ℕ × ℕ)). standing x ∷ l) (standing_still there xs)

module _ {T : Type 0} (key : T → ℕ) where
  -- a filter that agrees with another on what is listed
  agree : (live p q : ℕ → Bool) (xs : List T) → ((k : ℕ) → is_some (find (λ y. key y == k) xs) ≡ live k) → ((k : ℕ) → live k ≡ true → p k ≡ q k) → filter (λ x. p (key x)) xs ≡ filter (λ x. q (key x)) xs
  agree live p q xs listed same =
      filters_agree (λ x. p (key x)) (λ x. q (key x)) (λ x. is_some (find (λ y. key y == key x) xs)) xs (all_found key xs xs (λ k there. there)) (λ x there. same (key x) (sym (listed (key x)) ∙ there))

filter_all : {T : Type 0} (xs : List T) → xs ≡ filter (λ x. true) xs
filter_all [] = refl
filter_all (x ∷ xs) = ap (λ (l : List _). x ∷ l) (filter_all xs)

maps_agree : (live p q : ℕ → Bool) (su : List (List Bound)) → list_all (list_all (λ b. live b.action)) su ≡ true → ((k : ℕ) → live k ≡ true → p k ≡ q k)
    → map (λ bs. filter (λ b. p b.action) bs) su ≡ map (λ bs. filter (λ b. q b.action) bs) su
maps_agree live p q [] each same = refl
maps_agree live p q (bs ∷ su) each same =
    let two = both_of (list_all (λ b. live b.action) bs) (list_all (list_all (λ b. live b.action)) su) each in
    rw (filters_agree (λ b. p b.action) (λ b. q b.action) (λ b. live b.action) bs two.0 (λ b there. same b.action there)) (ap (λ (l : List (List Bound)). filter (λ b. q b.action) bs ∷ l) (maps_agree live p q su two.1 same))

map_all : (su : List (List Bound)) → su ≡ map (λ bs. filter (λ b. true) bs) su
map_all [] = refl
map_all (bs ∷ su) = rw (← filter_all bs) (ap (λ (l : List (List Bound)). bs ∷ l) (map_all su))

-- ---- sessions without the attached sets that went

maps_same : (f g : sessions.Session → sessions.Session) (good : sessions.Session → Bool) (xs : List sessions.Session) → list_all good xs ≡ true → ((x : sessions.Session) → good x ≡ true → f x ≡ g x) → map f xs ≡ map g xs
maps_same f g good [] each same = refl
maps_same f g good (x ∷ xs) each same = let two = both_of (good x) (list_all good xs) each in rw (same x two.0) (ap (λ (l : List sessions.Session). g x ∷ l) (maps_same f g good xs two.1 same))

map_itself : (g : sessions.Session → sessions.Session) (good : sessions.Session → Bool) (xs : List sessions.Session) → list_all good xs ≡ true → ((x : sessions.Session) → good x ≡ true → g x ≡ x) → xs ≡ map g xs
map_itself g good [] each same = refl
map_itself g good (x ∷ xs) each same = let two = both_of (good x) (list_all good xs) each in rw (same x two.0) (ap (λ (l : List sessions.Session). x ∷ l) (map_itself g good xs two.1 same))

-- attached sets by tests that agree on live ones
options_agree : (live p q : ℕ → Bool) (o : Option (List ℕ)) → list_all live (unwrap_or o []) ≡ true → ((k : ℕ) → live k ≡ true → p k ≡ q k) → option_map (filter p) o ≡ option_map (filter q) o
options_agree live p q None each same = refl
options_agree live p q (Some sets) each same = ap Some (filters_agree p q live sets each same)

option_itself : (live q : ℕ → Bool) (o : Option (List ℕ)) → list_all live (unwrap_or o []) ≡ true → ((k : ℕ) → live k ≡ true → true ≡ q k) → option_map (filter q) o ≡ o
option_itself live q None each same = refl
option_itself live q (Some sets) each same = ap Some (sym (filters_agree (λ k. true) q live sets each same) ∙ sym (filter_all sets))

-- ---- settling changes states alone

same_but_state : (w : Wish) (t : Standing) → map staying (rounds most_rounds w t).sessions ≡ map staying t.sessions
same_but_state w t = rounds_keep (λ xs. map staying xs ≡ map staying t.sessions) (λ f steady xs there. each_same f steady xs ∙ there) w t refl
  where
    each_same : (f : sessions.Session → Changed) → ((x : sessions.Session) → Steady x.life (f x).life) → (xs : List sessions.Session) → map staying (each_changed f xs) ≡ map staying xs
    each_same f steady [] = refl
    each_same f steady (x ∷ xs) = rw (steady x, each_same f steady xs) refl

-- what actions show aside, the attached sets that are gone are all that goes from a session that is left
columns_aside : (h : Handles) (gone : List ℕ) (xs : List sessions.Session) → map staying (map (left_session h gone) xs) ≡ map staying (map (without_sets gone) xs)
columns_aside h gone [] = refl
columns_aside h gone (x ∷ xs) = ap (λ (l : List sessions.Session). staying (without_sets gone x) ∷ l) (columns_aside h gone xs)

-- ---- one handle is destroyed

module _ (s : CoreState) (listed : AreListed s.handles s.sessions) (kept : Has Kept s) (attached : AttachLive s.handles s.sessions) (once : StandOnce s.handles) (under : AreUnder s.handles) (roots : AreRoots s.handles) (top : ℕ) (some : (top == 0) ≡ false) where
  -- where a handle stays live, it wasn't within
  outside : (kind : Kind) (k : ℕ) (left : Bool) → is_live s.handles kind k ≡ true → not (k == 0) && left ≡ is_live (without s.handles top) kind k → left ≡ not (is_within 2 s.handles k top)
  outside kind k left live is =
      let nz = (both_of (not (k == 0)) _ live).0 in
      sym (ap (λ b. b && left) nz) ∙ is ∙ without_takes s.handles top some once under roots kind k ∙ ap (λ b. b && not (is_within 2 s.handles k top)) live

  set_agrees : (k : ℕ) → is_live s.handles ActionSet k ≡ true → not (is_among (destroyed_by s.handles top) k) ≡ not (is_within 2 s.handles k top)
  set_agrees k live =
      let two = both_of (not (k == 0)) (has s.handles.sets k) live in
      outside ActionSet k _ live (ap (λ b. not (k == 0) && b) (set_gone s.handles top once k (not_true (k == 0) two.0) two.1))

  with_all_below : AreFiltered s (without_handle s top) (λ k. is_within 2 s.handles k top)
  with_all_below = record {
    sessions =
        same_but_state s.device.wish (record { sessions = sessions_left (without s.handles top) (destroyed_by s.handles top) s.sessions; events = s.events })
        ∙ columns_aside (without s.handles top) (destroyed_by s.handles top) (still_live (without s.handles top) s.sessions)
        ∙ ap (map staying)
        (maps_same (without_sets (destroyed_by s.handles top)) (without_attached (λ k. is_within 2 s.handles k top)) (attaches_live s.handles) (still_live (without s.handles top) s.sessions)
        (all_left (attaches_live s.handles) (attaches_live s.handles) (λ x. is_live (without s.handles top) Session x.handle) (λ x live stays. live) s.sessions attached)
        (λ x live. ap (λ (o : Option (List ℕ)). record x { attached = o }) (options_agree (is_live s.handles ActionSet) (λ k. not (is_among (destroyed_by s.handles top) k)) (λ k. not (is_within 2 s.handles k top)) x.attached live set_agrees))
        ∙ ap (map (without_attached (λ k. is_within 2 s.handles k top)))
        (agree (λ (x : sessions.Session). x.handle) (λ k. is_live s.handles Session k) (λ k. is_live (without s.handles top) Session k) (λ k. not (is_within 2 s.handles k top)) s.sessions listed
        (λ k live. without_takes s.handles top some once under roots Session k ∙ ap (λ b. b && not (is_within 2 s.handles k top)) live)));
    sets = agree (λ (x : Set). x.handle) (λ k. is_live s.handles ActionSet k) (λ k. not (is_among (destroyed_by s.handles top) k)) (λ k. not (is_within 2 s.handles k top)) s.inputs.sets kept.sets set_agrees;
    actions = agree (λ (x : inputs.Action). x.handle) (λ k. is_live s.handles Action k) (λ k. not (is_among (destroyed_by s.handles top) k)) (λ k. not (is_within 2 s.handles k top)) s.inputs.actions kept.actions
        (λ k live. let two = both_of (not (k == 0)) (has s.handles.actions k) live in outside Action k _ live (ap (λ b. not (k == 0) && b) (action_gone s.handles top once k (not_true (k == 0) two.0) two.1)));
    spaces =
        standing_still (has_action (without s.handles top).actions) (without_spaces s.room (destroyed_by s.handles top)).spaces
        ∙ ap (map standing)
        (agree (λ (x : spaces.Space). x.handle) (λ k. is_live s.handles Space k) (λ k. not (is_among (destroyed_by s.handles top) k)) (λ k. not (is_within 2 s.handles k top)) s.room.spaces kept.spaces
        (λ k live. let two = both_of (not (k == 0)) (has s.handles.spaces k) live in outside Space k _ live (ap (λ b. not (k == 0) && b) (space_gone s.handles top once k (not_true (k == 0) two.0) two.1))));
    suggestions = maps_agree (λ k. is_live s.handles Action k) (λ k. not (is_among (destroyed_by s.handles top) k)) (λ k. not (is_within 2 s.handles k top)) s.suggestions kept.suggested
        (λ k live. let two = both_of (not (k == 0)) (has s.handles.actions k) live in outside Action k _ live (ap (λ b. not (k == 0) && b) (action_gone s.handles top once k (not_true (k == 0) two.0) two.1)));
  }

  -- a handle of this kind goes alone
  module _ (own : Kind) (whole : without_alone s.handles own top ≡ without s.handles top) where
    -- what is live of a kind stays
    abbrev Stay : Kind → Type 0
    Stay kind = (k : ℕ) → is_live (without_alone s.handles own top) kind k ≡ is_live s.handles kind k

    others : (kind : Kind) → Stay kind → (k : ℕ) → is_live s.handles kind k ≡ true → true ≡ not (is_within 2 s.handles k top)
    others kind same k live =
        sym live ∙ sym (same k) ∙ ap (λ (h : Handles). is_live h kind k) whole
        ∙ without_takes s.handles top some once under roots kind k ∙ ap (λ b. b && not (is_within 2 s.handles k top)) live

    -- no list but that of the spaces changes
    alone : Stay Session → Stay ActionSet → Stay Action → (sp : Spaces) (chains : List Chain)
        → map standing sp.spaces ≡ map standing (filter (λ x. not (is_within 2 s.handles x.handle top)) s.room.spaces)
        → AreFiltered s (record s { handles = without_alone s.handles own top; room = sp; chains = chains }) (λ k. is_within 2 s.handles k top)
    alone of_sessions of_sets of_actions sp chains of_spaces = record {
      sessions =
          let same = filter_all s.sessions ∙ agree (λ (x : sessions.Session). x.handle) (λ k. is_live s.handles Session k) (λ k. true) (λ k. not (is_within 2 s.handles k top)) s.sessions listed (others Session of_sessions) in
          ap (map staying)
          (map_itself (without_attached (λ k. is_within 2 s.handles k top)) (attaches_live s.handles) s.sessions attached
          (λ x live. ap (λ (o : Option (List ℕ)). record x { attached = o }) (option_itself (is_live s.handles ActionSet) (λ k. not (is_within 2 s.handles k top)) x.attached live (others ActionSet of_sets)))
          ∙ ap (map (without_attached (λ k. is_within 2 s.handles k top))) same);
      sets = filter_all s.inputs.sets ∙ agree (λ (x : Set). x.handle) (λ k. is_live s.handles ActionSet k) (λ k. true) (λ k. not (is_within 2 s.handles k top)) s.inputs.sets kept.sets (others ActionSet of_sets);
      actions = filter_all s.inputs.actions ∙ agree (λ (x : inputs.Action). x.handle) (λ k. is_live s.handles Action k) (λ k. true) (λ k. not (is_within 2 s.handles k top)) s.inputs.actions kept.actions (others Action of_actions);
      spaces = of_spaces;
      suggestions = map_all s.suggestions ∙ maps_agree (λ k. is_live s.handles Action k) (λ k. true) (λ k. not (is_within 2 s.handles k top)) s.suggestions kept.suggested (others Action of_actions);
    }

  space_alone : is_live s.handles Space top ≡ true → AreFiltered s (with_space_gone s top) (λ k. is_within 2 s.handles k top)
  space_alone live_space =
      alone Space (alone_is_whole s.handles top once live_space) (λ k. refl) (λ k. refl) (λ k. refl) (without_space s.room top) s.chains
      (ap (map standing) (agree (λ (x : spaces.Space). x.handle) (λ k. is_live s.handles Space k) (λ k. not (k == top)) (λ k. not (is_within 2 s.handles k top)) s.room.spaces kept.spaces space_left))
    where
      or_no : (b : Bool) → b || false ≡ b
      or_no true = refl
      or_no false = refl

      space_left : (k : ℕ) → is_live s.handles Space k ≡ true → not (k == top) ≡ not (is_within 2 s.handles k top)
      space_left k live =
          let two = both_of (not (k == 0)) (has s.handles.spaces k) live in
          let nz = not_true (k == 0) two.0 in
          let all = once k nz in
          let most : count_in s.handles.spaces k ≤ 1 = omega (arith, all) in
          let left = one_cleared top [] k nz s.handles.spaces two.1 most in
          outside Space k (not (k == top)) live (ap (λ b. not (k == 0) && b) (ap (λ b. not b) (sym (or_no (k == top))) ∙ sym left) ∙ ap (λ (h : Handles). is_live h Space k) (alone_is_whole s.handles top once live_space))

  chain_alone : is_live s.handles Swapchain top ≡ true → AreFiltered s (with_chain_gone s top) (λ k. is_within 2 s.handles k top)
  chain_alone live_chain =
      let whole = chain_is_whole s.handles top once live_chain in
      alone Swapchain whole (λ k. refl) (λ k. refl) (λ k. refl) s.room (with_chain_gone s top).chains
      (ap (map standing)
      (filter_all s.room.spaces
      ∙ agree (λ (x : spaces.Space). x.handle) (λ k. is_live s.handles Space k) (λ k. true) (λ k. not (is_within 2 s.handles k top)) s.room.spaces kept.spaces (others Swapchain whole Space (λ k. refl))))

-- ---- the law

-- a destroying call that succeeds has its effect, and its handle is live
done_so : (P : CoreState → Type 0) (s : CoreState) (live : Bool) (x : Effect) → is_success (unless_refused s (first_of (when (not live) HandleInvalid ∷ [])) x).code ≡ true
    → (live ≡ true → P x.state) → P (unless_refused s (first_of (when (not live) HandleInvalid ∷ [])) x).state
done_so P s true x good done = done refl
done_so P s false x good done = absurd (true≢false (sym good))

counted : (s t : CoreState) (gone : ℕ → Bool) (apps locked published : ℕ) → AreFiltered s t gone → AreFiltered s (record t { apps = apps; locked = locked; published = published }) gone
counted s t gone apps locked published f = record { sessions = f.sessions; sets = f.sets; actions = f.actions; spaces = f.spaces; suggestions = f.suggestions }

filtered : (s : State) (e : Entry) (handle : ℕ) → AreListed s.core.handles s.core.sessions → Has Kept s.core → AttachLive s.core.handles s.core.sessions → StandOnce s.core.handles → AreUnder s.core.handles → AreRoots s.core.handles → destroys e.call handle ≡ true → is_success (step s e).1.reply.code ≡ true
    → AreFiltered s.core (step s e).0.core (λ k. is_within 2 s.core.handles k handle)
filtered s e handle listed kept attached once under roots names good =
    counted s.core (effect s.core (reads_of s e.call) e).state (λ k. is_within 2 s.core.handles k handle) s.core.apps (locked_after s.core e.call) (published_after s.core e.call (effect s.core (reads_of s e.call) e).code) (by e.call names good)
  where
    below : (kind : Kind) (named : ℕ) → (named == handle) ≡ true → is_live s.core.handles kind named ≡ true → AreFiltered s.core (without_handle s.core named) (λ k. is_within 2 s.core.handles k handle)
    below kind named names live =
        let some = not_true (named == 0) (both_of (not (named == 0)) _ live).0 in
        subst (λ (n : ℕ). AreFiltered s.core (without_handle s.core named) (λ k. is_within 2 s.core.handles k n)) (same_key named handle names) (with_all_below s.core listed kept attached once under roots named some)

    by : (r : Call) → destroys r handle ≡ true → is_success (step s (record e { call = r })).1.reply.code ≡ true → AreFiltered s.core (effect s.core (reads_of s r) (record e { call = r })).state (λ k. is_within 2 s.core.handles k handle)
    by (ask.DestroyInstance instance) names good =
        done_so (λ t. AreFiltered s.core t (λ k. is_within 2 s.core.handles k handle)) s.core (is_live s.core.handles Instance instance) (rule s.core (reads_of s (ask.DestroyInstance instance)) (record e { call = ask.DestroyInstance instance })).effect good
        (λ live. let f = below Instance instance names live in record { sessions = f.sessions; sets = f.sets; actions = f.actions; spaces = f.spaces; suggestions = f.suggestions })
    by (ask.DestroySession session) names good =
        done_so (λ t. AreFiltered s.core t (λ k. is_within 2 s.core.handles k handle)) s.core (is_live s.core.handles Session session) (rule s.core (reads_of s (ask.DestroySession session)) (record e { call = ask.DestroySession session })).effect good (below Session session names)
    by (ask.DestroySpace space) names good =
        done_so (λ t. AreFiltered s.core t (λ k. is_within 2 s.core.handles k handle)) s.core (is_live s.core.handles Space space) (rule s.core (reads_of s (ask.DestroySpace space)) (record e { call = ask.DestroySpace space })).effect good
        (λ live.
        let some = not_true (space == 0) (both_of (not (space == 0)) _ live).0 in
        subst (λ (n : ℕ). AreFiltered s.core (with_space_gone s.core space) (λ k. is_within 2 s.core.handles k n)) (same_key space handle names) (space_alone s.core listed kept attached once under roots space some live))
    by (ask.DestroyActionSet set) names good =
        done_so (λ t. AreFiltered s.core t (λ k. is_within 2 s.core.handles k handle)) s.core (is_live s.core.handles ActionSet set) (rule s.core (reads_of s (ask.DestroyActionSet set)) (record e { call = ask.DestroyActionSet set })).effect good (below ActionSet set names)
    by (ask.DestroyAction action) names good =
        done_so (λ t. AreFiltered s.core t (λ k. is_within 2 s.core.handles k handle)) s.core (is_live s.core.handles Action action) (rule s.core (reads_of s (ask.DestroyAction action)) (record e { call = ask.DestroyAction action })).effect good (below Action action names)
    by (ask.DestroySwapchain chain) names good =
        done_so (λ t. AreFiltered s.core t (λ k. is_within 2 s.core.handles k handle)) s.core (is_live s.core.handles Swapchain chain) (rule s.core (reads_of s (ask.DestroySwapchain chain)) (record e { call = ask.DestroySwapchain chain })).effect good
        (λ live.
        let some = not_true (chain == 0) (both_of (not (chain == 0)) _ live).0 in
        subst (λ (n : ℕ). AreFiltered s.core (with_chain_gone s.core chain) (λ k. is_within 2 s.core.handles k n)) (same_key chain handle names) (chain_alone s.core listed kept attached once under roots chain some live))
    by _ names good = absurd (true≢false (sym names))

pub destroying_filters : DestroyingFilters
destroying_filters settings es e handle legal names good =
    filtered (after (opening settings) es) e handle (sessions_are_listed settings es legal) (all_kept settings es legal) (all_attached settings es legal) (handles_stand_once settings es legal) (no_orphans settings es) (roots_after (opening settings) es refl) names good
