-- What a call on the slot of a session does to the core: the loop of this session and what actions show in it are the slot's, and
-- change with it.
use Rattle.std.proofs.Common.{◌≡◌, ◌<◌, ◌+◌, ◌==◌, ℕ, ℤ, Bool, true, false, List, [], ◌∷◌, ◌++◌, Option, Some, None, refl, sym, ap, ◌∙◌, arith}
use Rattle.std.specs.List.{list_all}
use Rattle.xr_model.proofs.Rows.{itself}
use Rattle.std.specs.Prelude.{map, flat_map, slice_set, slice_index_or, is_some, IfSome, if◌then◌else◌}
use Rattle.xr_types.specs.declared.handles.Kind.TheVariants as kind
use Rattle.xr_types.specs.declared.device.Wish.{Wish}
use Rattle.xr_types.specs.declared.device.Wish.TheVariants as wish
use Rattle.xr_types.specs.declared.handles.Slot.{Slot}
use Rattle.xr_types.specs.declared.handles.TheConstants.{SESSIONS}
use Rattle.xr_types.specs.declared.input.Column.{Column}
use Rattle.xr_types.specs.declared.input.Heard.{Heard}
use Rattle.xr_types.specs.declared.input.Inputs.{Inputs}
use Rattle.xr_types.specs.declared.input.Ranked.{Ranked}
use Rattle.xr_types.specs.declared.session.FrameState.{FrameState}
use Rattle.xr_types.specs.Frames.{PendingFrame}
use Rattle.xr_model.specs.machine.Frames.{Frames, FrameLoop, new_loop, begun_loop, ended_loop, is_frame_held_back, predicted_time}
use Rattle.xr_model.specs.machine.HandlePlaces.{place_in}
use Rattle.xr_model.specs.machine.Handles.{Handles, is_live, was_given, with_handle, without, destroyed_by}
use Rattle.xr_model.specs.machine.LiveSessions.{Session, loop_in, life_in, shown_in, session_at, with_life, with_life_at, with_attached, with_columns, with_frame_loop, with_session_at, without_sets, still_live, each_changed, told_states, told_changes}
use Rattle.xr_model.specs.machine.Rules.Frames.{next_time}
use Rattle.xr_model.specs.machine.Rules.Device.{with_changes}
use Rattle.xr_model.specs.machine.Rules.Session.{life_of, loop_of, columns_of, with_loop}
use Rattle.xr_model.specs.machine.SessionLife.{Life, Changed, started_session, synced_session}
use Rattle.xr_model.specs.machine.Rules.Sets.{with_attached_sets}
use Rattle.xr_model.specs.machine.Sets.{sets_named, with_sealed, without_inputs}
use Rattle.xr_model.specs.machine.Spaces.{Spaces, left_spaces, without_spaces}
use Rattle.xr_model.specs.machine.Bindings.{without_suggestions}
use Rattle.xr_model.specs.machine.Events.{Queue}
use Rattle.xr_model.specs.machine.Destroyed.{has_action}
use Rattle.xr_model.specs.machine.Rules.Sync.{bindings_of}
use Rattle.xr_model.specs.machine.Sync.{no_columns, columns_after, left_columns}
use Rattle.xr_model.specs.laws.HandleLaws.{StandOnce}
use Rattle.xr_model.specs.machine.State.{CoreState}
use Rattle.xr_frames.specs.Slots.{SlotFrames, loop_at, with_loop_at, frames_of}
use Rattle.xr_core.specs.declared.sessions.Change.{Change}
use Rattle.xr_core.specs.declared.sessions.Change.TheVariants.{Others, Target, Loss, Lost}
use Rattle.xr_core.specs.declared.sessions.LifeCall.{LifeCall}
use Rattle.xr_core.specs.inside.Changes.{change_by, place_at, ordinal_in, life_after, told_after, session_added, changed_alone, changed_life, with_places_left, with_shown, taken_out}
use Rattle.xr_core.specs.inside.Viewing.{words_of_session, words_listed}
use Rattle.xr_core.specs.inside.Seats.{in_slot, seat, seated, with_loop_on, with_own_loop, with_own_columns, AreSeated}
use Rattle.xr_core.proofs.KeptSeats.{listed_once, given_seated, left_seated}
use Rattle.xr_core.proofs.Seated.{own_loop, own_columns, none_shown, shown_seated, left_slots, loop_seated, columns_seated, each_seated, told_seated, place_seated, life_seated, ordinal_seated, some_seated, changed_seated}
use Rattle.xr_core.proofs.LeftPlaces.{slots_same, spaces_same}
use Rattle.xr_core.proofs.SessionEvents.{changes_one, synced_so}

-- where it is so of each that there may be
pub each_some : {T : Type 0} (P Q : T → Type 0) (o : Option T) → IfSome o P → ((x : T) → P x → Q x) → IfSome o Q
each_some P Q None p more = tt
each_some P Q (Some x) p more = more x p

pub both_some : {T : Type 0} (P P' Q : T → Type 0) (o : Option T) → IfSome o P → IfSome o P' → ((x : T) → P x → P' x → Q x) → IfSome o Q
both_some P P' Q None p q more = tt
both_some P P' Q (Some x) p q more = more x p q

module _ (s v : CoreState) (f : SlotFrames) (cs : List (List (List Column))) (xs : List Session) (session slot : ℕ) (is : v ≡ s) (stands : v.sessions ≡ seated f.loops cs v.handles.sessions xs) (pending : v.frames ≡ frames_of f)
    (kept : AreSeated f.loops cs v.handles xs) (alive : is_live s.handles kind.Session session ≡ true) (placed : place_in v.handles.sessions session ≡ Some slot) (within : slot < SESSIONS) where
  here : is_live v.handles kind.Session session ≡ true
  here = ap (λ (t : CoreState). is_live t.handles kind.Session session) is ∙ alive

  -- the loop of the session is the slot's
  pub loop_is : loop_of s session ≡ loop_at f slot
  loop_is =
      ap (λ (t : CoreState). loop_of t session) (sym is) ∙ ap (λ (ys : List Session). loop_in (session_at ys session)) stands
      ∙ own_loop f.loops cs v.handles.sessions xs session slot placed (kept.listed session ∙ here)

  -- and where it changes, the loop of the session does
  pub loop_set : (l : FrameLoop) → record v { sessions = seated (slice_set f.loops slot l) cs v.handles.sessions xs } ≡ with_loop s session l
  loop_set l =
      let loops = kept.loops_stand in
      ap (λ (ys : List Session). record v { sessions = ys }) (loop_seated f.loops cs v.handles.sessions session slot placed l (omega (arith, within, loops)) xs (listed_once f.loops cs v.handles xs session kept here) ∙ ap (λ (ys : List Session). with_session_at session (with_frame_loop l) ys) (sym stands))
      ∙ ap (λ (t : CoreState). with_loop t session l) is

  -- a frame is begun, where one is waited for
  pub loop_begun : (new : SlotFrames) → new ≡ (if (loop_at f slot).has_waited then with_loop_at f slot (begun_loop (loop_at f slot)) else f)
      → record v { sessions = seated new.loops cs v.handles.sessions xs; frames = frames_of new } ≡ (if (loop_of s session).has_waited then with_loop s session (begun_loop (loop_of s session)) else s)
  loop_begun new told = rw loop_is (by (loop_at f slot).has_waited told)
    where
      by : (b : Bool) → new ≡ (if b then with_loop_at f slot (begun_loop (loop_at f slot)) else f)
          → record v { sessions = seated new.loops cs v.handles.sessions xs; frames = frames_of new } ≡ (if b then with_loop s session (begun_loop (loop_at f slot)) else s)
      by true told = rw (told, ← pending) (loop_set (begun_loop (loop_at f slot)))
      by false told = rw (told, ← pending, ← stands) is

  -- it stands as the slot's stands from now on
  pub loop_now : (new : SlotFrames) (l m : FrameLoop) → new ≡ with_loop_at f slot l → l ≡ m → record v { sessions = seated new.loops cs v.handles.sessions xs; frames = frames_of new } ≡ with_loop s session m
  loop_now new l m told same = rw (told, ← pending, ← same) (loop_set l)

  -- what actions show in the session is what they show in the slot
  pub columns_are : columns_of s session ≡ slice_index_or cs slot no_columns
  columns_are =
      ap (λ (t : CoreState). columns_of t session) (sym is) ∙ ap (λ (ys : List Session). shown_in (session_at ys session)) stands
      ∙ own_columns f.loops cs v.handles.sessions xs session slot placed (kept.listed session ∙ here)

  -- and where that changes, it changes in the session
  pub columns_set : (new shown : List (List Column)) → new ≡ shown → record v { sessions = seated f.loops (slice_set cs slot new) v.handles.sessions xs } ≡ with_shown s session shown
  columns_set new shown same =
      let stand = kept.columns_stand in
      rw same
      (ap (λ (ys : List Session). record v { sessions = ys }) (columns_seated f.loops cs v.handles.sessions session slot placed shown (omega (arith, within, stand)) xs (listed_once f.loops cs v.handles xs session kept here) ∙ ap (λ (ys : List Session). with_session_at session (with_columns shown) ys) (sym stands))
      ∙ ap (λ (t : CoreState). with_shown t session shown) is)

  pub columns_cleared : (new : List (List (List Column))) → new ≡ slice_set cs slot no_columns → record v { sessions = seated f.loops new v.handles.sessions xs } ≡ with_shown s session no_columns
  columns_cleared new told = rw told (columns_set no_columns no_columns refl)

  pub columns_synced : (heard : List Heard) (bindings : List Ranked) (inputs : Inputs) (clock : ℤ) (new : List (List (List Column))) → bindings ≡ bindings_of v → inputs ≡ v.device.inputs → clock ≡ v.device.clock
      → new ≡ slice_set cs slot (columns_after heard bindings inputs clock (slice_index_or cs slot no_columns))
      → record v { sessions = seated f.loops new v.handles.sessions xs } ≡ with_shown s session (columns_after heard (bindings_of s) s.device.inputs s.device.clock (columns_of s session))
  columns_synced heard bindings inputs clock new a b d told =
      let before = slice_index_or cs slot no_columns in
      let same : columns_after heard bindings inputs clock before ≡ columns_after heard (bindings_of s) s.device.inputs s.device.clock (columns_of s session) =
      rw (a, b, d) (ap (λ (t : CoreState). columns_after heard (bindings_of t) t.device.inputs t.device.clock before) is) ∙ ap (λ (c : List (List Column)). columns_after heard (bindings_of s) s.device.inputs s.device.clock c) (sym columns_are) in
      rw told (columns_set (columns_after heard bindings inputs clock before) _ same)

  -- ---- a wait

  pub held_is : is_frame_held_back s.frames (loop_of s session) ≡ is_frame_held_back (frames_of f) (loop_at f slot)
  held_is = ap (λ (t : CoreState). is_frame_held_back t.frames (loop_of s session)) (sym is) ∙ ap (λ (fs : Frames). is_frame_held_back fs (loop_of s session)) pending ∙ ap (λ (l : FrameLoop). is_frame_held_back (frames_of f) l) loop_is

  pub next_is : (clock base period : ℤ) → clock ≡ v.device.clock → base ≡ v.device.base → period ≡ v.device.period → predicted_time (loop_at f slot).predicted clock base period ≡ next_time s session
  next_is clock base period a b c = rw (a, b, c, ← loop_is) (ap (λ (t : CoreState). predicted_time (loop_of s session).predicted t.device.clock t.device.base t.device.period) is)

  pub state_is : (clock base period : ℤ) (render : Bool) (x : FrameState) → clock ≡ v.device.clock → base ≡ v.device.base → period ≡ v.device.period
      → x ≡ record { time = predicted_time (loop_at f slot).predicted clock base period; period = period; render = render } → x ≡ record { time = next_time s session; period = s.device.period; render = render }
  state_is clock base period render x a b c told =
      told ∙ ap (λ (time : ℤ). let y : FrameState = record { time = time; period = period; render = render } in y) (next_is clock base period a b c)
      ∙ ap (λ (p : ℤ). let y : FrameState = record { time = next_time s session; period = p; render = render } in y) (c ∙ ap (λ (t : CoreState). t.device.period) is)

  -- ---- the end of a frame

  pub loop_submitted : (new : SlotFrames) (frame : PendingFrame) → new ≡ record (with_loop_at f slot (ended_loop (loop_at f slot))) { pending = f.pending ++ frame ∷ [] }
      → record v { sessions = seated new.loops cs v.handles.sessions xs; frames = frames_of new; ended = v.ended + 1 } ≡ record (with_loop s session (ended_loop (loop_of s session))) { frames = record { pending = s.frames.pending ++ frame ∷ [] }; ended = s.ended + 1 }
  loop_submitted new frame told =
      rw (told, loop_is)
      (ap (λ (t : CoreState). let u : CoreState = record t { frames = record { pending = f.pending ++ frame ∷ [] }; ended = v.ended + 1 } in u) (loop_set (ended_loop (loop_at f slot)))
      ∙ ap (λ (fs : Frames). let u : CoreState = record (with_loop s session (ended_loop (loop_at f slot))) { frames = record { pending = fs.pending ++ frame ∷ [] }; ended = v.ended + 1 } in u) (sym pending)
      ∙ ap (λ (t : CoreState). let u : CoreState = record (with_loop s session (ended_loop (loop_at f slot))) { frames = record { pending = t.frames.pending ++ frame ∷ [] }; ended = t.ended + 1 } in u) is)

-- ---- the sessions change, and keep what their slots keep

pub change_same : (change : Change) (loops : List FrameLoop) (cs : List (List (List Column))) (row : List Slot) (x : Session) → change_by change (seat loops cs row x) ≡ change_by change x
change_same (Others wish target) loops cs row x = refl
change_same (Target wish target) loops cs row x = refl
change_same Loss loops cs row x = refl
change_same Lost loops cs row x = refl

-- what is listed stays so behind another
later : (y : Session) (ys : List Session) (k : ℕ) → is_some (session_at ys k) ≡ true → is_some (session_at (y ∷ ys) k) ≡ true
later y ys k there = by (y.handle == k)
  where
    by : (b : Bool) → is_some (if b then Some y else session_at ys k) ≡ true
    by true = refl
    by false = there

module _ (s v : CoreState) (loops : List FrameLoop) (cs : List (List (List Column))) (xs : List Session) (is : v ≡ s) (stands : v.sessions ≡ seated loops cs v.handles.sessions xs) where
  -- all do
  pub all_changed : (f : Session → Changed) (new : List Session) (q : Queue) → ((x : Session) → f (seat loops cs v.handles.sessions x) ≡ f x) → new ≡ each_changed f xs → q ≡ told_changes v.events f xs
      → record v { sessions = seated loops cs v.handles.sessions new; events = q } ≡ with_changes s f
  all_changed f new q same changed told =
      rw (changed, told, ← each_seated loops cs v.handles.sessions f same xs, ← told_seated loops cs v.handles.sessions v.events f same xs, ← stands) (ap (λ (t : CoreState). with_changes t f) is)

  -- where a session stands, and how it lives
  pub found_inside : (session place : ℕ) → place_at s.sessions session ≡ Some place → place_at xs session ≡ Some place
  found_inside session place found =
      sym (place_seated loops cs v.handles.sessions xs session) ∙ ap (λ (ys : List Session). place_at ys session) (sym stands) ∙ ap (λ (t : CoreState). place_at t.sessions session) is ∙ found

  pub found_outside : (session place : ℕ) → place_at xs session ≡ Some place → place_at s.sessions session ≡ Some place
  found_outside session place found =
      sym (ap (λ (t : CoreState). place_at t.sessions session) is) ∙ ap (λ (ys : List Session). place_at ys session) stands ∙ place_seated loops cs v.handles.sessions xs session ∙ found

  pub life_inside : (session : ℕ) → life_in (session_at xs session) ≡ life_of s session
  life_inside session =
      sym (life_seated loops cs v.handles.sessions xs session) ∙ ap (λ (ys : List Session). life_in (session_at ys session)) (sym stands) ∙ ap (λ (t : CoreState). life_of t session) is

  pub listed_inside : (session : ℕ) → is_some (session_at xs session) ≡ is_some (session_at s.sessions session)
  listed_inside session =
      sym (some_seated loops cs v.handles.sessions xs session) ∙ ap (λ (ys : List Session). is_some (session_at ys session)) (sym stands) ∙ ap (λ (t : CoreState). is_some (session_at t.sessions session)) is

  pub listed_so : AreSeated loops cs v.handles xs → (session : ℕ) → is_some (session_at s.sessions session) ≡ is_live s.handles kind.Session session
  listed_so kept session = sym (listed_inside session) ∙ kept.listed session ∙ ap (λ (t : CoreState). is_live t.handles kind.Session session) is

  -- nothing is shown in a session that isn't live
  pub nothing_shown : AreSeated loops cs v.handles xs → (session : ℕ) → is_live s.handles kind.Session session ≡ false → columns_of s session ≡ no_columns
  nothing_shown kept session dead =
      sym (ap (λ (t : CoreState). columns_of t session) is) ∙ ap (λ (ys : List Session). shown_in (session_at ys session)) stands
      ∙ none_shown loops cs v.handles.sessions xs session (kept.listed session ∙ ap (λ (t : CoreState). is_live t.handles kind.Session session) is ∙ dead)

  -- all that are listed are live
  pub all_live : AreSeated loops cs v.handles xs → list_all (λ x. is_live s.handles kind.Session x.handle) xs ≡ true
  all_live kept = by xs (λ k there. sym (ap (λ (t : CoreState). is_live t.handles kind.Session k) is) ∙ sym (kept.listed k) ∙ there)
    where
      by : (ys : List Session) → ((k : ℕ) → is_some (session_at ys k) ≡ true → is_live s.handles kind.Session k ≡ true) → list_all (λ x. is_live s.handles kind.Session x.handle) ys ≡ true
      by [] live = refl
      by (y ∷ ys) live = rw (live y.handle (rw (itself y.handle) refl)) (by ys (λ k there. live k (later y ys k there)))

  -- and the words of each are those of the session with what its slot keeps
  pub words_seated : flat_map (words_listed s) xs ≡ flat_map (words_of_session s.handles s.inputs.actions) s.sessions
  words_seated =
      by xs (λ k there. sym (ap (λ (t : CoreState). columns_of t k) is) ∙ ap (λ (ys : List Session). shown_in (session_at ys k)) stands ∙ shown_seated loops cs v.handles.sessions xs k there)
      ∙ ap (λ (ys : List Session). flat_map (words_of_session s.handles s.inputs.actions) ys) (sym stands ∙ ap (λ (t : CoreState). t.sessions) is)
    where
      by : (ys : List Session) → ((k : ℕ) → is_some (session_at ys k) ≡ true → columns_of s k ≡ in_slot no_columns cs (place_in v.handles.sessions k))
          → flat_map (words_listed s) ys ≡ flat_map (words_of_session s.handles s.inputs.actions) (seated loops cs v.handles.sessions ys)
      by [] shown = refl
      by (y ∷ ys) shown =
          ap (λ (columns : List (List Column)). words_of_session s.handles s.inputs.actions (with_columns columns y) ++ flat_map (words_listed s) ys) (shown y.handle (rw (itself y.handle) refl))
          ∙ ap (λ (l : List ℕ). words_of_session s.handles s.inputs.actions (seat loops cs v.handles.sessions y) ++ l) (by ys (λ k there. shown k (later y ys k there)))

  -- what actions show is left where they stand
  pub places_left : (there : ℕ → Bool) → ((place : ℕ) → there place ≡ has_action v.handles.actions place) → (new : List (List (List Column))) (room : Spaces) → new ≡ map (left_columns there) cs → room ≡ left_spaces there v.room
      → record v { sessions = seated loops new v.handles.sessions xs; room = room } ≡ with_places_left s
  places_left there same new room told left =
      rw (told, left, slots_same there (has_action v.handles.actions) same cs, spaces_same there (has_action v.handles.actions) same v.room, left_slots (has_action v.handles.actions) loops cs v.handles.sessions xs, ← stands)
      (ap (λ (t : CoreState). with_places_left t) is)

  -- one has attached sets, which are sealed
  pub sets_attached : (session : ℕ) (sets : List ℕ) → record v { sessions = seated loops cs v.handles.sessions (with_session_at session (with_attached (sets_named v.inputs sets)) xs); inputs = with_sealed v.inputs sets } ≡ with_attached_sets s session sets
  sets_attached session sets =
      rw (← changed_seated loops cs v.handles.sessions session (with_attached (sets_named v.inputs sets)) (λ x. refl) xs, ← stands) (ap (λ (t : CoreState). with_attached_sets t session sets) is)

  -- a handle goes with all below it
  pub handle_out : StandOnce v.handles → (handle : ℕ)
      → with_places_left (record v {
        handles = without v.handles handle;
        sessions = seated loops cs (without v.handles handle).sessions (map (without_sets (destroyed_by v.handles handle)) (still_live (without v.handles handle) xs));
        inputs = without_inputs v.inputs (destroyed_by v.handles handle);
        suggestions = without_suggestions v.suggestions (destroyed_by v.handles handle);
        room = without_spaces v.room (destroyed_by v.handles handle);
      }) ≡ taken_out s handle
  handle_out once handle = rw (left_seated loops cs v.handles handle xs once, ← stands) (ap (λ (t : CoreState). taken_out t handle) is)

  module _ (session place : ℕ) (found : place_at xs session ≡ Some place) where
    there : place_at v.sessions session ≡ Some place
    there = ap (λ (ys : List Session). place_at ys session) stands ∙ place_seated loops cs v.handles.sessions xs session ∙ found

    life_is : life_of v session ≡ life_in (session_at xs session)
    life_is = ap (λ (ys : List Session). life_in (session_at ys session)) stands ∙ life_seated loops cs v.handles.sessions xs session

    ordinal_is : ordinal_in (session_at v.sessions session) ≡ ordinal_in (session_at xs session)
    ordinal_is = ap (λ (ys : List Session). ordinal_in (session_at ys session)) stands ∙ ordinal_seated loops cs v.handles.sessions xs session

    lives_so : (life : Life) → with_life_at session life v.sessions ≡ seated loops cs v.handles.sessions (with_life_at session life xs)
    lives_so life = ap (λ (ys : List Session). with_life_at session life ys) stands ∙ changed_seated loops cs v.handles.sessions session (with_life life) (λ x. refl) xs

    -- one does by a call
    pub life_changed : (d : Session) (call : LifeCall)
        → record v {
          sessions = seated loops cs v.handles.sessions (with_life_at session (life_after v.device.wish call (life_in (session_at xs session))) xs);
          events = told_states v.events (ordinal_in (session_at xs session)) session (told_after v.device.wish call (life_in (session_at xs session)));
        } ≡ changed_life s session call
    life_changed d call =
        rw (← ordinal_is, ← life_is, ← lives_so (life_after v.device.wish call (life_of v session))) (changes_one v session place d call there ∙ ap (λ (t : CoreState). changed_life t session call) is)

    -- and by a frame
    pub life_synced : (d : Session)
        → record v {
          sessions = seated loops cs v.handles.sessions (with_life_at session (synced_session wish.Ready (life_in (session_at xs session))).life xs);
          events = told_states v.events (ordinal_in (session_at xs session)) session (synced_session wish.Ready (life_in (session_at xs session))).through;
        } ≡ changed_alone s (session_at s.sessions session) (synced_session wish.Ready)
    life_synced d =
        rw (← ordinal_is, ← life_is, ← lives_so (synced_session wish.Ready (life_of v session)).life)
        (synced_so v session place d _ _ there refl refl ∙ ap (λ (t : CoreState). changed_alone t (session_at t.sessions session) (synced_session wish.Ready)) is)

-- ---- a session more

-- what is pending stays where a loop changes
frames_stay : (f : SlotFrames) (o : Option ℕ) (l : FrameLoop) → frames_of (with_loop_on f o l) ≡ frames_of f
frames_stay f None l = refl
frames_stay f (Some slot) l = refl

module _ (s v : CoreState) (f : SlotFrames) (cs : List (List (List Column))) (xs : List Session) (is : v ≡ s) (stands : v.sessions ≡ seated f.loops cs v.handles.sessions xs) (pending : v.frames ≡ frames_of f) (kept : AreSeated f.loops cs v.handles xs)
    (instance given : ℕ) (nz : (given == 0) ≡ false) (fresh : was_given v.handles given ≡ false) (w : Wish) where
  abbrev new_one : Session
  new_one = record { handle = given; ordinal = v.created + 1; life = (started_session w).life; frame_loop = new_loop; attached = None; columns = no_columns }

  pub session_more : (new : Handles) (ys : List Session) (x : Session) (frames : SlotFrames) (shown : List (List (List Column))) (events : Queue) → w ≡ v.device.wish → new ≡ with_handle v.handles kind.Session instance given → x ≡ new_one → ys ≡ xs ++ x ∷ []
      → frames ≡ with_own_loop f new.sessions given new_loop → shown ≡ with_own_columns cs new.sessions given no_columns → events ≡ told_states v.events (v.created + 1) given (started_session w).through
      → record v { handles = new; sessions = seated frames.loops shown new.sessions ys; frames = frames_of frames; events = events; created = v.created + 1 } ≡ session_added s instance given (started_session s.device.wish)
  session_more new ys x frames shown events wished gives named more renews clears told =
      let seats : seated frames.loops shown new.sessions ys ≡ v.sessions ++ x ∷ [] =
      ap (λ (g : SlotFrames). seated g.loops shown new.sessions ys) renews ∙ ap (λ (c : List (List (List Column))). seated (with_own_loop f new.sessions given new_loop).loops c new.sessions ys) clears
      ∙ given_seated f cs v.handles xs instance given nz fresh kept new ys x gives (rw named refl) (rw named refl) (rw named refl) more ∙ ap (λ (zs : List Session). zs ++ x ∷ []) (sym stands) in
      let waits : frames_of frames ≡ v.frames = ap frames_of renews ∙ frames_stay f (place_in new.sessions given) new_loop ∙ sym pending in
      rw (seats, waits, told, named, gives, wished) (ap (λ (t : CoreState). session_added t instance given (started_session t.device.wish)) is)
