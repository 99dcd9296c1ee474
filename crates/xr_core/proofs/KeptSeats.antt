-- That the listed sessions are live ones with a slot each, and each slot has a loop and columns, call by call.
use Rattle.std.proofs.Common.{◌≡◌, ◌≢◌, ◌≤◌, ◌+◌, ◌==◌, ◌&&◌, ℕ, Bool, true, false, not, List, [], ◌∷◌, ◌++◌, map, replicate, Option, Some, None, refl, sym, ap, subst, ◌∙◌, arith, true≢false}
use Rattle.std.specs.Prelude.{length, slice_set, is_some, if◌then◌else◌}
use Rattle.std.specs.List.{filter, list_all}
use Rattle.xr_types.specs.declared.handles.Kind.{Kind}
use Rattle.xr_types.specs.declared.handles.Kind.TheVariants as kind
use Rattle.xr_types.specs.declared.handles.Slot.{Slot}
use Rattle.xr_types.specs.declared.input.Column.{Column}
use Rattle.xr_types.specs.declared.handles.TheConstants.{INSTANCES, SESSIONS, ACTION_SETS, ACTIONS, SPACES, SWAPCHAINS}
use Rattle.xr_model.specs.laws.HandleLaws.{count_in, StandOnce}
use Rattle.xr_model.specs.laws.Soundness.{AreKnown}
use Rattle.xr_model.specs.machine.Destroyed.{has_action, left_session, sessions_left}
use Rattle.xr_model.specs.machine.Frames.{FrameLoop, new_loop, begun_loop}
use Rattle.xr_model.specs.machine.HandlePlaces.{place_in}
use Rattle.xr_model.specs.machine.Handles.{Handles, no_handles, has, is_live, has_room, was_given, with_handle, without, without_alone, destroyed_by, destroyed_instances}
use Rattle.xr_model.specs.machine.LiveSessions.{Session, session_at, with_frame_loop, with_columns, with_session_at, without_sets, still_live, each_changed}
use Rattle.xr_model.specs.machine.SessionLife.{Changed}
use Rattle.xr_model.specs.machine.Sync.{left_columns, no_columns}
use Rattle.xr_model.proofs.Destroying.{known_put, known_without, known_alone}
use Rattle.xr_model.proofs.Keyed.{found_map, found_left}
use Rattle.xr_model.proofs.Listed.{listed_none, listed_lives, listed_each, listed_left}
use Rattle.xr_model.proofs.Rows.{same_key, is_false, both_of, not_true, hasnt_free, has_new, counted}
use Rattle.xr_model.proofs.StandOnce.{once_put, once_without, once_alone, none_once}
use Rattle.xr_frames.specs.Slots.{SlotFrames, loop_at, with_loop_at}
use Rattle.xr_core.specs.inside.Housed.{count_listed, AreHoused}
use Rattle.xr_core.specs.inside.Seats.{in_slot, with_in_slot, seat, seated, with_loop_on, with_own_loop, with_own_columns, AreSeated}
use Rattle.xr_core.proofs.Housed.{housed_more}
use Rattle.xr_core.proofs.KeptLive.{names_more}
use Rattle.xr_core.proofs.Listed.{listed_give}
use Rattle.xr_core.proofs.Seats.{stays_given, stays_left, in_new, others_keep, as_many}
use Rattle.xr_core.proofs.Seated.{filtered_seated, forgotten_seated, same_seats, seated_more}

-- ---- what is known of a listed session

module _ (h : Handles) (k : ℕ) (live : is_live h kind.Session k ≡ true) where
  pub live_named : (k == 0) ≡ false
  live_named = not_true (k == 0) (both_of (not (k == 0)) (has h.sessions k) live).0

  pub live_there : has h.sessions k ≡ true
  live_there = (both_of (not (k == 0)) (has h.sessions k) live).1

-- it stands in one place
pub stands_once : (h : Handles) (k : ℕ) → StandOnce h → (k == 0) ≡ false → count_in h.sessions k ≤ 1
stands_once h k once nz = let all = once k nz in omega (arith, all)

-- and it is listed once
pub listed_once : (loops : List FrameLoop) (columns : List (List (List Column))) (h : Handles) (xs : List Session) (k : ℕ) → AreSeated loops columns h xs → is_live h kind.Session k ≡ true → count_listed (map (λ x. x.handle) xs) k ≤ 1
listed_once loops columns h xs k kept live =
    let nz = live_named h k live in
    let most = kept.housed.housed k nz in
    let one = stands_once h k kept.once nz in
    omega (arith, most, one)

-- ---- the start

none_known : AreKnown no_handles
none_known k nz new = record {
  instances = hasnt_free INSTANCES k nz;
  sessions = hasnt_free SESSIONS k nz;
  sets = hasnt_free ACTION_SETS k nz;
  actions = hasnt_free ACTIONS k nz;
  spaces = hasnt_free SPACES k nz;
  chains = hasnt_free SWAPCHAINS k nz;
}

pub none_seated : AreSeated (replicate SESSIONS new_loop) (replicate SESSIONS no_columns) no_handles []
none_seated = record {
  listed = listed_none;
  housed = record { named = refl; housed = λ k nz. omega arith };
  known = none_known;
  once = none_once;
  loops_stand = refl;
  columns_stand = refl;
}

-- ---- sessions and loops change

names_changed : (handle : ℕ) (f : Session → Session) → ((x : Session) → (f x).handle ≡ x.handle) → (xs : List Session) → map (λ x. x.handle) (with_session_at handle f xs) ≡ map (λ x. x.handle) xs
names_changed handle f same [] = refl
names_changed handle f same (x ∷ xs) = by (x.handle == handle) (names_changed handle f same xs)
  where
    by : (b : Bool) → map (λ y. y.handle) (with_session_at handle f xs) ≡ map (λ y. y.handle) xs → map (λ y. y.handle) (if b then f x ∷ xs else x ∷ with_session_at handle f xs) ≡ x.handle ∷ map (λ y. y.handle) xs
    by true more = ap (λ (n : ℕ). n ∷ map (λ y. y.handle) xs) (same x)
    by false more = ap (λ (ns : List ℕ). x.handle ∷ ns) more

pub kept_changed : (loops : List FrameLoop) (columns : List (List (List Column))) (h : Handles) (xs : List Session) (handle : ℕ) (f : Session → Session) → ((x : Session) → (f x).handle ≡ x.handle) → AreSeated loops columns h xs → AreSeated loops columns h (with_session_at handle f xs)
kept_changed loops columns h xs handle f same kept = record {
  listed = listed_lives h xs handle f same kept.listed;
  housed = subst (λ (ns : List ℕ). AreHoused ns h.sessions) (sym (names_changed handle f same xs)) kept.housed;
  known = kept.known;
  once = kept.once;
  loops_stand = kept.loops_stand;
  columns_stand = kept.columns_stand;
}

names_each : (f : Session → Changed) (xs : List Session) → map (λ x. x.handle) (each_changed f xs) ≡ map (λ x. x.handle) xs
names_each f [] = refl
names_each f (x ∷ xs) = ap (λ (ns : List ℕ). x.handle ∷ ns) (names_each f xs)

pub kept_each : (loops : List FrameLoop) (columns : List (List (List Column))) (h : Handles) (xs : List Session) (f : Session → Changed) → AreSeated loops columns h xs → AreSeated loops columns h (each_changed f xs)
kept_each loops columns h xs f kept = record {
  listed = listed_each h f xs kept.listed;
  housed = subst (λ (ns : List ℕ). AreHoused ns h.sessions) (sym (names_each f xs)) kept.housed;
  known = kept.known;
  once = kept.once;
  loops_stand = kept.loops_stand;
  columns_stand = kept.columns_stand;
}

module _ (loops : List FrameLoop) (columns : List (List (List Column))) (h : Handles) (xs : List Session) where
  pub kept_loop : (slot : ℕ) (l : FrameLoop) → AreSeated loops columns h xs → AreSeated (slice_set loops slot l) columns h xs
  kept_loop slot l kept = record { listed = kept.listed; housed = kept.housed; known = kept.known; once = kept.once; loops_stand = as_many loops slot l ∙ kept.loops_stand; columns_stand = kept.columns_stand }

  pub kept_columns : (new : List (List (List Column))) → length new ≡ length columns → AreSeated loops columns h xs → AreSeated loops new h xs
  kept_columns new same kept = record { listed = kept.listed; housed = kept.housed; known = kept.known; once = kept.once; loops_stand = kept.loops_stand; columns_stand = same ∙ kept.columns_stand }

  pub kept_shown : (slot : ℕ) (shown : List (List Column)) → AreSeated loops columns h xs → AreSeated loops (slice_set columns slot shown) h xs
  kept_shown slot shown kept = kept_columns (slice_set columns slot shown) (as_many columns slot shown) kept

pub kept_own : (f : SlotFrames) (columns : List (List (List Column))) (h : Handles) (xs : List Session) (row : List Slot) (session : ℕ) (l : FrameLoop) (shown : List (List Column)) → AreSeated f.loops columns h xs
    → AreSeated (with_own_loop f row session l).loops (with_own_columns columns row session shown) h xs
kept_own f columns h xs row session l shown kept = by (place_in row session)
  where
    by : (o : Option ℕ) → AreSeated (with_loop_on f o l).loops (with_in_slot columns o shown) h xs
    by None = kept
    by (Some slot) = kept_shown (slice_set f.loops slot l) columns h xs slot shown (kept_loop f.loops columns h xs slot l kept)

pub kept_begun : (f : SlotFrames) (columns : List (List (List Column))) (new : SlotFrames) (h : Handles) (xs : List Session) (slot : ℕ) → new ≡ (if (loop_at f slot).has_waited then with_loop_at f slot (begun_loop (loop_at f slot)) else f) → AreSeated f.loops columns h xs
    → AreSeated new.loops columns h xs
kept_begun f columns new h xs slot told kept = rw told (by (loop_at f slot).has_waited)
  where
    by : (b : Bool) → AreSeated (if b then with_loop_at f slot (begun_loop (loop_at f slot)) else f).loops columns h xs
    by true = kept_loop f.loops columns h xs slot (begun_loop (loop_at f slot)) kept
    by false = kept

-- ---- a handle of another kind comes or goes

pub kept_given : (loops : List FrameLoop) (columns : List (List (List Column))) (h new : Handles) (xs : List Session) (kind : Kind) (parent given : ℕ) → new ≡ with_handle h kind parent given → (with_handle h kind parent given).sessions ≡ h.sessions
    → (given ≢ 0) × (was_given h given ≡ false) → AreSeated loops columns h xs → AreSeated loops columns new xs
kept_given loops columns h new xs kind parent given is same fresh kept = rw is (record {
  listed = λ k. kept.listed k ∙ ap (λ (row : List Slot). not (k == 0) && has row k) (sym same);
  housed = subst (λ (row : List Slot). AreHoused (map (λ x. x.handle) xs) row) (sym same) kept.housed;
  known = known_put h kind parent given kept.known;
  once = once_put h kind parent given fresh kept.known kept.once;
  loops_stand = kept.loops_stand;
  columns_stand = kept.columns_stand;
})

pub kept_alone : (loops : List FrameLoop) (columns : List (List (List Column))) (h new : Handles) (xs : List Session) (kind : Kind) (gone : ℕ) → new ≡ without_alone h kind gone → (without_alone h kind gone).sessions ≡ h.sessions → AreSeated loops columns h xs → AreSeated loops columns new xs
kept_alone loops columns h new xs kind gone is same kept = rw is (record {
  listed = λ k. kept.listed k ∙ ap (λ (row : List Slot). not (k == 0) && has row k) (sym same);
  housed = subst (λ (row : List Slot). AreHoused (map (λ x. x.handle) xs) row) (sym same) kept.housed;
  known = known_alone h kind gone kept.known;
  once = once_alone h kind gone kept.once;
  loops_stand = kept.loops_stand;
  columns_stand = kept.columns_stand;
})

-- ---- a session more

pub kept_session : (loops : List FrameLoop) (columns : List (List (List Column))) (h new : Handles) (xs ys : List Session) (x : Session) (instance given : ℕ) → has_room h kind.Session ≡ true → new ≡ with_handle h kind.Session instance given → x.handle ≡ given → (given == 0) ≡ false
    → (given ≢ 0) × (was_given h given ≡ false) → ys ≡ xs ++ x ∷ [] → AreSeated loops columns h xs → AreSeated loops columns new ys
kept_session loops columns h new xs ys x instance given room is named nz fresh more kept =
    let listed = listed_give h new xs ys x instance given room is named nz more kept.listed in
    record {
      listed = listed;
      housed = rw (is, more, names_more (λ (y : Session). y.handle) xs x, named) (housed_more (map (λ y. y.handle) xs) h.sessions given instance kept.housed nz room);
      known = rw is (known_put h kind.Session instance given kept.known);
      once = rw is (once_put h kind.Session instance given fresh kept.known kept.once);
      loops_stand = kept.loops_stand;
      columns_stand = kept.columns_stand;
    }

-- its handle is live
pub live_given : (h new : Handles) (instance given : ℕ) → has_room h kind.Session ≡ true → new ≡ with_handle h kind.Session instance given → (given == 0) ≡ false → is_live new kind.Session given ≡ true
live_given h new instance given room is nz = rw (is, nz) (has_new (record { handle = given; parent = instance }) h.sessions room)

module _ (f : SlotFrames) (columns : List (List (List Column))) (h : Handles) (xs : List Session) (instance given : ℕ) (nz : (given == 0) ≡ false) (fresh : was_given h given ≡ false) (kept : AreSeated f.loops columns h xs) where
  abbrev row : List Slot
  row = (with_handle h kind.Session instance given).sessions

  abbrev loops : List FrameLoop
  loops = (with_own_loop f row given new_loop).loops

  abbrev shown : List (List (List Column))
  shown = with_own_columns columns row given no_columns

  loops_are : (o : Option ℕ) → (with_loop_on f o new_loop).loops ≡ with_in_slot f.loops o new_loop
  loops_are None = refl
  loops_are (Some slot) = refl

  absent : has h.sessions given ≡ false
  absent = (kept.known given nz fresh).sessions

  new_seat : (x : Session) → x.handle ≡ given → x.frame_loop ≡ new_loop → x.columns ≡ no_columns → seat loops shown row x ≡ x
  new_seat x named new bare =
      let here : in_slot new_loop loops (place_in row x.handle) ≡ x.frame_loop =
      ap (λ (k : ℕ). in_slot new_loop loops (place_in row k)) named ∙ ap (λ (ls : List FrameLoop). in_slot new_loop ls (place_in row given)) (loops_are (place_in row given)) ∙ in_new new_loop f.loops (place_in row given) ∙ sym new in
      let nothing : in_slot no_columns shown (place_in row x.handle) ≡ x.columns = ap (λ (k : ℕ). in_slot no_columns shown (place_in row k)) named ∙ in_new no_columns columns (place_in row given) ∙ sym bare in
      ap (λ (l : FrameLoop). with_frame_loop l (seat loops shown row x)) here ∙ ap (λ (c : List (List Column)). with_columns c x) nothing

  is_another : (k : ℕ) → is_some (session_at xs k) ≡ true → k ≡ given → ⊥
  is_another k there same = true≢false (sym (live_there h given (subst (λ (n : ℕ). is_live h kind.Session n ≡ true) same (sym (kept.listed k) ∙ there))) ∙ absent)

  others : seated loops shown row xs ≡ seated f.loops columns h.sessions xs
  others = same_seats f.loops loops columns shown h.sessions row xs (λ k there.
      let apart = is_another k there in
      let live = sym (kept.listed k) ∙ there in
      let differ : (given == k) ≡ false = is_false (given == k) (λ e. apart (sym (same_key given k e))) in
      let stays = stays_given (record { handle = given; parent = instance }) h.sessions k (live_named h k live) differ in (
        ap (λ (ls : List FrameLoop). in_slot new_loop ls (place_in row k)) (loops_are (place_in row given)) ∙ others_keep new_loop row given f.loops new_loop k apart ∙ ap (λ (o : Option ℕ). in_slot new_loop f.loops o) stays,
        others_keep no_columns row given columns no_columns k apart ∙ ap (λ (o : Option ℕ). in_slot no_columns columns o) stays,
      ))

  -- it has a new loop and shows nothing, and the others keep what they have
  pub given_seated : (new : Handles) (ys : List Session) (x : Session) → new ≡ with_handle h kind.Session instance given → x.handle ≡ given → x.frame_loop ≡ new_loop → x.columns ≡ no_columns → ys ≡ xs ++ x ∷ []
      → seated (with_own_loop f new.sessions given new_loop).loops (with_own_columns columns new.sessions given no_columns) new.sessions ys ≡ seated f.loops columns h.sessions xs ++ x ∷ []
  given_seated new ys x is named loop bare more =
      rw (is, more)
      (seated_more loops shown row xs x ∙ ap (λ (zs : List Session). zs ++ seat loops shown row x ∷ []) others ∙ ap (λ (y : Session). seated f.loops columns h.sessions xs ++ y ∷ []) (new_seat x named loop bare))

-- ---- handles are destroyed

-- a session that is left was listed, and is live
left_live : (h : Handles) (gone : List ℕ) (xs : List Session) (k : ℕ) → is_some (session_at (map (without_sets gone) (still_live h xs)) k) ≡ true → is_live h kind.Session k ≡ true
left_live h gone xs k there =
    (both_of (is_live h kind.Session k) (is_some (session_at xs k))
    (sym (found_left (λ (x : Session). x.handle) (λ n. is_live h kind.Session n) xs k) ∙ sym (found_map (λ (x : Session). x.handle) (without_sets gone) (λ x. refl) (still_live h xs) k) ∙ there)).0

left_then : (h : Handles) (gone : List ℕ) (xs : List Session) → map (λ x. with_columns (left_columns (has_action h.actions) x.columns) x) (map (without_sets gone) xs) ≡ map (left_session h gone) xs
left_then h gone [] = refl
left_then h gone (x ∷ xs) = ap (λ (ys : List Session). left_session h gone x ∷ ys) (left_then h gone xs)

-- those that are left keep what their slots keep, but for what actions that went showed in them
pub left_seated : (loops : List FrameLoop) (columns : List (List (List Column))) (h : Handles) (handle : ℕ) (xs : List Session) → StandOnce h
    → map (λ x. with_columns (left_columns (has_action (without h handle).actions) x.columns) x) (seated loops columns (without h handle).sessions (map (without_sets (destroyed_by h handle)) (still_live (without h handle) xs)))
    ≡ sessions_left (without h handle) (destroyed_by h handle) (seated loops columns h.sessions xs)
left_seated loops columns h handle xs once =
    let gone = destroyed_by h handle in
    ap (λ (ys : List Session). map (λ x. with_columns (left_columns (has_action (without h handle).actions) x.columns) x) ys)
    (same_seats loops loops columns columns h.sessions (without h handle).sessions (map (without_sets gone) (still_live (without h handle) xs)) (λ k there.
    let live = left_live (without h handle) gone xs k there in
    let nz = live_named (without h handle) k live in
    let stays = stays_left handle (destroyed_instances h handle) h.sessions k nz (stands_once h k once nz) (live_there (without h handle) k live) in
    (ap (λ (o : Option ℕ). in_slot new_loop loops o) stays, ap (λ (o : Option ℕ). in_slot no_columns columns o) stays))
    ∙ sym (forgotten_seated loops columns h.sessions gone (still_live (without h handle) xs))
    ∙ ap (λ (ys : List Session). map (without_sets gone) ys) (sym (filtered_seated loops columns h.sessions (λ n. is_live (without h handle) kind.Session n) xs)))
    ∙ left_then (without h handle) gone (still_live (without h handle) (seated loops columns h.sessions xs))

counted_none : (p : ℕ → Bool) (xs : List Session) (k : ℕ) → p k ≡ false → count_listed (map (λ x. x.handle) (filter (λ x. p x.handle) xs)) k ≡ 0
counted_none p [] k away = refl
counted_none p (x ∷ xs) k away = by (p x.handle) refl (x.handle == k) refl (counted_none p xs k away)
  where
    by : (b : Bool) → p x.handle ≡ b → (c : Bool) → (x.handle == k) ≡ c → count_listed (map (λ y. y.handle) (filter (λ y. p y.handle) xs)) k ≡ 0
        → count_listed (map (λ y. y.handle) (if b then x ∷ filter (λ y. p y.handle) xs else filter (λ y. p y.handle) xs)) k ≡ 0
    by true eb true ec more = absurd (true≢false (sym eb ∙ subst (λ (n : ℕ). p n ≡ false) (sym (same_key x.handle k ec)) away))
    by true eb false ec more = rw ec more
    by false eb c ec more = more

counted_fewer : (p : ℕ → Bool) (xs : List Session) (k : ℕ) → count_listed (map (λ x. x.handle) (filter (λ x. p x.handle) xs)) k ≤ count_listed (map (λ x. x.handle) xs) k
counted_fewer p [] k = omega arith
counted_fewer p (x ∷ xs) k = by (p x.handle) (x.handle == k) refl (counted_fewer p xs k)
  where
    by : (b c : Bool) → (x.handle == k) ≡ c → count_listed (map (λ y. y.handle) (filter (λ y. p y.handle) xs)) k ≤ count_listed (map (λ y. y.handle) xs) k
        → count_listed (map (λ y. y.handle) (if b then x ∷ filter (λ y. p y.handle) xs else filter (λ y. p y.handle) xs)) k ≤ (if c then count_listed (map (λ y. y.handle) xs) k + 1 else count_listed (map (λ y. y.handle) xs) k)
    by true true ec more = rw ec (omega (arith, more))
    by true false ec more = rw ec more
    by false true ec more = omega (arith, more)
    by false false ec more = more

all_named : (p : ℕ → Bool) (xs : List Session) → list_all (λ n. not (n == 0)) (map (λ x. x.handle) xs) ≡ true → list_all (λ n. not (n == 0)) (map (λ x. x.handle) (filter (λ x. p x.handle) xs)) ≡ true
all_named p [] all = refl
all_named p (x ∷ xs) all = let two = both_of (not (x.handle == 0)) (list_all (λ n. not (n == 0)) (map (λ y. y.handle) xs)) all in by (p x.handle) two.0 (all_named p xs two.1)
  where
    by : (b : Bool) → not (x.handle == 0) ≡ true → list_all (λ n. not (n == 0)) (map (λ y. y.handle) (filter (λ y. p y.handle) xs)) ≡ true
        → list_all (λ n. not (n == 0)) (map (λ y. y.handle) (if b then x ∷ filter (λ y. p y.handle) xs else filter (λ y. p y.handle) xs)) ≡ true
    by true here more = rw here more
    by false here more = more

forgotten_names : (gone : List ℕ) (xs : List Session) → map (λ x. x.handle) (map (without_sets gone) xs) ≡ map (λ x. x.handle) xs
forgotten_names gone [] = refl
forgotten_names gone (x ∷ xs) = ap (λ (ns : List ℕ). x.handle ∷ ns) (forgotten_names gone xs)

pub kept_left : (loops : List FrameLoop) (columns : List (List (List Column))) (h : Handles) (handle : ℕ) (xs : List Session) → AreSeated loops columns h xs → AreSeated loops columns (without h handle) (map (without_sets (destroyed_by h handle)) (still_live (without h handle) xs))
kept_left loops columns h handle xs kept = record {
  listed = λ k.
      found_map (λ (x : Session). x.handle) (without_sets (destroyed_by h handle)) (λ x. refl) (still_live (without h handle) xs) k
      ∙ sym (found_map (λ (x : Session). x.handle) (left_session (without h handle) (destroyed_by h handle)) (λ x. refl) (still_live (without h handle) xs) k) ∙ listed_left h handle xs kept.listed k;
  housed = subst (λ (ns : List ℕ). AreHoused ns (without h handle).sessions) (sym (forgotten_names (destroyed_by h handle) (still_live (without h handle) xs))) (record {
    named = all_named (λ n. is_live (without h handle) kind.Session n) xs kept.housed.named;
    housed = λ k nz. by k nz (is_live (without h handle) kind.Session k) refl;
  });
  known = known_without h handle kept.known;
  once = once_without h handle kept.once;
  loops_stand = kept.loops_stand;
  columns_stand = kept.columns_stand;
}
  where
    by : (k : ℕ) → (k == 0) ≡ false → (b : Bool) → is_live (without h handle) kind.Session k ≡ b → count_listed (map (λ x. x.handle) (still_live (without h handle) xs)) k ≤ count_in (without h handle).sessions k
    by k nz true live =
        let fewer = counted_fewer (λ n. is_live (without h handle) kind.Session n) xs k in
        let before = kept.housed.housed k nz in
        let one = stands_once h k kept.once nz in
        let here = counted (without h handle).sessions k (live_there (without h handle) k live) in
        omega (arith, fewer, before, one, here)
    by k nz false gone = let none = counted_none (λ n. is_live (without h handle) kind.Session n) xs k gone in omega (arith, none)
