-- The sessions with what their slots keep: what is found among them, and what changes of sessions, slots and handles come to.
use Rattle.std.proofs.Common.{◌≡◌, ◌≤◌, ◌<◌, ◌+◌, ◌==◌, ℕ, suc, Bool, true, false, List, [], ◌∷◌, ◌++◌, length, map, Option, Some, None, option_map, refl, sym, ap, subst, ◌∙◌, arith, true≢false}
use Rattle.std.specs.Prelude.{zero, slice_index_or, slice_set, is_some, max, replicate, if◌then◌else◌}
use Rattle.std.specs.List.{position_from, filter}
use Rattle.xr_types.specs.declared.handles.Slot.{Slot}
use Rattle.xr_types.specs.declared.handles.TheConstants.{ACTIONS}
use Rattle.xr_types.specs.declared.input.Column.{Column}
use Rattle.xr_model.specs.machine.Events.{Queue}
use Rattle.xr_model.specs.machine.Frames.{FrameLoop, new_loop}
use Rattle.xr_model.specs.machine.HandlePlaces.{place_in}
use Rattle.xr_model.specs.machine.LiveSessions.{Session, session_at, life_in, loop_in, attached_in, shown_in, with_columns, with_life, with_frame_loop, with_session_at, without_sets, each_changed, told_states, told_changes}
use Rattle.xr_model.specs.machine.Sync.{each_from, inactive_row, left_columns, no_columns}
use Rattle.xr_model.specs.machine.SessionLife.{Changed}
use Rattle.xr_model.specs.machine.Target.{is_candidate, target_of}
use Rattle.xr_model.proofs.Listed.{handle_of}
use Rattle.xr_model.proofs.Rows.{itself, same_key}
use Rattle.xr_core.specs.inside.Changes.{place_at, ordinal_in}
use Rattle.xr_core.specs.inside.Getters.{look}
use Rattle.xr_core.specs.inside.Housed.{count_listed}
use Rattle.xr_core.specs.inside.Seats.{in_slot, seat, seated}
use Rattle.xr_core.proofs.Seats.{own_changes, others_stay}

module _ (loops : List FrameLoop) (columns : List (List (List Column))) (row : List Slot) where
  -- ---- what is found

  pub at_seated : (xs : List Session) (k : ℕ) → session_at (seated loops columns row xs) k ≡ option_map (seat loops columns row) (session_at xs k)
  at_seated [] k = refl
  at_seated (x ∷ xs) k = by (x.handle == k) (at_seated xs k)
    where
      by : (b : Bool) → session_at (seated loops columns row xs) k ≡ option_map (seat loops columns row) (session_at xs k) → (if b then Some (seat loops columns row x) else session_at (seated loops columns row xs) k) ≡ option_map (seat loops columns row) (if b then Some x else session_at xs k)
      by true more = refl
      by false more = more

  -- what doesn't look at loops and columns is the same of a session with its own
  kept_in : {T : Type 0} (g : Option Session → T) → ((o : Option Session) → g (option_map (seat loops columns row) o) ≡ g o) → (xs : List Session) (k : ℕ) → g (session_at (seated loops columns row xs) k) ≡ g (session_at xs k)
  kept_in g same xs k = ap g (at_seated xs k) ∙ same (session_at xs k)

  same_life : (o : Option Session) → life_in (option_map (seat loops columns row) o) ≡ life_in o
  same_life None = refl
  same_life (Some x) = refl

  same_attached : (o : Option Session) → attached_in (option_map (seat loops columns row) o) ≡ attached_in o
  same_attached None = refl
  same_attached (Some x) = refl

  same_ordinal : (o : Option Session) → ordinal_in (option_map (seat loops columns row) o) ≡ ordinal_in o
  same_ordinal None = refl
  same_ordinal (Some x) = refl

  same_some : (o : Option Session) → is_some (option_map (seat loops columns row) o) ≡ is_some o
  same_some None = refl
  same_some (Some x) = refl

  same_look : (o : Option Session) → option_map look (option_map (seat loops columns row) o) ≡ option_map look o
  same_look None = refl
  same_look (Some x) = refl

  pub look_seated : (xs : List Session) (k : ℕ) → option_map look (session_at (seated loops columns row xs) k) ≡ option_map look (session_at xs k)
  look_seated = kept_in (option_map look) same_look

  pub life_seated : (xs : List Session) (k : ℕ) → life_in (session_at (seated loops columns row xs) k) ≡ life_in (session_at xs k)
  life_seated = kept_in life_in same_life

  pub attached_seated : (xs : List Session) (k : ℕ) → attached_in (session_at (seated loops columns row xs) k) ≡ attached_in (session_at xs k)
  attached_seated = kept_in attached_in same_attached

  pub ordinal_seated : (xs : List Session) (k : ℕ) → ordinal_in (session_at (seated loops columns row xs) k) ≡ ordinal_in (session_at xs k)
  ordinal_seated = kept_in ordinal_in same_ordinal

  pub some_seated : (xs : List Session) (k : ℕ) → is_some (session_at (seated loops columns row xs) k) ≡ is_some (session_at xs k)
  some_seated = kept_in is_some same_some

  placed_from : (i : ℕ) (xs : List Session) (k : ℕ) → position_from (λ x. x.handle == k) i (seated loops columns row xs) ≡ position_from (λ x. x.handle == k) i xs
  placed_from i [] k = refl
  placed_from i (x ∷ xs) k = ap (λ (o : Option ℕ). if x.handle == k then Some i else o) (placed_from (i + 1) xs k)

  pub place_seated : (xs : List Session) (k : ℕ) → place_at (seated loops columns row xs) k ≡ place_at xs k
  place_seated xs k = placed_from 0 xs k

  pub length_seated : (xs : List Session) → length (seated loops columns row xs) ≡ length xs
  length_seated [] = refl
  length_seated (x ∷ xs) = ap (λ n. suc n) (length_seated xs)

  -- what actions show in a listed one is what its slot keeps
  pub shown_seated : (xs : List Session) (k : ℕ) → is_some (session_at xs k) ≡ true → shown_in (session_at (seated loops columns row xs) k) ≡ in_slot no_columns columns (place_in row k)
  shown_seated xs k there = ap shown_in (at_seated xs k) ∙ by (session_at xs k) refl there
    where
      by : (o : Option Session) → session_at xs k ≡ o → is_some o ≡ true → shown_in (option_map (seat loops columns row) o) ≡ in_slot no_columns columns (place_in row k)
      by None eo there = absurd (true≢false (sym there))
      by (Some x) eo there = ap (λ (n : ℕ). in_slot no_columns columns (place_in row n)) (handle_of xs k x eo)

  pub target_seated : (xs : List Session) → target_of (seated loops columns row xs) ≡ target_of xs
  target_seated [] = refl
  target_seated (x ∷ xs) = ap (λ (n : ℕ). if is_candidate x.life then max x.ordinal n else n) (target_seated xs)

  -- ---- sessions change, and keep what their slots keep

  pub changed_seated : (handle : ℕ) (f : Session → Session) → ((x : Session) → f (seat loops columns row x) ≡ seat loops columns row (f x)) → (xs : List Session)
      → with_session_at handle f (seated loops columns row xs) ≡ seated loops columns row (with_session_at handle f xs)
  changed_seated handle f same [] = refl
  changed_seated handle f same (x ∷ xs) = by (x.handle == handle) (changed_seated handle f same xs)
    where
      by : (b : Bool) → with_session_at handle f (seated loops columns row xs) ≡ seated loops columns row (with_session_at handle f xs)
          → (if b then f (seat loops columns row x) ∷ seated loops columns row xs else seat loops columns row x ∷ with_session_at handle f (seated loops columns row xs)) ≡ seated loops columns row (if b then f x ∷ xs else x ∷ with_session_at handle f xs)
      by true more = ap (λ (y : Session). y ∷ seated loops columns row xs) (same x)
      by false more = ap (λ (ys : List Session). seat loops columns row x ∷ ys) more

  pub each_seated : (f : Session → Changed) → ((x : Session) → f (seat loops columns row x) ≡ f x) → (xs : List Session) → each_changed f (seated loops columns row xs) ≡ seated loops columns row (each_changed f xs)
  each_seated f same [] = refl
  each_seated f same (x ∷ xs) = ap (λ (c : Changed). with_life c.life (seat loops columns row x) ∷ each_changed f (seated loops columns row xs)) (same x) ∙ ap (λ (ys : List Session). seat loops columns row (with_life (f x).life x) ∷ ys) (each_seated f same xs)

  pub told_seated : (q : Queue) (f : Session → Changed) → ((x : Session) → f (seat loops columns row x) ≡ f x) → (xs : List Session) → told_changes q f (seated loops columns row xs) ≡ told_changes q f xs
  told_seated q f same [] = refl
  told_seated q f same (x ∷ xs) = ap (λ (c : Changed). told_changes (told_states q x.ordinal x.handle c.through) f (seated loops columns row xs)) (same x) ∙ told_seated (told_states q x.ordinal x.handle (f x).through) f same xs

  pub forgotten_seated : (gone : List ℕ) (xs : List Session) → map (without_sets gone) (seated loops columns row xs) ≡ seated loops columns row (map (without_sets gone) xs)
  forgotten_seated gone [] = refl
  forgotten_seated gone (x ∷ xs) = ap (λ (ys : List Session). seat loops columns row (without_sets gone x) ∷ ys) (forgotten_seated gone xs)

  pub filtered_seated : (p : ℕ → Bool) (xs : List Session) → filter (λ x. p x.handle) (seated loops columns row xs) ≡ seated loops columns row (filter (λ x. p x.handle) xs)
  filtered_seated p [] = refl
  filtered_seated p (x ∷ xs) = by (p x.handle) (filtered_seated p xs)
    where
      by : (b : Bool) → filter (λ x. p x.handle) (seated loops columns row xs) ≡ seated loops columns row (filter (λ x. p x.handle) xs)
          → (if b then seat loops columns row x ∷ filter (λ x. p x.handle) (seated loops columns row xs) else filter (λ x. p x.handle) (seated loops columns row xs)) ≡ seated loops columns row (if b then x ∷ filter (λ x. p x.handle) xs else filter (λ x. p x.handle) xs)
      by true more = ap (λ (ys : List Session). seat loops columns row x ∷ ys) more
      by false more = more

  -- ---- what the slot of a session keeps

  pub own_loop : (xs : List Session) (session slot : ℕ) → place_in row session ≡ Some slot → is_some (session_at xs session) ≡ true → loop_in (session_at (seated loops columns row xs) session) ≡ slice_index_or loops slot new_loop
  own_loop xs session slot placed there = ap loop_in (at_seated xs session) ∙ by (session_at xs session) refl there
    where
      by : (o : Option Session) → session_at xs session ≡ o → is_some o ≡ true → loop_in (option_map (seat loops columns row) o) ≡ slice_index_or loops slot new_loop
      by None eo there = absurd (true≢false (sym there))
      by (Some x) eo there = ap (λ (k : ℕ). in_slot new_loop loops (place_in row k)) (handle_of xs session x eo) ∙ ap (λ (o : Option ℕ). in_slot new_loop loops o) placed

  pub own_columns : (xs : List Session) (session slot : ℕ) → place_in row session ≡ Some slot → is_some (session_at xs session) ≡ true → shown_in (session_at (seated loops columns row xs) session) ≡ slice_index_or columns slot no_columns
  own_columns xs session slot placed there = ap shown_in (at_seated xs session) ∙ by (session_at xs session) refl there
    where
      by : (o : Option Session) → session_at xs session ≡ o → is_some o ≡ true → shown_in (option_map (seat loops columns row) o) ≡ slice_index_or columns slot no_columns
      by None eo there = absurd (true≢false (sym there))
      by (Some x) eo there = ap (λ (k : ℕ). in_slot no_columns columns (place_in row k)) (handle_of xs session x eo) ∙ ap (λ (o : Option ℕ). in_slot no_columns columns o) placed

  -- nothing is shown where no session is listed
  pub none_shown : (xs : List Session) (session : ℕ) → is_some (session_at xs session) ≡ false → shown_in (session_at (seated loops columns row xs) session) ≡ no_columns
  none_shown xs session none = ap shown_in (at_seated xs session) ∙ by (session_at xs session) none
    where
      by : (o : Option Session) → is_some o ≡ false → shown_in (option_map (seat loops columns row) o) ≡ no_columns
      by None none = refl
      by (Some x) none = absurd (true≢false none)

-- ---- a slot changes

-- where what changes in the slots is what they keep of one session, this session changes
module _ (loops new_loops : List FrameLoop) (columns new_columns : List (List (List Column))) (row : List Slot) (session : ℕ) (f : Session → Session)
    (stays : (x : Session) → (x.handle ≡ session → ⊥) → seat new_loops new_columns row x ≡ seat loops columns row x) (changes : (x : Session) → x.handle ≡ session → seat new_loops new_columns row x ≡ f (seat loops columns row x)) where
  isnt : (k : ℕ) → (k == session) ≡ false → k ≡ session → ⊥
  isnt k other same = true≢false (sym (itself session) ∙ subst (λ (n : ℕ). (n == session) ≡ false) same other)

  all_stay : (xs : List Session) → count_listed (map (λ x. x.handle) xs) session ≡ 0 → seated new_loops new_columns row xs ≡ seated loops columns row xs
  all_stay [] none = refl
  all_stay (x ∷ xs) none = by (x.handle == session) refl none (all_stay xs)
    where
      by : (b : Bool) → (x.handle == session) ≡ b → (if b then count_listed (map (λ y. y.handle) xs) session + 1 else count_listed (map (λ y. y.handle) xs) session) ≡ 0
          → (count_listed (map (λ y. y.handle) xs) session ≡ 0 → seated new_loops new_columns row xs ≡ seated loops columns row xs) → seated new_loops new_columns row (x ∷ xs) ≡ seated loops columns row (x ∷ xs)
      by true eb none more = absurd (omega (arith, none))
      by false eb none more = ap (λ (y : Session). y ∷ seated new_loops new_columns row xs) (stays x (isnt x.handle eb)) ∙ ap (λ (ys : List Session). seat loops columns row x ∷ ys) (more none)

  slot_seated : (xs : List Session) → count_listed (map (λ x. x.handle) xs) session ≤ 1 → seated new_loops new_columns row xs ≡ with_session_at session f (seated loops columns row xs)
  slot_seated [] few = refl
  slot_seated (x ∷ xs) few = by (x.handle == session) refl few (slot_seated xs)
    where
      by : (b : Bool) → (x.handle == session) ≡ b → (if b then count_listed (map (λ y. y.handle) xs) session + 1 else count_listed (map (λ y. y.handle) xs) session) ≤ 1
          → (count_listed (map (λ y. y.handle) xs) session ≤ 1 → seated new_loops new_columns row xs ≡ with_session_at session f (seated loops columns row xs))
          → seated new_loops new_columns row (x ∷ xs) ≡ (if b then f (seat loops columns row x) ∷ seated loops columns row xs else seat loops columns row x ∷ with_session_at session f (seated loops columns row xs))
      by true eb few more = ap (λ (y : Session). y ∷ seated new_loops new_columns row xs) (changes x (same_key x.handle session eb)) ∙ ap (λ (ys : List Session). f (seat loops columns row x) ∷ ys) (all_stay xs (omega (arith, few)))
      by false eb few more = ap (λ (y : Session). y ∷ seated new_loops new_columns row xs) (stays x (isnt x.handle eb)) ∙ ap (λ (ys : List Session). seat loops columns row x ∷ ys) (more few)

module _ (loops : List FrameLoop) (columns : List (List (List Column))) (row : List Slot) (session slot : ℕ) (placed : place_in row session ≡ Some slot) where
  pub loop_seated : (l : FrameLoop) → slot < length loops → (xs : List Session) → count_listed (map (λ x. x.handle) xs) session ≤ 1 → seated (slice_set loops slot l) columns row xs ≡ with_session_at session (with_frame_loop l) (seated loops columns row xs)
  loop_seated l within =
      slot_seated loops (slice_set loops slot l) columns columns row session (with_frame_loop l)
      (λ x apart. ap (λ (m : FrameLoop). with_frame_loop m (seat loops columns row x)) (others_stay new_loop row session loops slot l x.handle placed apart))
      (λ x own. ap (λ (m : FrameLoop). with_frame_loop m (seat loops columns row x)) (ap (λ (k : ℕ). in_slot new_loop (slice_set loops slot l) (place_in row k)) own ∙ own_changes new_loop row session loops slot l placed within))

  pub columns_seated : (shown : List (List Column)) → slot < length columns → (xs : List Session) → count_listed (map (λ x. x.handle) xs) session ≤ 1
      → seated loops (slice_set columns slot shown) row xs ≡ with_session_at session (with_columns shown) (seated loops columns row xs)
  columns_seated shown within =
      slot_seated loops loops columns (slice_set columns slot shown) row session (with_columns shown)
      (λ x apart. ap (λ (m : List (List Column)). with_columns m (seat loops columns row x)) (others_stay no_columns row session columns slot shown x.handle placed apart))
      (λ x own. ap (λ (m : List (List Column)). with_columns m (seat loops columns row x)) (ap (λ (k : ℕ). in_slot no_columns (slice_set columns slot shown) (place_in row k)) own ∙ own_changes no_columns row session columns slot shown placed within))

-- where actions went, all slots are left alike
module _ (there : ℕ → Bool) where
  none_from : (n k : ℕ) → each_from (λ place row. if there place then row else inactive_row) n (replicate k inactive_row) ≡ replicate k inactive_row
  none_from n zero = refl
  none_from n (suc k) = by (there n) (none_from (n + 1) k)
    where
      by : (b : Bool) → each_from (λ place row. if there place then row else inactive_row) (n + 1) (replicate k inactive_row) ≡ replicate k inactive_row
          → (if b then inactive_row else inactive_row) ∷ each_from (λ place row. if there place then row else inactive_row) (n + 1) (replicate k inactive_row) ≡ inactive_row ∷ replicate k inactive_row
      by true more = ap (λ (rows : List (List Column)). inactive_row ∷ rows) more
      by false more = ap (λ (rows : List (List Column)). inactive_row ∷ rows) more

  slot_left : (columns : List (List (List Column))) (o : Option ℕ) → in_slot no_columns (map (left_columns there) columns) o ≡ left_columns there (in_slot no_columns columns o)
  slot_left columns None = sym (none_from 0 ACTIONS)
  slot_left [] (Some slot) = sym (none_from 0 ACTIONS)
  slot_left (c ∷ columns) (Some zero) = refl
  slot_left (c ∷ columns) (Some (suc slot)) = slot_left columns (Some slot)

  pub left_slots : (loops : List FrameLoop) (columns : List (List (List Column))) (row : List Slot) (xs : List Session)
      → seated loops (map (left_columns there) columns) row xs ≡ map (λ x. with_columns (left_columns there x.columns) x) (seated loops columns row xs)
  left_slots loops columns row [] = refl
  left_slots loops columns row (x ∷ xs) =
      ap (λ (shown : List (List Column)). with_columns shown (seat loops columns row x) ∷ seated loops (map (left_columns there) columns) row xs) (slot_left columns (place_in row x.handle))
      ∙ ap (λ (ys : List Session). with_columns (left_columns there (in_slot no_columns columns (place_in row x.handle))) (seat loops columns row x) ∷ ys) (left_slots loops columns row xs)

  pub as_many_left : (columns : List (List (List Column))) → length (map (left_columns there) columns) ≡ length columns
  as_many_left [] = refl
  as_many_left (c ∷ columns) = ap (λ n. suc n) (as_many_left columns)

-- ---- other slots and handles

-- where each handle has what it had, all sessions do
pub same_seats : (loops new_loops : List FrameLoop) (columns new_columns : List (List (List Column))) (row other : List Slot) (xs : List Session)
    → ((k : ℕ) → is_some (session_at xs k) ≡ true → (in_slot new_loop new_loops (place_in other k) ≡ in_slot new_loop loops (place_in row k)) × (in_slot no_columns new_columns (place_in other k) ≡ in_slot no_columns columns (place_in row k)))
    → seated new_loops new_columns other xs ≡ seated loops columns row xs
same_seats loops new_loops columns new_columns row other [] same = refl
same_seats loops new_loops columns new_columns row other (x ∷ xs) same =
    let own = same x.handle (rw (itself x.handle) refl) in
    ap (λ (m : FrameLoop). with_frame_loop m (seat loops new_columns other x) ∷ seated new_loops new_columns other xs) own.0
    ∙ ap (λ (shown : List (List Column)). with_columns shown (seat loops columns row x) ∷ seated new_loops new_columns other xs) own.1
    ∙ ap (λ (ys : List Session). seat loops columns row x ∷ ys) (same_seats loops new_loops columns new_columns row other xs (λ k there. same k (later (x.handle == k) k there)))
  where
    later : (b : Bool) (k : ℕ) → is_some (session_at xs k) ≡ true → is_some (if b then Some x else session_at xs k) ≡ true
    later true k there = refl
    later false k there = there

-- one session more
pub seated_more : (loops : List FrameLoop) (columns : List (List (List Column))) (row : List Slot) (xs : List Session) (x : Session) → seated loops columns row (xs ++ x ∷ []) ≡ seated loops columns row xs ++ seat loops columns row x ∷ []
seated_more loops columns row [] x = refl
seated_more loops columns row (y ∷ ys) x = ap (λ (zs : List Session). seat loops columns row y ∷ zs) (seated_more loops columns row ys x)
