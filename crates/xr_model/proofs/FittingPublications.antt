-- What is published in a legal history has room in words.
use Rattle.std.proofs.Common.{◌≡◌, ◌≤ℤ◌, ◌+◌, ◌-◌, ◌<◌, ◌≤◌, ◌==◌, ◌&&◌, ◌||◌, ◌++◌, ◌^◌, ℕ, ℤ, pos, negsuc, zero, suc, not, Bool, true, false, List, [], ◌∷◌, length, map, Option, Some, None, refl, sym, ap, ◌∙◌, arith, true≢false, subst}
use Rattle.std.proofs.lemmas.List.{length-map}
use Rattle.std.specs.Int.{w32}
use Rattle.std.specs.Prelude.{All, FitsSigned, nat_le, int_le, is_some, slice_get, slice_set, if◌then◌else◌, unwrap_or, option_map}
use Rattle.std.specs.List.{find, filter, list_all, list_any, position_from}
use Rattle.xr_types.specs.declared.device.DeviceEvent.{DeviceEvent}
use Rattle.xr_types.specs.declared.device.DeviceEvent.TheVariants as event
use Rattle.xr_types.specs.declared.handles.Kind.TheVariants as kind
use Rattle.xr_types.specs.declared.handles.Slot.{Slot}
use Rattle.xr_types.specs.declared.handles.TheConstants.{SESSIONS}
use Rattle.xr_types.specs.declared.input.Column.{Column}
use Rattle.xr_types.specs.declared.input.User.{User}
use Rattle.xr_types.specs.declared.limits.TheConstants.{MOST_ROW}
use Rattle.xr_types.specs.declared.session.SessionState.TheVariants.{Focused}
use Rattle.xr_types.specs.Device.{is_time, checks}
use Rattle.xr_types.specs.Users.{user_place}
use Rattle.xr_model.specs.machine.Destroyed.{has_action, left_session, without_handle}
use Rattle.xr_model.specs.machine.Handles.{has, is_live, is_among, destroyed_by, destroyed_parents, without}
use Rattle.xr_model.specs.machine.HandlePlaces.{place_in}
use Rattle.xr_model.specs.machine.Publication.{publication_of, shown_of, columns_in, has_set_of, shown_row, published_session, published_action}
use Rattle.xr_model.specs.machine.Refusals.{Refusal}
use Rattle.xr_model.specs.machine.Calls.{Entry}
use Rattle.xr_types.specs.declared.calls.Call.{Call}
use Rattle.xr_types.specs.declared.calls.Call.TheVariants as ask
use Rattle.xr_model.specs.machine.Rule.{Effect, refusal, unless_refused, told_on}
use Rattle.xr_model.specs.machine.Rules.Device.{behind_event, later_of}
use Rattle.xr_model.specs.machine.Rules.Session.{life_of, columns_of}
use Rattle.xr_model.specs.machine.Rules.Sets.{user_at, with_user, declared_by}
use Rattle.xr_model.specs.machine.Rules.Sync.{columns_synced, with_synced}
use Rattle.xr_model.specs.machine.SessionLife.{is_state}
use Rattle.xr_model.specs.machine.Sets.{Action, no_users}
use Rattle.xr_model.specs.machine.State.{CoreState, CellReads, Settings, State, opening}
use Rattle.xr_model.specs.machine.Sync.{no_columns}
use Rattle.xr_model.specs.machine.Machine.{core_step, reads_of, rule, step}
use Rattle.xr_model.specs.machine.History.{after, clocks_after, opening_clocks, IsLegalFrom}
use Rattle.xr_model.specs.laws.WordLaws.{ColumnFits, RowFits, ActionFits, SessionFits, has_good_numbers, PublicationsFit}
use Rattle.xr_model.proofs.FewActions.{actions_are_few}
use Rattle.xr_model.proofs.FewListed.{AreOwn, other_key}
use Rattle.xr_model.proofs.FittingColumns.{is_small, AreSmall, value_set, values_gone, column_fits, row_fits, ColumnsFit, synced_fit, left_fit}
use Rattle.xr_model.proofs.FrameOrder.{length_put, length_cleared}
use Rattle.xr_model.proofs.HandleSteps as handles
use Rattle.xr_model.proofs.Keyed.{all_found}
use Rattle.xr_model.proofs.Limits.{long_after, long_opening}
use Rattle.xr_model.proofs.LoopSums.{own_handles, listed_fit}
use Rattle.xr_model.proofs.LostSessions.{sessions_are_listed}
use Rattle.xr_model.proofs.StatesTold.{all_apart}
use Rattle.xr_model.proofs.Lists.{all_left, all_weaker}
use Rattle.xr_model.proofs.PublishedLast.{IsSound, sound_opening, sound_after}
use Rattle.xr_model.proofs.Rows.{both_of, itself, same_key}
use Rattle.xr_model.specs.machine.LiveSessions.{with_columns, shown_in, session_at, Session}
use Rattle.xr_model.proofs.SessionColumns.{columns_left}
use Rattle.xr_model.proofs.SessionLives.{found_at, where_left}
use Rattle.xr_model.specs.laws.ColumnLaws.{may_change_columns}
use Rattle.xr_model.proofs.ColumnsKept.{columns_stay}

-- ---- what an entry leaves of what is fitting

length_set : {T : Type 0} (xs : List T) (i : ℕ) (a : T) → length (slice_set xs i a) ≡ length xs
length_set [] i a = refl
length_set (x ∷ xs) zero a = refl
length_set (x ∷ xs) (suc i) a = ap suc (length_set xs i a)

with_user_length : (declared : List Bool) (o : Option User) → length (with_user declared o) ≡ length declared
with_user_length declared None = refl
with_user_length declared (Some who) = length_set declared (user_place who) true

declared_length : (atoms : List (List ℕ)) (subs : List ℕ) (declared : List Bool) → length (declared_by atoms declared subs) ≡ length declared
declared_length atoms [] declared = refl
declared_length atoms (sub ∷ subs) declared = declared_length atoms subs (with_user declared (user_at atoms sub)) ∙ with_user_length declared (user_at atoms sub)

all_more : {T : Type 0} (p : T → Bool) (xs : List T) (y : T) → list_all p xs ≡ true → p y ≡ true → list_all p (xs ++ y ∷ []) ≡ true
all_more p [] y each good = rw good refl
all_more p (x ∷ xs) y each good = let two = both_of (p x) (list_all p xs) each in rw two.0 (all_more p xs y two.1 good)

abbrev has_five : Action → Bool
has_five x = length x.declared == 5

-- what actions show in each session
abbrev pub EachFits : CoreState → Type 0
EachFits s = (session : ℕ) → ColumnsFit (columns_of s session)

pub record IsFitting (s : CoreState) : Type 0 where
  pub columns : EachFits s
  pub values : AreSmall s.device.inputs
  pub clock : is_time s.device.clock ≡ true
  pub declared : list_all has_five s.inputs.actions ≡ true
  pub places : length s.handles.actions ≡ 64

later_time : (a b : ℤ) → is_time a ≡ true → is_time b ≡ true → is_time (later_of a b) ≡ true
later_time a b one two = by (int_le a b)
  where
    by : (c : Bool) → is_time (if c then b else a) ≡ true
    by true = two
    by false = one

-- what an entry keeps beside the rows of handles
abbrev Fits : CoreState → Type 0
Fits s = AreSmall s.device.inputs × (is_time s.device.clock ≡ true) × (list_all has_five s.inputs.actions ≡ true)

kept : (s : CoreState) (o : Option Refusal) (x : Effect) → Fits s → (o ≡ None → Fits x.state) → Fits (unless_refused s o x).state
kept s None x same done = done refl
kept s (Some r) x same done = same

no_columns_fit : ColumnsFit no_columns
no_columns_fit = record { rows = refl; each = refl }

-- what actions show in a session fits, where it changes and where it stays
module _ (s : State) (e : Entry) (fits : EachFits s.core) (small : AreSmall s.core.device.inputs) (now : is_time s.core.device.clock ≡ true) where
  each_kept : (o : Option Refusal) (x : Effect) → EachFits x.state → EachFits (unless_refused s.core o x).state
  each_kept None x done = done
  each_kept (Some r) x done = fits

  gone_fit : (handle : ℕ) → EachFits (without_handle s.core handle)
  gone_fit handle session = subst (λ (o : Option (List (List Column))). ColumnsFit (unwrap_or o no_columns)) (sym (columns_left s.core handle session)) (by (is_live (without s.core.handles handle) kind.Session session) (session_at s.core.sessions session) (fits session))
    where
      by : (b : Bool) (o : Option Session) → ColumnsFit (shown_in o)
          → ColumnsFit (unwrap_or (option_map (λ (x : Session). x.columns) (option_map (left_session (without s.core.handles handle) (destroyed_by s.core.handles handle)) (where_left b o))) no_columns)
      by true None fit = no_columns_fit
      by true (Some x) fit = left_fit (has_action (without s.core.handles handle).actions) x.columns fit
      by false o fit = no_columns_fit

  synced_fits : (session : ℕ) (is_focused : Bool) (active : List _) → ColumnsFit (columns_synced s.core is_focused active (columns_of s.core session))
  synced_fits session true active = let fit = fits session in search (synced_fit, small, now, fit)
  synced_fits session false active = no_columns_fit

  with_synced_fits : (session : ℕ) (is_focused : Bool) (active : List _) → EachFits (with_synced s.core session is_focused active)
  with_synced_fits session is_focused active k =
      subst (λ (o : Option Session). ColumnsFit (shown_in o)) (sym (found_at session k (with_columns (columns_synced s.core is_focused active (columns_of s.core session))) (λ x. refl) s.core.sessions))
      (by (session == k) (session_at s.core.sessions k) (fits k))
    where
      by : (b : Bool) (o : Option Session) → ColumnsFit (shown_in o)
          → ColumnsFit (shown_in (option_map (λ x. if b then with_columns (columns_synced s.core is_focused active (columns_of s.core session)) x else x) o))
      by b None fit = no_columns_fit
      by true (Some x) fit = synced_fits session is_focused active
      by false (Some x) fit = fit

  columns_step : EachFits (step s e).0.core
  columns_step = by e.call
    where
      still : (r : Call) (k : ℕ) → may_change_columns r k ≡ false → ColumnsFit (columns_of (step s (record e { call = r })).0.core k)
      still r k aside = subst ColumnsFit (sym (columns_stay s (record e { call = r }) k aside)) (fits k)

      by : (r : Call) → EachFits (step s (record e { call = r })).0.core
      by (ask.SyncActions session active) =
          let f = rule s.core (reads_of s (ask.SyncActions session active)) (record e { call = ask.SyncActions session active }) in
          each_kept (refusal e.short f) (told_on f.on f.effect) (with_synced_fits session (is_state (life_of s.core session).state Focused) active)
      by (ask.DestroyInstance instance) =
          let f = rule s.core (reads_of s (ask.DestroyInstance instance)) (record e { call = ask.DestroyInstance instance }) in
          each_kept (refusal e.short f) (told_on f.on f.effect) (gone_fit instance)
      by (ask.DestroySession session) =
          let f = rule s.core (reads_of s (ask.DestroySession session)) (record e { call = ask.DestroySession session }) in
          each_kept (refusal e.short f) (told_on f.on f.effect) (gone_fit session)
      by (ask.DestroyActionSet set) =
          let f = rule s.core (reads_of s (ask.DestroyActionSet set)) (record e { call = ask.DestroyActionSet set }) in
          each_kept (refusal e.short f) (told_on f.on f.effect) (gone_fit set)
      by (ask.DestroyAction action) =
          let f = rule s.core (reads_of s (ask.DestroyAction action)) (record e { call = ask.DestroyAction action }) in
          each_kept (refusal e.short f) (told_on f.on f.effect) (gone_fit action)
      by r = λ k. still r k refl

module _ (s : CoreState) (reads : CellReads) (e : Entry) (fits : Fits s) where
  gone : (handle : ℕ) → AreSmall s.device.inputs × (is_time s.device.clock ≡ true) × (list_all has_five (filter (λ x. not (is_among (destroyed_by s.handles handle) x.handle)) s.inputs.actions) ≡ true)
  gone handle = (fits.0, fits.1, all_left has_five has_five (λ x. not (is_among (destroyed_by s.handles handle) x.handle)) (λ x five stays. five) s.inputs.actions fits.2)

  events : (what : DeviceEvent) → checks what ≡ true → Fits (behind_event s what)
  events (event.Clock time) good = (fits.0, later_time s.device.clock time fits.1 good, fits.2)
  events (event.Profile who profile) good = (values_gone s.device.inputs who fits.0, fits.1, fits.2)
  events (event.Input who row value) good = (value_set s.device.inputs who row value (both_of (nat_le 1 row && nat_le row MOST_ROW) (is_small value) good).1 fits.0, fits.1, fits.2)
  events _ good = fits

  fits_step : has_good_numbers e.call ≡ true → Fits (core_step s reads e).0
  fits_step good = by e.call good
    where
      by : (r : Call) → has_good_numbers r ≡ true → Fits (core_step s reads (record e { call = r })).0
      by (ask.CreateAction set name type subs localized) good =
          let f = rule s reads (record e { call = ask.CreateAction set name type subs localized }) in
          kept s (refusal e.short f) (told_on f.on f.effect) fits (λ none. (fits.0, fits.1, all_more has_five s.inputs.actions _ fits.2 (rw (declared_length s.atoms subs no_users) refl)))
      by (ask.DestroyInstance instance) good =
          let f = rule s reads (record e { call = ask.DestroyInstance instance }) in
          kept s (refusal e.short f) (told_on f.on f.effect) fits (λ none. gone instance)
      by (ask.DestroySession session) good =
          let f = rule s reads (record e { call = ask.DestroySession session }) in
          kept s (refusal e.short f) (told_on f.on f.effect) fits (λ none. gone session)
      by (ask.DestroyActionSet set) good =
          let f = rule s reads (record e { call = ask.DestroyActionSet set }) in
          kept s (refusal e.short f) (told_on f.on f.effect) fits (λ none. gone set)
      by (ask.DestroyAction action) good =
          let f = rule s reads (record e { call = ask.DestroyAction action }) in
          kept s (refusal e.short f) (told_on f.on f.effect) fits (λ none. gone action)
      by (ask.Device what) good = events what good
      by r good =
          let f = rule s reads (record e { call = r }) in
          kept s (refusal e.short f) (told_on f.on f.effect) fits (λ none. fits)

-- the row of actions keeps its places
places_step : (s : CoreState) (reads : CellReads) (e : Entry) → length s.handles.actions ≡ 64 → length (core_step s reads e).0.handles.actions ≡ 64
places_step s reads e places = handles.kept_by_step (λ h. length h.actions ≡ 64) s reads e (record {
  same = places;
  instance = λ gives. places;
  session = λ gives instance live. places;
  set = λ gives instance live. places;
  action = λ gives set live. length_put (record { handle = e.given; parent = set }) s.handles.actions ∙ places;
  space = λ gives session live. places;
  chain = λ is gives session live. places;
  without = λ handle. length_cleared handle (destroyed_parents s.handles handle) s.handles.actions ∙ places;
  alone = λ space. places;
  chain_alone = λ chain. places;
})

fitting_step : (s : State) (e : Entry) → has_good_numbers e.call ≡ true → IsFitting s.core → IsFitting (step s e).0.core
fitting_step s e good fits =
    let three = fits_step s.core (reads_of s e.call) e (fits.values, fits.clock, fits.declared) good in
    record { columns = columns_step s e fits.columns fits.values fits.clock; values = three.0; clock = three.1; declared = three.2; places = places_step s.core (reads_of s e.call) e fits.places }

fitting_opening : (settings : Settings) → IsFitting (opening settings).core
fitting_opening settings = record { columns = λ session. no_columns_fit; values = refl; clock = refl; declared = refl; places = refl }

-- ---- what is published of a fitting state

small_fits : (z : ℤ) → is_small z ≡ true → FitsSigned w32 z
small_fits (pos n) small = let h = (both_of (int_le (negsuc 32767) (pos n)) (int_le (pos n) (pos 32768)) small).1 in record { sfits = grind (arith, h) }
small_fits (negsuc n) small = let h = (both_of (int_le (negsuc 32767) (negsuc n)) (int_le (negsuc n) (pos 32768)) small).0 in record { sfits = grind (arith, h) }

time_fits : (z : ℤ) → is_time z ≡ true → pos 0 ≤ℤ z
time_fits z time = let h = (both_of (int_le (pos 0) z) (int_le z (pos (2 ^ 62 - 1))) time).0 in grind (arith, h)

column_has_room : (c : Column) → column_fits c ≡ true → ColumnFits (shown_of c)
column_has_room c fits =
    let two = both_of (is_small c.x) (is_small c.y && is_time c.time) fits in
    let more = both_of (is_small c.y) (is_time c.time) two.1 in
    record { x = small_fits c.x two.0; y = small_fits c.y more.0; time = time_fits c.time more.1 }

cons_all : {T : Type 0} (P : T → Type 0) (x : T) (xs : List T) → P x → All P xs → All P (x ∷ xs)
cons_all P x xs first rest zero d within = first
cons_all P x xs first rest (suc k) d within = rest k d (omega (arith, within))

none_all : {T : Type 0} (P : T → Type 0) → All P []
none_all P k d within = absurd (omega (arith, within))

columns_have_room : (row : List Column) → list_all column_fits row ≡ true → All ColumnFits (map shown_of row)
columns_have_room [] each = none_all ColumnFits
columns_have_room (c ∷ row) each =
    let two = both_of (column_fits c) (list_all column_fits row) each in
    cons_all ColumnFits (shown_of c) (map shown_of row) (column_has_room c two.0) (columns_have_room row two.1)

-- what passes has a place in the list
placed : {T : Type 0} (p : T → Bool) (xs : List T) (k : ℕ) → list_any p xs ≡ true → (i : ℕ) × (position_from p k xs ≡ Some (k + i)) × (i < length xs)
placed p [] k is = absurd (true≢false (sym is))
placed p (x ∷ xs) k is = by (p x) is (placed p xs (k + 1))
  where
    by : (b : Bool) → b || list_any p xs ≡ true → (list_any p xs ≡ true → ((i : ℕ) × (position_from p (k + 1) xs ≡ Some (k + 1 + i)) × (i < length xs)))
        → (i : ℕ) × ((if b then Some k else position_from p (k + 1) xs) ≡ Some (k + i)) × (i < suc (length xs))
    by true is more = (0, ap Some (omega arith), omega arith)
    by false is more = let rest = more is in let less = rest.2 in (suc rest.0, rest.1 ∙ ap Some (omega arith), omega (arith, less))

there : {T : Type 0} (p : T → Bool) (xs : List T) (i : ℕ) → i < length xs → list_all p xs ≡ true → (x : T) × (slice_get xs i ≡ Some x) × (p x ≡ true)
there p [] i within each = absurd (omega (arith, within))
there p (x ∷ xs) zero within each = (x, refl, (both_of (p x) (list_all p xs) each).0)
there p (x ∷ xs) (suc i) within each = there p xs i (omega (arith, within)) (both_of (p x) (list_all p xs) each).1

-- what holds of each that is made of some
all_made : {S T : Type 0} (P : T → Type 0) (f : S → T) (xs : List S) → ((x : S) (k : ℕ) → slice_get xs k ≡ Some x → P (f x)) → All P (map f xs)
all_made P f [] each = none_all P
all_made P f (x ∷ xs) each = cons_all P (f x) (map f xs) (each x 0 refl) (all_made P f xs (λ y k at. each y (suc k) at))

-- what passes for all passes for one
one_of : {T : Type 0} (p : T → Bool) (xs : List T) (x : T) (k : ℕ) → list_all p xs ≡ true → slice_get xs k ≡ Some x → p x ≡ true
one_of p [] x k each at = cc
one_of p (y ∷ xs) x zero each at = let same : y ≡ x = cc in subst (λ z. p z ≡ true) same (both_of (p y) (list_all p xs) each).0
one_of p (y ∷ xs) x (suc k) each at = one_of p xs x k (both_of (p y) (list_all p xs) each).1 at

-- each listed session has a handle of its own, so that it is found by that
own_fits : (xs : List Session) → AreOwn (λ (x : Session). x.handle) xs → ((session : ℕ) → ColumnsFit (shown_in (session_at xs session))) → (x : Session) (k : ℕ) → slice_get xs k ≡ Some x → ColumnsFit x.columns
own_fits [] own each x k at = cc
own_fits (y ∷ xs) own each x zero at =
    let same : y ≡ x = cc in
    subst (λ (z : Session). ColumnsFit z.columns) same (subst (λ (o : Option Session). ColumnsFit (shown_in o)) (ap (λ (b : Bool). if b then Some y else session_at xs y.handle) (itself y.handle)) (each y.handle))
own_fits (y ∷ xs) own each x (suc k) at = own_fits xs own.1 others x k at
  where
    others : (session : ℕ) → ColumnsFit (shown_in (session_at xs session))
    others session = by (session_at xs session) refl
      where
        by : (o : Option Session) → session_at xs session ≡ o → ColumnsFit (shown_in o)
        by None eo = no_columns_fit
        by (Some z) eo =
            let apart = other_key (λ (x : Session). x.handle) y xs own.0 session (ap is_some eo) in
            subst (λ (o : Option Session). ColumnsFit (shown_in o)) (ap (λ (b : Bool). if b then Some y else session_at xs session) apart ∙ eo) (each session)

module _ (s : CoreState) (fits : IsFitting s) (own : AreOwn (λ (x : Session). x.handle) s.sessions) (live : list_all (λ x. is_live s.handles kind.Action x.handle) s.inputs.actions ≡ true) where
  -- the columns of a live action are six that fit
  row_there : (shown : List (List Column)) → ColumnsFit shown → (handle : ℕ) → is_live s.handles kind.Action handle ≡ true → row_fits (columns_in s.handles shown handle) ≡ true
  row_there shown shown_fits handle live =
      let two = both_of (not (handle == 0)) (has s.handles.actions handle) live in
      let place = placed (λ (x : Slot). x.handle == handle) s.handles.actions 0 two.1 in
      let less = place.2 in
      let row = there row_fits shown place.0 (rw (shown_fits.rows, sym fits.places) less) shown_fits.each in
      let at : place_in s.handles.actions handle ≡ Some place.0 = place.1 ∙ ap Some (omega arith) in
      rw (live, at, row.1) row.2

  row_has_room : (shown : List (List Column)) → ColumnsFit shown → (x : Action) → is_live s.handles kind.Action x.handle ≡ true → RowFits (shown_row s.handles shown x)
  row_has_room shown shown_fits x live =
      let two = both_of (length (columns_in s.handles shown x.handle) == 6) (list_all column_fits (columns_in s.handles shown x.handle)) (row_there shown shown_fits x.handle live) in
      record {
        six = length-map (columns_in s.handles shown x.handle) shown_of ∙ same_key (length (columns_in s.handles shown x.handle)) 6 two.0;
        each = columns_have_room (columns_in s.handles shown x.handle) two.1;
      }

  session_has_room : (x : Session) → ColumnsFit x.columns → SessionFits (length (map published_action s.inputs.actions)) (published_session s.handles s.inputs.actions x)
  session_has_room x shown_fits = record {
    attached = length-map s.inputs.actions (has_set_of x.attached) ∙ sym (length-map s.inputs.actions published_action);
    columns = length-map s.inputs.actions (shown_row s.handles x.columns) ∙ sym (length-map s.inputs.actions published_action);
    each = all_made RowFits (shown_row s.handles x.columns) s.inputs.actions (λ a k at. row_has_room x.columns shown_fits a (one_of (λ y. is_live s.handles kind.Action y.handle) s.inputs.actions a k live at));
  }

  sessions_have_room : All (SessionFits (length (map published_action s.inputs.actions))) (map (published_session s.handles s.inputs.actions) s.sessions)
  sessions_have_room =
      all_made (SessionFits (length (map published_action s.inputs.actions))) (published_session s.handles s.inputs.actions) s.sessions (λ x k at. session_has_room x (own_fits s.sessions own fits.columns x k at))

  actions_have_room : All ActionFits (map published_action s.inputs.actions)
  actions_have_room = all_made ActionFits published_action s.inputs.actions (λ a k at. record { declared = same_key (length a.declared) 5 (one_of has_five s.inputs.actions a k fits.declared at) })

-- each listed action is live
listed_live : (s : CoreState) → IsSound s → list_all (λ x. is_live s.handles kind.Action x.handle) s.inputs.actions ≡ true
listed_live s sound = all_weaker (λ x. is_some (find (λ y. y.handle == x.handle) s.inputs.actions)) (λ x. is_live s.handles kind.Action x.handle) (λ x found. sym (sound.kept.actions x.handle) ∙ found)
    s.inputs.actions (all_found (λ (x : Action). x.handle) s.inputs.actions s.inputs.actions (λ k found. found))

fitting_after : (s : State) (clocks : List ℤ) (es : List Entry) → IsLegalFrom s clocks es → list_all (λ e. has_good_numbers e.call) es ≡ true → IsFitting s.core → IsFitting (after s es).core
fitting_after s clocks [] legal good fits = fits
fitting_after s clocks (e ∷ es) legal good fits =
    let two = both_of (has_good_numbers e.call) (list_all (λ e. has_good_numbers e.call) es) good in
    fitting_after (step s e).0 (clocks_after clocks e (step s e).0) es legal.3 two.1 (fitting_step s e two.0 fits)

pub publications_fit : PublicationsFit
publications_fit settings es legal good =
    let s = (after (opening settings) es).core in
    let fits = fitting_after (opening settings) (opening_clocks settings) es legal good (fitting_opening settings) in
    let live = listed_live s (sound_after (opening settings) (opening_clocks settings) es legal (sound_opening settings)) in
    let apart = all_apart settings es legal in
    let own = own_handles s.sessions apart in
    let few = listed_fit s.handles s.sessions (sessions_are_listed settings es legal) apart in
    let sessions : length s.sessions ≤ SESSIONS = subst (λ (n : ℕ). length s.sessions ≤ n) (long_after (opening settings) es (long_opening settings) kind.Session) few in
    let some : length (publication_of s).sessions ≤ SESSIONS = rw (length-map s.sessions (published_session s.handles s.inputs.actions)) sessions in
    record {
      room = record { atoms = refl; few = omega (arith, some); sessions = sessions_have_room s fits own live; actions = actions_have_room s fits own live };
      few_sessions = some;
      few_actions = rw (length-map s.inputs.actions published_action) (actions_are_few settings es legal);
    }
