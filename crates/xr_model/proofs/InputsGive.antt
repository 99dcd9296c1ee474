-- What an input gives from its event on, when a column has changed, what an unfocused sync leaves, and what an action declares.
use Rattle.std.proofs.Common.{◌≡◌, ◌==◌, ◌&&◌, ◌||◌, ◌++◌, ℕ, ℤ, Bool, true, false, not, List, [], ◌∷◌, length, Option, Some, None, pos, slice_get, slice_set, unwrap_or, refl, sym, ap, subst, ◌∙◌, arith, true≢false}
use Rattle.std.specs.Prelude.{◌↔◌, flat_map, int_le, int_lt, if◌then◌else◌, option_map}
use Rattle.std.specs.List.{list_all, list_any}
use Rattle.std.specs.Ordering.{int_eq}
use Rattle.xr_types.specs.Code.{is_success}
use Rattle.xr_types.specs.InputNames.{is_digital, is_value}
use Rattle.xr_types.specs.InputValues.{clamped}
use Rattle.xr_types.specs.Users.{user_place}
use Rattle.xr_types.specs.declared.calls.Call.{Call}
use Rattle.xr_types.specs.declared.calls.Call.TheVariants as ask
use Rattle.xr_types.specs.declared.code.Code.TheVariants.{Success, SessionLossPending, SessionNotFocused}
use Rattle.xr_types.specs.declared.device.DeviceEvent.{DeviceEvent}
use Rattle.xr_types.specs.declared.device.DeviceEvent.TheVariants as event
use Rattle.xr_types.specs.declared.input.ActiveSet.{ActiveSet}
use Rattle.xr_types.specs.declared.input.Column.{Column}
use Rattle.xr_types.specs.declared.input.User.{User}
use Rattle.xr_types.specs.declared.input.User.TheVariants as user
use Rattle.xr_types.specs.declared.session.SessionState.{SessionState}
use Rattle.xr_types.specs.declared.session.SessionState.TheVariants.{Idle, Ready, Synchronized, Visible, Focused, Stopping, LossPending, Exiting}
use Rattle.xr_model.specs.machine.Calls.{Entry}
use Rattle.xr_model.specs.machine.Inputs.{value_at, is_pressed_at}
use Rattle.xr_types.specs.declared.users.TheConstants.{USERS}
use Rattle.xr_model.specs.machine.Rule.{Effect}
use Rattle.xr_model.specs.machine.Rules.Session.{life_of, columns_of}
use Rattle.xr_model.specs.machine.Rules.Sets.{declared_by, user_at, with_user}
use Rattle.xr_model.specs.machine.Rules.Sync.{item_checks, synced_code, with_synced}
use Rattle.xr_model.specs.machine.SessionLife.{is_state}
use Rattle.xr_model.specs.machine.SessionRule.{Loss, code_on, loss_of}
use Rattle.xr_model.specs.machine.Sets.{is_declared, no_users}
use Rattle.xr_model.specs.machine.State.{CoreState, Settings, State, opening}
use Rattle.xr_model.specs.machine.Sync.{is_zero, column_after, differs, time_of, value_before, is_same_user, no_columns}
use Rattle.xr_model.specs.machine.Machine.{reads_of, rule, step}
use Rattle.xr_model.specs.machine.History.{after}
use Rattle.xr_model.specs.laws.DeviceStateLaws.{events_of, events_from, with_event, are_checked, pressed_from, released_below, value_told, press_told}
use Rattle.xr_model.specs.laws.WordLaws.{has_good_numbers}
use Rattle.xr_model.specs.laws.InputLaws.{GivesFromNow, named, InputsGiveFromTheirEvents, VectorsAreTheirAxes, TellsTheChange, ChangesAreTold, is_in_focus, SyncsInFocus, UnfocusedSyncsAreInactive, names_user, ActionsDeclareTheirAtoms}
use Rattle.xr_model.specs.laws.SyncLaws.{is_row}
use Rattle.xr_model.proofs.DeviceTold.{inputs_are_as_told, presses_last, set_get, set_long, user_below}
use Rattle.xr_model.proofs.FrameCalls.{where_done}
use Rattle.xr_model.proofs.FrameOrder.{all_fail}
use Rattle.xr_model.proofs.Histories.{after_is_in_turn}
use Rattle.xr_model.proofs.Rows.{itself, not_true}
use Rattle.xr_model.specs.machine.LiveSessions.{with_columns, shown_in, session_at, Session}
use Rattle.xr_model.proofs.SessionLives.{found_at}

-- ---- inputs

events_more : (past : List DeviceEvent) (es : List Entry) (e : Entry) → events_from past (es ++ e ∷ []) ≡ with_event (events_from past es) e.call
events_more past [] e = refl
events_more past (x ∷ es) e = events_more (with_event past x.call) es e

checked_more : (es : List Entry) (e : Entry) → are_checked es ≡ true → has_good_numbers e.call ≡ true → are_checked (es ++ e ∷ []) ≡ true
checked_more [] e all here = rw here refl
checked_more (x ∷ es) e all here = by (has_good_numbers x.call) all (λ rest. checked_more es e rest here)
  where
    by : (b : Bool) → b && are_checked es ≡ true → (are_checked es ≡ true → are_checked (es ++ e ∷ []) ≡ true) → b && are_checked (es ++ e ∷ []) ≡ true
    by true all more = more all
    by false all more = absurd (true≢false (sym all))

module _ (settings : Settings) (es : List Entry) (e : Entry) (who : User) (row : ℕ) (told : ℤ) (checked : are_checked es ≡ true) (here : has_good_numbers e.call ≡ true) (is : is_row row ≡ true)
    (call : e.call ≡ ask.Device (event.Input who row told)) where
  abbrev now : State
  now = (step (after (opening settings) es) e).0

  newest : events_of (es ++ e ∷ []) ≡ event.Input who row told ∷ events_of es
  newest = events_more [] es e ∙ ap (λ (r : Call). with_event (events_of es) r) call

  shows : value_at now.core.device.inputs who row ≡ clamped row told
  shows =
      sym (ap (λ (s : State). value_at s.core.device.inputs who row) (after_is_in_turn (opening settings) es (e ∷ [])))
      ∙ inputs_are_as_told settings (es ++ e ∷ []) who row (checked_more es e checked here) is
      ∙ ap (λ (past : List DeviceEvent). value_told who row past) newest
      ∙ rw (itself (user_place who), itself row) refl

  presses : is_digital row ≡ false → is_pressed_at now.core.device.inputs who row ≡ press_told who row (event.Input who row told ∷ events_of es)
  presses analogue =
      sym (ap (λ (s : State). is_pressed_at s.core.device.inputs who row) (after_is_in_turn (opening settings) es (e ∷ [])))
      ∙ presses_last settings (es ++ e ∷ []) who row (checked_more es e checked here) is analogue
      ∙ ap (λ (past : List DeviceEvent). press_told who row past) newest

  one_or_none : (b : Bool) → not (is_zero (if b then pos 1 else pos 0)) ≡ b
  one_or_none true = refl
  one_or_none false = refl

  whole_or_none : (b : Bool) → (if is_zero (if b then pos 1 else pos 0) then pos 0 else pos 32768) ≡ (if b then pos 32768 else pos 0)
  whole_or_none true = refl
  whole_or_none false = refl

  click : is_digital row ≡ true → clamped row told ≡ (if int_le (pos 1) told then pos 1 else pos 0)
  click digital = rw digital refl

  value_is : is_digital row ≡ false → is_value row ≡ true → clamped row told ≡ (if int_lt told (pos 0) then pos 0 else told)
  value_is analogue value = rw (analogue, value) (turned (int_le (pos 0) told) (int_lt told (pos 0)) (other told))
    where
      other : (n : ℤ) → int_lt n (pos 0) ≡ not (int_le (pos 0) n)
      other n = grind arith

      turned : (a b : Bool) → b ≡ not a → (if a then told else pos 0) ≡ (if b then pos 0 else told)
      turned true true e = absurd (true≢false e)
      turned true false e = refl
      turned false true e = refl
      turned false false e = absurd (true≢false (sym e))

  axis_is : is_digital row ≡ false → is_value row ≡ false → clamped row told ≡ told
  axis_is analogue value = rw (analogue, value) refl

  -- what is clamped is above the one threshold, and below the other, where the value is
  stays_high : is_digital row ≡ false → int_le pressed_from told ≡ true → int_le pressed_from (clamped row told) ≡ true
  stays_high analogue high = by (is_value row) refl
    where
      above : (n : ℤ) → int_le (pos 20480) n ≡ true → int_le (pos 0) n ≡ true
      above n e = grind (arith, e)

      by : (b : Bool) → is_value row ≡ b → int_le pressed_from (clamped row told) ≡ true
      by true eb = rw (analogue, eb, above told high) high
      by false eb = rw (analogue, eb) high

  stays_low : is_digital row ≡ false → int_lt told released_below ≡ true → (int_le pressed_from (clamped row told) ≡ false) × (int_lt (clamped row told) released_below ≡ true)
  stays_low analogue low = by (is_value row) refl (int_le (pos 0) told) refl
    where
      not_high : (n : ℤ) → int_lt n (pos 12288) ≡ true → int_le (pos 20480) n ≡ false
      not_high n e = grind (arith, e)

      by : (b : Bool) → is_value row ≡ b → (c : Bool) → int_le (pos 0) told ≡ c → (int_le pressed_from (clamped row told) ≡ false) × (int_lt (clamped row told) released_below ≡ true)
      by true eb true ec = rw (analogue, eb, ec) (not_high told low, low)
      by true eb false ec = rw (analogue, eb, ec) (refl, refl)
      by false eb c ec = rw (analogue, eb) (not_high told low, low)

  or_true : (b : Bool) → true || b ≡ true
  or_true b = refl

  gives_from_now : GivesFromNow now who row told
  gives_from_now = record {
    down = λ digital. ap (λ (n : ℤ). not (is_zero n)) (shows ∙ click digital) ∙ one_or_none (int_le (pos 1) told);
    whole = λ digital. ap (λ (n : ℤ). if is_zero n then pos 0 else pos 32768) (shows ∙ click digital) ∙ whole_or_none (int_le (pos 1) told);
    value = λ analogue value. shows ∙ value_is analogue value;
    axis = λ analogue value. shows ∙ axis_is analogue value;
    pressed = λ analogue high. presses analogue ∙ rw (itself (user_place who), itself row, stays_high analogue high) refl;
    released = λ analogue low. let two = stays_low analogue low in presses analogue ∙ rw (itself (user_place who), itself row, two.0, two.1) refl;
  }

pub inputs_give_from_their_events : InputsGiveFromTheirEvents
inputs_give_from_their_events settings es e who row told checked here is call = gives_from_now settings es e who row told checked here is call

pub vectors_are_their_axes : VectorsAreTheirAxes
vectors_are_their_axes settings es who across up checked one two = rw (inputs_are_as_told settings es who across checked one, inputs_are_as_told settings es who up checked two) refl

-- ---- changes

both_same : (a b : Bool) → not (a && b) ≡ false → (a ≡ true) × (b ≡ true)
both_same true true e = (refl, refl)
both_same true false e = absurd (true≢false e)
both_same false b e = absurd (true≢false e)

pub changes_are_told : ChangesAreTold
unfolding column_after
changes_are_told clock before found active = rw active (by before.active refl)
  where
    after_it : Column
    after_it = record {
      x = found.x;
      y = found.y;
      changed = differs found (value_before before);
      time = time_of (differs found (value_before before)) clock before;
      active = true;
      origin = found.origin;
    }

    by : (b : Bool) → before.active ≡ b → TellsTheChange clock before after_it
    by true eb = record {
      same = λ e. let two = both_same (int_eq found.x before.x) (int_eq found.y before.y) (rw eb at e) in rw eb (two.0, two.1);
      other = λ e. rw eb (not_true (int_eq found.x before.x && int_eq found.y before.y) (rw eb at e));
      now = λ e. rw e refl;
      earlier = λ e was. rw (e, eb) refl;
      never = λ e none. absurd (true≢false (sym eb ∙ none));
    }
    by false eb = record {
      same = λ e. let two = both_same (int_eq found.x (pos 0)) (int_eq found.y (pos 0)) (rw eb at e) in rw eb (two.0, two.1);
      other = λ e. rw eb (not_true (int_eq found.x (pos 0) && int_eq found.y (pos 0)) (rw eb at e));
      now = λ e. rw e refl;
      earlier = λ e was. absurd (true≢false (sym was ∙ eb));
      never = λ e none. rw (e, eb) refl;
    }

-- ---- a sync of a session that isn't focused

in_focus : (state : SessionState) → is_state state Focused ≡ is_in_focus state
in_focus Idle = refl
in_focus Ready = refl
in_focus Synchronized = refl
in_focus Visible = refl
in_focus Focused = refl
in_focus Stopping = refl
in_focus LossPending = refl
in_focus Exiting = refl

pub items_fail : (s : CoreState) (session : ℕ) (items : List ActiveSet) → all_fail (flat_map (item_checks s session) items) ≡ true
items_fail s session [] = refl
items_fail s session (item ∷ items) = items_fail s session items

pub unfocused_syncs_are_inactive : UnfocusedSyncsAreInactive
unfocused_syncs_are_inactive s e session active is = subst Syncs (sym is) synced
  where
    Syncs : Call → Type 0
    Syncs r = is_success (step s (record e { call = r })).1.reply.code ≡ true → SyncsInFocus s (record e { call = r }) session

    Tells : Effect → Type 0
    Tells x = ((x.code ≡ SessionNotFocused) ↔ (is_in_focus (life_of s.core session).state ≡ false))
        × (is_in_focus (life_of s.core session).state ≡ false → list_all (λ row. list_all (λ c. not c.active) row) (columns_of x.state session) ≡ true)

    loss : Loss
    loss = loss_of (life_of s.core session)

    -- it shows nothing then
    bare : list_all (λ row. list_all (λ c. not c.active) row) (columns_of (with_synced s.core session false active) session) ≡ true
    bare = ap (λ o. list_all (λ (row : List Column). list_all (λ c. not c.active) row) (shown_in o)) (found_at session session (with_columns no_columns) (λ x. refl) s.core.sessions) ∙ rw (itself session) (shown (session_at s.core.sessions session))
      where
        shown : (o : Option Session) → list_all (λ row. list_all (λ c. not c.active) row) (shown_in (option_map (λ x. with_columns no_columns x) o)) ≡ true
        shown None = refl
        shown (Some x) = refl

    plain : (b : Bool) → (if b then SessionLossPending else Success) ≡ SessionNotFocused → ⊥
    plain true e = cc
    plain false e = cc

    by : (b : Bool) → is_in_focus (life_of s.core session).state ≡ b
        → ((code_on loss (synced_code b) ≡ SessionNotFocused) ↔ (is_in_focus (life_of s.core session).state ≡ false))
        × (is_in_focus (life_of s.core session).state ≡ false → list_all (λ row. list_all (λ c. not c.active) row) (columns_of (with_synced s.core session b active) session) ≡ true)
    by true eb = (((λ told. absurd (plain loss.pending told)), (λ none. absurd (true≢false (sym eb ∙ none)))), (λ none. absurd (true≢false (sym eb ∙ none))))
    by false eb = (((λ told. eb), (λ none. refl)), (λ none. bare))

    synced : Syncs (ask.SyncActions session active)
    synced good =
        let f = rule s.core (reads_of s (ask.SyncActions session active)) (record e { call = ask.SyncActions session active }) in
        let two = where_done Tells s.core f e.short (items_fail s.core session active) (λ none. rw (in_focus (life_of s.core session).state) (by (is_in_focus (life_of s.core session).state) refl)) good in
        record { told = two.0; inactive = two.1 }

-- ---- user paths that are declared

declares : (atoms : List (List ℕ)) (subs : List ℕ) (who : User) (declared : List Bool) → length declared ≡ USERS
    → is_declared (declared_by atoms declared subs) who ≡ is_declared declared who || list_any (names_user atoms who) subs
declares atoms [] who declared long = sym (or_none (is_declared declared who))
  where
    or_none : (b : Bool) → b || false ≡ b
    or_none true = refl
    or_none false = refl
declares atoms (sub ∷ subs) who declared long = by (user_at atoms sub) (declares atoms subs who)
  where
    later : (a b c : Bool) → (if a then true else b) || c ≡ b || (a || c)
    later true true c = refl
    later true false c = refl
    later false b c = refl

    picked : (b : Bool) (o : Option Bool) → unwrap_or (if b then Some true else o) false ≡ (if b then true else unwrap_or o false)
    picked true o = refl
    picked false o = refl

    by : (o : Option User) → ((declared : List Bool) → length declared ≡ USERS → is_declared (declared_by atoms declared subs) who ≡ is_declared declared who || list_any (names_user atoms who) subs)
        → is_declared (declared_by atoms (with_user declared o) subs) who ≡ is_declared declared who || (named who o || list_any (names_user atoms who) subs)
    by None more = more declared long
    by (Some other) more =
        let few = user_below other in
        more (slice_set declared (user_place other) true) (set_long declared (user_place other) true ∙ long)
        ∙ ap (λ (b : Bool). b || list_any (names_user atoms who) subs) (ap (λ (o : Option Bool). unwrap_or o false) (set_get declared (user_place other) (user_place who) true (omega (arith, few, long))) ∙ picked (user_place other == user_place who) (slice_get declared (user_place who)))
        ∙ later (is_same_user other who) (is_declared declared who) (list_any (names_user atoms who) subs)

pub actions_declare_their_atoms : ActionsDeclareTheirAtoms
actions_declare_their_atoms atoms subs who = declares atoms subs who no_users refl ∙ ap (λ (b : Bool). b || list_any (names_user atoms who) subs) (none who)
  where
    none : (who : User) → is_declared no_users who ≡ false
    none user.Left = refl
    none user.Right = refl
    none user.Head = refl
    none user.Gamepad = refl
    none user.Treadmill = refl
