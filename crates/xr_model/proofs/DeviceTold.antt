-- After a history the device is what its events told last.
use Rattle.std.proofs.Common.{◌≡◌, ◌-◌, ◌<◌, ◌≤◌, ◌==◌, ◌&&◌, ◌||◌, ℕ, ℤ, zero, suc, Bool, true, false, List, [], ◌∷◌, length, replicate, Option, Some, None, pos, negsuc, slice_get, slice_set, unwrap_or, refl, sym, ap, subst, ◌∙◌, arith, true≢false}
use Rattle.std.specs.Prelude.{nat_le, int_le, int_lt, if◌then◌else◌}
use Rattle.std.specs.List.{list_all, list_any}
use Rattle.std.specs.Ordering.{int_eq}
use Rattle.std.proofs.lemmas.Bool.Decides.{nat_tests}
use Rattle.xr_types.specs.Device.{in_range}
use Rattle.xr_types.specs.InputNames.{is_digital}
use Rattle.xr_types.specs.InputValues.{clamped, pressed_by}
use Rattle.xr_types.specs.Users.{user_place}
use Rattle.xr_types.specs.declared.calls.Call.{Call}
use Rattle.xr_types.specs.declared.calls.Call.TheVariants as ask
use Rattle.xr_types.specs.declared.device.DeviceEvent.{DeviceEvent}
use Rattle.xr_types.specs.declared.device.DeviceEvent.TheVariants as event
use Rattle.xr_types.specs.declared.device.Wish.{Wish}
use Rattle.xr_types.specs.declared.input.Profile.{Profile}
use Rattle.xr_types.specs.declared.input.TheConstants.{ROWS}
use Rattle.xr_types.specs.declared.input.User.{User}
use Rattle.xr_types.specs.declared.input.User.TheVariants as user
use Rattle.xr_types.specs.declared.session.SessionState.{SessionState}
use Rattle.xr_types.specs.declared.session.SessionState.TheVariants.{Idle, Ready, Synchronized, Visible, Focused, Stopping, LossPending, Exiting}
use Rattle.xr_types.specs.declared.users.TheConstants.{USERS}
use Rattle.xr_model.specs.machine.Calls.{Entry}
use Rattle.xr_model.specs.machine.Device.{Device}
use Rattle.xr_model.specs.machine.Inputs.{values_at, pressed_at, value_at, is_pressed_at, no_values, none_pressed}
use Rattle.xr_model.specs.machine.LiveSessions.{Session, session_at, with_life, each_changed, told_changes}
use Rattle.xr_model.specs.machine.Refusals.{Refusal}
use Rattle.xr_model.specs.machine.Rule.{Effect, refusal, told_on, unless_refused}
use Rattle.xr_model.specs.machine.Rules.Device.{behind_event, later_of}
use Rattle.xr_model.specs.machine.SessionLife.{Life, next_state, losing_session}
use Rattle.xr_model.specs.machine.State.{CoreState, Settings, State, opening}
use Rattle.xr_model.specs.machine.Target.{target_of, own_wish, Standing, rounds, most_rounds}
use Rattle.xr_model.specs.machine.Machine.{reads_of, rule, step}
use Rattle.xr_model.specs.machine.History.{after}
use Rattle.xr_model.specs.machine.Sync.{is_same_user}
use Rattle.xr_model.specs.laws.SyncLaws.{is_row}
use Rattle.xr_model.specs.laws.DeviceStateLaws.{with_event, events_from, times_told, IsLatest, IsAsTold, DeviceIsAsTold, are_checked, profile_told, value_told, press_told, pressed_from, released_below, ProfilesAreAsTold, InputsAreAsTold, PressesLast, LossTakesEach}
use Rattle.xr_model.specs.laws.WordLaws.{has_good_numbers}
use Rattle.xr_model.specs.laws.StateLaws.{lost_to}
use Rattle.xr_model.proofs.Rows.{both_of, same_key}
use Rattle.xr_model.proofs.SessionLives.{found_each}
use Rattle.xr_model.proofs.Targets.{AreSettled, quiet_rounds}

-- ---- only the device's own calls change it

device_kept : (s : CoreState) (o : Option Refusal) (x : Effect) → x.state.device ≡ s.device → (unless_refused s o x).state.device ≡ s.device
device_kept s None x same = same
device_kept s (Some r) x same = refl

-- what holds of the device and of what was told holds after an entry, where each event keeps it
by_events : (P : Device → List DeviceEvent → Type 0) (s : State) (e : Entry) (past : List DeviceEvent)
    → ((what : DeviceEvent) → has_good_numbers (ask.Device what) ≡ true → P s.core.device past → P (behind_event s.core what).device (what ∷ past))
    → has_good_numbers e.call ≡ true → P s.core.device past → P (step s e).0.core.device (with_event past e.call)
by_events P s e past told checked before = by e.call checked
  where
    by : (r : Call) → has_good_numbers r ≡ true → P (step s (record e { call = r })).0.core.device (with_event past r)
    by (ask.Device what) checked = told what checked before
    by r checked =
        let f = rule s.core (reads_of s r) (record e { call = r }) in
        subst (λ (d : Device). P d past) (sym (device_kept s.core (refusal e.short f) (told_on f.on f.effect) refl)) before

-- ---- clock, grid, wish and stage

latest_more : (times : List ℤ) (clock time : ℤ) → IsLatest times clock → IsLatest (time ∷ times) (later_of clock time)
latest_more times clock time latest = by (int_le clock time) refl
  where
    itself_eq : (a : ℤ) → int_eq a a ≡ true
    itself_eq a = grind arith

    or_true : (a b : Bool) → a || (true || b) ≡ true
    or_true true b = refl
    or_true false b = refl

    or_more : (a b c : Bool) → a || c ≡ true → a || (b || c) ≡ true
    or_more true b c e = refl
    or_more false true c e = refl
    or_more false false c e = e

    not_later : (a b : ℤ) → int_le a b ≡ false → int_le b a ≡ true
    not_later a b e = grind (arith, e)

    up : (a b c : ℤ) → int_le a b ≡ true → int_le b c ≡ true → int_le a c ≡ true
    up a b c x y = grind (arith, x, y)

    all_up : (c d : ℤ) (xs : List ℤ) → int_le c d ≡ true → list_all (λ t. int_le t c) xs ≡ true → list_all (λ t. int_le t d) xs ≡ true
    all_up c d [] less all = refl
    all_up c d (x ∷ xs) less all = let two = both_of (int_le x c) (list_all (λ t. int_le t c) xs) all in rw (up x c d two.0 less, all_up c d xs less two.1) refl

    by : (b : Bool) → int_le clock time ≡ b → IsLatest (time ∷ times) (if b then time else clock)
    by true eb =
        let two = both_of (int_le (pos 0) clock) (list_all (λ t. int_le t clock) times) latest.later in
        let own : int_le time time ≡ true = not_before time in
        record {
          one = rw (itself_eq time) (or_true (int_eq time (pos 0)) (list_any (λ t. int_eq time t) times));
          later = rw (up (pos 0) clock time two.0 eb, own, all_up clock time times eb two.1) refl;
        }
      where
        not_before : (a : ℤ) → int_le a a ≡ true
        not_before a = grind arith
    by false eb =
        let two = both_of (int_le (pos 0) clock) (list_all (λ t. int_le t clock) times) latest.later in
        record {
          one = or_more (int_eq clock (pos 0)) (int_eq clock time) (list_any (λ t. int_eq clock t) times) latest.one;
          later = rw (two.0, not_later clock time eb, two.1) refl;
        }

told_step : (s : CoreState) (what : DeviceEvent) (past : List DeviceEvent) → IsAsTold s.device past → IsAsTold (behind_event s what).device (what ∷ past)
told_step s (event.Clock time) past is = record { clock = latest_more (times_told past) s.device.clock time is.clock; base = is.base; period = is.period; wish = is.wish; stage = is.stage }
told_step s (event.Grid base period) past is = record { clock = is.clock; base = refl; period = refl; wish = is.wish; stage = is.stage }
told_step s (event.Wish wish) past is = record { clock = is.clock; base = is.base; period = is.period; wish = refl; stage = is.stage }
told_step s (event.Stage on) past is = record { clock = is.clock; base = is.base; period = is.period; wish = is.wish; stage = refl }
told_step s _ past is = record { clock = is.clock; base = is.base; period = is.period; wish = is.wish; stage = is.stage }

no_checks : (s : State) (e : Entry) (past : List DeviceEvent) → IsAsTold s.core.device past → IsAsTold (step s e).0.core.device (with_event past e.call)
no_checks s e past is = by e.call
  where
    by : (r : Call) → IsAsTold (step s (record e { call = r })).0.core.device (with_event past r)
    by (ask.Device what) = told_step s.core what past is
    by r =
        let f = rule s.core (reads_of s r) (record e { call = r }) in
        subst (λ (d : Device). IsAsTold d past) (sym (device_kept s.core (refusal e.short f) (told_on f.on f.effect) refl)) is

told_after : (s : State) (past : List DeviceEvent) (es : List Entry) → IsAsTold s.core.device past → IsAsTold (after s es).core.device (events_from past es)
told_after s past [] is = is
told_after s past (e ∷ es) is = told_after (step s e).0 (with_event past e.call) es (no_checks s e past is)

pub device_is_as_told : DeviceIsAsTold
device_is_as_told settings es = told_after (opening settings) [] es (record { clock = record { one = refl; later = refl }; base = refl; period = refl; wish = refl; stage = refl })

-- ---- what is set at a place

pub user_below : (who : User) → user_place who < USERS
user_below user.Left = omega arith
user_below user.Right = omega arith
user_below user.Head = omega arith
user_below user.Gamepad = omega arith
user_below user.Treadmill = omega arith

pub set_long : {T : Type 0} (xs : List T) (n : ℕ) (x : T) → length (slice_set xs n x) ≡ length xs
set_long [] n x = refl
set_long (y ∷ ys) zero x = refl
set_long (y ∷ ys) (suc n) x = ap (λ (k : ℕ). suc k) (set_long ys n x)

suc_same : (n p : ℕ) → (suc n == suc p) ≡ (n == p)
suc_same n p = grind arith

not_first : (p : ℕ) → (0 == suc p) ≡ false
not_first p = grind arith

not_zero : (n : ℕ) → (suc n == 0) ≡ false
not_zero n = grind arith

pub set_get : {T : Type 0} (xs : List T) (n p : ℕ) (x : T) → n < length xs → slice_get (slice_set xs n x) p ≡ (if n == p then Some x else slice_get xs p)
set_get [] n p x below = absurd (omega (arith, below))
set_get (y ∷ ys) zero zero x below = refl
set_get (y ∷ ys) zero (suc p) x below = rw (not_first p) refl
set_get (y ∷ ys) (suc n) zero x below = rw (not_zero n) refl
set_get (y ∷ ys) (suc n) (suc p) x below = set_get ys n p x (omega (arith, below)) ∙ rw (suc_same n p) refl

get_same : {T : Type 0} (n k : ℕ) (d : T) → unwrap_or (slice_get (replicate n d) k) d ≡ d
get_same zero k d = refl
get_same (suc n) zero d = refl
get_same (suc n) (suc k) d = get_same n k d

-- ---- a table has a row for each user path

module _ {T : Type 0} (d : T) where
  abbrev row_at : List (List T) → ℕ → List T
  row_at xs p = unwrap_or (slice_get xs p) []

  abbrev cell : List (List T) → User → ℕ → T
  cell xs who row = unwrap_or (slice_get (row_at xs (user_place who)) (row - 1)) d

  record IsTable (xs : List (List T)) : Type 0 where
    long : length xs ≡ USERS
    rows : (who : User) → length (row_at xs (user_place who)) ≡ ROWS

  row_set : (xs : List (List T)) (w : User) (new : List T) (p : ℕ) → length xs ≡ USERS → row_at (slice_set xs (user_place w) new) p ≡ (if user_place w == p then new else row_at xs p)
  row_set xs w new p long =
      let few = user_below w in
      ap (λ (o : Option (List T)). unwrap_or o []) (set_get xs (user_place w) p new (omega (arith, few, long))) ∙ by (user_place w == p)
    where
      by : (b : Bool) → unwrap_or (if b then Some new else slice_get xs p) [] ≡ (if b then new else unwrap_or (slice_get xs p) [])
      by true = refl
      by false = refl

  table_set : (xs : List (List T)) (w : User) (new : List T) → IsTable xs → length new ≡ ROWS → IsTable (slice_set xs (user_place w) new)
  table_set xs w new is long = record {
    long = set_long xs (user_place w) new ∙ is.long;
    rows = λ who. rw (row_set xs w new (user_place who) is.long) (by (user_place w == user_place who) who (is.rows who));
  }
    where
      by : (b : Bool) (who : User) → length (row_at xs (user_place who)) ≡ ROWS → length (if b then new else row_at xs (user_place who)) ≡ ROWS
      by true who same = long
      by false who same = same

  -- a cell is set
  cell_set : (xs : List (List T)) (w who : User) (of row : ℕ) (v : T) → IsTable xs → is_row of ≡ true → is_row row ≡ true
      → cell (slice_set xs (user_place w) (slice_set (row_at xs (user_place w)) (of - 1) v)) who row ≡ (if is_same_user w who && (of == row) then v else cell xs who row)
  cell_set xs w who of row v is there here =
      ap (λ (l : List T). unwrap_or (slice_get l (row - 1)) d) (row_set xs w (slice_set (row_at xs (user_place w)) (of - 1) v) (user_place who) is.long) ∙ by (user_place w == user_place who) refl
    where
      ranged : (n : ℕ) → is_row n ≡ true → (1 ≤ n) × (n ≤ ROWS)
      ranged n e = let two = both_of (nat_le 1 n) (nat_le n 40) e in (grind (arith, nat_tests, two.0), grind (arith, nat_tests, two.1))

      same_row : (of - 1 == row - 1) ≡ (of == row)
      same_row = let a = ranged of there in let b = ranged row here in earlier of row a.0 b.0
        where
          earlier : (n m : ℕ) → 1 ≤ n → 1 ≤ m → (n - 1 == m - 1) ≡ (n == m)
          earlier n m a b = grind (arith, nat_tests, a, b)

      of_below : of - 1 < length (row_at xs (user_place w))
      of_below = let a = ranged of there in let long = is.rows w in omega (arith, a.0, a.1, long)

      picked : (b : Bool) → unwrap_or (if b then Some v else slice_get (row_at xs (user_place w)) (row - 1)) d ≡ (if b then v else unwrap_or (slice_get (row_at xs (user_place w)) (row - 1)) d)
      picked true = refl
      picked false = refl

      by : (b : Bool) → (user_place w == user_place who) ≡ b
          → unwrap_or (slice_get (if b then slice_set (row_at xs (user_place w)) (of - 1) v else row_at xs (user_place who)) (row - 1)) d ≡ (if b && (of == row) then v else cell xs who row)
      by true eb =
          ap (λ (o : Option T). unwrap_or o d) (set_get (row_at xs (user_place w)) (of - 1) (row - 1) v of_below)
          ∙ rw same_row (picked (of == row) ∙ ap (λ (k : ℕ). if of == row then v else unwrap_or (slice_get (row_at xs k) (row - 1)) d) (same_key (user_place w) (user_place who) eb))
      by false eb = refl

  -- all of a user path are
  cell_cleared : (xs : List (List T)) (w who : User) (row n : ℕ) → IsTable xs → cell (slice_set xs (user_place w) (replicate n d)) who row ≡ (if is_same_user w who then d else cell xs who row)
  cell_cleared xs w who row n is =
      ap (λ (l : List T). unwrap_or (slice_get l (row - 1)) d) (row_set xs w (replicate n d) (user_place who) is.long) ∙ by (user_place w == user_place who)
    where
      by : (b : Bool) → unwrap_or (slice_get (if b then replicate n d else row_at xs (user_place who)) (row - 1)) d ≡ (if b then d else cell xs who row)
      by true = get_same n (row - 1) d
      by false = refl

-- ---- inputs and profiles

record InputsFit (d : Device) (past : List DeviceEvent) : Type 0 where
  profiles : length d.profiles ≡ USERS
  connected : (who : User) → slice_get d.profiles (user_place who) ≡ Some (profile_told who past)
  values : IsTable (pos 0) d.inputs.values
  shown : (who : User) (row : ℕ) → is_row row ≡ true → value_at d.inputs who row ≡ value_told who row past
  presses : IsTable false d.inputs.pressed
  pressed : (who : User) (row : ℕ) → is_row row ≡ true → is_digital row ≡ false → is_pressed_at d.inputs who row ≡ press_told who row past

if_same : {T : Type 0} (b : Bool) (a x y : T) → x ≡ y → (if b then a else x) ≡ (if b then a else y)
if_same b a x y same = ap (λ z. if b then a else z) same

-- whether an input counts as pressed, by what it shows
press_is : (value : ℤ) (before : Bool) → pressed_by before value ≡ (if int_le pressed_from value || int_lt value released_below then int_le pressed_from value else before)
press_is value before = by (int_le pressed_from value) (int_lt value released_below)
  where
    by : (a b : Bool) → (if a then true else (if b then false else before)) ≡ (if a || b then a else before)
    by true b = refl
    by false true = refl
    by false false = refl

module _ (s : CoreState) (past : List DeviceEvent) (fits : InputsFit s.device past) where
  connects : (w : User) (profile : Option Profile) → InputsFit (behind_event s (event.Profile w profile)).device (event.Profile w profile ∷ past)
  connects w profile = record {
    profiles = set_long s.device.profiles (user_place w) profile ∙ fits.profiles;
    connected = λ who.
        let few = user_below w in
        let long = fits.profiles in
        set_get s.device.profiles (user_place w) (user_place who) profile (omega (arith, few, long)) ∙ either (user_place w == user_place who) who;
    values = table_set (pos 0) s.device.inputs.values w no_values fits.values refl;
    shown = λ who row here. cell_cleared (pos 0) s.device.inputs.values w who row ROWS fits.values ∙ if_same (is_same_user w who) (pos 0) _ _ (fits.shown who row here);
    presses = table_set false s.device.inputs.pressed w none_pressed fits.presses refl;
    pressed = λ who row here analogue. cell_cleared false s.device.inputs.pressed w who row ROWS fits.presses ∙ if_same (is_same_user w who) false _ _ (fits.pressed who row here analogue);
  }
    where
      either : (b : Bool) (who : User) → (if b then Some profile else slice_get s.device.profiles (user_place who)) ≡ Some (if b then profile else profile_told who past)
      either true who = refl
      either false who = fits.connected who

  tells : (w : User) (of : ℕ) (value : ℤ) → is_row of ≡ true → InputsFit (behind_event s (event.Input w of value)).device (event.Input w of value ∷ past)
  tells w of value there = record {
    profiles = fits.profiles;
    connected = fits.connected;
    values = table_set (pos 0) s.device.inputs.values w (slice_set (values_at s.device.inputs w) (of - 1) (clamped of value)) fits.values (set_long (values_at s.device.inputs w) (of - 1) (clamped of value) ∙ fits.values.rows w);
    shown = λ who row here.
        cell_set (pos 0) s.device.inputs.values w who of row (clamped of value) fits.values there here ∙ if_same (is_same_user w who && (of == row)) (clamped of value) _ _ (fits.shown who row here);
    presses = tables (is_digital of);
    pressed = λ who row here analogue. counts who row here analogue (is_digital of) refl;
  }
    where
      press : Bool
      press = pressed_by (is_pressed_at s.device.inputs w of) (clamped of value)

      set : List (List Bool)
      set = slice_set s.device.inputs.pressed (user_place w) (slice_set (pressed_at s.device.inputs w) (of - 1) press)

      tables : (b : Bool) → IsTable false (if b then s.device.inputs.pressed else set)
      tables true = fits.presses
      tables false = table_set false s.device.inputs.pressed w (slice_set (pressed_at s.device.inputs w) (of - 1) press) fits.presses (set_long (pressed_at s.device.inputs w) (of - 1) press ∙ fits.presses.rows w)

      told : User → ℕ → Bool
      told who row = press_told who row (event.Input w of value ∷ past)

      hard : Bool
      hard = int_le pressed_from (clamped of value)

      far : Bool
      far = hard || int_lt (clamped of value) released_below

      -- an input of another row, or of another user path, is as it was
      aside : (a b c x y : Bool) → a && b ≡ false → y ≡ (if a && (b && c) then x else y)
      aside true true c x y e = absurd (true≢false e)
      aside true false c x y e = refl
      aside false b c x y e = refl

      only_one : (a b : Bool) → b ≡ false → a && b ≡ false
      only_one true b e = e
      only_one false b e = refl

      apart : (row : ℕ) → is_digital of ≡ true → is_digital row ≡ false → (of == row) ≡ false
      apart row digital analogue = by (of == row) refl
        where
          by : (b : Bool) → (of == row) ≡ b → b ≡ false
          by true eb = absurd (true≢false (sym (subst (λ (n : ℕ). is_digital n ≡ true) (same_key of row eb) digital) ∙ analogue))
          by false eb = refl

      -- its own is as the value says
      own : (who : User) (row : ℕ) → is_row row ≡ true → is_digital row ≡ false → (a : Bool) → is_same_user w who ≡ a → (b : Bool) → (of == row) ≡ b
          → (if a && b then press else is_pressed_at s.device.inputs who row) ≡ (if a && (b && far) then hard else press_told who row past)
      own who row here analogue true ea true eb =
          let same = same_key of row eb in
          let place = same_key (user_place w) (user_place who) ea in
          let before : is_pressed_at s.device.inputs w of ≡ press_told who row past =
          ap (λ (n : ℕ). is_pressed_at s.device.inputs w n) same ∙ ap (λ (k : ℕ). unwrap_or (slice_get (unwrap_or (slice_get s.device.inputs.pressed k) []) (row - 1)) false) place ∙ fits.pressed who row here analogue in
          press_is (clamped of value) (is_pressed_at s.device.inputs w of) ∙ ap (λ (b : Bool). if far then hard else b) before
      own who row here analogue true ea false eb = fits.pressed who row here analogue
      own who row here analogue false ea b eb = fits.pressed who row here analogue

      counts : (who : User) (row : ℕ) → is_row row ≡ true → is_digital row ≡ false → (b : Bool) → is_digital of ≡ b
          → cell false (if b then s.device.inputs.pressed else set) who row ≡ told who row
      counts who row here analogue true eb =
          fits.pressed who row here analogue ∙ aside (is_same_user w who) (of == row) far hard (press_told who row past) (only_one (is_same_user w who) (of == row) (apart row eb analogue))
      counts who row here analogue false eb =
          cell_set false s.device.inputs.pressed w who of row press fits.presses there here ∙ own who row here analogue (is_same_user w who) refl (of == row) refl

  inputs_step : (what : DeviceEvent) → has_good_numbers (ask.Device what) ≡ true → InputsFit (behind_event s what).device (what ∷ past)
  inputs_step (event.Profile w profile) checked = connects w profile
  inputs_step (event.Input w of value) checked = tells w of value (both_of (is_row of) (in_range value (negsuc 32767) (pos 32768)) checked).0
  inputs_step (event.Clock time) checked = record { profiles = fits.profiles; connected = fits.connected; values = fits.values; shown = fits.shown; presses = fits.presses; pressed = fits.pressed }
  inputs_step _ checked = record { profiles = fits.profiles; connected = fits.connected; values = fits.values; shown = fits.shown; presses = fits.presses; pressed = fits.pressed }

inputs_after : (s : State) (past : List DeviceEvent) (es : List Entry) → are_checked es ≡ true → InputsFit s.core.device past → InputsFit (after s es).core.device (events_from past es)
inputs_after s past [] checked fits = fits
inputs_after s past (e ∷ es) checked fits =
    let two = both_of (has_good_numbers e.call) (are_checked es) checked in
    inputs_after (step s e).0 (with_event past e.call) es two.1 (by_events InputsFit s e past (λ what here before. inputs_step s.core past before what here) two.0 fits)

inputs_opening : (settings : Settings) → InputsFit (opening settings).core.device []
inputs_opening settings = record {
  profiles = refl;
  connected = λ who. none who;
  values = record { long = refl; rows = λ who. long_values who };
  shown = λ who row here. zero_shown who row;
  presses = record { long = refl; rows = λ who. long_presses who };
  pressed = λ who row here analogue. none_pressed_at who row;
}
  where
    none : (who : User) → slice_get (opening settings).core.device.profiles (user_place who) ≡ Some None
    none user.Left = refl
    none user.Right = refl
    none user.Head = refl
    none user.Gamepad = refl
    none user.Treadmill = refl

    long_values : (who : User) → length (row_at (pos 0) (opening settings).core.device.inputs.values (user_place who)) ≡ ROWS
    long_values user.Left = refl
    long_values user.Right = refl
    long_values user.Head = refl
    long_values user.Gamepad = refl
    long_values user.Treadmill = refl

    long_presses : (who : User) → length (row_at false (opening settings).core.device.inputs.pressed (user_place who)) ≡ ROWS
    long_presses user.Left = refl
    long_presses user.Right = refl
    long_presses user.Head = refl
    long_presses user.Gamepad = refl
    long_presses user.Treadmill = refl

    zero_shown : (who : User) (row : ℕ) → value_at (opening settings).core.device.inputs who row ≡ pos 0
    zero_shown user.Left row = get_same ROWS (row - 1) (pos 0)
    zero_shown user.Right row = get_same ROWS (row - 1) (pos 0)
    zero_shown user.Head row = get_same ROWS (row - 1) (pos 0)
    zero_shown user.Gamepad row = get_same ROWS (row - 1) (pos 0)
    zero_shown user.Treadmill row = get_same ROWS (row - 1) (pos 0)

    none_pressed_at : (who : User) (row : ℕ) → is_pressed_at (opening settings).core.device.inputs who row ≡ false
    none_pressed_at user.Left row = get_same ROWS (row - 1) false
    none_pressed_at user.Right row = get_same ROWS (row - 1) false
    none_pressed_at user.Head row = get_same ROWS (row - 1) false
    none_pressed_at user.Gamepad row = get_same ROWS (row - 1) false
    none_pressed_at user.Treadmill row = get_same ROWS (row - 1) false

pub inputs_are_as_told : InputsAreAsTold
inputs_are_as_told settings es who row checked here = (inputs_after (opening settings) [] es checked (inputs_opening settings)).shown who row here

pub presses_last : PressesLast
presses_last settings es who row checked here analogue = (inputs_after (opening settings) [] es checked (inputs_opening settings)).pressed who row here analogue

pub profiles_are_as_told : ProfilesAreAsTold
profiles_are_as_told settings es who checked = (inputs_after (opening settings) [] es checked (inputs_opening settings)).connected who

-- ---- a loss

losing : (life : Life) → (losing_session life).life ≡ record life { state = lost_to life.state }
losing life = by life.state
  where
    by : (state : SessionState) → (losing_session (record life { state = state })).life ≡ record life { state = lost_to state }
    by Idle = refl
    by Ready = refl
    by Synchronized = refl
    by Visible = refl
    by Focused = refl
    by Stopping = refl
    by LossPending = refl
    by Exiting = refl

-- no row fits the states of a loss, so nothing is left to settle behind it
losing_settles : (w : Wish) (target : ℕ) (xs : List Session) → AreSettled w target (each_changed (λ x. losing_session x.life) xs)
losing_settles w target [] = tt
losing_settles w target (x ∷ xs) = (rw (losing x.life) (by x.life.state), losing_settles w target xs)
  where
    by : (state : SessionState) → next_state (own_wish w target x) x.life.exit (lost_to state) ≡ None
    by Idle = refl
    by Ready = refl
    by Synchronized = refl
    by Visible = refl
    by Focused = refl
    by Stopping = refl
    by LossPending = refl
    by Exiting = refl

pub loss_takes_each : LossTakesEach
loss_takes_each s e session x is found =
    subst (λ (r : Call). session_at (step s (record e { call = r })).0.core.sessions session ≡ Some lost_one) (sym is)
    (subst (λ (t : Standing). session_at t.sessions session ≡ Some lost_one) (sym quiet)
    (found_each (λ y. losing_session y.life) session s.core.sessions ∙ rw found (ap (λ (life : Life). Some (with_life life x)) (losing x.life))))
  where
    lost_one : Session
    lost_one = record x { life = record x.life { state = lost_to x.life.state } }

    left : Standing
    left = record {
      sessions = each_changed (λ y. losing_session y.life) s.core.sessions;
      events = told_changes s.core.events (λ y. losing_session y.life) s.core.sessions;
    }

    quiet : rounds most_rounds s.core.device.wish left ≡ left
    quiet = quiet_rounds s.core.device.wish left (losing_settles s.core.device.wish (target_of left.sessions) s.core.sessions)
