-- The value of a mark is the one that it was set to last.
use Rattle.std.proofs.Common.{arith, ◌≡◌, ◌-◌, ◌≤◌, ◌<◌, ◌==◌, ℕ, zero, suc, Bool, true, false, List, [], ◌∷◌, length, Option, Some, None, refl, sym, ap, subst, ◌∙◌, true≢false, nat_le}
use Rattle.std.specs.Prelude.{replicate, is_some, slice_get, slice_set, if◌then◌else◌}
use Rattle.std.proofs.lemmas.List.{length-set, length-replicate}
use Rattle.xr_types.specs.Device.{is_mark}
use Rattle.xr_types.specs.declared.device.DeviceEvent.{DeviceEvent}
use Rattle.xr_types.specs.declared.device.DeviceEvent.TheVariants as event
use Rattle.xr_types.specs.declared.limits.TheConstants.{MOST_MARK}
use Rattle.xr_model.specs.machine.Calls.{Entry}
use Rattle.xr_types.specs.declared.calls.Call.{Call}
use Rattle.xr_types.specs.declared.calls.Call.TheVariants as ask
use Rattle.xr_model.specs.machine.Marks.{no_marks, in_place, mark_at, with_mark}
use Rattle.xr_model.specs.machine.Refusals.{Refusal}
use Rattle.xr_model.specs.machine.State.{CoreState, State, opening}
use Rattle.xr_model.specs.machine.Rule.{Effect, refusal, told_on, unless_refused}
use Rattle.xr_model.specs.machine.Rules.Device.{behind_event}
use Rattle.xr_model.specs.machine.Machine.{rule, step, ready, reads_of}
use Rattle.xr_model.specs.machine.History.{after}
use Rattle.xr_model.specs.laws.MarkLaws.{value_after, last_value, GivesLast, AwaitGivesTheLastValue, DeviceAwaitsMarks}
use Rattle.xr_model.proofs.Rows.{same_key, both_of}

-- ---- a row in which one place is set

pub set_there : {T : Type 0} (xs : List T) (k : ℕ) (x : T) → k < length xs → slice_get (slice_set xs k x) k ≡ Some x
set_there [] k x within = absurd (omega arith)
set_there (y ∷ ys) zero x within = refl
set_there (y ∷ ys) (suc k) x within = set_there ys k x (omega arith)

pub set_other : {T : Type 0} (xs : List T) (j k : ℕ) (x : T) → (j == k) ≡ false → slice_get (slice_set xs j x) k ≡ slice_get xs k
set_other [] j k x other = refl
set_other (y ∷ ys) zero zero x other = absurd (true≢false other)
set_other (y ∷ ys) zero (suc k) x other = refl
set_other (y ∷ ys) (suc j) zero x other = refl
set_other (y ∷ ys) (suc j) (suc k) x other = set_other ys j k x (grind (arith, other))

-- two numbers from 1 that differ do so as places from 0
pub places_differ : (j k : ℕ) → 1 ≤ j → 1 ≤ k → (j == k) ≡ false → (j - 1 == k - 1) ≡ false
places_differ j k a b other = grind (arith, a, b, other)

-- ---- the marks

-- the row of marks has a place for each, and one of them has this value
record Tells (number : ℕ) (marks : List (Option ℕ)) (value : Option ℕ) : Type 0 where
  row : length marks ≡ MOST_MARK
  found : mark_at marks number ≡ value

not_none : (n : ℕ) → is_mark n ≡ true → (n == 0) ≡ false
not_none n is = grind (arith, (both_of (nat_le 1 n) (nat_le n MOST_MARK) is).0)

within : (n : ℕ) (marks : List (Option ℕ)) → is_mark n ≡ true → length marks ≡ MOST_MARK → n - 1 < length marks
within n marks is row =
    let both = both_of (nat_le 1 n) (nat_le n MOST_MARK) is in
    let least = both.0 in
    let most = both.1 in
    grind (arith, least, most, row)

before_it : (m n : ℕ) → (m == 0) ≡ false → (n == 0) ≡ false → (n == m) ≡ false → (m - 1 == n - 1) ≡ false
before_it m n a b c = grind (arith, a, b, c)

set_mark : (number : ℕ) → is_mark number ≡ true → (marks : List (Option ℕ)) (n value : ℕ) (o : Option ℕ) → Tells number marks o
    → Tells number (with_mark marks n value) (if number == n then Some value else o)
set_mark number is marks n value o old = by (n == 0) refl (number == n) refl
  where
    by : (z : Bool) → (n == 0) ≡ z → (b : Bool) → (number == n) ≡ b
        → Tells number (if z then marks else slice_set marks (n - 1) (Some value)) (if b then Some value else o)
    by true ez true eb = absurd (true≢false (sym (subst (λ k. (k == 0) ≡ true) (sym (same_key number n eb)) ez) ∙ not_none number is))
    by true ez false eb = old
    by false ez true eb = record {
      row = length-set marks (n - 1) (Some value) ∙ old.row;
      found =
          rw (not_none number is)
          (subst (λ k. in_place (slice_get (slice_set marks (n - 1) (Some value)) (k - 1)) ≡ Some value) (sym (same_key number n eb))
          (ap in_place (set_there marks (n - 1) (Some value)
          (subst (λ k. k - 1 < length marks) (same_key number n eb) (within number marks is old.row)))));
    }
    by false ez false eb = record {
      row = length-set marks (n - 1) (Some value) ∙ old.row;
      found =
          rw (not_none number is)
          (ap in_place (set_other marks (n - 1) (number - 1) (Some value) (before_it n number ez (not_none number is) eb)) ∙
          (rw (not_none number is) at old.found));
    }

-- ---- histories

module _ (P : List (Option ℕ) → Type 0) (s : CoreState) (same : P s.marks) where
  kept : (o : Option Refusal) (x : Effect) → P x.state.marks → P (unless_refused s o x).state.marks
  kept None x done = done
  kept (Some r) x done = same

marks_step : (number : ℕ) → is_mark number ≡ true → (s : State) (e : Entry) (o : Option ℕ) → Tells number s.core.marks o
    → Tells number (step s e).0.core.marks (value_after number e.call o)
marks_step number is s e o old = by e.call
  where
    events : (what : DeviceEvent) → Tells number (behind_event s.core what).marks (value_after number (ask.Device what) o)
    events (event.Mark n) = set_mark number is s.core.marks n 0 o old
    events (event.Clock time) = old
    events _ = old

    by : (r : Call) → Tells number (step s (record e { call = r })).0.core.marks (value_after number r o)
    by (ask.Mark n value) = set_mark number is s.core.marks n value o old
    by (ask.Device what) = events what
    by ask.Leave = old
    by r =
        let f = rule s.core (reads_of s r) (record e { call = r }) in
        kept (λ marks. Tells number marks o) s.core old (refusal e.short f) (told_on f.on f.effect) old

marks_after : (number : ℕ) → is_mark number ≡ true → (s : State) (es : List Entry) (o : Option ℕ) → Tells number s.core.marks o
    → Tells number (after s es).core.marks (last_value number o es)
marks_after number is s [] o old = old
marks_after number is s (e ∷ es) o old = marks_after number is (step s e).0 es (value_after number e.call o) (marks_step number is s e o old)

none_there : (n k : ℕ) → in_place (slice_get (replicate n None) k) ≡ None
none_there zero k = refl
none_there (suc n) zero = refl
none_there (suc n) (suc k) = none_there n k

none_set : (number : ℕ) → Tells number no_marks None
none_set number = record { row = length-replicate {A = Option ℕ} MOST_MARK None; found = by (number == 0) }
  where
    by : (z : Bool) → (if z then None else in_place (slice_get (replicate MOST_MARK None) (number - 1))) ≡ None
    by true = refl
    by false = none_there MOST_MARK (number - 1)

-- ---- the laws

awaited : (s : State) (e : Entry) (number : ℕ) (o : Option ℕ) → Tells number s.core.marks o → e.call ≡ ask.AwaitMark number → GivesLast s e o
awaited s e number o tells asks = subst (λ r. GivesLast s (record e { call = r }) o) (sym asks) (by o tells.found)
  where
    by : (o : Option ℕ) → mark_at s.core.marks number ≡ o → GivesLast s (record e { call = ask.AwaitMark number }) o
    by None found = record { waits = rw found refl; gives = λ v is. cc }
    by (Some w) found = record { waits = rw found refl; gives = λ v is. cc }

device_waits : (s : State) (e : Entry) (number : ℕ) (o : Option ℕ) → Tells number s.core.marks o → e.call ≡ ask.Device (event.Await number)
    → ready s e ≡ is_some o
device_waits s e number o tells asks = subst (λ r. ready s (record e { call = r }) ≡ is_some o) (sym asks) (by o tells.found)
  where
    by : (o : Option ℕ) → mark_at s.core.marks number ≡ o → ready s (record e { call = ask.Device (event.Await number) }) ≡ is_some o
    by None found = rw found refl
    by (Some w) found = rw found refl

pub await_gives_the_last_value : AwaitGivesTheLastValue
await_gives_the_last_value settings es e number is asks =
    awaited (after (opening settings) es) e number (last_value number None es)
    (marks_after number is (opening settings) es None (none_set number)) asks

pub device_awaits_marks : DeviceAwaitsMarks
device_awaits_marks settings es e number is asks =
    device_waits (after (opening settings) es) e number (last_value number None es)
    (marks_after number is (opening settings) es None (none_set number)) asks
