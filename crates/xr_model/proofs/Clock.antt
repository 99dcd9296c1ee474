-- The device's clock never goes back.
use Rattle.std.proofs.Common.{◌≡◌, ℤ, Bool, true, false, Option, Some, None, refl, arith}
use Rattle.std.specs.Prelude.{int_le, if◌then◌else◌}
use Rattle.xr_types.specs.declared.device.DeviceEvent.{DeviceEvent}
use Rattle.xr_types.specs.declared.device.DeviceEvent.TheVariants as event
use Rattle.xr_types.specs.declared.calls.Call.{Call}
use Rattle.xr_types.specs.declared.calls.Call.TheVariants as ask
use Rattle.xr_model.specs.machine.Refusals.{Refusal}
use Rattle.xr_model.specs.machine.State.{CoreState}
use Rattle.xr_model.specs.machine.Rule.{Effect, refusal, told_on, unless_refused}
use Rattle.xr_model.specs.machine.Rules.Device.{later_of, behind_event}
use Rattle.xr_model.specs.machine.Machine.{rule, step, reads_of}
use Rattle.xr_model.specs.laws.SessionLifeLaws.{ClockNeverFalls}

not_before_itself : (a : ℤ) → int_le a a ≡ true
not_before_itself a = grind arith

not_before : (a b : ℤ) → int_le a (later_of a b) ≡ true
not_before a b = by (int_le a b) refl
  where
    by : (c : Bool) → int_le a b ≡ c → int_le a (if c then b else a) ≡ true
    by true ec = ec
    by false ec = not_before_itself a

kept : (s : CoreState) (o : Option Refusal) (x : Effect) → int_le s.device.clock x.state.device.clock ≡ true
    → int_le s.device.clock (unless_refused s o x).state.device.clock ≡ true
kept s None x done = done
kept s (Some r) x done = not_before_itself s.device.clock

events : (s : CoreState) (what : DeviceEvent) → int_le s.device.clock (behind_event s what).device.clock ≡ true
events s (event.Clock time) = not_before s.device.clock time
events s _ = not_before_itself s.device.clock

pub clock_never_falls : ClockNeverFalls
clock_never_falls s e = by e.call
  where
    by : (r : Call) → int_le s.core.device.clock (step s (record e { call = r })).0.core.device.clock ≡ true
    by (ask.Device what) = events s.core what
    by r =
        let f = rule s.core (reads_of s r) (record e { call = r }) in
        kept s.core (refusal e.short f) (told_on f.on f.effect) (not_before_itself s.core.device.clock)
