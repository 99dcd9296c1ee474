-- Only `leave` tells that an application has left.
use Rattle.std.proofs.Common.{◌≡◌, ℕ, ℤ, Option, Some, None, refl, List}
use Rattle.xr_types.specs.declared.device.DeviceEvent.{DeviceEvent}
use Rattle.xr_types.specs.declared.device.DeviceEvent.TheVariants as event
use Rattle.xr_types.specs.declared.scenario.Op.{Op}
use Rattle.xr_types.specs.declared.scenario.Op.TheVariants as op
use Rattle.xr_model.specs.machine.Refusals.{Refusal}
use Rattle.xr_model.specs.machine.Calls.{Entry}
use Rattle.xr_types.specs.declared.calls.Call.{Call}
use Rattle.xr_types.specs.declared.calls.Call.TheVariants as ask
use Rattle.xr_model.specs.machine.SessionRule.{Loss}
use Rattle.xr_model.specs.machine.Rule.{Rule, Effect, refusal, told_on, unless_refused}
use Rattle.xr_types.specs.CallKinds.{with_start}
use Rattle.xr_model.specs.runs.Scripts.{request_for}
use Rattle.xr_model.specs.machine.State.{CoreState, State}
use Rattle.xr_model.specs.machine.Rules.Device.{behind_event}
use Rattle.xr_model.specs.machine.Machine.{rule, step, reads_of}

abbrev KeepsLeft : CoreState → Effect → Type 0
KeepsLeft s e = e.state.left ≡ s.left

refused_keeps : (s : CoreState) (found : Option Refusal) (e : Effect) → KeepsLeft s e → KeepsLeft s (unless_refused s found e)
refused_keeps s None e h = h
refused_keeps s (Some r) e h = refl

told_keeps : (s : CoreState) (on : Option Loss) (e : Effect) → KeepsLeft s e → KeepsLeft s (told_on on e)
told_keeps s None e h = h
told_keeps s (Some loss) e h = h

events_keep : (s : CoreState) (what : DeviceEvent) → (behind_event s what).left ≡ s.left
events_keep s (event.Clock time) = refl
events_keep s _ = refl

abbrev pub IsStaying : Call → Type 0
IsStaying ask.Leave = ⊥
IsStaying _ = Unit {0}

pub call_keeps : (s : State) (e : Entry) → IsStaying e.call → (step s e).0.core.left ≡ s.core.left
call_keeps s e stays = refused_keeps s.core (refusal e.short (rule_for e.call)) (told_on (rule_for e.call).on (rule_for e.call).effect) (told_keeps s.core (rule_for e.call).on (rule_for e.call).effect (by e.call stays))
  where
    rule_for : Call → Rule
    rule_for r = rule s.core (reads_of s r) (record e { call = r })

    by : (r : Call) → IsStaying r → KeepsLeft s.core (rule_for r).effect
    by ask.Leave stays = absurd stays
    by (ask.Device what) stays = events_keep s.core what
    by _ stays = refl

pub op_stays : (clock : ℤ) (values : List ℕ) (o : Op) → IsStaying (with_start clock (request_for values o))
op_stays clock values (op.CreateInstance major minor) = tt
op_stays clock values _ = tt
