-- Only the compositor's calls change which images are held.
use Rattle.std.proofs.Common.{◌≡◌, ℕ, ℤ, List, [], Option, Some, None, refl}
use Rattle.xr_types.specs.declared.scenario.Op.{Op}
use Rattle.xr_types.specs.declared.scenario.Op.TheVariants as op
use Rattle.xr_model.specs.machine.Refusals.{Refusal}
use Rattle.xr_model.specs.machine.Calls.{Entry}
use Rattle.xr_types.specs.declared.calls.Call.{Call}
use Rattle.xr_types.specs.declared.calls.Call.TheVariants as ask
use Rattle.xr_model.specs.machine.SessionRule.{Loss}
use Rattle.xr_model.specs.machine.Rule.{Rule, Effect, refusal, told_on, unless_refused}
use Rattle.xr_types.specs.CallKinds.{with_start}
use Rattle.xr_model.specs.runs.Scripts.{request_for}
use Rattle.xr_model.specs.machine.State.{CoreState, State}
use Rattle.xr_model.specs.machine.Machine.{rule, step, reads_of}

abbrev KeepsHeld : Effect → Type 0
KeepsHeld e = (e.did.taken ≡ []) × (e.did.returned ≡ [])

refused_holds : (s : CoreState) (found : Option Refusal) (e : Effect) → KeepsHeld e → KeepsHeld (unless_refused s found e)
refused_holds s None e h = h
refused_holds s (Some r) e h = (refl, refl)

told_holds : (on : Option Loss) (e : Effect) → KeepsHeld e → KeepsHeld (told_on on e)
told_holds None e h = h
told_holds (Some loss) e h = h

abbrev pub IsHolding : Call → Type 0
IsHolding ask.NextFrame = ⊥
IsHolding ask.ImageDone = ⊥
IsHolding _ = Unit {0}

pub call_holds : (s : State) (e : Entry) → IsHolding e.call → (step s e).0.cells.held ≡ s.cells.held
call_holds s e holds =
    let still = refused_holds s.core (refusal e.short (rule_for e.call)) (told_on (rule_for e.call).on (rule_for e.call).effect) (told_holds (rule_for e.call).on (rule_for e.call).effect (by e.call holds)) in
    rw (still.0, still.1) refl
  where
    rule_for : Call → Rule
    rule_for r = rule s.core (reads_of s r) (record e { call = r })

    by : (r : Call) → IsHolding r → KeepsHeld (rule_for r).effect
    by ask.NextFrame holds = absurd holds
    by ask.ImageDone holds = absurd holds
    by (ask.CreateInstance major minor) holds = (refl, refl)
    by _ holds = (refl, refl)

pub op_holds : (clock : ℤ) (values : List ℕ) (o : Op) → IsHolding (with_start clock (request_for values o))
op_holds clock values (op.CreateInstance major minor) = tt
op_holds clock values _ = tt
