-- Each call of the round robin is by one who may ask for it.
use Rattle.std.proofs.Common.{◌≡◌, ℕ, ℤ, zero, suc, true, List, [], ◌∷◌, Option, Some, None, refl}
use Rattle.xr_types.specs.declared.calls.Actor.TheVariants.{App}
use Rattle.xr_types.specs.declared.scenario.Op.{Op}
use Rattle.xr_types.specs.declared.scenario.Op.TheVariants as op
use Rattle.xr_types.specs.CallKinds.{with_start}
use Rattle.xr_model.specs.laws.MomentLaws.{are_by_callers}
use Rattle.xr_model.specs.machine.Calls.{Entry}
use Rattle.xr_model.specs.machine.CoreCalls.{asked}
use Rattle.xr_model.specs.machine.Machine.{step}
use Rattle.xr_model.specs.machine.Rule.{is_by}
use Rattle.xr_model.specs.machine.State.{State}
use Rattle.xr_model.specs.runs.Robin.{Agenda, script, events, compositor, actor_of, next_call, NextMove, next_move, IsCallOf, agendas_behind, IsRobinFrom}
use Rattle.xr_model.specs.runs.Scripts.{request_for}

op_is_own : (clock : ℤ) (values : List ℕ) (number : ℕ) (o : Op) → is_by (asked (App number) (with_start clock (request_for values o))).caller (App number) ≡ true
op_is_own clock values number (op.CreateInstance major minor) = refl
op_is_own clock values number _ = refl

next_is_own : (x : Agenda) → is_by (asked (actor_of x) (next_call x)).caller (actor_of x) ≡ true
next_is_own (script app place [] values clock) = refl
next_is_own (script app place (o ∷ os) values clock) = op_is_own clock values app o
next_is_own (events event later) = refl
next_is_own (compositor zero) = refl
next_is_own (compositor (suc held)) = refl

pub robin_by_callers : (s : State) (agendas : List Agenda) (es : List Entry) → IsRobinFrom s agendas es → are_by_callers es ≡ true
robin_by_callers s agendas [] robin = refl
robin_by_callers s agendas (e ∷ es) robin = rw (by (next_move s [] agendas) robin.0) (robin_by_callers (step s e).0 (agendas_behind (next_move s [] agendas) (step s e).0 (step s e).1) es robin.1)
  where
    by : (m : Option NextMove) → IsCallOf m e → is_by (asked e.actor e.call).caller e.actor ≡ true
    by None is = absurd is
    by (Some m) is = rw (is.0, is.1) (next_is_own m.agenda)
