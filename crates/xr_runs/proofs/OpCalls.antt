-- What is known of a script's op and of the call that it asks for.
use Rattle.std.proofs.Common.{◌≡◌, ◌<◌, ◌≤◌, ◌+◌, ℕ, ℤ, pos, true, List, ◌∷◌, length, drop, get_or, refl, add-one, drop-cons, arith}
use Rattle.std.specs.Prelude.{◌≤ℤ◌, int_le, ◌&&◌}
use Rattle.std.proofs.lemmas.Bool.Decides.{nat_tests}
use Rattle.xr_types.specs.declared.scenario.Op.{Op}
use Rattle.xr_types.specs.declared.scenario.Op.TheVariants as op
use Rattle.xr_types.specs.Device.{is_mark}
use Rattle.xr_model.specs.scenario.InRange.{IsMark}
use Rattle.xr_model.specs.scenario.ScriptForm.{IsInRange}
use Rattle.xr_model.specs.machine.CoreCalls.{MayAsk}
use Rattle.xr_model.specs.runs.Scripts.{request_for, unstarted}
use Rattle.xr_types.specs.CallKinds.{lent_size, with_start}
use Rattle.xr_types.specs.declared.calls.Actor.TheVariants.{App}

pub here_at : (ops : List Op) (i : ℕ) (o : Op) → i < length ops → o ≡ get_or ops i o → drop i ops ≡ o ∷ drop (i + 1) ops
here_at ops i o h here = rw (add-one, drop-cons ops i o h, ← here) refl

mark_in_range : (n : ℕ) → IsMark n → is_mark n ≡ true
mark_in_range n m = let low = m.0 in let high = m.1 in grind (arith, nat_tests, low, high)

up_from : (timeout clock : ℤ) → pos 0 ≤ℤ timeout → pos 0 ≤ℤ clock → int_le (pos 0) timeout && int_le (pos 0) clock ≡ true
up_from timeout clock a b = grind (arith, a, b)

pub op_asks : (clock : ℤ) (values : List ℕ) (number : ℕ) (o : Op) → pos 0 ≤ℤ clock → IsInRange o
    → MayAsk (App number) (with_start clock (request_for values o)) (lent_size (with_start clock (request_for values o)))
op_asks clock values number (op.CreateInstance major minor) begun r = record { caller = refl; numbers = refl; buffer = tt }
op_asks clock values number (op.PathToString instance path capacity) begun r = record { caller = refl; numbers = refl; buffer = refl }
op_asks clock values number (op.Mark number' value) begun r = record { caller = refl; numbers = mark_in_range number' r.0; buffer = tt }
op_asks clock values number (op.Await number') begun r = record { caller = refl; numbers = mark_in_range number' r; buffer = tt }
op_asks clock values number (op.WaitImage chain timeout) begun r = record { caller = refl; numbers = up_from timeout clock r.1.0 begun; buffer = tt }
op_asks clock values number _ begun r = record { caller = refl; numbers = refl; buffer = tt }

-- what a call of an op in range is lent
pub op_lent : (clock : ℤ) (values : List ℕ) (o : Op) → IsInRange o → lent_size (with_start clock (request_for values o)) ≤ 1024
op_lent clock values (op.PathToString instance path capacity) r = r.2
op_lent clock values _ r = omega arith

pub same_request : (clock : ℤ) (values : List ℕ) (o : Op) → unstarted (with_start clock (request_for values o)) ≡ request_for values o
same_request clock values (op.CreateInstance major minor) = refl
same_request clock values _ = refl
