-- What is known of a script's op and of its call.
use Rattle.std.proofs.Common.{◌≡◌, ℕ, ℤ, true, true≢false, sym, List, [], ◌∷◌, refl}
use Rattle.std.specs.Prelude.{◌&&◌, ◌||◌, Bool, Option, Some, None, is_none, is_some, not, false}
use Rattle.xr_model.specs.machine.Refusals.{Refusal, when, first_of}
use Rattle.xr_types.specs.declared.scenario.Op.{Op}
use Rattle.xr_types.specs.declared.scenario.Op.TheVariants as op
use Rattle.xr_types.specs.Op.{call_name}
use Rattle.xr_model.specs.runs.Lists.{done_at}
use Rattle.xr_types.specs.declared.code.Code.TheVariants.{CallOrderInvalid}
use Rattle.xr_model.specs.machine.Machine.{ready}
use Rattle.xr_model.specs.machine.Rules.Frames.{is_frame_awaited}
use Rattle.xr_model.specs.runs.Scripts.{request_for}
use Rattle.xr_types.specs.CallKinds.{is_locked, listed_name, with_start}
use Rattle.xr_types.specs.declared.calls.Call.{Call}
use Rattle.xr_types.specs.declared.calls.Call.TheVariants as ask
use Rattle.xr_model.specs.machine.State.{State}
use Rattle.xr_model.specs.machine.History.{StartsAt}
use Rattle.xr_model.specs.machine.Frames.{is_empty}
use Rattle.xr_serial.specs.inside.Made.{asked}
use Rattle.xr_types.specs.declared.calls.Actor.TheVariants.{Compositor}
use Rattle.xr_serial.specs.inside.RunInvariant.{is_getter_name}

-- no op asks for a frame to be shown
pub name_is : (clock : ℤ) (values : List ℕ) (o : Op) → listed_name (with_start clock (request_for values o)) ≡ call_name o
name_is clock values (op.CreateInstance major minor) = refl
name_is clock values _ = refl

-- a wait that nothing refuses isn't ready
pub held_back : (waits : Bool) (found : Option Refusal) → (waits && is_none found) ≡ true → not waits || is_some found ≡ false
held_back true None e = refl
held_back true (Some r) e = absurd (true≢false (sym e))
held_back false found e = absurd (true≢false (sym e))

-- the compositor's call isn't ready where no frame is pending, some application is there, and no image is held
pub frame_held_back : (s : State) → is_frame_awaited s.core && is_empty s.cells.held ≡ true → ready s (asked Compositor ask.NextFrame) ≡ false
frame_held_back s told = by (is_frame_awaited s.core) (is_empty s.cells.held) told
  where
    by : (awaited unheld : Bool) → awaited && unheld ≡ true → not awaited || is_some (first_of (when (not unheld) CallOrderInvalid ∷ [])) ≡ false
    by true true told = refl
    by true false told = absurd (true≢false (sym told))
    by false unheld told = absurd (true≢false (sym told))

-- ---- a call and the clock at which a wait begins

-- it begins where its clock says, and no other call cares
pub starts : (clock : ℤ) (r : Call) → StartsAt clock (with_start clock r)
starts clock (ask.WaitImage chain timeout start) = refl
starts clock _ = tt

-- a call is a locked one, or a getter by its name, whenever a wait begins
pub getter_name : (clock : ℤ) (values : List ℕ) (o : Op) → is_getter_name (listed_name (with_start clock (request_for values o))) ≡ not (is_locked (with_start clock (request_for values o)))
getter_name clock values (op.CreateInstance major minor) = refl
getter_name clock values _ = refl

pub as_locked : (clock : ℤ) (r : Call) → is_locked (with_start clock r) ≡ is_locked r
as_locked clock (ask.WaitImage chain timeout start) = refl
as_locked clock _ = refl

-- and gives back no image
pub op_returns : (clock : ℤ) (values : List ℕ) (s : State) (o : Op) → done_at s (with_start clock (request_for values o)) ≡ []
op_returns clock values s (op.CreateInstance major minor) = refl
op_returns clock values s _ = refl
