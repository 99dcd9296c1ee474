-- Where a session settles, case by case.
use Rattle.std.proofs.Common.{◌≡◌, Bool, true, false, None, refl}
use Rattle.xr_types.specs.declared.device.Wish.{Wish}
use Rattle.xr_types.specs.declared.device.Wish.TheVariants as wish
use Rattle.xr_types.specs.declared.session.SessionState.{SessionState}
use Rattle.xr_types.specs.declared.session.SessionState.TheVariants.{Idle, Ready, Synchronized, Visible, Focused, Stopping, LossPending, Exiting}
use Rattle.xr_model.specs.machine.SessionLife.{next_state, changes, most_changes, last_of}
use Rattle.xr_model.specs.laws.StateLaws.{NoRowFits}

-- that many changes are enough
enough : (w : Wish) (exit : Bool) (state : SessionState) → next_state w exit (last_of state (changes most_changes w exit state)) ≡ None
enough wish.Rest true Idle = refl
enough wish.Rest false Idle = refl
enough wish.Ready true Idle = refl
enough wish.Ready false Idle = refl
enough wish.Visible true Idle = refl
enough wish.Visible false Idle = refl
enough wish.Focused true Idle = refl
enough wish.Focused false Idle = refl
enough wish.Rest true Ready = refl
enough wish.Rest false Ready = refl
enough wish.Ready true Ready = refl
enough wish.Ready false Ready = refl
enough wish.Visible true Ready = refl
enough wish.Visible false Ready = refl
enough wish.Focused true Ready = refl
enough wish.Focused false Ready = refl
enough wish.Rest true Synchronized = refl
enough wish.Rest false Synchronized = refl
enough wish.Ready true Synchronized = refl
enough wish.Ready false Synchronized = refl
enough wish.Visible true Synchronized = refl
enough wish.Visible false Synchronized = refl
enough wish.Focused true Synchronized = refl
enough wish.Focused false Synchronized = refl
enough wish.Rest true Visible = refl
enough wish.Rest false Visible = refl
enough wish.Ready true Visible = refl
enough wish.Ready false Visible = refl
enough wish.Visible true Visible = refl
enough wish.Visible false Visible = refl
enough wish.Focused true Visible = refl
enough wish.Focused false Visible = refl
enough wish.Rest true Focused = refl
enough wish.Rest false Focused = refl
enough wish.Ready true Focused = refl
enough wish.Ready false Focused = refl
enough wish.Visible true Focused = refl
enough wish.Visible false Focused = refl
enough wish.Focused true Focused = refl
enough wish.Focused false Focused = refl
enough wish.Rest true Stopping = refl
enough wish.Rest false Stopping = refl
enough wish.Ready true Stopping = refl
enough wish.Ready false Stopping = refl
enough wish.Visible true Stopping = refl
enough wish.Visible false Stopping = refl
enough wish.Focused true Stopping = refl
enough wish.Focused false Stopping = refl
enough wish.Rest true LossPending = refl
enough wish.Rest false LossPending = refl
enough wish.Ready true LossPending = refl
enough wish.Ready false LossPending = refl
enough wish.Visible true LossPending = refl
enough wish.Visible false LossPending = refl
enough wish.Focused true LossPending = refl
enough wish.Focused false LossPending = refl
enough wish.Rest true Exiting = refl
enough wish.Rest false Exiting = refl
enough wish.Ready true Exiting = refl
enough wish.Ready false Exiting = refl
enough wish.Visible true Exiting = refl
enough wish.Visible false Exiting = refl
enough wish.Focused true Exiting = refl
enough wish.Focused false Exiting = refl

pub no_row_fits : NoRowFits
no_row_fits w life = enough w life.exit life.state
