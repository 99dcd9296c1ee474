-- The lists at the end of a run.
use Rattle.std.specs.Prelude.{◌≡◌, Bool, IsTrue, List, [], Some, Result, Ok}
use Rattle.xr_types.specs.declared.calls.NoMemory.{NoMemory}
use Rattle.xr_types.specs.declared.made.Lists.{Lists}
use Rattle.xr_types.specs.declared.made.Made.{Made}
use Rattle.xr_workers.specs.declared.compositor.Composed.{Composed}
use Rattle.xr_workers.specs.declared.device.DeviceMade.{DeviceMade}

-- Every worker has its list, and the lists of the run are these.
pub record AreListed (apps : List (List Made)) (all : Bool) (composed : Result Composed NoMemory) (told : Result DeviceMade NoMemory) (lists : Lists) : Type 0 where
  pub listed : IsTrue all
  pub frames : Composed
  pub composed_is : composed ≡ Ok frames
  pub made : DeviceMade
  pub told_is : told ≡ Ok made
  pub lists_are : lists ≡ record {
    apps = apps;
    device = made.calls;
    compositor = frames.frames;
    ended = Some frames.ended;
    shown = frames.replies;
    done = [];
    events = made.events;
    next = [];
  }
