-- What a run keeps of each actor, as contracts see it.
use Rattle.std.specs.Prelude.{ℕ, ℤ, Bool, List, Option}
use Rattle.xr_types.specs.declared.calls.Reply.{Reply}
use Rattle.xr_types.specs.declared.made.Made.{Made}
use Rattle.xr_types.specs.declared.frames.Shown.{Shown}
use Rattle.xr_runs.specs.Sides.{SideState}

-- An application: how many ops of its script were made, what its names stand for, its calls, the clock after its last locked one, and
-- whether it has left.
pub record AppState : Type 0 where
  pub made : ℕ
  pub names : List ℕ
  pub calls : List Made
  pub clock : ℤ
  pub has_left : Bool

-- The compositor: the frames that it was shown with the replies of these calls, for each image that it gave back how many locked
-- calls came before, and the reply that told it the end.
pub record CompositorState : Type 0 where
  pub frames : List Shown
  pub replies : List Reply
  pub done : List ℕ
  pub ended : Option Reply

-- all actors
pub record RunState : Type 0 where
  pub apps : List AppState
  pub side : SideState
  pub compositor : CompositorState
