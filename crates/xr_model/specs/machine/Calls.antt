-- The entry that a call makes in a history, and what a call came to.
use Rattle.std.specs.Prelude.{ℕ, List, Option, Bool, true, false, ◌==◌}
use Rattle.xr_types.specs.declared.calls.Actor.{Actor}
use Rattle.xr_types.specs.declared.calls.Actor.TheVariants.{App, Compositor, Device}
use Rattle.xr_types.specs.declared.calls.Call.{Call}
use Rattle.xr_types.specs.declared.calls.Reply.{Reply}
use Rattle.xr_types.specs.declared.frames.Shown.{Shown}

-- One entry of a history: who called, what was asked, the handle that was given (0 for none), and
-- whether the call was short of memory.
pub record Entry : Type 0 where
  pub actor : Actor
  pub call : Call
  pub given : ℕ
  pub short : Bool

abbrev pub is_actor : Actor → Actor → Bool
is_actor (App j) (App k) = j == k
is_actor Compositor Compositor = true
is_actor Device Device = true
is_actor _ _ = false

-- What a call came to: its reply, the bytes put into the buffer that it was lent, and the frame that it shows.
pub record Outcome : Type 0 where
  pub reply : Reply
  pub text : List ℕ
  pub shown : Option Shown

-- a call and what it came to
pub record Exchange : Type 0 where
  pub call : Call
  pub outcome : Outcome
