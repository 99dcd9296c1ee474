-- The compositor's worker on its way.
use Rattle.std.specs.Prelude.{◌≡◌, ◌<◌, ◌≤◌, ◌*◌, ◌^◌, ℕ, false, List, [], ◌∷◌, ◌++◌, length, Option, Some, None, IfSome, Result, Ok, Err, ⊤}
use Rattle.atomic_table.specs.Seated.{TableId}
use Rattle.xr_types.specs.declared.calls.NoMemory.{NoMemory}
use Rattle.xr_types.specs.declared.calls.Reply.{Reply}
use Rattle.xr_types.specs.declared.frames.Shown.{Shown}
use Rattle.xr_model.specs.machine.Calls.{Exchange}
use Rattle.xr_model.specs.runs.Lists.{frames_in, replies_in}
use Rattle.xr_runtime.specs.declared.passes.CompositorPass.{CompositorPass}
use Rattle.xr_runtime.specs.Passes.{IsCompositor}
use Rattle.xr_workers.specs.declared.compositor.Composed.{Composed}
use Rattle.xr_workers.specs.declared.compositor.Frames.{Frames}
use Rattle.xr_workers.specs.Workers.{Adds, turns_in}
use Rattle.xr_runs.specs.Sides.{AllGoOn}

-- the frames with this one more, or nothing
abbrev pub KeepsFrame : Option Frames → Shown → Reply → Option Frames → Type 0
KeepsFrame old shown reply None = ⊤
KeepsFrame None shown reply (Some new) = ⊥
KeepsFrame (Some old) shown reply (Some new) = (new.frames.items ≡ old.frames.items ++ shown ∷ []) × (new.replies.items ≡ old.replies.items ++ reply ∷ [])

-- So many turns were had, in which frames were shown and their images given back; what is kept are these frames, and their replies.
pub record Composes (table : TableId) (turns : ℕ) (old new : CompositorPass) (kept : Option Frames) : Type 0 where
  pub is : IsCompositor table new
  pub unended : new.ended ≡ false
  pub none_held : new.held.items ≡ []
  pub calls : List Exchange
  pub adds : Adds old.seat.me.0.know new.seat.me.0.know calls
  pub goes : AllGoOn calls
  pub turns_are : turns ≡ turns_in calls
  pub few : length calls ≤ 49 * turns
  pub below : turns < 2 ^ 44
  pub keeps : IfSome kept (λ k. (k.frames.items ≡ frames_in calls) × (k.replies.items ≡ replies_in calls))

-- all that is listed, unless memory was short
abbrev pub ListsAll : Option Frames → Reply → Result Composed NoMemory → Type 0
ListsAll None ended (Ok list) = ⊥
ListsAll None ended (Err short) = ⊤
ListsAll (Some k) ended (Ok list) = list ≡ record { frames = k.frames.items; replies = k.replies.items; ended = ended }
ListsAll (Some k) ended (Err short) = ⊥
