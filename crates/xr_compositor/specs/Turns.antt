-- A turn of the compositor: what its pass's own calls are behind it, and what was shown.
use Rattle.std.specs.Prelude.{◌≡◌, ◌≤◌, ◌+◌, false, List, [], ◌∷◌, ◌++◌, length, Some, None}
use Rattle.atomic_table.specs.Seated.{TableId}
use Rattle.xr_types.specs.declared.calls.Gives.TheVariants as gives
use Rattle.xr_types.specs.declared.code.Code.TheVariants.{Success}
use Rattle.xr_types.specs.declared.frames.Shown.{Shown}
use Rattle.xr_model.specs.machine.Calls.{Entry, Outcome, Exchange}
use Rattle.xr_types.specs.declared.calls.Call.TheVariants as ask
use Rattle.xr_rule.specs.View.{Know, calls_in, know_after}
use Rattle.xr_rule.specs.Plays.{Sees}
use Rattle.xr_model.specs.laws.FewCalls.{is_end}
use Rattle.xr_model.specs.laws.Moments.{exchange_at}
use Rattle.xr_runtime.specs.declared.passes.CompositorPass.{CompositorPass}
use Rattle.xr_runtime.specs.Calling.{behind, seen_by}
use Rattle.xr_runtime.specs.Passes.{IsCompositor}
use Rattle.xr_compositor.specs.declared.Turned.{Turned}
use Rattle.xr_compositor.specs.declared.Turned.TheVariants as turned

-- what the compositor's pass knows, and its own calls
abbrev pub know_of : CompositorPass → Know
know_of p = p.seat.me.0.know

abbrev pub own_calls : CompositorPass → List Exchange
own_calls p = calls_in (know_of p).own

-- an image was given back
pub record IsReturn (t : Exchange) : Type 0 where
  pub asks : t.call ≡ ask.ImageDone
  pub succeeds : t.outcome.reply.code ≡ Success
  pub gives_nothing : t.outcome.reply.gives ≡ gives.Nothing
  pub shows_none : t.outcome.shown ≡ None

-- so by each of these calls
abbrev pub AreReturns : List Exchange → Type 0
AreReturns [] = Unit {0}
AreReturns (t ∷ ts) = IsReturn t × AreReturns ts

-- One image was given back, and the pass keeps its promise.
pub record GaveOneBack (table : TableId) (old new : CompositorPass) : Type 0 where
  pub is : IsCompositor table new
  pub unended : new.ended ≡ false
  pub image : Exchange
  pub made : own_calls new ≡ own_calls old ++ image ∷ []
  pub returns : IsReturn image
  pub held : length new.held.items + 1 ≡ length old.held.items

-- Images were given back, each by a call of its own, and the pass keeps its promise.
pub record GivesBack (table : TableId) (old new : CompositorPass) : Type 0 where
  pub is : IsCompositor table new
  pub unended : new.ended ≡ false
  pub images : List Exchange
  pub made : own_calls new ≡ own_calls old ++ images
  pub returns : AreReturns images
  pub each : length images + length new.held.items ≡ length old.held.items

-- all that were held
pub record GaveAllBack (table : TableId) (old new : CompositorPass) : Type 0 where
  pub back : GivesBack table old new
  pub none_held : new.held.items ≡ []

-- What a turn came to is what its request for a frame came to: a frame was shown, which is left in the place that was lent, or the end
-- was told, and that place is as it was.
abbrev pub IsTold : Turned → Outcome → Shown → Shown → Type 0  -- before, after
IsTold (turned.Shown reply) o before after = (reply ≡ o.reply) × (reply.gives ≡ gives.Shown) × (o.shown ≡ Some after)
IsTold (turned.Ended reply) o before after = (reply ≡ o.reply) × (reply.gives ≡ gives.Ended) × (o.shown ≡ None) × (after ≡ before)

-- The request for a frame is the last entry of a legal history that goes on from what the pass had seen, with nothing of the pass
-- between. What it came to is the machine's at that place.
pub record AsksForFrame (old : CompositorPass) (frame : Exchange) : Type 0 where
  pub look : List Entry
  pub entry : Entry
  pub saw : Sees (know_of old) look
  pub sees : Sees (know_after (know_of old) look entry) (look ++ entry ∷ [])
  pub asks : entry.call ≡ ask.NextFrame
  pub is : frame ≡ exchange_at (behind (know_of old) look) entry

-- where the end was told, no image was given back
abbrev pub NoneAtEnd : Turned → List Exchange → Type 0
NoneAtEnd (turned.Shown reply) images = Unit {0}
NoneAtEnd (turned.Ended reply) images = images ≡ []

-- A turn: the pass asked for a frame once, and then gave back as many images as were held behind that, each once; where it was told
-- the end there were none. It holds none now, and keeps its promise. There are at most three images of each of sixteen swapchains.
pub record Turns (table : TableId) (old : CompositorPass) (before after : Shown) (came : Turned) (new : CompositorPass) : Type 0 where
  pub is : IsCompositor table new
  pub frame : Exchange
  pub images : List Exchange
  pub made : own_calls new ≡ own_calls old ++ frame ∷ images
  pub asks : AsksForFrame old frame
  pub told : IsTold came frame.outcome before after
  pub returns : AreReturns images
  pub each : length images ≡ length (seen_by (know_after (know_of old) asks.look asks.entry)).state.cells.held
  pub few : length images ≤ 48
  pub at_end : NoneAtEnd came images
  pub none_held : new.held.items ≡ []
  pub ended : new.ended ≡ is_end frame.outcome.reply.gives
