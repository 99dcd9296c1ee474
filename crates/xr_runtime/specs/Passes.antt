-- What passes promise between calls, and what a call of a pass asks and tells.
use Rattle.std.specs.Prelude.{◌≡◌, ◌+◌, ◌^◌, ◌<◌, ◌≤ℤ◌, ℕ, pos, false, List, [], length, Option, slice_get, Some}
use Rattle.atomic_table.specs.Seated.{TableId}
use Rattle.atomic_table.specs.declared.shared.Seat.{Seat}
use Rattle.xr_types.specs.declared.calls.Actor.TheVariants.{App}
use Rattle.xr_types.specs.declared.calls.Reply.{Reply}
use Rattle.xr_types.specs.declared.frames.Shown.{Shown}
use Rattle.xr_model.specs.machine.CoreCalls.{Lent, MayAsk}
use Rattle.xr_model.specs.machine.History.{clock_of}
use Rattle.xr_model.specs.machine.Machine.{IsPresent}
use Rattle.xr_types.specs.declared.calls.Call.{Call}
use Rattle.xr_model.specs.machine.State.{WholeCore}
use Rattle.xr_model.specs.laws.FewCalls.{how_many, is_end, tells_end}
use Rattle.xr_model.specs.laws.Moments.{opening_moment, IsLegalAt}
use Rattle.xr_types.specs.CallKinds.{is_leave}
use Rattle.xr_rule.specs.declared.held.Held.{Held}
use Rattle.xr_rule.specs.Seats.{IsBetween, IsFresh}
use Rattle.xr_rule.specs.View.{View, number_in, calls_in}
use Rattle.xr_runtime.specs.declared.calling.Runtime.{Runtime}
use Rattle.xr_runtime.specs.declared.passes.AppPass.{AppPass}
use Rattle.xr_runtime.specs.declared.passes.CompositorPass.{CompositorPass}
use Rattle.xr_runtime.specs.declared.passes.DevicePass.{DevicePass}
use Rattle.xr_runtime.specs.declared.passes.Passes.{Passes}
use Rattle.xr_runtime.specs.Calling.{actor_of, behind, seen_by, Called}

-- which table is a runtime's
abbrev pub table_of : Runtime → TableId
table_of r = r.table.table.shared.table_id

-- of how many applications it is
abbrev pub apps_of : Runtime → ℕ
apps_of r = r.table.table.shared.key

-- A seat between calls: it is this table's, no call is under way, and it has one number.
pub record Rests (table : TableId) (s : Seat (Option (Held WholeCore)) View) : Type 0 where
  pub own : s.table_id ≡ table
  pub between : IsBetween s.me
  pub alone : length s.me.0.know.own ≡ 1

-- ---- applications

-- What an application's pass promises between calls: its seat rests and is the application's, which is there until it has left; its
-- clock is the one at which a wait begins; and it has counted its calls.
pub record IsApp (table : TableId) (p : AppPass) : Type 0 where
  pub rests : Rests table p.seat
  pub is_own : actor_of p.seat.me.0.know ≡ App p.app
  pub here : p.left ≡ false → IsPresent (seen_by p.seat.me.0.know).state.core (App p.app)
  pub clock_is : p.clock ≡ clock_of (seen_by p.seat.me.0.know).clocks (App p.app)
  pub begun : pos 0 ≤ℤ p.clock
  pub counts : p.calls ≡ length (calls_in p.seat.me.0.know.own)

-- It may make a call: it has made fewer than 2^40, and hasn't left.
pub record MayCall (table : TableId) (p : AppPass) : Type 0 where
  pub is : IsApp table p
  pub here : p.left ≡ false
  pub few : p.calls < 2 ^ 40

-- The call was made by its seat, which had so much lent, and the pass keeps its promise: it has counted the call, and has left where
-- the call says so.
pub record AppCalls (table : TableId) (old : AppPass) (what : Call) (before after : Lent) (reply : Reply) (new : AppPass) : Type 0 where
  pub is : IsApp table new
  pub same : new.app ≡ old.app
  pub counted : new.calls ≡ old.calls + 1
  pub left_is : new.left ≡ is_leave what
  pub called : Called old.seat.me what reply before after new.seat.me

-- It may make this call over a buffer of this size: the call is an application's own, its numbers are in range, and it has the buffer
-- that it asks for.
pub record AppMay (table : TableId) (p : AppPass) (what : Call) (size : ℕ) : Type 0 where
  pub may : MayCall table p
  pub asks : MayAsk (App p.app) what size

-- The call was made over this text, which left that one, and no frame is shown to it.
abbrev pub AnswersText : TableId → AppPass → Call → List ℕ → List ℕ → Reply → AppPass → Type 0
AnswersText table old what before after reply new =
    (frame : Shown) × (left : Shown) × AppCalls table old what (record { text = before; frame = frame }) (record { text = after; frame = left }) reply new

-- the same of a call that is lent nothing
abbrev pub AppAnswers : TableId → AppPass → Call → Reply → AppPass → Type 0
AppAnswers table old what reply new = (after : List ℕ) × AnswersText table old what [] after reply new

-- ---- the compositor and the device

-- What the compositor's pass promises between calls: its seat rests, is the compositor's, and has seen a legal history; it knows which
-- images are held behind that, and whether it was told the end; and it has counted its calls.
pub record IsCompositor (table : TableId) (p : CompositorPass) : Type 0 where
  pub rests : Rests table p.seat
  pub is_own : number_in p.seat.me.0.know.own ≡ 1
  pub legal : IsLegalAt (opening_moment p.seat.me.0.know.apps) p.seat.me.0.know.seen
  pub held_is : p.held.items ≡ (seen_by p.seat.me.0.know).state.cells.held
  pub counts : p.calls ≡ length (calls_in p.seat.me.0.know.own)
  pub unended : p.ended ≡ false → how_many tells_end (calls_in p.seat.me.0.know.own) ≡ 0

-- The call was made by the compositor's seat, at a place where those images are held that the pass knew, and the pass keeps its
-- promise; it is told the end where the reply says so.
pub record Composes (table : TableId) (old : CompositorPass) (what : Call) (before after : Lent) (reply : Reply) (new : CompositorPass) : Type 0 where
  pub is : IsCompositor table new
  pub ended_is : new.ended ≡ is_end reply.gives
  pub called : Called old.seat.me what reply before after new.seat.me
  pub held_before : old.held.items ≡ (behind old.seat.me.0.know called.look).state.cells.held

-- What the device's pass promises between calls: its seat rests and is the device's, and it has counted its calls.
pub record IsDevice (table : TableId) (p : DevicePass) : Type 0 where
  pub rests : Rests table p.seat
  pub is_own : number_in p.seat.me.0.know.own ≡ 0
  pub counts : p.calls ≡ length (calls_in p.seat.me.0.know.own)

-- The call was made by the device's seat, and the pass keeps its promise.
pub record Tells (table : TableId) (old : DevicePass) (what : Call) (reply : Reply) (new : DevicePass) : Type 0 where
  pub is : IsDevice table new
  pub before : Lent
  pub after : Lent
  pub called : Called old.seat.me what reply before after new.seat.me

-- ---- the start

-- these seats are fresh, with numbers from this one on
abbrev pub AreSeats : TableId → ℕ → ℕ → List (Seat (Option (Held WholeCore)) View) → Type 0
AreSeats table apps from seats = (i : ℕ) (s : Seat (Option (Held WholeCore)) View) → slice_get seats i ≡ Some s → IsFresh table apps (i + from) s

-- An application's pass before any call.
pub record IsFirst (table : TableId) (app : ℕ) (p : AppPass) : Type 0 where
  pub is : IsApp table p
  pub app_is : p.app ≡ app
  pub stays : p.left ≡ false
  pub none_made : p.calls ≡ 0

-- the applications' passes in their order, from 1
abbrev pub AreFirst : TableId → List AppPass → Type 0
AreFirst table passes = (i : ℕ) (a : AppPass) → slice_get passes i ≡ Some a → IsFirst table (i + 1) a

-- A runtime of so many applications, and its passes before any call.
pub record IsStarted (r : Runtime) (apps : ℕ) (p : Passes) : Type 0 where
  pub apps_are : apps_of r ≡ apps
  pub count : length p.apps.items ≡ apps
  pub passes : AreFirst (table_of r) p.apps.items
  pub compositor : IsCompositor (table_of r) p.compositor
  pub none_shown : (p.compositor.ended ≡ false) × (p.compositor.calls ≡ 0)
  pub none_held : p.compositor.held.items ≡ []
  pub device : IsDevice (table_of r) p.device
  pub none_told : p.device.calls ≡ 0
