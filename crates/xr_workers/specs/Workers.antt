-- What the workers of a run do: the calls that each makes by its pass, and what it lists of them.
use Rattle.std.specs.Prelude.{◌≡◌, ◌<◌, ◌≤◌, ◌+◌, ℕ, zero, suc, if◌then◌else◌, Bool, true, false, List, [], ◌∷◌, ◌++◌, length, take, Option, Some, Result, Ok, Err}
use Rattle.std.specs.List.{list_any}
use Rattle.atomic_table.specs.Seated.{TableId}
use Rattle.xr_types.specs.declared.calls.Actor.{Actor}
use Rattle.xr_types.specs.declared.calls.Actor.TheVariants.{Compositor}
use Rattle.xr_types.specs.declared.calls.NoMemory.{NoMemory}
use Rattle.xr_types.specs.declared.device.DeviceEvent.{DeviceEvent}
use Rattle.xr_types.specs.declared.made.Made.{Made}
use Rattle.xr_types.specs.declared.scenario.Op.{Op}
use Rattle.xr_io.specs.Outside.{Rose}
use Rattle.xr_device.specs.Prospect.{Prospect}
use Rattle.xr_device.specs.Answers.{ReadsOn}
use Rattle.xr_model.specs.device_text.DeviceText.{Ending}
use Rattle.xr_model.specs.laws.FewCalls.{how_many}
use Rattle.xr_model.specs.laws.ImageLaws.{is_next_frame}
use Rattle.xr_model.specs.machine.Calls.{Exchange}
use Rattle.xr_model.specs.report.RunEnding.{is_fault}
use Rattle.xr_model.specs.runs.Lists.{made_from, events_in, frames_in, replies_in, end_of}
use Rattle.xr_model.specs.runs.NameValues.{no_values}
use Rattle.xr_model.specs.runs.Robin.{device_calls}
use Rattle.xr_model.specs.runs.Scripts.{Follows, FollowsFrom}
use Rattle.xr_rule.specs.View.{Know, calls_in}
use Rattle.xr_runtime.specs.declared.passes.AppPass.{AppPass}
use Rattle.xr_runtime.specs.declared.passes.CompositorPass.{CompositorPass}
use Rattle.xr_runtime.specs.declared.passes.DevicePass.{DevicePass}
use Rattle.xr_runtime.specs.Passes.{IsApp, IsCompositor, IsDevice}
use Rattle.xr_workers.specs.declared.compositor.Composed.{Composed}
use Rattle.xr_workers.specs.declared.device.DeviceMade.{DeviceMade}
use Rattle.xr_runs.specs.Runs.{Gave, FailsBehind, AreSound, IsEnd}
use Rattle.xr_runs.specs.Sides.{Came}

-- of its own calls a pass has these more
abbrev pub Adds : Know → Know → List Exchange → Type 0
Adds old new calls = calls_in new.own ≡ calls_in old.own ++ calls

-- The gate lies round each call of an actor from behind one number up to another: when the actor came to the call of this number it had made
-- those before it and no more, and when it went on it had made this one too.
abbrev pub IsGated : (Actor → ℕ → ℕ → Type 0) → (Actor → ℕ → ℕ → Type 0) → Actor → ℕ → ℕ → Type 0  -- came, went
IsGated came went who from to = (n : ℕ) → from ≤ n → n < to → came who (n + 1) n × went who (n + 1) (n + 1)

-- ---- an application

-- these are the calls of a first part of a script, and then `leave`
abbrev pub FollowsFront : List Op → List Exchange → Type 0
FollowsFront ops calls = (n : ℕ) × FollowsFrom true 1 (no_values (length ops)) (take n ops) calls

-- What an application's worker lists: the calls of its script, all of them and then `leave`, each with its reply. Where memory was
-- short there is no list.
abbrev pub ListsScript : List Op → List Exchange → Result (List Made) NoMemory → Type 0
ListsScript ops calls (Ok list) = Follows ops calls × (list ≡ made_from 1 calls)
ListsScript ops calls (Err short) = Unit {0}

-- It ran: its pass has made these calls and no others, those of a first part of its script at least, and has left.
pub record RanScript (table : TableId) (ops : List Op) (old new : AppPass) (list : Result (List Made) NoMemory) : Type 0 where
  pub is : IsApp table new
  pub same : new.app ≡ old.app
  pub has_left : new.left ≡ true
  pub calls : List Exchange
  pub made : Adds old.seat.me.0.know new.seat.me.0.know calls
  pub front : FollowsFront ops calls
  pub lists : ListsScript ops calls list

-- ---- the device

-- What the device's worker lists: the events that its device gave, a fault or a malformed line last, and the calls of these in their
-- order. A fault is listed only where the count of faults rose, and behind the events that were given.
pub record ListsDevice (start now : Prospect) (calls : List Exchange) (list : DeviceMade) : Type 0 where
  pub told : List DeviceEvent
  pub ending : Option Ending
  pub gave : Gave start.remaining (length told) told ending
  pub counted : now.given ≡ start.given + length told
  pub events_are : list.events ≡ device_calls told ending
  pub asks : events_in calls ≡ list.events
  pub calls_are : list.calls ≡ made_from 1 calls
  pub sound : AreSound list.events
  pub fault : list_any is_fault list.events ≡ true → Rose start.faults now.faults
  pub unfailed : list_any is_fault list.events ≡ false → now.faults ≡ start.faults
  pub failed : list_any is_fault list.events ≡ true → FailsBehind start now list.events

-- where memory was short there is no list
abbrev pub ListsDeviceIf : Prospect → Prospect → List Exchange → Result DeviceMade NoMemory → Type 0
ListsDeviceIf start now calls (Ok list) = ListsDevice start now calls list
ListsDeviceIf start now calls (Err short) = Unit {0}

-- a device was asked that has nothing more to tell, as it says, or that gave an event
abbrev pub WasAsked : Bool → Prospect → List DeviceEvent → Type 0  -- whether nothing more comes
WasAsked true now given = now.over ≡ true
WasAsked false now given = 0 < length given

-- The device was asked, and these are the calls of the events that it has given so far, in their order, a fault or a malformed line last
-- where nothing more comes.
pub record TellsSoFar (start now : Prospect) (calls : List Exchange) : Type 0 where
  pub given : List DeviceEvent
  pub closing : List DeviceEvent
  pub over : Bool
  pub asks : events_in calls ≡ given ++ closing
  pub came : Came start now given closing over
  pub counted : now.given ≡ start.given + length given
  pub asked : WasAsked over now given

-- It ran: its pass has made these calls and no others, also where memory was short.
pub record RanDevice (table : TableId) (start now : Prospect) (old new : DevicePass) (list : Result DeviceMade NoMemory) : Type 0 where
  pub is : IsDevice table new
  pub calls : List Exchange
  pub made : Adds old.seat.me.0.know new.seat.me.0.know calls
  pub so_far : TellsSoFar start now calls
  pub lists : ListsDeviceIf start now calls list
  pub later : start.faults ≤ now.faults
  pub reads : ReadsOn start now

-- ---- the compositor

-- What the compositor's worker lists: the frames that it was shown, with the replies of these calls, and the reply that told it the
-- end.
pub record ListsFrames (calls : List Exchange) (list : Composed) : Type 0 where
  pub frames : list.frames ≡ frames_in calls
  pub replies : list.replies ≡ replies_in calls
  pub ended : end_of calls ≡ Some list.ended

-- where memory was short there is no list
abbrev pub ListsFramesIf : List Exchange → Result Composed NoMemory → Type 0
ListsFramesIf calls (Ok list) = ListsFrames calls list
ListsFramesIf calls (Err short) = Unit {0}

-- It ran: it took frames and gave their images back, until it was told the end, also where memory was short.
pub record RanCompositor (table : TableId) (old new : CompositorPass) (list : Result Composed NoMemory) : Type 0 where
  pub is : IsCompositor table new
  pub ended : new.ended ≡ true
  pub calls : List Exchange
  pub made : Adds old.seat.me.0.know new.seat.me.0.know calls
  pub ends : IsEnd calls
  pub lists : ListsFramesIf calls list

-- how many turns it had: one for each frame that it asked for
abbrev pub turns_in : List Exchange → ℕ
turns_in calls = how_many (λ t. is_next_frame t.call) calls

-- How many calls come before the turn of this number, from 0: before its request for a frame. Behind the last turn it is all of them.
abbrev pub before_turn : ℕ → List Exchange → ℕ
before_turn n [] = 0
before_turn zero (t ∷ ts) = if is_next_frame t.call then 0 else before_turn zero ts + 1
before_turn (suc n) (t ∷ ts) = if is_next_frame t.call then before_turn n ts + 1 else before_turn (suc n) ts + 1

-- The gate lies round each turn of a compositor that made these calls: when it came to the turn of this number it had made those before it
-- and no more, and when it went on all up to the next.
abbrev pub TurnsGated : (Actor → ℕ → ℕ → Type 0) → (Actor → ℕ → ℕ → Type 0) → List Exchange → Type 0  -- came, went
TurnsGated came went calls = (n : ℕ) → n < turns_in calls → came Compositor (n + 1) (before_turn n calls) × went Compositor (n + 1) (before_turn (n + 1) calls)

-- so it does round each turn of a compositor's pass that came from knowing this to knowing that
abbrev pub ComposesGated : (Actor → ℕ → ℕ → Type 0) → (Actor → ℕ → ℕ → Type 0) → Know → Know → Type 0  -- came, went
ComposesGated came went old new = (calls : List Exchange) × Adds old new calls × TurnsGated came went calls
