-- What the rest of a report tells: the blocks of the compositor and of the device, and the next calls of a run that is stuck.
use Rattle.std.specs.Prelude.{◌≡◌, ◌<◌, ◌^◌, true, length, map, Option, Some, None, option_map}
use Rattle.xr_types.specs.declared.calls.Actor.{Actor}
use Rattle.xr_types.specs.declared.calls.Actor.TheVariants as actor
use Rattle.xr_types.specs.declared.calls.Reply.{Reply}
use Rattle.xr_types.specs.declared.device.DeviceEvent.{DeviceEvent}
use Rattle.xr_types.specs.declared.device.DeviceEvent.TheVariants as event
use Rattle.xr_types.specs.declared.made.Lists.{Lists}
use Rattle.xr_types.specs.declared.made.Made.{Made}
use Rattle.xr_types.specs.declared.made.Waiting.{Waiting}
use Rattle.xr_types.specs.declared.names.CallName.TheVariants as call
use Rattle.xr_model.specs.report.Report.{report_of}
use Rattle.xr_model.specs.scenario.InRange.{Each}
use Rattle.xr_model.specs.laws.ReportLaws.{IsPrintable, IsFramePrintable, IsTold}

-- ---- what is printed

-- a place of 64 bits
abbrev pub HasSmallPlace : Reply → Type 0
HasSmallPlace reply = reply.place < 2 ^ 64

abbrev pub MayHaveSmallPlace : Option Reply → Type 0
MayHaveSmallPlace None = Unit {0}
MayHaveSmallPlace (Some reply) = HasSmallPlace reply

-- an event that a line tells, or one that ends the device early
abbrev pub IsEventPrintable : DeviceEvent → Type 0
IsEventPrintable event.Fault = Unit {0}
IsEventPrintable (event.Garbled line) = line < 2 ^ 64
IsEventPrintable e = IsTold e

-- Who can't go on: an application at an op of its script, the device at a mark that it awaits, or the compositor at its next frame.
abbrev pub IsWaitingPrintable : Actor → Waiting → Type 0
IsWaitingPrintable (actor.App number) w = (number < 2 ^ 64) × (w.op < 2 ^ 64)
IsWaitingPrintable actor.Device w = (w.name ≡ call.Await) × (w.op < 2 ^ 64)
IsWaitingPrintable actor.Compositor w = (w.name ≡ call.NextFrame) × (w.op ≡ 0)

-- lists as a run makes them, with a reply to each frame and a call to each event, and numbers of 64 bits
pub record ArePrintable (lists : Lists) : Type 0 where
  pub apps : Each (Each IsPrintable) lists.apps
  pub frames : Each IsFramePrintable lists.compositor
  pub replies : Each HasSmallPlace lists.shown
  pub answered : length lists.compositor ≡ length lists.shown
  pub end : MayHaveSmallPlace lists.ended
  pub events : Each IsEventPrintable lists.events
  pub calls : Each (λ (m : Made). HasSmallPlace m.reply) lists.device
  pub made : length lists.events ≡ length lists.device
  pub next : Each (λ (w : Waiting). IsWaitingPrintable w.actor w) lists.next

-- ---- what is told

-- these two have the same frames, each got at the same place, and the compositor was told the end at the same place
pub record SameFrames (lists others : Lists) : Type 0 where
  pub frames : lists.compositor ≡ others.compositor
  pub places : map (λ (r : Reply). r.place) lists.shown ≡ map (λ (r : Reply). r.place) others.shown
  pub end : option_map (λ (r : Reply). r.place) lists.ended ≡ option_map (λ (r : Reply). r.place) others.ended

-- these two have the same events, each made known at the same place
pub record SameEvents (lists others : Lists) : Type 0 where
  pub events : lists.events ≡ others.events
  pub places : map (λ (m : Made). m.reply.place) lists.device ≡ map (λ (m : Made). m.reply.place) others.device

-- A report with places tells the frames that were shown and how the compositor ended,
abbrev pub ReportsTellTheFrames : Type 0
ReportsTellTheFrames =
    (lists others : Lists) → ArePrintable lists → ArePrintable others → report_of lists true ≡ report_of others true → SameFrames lists others

-- the events of the device, also the one that ended it early,
abbrev pub ReportsTellTheEvents : Type 0
ReportsTellTheEvents =
    (lists others : Lists) → ArePrintable lists → ArePrintable others → report_of lists true ≡ report_of others true → SameEvents lists others

-- and who waits for ever, and for what.
abbrev pub ReportsTellWhoIsStuck : Type 0
ReportsTellWhoIsStuck =
    (lists others : Lists) → ArePrintable lists → ArePrintable others → report_of lists true ≡ report_of others true → lists.next ≡ others.next
