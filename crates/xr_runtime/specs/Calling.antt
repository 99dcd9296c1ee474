-- What a call under the lock asks of its seat, and what it tells.
use Rattle.std.specs.Prelude.{◌≡◌, ◌^◌, ◌<◌, ℕ, suc, zero, ℤ, pos, ◌≤ℤ◌, true, false, List, [], length, Option, Some, None}
use Rattle.atomic_table.specs.Table.{Me}
use Rattle.xr_types.specs.declared.calls.Actor.{Actor}
use Rattle.xr_types.specs.declared.calls.Reply.{Reply}
use Rattle.xr_types.specs.declared.frames.Image.{Image}
use Rattle.xr_model.specs.machine.CoreCalls.{Lent, MayAsk, entry_of, left_in}
use Rattle.xr_model.specs.machine.History.{StartsAt, clock_of}
use Rattle.xr_model.specs.machine.Machine.{IsPresent, step}
use Rattle.xr_model.specs.machine.Calls.{Entry, Exchange}
use Rattle.xr_types.specs.declared.calls.Call.{Call}
use Rattle.xr_model.specs.machine.State.{WholeCore}
use Rattle.xr_model.specs.laws.DecidedEntries.{is_image_done}
use Rattle.xr_model.specs.laws.FewCalls.{how_many, tells_end}
use Rattle.xr_model.specs.laws.ImageLaws.{is_next_frame}
use Rattle.xr_model.specs.laws.Moments.{Moment, opening_moment, moment_after, actor_at}
use Rattle.xr_rule.specs.declared.held.Held.{Held}
use Rattle.xr_runtime.specs.declared.calling.Answered.{Answered}
use Rattle.xr_rule.specs.Plays.{Decides}
use Rattle.xr_rule.specs.Seats.{IsBetween}
use Rattle.xr_rule.specs.View.{Know, View, number_in, calls_in}

-- what a seat has: its view, and what it has taken out of the slot
abbrev pub Has : Type 0
Has = Me (Option (Held WholeCore)) View

-- who calls by a seat
abbrev pub actor_of : Know → Actor
actor_of k = actor_at (number_in k.own)

-- the moment behind so much of the history
abbrev pub behind : Know → List Entry → Moment
behind k seen = moment_after (opening_moment k.apps) seen

-- the moment behind what a seat has seen
abbrev pub seen_by : Know → Moment
seen_by k = behind k k.seen

-- the entry of a call of a seat that is answered so
abbrev pub entry_by : Know → Call → Reply → Entry
entry_by k what reply = entry_of (actor_of k) what reply

-- A number may make one more call: it has made fewer than 2^40, and the compositor was not told the end.
abbrev pub HasRoom : ℕ → List Exchange → Type 0
HasRoom (suc zero) calls = how_many tells_end calls ≡ 0
HasRoom _ calls = length calls < 2 ^ 40

-- A seat may make this call under the lock: none is under way, it is the actor's own, the actor is there, and it has room for one more;
-- a wait for an image begins at the clock that the seat has seen, a frame is asked for where no image is held, and no image is given
-- back so.
pub record MayMake (m : Has) (who : Actor) (what : Call) (size : ℕ) : Type 0 where
  pub between : IsBetween m
  pub is_own : who ≡ actor_of m.0.know
  pub here : IsPresent (seen_by m.0.know).state.core who
  pub asks : MayAsk who what size
  pub starts : StartsAt (clock_of (seen_by m.0.know).clocks who) what
  pub has_room : HasRoom (number_in m.0.know.own) (calls_in m.0.know.own)
  pub other : is_image_done what ≡ false
  pub none_held : is_next_frame what ≡ true → (seen_by m.0.know).state.cells.held ≡ []

-- The call is the last entry of a legal history that goes on from what the seat had seen, with nothing of the seat's own between;
-- the reply, and what is put into what the call was lent, are the machine's at that place.
pub record Called (m : Has) (what : Call) (reply : Reply) (before after : Lent) (n : Has) : Type 0 where
  pub look : List Entry
  pub decides : Decides m.0.know look (entry_by m.0.know what reply) n.0
  pub carries : n.1 ≡ []
  pub replies : (step (behind m.0.know look).state (entry_by m.0.know what reply)).1.reply ≡ reply
  pub writes : after ≡ left_in (step (behind m.0.know look).state (entry_by m.0.know what reply)).1.text (step (behind m.0.know look).state (entry_by m.0.know what reply)).1.shown before

-- The device's clock behind what a seat has seen, and behind a request for a frame the images that are held then.
pub record Reads (k : Know) (what : Call) (clock : ℤ) (images : List Image) : Type 0 where
  pub clock_is : clock ≡ (seen_by k).state.core.device.clock
  pub begun : pos 0 ≤ℤ clock
  pub images_are : is_next_frame what ≡ true → images ≡ (seen_by k).state.cells.held

-- the call wasn't made, and all is as it was
pub record Waited (m : Has) (before after : Lent) (n : Has) : Type 0 where
  pub same : n ≡ m
  pub unwritten : after ≡ before

-- the call was made, with what is read of the core behind it, or it wasn't
abbrev pub CalledOrWaited : Has → Call → Option Answered → Lent → Lent → Has → Type 0
CalledOrWaited m what None before after n = Waited m before after n
CalledOrWaited m what (Some a) before after n = Called m what a.reply before after n × Reads n.0.know what a.clock a.taken.items
