-- What the core answers in turn: calls that were answered one after another are a legal history, and the
-- answers are the machine's.
use Rattle.std.specs.Prelude.{◌≡◌, ℤ, false, List, [], ◌∷◌, ◌++◌}
use Rattle.xr_types.specs.declared.calls.Actor.{Actor}
use Rattle.xr_types.specs.declared.calls.Call.{Call}
use Rattle.xr_types.specs.declared.calls.Reply.{Reply}
use Rattle.xr_types.specs.declared.calls.Step.{Step}
use Rattle.xr_types.specs.declared.calls.Step.TheVariants.{Done, NotReady}
use Rattle.xr_model.specs.machine.Calls.{Entry}
use Rattle.xr_model.specs.machine.CoreCalls.{entry_of}
use Rattle.xr_model.specs.machine.State.{State}
use Rattle.xr_model.specs.machine.CoreCalls.{Lent, left_in}
use Rattle.xr_model.specs.machine.Machine.{step, ready}
use Rattle.xr_model.specs.machine.CoreCalls.{Applies}
use Rattle.xr_model.specs.machine.History.{after, clock_of, clocks_after, StartsAt, IsLegalFrom}

-- a call that was asked of the core: by whom, what it was lent, how it left that, and what was answered
pub record Asked : Type 0 where
  pub who : Actor
  pub call : Call
  pub before : Lent
  pub behind : Lent
  pub answer : Step

-- the clocks behind a call; one that has to wait leaves them
abbrev pub clocks_if : List ℤ → Actor → Call → Step → State → List ℤ
clocks_if clocks who call (Done reply) s = clocks_after clocks (entry_of who call reply) s
clocks_if clocks who call NotReady s = clocks

-- The calls were answered one after another, each in the state to which the one before it led. A wait for an image
-- began at the clock after its application's last locked call.
abbrev pub AnsweredFrom : State → List ℤ → List Asked → State → Type 0
AnsweredFrom s clocks [] t = t ≡ s
AnsweredFrom s clocks (a ∷ asked) t =
    StartsAt (clock_of clocks a.who) a.call
    × (mid : State) × Applies s mid a.who a.call a.before a.behind a.answer × AnsweredFrom mid (clocks_if clocks a.who a.call a.answer mid) asked t

-- the entry of an answered call; one that has to wait makes none
abbrev pub entry_if : Actor → Call → Step → List Entry
entry_if who call (Done reply) = entry_of who call reply ∷ []
entry_if who call NotReady = []

abbrev pub entries_of : List Asked → List Entry
entries_of [] = []
entries_of (a ∷ asked) = entry_if a.who a.call a.answer ++ entries_of asked

abbrev pub reply_if : Step → List Reply
reply_if (Done reply) = reply ∷ []
reply_if NotReady = []

-- the replies that were given, in order
abbrev pub replies_of : List Asked → List Reply
replies_of [] = []
replies_of (a ∷ asked) = reply_if a.answer ++ replies_of asked

-- the machine's replies to a history
abbrev pub replies_from : State → List Entry → List Reply
replies_from s [] = []
replies_from s (e ∷ es) = (step s e).1.reply ∷ replies_from (step s e).0 es

-- A call left the machine's bytes at the front of the buffer that it was lent, and the machine's frame in its place. One that
-- has to wait isn't ready, and left all as it was.
abbrev pub Leaves : State → Asked → Step → Type 0
Leaves s a (Done reply) = a.behind ≡ left_in (step s (entry_of a.who a.call reply)).1.text (step s (entry_of a.who a.call reply)).1.shown a.before
Leaves s a NotReady = (ready s (record { actor = a.who; call = a.call; given = 0; short = false }) ≡ false) × (a.behind ≡ a.before)

abbrev pub LeaveInTurn : State → List Asked → Type 0
LeaveInTurn s [] = Unit {0}
LeaveInTurn s (a ∷ asked) = Leaves s a a.answer × LeaveInTurn (after s (entry_if a.who a.call a.answer)) asked

-- Calls that are answered in turn are a legal history; what was answered and what was left in what they were
-- lent is the machine's.
pub record AreHistory (s : State) (clocks : List ℤ) (asked : List Asked) (t : State) : Type 0 where
  pub legal : IsLegalFrom s clocks (entries_of asked)
  pub leads : t ≡ after s (entries_of asked)
  pub replies : replies_of asked ≡ replies_from s (entries_of asked)
  pub leave : LeaveInTurn s asked

abbrev pub AnswersAreAHistory : Type 0
AnswersAreAHistory = (s t : State) (clocks : List ℤ) (asked : List Asked) → AnsweredFrom s clocks asked t → AreHistory s clocks asked t
