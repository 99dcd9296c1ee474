-- What the core is asked, and what it answers: calls that the machine may be asked to make, over buffers that it is lent.
use Rattle.std.specs.Prelude.{◌≡◌, ℕ, Bool, true, false, List, [], ◌++◌, length, drop, Option, Some, None}
use Rattle.xr_types.specs.declared.calls.Actor.{Actor}
use Rattle.xr_types.specs.declared.calls.Gives.{Gives}
use Rattle.xr_types.specs.declared.calls.Gives.TheVariants.{Handle}
use Rattle.xr_types.specs.declared.calls.Reply.{Reply}
use Rattle.xr_types.specs.Code.{is_out_of_memory}
use Rattle.xr_types.specs.declared.calls.Call.{Call}
use Rattle.xr_types.specs.declared.calls.Step.{Step}
use Rattle.xr_types.specs.declared.calls.Step.TheVariants.{Done, NotReady}
use Rattle.xr_types.specs.declared.frames.Shown.{Shown}
use Rattle.xr_model.specs.machine.Rule.{Rule, is_by}
use Rattle.xr_model.specs.machine.Calls.{Entry, Outcome}
use Rattle.xr_model.specs.machine.State.{CoreState, State, CellReads, with_apps, opening_core}
use Rattle.xr_model.specs.machine.Machine.{rule_of, step, ready, core_step, core_ready, IsPresent, IsAllowed, CoreAllows}

-- ---- entries, and what calls are lent

-- the bytes at the front of a buffer, and the rest of it as it was
abbrev pub written_over : List ℕ → List ℕ → List ℕ
written_over bytes buffer = bytes ++ drop (length bytes) buffer

-- What a call is lent: a buffer for a text, and a place for a frame that is shown.
pub record Lent : Type 0 where
  pub text : List ℕ
  pub frame : Shown

-- this buffer, and this place for a frame
abbrev pub as_lent : List ℕ → Shown → Lent
as_lent text frame = record { text = text; frame = frame }

-- the place of a frame once this one is shown, or none
abbrev pub shown_over : Option Shown → Shown → Shown
shown_over None before = before
shown_over (Some frame) before = frame

-- what was lent, once a call has written these bytes and shown this frame, or none
abbrev pub left_in : List ℕ → Option Shown → Lent → Lent
left_in bytes shown before = record { text = written_over bytes before.text; frame = shown_over shown before.frame }

-- the handle that a reply gives, or 0
abbrev pub given_by : Gives → ℕ
given_by (Handle n) = n
given_by _ = 0

-- the entry of a call that was answered so
abbrev pub entry_of : Actor → Call → Reply → Entry
entry_of who what answer = record { actor = who; call = what; given = given_by answer.gives; short = is_out_of_memory answer.code }

-- ---- what it is asked

-- The rule of a call that is asked for. Who makes a call, what it is lent and which numbers it may have is the same in every
-- state, so it is read off in the state before any call.
abbrev pub no_reads : CellReads
no_reads = record { unused = true; stamps = []; held = [] }

abbrev pub asked : Actor → Call → Rule
asked who what = rule_of (opening_core (with_apps 0)) no_reads who 0 what

-- a buffer has the size that is asked for; where none is asked for it may have any
abbrev pub Fits : Option ℕ → ℕ → Type 0
Fits None size = Unit {0}
Fits (Some wanted) size = size ≡ wanted

-- What an actor may ask of a core, whatever the core keeps: the call is the actor's own, its numbers are in range, and the
-- buffer has the size asked for.
pub record MayAsk (who : Actor) (what : Call) (size : ℕ) : Type 0 where
  pub caller : is_by (asked who what).caller who ≡ true
  pub numbers : (asked who what).in_range ≡ true
  pub buffer : Fits (asked who what).lent size

-- And in a state: the actor is there.
pub record MayMake (s : CoreState) (who : Actor) (what : Call) (size : ℕ) : Type 0 where
  pub asks : MayAsk who what size
  pub present : IsPresent s who

-- ---- what is answered, and to which state it leads

-- A reply and what is put into what the call is lent are the outcome of an entry that is allowed and ready, and new is what it
-- leads to.
pub record AnswersBy {S : Type 0} (allows : Type 0) (readiness : Bool) (led : S × Outcome) (new : S) (answer : Reply) (before after : Lent) : Type 0 where
  pub allowed : allows
  pub is_ready : readiness ≡ true
  pub leads : new ≡ led.0
  pub replies : answer ≡ led.1.reply
  pub writes : after ≡ left_in led.1.text led.1.shown before

-- a call that isn't made leaves all as it was
pub record WaitsBy {S : Type 0} (readiness : Bool) (old new : S) (before after : Lent) : Type 0 where
  pub not_ready : readiness ≡ false
  pub same : new ≡ old
  pub unwritten : after ≡ before

-- What a call is answered, where these entries are allowed, these are ready, and each leads to this.
abbrev pub AppliesBy : {S : Type 0} → (Entry → Type 0) → (Entry → Bool) → (Entry → S × Outcome) → S → S → Actor → Call → Lent → Lent → Step → Type 0
AppliesBy allows is_ready leads old new who call before after (Done answer) =
    AnswersBy (allows (entry_of who call answer)) (is_ready (entry_of who call answer)) (leads (entry_of who call answer)) new answer before after
AppliesBy allows is_ready leads old new who call before after NotReady =
    (given : ℕ) (short : Bool) → WaitsBy (is_ready (record { actor = who; call = call; given = given; short = short })) old new before after

-- of what a core keeps, where the cells tell so much
abbrev pub CoreApplies : CellReads → CoreState → CoreState → Actor → Call → Lent → Lent → Step → Type 0
CoreApplies reads old = AppliesBy (CoreAllows old reads) (core_ready old reads) (core_step old reads) old

-- the same of whole states, whose cells tell it
abbrev pub Applies : State → State → Actor → Call → Lent → Lent → Step → Type 0
Applies old = AppliesBy (IsAllowed old) (ready old) (step old) old
