-- What the method of one call says: how the parts decide it, before it is counted.
use Rattle.std.specs.Prelude.{◌≡◌, ◌<◌, ◌^◌, ◌||◌, ◌&&◌, ℕ, Bool, List, true, false, not, is_some, length, None, Result, Ok, Err}
use Rattle.xr_types.specs.Code.{is_success, is_out_of_memory}
use Rattle.xr_types.specs.declared.calls.Actor.{Actor}
use Rattle.xr_types.specs.declared.calls.Gives.{Gives}
use Rattle.xr_types.specs.declared.calls.Gives.TheVariants.{Nothing}
use Rattle.xr_types.specs.declared.code.Code.{Code}
use Rattle.xr_types.specs.declared.calls.Step.{Step}
use Rattle.xr_types.specs.declared.calls.Step.TheVariants.{Done}
use Rattle.xr_types.specs.declared.calls.Step.TheVariants as step
use Rattle.xr_types.specs.declared.frames.Image.{Image}
use Rattle.xr_types.specs.declared.frames.Shown.{Shown}
use Rattle.xr_model.specs.machine.CellCalls.{CellCall, MayCall, Leads}
use Rattle.xr_model.specs.machine.CoreCalls.{Lent, left_in, given_by}
use Rattle.xr_model.specs.machine.Machine.{rule_of, cell_calls, held_after, IsGiven}
use Rattle.xr_model.specs.machine.OverCells.{World, world, entry_by, did_by}
use Rattle.xr_model.specs.machine.Refusals.{first_of}
use Rattle.xr_types.specs.declared.calls.Call.{Call}
use Rattle.xr_model.specs.machine.Rule.{Rule, refusals, carried_out}
use Rattle.xr_model.specs.machine.State.{CoreState, CellReads}
use Rattle.xr_types.specs.declared.calls.Reply.{Reply}
use Rattle.xr_core.specs.declared.halt.Halt.{Halt}
use Rattle.xr_core.specs.declared.halt.Halt.TheVariants.{Refused, NotReady}

-- No count has come to its end: how many handles were given, how many sessions were created, and how many frames were ended. Each is
-- raised at most once by a call, and a core decides at most 2^44 locked calls.
pub record CountsFit (s : CoreState) : Type 0 where
  pub given : length s.handles.given < 2 ^ 44
  pub created : s.created < 2 ^ 44
  pub ended : s.ended < 2 ^ 44

-- A call comes to this by its rule, which is told the handle that is given: it doesn't have to wait, a new handle is given
-- exactly by a successful creation, memory is short only where the call takes some and nothing else refuses it, and what is
-- kept, answered and written is what the rule carries out.
pub record Comes (old : CoreState) (r : ℕ → Rule) (new : CoreState) (answer : Code) (value : Gives) (before after : Lent) : Type 0 where
  pub ready : not (r (given_by value)).waits || is_some (first_of (refusals (r (given_by value)))) ≡ true
  pub handle : IsGiven (is_some (r (given_by value)).creates && is_success answer) old.handles (given_by value)
  pub memory : is_out_of_memory answer ≡ true → ((r (given_by value)).takes_memory ≡ true) × (first_of (refusals (r (given_by value))) ≡ None)
  pub keeps : new ≡ (carried_out old (is_out_of_memory answer) (r (given_by value))).state
  pub code : answer ≡ (carried_out old (is_out_of_memory answer) (r (given_by value))).code
  pub gives : value ≡ (carried_out old (is_out_of_memory answer) (r (given_by value))).gives
  pub writes : after ≡ left_in (carried_out old (is_out_of_memory answer) (r (given_by value))).text (carried_out old (is_out_of_memory answer) (r (given_by value))).shown before

-- a call that has to wait leaves all as it was
pub record HasToWait (old : CoreState) (r : ℕ → Rule) (new : CoreState) (before after : Lent) : Type 0 where
  pub not_ready : (given : ℕ) → not (r given).waits || is_some (first_of (refusals (r given))) ≡ false
  pub same : new ≡ old
  pub unwritten : after ≡ before

-- how a call is decided that this actor makes and that is lent something, where the cells tell so much
abbrev pub DecidesTold : CellReads → Actor → CoreState → Call → CoreState → Result Reply Halt → Lent → Lent → Type 0
DecidesTold reads who old what new (Ok d) before after = Comes old (λ given. rule_of old reads who given what) new d.code d.gives before after
DecidesTold reads who old what new (Err (Refused code)) before after = Comes old (λ given. rule_of old reads who given what) new code Nothing before after
DecidesTold reads who old what new (Err NotReady) before after = HasToWait old (λ given. rule_of old reads who given what) new before after

-- whatever the cells tell
abbrev pub DecidesOver : Actor → CoreState → Call → CoreState → Result Reply Halt → Lent → Lent → Type 0
DecidesOver who old what new result before after = (reads : CellReads) → DecidesTold reads who old what new result before after

-- of a call that leaves all that it is lent
abbrev pub DecidesBy : Actor → CoreState → Call → CoreState → Result Reply Halt → Type 0
DecidesBy who old what new result = (lent : Lent) → DecidesOver who old what new result lent lent

-- the same whoever makes it
abbrev pub Decides : CoreState → Call → CoreState → Result Reply Halt → Type 0
Decides old what new result = (who : Actor) → DecidesBy who old what new result

-- of a call that writes into a buffer alone
abbrev pub DecidesWriting : Actor → CoreState → Call → CoreState → Result Reply Halt → List ℕ → List ℕ → Type 0
DecidesWriting who old what new result before after =
    (frame : Shown) → DecidesOver who old what new result (record { text = before; frame = frame }) (record { text = after; frame = frame })

-- ---- over cells

-- the answer to a call that isn't counted yet
abbrev pub step_of : Result Reply Halt → Step
step_of (Ok d) = Done d
step_of (Err (Refused code)) = Done (record { code = code; gives = Nothing; place = 0 })
step_of (Err NotReady) = step.NotReady

-- How a call is decided beside cells: there is something that they told, along the calls on them, by which it is decided so.
pub record DecidesAlong {C : Type 0} (does : C → CellCall → C → Type 0) (old new : World C) (who : Actor) (what : Call) (result : Result Reply Halt) : Type 0 where
  pub reads : CellReads
  pub own : reads.held ≡ old.core.held
  pub each : length reads.stamps ≡ length (did_by old.core.kept reads who what (step_of result)).taken
  pub cells : Leads does old.cells (cell_calls old.core.kept reads (entry_by who what (step_of result))) new.cells
  pub decides : DecidesTold reads who old.core.kept what new.core.kept result old.lent new.lent
  pub holds : new.core.held ≡ held_after old.core.held (did_by old.core.kept reads who what (step_of result))

-- what the parts keep and the images that are held, beside cells, where a call is lent this buffer and this place for a frame
abbrev pub kept_world : {C : Type 0} → CoreState → List Image → C → List ℕ → Shown → World C
kept_world kept held = world (record { kept = kept; held = held })

-- of a call that leaves what it is lent and what is held
abbrev pub DecidesCells : {C : Type 0} → (C → CellCall → C → Type 0) → CoreState → Call → CoreState → Result Reply Halt → C → C → Type 0
DecidesCells does old what new result before after =
    (who : Actor) (held : List Image) (lent : Lent)
    → DecidesAlong does (record { core = record { kept = old; held = held }; cells = before; lent = lent }) (record { core = record { kept = new; held = held }; cells = after; lent = lent }) who what result

-- the conditions of the calls on cells, whoever makes the call and whatever is told
abbrev pub MayTouch : {C : Type 0} → (C → CellCall → Type 0) → (C → CellCall → C → Type 0) → CoreState → C → Call → Type 0
MayTouch may does s cells what =
    (who : Actor) (reads : CellReads) (given : ℕ) (short : Bool) → MayCall may does cells (cell_calls s reads (record { actor = who; call = what; given = given; short = short }))
