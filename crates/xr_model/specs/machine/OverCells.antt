-- What a core is asked and answers beside cells of any kind, of which no more is known than what each call on them does.
use Rattle.std.specs.Prelude.{◌≡◌, ℕ, Bool, false, List, length}
use Rattle.xr_types.specs.declared.calls.Actor.{Actor}
use Rattle.xr_types.specs.declared.calls.Call.{Call}
use Rattle.xr_types.specs.declared.calls.Step.{Step}
use Rattle.xr_types.specs.declared.calls.Step.TheVariants.{Done, NotReady}
use Rattle.xr_types.specs.declared.frames.Shown.{Shown}
use Rattle.xr_model.specs.machine.CellCalls.{CellCall, MayCall, Leads}
use Rattle.xr_model.specs.machine.Calls.{Entry}
use Rattle.xr_model.specs.machine.Rule.{Did, nothing_done}
use Rattle.xr_model.specs.machine.State.{CoreState, CellReads, WholeCore}
use Rattle.xr_model.specs.machine.Machine.{effect, cell_calls, held_after}
use Rattle.xr_model.specs.machine.CoreCalls.{Lent, as_lent, entry_of, CoreApplies}

-- ---- what a call meets

-- what a call meets, and what it leaves: a core, the cells beside it, and what the call is lent
pub record World (C : Type 0) : Type 0 where
  pub core : WholeCore
  pub cells : C
  pub lent : Lent

-- a core beside cells, where a call is lent this buffer and this place for a frame
abbrev pub world : {C : Type 0} → WholeCore → C → List ℕ → Shown → World C
world core cells text frame = record { core = core; cells = cells; lent = as_lent text frame }

-- the entry of a call by its answer; of one that has to wait, one that gives no handle and finds memory
abbrev pub entry_by : Actor → Call → Step → Entry
entry_by who what (Done answer) = entry_of who what answer
entry_by who what NotReady = record { actor = who; call = what; given = 0; short = false }

-- what a call did by its answer; one that has to wait did nothing
abbrev pub did_by : CoreState → CellReads → Actor → Call → Step → Did
did_by s reads who what (Done answer) = (effect s reads (entry_of who what answer)).did
did_by s reads who what NotReady = nothing_done

-- ---- the clause

-- There is something that the cells told, along the calls on them that the step makes, by which the answer, what the core keeps
-- and what the call was lent are the machine's. The images that are held are the core's own, told as it has them.
pub record AppliesOver {C : Type 0} (does : C → CellCall → C → Type 0) (old new : World C) (who : Actor) (call : Call) (answer : Step) : Type 0 where
  pub reads : CellReads
  pub own : reads.held ≡ old.core.held
  pub each : length reads.stamps ≡ length (did_by old.core.kept reads who call answer).taken
  pub cells : Leads does old.cells (cell_calls old.core.kept reads (entry_by who call answer)) new.cells
  pub applies : CoreApplies reads old.core.kept new.core.kept who call old.lent new.lent answer
  pub holds : new.core.held ≡ held_after old.core.held (did_by old.core.kept reads who call answer)

-- the conditions of the calls on cells that a call makes, whatever these tell
abbrev pub MayApply : {C : Type 0} → (C → CellCall → Type 0) → (C → CellCall → C → Type 0) → WholeCore → C → Actor → Call → Type 0
MayApply may does core cells who what =
    (reads : CellReads) (given : ℕ) (short : Bool) → reads.held ≡ core.held
    → MayCall may does cells (cell_calls core.kept reads (record { actor = who; call = what; given = given; short = short }))
