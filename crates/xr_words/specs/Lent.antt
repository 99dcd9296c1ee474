-- What a core answers that is lent a table's words for one call of the seat that holds the lock.
use Rattle.std.specs.Prelude.{◌≡◌, ℕ, Bool, true, false, List, [], ◌++◌, Option}
use Rattle.atomic_table.specs.Table.{Me}
use Rattle.xr_types.specs.declared.calls.Reply.{Reply}
use Rattle.xr_types.specs.declared.calls.Step.{Step}
use Rattle.xr_types.specs.declared.calls.Step.TheVariants.{Done, NotReady}
use Rattle.xr_model.specs.machine.CellCalls.{CellCall}
use Rattle.xr_model.specs.machine.CoreCalls.{Lent, entry_of, AnswersBy}
use Rattle.xr_model.specs.machine.Machine.{step, ready, reads_of, cell_calls, IsAllowed}
use Rattle.xr_model.specs.machine.Calls.{Entry}
use Rattle.xr_types.specs.declared.calls.Call.{Call}
use Rattle.xr_model.specs.machine.State.{CoreState, State, WholeCore}
use Rattle.xr_model.specs.laws.ImageLaws.{is_next_frame}
use Rattle.xr_model.specs.laws.Moments.{actor_at}
use Rattle.xr_model.specs.laws.ImageWords.{claimed_by}
use Rattle.xr_rule.specs.View.{Know, Hold, View, Eyes, Holding, sight, number_in}
use Rattle.xr_rule.specs.Rule.{state_at}
use Rattle.xr_rule.specs.Plays.{DecidesHolding}
use Rattle.xr_words.specs.Table.{wait_entry}

-- the entry of a call of a seat that is answered so
abbrev pub own_entry : Know → Call → Reply → Entry
own_entry k what reply = entry_of (actor_at (number_in k.own)) what reply

-- in this state the entry is allowed and ready, the core keeps what the machine's step leads to, and the reply and what is put into what
-- the call was lent are the machine's
abbrev pub AnswersAt : State → Entry → CoreState → Reply → Lent → Lent → Type 0
AnswersAt s e new reply before after = AnswersBy (IsAllowed s e) (ready s e) ((step s e).0.core, (step s e).1) new reply before after

module _ {S : Type 0} (k : Know) (h : Hold) (y : Eyes) (l : List (ℕ × Option S)) (what : Call) (new : WholeCore) (before after : Lent) where
  abbrev holder_at : Me (Option S) View
  holder_at = (sight k (Holding h) y, l)

  -- The entry is yet to be noted: the calls on cells that the seat made are the entry's, and it is answered as the machine would answer it
  -- at the seat's look. Behind a frame the core's own list of images is the machine's.
  pub record Prepares (reply : Reply) (n : Me (Option S) View) : Type 0 where
    pub made : List CellCall
    pub is : n ≡ (sight k (Holding (record h { made = made })) y, l)
    pub made_is : made ≡ cell_calls (state_at k h.look).core (reads_of (state_at k h.look) what) (own_entry k what reply)
    pub claims_none : claimed_by (state_at k h.look).core (reads_of (state_at k h.look) what) (own_entry k what reply) ≡ []
    pub answers : AnswersAt (state_at k h.look) (own_entry k what reply) new.kept reply before after
    pub holds : is_next_frame what ≡ true → new.held ≡ (step (state_at k h.look) (own_entry k what reply)).0.cells.held

  -- The entry was decided at a claim, behind images that were given back, and it is answered as the machine does there.
  pub record Decided (reply : Reply) (n : Me (Option S) View) : Type 0 where
    pub unused : Bool
    pub no_frame : is_next_frame what ≡ false
    pub is_wait : own_entry k what reply ≡ wait_entry k what
    pub decides : DecidesHolding k h (wait_entry k what) unused holder_at n
    pub answers : AnswersAt (state_at k (h.look ++ decides.more)) (own_entry k what reply) new.kept reply before after

  -- the call has to wait, and nothing has changed
  pub record Waits (old : CoreState) (n : Me (Option S) View) : Type 0 where
    pub same : n ≡ holder_at
    pub kept : new.kept ≡ old
    pub unwritten : after ≡ before

  -- what is told, with whether the entry is decided
  abbrev pub Tells : CoreState → Step → Bool → Me (Option S) View → Type 0
  Tells old (Done reply) false n = Prepares reply n
  Tells old (Done reply) true n = Decided reply n
  Tells old NotReady decided n = (decided ≡ false) × Waits old n
