-- What a holder asks of a core that it lends the table's words, and what it is told.
use Rattle.std.specs.Prelude.{◌≡◌, Bool, true, false, [], Option, None}
use Rattle.atomic_table.specs.Table.{Me}
use Rattle.xr_types.specs.declared.calls.Actor.{Actor}
use Rattle.xr_types.specs.declared.calls.Step.{Step}
use Rattle.xr_model.specs.machine.CoreCalls.{Lent}
use Rattle.xr_model.specs.machine.History.{StartsAt, clock_of}
use Rattle.xr_types.specs.declared.calls.Call.{Call}
use Rattle.xr_model.specs.machine.State.{WholeCore}
use Rattle.xr_model.specs.laws.DecidedEntries.{is_image_done}
use Rattle.xr_model.specs.laws.FewCalls.{MayAdd}
use Rattle.xr_model.specs.laws.ImageLaws.{is_next_frame}
use Rattle.xr_model.specs.laws.Moments.{opening_moment, moment_after, IsLegalAt, actor_at}
use Rattle.xr_rule.specs.View.{Hold, View, Holding, sight, number_in, calls_in}
use Rattle.xr_rule.specs.Rule.{state_at}
use Rattle.xr_words.specs.Table.{wait_entry}
use Rattle.xr_words.specs.Lent.{Tells}

module _ {S : Type 0} where
  -- The seat holds, has noted and made nothing since its look, and the core stands for that; the call is the actor's own and no image's
  -- return, a wait begins at its clock and has room, and where a frame is asked for no image is held.
  pub record MayLend (m : Me (Option S) View) (core : WholeCore) (who : Actor) (what : Call) : Type 0 where
    pub hold : Hold
    pub is : m ≡ (sight m.0.know (Holding hold) m.0.eyes, m.1)
    pub unnoted : hold.noted ≡ None
    pub unmade : hold.made ≡ []
    pub legal : IsLegalAt (opening_moment m.0.know.apps) hold.look
    pub kept : core.kept ≡ (state_at m.0.know hold.look).core
    pub is_own : who ≡ actor_at (number_in m.0.know.own)
    pub other : is_image_done what ≡ false
    pub starts : StartsAt (clock_of (moment_after (opening_moment m.0.know.apps) hold.look).clocks (actor_at (number_in m.0.know.own))) what
    pub few : MayAdd (number_in m.0.know.own) (moment_after (opening_moment m.0.know.apps) hold.look) (wait_entry m.0.know what) (calls_in m.0.know.own)
    pub frames : is_next_frame what ≡ true → (core.held ≡ []) × ((state_at m.0.know hold.look).cells.held ≡ [])

  -- what it is told, by whichever look made it the holder
  abbrev pub IsTold : Me (Option S) View → WholeCore → Call → WholeCore → Lent → Lent → Step → Bool → Me (Option S) View → Type 0
  IsTold m old what new before after answer decided n = (h : Hold) → m ≡ (sight m.0.know (Holding h) m.0.eyes, m.1) → Tells m.0.know h m.0.eyes m.1 what new before after old.kept answer decided n
