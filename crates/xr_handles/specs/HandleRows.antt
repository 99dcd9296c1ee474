-- What a core's rows of handles are, and what always holds of them.
use Rattle.std.specs.Prelude.{ℕ, List}
use Rattle.xr_types.specs.declared.handles.Slot.{Slot}
use Rattle.xr_model.specs.machine.Handles.{Handles}
use Rattle.xr_model.specs.laws.HandleLaws.{StandOnce}
use Rattle.xr_handles.specs.Numbers.{counted}
use Rattle.xr_model.specs.laws.Soundness.{AreKnown}

-- the handles of these rows, of which so many were given
abbrev pub rows_of : ℕ → List Slot → List Slot → List Slot → List Slot → List Slot → List Slot → Handles
rows_of given instances sessions sets actions spaces chains = record {
  given = counted given;
  instances = instances;
  sessions = sessions;
  sets = sets;
  actions = actions;
  spaces = spaces;
  chains = chains;
}

-- each live handle was given, and it stands in one place
pub record IsKept (h : Handles) : Type 0 where
  pub known : AreKnown h
  pub once : StandOnce h
