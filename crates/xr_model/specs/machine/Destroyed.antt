-- What a core keeps once a handle was destroyed with all below it (OpenXR 1.0 chapter 2, "Handles").
use Rattle.std.specs.Prelude.{ℕ, ◌==◌, not, Bool, List, map}
use Rattle.xr_types.specs.declared.frames.Image.{Image}
use Rattle.xr_types.specs.declared.handles.Slot.{Slot}
use Rattle.xr_model.specs.machine.Bindings.{without_suggestions}
use Rattle.xr_model.specs.machine.Chains.{is_place_used, left_in_places, freed_in_places}
use Rattle.xr_model.specs.machine.HandlePlaces.{handle_at}
use Rattle.xr_model.specs.machine.Handles.{Handles, without, destroyed_by}
use Rattle.xr_model.specs.machine.LiveSessions.{Session, with_columns, without_sets, still_live}
use Rattle.xr_model.specs.machine.Sets.{without_inputs}
use Rattle.xr_model.specs.machine.Spaces.{Spaces, without_spaces, left_spaces}
use Rattle.xr_model.specs.machine.State.{CoreState}
use Rattle.xr_model.specs.machine.Sync.{left_columns}
use Rattle.xr_model.specs.machine.Target.{settled}

-- an action stands in a place
abbrev pub has_action : List Slot → ℕ → Bool
has_action row place = not (handle_at row place == 0)

-- the spaces that go with a handle; those whose actions go move with nothing
abbrev pub spaces_left : Handles → ℕ → Spaces → Spaces
spaces_left h handle spaces = left_spaces (has_action (without h handle).actions) (without_spaces spaces (destroyed_by h handle))

-- Of a session that is left, once these handles went and only these are live: a destroyed set is attached no more, and a place in
-- which no action stands any more shows nothing.
abbrev pub left_session : Handles → List ℕ → Session → Session
left_session h gone x = with_columns (left_columns (has_action h.actions) x.columns) (without_sets gone x)

-- the sessions that are left then; what actions showed in another goes with it
abbrev pub sessions_left : Handles → List ℕ → List Session → List Session
sessions_left h gone xs = map (left_session h gone) (still_live h xs)

-- The sessions that are left settle, since the target may be gone.
abbrev pub without_handle : CoreState → ℕ → CoreState
without_handle s handle = settled (record s {
  handles = without s.handles handle;
  sessions = sessions_left (without s.handles handle) (destroyed_by s.handles handle) s.sessions;
  inputs = without_inputs s.inputs (destroyed_by s.handles handle);
  suggestions = without_suggestions s.suggestions (destroyed_by s.handles handle);
  room = spaces_left s.handles handle s.room;
  chains = left_in_places (without s.handles handle) (is_place_used s.frames.pending s.shown_images) 0 s.chains;
})

-- the images that applications had waited for, and whose chains go with it
abbrev pub freed_by : CoreState → ℕ → List Image
freed_by s handle = freed_in_places (without s.handles handle) 0 s.chains
