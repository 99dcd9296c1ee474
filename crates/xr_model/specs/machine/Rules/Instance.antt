-- Instances, their systems and their events (OpenXR 1.0 chapters 2, 4 and 5).
use Rattle.std.specs.Prelude.{ℕ, ◌||◌, ◌==◌, Bool, true, false, not, [], ◌∷◌, Option, Some, None, is_none}
use Rattle.xr_types.specs.declared.code.Code.TheVariants.{ApiVersionUnsupported, FormFactorUnsupported, EventUnavailable}
use Rattle.xr_types.specs.declared.calls.Gives.{Gives}
use Rattle.xr_types.specs.declared.calls.Gives.TheVariants.{Nothing, Handle, Number, Event}
use Rattle.xr_types.specs.declared.handles.Kind.TheVariants.{Instance}
use Rattle.xr_types.specs.declared.session.Event as event
use Rattle.xr_types.specs.declared.session.Form.{Form}
use Rattle.xr_types.specs.declared.session.Form.TheVariants.{Head, Hand}
use Rattle.xr_model.specs.machine.Handles.{no_handle, no_room, with_handle, destroyed_by}
use Rattle.xr_model.specs.machine.Events.{no_events, polled, behind_poll}
use Rattle.xr_model.specs.machine.Refusals.{when}
use Rattle.xr_model.specs.machine.State.{CoreState}
use Rattle.xr_model.specs.machine.Destroyed.{without_handle, freed_by}
use Rattle.xr_model.specs.machine.Rule.{Rule, ordinary, done, destroying}

-- xrCreateInstance (section 4.2): version 1.0 alone, and one instance at a time
abbrev pub create_instance_rule : CoreState → ℕ → ℕ → ℕ → Rule
create_instance_rule s given major minor = record (ordinary s) {
  behind = when (not (major == 1) || not (minor == 0)) ApiVersionUnsupported ∷ no_room s.handles Instance ∷ [];
  creates = Some Instance;
  effect = done (record s { handles = with_handle s.handles Instance 0 given }) (Handle given);
}

-- xrDestroyInstance (section 4.2): all below the instance goes, and its atoms, events and count of lost events with it
abbrev pub destroy_instance_rule : CoreState → ℕ → Rule
destroy_instance_rule s instance = record (ordinary s) {
  handles = no_handle s.handles Instance instance ∷ [];
  effect = destroying (record (without_handle s instance) { atoms = []; events = no_events }) (destroyed_by s.handles instance) (freed_by s instance);
}

-- the one system of a runtime
abbrev pub the_system : ℕ
the_system = 1

abbrev pub is_head : Form → Bool
is_head Head = true
is_head Hand = false

-- xrGetSystem (chapter 5): there is a system for the head alone
abbrev pub get_system_rule : CoreState → ℕ → Form → Rule
get_system_rule s instance form = record (ordinary s) {
  handles = no_handle s.handles Instance instance ∷ [];
  behind = when (not (is_head form)) FormFactorUnsupported ∷ [];
  effect = done s (Number the_system);
}

-- what a poll gives, where it tells something
abbrev pub told_event : Option event.Event → Gives
told_event None = Nothing
told_event (Some e) = Event e

-- xrPollEvent (chapter 2): no event is no success, and changes nothing
abbrev pub poll_event_rule : CoreState → ℕ → Rule
poll_event_rule s instance = record (ordinary s) {
  handles = no_handle s.handles Instance instance ∷ [];
  behind = when (is_none (polled s.events)) EventUnavailable ∷ [];
  effect = done (record s { events = behind_poll s.events }) (told_event (polled s.events));
}
