-- The rules of the calls on spaces (OpenXR 1.0 chapter 7, "Spaces").
use Rattle.std.specs.Prelude.{ℕ, ℤ, pos, int_le, not, [], ◌∷◌, ◌++◌, Some, unwrap_or}
use Rattle.xr_types.specs.declared.code.Code.TheVariants.{HandleInvalid, TimeInvalid}
use Rattle.xr_types.specs.declared.calls.Gives.TheVariants as gives
use Rattle.xr_types.specs.declared.handles.Kind.TheVariants as kind
use Rattle.xr_types.specs.declared.spaces.Location.TheVariants.{Missing}
use Rattle.xr_types.specs.declared.spaces.RefKind.{RefKind}
use Rattle.xr_types.specs.declared.spaces.Root.{Root}
use Rattle.xr_types.specs.declared.spaces.Root.TheVariants.{Fixed}
use Rattle.xr_model.specs.machine.Handles.{Handles, no_handle, no_room, with_handle, without_alone}
use Rattle.xr_model.specs.machine.HandlePlaces.{parent_of, is_below}
use Rattle.xr_model.specs.machine.Refusals.{when}
use Rattle.xr_model.specs.machine.Spaces.{without_space, reference_checks, with_space, located}
use Rattle.xr_model.specs.machine.State.{CoreState}
use Rattle.xr_model.specs.machine.SessionRule.{loss_of}
use Rattle.xr_model.specs.machine.Rule.{Rule, ordinary, done, destroying}
use Rattle.xr_model.specs.machine.Rules.Session.{life_of, columns_of}

-- a new space of a session, which moves with this
abbrev pub with_new_space : CoreState → ℕ → ℕ → Root → ℕ → CoreState
with_new_space s session given root offset = record s {
  handles = with_handle s.handles kind.Space session given;
  room = with_space s.room given root offset;
}

-- xrCreateReferenceSpace
abbrev pub create_reference_space_rule : CoreState → ℕ → ℕ → RefKind → ℕ → Rule
create_reference_space_rule s given session what offset = record (ordinary s) {
  on = Some (loss_of (life_of s session));
  handles = no_handle s.handles kind.Session session ∷ [];
  behind = reference_checks what offset s.device.stage ++ no_room s.handles kind.Space ∷ [];
  creates = Some kind.Space;
  effect = done (with_new_space s session given (Fixed what) offset) (gives.Handle given);
}

-- nothing stands below a space, so its row and the spaces are all that change
abbrev pub with_space_gone : CoreState → ℕ → CoreState
with_space_gone s space = record s { handles = without_alone s.handles kind.Space space; room = without_space s.room space }

-- xrDestroySpace. It is refused for its handle alone, also where the session is lost.
abbrev pub destroy_space_rule : CoreState → ℕ → Rule
destroy_space_rule s space = record (ordinary s) {
  handles = no_handle s.handles kind.Space space ∷ [];
  effect = destroying (with_space_gone s space) (space ∷ []) [];
}

-- the session of a space
abbrev pub session_above : Handles → ℕ → ℕ
session_above h space = unwrap_or (parent_of h space) 0

-- xrLocateSpace: the base is a space of the same session, and a time is above 0. The space of an action moves with what the last sync
-- of the session chose for it.
abbrev pub locate_space_rule : CoreState → ℕ → ℕ → ℤ → Rule
locate_space_rule s space base time = record (ordinary s) {
  on = Some (loss_of (life_of s (session_above s.handles space)));
  handles = no_handle s.handles kind.Space space ∷ when (not (is_below s.handles kind.Space (session_above s.handles space) base)) HandleInvalid ∷ [];
  behind = when (int_le time (pos 0)) TimeInvalid ∷ [];
  effect = done s (gives.Location (unwrap_or (located s.room (record { columns = columns_of s (session_above s.handles space) }) space base time) Missing));
}
