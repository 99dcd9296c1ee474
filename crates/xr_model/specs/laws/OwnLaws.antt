-- What calls name of a session's own: its spaces and its swapchains, and none of another session's.
use Rattle.std.specs.Prelude.{◌≡◌, ◌&&◌, ℕ, ℤ, Bool, true, List}
use Rattle.std.specs.List.{list_all}
use Rattle.xr_types.specs.Code.{is_success}
use Rattle.xr_types.specs.declared.calls.Call.TheVariants as ask
use Rattle.xr_types.specs.declared.frames.Blend.{Blend}
use Rattle.xr_types.specs.declared.frames.Layer.{Layer}
use Rattle.xr_types.specs.declared.frames.Layer.TheVariants.{Projection, Quad}
use Rattle.xr_types.specs.declared.handles.Kind.TheVariants as kind
use Rattle.xr_model.specs.machine.Calls.{Entry}
use Rattle.xr_model.specs.machine.Handles.{Handles, is_live}
use Rattle.xr_model.specs.machine.HandlePlaces.{is_below}
use Rattle.xr_model.specs.machine.Layers.{view_at}
use Rattle.xr_model.specs.machine.Machine.{step}
use Rattle.xr_model.specs.machine.Rules.Spaces.{session_above}
use Rattle.xr_model.specs.machine.State.{State}

-- the space of a layer and the swapchains that it shows are live ones of this session
abbrev pub is_layer_of : Handles → ℕ → Layer → Bool
is_layer_of h session (Projection space count views) =
    is_below h kind.Space session space && (is_below h kind.Swapchain session (view_at views 0).chain && is_below h kind.Swapchain session (view_at views 1).chain)
is_layer_of h session (Quad space part pose) = is_below h kind.Space session space && is_below h kind.Swapchain session part.chain

-- Where a session ends a frame, each layer is of that session.
abbrev pub LayersAreOfTheirSession : Type 0
LayersAreOfTheirSession =
    (s : State) (e : Entry) (session : ℕ) (time : ℤ) (blend : Blend) (layers : List Layer) → e.call ≡ ask.EndFrame session time blend layers
    → is_success (step s e).1.reply.code ≡ true → list_all (is_layer_of s.core.handles session) layers ≡ true

-- Where a space is located in a base, both are live, and the base is of the session that the space is of.
abbrev pub BasesAreOfTheSameSession : Type 0
BasesAreOfTheSameSession =
    (s : State) (e : Entry) (space base : ℕ) (time : ℤ) → e.call ≡ ask.LocateSpace space base time → is_success (step s e).1.reply.code ≡ true
    → (is_live s.core.handles kind.Space space ≡ true) × (is_below s.core.handles kind.Space (session_above s.core.handles space) base ≡ true)
