-- A load: the scenario that is made from a number N of frames, without a text, and what its device tells. It has one script,
-- which makes a session with a space and a chain, and then makes the frames. It is this project's own.
use Rattle.std.specs.Prelude.{ℕ, pos, ◌+◌, ◌-◌, ◌^◌, ◌%◌, ◌==◌, zero, suc, Bool, true, false, List, [], ◌∷◌, ◌++◌, length}
use Rattle.xr_types.specs.declared.device.DeviceEvent.TheVariants.{Wish, Mark}
use Rattle.xr_types.specs.declared.device.Wish.TheVariants.{Focused}
use Rattle.xr_types.specs.declared.frames.Blend.TheVariants.{Opaque}
use Rattle.xr_types.specs.declared.limits.TheConstants.{VERSION}
use Rattle.xr_types.specs.declared.scenario.LayerUse.{LayerUse}
use Rattle.xr_types.specs.declared.scenario.LayerUse.TheVariants.{Quad}
use Rattle.xr_types.specs.declared.scenario.Op.{Op}
use Rattle.xr_types.specs.declared.scenario.Op.TheVariants as op
use Rattle.xr_types.specs.declared.scenario.Scenario.{Scenario}
use Rattle.xr_types.specs.declared.scenario.Use.{Use}
use Rattle.xr_types.specs.declared.scenario.Use.TheVariants.{Number, Of}
use Rattle.xr_types.specs.declared.session.Form.TheVariants.{Head}
use Rattle.xr_types.specs.declared.session.ViewConfig.TheVariants.{Stereo}
use Rattle.xr_types.specs.declared.spaces.RefKind.TheVariants.{Local}
use Rattle.xr_model.specs.device_text.DeviceText.{DeviceStream, ends}

-- ---- before the frames

-- what the ops at these places of the script gave
abbrev pub the_instance : Use
the_instance = Of 2

abbrev pub the_system : Use
the_system = Of 3

abbrev pub the_session : Use
the_session = Of 4

abbrev pub the_space : Use
the_space = Of 5

abbrev pub the_chain : Use
the_chain = Of 6

-- once the device wants sessions to be focused, an instance and its session are created
abbrev pub instance_ops : List Op
instance_ops = op.Await 1 ∷ op.CreateInstance 1 0 ∷ op.GetSystem the_instance Head ∷ op.CreateSession the_instance the_system ∷ []

-- the session has a space and a chain of 64 times 64 pixels, and is begun
abbrev pub session_ops : List Op
session_ops = op.CreateReferenceSpace the_session Local 1 ∷ op.CreateSwapchain the_session 1 64 64 false ∷ op.BeginSession the_session Stereo ∷ []

abbrev pub opening_ops : List Op
opening_ops = instance_ops ++ session_ops

-- ---- a frame

-- frames count from 1
abbrev pub is_tenth : ℕ → Bool
is_tenth j = j % 10 == 0

abbrev pub is_seventh : ℕ → Bool
is_seventh j = j % 7 == 0

-- a frame is waited for and begun
abbrev pub one_round : List Op
one_round = op.WaitFrame the_session ∷ op.BeginFrame the_session ∷ []

-- each tenth frame twice: the second begin discards the first
abbrev pub rounds_by : Bool → List Op
rounds_by true = one_round ++ one_round
rounds_by false = one_round

-- an image is acquired, waited for however long that takes, painted with the frame's number, and released
abbrev pub image_ops : ℕ → List Op
image_ops j = op.AcquireImage the_chain ∷ op.WaitImage the_chain (pos (2 ^ 63 - 1)) ∷ op.Paint the_chain j ∷ op.ReleaseImage the_chain ∷ []

-- each seventh frame is first ended at time 0, which is refused
abbrev pub wrong_end_by : Bool → List Op
wrong_end_by true = op.EndFrame the_session (Number (pos 0)) Opaque [] ∷ []
wrong_end_by false = []

-- one quad of the whole of the image
abbrev pub whole_quad : LayerUse
whole_quad = Quad the_space (record { chain = the_chain; x = pos 0; y = pos 0; w = pos 64; h = pos 64 }) 1

-- the place of the last wait of a frame whose first op stands at a place, by whether it is waited for twice
abbrev pub wait_place : Bool → ℕ → ℕ
wait_place true place = place + 2
wait_place false place = place

-- the frame's end at the time that the wait at a place gave
abbrev pub right_end : ℕ → Op
right_end wait = op.EndFrame the_session (Of wait) Opaque (whole_quad ∷ [])

-- what comes before the end of frame j
abbrev pub begun_ops : ℕ → List Op
begun_ops j = rounds_by (is_tenth j) ++ (image_ops j ++ wrong_end_by (is_seventh j))

-- the ops of frame j, the first of which stands at a place
abbrev pub frame_ops : ℕ → ℕ → List Op
frame_ops j place = begun_ops j ++ right_end (wait_place (is_tenth j) place) ∷ []

-- those of so many frames from frame j on, the first of which stands at a place
abbrev pub frame_ops_from : ℕ → ℕ → ℕ → List Op
frame_ops_from zero j place = []
frame_ops_from (suc count) j place = frame_ops j place ++ frame_ops_from count (j + 1) (place + length (frame_ops j place))

-- ---- the whole

-- the one script of a load of N frames
abbrev pub load_script : ℕ → List Op
load_script n = opening_ops ++ frame_ops_from n 1 8

-- The scenario of a load of N frames.
abbrev pub load_scenario : ℕ → Scenario
load_scenario n = record { version = VERSION; scripts = load_script n ∷ [] }

-- Its device wants sessions to be focused, sets the mark that the script awaits, and has no more to tell.
abbrev pub load_device : DeviceStream
load_device = record { events = Wish Focused ∷ Mark 1 ∷ []; ending = ends }
