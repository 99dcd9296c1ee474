-- The state of the machine: what a core keeps, and the cells beside it.
use Rattle.std.specs.Prelude.{ℕ, Option, Bool, false, replicate, List, []}
use Rattle.xr_types.specs.declared.frames.Image.{Image}
use Rattle.xr_types.specs.declared.input.Bound.{Bound}
use Rattle.xr_model.specs.machine.Handles.{Handles, no_handles}
use Rattle.xr_model.specs.machine.Bindings.{no_suggestions}
use Rattle.xr_model.specs.machine.Chains.{Chain, no_chains}
use Rattle.xr_model.specs.machine.Events.{Queue, no_events}
use Rattle.xr_model.specs.machine.Frames.{Frames, no_frames}
use Rattle.xr_model.specs.machine.Images.{image_count}
use Rattle.xr_model.specs.machine.LiveSessions.{Session}
use Rattle.xr_model.specs.machine.Marks.{no_marks}
use Rattle.xr_model.specs.machine.Sets.{Sets, no_sets}
use Rattle.xr_model.specs.machine.Spaces.{Spaces, no_spaces}
use Rattle.xr_model.specs.machine.Device.{Device, first_device}

-- What a core keeps: the handles, the atoms' texts, the events that wait, the live sessions in the order of their creation,
-- each with its loop of frames and what actions show in it, how many were created in the run, the action sets with their
-- actions, what is suggested for each profile, the spaces with the samples of their origins, the frames that are pending, how
-- many were ended in the run, the swapchains in their places, the images of the frame taken last, what the device has told of
-- itself, the marks, how many applications there are, which of them have left, how many locked calls were decided, and the
-- place of the call that published last.
pub record CoreState : Type 0 where
  pub handles : Handles
  pub atoms : List (List ℕ)
  pub events : Queue
  pub sessions : List Session
  pub created : ℕ
  pub inputs : Sets
  pub suggestions : List (List Bound)
  pub room : Spaces
  pub frames : Frames
  pub ended : ℕ
  pub chains : List Chain
  pub shown_images : List Image
  pub device : Device
  pub marks : List (Option ℕ)
  pub apps : ℕ
  pub left : List Bool
  pub locked : ℕ
  pub published : ℕ

-- What the cells hold beside a core: the stamp of each image, and the images of the frame taken last that are
-- not given back, in order. An image's count is not stored: it is how many pending frames use the image, and
-- one where it is held.
pub record Cells : Type 0 where
  pub stamps : List ℕ
  pub held : List Image

pub record State : Type 0 where
  pub core : CoreState
  pub cells : Cells

-- What a core has beside cells of any kind: what it keeps, and the images of the frame taken last that it knows as not given
-- back, in order.
pub record WholeCore : Type 0 where
  pub kept : CoreState
  pub held : List Image

-- What a call is told of the cells: whether the image that it waits for is unused, which is where its count is 0;
-- the stamps of the images that it shows; and the images that are held.
pub record CellReads : Type 0 where
  pub unused : Bool
  pub stamps : List ℕ
  pub held : List Image

-- what a run is begun with: how many applications it has
pub record Settings : Type 0 where
  pub apps : ℕ

abbrev pub with_apps : ℕ → Settings
with_apps n = record { apps = n }

-- what a core keeps before any call
abbrev pub opening_core : Settings → CoreState
opening_core settings = record {
  handles = no_handles;
  atoms = [];
  events = no_events;
  sessions = [];
  created = 0;
  inputs = no_sets;
  suggestions = no_suggestions;
  room = no_spaces;
  frames = no_frames;
  ended = 0;
  chains = no_chains;
  shown_images = [];
  device = first_device;
  marks = no_marks;
  apps = settings.apps;
  left = replicate settings.apps false;
  locked = 0;
  published = 0;
}

-- the cells before any call: the images of all places
abbrev pub opening_cells : Cells
opening_cells = record { stamps = replicate image_count 0; held = [] }

-- the state before any call
abbrev pub opening : Settings → State
opening settings = record { core = opening_core settings; cells = opening_cells }
