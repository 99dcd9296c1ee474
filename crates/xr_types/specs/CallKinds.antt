-- What kind of call it is: whether it is counted, what it publishes, the buffer that it is lent, and how it is listed.
use Rattle.std.specs.Prelude.{ℕ, ℤ, pos, Bool, true, false, List, nat_le, if◌then◌else◌}
use Rattle.xr_types.specs.declared.code.Code.{Code}
use Rattle.xr_types.specs.declared.code.Code.TheVariants.{Success, SessionLossPending, SessionNotFocused}
use Rattle.xr_types.specs.declared.device.DeviceEvent.TheVariants as event
use Rattle.xr_types.specs.declared.calls.Call.{Call}
use Rattle.xr_types.specs.declared.calls.Call.TheVariants as ask
use Rattle.xr_types.specs.declared.calls.Gives.{Gives}
use Rattle.xr_types.specs.declared.calls.Gives.TheVariants.{Size}
use Rattle.xr_types.specs.declared.calls.Reply.{Reply}
use Rattle.xr_types.specs.declared.made.Made.{Made}
use Rattle.xr_types.specs.declared.names.CallName.{CallName}
use Rattle.xr_types.specs.declared.names.CallName.TheVariants as call

-- the getters of input
abbrev pub is_getter : Call → Bool
-- rows: is_getter
is_getter (ask.GetBoolean session action sub) = true
is_getter (ask.GetFloat session action sub) = true
is_getter (ask.GetVector session action sub) = true
is_getter (ask.GetPoseActive session action sub) = true
-- rows: end
is_getter _ = false

-- Locked calls are counted, and a reply's place is that count. The getters answer from what was published last,
-- and `image_done` gives back an image: neither is counted.
abbrev pub is_locked : Call → Bool
-- rows: is_locked
is_locked (ask.GetBoolean session action sub) = false
is_locked (ask.GetFloat session action sub) = false
is_locked (ask.GetVector session action sub) = false
is_locked (ask.GetPoseActive session action sub) = false
is_locked ask.ImageDone = false
-- rows: end
is_locked _ = true

-- the application leaves by it
abbrev pub is_leave : Call → Bool
is_leave ask.Leave = true
is_leave _ = false

-- ---- what it publishes

-- the codes with which a call that publishes does so
abbrev pub is_published : Code → Bool
is_published Success = true
is_published SessionLossPending = true
is_published SessionNotFocused = true
is_published _ = false

-- Which calls publish what getters answer from: those that change it, where they succeed; and the device's loss, always. That there
-- are publications is this project's own.
abbrev pub publishes : Call → Code → Bool
publishes (ask.CreateSession instance system) code = is_published code
publishes (ask.DestroySession session) code = is_published code
publishes (ask.CreateAction set name type subs localized) code = is_published code
publishes (ask.DestroyAction action) code = is_published code
publishes (ask.DestroyActionSet set) code = is_published code
publishes (ask.DestroyInstance instance) code = is_published code
publishes (ask.AttachSets session sets) code = is_published code
publishes (ask.SyncActions session active) code = is_published code
publishes (ask.Device event.Loss) code = true
publishes (ask.Device event.Lost) code = true
publishes (ask.Device event.Fault) code = true
publishes (ask.Device (event.Garbled line)) code = true
publishes _ code = false

-- ---- what it is lent

-- how many bytes a call is lent
abbrev pub lent_size : Call → ℕ
-- rows: lent_size
lent_size (ask.PathToString instance path capacity) = capacity
-- rows: end
lent_size _ = 0

-- how many bytes of a buffer of this size were written, by what the reply gives
abbrev pub written_size : Gives → ℕ → ℕ
written_size (Size n) size = if nat_le n size then n else 0
written_size _ size = 0

-- ---- how it is listed

-- the name by which a call is listed
abbrev pub listed_name : Call → CallName
-- rows: listed_name
listed_name (ask.CreateInstance major minor) = call.CreateInstance
listed_name (ask.DestroyInstance instance) = call.DestroyInstance
listed_name (ask.GetSystem instance form) = call.GetSystem
listed_name (ask.StringToPath instance text) = call.StringToPath
listed_name (ask.PathToString instance path capacity) = call.PathToString
listed_name (ask.PollEvent instance) = call.PollEvent
listed_name (ask.CreateSession instance system) = call.CreateSession
listed_name (ask.DestroySession session) = call.DestroySession
listed_name (ask.BeginSession session view) = call.BeginSession
listed_name (ask.EndSession session) = call.EndSession
listed_name (ask.RequestExitSession session) = call.RequestExitSession
listed_name (ask.CreateReferenceSpace session kind offset) = call.CreateReferenceSpace
listed_name (ask.CreateActionSpace session action sub offset) = call.CreateActionSpace
listed_name (ask.DestroySpace space) = call.DestroySpace
listed_name (ask.LocateSpace space base time) = call.LocateSpace
listed_name (ask.CreateActionSet instance name localized priority) = call.CreateActionSet
listed_name (ask.DestroyActionSet set) = call.DestroyActionSet
listed_name (ask.CreateAction set name kind subs localized) = call.CreateAction
listed_name (ask.DestroyAction action) = call.DestroyAction
listed_name (ask.SuggestBindings instance profile list) = call.SuggestBindings
listed_name (ask.AttachSets session sets) = call.AttachSets
listed_name (ask.SyncActions session active) = call.SyncActions
listed_name (ask.GetBoolean session action sub) = call.GetBoolean
listed_name (ask.GetFloat session action sub) = call.GetFloat
listed_name (ask.GetVector session action sub) = call.GetVector
listed_name (ask.GetPoseActive session action sub) = call.GetPoseActive
listed_name (ask.CreateSwapchain session format width height fixed) = call.CreateSwapchain
listed_name (ask.DestroySwapchain chain) = call.DestroySwapchain
listed_name (ask.AcquireImage chain) = call.AcquireImage
listed_name (ask.WaitImage chain timeout start) = call.WaitImage
listed_name (ask.Paint chain stamp) = call.Paint
listed_name (ask.ReleaseImage chain) = call.ReleaseImage
listed_name (ask.WaitFrame session) = call.WaitFrame
listed_name (ask.BeginFrame session) = call.BeginFrame
listed_name (ask.EndFrame session time blend layers) = call.EndFrame
listed_name (ask.Mark number value) = call.Mark
listed_name (ask.AwaitMark number) = call.Await
listed_name ask.Leave = call.Leave
listed_name (ask.Device what) = call.Device
listed_name ask.NextFrame = call.NextFrame
listed_name ask.ImageDone = call.ImageDone

-- rows: end

-- the mark that a call awaits, else 0
abbrev pub mark_of : Call → ℕ
mark_of (ask.AwaitMark number) = number
mark_of _ = 0

-- when a wait for an image began, else 0
abbrev pub start_of : Call → ℤ
start_of (ask.WaitImage chain timeout start) = start
start_of _ = pos 0

-- a wait for an image begins at this clock
abbrev pub with_start : ℤ → Call → Call
with_start clock (ask.WaitImage chain timeout start) = ask.WaitImage chain timeout clock
with_start clock what = what

-- a call in its actor's list: its op's place, what it was answered, and the bytes that it put into its buffer
abbrev pub listed_as : Call → ℕ → Reply → List ℕ → Made
listed_as what place reply text = record { op = place; name = listed_name what; mark = mark_of what; start = start_of what; reply = reply; text = text }
