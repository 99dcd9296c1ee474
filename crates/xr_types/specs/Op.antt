-- Ops by their names, and what the names that they give stand for.
use Rattle.std.specs.Prelude.{ℕ, nat_le, List, [], ◌∷◌, codes, Option, Some, None, if◌then◌else◌}
use Rattle.xr_types.specs.declared.scenario.Op.{Op}
use Rattle.xr_types.specs.declared.scenario.Op.TheVariants as op
use Rattle.xr_types.specs.declared.scenario.Sort.{Sort}
use Rattle.xr_types.specs.declared.scenario.Sort.TheVariants.{Handle, Atom, Number}
use Rattle.xr_types.specs.declared.limits.TheConstants.{MOST_HANDLE_MARK}
use Rattle.xr_types.specs.declared.names.CallName.{CallName}
-- rows: import of names
use Rattle.xr_types.specs.declared.names.CallName.TheVariants.{CreateInstance, DestroyInstance, PollEvent, GetSystem, StringToPath, PathToString, CreateSession, DestroySession, EndSession, RequestExitSession, BeginFrame, BeginSession, CreateReferenceSpace, CreateActionSpace, DestroySpace, LocateSpace, CreateActionSet, DestroyActionSet, CreateAction, DestroyAction, SuggestBindings, AttachSets, SyncActions, GetBoolean, GetFloat, GetVector, GetPoseActive, CreateSwapchain, DestroySwapchain, AcquireImage, ReleaseImage, WaitImage, Paint, WaitFrame, EndFrame, Mark, Await, Leave, Device, NextFrame, ImageDone}

-- rows: end

-- the name of an op
abbrev pub call_name : Op → CallName
-- rows: call_name
call_name (op.CreateInstance major minor) = CreateInstance
call_name (op.DestroyInstance instance) = DestroyInstance
call_name (op.PollEvent instance) = PollEvent
call_name (op.GetSystem instance form) = GetSystem
call_name (op.StringToPath instance text) = StringToPath
call_name (op.PathToString instance path capacity) = PathToString
call_name (op.CreateSession instance system) = CreateSession
call_name (op.DestroySession session) = DestroySession
call_name (op.EndSession session) = EndSession
call_name (op.RequestExitSession session) = RequestExitSession
call_name (op.BeginFrame session) = BeginFrame
call_name (op.BeginSession session view) = BeginSession
call_name (op.CreateReferenceSpace session kind offset) = CreateReferenceSpace
call_name (op.CreateActionSpace session action sub offset) = CreateActionSpace
call_name (op.DestroySpace space) = DestroySpace
call_name (op.LocateSpace space base time) = LocateSpace
call_name (op.CreateActionSet instance name localized priority) = CreateActionSet
call_name (op.DestroyActionSet set) = DestroyActionSet
call_name (op.CreateAction set name kind subactions localized) = CreateAction
call_name (op.DestroyAction action) = DestroyAction
call_name (op.SuggestBindings instance profile bindings) = SuggestBindings
call_name (op.AttachSets session sets) = AttachSets
call_name (op.SyncActions session active) = SyncActions
call_name (op.GetBoolean session action sub) = GetBoolean
call_name (op.GetFloat session action sub) = GetFloat
call_name (op.GetVector session action sub) = GetVector
call_name (op.GetPoseActive session action sub) = GetPoseActive
call_name (op.CreateSwapchain session format width height fixed) = CreateSwapchain
call_name (op.DestroySwapchain chain) = DestroySwapchain
call_name (op.AcquireImage chain) = AcquireImage
call_name (op.ReleaseImage chain) = ReleaseImage
call_name (op.WaitImage chain timeout) = WaitImage
call_name (op.Paint chain stamp) = Paint
call_name (op.WaitFrame session) = WaitFrame
call_name (op.EndFrame session time blend layers) = EndFrame
call_name (op.Mark mark value) = Mark
call_name (op.Await mark) = Await

-- rows: end

-- the name as scenarios and reports write it
abbrev pub name_of_call : CallName → List ℕ
-- rows: name_of_call
name_of_call CreateInstance = codes "create_instance"
name_of_call DestroyInstance = codes "destroy_instance"
name_of_call PollEvent = codes "poll_event"
name_of_call GetSystem = codes "get_system"
name_of_call StringToPath = codes "string_to_path"
name_of_call PathToString = codes "path_to_string"
name_of_call CreateSession = codes "create_session"
name_of_call DestroySession = codes "destroy_session"
name_of_call EndSession = codes "end_session"
name_of_call RequestExitSession = codes "request_exit_session"
name_of_call BeginFrame = codes "begin_frame"
name_of_call BeginSession = codes "begin_session"
name_of_call CreateReferenceSpace = codes "create_reference_space"
name_of_call CreateActionSpace = codes "create_action_space"
name_of_call DestroySpace = codes "destroy_space"
name_of_call LocateSpace = codes "locate_space"
name_of_call CreateActionSet = codes "create_action_set"
name_of_call DestroyActionSet = codes "destroy_action_set"
name_of_call CreateAction = codes "create_action"
name_of_call DestroyAction = codes "destroy_action"
name_of_call SuggestBindings = codes "suggest_bindings"
name_of_call AttachSets = codes "attach_sets"
name_of_call SyncActions = codes "sync_actions"
name_of_call GetBoolean = codes "get_boolean"
name_of_call GetFloat = codes "get_float"
name_of_call GetVector = codes "get_vector"
name_of_call GetPoseActive = codes "get_pose_active"
name_of_call CreateSwapchain = codes "create_swapchain"
name_of_call DestroySwapchain = codes "destroy_swapchain"
name_of_call AcquireImage = codes "acquire_image"
name_of_call ReleaseImage = codes "release_image"
name_of_call WaitImage = codes "wait_image"
name_of_call Paint = codes "paint"
name_of_call WaitFrame = codes "wait_frame"
name_of_call EndFrame = codes "end_frame"
name_of_call Mark = codes "mark"
name_of_call Await = codes "await"
name_of_call Leave = codes "leave"
name_of_call Device = codes "device"
name_of_call NextFrame = codes "next_frame"
name_of_call ImageDone = codes "image_done"

-- rows: end

-- the ops in the order of the format
abbrev pub all_ops : List CallName
all_ops =
    -- rows: all_ops
    CreateInstance ∷ DestroyInstance ∷ PollEvent ∷ GetSystem ∷ StringToPath ∷ PathToString ∷ CreateSession ∷ DestroySession ∷ EndSession ∷ RequestExitSession ∷ BeginFrame ∷ BeginSession ∷ CreateReferenceSpace ∷ CreateActionSpace ∷ DestroySpace ∷ LocateSpace ∷ CreateActionSet ∷ DestroyActionSet ∷ CreateAction ∷ DestroyAction ∷ SuggestBindings ∷ AttachSets ∷ SyncActions ∷ GetBoolean ∷ GetFloat ∷ GetVector ∷ GetPoseActive ∷ CreateSwapchain ∷ DestroySwapchain ∷ AcquireImage ∷ ReleaseImage ∷ WaitImage ∷ Paint ∷ WaitFrame ∷ EndFrame ∷ Mark ∷ Await ∷ []
    -- rows: end

-- what the value of a mark is
abbrev pub mark_sort : ℕ → Sort
mark_sort mark = if nat_le mark MOST_HANDLE_MARK then Handle else Atom

-- what the name that an op gives stands for, where its row has a name
abbrev pub sort_of : Op → Option Sort
-- rows: sort_of
sort_of (op.CreateInstance major minor) = Some Handle
sort_of (op.GetSystem instance form) = Some Number
sort_of (op.StringToPath instance text) = Some Atom
sort_of (op.CreateSession instance system) = Some Handle
sort_of (op.CreateReferenceSpace session kind offset) = Some Handle
sort_of (op.CreateActionSpace session action sub offset) = Some Handle
sort_of (op.CreateActionSet instance name localized priority) = Some Handle
sort_of (op.CreateAction set name kind subactions localized) = Some Handle
sort_of (op.CreateSwapchain session format width height fixed) = Some Handle
sort_of (op.WaitFrame session) = Some Number
sort_of (op.Await mark) = Some (mark_sort mark)
-- rows: end
sort_of _ = None
