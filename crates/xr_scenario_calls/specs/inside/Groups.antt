-- The ops by groups: a group is one function that makes up its calls.
use Rattle.xr_types.specs.declared.scenario.Op.{Op}
use Rattle.xr_types.specs.declared.scenario.Op.TheVariants as op

-- rows: the groups

-- an instance, its system, its paths or its events
abbrev pub IsInstanceOp : Op → Type 0
IsInstanceOp (op.CreateInstance major minor) = Unit {0}
IsInstanceOp (op.DestroyInstance instance) = Unit {0}
IsInstanceOp (op.PollEvent instance) = Unit {0}
IsInstanceOp (op.GetSystem instance form) = Unit {0}
IsInstanceOp (op.StringToPath instance text) = Unit {0}
IsInstanceOp (op.PathToString instance path capacity) = Unit {0}
IsInstanceOp _ = ⊥

-- a session
abbrev pub IsSessionOp : Op → Type 0
IsSessionOp (op.CreateSession instance system) = Unit {0}
IsSessionOp (op.DestroySession session) = Unit {0}
IsSessionOp (op.BeginSession session view) = Unit {0}
IsSessionOp (op.EndSession session) = Unit {0}
IsSessionOp (op.RequestExitSession session) = Unit {0}
IsSessionOp _ = ⊥

-- a space
abbrev pub IsSpaceOp : Op → Type 0
IsSpaceOp (op.CreateReferenceSpace session kind offset) = Unit {0}
IsSpaceOp (op.CreateActionSpace session action sub offset) = Unit {0}
IsSpaceOp (op.DestroySpace space) = Unit {0}
IsSpaceOp (op.LocateSpace space base time) = Unit {0}
IsSpaceOp _ = ⊥

-- action sets and actions
abbrev pub IsActionOp : Op → Type 0
IsActionOp (op.CreateActionSet instance name localized priority) = Unit {0}
IsActionOp (op.DestroyActionSet set) = Unit {0}
IsActionOp (op.CreateAction set name kind subactions localized) = Unit {0}
IsActionOp (op.DestroyAction action) = Unit {0}
IsActionOp (op.SuggestBindings instance profile bindings) = Unit {0}
IsActionOp (op.AttachSets session sets) = Unit {0}
IsActionOp (op.SyncActions session active) = Unit {0}
IsActionOp _ = ⊥

-- an action's state
abbrev pub IsStateOp : Op → Type 0
IsStateOp (op.GetBoolean session action sub) = Unit {0}
IsStateOp (op.GetFloat session action sub) = Unit {0}
IsStateOp (op.GetVector session action sub) = Unit {0}
IsStateOp (op.GetPoseActive session action sub) = Unit {0}
IsStateOp _ = ⊥

-- a swapchain or its images
abbrev pub IsImageOp : Op → Type 0
IsImageOp (op.CreateSwapchain session format width height fixed) = Unit {0}
IsImageOp (op.DestroySwapchain chain) = Unit {0}
IsImageOp (op.AcquireImage chain) = Unit {0}
IsImageOp (op.ReleaseImage chain) = Unit {0}
IsImageOp (op.WaitImage chain timeout) = Unit {0}
IsImageOp (op.Paint chain stamp) = Unit {0}
IsImageOp _ = ⊥

-- a frame
abbrev pub IsFrameOp : Op → Type 0
IsFrameOp (op.WaitFrame session) = Unit {0}
IsFrameOp (op.BeginFrame session) = Unit {0}
IsFrameOp (op.EndFrame session time blend layers) = Unit {0}
IsFrameOp _ = ⊥

-- rows: end
