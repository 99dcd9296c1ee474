-- The calls by groups: a group is a file of calls/, and one function of the core.
use Rattle.xr_types.specs.declared.calls.Call.{Call}
use Rattle.xr_types.specs.declared.calls.Call.TheVariants as ask

-- rows: the groups

abbrev pub IsInstanceCall : Call → Type 0
IsInstanceCall (ask.CreateInstance major minor) = Unit {0}
IsInstanceCall (ask.GetSystem instance form) = Unit {0}
IsInstanceCall (ask.PollEvent instance) = Unit {0}
IsInstanceCall _ = ⊥

abbrev pub IsPathCall : Call → Type 0
IsPathCall (ask.StringToPath instance text) = Unit {0}
IsPathCall (ask.PathToString instance path capacity) = Unit {0}
IsPathCall _ = ⊥

abbrev pub IsSessionCall : Call → Type 0
IsSessionCall (ask.CreateSession instance system) = Unit {0}
IsSessionCall (ask.BeginSession session view) = Unit {0}
IsSessionCall (ask.EndSession session) = Unit {0}
IsSessionCall (ask.RequestExitSession session) = Unit {0}
IsSessionCall _ = ⊥

abbrev pub IsSpaceCall : Call → Type 0
IsSpaceCall (ask.CreateReferenceSpace session kind offset) = Unit {0}
IsSpaceCall (ask.CreateActionSpace session action sub offset) = Unit {0}
IsSpaceCall (ask.DestroySpace space) = Unit {0}
IsSpaceCall (ask.LocateSpace space base time) = Unit {0}
IsSpaceCall _ = ⊥

abbrev pub IsSetCall : Call → Type 0
IsSetCall (ask.CreateActionSet instance name localized priority) = Unit {0}
IsSetCall (ask.DestroyActionSet set) = Unit {0}
IsSetCall (ask.CreateAction set name kind subs localized) = Unit {0}
IsSetCall (ask.DestroyAction action) = Unit {0}
IsSetCall (ask.AttachSets session sets) = Unit {0}
IsSetCall _ = ⊥

-- the getters of input
abbrev pub IsGetter : Call → Type 0
IsGetter (ask.GetBoolean session action sub) = Unit {0}
IsGetter (ask.GetFloat session action sub) = Unit {0}
IsGetter (ask.GetVector session action sub) = Unit {0}
IsGetter (ask.GetPoseActive session action sub) = Unit {0}
IsGetter _ = ⊥

-- swapchains and their images
abbrev pub IsChainCall : Call → Type 0
IsChainCall (ask.CreateSwapchain session format width height fixed) = Unit {0}
IsChainCall (ask.DestroySwapchain chain) = Unit {0}
IsChainCall (ask.WaitImage chain timeout start) = Unit {0}
IsChainCall (ask.Paint chain stamp) = Unit {0}
IsChainCall (ask.ReleaseImage chain) = Unit {0}
IsChainCall _ = ⊥

-- an application's calls on frames but for their ends
abbrev pub IsFrameCall : Call → Type 0
IsFrameCall (ask.WaitFrame session) = Unit {0}
IsFrameCall (ask.BeginFrame session) = Unit {0}
IsFrameCall _ = ⊥

-- marks, and how applications end
abbrev pub IsOwnCall : Call → Type 0
IsOwnCall (ask.Mark number value) = Unit {0}
IsOwnCall (ask.AwaitMark number) = Unit {0}
IsOwnCall ask.Leave = Unit {0}
IsOwnCall _ = ⊥

-- rows: end
