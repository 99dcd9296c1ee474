-- The groups of calls that touch no cells.
use Rattle.xr_types.specs.declared.calls.Call.{Call}
use Rattle.xr_types.specs.declared.calls.Call.TheVariants as ask
use Rattle.xr_model.proofs.OverCells.{IsQuiet}
-- rows: import of groups
use Rattle.xr_core.specs.inside.Groups.{IsInstanceCall, IsPathCall, IsSessionCall, IsSpaceCall, IsSetCall, IsGetter, IsFrameCall, IsOwnCall}

-- rows: end

-- rows: quiet groups

pub quiet_instance : (r : Call) → IsInstanceCall r → IsQuiet r
quiet_instance (ask.CreateInstance major minor) group = tt
quiet_instance (ask.GetSystem instance form) group = tt
quiet_instance (ask.PollEvent instance) group = tt
quiet_instance ask.Leave group = absurd group
quiet_instance _ group = absurd group

pub quiet_path : (r : Call) → IsPathCall r → IsQuiet r
quiet_path (ask.StringToPath instance text) group = tt
quiet_path (ask.PathToString instance path capacity) group = tt
quiet_path ask.Leave group = absurd group
quiet_path _ group = absurd group

pub quiet_session : (r : Call) → IsSessionCall r → IsQuiet r
quiet_session (ask.CreateSession instance system) group = tt
quiet_session (ask.BeginSession session view) group = tt
quiet_session (ask.EndSession session) group = tt
quiet_session (ask.RequestExitSession session) group = tt
quiet_session ask.Leave group = absurd group
quiet_session _ group = absurd group

pub quiet_space : (r : Call) → IsSpaceCall r → IsQuiet r
quiet_space (ask.CreateReferenceSpace session kind offset) group = tt
quiet_space (ask.CreateActionSpace session action sub offset) group = tt
quiet_space (ask.DestroySpace space) group = tt
quiet_space (ask.LocateSpace space base time) group = tt
quiet_space ask.Leave group = absurd group
quiet_space _ group = absurd group

pub quiet_set : (r : Call) → IsSetCall r → IsQuiet r
quiet_set (ask.CreateActionSet instance name localized priority) group = tt
quiet_set (ask.DestroyActionSet set) group = tt
quiet_set (ask.CreateAction set name kind subs localized) group = tt
quiet_set (ask.DestroyAction action) group = tt
quiet_set (ask.AttachSets session sets) group = tt
quiet_set ask.Leave group = absurd group
quiet_set _ group = absurd group

pub quiet_getter : (r : Call) → IsGetter r → IsQuiet r
quiet_getter (ask.GetBoolean session action sub) group = tt
quiet_getter (ask.GetFloat session action sub) group = tt
quiet_getter (ask.GetVector session action sub) group = tt
quiet_getter (ask.GetPoseActive session action sub) group = tt
quiet_getter ask.Leave group = absurd group
quiet_getter _ group = absurd group

pub quiet_frame : (r : Call) → IsFrameCall r → IsQuiet r
quiet_frame (ask.WaitFrame session) group = tt
quiet_frame (ask.BeginFrame session) group = tt
quiet_frame ask.Leave group = absurd group
quiet_frame _ group = absurd group

pub quiet_own : (r : Call) → IsOwnCall r → IsQuiet r
quiet_own (ask.Mark number value) group = tt
quiet_own (ask.AwaitMark number) group = tt
quiet_own ask.Leave group = tt
quiet_own _ group = absurd group

-- rows: end
