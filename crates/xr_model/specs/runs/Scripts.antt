-- What a script asks, and when calls follow it.
use Rattle.std.specs.Prelude.{◌≡◌, ℕ, ◌+◌, pos, Bool, true, false, map, List, [], ◌∷◌, length}
use Rattle.xr_types.specs.declared.scenario.Op.{Op}
use Rattle.xr_types.specs.declared.scenario.Op.TheVariants as op
use Rattle.xr_model.specs.machine.Calls.{Exchange}
use Rattle.xr_types.specs.declared.calls.Call.{Call}
use Rattle.xr_types.specs.declared.calls.Call.TheVariants as ask
use Rattle.xr_model.specs.runs.NameValues.{value_of, time_of, binding_for, active_set_for, layer_for, no_values, with_name_value}

-- What an op asks, with its names replaced by the values that earlier ops gave. The start of a wait for
-- an image is not the script's to tell, and is 0 here.
abbrev pub request_for : List ℕ → Op → Call
-- rows: request_for
request_for values (op.CreateInstance major minor) = ask.CreateInstance major minor
request_for values (op.DestroyInstance instance) = ask.DestroyInstance (value_of values instance)
request_for values (op.PollEvent instance) = ask.PollEvent (value_of values instance)
request_for values (op.GetSystem instance form) = ask.GetSystem (value_of values instance) form
request_for values (op.StringToPath instance text) = ask.StringToPath (value_of values instance) text
request_for values (op.PathToString instance path capacity) = ask.PathToString (value_of values instance) (value_of values path) capacity
request_for values (op.CreateSession instance system) = ask.CreateSession (value_of values instance) (value_of values system)
request_for values (op.DestroySession session) = ask.DestroySession (value_of values session)
request_for values (op.EndSession session) = ask.EndSession (value_of values session)
request_for values (op.RequestExitSession session) = ask.RequestExitSession (value_of values session)
request_for values (op.BeginFrame session) = ask.BeginFrame (value_of values session)
request_for values (op.BeginSession session view) = ask.BeginSession (value_of values session) view
request_for values (op.CreateReferenceSpace session kind offset) = ask.CreateReferenceSpace (value_of values session) kind offset
request_for values (op.CreateActionSpace session action sub offset) = ask.CreateActionSpace (value_of values session) (value_of values action) (value_of values sub) offset
request_for values (op.DestroySpace space) = ask.DestroySpace (value_of values space)
request_for values (op.LocateSpace space base time) = ask.LocateSpace (value_of values space) (value_of values base) (time_of values time)
request_for values (op.CreateActionSet instance called localized priority) = ask.CreateActionSet (value_of values instance) called localized priority
request_for values (op.DestroyActionSet set) = ask.DestroyActionSet (value_of values set)
request_for values (op.CreateAction set called kind subactions localized) = ask.CreateAction (value_of values set) called kind (map (λ u. value_of values u.atom) subactions) localized
request_for values (op.DestroyAction action) = ask.DestroyAction (value_of values action)
request_for values (op.SuggestBindings instance profile bindings) = ask.SuggestBindings (value_of values instance) (value_of values profile) (map (binding_for values) bindings)
request_for values (op.AttachSets session sets) = ask.AttachSets (value_of values session) (map (λ u. value_of values u.handle) sets)
request_for values (op.SyncActions session active) = ask.SyncActions (value_of values session) (map (active_set_for values) active)
request_for values (op.GetBoolean session action sub) = ask.GetBoolean (value_of values session) (value_of values action) (value_of values sub)
request_for values (op.GetFloat session action sub) = ask.GetFloat (value_of values session) (value_of values action) (value_of values sub)
request_for values (op.GetVector session action sub) = ask.GetVector (value_of values session) (value_of values action) (value_of values sub)
request_for values (op.GetPoseActive session action sub) = ask.GetPoseActive (value_of values session) (value_of values action) (value_of values sub)
request_for values (op.CreateSwapchain session format width height fixed) = ask.CreateSwapchain (value_of values session) format width height fixed
request_for values (op.DestroySwapchain chain) = ask.DestroySwapchain (value_of values chain)
request_for values (op.AcquireImage chain) = ask.AcquireImage (value_of values chain)
request_for values (op.ReleaseImage chain) = ask.ReleaseImage (value_of values chain)
request_for values (op.WaitImage chain timeout) = ask.WaitImage (value_of values chain) timeout (pos 0)
request_for values (op.Paint chain stamp) = ask.Paint (value_of values chain) stamp
request_for values (op.WaitFrame session) = ask.WaitFrame (value_of values session)
request_for values (op.EndFrame session time blend layers) = ask.EndFrame (value_of values session) (time_of values time) blend (map (layer_for values) layers)
request_for values (op.Mark number value) = ask.Mark number (value_of values value)
request_for values (op.Await number) = ask.AwaitMark number

-- rows: end

-- a request without the start of a wait for an image
abbrev pub unstarted : Call → Call
unstarted (ask.WaitImage chain timeout start) = ask.WaitImage chain timeout (pos 0)
unstarted r = r

-- From a place of the script on, call i is what op i asks, with its names replaced by what the calls before it gave, and
-- `leave` comes last. The calls end before that only where not all have to be there.
abbrev pub FollowsFrom : Bool → ℕ → List ℕ → List Op → List Exchange → Type 0
FollowsFrom all place values ops [] = all ≡ false
FollowsFrom all place values [] (t ∷ []) = t.call ≡ ask.Leave
FollowsFrom all place values [] (t ∷ u ∷ ts) = ⊥
FollowsFrom all place values (o ∷ os) (t ∷ ts) = (unstarted t.call ≡ request_for values o) × FollowsFrom all (place + 1) (with_name_value values place o t.outcome.reply) os ts

abbrev pub FollowsBy : Bool → List Op → List Exchange → Type 0
FollowsBy all script calls = FollowsFrom all 1 (no_values (length script)) script calls

-- these are the calls of a script, all of them and then `leave`
abbrev pub Follows : List Op → List Exchange → Type 0
Follows script calls = FollowsBy true script calls

-- they may not be all, since the run can't go on
abbrev pub FollowsSoFar : List Op → List Exchange → Type 0
FollowsSoFar script calls = FollowsBy false script calls
