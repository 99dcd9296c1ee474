-- The machine of one thread: what an entry does, when a call is ready, and which entries are allowed.
use Rattle.std.specs.Prelude.{◌≡◌, ◌≢◌, ◌≤◌, ◌-◌, ◌==◌, ◌++◌, ℕ, List, drop, length, ◌&&◌, ◌||◌, Bool, true, false, not, is_some, slice_get, Some, None}
use Rattle.xr_types.specs.declared.calls.Actor.{Actor}
use Rattle.xr_types.specs.declared.calls.Actor.TheVariants.{App, Compositor, Device}
use Rattle.xr_types.specs.declared.frames.Image.{Image}
use Rattle.xr_types.specs.declared.input.ActionType.TheVariants as type
use Rattle.xr_types.specs.Code.{is_success}
use Rattle.xr_model.specs.machine.CellCalls.{CellCall, claim_calls, pin_calls, free_calls, stamp_calls, peek_calls, return_calls}
use Rattle.xr_model.specs.machine.Chains.{oldest_image}
use Rattle.xr_model.specs.machine.Calls.{Entry, Outcome}
use Rattle.xr_types.specs.declared.calls.Call.{Call}
use Rattle.xr_types.specs.declared.calls.Call.TheVariants as ask
use Rattle.xr_model.specs.machine.Handles.{Handles, was_given}
use Rattle.xr_model.specs.machine.Images.{slot_of, count_of, first_images, stamps_at, with_stamps}
use Rattle.xr_model.specs.machine.Refusals.{first_of}
use Rattle.xr_model.specs.machine.State.{CoreState, Cells, State, CellReads}
use Rattle.xr_model.specs.machine.Rule.{Rule, Effect, Did, refusals, carried_out, decided_call}
use Rattle.xr_model.specs.machine.Rules.Instance.{create_instance_rule, destroy_instance_rule, get_system_rule, poll_event_rule}
use Rattle.xr_model.specs.machine.Rules.Session.{create_session_rule, destroy_session_rule, begin_session_rule, end_session_rule, request_exit_session_rule}
use Rattle.xr_model.specs.machine.Rules.Spaces.{create_reference_space_rule, destroy_space_rule, locate_space_rule}
use Rattle.xr_model.specs.machine.Rules.Sets.{create_action_set_rule, destroy_action_set_rule, create_action_rule, destroy_action_rule, attach_sets_rule}
use Rattle.xr_model.specs.machine.Rules.Bindings.{suggest_bindings_rule}
use Rattle.xr_model.specs.machine.Rules.Sync.{sync_actions_rule, getter_rule, create_action_space_rule}
use Rattle.xr_model.specs.machine.Rules.Device.{device_rule}
use Rattle.xr_model.specs.machine.Rules.Paths.{string_to_path_rule, path_to_string_rule}
use Rattle.xr_model.specs.machine.Rules.Own.{leave_rule, mark_rule, await_mark_rule}
use Rattle.xr_model.specs.machine.Rules.Frames.{wait_frame_rule, begin_frame_rule, end_frame_rule, next_frame_rule}
use Rattle.xr_model.specs.machine.Rules.Swapchains.{create_swapchain_rule, destroy_swapchain_rule, acquire_image_rule, wait_image_rule, paint_rule, release_image_rule, image_done_rule}

-- the rule of a call
abbrev pub rule_of : CoreState → CellReads → Actor → ℕ → Call → Rule
rule_of s reads who given (ask.CreateInstance major minor) = create_instance_rule s given major minor
rule_of s reads who given (ask.DestroyInstance instance) = destroy_instance_rule s instance
rule_of s reads who given (ask.GetSystem instance form) = get_system_rule s instance form
rule_of s reads who given (ask.StringToPath instance text) = string_to_path_rule s instance text
rule_of s reads who given (ask.PathToString instance path capacity) = path_to_string_rule s instance path capacity
rule_of s reads who given (ask.PollEvent instance) = poll_event_rule s instance
rule_of s reads who given (ask.CreateSession instance system) = create_session_rule s given instance system
rule_of s reads who given (ask.DestroySession session) = destroy_session_rule s session
rule_of s reads who given (ask.BeginSession session view) = begin_session_rule s session view
rule_of s reads who given (ask.EndSession session) = end_session_rule s session
rule_of s reads who given (ask.RequestExitSession session) = request_exit_session_rule s session
rule_of s reads who given (ask.CreateReferenceSpace session kind offset) = create_reference_space_rule s given session kind offset
rule_of s reads who given (ask.DestroySpace space) = destroy_space_rule s space
rule_of s reads who given (ask.LocateSpace space base time) = locate_space_rule s space base time
rule_of s reads who given (ask.CreateActionSet instance name localized priority) = create_action_set_rule s given instance name localized priority
rule_of s reads who given (ask.DestroyActionSet set) = destroy_action_set_rule s set
rule_of s reads who given (ask.CreateAction set name kind subs localized) = create_action_rule s given set name kind subs localized
rule_of s reads who given (ask.DestroyAction action) = destroy_action_rule s action
rule_of s reads who given (ask.SuggestBindings instance profile list) = suggest_bindings_rule s instance profile list
rule_of s reads who given (ask.AttachSets session handles) = attach_sets_rule s session handles
rule_of s reads who given (ask.SyncActions session active) = sync_actions_rule s session active
rule_of s reads who given (ask.GetBoolean session action sub) = getter_rule s type.Boolean session action sub
rule_of s reads who given (ask.GetFloat session action sub) = getter_rule s type.Float session action sub
rule_of s reads who given (ask.GetVector session action sub) = getter_rule s type.Vector session action sub
rule_of s reads who given (ask.GetPoseActive session action sub) = getter_rule s type.Pose session action sub
rule_of s reads who given (ask.CreateActionSpace session action sub offset) = create_action_space_rule s given session action sub offset
rule_of s reads who given (ask.CreateSwapchain session format width height fixed) = create_swapchain_rule s given session format width height fixed
rule_of s reads who given (ask.DestroySwapchain chain) = destroy_swapchain_rule s chain
rule_of s reads who given (ask.AcquireImage chain) = acquire_image_rule s chain
rule_of s reads who given (ask.WaitImage chain timeout start) = wait_image_rule s reads chain timeout start
rule_of s reads who given (ask.Paint chain stamp) = paint_rule s chain stamp
rule_of s reads who given (ask.ReleaseImage chain) = release_image_rule s chain
rule_of s reads who given (ask.WaitFrame session) = wait_frame_rule s session
rule_of s reads who given (ask.BeginFrame session) = begin_frame_rule s session
rule_of s reads who given (ask.EndFrame session time blend layers) = end_frame_rule s session time blend layers
rule_of s reads who given (ask.Mark number value) = mark_rule s number value
rule_of s reads who given (ask.AwaitMark number) = await_mark_rule s number
rule_of s reads who given ask.Leave = leave_rule s who
rule_of s reads who given (ask.Device what) = device_rule s what
rule_of s reads who given ask.NextFrame = next_frame_rule s reads
rule_of s reads who given ask.ImageDone = image_done_rule s reads

abbrev pub rule : CoreState → CellReads → Entry → Rule
rule s reads e = rule_of s reads e.actor e.given e.call

-- what an entry does, told so much of the cells
abbrev pub effect : CoreState → CellReads → Entry → Effect
effect s reads e = carried_out s e.short (rule s reads e)

-- what a core keeps after an entry, and the outcome
abbrev pub core_step : CoreState → CellReads → Entry → CoreState × Outcome
core_step s reads e = decided_call s e.call (effect s reads e)

-- ---- cells

-- the images that are held after a call that did this
abbrev pub held_after : List Image → Did → List Image
held_after held did = did.taken ++ drop (length did.returned) held

-- the cells after it
abbrev pub cells_after : Cells → Did → Cells
cells_after cells did = record { stamps = with_stamps did.stamped cells.stamps; held = held_after cells.held did }

-- the image that a call waits for
abbrev pub waited_image : CoreState → Call → Image
waited_image s (ask.WaitImage chain timeout start) = oldest_image s.chains chain
waited_image s _ = record { place = 0; index = 0 }

-- what the cells of a state tell a call
abbrev pub reads_of : State → Call → CellReads
reads_of s what = record {
  unused = count_of s.core.frames.pending s.cells.held (slot_of (waited_image s.core what)) == 0;
  stamps = stamps_at s.cells.stamps (first_images s.core.frames.pending);
  held = s.cells.held;
}

-- A claim is made also where a count stands against it, so it is what the call would do with the image unused.
abbrev pub as_unused : CellReads → CellReads
as_unused reads = record reads { unused = true }

-- the calls on cells that an entry makes, in order
abbrev pub cell_calls : CoreState → CellReads → Entry → List CellCall
cell_calls s reads e =
    let did = (effect s reads e).did in
    claim_calls reads.unused (effect s (as_unused reads) e).did.claimed
    ++ (pin_calls did.used ++ (free_calls did.freed ++ (stamp_calls did.stamped ++ (peek_calls did.taken reads.stamps ++ return_calls did.returned))))

-- ---- steps

-- the state after an entry, and its outcome
abbrev pub step : State → Entry → State × Outcome
step s e = (record { core = (core_step s.core (reads_of s e.call) e).0; cells = cells_after s.cells (effect s.core (reads_of s e.call) e).did }, (core_step s.core (reads_of s e.call) e).1)

-- ---- readiness

-- a call is ready where it doesn't have to wait, or would be refused
abbrev pub core_ready : CoreState → CellReads → Entry → Bool
core_ready s reads e = not (rule s reads e).waits || is_some (first_of (refusals (rule s reads e)))

abbrev pub ready : State → Entry → Bool
ready s e = core_ready s.core (reads_of s e.call) e

-- ---- allowed entries

-- a handle that is nonzero and was never given before, or none
abbrev pub IsGiven : Bool → Handles → ℕ → Type 0
IsGiven true handles given = (given ≢ 0) × (was_given handles given ≡ false)
IsGiven false handles given = given ≡ 0

-- an application that there is and that hasn't left; the compositor and the device are always there
abbrev pub IsPresent : CoreState → Actor → Type 0
IsPresent s (App k) = (1 ≤ k) × (k ≤ s.apps) × (slice_get s.left (k - 1) ≡ Some false)
IsPresent s Compositor = Unit {0}
IsPresent s Device = Unit {0}

-- An entry is allowed where a new handle is given exactly by a successful creation, memory is short only where the call takes
-- some and nothing else refuses it, and its application hasn't left.
pub record CoreAllows (s : CoreState) (reads : CellReads) (e : Entry) : Type 0 where
  pub handle : IsGiven (is_some (rule s reads e).creates && is_success (core_step s reads e).1.reply.code) s.handles e.given
  pub memory : e.short ≡ true → ((rule s reads e).takes_memory ≡ true) × (first_of (refusals (rule s reads e)) ≡ None)
  pub present : IsPresent s e.actor

abbrev pub IsAllowed : State → Entry → Type 0
IsAllowed s e = CoreAllows s.core (reads_of s e.call) e
