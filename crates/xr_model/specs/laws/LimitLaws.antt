-- How many handles may be live, and that creations are refused once as many are.
use Rattle.std.specs.Prelude.{◌≡◌, ◌+◌, ◌==◌, nat_le, ℕ, Bool, false, List, [], ◌∷◌, Some, if◌then◌else◌}
use Rattle.xr_types.specs.declared.handles.Kind.{Kind}
use Rattle.xr_types.specs.declared.handles.Kind.TheVariants.{Instance, Session, ActionSet, Action, Space, Swapchain}
use Rattle.xr_types.specs.declared.handles.Slot.{Slot}
use Rattle.xr_types.specs.declared.handles.TheConstants.{INSTANCES, SESSIONS, ACTION_SETS, ACTIONS, SPACES, SWAPCHAINS}
use Rattle.xr_model.specs.machine.Calls.{Entry}
use Rattle.xr_model.specs.machine.Handles.{Handles, row_of}
use Rattle.xr_model.specs.machine.History.{after}
use Rattle.xr_model.specs.machine.Machine.{reads_of, rule}
use Rattle.xr_model.specs.machine.Refusals.{Refusal}
use Rattle.xr_model.specs.machine.State.{Settings, State, opening}

-- how many handles of a kind may be live
abbrev pub most_of : Kind → ℕ
most_of Instance = INSTANCES
most_of Session = SESSIONS
most_of ActionSet = ACTION_SETS
most_of Action = ACTIONS
most_of Space = SPACES
most_of Swapchain = SWAPCHAINS

-- how many handles stand in a row
abbrev pub count_live : List Slot → ℕ
count_live [] = 0
count_live (s ∷ ss) = if s.handle == 0 then count_live ss else count_live ss + 1

abbrev pub live_of : Handles → Kind → ℕ
live_of h kind = count_live (row_of h kind)

-- whether the last of these conditions holds
abbrev pub last_holds : List Refusal → Bool
last_holds [] = false
last_holds (r ∷ []) = r.holds
last_holds (r ∷ q ∷ rs) = last_holds (q ∷ rs)

-- what a history leaves
abbrev pub left_by : Settings → List Entry → State
left_by settings es = after (opening settings) es

-- After every history the last condition that refuses a creation is that as many handles of its kind are live as may be.
abbrev pub LimitsAreOfTheLive : Type 0
LimitsAreOfTheLive =
    (settings : Settings) (es : List Entry) (e : Entry) (kind : Kind)
    → (rule (left_by settings es).core (reads_of (left_by settings es) e.call) e).creates ≡ Some kind
    → last_holds (rule (left_by settings es).core (reads_of (left_by settings es) e.call) e).behind
    ≡ nat_le (most_of kind) (live_of (left_by settings es).core.handles kind)
