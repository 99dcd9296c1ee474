-- The workers of a run.
use Rattle.std.specs.Prelude.{◌≡◌, ◌<◌, ◌+◌, ℕ, Bool, true, false, List, [], map, length, slice_index_or, IfSome, IsTrue, is_some, unwrap_or}
use Rattle.std.specs.List.{list_all}
use Rattle.atomic_table.specs.Seated.{TableId}
use Rattle.xr_types.specs.declared.calls.Actor.{Actor}
use Rattle.xr_types.specs.declared.calls.Actor.TheVariants.{App}
use Rattle.xr_types.specs.declared.made.Made.{Made}
use Rattle.xr_types.specs.declared.scenario.Scenario.{Scenario}
use Rattle.xr_model.specs.machine.Calls.{Exchange}
use Rattle.xr_model.specs.runs.Lists.{made_from}
use Rattle.xr_model.specs.runs.Scripts.{Follows}
use Rattle.xr_rule.specs.View.{calls_in}
use Rattle.xr_runtime.specs.declared.passes.AppPass.{AppPass}
use Rattle.xr_runtime.specs.declared.passes.CompositorPass.{CompositorPass}
use Rattle.xr_runtime.specs.declared.passes.DevicePass.{DevicePass}
use Rattle.xr_runtime.specs.Passes.{IsApp, IsFirst, IsCompositor, IsDevice}
use Rattle.xr_workers.specs.Workers.{IsGated, FollowsFront}
use Rattle.xr_threads.specs.declared.app.AppWorker.{AppWorker}

abbrev pub pass_of : AppWorker → AppPass
pass_of w = w.pass

-- an application's calls so far
abbrev pub calls_made : AppPass → List Exchange
calls_made p = calls_in p.seat.me.0.know.own

-- An application's worker before its first call, at the place of its script.
pub record MayWork (table : TableId) (scenario : Scenario) (place : ℕ) (w : AppWorker) : Type 0 where
  pub within : place < length scenario.scripts
  pub first : IsFirst table (place + 1) w.pass

abbrev pub MayWorkAll : TableId → Scenario → List AppWorker → Type 0
MayWorkAll table scenario ws = (i : ℕ) (d : AppWorker) → i < length ws → MayWork table scenario i (slice_index_or ws i d)

-- All actors may begin: each has a pass that has made no call yet.
pub record MayRun (table : TableId) (scenario : Scenario) (ws : List AppWorker) (frames : CompositorPass) (events : DevicePass) : Type 0 where
  pub scripts : MayWorkAll table scenario ws
  pub compositor : IsCompositor table frames
  pub none_shown : (frames.ended ≡ false) × (frames.calls ≡ 0)
  pub none_held : frames.held.items ≡ []
  pub device : IsDevice table events
  pub none_told : events.calls ≡ 0

-- It has run: its pass is still its application's, which has left; its calls are those of a first part of its script, and then `leave`;
-- the gate lies round each; and where they are listed they are those of all of its script, and then `leave`.
pub record HasWorked (came went : Actor → ℕ → ℕ → Type 0) (table : TableId) (scenario : Scenario) (place : ℕ) (w : AppWorker) : Type 0 where
  pub is : IsApp table w.pass
  pub app_is : w.pass.app ≡ place + 1
  pub has_left : w.pass.left ≡ true
  pub front : FollowsFront (slice_index_or scenario.scripts place []) (calls_made w.pass)
  pub gated : IsGated came went (App (place + 1)) 0 (length (calls_made w.pass))
  pub lists : IfSome w.listed (λ list. Follows (slice_index_or scenario.scripts place []) (calls_made w.pass) × (list ≡ made_from 1 (calls_made w.pass)))

abbrev pub HaveWorked : (Actor → ℕ → ℕ → Type 0) → (Actor → ℕ → ℕ → Type 0) → TableId → Scenario → List AppWorker → Type 0
HaveWorked came went table scenario ws = (i : ℕ) (d : AppWorker) → i < length ws → HasWorked came went table scenario i (slice_index_or ws i d)

-- its list, none where memory was short
abbrev pub list_of : AppWorker → List Made
list_of w = unwrap_or w.listed []

abbrev pub is_listed : AppWorker → Bool
is_listed w = is_some w.listed

-- The workers' passes in their order, and their lists where each has one.
pub record Parted (ws : List AppWorker) (passes : List AppPass) (lists : List (List Made)) (all : Bool) : Type 0 where
  pub passes_are : passes ≡ map pass_of ws
  pub listed : IsTrue all → list_all is_listed ws ≡ true
  pub lists_are : IsTrue all → lists ≡ map list_of ws
