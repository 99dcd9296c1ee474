-- What the end of a runtime asks of its passes, and what is left of it.
use Rattle.std.specs.Prelude.{◌≡◌, ◌+◌, ◌≤◌, ℕ, true, List, [], length, slice_get, Some}
use mathlib.Core.List.{IsPrefix}
use Rattle.xr_model.specs.machine.History.{after, IsLegal}
use Rattle.xr_model.specs.machine.Calls.{Entry}
use Rattle.xr_model.specs.machine.State.{with_apps, opening}
use Rattle.xr_model.specs.laws.Laws.{count_locked}
use Rattle.xr_model.specs.laws.Moments.{opening_moment, calls_by}
use Rattle.xr_model.specs.laws.MomentLaws.{are_by_callers}
use Rattle.xr_rule.specs.View.{Know, number_in, calls_in}
use Rattle.xr_runtime.specs.declared.calling.Runtime.{Runtime}
use Rattle.xr_runtime.specs.declared.close.Closed.{Closed}
use Rattle.xr_runtime.specs.declared.passes.AppPass.{AppPass}
use Rattle.xr_runtime.specs.declared.passes.Passes.{Passes}
use Rattle.xr_runtime.specs.Passes.{table_of, apps_of, Rests}

-- These are all passes of a runtime: one of each application, the compositor's and the device's.
pub record AreAll (r : Runtime) (p : Passes) : Type 0 where
  pub count : length p.apps.items ≡ apps_of r
  pub apps : (i : ℕ) (a : AppPass) → slice_get p.apps.items i ≡ Some a → Rests (table_of r) a.seat
  pub compositor : Rests (table_of r) p.compositor.seat
  pub device : Rests (table_of r) p.device.seat

-- The history begins with what a pass has seen, and has just the pass's own calls of its actor, in their order.
pub record Holds (apps : ℕ) (history : List Entry) (k : Know) : Type 0 where
  pub begins : IsPrefix k.seen history
  pub calls : calls_by (number_in k.own) (opening_moment apps) history ≡ calls_in k.own

-- the history that a closed runtime keeps
abbrev pub history_of : Closed → List Entry
history_of c = c.seat.me.0.know.seen

-- The history is legal, each entry is by one who may ask for it, and it holds each pass's calls, and no others; the core keeps what
-- the machine keeps behind it; and its counted calls are so many.
pub record IsClosed (r : Runtime) (p : Passes) (c : Closed) : Type 0 where
  pub legal : IsLegal (with_apps (apps_of r)) (history_of c)
  pub by_callers : are_by_callers (history_of c) ≡ true
  pub apps : (i : ℕ) (a : AppPass) → slice_get p.apps.items i ≡ Some a → Holds (apps_of r) (history_of c) a.seat.me.0.know
  pub compositor : Holds (apps_of r) (history_of c) p.compositor.seat.me.0.know
  pub device : Holds (apps_of r) (history_of c) p.device.seat.me.0.know
  pub others : (n : ℕ) → apps_of r + 2 ≤ n → calls_by n (opening_moment (apps_of r)) (history_of c) ≡ []
  pub leads : c.core.kept ≡ (after (opening (with_apps (apps_of r))) (history_of c)).core
  pub places_are : c.places ≡ count_locked (history_of c)
