-- An application that goes on making calls.
use Rattle.std.specs.Prelude.{◌≡◌, ◌≤◌, ℕ, false}
use Rattle.atomic_table.specs.Seated.{TableId}
use Rattle.xr_runtime.specs.declared.passes.AppPass.{AppPass}
use Rattle.xr_runtime.specs.Passes.{IsApp}

-- It is this one, hasn't left, and has made so many calls at most.
pub record GoesOn (table : TableId) (app most : ℕ) (p : AppPass) : Type 0 where
  pub is : IsApp table p
  pub app_is : p.app ≡ app
  pub stays : p.left ≡ false
  pub few : p.calls ≤ most
