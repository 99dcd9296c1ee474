-- One call of an application's worker.
use Rattle.std.specs.Prelude.{◌≡◌, ℕ, List, [], ◌∷◌, take, IfSome}
use Rattle.atomic_table.specs.Seated.{TableId}
use Rattle.xr_types.specs.declared.calls.Reply.{Reply}
use Rattle.xr_model.specs.machine.Calls.{Exchange}
use Rattle.xr_types.specs.declared.calls.Call.{Call}
use Rattle.xr_runtime.specs.declared.passes.AppPass.{AppPass}
use Rattle.xr_runtime.specs.Passes.{IsApp}
use Rattle.xr_types.specs.CallKinds.{lent_size, written_size, is_leave}
use Rattle.xr_workers.specs.declared.script.Asked.{Asked}
use Rattle.xr_workers.specs.Workers.{Adds}

-- The call is one more of the pass's own, what it wrote stands at the front of what it was lent, and the pass keeps its promise.
pub record CallMade (table : TableId) (old : AppPass) (what : Call) (text : List ℕ) (reply : Reply) (new : AppPass) : Type 0 where
  pub is : IsApp table new
  pub same : new.app ≡ old.app
  pub left_is : new.left ≡ is_leave what
  pub exchange : Exchange
  pub asks : exchange.call ≡ what
  pub replies : exchange.outcome.reply ≡ reply
  pub writes : exchange.outcome.text ≡ take (written_size reply.gives (lent_size what)) text
  pub made : Adds old.seat.me.0.know new.seat.me.0.know (exchange ∷ [])

-- The same of an op's call, of which the text was copied unless memory was short.
pub record AskedBy (table : TableId) (old : AppPass) (what : Call) (asked : Asked) (new : AppPass) : Type 0 where
  pub is : IsApp table new
  pub same : new.app ≡ old.app
  pub left_is : new.left ≡ is_leave what
  pub exchange : Exchange
  pub asks : exchange.call ≡ what
  pub replies : exchange.outcome.reply ≡ asked.reply
  pub writes : IfSome asked.text (λ text. text ≡ exchange.outcome.text)
  pub made : Adds old.seat.me.0.know new.seat.me.0.know (exchange ∷ [])
