-- An application's worker on its way.
use Rattle.std.specs.Prelude.{◌≡◌, ◌+◌, ℕ, false, List, [], ◌∷◌, ◌≤◌, length, take, Option, IfSome}
use Rattle.atomic_table.specs.Seated.{TableId}
use Rattle.xr_types.specs.declared.made.Made.{Made}
use Rattle.xr_types.specs.declared.scenario.Op.{Op}
use Rattle.xr_model.specs.machine.Calls.{Exchange}
use Rattle.xr_model.specs.runs.Lists.{made_at, made_from}
use Rattle.xr_model.specs.runs.NameValues.{no_values, with_name_value}
use Rattle.xr_model.specs.runs.Scripts.{request_for, unstarted}
use Rattle.xr_runtime.specs.declared.passes.AppPass.{AppPass}
use Rattle.xr_runtime.specs.Passes.{IsApp}
use Rattle.xr_workers.specs.Workers.{Adds}

-- These are the calls of these ops, which lead from some values of names to others.
abbrev pub Leads : ℕ → List ℕ → List Op → List Exchange → List ℕ → Type 0
Leads place values [] [] last = values ≡ last
Leads place values [] (t ∷ ts) last = ⊥
Leads place values (o ∷ os) [] last = ⊥
Leads place values (o ∷ os) (t ∷ ts) last = (unstarted t.call ≡ request_for values o) × Leads (place + 1) (with_name_value values place o t.outcome.reply) os ts last

-- So many ops of the script were made by these calls, and the application is still there.
pub record MadeOps (table : TableId) (ops : List Op) (count : ℕ) (values : List ℕ) (old new : AppPass) (calls : List Exchange) : Type 0 where
  pub is : IsApp table new
  pub same : new.app ≡ old.app
  pub stays : new.left ≡ false
  pub adds : Adds old.seat.me.0.know new.seat.me.0.know calls
  pub leads : Leads 1 (no_values (length ops)) (take count ops) calls values

-- The call of an op was made, its name stands for what it gave, and it is listed unless memory was short.
pub record MadeOp (table : TableId) (place : ℕ) (o : Op) (old new : AppPass) (names learned : List ℕ) (listed : Option Made) : Type 0 where
  pub is : IsApp table new
  pub same : new.app ≡ old.app
  pub stays : new.left ≡ false
  pub call : Exchange
  pub adds : Adds old.seat.me.0.know new.seat.me.0.know (call ∷ [])
  pub asks : unstarted call.call ≡ request_for names o
  pub names_are : learned ≡ with_name_value names place o call.outcome.reply
  pub lists : IfSome listed (λ made. made ≡ made_at place call)

-- Some first ops of the script were made; all of them, and listed, unless memory was short.
pub record MadeSome (table : TableId) (ops : List Op) (old new : AppPass) (listed : Option (List Made)) : Type 0 where
  pub count : ℕ
  pub values : List ℕ
  pub calls : List Exchange
  pub made : MadeOps table ops count values old new calls
  pub within : count ≤ length ops
  pub all : IfSome listed (λ list. (count ≡ length ops) × (list ≡ made_from 1 calls))
