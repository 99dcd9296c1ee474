-- A swapchain that a call has changed or refused to change is so in the core.
use Rattle.std.proofs.Common.{◌≡◌, ℕ, List, Option, Some, None, ap, ◌∙◌}
use Rattle.xr_model.specs.machine.Chains.{Chain, with_chain_at}
use Rattle.xr_model.specs.machine.Refusals.{Refusal, unless}
use Rattle.xr_model.specs.machine.Rules.Swapchains.{with_changed_chain}
use Rattle.xr_model.specs.machine.State.{CoreState}

pub chain_changed : (s v : CoreState) (refused : CoreState → Option Refusal) (handle : ℕ) (f : Chain → Chain) (new : List Chain) → v ≡ s → new ≡ unless (refused v) v.chains (with_chain_at handle f v.chains)
    → record v { chains = new } ≡ unless (refused s) s (with_changed_chain s handle f)
chain_changed s v refused handle f new is told = by (refused v) told ∙ ap (λ (t : CoreState). unless (refused t) t (with_changed_chain t handle f)) is
  where
    by : (o : Option Refusal) → new ≡ unless o v.chains (with_chain_at handle f v.chains) → record v { chains = new } ≡ unless o v (with_changed_chain v handle f)
    by None told = ap (λ (cs : List Chain). let c : CoreState = record v { chains = cs } in c) told
    by (Some r) told = ap (λ (cs : List Chain). let c : CoreState = record v { chains = cs } in c) told
