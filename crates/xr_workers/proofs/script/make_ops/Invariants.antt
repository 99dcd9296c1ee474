use Rattle.std.proofs.Common.{◌≡◌, ◌≤◌, ◌-◌, length, List}
use Rattle.xr_types.specs.declared.calls.Actor.TheVariants.{App}
use Rattle.xr_model.specs.machine.Calls.{Exchange}
use Rattle.xr_model.specs.runs.Lists.{made_from}
use Rattle.xr_runtime.specs.Passes.{table_of}
use Rattle.xr_workers.specs.Workers.{IsGated}
use Rattle.xr_workers.specs.inside.Script.{MadeOps}
use Rattle.xr_workers.proofs.script.make_ops.Given as goal

-- so many ops were made and listed
abbrev pub invariant-loop-count : goal.invariant-loop-count
invariant-loop-count g l = record {
  within : l.count ≤ length l.ops;
  calls : List Exchange;
  made : MadeOps (table_of l.context.runtime.now) l.ops l.count l.script.names l.initial.pass l.pass calls;
  lists : l.list.items ≡ made_from 1 calls;
  gated : IsGated (g.G.Gate.came l.context.gate.now) (g.G.Gate.went l.context.gate.now) (App l.app) l.initial.pass.calls l.pass.calls;
}

abbrev pub decreases-loop-count : goal.decreases-loop-count
decreases-loop-count g l = length l.ops - l.count
