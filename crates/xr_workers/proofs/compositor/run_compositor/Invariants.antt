use Rattle.xr_runtime.specs.Passes.{table_of}
use Rattle.xr_workers.specs.Workers.{TurnsGated}
use Rattle.xr_workers.specs.inside.Composing.{Composes}
use Rattle.xr_workers.proofs.compositor.run_compositor.Given as goal

-- so many turns were had
abbrev pub invariant-loop : goal.invariant-loop
invariant-loop g l = record {
  went : Composes (table_of l.context.runtime.now) l.turns l.initial.pass l.pass l.kept;
  gated : TurnsGated (g.G.Gate.came l.context.gate.now) (g.G.Gate.went l.context.gate.now) went.calls;
}
