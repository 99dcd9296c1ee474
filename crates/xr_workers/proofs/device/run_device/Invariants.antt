use Rattle.std.proofs.Common.{false}
use Rattle.xr_types.specs.declared.calls.Actor.TheVariants.{Device as Devices}
use Rattle.xr_runtime.specs.Passes.{table_of}
use Rattle.xr_workers.specs.Workers.{IsGated}
use Rattle.xr_workers.specs.inside.Telling.{MadeEvents}
use Rattle.xr_workers.proofs.device.run_device.Given as goal

-- all that was told so far was made and listed
abbrev pub invariant-loop : goal.invariant-loop
invariant-loop g l = record {
  told : MadeEvents (table_of l.context.runtime.now) (g.D.Device.prospect l.initial.device) (g.D.Device.prospect l.device) l.initial.pass l.pass l.events.items l.calls.items false;
  gated : IsGated (g.G.Gate.came l.context.gate.now) (g.G.Gate.went l.context.gate.now) Devices l.initial.pass.calls l.pass.calls;
}
