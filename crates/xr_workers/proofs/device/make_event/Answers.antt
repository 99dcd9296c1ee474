use Rattle.xr_types.specs.declared.calls.Actor.TheVariants.{Device as Devices}
use Rattle.xr_types.specs.declared.calls.Call.TheVariants as ask
use Rattle.xr_runtime.specs.Passes.{table_of}
use Rattle.xr_workers.proofs.EventsMade.{event_made}
use Rattle.xr_runs.specs.Sides.{exchange_of}
use Rattle.xr_workers.proofs.ScriptsMade.{seat_gated}
use Rattle.xr_workers.proofs.device.make_event.Goals as goal

pub returns-clause-made : goal.returns-clause-made
returns-clause-made g c = event_made (table_of c.args.context.now.runtime.now) c.args.pass.now _ c.args.event _ c.requires.is c.device-reply.ensures.called

pub after-requires : goal.after-requires
after-requires g c = (_, c.before-2.ensures)

pub returns-clause-gated : goal.returns-clause-gated
returns-clause-gated g c =
    let made = event_made (table_of c.args.context.now.runtime.now) c.args.pass.now c.device-reply.new.pass c.args.event _ c.requires.is c.device-reply.ensures.called in
    seat_gated (g.G.Gate.came c.args.context.now.gate.now) (g.G.Gate.went c.args.context.now.gate.now) Devices c.args.pass.now.calls c.calls-number.result c.seat.result.now c.seat-2.result.now c.args.pass.now.seat c.device-reply.new.pass.seat (exchange_of (ask.Device c.args.event) made.outcome) c.calls-number.ensures c.requires.is.counts made.adds c.seat.ensures c.seat-2.ensures c.before-2.ensures c.after.ensures
