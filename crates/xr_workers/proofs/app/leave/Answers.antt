use Rattle.std.proofs.Common.{[], refl}
use Rattle.xr_types.specs.declared.calls.Actor.TheVariants.{App}
use Rattle.xr_types.specs.declared.calls.Call.TheVariants as ask
use Rattle.xr_runtime.specs.Passes.{table_of}
use Rattle.xr_workers.proofs.CallsMade.{plain_made}
use Rattle.xr_workers.proofs.ScriptsMade.{seat_gated}
use Rattle.xr_workers.proofs.app.leave.Goals as goal

pub returns-clause-made : goal.returns-clause-made
returns-clause-made g c = plain_made (table_of c.args.context.now.runtime.now) c.args.pass.now _ ask.Leave _ [] c.requires.may refl c.leave-reply.ensures.called

pub after-requires : goal.after-requires
after-requires g c = (_, c.before-2.ensures)

pub returns-clause-gated : goal.returns-clause-gated
returns-clause-gated g c =
    let made = plain_made (table_of c.args.context.now.runtime.now) c.args.pass.now c.leave-reply.new.pass ask.Leave _ [] c.requires.may refl c.leave-reply.ensures.called in
    seat_gated (g.G.Gate.came c.args.context.now.gate.now) (g.G.Gate.went c.args.context.now.gate.now) (App c.args.app) c.args.pass.now.calls c.calls-number.result c.seat.result.now c.seat-2.result.now c.args.pass.now.seat c.leave-reply.new.pass.seat made.exchange c.calls-number.ensures c.requires.may.is.counts made.made c.seat.ensures c.seat-2.ensures c.before-2.ensures c.after.ensures
