use Rattle.std.proofs.Common.{rules, ◌≡◌, ◌≤◌, ◌∙◌, w64, to_z, of_z, ap, Option, Some, None, IfSome, sym, subst, arith, length}
use Rattle.xr_types.specs.CallKinds.{with_start, lent_size, listed_as}
use Rattle.xr_types.specs.declared.calls.Actor.TheVariants.{App}
use Rattle.xr_types.specs.declared.calls.Call.{Call}
use Rattle.xr_types.specs.declared.made.Made.{Made}
use Rattle.xr_model.specs.machine.CoreCalls.{MayAsk}
use Rattle.xr_model.specs.runs.Lists.{made_at}
use Rattle.xr_model.specs.runs.Scripts.{request_for}
use Rattle.xr_runtime.specs.Passes.{table_of}
use Rattle.xr_workers.specs.inside.Made.{AskedBy}
use Rattle.xr_workers.proofs.ScriptsMade.{op_made, op_listed, begun_twice, begun_call}
use Rattle.xr_workers.proofs.script.Script.make_op.Goals as goal
use Rattle.xr_runs.proofs.OpCalls.{op_asks, op_lent}

pub ask-answered-requires-clause-asks : goal.ask-answered-requires-clause-asks
ask-answered-requires-clause-asks g c =
    let read : to_z w64 (of_z w64 c.clock.result) ≡ c.clock.result = search rules in
    let begun : c.begin_wait.new.self ≡ with_start c.args.pass.now.clock (request_for c.args.self.now.names c.args.op.now) = begun_call c.args.pass.now.clock (to_z w64 (of_z w64 c.clock.result)) c.args.self.now.names c.args.op.now c.call_of-call.result c.begin_wait.new.self c.begin_wait.ensures (read ∙ c.clock.ensures) c.call_of-call.ensures in
    subst (λ (r : Call). MayAsk (App c.args.pass.now.app) r (lent_size r)) (sym begun) (op_asks c.args.pass.now.clock c.args.self.now.names c.args.pass.now.app c.args.op.now c.requires.may.is.begun c.requires.ranged)

pub ask-answered-requires-clause-size : goal.ask-answered-requires-clause-size
ask-answered-requires-clause-size g c =
    let read : to_z w64 (of_z w64 c.clock.result) ≡ c.clock.result = search rules in
    let begun : c.begin_wait.new.self ≡ with_start c.args.pass.now.clock (request_for c.args.self.now.names c.args.op.now) = begun_call c.args.pass.now.clock (to_z w64 (of_z w64 c.clock.result)) c.args.self.now.names c.args.op.now c.call_of-call.result c.begin_wait.new.self c.begin_wait.ensures (read ∙ c.clock.ensures) c.call_of-call.ensures in
    let small = subst (λ (r : Call). lent_size r ≤ 1024) (sym begun) (op_lent c.args.pass.now.clock c.args.self.now.names c.args.op.now c.requires.ranged) in
    let room : length c.args.self.now.buffer ≡ 1024 = search rules in
    omega (arith, small, room)

pub returns-in_err-text-clause-made : goal.returns-in_err-text-clause-made
returns-in_err-text-clause-made g c =
    let none : c.from_residual.result ≡ None = search rules in
    let read : to_z w64 (of_z w64 c.clock.result) ≡ c.clock.result = search rules in
    let begun : c.begin_wait.new.self ≡ with_start c.args.pass.now.clock (request_for c.args.self.now.names c.args.op.now) = begun_call c.args.pass.now.clock (to_z w64 (of_z w64 c.clock.result)) c.args.self.now.names c.args.op.now c.call_of-call.result c.begin_wait.new.self c.begin_wait.ensures (read ∙ c.clock.ensures) c.call_of-call.ensures in
    let same : with_start c.args.pass.now.clock c.begin_wait.new.self ≡ with_start c.args.pass.now.clock (request_for c.args.self.now.names c.args.op.now) = ap (with_start c.args.pass.now.clock) begun ∙ begun_twice c.args.pass.now.clock (request_for c.args.self.now.names c.args.op.now) in
    let a : AskedBy (table_of c.args.context.now.runtime.now) c.args.pass.now (with_start c.args.pass.now.clock (request_for c.args.self.now.names c.args.op.now)) c.ask-answered.result c.ask-answered.new.pass =
    subst (λ (r : Call). AskedBy (table_of c.args.context.now.runtime.now) c.args.pass.now r c.ask-answered.result c.ask-answered.new.pass) same c.ask-answered.ensures.made in
    op_made (table_of c.args.context.now.runtime.now) c.args.place c.args.op.now c.args.pass.now c.ask-answered.new.pass c.args.self.now.names _ c.ask-answered.result a c.learn.ensures c.from_residual.result (subst (λ (o : Option Made). IfSome o (λ (m : Made). m ≡ made_at c.args.place a.exchange)) (sym none) tt)

pub returns-clause-made : goal.returns-clause-made
returns-clause-made g c =
    let read : to_z w64 (of_z w64 c.clock.result) ≡ c.clock.result = search rules in
    let begun : c.begin_wait.new.self ≡ with_start c.args.pass.now.clock (request_for c.args.self.now.names c.args.op.now) = begun_call c.args.pass.now.clock (to_z w64 (of_z w64 c.clock.result)) c.args.self.now.names c.args.op.now c.call_of-call.result c.begin_wait.new.self c.begin_wait.ensures (read ∙ c.clock.ensures) c.call_of-call.ensures in
    let same : with_start c.args.pass.now.clock c.begin_wait.new.self ≡ with_start c.args.pass.now.clock (request_for c.args.self.now.names c.args.op.now) = ap (with_start c.args.pass.now.clock) begun ∙ begun_twice c.args.pass.now.clock (request_for c.args.self.now.names c.args.op.now) in
    let a : AskedBy (table_of c.args.context.now.runtime.now) c.args.pass.now (with_start c.args.pass.now.clock (request_for c.args.self.now.names c.args.op.now)) c.ask-answered.result c.ask-answered.new.pass =
    subst (λ (r : Call). AskedBy (table_of c.args.context.now.runtime.now) c.args.pass.now r c.ask-answered.result c.ask-answered.new.pass) same c.ask-answered.ensures.made in
    let some : c.ask-answered.result.text ≡ Some c.in_ok-text.text = search rules in
    op_listed (table_of c.args.context.now.runtime.now) c.args.place c.args.op.now c.args.pass.now c.ask-answered.new.pass c.args.self.now.names _ c.ask-answered.result a c.learn.ensures c.in_ok-text.text c.listed.result some (c.listed.ensures ∙ ap (λ (r : Call). listed_as r c.args.place c.ask-answered.result.reply c.in_ok-text.text) begun)
