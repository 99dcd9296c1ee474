use Rattle.std.proofs.Common.{rules, ◌≡◌, ◌+◌, List, [], ◌∷◌, ◌++◌, length, refl, sym, subst}
use Rattle.std.specs.Prelude.{Ok}
use Rattle.xr_types.specs.declared.made.Made.{Made}
use Rattle.xr_types.specs.CallKinds.{listed_as}
use Rattle.xr_types.specs.declared.calls.Call.TheVariants as ask
use Rattle.xr_runtime.specs.Passes.{table_of}
use Rattle.xr_workers.specs.Workers.{RanScript}
use Rattle.xr_workers.proofs.ScriptsMade.{may_go_on, ran_short, ran_whole, some_mapped}
use Rattle.xr_workers.proofs.app.run_script.Goals as goal

pub leave-reply-requires-clause-may : goal.leave-reply-requires-clause-may
leave-reply-requires-clause-may g c =
    let s = c.make_ops-made.ensures.made in
    may_go_on (table_of c.args.context.now.runtime.now) c.args.script.ops.now s.count s.values c.args.pass.now c.make_ops-made.new.pass s.calls s.within s.made c.requires.is c.requires.first.1 c.requires.few

pub returns-in_default-clause-ran : goal.returns-in_default-clause-ran
returns-in_default-clause-ran g c = ran_short (table_of c.args.context.now.runtime.now) c.args.script.ops.now c.args.pass.now c.make_ops-made.new.pass c.leave-reply.new.pass _ c.leave-reply.result c.make_ops-made.ensures.made c.leave-reply.ensures.made _

pub returns-in_default-push-clause-ran : goal.returns-in_default-push-clause-ran
returns-in_default-push-clause-ran g c = ran_short (table_of c.args.context.now.runtime.now) c.args.script.ops.now c.args.pass.now c.make_ops-made.new.pass c.leave-reply.new.pass _ c.leave-reply.result c.make_ops-made.ensures.made c.leave-reply.ensures.made _

pub returns-clause-ran : goal.returns-clause-ran
returns-clause-ran g c =
    let last : Made = listed_as ask.Leave (length c.args.script.ops.now + 1) c.leave-reply.result [] in
    let whole = ran_whole (table_of c.args.context.now.runtime.now) c.args.script.ops.now c.args.pass.now c.make_ops-made.new.pass c.leave-reply.new.pass _ c.leave-reply.result c.make_ops-made.ensures.made c.leave-reply.ensures.made c.in-Some.list.items last (some_mapped _ _ _ c.in-Some.is) refl in
    let same : c.new-2.result ≡ c.in-Some.list.items ++ last ∷ [] = search rules in
    subst (λ (l : List Made). RanScript (table_of c.args.context.now.runtime.now) c.args.script.ops.now c.args.pass.now c.leave-reply.new.pass (Ok l)) (sym same) whole
