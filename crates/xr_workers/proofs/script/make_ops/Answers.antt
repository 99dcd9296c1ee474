use Rattle.std.proofs.Common.{rules, ◌≡◌, ◌+◌, List, [], ◌∷◌, ◌++◌, length, Option, Some, None, IfSome, sym, subst, ◌∙◌, arith, ℕ}
use Rattle.xr_types.specs.declared.calls.Actor.TheVariants.{App}
use Rattle.xr_types.specs.declared.made.Made.{Made}
use Rattle.xr_model.specs.runs.Lists.{made_at}
use Rattle.xr_model.specs.runs.NameValues.{no_values}
use Rattle.xr_model.specs.scenario.ScriptForm.{IsInRange}
use Rattle.xr_model.proofs.ScriptForm.{in_range-item}
use Rattle.xr_runtime.specs.Passes.{table_of}
use Rattle.xr_workers.specs.inside.Script.{MadeOps}
use Rattle.xr_workers.proofs.ScriptsMade.{none_made, some_made, may_go_on, values_are, calls_are, one_more, some_by, none_mapped, op_calls, op_gated, gated_none, lists_more}
use Rattle.xr_workers.proofs.script.make_ops.Goals as goal
use Rattle.xr_runs.proofs.OpCalls.{here_at}

pub returns-in_default-clause-made : goal.returns-in_default-clause-made
returns-in_default-clause-made g c = some_made (table_of c.args.context.now.runtime.now) c.args.ops.now 0 (no_values (length c.args.ops.now)) c.args.pass.now c.args.pass.now [] (omega arith) (none_made (table_of c.args.context.now.runtime.now) c.args.ops.now c.args.pass.now c.requires.is c.requires.first.0)

pub returns-in_default-with_capacity-clause-made : goal.returns-in_default-with_capacity-clause-made
returns-in_default-with_capacity-clause-made g c = some_made (table_of c.args.context.now.runtime.now) c.args.ops.now 0 (no_values (length c.args.ops.now)) c.args.pass.now c.args.pass.now [] (omega arith) (none_made (table_of c.args.context.now.runtime.now) c.args.ops.now c.args.pass.now c.requires.is c.requires.first.0)

pub loop-count-init : goal.loop-count-init
loop-count-init g c =
    let names : c.in-Ok.script.names ≡ no_values (length c.args.ops.now) = c.in-Ok.ensures in record {
      within = omega arith;
      calls = [];
      made = subst (λ (v : List ℕ). MadeOps (table_of c.args.context.now.runtime.now) c.args.ops.now 0 v c.args.pass.now c.args.pass.now []) (sym names) (none_made (table_of c.args.context.now.runtime.now) c.args.ops.now c.args.pass.now c.requires.is c.requires.first.0);
      lists = c.in-Ok-with_capacity.ensures.items;
      gated = gated_none (g.G.Gate.came c.args.context.now.gate.now) (g.G.Gate.went c.args.context.now.gate.now) (App c.args.app) c.args.pass.now.calls;
    }

pub make_op-requires-clause-may : goal.make_op-requires-clause-may
make_op-requires-clause-may g c =
    let i = c.loop-count.invariant in
    may_go_on (table_of c.args.context.now.runtime.now) c.args.ops.now c.loop-count.count c.loop-count.script.names c.args.pass.now c.loop-count.pass i.calls i.within i.made c.requires.is c.requires.first.1 c.requires.few

pub make_op-requires-clause-ranged : goal.make_op-requires-clause-ranged
make_op-requires-clause-ranged g c = subst IsInRange (sym c.index-ops-count.is) (in_range-item c.args.ops.now c.loop-count.count c.index-ops-count.result c.requires.formed c.loop-count-test.true)

pub make_op-requires-clause-within : goal.make_op-requires-clause-within
make_op-requires-clause-within g c =
    let i = c.loop-count.invariant in
    let size = values_are (table_of c.args.context.now.runtime.now) c.args.ops.now c.loop-count.count c.loop-count.script.names c.args.pass.now c.loop-count.pass i.calls i.within i.made in
    let here = c.loop-count-test.true in
    omega (arith, size, here)

pub returns-in_err-made-clause-made : goal.returns-in_err-made-clause-made
returns-in_err-made-clause-made g c =
    let i = c.loop-count.invariant in
    let test = c.loop-count-test.true in
    let table = table_of c.args.context.now.runtime.now in
    let here = here_at c.args.ops.now c.loop-count.count c.index-ops-count.result test c.index-ops-count.is in
    let x = c.make_op.ensures.made in
    let next = one_more table c.args.ops.now c.loop-count.count c.loop-count.script.names c.args.pass.now c.loop-count.pass i.calls i.within i.made c.index-ops-count.result c.make_op.new.pass c.make_op.new.self.names c.make_op.result here x in
    let none : c.from_residual.result ≡ None = search rules in
    some_by table c.args.ops.now c.args.pass.now c.make_op.new.pass _ (none_mapped _ _ none) (some_made table c.args.ops.now (c.loop-count.count + 1) c.make_op.new.self.names c.args.pass.now c.make_op.new.pass (i.calls ++ x.call ∷ []) (omega (arith, test)) next)

pub returns-in_default-push-clause-made : goal.returns-in_default-push-clause-made
returns-in_default-push-clause-made g c =
    let i = c.loop-count.invariant in
    let test = c.loop-count-test.true in
    let table = table_of c.args.context.now.runtime.now in
    let here = here_at c.args.ops.now c.loop-count.count c.index-ops-count.result test c.index-ops-count.is in
    let x = c.make_op.ensures.made in
    let next = one_more table c.args.ops.now c.loop-count.count c.loop-count.script.names c.args.pass.now c.loop-count.pass i.calls i.within i.made c.index-ops-count.result c.make_op.new.pass c.make_op.new.self.names c.make_op.result here x in
    some_made table c.args.ops.now (c.loop-count.count + 1) c.make_op.new.self.names c.args.pass.now c.make_op.new.pass (i.calls ++ x.call ∷ []) (omega (arith, test)) next

pub returns-in_default-push-clause-gated : goal.returns-in_default-push-clause-gated
returns-in_default-push-clause-gated g c =
    let i = c.loop-count.invariant in
    let more = op_calls (table_of c.args.context.now.runtime.now) _ _ c.loop-count.pass c.make_op.new.pass _ _ _ i.made.is c.make_op.ensures.made in
    op_gated (g.G.Gate.came c.args.context.now.gate.now) (g.G.Gate.went c.args.context.now.gate.now) (App c.args.app) c.args.pass.now.calls c.loop-count.pass.calls c.make_op.new.pass.calls more i.gated c.make_op.ensures.gated

pub loop-count-preserved : goal.loop-count-preserved
loop-count-preserved g c =
    let i = c.loop-count.invariant in
    let test = c.loop-count-test.true in
    let table = table_of c.args.context.now.runtime.now in
    let here = here_at c.args.ops.now c.loop-count.count c.index-ops-count.result test c.index-ops-count.is in
    let x = c.make_op.ensures.made in
    let next = one_more table c.args.ops.now c.loop-count.count c.loop-count.script.names c.args.pass.now c.loop-count.pass i.calls i.within i.made c.index-ops-count.result c.make_op.new.pass c.make_op.new.self.names c.make_op.result here x in
    let some : c.make_op.result ≡ Some c.in_ok-made.made = search rules in
    let one = subst (λ (o : Option Made). IfSome o (λ (m : Made). m ≡ made_at (c.loop-count.count + 1) x.call)) some x.lists in
    let size = calls_are table c.args.ops.now c.loop-count.count c.loop-count.script.names c.args.pass.now c.loop-count.pass i.calls i.within i.made in
    let pushed : c.push.new.self.items ≡ c.loop-count.list.items ++ c.in_ok-made.made ∷ [] = search rules in
    let more = op_calls table _ _ c.loop-count.pass c.make_op.new.pass _ _ _ i.made.is x in record {
      within = omega (arith, test);
      calls = i.calls ++ x.call ∷ [];
      made = next;
      lists = pushed ∙ lists_more c.loop-count.list.items i.calls c.loop-count.count x.call c.in_ok-made.made i.lists size one;
      gated = op_gated (g.G.Gate.came c.args.context.now.gate.now) (g.G.Gate.went c.args.context.now.gate.now) (App c.args.app) c.args.pass.now.calls c.loop-count.pass.calls c.make_op.new.pass.calls more i.gated c.make_op.ensures.gated;
    }
