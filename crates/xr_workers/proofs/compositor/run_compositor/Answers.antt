use Rattle.std.proofs.Common.{rules, ◌+◌, ◌++◌, ◌∷◌, [], List, Option, length, subst}
use Rattle.atomic_table.specs.declared.shared.Seat.{Seat}
use Rattle.xr_types.specs.declared.calls.Actor.TheVariants.{Compositor}
use Rattle.xr_model.specs.machine.State.{WholeCore}
use Rattle.xr_rule.specs.declared.held.Held.{Held}
use Rattle.xr_rule.specs.View.{View, calls_in}
use Rattle.xr_model.specs.machine.Calls.{Exchange}
use Rattle.xr_runtime.specs.Passes.{table_of}
use Rattle.xr_workers.specs.Workers.{TurnsGated}
use Rattle.xr_workers.proofs.FramesMade.{none_composed, none_turned, one_composed, one_turned, turns_gated, last_calls, ran_by}
use Rattle.xr_workers.proofs.compositor.run_compositor.Goals as goal

pub after-requires : goal.after-requires
after-requires g c = (_, c.before-in-loop.ensures)

pub loop-init : goal.loop-init
loop-init g c = record {
  went = none_composed (table_of c.args.context.now.runtime.now) c.args.pass.now _ c.requires.is c.requires.first.0 c.requires.none_held (search rules);
  gated = none_turned (g.G.Gate.came c.args.context.now.gate.now) (g.G.Gate.went c.args.context.now.gate.now) (table_of c.args.context.now.runtime.now) c.args.pass.now _ c.requires.is c.requires.first.0 c.requires.none_held _;
}

pub loop-preserved : goal.loop-preserved
loop-preserved g c =
    let i = c.loop.invariant in
    let came = g.G.Gate.came c.args.context.now.gate.now in
    let went = g.G.Gate.went c.args.context.now.gate.now in record {
      went = one_composed (table_of c.args.context.now.runtime.now) c.loop.turns c.args.pass.now c.loop.pass c.turn-turned.new.pass c.loop.kept c.requires.is c.requires.first.1 i.went _ _ c.in-Shown.reply c.with_frame-kept.result c.in-Shown.ensures.turns c.with_frame-kept.ensures;
      gated = one_turned (table_of c.args.context.now.runtime.now) c.loop.turns c.args.pass.now c.loop.pass c.turn-turned.new.pass c.loop.kept c.requires.is c.requires.first.1 i.went came went _ _ c.in-Shown.reply c.with_frame-kept.result c.in-Shown.ensures.turns c.with_frame-kept.ensures i.gated (subst (λ (s : Seat (Option (Held WholeCore)) View). came Compositor (c.loop.turns + 1) (length (calls_in s.me.0.know.own))) c.seat.ensures c.before-in-loop.ensures) (subst (λ (s : Seat (Option (Held WholeCore)) View). went Compositor (c.loop.turns + 1) (length (calls_in s.me.0.know.own))) c.seat-in-loop.ensures c.after.ensures);
    }

pub returns-in-Ended-clause-ran : goal.returns-in-Ended-clause-ran
returns-in-Ended-clause-ran g c = ran_by (table_of c.args.context.now.runtime.now) c.loop.turns c.args.pass.now c.loop.pass c.turn-turned.new.pass c.loop.kept c.requires.is c.requires.first.1 c.loop.invariant.went _ _ c.in-Ended.reply c.in-Ended.ensures.turns c.list.result c.list.ensures

pub returns-in-Ended-clause-gated : goal.returns-in-Ended-clause-gated
returns-in-Ended-clause-gated g c =
    let i = c.loop.invariant in
    let t = c.in-Ended.ensures.turns in
    let came = g.G.Gate.came c.args.context.now.gate.now in
    let went = g.G.Gate.went c.args.context.now.gate.now in
    let all = last_calls (table_of c.args.context.now.runtime.now) c.loop.turns c.args.pass.now c.loop.pass c.turn-turned.new.pass c.loop.kept c.requires.is c.requires.first.1 i.went _ _ c.in-Ended.reply t in
    let gated = turns_gated (table_of c.args.context.now.runtime.now) c.loop.turns c.args.pass.now c.loop.pass c.turn-turned.new.pass c.loop.kept c.requires.is c.requires.first.1 i.went came went _ _ _ t i.gated (subst (λ (s : Seat (Option (Held WholeCore)) View). came Compositor (c.loop.turns + 1) (length (calls_in s.me.0.know.own))) c.seat.ensures c.before-in-loop.ensures) (subst (λ (s : Seat (Option (Held WholeCore)) View). went Compositor (c.loop.turns + 1) (length (calls_in s.me.0.know.own))) c.seat-in-loop.ensures c.after.ensures) in
    (i.went.calls ++ t.frame ∷ [], all, subst (λ (ts : List Exchange). TurnsGated came went (i.went.calls ++ t.frame ∷ ts)) t.at_end gated)
