use Rattle.std.proofs.Common.{◌<◌, ◌^◌, sym, ap, subst, ◌∙◌, arith}
use Rattle.std.specs.Prelude.{Result, Ok, Err}
use Rattle.xr_types.specs.declared.calls.Reply.{Reply}
use Rattle.xr_model.specs.machine.OverCells.{MayApply, world}
use Rattle.xr_types.specs.CallKinds.{is_locked}
use Rattle.xr_model.specs.machine.Machine.{IsPresent}
use Rattle.xr_model.specs.machine.State.{WholeCore}
use Rattle.xr_core.specs.declared.halt.Halt.{Halt}
use Rattle.xr_core.specs.inside.Deciding.{DecidesAlong}
use Rattle.xr_core.proofs.CountAside.{counted_calls}
use Rattle.xr_core.proofs.Counting.{as_reply, made_over, waits_over, grown, counted_is}
use Rattle.xr_core.proofs.counted.Core.apply.Goals.{in-Ok, in-Err-Refused}
use Rattle.xr_core.proofs.counted.Core.apply.Given.{Over}
use Rattle.xr_core.proofs.counted.Core.apply.Goals as goal

-- what the inside decided comes to the reply that is answered
comes : (g : Over) (c : goal.After-answered g) → DecidesAlong g.C.Cells.does (world c.self.inside.inside c.args.cells.now c.args.text.now c.args.shown.now) (world c.decide.new.self c.decide.new.cells c.decide.new.text c.decide.new.shown) c.args.who c.args.call.now (Ok c.match-decide.reply)
comes g c = elim c.match-decide.branch [
  | in-Ok w ↦ rw w.reply-is (w.in-Ok.ensures)
  | in-Err-Refused w ↦ rw (w.reply-is, w.refusal-reply.ensures) (as_reply g.C.Cells.does (world c.self.inside.inside c.args.cells.now c.args.text.now c.args.shown.now) (world c.decide.new.self c.decide.new.cells c.decide.new.text c.decide.new.shown) c.args.who c.args.call.now w.in-Err-Refused.code (subst (λ (r : Result Reply Halt). DecidesAlong g.C.Cells.does (world c.self.inside.inside c.args.cells.now c.args.text.now c.args.shown.now) (world c.decide.new.self c.decide.new.cells c.decide.new.text c.decide.new.shown) c.args.who c.args.call.now r) (w.in-Err-Refused.is ∙ ap Err w.in-Err-Refused.field-0-is) c.decide.ensures))
]

pub returns : goal.returns
returns g c =
    let present = subst (λ (w : WholeCore). IsPresent w.kept c.args.who) (sym c.self.view_is) c.requires.may.present in
    rw (c.answered.ensures.reply, c.answered.ensures.count, c.answered.ensures.published, ← c.self.view_is)
    (made_over g.C.Cells.does (world c.self.inside.inside c.args.cells.now c.args.text.now c.args.shown.now) (world c.decide.new.self c.decide.new.cells c.decide.new.text c.decide.new.shown) c.self.inside.calls c.self.inside.published c.args.who c.args.call.now c.match-decide.reply present (comes g c))

pub returns-in-Err-NotReady : goal.returns-in-Err-NotReady
returns-in-Err-NotReady g c =
    rw (← c.self.view_is)
    (waits_over g.C.Cells.does (world c.self.inside.inside c.args.cells.now c.args.text.now c.args.shown.now) (world c.decide.new.self c.decide.new.cells c.decide.new.text c.decide.new.shown) c.self.inside.calls c.self.inside.published c.args.who c.args.call.now (subst (λ (r : Result Reply Halt). DecidesAlong g.C.Cells.does (world c.self.inside.inside c.args.cells.now c.args.text.now c.args.shown.now) (world c.decide.new.self c.decide.new.cells c.decide.new.text c.decide.new.shown) c.args.who c.args.call.now r) (c.in-Err-NotReady.is ∙ ap Err c.in-Err-NotReady.field-0-is) c.decide.ensures))

pub invariant_of-self : goal.invariant_of-self
invariant_of-self g c =
    let x = subst (λ (r : Result Reply Halt). DecidesAlong g.C.Cells.does (world c.self.inside.inside c.args.cells.now c.args.text.now c.args.shown.now) (world c.decide.new.self c.decide.new.cells c.decide.new.text c.decide.new.shown) c.args.who c.args.call.now r) (c.in-Err-NotReady.is ∙ ap Err c.in-Err-NotReady.field-0-is) c.decide.ensures in
    rw x.decides.same c.self.invariant

pub invariant_of-self-2 : goal.invariant_of-self-2
invariant_of-self-2 g c =
    let x = comes g c in
    let what = c.args.call.now in
    let grows = grown c.self.inside.inside.kept c.decide.new.self.kept c.self.inside.calls c.self.inside.published c.args.who what (record { text = c.args.text.now; frame = c.args.shown.now }) (record { text = c.decide.new.text; frame = c.decide.new.shown }) c.match-decide.reply.code c.match-decide.reply.gives x.reads x.decides in
    let count = c.answered.ensures.count ∙ counted_is (is_locked what) c.self.inside.calls in
    let given = grows.given in
    let created = grows.created in
    let ended = grows.ended in
    let handles = c.self.invariant.0 in
    let sessions = c.self.invariant.1 in
    let frames = c.self.invariant.2 in
    (omega (arith, given, count, handles), omega (arith, created, count, sessions), omega (arith, ended, count, frames))

pub decide-requires-clause-counts : goal.decide-requires-clause-counts
decide-requires-clause-counts g c =
    let few = c.requires.calls in
    let calls = subst (λ (w : WholeCore). w.kept.locked < 2 ^ 44) (sym c.self.view_is) few in
    let handles = c.self.invariant.0 in
    let sessions = c.self.invariant.1 in
    let frames = c.self.invariant.2 in
    record { given = omega (arith, handles, calls); created = omega (arith, sessions, calls); ended = omega (arith, frames, calls) }

pub decide-requires-clause-may : goal.decide-requires-clause-may
decide-requires-clause-may g c = record { asks = c.requires.may.asks; present = subst (λ (w : WholeCore). IsPresent w.kept c.args.who) (sym c.self.view_is) c.requires.may.present }

pub decide-requires-clause-cells : goal.decide-requires-clause-cells
decide-requires-clause-cells g c = λ reads given short own.
    let may = subst (λ (w : WholeCore). MayApply g.C.Cells.may g.C.Cells.does w c.args.cells.now c.args.who c.args.call.now) (sym c.self.view_is) c.requires.cells in
    rw (← counted_calls c.self.inside.inside.kept c.self.inside.calls c.self.inside.published reads (record { actor = c.args.who; call = c.args.call.now; given = given; short = short })) (may reads given short own)
