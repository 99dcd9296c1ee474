use Rattle.std.proofs.Common.{rules, ◌≡◌, ◌≤◌, ◌∙◌, ℕ, length, take, ap, sym, subst, arith}
use Rattle.std.proofs.lemmas.List.{length-take-le}
use Rattle.xr_types.specs.CallKinds.{lent_size, written_size, with_start}
use Rattle.xr_types.specs.declared.calls.Actor.TheVariants.{App}
use Rattle.xr_model.specs.machine.CoreCalls.{MayAsk}
use Rattle.xr_runtime.specs.Passes.{table_of}
use Rattle.xr_workers.proofs.CallsMade.{text_made, asked_by, lent_begun}
use Rattle.xr_workers.proofs.ScriptsMade.{seat_gated}
use Rattle.xr_workers.proofs.script.ask.Goals as goal

pub slice_bounds-lent-end : goal.slice_bounds-lent-end
slice_bounds-lent-end g c =
    let size = c.lent_size.ensures in
    let room = c.requires.size in
    omega (arith, size, room)

pub slice_bounds-lent-end-2 : goal.slice_bounds-lent-end-2
slice_bounds-lent-end-2 g c =
    let size = c.lent_size.ensures in
    let room = c.requires.size in
    let within : c.lent_size.result ≤ length c.args.buffer.now = omega (arith, size, room) in
    sym (length-take-le c.lent_size.result c.args.buffer.now within)

pub call-reply-requires : goal.call-reply-requires
call-reply-requires g c =
    let size = c.lent_size.ensures in
    let room = c.requires.size in
    let within : c.lent_size.result ≤ length c.args.buffer.now = omega (arith, size, room) in
    let fits : length (take c.lent_size.result c.args.buffer.now) ≡ lent_size c.args.call.now = length-take-le c.lent_size.result c.args.buffer.now within ∙ size in
    record { may = record { may = c.requires.may; asks = subst (λ (n : ℕ). MayAsk (App c.args.pass.now.app) c.args.call.now n) (sym fits) c.requires.asks } }

pub returns-clause-made : goal.returns-clause-made
returns-clause-made g c =
    let size : c.written_size-written.result ≡ written_size c.call-reply.result.gives (lent_size c.args.call.now) = search rules in
    let begun : c.written_size-written.result ≡ written_size c.call-reply.result.gives (lent_size (with_start c.args.pass.now.clock c.args.call.now)) = size ∙ ap (written_size c.call-reply.result.gives) (sym (lent_begun c.args.pass.now.clock c.args.call.now)) in
    let made = text_made (table_of c.args.context.now.runtime.now) c.args.pass.now c.call-reply.new.pass _ c.call-reply.result _ _ c.requires.may c.call-reply.ensures.called in
    asked_by (table_of c.args.context.now.runtime.now) c.args.pass.now c.call-reply.new.pass _ _ (record { reply = c.call-reply.result; text = c.match-from_slice.text }) c.written_size-written.result made begun (search rules)

pub after-requires : goal.after-requires
after-requires g c = (_, c.before-2.ensures)

pub returns-clause-gated : goal.returns-clause-gated
returns-clause-gated g c =
    let made = text_made (table_of c.args.context.now.runtime.now) c.args.pass.now c.call-reply.new.pass _ c.call-reply.result _ _ c.requires.may c.call-reply.ensures.called in
    seat_gated (g.G.Gate.came c.args.context.now.gate.now) (g.G.Gate.went c.args.context.now.gate.now) (App c.args.app) c.args.pass.now.calls c.calls-number.result c.seat.result.now c.seat-2.result.now c.args.pass.now.seat c.call-reply.new.pass.seat made.exchange c.calls-number.ensures c.requires.may.is.counts made.made c.seat.ensures c.seat-2.ensures c.before-2.ensures c.after.ensures
