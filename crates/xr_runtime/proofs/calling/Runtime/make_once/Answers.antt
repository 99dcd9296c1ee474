use Rattle.std.proofs.Common.{rules, refl, sym, ap, ◌∙◌, length, subst, w64, to_z-of_z, SFits}
use Rattle.xr_model.specs.machine.CoreCalls.{as_lent}
use Rattle.xr_model.specs.machine.State.{WholeCore}
use Rattle.xr_runtime.specs.Calling.{Reads}
use Rattle.xr_runtime.proofs.Making.{may_make, few_calls, may_lend, give_waiting, gave_waiting, settle_done, give_done, called_done}
use Rattle.xr_runtime.proofs.calling.Runtime.make_once.Goals as goal

pub lend-step-requires-clause-calls : goal.lend-step-requires-clause-calls
lend-step-requires-clause-calls g c = few_calls c.args.seat.now.me.0.know c.take-held.new.seat.me c.take-held.result c.settle_before.new.core c.take-held.ensures.taken (c.settle_before.ensures.kept ∙ ap (λ (w : WholeCore). w.kept) c.deref_mut-core.ensures.value)

pub lend-step-requires-clause-may : goal.lend-step-requires-clause-may
lend-step-requires-clause-may g c = may_make c.args.seat.now.me c.take-held.new.seat.me c.take-held.result c.settle_before.new.core c.args.who c.args.call.now (length c.args.text.now) c.requires.may c.take-held.ensures.taken (c.settle_before.ensures.kept ∙ ap (λ (w : WholeCore). w.kept) c.deref_mut-core.ensures.value)

pub lend-step-requires-clause-lends : goal.lend-step-requires-clause-lends
lend-step-requires-clause-lends g c = may_lend c.args.seat.now.me c.take-held.new.seat.me c.take-held.result c.settle_before.new.core c.args.who c.args.call.now (length c.args.text.now) c.requires.may c.take-held.ensures.taken (c.settle_before.ensures.kept ∙ ap (λ (w : WholeCore). w.kept) c.deref_mut-core.ensures.value) c.settle_before.ensures.none

pub settle-requires-clause-may : goal.settle-requires-clause-may
settle-requires-clause-may g c = settle_done c.args.seat.now.me c.take-held.new.seat.me c.take-held.result c.settle_before.new.core c.args.who c.args.call.now (length c.args.text.now) c.requires.may c.take-held.ensures.taken (c.settle_before.ensures.kept ∙ ap (λ (w : WholeCore). w.kept) c.deref_mut-core.ensures.value) (record c.take-held.result { value = record c.take-held.result.value { value = c.lend-step.new.core } }) refl c.lend-step.new.seat.me (as_lent c.args.text.now c.args.shown.now) (as_lent c.lend-step.new.text c.lend-step.new.shown) c.lend-step.result.step c.lend-step.result.decided c.in-Done.reply c.lend-step.ensures.told c.in-Done.is

pub give-requires-clause-may : goal.give-requires-clause-may
give-requires-clause-may g c = give_done c.args.seat.now.me c.take-held.new.seat.me c.take-held.result c.settle_before.new.core c.args.who c.args.call.now (length c.args.text.now) c.requires.may c.take-held.ensures.taken (c.settle_before.ensures.kept ∙ ap (λ (w : WholeCore). w.kept) c.deref_mut-core.ensures.value) (record c.take-held.result { value = record c.take-held.result.value { value = c.lend-step.new.core } }) refl c.lend-step.new.seat.me (as_lent c.args.text.now c.args.shown.now) (as_lent c.lend-step.new.text c.lend-step.new.shown) c.lend-step.result.step c.lend-step.result.decided c.in-Done.reply c.lend-step.ensures.told c.in-Done.is c.settle.new.seat.me c.settle.new.held c.settle.ensures.kept c.settle.ensures.settled

pub give-requires-in-NotReady-clause-may : goal.give-requires-in-NotReady-clause-may
give-requires-in-NotReady-clause-may g c = give_waiting c.args.seat.now.me c.take-held.new.seat.me c.take-held.result c.settle_before.new.core c.args.who c.args.call.now (length c.args.text.now) c.requires.may c.take-held.ensures.taken (c.settle_before.ensures.kept ∙ ap (λ (w : WholeCore). w.kept) c.deref_mut-core.ensures.value) (record c.take-held.result { value = record c.take-held.result.value { value = c.lend-step.new.core } }) refl c.lend-step.new.seat.me (as_lent c.args.text.now c.args.shown.now) (as_lent c.lend-step.new.text c.lend-step.new.shown) c.lend-step.result.step c.lend-step.result.decided c.lend-step.ensures.told c.in-NotReady.is

pub returns-in-Done-clause-made : goal.returns-in-Done-clause-made
returns-in-Done-clause-made g c =
    let fits : SFits w64 c.clock-clock.result = search rules in
    let made = called_done c.args.seat.now.me c.take-held.new.seat.me c.take-held.result c.settle_before.new.core c.args.who c.args.call.now (length c.args.text.now) c.requires.may c.take-held.ensures.taken (c.settle_before.ensures.kept ∙ ap (λ (w : WholeCore). w.kept) c.deref_mut-core.ensures.value) (record c.take-held.result { value = record c.take-held.result.value { value = c.lend-step.new.core } }) refl c.lend-step.new.seat.me (as_lent c.args.text.now c.args.shown.now) (as_lent c.lend-step.new.text c.lend-step.new.shown) c.lend-step.result.step c.lend-step.result.decided c.in-Done.reply c.lend-step.ensures.told c.in-Done.is c.settle.new.seat.me c.settle.new.held c.settle.ensures.kept c.settle.ensures.settled
    c.give.new.seat.me c.clock-clock.result c.taken_by-taken.result.items c.give.ensures.given c.clock-clock.ensures.clock c.clock-clock.ensures.begun c.taken_by-taken.ensures in
    (made.0, subst (λ z. Reads c.give.new.seat.me.0.know c.args.call.now z c.taken_by-taken.result.items) (sym (to_z-of_z fits)) made.1)

pub returns-in-NotReady-clause-made : goal.returns-in-NotReady-clause-made
returns-in-NotReady-clause-made g c = gave_waiting c.args.seat.now.me c.take-held.new.seat.me c.take-held.result c.settle_before.new.core c.args.who c.args.call.now (length c.args.text.now) c.requires.may c.take-held.ensures.taken (c.settle_before.ensures.kept ∙ ap (λ (w : WholeCore). w.kept) c.deref_mut-core.ensures.value) (record c.take-held.result { value = record c.take-held.result.value { value = c.lend-step.new.core } }) refl c.lend-step.new.seat.me (as_lent c.args.text.now c.args.shown.now) (as_lent c.lend-step.new.text c.lend-step.new.shown) c.lend-step.result.step c.lend-step.result.decided c.lend-step.ensures.told c.in-NotReady.is c.give-in-NotReady.new.seat.me c.give-in-NotReady.ensures.given
