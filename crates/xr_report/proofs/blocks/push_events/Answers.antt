use Rattle.std.proofs.Common.{◌≡◌, ◌+◌, ◌∙◌, [], drop, length, min, rules, append-nil}
use Rattle.std.proofs.lemmas.Slice.Zip.{zip_end}
use Rattle.xr_model.specs.report.Report.{events_from}
use Rattle.xr_report.proofs.Events.{events_from-past}
use Rattle.xr_report.proofs.blocks.push_events.Goals as goal

pub returns : goal.returns
returns c =
    let ends : length c.loop-event.yielded ≡ min (length c.args.events.now) (length c.args.calls.now) =
    zip_end c.args.events.now c.args.calls.now c.loop-event.yielded c.into_iter-event-iterator.result c.loop-event.event-iterator c.next.new.self c.next.result (search rules) (search rules) c.loop-event.yielded_by c.in-None.is c.next.ensures.steps in
    let past : events_from c.args.places (c.loop-event.number + 1) (drop c.loop-event.number c.args.events.now) (drop c.loop-event.number c.args.calls.now) ≡ [] =
    events_from-past _ _ _ _ _ (c.loop-event.invariant.number ∙ ends) in
    cc (append-nil c.loop-event.out.items)
