use Rattle.std.proofs.Common.{sym}
use Rattle.xr_device.proofs.FirstBytes.{no_event_of_many}
use Rattle.xr_device.proofs.words.event_of.Goals as goal

pub returns-in-Some-cut-3-clause-value : goal.returns-in-Some-cut-3-clause-value
returns-in-Some-cut-3-clause-value c =
    let parts = c.in-Some-cut-3.field-0 in
    sym (no_event_of_many c.args.line.now c.in-Some.word.now c.in-Some-cut.a.now c.in-Some-cut-2.b.now parts.0.now c.in-Some.rest.now c.in-Some-cut.rest.now c.in-Some-cut-2.rest.now parts.1.now c.in-Some.ensures c.in-Some-cut.ensures c.in-Some-cut-2.ensures c.in-Some-cut-3.ensures)
