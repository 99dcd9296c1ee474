use Rattle.std.proofs.Common.{rules, ap}
use Rattle.xr_io.specs.declared.Taken.{Taken}
use Rattle.xr_device.specs.Texts.{Reading}
use Rattle.xr_device.proofs.LineSteps.{fails_behind}
use Rattle.xr_device.proofs.text.Text.read_more.Goals as goal

pub returns-in-Err-clause-lines : goal.returns-in-Err-clause-lines
returns-in-Err-clause-lines g c =
    let at = c.self.inside in
    let read = c.in-Err.ensures.read in
    let r : Reading = record { number = at.number; given = at.given; used = at.used; held = at.held; ended = at.ended; source = g.S.Source.state at.source } in
    record {
      stays = search rules;
      fails = rw (← c.self.view_is) (fails_behind r c.read_from.new.self (g.S.Source.state c.read_from.new.source) read.kept.0 read.all (ap (λ (t : Taken). t.count) read.taken) c.self.invariant (search rules) (search rules));
    }
