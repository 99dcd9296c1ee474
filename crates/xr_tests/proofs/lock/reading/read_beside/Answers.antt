use Rattle.xr_lock.proofs.Unnoted.{may_give_back}
use Rattle.xr_tests.proofs.lock.reading.read_beside.Goals as goal

pub give-requires-clause-may : goal.give-requires-clause-may
give-requires-clause-may g c = may_give_back _ c.args.first.now.me c.take-held.new.seat.me c.take-held.result c.take-held.result c.take-held.ensures.taken (λ cs x is. is)
