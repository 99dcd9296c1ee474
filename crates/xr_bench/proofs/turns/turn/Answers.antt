use Rattle.std.proofs.Common.{◌∙◌}
use Rattle.xr_lock.proofs.Unnoted.{may_give_back, gave_back}
use Rattle.xr_bench.proofs.Resting.{rests_again}
use Rattle.xr_bench.proofs.turns.turn.Goals as goal

pub give-requires-clause-may : goal.give-requires-clause-may
give-requires-clause-may g c = may_give_back _ c.args.seat.now.me c.take-held.new.seat.me c.take-held.result (record c.take-held.result { value = record c.take-held.result.value { value = c.turn-enough.new.self } }) c.take-held.ensures.taken (λ cs x is. (is.0, λ cells. tt))

pub returns : goal.returns
returns g c =
    let same = gave_back _ c.args.seat.now.me c.take-held.new.seat.me c.give.new.seat.me c.take-held.result c.requires.rests.between c.take-held.ensures.taken c.give.ensures.given in
    record { rests = rests_again c.args.table.now.table.shared.table_id c.args.seat.now c.give.new.seat c.requires.rests (c.give.ensures.own ∙ c.take-held.ensures.own) same }
