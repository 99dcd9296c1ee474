use Rattle.std.proofs.Common.{rules, ◌≡◌, ◌++◌, length, take, drop}
use Rattle.xr_types.specs.CallKinds.{lent_size}
use Rattle.xr_serial.proofs.Lending.{front_of}
use Rattle.xr_serial.proofs.calls.ask.Goals as goal

pub returns-clause-applies : goal.returns-clause-applies
returns-clause-applies c =
    let n = c.lent_size.result in
    let same : n ≡ lent_size c.args.call.now = c.lent_size.ensures in
    let size : length c.apply.new.text ≡ n = search rules in
    let front : take n (c.apply.new.text ++ drop n c.args.buffer.now) ≡ c.apply.new.text = front_of c.apply.new.text (drop n c.args.buffer.now) n size in
    rw (← same, front) c.apply.ensures
