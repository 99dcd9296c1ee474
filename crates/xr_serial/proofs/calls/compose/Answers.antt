use Rattle.std.proofs.Common.{false, [], take, refl}
use Rattle.xr_types.specs.declared.calls.Actor.TheVariants.{Compositor}
use Rattle.xr_types.specs.CallKinds.{lent_size, written_size}
use Rattle.xr_serial.proofs.Lending.{made_of}
use Rattle.xr_serial.proofs.calls.compose.Goals as goal

pub returns-in-Done : goal.returns-in-Done
returns-in-Done c =
    let n = written_size c.in-Done.reply.gives (lent_size c.args.call.now) in
    let text = take n c.apply.new.text in
    (text, made_of c.args.core.now c.apply.new.self Compositor c.args.call.now c.in-Done.reply (record { text = []; frame = c.args.frame.now }) (record { text = c.apply.new.text; frame = c.apply.new.shown }) text n c.in-Done.ensures refl refl)

pub returns-in-NotReady : goal.returns-in-NotReady
returns-in-NotReady c = let waits = c.in-NotReady.ensures 0 false in (waits.same, waits.not_ready)
