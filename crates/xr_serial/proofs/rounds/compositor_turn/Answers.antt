use Rattle.std.proofs.Common.{rules, ◌≡◌, true, None, is_some}
use Rattle.xr_serial.proofs.CompositorTurns.{end_over, frame_turn, image_returned}
use Rattle.xr_serial.proofs.rounds.compositor_turn.Goals as goal

pub returns-then-is_some-clause-run : goal.returns-then-is_some-clause-run
returns-then-is_some-clause-run c =
    let told : is_some c.args.run.now.compositor.ended ≡ true = search rules in
    λ now idle start few kept. end_over c.args.scenario.now idle c.args.machine.now c.args.machine.now c.args.run.now start now few told kept

pub returns-then-holds_images-clause-run : goal.returns-then-holds_images-clause-run
returns-then-holds_images-clause-run c =
    let unended : c.run.inside.compositor.ended ≡ None = search rules in
    rw (← c.run.view_is) (λ now idle start few kept. image_returned c.args.scenario.now idle c.args.machine.now c.give_back.new.machine _ start now few c.give_back.new.self unended c.in_ok-give_back.ensures kept)

pub returns-clause-run : goal.returns-clause-run
returns-clause-run c =
    let unended : c.run.inside.compositor.ended ≡ None = search rules in
    rw (← c.run.view_is) (λ now idle start few kept. frame_turn c.args.scenario.now idle c.args.machine.now c.take.new.machine _ start now few c.take.new.self c.in_ok-went.went unended c.in_ok-went.ensures kept)
