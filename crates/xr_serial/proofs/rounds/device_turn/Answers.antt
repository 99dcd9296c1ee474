use Rattle.std.proofs.Common.{rules, ◌≡◌, Some, None, length}
use Rattle.xr_serial.specs.inside.RunState.{RunState}
use Rattle.xr_serial.proofs.DeviceTurns.{with_side, device_over, event_turn}
use Rattle.xr_serial.proofs.rounds.device_turn.Goals as goal

pub returns-in_default-clause-run : goal.returns-in_default-clause-run
returns-in_default-clause-run g c =
    let none : c.look.new.self.pending ≡ None = search rules in
    let run : RunState = record { apps = c.run.inside.apps.items; side = c.run.inside.side; compositor = c.run.inside.compositor } in
    rw (← c.run.view_is) (λ idle start few kept.
    device_over c.args.scenario.now idle c.args.machine.now c.args.machine.now (with_side run c.look.new.self) start _ few none (c.look.ensures.known none)
    (c.look.ensures.run c.args.scenario.now (length c.args.scenario.now.scripts) idle c.args.machine.now run start kept))

pub returns-clause-run : goal.returns-clause-run
returns-clause-run g c =
    let some : c.look.new.self.pending ≡ Some c.in-Some.event = search rules in
    let run : RunState = record { apps = c.run.inside.apps.items; side = c.run.inside.side; compositor = c.run.inside.compositor } in
    rw (← c.run.view_is) (λ idle start few kept.
    event_turn c.args.scenario.now idle c.args.machine.now c.make_event.new.machine (with_side run c.look.new.self) start _ few c.make_event.new.self c.in-Some.event c.in_ok-went.went some c.in_ok-went.ensures
    (c.look.ensures.run c.args.scenario.now (length c.args.scenario.now.scripts) idle c.args.machine.now run start kept))
