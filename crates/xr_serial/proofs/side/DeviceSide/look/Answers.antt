use Rattle.std.proofs.Common.{rules, ◌≡◌, false, None, refl}
use Rattle.xr_serial.proofs.DeviceTurns.{looked_from}
use Rattle.xr_serial.proofs.side.DeviceSide.look.Goals as goal
use Rattle.xr_runs.specs.Sides.{SideState, side_asked}

pub returns-then-not-self-clause-run : goal.returns-then-not-self-clause-run
returns-then-not-self-clause-run g c =
    let old : SideState = record { pending = c.self.inside.pending; over = c.self.inside.over; events = c.self.inside.events.items; calls = c.self.inside.calls.items } in
    let told = c.ask_next-told.ensures.told in
    let new : SideState = side_asked old c.ask_next-told.result.event c.ask_next-told.result.is_last in
    let unknown : old.pending ≡ None = search rules in
    let going : old.over ≡ false = search rules in
    rw (← c.self.view_is) (λ scenario turn idle s run start kept.
    looked_from scenario turn idle s run old start (g.D.Device.prospect c.args.device.now)
    (g.D.Device.prospect c.ask_next-told.new.device) told.later new unknown going told.comes refl kept)
