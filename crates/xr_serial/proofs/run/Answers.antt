use Rattle.xr_serial.proofs.AtStart.{starts}
use Rattle.xr_serial.proofs.AtEnd.{ran, fault, failed, unfailed}
use Rattle.xr_serial.proofs.run.Goals as goal

pub go_on-requires-clause-run : goal.go_on-requires-clause-run
go_on-requires-clause-run g c =
    let start = g.D.Device.prospect c.args.device.now in
    (start, rw (c.in_ok-machine.ensures, c.in_ok-run.ensures, c.as_slice.ensures) (starts c.args.scenario.now start (g.met.D.Device.few c.args.device.now)))

pub lists-requires-clause-count : goal.lists-requires-clause-count
lists-requires-clause-count g c =
    let start = g.D.Device.prospect c.args.device.now in
    let rests = c.in_ok-go_on.ensures.run start (rw (c.in_ok-machine.ensures, c.in_ok-run.ensures, c.as_slice.ensures) (starts c.args.scenario.now start (g.met.D.Device.few c.args.device.now))) in
    rests.2.kept.apps.count

pub returns-clause-ran : goal.returns-clause-ran
returns-clause-ran g c =
    let start = g.D.Device.prospect c.args.device.now in
    let rests = c.in_ok-go_on.ensures.run start (rw (c.in_ok-machine.ensures, c.in_ok-run.ensures, c.as_slice.ensures) (starts c.args.scenario.now start (g.met.D.Device.few c.args.device.now))) in
    rw c.in_ok-all.ensures (ran c.args.scenario.now rests.0 c.go_on.new.machine c.go_on.new.run start _ rests.2 rests.1)

pub returns-clause-fault : goal.returns-clause-fault
returns-clause-fault g c =
    let start = g.D.Device.prospect c.args.device.now in
    let rests = c.in_ok-go_on.ensures.run start (rw (c.in_ok-machine.ensures, c.in_ok-run.ensures, c.as_slice.ensures) (starts c.args.scenario.now start (g.met.D.Device.few c.args.device.now))) in
    rw c.in_ok-all.ensures (fault c.args.scenario.now rests.0 c.go_on.new.machine c.go_on.new.run start _ rests.2 rests.1)

pub returns-clause-unfailed : goal.returns-clause-unfailed
returns-clause-unfailed g c =
    let start = g.D.Device.prospect c.args.device.now in
    let rests = c.in_ok-go_on.ensures.run start (rw (c.in_ok-machine.ensures, c.in_ok-run.ensures, c.as_slice.ensures) (starts c.args.scenario.now start (g.met.D.Device.few c.args.device.now))) in
    rw c.in_ok-all.ensures (unfailed c.args.scenario.now rests.0 c.go_on.new.machine c.go_on.new.run start _ rests.2 rests.1)

pub returns-clause-failed : goal.returns-clause-failed
returns-clause-failed g c =
    let start = g.D.Device.prospect c.args.device.now in
    let rests = c.in_ok-go_on.ensures.run start (rw (c.in_ok-machine.ensures, c.in_ok-run.ensures, c.as_slice.ensures) (starts c.args.scenario.now start (g.met.D.Device.few c.args.device.now))) in
    rw c.in_ok-all.ensures (failed c.args.scenario.now rests.0 c.go_on.new.machine c.go_on.new.run start _ rests.2 rests.1)
