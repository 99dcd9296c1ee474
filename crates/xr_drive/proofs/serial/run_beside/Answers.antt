use Rattle.xr_serial.specs.Ran.{Ran}
use Rattle.xr_drive.proofs.FilesRan.{beside_ran}
use Rattle.xr_drive.proofs.serial.run_beside.Goals as goal

pub returns : goal.returns
returns g c =
    let files = g.O.Opener.files in
    let run = c.in_ok-lists.ensures in
    beside_ran c.args.file.now c.args.name.now (files c.args.opener.now) (files c.open_beside.new.opener) (files c.close_device.new.opener) c.in_ok-scenario.field-0.scenario c.in_ok-scenario.field-0.device c.run-ran.new.device
    c.in_ok-scenario.ensures.ready run.reads c.close_device.ensures Ran c.in_ok-lists.lists run.ran run.fault run.unfailed run.failed
