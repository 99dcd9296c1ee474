use Rattle.std.proofs.Common.{◌≡◌, ◌∙◌, [], ap}
use Rattle.xr_device.specs.Kinds.{Stored}
use Rattle.xr_serial.specs.Ran.{Ran}
use Rattle.xr_drive.proofs.FilesRan.{alone_ran}
use Rattle.xr_drive.proofs.serial.run_alone.Goals as goal

pub returns : goal.returns
returns g c =
    let files = g.O.Opener.files in
    let run = c.in_ok-lists.ensures in
    let empty : c.new-none.result.events ≡ [] = ap (λ (s : Stored). s.events) c.new-none.ensures ∙ c.new.ensures.items in
    alone_ran Ran c.args.file.now (files c.args.opener.now) (files c.open_alone.new.opener) c.in_ok-scenario.scenario c.in_ok-scenario.ensures.ready c.new-none.result c.run.new.device empty c.in_ok-lists.lists run.ran run.fault
