use Rattle.std.proofs.Common.{◌∙◌, ap}
use Rattle.xr_device.specs.Kinds.{Stored}
use Rattle.xr_drive.proofs.Loads.{load_is_run}
use Rattle.xr_drive.proofs.serial.run_load.Goals as goal

pub returns : goal.returns
returns c =
    load_is_run c.args.frames c.in_ok-scenario.scenario c.new-device.result.events c.in_ok-lists.ensures.ran.0 c.in_ok-lists.lists
    c.in_ok-scenario.ensures.load (ap (λ (s : Stored). s.events) c.new-device.ensures ∙ c.in_ok-load_events.ensures) c.in_ok-lists.ensures.ran.2 c.in_ok-lists.ensures.fault
