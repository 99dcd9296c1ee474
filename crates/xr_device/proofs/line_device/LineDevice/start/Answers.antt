use Rattle.std.proofs.Common.{refl}
use Rattle.xr_device.proofs.line_device.LineDevice.start.Goals as goal

pub returns-clause-start : goal.returns-clause-start
returns-clause-start g c = rw (c.new.ensures.told, c.new.ensures.new) refl
