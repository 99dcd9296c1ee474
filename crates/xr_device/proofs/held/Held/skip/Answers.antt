use Rattle.xr_device.proofs.HeldBytes.{skipped_held}
use Rattle.xr_device.proofs.held.Held.skip.Goals as goal

pub returns : goal.returns
returns c =
    let at = c.self.inside in
    skipped_held at.bytes.value c.args.self.now at.start at.end c.args.count c.self.invariant.0 c.self.view_is c.requires
