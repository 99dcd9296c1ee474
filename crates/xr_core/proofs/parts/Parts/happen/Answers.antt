use Rattle.std.proofs.Common.{ap}
use Rattle.xr_model.specs.machine.State.{CoreState}
use Rattle.xr_model.specs.machine.Target.{settled}
use Rattle.xr_core.proofs.parts.Parts.happen.Goals as goal

pub returns-in-Wish : goal.returns-in-Wish
returns-in-Wish c =
    let w = c.in-Wish.wish in
    rw (c.in-Wish.is, c.settle.ensures, c.set_wish.ensures) (ap (λ (s : CoreState). settled (record s { device = record s.device { wish = w } })) c.self-in-Wish.view_is)
