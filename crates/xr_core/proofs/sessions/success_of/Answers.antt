use Rattle.std.proofs.Common.{ap, ◌∙◌}
use Rattle.xr_types.specs.declared.code.Code.TheVariants.{Success}
use Rattle.xr_model.specs.machine.LiveSessions.{Session}
use Rattle.xr_model.specs.machine.SessionRule.{loss_of, code_on}
use Rattle.xr_core.proofs.Listed.{stands}
use Rattle.xr_core.proofs.sessions.success_of.Goals as goal

pub returns : goal.returns
returns c =
    let there = stands c.args.sessions.now c.args.handle c.args.place c.index-sessions-place.result c.requires.found in
    rw there.found (c.success_code.ensures ∙ ap (λ (x : Session). code_on (loss_of x.life) Success) c.index-sessions-place.is)
