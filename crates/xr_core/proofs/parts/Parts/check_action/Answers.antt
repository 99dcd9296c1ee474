use Rattle.std.proofs.Common.{rules, sym}
use Rattle.xr_model.specs.machine.Sets.{action_checks}
use Rattle.xr_core.proofs.Deciding.{failed}
use Rattle.xr_core.proofs.parts.Parts.check_action.Goals as goal

pub returns-in_default : goal.returns-in_default
returns-in_default c = sym (failed (action_checks c.args.self.now.inputs c.args.set c.args.name.now) _ (search rules) (search rules))
