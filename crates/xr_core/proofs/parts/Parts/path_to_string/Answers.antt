use Rattle.std.proofs.Common.{rules}
use Rattle.xr_core.proofs.PathCalls.{copy_refused, copy_given}
use Rattle.xr_core.proofs.parts.Parts.path_to_string.Goals as goal

pub returns-in_default : goal.returns-in_default
returns-in_default c =
    rw (c.refused.ensures, ← c.self.view_is)
    (copy_refused _ c.args.instance c.args.path c.text_of-answer.result c.args.out.now c.text_of-answer.new.out (search rules) c.text_of-answer.ensures.answer c.text_of-answer.ensures.written c.in_default.not-Success c.in_default.not-SizeInsufficient)

pub returns : goal.returns
returns c =
    rw (c.giving.ensures, ← c.self.view_is)
    (copy_given _ c.args.instance c.args.path c.text_of-answer.result c.args.out.now c.text_of-answer.new.out (search rules) c.text_of-answer.ensures.answer c.text_of-answer.ensures.written c.in-Success.is)
