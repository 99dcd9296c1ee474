use Rattle.xr_scenario.proofs.InRange.{formed_at}
use Rattle.xr_scenario.proofs.read_op.op_in.Goals as goal

pub returns-in-CreateInstance-clause-formed : goal.returns-in-CreateInstance-clause-formed
returns-in-CreateInstance-clause-formed c = formed_at c.create_instance.result c.args.named_ops.now c.create_instance.ensures.formed

pub returns-in-Await-clause-formed : goal.returns-in-Await-clause-formed
returns-in-Await-clause-formed c = formed_at c.await_mark.result c.args.named_ops.now c.await_mark.ensures.formed
