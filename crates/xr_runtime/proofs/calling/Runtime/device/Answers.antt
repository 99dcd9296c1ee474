use Rattle.std.proofs.Common.{refl}
use Rattle.xr_types.specs.declared.calls.Call.TheVariants as ask
use Rattle.xr_runtime.specs.Passes.{table_of}
use Rattle.xr_runtime.proofs.Passing.{may_tell, told}
use Rattle.xr_runtime.proofs.calling.Runtime.device.Goals as goal

pub make-answered-requires-clause-may : goal.make-answered-requires-clause-may
make-answered-requires-clause-may g c = may_tell (table_of c.args.self.now) c.args.pass.now (ask.Device c.args.event) 0 c.requires.is c.requires.few (record { caller = refl; numbers = c.requires.checks; buffer = tt }) tt refl

pub returns : goal.returns
returns g c = record {
  called = told (table_of c.args.self.now) c.args.pass.now _ (ask.Device c.args.event) c.make-answered.result.reply _ _ c.requires.is c.make-answered.ensures.called c.make-answered.ensures.own refl;
}
