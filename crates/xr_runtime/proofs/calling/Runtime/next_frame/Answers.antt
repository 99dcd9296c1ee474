use Rattle.std.proofs.Common.{refl}
use Rattle.xr_types.specs.declared.calls.Call.TheVariants as ask
use Rattle.xr_runtime.specs.Passes.{table_of}
use Rattle.xr_runtime.proofs.Passing.{may_ask_frame, composed}
use Rattle.xr_runtime.proofs.calling.Runtime.next_frame.Goals as goal

pub make-taken-requires-clause-may : goal.make-taken-requires-clause-may
make-taken-requires-clause-may g c = may_ask_frame (table_of c.args.self.now) c.args.pass.now 0 c.requires.is c.requires.unended c.requires.none_held

pub returns : goal.returns
returns g c = record {
  called = (
    _,
    composed (table_of c.args.self.now) c.args.pass.now _ ask.NextFrame c.make-taken.result.reply _ _ c.requires.is c.make-taken.ensures.called c.make-taken.ensures.own (c.make-taken.ensures.reads.images_are refl) refl c.requires.unended c.is_told_end-pass.ensures,
  );
}
