use Rattle.std.proofs.Common.{rules, refl, ◌∙◌, w64, to_z-of_z, SFits}
use Rattle.xr_runtime.specs.Passes.{table_of}
use Rattle.xr_runtime.proofs.Passing.{app_called}
use Rattle.xr_runtime.proofs.calling.Runtime.lent.Goals as goal

pub returns : goal.returns
returns g c =
    let fits : SFits w64 c.next_clock-pass.result = search rules in record {
      called = app_called (table_of c.args.self.now) c.args.pass.now _ c.args.call.now c.make-answered.result.reply _ _ c.requires.may c.make-answered.ensures.called
          c.make-answered.result.clock c.make-answered.result.taken.items c.make-answered.ensures.own c.make-answered.ensures.reads refl refl c.is_leave-pass.ensures (to_z-of_z fits ∙ c.next_clock-pass.ensures);
    }
