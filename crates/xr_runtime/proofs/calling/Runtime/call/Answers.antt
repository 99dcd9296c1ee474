use Rattle.std.proofs.Common.{rules, ◌≡◌, w64, to_z, of_z, sym, ◌∙◌}
use Rattle.xr_runtime.specs.Passes.{table_of}
use Rattle.xr_runtime.proofs.Begun.{as_it_is, as_read, begins}
use Rattle.xr_runtime.proofs.calling.Runtime.call.Goals as goal

pub returns-then-is_getter : goal.returns-then-is_getter
returns-then-is_getter g c = record { called = as_read (table_of c.args.self.now) c.args.pass.now c.getter.new.pass c.args.call.now c.args.text.now c.getter.result (sym c.is_getter.ensures ∙ c.if-is_getter.true) (c.getter.ensures.called c.args.text.now) }

pub returns-in-WaitImage : goal.returns-in-WaitImage
returns-in-WaitImage g c =
    let waits : to_z w64 (of_z w64 c.in-WaitImage.timeout) ≡ c.in-WaitImage.timeout = search rules in
    let begun : to_z w64 (of_z w64 c.args.pass.now.clock) ≡ c.args.pass.now.clock = search rules in record {
      called = (c.default-shown.result, c.lent.new.shown, begins (table_of c.args.self.now) c.args.pass.now c.lent.new.pass c.args.call.now _ _ c.lent.result c.in-WaitImage.chain c.in-WaitImage.timeout c.in-WaitImage.start _ _ c.in-WaitImage.is waits begun c.lent.ensures.called);
    }

pub returns-in_default : goal.returns-in_default
returns-in_default g c = record {
  called = (c.default-shown.result, c.lent-in_default.new.shown, as_it_is (table_of c.args.self.now) c.args.pass.now c.lent-in_default.new.pass c.args.call.now _ _ c.lent-in_default.result c.in_default.not-WaitImage c.lent-in_default.ensures.called);
}
