use Rattle.std.proofs.Common.{pos, [], refl}
use Rattle.xr_model.specs.machine.CoreCalls.{as_lent}
use Rattle.xr_types.specs.declared.calls.Call.TheVariants as ask
use Rattle.xr_runtime.specs.Passes.{table_of}
use Rattle.xr_runtime.proofs.Passing.{composed}
use Rattle.xr_runtime.proofs.Returning.{may_return, is_placed, done_reply, done_called, rest_is_held}
use Rattle.xr_runtime.proofs.calling.Runtime.image_done.Goals as goal

pub give_back-requires-clause-placed : goal.give_back-requires-clause-placed
give_back-requires-clause-placed c =
    is_placed (table_of c.args.self.now) c.args.pass.now c.remove-image.result c.remove-image.new.self.items c.requires.is c.requires.unended c.requires.some_held c.remove-image.ensures.value c.remove-image.ensures.items

pub give_back-requires-clause-may : goal.give_back-requires-clause-may
give_back-requires-clause-may c =
    may_return (table_of c.args.self.now) c.args.pass.now c.remove-image.result c.remove-image.new.self.items c.requires.is c.requires.unended c.requires.some_held c.remove-image.ensures.value c.remove-image.ensures.items

pub returns : goal.returns
returns c =
    let old = c.args.pass.now in
    let may = may_return (table_of c.args.self.now) old c.remove-image.result c.remove-image.new.self.items c.requires.is c.requires.unended c.requires.some_held c.remove-image.ensures.value c.remove-image.ensures.items in
    let decides = c.give_back.ensures.decides in
    let held = rest_is_held (table_of c.args.self.now) old c.remove-image.result c.remove-image.new.self.items c.requires.is c.requires.unended c.requires.some_held c.remove-image.ensures.value c.remove-image.ensures.items c.give_back.new.seat.me decides.0 decides.1 in
    let lent = as_lent [] (record { number = 0; time = pos 0; layers = [] }) in
    let called = done_called old.seat.me c.give_back.new.seat.me c.remove-image.result decides.0 may decides.1 c.give_back.ensures.carries lent in record {
      called = (
        lent,
        lent,
        composed (table_of c.args.self.now) old _ ask.ImageDone done_reply lent lent c.requires.is called c.give_back.ensures.own held refl c.requires.unended c.requires.unended,
      );
    }
