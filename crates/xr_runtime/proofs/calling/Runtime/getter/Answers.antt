use Rattle.std.proofs.Common.{pos, [], refl, sym, ◌∙◌}
use Rattle.xr_types.specs.declared.frames.Shown.{Shown}
use Rattle.xr_model.specs.machine.CoreCalls.{as_lent}
use Rattle.xr_runtime.specs.Passes.{table_of}
use Rattle.xr_runtime.proofs.Passing.{app_read}
use Rattle.xr_runtime.proofs.Reading.{is_called, getters_not_locked, getters_stay}
use Rattle.xr_runtime.proofs.calling.Runtime.getter.Goals as goal

-- no frame is shown to it
nothing : Shown
nothing = record { number = 0; time = pos 0; layers = [] }

pub returns : goal.returns
returns c = record {
  called = λ text.
      let stays = c.requires.may.here ∙ sym (getters_stay c.args.call.now c.requires.getter) in
      let called = is_called c.args.pass.now.seat.me c.read-reply.new.seat.me c.args.call.now c.read-reply.result c.requires.getter c.read-reply.ensures.read (as_lent text nothing) in (
        nothing,
        nothing,
        app_read (table_of c.args.self.now) c.args.pass.now _ c.args.call.now c.read-reply.result (as_lent text nothing) (as_lent text nothing) c.requires.may called c.read-reply.ensures.own refl refl stays (getters_not_locked c.args.call.now c.requires.getter) refl,
      );
}
