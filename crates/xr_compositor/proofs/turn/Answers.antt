use Rattle.xr_runtime.specs.Passes.{table_of}
use Rattle.xr_compositor.proofs.Turning.{room_to_give_back, turned_shown, turned_ended}
use Rattle.xr_compositor.proofs.turn.Goals as goal

pub give_all_back-requires-clause-few : goal.give_all_back-requires-clause-few
give_all_back-requires-clause-few g c = room_to_give_back (table_of c.args.runtime.now) c.args.pass.now c.next_frame-reply.new.pass c.next_frame-reply.result _ _ c.requires.is c.next_frame-reply.ensures.called.1 c.requires.few

pub returns-in-Shown : goal.returns-in-Shown
returns-in-Shown g c = record { turns = turned_shown (table_of c.args.runtime.now) c.args.pass.now c.next_frame-reply.new.pass c.next_frame-reply.result _ _ c.requires.is c.next_frame-reply.ensures.called.1 c.give_all_back.new.pass c.in-Shown.is c.give_all_back.ensures.gave }

pub returns-in-Ended : goal.returns-in-Ended
returns-in-Ended g c = record { turns = turned_ended (table_of c.args.runtime.now) c.args.pass.now c.next_frame-reply.new.pass c.next_frame-reply.result _ _ c.requires.is c.next_frame-reply.ensures.called.1 c.in-Ended.is }
