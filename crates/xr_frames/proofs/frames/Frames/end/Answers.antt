use Rattle.std.proofs.Common.{rules, ◌≡◌, ◌<◌, true, length, arith}
use Rattle.std.specs.Prelude.{slice_index_or}
use Rattle.xr_model.specs.machine.Frames.{new_loop}
use Rattle.xr_frames.proofs.Busy.{room_for_it}
use Rattle.xr_frames.proofs.frames.Frames.end.Goals as goal

pub push-requires : goal.push-requires
push-requires c =
    let within : c.args.slot < length c.self.inside.loops = search rules in
    let begun : (slice_index_or c.self.inside.loops c.args.slot new_loop).has_begun ≡ true = search rules in
    let room = room_for_it c.self.inside.loops c.args.slot (length c.self.inside.pending.items) _ within begun c.self.invariant in
    (omega arith, room)
