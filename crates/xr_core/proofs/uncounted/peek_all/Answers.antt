use Rattle.std.proofs.Common.{rules, ◌≡◌, ◌<◌, ◌≤◌, ◌+◌, length}
use Rattle.xr_core.proofs.Touching.{next_is, none_is_left, may_peek, peeked, all_peeked}
use Rattle.xr_core.proofs.uncounted.peek_all.Goals as goal

pub peek-requires : goal.peek-requires
peek-requires g c =
    let less : c.loop-image.image-index < length c.args.images.now = search rules in
    may_peek g.C.Cells.may g.C.Cells.does c.args.cells.now c.loop-image.cells c.args.images.now _ _ c.loop-image.stamps.items
    (next_is g.C.Cells.may g.C.Cells.does c.args.cells.now c.loop-image.cells c.args.images.now c.loop-image.image-index c.loop-image.stamps.items less c.loop-image.invariant.1)

pub loop-image-preserved : goal.loop-image-preserved
loop-image-preserved g c =
    let less : c.loop-image.image-index < length c.args.images.now = search rules in
    let now = next_is g.C.Cells.may g.C.Cells.does c.args.cells.now c.loop-image.cells c.args.images.now c.loop-image.image-index c.loop-image.stamps.items less c.loop-image.invariant.1 in
    let long : length c.push.new.self.items ≡ c.loop-image.image-index + 1 = search rules in
    (long, rw c.push.ensures.items (peeked g.C.Cells.may g.C.Cells.does c.args.cells.now c.loop-image.cells c.peek.new.self c.args.images.now _ _ c.loop-image.stamps.items c.peek.result now c.peek.ensures))

pub returns-clause-cells : goal.returns-clause-cells
returns-clause-cells g c =
    let more : length c.args.images.now ≤ c.loop-image.image-index = search rules in
    all_peeked g.C.Cells.may g.C.Cells.does c.args.cells.now c.loop-image.cells c.args.images.now c.loop-image.stamps.items
    (none_is_left g.C.Cells.may g.C.Cells.does c.args.cells.now c.loop-image.cells c.args.images.now c.loop-image.image-index c.loop-image.stamps.items more c.loop-image.invariant.1)
