use Rattle.std.proofs.Common.{rules, ◌≡◌, ◌<◌, length, false, refl, ◌∙◌}
use Rattle.std.specs.Prelude.{slice_index_or}
use Rattle.xr_model.specs.machine.Images.{is_image}
use Rattle.xr_core.proofs.Stamps.{passed_over}
use Rattle.xr_core.proofs.showing.stamp_among.Goals as goal

pub loop-place-preserved : goal.loop-place-preserved
loop-place-preserved c =
    let less : c.loop-place.place < length c.args.images.now = search rules in
    let other : is_image c.args.image (slice_index_or c.args.images.now c.loop-place.place (record { place = 0; index = 0 })) ≡ false = search rules in
    (refl, c.loop-place.invariant.1 ∙ passed_over c.args.images.now c.args.stamps.now c.args.image c.loop-place.place less other)
