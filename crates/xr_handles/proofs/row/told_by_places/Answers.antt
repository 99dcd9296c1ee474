use Rattle.std.proofs.Common.{rules, ◌≡◌, length, false}
use Rattle.xr_model.specs.machine.Handles.{free}
use Rattle.xr_handles.proofs.Places.{told_by_places}
use Rattle.xr_handles.proofs.row.told_by_places.Goals as goal

-- what the map tells of each place
pub returns : goal.returns
returns c =
    let long : length c.args.row.now ≡ 64 = search rules in
    told_by_places c.args.row.now c.map.result 64 long c.map.ensures.items.long (λ i below.
    let at = c.map.ensures.items.at i free false below in search rules)
