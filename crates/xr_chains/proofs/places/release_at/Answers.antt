use Rattle.xr_model.specs.machine.Chains.{releasing}
use Rattle.xr_chains.proofs.ChainPlaces.{changed_at}
use Rattle.xr_chains.proofs.places.release_at.Goals as goal

pub returns : goal.returns
returns c = rw (c.release.ensures, ← c.index-places-place.is) (changed_at c.args.places.now c.args.handle c.args.place c.index-places-place.result c.requires.found c.index-places-place.is releasing)
