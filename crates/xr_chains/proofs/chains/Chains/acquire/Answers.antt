use Rattle.std.proofs.Common.{◌≡◌, ◌∙◌, ℕ, Some, sym}
use Rattle.std.specs.List.{position_from}
use Rattle.xr_model.specs.machine.Chains.{is_chain, acquiring}
use Rattle.xr_chains.proofs.ChainPlaces.{found_at, changed_unless}
use Rattle.xr_chains.proofs.chains.Chains.acquire.Goals as goal

pub returns-in-Some-clause-chains : goal.returns-in-Some-clause-chains
returns-in-Some-clause-chains c =
    let places = c.self.inside.places in
    let place = c.in-Some.place in
    let x = c.index-self-place.result in
    let there : position_from (is_chain c.args.handle) 0 places ≡ Some place = sym c.place_of.ensures.place ∙ c.in-Some.is in
    rw (← c.self.view_is) (rw (found_at places c.args.handle place x there c.index-self-place.is, c.acquire.ensures.chain, ← c.index-self-place.is) (changed_unless places c.args.handle place x there c.index-self-place.is _ acquiring))
