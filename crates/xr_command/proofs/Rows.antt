-- What `clap` found, as the rows of its statement.
use Rattle.clap.proofs.WalkLemmas.{first_value-rows}

pub ruleset rows = (first_value-rows)
