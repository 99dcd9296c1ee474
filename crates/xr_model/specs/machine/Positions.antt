-- What stands at a position of a history.
use Rattle.std.specs.Prelude.{◌+◌, zero, suc, ℕ, List, [], ◌∷◌, Option, Some, None, if◌then◌else◌}
use Rattle.xr_types.specs.declared.calls.Actor.{Actor}
use Rattle.xr_model.specs.machine.Calls.{Entry, Outcome, is_actor}
use Rattle.xr_model.specs.machine.State.{Settings, State, opening}
use Rattle.xr_model.specs.machine.Machine.{step}

-- the outcome of the entry at a position of a history, from 0
abbrev pub outcome_from : State → List Entry → ℕ → Option Outcome
outcome_from s [] k = None
outcome_from s (e ∷ es) zero = Some (step s e).1
outcome_from s (e ∷ es) (suc k) = outcome_from (step s e).0 es k

abbrev pub outcome_at : Settings → List Entry → ℕ → Option Outcome
outcome_at settings history k = outcome_from (opening settings) history k

-- the positions of an actor's entries, where the history stands behind so many others
abbrev pub positions_from : ℕ → Actor → List Entry → List ℕ
positions_from n who [] = []
positions_from n who (e ∷ es) = if is_actor who e.actor then n ∷ positions_from (n + 1) who es else positions_from (n + 1) who es

abbrev pub positions_of : Actor → List Entry → List ℕ
positions_of who history = positions_from 0 who history
