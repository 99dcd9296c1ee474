-- What holds of every state, entry and history.
use Rattle.std.specs.Prelude.{◌≡◌, ◌+◌, suc, ℕ, ℤ, Bool, true, List, [], ◌∷◌, ◌++◌, take, slice_get, Option, Some, None, if◌then◌else◌}
use Rattle.xr_types.specs.Code.{is_error}
use Rattle.xr_types.specs.declared.code.Code.{Code}
use Rattle.xr_types.specs.declared.code.Code.TheVariants.{TimeoutExpired, EventUnavailable}
use Rattle.xr_types.specs.declared.calls.Actor.{Actor}
use Rattle.xr_types.specs.CallKinds.{is_locked}
use Rattle.xr_model.specs.machine.Calls.{Entry, Outcome, Exchange}
use Rattle.xr_model.specs.machine.State.{Settings, State}
use Rattle.xr_model.specs.machine.Rule.{locked_after}
use Rattle.xr_model.specs.machine.Machine.{step}
use Rattle.xr_model.specs.machine.History.{after, calls_of, IsLegalFrom}
use Rattle.xr_model.specs.machine.Positions.{outcome_from, outcome_at, positions_of}

-- ---- refusals

-- A refusal, a timeout and the want of an event leave all as it was. That no session is in focus has an effect.
abbrev pub is_without_effect : Code → Bool
is_without_effect TimeoutExpired = true
is_without_effect EventUnavailable = true
is_without_effect code = is_error code

-- a call without an effect changes nothing but the count of locked calls
abbrev pub RefusalsChangeNothing : Type 0
RefusalsChangeNothing =
    (s : State) (e : Entry) → is_without_effect (step s e).1.reply.code ≡ true
    → (step s e).0 ≡ record s { core = record s.core { locked = locked_after s.core e.call } }

-- ---- states and counts

-- two histories, one after the other
abbrev pub AfterIsInTurn : Type 0
AfterIsInTurn = (s : State) (es fs : List Entry) → after s (es ++ fs) ≡ after (after s es) fs

-- how many entries of a history are locked calls
abbrev pub count_locked : List Entry → ℕ
count_locked [] = 0
count_locked (e ∷ es) = if is_locked e.call then count_locked es + 1 else count_locked es

-- each locked call raises the count of them by one, and no other entry does
abbrev pub EntriesAreCounted : Type 0
EntriesAreCounted = (s : State) (es : List Entry) → (after s es).core.locked ≡ s.core.locked + count_locked es

abbrev pub HasPlace : ℕ → Option Outcome → Type 0
HasPlace place None = ⊥
HasPlace place (Some outcome) = outcome.reply.place ≡ place

-- the reply to a locked call has as its place the count of locked calls up to it, itself included
abbrev pub PlacesCount : Type 0
PlacesCount =
    (s : State) (es : List Entry) (k : ℕ) (e : Entry) → slice_get es k ≡ Some e → is_locked e.call ≡ true
    → HasPlace (s.core.locked + count_locked (take (suc k) es)) (outcome_from s es k)

-- the front of a legal history is legal
abbrev pub FrontsAreLegal : Type 0
FrontsAreLegal = (s : State) (clocks : List ℤ) (es fs : List Entry) → IsLegalFrom s clocks (es ++ fs) → IsLegalFrom s clocks es

-- ---- replies and actors

-- the entry at this position is this actor's and asks this, and the exchange is what it came to
pub record Stands (settings : Settings) (who : Actor) (es : List Entry) (k : ℕ) (x : Exchange) : Type 0 where
  pub position : ℕ
  pub own : slice_get (positions_of who es) k ≡ Some position
  pub entry : Entry
  pub there : slice_get es position ≡ Some entry
  pub asks : entry.call ≡ x.call
  pub comes : outcome_at settings es position ≡ Some x.outcome

-- each exchange of an actor is the call and the outcome at the position of that entry of the actor
abbrev pub ExchangesStand : Type 0
ExchangesStand = (settings : Settings) (who : Actor) (es : List Entry) (k : ℕ) (x : Exchange) → slice_get (calls_of settings who es) k ≡ Some x → Stands settings who es k x
