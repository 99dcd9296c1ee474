-- What holds of getters and of what they answer from, in every legal history (OpenXR 1.0 chapter 11, the getters of action states).
use Rattle.std.specs.Prelude.{◌≡◌, not, Bool, true, false, List, [], ◌∷◌, ◌++◌, Some}
use Rattle.std.specs.List.{list_all}
use Rattle.xr_types.specs.declared.calls.Actor.{Actor}
use Rattle.xr_types.specs.CallKinds.{is_getter, publishes}
use Rattle.xr_model.specs.machine.Calls.{Entry, is_actor}
use Rattle.xr_model.specs.machine.Publication.{publication_of}
use Rattle.xr_model.specs.machine.Reads.{published_last, reads}
use Rattle.xr_model.specs.machine.State.{Settings, State, opening}
use Rattle.xr_model.specs.machine.Machine.{ready, step}
use Rattle.xr_model.specs.machine.History.{after, calls_of, IsLegal}

-- ---- getters

-- a getter leaves the whole state, the count of calls too
abbrev pub GettersChangeNothing : Type 0
GettersChangeNothing = (s : State) (e : Entry) → is_getter e.call ≡ true → (step s e).0 ≡ s

-- a getter never waits
abbrev pub GettersAreReady : Type 0
GettersAreReady = (s : State) (e : Entry) → is_getter e.call ≡ true → ready s e ≡ true

-- what a getter is answered, its place too, is read of the publication alone
abbrev pub GettersRead : Type 0
GettersRead = (s : State) (e : Entry) → is_getter e.call ≡ true → reads (publication_of s.core) e.call ≡ Some (step s e).1

-- ---- what is published

-- what the calls that publish left last is what the current state gives, so a getter is never behind its place
abbrev pub PublishedIsCurrent : Type 0
PublishedIsCurrent = (settings : Settings) (es : List Entry) → IsLegal settings es → published_last settings es ≡ publication_of (after (opening settings) es).core

-- ---- getters move

-- no entry of these publishes
abbrev pub NonePublishes : State → List Entry → Type 0
NonePublishes s [] = Unit {0}
NonePublishes s (e ∷ es) = (publishes e.call (step s e).1.reply.code ≡ false) × NonePublishes (step s e).0 es

-- none of these is the actor's
abbrev pub none_is_by : Actor → List Entry → Bool
none_is_by who es = list_all (λ e. not (is_actor who e.actor)) es

-- an entry may as well stand before these as behind them
pub record Moves (settings : Settings) (es fs gs : List Entry) (e : Entry) : Type 0 where
  pub earlier : IsLegal settings (es ++ (fs ++ e ∷ gs)) → IsLegal settings (es ++ e ∷ (fs ++ gs))
  pub later : IsLegal settings (es ++ e ∷ (fs ++ gs)) → IsLegal settings (es ++ (fs ++ e ∷ gs))
  pub same : (who : Actor) → calls_of settings who (es ++ e ∷ (fs ++ gs)) ≡ calls_of settings who (es ++ (fs ++ e ∷ gs))

-- A getter may stand at each place from a publication to the next, as long as its actor's calls keep their order: every actor's calls
-- come to what they came to.
abbrev pub GettersMove : Type 0
GettersMove =
    (settings : Settings) (es fs gs : List Entry) (e : Entry) → IsLegal settings (es ++ fs) → NonePublishes (after (opening settings) es) fs
    → is_getter e.call ≡ true → none_is_by e.actor fs ≡ true → Moves settings es fs gs e
