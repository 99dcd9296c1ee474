-- What one who keeps a history has to know of it: how it grows, which actors there are, and what others' entries leave.
use Rattle.std.specs.Prelude.{◌≡◌, ◌+◌, ◌≤◌, ◌<◌, ◌==◌, ◌&&◌, ℕ, Bool, true, false, not, List, [], ◌∷◌, ◌++◌, slice_get, Some}
use Rattle.std.specs.List.{list_all}
use Rattle.xr_types.specs.declared.calls.Actor.{Actor}
use Rattle.xr_model.specs.machine.Calls.{Entry, is_actor}
use Rattle.xr_model.specs.machine.CoreCalls.{asked}
use Rattle.xr_model.specs.machine.Rule.{is_by}
use Rattle.xr_types.specs.CallKinds.{is_leave}
use Rattle.xr_model.specs.machine.State.{State}
use Rattle.xr_model.specs.machine.Machine.{IsPresent, step}
use Rattle.xr_model.specs.machine.History.{clock_of}
use Rattle.xr_model.specs.laws.ImageLaws.{is_compositor_call}
use Rattle.xr_model.specs.laws.Moments.{Moment, opening_moment, moment_after, MayCome, IsLegalAt, exchange_at, actor_at, calls_by}
use Rattle.xr_model.specs.laws.PublicationLaws.{none_is_by}

-- ---- how a history grows

-- a legal history with one more entry that may come is legal
abbrev pub LegalGrows : Type 0
LegalGrows = (m : Moment) (es : List Entry) (e : Entry) → IsLegalAt m es → MayCome (moment_after m es) e → IsLegalAt m (es ++ e ∷ [])

-- one more entry is one more call of its own actor, and none of another's
pub record GrowsCalls (m : Moment) (es : List Entry) (e : Entry) (n : ℕ) : Type 0 where
  pub own : e.actor ≡ actor_at n → calls_by n m (es ++ e ∷ []) ≡ calls_by n m es ++ exchange_at (moment_after m es) e ∷ []
  pub others : is_actor (actor_at n) e.actor ≡ false → calls_by n m (es ++ e ∷ []) ≡ calls_by n m es

abbrev pub CallsGrow : Type 0
CallsGrow = (m : Moment) (es : List Entry) (e : Entry) (n : ℕ) → GrowsCalls m es e n

-- Where a history has no more calls of an actor than its front has, no entry between is that actor's, and so it is with each front
-- between.
pub record HasNoneBetween (m : Moment) (es fs : List Entry) (n : ℕ) : Type 0 where
  pub none : none_is_by (actor_at n) fs ≡ true
  pub same : calls_by n m (es ++ fs) ≡ calls_by n m es

abbrev pub NoneLiesBetween : Type 0
NoneLiesBetween = (m : Moment) (es fs gs : List Entry) (n : ℕ) → calls_by n m (es ++ (fs ++ gs)) ≡ calls_by n m es → HasNoneBetween m es fs n

-- ---- which actors there are

-- no two numbers name one actor
abbrev pub NumbersAreApart : Type 0
NumbersAreApart = (m n : ℕ) → is_actor (actor_at m) (actor_at n) ≡ m == n

-- The actor has one of the numbers of a run of so many applications.
pub record HasNumber (apps : ℕ) (who : Actor) : Type 0 where
  pub number : ℕ
  pub is_below : number < apps + 2
  pub is : who ≡ actor_at number

-- each of these was asked by one who may ask for it
abbrev pub are_by_callers : List Entry → Bool
are_by_callers es = list_all (λ e. is_by (asked e.actor e.call).caller e.actor) es

-- Each entry of a legal history is by an actor that there is, so no other number has calls.
pub record IsByActors (apps : ℕ) (es : List Entry) : Type 0 where
  pub each : (k : ℕ) (e : Entry) → slice_get es k ≡ Some e → HasNumber apps e.actor
  pub others : (n : ℕ) → apps + 2 ≤ n → calls_by n (opening_moment apps) es ≡ []

abbrev pub EntriesAreByActors : Type 0
EntriesAreByActors = (apps : ℕ) (es : List Entry) → IsLegalAt (opening_moment apps) es → IsByActors apps es

-- ---- what others' entries leave

-- this actor doesn't leave by these
abbrev pub leaves_by_none : Actor → List Entry → Bool
leaves_by_none who es = list_all (λ e. not (is_actor who e.actor && is_leave e.call)) es

-- who is there stays there, until it leaves itself
abbrev pub ActorsStay : Type 0
ActorsStay =
    (m : Moment) (es : List Entry) (who : Actor) → IsLegalAt m es → leaves_by_none who es ≡ true → IsPresent m.state.core who
    → IsPresent (moment_after m es).state.core who

-- the clock at which the next wait of an actor begins stays over the entries of others
abbrev pub ClocksStay : Type 0
ClocksStay =
    (m : Moment) (es : List Entry) (who : Actor) → IsLegalAt m es → none_is_by who es ≡ true → IsPresent m.state.core who
    → clock_of (moment_after m es).clocks who ≡ clock_of m.clocks who

-- the compositor's two calls alone change which images are held
abbrev pub HeldImagesStay : Type 0
HeldImagesStay = (s : State) (e : Entry) → is_compositor_call e.call ≡ false → (step s e).0.cells.held ≡ s.cells.held
