-- A history as one sees it who keeps it: the moment to which it leads, actors by numbers, and each number's calls.
use Rattle.std.specs.Prelude.{ℕ, zero, suc, ℤ, IsTrue, List, [], ◌∷◌}
use Rattle.xr_types.specs.declared.calls.Actor.{Actor}
use Rattle.xr_types.specs.declared.calls.Actor.TheVariants.{App, Compositor, Device}
use Rattle.xr_model.specs.machine.Calls.{Entry, Exchange}
use Rattle.xr_model.specs.machine.State.{State, with_apps, opening}
use Rattle.xr_model.specs.machine.Machine.{IsAllowed, ready, step}
use Rattle.xr_model.specs.machine.History.{after, calls_from, clock_of, clocks_after, opening_clocks, StartsAt, IsLegalFrom}

-- ---- moments

-- A moment of a history: the state, and beside it the clocks at which waits begin.
pub record Moment : Type 0 where
  pub state : State
  pub clocks : List ℤ

-- before any call of a run of so many applications
abbrev pub opening_moment : ℕ → Moment
opening_moment apps = record { state = opening (with_apps apps); clocks = opening_clocks (with_apps apps) }

-- the clocks behind a history
abbrev pub clocks_over : State → List ℤ → List Entry → List ℤ
clocks_over s clocks [] = clocks
clocks_over s clocks (e ∷ es) = clocks_over (step s e).0 (clocks_after clocks e (step s e).0) es

-- the moment to which a history leads
abbrev pub moment_after : Moment → List Entry → Moment
moment_after m es = record { state = after m.state es; clocks = clocks_over m.state m.clocks es }

-- The entry may come now: it is allowed and ready, and where it is a wait for an image it begins at its actor's clock.
pub record MayCome (m : Moment) (e : Entry) : Type 0 where
  pub allowed : IsAllowed m.state e
  pub starts : StartsAt (clock_of m.clocks e.actor) e.call
  pub is_ready : IsTrue (ready m.state e)

-- a history that is legal from a moment on
abbrev pub IsLegalAt : Moment → List Entry → Type 0
IsLegalAt m es = IsLegalFrom m.state m.clocks es

-- what an entry asks, and what it comes to now
unfoldable pub exchange_at : Moment → Entry → Exchange
exchange_at m e = record { call = e.call; outcome = (step m.state e).1 }

-- ---- actors by numbers

-- An actor has the same number in every run, and no number is left out: the device, the compositor, and then the applications.
abbrev pub actor_at : ℕ → Actor
actor_at zero = Device
actor_at (suc zero) = Compositor
actor_at (suc (suc k)) = App (suc k)

-- the calls of a number's actor in a history from a moment on, each with what it came to
abbrev pub calls_by : ℕ → Moment → List Entry → List Exchange
calls_by n m es = calls_from m.state (actor_at n) es
