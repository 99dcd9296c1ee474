-- Histories: the state after one, legal ones, the outcomes of their entries, and each actor's calls.
use Rattle.std.specs.Prelude.{◌≡◌, ◌-◌, ℤ, pos, IsTrue, List, [], ◌∷◌, Option, Some, None, replicate, slice_get, slice_set, unwrap_or, if◌then◌else◌}
use Rattle.xr_types.specs.declared.calls.Actor.{Actor}
use Rattle.xr_types.specs.declared.calls.Actor.TheVariants.{App, Compositor, Device}
use Rattle.xr_types.specs.declared.frames.Shown.{Shown}
use Rattle.xr_types.specs.CallKinds.{is_locked}
use Rattle.xr_model.specs.machine.Calls.{Entry, Exchange, is_actor}
use Rattle.xr_types.specs.declared.calls.Call.{Call}
use Rattle.xr_types.specs.declared.calls.Call.TheVariants as ask
use Rattle.xr_model.specs.machine.State.{Settings, State, opening}
use Rattle.xr_model.specs.machine.Machine.{IsAllowed, ready, step}

-- the state after a history that begins in this state
abbrev pub after : State → List Entry → State
after s [] = s
after s (e ∷ es) = after (step s e).0 es

-- ---- legal histories

-- the device's clock after each application's last locked call, 0 where it has made none
abbrev pub opening_clocks : Settings → List ℤ
opening_clocks settings = replicate settings.apps (pos 0)

-- when a wait of this actor begins
abbrev pub clock_of : List ℤ → Actor → ℤ
clock_of clocks (App k) = unwrap_or (slice_get clocks (k - 1)) (pos 0)
clock_of clocks Compositor = pos 0
clock_of clocks Device = pos 0

abbrev pub with_clock : List ℤ → Actor → ℤ → List ℤ
with_clock clocks (App k) time = slice_set clocks (k - 1) time
with_clock clocks Compositor time = clocks
with_clock clocks Device time = clocks

abbrev pub clocks_after : List ℤ → Entry → State → List ℤ
clocks_after clocks e s = if is_locked e.call then with_clock clocks e.actor s.core.device.clock else clocks

-- a wait for an image begins at the clock after its application's last locked call
abbrev pub StartsAt : ℤ → Call → Type 0
StartsAt clock (ask.WaitImage chain timeout start) = start ≡ clock
StartsAt clock _ = Unit {0}

-- each entry is allowed and ready in the state after the entries before it
abbrev pub IsLegalFrom : State → List ℤ → List Entry → Type 0
IsLegalFrom s clocks [] = Unit {0}
IsLegalFrom s clocks (e ∷ es) = IsAllowed s e × StartsAt (clock_of clocks e.actor) e.call × IsTrue (ready s e) × IsLegalFrom (step s e).0 (clocks_after clocks e (step s e).0) es

-- a legal history of a run that is begun so
abbrev pub IsLegal : Settings → List Entry → Type 0
IsLegal settings history = IsLegalFrom (opening settings) (opening_clocks settings) history

-- ---- what was answered

-- the frame that a call shows, if it shows one
abbrev pub shown_if : Option Shown → List Shown
shown_if None = []
shown_if (Some f) = f ∷ []

-- the calls that an actor makes in a history, each with what it came to
abbrev pub calls_from : State → Actor → List Entry → List Exchange
calls_from s who [] = []
calls_from s who (e ∷ es) =
    if is_actor who e.actor then record { call = e.call; outcome = (step s e).1 } ∷ calls_from (step s e).0 who es
    else calls_from (step s e).0 who es

abbrev pub calls_of : Settings → Actor → List Entry → List Exchange
calls_of settings who history = calls_from (opening settings) who history
