-- A lost session stays so, and its end is asked for by its own call alone.
use Rattle.std.proofs.Common.{◌≡◌, ◌==◌, ◌&&◌, ◌||◌, ℕ, Bool, true, false, refl, ap, ◌∙◌}
use Rattle.std.specs.Prelude.{if◌then◌else◌}
use Rattle.xr_types.specs.Code.{is_success}
use Rattle.xr_types.specs.declared.device.DeviceEvent.{DeviceEvent}
use Rattle.xr_types.specs.declared.device.DeviceEvent.TheVariants as event
use Rattle.xr_types.specs.declared.calls.Call.{Call}
use Rattle.xr_types.specs.declared.calls.Call.TheVariants as ask
use Rattle.xr_model.specs.machine.SessionLife.{Life}
use Rattle.xr_model.specs.machine.Machine.{step, reads_of}
use Rattle.xr_model.specs.laws.SessionLifeLaws.{LostStaysLost, asks_for_end, OnlyItsCallAsksForTheEnd}
use Rattle.xr_model.proofs.SessionLives.{life_after, lived_on}

-- ---- lost

still_lost : (r : Call) (handle : ℕ) (good : Bool) (life : Life) → life.lost ≡ true → (life_after r handle good life).lost ≡ true
still_lost r handle good life lost = by r
  where
    either : (b : Bool) (new : Life) → new.lost ≡ true → (if b then new else life).lost ≡ true
    either true new does = does
    either false new does = lost

    events : (what : DeviceEvent) → (life_after (ask.Device what) handle good life).lost ≡ true
    events event.Lost = refl
    events event.Fault = refl
    events (event.Garbled line) = refl
    events _ = lost

    by : (r : Call) → (life_after r handle good life).lost ≡ true
    by (ask.BeginSession session view) = either (good && (session == handle)) (record life { running = true }) lost
    by (ask.EndSession session) = either (good && (session == handle)) (record life { running = false }) lost
    by (ask.RequestExitSession session) = either (good && (session == handle)) (record life { exit = true }) lost
    by (ask.Device what) = events what
    by _ = lost

pub lost_stays_lost : LostStaysLost
lost_stays_lost s e session x y before later lost =
    ap (λ (life : Life). life.lost) (lived_on s.core (reads_of s e.call) e session x y before later)
    ∙ still_lost e.call session (is_success (step s e).1.reply.code) x.life lost

-- ---- asked for

asked_after : (r : Call) (handle : ℕ) (good : Bool) (life : Life) → (life_after r handle good life).exit ≡ life.exit || (asks_for_end r handle && good)
asked_after r handle good life = by r
  where
    or_not : (b : Bool) → b ≡ b || false
    or_not true = refl
    or_not false = refl

    either : (b : Bool) (new : Life) → new.exit ≡ life.exit → (if b then new else life).exit ≡ life.exit || false
    either true new does = does ∙ or_not life.exit
    either false new does = or_not life.exit

    asks : (good mine : Bool) → (if good && mine then record life { exit = true } else life).exit ≡ life.exit || (mine && good)
    asks true true = or_is life.exit
      where
        or_is : (b : Bool) → true ≡ b || true
        or_is true = refl
        or_is false = refl
    asks true false = or_not life.exit
    asks false true = or_not life.exit
    asks false false = or_not life.exit

    events : (what : DeviceEvent) → (life_after (ask.Device what) handle good life).exit ≡ life.exit || false
    events event.Lost = or_not life.exit
    events _ = or_not life.exit

    by : (r : Call) → (life_after r handle good life).exit ≡ life.exit || (asks_for_end r handle && good)
    by (ask.BeginSession session view) = either (good && (session == handle)) (record life { running = true }) refl
    by (ask.EndSession session) = either (good && (session == handle)) (record life { running = false }) refl
    by (ask.RequestExitSession session) = asks good (session == handle)
    by (ask.Device what) = events what
    by _ = or_not life.exit

pub only_its_call_asks_for_the_end : OnlyItsCallAsksForTheEnd
only_its_call_asks_for_the_end s e session x y before later =
    ap (λ (life : Life). life.exit) (lived_on s.core (reads_of s e.call) e session x y before later)
    ∙ asked_after e.call session (is_success (step s e).1.reply.code) x.life
