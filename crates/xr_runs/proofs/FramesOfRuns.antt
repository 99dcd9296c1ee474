-- The frames of the compositor's calls are all that a history shows, and at its end all that were submitted.
use Rattle.std.proofs.Common.{◌≡◌, Bool, true, false, true≢false, List, [], ◌∷◌, ◌++◌, refl, sym, ap}
use Rattle.std.specs.Prelude.{◌&&◌, ◌||◌}
use Rattle.xr_types.specs.declared.calls.Actor.{Actor}
use Rattle.xr_types.specs.declared.calls.Actor.TheVariants.{App, Compositor, Device}
use Rattle.xr_types.specs.declared.calls.Gives.{Gives}
use Rattle.xr_types.specs.declared.frames.Shown.{Shown}
use Rattle.xr_model.specs.laws.FewCalls.{is_end}
use Rattle.xr_model.specs.laws.FrameLaws.{shown_from, submitted_from, is_told_end, was_told_end}
use Rattle.xr_model.specs.laws.ImageLaws.{is_next_frame}
use Rattle.xr_model.specs.laws.MomentLaws.{are_by_callers}
use Rattle.xr_model.specs.machine.CoreCalls.{asked}
use Rattle.xr_model.specs.machine.History.{shown_if, calls_from, calls_of, IsLegal}
use Rattle.xr_model.specs.machine.Machine.{step}
use Rattle.xr_model.specs.machine.Calls.{Entry, Exchange, is_actor}
use Rattle.xr_types.specs.declared.calls.Call.{Call}
use Rattle.xr_types.specs.declared.calls.Call.TheVariants as ask
use Rattle.xr_model.specs.machine.Rule.{is_by}
use Rattle.xr_model.specs.machine.State.{Settings, State, opening}
use Rattle.xr_model.specs.runs.Lists.{frames_in}
use Rattle.xr_model.proofs.EndOfFrames.{all_are_shown_at_the_end}
use Rattle.xr_model.proofs.Rows.{both_of}
use Rattle.xr_runs.specs.Runs.{IsEnd}
use Rattle.xr_runs.proofs.CallTexts.{IsHidden, shows_none}

-- a call of another than the compositor shows nothing
hidden : (r : Call) (who : Actor) → is_by (asked who r).caller who ≡ true → is_actor Compositor who ≡ false → IsHidden r
hidden ask.NextFrame (App k) own other = absurd (true≢false (sym own))
hidden ask.NextFrame Compositor own other = absurd (true≢false other)
hidden ask.NextFrame Device own other = absurd (true≢false (sym own))
hidden _ who own other = tt

pub all_shown : (s : State) (es : List Entry) → are_by_callers es ≡ true → frames_in (calls_from s Compositor es) ≡ shown_from s es
all_shown s [] own = refl
all_shown s (e ∷ es) own =
    let two = both_of (is_by (asked e.actor e.call).caller e.actor) (are_by_callers es) own in
    by (is_actor Compositor e.actor) refl two.0 (all_shown (step s e).0 es two.1)
  where
    by : (b : Bool) → is_actor Compositor e.actor ≡ b → is_by (asked e.actor e.call).caller e.actor ≡ true → frames_in (calls_from (step s e).0 Compositor es) ≡ shown_from (step s e).0 es
        → frames_in (calls_from s Compositor (e ∷ es)) ≡ shown_from s (e ∷ es)
    by true mine caller more = rw mine (ap (λ (l : List Shown). shown_if (step s e).1.shown ++ l) more)
    by false other caller more = rw (other, shows_none s e (hidden e.call e.actor caller other)) more

-- ---- at the end

or_true : (b : Bool) → b || true ≡ true
or_true true = refl
or_true false = refl

-- whose last call told the compositor the end, it was told
told_at_end : (s : State) (es : List Entry) → IsEnd (calls_from s Compositor es) → was_told_end s es ≡ true
told_at_end s [] ends = absurd ends
told_at_end s (e ∷ es) ends = by (is_actor Compositor e.actor) refl (told_at_end (step s e).0 es)
  where
    behind : was_told_end (step s e).0 es ≡ true → was_told_end s (e ∷ es) ≡ true
    behind more = rw more (or_true (is_told_end s e))

    mine : (ts : List Exchange) → IsEnd (record { call = e.call; outcome = (step s e).1 } ∷ ts) → (IsEnd ts → was_told_end (step s e).0 es ≡ true) → was_told_end s (e ∷ es) ≡ true
    mine [] end more = let tells : is_told_end s e ≡ true = ap (λ (z : Call × Gives). is_next_frame z.0 && is_end z.1) (λ i. (end.0 i, end.1 i)) in rw tells refl
    mine (u ∷ ts) end more = behind (more end.1)

    by : (b : Bool) → is_actor Compositor e.actor ≡ b → (IsEnd (calls_from (step s e).0 Compositor es) → was_told_end (step s e).0 es ≡ true) → was_told_end s (e ∷ es) ≡ true
    by true own more = mine (calls_from (step s e).0 Compositor es) (rw own at ends) more
    by false other more = behind (more (rw other at ends))

pub all_submitted : (settings : Settings) (es : List Entry) → IsLegal settings es → are_by_callers es ≡ true → IsEnd (calls_of settings Compositor es) → shown_from (opening settings) es ≡ submitted_from (opening settings) es
all_submitted settings es legal own ends = all_are_shown_at_the_end settings es legal own (told_at_end (opening settings) es ends)
