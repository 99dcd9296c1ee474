-- A session's loop changes beside its life: neither looks at the other, so that it doesn't matter which comes first.
use Rattle.std.proofs.Common.{◌≡◌, ◌==◌, ℕ, Bool, true, false, List, [], ◌∷◌, Option, Some, None, option_map, refl, ap, ◌∙◌}
use Rattle.std.specs.Prelude.{if◌then◌else◌}
use Rattle.xr_model.specs.machine.Frames.{FrameLoop, reset_loop}
use Rattle.xr_model.specs.machine.LiveSessions.{Session, session_at, loop_in, with_life, with_life_at, with_frame_loop, with_session_at}
use Rattle.xr_model.specs.machine.SessionLife.{Life, Changed}
use Rattle.xr_model.specs.machine.State.{CoreState}
use Rattle.xr_model.specs.machine.Target.{settled}
use Rattle.xr_model.specs.machine.Rules.Session.{loop_of, changed_in, told_of, with_change, with_loop}
use Rattle.xr_core.specs.inside.Changes.{changed_alone, with_period}
use Rattle.xr_core.specs.declared.sessions.LifeCall.{LifeCall}
use Rattle.xr_core.specs.declared.sessions.LifeCall.TheVariants.{Begin, End, RequestExit}

module _ (life : Life) (l : FrameLoop) (a b : ℕ) where
  either_first : (xs : List Session) → with_session_at a (with_frame_loop l) (with_life_at b life xs) ≡ with_life_at b life (with_session_at a (with_frame_loop l) xs)
  either_first [] = refl
  either_first (x ∷ xs) = by (x.handle == a) refl (x.handle == b) refl (either_first xs)
    where
      by : (c : Bool) → (x.handle == a) ≡ c → (d : Bool) → (x.handle == b) ≡ d → with_session_at a (with_frame_loop l) (with_life_at b life xs) ≡ with_life_at b life (with_session_at a (with_frame_loop l) xs)
          → with_session_at a (with_frame_loop l) (if d then with_life life x ∷ xs else x ∷ with_life_at b life xs) ≡ with_life_at b life (if c then with_frame_loop l x ∷ xs else x ∷ with_session_at a (with_frame_loop l) xs)
      by true ec true ed more = rw (ec, ed) refl
      by true ec false ed more = rw (ec, ed) refl
      by false ec true ed more = rw (ec, ed) refl
      by false ec false ed more = rw (ec, ed) (ap (λ (ys : List Session). x ∷ ys) more)

loop_lives : (life : Life) (b : ℕ) (xs : List Session) (k : ℕ) → loop_in (session_at (with_life_at b life xs) k) ≡ loop_in (session_at xs k)
loop_lives life b [] k = refl
loop_lives life b (x ∷ xs) k = by (x.handle == b) (x.handle == k) refl (loop_lives life b xs k)
  where
    by : (d c : Bool) → (x.handle == k) ≡ c → loop_in (session_at (with_life_at b life xs) k) ≡ loop_in (session_at xs k) → loop_in (session_at (if d then with_life life x ∷ xs else x ∷ with_life_at b life xs) k) ≡ loop_in (session_at (x ∷ xs) k)
    by true true ec more = rw ec refl
    by true false ec more = rw ec refl
    by false true ec more = rw ec refl
    by false false ec more = rw ec more

module _ (s : CoreState) (session : ℕ) (f : Life → Changed) where
  reset_first : (o : Option Session) → with_session_at session (with_frame_loop (reset_loop (loop_in (session_at (changed_in o f s.sessions) session)))) (changed_in o f s.sessions)
      ≡ changed_in o f (with_session_at session (with_frame_loop (reset_loop (loop_in (session_at s.sessions session)))) s.sessions)
  reset_first None = refl
  reset_first (Some x) =
      ap (λ (l : FrameLoop). with_session_at session (with_frame_loop (reset_loop l)) (with_life_at x.handle (f x.life).life s.sessions)) (loop_lives (f x.life).life x.handle s.sessions session)
      ∙ either_first (f x.life).life (reset_loop (loop_in (session_at s.sessions session))) session x.handle s.sessions

  reset_behind : settled (with_loop (changed_alone s (session_at s.sessions session) f) session (reset_loop (loop_of (changed_alone s (session_at s.sessions session) f) session)))
      ≡ with_change (with_loop s session (reset_loop (loop_of s session))) (session_at s.sessions session) f
  reset_behind = ap (λ (xs : List Session). settled (record s { sessions = xs; events = told_of (session_at s.sessions session) f s.events })) (reset_first (session_at s.sessions session))

  -- a period that begins or ends behind the change is one that begins or ends before it
  pub period_behind : (call : LifeCall) → settled (with_period (changed_alone s (session_at s.sessions session) f) session call) ≡ with_change (with_period s session call) (session_at s.sessions session) f
  period_behind (Begin view) = reset_behind
  period_behind End = reset_behind
  period_behind RequestExit = refl

found_looped : (l : FrameLoop) (xs : List Session) (k : ℕ) → session_at (with_session_at k (with_frame_loop l) xs) k ≡ option_map (with_frame_loop l) (session_at xs k)
found_looped l [] k = refl
found_looped l (x ∷ xs) k = by (x.handle == k) refl (found_looped l xs k)
  where
    by : (c : Bool) → (x.handle == k) ≡ c → session_at (with_session_at k (with_frame_loop l) xs) k ≡ option_map (with_frame_loop l) (session_at xs k)
        → session_at (if c then with_frame_loop l x ∷ xs else x ∷ with_session_at k (with_frame_loop l) xs) k ≡ option_map (with_frame_loop l) (if c then Some x else session_at xs k)
    by true ec more = rw ec refl
    by false ec more = rw ec more

-- a session whose loop has changed changes as it would have
pub changes_looped : (s : CoreState) (session : ℕ) (l : FrameLoop) (f : Life → Changed) → with_change (with_loop s session l) (session_at (with_loop s session l).sessions session) f ≡ with_change (with_loop s session l) (session_at s.sessions session) f
changes_looped s session l f = ap (λ (o : Option Session). with_change (with_loop s session l) o f) (found_looped l s.sessions session) ∙ by (session_at s.sessions session)
  where
    by : (o : Option Session) → with_change (with_loop s session l) (option_map (with_frame_loop l) o) f ≡ with_change (with_loop s session l) o f
    by None = refl
    by (Some x) = refl
