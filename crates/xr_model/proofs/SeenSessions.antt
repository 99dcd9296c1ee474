-- Which changes of sessions change nothing of what is published: all but the device's loss.
use Rattle.std.proofs.Common.{◌≡◌, ◌==◌, ℕ, Bool, true, false, List, [], ◌∷◌, map, Option, Some, None, refl, ap, sym, subst, ◌∙◌, true≢false}
use Rattle.std.specs.Prelude.{if◌then◌else◌}
use Rattle.xr_types.specs.declared.device.Wish.{Wish}
use Rattle.xr_types.specs.declared.device.Wish.TheVariants as wish
use Rattle.xr_types.specs.declared.session.SessionState.{SessionState}
use Rattle.xr_types.specs.declared.session.SessionState.TheVariants.{Idle, Ready, Synchronized, Stopping, LossPending}
use Rattle.xr_model.specs.machine.Handles.{Handles}
use Rattle.xr_model.specs.machine.LiveSessions.{Session, session_at, with_session_at, with_life, each_changed, with_frame_loop}
use Rattle.xr_model.specs.machine.Publication.{PublishedSession, published_session}
use Rattle.xr_model.specs.machine.Rules.Session.{changed_in}
use Rattle.xr_model.specs.machine.SessionLife.{Life, Changed, unchanged, changes, most_changes, last_of, is_state, settled_session, ended_session, exiting_session, synced_session}
use Rattle.xr_model.specs.machine.SessionRule.{Loss, loss_of}
use Rattle.xr_model.specs.machine.Sets.{Action}
use Rattle.xr_model.specs.machine.Target.{target_of, is_target, own_wish, Standing, other_settled, target_settled, rounds, most_rounds}
use Rattle.xr_model.proofs.Listed.{found_once}
use Rattle.xr_model.proofs.Targets.{once_is_enough}
use Rattle.xr_model.specs.machine.Frames.{FrameLoop}

-- ---- the table of states

-- to settle is neither to come into the pending loss nor out of it
settles : (w : Wish) (exit : Bool) (state : SessionState) → is_state (last_of state (changes most_changes w exit state)) LossPending ≡ is_state state LossPending
settles wish.Rest true Idle = refl
settles wish.Rest true _ = refl
settles wish.Rest false Idle = refl
settles wish.Rest false _ = refl
settles wish.Ready true Idle = refl
settles wish.Ready true _ = refl
settles wish.Ready false Idle = refl
settles wish.Ready false _ = refl
settles wish.Visible true Idle = refl
settles wish.Visible true _ = refl
settles wish.Visible false Idle = refl
settles wish.Visible false _ = refl
settles wish.Focused true Idle = refl
settles wish.Focused true _ = refl
settles wish.Focused false Idle = refl
settles wish.Focused false _ = refl

pub settled_loss : (w : Wish) (life : Life) → loss_of (settled_session w life).life ≡ loss_of life
settled_loss w life = rw (settles w life.exit life.state) refl

pub exiting_loss : (w : Wish) (life : Life) → loss_of (exiting_session w life).life ≡ loss_of life
exiting_loss w life = rw (settles w true life.state) refl

stopping_aside : (state : SessionState) → is_state state Stopping ≡ true → is_state state LossPending ≡ false
stopping_aside LossPending is = absurd (true≢false (sym is))
stopping_aside _ is = refl

-- a session that stops has no loss pending, and neither has one that is idle
pub ended_loss : (w : Wish) (life : Life) → is_state life.state Stopping ≡ true → loss_of (ended_session w life).life ≡ loss_of life
ended_loss w life is = rw (settles w life.exit Idle, stopping_aside life.state is) refl

ready_aside : (state : SessionState) → is_state state Ready ≡ true → is_state state LossPending ≡ false
ready_aside LossPending is = absurd (true≢false (sym is))
ready_aside _ is = refl

pub synced_loss : (w : Wish) (life : Life) → loss_of (synced_session w life).life ≡ loss_of life
synced_loss w life = by (is_state life.state Ready) refl
  where
    by : (b : Bool) → is_state life.state Ready ≡ b → loss_of (synced_session w life).life ≡ loss_of life
    by true eb = rw (eb, settles w life.exit Synchronized, ready_aside life.state eb) refl
    by false eb = rw eb refl

other_loss : (w : Wish) (target : ℕ) (x : Session) → loss_of (other_settled w target x).life ≡ loss_of x.life
other_loss w target x = by (is_target target x)
  where
    by : (b : Bool) → loss_of (if b then unchanged x.life else settled_session (own_wish w target x) x.life).life ≡ loss_of x.life
    by true = refl
    by false = settled_loss (own_wish w target x) x.life

target_loss : (w : Wish) (target : ℕ) (x : Session) → loss_of (target_settled w target x).life ≡ loss_of x.life
target_loss w target x = by (is_target target x)
  where
    by : (b : Bool) → loss_of (if b then settled_session (own_wish w target x) x.life else unchanged x.life).life ≡ loss_of x.life
    by true = settled_loss (own_wish w target x) x.life
    by false = refl

-- ---- what is published of the sessions

module _ (h : Handles) (actions : List Action) where
  abbrev seen : Session → PublishedSession
  seen = published_session h actions

  abbrev all_seen : List Session → List PublishedSession
  all_seen xs = map seen xs

  -- one session changes, and nothing that is seen of it
  pub seen_at : (xs : List Session) (handle : ℕ) (f : Session → Session) → ((x : Session) → session_at xs handle ≡ Some x → seen (f x) ≡ seen x) → all_seen (with_session_at handle f xs) ≡ all_seen xs
  seen_at [] handle f same = refl
  seen_at (x ∷ xs) handle f same = by (x.handle == handle) same (seen_at xs handle f)
    where
      by : (b : Bool) → ((y : Session) → (if b then Some x else session_at xs handle) ≡ Some y → seen (f y) ≡ seen y)
          → (((y : Session) → session_at xs handle ≡ Some y → seen (f y) ≡ seen y) → all_seen (with_session_at handle f xs) ≡ all_seen xs)
          → all_seen (if b then f x ∷ xs else x ∷ with_session_at handle f xs) ≡ all_seen (x ∷ xs)
      by true here more = ap (λ (y : PublishedSession). y ∷ all_seen xs) (here x refl)
      by false here more = ap (λ (ys : List PublishedSession). seen x ∷ ys) (more here)

  -- a life changes, and not the loss
  life_seen : (x : Session) (life : Life) → loss_of life ≡ loss_of x.life → seen (with_life life x) ≡ seen x
  life_seen x life same = ap (λ (l : Loss). record (seen x) { loss = l }) same

  pub change_seen : (xs : List Session) (session : ℕ) (f : Life → Changed) → ((x : Session) → session_at xs session ≡ Some x → loss_of (f x.life).life ≡ loss_of x.life)
      → all_seen (changed_in (session_at xs session) f xs) ≡ all_seen xs
  change_seen xs session f same = by (session_at xs session) refl
    where
      by : (o : Option Session) → session_at xs session ≡ o → all_seen (changed_in o f xs) ≡ all_seen xs
      by None eo = refl
      by (Some x) eo =
          seen_at xs x.handle (with_life (f x.life).life)
          (λ y there. let one = found_once xs session x y eo there in subst (λ (z : Session). seen (with_life (f x.life).life z) ≡ seen z) one (life_seen x (f x.life).life (same x eo)))

  -- each session settles
  pub each_seen : (f : Session → Changed) (xs : List Session) → ((x : Session) → loss_of (f x).life ≡ loss_of x.life) → all_seen (each_changed f xs) ≡ all_seen xs
  each_seen f [] same = refl
  each_seen f (x ∷ xs) same = ap (λ (y : PublishedSession). y ∷ all_seen (each_changed f xs)) (life_seen x (f x).life (same x)) ∙ ap (λ (ys : List PublishedSession). seen x ∷ ys) (each_seen f xs same)

  -- all sessions settle
  pub rounds_seen : (w : Wish) (t : Standing) → all_seen (rounds most_rounds w t).sessions ≡ all_seen t.sessions
  rounds_seen w t =
      let target = target_of t.sessions in
      ap (λ (u : Standing). all_seen u.sessions) (once_is_enough w t)
      ∙ each_seen (target_settled w target) (each_changed (other_settled w target) t.sessions) (target_loss w target) ∙ each_seen (other_settled w target) t.sessions (other_loss w target)

  -- a loop of frames changes
  pub loop_seen : (xs : List Session) (session : ℕ) (l : FrameLoop) → all_seen (with_session_at session (with_frame_loop l) xs) ≡ all_seen xs
  loop_seen xs session l = seen_at xs session (with_frame_loop l) (λ x there. refl)
