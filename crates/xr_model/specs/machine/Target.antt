-- Which live session the device's wish is for, and how all live sessions settle (OpenXR 1.0 chapter 9, "Session Lifecycle", by
-- which one session at most is focused). Which one that is, is this project's own.
use Rattle.std.specs.Prelude.{ℕ, zero, suc, max, ◌==◌, ◌&&◌, ◌||◌, not, Bool, List, [], ◌∷◌, if◌then◌else◌}
use Rattle.xr_types.specs.declared.device.Wish.{Wish}
use Rattle.xr_types.specs.declared.device.Wish.TheVariants as wish
use Rattle.xr_types.specs.declared.session.SessionState.TheVariants.{Synchronized, Visible, Focused}
use Rattle.xr_model.specs.machine.Events.{Queue}
use Rattle.xr_model.specs.machine.SessionLife.{Life, Changed, unchanged, is_state, settled_session}
use Rattle.xr_model.specs.machine.LiveSessions.{Session, each_changed, told_changes}
use Rattle.xr_model.specs.machine.State.{CoreState}

-- ---- the target

-- it is in synchronized, visible or focused, and the application hasn't asked for its end
abbrev pub is_candidate : Life → Bool
is_candidate life = (is_state life.state Synchronized || (is_state life.state Visible || is_state life.state Focused)) && not life.exit

-- the target by its ordinal: the greatest one of a candidate, 0 where there is none, as ordinals begin at 1
abbrev pub target_of : List Session → ℕ
target_of [] = 0
target_of (x ∷ xs) = if is_candidate x.life then max x.ordinal (target_of xs) else target_of xs

abbrev pub is_target : ℕ → Session → Bool
is_target target x = x.ordinal == target

-- ---- a session's own wish

-- a session that isn't the target comes to visible at most
abbrev pub without_focus : Wish → Wish
without_focus wish.Rest = wish.Rest
without_focus wish.Ready = wish.Ready
without_focus wish.Visible = wish.Visible
without_focus wish.Focused = wish.Visible

-- the device's wish for the target, and without the focus for every other
abbrev pub own_wish : Wish → ℕ → Session → Wish
own_wish w target x = if is_target target x then w else without_focus w

-- ---- settling

-- sessions in the order of their ordinals, and the queue to which their changes are told
pub record Standing : Type 0 where
  pub sessions : List Session
  pub events : Queue

abbrev pub all_changed : (Session → Changed) → Standing → Standing
all_changed f t = record { sessions = each_changed f t.sessions; events = told_changes t.events f t.sessions }

-- every session but the target settles by its own wish
abbrev pub other_settled : Wish → ℕ → Session → Changed
other_settled w target x = if is_target target x then unchanged x.life else settled_session (own_wish w target x) x.life

-- the target does
abbrev pub target_settled : Wish → ℕ → Session → Changed
target_settled w target x = if is_target target x then settled_session (own_wish w target x) x.life else unchanged x.life

-- each session but the target in their order, then the target
abbrev pub round_for : Wish → ℕ → Standing → Standing
round_for w target t = all_changed (target_settled w target) (all_changed (other_settled w target) t)

-- once for the target as it stands; and again where it has changed meanwhile, in at most so many rounds
abbrev pub rounds : ℕ → Wish → Standing → Standing
rounds zero w t = t
rounds (suc n) w t =
    let new = round_for w (target_of t.sessions) t in
    if target_of new.sessions == target_of t.sessions then new else rounds n w new

-- more rounds than there can be: where the target has changed there is none, and then nothing is left to change
abbrev pub most_rounds : ℕ
most_rounds = 2

-- all live sessions settle under the device's wish
abbrev pub settled : CoreState → CoreState
settled s =
    let t = rounds most_rounds s.device.wish (record { sessions = s.sessions; events = s.events }) in
    record s { sessions = t.sessions; events = t.events }
