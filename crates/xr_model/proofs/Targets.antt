-- How the target goes through a round, that one round is enough, and that nothing is left to settle behind it.
use Rattle.std.proofs.Common.{◌≡◌, ◌==◌, ◌&&◌, ◌||◌, ℕ, zero, not, Bool, true, false, List, [], ◌∷◌, Option, Some, None, refl, sym, ap, subst, ◌∙◌}
use Rattle.std.specs.Prelude.{max, if◌then◌else◌}
use Rattle.xr_types.specs.declared.device.Wish.{Wish}
use Rattle.xr_types.specs.declared.device.Wish.TheVariants as wish
use Rattle.xr_types.specs.declared.session.SessionState.{SessionState}
use Rattle.xr_types.specs.declared.session.SessionState.TheVariants.{Idle, Synchronized, Visible, Focused}
use Rattle.xr_model.specs.machine.Events.{Queue}
use Rattle.xr_model.specs.machine.SessionLife.{Life, Changed, unchanged, is_state, is_wish, next_state, changes, most_changes, last_of, settled_session}
use Rattle.xr_model.specs.machine.LiveSessions.{Session, with_life, each_changed, told_changes}
use Rattle.xr_model.specs.machine.Target.{is_candidate, target_of, is_target, without_focus, own_wish, Standing, all_changed, other_settled, target_settled, round_for, rounds, most_rounds}
use Rattle.xr_model.proofs.Settling.{no_row_fits}

-- ---- one session

abbrev candidate_in : Bool → SessionState → Bool
candidate_in exit state = (is_state state Synchronized || (is_state state Visible || is_state state Focused)) && not exit

-- to settle is to stay a candidate, but where the wish is for rest
still : (w : Wish) (exit : Bool) (state : SessionState)
    → candidate_in exit (last_of state (changes most_changes w exit state)) ≡ candidate_in exit state && not (is_wish w wish.Rest)
still wish.Rest true Idle = refl
still wish.Rest true _ = refl
still wish.Rest false Idle = refl
still wish.Rest false _ = refl
still wish.Ready true Idle = refl
still wish.Ready true _ = refl
still wish.Ready false Idle = refl
still wish.Ready false _ = refl
still wish.Visible true Idle = refl
still wish.Visible true _ = refl
still wish.Visible false Idle = refl
still wish.Visible false _ = refl
still wish.Focused true Idle = refl
still wish.Focused true _ = refl
still wish.Focused false Idle = refl
still wish.Focused false _ = refl

same_rest : (w : Wish) → is_wish (without_focus w) wish.Rest ≡ is_wish w wish.Rest
same_rest wish.Rest = refl
same_rest wish.Ready = refl
same_rest wish.Visible = refl
same_rest wish.Focused = refl

-- the states from the next one on
abbrev from_next : Wish → Bool → Option SessionState → List SessionState
from_next w exit o = elim o [ None ↦ [] | Some to ↦ to ∷ changes 3 w exit to ]

abbrev changed_through : Life → List SessionState → Changed
changed_through life through = record { life = record life { state = last_of life.state through }; through = through }

-- where no row fits nothing changes
pub quiet : (w : Wish) (life : Life) → next_state w life.exit life.state ≡ None → settled_session w life ≡ unchanged life
quiet w life none = ap (λ (o : Option SessionState). changed_through life (from_next w life.exit o)) none

-- ---- each session of a list

abbrev pub Each : (Session → Type 0) → List Session → Type 0
Each P [] = Unit {0}
Each P (x ∷ xs) = P x × Each P xs

pub each_weaker : (P Q : Session → Type 0) → ((x : Session) → P x → Q x) → (xs : List Session) → Each P xs → Each Q xs
each_weaker P Q weaker [] each = tt
each_weaker P Q weaker (x ∷ xs) each = (weaker x each.0, each_weaker P Q weaker xs each.1)

-- no row fits a session under its own wish
abbrev pub Settles : Wish → ℕ → Session → Type 0
Settles w target x = next_state (own_wish w target x) x.life.exit x.life.state ≡ None

abbrev pub AreSettled : Wish → ℕ → List Session → Type 0
AreSettled w target xs = Each (Settles w target) xs

-- the sessions of a round
abbrev pub in_round : Wish → ℕ → List Session → List Session
in_round w target xs = each_changed (target_settled w target) (each_changed (other_settled w target) xs)

-- one of them
abbrev pub one_in_round : Wish → ℕ → Session → Session
one_in_round w target x = let one = with_life (other_settled w target x).life x in with_life (target_settled w target one).life one

round_settles : (w : Wish) (target : ℕ) (xs : List Session) → AreSettled w target (in_round w target xs)
round_settles w target [] = tt
round_settles w target (x ∷ xs) = (by (x.ordinal == target) refl, round_settles w target xs)
  where
    by : (b : Bool) → (x.ordinal == target) ≡ b → Settles w target (one_in_round w target x)
    by true eb = rw eb (no_row_fits w x.life)
    by false eb = rw eb (no_row_fits (without_focus w) x.life)

-- a session is a candidate after a round where it was one before, but where the wish is for rest
still_one : (w : Wish) (target : ℕ) (x : Session) → is_candidate (one_in_round w target x).life ≡ is_candidate x.life && not (is_wish w wish.Rest)
still_one w target x = by (x.ordinal == target) refl
  where
    by : (b : Bool) → (x.ordinal == target) ≡ b → is_candidate (one_in_round w target x).life ≡ is_candidate x.life && not (is_wish w wish.Rest)
    by true eb = rw eb (still w x.life.exit x.life.state)
    by false eb = rw eb (still (without_focus w) x.life.exit x.life.state ∙ ap (λ (b : Bool). is_candidate x.life && not b) (same_rest w))

-- the target stays, but where the wish is for rest there is none any more
target_after : (w : Wish) (target : ℕ) (xs : List Session) → target_of (in_round w target xs) ≡ (if is_wish w wish.Rest then 0 else target_of xs)
target_after w target [] = by (is_wish w wish.Rest)
  where
    by : (b : Bool) → zero ≡ (if b then zero else zero)
    by true = refl
    by false = refl
target_after w target (x ∷ xs) = rw (still_one w target x, target_after w target xs) (by (is_candidate x.life) (is_wish w wish.Rest))
  where
    by : (c r : Bool)
        → (if c && not r then max x.ordinal (if r then 0 else target_of xs) else (if r then 0 else target_of xs)) ≡ (if r then 0 else (if c then max x.ordinal (target_of xs) else target_of xs))
    by true true = refl
    by true false = refl
    by false true = refl
    by false false = refl

-- so a session's own wish stays, since under a wish for rest it is that for each
pub own_stays : (w : Wish) (xs : List Session) (x : Session) → own_wish w (target_of (in_round w (target_of xs) xs)) x ≡ own_wish w (target_of xs) x
own_stays w xs x = by w
  where
    both : (b c : Bool) → (if b then wish.Rest else wish.Rest) ≡ (if c then wish.Rest else wish.Rest)
    both true true = refl
    both true false = refl
    both false true = refl
    both false false = refl

    by : (w : Wish) → own_wish w (target_of (in_round w (target_of xs) xs)) x ≡ own_wish w (target_of xs) x
    by wish.Rest = both (is_target (target_of (in_round wish.Rest (target_of xs) xs)) x) (is_target (target_of xs) x)
    by wish.Ready = rw (target_after wish.Ready (target_of xs) xs) refl
    by wish.Visible = rw (target_after wish.Visible (target_of xs) xs) refl
    by wish.Focused = rw (target_after wish.Focused (target_of xs) xs) refl

-- ---- nothing is left

pub unchanged_all : (f : Session → Changed) (xs : List Session) → Each (λ x. f x ≡ unchanged x.life) xs → each_changed f xs ≡ xs
unchanged_all f [] each = refl
unchanged_all f (x ∷ xs) each = rw (each.0, unchanged_all f xs each.1) refl

pub untold_all : (f : Session → Changed) (q : Queue) (xs : List Session) → Each (λ x. f x ≡ unchanged x.life) xs → told_changes q f xs ≡ q
untold_all f q [] each = refl
untold_all f q (x ∷ xs) each = rw each.0 (untold_all f q xs each.1)

quiet_all : (f : Session → Changed) (t : Standing) → Each (λ x. f x ≡ unchanged x.life) t.sessions → all_changed f t ≡ t
quiet_all f t each = rw (unchanged_all f t.sessions each, untold_all f t.events t.sessions each) refl

others_quiet : (w : Wish) (target : ℕ) (x : Session) → Settles w target x → other_settled w target x ≡ unchanged x.life
others_quiet w target x settles = by (is_target target x) (quiet (own_wish w target x) x.life settles)
  where
    by : (b : Bool) → settled_session (own_wish w target x) x.life ≡ unchanged x.life → (if b then unchanged x.life else settled_session (own_wish w target x) x.life) ≡ unchanged x.life
    by true same = refl
    by false same = same

target_quiet : (w : Wish) (target : ℕ) (x : Session) → Settles w target x → target_settled w target x ≡ unchanged x.life
target_quiet w target x settles = by (is_target target x) (quiet (own_wish w target x) x.life settles)
  where
    by : (b : Bool) → settled_session (own_wish w target x) x.life ≡ unchanged x.life → (if b then settled_session (own_wish w target x) x.life else unchanged x.life) ≡ unchanged x.life
    by true same = same
    by false same = refl

-- where all have settled a round changes and tells nothing
quiet_round : (w : Wish) (target : ℕ) (t : Standing) → AreSettled w target t.sessions → round_for w target t ≡ t
quiet_round w target t each =
    ap (λ (u : Standing). all_changed (target_settled w target) u) (quiet_all (other_settled w target) t (each_weaker (Settles w target) (λ x. other_settled w target x ≡ unchanged x.life) (others_quiet w target) t.sessions each))
    ∙ quiet_all (target_settled w target) t (each_weaker (Settles w target) (λ x. target_settled w target x ≡ unchanged x.life) (target_quiet w target) t.sessions each)

-- ---- one round is enough

-- under a wish for rest a session's own wish is that, whichever the target is
at_rest : (target other : ℕ) (x : Session) → Settles wish.Rest target x → Settles wish.Rest other x
at_rest target other x settles = by (is_target target x) (is_target other x) settles
  where
    by : (b c : Bool) → next_state (if b then wish.Rest else wish.Rest) x.life.exit x.life.state ≡ None → next_state (if c then wish.Rest else wish.Rest) x.life.exit x.life.state ≡ None
    by true true none = none
    by true false none = none
    by false true none = none
    by false false none = none

-- what the rounds come to, told whether the wish is for rest
again : (w : Wish) (t : Standing) → AreSettled w (target_of (round_for w (target_of t.sessions) t).sessions) (round_for w (target_of t.sessions) t).sessions
again w t = by w
  where
    here : (w : Wish) → AreSettled w (target_of t.sessions) (round_for w (target_of t.sessions) t).sessions
    here w = round_settles w (target_of t.sessions) t.sessions

    by : (w : Wish) → AreSettled w (target_of (round_for w (target_of t.sessions) t).sessions) (round_for w (target_of t.sessions) t).sessions
    by wish.Rest = each_weaker (Settles wish.Rest (target_of t.sessions)) (Settles wish.Rest _) (λ x settles. at_rest (target_of t.sessions) _ x settles) (round_for wish.Rest (target_of t.sessions) t).sessions (here wish.Rest)
    by wish.Ready = rw (target_after wish.Ready (target_of t.sessions) t.sessions) (here wish.Ready)
    by wish.Visible = rw (target_after wish.Visible (target_of t.sessions) t.sessions) (here wish.Visible)
    by wish.Focused = rw (target_after wish.Focused (target_of t.sessions) t.sessions) (here wish.Focused)

-- all rounds are the first
pub once_is_enough : (w : Wish) (t : Standing) → rounds most_rounds w t ≡ round_for w (target_of t.sessions) t
once_is_enough w t =
    let new = round_for w (target_of t.sessions) t in
    by new (quiet_round w (target_of new.sessions) new (again w t)) (target_of new.sessions == target_of t.sessions) (target_of (round_for w (target_of new.sessions) new).sessions == target_of new.sessions)
  where
    by : (new : Standing) → round_for w (target_of new.sessions) new ≡ new
        → (a b : Bool) → (if a then new else (if b then round_for w (target_of new.sessions) new else round_for w (target_of new.sessions) new)) ≡ new
    by new stays true b = refl
    by new stays false true = stays
    by new stays false false = stays

-- where all have settled the rounds change and tell nothing
pub quiet_rounds : (w : Wish) (t : Standing) → AreSettled w (target_of t.sessions) t.sessions → rounds most_rounds w t ≡ t
quiet_rounds w t each = once_is_enough w t ∙ quiet_round w (target_of t.sessions) t each

-- behind the rounds no row fits any session under its own wish
pub are_settled : (w : Wish) (t : Standing) → AreSettled w (target_of (rounds most_rounds w t).sessions) (rounds most_rounds w t).sessions
are_settled w t = subst (λ (u : Standing). AreSettled w (target_of u.sessions) u.sessions) (sym (once_is_enough w t)) (again w t)

-- ---- what settling leaves

-- the state is all that changes of a life
abbrev pub Steady : Life → Life → Type 0
Steady life new = new ≡ record life { state = new.state }

pub other_steady : (w : Wish) (target : ℕ) (x : Session) → Steady x.life (other_settled w target x).life
other_steady w target x = by (is_target target x)
  where
    by : (b : Bool) → Steady x.life (if b then unchanged x.life else settled_session (own_wish w target x) x.life).life
    by true = refl
    by false = refl

pub target_steady : (w : Wish) (target : ℕ) (x : Session) → Steady x.life (target_settled w target x).life
target_steady w target x = by (is_target target x)
  where
    by : (b : Bool) → Steady x.life (if b then settled_session (own_wish w target x) x.life else unchanged x.life).life
    by true = refl
    by false = refl

-- what changes of states leave is left
pub rounds_keep : (Q : List Session → Type 0) → ((f : Session → Changed) → ((x : Session) → Steady x.life (f x).life) → (xs : List Session) → Q xs → Q (each_changed f xs))
    → (w : Wish) (t : Standing) → Q t.sessions → Q (rounds most_rounds w t).sessions
rounds_keep Q closed w t has =
    let target = target_of t.sessions in
    subst (λ (u : Standing). Q u.sessions) (sym (once_is_enough w t))
    (closed (target_settled w target) (target_steady w target) (each_changed (other_settled w target) t.sessions) (closed (other_settled w target) (other_steady w target) t.sessions has))
