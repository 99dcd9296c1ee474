-- A session that a call has changed or refused to change, once that is told, and how all sessions settle.
use Rattle.std.proofs.Common.{◌≡◌, Bool, max, true, false, true≢false, ◌<◌, ◌+◌, ℕ, zero, suc, List, [], ◌∷◌, ◌++◌, length, take, drop, Option, Some, None, refl, sym, ap, subst, ◌∙◌, add-one, arith}
use Rattle.std.specs.Prelude.{slice_set, slice_index_or, is_some, if◌then◌else◌}
use Rattle.xr_types.specs.declared.device.Wish.{Wish}
use Rattle.xr_types.specs.declared.device.Wish.TheVariants as wish
use Rattle.xr_model.specs.machine.Refusals.{Refusal, first_of, unless}
use Rattle.xr_model.specs.machine.SessionLife.{Life, Changed, synced_session}
use Rattle.xr_model.specs.machine.Events.{Queue}
use Rattle.xr_model.specs.machine.LiveSessions.{Session, session_at, with_life, with_life_at, each_changed, told_states}
use Rattle.xr_model.specs.machine.Rules.Session.{life_of}
use Rattle.xr_model.specs.machine.State.{CoreState}
use Rattle.xr_model.specs.machine.Target.{is_candidate, target_of, other_settled, target_settled, settled}
use Rattle.xr_core.specs.inside.Changes.{place_at, ordinal_in, refusals_of, change_of, life_after, told_after, changed_alone, changed_life}
use Rattle.xr_core.specs.declared.sessions.LifeCall.{LifeCall}
use Rattle.xr_model.specs.machine.Rules.Device.{with_changes}
use Rattle.xr_model.proofs.Targets.{once_is_enough}
use Rattle.xr_core.proofs.Listed.{Stands, stands}

-- putting back what stands in a place changes nothing
put_back : (xs : List Session) (place : ℕ) (d : Session) → place < length xs → slice_set xs place (slice_index_or xs place d) ≡ xs
put_back [] place d within = refl
put_back (x ∷ xs) zero d within = refl
put_back (x ∷ xs) (suc place) d within = ap (λ (ys : List Session). x ∷ ys) (put_back xs place d (omega (arith, within)))

-- ---- one session changes

-- a life that stays leaves the sessions as they were
lives_on : (xs : List Session) (handle place : ℕ) (d : Session) → (there : Stands xs handle place d) → with_life_at handle (slice_index_or xs place d).life xs ≡ xs
lives_on xs handle place d there = sym (there.replaces (with_life (slice_index_or xs place d).life)) ∙ put_back xs place d there.within

-- what the call made of the sessions and of the events is what it makes of the core
pub changes_one : (s : CoreState) (session place : ℕ) (d : Session) (call : LifeCall) → place_at s.sessions session ≡ Some place
    → record s {
      sessions = with_life_at session (life_after s.device.wish call (life_of s session)) s.sessions;
      events = told_states s.events (ordinal_in (session_at s.sessions session)) session (told_after s.device.wish call (life_of s session));
    } ≡ changed_life s session call
unfolding changed_life life_after told_after
changes_one s session place d call found =
    let there = stands s.sessions session place d found in
    let x : Session = slice_index_or s.sessions place d in
    rw there.found (by (first_of (refusals_of call x.life)) (change_of s.device.wish call x.life) there)
  where
    by : (o : Option Refusal) (c : Changed) (there : Stands s.sessions session place d)
        → record s {
          sessions = with_life_at session (unless o (slice_index_or s.sessions place d).life c.life) s.sessions;
          events = told_states s.events (slice_index_or s.sessions place d).ordinal session (unless o [] c.through);
        } ≡ unless o s (record s { sessions = with_life_at (slice_index_or s.sessions place d).handle c.life s.sessions; events = told_states s.events (slice_index_or s.sessions place d).ordinal (slice_index_or s.sessions place d).handle c.through })
    by None c there = rw there.named refl
    by (Some r) c there = ap (λ (xs : List Session). record s { sessions = xs }) (lives_on s.sessions session place d there)

-- what a frame made of them
pub synced_so : (s : CoreState) (session place : ℕ) (d : Session) (sessions : List Session) (events : Queue) → place_at s.sessions session ≡ Some place
    → sessions ≡ with_life_at session (synced_session wish.Ready (life_of s session)).life s.sessions
    → events ≡ told_states s.events (ordinal_in (session_at s.sessions session)) session (synced_session wish.Ready (life_of s session)).through
    → record s { sessions = sessions; events = events } ≡ changed_alone s (session_at s.sessions session) (synced_session wish.Ready)
synced_so s session place d sessions events found lives told =
    let there = stands s.sessions session place d found in
    rw (lives, told, there.found) (rw there.named refl)

-- a session that isn't listed changes nothing
pub changes_none : (s : CoreState) (session : ℕ) (f : Life → Changed) → is_some (session_at s.sessions session) ≡ false → s ≡ changed_alone s (session_at s.sessions session) f
changes_none s session f none = by (session_at s.sessions session) none
  where
    by : (o : Option Session) → is_some o ≡ false → s ≡ changed_alone s o f
    by None none = refl
    by (Some x) none = absurd (true≢false none)

-- ---- all sessions change

-- the sessions where those before an index have changed
abbrev pub front : (Session → Changed) → List Session → ℕ → List Session
front f xs i = each_changed f (take i xs) ++ drop i xs

pub front_item : (f : Session → Changed) (xs : List Session) (i : ℕ) (d : Session) → i < length xs → slice_index_or (front f xs i) i d ≡ slice_index_or xs i d
front_item f [] i d within = let none : ⊥ = omega (arith, within) in absurd none
front_item f (x ∷ xs) zero d within = refl
front_item f (x ∷ xs) (suc i) d within = front_item f xs i d (omega (arith, within))

front_next : (f : Session → Changed) (xs : List Session) (i : ℕ) (d : Session) → i < length xs
    → slice_set (front f xs i) i (with_life (f (slice_index_or xs i d)).life (slice_index_or xs i d)) ≡ front f xs (suc i)
front_next f [] i d within = let none : ⊥ = omega (arith, within) in absurd none
front_next f (x ∷ xs) zero d within = refl
front_next f (x ∷ xs) (suc i) d within = ap (λ (ys : List Session). with_life (f x).life x ∷ ys) (front_next f xs i d (omega (arith, within)))

pub front_more : (f : Session → Changed) (xs : List Session) (i : ℕ) (d : Session) → i < length xs
    → slice_set (front f xs i) i (with_life (f (slice_index_or xs i d)).life (slice_index_or xs i d)) ≡ front f xs (i + 1)
front_more f xs i d within = front_next f xs i d within ∙ ap (λ (n : ℕ). front f xs n) (sym (add-one i))

rest_next : (xs : List Session) (i : ℕ) (d : Session) → i < length xs → drop i xs ≡ slice_index_or xs i d ∷ drop (suc i) xs
rest_next [] i d within = let none : ⊥ = omega (arith, within) in absurd none
rest_next (x ∷ xs) zero d within = refl
rest_next (x ∷ xs) (suc i) d within = rest_next xs i d (omega (arith, within))

pub rest_of : (xs : List Session) (i : ℕ) (d : Session) → i < length xs → drop i xs ≡ slice_index_or xs i d ∷ drop (i + 1) xs
rest_of xs i d within = rest_next xs i d within ∙ ap (λ (n : ℕ). slice_index_or xs i d ∷ drop n xs) (sym (add-one i))

pub front_all : (f : Session → Changed) (xs : List Session) → front f xs (length xs) ≡ each_changed f xs
front_all f [] = refl
front_all f (x ∷ xs) = ap (λ (ys : List Session). with_life (f x).life x ∷ ys) (front_all f xs)

pub rest_none : (xs : List Session) → drop (length xs) xs ≡ []
rest_none [] = refl
rest_none (x ∷ xs) = rest_none xs

-- ---- the target

-- the greatest of three, one by one
greatest : (a b c : ℕ) → max a (max b c) ≡ max (max b a) c
greatest a b c = omega arith

-- the target of the sessions behind an index, beside the greatest one up to it: that of a session that can be the target, or the one before
pub target_taken : (xs : List Session) (i : ℕ) (x : Session) (t new all : ℕ) → i < length xs → x ≡ slice_index_or xs i x → is_candidate x.life ≡ true → new ≡ max x.ordinal t
    → max (target_of (drop i xs)) t ≡ all → max (target_of (drop (i + 1) xs)) new ≡ all
target_taken xs i x t new all within is may taken before =
    let here : max (if is_candidate x.life then max x.ordinal (target_of (drop (i + 1) xs)) else target_of (drop (i + 1) xs)) t ≡ all =
    sym (ap (λ (ys : List Session). max (target_of ys) t) (rest_of xs i x within ∙ ap (λ (y : Session). y ∷ drop (i + 1) xs) (sym is))) ∙ before in
    rw taken (greatest (target_of (drop (i + 1) xs)) x.ordinal t) ∙ subst (λ (b : Bool). max (if b then max x.ordinal (target_of (drop (i + 1) xs)) else target_of (drop (i + 1) xs)) t ≡ all) may here

pub target_passed : (xs : List Session) (i : ℕ) (x : Session) (t new all : ℕ) → i < length xs → x ≡ slice_index_or xs i x → is_candidate x.life ≡ false → new ≡ t
    → max (target_of (drop i xs)) t ≡ all → max (target_of (drop (i + 1) xs)) new ≡ all
target_passed xs i x t new all within is may taken before =
    let here : max (if is_candidate x.life then max x.ordinal (target_of (drop (i + 1) xs)) else target_of (drop (i + 1) xs)) t ≡ all =
    sym (ap (λ (ys : List Session). max (target_of ys) t) (rest_of xs i x within ∙ ap (λ (y : Session). y ∷ drop (i + 1) xs) (sym is))) ∙ before in
    rw taken (subst (λ (b : Bool). max (if b then max x.ordinal (target_of (drop (i + 1) xs)) else target_of (drop (i + 1) xs)) t ≡ all) may here)

-- ---- settling

-- two passes over the sessions are one round, which is enough
pub settles : (s a b : CoreState) (w : Wish) (target : ℕ) → w ≡ s.device.wish → target ≡ target_of s.sessions
    → a ≡ with_changes s (other_settled w target) → b ≡ with_changes a (target_settled w target) → b ≡ settled s
settles s a b w target wished is first second =
    rw (second, first, wished, is, once_is_enough s.device.wish (record { sessions = s.sessions; events = s.events })) refl
