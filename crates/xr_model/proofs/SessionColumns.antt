-- What actions show in a session: which changes of the sessions leave it.
use Rattle.std.proofs.Common.{◌≡◌, ◌==◌, ℕ, Bool, true, false, List, [], ◌∷◌, ◌++◌, Option, Some, None, option_map, refl, ap, ◌∙◌}
use Rattle.std.specs.Prelude.{unwrap_or, if◌then◌else◌}
use Rattle.xr_types.specs.declared.device.Wish.{Wish}
use Rattle.xr_types.specs.declared.handles.Kind.TheVariants as kind
use Rattle.xr_types.specs.declared.input.Column.{Column}
use Rattle.xr_model.specs.machine.Destroyed.{left_session, sessions_left, without_handle}
use Rattle.xr_model.specs.machine.Handles.{destroyed_by, is_live, without}
use Rattle.xr_model.specs.machine.LiveSessions.{Session, session_at, shown_in, with_life, with_session_at, still_live, each_changed}
use Rattle.xr_model.specs.machine.Rules.Session.{changed_in}
use Rattle.xr_model.specs.machine.SessionLife.{Life, Changed}
use Rattle.xr_model.specs.machine.State.{CoreState}
use Rattle.xr_model.specs.machine.Sync.{no_columns}
use Rattle.xr_model.specs.machine.Target.{Standing, rounds, most_rounds}
use Rattle.xr_model.proofs.SessionLives.{found_at, found_each, found_without, found_left, found_more, where_left, or_new}
use Rattle.xr_model.proofs.Targets.{rounds_keep}

-- what actions show in the session with a handle, where there is one
abbrev pub columns_at : List Session → ℕ → Option (List (List Column))
columns_at xs k = option_map (λ (x : Session). x.columns) (session_at xs k)

pub shown_by_columns : (xs ys : List Session) (k : ℕ) → columns_at xs k ≡ columns_at ys k → shown_in (session_at xs k) ≡ shown_in (session_at ys k)
shown_by_columns xs ys k same = ap (λ (o : Option (List (List Column))). unwrap_or o no_columns) same

-- ---- one session changes

pub columns_beside : (session k : ℕ) (f : Session → Session) → ((x : Session) → (f x).handle ≡ x.handle) → ((x : Session) → (f x).columns ≡ x.columns) → (xs : List Session)
    → columns_at (with_session_at session f xs) k ≡ columns_at xs k
columns_beside session k f named same xs = ap (option_map (λ (x : Session). x.columns)) (found_at session k f named xs) ∙ by (session_at xs k)
  where
    one : (b : Bool) (x : Session) → (if b then f x else x).columns ≡ x.columns
    one true x = same x
    one false x = refl

    by : (o : Option Session) → option_map (λ (x : Session). x.columns) (option_map (λ x. if session == k then f x else x) o) ≡ option_map (λ (x : Session). x.columns) o
    by None = refl
    by (Some x) = ap Some (one (session == k) x)

-- another session is as it was
pub others_stay : (session k : ℕ) (f : Session → Session) → ((x : Session) → (f x).handle ≡ x.handle) → (session == k) ≡ false → (xs : List Session)
    → session_at (with_session_at session f xs) k ≡ session_at xs k
others_stay session k f named other xs = found_at session k f named xs ∙ rw other (by (session_at xs k))
  where
    by : (o : Option Session) → option_map (λ (x : Session). x) o ≡ o
    by None = refl
    by (Some x) = refl

pub columns_changed : (o : Option Session) (f : Life → Changed) (xs : List Session) (k : ℕ) → columns_at (changed_in o f xs) k ≡ columns_at xs k
columns_changed None f xs k = refl
columns_changed (Some x) f xs k = columns_beside x.handle k (with_life (f x.life).life) (λ y. refl) (λ y. refl) xs

-- ---- all change

pub columns_each : (f : Session → Changed) (xs : List Session) (k : ℕ) → columns_at (each_changed f xs) k ≡ columns_at xs k
columns_each f xs k = ap (option_map (λ (x : Session). x.columns)) (found_each f k xs) ∙ by (session_at xs k)
  where
    by : (o : Option Session) → option_map (λ (x : Session). x.columns) (option_map (λ x. with_life (f x).life x) o) ≡ option_map (λ (x : Session). x.columns) o
    by None = refl
    by (Some x) = refl

pub columns_settled : (w : Wish) (t : Standing) (k : ℕ) → columns_at (rounds most_rounds w t).sessions k ≡ columns_at t.sessions k
columns_settled w t k = rounds_keep (λ xs. columns_at xs k ≡ columns_at t.sessions k) (λ f steady xs there. columns_each f xs k ∙ there) w t refl

-- ---- one comes, and some go

-- where one joins that shows nothing, nothing else is shown
pub shown_more : (z : Session) → z.columns ≡ no_columns → (xs : List Session) (k : ℕ) → shown_in (session_at (xs ++ z ∷ []) k) ≡ shown_in (session_at xs k)
shown_more z bare xs k = ap shown_in (found_more z k xs) ∙ by (session_at xs k)
  where
    joins : (b : Bool) → shown_in (if b then Some z else None) ≡ no_columns
    joins true = bare
    joins false = refl

    by : (o : Option Session) → shown_in (or_new z k o) ≡ shown_in o
    by None = joins (z.handle == k)
    by (Some x) = refl

-- of the sessions that are left
pub columns_left : (s : CoreState) (handle k : ℕ)
    → columns_at (without_handle s handle).sessions k
    ≡ option_map (λ (x : Session). x.columns) (option_map (left_session (without s.handles handle) (destroyed_by s.handles handle)) (where_left (is_live (without s.handles handle) kind.Session k) (session_at s.sessions k)))
columns_left s handle k =
    let left = without s.handles handle in
    let gone = destroyed_by s.handles handle in
    columns_settled s.device.wish (record { sessions = sessions_left left gone s.sessions; events = s.events }) k
    ∙ ap (option_map (λ (x : Session). x.columns)) (found_without left gone k (still_live left s.sessions) ∙ ap (option_map (left_session left gone)) (found_left (λ n. is_live left kind.Session n) k s.sessions))
