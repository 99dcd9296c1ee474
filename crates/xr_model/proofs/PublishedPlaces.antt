-- What a getter finds of a session and of an action is what was published of those that are listed.
use Rattle.std.proofs.Common.{◌≡◌, ◌==◌, ◌+◌, ℕ, suc, Bool, true, false, List, [], ◌∷◌, map, Option, Some, None, option_map, slice_get, refl, sym, ap, ◌∙◌, true≢false}
use Rattle.std.specs.Prelude.{is_none, is_some, option_and_then, unwrap_or, if◌then◌else◌}
use Rattle.std.specs.List.{find, position_from}
use Rattle.std.proofs.lemmas.Option.{slice_get-map}
use Rattle.xr_model.specs.machine.LiveSessions.{Session, session_at}
use Rattle.xr_model.specs.machine.Publication.{PublishedSession, PublishedAction, has_set_of, shown_row, published_session, published_action, publication_of, session_read, no_loss, loss_read, published_at, place_at, has_attached, row_read}
use Rattle.xr_model.specs.machine.SessionRule.{loss_of}
use Rattle.xr_model.specs.machine.Sets.{Action, action_at}
use Rattle.xr_model.specs.machine.State.{CoreState}
use Rattle.xr_model.proofs.Rows.{one_later}

-- ---- lists

-- what is made of each of some, with the same key, is found where that is
module _ {S T : Type 0} (key : S → ℕ) (made : T → ℕ) (f : S → T) (same : (x : S) → made (f x) ≡ key x) where
  pub found_as : (xs : List S) (k : ℕ) → find (λ y. made y == k) (map f xs) ≡ option_map f (find (λ x. key x == k) xs)
  found_as [] k = refl
  found_as (x ∷ xs) k = ap (λ (n : ℕ). if n == k then Some (f x) else find (λ y. made y == k) (map f xs)) (same x) ∙ by (key x == k) (found_as xs k)
    where
      by : (b : Bool) → find (λ y. made y == k) (map f xs) ≡ option_map f (find (λ y. key y == k) xs)
          → (if b then Some (f x) else find (λ y. made y == k) (map f xs)) ≡ option_map f (if b then Some x else find (λ y. key y == k) xs)
      by true more = refl
      by false more = more

  pub place_as : (xs : List S) (k n : ℕ) → position_from (λ y. made y == k) n (map f xs) ≡ position_from (λ x. key x == k) n xs
  place_as [] k n = refl
  place_as (x ∷ xs) k n = ap (λ (m : ℕ). if m == k then Some n else position_from (λ y. made y == k) (n + 1) (map f xs)) (same x) ∙ ap (λ (o : Option ℕ). if key x == k then Some n else o) (place_as xs k (n + 1))

-- what stands in the place of the first that passes is the first that passes
pub place_finds : {T : Type 0} (p : T → Bool) (xs : List T) → option_and_then (λ i. slice_get xs i) (position_from p 0 xs) ≡ find p xs
place_finds p [] = refl
place_finds {T = T} p (x ∷ xs) = by (p x) (place_finds p xs)
  where
    later : (o : Option ℕ) → option_and_then (λ i. slice_get (x ∷ xs) i) (option_map (λ n. suc n) o) ≡ option_and_then (λ i. slice_get xs i) o
    later None = refl
    later (Some i) = refl

    by : (b : Bool) → option_and_then (λ i. slice_get xs i) (position_from p 0 xs) ≡ find p xs
        → option_and_then (λ i. slice_get (x ∷ xs) i) (if b then Some 0 else position_from p 1 xs) ≡ (if b then Some x else find p xs)
    by true more = refl
    by false more = ap (option_and_then (λ i. slice_get (x ∷ xs) i)) (one_later p 0 xs) ∙ later (position_from p 0 xs) ∙ more

-- what is made of each action, in the place of an action that is published
pub at_place : {T : Type 0} (g : Action → T) (xs : List Action) (k : ℕ)
    → option_and_then (λ place. slice_get (map g xs) place) (position_from (λ (a : PublishedAction). a.handle == k) 0 (map published_action xs)) ≡ option_map g (find (λ (x : Action). x.handle == k) xs)
at_place {T = T} g xs k =
    ap (option_and_then (λ place. slice_get (map g xs) place)) (place_as (λ (x : Action). x.handle) (λ (a : PublishedAction). a.handle) published_action (λ x. refl) xs k 0)
    ∙ by (position_from (λ (x : Action). x.handle == k) 0 xs) ∙ ap (option_map g) (place_finds (λ (x : Action). x.handle == k) xs)
  where
    by : (o : Option ℕ) → option_and_then (λ place. slice_get (map g xs) place) o ≡ option_map g (option_and_then (λ i. slice_get xs i) o)
    by None = refl
    by (Some i) = slice_get-map g xs i

-- ---- what is read

module _ (s : CoreState) where
  abbrev seen : Session → PublishedSession
  seen = published_session s.handles s.inputs.actions

  -- an action is published where it is listed
  pub action_read : (action : ℕ) → published_at (publication_of s) action ≡ option_map published_action (action_at s.inputs action)
  action_read action = found_as (λ (x : Action). x.handle) (λ (a : PublishedAction). a.handle) published_action (λ x. refl) s.inputs.actions action

  -- and a session
  pub session_is_read : (session : ℕ) → session_read (publication_of s) session ≡ (if session == 0 then None else option_map (published_session s.handles s.inputs.actions) (session_at s.sessions session))
  session_is_read session =
      ap (λ (o : Option PublishedSession). if session == 0 then None else o) (found_as (λ (x : Session). x.handle) (λ (x : PublishedSession). x.handle) seen (λ x. refl) s.sessions session)

  pub listed_read : (session : ℕ) → (session == 0) ≡ false → is_some (session_at s.sessions session) ≡ true → is_none (session_read (publication_of s) session) ≡ false
  listed_read session nz listed = ap is_none (session_is_read session) ∙ rw nz (by (session_at s.sessions session) listed)
    where
      by : (o : Option Session) → is_some o ≡ true → is_none (option_map seen o) ≡ false
      by None listed = absurd (true≢false (sym listed))
      by (Some x) listed = refl

  -- the session that is read is listed
  pub record Read (session : ℕ) : Type 0 where
    pub its : Session
    pub listed : session_at s.sessions session ≡ Some its
    pub is : session_read (publication_of s) session ≡ Some (seen its)

  pub read_listed : (session : ℕ) → is_none (session_read (publication_of s) session) ≡ false → Read session
  read_listed session there = by (session == 0) (session_at s.sessions session) refl (session_is_read session) (ap is_none (sym (session_is_read session)) ∙ there)
    where
      by : (b : Bool) (o : Option Session) → session_at s.sessions session ≡ o → session_read (publication_of s) session ≡ (if b then None else option_map seen o) → is_none (if b then None else option_map seen o) ≡ false → Read session
      by true o eo is there = absurd (true≢false there)
      by false None eo is there = absurd (true≢false there)
      by false (Some x) eo is there = record { its = x; listed = eo; is = is }

  module _ (session : ℕ) (it : Read session) where
    pub loss_is_read : loss_read (publication_of s) session ≡ loss_of it.its.life
    loss_is_read = ap (λ (o : Option PublishedSession). unwrap_or (option_map (λ x. x.loss) o) no_loss) it.is

    pub attached_is_read : (action : ℕ) → has_attached (publication_of s) session action ≡ unwrap_or (option_map (has_set_of it.its.attached) (action_at s.inputs action)) false
    attached_is_read action =
        ap (λ (o : Option PublishedSession). unwrap_or (option_and_then (λ x. option_and_then (λ place. slice_get x.attached place) (place_at (publication_of s) action)) o) false) it.is
        ∙ ap (λ (o : Option Bool). unwrap_or o false) (at_place (has_set_of it.its.attached) s.inputs.actions action)

    pub row_is_read : (action : ℕ) → row_read (publication_of s) session action ≡ option_map (shown_row s.handles it.its.columns) (action_at s.inputs action)
    row_is_read action =
        ap (option_and_then (λ x. option_and_then (λ place. slice_get x.columns place) (place_at (publication_of s) action))) it.is
        ∙ at_place (shown_row s.handles it.its.columns) s.inputs.actions action
