-- The listed sessions are those whose handles are live.
use Rattle.std.proofs.Common.{◌≡◌, ◌==◌, ◌&&◌, ◌||◌, ℕ, not, Bool, true, false, List, [], ◌∷◌, ◌++◌, Some, None, refl, sym, ap, subst, ◌∙◌, true≢false}
use Rattle.std.specs.Prelude.{is_some, if◌then◌else◌}
use Rattle.std.specs.List.{filter}
use Rattle.xr_types.specs.declared.handles.Kind.TheVariants as kind
use Rattle.xr_types.specs.declared.handles.TheConstants.{SESSIONS}
use Rattle.xr_model.specs.machine.Handles.{Handles, no_handles, is_live, has, has_room, with_handle, without, destroyed_instances, destroyed_by}
use Rattle.xr_model.specs.machine.LiveSessions.{Session, session_at, with_life, with_session_at, still_live, each_changed}
use Rattle.xr_model.specs.machine.SessionLife.{Changed}
use Rattle.xr_model.specs.laws.SessionLaws.{AreListed}
use Rattle.xr_model.proofs.Rows.{or_true, same_key, has_put, has_new, hasnt_put, hasnt_free, hasnt_cleared}
use Rattle.xr_model.proofs.Keyed.{found_map}
use Rattle.xr_model.specs.machine.Destroyed.{left_session, sessions_left}

pub listed_none : AreListed no_handles []
listed_none handle = by (handle == 0) refl
  where
    by : (b : Bool) → (handle == 0) ≡ b → false ≡ not b && has no_handles.sessions handle
    by true is = refl
    by false is = sym (hasnt_free SESSIONS handle is)

-- a session that changes keeps its handle
found_lives : (xs : List Session) (handle : ℕ) (f : Session → Session) → ((x : Session) → (f x).handle ≡ x.handle) → (k : ℕ) → is_some (session_at (with_session_at handle f xs) k) ≡ is_some (session_at xs k)
found_lives [] handle f same k = refl
found_lives (x ∷ xs) handle f same k = by (x.handle == handle) (found_lives xs handle f same k)
  where
    next : (b : Bool) → is_some (session_at (with_session_at handle f xs) k) ≡ is_some (session_at xs k) → is_some (if b then Some x else session_at (with_session_at handle f xs) k) ≡ is_some (if b then Some x else session_at xs k)
    next true more = refl
    next false more = more

    here : (b : Bool) → is_some (if b then Some (f x) else session_at xs k) ≡ is_some (if b then Some x else session_at xs k)
    here true = refl
    here false = refl

    by : (b : Bool) → is_some (session_at (with_session_at handle f xs) k) ≡ is_some (session_at xs k) → is_some (session_at (if b then f x ∷ xs else x ∷ with_session_at handle f xs) k) ≡ is_some (session_at (x ∷ xs) k)
    by true more = ap (λ (n : ℕ). is_some (if n == k then Some (f x) else session_at xs k)) (same x) ∙ here (x.handle == k)
    by false more = next (x.handle == k) more

pub listed_lives : (h : Handles) (xs : List Session) (handle : ℕ) (f : Session → Session) → ((x : Session) → (f x).handle ≡ x.handle) → AreListed h xs → AreListed h (with_session_at handle f xs)
listed_lives h xs handle f same listed k = found_lives xs handle f same k ∙ listed k

some_is : (x y : Session) → Some x ≡ Some y → x ≡ y
some_is x y e = cc

pub handle_of : (xs : List Session) (handle : ℕ) (x : Session) → session_at xs handle ≡ Some x → x.handle ≡ handle
handle_of [] handle x found = cc
handle_of (z ∷ xs) handle x found = by (z.handle == handle) refl found (λ there. handle_of xs handle x there)
  where
    by : (c : Bool) → (z.handle == handle) ≡ c → (if c then Some z else session_at xs handle) ≡ Some x → (session_at xs handle ≡ Some x → x.handle ≡ handle) → x.handle ≡ handle
    by true ec found more = ap (λ (w : Session). w.handle) (sym (some_is z x found)) ∙ same_key z.handle handle ec
    by false ec found more = more found

-- a session is found under its own handle, and no other is
pub found_once : (xs : List Session) (handle : ℕ) (x y : Session) → session_at xs handle ≡ Some x → session_at xs x.handle ≡ Some y → x ≡ y
found_once xs handle x y found there = some_is x y (sym found ∙ subst (λ (n : ℕ). session_at xs n ≡ Some y) (handle_of xs handle x found) there)

found_each : (f : Session → Changed) (xs : List Session) (k : ℕ) → is_some (session_at (each_changed f xs) k) ≡ is_some (session_at xs k)
found_each f [] k = refl
found_each f (x ∷ xs) k = by (x.handle == k) (found_each f xs k)
  where
    by : (b : Bool) → is_some (session_at (each_changed f xs) k) ≡ is_some (session_at xs k) → is_some (if b then Some (with_life (f x).life x) else session_at (each_changed f xs) k) ≡ is_some (if b then Some x else session_at xs k)
    by true more = refl
    by false more = more

pub listed_each : (h : Handles) (f : Session → Changed) (xs : List Session) → AreListed h xs → AreListed h (each_changed f xs)
listed_each h f xs listed k = found_each f xs k ∙ listed k

-- a session more
found_more : (xs : List Session) (x : Session) (k : ℕ) → is_some (session_at (xs ++ x ∷ []) k) ≡ is_some (session_at xs k) || (x.handle == k)
found_more [] x k = by (x.handle == k)
  where
    by : (b : Bool) → is_some (if b then Some x else None) ≡ b
    by true = refl
    by false = refl
found_more (y ∷ ys) x k = by (y.handle == k) (found_more ys x k)
  where
    by : (b : Bool) → is_some (session_at (ys ++ x ∷ []) k) ≡ is_some (session_at ys k) || (x.handle == k) → is_some (if b then Some y else session_at (ys ++ x ∷ []) k) ≡ is_some (if b then Some y else session_at ys k) || (x.handle == k)
    by true more = refl
    by false more = more

pub listed_more : (h : Handles) (xs : List Session) (x : Session) (instance given : ℕ) → AreListed h xs → x.handle ≡ given → (given == 0) ≡ false → has_room h kind.Session ≡ true → AreListed (with_handle h kind.Session instance given) (xs ++ x ∷ [])
listed_more h xs x instance given listed named nz room k = found_more xs x k ∙ rw (listed k, named) (by (k == 0) refl (given == k) refl (has h.sessions k) refl)
  where
    by : (z : Bool) → (k == 0) ≡ z → (b : Bool) → (given == k) ≡ b → (o : Bool) → has h.sessions k ≡ o → (not z && has h.sessions k) || b ≡ not z && has (with_handle h kind.Session instance given).sessions k
    by true ez true eb o eo = absurd (true≢false (sym eb ∙ subst (λ (n : ℕ). (given == n) ≡ false) (sym (same_key k 0 ez)) nz))
    by true ez false eb o eo = refl
    by false ez true eb o eo =
        let here : has (with_handle h kind.Session instance given).sessions k ≡ true = subst (λ (n : ℕ). has (with_handle h kind.Session instance given).sessions n ≡ true) (same_key given k eb) (has_new (record { handle = given; parent = instance }) h.sessions room) in
        rw here (or_true (has h.sessions k))
    by false ez false eb true eo = rw (eo, has_put (record { handle = given; parent = instance }) h.sessions k ez eo) refl
    by false ez false eb false eo = rw (eo, hasnt_put (record { handle = given; parent = instance }) h.sessions k eo eb) refl

-- those below a destroyed handle go
found_left : (p : ℕ → Bool) (xs : List Session) (k : ℕ) → is_some (session_at (filter (λ x. p x.handle) xs) k) ≡ p k && is_some (session_at xs k)
found_left p [] k = by (p k)
  where
    by : (b : Bool) → false ≡ b && false
    by true = refl
    by false = refl
found_left p (x ∷ xs) k = by (p x.handle) refl (x.handle == k) refl (found_left p xs k)
  where
    away : (b : Bool) → p x.handle ≡ false → (x.handle == k) ≡ b → is_some (session_at (filter (λ y. p y.handle) xs) k) ≡ p k && is_some (session_at xs k) → is_some (session_at (filter (λ y. p y.handle) xs) k) ≡ p k && is_some (if b then Some x else session_at xs k)
    away true ep is more = let gone : p k ≡ false = subst (λ (n : ℕ). p n ≡ false) (same_key x.handle k is) ep in rw gone (more ∙ rw gone refl)
    away false ep is more = more

    stay : (b : Bool) → p x.handle ≡ true → (x.handle == k) ≡ b → is_some (session_at (filter (λ y. p y.handle) xs) k) ≡ p k && is_some (session_at xs k) → is_some (if b then Some x else session_at (filter (λ y. p y.handle) xs) k) ≡ p k && is_some (if b then Some x else session_at xs k)
    stay true ep is more = let kept : p k ≡ true = subst (λ (n : ℕ). p n ≡ true) (same_key x.handle k is) ep in rw kept refl
    stay false ep is more = more

    by : (b : Bool) → p x.handle ≡ b → (c : Bool) → (x.handle == k) ≡ c → is_some (session_at (filter (λ y. p y.handle) xs) k) ≡ p k && is_some (session_at xs k) → is_some (session_at (if b then x ∷ filter (λ y. p y.handle) xs else filter (λ y. p y.handle) xs) k) ≡ p k && is_some (session_at (x ∷ xs) k)
    by true ep c ec more = rw ec (stay c ep ec more)
    by false ep c ec more = rw ec (away c ep ec more)

-- what is live without a handle was live before
pub live_before : (h : Handles) (handle k : ℕ) → is_live (without h handle) kind.Session k && is_live h kind.Session k ≡ is_live (without h handle) kind.Session k
live_before h handle k = by (k == 0) refl (has h.sessions k) refl
  where
    and_true : (b : Bool) → b && true ≡ b
    and_true true = refl
    and_true false = refl

    by : (z : Bool) → (k == 0) ≡ z → (o : Bool) → has h.sessions k ≡ o → (not z && has (without h handle).sessions k) && (not z && has h.sessions k) ≡ not z && has (without h handle).sessions k
    by true ez o eo = refl
    by false ez true eo = rw eo (and_true (has (without h handle).sessions k))
    by false ez false eo = rw (hasnt_cleared handle (destroyed_instances h handle) h.sessions k ez eo) refl

pub listed_left : (h : Handles) (handle : ℕ) (xs : List Session) → AreListed h xs → AreListed (without h handle) (sessions_left (without h handle) (destroyed_by h handle) xs)
listed_left h handle xs listed k =
    found_map (λ (x : Session). x.handle) (left_session (without h handle) (destroyed_by h handle)) (λ x. refl) (still_live (without h handle) xs) k
    ∙ found_left (λ n. is_live (without h handle) kind.Session n) xs k ∙ ap (λ (b : Bool). is_live (without h handle) kind.Session k && b) (listed k) ∙ live_before h handle k
