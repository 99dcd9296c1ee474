-- Lists of sessions and of events: what changes of sessions tell, and that listed sessions have handles of their own.
use Rattle.std.proofs.Common.{◌≡◌, ◌==◌, ℕ, Bool, true, false, List, [], ◌∷◌, ◌++◌, Option, Some, refl, sym, ap, subst, ◌∙◌, true≢false, map}
use Rattle.std.specs.Prelude.{is_some, if◌then◌else◌}
use Rattle.std.specs.List.{filter, list_all}
use Rattle.xr_types.specs.declared.session.Event.{Event}
use Rattle.xr_types.specs.declared.session.Event.TheVariants.{Lost, State}
use Rattle.xr_types.specs.declared.session.SessionState.{SessionState}
use Rattle.xr_model.specs.machine.Events.{Queue, pushed}
use Rattle.xr_model.specs.machine.SessionLife.{Life, Changed, last_of}
use Rattle.xr_model.specs.machine.LiveSessions.{Session, session_at, with_life, with_session_at, with_life_at, told_states, each_changed, told_changes, with_frame_loop}
use Rattle.xr_model.specs.laws.EventLaws.{pushed_all, state_at, has_ordinal, is_of_session, last_told}
use Rattle.xr_model.proofs.Rows.{itself, same_key, both_of}
use Rattle.xr_model.specs.machine.Frames.{FrameLoop}

-- ---- events

pub states_of : ℕ → ℕ → List SessionState → List Event
states_of ordinal handle [] = []
states_of ordinal handle (state ∷ states) = State ordinal handle state ∷ states_of ordinal handle states

pub pushed_more : (q : Queue) (xs ys : List Event) → pushed_all q (xs ++ ys) ≡ pushed_all (pushed_all q xs) ys
pushed_more q [] ys = refl
pushed_more q (x ∷ xs) ys = pushed_more (pushed q x) xs ys

all_told : (q : Queue) (ordinal handle : ℕ) (states : List SessionState) → told_states q ordinal handle states ≡ pushed_all q (states_of ordinal handle states)
unfolding states_of
all_told q ordinal handle [] = refl
all_told q ordinal handle (state ∷ states) = all_told (pushed q (State ordinal handle state)) ordinal handle states

-- with no more behind them
pub one_told : (q : Queue) (ordinal handle : ℕ) (states : List SessionState) → told_states q ordinal handle states ≡ pushed_all q (states_of ordinal handle states ++ [])
one_told q ordinal handle states = all_told q ordinal handle states ∙ sym (pushed_more q (states_of ordinal handle states) [])

pub last_here : (k ordinal handle : ℕ) (states : List SessionState) (rest : List Event) (state : SessionState) → (handle == k) ≡ true → last_told k (Some state) (states_of ordinal handle states ++ rest) ≡ last_told k (Some (last_of state states)) rest
unfolding states_of
last_here k ordinal handle [] rest state same = refl
last_here k ordinal handle (to ∷ states) rest state same = ap (λ (b : Bool). last_told k (if b then Some to else Some state) (states_of ordinal handle states ++ rest)) same ∙ last_here k ordinal handle states rest to same

pub last_else : (k ordinal handle : ℕ) (states : List SessionState) (rest : List Event) (before : Option SessionState) → (handle == k) ≡ false → last_told k before (states_of ordinal handle states ++ rest) ≡ last_told k before rest
unfolding states_of
last_else k ordinal handle [] rest before other = refl
last_else k ordinal handle (to ∷ states) rest before other = ap (λ (b : Bool). last_told k (if b then Some to else before) (states_of ordinal handle states ++ rest)) other ∙ last_else k ordinal handle states rest before other

-- what was known before counts no more
pub last_new : (k ordinal handle : ℕ) (to : SessionState) (states : List SessionState) (before : Option SessionState) → (handle == k) ≡ true → last_told k before (states_of ordinal handle (to ∷ states) ++ []) ≡ Some (last_of to states)
unfolding states_of
last_new k ordinal handle to states before same = ap (λ (b : Bool). last_told k (if b then Some to else before) (states_of ordinal handle states ++ [])) same ∙ last_here k ordinal handle states [] to same

pub all_more : (p : Event → Bool) (xs ys : List Event) → list_all p xs ≡ true → list_all p ys ≡ true → list_all p (xs ++ ys) ≡ true
all_more p [] ys one two = two
all_more p (x ∷ xs) ys one two = let both = both_of (p x) (list_all p xs) one in rw both.0 (all_more p xs ys both.1 two)

pub own_states : (ys : List Session) (ordinal handle : ℕ) (states : List SessionState) (rest : List Event) → has_ordinal ys handle ordinal ≡ true → list_all (is_of_session ys) rest ≡ true → list_all (is_of_session ys) (states_of ordinal handle states ++ rest) ≡ true
unfolding states_of
own_states ys ordinal handle [] rest own more = more
own_states ys ordinal handle (state ∷ states) rest own more = rw own (own_states ys ordinal handle states rest own more)

-- what is told last of two lists of events
pub last_more : (k : ℕ) (before : Option SessionState) (xs ys : List Event) → last_told k before (xs ++ ys) ≡ last_told k (last_told k before xs) ys
last_more k before [] ys = refl
last_more k before (State ordinal other state ∷ xs) ys = last_more k (if other == k then Some state else before) xs ys
last_more k before (Lost n ∷ xs) ys = last_more k before xs ys

-- ---- handles of their own

abbrev pub AreApart : List Session → Type 0
AreApart [] = Unit {0}
AreApart (x ∷ xs) = (is_some (state_at xs x.handle) ≡ false) × AreApart xs

pub listed_state : (xs : List Session) (k : ℕ) → is_some (state_at xs k) ≡ is_some (session_at xs k)
listed_state [] k = refl
listed_state (x ∷ xs) k = by (x.handle == k) (listed_state xs k)
  where
    by : (b : Bool) → is_some (state_at xs k) ≡ is_some (session_at xs k) → is_some (if b then Some x.life.state else state_at xs k) ≡ is_some (if b then Some x else session_at xs k)
    by true more = refl
    by false more = more

-- one session more
pub state_before : (xs : List Session) (x : Session) (k : ℕ) → (x.handle == k) ≡ false → state_at (xs ++ x ∷ []) k ≡ state_at xs k
state_before [] x k other = rw other refl
state_before (y ∷ ys) x k other = by (y.handle == k) (state_before ys x k other)
  where
    by : (b : Bool) → state_at (ys ++ x ∷ []) k ≡ state_at ys k → (if b then Some y.life.state else state_at (ys ++ x ∷ []) k) ≡ (if b then Some y.life.state else state_at ys k)
    by true more = refl
    by false more = more

pub state_new : (xs : List Session) (x : Session) → is_some (state_at xs x.handle) ≡ false → state_at (xs ++ x ∷ []) x.handle ≡ Some x.life.state
state_new [] x none = rw (itself x.handle) refl
state_new (y ∷ ys) x none = by (y.handle == x.handle) none (state_new ys x)
  where
    by : (b : Bool) → is_some (if b then Some y.life.state else state_at ys x.handle) ≡ false → (is_some (state_at ys x.handle) ≡ false → state_at (ys ++ x ∷ []) x.handle ≡ Some x.life.state) → (if b then Some y.life.state else state_at (ys ++ x ∷ []) x.handle) ≡ Some x.life.state
    by true none more = absurd (true≢false none)
    by false none more = more none

pub ordinal_new : (xs : List Session) (x : Session) → is_some (state_at xs x.handle) ≡ false → has_ordinal (xs ++ x ∷ []) x.handle x.ordinal ≡ true
ordinal_new [] x none = rw (itself x.handle) (itself x.ordinal)
ordinal_new (y ∷ ys) x none = by (y.handle == x.handle) none (ordinal_new ys x)
  where
    by : (b : Bool) → is_some (if b then Some y.life.state else state_at ys x.handle) ≡ false → (is_some (state_at ys x.handle) ≡ false → has_ordinal (ys ++ x ∷ []) x.handle x.ordinal ≡ true) → (if b then y.ordinal == x.ordinal else has_ordinal (ys ++ x ∷ []) x.handle x.ordinal) ≡ true
    by true none more = absurd (true≢false none)
    by false none more = more none

pub apart_more : (xs : List Session) (x : Session) → AreApart xs → is_some (state_at xs x.handle) ≡ false → AreApart (xs ++ x ∷ [])
apart_more [] x apart none = (refl, tt)
apart_more (y ∷ ys) x apart none = by (y.handle == x.handle) refl none (apart_more ys x apart.1)
  where
    by : (b : Bool) → (y.handle == x.handle) ≡ b → is_some (if b then Some y.life.state else state_at ys x.handle) ≡ false → (is_some (state_at ys x.handle) ≡ false → AreApart (ys ++ x ∷ [])) → AreApart (y ∷ (ys ++ x ∷ []))
    by true eb none more = absurd (true≢false none)
    by false eb none more =
        let other : (x.handle == y.handle) ≡ false = apart_key y.handle x.handle eb in
        (ap (λ (o : Option SessionState). is_some o) (state_before ys x y.handle other) ∙ apart.0, more none)
      where
        apart_key : (a b : ℕ) → (a == b) ≡ false → (b == a) ≡ false
        apart_key a b e = by_key (b == a) refl
          where
            by_key : (c : Bool) → (b == a) ≡ c → c ≡ false
            by_key true ec = absurd (true≢false (sym (itself a) ∙ subst (λ (n : ℕ). (a == n) ≡ false) (same_key b a ec) e))
            by_key false ec = refl

-- one session changes
module _ (handle : ℕ) (g : Session → Session) (named : (x : Session) → (g x).handle ≡ x.handle) where
  listed_lives : (xs : List Session) (k : ℕ) → is_some (state_at (with_session_at handle g xs) k) ≡ is_some (state_at xs k)
  listed_lives [] k = refl
  listed_lives (x ∷ xs) k = by (x.handle == handle) (listed_lives xs k)
    where
      here : (b : Bool) → is_some (if b then Some (g x).life.state else state_at xs k) ≡ is_some (if b then Some x.life.state else state_at xs k)
      here true = refl
      here false = refl

      later : (b : Bool) → is_some (state_at (with_session_at handle g xs) k) ≡ is_some (state_at xs k) → is_some (if b then Some x.life.state else state_at (with_session_at handle g xs) k) ≡ is_some (if b then Some x.life.state else state_at xs k)
      later true more = refl
      later false more = more

      by : (b : Bool) → is_some (state_at (with_session_at handle g xs) k) ≡ is_some (state_at xs k) → is_some (state_at (if b then g x ∷ xs else x ∷ with_session_at handle g xs) k) ≡ is_some (if x.handle == k then Some x.life.state else state_at xs k)
      by true more = ap (λ (n : ℕ). is_some (if n == k then Some (g x).life.state else state_at xs k)) (named x) ∙ here (x.handle == k)
      by false more = later (x.handle == k) more

  pub apart_lives : (xs : List Session) → AreApart xs → AreApart (with_session_at handle g xs)
  apart_lives [] apart = tt
  apart_lives (x ∷ xs) apart = by (x.handle == handle) (apart_lives xs apart.1)
    where
      by : (b : Bool) → AreApart (with_session_at handle g xs) → AreApart (if b then g x ∷ xs else x ∷ with_session_at handle g xs)
      by true more = (ap (λ (n : ℕ). is_some (state_at xs n)) (named x) ∙ apart.0, apart.1)
      by false more = (listed_lives xs x.handle ∙ apart.0, more)

pub state_else : (handle : ℕ) (life : Life) (xs : List Session) (k : ℕ) → (handle == k) ≡ false → state_at (with_life_at handle life xs) k ≡ state_at xs k
state_else handle life [] k other = refl
state_else handle life (x ∷ xs) k other = by (x.handle == handle) refl (x.handle == k) refl (state_else handle life xs k other)
  where
    by : (b : Bool) → (x.handle == handle) ≡ b → (c : Bool) → (x.handle == k) ≡ c → state_at (with_life_at handle life xs) k ≡ state_at xs k
        → state_at (if b then with_life life x ∷ xs else x ∷ with_life_at handle life xs) k ≡ (if c then Some x.life.state else state_at xs k)
    by true eb true ec more = absurd (true≢false (sym ec ∙ subst (λ (n : ℕ). (n == k) ≡ false) (sym (same_key x.handle handle eb)) other))
    by true eb false ec more = rw ec refl
    by false eb true ec more = rw ec refl
    by false eb false ec more = rw ec more

pub state_here : (handle : ℕ) (life : Life) (xs : List Session) (x : Session) → session_at xs handle ≡ Some x → state_at (with_life_at handle life xs) handle ≡ Some life.state
state_here handle life [] x found = cc
state_here handle life (y ∷ ys) x found = by (y.handle == handle) refl found (state_here handle life ys x)
  where
    by : (b : Bool) → (y.handle == handle) ≡ b → (if b then Some y else session_at ys handle) ≡ Some x → (session_at ys handle ≡ Some x → state_at (with_life_at handle life ys) handle ≡ Some life.state)
        → state_at (if b then with_life life y ∷ ys else y ∷ with_life_at handle life ys) handle ≡ Some life.state
    by true eb found more = rw eb refl
    by false eb found more = rw eb (more found)

pub ordinal_here : (handle : ℕ) (life : Life) (xs : List Session) (x : Session) → session_at xs handle ≡ Some x → has_ordinal (with_life_at handle life xs) handle x.ordinal ≡ true
ordinal_here handle life [] x found = cc
ordinal_here handle life (y ∷ ys) x found = by (y.handle == handle) refl found (ordinal_here handle life ys x)
  where
    by : (b : Bool) → (y.handle == handle) ≡ b → (if b then Some y else session_at ys handle) ≡ Some x → (session_at ys handle ≡ Some x → has_ordinal (with_life_at handle life ys) handle x.ordinal ≡ true)
        → has_ordinal (if b then with_life life y ∷ ys else y ∷ with_life_at handle life ys) handle x.ordinal ≡ true
    by true eb found more = rw eb (ap (λ (z : Session). y.ordinal == z.ordinal) (sym (some_is y x found)) ∙ itself y.ordinal)
      where
        some_is : (a b : Session) → Some a ≡ Some b → a ≡ b
        some_is a b e = cc
    by false eb found more = rw eb (more found)

pub state_found : (xs : List Session) (k : ℕ) (x : Session) → session_at xs k ≡ Some x → state_at xs k ≡ Some x.life.state
state_found [] k x found = cc
state_found (y ∷ ys) k x found = by (y.handle == k) found (state_found ys k x)
  where
    by : (b : Bool) → (if b then Some y else session_at ys k) ≡ Some x → (session_at ys k ≡ Some x → state_at ys k ≡ Some x.life.state) → (if b then Some y.life.state else state_at ys k) ≡ Some x.life.state
    by true found more = cc
    by false found more = more found

-- a change that isn't of a life changes no state
pub state_beside : (handle : ℕ) (f : Session → Session) → ((x : Session) → (f x).handle ≡ x.handle) → ((x : Session) → (f x).life ≡ x.life) → (xs : List Session) (k : ℕ) → state_at (with_session_at handle f xs) k ≡ state_at xs k
state_beside handle f named lives [] k = refl
state_beside handle f named lives (x ∷ xs) k = by (x.handle == handle) (state_beside handle f named lives xs k)
  where
    later : (c : Bool) → state_at (with_session_at handle f xs) k ≡ state_at xs k → (if c then Some x.life.state else state_at (with_session_at handle f xs) k) ≡ (if c then Some x.life.state else state_at xs k)
    later true more = refl
    later false more = more

    by : (b : Bool) → state_at (with_session_at handle f xs) k ≡ state_at xs k → state_at (if b then f x ∷ xs else x ∷ with_session_at handle f xs) k ≡ (if x.handle == k then Some x.life.state else state_at xs k)
    by true more = rw (named x, lives x) refl
    by false more = later (x.handle == k) more

-- a loop of frames changes no state and no ordinal
pub state_loop : (handle : ℕ) (l : FrameLoop) (xs : List Session) (k : ℕ) → state_at (with_session_at handle (with_frame_loop l) xs) k ≡ state_at xs k
state_loop handle l [] k = refl
state_loop handle l (x ∷ xs) k = by (x.handle == handle) (state_loop handle l xs k)
  where
    later : (c : Bool) → state_at (with_session_at handle (with_frame_loop l) xs) k ≡ state_at xs k → (if c then Some x.life.state else state_at (with_session_at handle (with_frame_loop l) xs) k) ≡ (if c then Some x.life.state else state_at xs k)
    later true more = refl
    later false more = more

    by : (b : Bool) → state_at (with_session_at handle (with_frame_loop l) xs) k ≡ state_at xs k → state_at (if b then with_frame_loop l x ∷ xs else x ∷ with_session_at handle (with_frame_loop l) xs) k ≡ (if x.handle == k then Some x.life.state else state_at xs k)
    by true more = refl
    by false more = later (x.handle == k) more

ordinal_loop : (handle : ℕ) (l : FrameLoop) (xs : List Session) (k ordinal : ℕ) → has_ordinal (with_session_at handle (with_frame_loop l) xs) k ordinal ≡ has_ordinal xs k ordinal
ordinal_loop handle l [] k ordinal = refl
ordinal_loop handle l (x ∷ xs) k ordinal = by (x.handle == handle) (ordinal_loop handle l xs k ordinal)
  where
    later : (c : Bool) → has_ordinal (with_session_at handle (with_frame_loop l) xs) k ordinal ≡ has_ordinal xs k ordinal → (if c then x.ordinal == ordinal else has_ordinal (with_session_at handle (with_frame_loop l) xs) k ordinal) ≡ (if c then x.ordinal == ordinal else has_ordinal xs k ordinal)
    later true more = refl
    later false more = more

    by : (b : Bool) → has_ordinal (with_session_at handle (with_frame_loop l) xs) k ordinal ≡ has_ordinal xs k ordinal → has_ordinal (if b then with_frame_loop l x ∷ xs else x ∷ with_session_at handle (with_frame_loop l) xs) k ordinal ≡ (if x.handle == k then x.ordinal == ordinal else has_ordinal xs k ordinal)
    by true more = refl
    by false more = later (x.handle == k) more

own_loop : (handle : ℕ) (l : FrameLoop) (xs : List Session) (event : Event) → is_of_session (with_session_at handle (with_frame_loop l) xs) event ≡ is_of_session xs event
own_loop handle l xs (State ordinal session state) = ordinal_loop handle l xs session ordinal
own_loop handle l xs (Lost n) = refl

pub all_own_loop : (handle : ℕ) (l : FrameLoop) (xs : List Session) (events : List Event) → list_all (is_of_session xs) events ≡ true → list_all (is_of_session (with_session_at handle (with_frame_loop l) xs)) events ≡ true
all_own_loop handle l xs [] own = refl
all_own_loop handle l xs (event ∷ events) own =
    let two = both_of (is_of_session xs event) (list_all (is_of_session xs) events) own in rw (own_loop handle l xs event, two.0) (all_own_loop handle l xs events two.1)

-- some sessions go
module _ (p : ℕ → Bool) where
  passes : (xs : List Session) (k : ℕ) → p k ≡ false → is_some (state_at (filter (λ x. p x.handle) xs) k) ≡ false
  passes [] k gone = refl
  passes (x ∷ xs) k gone = by (p x.handle) refl (passes xs k gone)
    where
      by : (b : Bool) → p x.handle ≡ b → is_some (state_at (filter (λ x. p x.handle) xs) k) ≡ false → is_some (state_at (if b then x ∷ filter (λ x. p x.handle) xs else filter (λ x. p x.handle) xs) k) ≡ false
      by true eb more = at (x.handle == k) refl
        where
          at : (c : Bool) → (x.handle == k) ≡ c → is_some (if c then Some x.life.state else state_at (filter (λ x. p x.handle) xs) k) ≡ false
          at true ec = absurd (true≢false (sym eb ∙ subst (λ (n : ℕ). p n ≡ false) (sym (same_key x.handle k ec)) gone))
          at false ec = more
      by false eb more = more

  pub state_left : (xs : List Session) (k : ℕ) → p k ≡ true → state_at (filter (λ x. p x.handle) xs) k ≡ state_at xs k
  state_left [] k stays = refl
  state_left (x ∷ xs) k stays = by (p x.handle) refl (x.handle == k) refl (state_left xs k stays)
    where
      by : (b : Bool) → p x.handle ≡ b → (c : Bool) → (x.handle == k) ≡ c → state_at (filter (λ x. p x.handle) xs) k ≡ state_at xs k → state_at (if b then x ∷ filter (λ x. p x.handle) xs else filter (λ x. p x.handle) xs) k ≡ (if c then Some x.life.state else state_at xs k)
      by true eb true ec more = rw ec refl
      by true eb false ec more = rw ec more
      by false eb true ec more = absurd (true≢false (sym stays ∙ subst (λ (n : ℕ). p n ≡ false) (same_key x.handle k ec) eb))
      by false eb false ec more = more

  pub left_state : (xs : List Session) (k : ℕ) → is_some (state_at (filter (λ x. p x.handle) xs) k) ≡ true → state_at xs k ≡ state_at (filter (λ x. p x.handle) xs) k
  left_state xs k there = by (p k) refl
    where
      by : (b : Bool) → p k ≡ b → state_at xs k ≡ state_at (filter (λ x. p x.handle) xs) k
      by true eb = sym (state_left xs k eb)
      by false eb = absurd (true≢false (sym there ∙ passes xs k eb))

  pub apart_left : (xs : List Session) → AreApart xs → AreApart (filter (λ x. p x.handle) xs)
  apart_left [] apart = tt
  apart_left (x ∷ xs) apart = by (p x.handle) refl (apart_left xs apart.1)
    where
      by : (b : Bool) → p x.handle ≡ b → AreApart (filter (λ x. p x.handle) xs) → AreApart (if b then x ∷ filter (λ x. p x.handle) xs else filter (λ x. p x.handle) xs)
      by true eb more = (ap (λ (o : Option SessionState). is_some o) (state_left xs x.handle eb) ∙ apart.0, more)
      by false eb more = more

-- what each session has beside its handle and its life changes
module _ (g : Session → Session) (named : (x : Session) → (g x).handle ≡ x.handle) (lives : (x : Session) → (g x).life ≡ x.life) where
  pub state_map : (xs : List Session) (k : ℕ) → state_at (map g xs) k ≡ state_at xs k
  state_map [] k = refl
  state_map (x ∷ xs) k =
      ap (λ (n : ℕ). if n == k then Some (g x).life.state else state_at (map g xs) k) (named x)
      ∙ ap (λ (l : Life). if x.handle == k then Some l.state else state_at (map g xs) k) (lives x) ∙ by (x.handle == k) (state_map xs k)
    where
      by : (b : Bool) → state_at (map g xs) k ≡ state_at xs k → (if b then Some x.life.state else state_at (map g xs) k) ≡ (if b then Some x.life.state else state_at xs k)
      by true more = refl
      by false more = more

  pub apart_map : (xs : List Session) → AreApart xs → AreApart (map g xs)
  apart_map [] apart = tt
  apart_map (x ∷ xs) apart =
      (ap (λ (n : ℕ). is_some (state_at (map g xs) n)) (named x) ∙ ap (λ (o : Option SessionState). is_some o) (state_map xs x.handle) ∙ apart.0, apart_map xs apart.1)

-- all sessions change
module _ (f : Session → Changed) where
  pub changes_of : List Session → List Event
  changes_of [] = []
  changes_of (x ∷ xs) = states_of x.ordinal x.handle (f x).through ++ changes_of xs

  pub each_told : (q : Queue) (xs : List Session) → told_changes q f xs ≡ pushed_all q (changes_of xs)
  unfolding changes_of
  each_told q [] = refl
  each_told q (x ∷ xs) =
      each_told (told_states q x.ordinal x.handle (f x).through) xs ∙ ap (λ (r : Queue). pushed_all r (changes_of xs)) (all_told q x.ordinal x.handle (f x).through)
      ∙ sym (pushed_more q (states_of x.ordinal x.handle (f x).through) (changes_of xs))

  -- a session that changes keeps its ordinal
  ordinal_each : (xs : List Session) (k ordinal : ℕ) → has_ordinal (each_changed f xs) k ordinal ≡ has_ordinal xs k ordinal
  ordinal_each [] k ordinal = refl
  ordinal_each (x ∷ xs) k ordinal = by (x.handle == k) (ordinal_each xs k ordinal)
    where
      by : (b : Bool) → has_ordinal (each_changed f xs) k ordinal ≡ has_ordinal xs k ordinal → (if b then x.ordinal == ordinal else has_ordinal (each_changed f xs) k ordinal) ≡ (if b then x.ordinal == ordinal else has_ordinal xs k ordinal)
      by true more = refl
      by false more = more

  still_own : (xs : List Session) (event : Event) → is_of_session (each_changed f xs) event ≡ is_of_session xs event
  still_own xs (State ordinal session state) = ordinal_each xs session ordinal
  still_own xs (Lost n) = refl

  pub all_still_own : (xs : List Session) (events : List Event) → list_all (is_of_session xs) events ≡ true → list_all (is_of_session (each_changed f xs)) events ≡ true
  all_still_own xs [] own = refl
  all_still_own xs (event ∷ events) own =
      let two = both_of (is_of_session xs event) (list_all (is_of_session xs) events) own in rw (still_own xs event, two.0) (all_still_own xs events two.1)

  none_told : (xs : List Session) (k : ℕ) (before : Option SessionState) → is_some (state_at xs k) ≡ false → last_told k before (changes_of xs) ≡ before
  unfolding changes_of
  none_told [] k before none = refl
  none_told (x ∷ xs) k before none = by (x.handle == k) refl none (none_told xs k before)
    where
      by : (b : Bool) → (x.handle == k) ≡ b → is_some (if b then Some x.life.state else state_at xs k) ≡ false → (is_some (state_at xs k) ≡ false → last_told k before (changes_of xs) ≡ before) → last_told k before (changes_of (x ∷ xs)) ≡ before
      by true eb none more = absurd (true≢false none)
      by false eb none more = last_else k x.ordinal x.handle (f x).through (changes_of xs) before eb ∙ more none

  pub listed_each : (xs : List Session) (k : ℕ) → is_some (state_at (each_changed f xs) k) ≡ is_some (state_at xs k)
  listed_each [] k = refl
  listed_each (x ∷ xs) k = by (x.handle == k) (listed_each xs k)
    where
      by : (b : Bool) → is_some (state_at (each_changed f xs) k) ≡ is_some (state_at xs k) → is_some (if b then Some (f x).life.state else state_at (each_changed f xs) k) ≡ is_some (if b then Some x.life.state else state_at xs k)
      by true more = refl
      by false more = more

  pub apart_each : (xs : List Session) → AreApart xs → AreApart (each_changed f xs)
  apart_each [] apart = tt
  apart_each (x ∷ xs) apart = (listed_each xs x.handle ∙ apart.0, apart_each xs apart.1)

  ordinal_listed : (ys : List Session) (k ordinal : ℕ) → has_ordinal ys k ordinal ≡ true → is_some (state_at ys k) ≡ true
  ordinal_listed [] k ordinal has = absurd (true≢false (sym has))
  ordinal_listed (y ∷ ys) k ordinal has = by (y.handle == k) has (ordinal_listed ys k ordinal)
    where
      by : (b : Bool) → (if b then y.ordinal == ordinal else has_ordinal ys k ordinal) ≡ true → (has_ordinal ys k ordinal ≡ true → is_some (state_at ys k) ≡ true) → is_some (if b then Some y.life.state else state_at ys k) ≡ true
      by true has more = refl
      by false has more = more has

  own_more : (y : Session) (ys : List Session) (event : Event) → is_some (state_at ys y.handle) ≡ false → is_of_session ys event ≡ true → is_of_session (y ∷ ys) event ≡ true
  own_more y ys (Lost n) none own = own
  own_more y ys (State ordinal session state) none own = by (y.handle == session) refl
    where
      by : (b : Bool) → (y.handle == session) ≡ b → (if b then y.ordinal == ordinal else has_ordinal ys session ordinal) ≡ true
      by true eb = absurd (true≢false (sym (ordinal_listed ys session ordinal own) ∙ subst (λ (n : ℕ). is_some (state_at ys n) ≡ false) (same_key y.handle session eb) none))
      by false eb = own

  all_own : (y : Session) (ys : List Session) (events : List Event) → is_some (state_at ys y.handle) ≡ false → list_all (is_of_session ys) events ≡ true → list_all (is_of_session (y ∷ ys)) events ≡ true
  all_own y ys [] none own = refl
  all_own y ys (event ∷ events) none own = let two = both_of (is_of_session ys event) (list_all (is_of_session ys) events) own in rw (own_more y ys event none two.0) (all_own y ys events none two.1)

  pub own_each : (xs : List Session) → AreApart xs → list_all (is_of_session (each_changed f xs)) (changes_of xs) ≡ true
  unfolding changes_of
  own_each [] apart = refl
  own_each (x ∷ xs) apart =
      let new = with_life (f x).life x in
      own_states (new ∷ each_changed f xs) x.ordinal x.handle (f x).through (changes_of xs) (rw (itself x.handle) (itself x.ordinal))
      (all_own new (each_changed f xs) (changes_of xs) (listed_each xs x.handle ∙ apart.0) (own_each xs apart.1))

  pub last_each : ((x : Session) → (f x).life.state ≡ last_of x.life.state (f x).through) → (xs : List Session) → AreApart xs → (k : ℕ) → is_some (state_at xs k) ≡ true → last_told k (state_at xs k) (changes_of xs) ≡ state_at (each_changed f xs) k
  unfolding changes_of
  last_each truly [] apart k there = absurd (true≢false (sym there))
  last_each truly (x ∷ xs) apart k there = by (x.handle == k) refl there (last_each truly xs apart.1 k)
    where
      by : (b : Bool) → (x.handle == k) ≡ b → is_some (if b then Some x.life.state else state_at xs k) ≡ true → (is_some (state_at xs k) ≡ true → last_told k (state_at xs k) (changes_of xs) ≡ state_at (each_changed f xs) k)
          → last_told k (if b then Some x.life.state else state_at xs k) (changes_of (x ∷ xs)) ≡ (if b then Some (f x).life.state else state_at (each_changed f xs) k)
      by true eb there more =
          last_here k x.ordinal x.handle (f x).through (changes_of xs) x.life.state eb
          ∙ none_told xs k (Some (last_of x.life.state (f x).through)) (subst (λ (n : ℕ). is_some (state_at xs n) ≡ false) (same_key x.handle k eb) apart.0) ∙ ap Some (sym (truly x))
      by false eb there more = last_else k x.ordinal x.handle (f x).through (changes_of xs) (state_at xs k) eb ∙ more there
