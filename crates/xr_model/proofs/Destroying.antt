-- A handle that was destroyed is never live again: it stands in no row, and no new handle was given before.
use Rattle.std.proofs.Common.{◌≡◌, ℕ, ℤ, ◌==◌, ◌&&◌, ◌||◌, not, Bool, true, false, List, [], ◌∷◌, None, refl, sym, ap, ◌∙◌, true≢false}
use Rattle.xr_types.specs.Code.{is_success}
use Rattle.xr_types.specs.declared.code.Code.TheVariants.{HandleInvalid}
use Rattle.xr_types.specs.declared.handles.Kind.{Kind}
use Rattle.xr_types.specs.declared.handles.Kind.TheVariants.{Instance, Session, ActionSet, Action, Space, Swapchain}
use Rattle.xr_types.specs.declared.handles.Slot.{Slot}
use Rattle.xr_types.specs.declared.handles.TheConstants.{INSTANCES, SESSIONS, ACTION_SETS, ACTIONS, SPACES, SWAPCHAINS}
use Rattle.xr_model.specs.machine.Calls.{Entry}
use Rattle.xr_model.specs.machine.Handles.{Handles, has, is_live, was_given, row_of, with_row, put_in, first_free, cleared, with_handle, destroyed_instances, destroyed_parents, without, without_alone}
use Rattle.xr_model.specs.machine.HandlePlaces.{kind_of}
use Rattle.xr_model.specs.machine.Refusals.{when, first_of}
use Rattle.xr_model.specs.machine.State.{CoreState, Settings, State, opening}
use Rattle.xr_model.specs.machine.Rule.{Effect, unless_refused}
use Rattle.xr_model.specs.machine.Machine.{step, reads_of, IsGiven, IsAllowed}
use Rattle.xr_model.specs.machine.History.{after, clocks_after, IsLegalFrom}
use Rattle.xr_model.proofs.Rows.{same_key, both_of, neither_of, not_true, hasnt_put, hasnt_free, hasnt_cleared, cleared_away}
use Rattle.xr_model.proofs.HandleSteps.{gives_handle, kept_by_step}
use Rattle.xr_model.specs.laws.Soundness.{IsAbsent, AreKnown}

pub and_false : (b : Bool) → b && false ≡ false
and_false true = refl
and_false false = refl

-- so it is of no kind
pub absent_kind : (h : Handles) (handle : ℕ) → IsAbsent h handle → kind_of h handle ≡ None
absent_kind h handle a = rw (a.instances, a.sessions, a.sets, a.actions, a.spaces, a.chains, and_false (not (handle == 0))) refl

absent_without : (h : Handles) (gone handle : ℕ) → (handle == 0) ≡ false → IsAbsent h handle → IsAbsent (without h gone) handle
absent_without h gone handle nz a = record {
  instances = hasnt_cleared gone [] h.instances handle nz a.instances;
  sessions = hasnt_cleared gone (destroyed_instances h gone) h.sessions handle nz a.sessions;
  sets = hasnt_cleared gone (destroyed_instances h gone) h.sets handle nz a.sets;
  actions = hasnt_cleared gone (destroyed_parents h gone) h.actions handle nz a.actions;
  spaces = hasnt_cleared gone (destroyed_parents h gone) h.spaces handle nz a.spaces;
  chains = hasnt_cleared gone (destroyed_parents h gone) h.chains handle nz a.chains;
}

-- nor does it stand anywhere once it was destroyed
absent_itself : (h : Handles) (handle : ℕ) → (handle == 0) ≡ false → IsAbsent (without h handle) handle
absent_itself h handle nz = record {
  instances = cleared_away handle [] h.instances nz;
  sessions = cleared_away handle (destroyed_instances h handle) h.sessions nz;
  sets = cleared_away handle (destroyed_instances h handle) h.sets nz;
  actions = cleared_away handle (destroyed_parents h handle) h.actions nz;
  spaces = cleared_away handle (destroyed_parents h handle) h.spaces nz;
  chains = cleared_away handle (destroyed_parents h handle) h.chains nz;
}

-- one row without the handle takes the place of another
absent_row : (h : Handles) (kind : Kind) (row : List Slot) (handle : ℕ) → IsAbsent h handle → has row handle ≡ false → IsAbsent (with_row h kind row) handle
absent_row h Instance row handle a none = record { instances = none; sessions = a.sessions; sets = a.sets; actions = a.actions; spaces = a.spaces; chains = a.chains }
absent_row h Session row handle a none = record { instances = a.instances; sessions = none; sets = a.sets; actions = a.actions; spaces = a.spaces; chains = a.chains }
absent_row h ActionSet row handle a none = record { instances = a.instances; sessions = a.sessions; sets = none; actions = a.actions; spaces = a.spaces; chains = a.chains }
absent_row h Action row handle a none = record { instances = a.instances; sessions = a.sessions; sets = a.sets; actions = none; spaces = a.spaces; chains = a.chains }
absent_row h Space row handle a none = record { instances = a.instances; sessions = a.sessions; sets = a.sets; actions = a.actions; spaces = none; chains = a.chains }
absent_row h Swapchain row handle a none = record { instances = a.instances; sessions = a.sessions; sets = a.sets; actions = a.actions; spaces = a.spaces; chains = none }

absent_in : (h : Handles) (kind : Kind) (handle : ℕ) → IsAbsent h handle → has (row_of h kind) handle ≡ false
absent_in h Instance handle a = a.instances
absent_in h Session handle a = a.sessions
absent_in h ActionSet handle a = a.sets
absent_in h Action handle a = a.actions
absent_in h Space handle a = a.spaces
absent_in h Swapchain handle a = a.chains

-- nor where one handle of a row is taken out
absent_alone : (h : Handles) (kind : Kind) (gone handle : ℕ) → (handle == 0) ≡ false → IsAbsent h handle → IsAbsent (without_alone h kind gone) handle
absent_alone h kind gone handle nz a = absent_row h kind (cleared gone [] (row_of h kind)) handle a (hasnt_cleared gone [] (row_of h kind) handle nz (absent_in h kind handle a))

-- nor where another handle is given
absent_put : (h : Handles) (kind : Kind) (parent given handle : ℕ) → (given == handle) ≡ false → IsAbsent h handle → IsAbsent (with_handle h kind parent given) handle
absent_put h kind parent given handle other a =
    let slot : Slot = record { handle = given; parent = parent } in
    let b = absent_row h kind (put_in (row_of h kind) slot (first_free (row_of h kind))) handle a (hasnt_put slot (row_of h kind) handle (absent_in h kind handle a) other) in
    record { instances = b.instances; sessions = b.sessions; sets = b.sets; actions = b.actions; spaces = b.spaces; chains = b.chains }

-- ---- each live handle was given

pub known_put : (h : Handles) (kind : Kind) (parent given : ℕ) → AreKnown h → AreKnown (with_handle h kind parent given)
known_put h kind parent given known handle nz new =
    let two = neither_of (given == handle) (was_given h handle) new in absent_put h kind parent given handle two.0 (known handle nz two.1)

pub known_without : (h : Handles) (top : ℕ) → AreKnown h → AreKnown (without h top)
known_without h top known handle nz new = absent_without h top handle nz (known handle nz new)

pub known_alone : (h : Handles) (kind : Kind) (gone : ℕ) → AreKnown h → AreKnown (without_alone h kind gone)
known_alone h kind gone known handle nz new = absent_alone h kind gone handle nz (known handle nz (same_given kind new))
  where
    same_given : (k : Kind) → was_given (without_alone h k gone) handle ≡ false → was_given h handle ≡ false
    same_given Instance new = new
    same_given Session new = new
    same_given ActionSet new = new
    same_given Action new = new
    same_given Space new = new
    same_given Swapchain new = new

pub known_step : (s : State) (e : Entry) → AreKnown s.core.handles → AreKnown (step s e).0.core.handles
known_step s e known = kept_by_step AreKnown s.core (reads_of s e.call) e (record {
  same = known;
  instance = λ gives. known_put s.core.handles Instance 0 e.given known;
  session = λ gives instance live. known_put s.core.handles Session instance e.given known;
  set = λ gives instance live. known_put s.core.handles ActionSet instance e.given known;
  action = λ gives set live. known_put s.core.handles Action set e.given known;
  space = λ gives session live. known_put s.core.handles Space session e.given known;
  chain = λ is gives session live. known_put s.core.handles Swapchain session e.given known;
  without = λ top. known_without s.core.handles top known;
  alone = λ space. known_alone s.core.handles Space space known;
  chain_alone = λ chain. known_alone s.core.handles Swapchain chain known;
})

pub known_after : (s : State) (es : List Entry) → AreKnown s.core.handles → AreKnown (after s es).core.handles
known_after s [] known = known
known_after s (e ∷ es) known = known_after (step s e).0 es (known_step s e known)

pub known_opening : (settings : Settings) → AreKnown (opening settings).core.handles
known_opening settings handle nz new = record {
  instances = hasnt_free INSTANCES handle nz;
  sessions = hasnt_free SESSIONS handle nz;
  sets = hasnt_free ACTION_SETS handle nz;
  actions = hasnt_free ACTIONS handle nz;
  spaces = hasnt_free SPACES handle nz;
  chains = hasnt_free SWAPCHAINS handle nz;
}

-- ---- a handle that was given and stands nowhere

pub record IsOver (handle : ℕ) (h : Handles) : Type 0 where
  pub some : (handle == 0) ≡ false
  pub given : was_given h handle ≡ true
  pub absent : IsAbsent h handle

-- a new handle is another one
is_other : (h : Handles) (handle new : ℕ) (gives : Bool) → IsOver handle h → IsGiven gives h new → gives ≡ true → (new == handle) ≡ false
is_other h handle new false over fresh e = absurd (true≢false (sym e))
is_other h handle new true over fresh e = by (new == handle) refl
  where
    by : (b : Bool) → (new == handle) ≡ b → b ≡ false
    by true same = absurd (true≢false (sym over.given ∙ ap (λ n. was_given h n) (sym (same_key new handle same)) ∙ fresh.1))
    by false same = refl

or_given : (b c : Bool) → c ≡ true → b || c ≡ true
or_given true c e = refl
or_given false c e = e

over_step : (s : State) (e : Entry) (handle : ℕ) → IsAllowed s e → IsOver handle s.core.handles → IsOver handle (step s e).0.core.handles
over_step s e handle allowed over = kept_by_step (IsOver handle) s.core (reads_of s e.call) e (record {
  same = over;
  instance = λ gives. let other = is_other s.core.handles handle e.given (gives_handle s.core (reads_of s e.call) e) over allowed.handle gives in
      record { some = over.some; given = or_given (e.given == handle) (was_given s.core.handles handle) over.given; absent = absent_put s.core.handles Instance 0 e.given handle other over.absent };
  session = λ gives instance live. let other = is_other s.core.handles handle e.given (gives_handle s.core (reads_of s e.call) e) over allowed.handle gives in
      record { some = over.some; given = or_given (e.given == handle) (was_given s.core.handles handle) over.given; absent = absent_put s.core.handles Session instance e.given handle other over.absent };
  set = λ gives instance live. let other = is_other s.core.handles handle e.given (gives_handle s.core (reads_of s e.call) e) over allowed.handle gives in
      record { some = over.some; given = or_given (e.given == handle) (was_given s.core.handles handle) over.given; absent = absent_put s.core.handles ActionSet instance e.given handle other over.absent };
  action = λ gives set live. let other = is_other s.core.handles handle e.given (gives_handle s.core (reads_of s e.call) e) over allowed.handle gives in
      record { some = over.some; given = or_given (e.given == handle) (was_given s.core.handles handle) over.given; absent = absent_put s.core.handles Action set e.given handle other over.absent };
  space = λ gives session live. let other = is_other s.core.handles handle e.given (gives_handle s.core (reads_of s e.call) e) over allowed.handle gives in
      record { some = over.some; given = or_given (e.given == handle) (was_given s.core.handles handle) over.given; absent = absent_put s.core.handles Space session e.given handle other over.absent };
  chain = λ is gives session live. let other = is_other s.core.handles handle e.given (gives_handle s.core (reads_of s e.call) e) over allowed.handle gives in
      record { some = over.some; given = or_given (e.given == handle) (was_given s.core.handles handle) over.given; absent = absent_put s.core.handles Swapchain session e.given handle other over.absent };
  without = λ gone. record { some = over.some; given = over.given; absent = absent_without s.core.handles gone handle over.some over.absent };
  alone = λ gone. record { some = over.some; given = over.given; absent = absent_alone s.core.handles Space gone handle over.some over.absent };
  chain_alone = λ gone. record { some = over.some; given = over.given; absent = absent_alone s.core.handles Swapchain gone handle over.some over.absent };
})

pub over_after : (s : State) (clocks : List ℤ) (es : List Entry) (handle : ℕ) → IsLegalFrom s clocks es → IsOver handle s.core.handles → IsOver handle (after s es).core.handles
over_after s clocks [] handle legal over = over
over_after s clocks (e ∷ es) handle legal over = over_after (step s e).0 (clocks_after clocks e (step s e).0) es handle legal.3 (over_step s e handle legal.0 over)

-- ---- a handle is destroyed

-- one that was live is over
pub over_without : (h : Handles) (kind : Kind) (handle : ℕ) → AreKnown h → is_live h kind handle ≡ true → (IsAbsent h handle → is_live h kind handle ≡ false) → IsOver handle (without h handle)
over_without h kind handle known live dead =
    let some = not_true (handle == 0) (both_of (not (handle == 0)) _ live).0 in
    record { some = some; given = by (was_given h handle) refl some; absent = absent_itself h handle some }
  where
    by : (b : Bool) → was_given h handle ≡ b → (handle == 0) ≡ false → b ≡ true
    by true e nz = refl
    by false e nz = absurd (true≢false (sym live ∙ dead (known handle nz e)))

-- a destroying call that succeeds has its effect, and its handle is live
pub destroyed : (P : Handles → Type 0) (s : CoreState) (live : Bool) (x : Effect) → is_success (unless_refused s (first_of (when (not live) HandleInvalid ∷ [])) x).code ≡ true
    → (live ≡ true → P x.state.handles) → P (unless_refused s (first_of (when (not live) HandleInvalid ∷ [])) x).state.handles
destroyed P s true x good done = done refl
destroyed P s false x good done = absurd (true≢false (sym good))
