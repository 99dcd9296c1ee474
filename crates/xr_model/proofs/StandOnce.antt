-- A live handle stands in one place, and a new one changes nothing else that lives.
use Rattle.std.proofs.Common.{◌≡◌, ◌≢◌, ◌≤◌, ◌+◌, ◌==◌, ◌&&◌, ℕ, ℤ, not, Bool, true, false, List, [], ◌∷◌, Option, Some, None, refl, sym, subst, ◌∙◌, arith, true≢false}
use Rattle.std.specs.Prelude.{is_some, if◌then◌else◌}
use Rattle.xr_types.specs.declared.handles.Kind.{Kind}
use Rattle.xr_types.specs.declared.handles.Kind.TheVariants.{Instance, Session, ActionSet, Action, Space, Swapchain}
use Rattle.xr_types.specs.declared.handles.Slot.{Slot}
use Rattle.xr_types.specs.declared.handles.TheConstants.{INSTANCES, SESSIONS, ACTION_SETS, ACTIONS, SPACES, SWAPCHAINS}
use Rattle.xr_model.specs.machine.Calls.{Entry}
use Rattle.xr_types.specs.declared.calls.Call.{Call}
use Rattle.xr_types.specs.declared.calls.Call.TheVariants as ask
use Rattle.xr_model.specs.machine.Handles.{Handles, free, has, is_live, was_given, row_of, with_row, first_free, put_in, cleared, goes, destroyed_instances, destroyed_parents, with_handle, without, without_alone, no_handles}
use Rattle.xr_model.specs.laws.HandleLaws.{count_in, places_with, StandOnce, HandlesStandOnce, CreatingAdds}
use Rattle.xr_model.specs.machine.Refusals.{Refusal}
use Rattle.xr_model.specs.machine.Rule.{Effect, refusal, told_on, unless_refused}
use Rattle.xr_model.specs.machine.State.{CoreState, State, opening}
use Rattle.xr_model.specs.machine.Machine.{step, rule, reads_of, IsAllowed, IsGiven}
use Rattle.xr_model.specs.machine.History.{after, opening_clocks, clocks_after, IsLegalFrom}
use Rattle.xr_model.proofs.Rows.{itself, same_key, is_false, hasnt_free, neither_of, not_zero, put_first, put_is_first, has_put, hasnt_put}
use Rattle.xr_model.proofs.HandleSteps.{kept_by_step, gives_handle}
use Rattle.xr_model.proofs.Destroying.{known_step, known_opening}
use Rattle.xr_model.specs.laws.Soundness.{IsAbsent, AreKnown}

-- ---- counting

-- one that stands nowhere in a row stands in none of its places
pub none_counted : (row : List Slot) (k : ℕ) → has row k ≡ false → count_in row k ≡ 0
none_counted [] k none = refl
none_counted (s ∷ ss) k none = let two = neither_of (s.handle == k) (has ss k) none in rw two.0 (none_counted ss k two.1)

abbrev one_if : Bool → ℕ
one_if true = 1
one_if false = 0

count_first : (new : Slot) (row : List Slot) (k : ℕ) → (k == 0) ≡ false → count_in (put_first new row) k ≤ count_in row k + one_if (new.handle == k)
unfolding put_first
count_first new [] k nz = by (new.handle == k)
  where
    by : (c : Bool) → 0 ≤ 0 + one_if c
    by true = omega arith
    by false = omega arith
count_first new (s ∷ ss) k nz = by (s.handle == 0) refl (s.handle == k) refl (new.handle == k) (count_first new ss k nz)
  where
    by : (z : Bool) → (s.handle == 0) ≡ z → (b : Bool) → (s.handle == k) ≡ b → (c : Bool) → count_in (put_first new ss) k ≤ count_in ss k + one_if (new.handle == k)
        → count_in (if z then new ∷ ss else s ∷ put_first new ss) k ≤ (if b then count_in ss k + 1 else count_in ss k) + one_if (new.handle == k)
    by true ez true eb c more = absurd (true≢false (sym (subst (λ (n : ℕ). (n == 0) ≡ true) (same_key s.handle k eb) ez) ∙ nz))
    by true ez false eb c more = put (new.handle == k)
      where
        put : (d : Bool) → (if d then count_in ss k + 1 else count_in ss k) ≤ count_in ss k + one_if d
        put true = omega arith
        put false = omega arith
    by false ez true eb c more = rw eb (omega (arith, more))
    by false ez false eb c more = rw eb more

count_put : (new : Slot) (row : List Slot) (k : ℕ) → (k == 0) ≡ false → count_in (put_in row new (first_free row)) k ≤ count_in row k + one_if (new.handle == k)
count_put new row k nz = subst (λ l. count_in l k ≤ count_in row k + one_if (new.handle == k)) (sym (put_is_first new row)) (count_first new row k nz)

count_cleared : (h : ℕ) (above : List ℕ) (row : List Slot) (k : ℕ) → (k == 0) ≡ false → count_in (cleared h above row) k ≤ count_in row k
count_cleared h above [] k nz = omega arith
count_cleared h above (s ∷ ss) k nz = by (goes h above s) (s.handle == k) (count_cleared h above ss k nz)
  where
    by : (g b : Bool) → count_in (cleared h above ss) k ≤ count_in ss k
        → count_in ((if g then free else s) ∷ cleared h above ss) k ≤ (if s.handle == k then count_in ss k + 1 else count_in ss k)
    by true b more = rw (not_zero k nz) (keep (s.handle == k))
      where
        keep : (c : Bool) → count_in (cleared h above ss) k ≤ (if c then count_in ss k + 1 else count_in ss k)
        keep true = omega (arith, more)
        keep false = more
    by false b more = both (s.handle == k)
      where
        both : (c : Bool) → (if c then count_in (cleared h above ss) k + 1 else count_in (cleared h above ss) k) ≤ (if c then count_in ss k + 1 else count_in ss k)
        both true = omega (arith, more)
        both false = more

-- ---- what an entry does to the places

pub given_one : (b : Bool) (h : Handles) (given : ℕ) → b ≡ true → IsGiven b h given → (given ≢ 0) × (was_given h given ≡ false)
given_one true h given e is = is
given_one false h given e is = absurd (true≢false (sym e))

module _ (h : Handles) (given : ℕ) (fresh : was_given h given ≡ false) (nonzero : given ≢ 0) (known : AreKnown h) (once : StandOnce h) where
  absent : IsAbsent h given
  absent = known given (is_false (given == 0) (λ e. nonzero (same_key given 0 e))) fresh

  -- a handle that is put into one row
  put_once : (kind : ℕ) (k : ℕ) → (k == 0) ≡ false → (n : ℕ) → n ≤ places_with h k + one_if (given == k) → n ≤ 1
  put_once kind k nz n more = by (given == k) refl more
    where
      by : (b : Bool) → (given == k) ≡ b → n ≤ places_with h k + one_if b → n ≤ 1
      by false eb more = let before = once k nz in let none : one_if false ≡ 0 = refl in omega (arith, more, before, none)
      by true eb more =
          let same : k ≡ given = sym (same_key given k eb) in
          let a = none_counted h.instances k (subst (λ (m : ℕ). has h.instances m ≡ false) (sym same) absent.instances) in
          let b = none_counted h.sessions k (subst (λ (m : ℕ). has h.sessions m ≡ false) (sym same) absent.sessions) in
          let c = none_counted h.sets k (subst (λ (m : ℕ). has h.sets m ≡ false) (sym same) absent.sets) in
          let d = none_counted h.actions k (subst (λ (m : ℕ). has h.actions m ≡ false) (sym same) absent.actions) in
          let e = none_counted h.spaces k (subst (λ (m : ℕ). has h.spaces m ≡ false) (sym same) absent.spaces) in
          let f = none_counted h.chains k (subst (λ (m : ℕ). has h.chains m ≡ false) (sym same) absent.chains) in
          let all : places_with h k ≡ 0 = rw (a, b, c, d, e, f) refl in
          let one : one_if true ≡ 1 = refl in
          omega (arith, more, all, one)

  instance_once : (parent : ℕ) → StandOnce (with_handle h Instance parent given)
  instance_once parent k nz =
      let more = count_put (record { handle = given; parent = parent }) h.instances k nz in
      put_once 0 k nz (places_with (with_handle h Instance parent given) k) (omega (arith, more))

  session_once : (parent : ℕ) → StandOnce (with_handle h Session parent given)
  session_once parent k nz =
      let more = count_put (record { handle = given; parent = parent }) h.sessions k nz in
      put_once 0 k nz (places_with (with_handle h Session parent given) k) (omega (arith, more))

  set_once : (parent : ℕ) → StandOnce (with_handle h ActionSet parent given)
  set_once parent k nz =
      let more = count_put (record { handle = given; parent = parent }) h.sets k nz in
      put_once 0 k nz (places_with (with_handle h ActionSet parent given) k) (omega (arith, more))

  action_once : (parent : ℕ) → StandOnce (with_handle h Action parent given)
  action_once parent k nz =
      let more = count_put (record { handle = given; parent = parent }) h.actions k nz in
      put_once 0 k nz (places_with (with_handle h Action parent given) k) (omega (arith, more))

  space_once : (parent : ℕ) → StandOnce (with_handle h Space parent given)
  space_once parent k nz =
      let more = count_put (record { handle = given; parent = parent }) h.spaces k nz in
      put_once 0 k nz (places_with (with_handle h Space parent given) k) (omega (arith, more))

  chain_once : (parent : ℕ) → StandOnce (with_handle h Swapchain parent given)
  chain_once parent k nz =
      let more = count_put (record { handle = given; parent = parent }) h.chains k nz in
      put_once 0 k nz (places_with (with_handle h Swapchain parent given) k) (omega (arith, more))

pub once_put : (h : Handles) (kind : Kind) (parent given : ℕ) → (given ≢ 0) × (was_given h given ≡ false) → AreKnown h → StandOnce h → StandOnce (with_handle h kind parent given)
once_put h Instance parent given new known once = instance_once h given new.1 new.0 known once parent
once_put h Session parent given new known once = session_once h given new.1 new.0 known once parent
once_put h ActionSet parent given new known once = set_once h given new.1 new.0 known once parent
once_put h Action parent given new known once = action_once h given new.1 new.0 known once parent
once_put h Space parent given new known once = space_once h given new.1 new.0 known once parent
once_put h Swapchain parent given new known once = chain_once h given new.1 new.0 known once parent

pub once_without : (h : Handles) (top : ℕ) → StandOnce h → StandOnce (without h top)
once_without h top once k nz =
    let all = once k nz in
    let a = count_cleared top [] h.instances k nz in
    let b = count_cleared top (destroyed_instances h top) h.sessions k nz in
    let c = count_cleared top (destroyed_instances h top) h.sets k nz in
    let d = count_cleared top (destroyed_parents h top) h.actions k nz in
    let e = count_cleared top (destroyed_parents h top) h.spaces k nz in
    let f = count_cleared top (destroyed_parents h top) h.chains k nz in
    omega (arith, all, a, b, c, d, e, f)

-- a row in which the handle stands no oftener takes the place of another
places_fewer : (h : Handles) (kind : Kind) (row : List Slot) (k : ℕ) → count_in row k ≤ count_in (row_of h kind) k → places_with (with_row h kind row) k ≤ places_with h k
places_fewer h Instance row k fewer = omega (arith, fewer)
places_fewer h Session row k fewer = omega (arith, fewer)
places_fewer h ActionSet row k fewer = omega (arith, fewer)
places_fewer h Action row k fewer = omega (arith, fewer)
places_fewer h Space row k fewer = omega (arith, fewer)
places_fewer h Swapchain row k fewer = omega (arith, fewer)

pub once_alone : (h : Handles) (kind : Kind) (gone : ℕ) → StandOnce h → StandOnce (without_alone h kind gone)
once_alone h kind gone once k nz =
    let all = once k nz in
    let fewer = places_fewer h kind (cleared gone [] (row_of h kind)) k (count_cleared gone [] (row_of h kind) k nz) in
    omega (arith, all, fewer)

pub once_step : (s : State) (e : Entry) → IsAllowed s e → AreKnown s.core.handles → StandOnce s.core.handles → StandOnce (step s e).0.core.handles
once_step s e allowed known once = kept_by_step StandOnce s.core (reads_of s e.call) e (record {
  same = once;
  instance = λ gives. once_put s.core.handles Instance 0 e.given (given_one (gives_handle s.core (reads_of s e.call) e) s.core.handles e.given gives allowed.handle) known once;
  session = λ gives instance live. once_put s.core.handles Session instance e.given (given_one (gives_handle s.core (reads_of s e.call) e) s.core.handles e.given gives allowed.handle) known once;
  set = λ gives instance live. once_put s.core.handles ActionSet instance e.given (given_one (gives_handle s.core (reads_of s e.call) e) s.core.handles e.given gives allowed.handle) known once;
  action = λ gives set live. once_put s.core.handles Action set e.given (given_one (gives_handle s.core (reads_of s e.call) e) s.core.handles e.given gives allowed.handle) known once;
  space = λ gives session live. once_put s.core.handles Space session e.given (given_one (gives_handle s.core (reads_of s e.call) e) s.core.handles e.given gives allowed.handle) known once;
  chain = λ is gives session live. once_put s.core.handles Swapchain session e.given (given_one (gives_handle s.core (reads_of s e.call) e) s.core.handles e.given gives allowed.handle) known once;
  without = λ top. once_without s.core.handles top once;
  alone = λ space. once_alone s.core.handles Space space once;
  chain_alone = λ chain. once_alone s.core.handles Swapchain chain once;
})

once_after : (s : State) (clocks : List ℤ) (es : List Entry) → IsLegalFrom s clocks es → AreKnown s.core.handles → StandOnce s.core.handles → StandOnce (after s es).core.handles
once_after s clocks [] legal known once = once
once_after s clocks (e ∷ es) legal known once = once_after (step s e).0 (clocks_after clocks e (step s e).0) es legal.3 (known_step s e known) (once_step s e legal.0 known once)

pub none_once : StandOnce no_handles
none_once k nz =
    let a = none_counted no_handles.instances k (hasnt_free INSTANCES k nz) in
    let b = none_counted no_handles.sessions k (hasnt_free SESSIONS k nz) in
    let c = none_counted no_handles.sets k (hasnt_free ACTION_SETS k nz) in
    let d = none_counted no_handles.actions k (hasnt_free ACTIONS k nz) in
    let e = none_counted no_handles.spaces k (hasnt_free SPACES k nz) in
    let f = none_counted no_handles.chains k (hasnt_free SWAPCHAINS k nz) in
    omega (arith, a, b, c, d, e, f)

pub handles_stand_once : HandlesStandOnce
handles_stand_once settings es legal = once_after (opening settings) (opening_clocks settings) es legal (known_opening settings) none_once

-- ---- a new handle changes nothing else

same_put : (new : Slot) (row : List Slot) (k : ℕ) → (k == new.handle) ≡ false → not (k == 0) && has (put_in row new (first_free row)) k ≡ not (k == 0) && has row k
same_put new row k other = by (k == 0) refl (has row k) refl
  where
    turned : (new.handle == k) ≡ false
    turned = is_false (new.handle == k) (λ e. true≢false (sym (subst (λ (n : ℕ). (k == n) ≡ true) (sym (same_key new.handle k e)) (itself k)) ∙ other))

    by : (z : Bool) → (k == 0) ≡ z → (b : Bool) → has row k ≡ b → not z && has (put_in row new (first_free row)) k ≡ not z && has row k
    by true ez b eb = refl
    by false ez true eb = rw (has_put new row k ez eb) (sym eb)
    by false ez false eb = rw (hasnt_put new row k eb turned) (sym eb)

IsSame : Handles → Handles → ℕ → Type 0
IsSame h new given = (kind : Kind) (other : ℕ) → (other == given) ≡ false → is_live new kind other ≡ is_live h kind other

instance_same : (h : Handles) (given : ℕ) (kind : Kind) (other : ℕ) → (other == given) ≡ false → is_live (with_handle h Instance 0 given) kind other ≡ is_live h kind other
instance_same h given Instance other apart = same_put (record { handle = given; parent = 0 }) h.instances other apart
instance_same h given Session other apart = refl
instance_same h given ActionSet other apart = refl
instance_same h given Action other apart = refl
instance_same h given Space other apart = refl
instance_same h given Swapchain other apart = refl

session_same : (h : Handles) (parent given : ℕ) (kind : Kind) (other : ℕ) → (other == given) ≡ false → is_live (with_handle h Session parent given) kind other ≡ is_live h kind other
session_same h parent given Instance other apart = refl
session_same h parent given Session other apart = same_put (record { handle = given; parent = parent }) h.sessions other apart
session_same h parent given ActionSet other apart = refl
session_same h parent given Action other apart = refl
session_same h parent given Space other apart = refl
session_same h parent given Swapchain other apart = refl

set_same : (h : Handles) (parent given : ℕ) (kind : Kind) (other : ℕ) → (other == given) ≡ false → is_live (with_handle h ActionSet parent given) kind other ≡ is_live h kind other
set_same h parent given Instance other apart = refl
set_same h parent given Session other apart = refl
set_same h parent given ActionSet other apart = same_put (record { handle = given; parent = parent }) h.sets other apart
set_same h parent given Action other apart = refl
set_same h parent given Space other apart = refl
set_same h parent given Swapchain other apart = refl

action_same : (h : Handles) (parent given : ℕ) (kind : Kind) (other : ℕ) → (other == given) ≡ false → is_live (with_handle h Action parent given) kind other ≡ is_live h kind other
action_same h parent given Instance other apart = refl
action_same h parent given Session other apart = refl
action_same h parent given ActionSet other apart = refl
action_same h parent given Action other apart = same_put (record { handle = given; parent = parent }) h.actions other apart
action_same h parent given Space other apart = refl
action_same h parent given Swapchain other apart = refl

space_same : (h : Handles) (parent given : ℕ) (kind : Kind) (other : ℕ) → (other == given) ≡ false → is_live (with_handle h Space parent given) kind other ≡ is_live h kind other
space_same h parent given Instance other apart = refl
space_same h parent given Session other apart = refl
space_same h parent given ActionSet other apart = refl
space_same h parent given Action other apart = refl
space_same h parent given Space other apart = same_put (record { handle = given; parent = parent }) h.spaces other apart
space_same h parent given Swapchain other apart = refl

pub chain_same : (h : Handles) (parent given : ℕ) (kind : Kind) (other : ℕ) → (other == given) ≡ false → is_live (with_handle h Swapchain parent given) kind other ≡ is_live h kind other
chain_same h parent given Instance other apart = refl
chain_same h parent given Session other apart = refl
chain_same h parent given ActionSet other apart = refl
chain_same h parent given Action other apart = refl
chain_same h parent given Space other apart = refl
chain_same h parent given Swapchain other apart = same_put (record { handle = given; parent = parent }) h.chains other apart

refused_same : (s : CoreState) (o : Option Refusal) (x : Effect) (kind : Kind) (other : ℕ) → is_live x.state.handles kind other ≡ is_live s.handles kind other → is_live (unless_refused s o x).state.handles kind other ≡ is_live s.handles kind other
refused_same s None x kind other same = same
refused_same s (Some r) x kind other same = refl

pub creating_adds : CreatingAdds
creating_adds s e creates kind other apart = by e.call creates
  where
    by : (r : Call) → is_some (rule s.core (reads_of s r) (record e { call = r })).creates ≡ true → is_live (step s (record e { call = r })).0.core.handles kind other ≡ is_live s.core.handles kind other
    by (ask.CreateInstance major minor) creates =
        let f = rule s.core (reads_of s (ask.CreateInstance major minor)) (record e { call = ask.CreateInstance major minor }) in
        refused_same s.core (refusal e.short f) (told_on f.on f.effect) kind other (instance_same s.core.handles e.given kind other apart)
    by (ask.CreateSession instance system) creates =
        let f = rule s.core (reads_of s (ask.CreateSession instance system)) (record e { call = ask.CreateSession instance system }) in
        refused_same s.core (refusal e.short f) (told_on f.on f.effect) kind other (session_same s.core.handles instance e.given kind other apart)
    by (ask.CreateReferenceSpace session what offset) creates =
        let f = rule s.core (reads_of s (ask.CreateReferenceSpace session what offset)) (record e { call = ask.CreateReferenceSpace session what offset }) in
        refused_same s.core (refusal e.short f) (told_on f.on f.effect) kind other (space_same s.core.handles session e.given kind other apart)
    by (ask.CreateActionSpace session action sub offset) creates =
        let f = rule s.core (reads_of s (ask.CreateActionSpace session action sub offset)) (record e { call = ask.CreateActionSpace session action sub offset }) in
        refused_same s.core (refusal e.short f) (told_on f.on f.effect) kind other (space_same s.core.handles session e.given kind other apart)
    by (ask.CreateActionSet instance name localized priority) creates =
        let f = rule s.core (reads_of s (ask.CreateActionSet instance name localized priority)) (record e { call = ask.CreateActionSet instance name localized priority }) in
        refused_same s.core (refusal e.short f) (told_on f.on f.effect) kind other (set_same s.core.handles instance e.given kind other apart)
    by (ask.CreateAction set name type subs localized) creates =
        let f = rule s.core (reads_of s (ask.CreateAction set name type subs localized)) (record e { call = ask.CreateAction set name type subs localized }) in
        refused_same s.core (refusal e.short f) (told_on f.on f.effect) kind other (action_same s.core.handles set e.given kind other apart)
    by (ask.CreateSwapchain session format width height fixed) creates =
        let f = rule s.core (reads_of s (ask.CreateSwapchain session format width height fixed)) (record e { call = ask.CreateSwapchain session format width height fixed }) in
        refused_same s.core (refusal e.short f) (told_on f.on f.effect) kind other (chain_same s.core.handles session e.given kind other apart)
    by _ creates = absurd (true≢false (sym creates))
