-- Creating and destroying leave the parents and the places of all other handles.
use Rattle.std.proofs.Common.{◌≡◌, ◌≤◌, ◌+◌, ◌==◌, ◌&&◌, ℕ, not, Bool, true, false, List, [], ◌∷◌, Option, Some, None, option_map, refl, sym, ap, subst, ◌∙◌, arith, true≢false}
use Rattle.std.specs.Prelude.{is_some, if◌then◌else◌}
use Rattle.std.specs.List.{position_from}
use Rattle.xr_types.specs.Code.{is_success}
use Rattle.xr_types.specs.declared.handles.Kind.{Kind}
use Rattle.xr_types.specs.declared.handles.Kind.TheVariants.{Instance, Session, ActionSet, Action, Space, Swapchain}
use Rattle.xr_types.specs.declared.handles.Slot.{Slot}
use Rattle.xr_model.specs.machine.Calls.{Entry}
use Rattle.xr_types.specs.declared.calls.Call.{Call}
use Rattle.xr_types.specs.declared.calls.Call.TheVariants as ask
use Rattle.xr_model.specs.machine.Handles.{Handles, free, has, is_live, row_of, put_in, first_free, goes, cleared, destroyed_instances, destroyed_parents, with_handle, without, without_alone}
use Rattle.xr_model.specs.machine.HandlePlaces.{kind_of, place_in, slot_in, place_of_kind, parent_of_kind}
use Rattle.xr_model.specs.machine.Refusals.{Refusal}
use Rattle.xr_model.specs.machine.Rule.{Effect, refusal, told_on, unless_refused}
use Rattle.xr_model.specs.machine.State.{CoreState, State, opening}
use Rattle.xr_model.specs.machine.Machine.{step, rule, reads_of}
use Rattle.xr_model.specs.machine.History.{after}
use Rattle.xr_model.specs.laws.HandleLaws.{count_in, places_with, StandOnce, destroys}
use Rattle.xr_model.specs.laws.ListLaws.{SamePlace, CreatingLeavesPlaces, DestroyingLeavesPlaces}
use Rattle.xr_model.proofs.Rows.{same_key, is_false, itself, not_zero, both_of, put_first, put_is_first, hasnt_cleared, uncounted}
use Rattle.xr_model.proofs.StandOnce.{creating_adds, handles_stand_once}
use Rattle.xr_model.proofs.DestroyingTakes.{destroying_takes}
use Rattle.xr_model.proofs.Destroying.{destroyed}

-- ---- by rows

-- a handle is found in a row as in another, and at the same place
abbrev RowSame : ℕ → List Slot → List Slot → Type 0
RowSame p new row = (slot_in new p ≡ slot_in row p) × (place_in new p ≡ place_in row p)

-- a handle that is of the same kinds and found alike in the row of its kind has the same parent and place
same_place : (h new : Handles) (p : ℕ) → ((kind : Kind) → is_live new kind p ≡ is_live h kind p) → ((kind : Kind) → is_live h kind p ≡ true → RowSame p (row_of new kind) (row_of h kind)) → SamePlace h new p
same_place h new p live rows = record {
  parent = ap (λ (o : Option Kind). parent_of_kind new o p) kinds ∙ (by (kind_of h p) refl).0;
  place = ap (λ (o : Option Kind). place_of_kind new o p) kinds ∙ (by (kind_of h p) refl).1;
}
  where
    kinds : kind_of new p ≡ kind_of h p
    kinds = rw (live Instance, live Session, live ActionSet, live Action, live Space, live Swapchain) refl

    only : (a b : Kind) → Some a ≡ Some b → a ≡ b
    only a b e = cc

    is_of : (k : Kind) → kind_of h p ≡ Some k → is_live h k p ≡ true
    is_of k found = first (is_live h Instance p) refl (is_live h Session p) refl (is_live h ActionSet p) refl (is_live h Action p) refl (is_live h Space p) refl (is_live h Swapchain p) refl found
      where
        at : (j : Kind) → is_live h j p ≡ true → Some j ≡ Some k → is_live h k p ≡ true
        at j is e = subst (λ (n : Kind). is_live h n p ≡ true) (only j k e) is

        first : (a : Bool) → is_live h Instance p ≡ a → (b : Bool) → is_live h Session p ≡ b → (c : Bool) → is_live h ActionSet p ≡ c → (d : Bool) → is_live h Action p ≡ d → (e : Bool) → is_live h Space p ≡ e → (f : Bool) → is_live h Swapchain p ≡ f
            → (if a then Some Instance else (if b then Some Session else (if c then Some ActionSet else (if d then Some Action else (if e then Some Space else (if f then Some Swapchain else None)))))) ≡ Some k → is_live h k p ≡ true
        first true ea b eb c ec d ed e ee f ef found = at Instance ea found
        first false ea true eb c ec d ed e ee f ef found = at Session eb found
        first false ea false eb true ec d ed e ee f ef found = at ActionSet ec found
        first false ea false eb false ec true ed e ee f ef found = at Action ed found
        first false ea false eb false ec false ed true ee f ef found = at Space ee found
        first false ea false eb false ec false ed false ee true ef found = at Swapchain ef found
        first false ea false eb false ec false ed false ee false ef found = cc

    by : (o : Option Kind) → kind_of h p ≡ o → (parent_of_kind new o p ≡ parent_of_kind h o p) × (place_of_kind new o p ≡ place_of_kind h o p)
    by None found = (refl, refl)
    by (Some k) found = let same = rows k (is_of k found) in (ap (λ (o : Option Slot). option_map (λ s. s.parent) o) same.0, same.1)

-- ---- a new handle

put_slot : (new : Slot) (row : List Slot) (p : ℕ) → (p == 0) ≡ false → (new.handle == p) ≡ false → slot_in (put_first new row) p ≡ slot_in row p
unfolding put_first
put_slot new [] p nz other = refl
put_slot new (s ∷ ss) p nz other = by (s.handle == 0) refl (put_slot new ss p nz other)
  where
    by : (b : Bool) → (s.handle == 0) ≡ b → slot_in (put_first new ss) p ≡ slot_in ss p → slot_in (if b then new ∷ ss else s ∷ put_first new ss) p ≡ slot_in (s ∷ ss) p
    by true eb more = let free : (s.handle == p) ≡ false = subst (λ (n : ℕ). (n == p) ≡ false) (sym (same_key s.handle 0 eb)) (not_zero p nz) in rw (other, free) refl
    by false eb more = ap (λ (o : Option Slot). if s.handle == p then Some s else o) more

put_place : (new : Slot) (row : List Slot) (p i : ℕ) → (p == 0) ≡ false → (new.handle == p) ≡ false → position_from (λ s. s.handle == p) i (put_first new row) ≡ position_from (λ s. s.handle == p) i row
unfolding put_first
put_place new [] p i nz other = refl
put_place new (s ∷ ss) p i nz other = by (s.handle == 0) refl (put_place new ss p (i + 1) nz other)
  where
    by : (b : Bool) → (s.handle == 0) ≡ b → position_from (λ x. x.handle == p) (i + 1) (put_first new ss) ≡ position_from (λ x. x.handle == p) (i + 1) ss
        → position_from (λ x. x.handle == p) i (if b then new ∷ ss else s ∷ put_first new ss) ≡ position_from (λ x. x.handle == p) i (s ∷ ss)
    by true eb more = let free : (s.handle == p) ≡ false = subst (λ (n : ℕ). (n == p) ≡ false) (sym (same_key s.handle 0 eb)) (not_zero p nz) in rw (other, free) refl
    by false eb more = ap (λ (o : Option ℕ). if s.handle == p then Some i else o) more

row_put : (new : Slot) (row : List Slot) (p : ℕ) → (p == 0) ≡ false → (p == new.handle) ≡ false → RowSame p (put_in row new (first_free row)) row
row_put new row p nz apart =
    let other : (new.handle == p) ≡ false = is_false (new.handle == p) (λ e. true≢false (sym (subst (λ (n : ℕ). (p == n) ≡ true) (sym (same_key new.handle p e)) (itself p)) ∙ apart)) in
    (ap (λ (l : List Slot). slot_in l p) (put_is_first new row) ∙ put_slot new row p nz other, ap (λ (l : List Slot). place_in l p) (put_is_first new row) ∙ put_place new row p 0 nz other)

-- the rows of all kinds, where one was put into
module _ (h : Handles) (parent given p : ℕ) (nz : (p == 0) ≡ false) (apart : (p == given) ≡ false) where
  instance_rows : (kind : Kind) → RowSame p (row_of (with_handle h Instance parent given) kind) (row_of h kind)
  instance_rows Instance = row_put (record { handle = given; parent = parent }) h.instances p nz apart
  instance_rows Session = (refl, refl)
  instance_rows ActionSet = (refl, refl)
  instance_rows Action = (refl, refl)
  instance_rows Space = (refl, refl)
  instance_rows Swapchain = (refl, refl)

  session_rows : (kind : Kind) → RowSame p (row_of (with_handle h Session parent given) kind) (row_of h kind)
  session_rows Session = row_put (record { handle = given; parent = parent }) h.sessions p nz apart
  session_rows Instance = (refl, refl)
  session_rows ActionSet = (refl, refl)
  session_rows Action = (refl, refl)
  session_rows Space = (refl, refl)
  session_rows Swapchain = (refl, refl)

  set_rows : (kind : Kind) → RowSame p (row_of (with_handle h ActionSet parent given) kind) (row_of h kind)
  set_rows ActionSet = row_put (record { handle = given; parent = parent }) h.sets p nz apart
  set_rows Instance = (refl, refl)
  set_rows Session = (refl, refl)
  set_rows Action = (refl, refl)
  set_rows Space = (refl, refl)
  set_rows Swapchain = (refl, refl)

  action_rows : (kind : Kind) → RowSame p (row_of (with_handle h Action parent given) kind) (row_of h kind)
  action_rows Action = row_put (record { handle = given; parent = parent }) h.actions p nz apart
  action_rows Instance = (refl, refl)
  action_rows Session = (refl, refl)
  action_rows ActionSet = (refl, refl)
  action_rows Space = (refl, refl)
  action_rows Swapchain = (refl, refl)

  space_rows : (kind : Kind) → RowSame p (row_of (with_handle h Space parent given) kind) (row_of h kind)
  space_rows Space = row_put (record { handle = given; parent = parent }) h.spaces p nz apart
  space_rows Instance = (refl, refl)
  space_rows Session = (refl, refl)
  space_rows ActionSet = (refl, refl)
  space_rows Action = (refl, refl)
  space_rows Swapchain = (refl, refl)

  chain_rows : (kind : Kind) → RowSame p (row_of (with_handle h Swapchain parent given) kind) (row_of h kind)
  chain_rows Swapchain = row_put (record { handle = given; parent = parent }) h.chains p nz apart
  chain_rows Instance = (refl, refl)
  chain_rows Session = (refl, refl)
  chain_rows ActionSet = (refl, refl)
  chain_rows Action = (refl, refl)
  chain_rows Space = (refl, refl)

refused_rows : (s : CoreState) (o : Option Refusal) (x : Effect) (p : ℕ) → ((kind : Kind) → RowSame p (row_of x.state.handles kind) (row_of s.handles kind)) → (kind : Kind) → RowSame p (row_of (unless_refused s o x).state.handles kind) (row_of s.handles kind)
refused_rows s None x p rows = rows
refused_rows s (Some r) x p rows = λ kind. (refl, refl)

rows_created : (s : State) (e : Entry) (p : ℕ) → (p == 0) ≡ false → (p == e.given) ≡ false → is_some (rule s.core (reads_of s e.call) e).creates ≡ true → (kind : Kind) → RowSame p (row_of (step s e).0.core.handles kind) (row_of s.core.handles kind)
rows_created s e p nz apart = by e.call
  where
    by : (r : Call) → is_some (rule s.core (reads_of s r) (record e { call = r })).creates ≡ true → (kind : Kind) → RowSame p (row_of (step s (record e { call = r })).0.core.handles kind) (row_of s.core.handles kind)
    by (ask.CreateInstance major minor) is = let f = rule s.core (reads_of s (ask.CreateInstance major minor)) (record e { call = ask.CreateInstance major minor }) in refused_rows s.core (refusal e.short f) (told_on f.on f.effect) p (instance_rows s.core.handles 0 e.given p nz apart)
    by (ask.CreateSession instance system) is = let f = rule s.core (reads_of s (ask.CreateSession instance system)) (record e { call = ask.CreateSession instance system }) in refused_rows s.core (refusal e.short f) (told_on f.on f.effect) p (session_rows s.core.handles instance e.given p nz apart)
    by (ask.CreateReferenceSpace session what offset) is = let f = rule s.core (reads_of s (ask.CreateReferenceSpace session what offset)) (record e { call = ask.CreateReferenceSpace session what offset }) in refused_rows s.core (refusal e.short f) (told_on f.on f.effect) p (space_rows s.core.handles session e.given p nz apart)
    by (ask.CreateActionSpace session action sub offset) is = let f = rule s.core (reads_of s (ask.CreateActionSpace session action sub offset)) (record e { call = ask.CreateActionSpace session action sub offset }) in refused_rows s.core (refusal e.short f) (told_on f.on f.effect) p (space_rows s.core.handles session e.given p nz apart)
    by (ask.CreateSwapchain session format width height fixed) is = let f = rule s.core (reads_of s (ask.CreateSwapchain session format width height fixed)) (record e { call = ask.CreateSwapchain session format width height fixed }) in refused_rows s.core (refusal e.short f) (told_on f.on f.effect) p (chain_rows s.core.handles session e.given p nz apart)
    by (ask.CreateActionSet instance name localized priority) is = let f = rule s.core (reads_of s (ask.CreateActionSet instance name localized priority)) (record e { call = ask.CreateActionSet instance name localized priority }) in refused_rows s.core (refusal e.short f) (told_on f.on f.effect) p (set_rows s.core.handles instance e.given p nz apart)
    by (ask.CreateAction set name type subs localized) is = let f = rule s.core (reads_of s (ask.CreateAction set name type subs localized)) (record e { call = ask.CreateAction set name type subs localized }) in refused_rows s.core (refusal e.short f) (told_on f.on f.effect) p (action_rows s.core.handles set e.given p nz apart)
    by _ is = absurd (true≢false (sym is))

pub creating_leaves_places : CreatingLeavesPlaces
creating_leaves_places s e creates p apart = by (p == 0) refl
  where
    live : (kind : Kind) → is_live (step s e).0.core.handles kind p ≡ is_live s.core.handles kind p
    live kind = creating_adds s e creates kind p apart

    by : (b : Bool) → (p == 0) ≡ b → SamePlace s.core.handles (step s e).0.core.handles p
    by true eb = same_place s.core.handles (step s e).0.core.handles p live (λ kind there. absurd (true≢false (sym there ∙ rw eb refl)))
    by false eb = same_place s.core.handles (step s e).0.core.handles p live (λ kind there. rows_created s e p eb apart creates kind)

-- ---- destroying

clear_slot : (h : ℕ) (above : List ℕ) (row : List Slot) (p : ℕ) → (p == 0) ≡ false → has (cleared h above row) p ≡ true → count_in row p ≤ 1 → slot_in (cleared h above row) p ≡ slot_in row p
clear_slot h above [] p nz there most = refl
clear_slot h above (s ∷ ss) p nz there most = by (goes h above s) (s.handle == p) refl there most (clear_slot h above ss p nz)
  where
    gone : count_in ss p + 1 ≤ 1 → has (cleared h above ss) p ≡ true → ⊥
    gone most there = let zero : count_in ss p ≡ 0 = omega (arith, most) in true≢false (sym there ∙ hasnt_cleared h above ss p nz (uncounted ss p zero))

    by : (g b : Bool) → (s.handle == p) ≡ b → has ((if g then free else s) ∷ cleared h above ss) p ≡ true → (if b then count_in ss p + 1 else count_in ss p) ≤ 1
        → (has (cleared h above ss) p ≡ true → count_in ss p ≤ 1 → slot_in (cleared h above ss) p ≡ slot_in ss p) → slot_in ((if g then free else s) ∷ cleared h above ss) p ≡ (if b then Some s else slot_in ss p)
    by true true eb there most more = absurd (gone most (rw (not_zero p nz) at there))
    by true false eb there most more = let rest : has (cleared h above ss) p ≡ true = rw (not_zero p nz) at there in rw (not_zero p nz) (more rest most)
    by false true eb there most more = rw eb refl
    by false false eb there most more = let rest : has (cleared h above ss) p ≡ true = rw eb at there in rw eb (more rest most)

clear_place : (h : ℕ) (above : List ℕ) (row : List Slot) (p i : ℕ) → (p == 0) ≡ false → has (cleared h above row) p ≡ true → count_in row p ≤ 1 → position_from (λ s. s.handle == p) i (cleared h above row) ≡ position_from (λ s. s.handle == p) i row
clear_place h above [] p i nz there most = refl
clear_place h above (s ∷ ss) p i nz there most = by (goes h above s) (s.handle == p) refl there most (clear_place h above ss p (i + 1) nz)
  where
    gone : count_in ss p + 1 ≤ 1 → has (cleared h above ss) p ≡ true → ⊥
    gone most there = let zero : count_in ss p ≡ 0 = omega (arith, most) in true≢false (sym there ∙ hasnt_cleared h above ss p nz (uncounted ss p zero))

    by : (g b : Bool) → (s.handle == p) ≡ b → has ((if g then free else s) ∷ cleared h above ss) p ≡ true → (if b then count_in ss p + 1 else count_in ss p) ≤ 1
        → (has (cleared h above ss) p ≡ true → count_in ss p ≤ 1 → position_from (λ x. x.handle == p) (i + 1) (cleared h above ss) ≡ position_from (λ x. x.handle == p) (i + 1) ss)
        → position_from (λ x. x.handle == p) i ((if g then free else s) ∷ cleared h above ss) ≡ (if b then Some i else position_from (λ x. x.handle == p) (i + 1) ss)
    by true true eb there most more = absurd (gone most (rw (not_zero p nz) at there))
    by true false eb there most more = let rest : has (cleared h above ss) p ≡ true = rw (not_zero p nz) at there in rw (not_zero p nz) (more rest most)
    by false true eb there most more = rw eb refl
    by false false eb there most more = let rest : has (cleared h above ss) p ≡ true = rw eb at there in rw eb (more rest most)

-- the rows behind a handle that went, where this one stays
module _ (h : Handles) (top p : ℕ) (once : StandOnce h) (nz : (p == 0) ≡ false) where
  cleared_row : (above : List ℕ) (row : List Slot) → has (cleared top above row) p ≡ true → count_in row p ≤ places_with h p → RowSame p (cleared top above row) row
  cleared_row above row there part =
      let all = once p nz in
      let most : count_in row p ≤ 1 = omega (arith, part, all) in
      (clear_slot top above row p nz there most, clear_place top above row p 0 nz there most)

  without_rows : (kind : Kind) → has (row_of (without h top) kind) p ≡ true → RowSame p (row_of (without h top) kind) (row_of h kind)
  without_rows Instance there = cleared_row [] h.instances there (omega arith)
  without_rows Session there = cleared_row (destroyed_instances h top) h.sessions there (omega arith)
  without_rows ActionSet there = cleared_row (destroyed_instances h top) h.sets there (omega arith)
  without_rows Action there = cleared_row (destroyed_parents h top) h.actions there (omega arith)
  without_rows Space there = cleared_row (destroyed_parents h top) h.spaces there (omega arith)
  without_rows Swapchain there = cleared_row (destroyed_parents h top) h.chains there (omega arith)

  alone_rows : (kind : Kind) → has (row_of (without_alone h Space top) kind) p ≡ true → RowSame p (row_of (without_alone h Space top) kind) (row_of h kind)
  alone_rows Space there = cleared_row [] h.spaces there (omega arith)
  alone_rows _ there = (refl, refl)

  chain_alone_rows : (kind : Kind) → has (row_of (without_alone h Swapchain top) kind) p ≡ true → RowSame p (row_of (without_alone h Swapchain top) kind) (row_of h kind)
  chain_alone_rows Swapchain there = cleared_row [] h.chains there (omega arith)
  chain_alone_rows _ there = (refl, refl)

-- the rows of a state's handles behind a call that destroys
abbrev Rows : Handles → ℕ → Handles → Type 0
Rows h p new = (kind : Kind) → has (row_of new kind) p ≡ true → RowSame p (row_of new kind) (row_of h kind)

rows_destroyed : (s : State) (e : Entry) (handle p : ℕ) → StandOnce s.core.handles → (p == 0) ≡ false → destroys e.call handle ≡ true → is_success (step s e).1.reply.code ≡ true → Rows s.core.handles p (step s e).0.core.handles
rows_destroyed s e handle p once nz = by e.call
  where
    by : (r : Call) → destroys r handle ≡ true → is_success (step s (record e { call = r })).1.reply.code ≡ true → Rows s.core.handles p (step s (record e { call = r })).0.core.handles
    by (ask.DestroyInstance instance) names good = destroyed (Rows s.core.handles p) s.core (is_live s.core.handles Instance instance) (rule s.core (reads_of s (ask.DestroyInstance instance)) (record e { call = ask.DestroyInstance instance })).effect good (λ live. without_rows s.core.handles instance p once nz)
    by (ask.DestroySession session) names good = destroyed (Rows s.core.handles p) s.core (is_live s.core.handles Session session) (rule s.core (reads_of s (ask.DestroySession session)) (record e { call = ask.DestroySession session })).effect good (λ live. without_rows s.core.handles session p once nz)
    by (ask.DestroySpace space) names good = destroyed (Rows s.core.handles p) s.core (is_live s.core.handles Space space) (rule s.core (reads_of s (ask.DestroySpace space)) (record e { call = ask.DestroySpace space })).effect good (λ live. alone_rows s.core.handles space p once nz)
    by (ask.DestroyActionSet set) names good = destroyed (Rows s.core.handles p) s.core (is_live s.core.handles ActionSet set) (rule s.core (reads_of s (ask.DestroyActionSet set)) (record e { call = ask.DestroyActionSet set })).effect good (λ live. without_rows s.core.handles set p once nz)
    by (ask.DestroyAction action) names good = destroyed (Rows s.core.handles p) s.core (is_live s.core.handles Action action) (rule s.core (reads_of s (ask.DestroyAction action)) (record e { call = ask.DestroyAction action })).effect good (λ live. without_rows s.core.handles action p once nz)
    by (ask.DestroySwapchain chain) names good =
        destroyed (Rows s.core.handles p) s.core (is_live s.core.handles Swapchain chain) (rule s.core (reads_of s (ask.DestroySwapchain chain)) (record e { call = ask.DestroySwapchain chain })).effect good
        (λ live. chain_alone_rows s.core.handles chain p once nz)
    by _ names good = absurd (true≢false (sym names))

pub destroying_leaves_places : DestroyingLeavesPlaces
destroying_leaves_places settings es e handle legal names good p outside = by (p == 0) refl
  where
    and_true : (b : Bool) → b && true ≡ b
    and_true true = refl
    and_true false = refl

    live : (kind : Kind) → is_live (step (after (opening settings) es) e).0.core.handles kind p ≡ is_live (after (opening settings) es).core.handles kind p
    live kind = destroying_takes settings es e handle legal names good kind p ∙ ap (λ b. is_live (after (opening settings) es).core.handles kind p && not b) outside ∙ and_true (is_live (after (opening settings) es).core.handles kind p)

    by : (b : Bool) → (p == 0) ≡ b → SamePlace (after (opening settings) es).core.handles (step (after (opening settings) es) e).0.core.handles p
    by true eb = same_place (after (opening settings) es).core.handles (step (after (opening settings) es) e).0.core.handles p live (λ kind there. absurd (true≢false (sym there ∙ rw eb refl)))
    by false eb = same_place (after (opening settings) es).core.handles (step (after (opening settings) es) e).0.core.handles p live
        (λ kind there. rows_destroyed (after (opening settings) es) e handle p (handles_stand_once settings es legal) eb names good kind (both_of (not (p == 0)) _ (live kind ∙ there)).1)
