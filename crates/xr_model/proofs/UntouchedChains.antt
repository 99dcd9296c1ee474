-- Destroying an action set or an action leaves the handles of swapchains.
use Rattle.std.proofs.Common.{◌≡◌, ◌+◌, ◌≤◌, ◌==◌, ◌&&◌, ◌||◌, ℕ, Bool, true, false, not, List, [], ◌∷◌, refl, sym, ap, ◌∙◌, arith, true≢false}
use Rattle.std.specs.Prelude.{if◌then◌else◌}
use Rattle.xr_types.specs.declared.handles.Kind.TheVariants.{ActionSet, Action}
use Rattle.xr_types.specs.declared.handles.Slot.{Slot}
use Rattle.xr_model.specs.machine.Handles.{Handles, is_live, has, is_among, goes, going, cleared, destroyed_parents, without}
use Rattle.xr_model.specs.laws.HandleLaws.{count_in, places_with, is_under, AreUnder, StandOnce}
use Rattle.xr_model.proofs.Rows.{same_key, both_of, neither_of, not_true, going_none, counted, uncounted}

named : (top : ℕ) (s : Slot) → goes top [] s ≡ true → (s.handle == top) ≡ true
unfolding goes
named top s is = by (s.handle == top) (both_of (not (s.handle == 0)) ((s.handle == top) || false) is).1
  where
    by : (b : Bool) → b || false ≡ true → b ≡ true
    by true is = refl
    by false is = is

-- what goes by its own handle has it
going_only : (top : ℕ) (row : List Slot) (p : ℕ) → is_among (going top [] row) p ≡ true → p ≡ top
going_only top [] p among = absurd (true≢false (sym among))
going_only top (s ∷ ss) p among = by (goes top [] s) refl among (going_only top ss p)
  where
    by : (b : Bool) → goes top [] s ≡ b → is_among (if b then s.handle ∷ going top [] ss else going top [] ss) p ≡ true → (is_among (going top [] ss) p ≡ true → p ≡ top) → p ≡ top
    by true eb among more = one (s.handle == p) refl among
      where
        one : (c : Bool) → (s.handle == p) ≡ c → c || is_among (going top [] ss) p ≡ true → p ≡ top
        one true ec among = sym (same_key s.handle p ec) ∙ same_key s.handle top (named top s eb)
        one false ec among = more among
    by false eb among more = more among

stays_out : (top : ℕ) (above : List ℕ) (over : List Slot) (s : Slot) → (has over s.parent ≡ true → is_among above s.parent ≡ false) → (s.handle == top) ≡ false → (s.handle == 0) || (not (s.parent == 0) && has over s.parent) ≡ true → goes top above s ≡ false
unfolding goes
stays_out top above over s parent other under = rw other (by (s.handle == 0) under)
  where
    by : (z : Bool) → z || (not (s.parent == 0) && has over s.parent) ≡ true → not z && is_among above s.parent ≡ false
    by true under = refl
    by false under = parent (both_of (not (s.parent == 0)) (has over s.parent) under).1

-- a row stays where neither the handle stands in it nor what goes above it
row_stays : (top : ℕ) (above : List ℕ) (over row : List Slot) → ((p : ℕ) → is_among above p ≡ true → p ≡ top) → has over top ≡ false → has row top ≡ false → is_under over row ≡ true → cleared top above row ≡ row
row_stays top above over [] only outside none under = refl
row_stays top above over (s ∷ ss) only outside none under =
    let two = neither_of (s.handle == top) (has ss top) none in
    let parts = both_of ((s.handle == 0) || (not (s.parent == 0) && has over s.parent)) (is_under over ss) under in
    rw (stays_out top above over s (parent (is_among above s.parent) refl) two.0 parts.0) (ap (λ (l : List Slot). s ∷ l) (row_stays top above over ss only outside two.1 parts.1))
  where
    parent : (b : Bool) → is_among above s.parent ≡ b → has over s.parent ≡ true → b ≡ false
    parent true eb there = absurd (true≢false (sym there ∙ ap (λ (n : ℕ). has over n) (only s.parent eb) ∙ outside))
    parent false eb there = refl

-- the handles of swapchains stay where the one that goes is no instance, session or swapchain
chains_stay : (h : Handles) (top : ℕ) → AreUnder h → has h.instances top ≡ false → has h.sessions top ≡ false → has h.chains top ≡ false → (without h top).chains ≡ h.chains
chains_stay h top under instance session chain = row_stays top (destroyed_parents h top) h.sessions h.chains only session chain under.chains
  where
    only : (p : ℕ) → is_among (destroyed_parents h top) p ≡ true → p ≡ top
    only p among = going_only top h.sets p (rw (going_none top h.instances instance, going_none top h.sessions session) at among)

module _ (h : Handles) (top : ℕ) (once : StandOnce h) (under : AreUnder h) where
  elsewhere : (own row : List Slot) → (top == 0) ≡ false → has own top ≡ true → count_in own top + count_in row top ≤ places_with h top → has row top ≡ false
  elsewhere own row nz there part =
      let all = once top nz in
      let here = counted own top there in
      uncounted row top (omega (arith, part, all, here))

  pub set_leaves_chains : is_live h ActionSet top ≡ true → (without h top).chains ≡ h.chains
  set_leaves_chains live =
      let two = both_of (not (top == 0)) (has h.sets top) live in
      let nz = not_true (top == 0) two.0 in
      chains_stay h top under (elsewhere h.sets h.instances nz two.1 (omega arith)) (elsewhere h.sets h.sessions nz two.1 (omega arith)) (elsewhere h.sets h.chains nz two.1 (omega arith))

  pub action_leaves_chains : is_live h Action top ≡ true → (without h top).chains ≡ h.chains
  action_leaves_chains live =
      let two = both_of (not (top == 0)) (has h.actions top) live in
      let nz = not_true (top == 0) two.0 in
      chains_stay h top under (elsewhere h.actions h.instances nz two.1 (omega arith)) (elsewhere h.actions h.sessions nz two.1 (omega arith)) (elsewhere h.actions h.chains nz two.1 (omega arith))
