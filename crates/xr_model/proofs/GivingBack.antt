-- An image that is given back changes nothing of a core and keeps calls ready, and held images change no call but the compositor's.
use Rattle.std.proofs.Common.{◌≡◌, ◌==◌, ◌&&◌, ◌||◌, ◌++◌, ℕ, ℤ, Bool, true, false, not, List, [], ◌∷◌, drop, length, Option, Some, None, refl, sym, subst, arith, true≢false}
use Rattle.std.specs.Prelude.{is_some, take}
use Rattle.xr_types.specs.declared.code.Code.TheVariants.{CallOrderInvalid, TimeoutExpired}
use Rattle.xr_types.specs.declared.frames.Image.{Image}
use Rattle.xr_types.specs.Frames.{PendingFrame}
use Rattle.xr_model.specs.machine.Images.{slot_of, count_of}
use Rattle.xr_model.specs.machine.Refusals.{Refusal, when, first_of}
use Rattle.xr_model.specs.machine.Calls.{Entry}
use Rattle.xr_types.specs.declared.calls.Call.{Call}
use Rattle.xr_types.specs.declared.calls.Call.TheVariants as ask
use Rattle.xr_model.specs.machine.State.{CoreState, CellReads, State}
use Rattle.xr_model.specs.machine.SessionRule.{losses}
use Rattle.xr_model.specs.machine.Rule.{Rule, refusal, unless_refused}
use Rattle.xr_model.specs.machine.Rules.Swapchains.{wait_image_rule, is_up}
use Rattle.xr_model.specs.machine.Machine.{core_step, core_ready, rule, step, reads_of, ready, waited_image}
use Rattle.xr_model.specs.laws.ImageLaws.{is_next_frame, is_compositor_call, GivingBackLeavesTheCore, HeldImagesAreAside, GivingBackKeepsReady}
use Rattle.xr_model.proofs.Rows.{same_key}

-- ---- what giving back leaves

module _ (s : State) (e : Entry) where
  abbrev given_rule : Rule
  given_rule = rule s.core (reads_of s ask.ImageDone) (record e { call = ask.ImageDone })

  -- the core is as it was
  core_left : (step s (record e { call = ask.ImageDone })).0.core ≡ s.core
  core_left = by (refusal e.short given_rule)
    where
      by : (o : Option Refusal) → record (unless_refused s.core o given_rule.effect).state { apps = s.core.apps; locked = s.core.locked; published = s.core.published } ≡ s.core
      by None = refl
      by (Some r) = refl

  -- what is held is what was held, or all but the first of it
  held_left : (P : List Image → Type 0) → P s.cells.held → P (drop 1 s.cells.held) → P (step s (record e { call = ask.ImageDone })).0.cells.held
  held_left P same less = by (refusal e.short given_rule)
    where
      one : (hs : List Image) → drop (length (take 1 hs)) hs ≡ drop 1 hs
      one [] = refl
      one (h ∷ hs) = refl

      by : (o : Option Refusal) → P ((unless_refused s.core o given_rule.effect).did.taken ++ drop (length (unless_refused s.core o given_rule.effect).did.returned) s.cells.held)
      by None = subst P (sym (one s.cells.held)) less
      by (Some r) = same

pub giving_back_leaves_the_core : GivingBackLeavesTheCore
giving_back_leaves_the_core s e is = subst (λ (r : Call). (step s (record e { call = r })).0.core ≡ s.core) (sym is) (core_left s e)

-- ---- held images

pub held_images_are_aside : HeldImagesAreAside
held_images_are_aside s reads held e aside = by e.call aside
  where
    by : (r : Call) → is_compositor_call r ≡ false → core_step s (record reads { held = held }) (record e { call = r }) ≡ core_step s reads (record e { call = r })
    by ask.NextFrame aside = absurd (true≢false aside)
    by ask.ImageDone aside = absurd (true≢false aside)
    by r aside = refl

-- ---- readiness

-- an image that is unused is so without the first image that is held
less_held : (pending : List PendingFrame) (held : List Image) (k : ℕ) → (count_of pending held k == 0) ≡ true → (count_of pending (drop 1 held) k == 0) ≡ true
less_held pending [] k unused = unused
less_held pending (i ∷ held) k unused =
    let none : count_of pending (i ∷ held) k ≡ 0 = same_key (count_of pending (i ∷ held) k) 0 unused in
    let less : count_of pending held k ≡ 0 = omega (arith, none) in
    rw less refl

-- a wait for an image that is ready is so where the image is unused, if it was before
wait_stays : (s : CoreState) (reads reads2 : CellReads) (e : Entry) (chain : ℕ) (timeout start : ℤ) → (reads.unused ≡ true → reads2.unused ≡ true)
    → core_ready s reads (record e { call = ask.WaitImage chain timeout start }) ≡ true → core_ready s reads2 (record e { call = ask.WaitImage chain timeout start }) ≡ true
wait_stays s reads reads2 e chain timeout start fewer = by reads.unused reads2.unused (is_up s.device.clock timeout start) fewer
  where
    front : List Refusal → List Refusal
    front behind = (wait_image_rule s reads chain timeout start).handles ++ (losses (wait_image_rule s reads chain timeout start).on ++ when (wait_image_rule s reads chain timeout start).disorder CallOrderInvalid ∷ behind)

    by : (b c up : Bool) → (b ≡ true → c ≡ true)
        → not (not b && not up) || is_some (first_of (front (when (not b && up) TimeoutExpired ∷ []))) ≡ true
        → not (not c && not up) || is_some (first_of (front (when (not c && up) TimeoutExpired ∷ []))) ≡ true
    by true true up fewer is = refl
    by true false up fewer is = absurd (true≢false (sym (fewer refl)))
    by false true up fewer is = refl
    by false false true fewer is = refl
    by false false false fewer is = is

-- a call that is ready stays so with other images held, where a wait for an image stays so
ready_stays : (s : CoreState) (stamps : List ℕ) (held held2 : List Image) (e : Entry)
    → is_next_frame e.call ≡ false
    → ((count_of s.frames.pending held (slot_of (waited_image s e.call)) == 0) ≡ true → (count_of s.frames.pending held2 (slot_of (waited_image s e.call)) == 0) ≡ true)
    → ready (record { core = s; cells = record { stamps = stamps; held = held } }) e ≡ true → (stamps2 : List ℕ) → ready (record { core = s; cells = record { stamps = stamps2; held = held2 } }) e ≡ true
ready_stays s stamps held held2 e other fewer is stamps2 = by e.call other fewer is
  where
    before : Call → CellReads
    before r = reads_of (record { core = s; cells = record { stamps = stamps; held = held } }) r

    behind : Call → CellReads
    behind r = reads_of (record { core = s; cells = record { stamps = stamps2; held = held2 } }) r

    by : (r : Call) → is_next_frame r ≡ false
        → ((count_of s.frames.pending held (slot_of (waited_image s r)) == 0) ≡ true → (count_of s.frames.pending held2 (slot_of (waited_image s r)) == 0) ≡ true)
        → core_ready s (before r) (record e { call = r }) ≡ true → core_ready s (behind r) (record e { call = r }) ≡ true
    by ask.NextFrame other fewer is = absurd (true≢false other)
    by ask.ImageDone other fewer is = refl
    by (ask.WaitImage chain timeout start) other fewer is = wait_stays s (before (ask.WaitImage chain timeout start)) (behind (ask.WaitImage chain timeout start)) e chain timeout start fewer is
    by r other fewer is = is

pub giving_back_keeps_ready : GivingBackKeepsReady
giving_back_keeps_ready s done e is other was =
    subst (λ (r : Call). ready (step s (record done { call = r })).0 e ≡ true) (sym is)
    (subst (λ (c : CoreState). ready (record { core = c; cells = (step s (record done { call = ask.ImageDone })).0.cells }) e ≡ true) (sym (core_left s done))
    (ready_stays s.core s.cells.stamps s.cells.held (step s (record done { call = ask.ImageDone })).0.cells.held e other fewer was (step s (record done { call = ask.ImageDone })).0.cells.stamps))
  where
    fewer : (count_of s.core.frames.pending s.cells.held (slot_of (waited_image s.core e.call)) == 0) ≡ true
        → (count_of s.core.frames.pending (step s (record done { call = ask.ImageDone })).0.cells.held (slot_of (waited_image s.core e.call)) == 0) ≡ true
    fewer unused = held_left s done (λ hs. (count_of s.core.frames.pending hs (slot_of (waited_image s.core e.call)) == 0) ≡ true) unused (less_held s.core.frames.pending s.cells.held (slot_of (waited_image s.core e.call)) unused)
