-- What the entries of others leave of an actor, and which calls change the images that are held.
use Rattle.std.proofs.Common.{◌≡◌, ◌≤◌, ◌-◌, ◌==◌, ◌&&◌, ℕ, ℤ, pos, not, Bool, true, false, List, [], ◌∷◌, Option, Some, None, refl, sym, ap, subst, ◌∙◌, arith, true≢false}
use Rattle.std.specs.Prelude.{slice_get, unwrap_or, if◌then◌else◌}
use Rattle.xr_types.specs.declared.calls.Actor.{Actor}
use Rattle.xr_types.specs.declared.calls.Actor.TheVariants.{App, Compositor, Device}
use Rattle.xr_types.specs.declared.device.DeviceEvent.{DeviceEvent}
use Rattle.xr_types.specs.declared.device.DeviceEvent.TheVariants as event
use Rattle.xr_types.specs.declared.frames.Image.{Image}
use Rattle.xr_model.specs.machine.Refusals.{Refusal}
use Rattle.xr_types.specs.CallKinds.{is_locked, is_leave}
use Rattle.xr_model.specs.machine.Calls.{Entry, is_actor}
use Rattle.xr_types.specs.declared.calls.Call.{Call}
use Rattle.xr_types.specs.declared.calls.Call.TheVariants as ask
use Rattle.xr_model.specs.machine.Rule.{Effect, Did, refusal, unless_refused, told_on}
use Rattle.xr_model.specs.machine.Rules.Device.{behind_event}
use Rattle.xr_model.specs.machine.Rules.Own.{left_with}
use Rattle.xr_model.specs.machine.State.{CoreState, State}
use Rattle.xr_model.specs.machine.Machine.{IsPresent, effect, held_after, reads_of, rule, step}
use Rattle.xr_model.specs.machine.History.{clock_of, with_clock, clocks_after, IsLegalFrom}
use Rattle.xr_model.specs.laws.ImageLaws.{is_compositor_call}
use Rattle.xr_model.specs.laws.Moments.{clocks_over, moment_after}
use Rattle.xr_model.specs.laws.MomentLaws.{leaves_by_none, ActorsStay, ClocksStay, HeldImagesStay}
use Rattle.xr_model.specs.laws.PublicationLaws.{none_is_by}
use Rattle.xr_model.proofs.HeldFits.{LeavesHeld, leaves_held}
use Rattle.xr_model.proofs.Rows.{both_of, itself, is_false, not_true, same_key}
use Rattle.xr_model.proofs.UserAtoms.{set_other}
use Rattle.xr_model.specs.laws.Soundness.{IsAside}

-- ---- who has left

module _ (s : CoreState) (k : ℕ) (some : 1 ≤ k) where
  abbrev KeepsLeft : CoreState → Type 0
  KeepsLeft t = slice_get t.left (k - 1) ≡ slice_get s.left (k - 1)

  left_kept : (o : Option Refusal) (x : Effect) → KeepsLeft x.state → KeepsLeft (unless_refused s o x).state
  left_kept None x done = done
  left_kept (Some r) x done = refl

  events_keep_left : (what : DeviceEvent) → KeepsLeft (behind_event s what)
  events_keep_left (event.Clock time) = refl
  events_keep_left _ = refl

  another_leaves : (who : Actor) → IsPresent s who → is_actor (App k) who ≡ false → slice_get (left_with s.left who) (k - 1) ≡ slice_get s.left (k - 1)
  another_leaves (App j) there other = set_other s.left (j - 1) (k - 1) true (is_false (j - 1 == k - 1) (λ same. apart (same_key (j - 1) (k - 1) same)))
    where
      apart : j - 1 ≡ k - 1 → ⊥
      apart same = let one = there.0 in let equal : k ≡ j = omega (arith, same, one, some) in true≢false (sym (subst (λ (n : ℕ). (k == n) ≡ true) equal (itself k)) ∙ other)
  another_leaves Compositor there other = refl
  another_leaves Device there other = refl

pub and_false : (a b : Bool) → a ≡ false → a && b ≡ false
and_false a b is = rw is refl

first_half : (b : Bool) → b && true ≡ false → b ≡ false
first_half true e = e
first_half false e = refl

pub left_stays : (s : State) (f : Entry) (k : ℕ) → 1 ≤ k → IsPresent s.core f.actor → is_actor (App k) f.actor && is_leave f.call ≡ false
    → slice_get (step s f).0.core.left (k - 1) ≡ slice_get s.core.left (k - 1)
left_stays s f k some there other = by f.call other
  where
    by : (r : Call) → is_actor (App k) f.actor && is_leave r ≡ false → slice_get (step s (record f { call = r })).0.core.left (k - 1) ≡ slice_get s.core.left (k - 1)
    by ask.Leave other = another_leaves s.core k some f.actor there (first_half (is_actor (App k) f.actor) other)
    by (ask.Device what) other = events_keep_left s.core k some what
    by r other = let x = rule s.core (reads_of s r) (record f { call = r }) in left_kept s.core k some (refusal f.short x) (told_on x.on x.effect) refl

pub stays : (s : State) (f : Entry) (who : Actor) → IsPresent s.core f.actor → is_actor who f.actor && is_leave f.call ≡ false → IsPresent s.core who → IsPresent (step s f).0.core who
stays s f (App k) maker other there = (there.0, there.1, left_stays s f k there.0 maker other ∙ there.2)
stays s f Compositor maker other there = tt
stays s f Device maker other there = tt

stays_from : (s : State) (clocks : List ℤ) (es : List Entry) (who : Actor) → IsLegalFrom s clocks es → leaves_by_none who es ≡ true → IsPresent s.core who → IsPresent (moment_after (record { state = s; clocks = clocks }) es).state.core who
stays_from s clocks [] who legal none there = there
stays_from s clocks (e ∷ es) who legal none there =
    let two = both_of (not (is_actor who e.actor && is_leave e.call)) (leaves_by_none who es) none in
    stays_from (step s e).0 (clocks_after clocks e (step s e).0) es who legal.3 two.1 (stays s e who legal.0.present (not_true (is_actor who e.actor && is_leave e.call) two.0) there)

pub actors_stay : ActorsStay
actors_stay m es who legal none there = stays_from m.state m.clocks es who legal none there

-- ---- clocks

-- another actor that there is writes its clock at another place
another_clock : (s : CoreState) (clocks : List ℤ) (time : ℤ) (who other : Actor) → IsPresent s who → IsPresent s other → is_actor who other ≡ false → clock_of (with_clock clocks other time) who ≡ clock_of clocks who
another_clock s clocks time (App k) (App j) here there apart = ap (λ (o : Option ℤ). unwrap_or o (pos 0)) (set_other clocks (j - 1) (k - 1) time (is_false (j - 1 == k - 1) (λ same. differ (same_key (j - 1) (k - 1) same))))
  where
    differ : j - 1 ≡ k - 1 → ⊥
    differ same = let one = there.0 in let some = here.0 in let equal : k ≡ j = omega (arith, same, one, some) in true≢false (sym (subst (λ (n : ℕ). (k == n) ≡ true) equal (itself k)) ∙ apart)
another_clock s clocks time (App k) Compositor here there apart = refl
another_clock s clocks time (App k) Device here there apart = refl
another_clock s clocks time Compositor other here there apart = refl
another_clock s clocks time Device other here there apart = refl

clock_stays : (s : State) (clocks : List ℤ) (e : Entry) (t : State) (who : Actor) → IsPresent s.core who → IsPresent s.core e.actor → is_actor who e.actor ≡ false → clock_of (clocks_after clocks e t) who ≡ clock_of clocks who
clock_stays s clocks e t who here there apart = by (is_locked e.call)
  where
    by : (b : Bool) → clock_of (if b then with_clock clocks e.actor t.core.device.clock else clocks) who ≡ clock_of clocks who
    by true = another_clock s.core clocks t.core.device.clock who e.actor here there apart
    by false = refl

clocks_stay_from : (s : State) (clocks : List ℤ) (es : List Entry) (who : Actor) → IsLegalFrom s clocks es → none_is_by who es ≡ true → IsPresent s.core who → clock_of (clocks_over s clocks es) who ≡ clock_of clocks who
clocks_stay_from s clocks [] who legal none here = refl
clocks_stay_from s clocks (e ∷ es) who legal none here =
    let two = both_of (not (is_actor who e.actor)) (none_is_by who es) none in
    let apart = not_true (is_actor who e.actor) two.0 in
    clocks_stay_from (step s e).0 (clocks_after clocks e (step s e).0) es who legal.3 two.1 (stays s e who legal.0.present (and_false (is_actor who e.actor) (is_leave e.call) apart) here)
    ∙ clock_stays s clocks e (step s e).0 who here legal.0.present apart

pub clocks_stay : ClocksStay
clocks_stay m es who legal none here = clocks_stay_from m.state m.clocks es who legal none here

-- ---- held images

is_aside : (r : Call) → is_compositor_call r ≡ false → IsAside r
is_aside ask.NextFrame other = absurd (true≢false other)
is_aside ask.ImageDone other = absurd (true≢false other)
is_aside r other = tt

held_as_it_was : (did : Did) (held : List Image) → LeavesHeld did → held_after held did ≡ held
held_as_it_was did held leaves = rw (leaves.taken, leaves.returned) refl

pub held_images_stay : HeldImagesStay
held_images_stay s e other = held_as_it_was (effect s.core (reads_of s e.call) e).did s.cells.held (leaves_held s.core (reads_of s e.call) e (is_aside e.call other))
