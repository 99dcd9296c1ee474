-- Whose samples an entry changes, and the places of origins.
use Rattle.std.proofs.Common.{arith, true≢false, ◌≡◌, ◌==◌, ℕ, zero, suc, nat_lt, true, false, List, [], ◌∷◌, Option, Some, None, refl, sym, ap, subst, ◌∙◌}
use Rattle.std.specs.Prelude.{slice_get, slice_set, unwrap_or, if◌then◌else◌}
use Rattle.xr_types.specs.declared.device.DeviceEvent.{DeviceEvent}
use Rattle.xr_types.specs.declared.device.DeviceEvent.TheVariants as event
use Rattle.xr_types.specs.declared.input.User.TheVariants as user
use Rattle.xr_types.specs.declared.spaces.Origin.{Origin}
use Rattle.xr_types.specs.declared.spaces.Origin.TheVariants as origin
use Rattle.xr_types.specs.declared.spaces.TheConstants.{ORIGINS}
use Rattle.xr_types.specs.declared.calls.Call.{Call}
use Rattle.xr_types.specs.declared.calls.Call.TheVariants as ask
use Rattle.xr_model.specs.machine.Refusals.{Refusal}
use Rattle.xr_model.specs.machine.Spaces.{Sample, samples_of, with_sample, origin_place}
use Rattle.xr_model.specs.machine.State.{CoreState}
use Rattle.xr_model.specs.machine.Rule.{Effect, refusal, told_on, unless_refused}
use Rattle.xr_model.specs.machine.Rules.Device.{behind_event}
use Rattle.xr_model.specs.machine.Machine.{rule, step, reads_of}
use Rattle.xr_model.specs.laws.SpaceLaws.{origin_told, is_told_at, SamplesAreTheirOrigins, OriginsHaveTheirPlaces}

-- ---- samples of others

one_less : (p q : ℕ) → (suc p == suc q) ≡ false → (p == q) ≡ false
one_less p q other = grind (arith, other)

other_stays : {T : Type 0} (xs : List T) (p q : ℕ) (a : T) → (p == q) ≡ false → slice_get (slice_set xs p a) q ≡ slice_get xs q
other_stays [] p q a other = refl
other_stays (x ∷ xs) zero zero a other = absurd (true≢false other)
other_stays (x ∷ xs) zero (suc q) a other = refl
other_stays (x ∷ xs) (suc p) zero a other = refl
other_stays (x ∷ xs) (suc p) (suc q) a other = other_stays xs p q a (one_less p q other)

same_samples : (s : CoreState) (o : Option Refusal) (x : Effect)
    → x.state.room.samples ≡ s.room.samples → (unless_refused s o x).state.room.samples ≡ s.room.samples
same_samples s None x same = same
same_samples s (Some r) x same = refl

events : (s : CoreState) (told : DeviceEvent) (what : Origin) → is_told_at (origin_told (ask.Device told)) (origin_place what) ≡ false
    → samples_of (behind_event s told).room.samples what ≡ samples_of s.room.samples what
events s (event.Pose origin time pose) what other =
    let new = with_sample time pose (samples_of s.room.samples origin) in
    ap (λ (o : Option (List Sample)). unwrap_or o []) (other_stays s.room.samples (origin_place origin) (origin_place what) new other)
events s (event.Clock time) what other = refl
events s _ what other = refl

pub samples_are_their_origins : SamplesAreTheirOrigins
samples_are_their_origins s e what other = by e.call other
  where
    by : (r : Call) → is_told_at (origin_told r) (origin_place what) ≡ false
        → samples_of (step s (record e { call = r })).0.core.room.samples what ≡ samples_of s.core.room.samples what
    by (ask.Device told) other = events s.core told what other
    by r other =
        let f = rule s.core (reads_of s r) (record e { call = r }) in
        ap (λ (samples : List (List Sample)). samples_of samples what) (same_samples s.core (refusal e.short f) (told_on f.on f.effect) refl)

-- ---- places

at_place : ℕ → Origin
at_place n =
    if n == 0 then origin.View
    else (if n == 1 then origin.Local
    else (if n == 2 then origin.Stage
    else (if n == 3 then origin.Grip user.Left
    else (if n == 4 then origin.Grip user.Right
    else (if n == 5 then origin.Aim user.Left
    else origin.Aim user.Right)))))

its_place : (a : Origin) → nat_lt (origin_place a) ORIGINS ≡ true → at_place (origin_place a) ≡ a
unfolding at_place
its_place origin.View inside = refl
its_place origin.Local inside = refl
its_place origin.Stage inside = refl
its_place (origin.Grip user.Left) inside = refl
its_place (origin.Grip user.Right) inside = refl
its_place (origin.Aim user.Left) inside = refl
its_place (origin.Aim user.Right) inside = refl
its_place (origin.Grip _) inside = absurd (true≢false (sym inside))
its_place (origin.Aim _) inside = absurd (true≢false (sym inside))

pub origins_have_their_places : OriginsHaveTheirPlaces
origins_have_their_places a b same inside =
    sym (its_place a inside) ∙ ap at_place same ∙ its_place b (subst (λ (n : ℕ). nat_lt n ORIGINS ≡ true) same inside)
