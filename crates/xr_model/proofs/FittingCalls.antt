-- The calls on cells of an entry fit what the core keeps.
use Rattle.std.proofs.Common.{◌≡◌, ◌<◌, ◌==◌, ◌&&◌, ◌||◌, ℕ, ℤ, Bool, true, false, not, List, [], ◌∷◌, ◌++◌, Option, Some, None, slice_get, refl, sym, ap, subst, ◌∙◌, arith, true≢false}
use Rattle.xr_types.specs.declared.code.Code.TheVariants.{SwapchainFormatUnsupported, ValidationFailure, LimitReached, SessionLost, CallOrderInvalid}
use Rattle.xr_types.specs.declared.frames.Image.{Image}
use Rattle.xr_types.specs.declared.handles.Kind.TheVariants.{Swapchain}
use Rattle.xr_types.specs.Frames.{PendingFrame}
use Rattle.xr_model.specs.scenario.InRange.{Each}
use Rattle.xr_model.specs.machine.CellCalls.{claim, free, claim_calls, pin_calls, free_calls, stamp_calls, peek_calls, return_calls}
use Rattle.xr_model.specs.machine.Chains.{Chain, is_chain, chain_at, place_of_chain, first_place, is_format, is_size, no_place, has_free_place, has_place, is_wait_wrong, is_paint_wrong, is_place_used, oldest_of, oldest_index, oldest_image, freed_in_places}
use Rattle.xr_model.specs.machine.Handles.{Handles, no_room, is_live, without, without_alone}
use Rattle.xr_model.specs.machine.Images.{Stamped, first_images, is_image}
use Rattle.xr_model.specs.machine.Refusals.{when}
use Rattle.xr_model.specs.machine.Calls.{Entry}
use Rattle.xr_types.specs.declared.calls.Call.{Call}
use Rattle.xr_types.specs.declared.calls.Call.TheVariants as ask
use Rattle.xr_model.specs.machine.State.{CoreState, CellReads, State, opening}
use Rattle.xr_model.specs.machine.Rule.{Rule, Did, nothing_done}
use Rattle.xr_model.specs.machine.SessionRule.{losses}
use Rattle.xr_model.specs.machine.Rules.Frames.{new_frame}
use Rattle.xr_model.specs.machine.Rules.Session.{life_of}
use Rattle.xr_model.specs.machine.Rules.Spaces.{session_above}
use Rattle.xr_model.specs.machine.Machine.{effect, rule, cell_calls, as_unused}
use Rattle.xr_model.specs.machine.History.{after}
use Rattle.xr_model.specs.laws.DecidedEntries.{is_image_done}
use Rattle.xr_model.specs.laws.ImageLaws.{IsPlaced, has_index, is_had}
use Rattle.xr_model.specs.laws.Owners.{has_image}
use Rattle.xr_model.specs.laws.ImageWordLaws.{ClaimsStandAlone, CallsFit}
use Rattle.xr_model.specs.laws.Soundness.{IsBelow, OptIsSound, PlaceIsSound, StateIsSound, AreSound}
use Rattle.xr_model.proofs.CellCounts.{within}
use Rattle.xr_model.proofs.ChainPlaces.{found_at, any_found, goes_with, freed_at}
use Rattle.xr_model.proofs.FrameImages.{IsLast, each_so}
use Rattle.xr_model.proofs.FrameOrder.{clear, none_first, none_of, not_false, is_live_by}
use Rattle.xr_model.proofs.HeldFits.{did_kept}
use Rattle.xr_model.proofs.ImageSteps.{not_waited, was_waited}
use Rattle.xr_model.proofs.Rows.{same_key, itself, both_of}
use Rattle.xr_model.proofs.SoundPlaces.{oldest_below}
use Rattle.xr_model.proofs.SoundImages.{effect_kept, wait_some, paint_some, submitted_images, sound_history}
use Rattle.xr_model.specs.laws.ImageWords.{FitsCall, claimed_by, MayWait, Claims}

-- ---- images that an application has

-- stands among the places
pub had_placed : (s : State) (i : Image) → StateIsSound s → is_had s.core i ≡ true → IsPlaced i
had_placed s i sound had = by (slice_get s.core.chains i.place) refl (sound.places i.place) had
  where
    by : (o : Option Chain) → slice_get s.core.chains i.place ≡ o → OptIsSound (PlaceIsSound s.core.handles.chains) o → has_index o i.index ≡ true → IsPlaced i
    by None at good had = absurd (true≢false (sym had))
    by (Some c) at good had =
        let two = both_of c.has_waited (oldest_of c.acquired == i.index) had in
        let size = sound.all in
        let place = within s.core.chains i.place c at in
        let low = oldest_below c.is_static c.acquired c.next good.run in
        let same = same_key (oldest_of c.acquired) i.index two.1 in
        (omega (arith, place, size), omega (arith, low, same))

first : (b : Bool) → b || false ≡ true → b ≡ true
first true e = refl
first false e = absurd (true≢false (sym e))

-- the image of a place whose chain has waited
had_at : (s : CoreState) (i : Image) (n : ℕ) (o : Option Chain) (c : Chain) → slice_get s.chains n ≡ Some c → o ≡ Some c → c.has_waited ≡ true → has_image i (record { place = n; index = oldest_index o } ∷ []) ≡ true → is_had s i ≡ true
had_at s i n o c at is waited has =
    let two = both_of (n == i.place) (oldest_index o == i.index) (first ((n == i.place) && (oldest_index o == i.index)) has) in
    let here : slice_get s.chains i.place ≡ Some c = ap (λ (k : ℕ). slice_get s.chains k) (sym (same_key n i.place two.0)) ∙ at in
    let index : (oldest_of c.acquired == i.index) ≡ true = ap (λ (x : Option Chain). oldest_index x == i.index) (sym is) ∙ two.1 in
    rw (here, waited, index) refl

gone_had : (s : CoreState) (i : Image) (h : Handles) → has_image i (freed_in_places h 0 s.chains) ≡ true → is_had s i ≡ true
gone_had s i h has = by (slice_get s.chains i.place) (sym (freed_at h i 0 s.chains i.place (omega arith)) ∙ has)
  where
    by : (o : Option Chain) → goes_with h i.index o ≡ true → has_index o i.index ≡ true
    by None goes = absurd (true≢false (sym goes))
    by (Some c) goes =
        let two = both_of (not (is_live h Swapchain c.handle) && c.has_waited) (oldest_of c.acquired == i.index) goes in
        let waited = (both_of (not (is_live h Swapchain c.handle)) c.has_waited two.0).1 in
        rw (waited, two.1) refl

abbrev FreesHad : CoreState → Image → CoreState → Did → Type 0
FreesHad s i t did = has_image i did.freed ≡ true → is_had s i ≡ true

none_freed : (s : CoreState) (i : Image) → has_image i [] ≡ true → is_had s i ≡ true
none_freed s i none = absurd (true≢false (sym none))

-- an application has what is freed
pub freed_had : (s : CoreState) (r : CellReads) (e : Entry) (i : Image) → has_image i (effect s r e).did.freed ≡ true → is_had s i ≡ true
freed_had s r e i = by e.call
  where
    by : (what : Call) → has_image i (effect s r (record e { call = what })).did.freed ≡ true → is_had s i ≡ true
    by (ask.ReleaseImage chain) = effect_kept (FreesHad s i) s e.short f (none_freed s i) (λ none.
        let order = (clear f e.short none).order in
        let some = paint_some (chain_at s.chains chain) order in
        had_at s i (place_of_chain s.chains chain) (chain_at s.chains chain) some.0 (found_at (is_chain chain) s.chains some.0 some.1) some.1 (was_waited some.0 (sym (ap is_paint_wrong some.1) ∙ order)))
      where
        f : Rule
        f = rule s r (record e { call = ask.ReleaseImage chain })
    by (ask.DestroyInstance instance) = effect_kept (FreesHad s i) s e.short (rule s r (record e { call = ask.DestroyInstance instance })) (none_freed s i) (λ none. gone_had s i (without s.handles instance))
    by (ask.DestroySession session) = effect_kept (FreesHad s i) s e.short (rule s r (record e { call = ask.DestroySession session })) (none_freed s i) (λ none. gone_had s i (without s.handles session))
    by (ask.DestroySwapchain chain) = effect_kept (FreesHad s i) s e.short (rule s r (record e { call = ask.DestroySwapchain chain })) (none_freed s i) (λ none. gone_had s i (without_alone s.handles Swapchain chain))
    by what = effect_kept (FreesHad s i) s e.short (rule s r (record e { call = what })) (none_freed s i) (λ none. none_freed s i)

-- ---- each of a list

pub each_append : {T : Type 0} (P : T → Type 0) (xs ys : List T) → Each P xs → Each P ys → Each P (xs ++ ys)
each_append P [] ys a b = b
each_append P (x ∷ xs) ys a b = (a.0, each_append P xs ys a.1 b)

pub has_same : (i : Image) → is_image i i ≡ true
has_same i = rw (itself i.place, itself i.index) refl

pub or_more : (a b : Bool) → b ≡ true → a || b ≡ true
or_more true b is = refl
or_more false b is = is

-- what holds of all that are among these holds of each
each_among : (P : Image → Type 0) (images : List Image) → ((i : Image) → has_image i images ≡ true → P i) → Each P images
each_among P [] all = tt
each_among P (i ∷ images) all = (all i (rw (has_same i) refl), each_among P images (λ j has. all j (or_more (is_image j i) (has_image j images) has)))

module _ (s : CoreState) where
  claims_fit : (b : Bool) (images : List Image) → Each (λ j. FitsCall s (claim j true)) images → Each (FitsCall s) (claim_calls b images)
  claims_fit b [] each = tt
  claims_fit b (j ∷ images) each = (each.0, claims_fit b images each.1)

  pins_fit : (images : List Image) → Each IsPlaced images → Each (FitsCall s) (pin_calls images)
  pins_fit [] each = tt
  pins_fit (j ∷ images) each = (each.0, pins_fit images each.1)

  frees_fit : (images : List Image) → Each (λ j. FitsCall s (free j)) images → Each (FitsCall s) (free_calls images)
  frees_fit [] each = tt
  frees_fit (j ∷ images) each = (each.0, frees_fit images each.1)

  stamps_fit : (xs : List Stamped) → Each (λ x. IsPlaced x.image) xs → Each (FitsCall s) (stamp_calls xs)
  stamps_fit [] each = tt
  stamps_fit (x ∷ xs) each = (each.0, stamps_fit xs each.1)

  peeks_fit : (images : List Image) (ns : List ℕ) → Each IsPlaced images → Each (FitsCall s) (peek_calls images ns)
  peeks_fit [] ns each = tt
  peeks_fit (j ∷ images) [] each = (each.0, peeks_fit images [] each.1)
  peeks_fit (j ∷ images) (n ∷ ns) each = (each.0, peeks_fit images ns each.1)

-- ---- what each call is made on

-- a place that a frame uses is one of the places
pub used_within : (s : State) (i : Image) → StateIsSound s → is_place_used s.core.frames.pending s.core.shown_images i.place ≡ true → i.place < 16
used_within s i sound used = by (slice_get s.core.chains i.place) refl
  where
    by : (o : Option Chain) → slice_get s.core.chains i.place ≡ o → i.place < 16
    by None at = absurd (true≢false (sym used ∙ sound.unused i.place (rw at refl)))
    by (Some c) at = let size = sound.all in let place = within s.core.chains i.place c at in omega (arith, place, size)

-- each image of these has its place among theirs
there : (images : List Image) (j : Image) → has_image j images ≡ true → has_place j.place images ≡ true
there [] j has = has
there (i ∷ images) j has = at (i.place == j.place) (i.index == j.index) (has_image j images) (has_place j.place images) has (there images j)
  where
    at : (a b c d : Bool) → (a && b) || c ≡ true → (c ≡ true → d ≡ true) → a || d ≡ true
    at true b c d has more = refl
    at false b c d has more = more has

pub place_in : (images : List Image) → Each (λ j. has_place j.place images ≡ true) images
place_in images = each_among (λ j. has_place j.place images ≡ true) images (λ j has. there images j has)

-- the images of the oldest pending frame
first_placed : (s : State) → StateIsSound s → Each IsPlaced (first_images s.core.frames.pending)
first_placed s sound = by s.core.frames.pending refl sound.frames
  where
    by : (fs : List PendingFrame) → s.core.frames.pending ≡ fs → AreSound fs → Each IsPlaced (first_images fs)
    by [] is sound_frames = tt
    by (f ∷ fs) is sound_frames = both f.images sound_frames.0.images.each (place_in f.images)
      where
        used : (j : Image) → has_place j.place f.images ≡ true → is_place_used s.core.frames.pending s.core.shown_images j.place ≡ true
        used j has = rw (is, has) refl

        both : (images : List Image) → Each IsBelow images → Each (λ j. has_place j.place f.images ≡ true) images → Each IsPlaced images
        both [] low has = tt
        both (j ∷ images) low has = ((used_within s j sound (used j has.0), low.0), both images low.1 has.1)

-- what a call claims, frees, pins, stamps and looks at
record AreFitting (s : State) (did : Did) : Type 0 where
  used : Each IsPlaced did.used
  stamped : Each (λ x. IsPlaced x.image) did.stamped
  taken : Each IsPlaced did.taken

none_done : (s : State) → AreFitting s nothing_done
none_done s = record { used = tt; stamped = tt; taken = tt }

fitting : (s : State) (r : CellReads) (e : Entry) → StateIsSound s → AreFitting s (effect s.core r e).did
fitting s r e sound = by e.call
  where
    by : (what : Call) → AreFitting s (effect s.core r (record e { call = what })).did
    by (ask.EndFrame session time blend layers) = effect_kept (λ t did. AreFitting s did) s.core e.short f (none_done s) (λ none.
        let once = submitted_images s.core s.cells.held sound session time blend layers (clear f e.short none).behind in
        record { used = each_so (IsLast s.core.chains) IsPlaced (λ i last. let size = sound.all in let place = within s.core.chains i.place last.chain last.at in (omega (arith, place, size), last.below)) (new_frame s.core session time layers).images once.each; stamped = tt; taken = tt })
      where
        f : Rule
        f = rule s.core r (record e { call = ask.EndFrame session time blend layers })
    by ask.NextFrame = effect_kept (λ t did. AreFitting s did) s.core e.short (rule s.core r (record e { call = ask.NextFrame })) (none_done s) (λ none. record { used = tt; stamped = tt; taken = first_placed s sound })
    by (ask.CreateSwapchain session format width height fixed) = effect_kept (λ t did. AreFitting s did) s.core e.short f (none_done s) (λ none.
        let behind = (clear f e.short none).behind in
        let one = none_first (not (is_format format)) SwapchainFormatUnsupported (when (not (is_size width && is_size height)) ValidationFailure ∷ no_place s.core.chains ∷ no_room s.core.handles Swapchain ∷ []) behind in
        let two = none_first (not (is_size width && is_size height)) ValidationFailure (no_place s.core.chains ∷ no_room s.core.handles Swapchain ∷ []) one.1 in
        let free_place = not_false (has_free_place s.core.chains) (none_first (not (has_free_place s.core.chains)) LimitReached (no_room s.core.handles Swapchain ∷ []) two.1).0 in
        let found = any_found (λ c. c.handle == 0) s.core.chains free_place in
        let at = found_at (λ c. c.handle == 0) s.core.chains found.0 found.1 in
        let place = within s.core.chains (first_place s.core.chains) found.0 at in
        let size = sound.all in
        let low : first_place s.core.chains < 16 = omega (arith, place, size) in
        record { used = tt; stamped = ((low, omega arith), ((low, omega arith), ((low, omega arith), tt))); taken = tt })
      where
        f : Rule
        f = rule s.core r (record e { call = ask.CreateSwapchain session format width height fixed })
    by (ask.Paint chain value) = effect_kept (λ t did. AreFitting s did) s.core e.short f (none_done s) (λ none.
        let order = (clear f e.short none).order in
        let some = paint_some (chain_at s.core.chains chain) order in
        let i : Image = oldest_image s.core.chains chain in
        let had : is_had s.core i ≡ true = had_at s.core i (place_of_chain s.core.chains chain) (chain_at s.core.chains chain) some.0 (found_at (is_chain chain) s.core.chains some.0 some.1) some.1 (was_waited some.0 (sym (ap is_paint_wrong some.1) ∙ order)) (rw (has_same i) refl) in
        record { used = tt; stamped = (had_placed s i sound had, tt); taken = tt })
      where
        f : Rule
        f = rule s.core r (record e { call = ask.Paint chain value })
    by what = effect_kept (λ t did. AreFitting s did) s.core e.short (rule s.core r (record e { call = what })) (none_done s) (λ none. record { used = tt; stamped = tt; taken = tt })

-- ---- claims

head_is : (i j : Image) (is js : List Image) → i ∷ is ≡ j ∷ js → i ≡ j
head_is i j is js e = cc

some_is_none : (i : Image) (is : List Image) → ◌≡◌ {A = List Image} [] (i ∷ is) → ⊥
some_is_none i is e = cc

abbrev ClaimsAs : CoreState → Entry → List Image → Type 0
ClaimsAs s e images = (i : Image) (is : List Image) → images ≡ i ∷ is → Claims s e i × (is ≡ [])

none_claimed : (s : CoreState) (e : Entry) → ClaimsAs s e []
none_claimed s e i is e0 = absurd (some_is_none i is e0)

pub claims_as : (s : CoreState) (r : CellReads) (e : Entry) (i : Image) (is : List Image) → (effect s r e).did.claimed ≡ i ∷ is → Claims s e i × (is ≡ [])
claims_as s r e = by e.call
  where
    by : (what : Call) → ClaimsAs s (record e { call = what }) (effect s r (record e { call = what })).did.claimed
    by (ask.WaitImage chain timeout start) = effect_kept (λ t did. ClaimsAs s x did.claimed) s e.short f (none_claimed s x) (λ none i is claimed.
        let whole = (clear f e.short none).whole in
        let one = none_of f.handles (losses f.on ++ (f.before ++ when f.disorder CallOrderInvalid ∷ f.behind)) whole in
        let two = none_of (losses f.on) (f.before ++ when f.disorder CallOrderInvalid ∷ f.behind) one.1 in (
          record {
            chain = chain;
            timeout = timeout;
            start = start;
            is = refl;
            image = sym (head_is (oldest_image s.chains chain) i [] is claimed);
            may = record {
              live = is_live_by (is_live s.handles Swapchain chain) one.0;
              lost = (none_first (life_of s (session_above s.handles chain)).lost SessionLost [] two.0).0;
              order = (clear f e.short none).order;
            };
          },
          tail_is (oldest_image s.chains chain) i is claimed,
        ))
      where
        x : Entry
        x = record e { call = ask.WaitImage chain timeout start }

        f : Rule
        f = rule s r x

        tail_is : (i j : Image) (js : List Image) → i ∷ [] ≡ j ∷ js → js ≡ []
        tail_is i j js e = cc
    by what = did_kept (λ did. ClaimsAs s (record e { call = what }) did.claimed) s e.short (rule s r (record e { call = what })) (none_claimed s (record e { call = what })) (none_claimed s (record e { call = what }))

-- what may be waited for stands among the places, and no application has it
pub claimed_fits : (s : State) (chain : ℕ) → StateIsSound s → MayWait s.core chain → IsPlaced (oldest_image s.core.chains chain) × (is_had s.core (oldest_image s.core.chains chain) ≡ false)
claimed_fits s chain sound may =
    let some = wait_some (chain_at s.core.chains chain) may.order in
    let c : Chain = some.0 in
    let n : ℕ = place_of_chain s.core.chains chain in
    let at : slice_get s.core.chains n ≡ Some c = found_at (is_chain chain) s.core.chains c some.1 in
    let size = sound.all in
    let place = within s.core.chains n c at in
    let good : PlaceIsSound s.core.handles.chains c = subst (OptIsSound (PlaceIsSound s.core.handles.chains)) at (sound.places n) in
    let low = oldest_below c.is_static c.acquired c.next good.run in
    let unwaited = not_waited c (sym (ap is_wait_wrong some.1) ∙ may.order) in
    let index : oldest_index (chain_at s.core.chains chain) ≡ oldest_of c.acquired = ap oldest_index some.1 in
    ((omega (arith, place, size), omega (arith, low, index)), rw (at, unwaited) refl)

-- ---- all calls of an entry

pub returned_none : (s : CoreState) (r : CellReads) (e : Entry) → is_image_done e.call ≡ false → (effect s r e).did.returned ≡ []
returned_none s r e = by e.call
  where
    by : (what : Call) → is_image_done what ≡ false → (effect s r (record e { call = what })).did.returned ≡ []
    by ask.ImageDone other = absurd (true≢false other)
    by what other = did_kept (λ d. d.returned ≡ []) s e.short (rule s r (record e { call = what })) refl refl

pub calls_fit : (s : State) (r : CellReads) (e : Entry) → StateIsSound s → is_image_done e.call ≡ false → Each (FitsCall s.core) (cell_calls s.core r e)
calls_fit s r e sound other =
    let did : Did = (effect s.core r e).did in
    let fit = fitting s r e sound in
    let freed : Each (λ j. FitsCall s.core (free j)) did.freed = each_among (λ j. FitsCall s.core (free j)) did.freed (λ j has. let had = freed_had s.core r e j has in (had_placed s j sound had, had)) in
    let returned : Each (FitsCall s.core) (return_calls did.returned) = subst (λ (l : List Image). Each (FitsCall s.core) (return_calls l)) (sym (returned_none s.core r e other)) tt in
    each_append (FitsCall s.core) (claim_calls r.unused (claimed_by s.core r e)) _ (claims_fit s.core r.unused (claimed_by s.core r e) (claimed (claimed_by s.core r e) refl))
    (each_append (FitsCall s.core) (pin_calls did.used) _ (pins_fit s.core did.used fit.used)
    (each_append (FitsCall s.core) (free_calls did.freed) _ (frees_fit s.core did.freed freed)
    (each_append (FitsCall s.core) (stamp_calls did.stamped) _ (stamps_fit s.core did.stamped fit.stamped)
    (each_append (FitsCall s.core) (peek_calls did.taken r.stamps) _ (peeks_fit s.core did.taken r.stamps fit.taken) returned))))
  where
    claimed : (images : List Image) → claimed_by s.core r e ≡ images → Each (λ j. FitsCall s.core (claim j true)) images
    claimed [] is = tt
    claimed (i ∷ images) is =
        let got = claims_as s.core (as_unused r) e i images is in
        let here = claimed_fits s got.0.chain sound got.0.may in
        (subst (λ (j : Image). IsPlaced j × (is_had s.core j ≡ false)) (sym got.0.image) here, subst (Each (λ j. FitsCall s.core (claim j true))) (sym got.1) tt)

-- ---- a claim is an entry's only call

pub record OnlyClaims (did : Did) : Type 0 where
  pub used : did.used ≡ []
  pub freed : did.freed ≡ []
  pub stamped : did.stamped ≡ []
  pub taken : did.taken ≡ []
  pub returned : did.returned ≡ []

only_claims : (s : CoreState) (r : CellReads) (e : Entry) (chain : ℕ) (timeout start : ℤ) → OnlyClaims (effect s r (record e { call = ask.WaitImage chain timeout start })).did
only_claims s r e chain timeout start = did_kept OnlyClaims s e.short (rule s r (record e { call = ask.WaitImage chain timeout start }))
    (record { used = refl; freed = refl; stamped = refl; taken = refl; returned = refl }) (record { used = refl; freed = refl; stamped = refl; taken = refl; returned = refl })

-- what an entry does that may claim an image, whatever cells tell
pub only_of : (s : CoreState) (r : CellReads) (e : Entry) (i : Image) → Claims s e i → OnlyClaims (effect s r e).did
only_of s r e i c = subst (λ (what : Call). OnlyClaims (effect s r (record e { call = what })).did) (sym c.is) (only_claims s r e c.chain c.timeout c.start)

pub claims_alone : ClaimsStandAlone
claims_alone s r e i is claimed =
    let got = claims_as s (as_unused r) e i is claimed in
    let only = only_of s r e i got.0 in
    let one : claimed_by s r e ≡ i ∷ [] = claimed ∙ ap (λ (l : List Image). i ∷ l) got.1 in
    record { claims = got.0; calls = rw (one, only.used, only.freed, only.stamped, only.taken, only.returned) refl }

-- ---- behind every history

pub all_calls_fit : CallsFit
all_calls_fit settings es reads e legal other = calls_fit (after (opening settings) es) reads e (sound_history settings es legal) other
