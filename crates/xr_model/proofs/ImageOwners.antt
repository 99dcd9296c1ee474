-- Swapchains have their own places, and who owns an image in every legal history is what the state says.
use Rattle.std.proofs.Common.{◌≡◌, ◌+◌, ◌*◌, ◌≤◌, ◌==◌, ◌&&◌, ◌||◌, ℕ, ℤ, zero, suc, Bool, true, false, not, List, [], ◌∷◌, length, replicate, Option, Some, None, is_some, slice_get, refl, sym, ap, subst, ◌∙◌, arith, true≢false}
use Rattle.std.specs.Prelude.{nat_lt}
use Rattle.std.proofs.lemmas.Bool.Decides.{nat_tests}
use Rattle.xr_types.specs.declared.code.Code.TheVariants.{TimeoutExpired}
use Rattle.xr_types.specs.declared.frames.Image.{Image}
use Rattle.xr_types.specs.declared.handles.Kind.TheVariants.{Swapchain}
use Rattle.xr_types.specs.declared.handles.TheConstants.{SWAPCHAINS}
use Rattle.xr_types.specs.Frames.{PendingFrame}
use Rattle.xr_model.specs.machine.Chains.{has_no_chain, Chain, free_place, is_chain, chain_at, place_of_chain, is_wait_wrong, oldest_of, oldest_index, oldest_image}
use Rattle.xr_model.specs.machine.Handles.{is_live}
use Rattle.xr_model.specs.machine.Images.{slot_of, times_in, uses_of, count_of}
use Rattle.xr_model.specs.machine.Calls.{Entry}
use Rattle.xr_types.specs.declared.calls.Call.{Call}
use Rattle.xr_types.specs.declared.calls.Call.TheVariants as ask
use Rattle.xr_model.specs.machine.State.{CoreState, Settings, State, opening}
use Rattle.xr_model.specs.machine.Rule.{Did}
use Rattle.xr_model.specs.machine.Rules.Swapchains.{is_up}
use Rattle.xr_model.specs.machine.Machine.{rule, step, reads_of, ready, IsAllowed}
use Rattle.xr_model.specs.machine.History.{after, opening_clocks, clocks_after, IsLegal, IsLegalFrom}
use Rattle.xr_model.specs.laws.HandleLaws.{AreUnder, StandOnce}
use Rattle.xr_model.specs.laws.ImageLaws.{IsPlaced, did_at, has_index, is_had, count_now, OwnersFit, NoTwoOwners, WaitedImageIsNobodys, OwnersAreInTheState, ImagesStep, CountsAreFew, ChainsArePlaced, PlacesAreOwn, FreePlacesAreUnused}
use Rattle.xr_model.specs.laws.Owners.{has_image, has_behind, is_applications, times_used, times_returned}
use Rattle.xr_model.specs.laws.DecidedEntries.{Decided, decided, past_from, past_of}
use Rattle.xr_model.proofs.Histories.{fronts_are_legal}
use Rattle.xr_model.proofs.Rows.{same_key, both_of}
use Rattle.xr_model.proofs.Destroying.{known_step, known_opening}
use Rattle.xr_model.proofs.DestroyedForGood.{legal_behind}
use Rattle.xr_model.proofs.Orphans.{no_orphans, under_step}
use Rattle.xr_model.proofs.StandOnce.{none_once, once_step, handles_stand_once}
use Rattle.xr_model.proofs.FrameOrder.{clear, none_first, is_ready_to}
use Rattle.xr_model.proofs.FrameLists.{pending_are_few}
use Rattle.xr_model.proofs.ChainOrder.{OptFits, chains_history}
use Rattle.xr_model.proofs.ChainPlaces.{same_some, found_good, found_at}
use Rattle.xr_model.proofs.FrameImages.{is_named, times_left}
use Rattle.xr_model.proofs.SoundImages.{effect_kept, wait_some, is_unused, sound_step, sound_opening, sound_history}
use Rattle.xr_model.proofs.ImageSteps.{image_steps, not_waited}
use Rattle.xr_model.specs.laws.Soundness.{AreKnown, PlaceIsSound, OptIsSound, AreSound, StateIsSound, IsIdle}

-- ---- places

is_there : (c : Chain) (handle : ℕ) → is_chain handle c ≡ true → has_no_chain c ≡ true → ⊥
unfolding is_chain
is_there c handle is gone = true≢false (sym (both_of (c.handle == handle) (not (has_no_chain c)) is).1 ∙ ap not gone)

pub chains_are_placed : ChainsArePlaced
chains_are_placed settings es handle legal = by (is_live (after (opening settings) es).core.handles Swapchain handle) refl (chain_at (after (opening settings) es).core.chains handle) refl
  where
    by : (b : Bool) → is_live (after (opening settings) es).core.handles Swapchain handle ≡ b → (o : Option Chain) → chain_at (after (opening settings) es).core.chains handle ≡ o → is_some o ≡ b
    by true live (Some c) found = refl
    by true live None found = absurd (subst (λ (o : Option Chain). OptFits handle o (past_of settings es)) found ((chains_history settings es legal).fits handle live))
    by false dead None found = refl
    by false dead (Some c) found =
        let place : PlaceIsSound (after (opening settings) es).core.handles.chains c = subst (OptIsSound (PlaceIsSound (after (opening settings) es).core.handles.chains)) (found_at (is_chain handle) (after (opening settings) es).core.chains c found) ((sound_history settings es legal).places (place_of_chain (after (opening settings) es).core.chains handle)) in
        let is = found_good (is_chain handle) (after (opening settings) es).core.chains c found in
        absurd (is_there c handle is (place.bare (subst (λ (n : ℕ). is_live (after (opening settings) es).core.handles Swapchain n ≡ false) (sym (is_named handle c is)) dead)).gone)

-- a live chain is found
live_found : (settings : Settings) (es : List Entry) (q : ℕ) → IsLegal settings es → is_live (after (opening settings) es).core.handles Swapchain q ≡ true → (c : Chain) × (chain_at (after (opening settings) es).core.chains q ≡ Some c)
live_found settings es q legal live = by (chain_at (after (opening settings) es).core.chains q) ((chains_history settings es legal).fits q live)
  where
    by : (o : Option Chain) → OptFits q o (past_of settings es) → (c : Chain) × (o ≡ Some c)
    by None fits = absurd fits
    by (Some c) fits = (c, refl)

pub places_are_own : PlacesAreOwn
places_are_own settings es a b legal here there same =
    let chains = (after (opening settings) es).core.chains in
    let one = live_found settings es a legal here in
    let two = live_found settings es b legal there in
    let chain : one.0 ≡ two.0 = same_some one.0 two.0 (sym (found_at (is_chain a) chains one.0 one.1) ∙ ap (λ (n : ℕ). slice_get chains n) same ∙ found_at (is_chain b) chains two.0 two.1) in
    sym (is_named a one.0 (found_good (is_chain a) chains one.0 one.1)) ∙ ap (λ (c : Chain). c.handle) chain ∙ is_named b two.0 (found_good (is_chain b) chains two.0 two.1)

pub free_places_are_unused : FreePlacesAreUnused
free_places_are_unused settings es place c legal at free = (sound_history settings es legal).unused place (rw (at, free) refl)

-- ---- owners

-- what is kept beside: each live handle stands once and under its parent, and was given
record IsWhole (s : State) : Type 0 where
  sound : StateIsSound s
  once : StandOnce s.core.handles
  under : AreUnder s.core.handles
  known : AreKnown s.core.handles

whole_step : (s : State) (e : Entry) → IsAllowed s e → ready s e ≡ true → IsWhole s → IsWhole (step s e).0
whole_step s e allowed is_ready whole = record {
  sound = sound_step s e allowed is_ready whole.sound;
  once = once_step s e allowed whole.known whole.once;
  under = under_step s e whole.under;
  known = known_step s e whole.known;
}

-- the state says who owns the image
record SaysOwners (i : Image) (s : State) (past : List Decided) : Type 0 where
  application : is_applications i past ≡ is_had s.core i
  count : times_used i past ≡ times_returned i past + count_now s i

says_step : (i : Image) (s : State) (e : Entry) (past : List Decided) → IsWhole s → SaysOwners i s past → SaysOwners i (step s e).0 (decided s e ∷ past)
says_step i s e past whole says =
    let steps = image_steps s e i whole.once whole.under whole.sound in
    let before = says.count in
    let count = steps.count in
    record { application = ap (λ (b : Bool). has_behind i (did_at s e) b) says.application ∙ sym steps.had; count = omega (arith, before, count) }

says_after : (i : Image) (s : State) (clocks : List ℤ) (past : List Decided) (es : List Entry) → IsLegalFrom s clocks es → IsWhole s → SaysOwners i s past → SaysOwners i (after s es) (past_from s past es)
says_after i s clocks past [] legal whole says = says
says_after i s clocks past (e ∷ es) legal whole says =
    says_after i (step s e).0 (clocks_after clocks e (step s e).0) (decided s e ∷ past) es legal.3 (whole_step s e legal.0 legal.2 whole) (says_step i s e past whole says)

pub none_had : (n p k : ℕ) → has_index (slice_get (replicate n free_place) p) k ≡ false
none_had zero p k = refl
none_had (suc n) zero k = refl
none_had (suc n) (suc p) k = none_had n p k

pub owners_fit : (settings : Settings) (es : List Entry) (i : Image) → IsLegal settings es → IsPlaced i → OwnersFit settings es i
owners_fit settings es i legal placed =
    let says = says_after i (opening settings) (opening_clocks settings) [] es legal
    (record { sound = sound_opening settings; once = none_once; under = no_orphans settings []; known = known_opening settings })
    (record { application = sym (none_had SWAPCHAINS i.place i.index); count = refl }) in
    record { application = says.application; count = says.count }

pub owners_are_in_the_state : OwnersAreInTheState
owners_are_in_the_state = owners_fit

-- an image that an application has isn't used
pub had_unused : (s : State) (i : Image) → StateIsSound s → is_had s.core i ≡ true → count_now s i ≡ 0
had_unused s i sound had = by (slice_get s.core.chains i.place) had (sound.idle i.place)
  where
    by : (o : Option Chain) → has_index o i.index ≡ true → IsIdle s.core.frames.pending s.cells.held i.place o → count_of s.core.frames.pending s.cells.held (3 * i.place + i.index) ≡ 0
    by None had idle = absurd (true≢false (sym had))
    by (Some c) had idle =
        let two = both_of c.has_waited (oldest_of c.acquired == i.index) had in
        subst (λ (n : ℕ). count_of s.core.frames.pending s.cells.held (3 * i.place + n) ≡ 0) (same_key (oldest_of c.acquired) i.index two.1) (idle two.0)

pub none_more : (u r n : ℕ) → u ≡ r + n → n ≡ 0 → nat_lt r u ≡ false
none_more u r n e z = grind (arith, nat_tests, e, z)

pub no_two_owners : NoTwoOwners
no_two_owners settings es i legal placed owned =
    let fits = owners_fit settings es i legal placed in
    none_more (times_used i (past_of settings es)) (times_returned i (past_of settings es)) (count_now (after (opening settings) es) i) fits.count
    (had_unused (after (opening settings) es) i (sound_history settings es legal) (sym fits.application ∙ owned))

-- ---- a wait

nobodys : (chains : List Chain) (pending : List PendingFrame) (held : List Image) (i : Image) (n : ℕ) (o : Option Chain) (c : Chain) → slice_get chains n ≡ Some c → o ≡ Some c → c.has_waited ≡ false
    → count_of pending held (3 * n + oldest_index o) ≡ 0 → has_image i (record { place = n; index = oldest_index o } ∷ []) ≡ true → (has_index (slice_get chains i.place) i.index ≡ false) × (count_of pending held (slot_of i) ≡ 0)
nobodys chains pending held i n o c at is none unused claimed =
    let two = both_of (n == i.place) (oldest_index o == i.index) (first ((n == i.place) && (oldest_index o == i.index)) claimed) in
    let place = same_key n i.place two.0 in
    let index = same_key (oldest_index o) i.index two.1 in
    let here : slice_get chains i.place ≡ Some c = ap (λ (k : ℕ). slice_get chains k) (sym place) ∙ at in
    (rw (here, none) refl, subst (λ (k : ℕ). count_of pending held (3 * k + i.index) ≡ 0) place (subst (λ (k : ℕ). count_of pending held (3 * n + k) ≡ 0) index unused))
  where
    first : (b : Bool) → b || false ≡ true → b ≡ true
    first true e = refl
    first false e = absurd (true≢false (sym e))

abbrev IfClaimed : State → Image → CoreState → Did → Type 0
IfClaimed s i t did = has_image i did.claimed ≡ true → (is_had s.core i ≡ false) × (count_now s i ≡ 0)

-- a wait gets an image that the state says is nobody's
claims_nobodys : (s : State) (e : Entry) (i : Image) → ready s e ≡ true → has_image i (did_at s e).claimed ≡ true → (is_had s.core i ≡ false) × (count_now s i ≡ 0)
claims_nobodys s e i is_ready = by e.call is_ready
  where
    by : (r : Call) → ready s (record e { call = r }) ≡ true → has_image i (did_at s (record e { call = r })).claimed ≡ true → (is_had s.core i ≡ false) × (count_now s i ≡ 0)
    by (ask.WaitImage chain timeout start) is_ready =
        let x = record e { call = ask.WaitImage chain timeout start } in
        let f = rule s.core (reads_of s (ask.WaitImage chain timeout start)) x in
        effect_kept (IfClaimed s i) s.core e.short f (λ claimed. absurd (true≢false (sym claimed))) (λ none claimed.
        let free = clear f e.short none in
        let some = wait_some (chain_at s.core.chains chain) free.order in
        let unused = (reads_of s (ask.WaitImage chain timeout start)).unused in
        let up = is_up s.core.device.clock timeout start in
        let zero_count = is_unused unused up (is_ready_to s.core (reads_of s (ask.WaitImage chain timeout start)) x is_ready free.whole) (none_first (not unused && up) TimeoutExpired [] free.behind).0 in
        nobodys s.core.chains s.core.frames.pending s.cells.held i (place_of_chain s.core.chains chain) (chain_at s.core.chains chain) some.0 (found_at (is_chain chain) s.core.chains some.0 some.1) some.1
        (not_waited some.0 (sym (ap is_wait_wrong some.1) ∙ free.order)) (same_key (count_of s.core.frames.pending s.cells.held (slot_of (oldest_image s.core.chains chain))) 0 zero_count) claimed)
    by r is_ready = effect_kept (IfClaimed s i) s.core e.short (rule s.core (reads_of s r) (record e { call = r })) (λ claimed. absurd (true≢false (sym claimed))) (λ none claimed. absurd (true≢false (sym claimed)))

pub waited_image_is_nobodys : WaitedImageIsNobodys
waited_image_is_nobodys settings es e i legal placed claimed =
    let front = fronts_are_legal (opening settings) (opening_clocks settings) es (e ∷ []) legal in
    let last = legal_behind (opening settings) (opening_clocks settings) es (e ∷ []) legal in
    let fits = owners_fit settings es i front placed in
    let none = claims_nobodys (after (opening settings) es) e i last.2 claimed in
    (fits.application ∙ none.0, none_more (times_used i (past_of settings es)) (times_returned i (past_of settings es)) (count_now (after (opening settings) es) i) fits.count none.1)

-- ---- steps and counts

pub images_step : ImagesStep
images_step settings es e i legal placed =
    let front = fronts_are_legal (opening settings) (opening_clocks settings) es (e ∷ []) legal in
    image_steps (after (opening settings) es) e i (handles_stand_once settings es front) (no_orphans settings es) (sound_history settings es front)

pub uses_few : (fs : List PendingFrame) (k : ℕ) → AreSound fs → uses_of fs k ≤ length fs
uses_few [] k sound = omega arith
uses_few (f ∷ fs) k sound = let here = sound.0.images.once k in let more = uses_few fs k sound.1 in omega (arith, here, more)

pub counts_are_few : CountsAreFew
counts_are_few settings es i legal placed =
    let s = after (opening settings) es in
    let sound = sound_history settings es legal in
    let pending = uses_few s.core.frames.pending (slot_of i) sound.frames in
    let three = pending_are_few settings es legal in
    let once = sound.last.once (slot_of i) in
    let held = subst (λ (l : List Image). times_in l (slot_of i) ≤ times_in s.core.shown_images (slot_of i)) (sym sound.left.are) (times_left sound.left.gone s.core.shown_images (slot_of i)) in
    omega (arith, pending, three, once, held)
