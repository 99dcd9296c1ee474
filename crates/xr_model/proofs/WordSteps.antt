-- What each entry makes of words and stamps.
use Rattle.std.proofs.Common.{◌≡◌, ◌+◌, ◌*◌, ◌^◌, ◌≤◌, ◌==◌, ◌&&◌, ◌||◌, ◌⊎◌, inl, inr, ⊎_elim, ℕ, zero, suc, Bool, true, false, List, [], ◌∷◌, ◌++◌, length, refl, sym, ap, subst, ◌∙◌, arith, true≢false}
use Rattle.std.specs.Prelude.{nat_le, nat_lt, if◌then◌else◌, replicate, slice_get, unwrap_or}
use Rattle.std.proofs.lemmas.Bool.Decides.{nat_tests}
use Rattle.xr_types.specs.declared.handles.TheConstants.{SESSIONS, SWAPCHAINS}
use Rattle.xr_types.specs.declared.frames.Image.{Image}
use Rattle.xr_model.specs.machine.Images.{Stamped, slot_of, image_count, times_in, is_image, with_stamps}
use Rattle.xr_model.specs.machine.Calls.{Entry}
use Rattle.xr_types.specs.declared.calls.Call.{Call}
use Rattle.xr_types.specs.declared.calls.Call.TheVariants as ask
use Rattle.xr_model.specs.machine.State.{Settings, CoreState, CellReads, State, opening}
use Rattle.xr_model.specs.machine.Rule.{Did}
use Rattle.xr_model.specs.machine.Machine.{effect, rule, step, reads_of, cell_calls}
use Rattle.xr_model.specs.machine.History.{after, IsLegal, opening_clocks}
use Rattle.xr_model.specs.laws.DecidedEntries.{is_image_done, past_of}
use Rattle.xr_model.specs.laws.ImageLaws.{IsPlaced, did_at, is_had, count_now, ImageSteps, OwnersFit}
use Rattle.xr_model.specs.laws.Owners.{has_image, times_used, times_returned}
use Rattle.xr_model.specs.laws.Soundness.{StateIsSound}
use Rattle.xr_model.proofs.HeldFits.{did_kept}
use Rattle.xr_model.proofs.Histories.{fronts_are_legal, after_is_in_turn}
use Rattle.xr_model.proofs.ImageOwners.{images_step, owners_fit, counts_are_few, had_unused, none_had, none_more}
use Rattle.xr_model.proofs.LaterPoses.{set_length}
use Rattle.xr_model.proofs.Rows.{same_key, itself, both_of, is_false}
use Rattle.xr_model.proofs.SoundImages.{sound_history}
use Rattle.xr_model.specs.laws.ImageWords.{word_of, stamp_of, word_after, stamp_after, is_at}
use Rattle.xr_model.specs.laws.ImageWordLaws.{WordTells, WordsTellOwners, WordsFollowCalls, StampsFollowCalls, WordsFallByReturns, ClaimsAreWords}
use Rattle.xr_model.proofs.CallWords.{cells_word, cells_stamp, listed_stamp, same_slots, slot_within}
use Rattle.xr_model.proofs.FittingCalls.{had_placed, freed_had, returned_none, claims_as, claimed_fits, only_of}

-- ---- what is used and what is freed

-- no entry both uses and frees images
used_or_freed : (s : CoreState) (r : CellReads) (e : Entry) → ((effect s r e).did.used ≡ []) ⊎ ((effect s r e).did.freed ≡ [])
used_or_freed s r e = by e.call
  where
    by : (what : Call) → ((effect s r (record e { call = what })).did.used ≡ []) ⊎ ((effect s r (record e { call = what })).did.freed ≡ [])
    by (ask.EndFrame session time blend layers) = did_kept (λ d. (d.used ≡ []) ⊎ (d.freed ≡ [])) s e.short (rule s r (record e { call = ask.EndFrame session time blend layers })) (inr refl) (inr refl)
    by what = did_kept (λ d. (d.used ≡ []) ⊎ (d.freed ≡ [])) s e.short (rule s r (record e { call = what })) (inl refl) (inl refl)

-- an image of these places stands at a slot of these where it is among them
at_among : (i : Image) (images : List Image) → IsPlaced i → ((j : Image) → has_image j images ≡ true → IsPlaced j) → is_at i images ≡ has_image i images
at_among i [] placed all = refl
at_among i (j ∷ images) placed all = ap (λ b. b || is_at i images) (one (slot_of j == slot_of i) refl) ∙ ap (λ b. is_image i j || b) (at_among i images placed (λ k has. all k (more (is_image k j) (has_image k images) has)))
  where
    more : (a b : Bool) → b ≡ true → a || b ≡ true
    more true b is = refl
    more false b is = is

    here : has_image j (j ∷ images) ≡ true
    here = rw (itself j.place, itself j.index) refl

    one : (b : Bool) → (slot_of j == slot_of i) ≡ b → b ≡ is_image i j
    one true is = let same = same_slots j i (all j here) placed (same_key (slot_of j) (slot_of i) is) in rw (same.0, same.1, itself i.place, itself i.index) refl
    one false apart = sym (is_false (is_image i j) (λ is.
        let two = both_of (j.place == i.place) (j.index == i.index) is in
        let slots : slot_of j ≡ slot_of i = let p = same_key j.place i.place two.0 in let q = same_key j.index i.index two.1 in omega (arith, p, q) in
        true≢false (sym (subst (λ n. (slot_of j == n) ≡ true) slots (itself (slot_of j))) ∙ apart)))

-- ---- states behind a legal history

module _ (settings : Settings) (es : List Entry) (e : Entry) (i : Image) (legal : IsLegal settings (es ++ e ∷ [])) (placed : IsPlaced i) where
  abbrev s : State
  s = after (opening settings) es

  abbrev t : State
  t = (step s e).0

  sound : StateIsSound s
  sound = sound_history settings es (fronts_are_legal (opening settings) (opening_clocks settings) es (e ∷ []) legal)

  sound_behind : StateIsSound t
  sound_behind = subst StateIsSound (after_is_in_turn (opening settings) es (e ∷ [])) (sound_history settings (es ++ e ∷ []) legal)

  steps : ImageSteps s e i
  steps = images_step settings es e i legal placed

  abbrev did : Did
  did = did_at s e

  freed_at_slot : is_at i did.freed ≡ has_image i did.freed
  freed_at_slot = at_among i did.freed placed (λ j has. had_placed s j sound (freed_had s.core (reads_of s e.call) e j has))

  -- an entry that claims nothing and gives nothing back makes of a word what its calls make of it
  pub word_steps : is_image_done e.call ≡ false → did.claimed ≡ [] → word_of t i ≡ word_after (cell_calls s.core (reads_of s e.call) e) i (word_of s i)
  word_steps other unclaimed =
      by (has_image i did.freed) refl (is_had s.core i) refl (is_had t.core i) (rw unclaimed at steps.had)
      ∙ ap (λ b. if b then 0 else word_of s i + times_in did.used (slot_of i)) (sym freed_at_slot)
      ∙ sym (cells_word s.core (reads_of s e.call) e i (word_of s i))
    where
      counts : count_now t i + 0 ≡ count_now s i + times_in did.used (slot_of i)
      counts = subst (λ (l : List Image). count_now t i + times_in l (slot_of i) ≡ count_now s i + times_in did.used (slot_of i)) (returned_none s.core (reads_of s e.call) e other) steps.count

      none_used : has_image i did.freed ≡ true → times_in did.used (slot_of i) ≡ 0
      none_used has = ⊎_elim (λ (z : did.used ≡ []). ap (λ (l : List Image). times_in l (slot_of i)) z) (λ (z : did.freed ≡ []). absurd (true≢false (sym has ∙ ap (has_image i) z))) (used_or_freed s.core (reads_of s e.call) e)

      by : (f : Bool) → has_image i did.freed ≡ f → (h : Bool) → is_had s.core i ≡ h → (n : Bool) → n ≡ (if f then false else h)
          → (if n then 2 ^ 32 else count_now t i) ≡ (if f then 0 else (if h then 2 ^ 32 else count_now s i) + times_in did.used (slot_of i))
      by true has h had n is =
          let none = none_used has in
          let unused = had_unused s i sound (freed_had s.core (reads_of s e.call) e i has) in
          rw is (omega (arith, counts, none, unused))
      by false has true had n is =
          let now : is_had t.core i ≡ true = steps_had had has in
          let unused = had_unused t i sound_behind now in
          rw is (omega (arith, counts, unused))
        where
          steps_had : is_had s.core i ≡ true → has_image i did.freed ≡ false → is_had t.core i ≡ true
          steps_had had none = steps.had ∙ rw (unclaimed, none) had
      by false has false had n is = rw is (omega (arith, counts))

  -- an entry makes of a stamp what its calls make of it
  pub stamp_steps : length s.cells.stamps ≡ 48 → stamp_of t i ≡ stamp_after (cell_calls s.core (reads_of s e.call) e) i (stamp_of s i)
  stamp_steps all =
      let inside = slot_within i placed in
      listed_stamp did.stamped s.cells.stamps i (omega (arith, inside, all)) ∙ sym (cells_stamp s.core (reads_of s e.call) e i (stamp_of s i))

  -- what is given back is used once less
  pub word_returns : e.call ≡ ask.ImageDone → word_of t i + times_in did.returned (slot_of i) ≡ word_of s i
  word_returns is = by (is_had s.core i) refl (is_had t.core i) had_same
    where
      none : (did.used ≡ []) × (did.claimed ≡ []) × (did.freed ≡ [])
      none = subst (λ (what : Call). ((effect s.core (reads_of s what) (record e { call = what })).did.used ≡ []) × ((effect s.core (reads_of s what) (record e { call = what })).did.claimed ≡ []) × ((effect s.core (reads_of s what) (record e { call = what })).did.freed ≡ [])) (sym is)
          (did_kept (λ d. (d.used ≡ []) × (d.claimed ≡ []) × (d.freed ≡ [])) s.core e.short (rule s.core (reads_of s ask.ImageDone) (record e { call = ask.ImageDone })) (refl, refl, refl) (refl, refl, refl))

      had_same : is_had t.core i ≡ is_had s.core i
      had_same = steps.had ∙ rw (none.1, none.2) refl

      counts : count_now t i + times_in did.returned (slot_of i) ≡ count_now s i + 0
      counts = steps.count ∙ ap (λ (l : List Image). count_now s i + times_in l (slot_of i)) none.0

      by : (h : Bool) → is_had s.core i ≡ h → (n : Bool) → n ≡ is_had s.core i → (if n then 2 ^ 32 else count_now t i) + times_in did.returned (slot_of i) ≡ (if h then 2 ^ 32 else count_now s i)
      by true had n same =
          let unused = had_unused s i sound had in
          let zero_returned : times_in did.returned (slot_of i) ≡ 0 = omega (arith, counts, unused) in
          rw (same, had) (omega (arith, zero_returned))
      by false had n same = rw (same, had) (omega (arith, counts))

  -- what is claimed has an application's word, and every other word stays
  pub word_claims : (j : Image) → IsPlaced j → did.claimed ≡ j ∷ [] → did.used ≡ [] → did.freed ≡ [] → did.returned ≡ [] → word_of t i ≡ (if slot_of j == slot_of i then 2 ^ 32 else word_of s i)
  word_claims j there claimed used freed returned = by (slot_of j == slot_of i) refl
    where
      counts : count_now t i + 0 ≡ count_now s i + 0
      counts = subst (λ (x : List Image × List Image). count_now t i + times_in x.0 (slot_of i) ≡ count_now s i + times_in x.1 (slot_of i)) (λ k. (returned k, used k)) steps.count

      by : (b : Bool) → (slot_of j == slot_of i) ≡ b → word_of t i ≡ (if b then 2 ^ 32 else word_of s i)
      by true is =
          let same = same_slots j i there placed (same_key (slot_of j) (slot_of i) is) in
          let image : is_image i j ≡ true = rw (same.0, same.1, itself i.place, itself i.index) refl in
          let now : is_had t.core i ≡ true = steps.had ∙ rw (claimed, image) refl in
          rw now refl
      by false apart =
          let other : is_image i j ≡ false = is_false (is_image i j) (λ is.
          let two = both_of (j.place == i.place) (j.index == i.index) is in
          let slots : slot_of j ≡ slot_of i = let p = same_key j.place i.place two.0 in let q = same_key j.index i.index two.1 in omega (arith, p, q) in
          true≢false (sym (subst (λ n. (slot_of j == n) ≡ true) slots (itself (slot_of j))) ∙ apart)) in
          let same : is_had t.core i ≡ is_had s.core i = steps.had ∙ rw (claimed, freed, other) refl in
          let equal : count_now t i ≡ count_now s i = omega (arith, counts) in
          rw (same, equal) refl

  -- where nothing is done, words stay
  pub word_stays : did.claimed ≡ [] → did.used ≡ [] → did.freed ≡ [] → did.returned ≡ [] → word_of t i ≡ word_of s i
  word_stays claimed used freed returned =
      let counts : count_now t i + 0 ≡ count_now s i + 0 = subst (λ (x : List Image × List Image). count_now t i + times_in x.0 (slot_of i) ≡ count_now s i + times_in x.1 (slot_of i)) (λ k. (returned k, used k)) steps.count in
      let same : is_had t.core i ≡ is_had s.core i = steps.had ∙ rw (claimed, freed) refl in
      let equal : count_now t i ≡ count_now s i = omega (arith, counts) in
      rw (same, equal) refl

-- ---- all stamps

with_all : (xs : List Stamped) (stamps : List ℕ) → length (with_stamps xs stamps) ≡ length stamps
with_all [] stamps = refl
with_all (x ∷ xs) stamps = with_all xs _ ∙ set_length stamps (slot_of x.image) x.stamp

pub all_stamps_from : (s : State) (es : List Entry) → length (after s es).cells.stamps ≡ length s.cells.stamps
all_stamps_from s [] = refl
all_stamps_from s (e ∷ es) = all_stamps_from (step s e).0 es ∙ with_all (did_at s e).stamped s.cells.stamps

pub all_stamps : (settings : Settings) (es : List Entry) → length (after (opening settings) es).cells.stamps ≡ 48
all_stamps settings es = all_stamps_from (opening settings) es

-- ---- before any call

none_stamped : (n k : ℕ) → ◌≡◌ {A = ℕ} (unwrap_or (slice_get (replicate n 0) k) 0) 0
none_stamped zero k = refl
none_stamped (suc n) zero = refl
none_stamped (suc n) (suc k) = none_stamped n k

pub opening_word : (settings : Settings) (i : Image) → word_of (opening settings) i ≡ 0
opening_word settings i = rw (none_had SWAPCHAINS i.place i.index) refl

pub opening_stamp : (settings : Settings) (i : Image) → stamp_of (opening settings) i ≡ 0
opening_stamp settings i = none_stamped image_count (slot_of i)

-- ---- the laws

pub words_follow_calls : WordsFollowCalls
words_follow_calls = word_steps

pub stamps_follow_calls : StampsFollowCalls
stamps_follow_calls settings es e i legal placed = stamp_steps settings es e i legal placed (all_stamps settings es)

pub words_fall_by_returns : WordsFallByReturns
words_fall_by_returns = word_returns

pub claims_are_words : ClaimsAreWords
claims_are_words settings es e i j legal placed claimed =
    let s : State = after (opening settings) es in
    let got = claims_as s.core (reads_of s e.call) e j [] claimed in
    let only = only_of s.core (reads_of s e.call) e j got.0 in
    let fits = claimed_fits s got.0.chain (sound_history settings es (fronts_are_legal (opening settings) (opening_clocks settings) es (e ∷ []) legal)) got.0.may in
    word_claims settings es e i legal placed j (subst IsPlaced (sym got.0.image) fits.0) claimed only.used only.freed only.returned

no_count : (n : ℕ) → n ≤ 2 * SESSIONS + 2 → (n == 2 ^ 32) ≡ false
no_count n few = grind (arith, nat_tests, few)

used_more : (u r n : ℕ) → u ≡ r + n → n ≤ 2 * SESSIONS + 2 → nat_lt r u ≡ (nat_le 1 n && nat_le n (2 * SESSIONS + 2))
used_more u r zero is few = none_more u r zero is refl
used_more u r (suc n) is few = more ∙ rw (some, below) refl
  where
    more : nat_lt r u ≡ true
    more = grind (arith, nat_tests, is)

    some : nat_le 1 (suc n) ≡ true
    some = grind (arith, nat_tests)

    below : nat_le (suc n) (2 * SESSIONS + 2) ≡ true
    below = grind (arith, nat_tests, few)

pub words_tell_owners : WordsTellOwners
words_tell_owners settings es i legal placed = by (is_had (after (opening settings) es).core i) refl
  where
    s : State
    s = after (opening settings) es

    fits : OwnersFit settings es i
    fits = owners_fit settings es i legal placed

    by : (h : Bool) → is_had (after (opening settings) es).core i ≡ h → WordTells settings es i
    by true had =
        let none = had_unused (after (opening settings) es) i (sound_history settings es legal) had in
        record { application = fits.application ∙ rw had (sym (itself (2 ^ 32))); compositor = none_more (times_used i (past_of settings es)) (times_returned i (past_of settings es)) (count_now (after (opening settings) es) i) fits.count none ∙ rw had refl }
    by false had =
        let few = counts_are_few settings es i legal placed in
        record { application = fits.application ∙ rw had (sym (no_count (count_now (after (opening settings) es) i) few)); compositor = used_more (times_used i (past_of settings es)) (times_returned i (past_of settings es)) (count_now (after (opening settings) es) i) fits.count few ∙ rw had refl }
