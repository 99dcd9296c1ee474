-- After every legal history at most 48 images are held: each of three of each of sixteen swapchains once.
use Rattle.std.proofs.Common.{◌≡◌, ◌≤◌, ◌<◌, ◌+◌, ◌||◌, ℕ, zero, suc, Bool, true, false, List, [], ◌∷◌, length, Option, Some, None, refl, sym, ap, ◌∙◌, arith, true≢false, length-drop}
use Rattle.std.specs.Prelude.{slice_get, ◌==◌}
use Rattle.std.specs.List.{list_any}
use Rattle.xr_types.specs.declared.frames.Image.{Image}
use Rattle.xr_types.specs.Frames.{PendingFrame}
use Rattle.xr_model.specs.machine.Chains.{Chain, has_place}
use Rattle.xr_model.specs.machine.Frames.{one_if}
use Rattle.xr_model.specs.machine.History.{after, IsLegal}
use Rattle.xr_model.specs.machine.Images.{slot_of, times_in}
use Rattle.xr_model.specs.machine.Calls.{Entry}
use Rattle.xr_model.specs.machine.State.{Settings, State, opening}
use Rattle.xr_model.specs.scenario.InRange.{Each}
use Rattle.xr_model.proofs.CellCounts.{within}
use Rattle.xr_model.proofs.Rows.{itself, or_true}
use Rattle.xr_model.proofs.SoundImages.{sound_history}
use Rattle.xr_model.specs.laws.Soundness.{IsBelow, IsSound, is_taken}

-- how often the first slots are among these
abbrev sum_to : ℕ → List Image → ℕ
sum_to zero images = 0
sum_to (suc n) images = times_in images n + sum_to n images

-- one image more
least : (n : ℕ) (i : Image) (images : List Image) → sum_to n images ≤ sum_to n (i ∷ images)
least zero i images = omega arith
least (suc n) i images = let rest = least n i images in omega (arith, rest)

adds : (n : ℕ) (i : Image) (images : List Image) → slot_of i < n → sum_to n images + 1 ≤ sum_to n (i ∷ images)
adds zero i images low = absurd (omega (arith, low))
adds (suc n) i images low = by (slot_of i == n) refl (λ lower. adds n i images lower)
  where
    by : (b : Bool) → (slot_of i == n) ≡ b → (slot_of i < n → sum_to n images + 1 ≤ sum_to n (i ∷ images)) → times_in images n + sum_to n images + 1 ≤ one_if (slot_of i == n) + times_in images n + sum_to n (i ∷ images)
    by true is later = rw is (let rest = least n i images in omega (arith, rest))
    by false isnt later = let lower : slot_of i < n = grind (arith, isnt, low) in let rest = later lower in omega (arith, rest)

counted : (n : ℕ) (images : List Image) → Each (λ i. slot_of i < n) images → length images ≤ sum_to n images
counted n [] low = omega arith
counted n (i ∷ images) low = let rest = counted n images low.1 in let one = adds n i images low.0 in omega (arith, rest, one)

few_times : (n : ℕ) (images : List Image) → ((k : ℕ) → times_in images k ≤ 1) → sum_to n images ≤ n
few_times zero images once = omega arith
few_times (suc n) images once = let one = once n in let rest = few_times n images once in omega (arith, one, rest)

-- a place that is taken is one of the sixteen
is_there : (o : Option Chain) → is_taken o ≡ true → (c : Chain) × (o ≡ Some c)
is_there None taken = absurd (true≢false (sym taken))
is_there (Some c) taken = (c, refl)

slots_are_low : (images : List Image) → ((p : ℕ) → has_place p images ≡ true → p < 16) → Each IsBelow images → Each (λ i. slot_of i < 48) images
slots_are_low [] placed below = tt
slots_are_low (i ∷ images) placed below = (
  let here = placed i.place (rw (itself i.place) refl) in let third = below.0 in omega (arith, here, third),
  slots_are_low images (λ p has. placed p (rw has (or_true (i.place == p)))) below.1,
)

module _ (s : State) (sound : IsSound s.core.handles.chains s.core.chains s.core.frames.pending s.core.shown_images s.cells.held) where
  placed : (p : ℕ) → has_place p s.core.shown_images ≡ true → p < 16
  placed p has = by (is_taken (slice_get s.core.chains p)) refl
    where
      by : (b : Bool) → is_taken (slice_get s.core.chains p) ≡ b → p < 16
      by true taken = let c = is_there (slice_get s.core.chains p) taken in let low = within s.core.chains p c.0 c.1 in let all = sound.all in omega (arith, low, all)
      by false free = absurd (true≢false (sym (or_true (list_any (λ (f : PendingFrame). has_place p f.images) s.core.frames.pending)) ∙ (ap (λ (b : Bool). list_any (λ (f : PendingFrame). has_place p f.images) s.core.frames.pending || b) (sym has) ∙ sound.unused p free)))

  few_in : length s.cells.held ≤ 48
  few_in =
      let low = counted 48 s.core.shown_images (slots_are_low s.core.shown_images placed sound.last.each) in
      let once = few_times 48 s.core.shown_images sound.last.once in
      let left = ap length sound.left.are in
      let cut = length-drop sound.left.gone s.core.shown_images in
      omega (arith, low, once, left, cut)

pub few_held : (settings : Settings) (es : List Entry) → IsLegal settings es → length (after (opening settings) es).cells.held ≤ 48
few_held settings es legal = few_in (after (opening settings) es) (sound_history settings es legal)
