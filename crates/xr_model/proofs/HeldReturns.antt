-- The image that is given back next.
use Rattle.std.proofs.Common.{◌≡◌, ◌+◌, ◌==◌, ℕ, Bool, true, false, List, [], ◌∷◌, drop, refl, sym, ap, subst, ◌∙◌, arith, true≢false}
use Rattle.std.specs.List.{list_any}
use Rattle.xr_types.specs.declared.calls.Actor.TheVariants.{Compositor}
use Rattle.xr_types.specs.declared.code.Code.TheVariants.{Success}
use Rattle.xr_types.specs.declared.frames.Image.{Image}
use Rattle.xr_model.specs.scenario.InRange.{Each}
use Rattle.xr_model.specs.machine.Chains.{has_place}
use Rattle.xr_model.specs.machine.Frames.{one_if}
use Rattle.xr_model.specs.machine.Images.{slot_of, times_in, uses_of, count_of}
use Rattle.xr_model.specs.machine.Machine.{step}
use Rattle.xr_model.specs.machine.Calls.{Entry}
use Rattle.xr_types.specs.declared.calls.Call.TheVariants as ask
use Rattle.xr_model.specs.machine.State.{State}
use Rattle.xr_model.specs.laws.ImageLaws.{IsPlaced, is_had, did_at, count_now}
use Rattle.xr_model.specs.laws.Moments.{Moment, MayCome}
use Rattle.xr_model.specs.laws.Soundness.{IsBelow, StateIsSound}
use Rattle.xr_model.proofs.FrameImages.{each_left}
use Rattle.xr_model.proofs.ImageOwners.{had_unused}
use Rattle.xr_model.proofs.Rows.{itself, is_false}
use Rattle.xr_model.proofs.FittingCalls.{used_within, place_in, or_more}

abbrev pub giving_back : Entry
giving_back = record { actor = Compositor; call = ask.ImageDone; given = 0; short = false }

-- it stands among the places
pub held_placed : (s : State) (i : Image) (rest : List Image) → StateIsSound s → s.cells.held ≡ i ∷ rest → IsPlaced i
held_placed s i rest sound held =
    let are : drop sound.left.gone s.core.shown_images ≡ i ∷ rest = sym sound.left.are ∙ held in
    let low : Each IsBelow (i ∷ rest) = subst (Each IsBelow) are (each_left IsBelow sound.left.gone s.core.shown_images sound.last.each) in
    let P : Image → Type 0 = λ j. has_place j.place s.core.shown_images ≡ true in
    let place : Each P (i ∷ rest) = subst (Each P) are (each_left P sound.left.gone s.core.shown_images (place_in s.core.shown_images)) in
    (used_within s i sound (or_more (list_any (λ f. has_place i.place f.images) s.core.frames.pending) (has_place i.place s.core.shown_images) place.0), low.0)

-- no application has it
pub held_unowned : (s : State) (i j : Image) (rest : List Image) → StateIsSound s → s.cells.held ≡ i ∷ rest → slot_of j ≡ slot_of i → is_had s.core j ≡ false
held_unowned s i j rest sound held same = is_false (is_had s.core j) (λ had. some (had_unused s j sound had))
  where
    some : count_now s j ≡ 0 → ⊥
    some none =
        let here : uses_of s.core.frames.pending (slot_of j) + (one_if (slot_of i == slot_of j) + times_in rest (slot_of j)) ≡ 0 = ap (λ (l : List Image). count_of s.core.frames.pending l (slot_of j)) (sym held) ∙ none in
        let one : (slot_of i == slot_of j) ≡ true = ap (λ (n : ℕ). slot_of i == n) same ∙ itself (slot_of i) in
        let counted : uses_of s.core.frames.pending (slot_of j) + (1 + times_in rest (slot_of j)) ≡ 0 = subst (λ (b : Bool). uses_of s.core.frames.pending (slot_of j) + (one_if b + times_in rest (slot_of j)) ≡ 0) one here in
        omega (arith, counted)

pub done_returns : (s : State) (i : Image) (rest : List Image) → s.cells.held ≡ i ∷ rest → (did_at s giving_back).returned ≡ i ∷ []
done_returns s i rest held = rw held refl

pub done_leaves : (s : State) (i : Image) (rest : List Image) → s.cells.held ≡ i ∷ rest → (step s giving_back).0.cells.held ≡ rest
done_leaves s i rest held = rw held refl

pub done_succeeds : (s : State) (i : Image) (rest : List Image) → s.cells.held ≡ i ∷ rest → (step s giving_back).1.reply.code ≡ Success
done_succeeds s i rest held = rw held refl

-- it may come at any time
pub done_comes : (m : Moment) → MayCome m giving_back
done_comes m = record { allowed = record { handle = refl; memory = λ bad. absurd (true≢false (sym bad)); present = tt }; starts = tt; is_ready = refl }
