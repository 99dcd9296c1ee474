-- How the compositor's calls are decided beside cells.
use Rattle.std.proofs.Common.{◌≡◌, ◌||◌, ℕ, Bool, true, false, List, [], ◌∷◌, take, drop, length, append-nil, Some, None, refl, sym, subst, true≢false}
use Rattle.std.specs.Prelude.{Ok, Err, slice_get}
use Rattle.std.specs.List.{list_all}
use Rattle.xr_types.specs.declared.calls.Actor.{Actor}
use Rattle.xr_types.specs.declared.calls.Call.{Call}
use Rattle.xr_types.specs.declared.calls.Gives.TheVariants.{Nothing, Shown, Ended}
use Rattle.xr_types.specs.declared.code.Code.TheVariants.{Success, CallOrderInvalid}
use Rattle.xr_types.specs.declared.frames.Image.{Image}
use Rattle.xr_types.specs.Frames.{PendingFrame}
use Rattle.xr_types.specs.declared.frames.Shown as frames
use Rattle.xr_model.specs.machine.CellCalls.{CellCall, give_back, MayCall, Leads, peek_calls, return_calls}
use Rattle.xr_model.specs.machine.CoreCalls.{Lent}
use Rattle.xr_model.specs.machine.Frames.{is_empty}
use Rattle.xr_model.specs.machine.Images.{first_images, shown_of}
use Rattle.xr_model.specs.machine.OverCells.{World, MayApply}
use Rattle.xr_types.specs.declared.calls.Call.TheVariants as ask
use Rattle.xr_model.specs.machine.Rules.Frames.{chains_behind, shown_behind, with_frame_taken}
use Rattle.xr_model.specs.machine.State.{CoreState, WholeCore}
use Rattle.xr_model.proofs.OverCells.{told_nothing}
use Rattle.xr_core.specs.declared.halt.Halt.TheVariants.{Refused, NotReady}
use Rattle.xr_core.specs.inside.Deciding.{DecidesAlong}
use Rattle.xr_model.specs.laws.Soundness.{IsAside}

module _ {C : Type 0} (does : C → CellCall → C → Type 0) (s : CoreState) (who : Actor) where
  abbrev pub beside : CoreState → List Image → C → Lent → World C
  beside kept held cells lent = record { core = record { kept = kept; held = held }; cells = cells; lent = lent }

  -- ---- a frame is asked for

  -- while an image is held the call is refused
  pub held_decides : (held : List Image) (c : C) (lent : Lent) → is_empty held ≡ false → DecidesAlong does (beside s held c lent) (beside s held c lent) who ask.NextFrame (Err (Refused CallOrderInvalid))
  held_decides [] c lent some = absurd (true≢false some)
  held_decides (i ∷ held) c lent some = record {
    reads = told_nothing (i ∷ held);
    own = refl;
    each = refl;
    cells = refl;
    decides = record { ready = or_true _; handle = refl; memory = λ short. absurd (true≢false (sym short)); keeps = refl; code = refl; gives = refl; writes = refl };
    holds = refl;
  }
    where
      or_true : (b : Bool) → b || true ≡ true
      or_true true = refl
      or_true false = refl

  -- the frame that is pending longest is shown
  pub shown_decides : (f : PendingFrame) (stamps : List ℕ) (c d : C) (text : List ℕ) (before after : frames.Shown) → slice_get s.frames.pending 0 ≡ Some f → length stamps ≡ length f.images → Leads does c (peek_calls f.images stamps) d → after ≡ shown_of f stamps
      → DecidesAlong does (beside s [] c (record { text = text; frame = before })) (beside (with_frame_taken s) f.images d (record { text = text; frame = after })) who ask.NextFrame (Ok (record { code = Success; gives = Shown; place = 0 }))
  shown_decides f stamps c d text before after first each leads is = by s.frames.pending first refl
    where
      by : (fs : List PendingFrame) → slice_get fs 0 ≡ Some f → s.frames.pending ≡ fs
          → DecidesAlong does (beside s [] c (record { text = text; frame = before })) (beside (with_frame_taken s) f.images d (record { text = text; frame = after })) who ask.NextFrame (Ok (record { code = Success; gives = Shown; place = 0 }))
      by [] first same = cc
      by (g ∷ fs) first same =
          let named : g ≡ f = cc in
          record {
            reads = record { unused = true; stamps = stamps; held = [] };
            own = refl;
            each = rw (same, named) each;
            cells = rw (same, named, append-nil (peek_calls f.images stamps)) leads;
            decides = record { ready = rw same refl; handle = refl; memory = λ short. absurd (true≢false (sym short)); keeps = refl; code = refl; gives = rw same refl; writes = rw (same, is, named) refl };
            holds = rw (same, named, append-nil f.images) refl;
          }

  -- the end is told
  pub end_decides : (c : C) (text : List ℕ) (frame : frames.Shown) → slice_get s.frames.pending 0 ≡ None → list_all (λ has_left. has_left) s.left ≡ true
      → DecidesAlong does (beside s [] c (record { text = text; frame = frame })) (beside (with_frame_taken s) [] c (record { text = text; frame = frame })) who ask.NextFrame (Ok (record { code = Success; gives = Ended; place = 0 }))
  end_decides c text frame first left = by s.frames.pending first refl
    where
      by : (fs : List PendingFrame) → slice_get fs 0 ≡ None → s.frames.pending ≡ fs
          → DecidesAlong does (beside s [] c (record { text = text; frame = frame })) (beside (with_frame_taken s) [] c (record { text = text; frame = frame })) who ask.NextFrame (Ok (record { code = Success; gives = Ended; place = 0 }))
      by (g ∷ fs) first same = cc
      by [] first same = record {
        reads = told_nothing [];
        own = refl;
        each = rw same refl;
        cells = rw same refl;
        decides = record { ready = rw (same, left) refl; handle = refl; memory = λ short. absurd (true≢false (sym short)); keeps = refl; code = refl; gives = rw same refl; writes = rw same refl };
        holds = rw same refl;
      }

  -- where nothing is pending, all stays
  stays : s.frames.pending ≡ [] → with_frame_taken s ≡ s
  stays none = by s.frames.pending none refl
    where
      by : (fs : List PendingFrame) → fs ≡ [] → s.frames.pending ≡ fs → record s { frames = record s.frames { pending = drop 1 fs }; chains = chains_behind s.handles fs s.chains; shown_images = shown_behind fs s.shown_images } ≡ s
      by [] none same = rw (← same) refl
      by (f ∷ fs) none same = cc

  -- the call waits
  pub frame_waits : (c : C) (text : List ℕ) (frame : frames.Shown) → slice_get s.frames.pending 0 ≡ None → list_all (λ has_left. has_left) s.left ≡ false
      → DecidesAlong does (beside s [] c (record { text = text; frame = frame })) (beside (with_frame_taken s) [] c (record { text = text; frame = frame })) who ask.NextFrame (Err NotReady)
  frame_waits c text frame first left = by s.frames.pending first refl
    where
      by : (fs : List PendingFrame) → slice_get fs 0 ≡ None → s.frames.pending ≡ fs
          → DecidesAlong does (beside s [] c (record { text = text; frame = frame })) (beside (with_frame_taken s) [] c (record { text = text; frame = frame })) who ask.NextFrame (Err NotReady)
      by (g ∷ fs) first same = cc
      by [] first same = record {
        reads = told_nothing [];
        own = refl;
        each = refl;
        cells = rw same refl;
        decides = record { not_ready = λ given. rw (same, left) refl; same = stays same; unwritten = refl };
        holds = refl;
      }

  -- where no image is held
  module _ (text : List ℕ) (before after : frames.Shown) where
    abbrev lending : Lent
    lending = record { text = text; frame = before }

    pub shown_where : (held : List Image) (f : PendingFrame) (stamps : List ℕ) (c d : C) → is_empty held ≡ true → Some f ≡ slice_get s.frames.pending 0 → length stamps ≡ length f.images → Leads does c (peek_calls f.images stamps) d → after ≡ shown_of f stamps
        → DecidesAlong does (beside s held c lending) (beside (with_frame_taken s) f.images d (record { text = text; frame = after })) who ask.NextFrame (Ok (record { code = Success; gives = Shown; place = 0 }))
    shown_where [] f stamps c d none first each leads is = shown_decides f stamps c d text before after (sym first) each leads is
    shown_where (i ∷ held) f stamps c d none first each leads is = absurd (true≢false (sym none))

    pub end_where : (held : List Image) (c : C) → is_empty held ≡ true → None ≡ slice_get s.frames.pending 0 → list_all (λ has_left. has_left) s.left ≡ true
        → DecidesAlong does (beside s held c lending) (beside (with_frame_taken s) held c lending) who ask.NextFrame (Ok (record { code = Success; gives = Ended; place = 0 }))
    end_where [] c none first left = end_decides c text before (sym first) left
    end_where (i ∷ held) c none first left = absurd (true≢false (sym none))

    pub wait_where : (held : List Image) (c : C) → is_empty held ≡ true → None ≡ slice_get s.frames.pending 0 → list_all (λ has_left. has_left) s.left ≡ false
        → DecidesAlong does (beside s held c lending) (beside (with_frame_taken s) held c lending) who ask.NextFrame (Err NotReady)
    wait_where [] c none first left = frame_waits c text before (sym first) left
    wait_where (i ∷ held) c none first left = absurd (true≢false (sym none))

  -- ---- an image is given back

  -- none is held
  pub none_to_give : (c : C) (lent : Lent) → DecidesAlong does (beside s [] c lent) (beside s [] c lent) who ask.ImageDone (Err (Refused CallOrderInvalid))
  none_to_give c lent = record {
    reads = told_nothing [];
    own = refl;
    each = refl;
    cells = refl;
    decides = record { ready = refl; handle = refl; memory = λ short. absurd (true≢false (sym short)); keeps = refl; code = refl; gives = refl; writes = refl };
    holds = refl;
  }

  pub given_back : (i : Image) (held : List Image) (c d : C) (lent : Lent) → Leads does c (return_calls (i ∷ [])) d
      → DecidesAlong does (beside s (i ∷ held) c lent) (beside s held d lent) who ask.ImageDone (Ok (record { code = Success; gives = Nothing; place = 0 }))
  given_back i held c d lent leads = record {
    reads = told_nothing (i ∷ held);
    own = refl;
    each = refl;
    cells = leads;
    decides = record { ready = refl; handle = refl; memory = λ short. absurd (true≢false (sym short)); keeps = refl; code = refl; gives = refl; writes = refl };
    holds = refl;
  }

  -- by the first image that is held
  pub none_first : (held : List Image) (c : C) (lent : Lent) → None ≡ slice_get held 0 → DecidesAlong does (beside s held c lent) (beside s (drop 1 held) c lent) who ask.ImageDone (Err (Refused CallOrderInvalid))
  none_first [] c lent none = none_to_give c lent
  none_first (i ∷ held) c lent none = cc

  pub some_first : (held : List Image) (i : Image) (c d : C) (lent : Lent) → Some i ≡ slice_get held 0 → does c (give_back i) d
      → DecidesAlong does (beside s held c lent) (beside s (drop 1 held) d lent) who ask.ImageDone (Ok (record { code = Success; gives = Nothing; place = 0 }))
  some_first [] i c d lent first gave = cc
  some_first (j ∷ held) i c d lent first gave = let is : i ≡ j = cc in given_back j held c d lent (d, subst (λ (k : Image). does c (give_back k) d) is gave, refl)

pub may_give : {C : Type 0} (may : C → CellCall → Type 0) (does : C → CellCall → C → Type 0) (held : List Image) (i : Image) (c : C) → Some i ≡ slice_get held 0 → MayCall may does c (return_calls (take 1 held)) → may c (give_back i)
may_give may does [] i c first may_call = cc
may_give may does (j ∷ held) i c first may_call = let is : i ≡ j = cc in subst (λ (k : Image). may c (give_back k)) (sym is) may_call.0

-- the images of the first frame
pub images_first : (fs : List PendingFrame) (f : PendingFrame) → Some f ≡ slice_get fs 0 → first_images fs ≡ f.images
images_first [] f first = cc
images_first (g ∷ fs) f first = let is : f ≡ g = cc in rw is refl

-- ---- the conditions of their calls on cells

module _ {C : Type 0} (may : C → CellCall → Type 0) (does : C → CellCall → C → Type 0) (core : WholeCore) (c : C) (who : Actor) where
  pub may_next : MayApply may does core c who ask.NextFrame → core.held ≡ [] → (stamps : List ℕ) → MayCall may does c (peek_calls (first_images core.kept.frames.pending) stamps)
  may_next apply none stamps =
      let calls = apply (record { unused = true; stamps = stamps; held = [] }) 0 false (sym none) in
      rw (append-nil (peek_calls (first_images core.kept.frames.pending) stamps)) at calls

  pub may_return : MayApply may does core c who ask.ImageDone → MayCall may does c (return_calls (take 1 core.held))
  may_return apply = by core.held refl
    where
      by : (held : List Image) → held ≡ core.held → MayCall may does c (return_calls (take 1 held))
      by [] is = tt
      by (i ∷ held) is = apply (record { unused = true; stamps = []; held = i ∷ held }) 0 false is

-- a call that is none of these
pub aside_where : (asked : Call) → (asked ≡ ask.NextFrame → ⊥) → (asked ≡ ask.ImageDone → ⊥) → IsAside asked
aside_where ask.NextFrame not_next not_done = absurd (not_next refl)
aside_where ask.ImageDone not_next not_done = absurd (not_done refl)
aside_where ask.Leave not_next not_done = tt
aside_where _ not_next not_done = tt
