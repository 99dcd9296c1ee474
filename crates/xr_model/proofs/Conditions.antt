-- What refuses a call, condition by condition.
use Rattle.std.proofs.Common.{◌≡◌, ◌+◌, ◌==◌, ◌&&◌, ◌||◌, ℕ, ℤ, Bool, true, false, not, [], ◌∷◌, length, pos, refl, arith}
use Rattle.std.specs.Prelude.{◌+ℤ◌, ◌-ℤ◌, int_le, int_lt, nat_le, nat_lt}
use Rattle.std.proofs.lemmas.Bool.Decides.{nat_tests}
use Rattle.xr_types.specs.declared.frames.Blend.{Blend}
use Rattle.xr_types.specs.declared.frames.Blend.TheVariants as blend
use Rattle.xr_types.specs.declared.frames.TheConstants.{MOST_LAYERS}
use Rattle.xr_types.specs.declared.limits.TheConstants.{MOST_SUGGESTED}
use Rattle.xr_types.specs.declared.session.SessionState.{SessionState}
use Rattle.xr_types.specs.declared.session.SessionState.TheVariants.{Idle, Ready, Synchronized, Visible, Focused, Stopping, LossPending, Exiting}
use Rattle.xr_types.specs.declared.session.ViewConfig.{ViewConfig}
use Rattle.xr_types.specs.declared.session.ViewConfig.TheVariants.{Mono, Stereo}
use Rattle.xr_types.specs.declared.spaces.RefKind.{RefKind}
use Rattle.xr_types.specs.declared.spaces.RefKind.TheVariants as kind
use Rattle.xr_model.specs.machine.Chains.{is_format, is_size}
use Rattle.xr_model.specs.machine.Layers.{is_opaque}
use Rattle.xr_model.specs.machine.SessionLife.{is_mono, is_state}
use Rattle.xr_model.specs.machine.Spaces.{is_stage}
use Rattle.xr_model.specs.laws.ConditionLaws.{is_outside, SwapchainsAreOfTheseForms, is_not_ready, is_not_stopping, is_unsupported, SessionsBeginWhereReady, is_missing, ReferenceSpacesWantAStage, is_mixed, FramesAreOfTheseForms, PartsHaveTheirPixels, PartsWithPixelsAreTaken, SuggestionsAreSoMany}
use Rattle.xr_model.proofs.Rows.{both_of}

-- two conditions one after the other
two_are : (a b c d : Bool) → a ≡ c → b ≡ d → a ∷ b ∷ [] ≡ c ∷ d ∷ []
two_are a b c d first second = cc

three_are : (a b c d e f : Bool) → a ≡ d → b ≡ e → c ≡ f → a ∷ b ∷ c ∷ [] ≡ d ∷ e ∷ f ∷ []
three_are a b c d e f first second third = cc

format_is : (n : ℕ) → not (is_format n) ≡ is_outside 1 3 n
format_is n = grind (arith, nat_tests)

size_is : (n : ℕ) → is_size n ≡ not (is_outside 1 8192 n)
size_is n = grind (arith, nat_tests)

sizes_are : (a b : ℕ) → not (is_size a && is_size b) ≡ is_outside 1 8192 a || is_outside 1 8192 b
sizes_are a b = rw (size_is a, size_is b) (by (is_outside 1 8192 a) (is_outside 1 8192 b))
  where
    by : (x y : Bool) → not (not x && not y) ≡ x || y
    by true y = refl
    by false true = refl
    by false false = refl

pub swapchains_are_of_these_forms : SwapchainsAreOfTheseForms
swapchains_are_of_these_forms format width height = two_are _ _ _ _ (format_is format) (sizes_are width height)

ready_is : (state : SessionState) → not (is_state state Ready) ≡ is_not_ready state
ready_is Idle = refl
ready_is Ready = refl
ready_is Synchronized = refl
ready_is Visible = refl
ready_is Focused = refl
ready_is Stopping = refl
ready_is LossPending = refl
ready_is Exiting = refl

stopping_is : (state : SessionState) → not (is_state state Stopping) ≡ is_not_stopping state
stopping_is Idle = refl
stopping_is Ready = refl
stopping_is Synchronized = refl
stopping_is Visible = refl
stopping_is Focused = refl
stopping_is Stopping = refl
stopping_is LossPending = refl
stopping_is Exiting = refl

mono_is : (view : ViewConfig) → is_mono view ≡ is_unsupported view
mono_is Mono = refl
mono_is Stereo = refl

pub sessions_begin_where_ready : SessionsBeginWhereReady
sessions_begin_where_ready life view = record {
  begin = three_are life.running _ _ life.running _ _ refl (ready_is life.state) (mono_is view);
  end = two_are (not life.running) _ (not life.running) _ refl (stopping_is life.state);
}

missing_is : (what : RefKind) (stage : Bool) → is_stage what && not stage ≡ is_missing what stage
missing_is kind.Stage true = refl
missing_is kind.Stage false = refl
missing_is kind.View stage = refl
missing_is kind.Local stage = refl

none_is : (n : ℕ) → (n == 0) ≡ nat_lt n 1
none_is n = grind (arith, nat_tests)

pub reference_spaces_want_a_stage : ReferenceSpacesWantAStage
reference_spaces_want_a_stage what offset stage = two_are _ _ _ _ (missing_is what stage) (none_is offset)

time_is : (time : ℤ) → int_le time (pos 0) ≡ not (int_lt (pos 0) time)
time_is time = grind arith

mixed_is : (mode : Blend) → not (is_opaque mode) ≡ is_mixed mode
mixed_is blend.Opaque = refl
mixed_is _ = refl

more_is : (most n : ℕ) → nat_lt most n ≡ nat_le (most + 1) n
more_is most n = grind (arith, nat_tests)

pub frames_are_of_these_forms : FramesAreOfTheseForms
frames_are_of_these_forms time mode layers = three_are _ _ _ _ _ _ (time_is time) (mixed_is mode) (more_is MOST_LAYERS (length layers))

-- ---- parts of an image

within : (first w : ℤ) (size : ℤ) → int_le (pos 0) first ≡ true → int_le (first +ℤ w) size ≡ true → (k : ℤ) → int_le (pos 0) k ≡ true → int_lt k w ≡ true
    → (int_le (pos 0) (first +ℤ k) ≡ true) × (int_lt (first +ℤ k) size ≡ true)
within first w size from to k some less = (grind (arith, from, some), grind (arith, to, less))

pub parts_have_their_pixels : PartsHaveTheirPixels
parts_have_their_pixels info part is =
    let one = both_of (int_le (pos 0) part.x) _ is in
    let two = both_of (int_le (pos 0) part.y) _ one.1 in
    let three = both_of (int_le (pos 1) part.w) _ two.1 in
    let four = both_of (int_le (pos 1) part.h) _ three.1 in
    let five = both_of (int_le (part.x +ℤ part.w) (pos info.width)) _ four.1 in
    record {
      some = rw (three.0, four.0) refl;
      across = within part.x part.w (pos info.width) one.0 five.0;
      down = within part.y part.h (pos info.height) two.0 five.1;
    }

begins : (first w size : ℤ) → int_le (pos 1) w ≡ true → (int_le (pos 0) (first +ℤ pos 0) ≡ true) → int_le (pos 0) first ≡ true
begins first w size some from = grind (arith, from)

ends : (first w size : ℤ) → int_lt (first +ℤ (w -ℤ pos 1)) size ≡ true → int_le (first +ℤ w) size ≡ true
ends first w size to = grind (arith, to)

has_first : (w : ℤ) → int_le (pos 1) w ≡ true → int_lt (pos 0) w ≡ true
has_first w some = grind (arith, some)

has_last : (w : ℤ) → int_le (pos 1) w ≡ true → (int_le (pos 0) (w -ℤ pos 1) ≡ true) × (int_lt (w -ℤ pos 1) w ≡ true)
has_last w some = (grind (arith, some), grind arith)

pub parts_with_pixels_are_taken : PartsWithPixelsAreTaken
parts_with_pixels_are_taken info part has =
    let some = both_of (int_le (pos 1) part.w) (int_le (pos 1) part.h) has.some in
    let across = has_last part.w some.0 in
    let down = has_last part.h some.1 in
    let left = begins part.x part.w (pos info.width) some.0 (has.across (pos 0) refl (has_first part.w some.0)).0 in
    let top = begins part.y part.h (pos info.height) some.1 (has.down (pos 0) refl (has_first part.h some.1)).0 in
    let right = ends part.x part.w (pos info.width) (has.across (part.w -ℤ pos 1) across.0 across.1).1 in
    let bottom = ends part.y part.h (pos info.height) (has.down (part.h -ℤ pos 1) down.0 down.1).1 in
    rw (left, top, some.0, some.1, right, bottom) refl

-- ---- suggestions

pub suggestions_are_so_many : SuggestionsAreSoMany
suggestions_are_so_many list = two_are _ _ _ _ (none_is (length list)) (over MOST_SUGGESTED (length list))
  where
    over : (most n : ℕ) → not (nat_le n most) ≡ nat_lt most n
    over most n = grind (arith, nat_tests)
