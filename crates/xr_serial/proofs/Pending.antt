-- How many calls of the compositor the pending frames bring more behind a call.
use Rattle.std.proofs.Common.{◌≡◌, ◌+◌, ◌*◌, ◌≤◌, ℕ, ℤ, suc, Bool, true, false, List, [], ◌∷◌, ◌++◌, length, map, Option, Some, None, refl, sym, ap, subst, arith, length-append}
use Rattle.std.specs.Prelude.{if◌then◌else◌}
use Rattle.std.specs.List.{list_any}
use Rattle.xr_types.specs.declared.device.DeviceEvent.{DeviceEvent}
use Rattle.xr_types.specs.declared.device.DeviceEvent.TheVariants as event
use Rattle.xr_types.specs.declared.scenario.Op.{Op}
use Rattle.xr_types.specs.declared.scenario.Op.TheVariants as op
use Rattle.xr_types.specs.Frames.{PendingFrame}
use Rattle.xr_model.specs.machine.Refusals.{Refusal}
use Rattle.xr_model.specs.machine.Calls.{Entry}
use Rattle.xr_types.specs.declared.calls.Call.{Call}
use Rattle.xr_types.specs.declared.calls.Call.TheVariants as ask
use Rattle.xr_model.specs.machine.SessionRule.{Loss}
use Rattle.xr_model.specs.machine.Rule.{Rule, Effect, refusal, told_on, unless_refused}
use Rattle.xr_types.specs.declared.frames.FrameLayer.{FrameLayer}
use Rattle.xr_types.specs.declared.frames.FrameLayer.TheVariants as layer
use Rattle.xr_types.specs.declared.frames.Image.{Image}
use Rattle.xr_types.specs.declared.frames.Layer.{Layer}
use Rattle.xr_types.specs.declared.scenario.LayerUse.{LayerUse}
use Rattle.xr_model.specs.machine.Images.{is_image, with_image, with_images, images_of_layer, with_images_of}
use Rattle.xr_model.specs.machine.Layers.{Look, layers_of}
use Rattle.xr_model.specs.scenario.ScriptForm.{IsInRange}
use Rattle.xr_model.specs.runs.NameValues.{layer_for}
use Rattle.xr_types.specs.CallKinds.{with_start}
use Rattle.xr_model.specs.runs.Scripts.{request_for}
use Rattle.xr_model.specs.machine.State.{CoreState, State}
use Rattle.xr_model.specs.machine.Rules.Device.{behind_event}
use Rattle.xr_model.specs.machine.Rules.Frames.{look_of, new_frame}
use Rattle.xr_model.specs.machine.Machine.{rule, step, reads_of}
use Rattle.xr_serial.specs.inside.RunInvariant.{frames_work}

-- an end brings one frame at most, with two images a layer at most, and other calls none
abbrev pub most_brought : Call → ℕ
most_brought (ask.EndFrame session time blend layers) = 1 + 2 * length layers
most_brought _ = 0

abbrev Brings : CoreState → ℕ → Effect → Type 0
Brings s n e = frames_work e.state.frames.pending ≤ frames_work s.frames.pending + n

as_many : (k n : ℕ) → k ≤ k + n
as_many k n = omega arith

refused_brings : (s : CoreState) (n : ℕ) (found : Option Refusal) (e : Effect) → Brings s n e → Brings s n (unless_refused s found e)
refused_brings s n None e h = h
refused_brings s n (Some r) e h = as_many (frames_work s.frames.pending) n

told_brings : (s : CoreState) (n : ℕ) (on : Option Loss) (e : Effect) → Brings s n e → Brings s n (told_on on e)
told_brings s n None e h = h
told_brings s n (Some loss) e h = h

events_bring : (s : CoreState) (what : DeviceEvent) → frames_work (behind_event s what).frames.pending ≤ frames_work s.frames.pending + 0
events_bring s (event.Clock time) = as_many (frames_work s.frames.pending) 0
events_bring s _ = as_many (frames_work s.frames.pending) 0

-- ---- the images of a frame

image_more : (images : List Image) (i : Image) → length (with_image images i) ≤ length images + 1
image_more images i = by (list_any (is_image i) images)
  where
    by : (b : Bool) → length (if b then images else images ++ i ∷ []) ≤ length images + 1
    by true = omega arith
    by false = let all = length-append images (i ∷ []) in omega (arith, all)

images_more : (images more : List Image) → length (with_images images more) ≤ length images + length more
images_more images [] = omega arith
images_more images (i ∷ more) = let one = image_more images i in let rest = images_more (with_image images i) more in omega (arith, one, rest)

two_of_layer : (l : FrameLayer) → length (images_of_layer l) ≤ 2
two_of_layer (layer.Projection left right) = omega arith
two_of_layer (layer.Quad i) = omega arith

layers_more : (images : List Image) (ls : List FrameLayer) → length (with_images_of images ls) ≤ length images + 2 * length ls
layers_more images [] = omega arith
layers_more images (l ∷ ls) =
    let two = two_of_layer l in
    let one = images_more images (images_of_layer l) in
    let rest = layers_more (with_images images (images_of_layer l)) ls in
    omega (arith, two, one, rest)

as_many_layers : (look : Look) (layers : List Layer) → length (layers_of look layers) ≡ length layers
as_many_layers look [] = refl
as_many_layers look (l ∷ ls) = ap suc (as_many_layers look ls)

frame_more : (fs : List PendingFrame) (f : PendingFrame) → frames_work (fs ++ f ∷ []) ≡ frames_work fs + (1 + length f.images)
frame_more [] f = omega arith
frame_more (x ∷ fs) f = let more = frame_more fs f in omega (arith, more)

one_brought : (s : CoreState) (session : ℕ) (time : ℤ) (layers : List Layer) → frames_work (s.frames.pending ++ new_frame s session time layers ∷ []) ≤ frames_work s.frames.pending + (1 + 2 * length layers)
one_brought s session time layers =
    let all = frame_more s.frames.pending (new_frame s session time layers) in
    let few = layers_more [] (layers_of (look_of s session) layers) in
    let many = as_many_layers (look_of s session) layers in
    omega (arith, all, few, many)

-- ---- calls

-- the compositor's call is apart
abbrev pub IsBringing : Call → Type 0
IsBringing ask.NextFrame = ⊥
IsBringing _ = Unit {0}

pub brings : (s : State) (e : Entry) → IsBringing e.call → frames_work (step s e).0.core.frames.pending ≤ frames_work s.core.frames.pending + most_brought e.call
brings s e is = refused_brings s.core (most_brought e.call) (refusal e.short (rule_for e.call)) (told_on (rule_for e.call).on (rule_for e.call).effect) (told_brings s.core (most_brought e.call) (rule_for e.call).on (rule_for e.call).effect (by e.call is))
  where
    rule_for : Call → Rule
    rule_for r = rule s.core (reads_of s r) (record e { call = r })

    by : (r : Call) → IsBringing r → Brings s.core (most_brought r) (rule_for r).effect
    by ask.NextFrame is = absurd is
    by (ask.Device what) is = events_bring s.core what
    by (ask.EndFrame session time blend layers) is = one_brought s.core session time layers
    by _ is = as_many (frames_work s.core.frames.pending) 0

-- ---- the call of an op

pub op_is_bringing : (clock : ℤ) (values : List ℕ) (o : Op) → IsBringing (with_start clock (request_for values o))
op_is_bringing clock values (op.CreateInstance major minor) = tt
op_is_bringing clock values _ = tt

as_many_uses : (values : List ℕ) (layers : List LayerUse) → length (map (layer_for values) layers) ≡ length layers
as_many_uses values [] = refl
as_many_uses values (l ∷ ls) = ap suc (as_many_uses values ls)

few_brought : (clock : ℤ) (values : List ℕ) (o : Op) → IsInRange o → most_brought (with_start clock (request_for values o)) ≤ 65
few_brought clock values (op.EndFrame session time blend layers) r =
    let few : length layers ≤ 32 = r.2.0 in
    let many = as_many_uses values layers in
    omega (arith, few, many)
few_brought clock values _ r = omega arith

pub op_brings : (s : State) (e : Entry) (clock : ℤ) (values : List ℕ) (o : Op) → e.call ≡ with_start clock (request_for values o) → IsInRange o
    → frames_work (step s e).0.core.frames.pending ≤ frames_work s.core.frames.pending + 65
op_brings s e clock values o is r =
    let more = brings s e (subst IsBringing (sym is) (op_is_bringing clock values o)) in
    let few : most_brought e.call ≤ 65 = subst (λ (q : Call). most_brought q ≤ 65) (sym is) (few_brought clock values o r) in
    omega (arith, more, few)
