-- What is asked of the places of an op may be weakened.
use Rattle.std.proofs.Common.{ℕ, Bool, true, false, nat_le, List, [], ◌∷◌}
use Rattle.xr_types.specs.declared.scenario.ActiveSetUse.{ActiveSetUse}
use Rattle.xr_types.specs.declared.scenario.AtomUse.{AtomUse}
use Rattle.xr_types.specs.declared.scenario.BindingUse.{BindingUse}
use Rattle.xr_types.specs.declared.scenario.HandleUse.{HandleUse}
use Rattle.xr_types.specs.declared.scenario.LayerUse.{LayerUse}
use Rattle.xr_types.specs.declared.scenario.LayerUse.TheVariants.{Projection, Quad}
use Rattle.xr_types.specs.declared.scenario.Op.{Op}
use Rattle.xr_types.specs.declared.scenario.Op.TheVariants as op
use Rattle.xr_types.specs.declared.scenario.Sort.{Sort}
use Rattle.xr_types.specs.declared.scenario.SubImageUse.{SubImageUse}
use Rattle.xr_types.specs.declared.scenario.Use.{Use}
use Rattle.xr_types.specs.declared.scenario.Use.TheVariants.{Number, Of}
use Rattle.xr_model.specs.scenario.InRange.{IsUse, IsValueBy, IsHandlePart, IsAtomPart, IsBinding, IsActiveSet, IsSubImage, IsLayer, Each, AreAtMost, IsFormed}

pub each-weaker : {T : Type 0} (P Q : T → Type 0) → ((x : T) → P x → Q x) → (xs : List T) → Each P xs → Each Q xs
each-weaker P Q f [] h = tt
each-weaker P Q f (x ∷ xs) h = (f x h.0, each-weaker P Q f xs h.1)

list-weaker : {T : Type 0} (n : ℕ) (P Q : T → Type 0) → ((x : T) → P x → Q x) → (xs : List T) → AreAtMost n P xs → AreAtMost n Q xs
list-weaker n P Q f xs h = (h.0, each-weaker P Q f xs h.1)

module _ (P Q : Sort → ℕ → Type 0) (f : (sort : Sort) (place : ℕ) → P sort place → Q sort place) where
  use-weaker : (sort : Sort) (least greatest : _) (u : Use) → IsUse P sort least greatest u → IsUse Q sort least greatest u
  use-weaker sort least greatest (Number n) h = h
  use-weaker sort least greatest (Of place) h = f sort place h

  value-weaker : (b : Bool) (u : Use) → IsValueBy b P u → IsValueBy b Q u
  value-weaker true u h = use-weaker _ _ _ u h
  value-weaker false u h = use-weaker _ _ _ u h

  handle-weaker : (u : HandleUse) → IsHandlePart P u → IsHandlePart Q u
  handle-weaker u h = use-weaker _ _ _ u.handle h

  atom-weaker : (u : AtomUse) → IsAtomPart P u → IsAtomPart Q u
  atom-weaker u h = use-weaker _ _ _ u.atom h

  binding-weaker : (u : BindingUse) → IsBinding P u → IsBinding Q u
  binding-weaker u h = (use-weaker _ _ _ u.action h.0, use-weaker _ _ _ u.path h.1)

  active_set-weaker : (u : ActiveSetUse) → IsActiveSet P u → IsActiveSet Q u
  active_set-weaker u h = (use-weaker _ _ _ u.set h.0, use-weaker _ _ _ u.sub h.1)

  sub_image-weaker : (u : SubImageUse) → IsSubImage P u → IsSubImage Q u
  sub_image-weaker u h = (use-weaker _ _ _ u.chain h.0, h.1, h.2, h.3, h.4)

  layer-weaker : (u : LayerUse) → IsLayer P u → IsLayer Q u
  layer-weaker (Projection space views) h = (use-weaker _ _ _ space h.0, list-weaker 4 (IsSubImage P) (IsSubImage Q) sub_image-weaker views h.1)
  layer-weaker (Quad space image pose) h = (use-weaker _ _ _ space h.0, sub_image-weaker image h.1, h.2)

  pub formed-weaker : (o : Op) → IsFormed P o → IsFormed Q o
  -- rows: formed-weaker
  formed-weaker (op.CreateInstance major minor) h = (h.0, h.1)
  formed-weaker (op.DestroyInstance instance) h = use-weaker _ _ _ instance h
  formed-weaker (op.PollEvent instance) h = use-weaker _ _ _ instance h
  formed-weaker (op.GetSystem instance form) h = use-weaker _ _ _ instance h
  formed-weaker (op.StringToPath instance text) h = (use-weaker _ _ _ instance h.0, h.1)
  formed-weaker (op.PathToString instance path capacity) h = (use-weaker _ _ _ instance h.0, use-weaker _ _ _ path h.1, h.2)
  formed-weaker (op.CreateSession instance system) h = (use-weaker _ _ _ instance h.0, use-weaker _ _ _ system h.1)
  formed-weaker (op.DestroySession session) h = use-weaker _ _ _ session h
  formed-weaker (op.EndSession session) h = use-weaker _ _ _ session h
  formed-weaker (op.RequestExitSession session) h = use-weaker _ _ _ session h
  formed-weaker (op.BeginFrame session) h = use-weaker _ _ _ session h
  formed-weaker (op.BeginSession session view) h = use-weaker _ _ _ session h
  formed-weaker (op.CreateReferenceSpace session kind offset) h = (use-weaker _ _ _ session h.0, h.1)
  formed-weaker (op.CreateActionSpace session action sub offset) h = (use-weaker _ _ _ session h.0, use-weaker _ _ _ action h.1, use-weaker _ _ _ sub h.2, h.3)
  formed-weaker (op.DestroySpace space) h = use-weaker _ _ _ space h
  formed-weaker (op.LocateSpace space base time) h = (use-weaker _ _ _ space h.0, use-weaker _ _ _ base h.1, use-weaker _ _ _ time h.2)
  formed-weaker (op.CreateActionSet instance called localized priority) h = (use-weaker _ _ _ instance h.0, h.1, h.2, h.3)
  formed-weaker (op.DestroyActionSet set) h = use-weaker _ _ _ set h
  formed-weaker (op.CreateAction set called kind subactions localized) h = (use-weaker _ _ _ set h.0, h.1, list-weaker 8 (IsAtomPart P) (IsAtomPart Q) atom-weaker subactions h.2, h.3)
  formed-weaker (op.DestroyAction action) h = use-weaker _ _ _ action h
  formed-weaker (op.SuggestBindings instance profile bindings) h = (use-weaker _ _ _ instance h.0, use-weaker _ _ _ profile h.1, list-weaker 600 (IsBinding P) (IsBinding Q) binding-weaker bindings h.2)
  formed-weaker (op.AttachSets session sets) h = (use-weaker _ _ _ session h.0, list-weaker 32 (IsHandlePart P) (IsHandlePart Q) handle-weaker sets h.1)
  formed-weaker (op.SyncActions session active) h = (use-weaker _ _ _ session h.0, list-weaker 128 (IsActiveSet P) (IsActiveSet Q) active_set-weaker active h.1)
  formed-weaker (op.GetBoolean session action sub) h = (use-weaker _ _ _ session h.0, use-weaker _ _ _ action h.1, use-weaker _ _ _ sub h.2)
  formed-weaker (op.GetFloat session action sub) h = (use-weaker _ _ _ session h.0, use-weaker _ _ _ action h.1, use-weaker _ _ _ sub h.2)
  formed-weaker (op.GetVector session action sub) h = (use-weaker _ _ _ session h.0, use-weaker _ _ _ action h.1, use-weaker _ _ _ sub h.2)
  formed-weaker (op.GetPoseActive session action sub) h = (use-weaker _ _ _ session h.0, use-weaker _ _ _ action h.1, use-weaker _ _ _ sub h.2)
  formed-weaker (op.CreateSwapchain session format width height fixed) h = (use-weaker _ _ _ session h.0, h.1, h.2, h.3)
  formed-weaker (op.DestroySwapchain chain) h = use-weaker _ _ _ chain h
  formed-weaker (op.AcquireImage chain) h = use-weaker _ _ _ chain h
  formed-weaker (op.ReleaseImage chain) h = use-weaker _ _ _ chain h
  formed-weaker (op.WaitImage chain timeout) h = (use-weaker _ _ _ chain h.0, h.1)
  formed-weaker (op.Paint chain stamp) h = (use-weaker _ _ _ chain h.0, h.1)
  formed-weaker (op.WaitFrame session) h = use-weaker _ _ _ session h
  formed-weaker (op.EndFrame session time blend layers) h = (use-weaker _ _ _ session h.0, use-weaker _ _ _ time h.1, list-weaker 32 (IsLayer P) (IsLayer Q) layer-weaker layers h.2)
  formed-weaker (op.Mark mark value) h = (h.0, value-weaker (nat_le mark 32) value h.1)
  formed-weaker (op.Await mark) h = h
  -- rows: end
