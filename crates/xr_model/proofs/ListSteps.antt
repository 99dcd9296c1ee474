-- What an entry does to the handles and to the lists of what is kept by them: the one case split for laws on these.
use Rattle.std.proofs.Common.{◌≡◌, ℕ, ℤ, not, Bool, true, false, List, [], ◌∷◌, ◌++◌, Option, Some, None, refl}
use Rattle.std.specs.Prelude.{◌==◌, is_none, if◌then◌else◌}
use Rattle.xr_types.specs.declared.code.Code.TheVariants.{HandleInvalid, CallOrderInvalid, ActionTypeMismatch, PathUnsupported, PoseInvalid}
use Rattle.xr_types.specs.declared.device.DeviceEvent.{DeviceEvent}
use Rattle.xr_types.specs.declared.device.DeviceEvent.TheVariants as event
use Rattle.xr_types.specs.declared.handles.Kind.{Kind}
use Rattle.xr_types.specs.declared.handles.Kind.TheVariants as kind
use Rattle.xr_types.specs.declared.input.Binding.{Binding}
use Rattle.xr_types.specs.declared.input.Bound.{Bound}
use Rattle.xr_types.specs.declared.input.Profile.{Profile}
use Rattle.xr_types.specs.declared.spaces.Origin.{Origin}
use Rattle.xr_types.specs.declared.spaces.Root.{Root}
use Rattle.xr_model.specs.machine.Calls.{Entry}
use Rattle.xr_types.specs.declared.calls.Call.{Call}
use Rattle.xr_types.specs.declared.calls.Call.TheVariants as ask
use Rattle.xr_model.specs.machine.Handles.{Handles, is_live, has_room, no_handle, no_room, with_handle, without, without_alone, destroyed_by}
use Rattle.xr_model.specs.machine.Bindings.{without_suggestions, number_checks}
use Rattle.xr_model.specs.machine.Refusals.{Refusal, when, first_of}
use Rattle.xr_model.specs.machine.SessionLife.{is_lost}
use Rattle.xr_model.specs.machine.Sets.{Sets, Action, with_set, with_action, without_inputs, with_sealed, set_checks, action_checks, action_label_checks, no_users}
use Rattle.xr_model.specs.machine.Destroyed.{spaces_left}
use Rattle.xr_model.specs.machine.Spaces.{Spaces, with_space, without_space, sampled, reference_checks}
use Rattle.xr_model.specs.machine.State.{CoreState, CellReads}
use Rattle.xr_model.specs.machine.Rule.{Effect, refusals, refusal, or_short, told_on, unless_refused}
use Rattle.xr_model.specs.machine.Rules.Bindings.{profile_at, profile_checks, bindings_checks, suggested}
use Rattle.xr_model.specs.machine.Rules.Device.{behind_event}
use Rattle.xr_model.specs.machine.Rules.Session.{life_of}
use Rattle.xr_model.specs.machine.Rules.Sets.{sub_checks, new_action}
use Rattle.xr_model.specs.machine.Rules.Sync.{is_of_poses, column_named}
use Rattle.xr_model.specs.machine.Machine.{core_step, rule}
use Rattle.xr_model.specs.machine.SessionRule.{loss_of}
use Rattle.xr_model.proofs.Successes.{success_succeeds}
use Rattle.xr_model.proofs.HandleSteps.{gives_handle, succeeds, first_fails}

-- ---- a list of refusals none of which holds

pub none_front : (xs ys : List Refusal) → first_of (xs ++ ys) ≡ None → first_of xs ≡ None
none_front [] ys none = refl
none_front (x ∷ xs) ys none = by x.holds none (none_front xs ys)
  where
    by : (b : Bool) → (if b then Some x else first_of (xs ++ ys)) ≡ None → (first_of (xs ++ ys) ≡ None → first_of xs ≡ None) → (if b then Some x else first_of xs) ≡ None
    by true none more = cc
    by false none more = more none

pub none_behind : (xs ys : List Refusal) → first_of (xs ++ ys) ≡ None → first_of ys ≡ None
none_behind [] ys none = none
none_behind (x ∷ xs) ys none = by x.holds none (none_behind xs ys)
  where
    by : (b : Bool) → (if b then Some x else first_of (xs ++ ys)) ≡ None → (first_of (xs ++ ys) ≡ None → first_of ys ≡ None) → first_of ys ≡ None
    by true none more = cc
    by false none more = more none

has_place : (h : Handles) (kind : Kind) → first_of (no_room h kind ∷ []) ≡ None → has_room h kind ≡ true
has_place h kind none = by (has_room h kind) none
  where
    by : (b : Bool) → (if not b then Some (no_room h kind) else None) ≡ None → b ≡ true
    by true none = refl
    by false none = cc

unshort : (short : Bool) (o : Option Refusal) → or_short short o ≡ None → o ≡ None
unshort false o none = none
unshort true None none = refl
unshort true (Some r) none = cc

-- ---- what an entry may do

-- a property that the handles and the lists have before an entry, and that each thing that it may do keeps
pub record Keeps (P : Handles → Spaces → Sets → List (List Bound) → Type 0) (s : CoreState) (reads : CellReads) (e : Entry) : Type 0 where
  pub same : P s.handles s.room s.inputs s.suggestions
  pub instance : gives_handle s reads e ≡ true → P (with_handle s.handles kind.Instance 0 e.given) s.room s.inputs s.suggestions
  pub session : gives_handle s reads e ≡ true → (instance : ℕ) → P (with_handle s.handles kind.Session instance e.given) s.room s.inputs s.suggestions
  pub set : gives_handle s reads e ≡ true → has_room s.handles kind.ActionSet ≡ true → (instance : ℕ) (name localized : List ℕ) (priority : ℕ)
      → P (with_handle s.handles kind.ActionSet instance e.given) s.room (with_set s.inputs e.given name localized priority) s.suggestions
  pub action : gives_handle s reads e ≡ true → has_room s.handles kind.Action ≡ true → (x : Action) → x.handle ≡ e.given → is_live s.handles kind.ActionSet x.set ≡ true → first_of (action_checks s.inputs x.set x.name) ≡ None
      → P (with_handle s.handles kind.Action x.set e.given) s.room (with_action s.inputs x) s.suggestions
  pub space : gives_handle s reads e ≡ true → has_room s.handles kind.Space ≡ true → (session : ℕ) (root : Root) (offset : ℕ)
      → P (with_handle s.handles kind.Space session e.given) (with_space s.room e.given root offset) s.inputs s.suggestions
  pub chain : gives_handle s reads e ≡ true → (session : ℕ) → P (with_handle s.handles kind.Swapchain session e.given) s.room s.inputs s.suggestions
  pub gone : (handle : ℕ) → P (without s.handles handle) (spaces_left s.handles handle s.room) (without_inputs s.inputs (destroyed_by s.handles handle)) (without_suggestions s.suggestions (destroyed_by s.handles handle))
  pub alone : (space : ℕ) → P (without_alone s.handles kind.Space space) (without_space s.room space) s.inputs s.suggestions
  pub chain_alone : (chain : ℕ) → P (without_alone s.handles kind.Swapchain chain) s.room s.inputs s.suggestions
  pub suggest : (o : Option Profile) (list : List Binding) → first_of (bindings_checks s o list) ≡ None → P s.handles s.room s.inputs (suggested s o list)
  pub attach : (handles : List ℕ) → P s.handles s.room (with_sealed s.inputs handles) s.suggestions
  pub sample : (what : Origin) (time : ℤ) (pose : ℕ) → P s.handles (sampled s.room what time pose) s.inputs s.suggestions

abbrev pub Has : (Handles → Spaces → Sets → List (List Bound) → Type 0) → CoreState → Type 0
Has P s = P s.handles s.room s.inputs s.suggestions

kept : (P : Handles → Spaces → Sets → List (List Bound) → Type 0) (s : CoreState) (o : Option Refusal) (x : Effect) → Has P s → (o ≡ None → Has P x.state) → Has P (unless_refused s o x).state
kept P s None x same done = done refl
kept P s (Some r) x same done = same

module _ (P : Handles → Spaces → Sets → List (List Bound) → Type 0) (s : CoreState) (reads : CellReads) (e : Entry) where
  events : (what : DeviceEvent) → Keeps P s reads (record e { call = ask.Device what }) → Has P (behind_event s what)
  events (event.Clock time) k = k.same
  events (event.Pose origin time pose) k = k.sample origin time pose
  events _ k = k.same

-- the property holds after the entry
pub kept_by_step : (P : Handles → Spaces → Sets → List (List Bound) → Type 0) (s : CoreState) (reads : CellReads) (e : Entry) → Keeps P s reads e → Has P (core_step s reads e).0
kept_by_step P s reads e = by e.call
  where
    by : (r : Call) → Keeps P s reads (record e { call = r }) → Has P (core_step s reads (record e { call = r })).0
    by (ask.CreateInstance major minor) k =
        let f = rule s reads (record e { call = ask.CreateInstance major minor }) in
        kept P s (refusal e.short f) (told_on f.on f.effect) k.same (λ none. k.instance (succeeds s (refusal e.short f) (told_on f.on f.effect) refl none))
    by (ask.CreateSession instance system) k =
        let f = rule s reads (record e { call = ask.CreateSession instance system }) in
        kept P s (refusal e.short f) (told_on f.on f.effect) k.same (λ none. k.session (succeeds s (refusal e.short f) (told_on f.on f.effect) refl none) instance)
    by (ask.CreateActionSet instance name localized priority) k =
        let f = rule s reads (record e { call = ask.CreateActionSet instance name localized priority }) in
        let front = no_handle s.handles kind.Instance instance ∷ when false CallOrderInvalid ∷ [] in
        kept P s (refusal e.short f) (told_on f.on f.effect) k.same
        (λ none. k.set (succeeds s (refusal e.short f) (told_on f.on f.effect) refl none) (has_place s.handles kind.ActionSet (none_behind (front ++ set_checks s.inputs name localized) (no_room s.handles kind.ActionSet ∷ []) none)) instance name localized priority)
    by (ask.CreateAction set name type subs localized) k =
        let f = rule s reads (record e { call = ask.CreateAction set name type subs localized }) in
        let last = no_room s.handles kind.Action ∷ [] in
        let labels = action_label_checks s.inputs set localized in
        let subs_ = sub_checks s.atoms no_users subs in
        let names = action_checks s.inputs set name in
        kept P s (refusal e.short f) (told_on f.on f.effect) k.same
        (λ none.
        let behind : first_of (names ++ (subs_ ++ (labels ++ last))) ≡ None = none_behind (no_handle s.handles kind.ActionSet set ∷ when false CallOrderInvalid ∷ []) (names ++ (subs_ ++ (labels ++ last))) none in
        let room = has_place s.handles kind.Action (none_behind labels last (none_behind subs_ (labels ++ last) (none_behind names (subs_ ++ (labels ++ last)) behind))) in
        k.action (succeeds s (refusal e.short f) (told_on f.on f.effect) refl none) room (new_action s e.given set name type subs localized) refl
        (first_fails (is_live s.handles kind.ActionSet set) HandleInvalid (when f.disorder CallOrderInvalid ∷ f.behind) none) (none_front names (subs_ ++ (labels ++ last)) behind))
    by (ask.CreateReferenceSpace session what offset) k =
        let f = rule s reads (record e { call = ask.CreateReferenceSpace session what offset }) in
        let front = no_handle s.handles kind.Session session ∷ is_lost (life_of s session) ∷ when false CallOrderInvalid ∷ [] in
        kept P s (refusal e.short f) (told_on f.on f.effect) k.same
        (λ none. k.space (succeeds s (refusal e.short f) (told_on f.on f.effect) (success_succeeds (loss_of (life_of s session))) none)
        (has_place s.handles kind.Space (none_behind (front ++ reference_checks what offset s.device.stage) (no_room s.handles kind.Space ∷ []) none)) session _ offset)
    by (ask.CreateActionSpace session action sub offset) k =
        let f = rule s reads (record e { call = ask.CreateActionSpace session action sub offset }) in
        let front = no_handle s.handles kind.Session session ∷ no_handle s.handles kind.Action action ∷ is_lost (life_of s session) ∷ when false CallOrderInvalid ∷ [] in
        kept P s (refusal e.short f) (told_on f.on f.effect) k.same
        (λ none. k.space (succeeds s (refusal e.short f) (told_on f.on f.effect) (success_succeeds (loss_of (life_of s session))) none)
        (has_place s.handles kind.Space (none_behind (front ++ when (not (is_of_poses s action)) ActionTypeMismatch ∷ when (is_none (column_named s action sub)) PathUnsupported ∷ when (offset == 0) PoseInvalid ∷ []) (no_room s.handles kind.Space ∷ []) none)) session _ offset)
    by (ask.CreateSwapchain session format width height fixed) k =
        let f = rule s reads (record e { call = ask.CreateSwapchain session format width height fixed }) in
        kept P s (refusal e.short f) (told_on f.on f.effect) k.same (λ none. k.chain (succeeds s (refusal e.short f) (told_on f.on f.effect) (success_succeeds (loss_of (life_of s session))) none) session)
    by (ask.DestroySwapchain chain) k =
        let f = rule s reads (record e { call = ask.DestroySwapchain chain }) in
        kept P s (refusal e.short f) (told_on f.on f.effect) k.same (λ none. k.chain_alone chain)
    by (ask.DestroyInstance instance) k =
        let f = rule s reads (record e { call = ask.DestroyInstance instance }) in
        kept P s (refusal e.short f) (told_on f.on f.effect) k.same (λ none. k.gone instance)
    by (ask.DestroySession session) k =
        let f = rule s reads (record e { call = ask.DestroySession session }) in
        kept P s (refusal e.short f) (told_on f.on f.effect) k.same (λ none. k.gone session)
    by (ask.DestroyActionSet set) k =
        let f = rule s reads (record e { call = ask.DestroyActionSet set }) in
        kept P s (refusal e.short f) (told_on f.on f.effect) k.same (λ none. k.gone set)
    by (ask.DestroyAction action) k =
        let f = rule s reads (record e { call = ask.DestroyAction action }) in
        kept P s (refusal e.short f) (told_on f.on f.effect) k.same (λ none. k.gone action)
    by (ask.DestroySpace space) k =
        let f = rule s reads (record e { call = ask.DestroySpace space }) in
        kept P s (refusal e.short f) (told_on f.on f.effect) k.same (λ none. k.alone space)
    by (ask.SuggestBindings instance profile list) k =
        let f = rule s reads (record e { call = ask.SuggestBindings instance profile list }) in
        let o = profile_at s.atoms profile in
        kept P s (refusal e.short f) (told_on f.on f.effect) k.same
        (λ none. k.suggest o list (none_behind (no_handle s.handles kind.Instance instance ∷ when false CallOrderInvalid ∷ (profile_checks s.atoms profile ++ number_checks list)) (bindings_checks s o list) (unshort e.short (first_of (refusals f)) none)))
    by (ask.AttachSets session handles) k =
        let f = rule s reads (record e { call = ask.AttachSets session handles }) in
        kept P s (refusal e.short f) (told_on f.on f.effect) k.same (λ none. k.attach handles)
    by (ask.Device what) k = events P s reads e what k
    by r k = let f = rule s reads (record e { call = r }) in kept P s (refusal e.short f) (told_on f.on f.effect) k.same (λ none. k.same)
