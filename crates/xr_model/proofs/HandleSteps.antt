-- What an entry does to the handles: it adds one, destroys one with all below it, or leaves them.
use Rattle.std.specs.Prelude.{is_some}
use Rattle.std.proofs.Common.{◌≡◌, ℕ, ◌&&◌, not, Bool, true, false, List, ◌∷◌, Option, Some, None, refl}
use Rattle.xr_types.specs.Code.{is_success}
use Rattle.xr_types.specs.declared.code.Code.{Code}
use Rattle.xr_types.specs.declared.code.Code.TheVariants.{HandleInvalid, CallOrderInvalid}
use Rattle.xr_types.specs.declared.handles.Kind.TheVariants as kind
use Rattle.xr_model.specs.machine.Calls.{Entry}
use Rattle.xr_types.specs.declared.calls.Call.{Call}
use Rattle.xr_types.specs.declared.calls.Call.TheVariants as ask
use Rattle.xr_model.specs.machine.Handles.{Handles, is_live, with_handle, without, without_alone, no_handle}
use Rattle.xr_model.specs.machine.Refusals.{Refusal, when, first_of}
use Rattle.xr_model.specs.machine.State.{CoreState, CellReads}
use Rattle.xr_model.specs.machine.Rule.{Effect, refusal, told_on, unless_refused}
use Rattle.xr_types.specs.declared.device.DeviceEvent.{DeviceEvent}
use Rattle.xr_types.specs.declared.device.DeviceEvent.TheVariants as event
use Rattle.xr_model.specs.machine.SessionLife.{is_lost}
use Rattle.xr_model.specs.machine.Rules.Session.{life_of}
use Rattle.xr_model.specs.machine.SessionRule.{loss_of}
use Rattle.xr_model.proofs.Successes.{success_succeeds}
use Rattle.xr_model.specs.machine.Rules.Device.{behind_event}
use Rattle.xr_model.specs.machine.Machine.{core_step, rule}

abbrev pub is_chain_creation : Call → Bool
is_chain_creation (ask.CreateSwapchain session format width height fixed) = true
is_chain_creation _ = false

-- the entry gives a new handle
abbrev pub gives_handle : CoreState → CellReads → Entry → Bool
gives_handle s reads e = is_some (rule s reads e).creates && is_success (core_step s reads e).1.reply.code

-- A property that the handles have before an entry, and that each thing that the entry may do to them keeps.
pub record Keeps (P : Handles → Type 0) (s : CoreState) (reads : CellReads) (e : Entry) : Type 0 where
  pub same : P s.handles
  pub instance : gives_handle s reads e ≡ true → P (with_handle s.handles kind.Instance 0 e.given)
  pub session : gives_handle s reads e ≡ true → (instance : ℕ) → is_live s.handles kind.Instance instance ≡ true → P (with_handle s.handles kind.Session instance e.given)
  pub set : gives_handle s reads e ≡ true → (instance : ℕ) → is_live s.handles kind.Instance instance ≡ true → P (with_handle s.handles kind.ActionSet instance e.given)
  pub action : gives_handle s reads e ≡ true → (set : ℕ) → is_live s.handles kind.ActionSet set ≡ true → P (with_handle s.handles kind.Action set e.given)
  pub space : gives_handle s reads e ≡ true → (session : ℕ) → is_live s.handles kind.Session session ≡ true → P (with_handle s.handles kind.Space session e.given)
  pub chain : is_chain_creation e.call ≡ true → gives_handle s reads e ≡ true → (session : ℕ) → is_live s.handles kind.Session session ≡ true → P (with_handle s.handles kind.Swapchain session e.given)
  pub without : (handle : ℕ) → P (without s.handles handle)
  pub alone : (space : ℕ) → P (without_alone s.handles kind.Space space)
  pub chain_alone : (chain : ℕ) → P (without_alone s.handles kind.Swapchain chain)

-- a refused effect leaves the handles
kept : (P : Handles → Type 0) (s : CoreState) (o : Option Refusal) (x : Effect) → P s.handles → (o ≡ None → P x.state.handles) → P (unless_refused s o x).state.handles
kept P s None x same done = done refl
kept P s (Some r) x same done = same

pub succeeds : (s : CoreState) (o : Option Refusal) (x : Effect) → is_success x.code ≡ true → o ≡ None → is_success (unless_refused s o x).code ≡ true
succeeds s None x good none = good
succeeds s (Some r) x good none = cc

-- the first refusal doesn't hold where none does
pub first_fails : (test : Bool) (code : Code) (rest : List Refusal) → first_of (when (not test) code ∷ rest) ≡ None → test ≡ true
first_fails true code rest none = refl
first_fails false code rest none = cc

-- no event of the device moves a handle
events_leave : (P : Handles → Type 0) (s : CoreState) (what : DeviceEvent) → P s.handles → P (behind_event s what).handles
events_leave P s (event.Clock time) same = same
events_leave P s _ same = same

-- the property holds after the entry
pub kept_by_step : (P : Handles → Type 0) (s : CoreState) (reads : CellReads) (e : Entry) → Keeps P s reads e → P (core_step s reads e).0.handles
kept_by_step P s reads e = by e.call
  where
    by : (r : Call) → Keeps P s reads (record e { call = r }) → P (core_step s reads (record e { call = r })).0.handles
    by (ask.CreateInstance major minor) k =
        let f = rule s reads (record e { call = ask.CreateInstance major minor }) in
        kept P s (refusal e.short f) (told_on f.on f.effect) k.same (λ none. k.instance (succeeds s (refusal e.short f) (told_on f.on f.effect) refl none))
    by (ask.CreateSession instance system) k =
        let f = rule s reads (record e { call = ask.CreateSession instance system }) in
        kept P s (refusal e.short f) (told_on f.on f.effect) k.same
        (λ none. k.session (succeeds s (refusal e.short f) (told_on f.on f.effect) refl none) instance (first_fails (is_live s.handles kind.Instance instance) HandleInvalid (when f.disorder CallOrderInvalid ∷ f.behind) none))
    by (ask.DestroyInstance instance) k =
        let f = rule s reads (record e { call = ask.DestroyInstance instance }) in
        kept P s (refusal e.short f) (told_on f.on f.effect) k.same (λ none. k.without instance)
    by (ask.DestroySession session) k =
        let f = rule s reads (record e { call = ask.DestroySession session }) in
        kept P s (refusal e.short f) (told_on f.on f.effect) k.same (λ none. k.without session)
    by (ask.CreateReferenceSpace session what offset) k =
        let f = rule s reads (record e { call = ask.CreateReferenceSpace session what offset }) in
        kept P s (refusal e.short f) (told_on f.on f.effect) k.same
        (λ none. k.space (succeeds s (refusal e.short f) (told_on f.on f.effect) (success_succeeds (loss_of (life_of s session))) none) session
        (first_fails (is_live s.handles kind.Session session) HandleInvalid (is_lost (life_of s session) ∷ when f.disorder CallOrderInvalid ∷ f.behind) none))
    by (ask.CreateActionSpace session action sub offset) k =
        let f = rule s reads (record e { call = ask.CreateActionSpace session action sub offset }) in
        kept P s (refusal e.short f) (told_on f.on f.effect) k.same
        (λ none. k.space (succeeds s (refusal e.short f) (told_on f.on f.effect) (success_succeeds (loss_of (life_of s session))) none) session
        (first_fails (is_live s.handles kind.Session session) HandleInvalid (no_handle s.handles kind.Action action ∷ is_lost (life_of s session) ∷ when f.disorder CallOrderInvalid ∷ f.behind) none))
    by (ask.CreateSwapchain session format width height fixed) k =
        let f = rule s reads (record e { call = ask.CreateSwapchain session format width height fixed }) in
        kept P s (refusal e.short f) (told_on f.on f.effect) k.same
        (λ none. k.chain refl (succeeds s (refusal e.short f) (told_on f.on f.effect) (success_succeeds (loss_of (life_of s session))) none) session
        (first_fails (is_live s.handles kind.Session session) HandleInvalid (is_lost (life_of s session) ∷ when f.disorder CallOrderInvalid ∷ f.behind) none))
    by (ask.DestroySwapchain chain) k =
        let f = rule s reads (record e { call = ask.DestroySwapchain chain }) in
        kept P s (refusal e.short f) (told_on f.on f.effect) k.same (λ none. k.chain_alone chain)
    by (ask.DestroySpace space) k =
        let f = rule s reads (record e { call = ask.DestroySpace space }) in
        kept P s (refusal e.short f) (told_on f.on f.effect) k.same (λ none. k.alone space)
    by (ask.CreateActionSet instance name localized priority) k =
        let f = rule s reads (record e { call = ask.CreateActionSet instance name localized priority }) in
        kept P s (refusal e.short f) (told_on f.on f.effect) k.same
        (λ none. k.set (succeeds s (refusal e.short f) (told_on f.on f.effect) refl none) instance (first_fails (is_live s.handles kind.Instance instance) HandleInvalid (when f.disorder CallOrderInvalid ∷ f.behind) none))
    by (ask.DestroyActionSet set) k =
        let f = rule s reads (record e { call = ask.DestroyActionSet set }) in
        kept P s (refusal e.short f) (told_on f.on f.effect) k.same (λ none. k.without set)
    by (ask.CreateAction set name type subs localized) k =
        let f = rule s reads (record e { call = ask.CreateAction set name type subs localized }) in
        kept P s (refusal e.short f) (told_on f.on f.effect) k.same
        (λ none. k.action (succeeds s (refusal e.short f) (told_on f.on f.effect) refl none) set (first_fails (is_live s.handles kind.ActionSet set) HandleInvalid (when f.disorder CallOrderInvalid ∷ f.behind) none))
    by (ask.DestroyAction action) k =
        let f = rule s reads (record e { call = ask.DestroyAction action }) in
        kept P s (refusal e.short f) (told_on f.on f.effect) k.same (λ none. k.without action)
    by (ask.Device what) k = events_leave P s what k.same
    by r k = let f = rule s reads (record e { call = r }) in kept P s (refusal e.short f) (told_on f.on f.effect) k.same (λ none. k.same)
