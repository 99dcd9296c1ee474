-- How much of a lent buffer a call has written, by what its reply gives, and which call shows a frame.
use Rattle.std.proofs.Common.{◌≡◌, ◌&&◌, ℕ, Bool, true, false, nat_lt, nat_le, List, [], ◌∷◌, ◌++◌, map, length, Option, Some, None, refl, sym, subst, arith, length-append}
use Rattle.std.specs.Prelude.{flat_map, option_map, option_and_then, slice_get, unwrap_or, if◌then◌else◌}
use Rattle.std.proofs.lemmas.Bool.Decides.{nat_tests}
use Rattle.std.proofs.lemmas.Option.{same_Some}
use Rattle.xr_types.specs.declared.calls.Gives.TheVariants.{Size, Nothing}
use Rattle.xr_model.specs.machine.Calls.{Entry}
use Rattle.xr_types.specs.declared.calls.Call.{Call}
use Rattle.xr_types.specs.declared.calls.Call.TheVariants as ask
use Rattle.xr_types.specs.declared.frames.Layer.{Layer}
use Rattle.xr_types.specs.declared.frames.Layer.TheVariants.{Projection, Quad}
use Rattle.xr_model.specs.machine.Layers.{Look, layer_checks}
use Rattle.xr_types.specs.declared.session.Event.{Event}
use Rattle.xr_model.specs.machine.Events.{polled}
use Rattle.xr_model.specs.machine.Rules.Instance.{told_event}
use Rattle.xr_model.specs.machine.Paths.{text_at, copied, size_at, size_of}
use Rattle.xr_types.specs.declared.handles.Kind.{Kind}
use Rattle.xr_types.specs.declared.handles.Kind.TheVariants as kind
use Rattle.xr_model.specs.machine.Handles.{Handles, no_handle, no_room}
use Rattle.xr_model.specs.machine.Sets.{no_users, action_label_checks}
use Rattle.xr_types.specs.declared.input.ActionType.{ActionType}
use Rattle.xr_types.specs.declared.input.ActionType.TheVariants.{Boolean, Float, Vector, Pose, Vibration}
use Rattle.xr_types.specs.declared.input.ActiveSet.{ActiveSet}
use Rattle.xr_types.specs.declared.input.Binding.{Binding}
use Rattle.xr_types.specs.declared.input.Profile.{Profile}
use Rattle.xr_model.specs.machine.Rules.Bindings.{bindings_checks, profile_at}
use Rattle.xr_model.specs.machine.Publication.{ShownColumn, publication_of, published_at, row_read, column_read, shown_by}
use Rattle.xr_model.specs.machine.Rules.Sync.{getter_rule, item_checks}
use Rattle.xr_model.specs.machine.Rules.Sets.{sub_checks, with_user, user_at}
use Rattle.xr_model.specs.machine.Refusals.{Refusal, first_of}
use Rattle.xr_model.specs.machine.State.{CoreState, State}
use Rattle.xr_model.specs.machine.SessionRule.{Loss}
use Rattle.xr_model.specs.machine.Rule.{Rule, Effect, refusals, or_short, refusal, told_on, unless_refused, carried_out}
use Rattle.xr_types.specs.Frames.{PendingFrame}
use Rattle.xr_model.specs.machine.Rules.Frames.{look_of, told_frame}
use Rattle.xr_model.specs.machine.Machine.{reads_of, step, rule}
use Rattle.xr_types.specs.CallKinds.{lent_size, written_size}

-- a refusal that holds gives nothing that fits the buffer
abbrev GiveNone : ℕ → List Refusal → Type 0
GiveNone size [] = Unit {0}
GiveNone size (r ∷ rs) = (r.holds ≡ true → written_size r.gives size ≡ 0) × GiveNone size rs

first_gives_none : (size : ℕ) (rs : List Refusal) (r : Refusal) → GiveNone size rs → first_of rs ≡ Some r → written_size r.gives size ≡ 0
first_gives_none size [] r none e = cc
first_gives_none size (x ∷ rs) r none e = by x.holds refl e (λ later. first_gives_none size rs r none.1 later)
  where
    by : (b : Bool) → x.holds ≡ b → (if b then Some x else first_of rs) ≡ Some r → (first_of rs ≡ Some r → written_size r.gives size ≡ 0) → written_size r.gives size ≡ 0
    by true h found later = subst (λ (y : Refusal). written_size y.gives size ≡ 0) (same_Some x r found) (none.0 h)
    by false h found later = later found

abbrev WritesAsSaid : ℕ → Effect → Type 0
WritesAsSaid size e = length e.text ≡ written_size e.gives size

-- a pending loss changes neither what a call gives nor what it writes
told_writes : (size : ℕ) (on : Option Loss) (e : Effect) → WritesAsSaid size e → WritesAsSaid size (told_on on e)
told_writes size None e fits = fits
told_writes size (Some loss) e fits = fits

carried_writes : (s : CoreState) (size : ℕ) (short : Bool) (r : Rule) → GiveNone size (refusals r) → WritesAsSaid size r.effect → WritesAsSaid size (carried_out s short r)
carried_writes s size short r none fits = by (r.takes_memory && short) (first_of (refusals r)) refl
  where
    by : (lacking : Bool) (found : Option Refusal) → first_of (refusals r) ≡ found → WritesAsSaid size (unless_refused s (or_short lacking found) (told_on r.on r.effect))
    by false None h = told_writes size r.on r.effect fits
    by false (Some x) h = sym (first_gives_none size (refusals r) x none h)
    by true None h = refl
    by true (Some x) h = sym (first_gives_none size (refusals r) x none h)

copy_gives_none : (found : Option (List ℕ)) (size : ℕ) → (nat_lt 0 size && nat_lt size (size_at found)) ≡ true → written_size (Size (size_at found)) size ≡ 0
copy_gives_none found size h = grind (arith, nat_tests, h)

either : (n : ℕ) (b : Bool) → n ≡ (if b then n else n)
either n true = refl
either n false = refl

copied_fits : (found : Option (List ℕ)) (size : ℕ) → length (copied found size) ≡ written_size (Size (size_at found)) size
copied_fits None size = either 0 (nat_le 0 size)
copied_fits (Some t) size = by (nat_le (size_of t) size)
  where
    by : (b : Bool) → length (if b then t ++ 0 ∷ [] else []) ≡ (if b then size_of t else 0)
    by true = length-append t (0 ∷ [])
    by false = refl

-- an event that is told takes no bytes of a buffer
told_writes_none : (told : Option Event) → 0 ≡ written_size (told_event told) 0
told_writes_none None = refl
told_writes_none (Some event) = refl

-- nor does a frame, or the end
told_writes_nothing : (fs : List PendingFrame) → 0 ≡ written_size (told_frame fs) 0
told_writes_nothing [] = refl
told_writes_nothing (f ∷ fs) = refl

-- no user path and no handle of a list gives anything where it is refused
subs_give_none : (atoms : List (List ℕ)) (declared : List Bool) (subs : List ℕ) (tail : List Refusal) → GiveNone 0 tail → GiveNone 0 (sub_checks atoms declared subs ++ tail)
subs_give_none atoms declared [] tail none = none
subs_give_none atoms declared (sub ∷ subs) tail none = ((λ h. refl), ((λ h. refl), subs_give_none atoms (with_user declared (user_at atoms sub)) subs tail none))

handles_give_none : (h : Handles) (kind : Kind) (handles : List ℕ) → GiveNone 0 (map (no_handle h kind) handles)
handles_give_none h kind [] = tt
handles_give_none h kind (handle ∷ handles) = ((λ x. refl), handles_give_none h kind handles)

-- nor does any binding
bindings_give_none : (s : CoreState) (which : Option Profile) (list : List Binding) → GiveNone 0 (bindings_checks s which list)
bindings_give_none s None list = tt
bindings_give_none s (Some which) [] = tt
bindings_give_none s (Some which) (b ∷ bs) = ((λ h. refl), ((λ h. refl), ((λ h. refl), ((λ h. refl), bindings_give_none s (Some which) bs))))

-- nor does any layer
layers_give_none : (look : Look) (layers : List Layer) → GiveNone 0 (flat_map (layer_checks look) layers)
layers_give_none look [] = tt
layers_give_none look (Projection space count views ∷ layers) =
    ((λ h. refl), ((λ h. refl), ((λ h. refl), ((λ h. refl), ((λ h. refl), ((λ h. refl), ((λ h. refl), ((λ h. refl), layers_give_none look layers))))))))
layers_give_none look (Quad space image pose ∷ layers) = ((λ h. refl), ((λ h. refl), ((λ h. refl), ((λ h. refl), ((λ h. refl), layers_give_none look layers)))))

-- nor does any item of a sync
items_give_none : (s : CoreState) (session : ℕ) (active : List ActiveSet) → GiveNone 0 (flat_map (item_checks s session) active)
items_give_none s session [] = tt
items_give_none s session (item ∷ active) = ((λ h. refl), ((λ h. refl), ((λ h. refl), ((λ h. refl), items_give_none s session active))))

-- what a getter tells takes no bytes of a buffer
getter_writes_none : (wanted : ActionType) (o : Option ShownColumn) → 0 ≡ written_size (unwrap_or (option_map (shown_by wanted) o) Nothing) 0
getter_writes_none wanted None = refl
getter_writes_none Boolean (Some c) = refl
getter_writes_none Float (Some c) = refl
getter_writes_none Vector (Some c) = refl
getter_writes_none Pose (Some c) = refl
getter_writes_none Vibration (Some c) = refl

-- the bytes that a call writes are as many as its reply says
pub text_fits : (s : State) (e : Entry) → length (step s e).1.text ≡ written_size (step s e).1.reply.gives (lent_size e.call)
text_fits s e = by e.call
  where
    rule_for : Call → Rule
    rule_for r = rule s.core (reads_of s r) (record e { call = r })

    getter : (r : Call) (wanted : ActionType) (session action sub : ℕ) → rule_for r ≡ getter_rule s.core wanted session action sub → lent_size r ≡ 0 → WritesAsSaid (lent_size r) (carried_out s.core e.short (rule_for r))
    getter r wanted session action sub is none =
        let p = publication_of s.core in
        rw (is, none)
        (carried_writes s.core 0 e.short (getter_rule s.core wanted session action sub) ((λ h. refl), ((λ h. refl), ((λ h. refl), ((λ h. refl), ((λ h. refl), ((λ h. refl), ((λ h. refl), tt))))))) (getter_writes_none wanted (option_and_then (λ k. option_and_then (λ row. slice_get row k) (row_read p session action)) (column_read p (published_at p action) sub))))

    by : (r : Call) → WritesAsSaid (lent_size r) (carried_out s.core e.short (rule_for r))
    by (ask.CreateInstance major minor) = carried_writes s.core 0 e.short (rule_for (ask.CreateInstance major minor)) ((λ h. refl), ((λ h. refl), ((λ h. refl), tt))) refl
    by (ask.DestroyInstance instance) = carried_writes s.core 0 e.short (rule_for (ask.DestroyInstance instance)) ((λ h. refl), ((λ h. refl), tt)) refl
    by (ask.GetSystem instance form) = carried_writes s.core 0 e.short (rule_for (ask.GetSystem instance form)) ((λ h. refl), ((λ h. refl), ((λ h. refl), tt))) refl
    by (ask.StringToPath instance text) = carried_writes s.core 0 e.short (rule_for (ask.StringToPath instance text)) ((λ h. refl), ((λ h. refl), ((λ h. refl), ((λ h. refl), tt)))) refl
    by (ask.PathToString instance path capacity) =
        carried_writes s.core capacity e.short (rule_for (ask.PathToString instance path capacity))
        ((λ h. refl), ((λ h. refl), ((λ h. refl), (copy_gives_none (text_at s.core.atoms path) capacity, tt)))) (copied_fits (text_at s.core.atoms path) capacity)
    by (ask.PollEvent instance) = carried_writes s.core 0 e.short (rule_for (ask.PollEvent instance)) ((λ h. refl), ((λ h. refl), ((λ h. refl), tt))) (told_writes_none (polled s.core.events))
    by (ask.CreateSession instance system) = carried_writes s.core 0 e.short (rule_for (ask.CreateSession instance system)) ((λ h. refl), ((λ h. refl), ((λ h. refl), ((λ h. refl), tt)))) refl
    by (ask.DestroySession session) = carried_writes s.core 0 e.short (rule_for (ask.DestroySession session)) ((λ h. refl), ((λ h. refl), tt)) refl
    by (ask.BeginSession session view) = carried_writes s.core 0 e.short (rule_for (ask.BeginSession session view)) ((λ h. refl), ((λ h. refl), ((λ h. refl), ((λ h. refl), ((λ h. refl), ((λ h. refl), tt)))))) refl
    by (ask.EndSession session) = carried_writes s.core 0 e.short (rule_for (ask.EndSession session)) ((λ h. refl), ((λ h. refl), ((λ h. refl), ((λ h. refl), ((λ h. refl), tt))))) refl
    by (ask.RequestExitSession session) = carried_writes s.core 0 e.short (rule_for (ask.RequestExitSession session)) ((λ h. refl), ((λ h. refl), ((λ h. refl), ((λ h. refl), tt)))) refl
    by (ask.CreateReferenceSpace session what offset) = carried_writes s.core 0 e.short (rule_for (ask.CreateReferenceSpace session what offset)) ((λ h. refl), ((λ h. refl), ((λ h. refl), ((λ h. refl), ((λ h. refl), ((λ h. refl), tt)))))) refl
    by (ask.DestroySpace space) = carried_writes s.core 0 e.short (rule_for (ask.DestroySpace space)) ((λ h. refl), ((λ h. refl), tt)) refl
    by (ask.LocateSpace space base time) = carried_writes s.core 0 e.short (rule_for (ask.LocateSpace space base time)) ((λ h. refl), ((λ h. refl), ((λ h. refl), ((λ h. refl), ((λ h. refl), tt))))) refl
    by (ask.CreateActionSet instance name localized priority) = carried_writes s.core 0 e.short (rule_for (ask.CreateActionSet instance name localized priority)) ((λ h. refl), ((λ h. refl), ((λ h. refl), ((λ h. refl), ((λ h. refl), ((λ h. refl), ((λ h. refl), ((λ h. refl), tt)))))))) refl
    by (ask.DestroyActionSet set) = carried_writes s.core 0 e.short (rule_for (ask.DestroyActionSet set)) ((λ h. refl), ((λ h. refl), tt)) refl
    by (ask.CreateAction set name type subs localized) = carried_writes s.core 0 e.short (rule_for (ask.CreateAction set name type subs localized)) ((λ h. refl), ((λ h. refl), ((λ h. refl), ((λ h. refl), ((λ h. refl), ((λ h. refl), subs_give_none s.core.atoms no_users subs (action_label_checks s.core.inputs set localized ++ no_room s.core.handles kind.Action ∷ []) ((λ h. refl), ((λ h. refl), ((λ h. refl), tt))))))))) refl
    by (ask.DestroyAction action) = carried_writes s.core 0 e.short (rule_for (ask.DestroyAction action)) ((λ h. refl), ((λ h. refl), tt)) refl
    by (ask.SuggestBindings instance profile list) = carried_writes s.core 0 e.short (rule_for (ask.SuggestBindings instance profile list)) ((λ h. refl), ((λ h. refl), ((λ h. refl), ((λ h. refl), ((λ h. refl), ((λ h. refl), bindings_give_none s.core (profile_at s.core.atoms profile) list)))))) refl
    by (ask.AttachSets session handles) = carried_writes s.core 0 e.short (rule_for (ask.AttachSets session handles)) ((λ h. refl), ((λ h. refl), ((λ h. refl), ((λ h. refl), ((λ h. refl), handles_give_none s.core.handles kind.ActionSet handles))))) refl
    by (ask.SyncActions session active) = carried_writes s.core 0 e.short (rule_for (ask.SyncActions session active)) ((λ h. refl), ((λ h. refl), ((λ h. refl), ((λ h. refl), items_give_none s.core session active)))) refl
    by (ask.GetBoolean session action sub) = getter (ask.GetBoolean session action sub) Boolean session action sub refl refl
    by (ask.GetFloat session action sub) = getter (ask.GetFloat session action sub) Float session action sub refl refl
    by (ask.GetVector session action sub) = getter (ask.GetVector session action sub) Vector session action sub refl refl
    by (ask.GetPoseActive session action sub) = getter (ask.GetPoseActive session action sub) Pose session action sub refl refl
    by (ask.CreateActionSpace session action sub offset) = carried_writes s.core 0 e.short (rule_for (ask.CreateActionSpace session action sub offset)) ((λ h. refl), ((λ h. refl), ((λ h. refl), ((λ h. refl), ((λ h. refl), ((λ h. refl), ((λ h. refl), ((λ h. refl), tt)))))))) refl
    by (ask.WaitFrame session) = carried_writes s.core 0 e.short (rule_for (ask.WaitFrame session)) ((λ h. refl), ((λ h. refl), ((λ h. refl), ((λ h. refl), tt)))) refl
    by (ask.BeginFrame session) = carried_writes s.core 0 e.short (rule_for (ask.BeginFrame session)) ((λ h. refl), ((λ h. refl), ((λ h. refl), ((λ h. refl), tt)))) refl
    by (ask.EndFrame session time blend layers) =
        carried_writes s.core 0 e.short (rule_for (ask.EndFrame session time blend layers))
        ((λ h. refl), ((λ h. refl), ((λ h. refl), ((λ h. refl), ((λ h. refl), ((λ h. refl), ((λ h. refl), layers_give_none (look_of s.core session) layers))))))) refl
    by (ask.CreateSwapchain session format width height fixed) =
        carried_writes s.core 0 e.short (rule_for (ask.CreateSwapchain session format width height fixed)) ((λ h. refl), ((λ h. refl), ((λ h. refl), ((λ h. refl), ((λ h. refl), ((λ h. refl), ((λ h. refl), tt))))))) refl
    by (ask.DestroySwapchain chain) = carried_writes s.core 0 e.short (rule_for (ask.DestroySwapchain chain)) ((λ h. refl), ((λ h. refl), tt)) refl
    by (ask.AcquireImage chain) = carried_writes s.core 0 e.short (rule_for (ask.AcquireImage chain)) ((λ h. refl), ((λ h. refl), ((λ h. refl), tt))) refl
    by (ask.WaitImage chain timeout start) = carried_writes s.core 0 e.short (rule_for (ask.WaitImage chain timeout start)) ((λ h. refl), ((λ h. refl), ((λ h. refl), ((λ h. refl), tt)))) refl
    by (ask.Paint chain stamp) = carried_writes s.core 0 e.short (rule_for (ask.Paint chain stamp)) ((λ h. refl), ((λ h. refl), ((λ h. refl), tt))) refl
    by (ask.ReleaseImage chain) = carried_writes s.core 0 e.short (rule_for (ask.ReleaseImage chain)) ((λ h. refl), ((λ h. refl), ((λ h. refl), tt))) refl
    by ask.Leave = refl
    by ask.NextFrame = carried_writes s.core 0 e.short (rule_for ask.NextFrame) ((λ h. refl), tt) (told_writes_nothing s.core.frames.pending)
    by ask.ImageDone = carried_writes s.core 0 e.short (rule_for ask.ImageDone) ((λ h. refl), tt) refl
    by _ = refl

-- ---- the frame that a call shows

refused_shows : (s : CoreState) (found : Option Refusal) (e : Effect) → e.shown ≡ None → (unless_refused s found e).shown ≡ None
refused_shows s None e none = none
refused_shows s (Some r) e none = refl

told_shows : (on : Option Loss) (e : Effect) → e.shown ≡ None → (told_on on e).shown ≡ None
told_shows None e none = none
told_shows (Some loss) e none = none

-- only the compositor's call shows any
abbrev pub IsHidden : Call → Type 0
IsHidden ask.NextFrame = ⊥
IsHidden _ = Unit {0}

pub shows_none : (s : State) (e : Entry) → IsHidden e.call → (step s e).1.shown ≡ None
shows_none s e hidden = refused_shows s.core (refusal e.short (rule_for e.call)) (told_on (rule_for e.call).on (rule_for e.call).effect) (told_shows (rule_for e.call).on (rule_for e.call).effect (by e.call hidden))
  where
    rule_for : Call → Rule
    rule_for r = rule s.core (reads_of s r) (record e { call = r })

    by : (r : Call) → IsHidden r → (rule_for r).effect.shown ≡ None
    by ask.NextFrame hidden = absurd hidden
    by _ hidden = refl
