-- What holds of the handles in every history. No live handle is without its parent, each stands in one place, and one
-- that was destroyed is never live again. Destroying takes the handle and what is below it; neither that nor a new
-- handle changes anything else that lives.
use Rattle.std.specs.Prelude.{is_some, ◌≡◌, ◌≤◌, ◌+◌, ◌==◌, ◌&&◌, ◌||◌, zero, suc, ℕ, Bool, true, false, not, List, [], ◌∷◌, ◌++◌, Some, None, if◌then◌else◌}
use Rattle.std.specs.List.{list_all}
use Rattle.xr_types.specs.Code.{is_success}
use Rattle.xr_types.specs.declared.handles.Kind.{Kind}
use Rattle.xr_types.specs.declared.handles.Slot.{Slot}
use Rattle.xr_model.specs.machine.Calls.{Entry}
use Rattle.xr_types.specs.declared.calls.Call.{Call}
use Rattle.xr_types.specs.declared.calls.Call.TheVariants as ask
use Rattle.xr_model.specs.machine.Handles.{Handles, has, is_live}
use Rattle.xr_model.specs.machine.HandlePlaces.{kind_of, parent_of}
use Rattle.xr_model.specs.machine.State.{Settings, State, opening}
use Rattle.xr_model.specs.machine.Machine.{step, rule, reads_of}
use Rattle.xr_model.specs.machine.History.{after, IsLegal}

-- each live handle of a row has its parent in the row above
abbrev pub is_under : List Slot → List Slot → Bool
is_under above row = list_all (λ s. (s.handle == 0) || (not (s.parent == 0) && has above s.parent)) row

-- No live handle is without its parent.
pub record AreUnder (h : Handles) : Type 0 where
  pub sessions : is_under h.instances h.sessions ≡ true
  pub sets : is_under h.instances h.sets ≡ true
  pub actions : is_under h.sets h.actions ≡ true
  pub spaces : is_under h.sessions h.spaces ≡ true
  pub chains : is_under h.sessions h.chains ≡ true

-- so it is after every history
abbrev pub NoOrphans : Type 0
NoOrphans = (settings : Settings) (es : List Entry) → AreUnder (after (opening settings) es).core.handles

-- the call asks for this handle's end
abbrev pub destroys : Call → ℕ → Bool
destroys (ask.CreateInstance major minor) handle = false
destroys (ask.DestroyInstance instance) handle = instance == handle
destroys (ask.GetSystem instance form) handle = false
destroys (ask.StringToPath instance text) handle = false
destroys (ask.PathToString instance path capacity) handle = false
destroys (ask.PollEvent instance) handle = false
destroys (ask.CreateSession instance system) handle = false
destroys (ask.DestroySession session) handle = session == handle
destroys (ask.BeginSession session view) handle = false
destroys (ask.EndSession session) handle = false
destroys (ask.RequestExitSession session) handle = false
destroys (ask.CreateReferenceSpace session kind offset) handle = false
destroys (ask.CreateActionSpace session action sub offset) handle = false
destroys (ask.DestroySpace space) handle = space == handle
destroys (ask.LocateSpace space base time) handle = false
destroys (ask.CreateActionSet instance name localized priority) handle = false
destroys (ask.DestroyActionSet set) handle = set == handle
destroys (ask.CreateAction set name kind subs localized) handle = false
destroys (ask.DestroyAction action) handle = action == handle
destroys (ask.SuggestBindings instance profile bindings) handle = false
destroys (ask.AttachSets session sets) handle = false
destroys (ask.SyncActions session active) handle = false
destroys (ask.GetBoolean session action sub) handle = false
destroys (ask.GetFloat session action sub) handle = false
destroys (ask.GetVector session action sub) handle = false
destroys (ask.GetPoseActive session action sub) handle = false
destroys (ask.CreateSwapchain session format width height fixed) handle = false
destroys (ask.DestroySwapchain chain) handle = chain == handle
destroys (ask.AcquireImage chain) handle = false
destroys (ask.WaitImage chain timeout start) handle = false
destroys (ask.Paint chain stamp) handle = false
destroys (ask.ReleaseImage chain) handle = false
destroys (ask.WaitFrame session) handle = false
destroys (ask.BeginFrame session) handle = false
destroys (ask.EndFrame session time blend layers) handle = false
destroys (ask.Mark number value) handle = false
destroys (ask.AwaitMark number) handle = false
destroys ask.Leave handle = false
destroys (ask.Device what) handle = false
destroys ask.NextFrame handle = false
destroys ask.ImageDone handle = false

-- a handle that was destroyed is never live again
abbrev pub DestroyedForGood : Type 0
DestroyedForGood =
    (settings : Settings) (es fs : List Entry) (e : Entry) (handle : ℕ) → IsLegal settings (es ++ e ∷ fs) → destroys e.call handle ≡ true
    → is_success (step (after (opening settings) es) e).1.reply.code ≡ true → kind_of (after (opening settings) (es ++ e ∷ fs)).core.handles handle ≡ None

-- ---- what creating and destroying does to all others

-- in how many places of a row a handle stands
abbrev pub count_in : List Slot → ℕ → ℕ
count_in [] handle = 0
count_in (s ∷ ss) handle = if s.handle == handle then count_in ss handle + 1 else count_in ss handle

-- in how many places of all rows
abbrev pub places_with : Handles → ℕ → ℕ
places_with h handle =
    count_in h.instances handle + count_in h.sessions handle + count_in h.sets handle + count_in h.actions handle + count_in h.spaces handle + count_in h.chains handle

-- a live handle stands in one place
abbrev pub StandOnce : Handles → Type 0
StandOnce h = (handle : ℕ) → (handle == 0) ≡ false → places_with h handle ≤ 1

abbrev pub HandlesStandOnce : Type 0
HandlesStandOnce = (settings : Settings) (es : List Entry) → IsLegal settings es → StandOnce (after (opening settings) es).core.handles

-- a handle is this one, or below it by so many parents at most
abbrev pub is_within : ℕ → Handles → ℕ → ℕ → Bool
is_within zero h handle top = handle == top
is_within (suc n) h handle top = (handle == top) || elim (parent_of h handle) [ None ↦ false | Some parent ↦ is_within n h parent top ]

-- A call that destroys a handle takes it and what is below it by parents, and nothing else that lives.
abbrev pub DestroyingTakes : Type 0
DestroyingTakes =
    (settings : Settings) (es : List Entry) (e : Entry) (handle : ℕ) → IsLegal settings es → destroys e.call handle ≡ true → is_success (step (after (opening settings) es) e).1.reply.code ≡ true
    → (kind : Kind) (other : ℕ)
    → is_live (step (after (opening settings) es) e).0.core.handles kind other
    ≡ is_live (after (opening settings) es).core.handles kind other && not (is_within 2 (after (opening settings) es).core.handles other handle)

-- A call that gives a handle changes nothing else that lives.
abbrev pub CreatingAdds : Type 0
CreatingAdds =
    (s : State) (e : Entry) → is_some (rule s.core (reads_of s e.call) e).creates ≡ true
    → (kind : Kind) (other : ℕ) → (other == e.given) ≡ false → is_live (step s e).0.core.handles kind other ≡ is_live s.core.handles kind other
