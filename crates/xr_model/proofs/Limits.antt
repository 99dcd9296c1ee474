-- How many handles may be live.
use Rattle.std.proofs.Common.{arith, ◌≡◌, ◌+◌, ◌==◌, ◌++◌, not, suc, ℕ, Bool, true, false, List, [], ◌∷◌, length, Some, refl, sym, ap, ◌∙◌, if◌then◌else◌}
use Rattle.std.specs.Prelude.{nat_le, is_some}
use Rattle.std.specs.List.{position_from}
use Rattle.std.proofs.lemmas.Bool.Decides.{nat_tests}
use Rattle.std.proofs.lemmas.List.{append_assoc}
use Rattle.xr_types.specs.declared.calls.Call.{Call}
use Rattle.xr_types.specs.declared.calls.Call.TheVariants as ask
use Rattle.xr_types.specs.declared.handles.Kind.{Kind}
use Rattle.xr_types.specs.declared.handles.Kind.TheVariants as kind
use Rattle.xr_types.specs.declared.handles.Slot.{Slot}
use Rattle.xr_model.specs.machine.Calls.{Entry}
use Rattle.xr_model.specs.machine.Handles.{Handles, row_of, has_room, no_room, with_handle, without, without_alone, destroyed_instances, destroyed_parents}
use Rattle.xr_model.specs.machine.History.{after}
use Rattle.xr_model.specs.machine.Machine.{reads_of, rule, core_step, step}
use Rattle.xr_model.specs.machine.Refusals.{Refusal}
use Rattle.xr_model.specs.machine.Rules.Sets.{sub_checks}
use Rattle.xr_model.specs.machine.Sets.{no_users, action_checks, action_label_checks}
use Rattle.xr_model.specs.machine.State.{CoreState, CellReads, State, Settings, opening}
use Rattle.xr_model.specs.laws.LimitLaws.{most_of, count_live, live_of, last_holds, LimitsAreOfTheLive}
use Rattle.xr_model.proofs.FrameOrder.{length_put, length_cleared}
use Rattle.xr_model.proofs.HandleSteps.{kept_by_step}

-- ---- a row that is full

few_live : (row : List Slot) → nat_le (count_live row) (length row) ≡ true
few_live [] = refl
few_live (s ∷ ss) = by (s.handle == 0) (few_live ss)
  where
    by : (b : Bool) → nat_le (count_live ss) (length ss) ≡ true → nat_le (if b then count_live ss else count_live ss + 1) (suc (length ss)) ≡ true
    by true few = grind (arith, nat_tests, few)
    by false few = grind (arith, nat_tests, few)

full_from : (row : List Slot) (i : ℕ) → not (is_some (position_from (λ s. s.handle == 0) i row)) ≡ nat_le (length row) (count_live row)
full_from [] i = refl
full_from (s ∷ ss) i = by (s.handle == 0) (full_from ss (i + 1)) (few_live ss)
  where
    more_live : (n k : ℕ) → nat_le k n ≡ true → false ≡ nat_le (suc n) k
    more_live n k few = grind (arith, nat_tests, few)

    same_live : (n k : ℕ) → nat_le n k ≡ nat_le (suc n) (k + 1)
    same_live n k = grind (arith, nat_tests)

    by : (b : Bool) → not (is_some (position_from (λ s. s.handle == 0) (i + 1) ss)) ≡ nat_le (length ss) (count_live ss)
        → nat_le (count_live ss) (length ss) ≡ true
        → not (is_some (if b then Some i else position_from (λ s. s.handle == 0) (i + 1) ss))
        ≡ nat_le (suc (length ss)) (if b then count_live ss else count_live ss + 1)
    by true more few = more_live (length ss) (count_live ss) few
    by false more few = more ∙ same_live (length ss) (count_live ss)

-- ---- rows keep their length

abbrev pub LongAsMayBe : Handles → Type 0
LongAsMayBe h = (k : Kind) → length (row_of h k) ≡ most_of k

long_put : (h : Handles) (which : Kind) (parent given : ℕ) → LongAsMayBe h → LongAsMayBe (with_handle h which parent given)
long_put h kind.Instance parent given long kind.Instance = length_put _ h.instances ∙ long kind.Instance
long_put h kind.Instance parent given long kind.Session = long kind.Session
long_put h kind.Instance parent given long kind.ActionSet = long kind.ActionSet
long_put h kind.Instance parent given long kind.Action = long kind.Action
long_put h kind.Instance parent given long kind.Space = long kind.Space
long_put h kind.Instance parent given long kind.Swapchain = long kind.Swapchain
long_put h kind.Session parent given long kind.Instance = long kind.Instance
long_put h kind.Session parent given long kind.Session = length_put _ h.sessions ∙ long kind.Session
long_put h kind.Session parent given long kind.ActionSet = long kind.ActionSet
long_put h kind.Session parent given long kind.Action = long kind.Action
long_put h kind.Session parent given long kind.Space = long kind.Space
long_put h kind.Session parent given long kind.Swapchain = long kind.Swapchain
long_put h kind.ActionSet parent given long kind.Instance = long kind.Instance
long_put h kind.ActionSet parent given long kind.Session = long kind.Session
long_put h kind.ActionSet parent given long kind.ActionSet = length_put _ h.sets ∙ long kind.ActionSet
long_put h kind.ActionSet parent given long kind.Action = long kind.Action
long_put h kind.ActionSet parent given long kind.Space = long kind.Space
long_put h kind.ActionSet parent given long kind.Swapchain = long kind.Swapchain
long_put h kind.Action parent given long kind.Instance = long kind.Instance
long_put h kind.Action parent given long kind.Session = long kind.Session
long_put h kind.Action parent given long kind.ActionSet = long kind.ActionSet
long_put h kind.Action parent given long kind.Action = length_put _ h.actions ∙ long kind.Action
long_put h kind.Action parent given long kind.Space = long kind.Space
long_put h kind.Action parent given long kind.Swapchain = long kind.Swapchain
long_put h kind.Space parent given long kind.Instance = long kind.Instance
long_put h kind.Space parent given long kind.Session = long kind.Session
long_put h kind.Space parent given long kind.ActionSet = long kind.ActionSet
long_put h kind.Space parent given long kind.Action = long kind.Action
long_put h kind.Space parent given long kind.Space = length_put _ h.spaces ∙ long kind.Space
long_put h kind.Space parent given long kind.Swapchain = long kind.Swapchain
long_put h kind.Swapchain parent given long kind.Instance = long kind.Instance
long_put h kind.Swapchain parent given long kind.Session = long kind.Session
long_put h kind.Swapchain parent given long kind.ActionSet = long kind.ActionSet
long_put h kind.Swapchain parent given long kind.Action = long kind.Action
long_put h kind.Swapchain parent given long kind.Space = long kind.Space
long_put h kind.Swapchain parent given long kind.Swapchain = length_put _ h.chains ∙ long kind.Swapchain

long_without : (h : Handles) (handle : ℕ) → LongAsMayBe h → LongAsMayBe (without h handle)
long_without h handle long kind.Instance = length_cleared handle [] h.instances ∙ long kind.Instance
long_without h handle long kind.Session = length_cleared handle (destroyed_instances h handle) h.sessions ∙ long kind.Session
long_without h handle long kind.ActionSet = length_cleared handle (destroyed_instances h handle) h.sets ∙ long kind.ActionSet
long_without h handle long kind.Action = length_cleared handle (destroyed_parents h handle) h.actions ∙ long kind.Action
long_without h handle long kind.Space = length_cleared handle (destroyed_parents h handle) h.spaces ∙ long kind.Space
long_without h handle long kind.Swapchain = length_cleared handle (destroyed_parents h handle) h.chains ∙ long kind.Swapchain

long_space : (h : Handles) (space : ℕ) → LongAsMayBe h → LongAsMayBe (without_alone h kind.Space space)
long_space h space long kind.Space = length_cleared space [] h.spaces ∙ long kind.Space
long_space h space long kind.Instance = long kind.Instance
long_space h space long kind.Session = long kind.Session
long_space h space long kind.ActionSet = long kind.ActionSet
long_space h space long kind.Action = long kind.Action
long_space h space long kind.Swapchain = long kind.Swapchain

long_chain : (h : Handles) (chain : ℕ) → LongAsMayBe h → LongAsMayBe (without_alone h kind.Swapchain chain)
long_chain h chain long kind.Swapchain = length_cleared chain [] h.chains ∙ long kind.Swapchain
long_chain h chain long kind.Instance = long kind.Instance
long_chain h chain long kind.Session = long kind.Session
long_chain h chain long kind.ActionSet = long kind.ActionSet
long_chain h chain long kind.Action = long kind.Action
long_chain h chain long kind.Space = long kind.Space

pub long_step : (s : CoreState) (reads : CellReads) (e : Entry) → LongAsMayBe s.handles → LongAsMayBe (core_step s reads e).0.handles
long_step s reads e long = kept_by_step LongAsMayBe s reads e (record {
  same = long;
  instance = λ d. long_put s.handles kind.Instance 0 e.given long;
  session = λ d instance live. long_put s.handles kind.Session instance e.given long;
  set = λ d instance live. long_put s.handles kind.ActionSet instance e.given long;
  action = λ d set live. long_put s.handles kind.Action set e.given long;
  space = λ d session live. long_put s.handles kind.Space session e.given long;
  chain = λ c d session live. long_put s.handles kind.Swapchain session e.given long;
  without = λ handle. long_without s.handles handle long;
  alone = λ space. long_space s.handles space long;
  chain_alone = λ chain. long_chain s.handles chain long;
})

pub long_after : (s : State) (es : List Entry) → LongAsMayBe s.core.handles → LongAsMayBe (after s es).core.handles
long_after s [] long = long
long_after s (e ∷ es) long = long_after (step s e).0 es (long_step s.core (reads_of s e.call) e long)

pub long_opening : (settings : Settings) → LongAsMayBe (opening settings).core.handles
long_opening settings kind.Instance = refl
long_opening settings kind.Session = refl
long_opening settings kind.ActionSet = refl
long_opening settings kind.Action = refl
long_opening settings kind.Space = refl
long_opening settings kind.Swapchain = refl

-- ---- the last condition

last_append : (rs : List Refusal) (r : Refusal) (more : List Refusal) → last_holds (rs ++ r ∷ more) ≡ last_holds (r ∷ more)
last_append [] r more = refl
last_append (q ∷ []) r more = refl
last_append (q ∷ p ∷ rs) r more = last_append (p ∷ rs) r more

last_room : (rs ls : List Refusal) (r : Refusal) → last_holds (rs ++ (ls ++ r ∷ [])) ≡ r.holds
last_room rs ls r = ap last_holds (sym (append_assoc rs ls (r ∷ []))) ∙ last_append (rs ++ ls) r []

same_kind : (a b : Kind) → Some a ≡ Some b → a ≡ b
same_kind a b e = cc

last_is : (s : CoreState) (reads : CellReads) (e : Entry) (which : Kind) → (rule s reads e).creates ≡ Some which
    → last_holds (rule s reads e).behind ≡ not (has_room s.handles which)
last_is s reads e which = by e.call
  where
    room : (a : Kind) → Some a ≡ Some which → not (has_room s.handles a) ≡ not (has_room s.handles which)
    room a is = ap (λ k. not (has_room s.handles k)) (same_kind a which is)

    by : (r : Call) → (rule s reads (record e { call = r })).creates ≡ Some which
        → last_holds (rule s reads (record e { call = r })).behind ≡ not (has_room s.handles which)
    by (ask.CreateInstance major minor) is = room kind.Instance is
    by (ask.CreateSession instance system) is = room kind.Session is
    by (ask.CreateReferenceSpace session what offset) is = room kind.Space is
    by (ask.CreateActionSpace session action sub offset) is = room kind.Space is
    by (ask.CreateActionSet instance name localized priority) is = room kind.ActionSet is
    by (ask.CreateAction set name type subs localized) is =
        last_room (action_checks s.inputs set name ++ sub_checks s.atoms no_users subs) (action_label_checks s.inputs set localized)
        (no_room s.handles kind.Action)
        ∙ room kind.Action is
    by (ask.CreateSwapchain session format width height fixed) is = room kind.Swapchain is
    by _ is = cc

pub limits_are_of_the_live : LimitsAreOfTheLive
limits_are_of_the_live settings es e which is =
    let s = after (opening settings) es in
    last_is s.core (reads_of s e.call) e which is ∙ full_from (row_of s.core.handles which) 0
    ∙ ap (λ (n : ℕ). nat_le n (live_of s.core.handles which)) (long_after (opening settings) es (long_opening settings) which)
