-- No rule changes the count of calls or the number of what was published last, and what a call comes to is the same, whatever these are.
use Rattle.std.proofs.Common.{◌≡◌, ◌≤◌, ◌+◌, ℕ, Bool, List, ◌∷◌, length, Option, Some, None, refl, ap, arith}
use Rattle.xr_types.specs.declared.calls.Actor.{Actor}
use Rattle.xr_types.specs.declared.device.DeviceEvent.{DeviceEvent}
use Rattle.xr_types.specs.declared.device.DeviceEvent.TheVariants as event
use Rattle.xr_types.specs.CallKinds.{is_locked}
use Rattle.xr_model.specs.machine.Calls.{Entry}
use Rattle.xr_types.specs.declared.calls.Call.{Call}
use Rattle.xr_types.specs.declared.calls.Call.TheVariants as ask
use Rattle.xr_model.specs.machine.Refusals.{Refusal}
use Rattle.xr_model.specs.machine.State.{CoreState, CellReads}
use Rattle.xr_model.specs.machine.Rule.{Rule, Effect, refusals, refusal, told_on, unless_refused, carried_out}
use Rattle.xr_model.specs.machine.Rules.Device.{behind_event, device_rule}
use Rattle.xr_model.specs.machine.Machine.{effect, rule_of, cell_calls, as_unused}
use Rattle.xr_model.specs.machine.Frames.{one_if}
use Rattle.xr_model.specs.machine.SessionRule.{Loss}

-- a state with this count, and with this number of what was published last
abbrev pub counting : CoreState → ℕ → ℕ → CoreState
counting s n p = record s { locked = n; published = p }

abbrev counting_all : Effect → ℕ → ℕ → Effect
counting_all e n p = record e { state = counting e.state n p }

-- what is the same of two rules, by states that differ in these two alone
pub record SameRule (s : CoreState) (n p : ℕ) (short : Bool) (r with_count : Rule) : Type 0 where
  pub refusals_same : refusals with_count ≡ refusals r
  pub waits : with_count.waits ≡ r.waits
  pub creates : with_count.creates ≡ r.creates
  pub memory : with_count.takes_memory ≡ r.takes_memory
  pub effect : carried_out (counting s n p) short with_count ≡ counting_all (carried_out s short r) n p

unless_same : (s : CoreState) (n p : ℕ) (o : Option Refusal) (x : Effect) → unless_refused (counting s n p) o (counting_all x n p) ≡ counting_all (unless_refused s o x) n p
unless_same s n p None x = refl
unless_same s n p (Some r) x = refl

module _ (s : CoreState) (n p : ℕ) (short : Bool) (reads : CellReads) (who : Actor) (given : ℕ) where
  events : (what : DeviceEvent) → SameRule s n p short (device_rule s what) (device_rule (counting s n p) what)
  events (event.Clock time) = record { refusals_same = refl; waits = refl; creates = refl; memory = refl; effect = refl }
  events _ = record { refusals_same = refl; waits = refl; creates = refl; memory = refl; effect = refl }

  pub same_rule : (what : Call) → SameRule s n p short (rule_of s reads who given what) (rule_of (counting s n p) reads who given what)
  same_rule (ask.Device what) = events what
  same_rule (ask.CreateInstance major minor) =
      let r = rule_of s reads who given (ask.CreateInstance major minor) in
      record { refusals_same = refl; waits = refl; creates = refl; memory = refl; effect = unless_same s n p (refusal short r) (told_on r.on r.effect) }
  same_rule what =
      let r = rule_of s reads who given what in
      record { refusals_same = refl; waits = refl; creates = refl; memory = refl; effect = unless_same s n p (refusal short r) (told_on r.on r.effect) }

-- ---- what a call leaves, and how much it adds

-- The number of applications stays, and at most so many handles are given, sessions created and frames ended or pending.
pub record Grows (s new : CoreState) (more : ℕ) : Type 0 where
  pub apps : new.apps ≡ s.apps
  pub given : length new.handles.given ≤ length s.handles.given + more
  pub created : new.created ≤ s.created + more
  pub ended : new.ended ≤ s.ended + more

no_less : (n more : ℕ) → n ≤ n + more
no_less n more = omega arith

as_many : (n : ℕ) → n + 1 ≤ n + 1
as_many n = omega arith

add_one : (x : ℕ) (xs : List ℕ) → length (x ∷ xs) ≤ length xs + 1
add_one x xs = omega arith

leaves : (s : CoreState) (more : ℕ) → Grows s s more
leaves s more = record { apps = refl; given = no_less (length s.handles.given) more; created = no_less s.created more; ended = no_less s.ended more }

unless_grows : (s : CoreState) (more : ℕ) (o : Option Refusal) (x : Effect) → Grows s x.state more → Grows s (unless_refused s o x).state more
unless_grows s more None x grows = grows
unless_grows s more (Some r) x grows = leaves s more

module _ (s : CoreState) (short : Bool) (reads : CellReads) (who : Actor) (given : ℕ) where
  events_leave : (what : DeviceEvent) → Grows s (behind_event s what) 1
  events_leave (event.Clock time) = record { apps = refl; given = no_less (length s.handles.given) 1; created = no_less s.created 1; ended = no_less s.ended 1 }
  events_leave _ = record { apps = refl; given = no_less (length s.handles.given) 1; created = no_less s.created 1; ended = no_less s.ended 1 }

  creates : (what : Call) → (rule_of s reads who given what).effect.state.apps ≡ s.apps → (rule_of s reads who given what).effect.state.handles.given ≡ given ∷ s.handles.given → (rule_of s reads who given what).effect.state.created ≤ s.created + 1
      → (rule_of s reads who given what).effect.state.ended ≡ s.ended → Grows s (carried_out s short (rule_of s reads who given what)).state 1
  creates what apps gives created ended =
      let r = rule_of s reads who given what in
      unless_grows s 1 (refusal short r) (told_on r.on r.effect) (on r.on r.effect (record { apps = apps; given = rw gives (add_one given s.handles.given); created = created; ended = rw ended (no_less s.ended 1) }))
    where
      on : (o : Option Loss) (x : Effect) → Grows s x.state 1 → Grows s (told_on o x).state 1
      on None x grows = grows
      on (Some loss) x grows = grows

  pub grows : (what : Call) → Grows s (carried_out s short (rule_of s reads who given what)).state (one_if (is_locked what))
  grows (ask.Device what) = events_leave what
  grows (ask.CreateInstance major minor) = creates (ask.CreateInstance major minor) refl refl (no_less s.created 1) refl
  grows (ask.CreateSession instance system) = creates (ask.CreateSession instance system) refl refl (as_many s.created) refl
  grows (ask.CreateReferenceSpace session what offset) = creates (ask.CreateReferenceSpace session what offset) refl refl (no_less s.created 1) refl
  grows (ask.CreateActionSpace session action sub offset) = creates (ask.CreateActionSpace session action sub offset) refl refl (no_less s.created 1) refl
  grows (ask.CreateSwapchain session format width height fixed) = creates (ask.CreateSwapchain session format width height fixed) refl refl (no_less s.created 1) refl
  grows (ask.CreateActionSet instance name localized priority) = creates (ask.CreateActionSet instance name localized priority) refl refl (no_less s.created 1) refl
  grows (ask.CreateAction set name type subs localized) = creates (ask.CreateAction set name type subs localized) refl refl (no_less s.created 1) refl
  grows (ask.EndFrame session time blend layers) =
      let r = rule_of s reads who given (ask.EndFrame session time blend layers) in
      unless_grows s 1 (refusal short r) (told_on r.on r.effect) (record { apps = refl; given = no_less (length s.handles.given) 1; created = no_less s.created 1; ended = as_many s.ended })
  grows what =
      let r = rule_of s reads who given what in
      let more = one_if (is_locked what) in
      unless_grows s more (refusal short r) (told_on r.on r.effect) (record { apps = refl; given = no_less (length s.handles.given) more; created = no_less s.created more; ended = no_less s.ended more })

-- ---- calls on cells

-- what was done is the same, whatever is counted
pub counted_did : (s : CoreState) (n p : ℕ) (reads : CellReads) (e : Entry) → (effect (counting s n p) reads e).did ≡ (effect s reads e).did
counted_did s n p reads e = ap (λ (x : Effect). x.did) (same_rule s n p e.short reads e.actor e.given e.call).effect

-- and so are the calls on cells
pub counted_calls : (s : CoreState) (n p : ℕ) (reads : CellReads) (e : Entry) → cell_calls (counting s n p) reads e ≡ cell_calls s reads e
counted_calls s n p reads e = rw (counted_did s n p reads e, counted_did s n p (as_unused reads) e) refl
