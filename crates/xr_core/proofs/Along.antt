-- How calls are decided beside cells: those that touch none, and those whose rule is told nothing of them.
use Rattle.std.proofs.Common.{◌≡◌, ◌&&◌, ℕ, Bool, true, false, List, [], ◌++◌, append-nil, Option, Some, None, refl}
use Rattle.std.specs.Prelude.{Result, Ok, Err, is_some}
use Rattle.xr_types.specs.Code.{is_success, is_out_of_memory}
use Rattle.xr_types.specs.declared.calls.Actor.{Actor}
use Rattle.xr_types.specs.declared.calls.Actor.TheVariants.{Compositor}
use Rattle.xr_types.specs.declared.calls.Gives.{Gives}
use Rattle.xr_types.specs.declared.calls.Gives.TheVariants.{Nothing}
use Rattle.xr_types.specs.declared.calls.Reply.{Reply}
use Rattle.xr_types.specs.declared.calls.Step.TheVariants as step
use Rattle.xr_types.specs.declared.code.Code.{Code}
use Rattle.xr_types.specs.declared.frames.Image.{Image}
use Rattle.xr_model.specs.machine.CellCalls.{CellCall, MayCall, Leads, pin_calls, free_calls, stamp_calls}
use Rattle.xr_model.specs.machine.CoreCalls.{Lent, entry_of, given_by}
use Rattle.xr_model.specs.machine.OverCells.{World, entry_by, MayApply}
use Rattle.xr_model.specs.machine.Machine.{effect, rule_of, cell_calls, as_unused, IsGiven}
use Rattle.xr_model.specs.machine.Refusals.{Refusal, first_of}
use Rattle.xr_model.specs.machine.Calls.{Entry}
use Rattle.xr_types.specs.declared.calls.Call.{Call}
use Rattle.xr_types.specs.declared.calls.Call.TheVariants as ask
use Rattle.xr_model.specs.machine.Rule.{Rule, Did, nothing_done, refusals, or_short, told_on, unless_refused, carried_out}
use Rattle.xr_model.specs.machine.State.{CoreState, CellReads, WholeCore}
use Rattle.xr_model.specs.machine.PartAnswers.{or_refused}
use Rattle.xr_model.proofs.OverCells.{IsQuiet, still_call, quiet_aside, told_nothing, no_calls}
use Rattle.xr_core.specs.declared.halt.Halt.{Halt}
use Rattle.xr_core.specs.declared.halt.Halt.TheVariants.{Refused, NotReady}
use Rattle.xr_core.specs.inside.Deciding.{DecidesOver, DecidesAlong, DecidesCells, MayTouch}
use Rattle.xr_core.proofs.Deciding.{err_decides, effect_decides, unshort}
use Rattle.xr_core.proofs.Plain.{gives_size}
use Rattle.xr_model.specs.laws.Soundness.{IsAside}

-- ---- calls that touch no cells

module _ {C : Type 0} (does : C → CellCall → C → Type 0) (s new : CoreState) (held : List Image) (c : C) (who : Actor) (what : Call) (lent left : Lent) (quiet : IsQuiet what) where
  abbrev before : World C
  before = record { core = record { kept = s; held = held }; cells = c; lent = lent }

  abbrev behind : World C
  behind = record { core = record { kept = new; held = held }; cells = c; lent = left }

  pub quiet_along : (result : Result Reply Halt) → DecidesOver who s what new result lent left → DecidesAlong does before behind who what result
  quiet_along (Ok d) decides =
      let still = still_call s (told_nothing held) (entry_of who what d) (quiet_aside what quiet) in
      record { reads = told_nothing held; own = refl; each = rw still.taken refl; cells = rw (no_calls s held (entry_of who what d) quiet) refl; decides = decides (told_nothing held); holds = rw (still.taken, still.returned) refl }
  quiet_along (Err (Refused code)) decides =
      let e = entry_of who what (record { code = code; gives = Nothing; place = 0 }) in
      let still = still_call s (told_nothing held) e (quiet_aside what quiet) in
      record { reads = told_nothing held; own = refl; each = rw still.taken refl; cells = rw (no_calls s held e quiet) refl; decides = decides (told_nothing held); holds = rw (still.taken, still.returned) refl }
  quiet_along (Err NotReady) decides =
      record { reads = told_nothing held; own = refl; each = refl; cells = rw (no_calls s held (entry_by who what step.NotReady) quiet) refl; decides = decides (told_nothing held); holds = refl }

-- ---- calls whose rule is told nothing of the cells

-- what is refused does nothing
pub refused_did : (s : CoreState) (r : Rule) (short : Bool) (x : Refusal) → first_of (refusals r) ≡ Some x → (carried_out s short r).did ≡ nothing_done
refused_did s r short x first = rw first (by (r.takes_memory && short))
  where
    by : (b : Bool) → (unless_refused s (or_short b (Some x)) (told_on r.on r.effect)).did ≡ nothing_done
    by true = refl
    by false = refl

some_refusal : {T : Type 0} (o : Option Refusal) (x : T) (code : Code) → or_refused o x ≡ Err code → (r : Refusal) × (o ≡ Some r)
some_refusal None x code told = cc
some_refusal (Some r) x code told = (r, refl)

-- the calls on cells of what was done, where nothing is claimed, taken or given back
abbrev pub calls_by : Did → List CellCall
calls_by did = pin_calls did.used ++ (free_calls did.freed ++ stamp_calls did.stamped)

-- nothing is claimed, taken or given back
pub record IsOwn (did : Did) : Type 0 where
  pub claimed : did.claimed ≡ []
  pub taken : did.taken ≡ []
  pub returned : did.returned ≡ []

module _ (s : CoreState) (what : Call) (f : ℕ → Rule) (same : (who : Actor) (reads : CellReads) (given : ℕ) → rule_of s reads who given what ≡ f given) where
  abbrev entry : Actor → ℕ → Bool → Entry
  entry who given short = record { actor = who; call = what; given = given; short = short }

  -- the calls on cells by what the rule does
  pub rule_calls : (who : Actor) (reads : CellReads) (given : ℕ) (short : Bool) (did : Did) → (carried_out s short (f given)).did ≡ did → IsOwn did → cell_calls s reads (entry who given short) ≡ calls_by did
  rule_calls who reads given short did is own = rw (same who reads given, same who (as_unused reads) given, is, own.claimed, own.taken, own.returned, append-nil (stamp_calls did.stamped)) refl

  module _ {C : Type 0} (does : C → CellCall → C → Type 0) where
    pub refused_cells : {T : Type 0} (x : T) (code : Code) (c : C) → gives_size what ≡ false → or_refused (first_of (refusals (f 0))) x ≡ Err code → DecidesCells does s what s (Err (Refused code)) c c
    refused_cells x code c sized told = λ who held lent.
        let r = some_refusal (first_of (refusals (f 0))) x code told in
        let reads : CellReads = told_nothing held in
        let did = refused_did s (f 0) (is_out_of_memory code) r.0 r.1 in
        let calls = rule_calls who reads 0 (is_out_of_memory code) nothing_done did (record { claimed = refl; taken = refl; returned = refl }) in
        record {
          reads = reads;
          own = refl;
          each = rw (same who reads 0, did) refl;
          cells = rw calls refl;
          decides = err_decides s what (f 0) x sized (λ who reads. rw (same who reads 0) refl) code told who lent reads;
          holds = rw (same who reads 0, did) refl;
        }

    pub done_cells : (new : CoreState) (answer : Code) (value : Gives) (did : Did) (c d : C) → first_of (refusals (f (given_by value))) ≡ None → (f (given_by value)).waits ≡ false
        → told_on (f (given_by value)).on (f (given_by value)).effect ≡ record { state = new; code = answer; gives = value; text = []; shown = None; did = did }
        → IsGiven (is_some (f (given_by value)).creates && is_success answer) s.handles (given_by value) → is_out_of_memory answer ≡ false → IsOwn did → Leads does c (calls_by did) d
        → DecidesCells does s what new (Ok (record { code = answer; gives = value; place = 0 })) c d
    done_cells new answer value did c d none waits effect given memory own leads = λ who held lent.
        let reads : CellReads = told_nothing held in
        let here : (carried_out s (is_out_of_memory answer) (f (given_by value))).did ≡ did = rw (memory, none, unshort (f (given_by value)).takes_memory None, effect) refl in
        let calls = rule_calls who reads (given_by value) (is_out_of_memory answer) did here own in
        record {
          reads = reads;
          own = refl;
          each = rw (same who reads (given_by value), here, own.taken) refl;
          cells = rw calls leads;
          decides = effect_decides s what f new answer value did (λ who reads. same who reads (given_by value)) none waits effect given memory who lent reads;
          holds = rw (same who reads (given_by value), here, own.taken, own.returned) refl;
        }

    -- where nothing refuses the call, its calls on cells may be made
    pub may_do : (may : C → CellCall → Type 0) (c : C) (given : ℕ) (did : Did) → MayTouch may does s c what → first_of (refusals (f given)) ≡ None → (f given).takes_memory ≡ false → (told_on (f given).on (f given).effect).did ≡ did → IsOwn did → MayCall may does c (calls_by did)
    may_do may c given did touch none memory is own =
        let here : (carried_out s false (f given)).did ≡ did = rw (none, memory, is) refl in
        rw (← rule_calls Compositor (told_nothing []) given false did here own) (touch Compositor (told_nothing []) given false)

-- ---- whoever makes the call, and whatever is held

calls_aside : (s : CoreState) (reads : CellReads) (hs : List Image) (e : Entry) → IsAside e.call → cell_calls s (record reads { held = hs }) e ≡ cell_calls s reads e
calls_aside s reads hs e = by e.call
  where
    by : (r : Call) → IsAside r → cell_calls s (record reads { held = hs }) (record e { call = r }) ≡ cell_calls s reads (record e { call = r })
    by ask.NextFrame aside = absurd aside
    by ask.ImageDone aside = absurd aside
    by _ aside = refl

calls_of_any : (s : CoreState) (reads : CellReads) (who : Actor) (e : Entry) → cell_calls s reads (record e { actor = who }) ≡ cell_calls s reads e
calls_of_any s reads who e = by e.call
  where
    by : (r : Call) → cell_calls s reads (record { actor = who; call = r; given = e.given; short = e.short }) ≡ cell_calls s reads (record e { call = r })
    by ask.NextFrame = refl
    by _ = refl

pub may_touch : {C : Type 0} (may : C → CellCall → Type 0) (does : C → CellCall → C → Type 0) (core : WholeCore) (c : C) (who : Actor) (what : Call) → IsAside what → MayApply may does core c who what → MayTouch may does core.kept c what
may_touch may does core c who what aside apply = λ other reads given short.
    let e : Entry = record { actor = who; call = what; given = given; short = short } in
    rw (calls_of_any core.kept reads other e, ← calls_aside core.kept reads core.held e aside) (apply (record reads { held = core.held }) given short refl)
