-- How a call is decided by its rule: refused by the first of its refusals, or by none of them.
use Rattle.std.proofs.Common.{◌≡◌, ◌&&◌, ◌||◌, ◌++◌, ℕ, Bool, true, false, not, List, [], ◌∷◌, Option, Some, None, refl, sym, ap, ◌∙◌, true≢false}
use Rattle.std.specs.Prelude.{Ok, Err, is_some, if◌then◌else◌}
use Rattle.xr_types.specs.declared.calls.Actor.{Actor}
use Rattle.xr_types.specs.declared.calls.Gives.{Gives}
use Rattle.xr_types.specs.declared.calls.Gives.TheVariants.{Nothing}
use Rattle.xr_types.specs.declared.code.Code.{Code}
use Rattle.xr_types.specs.declared.code.Code.TheVariants.{Success, SessionLossPending, LimitReached}
use Rattle.xr_types.specs.declared.handles.Kind.{Kind}
use Rattle.xr_types.specs.Code.{is_out_of_memory, is_success}
use Rattle.xr_model.specs.machine.Handles.{Handles, has_room, no_room}
use Rattle.xr_types.specs.declared.calls.Call.{Call}
use Rattle.xr_model.specs.machine.Refusals.{Refusal, when, first_of}
use Rattle.xr_model.specs.machine.SessionRule.{Loss, code_on}
use Rattle.xr_model.specs.machine.PartAnswers.{code_by}
use Rattle.xr_model.specs.machine.State.{CoreState, CellReads}
use Rattle.xr_model.specs.machine.Rule.{Rule, Did, refusals, or_short, told_on}
use Rattle.xr_model.specs.machine.Machine.{rule_of, IsGiven}
use Rattle.xr_model.specs.machine.CoreCalls.{Lent, given_by}
use Rattle.xr_model.proofs.SessionAnswers.{first_stays, first_skips}
use Rattle.xr_core.specs.inside.Deciding.{Comes, Decides, DecidesBy}
use Rattle.xr_model.specs.machine.PartAnswers.{or_refused}
use Rattle.xr_core.specs.declared.halt.Halt.TheVariants.{Refused, NotReady}
use Rattle.xr_core.proofs.Plain.{IsPlain, are_plain, gives_size, first_plain, plain_rule}

pub unshort : (b : Bool) (o : Option Refusal) → or_short (b && false) o ≡ o
unshort true o = refl
unshort false o = refl

or_true : (b : Bool) → b || true ≡ true
or_true true = refl
or_true false = refl

and_false : (b : Bool) → b && false ≡ false
and_false true = refl
and_false false = refl

-- ---- refused

-- a plain refusal changes nothing
pub refused_comes : (s : CoreState) (r : ℕ → Rule) (x : Refusal) (lent : Lent) → first_of (refusals (r 0)) ≡ Some x → IsPlain x → Comes s r s x.code Nothing lent lent
refused_comes s r x lent first plain = record {
  ready = rw first (or_true (not (r 0).waits));
  handle = rw (plain.fails, and_false (is_some (r 0).creates)) refl;
  memory = λ short. absurd (true≢false (sym short ∙ plain.memory));
  keeps = rw (plain.memory, unshort (r 0).takes_memory (first_of (refusals (r 0))), first) refl;
  code = rw (plain.memory, unshort (r 0).takes_memory (first_of (refusals (r 0))), first) refl;
  gives = rw (plain.memory, unshort (r 0).takes_memory (first_of (refusals (r 0))), first, plain.gives) refl;
  writes = rw (plain.memory, unshort (r 0).takes_memory (first_of (refusals (r 0))), first) refl;
}

-- a call that is refused so, whoever makes it and whatever the cells tell
pub refused_decides : (s : CoreState) (what : Call) (x : Refusal) → ((who : Actor) (reads : CellReads) → first_of (refusals (rule_of s reads who 0 what)) ≡ Some x) → IsPlain x → Decides s what s (Err (Refused x.code))
refused_decides s what x first plain = λ who lent reads. refused_comes s (λ given. rule_of s reads who given what) x lent (first who reads) plain

-- the error of a check is the rule's refusal
pub err_decides : {T : Type 0} (s : CoreState) (what : Call) (r : Rule) (x : T) → gives_size what ≡ false → ((who : Actor) (reads : CellReads) → first_of (refusals (rule_of s reads who 0 what)) ≡ first_of (refusals r))
    → (code : Code) → or_refused (first_of (refusals r)) x ≡ Err code → Decides s what s (Err (Refused code))
err_decides {T = T} s what r x sized same code told = λ who. by who (first_of (refusals r)) refl told
  where
    by : (who : Actor) (o : Option Refusal) → first_of (refusals r) ≡ o → or_refused o x ≡ Err code → DecidesBy who s what s (Err (Refused code))
    by who None eo told = cc
    by who (Some y) eo told = λ lent reads.
        let is : code ≡ y.code = cc in
        rw is (refused_comes s (λ given. rule_of s reads who given what) y lent (same who reads ∙ eo) (first_plain (refusals (rule_of s reads who 0 what)) y (plain_rule s reads who 0 what sized) (same who reads ∙ eo)))

-- ---- refused by nothing

-- a value says that nothing refuses the call
pub ok_none : {T : Type 0} (o : Option Refusal) (x y : T) → or_refused o x ≡ Ok y → (o ≡ None) × (y ≡ x)
ok_none None x y told = (refl, cc)
ok_none (Some r) x y told = cc

-- a call that nothing refuses has to wait
pub waits_decides : (s : CoreState) (what : Call) (r : Rule) → ((who : Actor) (reads : CellReads) (given : ℕ) → rule_of s reads who given what ≡ r) → first_of (refusals r) ≡ None → r.waits ≡ true → Decides s what s (Err NotReady)
waits_decides s what r same none waits = λ who lent reads. record {
  not_ready = λ given. rw (same who reads given, none, waits) refl;
  same = refl;
  unwritten = refl;
}

-- a call has its effect
pub effect_decides : (s : CoreState) (what : Call) (r : ℕ → Rule) (new : CoreState) (answer : Code) (value : Gives) (did : Did)
    → ((who : Actor) (reads : CellReads) → rule_of s reads who (given_by value) what ≡ r (given_by value)) → first_of (refusals (r (given_by value))) ≡ None → (r (given_by value)).waits ≡ false
    → told_on (r (given_by value)).on (r (given_by value)).effect ≡ record { state = new; code = answer; gives = value; text = []; shown = None; did = did }
    → IsGiven (is_some (r (given_by value)).creates && is_success answer) s.handles (given_by value) → is_out_of_memory answer ≡ false → Decides s what new (Ok (record { code = answer; gives = value; place = 0 }))
effect_decides s what r new answer value did same none waits effect given memory = λ who lent reads. record {
  ready = rw (same who reads, waits) refl;
  handle = rw (same who reads) given;
  memory = λ short. absurd (true≢false (sym short ∙ memory));
  keeps = rw (memory, same who reads, none, unshort (r (given_by value)).takes_memory None, effect) refl;
  code = rw (memory, same who reads, none, unshort (r (given_by value)).takes_memory None, effect) refl;
  gives = rw (memory, same who reads, none, unshort (r (given_by value)).takes_memory None, effect) refl;
  writes = rw (memory, same who reads, none, unshort (r (given_by value)).takes_memory None, effect) refl;
}

-- a success on a session is no want of memory
pub success_found : (loss : Loss) → is_out_of_memory (code_on loss Success) ≡ false
success_found loss = by loss.pending
  where
    by : (b : Bool) → is_out_of_memory (if b then SessionLossPending else Success) ≡ false
    by true = refl
    by false = refl

-- ---- the checks of parts

-- what a part answers that refuses nothing, and what one answers that refuses something
pub passed_is_ok : (rs : List Refusal) (code : Code) → are_plain rs ≡ true → code ≡ code_by (first_of rs) → code ≡ Success → first_of rs ≡ None
passed_is_ok rs code plain told good = by (first_of rs) refl
  where
    by : (o : Option Refusal) → first_of rs ≡ o → o ≡ None
    by None eo = refl
    by (Some r) eo = let is : r.code ≡ Success = sym (told ∙ ap code_by eo) ∙ good in absurd (true≢false (sym (ap is_success is) ∙ (first_plain rs r plain eo).fails))

pub passed : (rs : List Refusal) (code : Code) → are_plain rs ≡ true → code ≡ code_by (first_of rs) → code ≡ Success → or_refused {T = Unit {0}} (first_of rs) tt ≡ Ok tt
passed rs code plain told good = rw (passed_is_ok rs code plain told good) refl

pub failed : (rs : List Refusal) (code : Code) → code ≡ code_by (first_of rs) → (code ≡ Success → ⊥) → or_refused {T = Unit {0}} (first_of rs) tt ≡ Err code
failed rs code told bad = by (first_of rs) told
  where
    by : (o : Option Refusal) → code ≡ code_by o → or_refused {T = Unit {0}} o tt ≡ Err code
    by None told = absurd (bad told)
    by (Some r) told = ap Err (sym told)

-- ---- room for one more

pub room_last : (front : List Refusal) (h : Handles) (kind : Kind) → first_of (front ++ no_room h kind ∷ []) ≡ None → has_room h kind ≡ true
room_last [] h kind none = by (has_room h kind) none
  where
    by : (b : Bool) → (if not b then Some (when (not b) LimitReached) else None) ≡ None → b ≡ true
    by true none = refl
    by false none = cc
room_last (x ∷ xs) h kind none = by x.holds none (room_last xs h kind)
  where
    by : (b : Bool) → (if b then Some x else first_of (xs ++ no_room h kind ∷ [])) ≡ None → (first_of (xs ++ no_room h kind ∷ []) ≡ None → has_room h kind ≡ true) → has_room h kind ≡ true
    by true none more = cc
    by false none more = more none

-- ---- one check behind another

-- where the first check is refused, so are both
pub then_err : {T U : Type 0} (xs ys : List Refusal) (x : T) (y : U) (code : Code) → or_refused (first_of xs) x ≡ Err code → or_refused (first_of (xs ++ ys)) y ≡ Err code
then_err {T = T} {U = U} xs ys x y code told = by (first_of xs) refl told
  where
    by : (o : Option Refusal) → first_of xs ≡ o → or_refused o x ≡ Err code → or_refused (first_of (xs ++ ys)) y ≡ Err code
    by None eo told = cc
    by (Some r) eo told = let is : r.code ≡ code = cc in rw (first_stays xs ys r eo, is) refl

-- where it is passed, the second decides
pub then_ok : {T U : Type 0} (xs ys : List Refusal) (x z : T) (y : U) → or_refused (first_of xs) x ≡ Ok z → or_refused (first_of (xs ++ ys)) y ≡ or_refused (first_of ys) y
then_ok xs ys x z y told = rw (first_skips xs ys (ok_none (first_of xs) x z told).0) refl

-- and nothing of the first refuses
pub none_first : (xs ys : List Refusal) → first_of (xs ++ ys) ≡ None → first_of xs ≡ None
none_first [] ys none = refl
none_first (x ∷ xs) ys none = by x.holds none (none_first xs ys)
  where
    by : (b : Bool) → (if b then Some x else first_of (xs ++ ys)) ≡ None → (first_of (xs ++ ys) ≡ None → first_of xs ≡ None) → (if b then Some x else first_of xs) ≡ None
    by true none more = cc
    by false none more = more none

pub none_second : (xs ys : List Refusal) → first_of (xs ++ ys) ≡ None → first_of ys ≡ None
none_second xs ys none = sym (first_skips xs ys (none_first xs ys none)) ∙ none
