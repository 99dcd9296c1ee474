-- What is decided beside cells, counted, is what the core answers.
use Rattle.std.proofs.Common.{◌≡◌, ◌+◌, ℕ, Bool, true, false, refl, sym, ap, subst, ◌∙◌, arith}
use Rattle.std.specs.Prelude.{Ok, Err, if◌then◌else◌}
use Rattle.xr_types.specs.declared.calls.Actor.{Actor}
use Rattle.xr_types.specs.declared.calls.Call.{Call}
use Rattle.xr_types.specs.declared.calls.Gives.{Gives}
use Rattle.xr_types.specs.declared.calls.Gives.TheVariants.{Nothing}
use Rattle.xr_types.specs.declared.calls.Reply.{Reply}
use Rattle.xr_types.specs.declared.calls.Step.TheVariants as step
use Rattle.xr_types.specs.declared.code.Code.{Code}
use Rattle.xr_types.specs.Code.{is_out_of_memory}
use Rattle.xr_model.specs.machine.CellCalls.{CellCall}
use Rattle.xr_types.specs.CallKinds.{is_getter, is_locked, publishes}
use Rattle.xr_model.specs.machine.Calls.{Entry}
use Rattle.xr_model.specs.machine.Refusals.{first_of}
use Rattle.xr_model.specs.machine.State.{CoreState, CellReads}
use Rattle.xr_model.specs.machine.Rule.{carried_out}
use Rattle.xr_model.specs.machine.Frames.{one_if}
use Rattle.xr_model.specs.machine.Machine.{rule_of, core_step, core_ready, IsPresent, CoreAllows}
use Rattle.xr_model.specs.machine.CoreCalls.{Lent, AnswersBy, WaitsBy, given_by, entry_of}
use Rattle.xr_model.specs.machine.OverCells.{World, entry_by, AppliesOver}
use Rattle.xr_core.specs.declared.halt.Halt.TheVariants.{Refused, NotReady}
use Rattle.xr_core.specs.inside.Deciding.{Comes, HasToWait, DecidesAlong}
use Rattle.xr_core.proofs.CountAside.{counting, SameRule, same_rule, Grows, grows, counted_calls, counted_did}

-- how much is counted
pub counted_is : (b : Bool) (n : ℕ) → (if b then n + 1 else n) ≡ n + one_if b
counted_is true n = refl
counted_is false n = omega arith

-- what an entry is answered, and how it waits, where the cells tell so much
abbrev IsAnsweredBy : CellReads → CoreState → Entry → CoreState → Reply → Lent → Lent → Type 0
IsAnsweredBy reads old e new answer before after = AnswersBy (CoreAllows old reads e) (core_ready old reads e) (core_step old reads e) new answer before after

abbrev IsWaitedBy : CellReads → CoreState → Entry → CoreState → Lent → Lent → Type 0
IsWaitedBy reads old e new before after = WaitsBy (core_ready old reads e) old new before after

module _ (s new : CoreState) (n p : ℕ) (who : Actor) (what : Call) (before after : Lent) where
  -- how many are counted behind a call, the place in its reply, and what was published last
  abbrev count : ℕ
  count = if is_locked what then n + 1 else n

  abbrev place : ℕ
  place = if is_locked what then n + 1 else (if is_getter what then p else 0)

  abbrev number : Code → ℕ
  number code = if publishes what code then n + 1 else p

  -- a call that is made
  module _ (code : Code) (gives : Gives) (reads : CellReads) (m : Comes s (λ given. rule_of s reads who given what) new code gives before after) where
    same : SameRule s n p (is_out_of_memory code) (rule_of s reads who (given_by gives) what) (rule_of (counting s n p) reads who (given_by gives) what)
    same = same_rule s n p (is_out_of_memory code) reads who (given_by gives) what

    stays : (carried_out s (is_out_of_memory code) (rule_of s reads who (given_by gives) what)).state.apps ≡ s.apps
    stays = (grows s (is_out_of_memory code) reads who (given_by gives) what).apps

    pub made_answers : IsPresent s who → IsAnsweredBy reads (counting s n p) (entry_of who what (record { code = code; gives = gives; place = place })) (counting new count (number code)) (record { code = code; gives = gives; place = place }) before after
    made_answers present =
        let effect = same.effect in
        record {
          allowed = record {
            handle = rw (effect, same.creates, ← m.code) m.handle;
            memory = λ short. let wants = m.memory short in (same.memory ∙ wants.0, ap first_of same.refusals_same ∙ wants.1);
            present = present;
          };
          is_ready = rw (same.waits, same.refusals_same) m.ready;
          leads = rw (effect, ← m.code, m.keeps, stays) refl;
          replies = rw (effect, ← m.code, ← m.gives) refl;
          writes = rw effect m.writes;
        }

    -- and what it adds
    pub grown : Grows s new (one_if (is_locked what))
    grown = subst (λ (t : CoreState). Grows s t (one_if (is_locked what))) (sym m.keeps) (grows s (is_out_of_memory code) reads who (given_by gives) what)

  -- a call that has to wait
  pub waits_so : (reads : CellReads) → HasToWait s (λ given. rule_of s reads who given what) new before after → (given : ℕ) (short : Bool)
      → IsWaitedBy reads (counting s n p) (record { actor = who; call = what; given = given; short = short }) (counting new n p) before after
  waits_so reads wait given short =
      let same = same_rule s n p short reads who given what in
      record {
        not_ready = rw (same.waits, same.refusals_same) (wait.not_ready given);
        same = ap (λ (t : CoreState). counting t n p) wait.same;
        unwritten = wait.unwritten;
      }

-- ---- over cells

module _ {C : Type 0} (does : C → CellCall → C → Type 0) where
  -- a refusal is answered by its code
  pub as_reply : (old new : World C) (who : Actor) (what : Call) (code : Code) → DecidesAlong does old new who what (Err (Refused code)) → DecidesAlong does old new who what (Ok (record { code = code; gives = Nothing; place = 0 }))
  as_reply old new who what code x = record { reads = x.reads; own = x.own; each = x.each; cells = x.cells; decides = x.decides; holds = x.holds }

  -- so many calls were counted, and this was published last
  abbrev pub counted_in : World C → ℕ → ℕ → World C
  counted_in w n p = record w { core = record w.core { kept = counting w.core.kept n p } }

  module _ (old new : World C) (n p : ℕ) (who : Actor) (call : Call) where
    pub made_over : (d : Reply) → IsPresent old.core.kept who → DecidesAlong does old new who call (Ok d)
        → AppliesOver does (counted_in old n p) (counted_in new (if is_locked call then n + 1 else n) (if publishes call d.code then n + 1 else p)) who call
        (step.Done (record d { place = if is_locked call then n + 1 else (if is_getter call then p else 0) }))
    made_over d present x =
        let what : Call = call in
        let e = entry_of who what d in
        let same = counted_did old.core.kept n p x.reads e in
        record {
          reads = x.reads;
          own = x.own;
          each = rw same x.each;
          cells = rw (counted_calls old.core.kept n p x.reads e) x.cells;
          applies = made_answers old.core.kept new.core.kept n p who what old.lent new.lent d.code d.gives x.reads x.decides present;
          holds = rw same x.holds;
        }

    pub waits_over : DecidesAlong does old new who call (Err NotReady) → AppliesOver does (counted_in old n p) (counted_in new n p) who call step.NotReady
    waits_over x =
        let e = entry_by who call step.NotReady in
        record {
          reads = x.reads;
          own = x.own;
          each = x.each;
          cells = rw (counted_calls old.core.kept n p x.reads e) x.cells;
          applies = λ given short. waits_so old.core.kept new.core.kept n p who call old.lent new.lent x.reads x.decides given short;
          holds = x.holds;
        }
