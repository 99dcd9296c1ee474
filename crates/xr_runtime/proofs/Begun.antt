-- A wait for an image begins at the clock of its pass, and any other call is made as it is.
use Rattle.std.proofs.Common.{◌≡◌, ℕ, ℤ, List, true, true≢false, refl, sym, subst}
use Rattle.atomic_table.specs.Seated.{TableId}
use Rattle.xr_types.specs.declared.calls.Call.{Call}
use Rattle.xr_types.specs.declared.calls.Call.TheVariants as ask
use Rattle.xr_types.specs.declared.calls.Reply.{Reply}
use Rattle.xr_model.specs.machine.CoreCalls.{Lent}
use Rattle.xr_types.specs.CallKinds.{is_getter, with_start}
use Rattle.xr_runtime.specs.Passes.{AppCalls, AnswersText}
use Rattle.xr_runtime.specs.declared.passes.AppPass.{AppPass}

no_wait : (clock : ℤ) (k : Call) → ((chain : ℕ) (timeout start : ℤ) → k ≡ ask.WaitImage chain timeout start → ⊥) → k ≡ with_start clock k
no_wait clock (ask.WaitImage chain timeout start) other = absurd (other chain timeout start refl)
no_wait clock _ other = refl

module _ (table : TableId) (old new : AppPass) (k : Call) (before after : Lent) (reply : Reply) where
  pub as_it_is : ((chain : ℕ) (timeout start : ℤ) → k ≡ ask.WaitImage chain timeout start → ⊥) → AppCalls table old k before after reply new
      → AppCalls table old (with_start old.clock k) before after reply new
  as_it_is other c = subst (λ (q : Call). AppCalls table old q before after reply new) (no_wait old.clock k other) c

  pub begins : (chain : ℕ) (timeout start t s : ℤ) → k ≡ ask.WaitImage chain timeout start → t ≡ timeout → s ≡ old.clock → AppCalls table old (ask.WaitImage chain t s) before after reply new
      → AppCalls table old (with_start old.clock k) before after reply new
  begins chain timeout start t s is waits begun c =
      let long = subst (λ (z : ℤ). AppCalls table old (ask.WaitImage chain z s) before after reply new) waits c in
      let from = subst (λ (z : ℤ). AppCalls table old (ask.WaitImage chain timeout z) before after reply new) begun long in
      subst (λ (l : Call). AppCalls table old (with_start old.clock l) before after reply new) (sym is) from

getters_begin_nothing : (clock : ℤ) (k : Call) → is_getter k ≡ true → k ≡ with_start clock k
getters_begin_nothing clock (ask.WaitImage chain timeout start) is = absurd (true≢false (sym is))
getters_begin_nothing clock _ is = refl

pub as_read : (table : TableId) (old new : AppPass) (k : Call) (text : List ℕ) (reply : Reply) → is_getter k ≡ true → AnswersText table old k text text reply new → AnswersText table old (with_start old.clock k) text text reply new
as_read table old new k text reply is c = subst (λ (q : Call). AnswersText table old q text text reply new) (getters_begin_nothing old.clock k is) c
