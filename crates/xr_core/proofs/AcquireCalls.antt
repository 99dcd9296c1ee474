-- How an acquisition of an image is decided, by what its checks and the swapchain say.
use Rattle.std.proofs.Common.{◌≡◌, ◌++◌, ℕ, Bool, true, false, List, [], ◌∷◌, refl, sym, ap, ◌∙◌}
use Rattle.std.specs.Prelude.{Option, Ok, Err}
use Rattle.xr_types.specs.declared.calls.Answer.{Answer}
use Rattle.xr_types.specs.declared.calls.Gives.TheVariants.{Number}
use Rattle.xr_types.specs.declared.code.Code.{Code}
use Rattle.xr_types.specs.declared.code.Code.TheVariants.{Success, CallOrderInvalid}
use Rattle.xr_model.specs.machine.Chains.{chain_at, with_chain_at, is_acquire_wrong, acquiring, next_index}
use Rattle.xr_model.specs.machine.Refusals.{Refusal, when, first_of, unless}
use Rattle.xr_types.specs.declared.calls.Call.TheVariants as ask
use Rattle.xr_model.specs.machine.Rule.{ahead, nothing_done}
use Rattle.xr_model.specs.machine.SessionRule.{Loss, loss_of, code_on}
use Rattle.xr_model.specs.machine.Rules.Session.{life_of}
use Rattle.xr_model.specs.machine.Rules.Spaces.{session_above}
use Rattle.xr_model.specs.machine.Rules.Swapchains.{with_changed_chain, acquire_image_rule}
use Rattle.xr_model.specs.machine.State.{CoreState}
use Rattle.xr_model.specs.machine.PartAnswers.{or_refused, answer_by}
use Rattle.xr_core.specs.declared.halt.Halt.TheVariants.{Refused}
use Rattle.xr_core.specs.inside.Deciding.{Decides}
use Rattle.xr_core.proofs.Deciding.{err_decides, effect_decides, ok_none, success_found, then_err, then_ok}

module _ (s : CoreState) (chain : ℕ) where
  abbrev loss : Loss
  loss = loss_of (life_of s (session_above s.handles chain))

  abbrev success : Code
  success = code_on loss Success

  abbrev front : List Refusal
  front = ahead (acquire_image_rule s chain)

  abbrev order : Bool → List Refusal
  order wrong = when wrong CallOrderInvalid ∷ []

  abbrev full : List Refusal
  full = order (is_acquire_wrong (chain_at s.chains chain))

  -- nothing refuses the call ahead of the call order
  abbrev pub Passes : Type 0
  Passes = or_refused (first_of front) success ≡ Ok success

  -- what is kept once the swapchain acquired an image, or refused to
  abbrev pub acquired : Option Refusal → CoreState
  acquired r = record s { chains = unless r s.chains (with_chain_at chain acquiring s.chains) }

  pub acquire_refused : (code : Code) → or_refused (first_of front) success ≡ Err code → Decides s (ask.AcquireImage chain) s (Err (Refused code))
  acquire_refused code told = err_decides s (ask.AcquireImage chain) (acquire_image_rule s chain) success refl (λ who reads. refl) code (then_err front full success success code told)

  pub acquire_disordered : (a : Answer) → Passes → a ≡ answer_by (first_of full) (next_index (chain_at s.chains chain)) → (a.code ≡ Success → ⊥)
      → Decides s (ask.AcquireImage chain) (acquired (first_of full)) (Err (Refused a.code))
  acquire_disordered a passed is bad = by (is_acquire_wrong (chain_at s.chains chain)) refl is
    where
      by : (b : Bool) → is_acquire_wrong (chain_at s.chains chain) ≡ b → a ≡ answer_by (first_of (order b)) (next_index (chain_at s.chains chain)) → Decides s (ask.AcquireImage chain) (acquired (first_of (order b))) (Err (Refused a.code))
      by false e is = absurd (bad (rw is refl))
      by true e is = rw is (err_decides s (ask.AcquireImage chain) (acquire_image_rule s chain) success refl (λ who reads. refl) CallOrderInvalid (then_ok front full success success success passed ∙ rw e refl))

  pub acquire_done : (a : Answer) → Passes → a ≡ answer_by (first_of full) (next_index (chain_at s.chains chain)) → a.code ≡ Success
      → Decides s (ask.AcquireImage chain) (acquired (first_of full)) (Ok (record { code = success; gives = Number a.number; place = 0 }))
  acquire_done a passed is good = by (is_acquire_wrong (chain_at s.chains chain)) refl is
    where
      by : (b : Bool) → is_acquire_wrong (chain_at s.chains chain) ≡ b → a ≡ answer_by (first_of (order b)) (next_index (chain_at s.chains chain)) → Decides s (ask.AcquireImage chain) (acquired (first_of (order b))) (Ok (record { code = success; gives = Number a.number; place = 0 }))
      by true e is = let code : CallOrderInvalid ≡ Success = sym (ap (λ (x : Answer). x.code) is) ∙ good in cc
      by false e is =
          rw is (effect_decides s (ask.AcquireImage chain) (λ given. acquire_image_rule s chain) (with_changed_chain s chain acquiring) success (Number (next_index (chain_at s.chains chain))) nothing_done
          (λ who reads. refl) (ok_none (first_of (front ++ full)) success success (then_ok front full success success success passed ∙ rw e refl)).0 refl refl refl (success_found loss))
