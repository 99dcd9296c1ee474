use Rattle.std.proofs.Common.{rules, ◌≡◌, sym, subst}
use Rattle.std.specs.Prelude.{Err}
use Rattle.xr_core.specs.declared.halt.Halt.TheVariants.{Refused}
use Rattle.xr_model.specs.machine.State.{CoreState}
use Rattle.xr_core.proofs.ChainCalls.{passed_by}
use Rattle.xr_core.proofs.AcquireCalls.{Passes, acquire_refused, acquire_disordered, acquire_done}
use Rattle.xr_core.proofs.parts.Parts.acquire_image.Goals as goal

pub returns-in_err-success : goal.returns-in_err-success
returns-in_err-success c =
    let is : c.from_residual.result ≡ Err (Refused (c.in_err-success.field-0.0)) = search rules in
    rw is (acquire_refused c.args.self.now c.args.chain (c.in_err-success.field-0.0) (sym c.in_err-success.ensures))

pub returns : goal.returns
returns c =
    let passed = passed_by c.args.self.now c.args.chain c.in_ok-success.success (sym c.in_ok-success.ensures) in
    rw (c.giving.ensures, passed.1, c.acquire-answer.ensures.chains, ← c.self.view_is) (acquire_done _ c.args.chain c.acquire-answer.result (subst (λ (s : CoreState). Passes s c.args.chain) (sym c.self.view_is) passed.0) c.acquire-answer.ensures.answer c.in-Success.is)

pub returns-in_default : goal.returns-in_default
returns-in_default c =
    let passed = passed_by c.args.self.now c.args.chain c.in_ok-success.success (sym c.in_ok-success.ensures) in
    rw (c.refused.ensures, c.acquire-answer.ensures.chains, ← c.self.view_is) (acquire_disordered _ c.args.chain c.acquire-answer.result (subst (λ (s : CoreState). Passes s c.args.chain) (sym c.self.view_is) passed.0) c.acquire-answer.ensures.answer c.in_default.not-Success)
