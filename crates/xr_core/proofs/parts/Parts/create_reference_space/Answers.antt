use Rattle.std.proofs.Common.{rules, ◌≡◌, refl, sym}
use Rattle.std.specs.Prelude.{Err}
use Rattle.xr_types.specs.declared.calls.Gives.TheVariants.{Handle}
use Rattle.xr_types.specs.declared.code.Code.TheVariants.{Success}
use Rattle.xr_types.specs.declared.spaces.Root.TheVariants.{Fixed}
use Rattle.xr_model.specs.machine.Refusals.{first_of}
use Rattle.xr_types.specs.declared.calls.Call.TheVariants as ask
use Rattle.xr_model.specs.machine.Rule.{refusals, nothing_done}
use Rattle.xr_model.specs.machine.SessionRule.{loss_of, code_on}
use Rattle.xr_model.specs.machine.Rules.Session.{life_of}
use Rattle.xr_model.specs.machine.Rules.Spaces.{create_reference_space_rule, with_new_space}
use Rattle.xr_model.proofs.Successes.{success_succeeds}
use Rattle.xr_core.specs.declared.halt.Halt.TheVariants.{Refused}
use Rattle.xr_core.proofs.Deciding.{err_decides, effect_decides, ok_none, success_found}
use Rattle.xr_core.proofs.parts.Parts.create_reference_space.Goals as goal

pub returns-in_err-success : goal.returns-in_err-success
returns-in_err-success c =
    let is : c.from_residual.result ≡ Err (Refused (c.in_err-success.field-0.0)) = search rules in
    rw is (err_decides c.args.self.now (ask.CreateReferenceSpace c.args.session c.args.kind c.args.offset) (create_reference_space_rule c.args.self.now 0 c.args.session c.args.kind c.args.offset) (code_on (loss_of (life_of c.args.self.now c.args.session)) Success) refl (λ who reads. refl) (c.in_err-success.field-0.0) (sym c.in_err-success.ensures))

pub returns : goal.returns
returns c =
    let loss = loss_of (life_of c.args.self.now c.args.session) in
    let both = ok_none (first_of (refusals (create_reference_space_rule c.args.self.now 0 c.args.session c.args.kind c.args.offset))) (code_on (loss_of (life_of c.args.self.now c.args.session)) Success) c.in_ok-success.success (sym c.in_ok-success.ensures) in
    rw (c.giving.ensures, c.add_space-handle.ensures.state, both.1)
    (effect_decides c.args.self.now (ask.CreateReferenceSpace c.args.session c.args.kind c.args.offset) (λ given. create_reference_space_rule c.args.self.now given c.args.session c.args.kind c.args.offset)
    (with_new_space c.args.self.now c.args.session c.add_space-handle.result (Fixed c.args.kind) c.args.offset) (code_on (loss_of (life_of c.args.self.now c.args.session)) Success) (Handle c.add_space-handle.result) nothing_done
    (λ who reads. refl) both.0 refl refl (rw (success_succeeds loss) c.add_space-handle.ensures.fresh) (success_found loss))
