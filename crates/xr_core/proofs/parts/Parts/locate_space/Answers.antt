use Rattle.std.proofs.Common.{rules, ◌≡◌, refl}
use Rattle.std.specs.Prelude.{Ok, Err, unwrap_or}
use Rattle.xr_types.specs.declared.calls.Gives.TheVariants.{Location}
use Rattle.xr_types.specs.declared.code.Code.TheVariants.{Success}
use Rattle.xr_types.specs.declared.spaces.Location.TheVariants.{Missing}
use Rattle.xr_model.specs.machine.Refusals.{first_of}
use Rattle.xr_types.specs.declared.calls.Call.TheVariants as ask
use Rattle.xr_model.specs.machine.Rule.{refusals, nothing_done}
use Rattle.xr_model.specs.machine.SessionRule.{loss_of, code_on}
use Rattle.xr_model.specs.machine.Spaces.{located}
use Rattle.xr_model.specs.machine.Rules.Session.{life_of, columns_of}
use Rattle.xr_model.specs.machine.Rules.Spaces.{locate_space_rule, session_above}
use Rattle.xr_model.specs.machine.PartAnswers.{or_refused}
use Rattle.xr_core.specs.declared.halt.Halt.TheVariants.{Refused}
use Rattle.xr_core.proofs.Deciding.{err_decides, effect_decides, ok_none, success_found}
use Rattle.xr_core.proofs.parts.Parts.locate_space.Goals as goal

pub returns-in_err-success : goal.returns-in_err-success
returns-in_err-success c =
    let is : c.from_residual.result ≡ Err (Refused (c.in_err-success.field-0.0)) = search rules in
    let told : or_refused (first_of (refusals (locate_space_rule c.args.self.now c.args.space c.args.base c.args.time.now))) (code_on (loss_of (life_of c.args.self.now (session_above c.args.self.now.handles c.args.space))) Success) ≡ Err (c.in_err-success.field-0.0) = search rules in
    rw is (err_decides c.args.self.now (ask.LocateSpace c.args.space c.args.base c.args.time.now) (locate_space_rule c.args.self.now c.args.space c.args.base c.args.time.now) (code_on (loss_of (life_of c.args.self.now (session_above c.args.self.now.handles c.args.space))) Success) refl (λ who reads. refl) (c.in_err-success.field-0.0) told)

pub returns : goal.returns
returns c =
    let loss = loss_of (life_of c.args.self.now (session_above c.args.self.now.handles c.args.space)) in
    let told : or_refused (first_of (refusals (locate_space_rule c.args.self.now c.args.space c.args.base c.args.time.now))) (code_on (loss_of (life_of c.args.self.now (session_above c.args.self.now.handles c.args.space))) Success) ≡ Ok c.in_ok-success.success = search rules in
    let both = ok_none (first_of (refusals (locate_space_rule c.args.self.now c.args.space c.args.base c.args.time.now))) (code_on (loss_of (life_of c.args.self.now (session_above c.args.self.now.handles c.args.space))) Success) c.in_ok-success.success told in
    let found : c.unwrap_or.result ≡ unwrap_or (located c.args.self.now.room (record { columns = columns_of c.args.self.now (session_above c.args.self.now.handles c.args.space) }) c.args.space c.args.base c.args.time.now) Missing = search rules in
    rw (c.giving.ensures, both.1, found)
    (effect_decides c.args.self.now (ask.LocateSpace c.args.space c.args.base c.args.time.now) (λ given. locate_space_rule c.args.self.now c.args.space c.args.base c.args.time.now)
    c.args.self.now (code_on (loss_of (life_of c.args.self.now (session_above c.args.self.now.handles c.args.space))) Success) (Location (unwrap_or (located c.args.self.now.room (record { columns = columns_of c.args.self.now (session_above c.args.self.now.handles c.args.space) }) c.args.space c.args.base c.args.time.now) Missing)) nothing_done
    (λ who reads. refl) both.0 refl refl refl (success_found loss))
