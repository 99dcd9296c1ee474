use Rattle.std.proofs.Common.{rules, ◌≡◌, Ok, Err, map, true, refl}
use Rattle.xr_model.specs.machine.PartAnswers.{or_refused}
use Rattle.xr_model.specs.machine.Refusals.{first_of}
use Rattle.xr_types.specs.declared.calls.Call.TheVariants as ask
use Rattle.xr_model.specs.machine.Rule.{refusals}
use Rattle.xr_model.specs.machine.Rules.Session.{life_of}
use Rattle.xr_model.specs.machine.Rules.Sync.{heard_by, sync_actions_rule}
use Rattle.xr_model.specs.machine.SessionLife.{is_state}
use Rattle.xr_types.specs.declared.session.SessionState.TheVariants.{Focused}
use Rattle.xr_core.specs.declared.halt.Halt.TheVariants.{Refused}
use Rattle.xr_core.proofs.Deciding.{err_decides, ok_none}
use Rattle.xr_core.proofs.SyncCalls.{sync_decides}
use Rattle.xr_core.proofs.parts.Parts.sync_actions.Goals as goal

pub returns-in_err-may_sync_actions : goal.returns-in_err-may_sync_actions
returns-in_err-may_sync_actions c =
    let is : c.from_residual.result ≡ Err (Refused (c.in_err-may_sync_actions.field-0.0)) = search rules in
    let told : or_refused (first_of (refusals (sync_actions_rule c.args.self.now c.args.session c.args.active.now))) (map (heard_by c.args.self.now) c.args.active.now) ≡ Err (c.in_err-may_sync_actions.field-0.0) = search rules in
    rw is (err_decides c.args.self.now (ask.SyncActions c.args.session c.args.active.now) (sync_actions_rule c.args.self.now c.args.session c.args.active.now) (map (heard_by c.args.self.now) c.args.active.now) refl (λ who reads. refl) (c.in_err-may_sync_actions.field-0.0) told)

pub returns : goal.returns
returns c =
    let s = c.args.self.now in
    let focused : is_state (life_of s c.args.session).state Focused ≡ true = search rules in
    let told : or_refused (first_of (refusals (sync_actions_rule s c.args.session c.args.active.now))) (map (heard_by s) c.args.active.now) ≡ Ok c.may_sync_actions.new.heard.items = search rules in
    let both = ok_none (first_of (refusals (sync_actions_rule s c.args.session c.args.active.now))) (map (heard_by s) c.args.active.now) c.may_sync_actions.new.heard.items told in
    rw (c.done-2.ensures, c.sync_columns.ensures, c.as_slice.ensures.value, both.1) (sync_decides s c.args.session c.args.active.now focused both.0)
