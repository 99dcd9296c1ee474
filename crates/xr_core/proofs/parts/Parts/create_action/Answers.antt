use Rattle.std.proofs.Common.{rules, ◌≡◌, refl, sym}
use Rattle.std.specs.Prelude.{Err}
use Rattle.xr_types.specs.declared.calls.Gives.TheVariants.{Handle}
use Rattle.xr_types.specs.declared.code.Code.TheVariants.{Success}
use Rattle.xr_model.specs.machine.Refusals.{first_of}
use Rattle.xr_types.specs.declared.calls.Call.TheVariants as ask
use Rattle.xr_model.specs.machine.Rule.{refusals, nothing_done}
use Rattle.xr_model.specs.machine.Rules.Sets.{create_action_rule, with_new_action, new_action, declared_by}
use Rattle.xr_model.specs.machine.Sets.{no_users}
use Rattle.xr_core.specs.declared.halt.Halt.TheVariants.{Refused}
use Rattle.xr_core.proofs.Deciding.{err_decides, effect_decides, ok_none}
use Rattle.xr_core.proofs.SetCalls.{name_none, label_none, action_room}
use Rattle.xr_core.proofs.parts.Parts.create_action.Goals as goal

pub returns-in_err-declared : goal.returns-in_err-declared
returns-in_err-declared c =
    let is : c.from_residual.result ≡ Err (Refused (c.in_err-declared.field-0.0)) = search rules in
    rw is (err_decides c.args.self.now (ask.CreateAction c.args.set c.args.name.now c.args.kind c.args.subs.now c.args.localized.now) (create_action_rule c.args.self.now 0 c.args.set c.args.name.now c.args.kind c.args.subs.now c.args.localized.now)
    (declared_by c.args.self.now.atoms no_users c.args.subs.now) refl (λ who reads. refl) (c.in_err-declared.field-0.0) (sym (c.in_err-declared.ensures c.args.kind)))

pub new_action-handle-requires-clause-name : goal.new_action-handle-requires-clause-name
new_action-handle-requires-clause-name c = name_none c.args.self.now c.args.set c.args.name.now c.args.kind c.args.subs.now c.args.localized.now (ok_none (first_of (refusals (create_action_rule c.args.self.now 0 c.args.set c.args.name.now c.args.kind c.args.subs.now c.args.localized.now))) (declared_by c.args.self.now.atoms no_users c.args.subs.now) _ (sym (c.in_ok-declared.ensures c.args.kind))).0

pub new_action-handle-requires-clause-label : goal.new_action-handle-requires-clause-label
new_action-handle-requires-clause-label c = label_none c.args.self.now c.args.set c.args.name.now c.args.kind c.args.subs.now c.args.localized.now (ok_none (first_of (refusals (create_action_rule c.args.self.now 0 c.args.set c.args.name.now c.args.kind c.args.subs.now c.args.localized.now))) (declared_by c.args.self.now.atoms no_users c.args.subs.now) _ (sym (c.in_ok-declared.ensures c.args.kind))).0

pub new_action-handle-requires-clause-room : goal.new_action-handle-requires-clause-room
new_action-handle-requires-clause-room c = action_room c.args.self.now c.args.set c.args.name.now c.args.kind c.args.subs.now c.args.localized.now (ok_none (first_of (refusals (create_action_rule c.args.self.now 0 c.args.set c.args.name.now c.args.kind c.args.subs.now c.args.localized.now))) (declared_by c.args.self.now.atoms no_users c.args.subs.now) _ (sym (c.in_ok-declared.ensures c.args.kind))).0

pub returns : goal.returns
returns c =
    let both = ok_none (first_of (refusals (create_action_rule c.args.self.now 0 c.args.set c.args.name.now c.args.kind c.args.subs.now c.args.localized.now))) (declared_by c.args.self.now.atoms no_users c.args.subs.now) _ (sym (c.in_ok-declared.ensures c.args.kind)) in
    rw (c.giving.ensures, c.new_action-handle.ensures.state, both.1)
    (effect_decides c.args.self.now (ask.CreateAction c.args.set c.args.name.now c.args.kind c.args.subs.now c.args.localized.now) (λ given. create_action_rule c.args.self.now given c.args.set c.args.name.now c.args.kind c.args.subs.now c.args.localized.now)
    (with_new_action c.args.self.now c.new_action-handle.result (new_action c.args.self.now c.new_action-handle.result c.args.set c.args.name.now c.args.kind c.args.subs.now c.args.localized.now)) Success (Handle c.new_action-handle.result) nothing_done (λ who reads. refl) both.0 refl refl c.new_action-handle.ensures.fresh refl)
