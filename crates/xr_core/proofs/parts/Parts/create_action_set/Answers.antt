use Rattle.std.proofs.Common.{rules, ◌≡◌, ◌++◌, [], ◌∷◌, false, refl, sym}
use Rattle.std.specs.Prelude.{Err}
use Rattle.xr_types.specs.declared.calls.Gives.TheVariants.{Handle}
use Rattle.xr_types.specs.declared.code.Code.TheVariants.{Success, CallOrderInvalid}
use Rattle.xr_types.specs.declared.handles.Kind.TheVariants as kind
use Rattle.xr_model.specs.machine.Handles.{no_handle, no_room}
use Rattle.xr_model.specs.machine.Refusals.{when, first_of}
use Rattle.xr_types.specs.declared.calls.Call.TheVariants as ask
use Rattle.xr_model.specs.machine.Rule.{refusals, nothing_done}
use Rattle.xr_model.specs.machine.Rules.Sets.{create_action_set_rule, with_action_set}
use Rattle.xr_model.specs.machine.Sets.{set_checks}
use Rattle.xr_core.specs.declared.halt.Halt.TheVariants.{Refused}
use Rattle.xr_core.proofs.Deciding.{err_decides, effect_decides, ok_none, none_first, none_second, room_last}
use Rattle.xr_core.proofs.parts.Parts.create_action_set.Goals as goal

pub returns-in_err-may_create_action_set : goal.returns-in_err-may_create_action_set
returns-in_err-may_create_action_set c =
    let code = c.in_err-may_create_action_set.field-0.0 in
    let is : c.from_residual.result ≡ Err (Refused (c.in_err-may_create_action_set.field-0.0)) = search rules in
    rw is (err_decides c.args.self.now (ask.CreateActionSet c.args.instance c.args.name.now c.args.localized.now c.args.priority) (create_action_set_rule c.args.self.now 0 c.args.instance c.args.name.now c.args.localized.now c.args.priority) _ refl (λ who reads. refl) code (sym (c.in_err-may_create_action_set.ensures c.args.priority)))

pub new_set-handle-requires-clause-checked : goal.new_set-handle-requires-clause-checked
new_set-handle-requires-clause-checked c =
    let none = (ok_none (first_of (refusals (create_action_set_rule c.args.self.now 0 c.args.instance c.args.name.now c.args.localized.now c.args.priority))) _ _ (sym (c.in_ok-may_create_action_set.ensures c.args.priority))).0 in
    let behind = none_second (no_handle c.args.self.now.handles kind.Instance c.args.instance ∷ when false CallOrderInvalid ∷ []) (set_checks c.args.self.now.inputs c.args.name.now c.args.localized.now ++ no_room c.args.self.now.handles kind.ActionSet ∷ []) none in
    none_first (set_checks c.args.self.now.inputs c.args.name.now c.args.localized.now) (no_room c.args.self.now.handles kind.ActionSet ∷ []) behind

pub new_set-handle-requires-clause-room : goal.new_set-handle-requires-clause-room
new_set-handle-requires-clause-room c =
    let none = (ok_none (first_of (refusals (create_action_set_rule c.args.self.now 0 c.args.instance c.args.name.now c.args.localized.now c.args.priority))) _ _ (sym (c.in_ok-may_create_action_set.ensures c.args.priority))).0 in
    room_last (no_handle c.args.self.now.handles kind.Instance c.args.instance ∷ when false CallOrderInvalid ∷ set_checks c.args.self.now.inputs c.args.name.now c.args.localized.now) c.args.self.now.handles kind.ActionSet none

pub returns : goal.returns
returns c =
    let none = (ok_none (first_of (refusals (create_action_set_rule c.args.self.now 0 c.args.instance c.args.name.now c.args.localized.now c.args.priority))) _ _ (sym (c.in_ok-may_create_action_set.ensures c.args.priority))).0 in
    rw (c.giving.ensures, c.new_set-handle.ensures.state)
    (effect_decides c.args.self.now (ask.CreateActionSet c.args.instance c.args.name.now c.args.localized.now c.args.priority) (λ given. create_action_set_rule c.args.self.now given c.args.instance c.args.name.now c.args.localized.now c.args.priority)
    (with_action_set c.args.self.now c.args.instance c.new_set-handle.result c.args.name.now c.args.localized.now c.args.priority) Success (Handle c.new_set-handle.result) nothing_done (λ who reads. refl) none refl refl c.new_set-handle.ensures.fresh refl)
