use Rattle.std.proofs.Common.{rules, ◌≡◌, [], ◌∷◌, sym, ap, ◌∙◌}
use Rattle.std.specs.Prelude.{Ok, Err}
use Rattle.xr_types.specs.declared.handles.Kind.TheVariants as kind
use Rattle.xr_model.specs.machine.Handles.{no_room}
use Rattle.xr_model.specs.machine.Sets.{no_users}
use Rattle.xr_model.specs.machine.State.{CoreState}
use Rattle.xr_model.specs.machine.Rules.Sets.{declared_by}
use Rattle.xr_core.proofs.Deciding.{then_err, then_ok}
use Rattle.xr_core.proofs.SetCalls.{refused_by_name, refused_by_subs, refused_by_label, behind_label}
use Rattle.xr_core.proofs.parts.Parts.may_create_action.Goals as goal

pub returns-in_err-check_action : goal.returns-in_err-check_action
returns-in_err-check_action c type =
    let is : c.from_residual-in_err-check_action.result ≡ Err (c.in_err-check_action.field-0.0) = search rules in
    is ∙ sym (refused_by_name c.args.self.now c.args.set c.args.name.now type c.args.subs.now c.args.localized.now (declared_by c.args.self.now.atoms no_users c.args.subs.now) (sym c.in_ok-live.ensures) (c.in_err-check_action.field-0.0) (sym c.in_err-check_action.ensures))

pub returns-in_err-declared : goal.returns-in_err-declared
returns-in_err-declared c type =
    let is : c.from_residual-in_err-declared.result ≡ Err (c.in_err-declared.field-0.0) = search rules in
    let atoms = ap (λ (s : CoreState). s.atoms) c.self.view_is in
    is ∙ sym (refused_by_subs c.args.self.now c.args.set c.args.name.now type c.args.subs.now c.args.localized.now (declared_by c.args.self.now.atoms no_users c.args.subs.now) (sym c.in_ok-live.ensures) (sym c.in_ok-check_action.ensures) (declared_by c.args.self.now.atoms no_users c.args.subs.now) (c.in_err-declared.field-0.0) (rw (← atoms) (sym c.in_err-declared.ensures)))

pub returns-in_err-check_label : goal.returns-in_err-check_label
returns-in_err-check_label c type =
    let is : c.from_residual-in_err-check_label.result ≡ Err (c.in_err-check_label.field-0.0) = search rules in
    let atoms = ap (λ (s : CoreState). s.atoms) c.self.view_is in
    is ∙ sym (refused_by_label c.args.self.now c.args.set c.args.name.now type c.args.subs.now c.args.localized.now (declared_by c.args.self.now.atoms no_users c.args.subs.now) (sym c.in_ok-live.ensures) (sym c.in_ok-check_action.ensures) (declared_by c.args.self.now.atoms no_users c.args.subs.now) c.in_ok-declared.declared (rw (← atoms) (sym c.in_ok-declared.ensures)) (c.in_err-check_label.field-0.0) (sym c.in_err-check_label.ensures))

pub returns-in_err-room : goal.returns-in_err-room
returns-in_err-room c type =
    let is : c.from_residual-in_err-room.result ≡ Err (c.in_err-room.field-0.0) = search rules in
    let atoms = ap (λ (s : CoreState). s.atoms) c.self.view_is in
    is ∙ sym (behind_label c.args.self.now c.args.set c.args.name.now type c.args.subs.now c.args.localized.now (declared_by c.args.self.now.atoms no_users c.args.subs.now) (sym c.in_ok-live.ensures) (sym c.in_ok-check_action.ensures) (declared_by c.args.self.now.atoms no_users c.args.subs.now) c.in_ok-declared.declared (rw (← atoms) (sym c.in_ok-declared.ensures)) (sym c.in_ok-check_label.ensures)
    ∙ then_err (no_room c.args.self.now.handles kind.Action ∷ []) [] tt (declared_by c.args.self.now.atoms no_users c.args.subs.now) (c.in_err-room.field-0.0) (sym c.in_err-room.ensures))

pub returns : goal.returns
returns c type =
    let atoms = ap (λ (s : CoreState). s.atoms) c.self.view_is in
    let is : c.in_ok-declared.declared ≡ declared_by c.args.self.now.atoms no_users c.args.subs.now = search rules in
    ap Ok is ∙ sym (behind_label c.args.self.now c.args.set c.args.name.now type c.args.subs.now c.args.localized.now (declared_by c.args.self.now.atoms no_users c.args.subs.now) (sym c.in_ok-live.ensures) (sym c.in_ok-check_action.ensures) (declared_by c.args.self.now.atoms no_users c.args.subs.now) c.in_ok-declared.declared (rw (← atoms) (sym c.in_ok-declared.ensures)) (sym c.in_ok-check_label.ensures)
    ∙ then_ok (no_room c.args.self.now.handles kind.Action ∷ []) [] tt tt (declared_by c.args.self.now.atoms no_users c.args.subs.now) (sym c.in_ok-room.ensures))
