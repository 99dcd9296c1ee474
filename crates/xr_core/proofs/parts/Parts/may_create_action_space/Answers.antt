use Rattle.std.proofs.Common.{rules, ◌≡◌, [], ◌∷◌, ◌++◌, sym, ◌∙◌, false}
use Rattle.std.specs.Prelude.{Err}
use Rattle.xr_types.specs.declared.code.Code.TheVariants.{Success, CallOrderInvalid}
use Rattle.xr_types.specs.declared.handles.Kind.TheVariants as kind
use Rattle.xr_model.specs.machine.Handles.{no_handle, no_room}
use Rattle.xr_model.specs.machine.Refusals.{when}
use Rattle.xr_model.specs.machine.SessionLife.{is_lost}
use Rattle.xr_model.specs.machine.SessionRule.{loss_of, code_on}
use Rattle.xr_model.specs.machine.Rules.Session.{life_of}
use Rattle.xr_model.specs.machine.Rules.Sync.{action_space_checks}
use Rattle.xr_core.proofs.Deciding.{then_err, then_ok}
use Rattle.xr_core.proofs.parts.Parts.may_create_action_space.Goals as goal

pub returns-in_err-check_action_space : goal.returns-in_err-check_action_space
returns-in_err-check_action_space c =
    let s = c.args.self.now in
    let life = life_of s c.args.session in
    let success = code_on (loss_of life) Success in
    let checks = action_space_checks s c.args.action c.args.sub c.args.offset in
    let room = no_room s.handles kind.Space ∷ [] in
    let is : c.from_residual-in_err-check_action_space.result ≡ Err (c.in_err-check_action_space.field-0.0) = search rules in
    is ∙ sym (then_ok (no_handle s.handles kind.Session c.args.session ∷ []) (no_handle s.handles kind.Action c.args.action ∷ is_lost life ∷ when false CallOrderInvalid ∷ (checks ++ room)) tt tt success (sym c.in_ok-live.ensures)
    ∙ then_ok (no_handle s.handles kind.Action c.args.action ∷ []) (is_lost life ∷ when false CallOrderInvalid ∷ (checks ++ room)) tt tt success (sym c.in_ok-live-2.ensures)
    ∙ then_ok (is_lost life ∷ []) (when false CallOrderInvalid ∷ (checks ++ room)) success c.in_ok-success.success success (sym c.in_ok-success.ensures)
    ∙ then_err checks room tt success (c.in_err-check_action_space.field-0.0) (sym c.in_err-check_action_space.ensures))

pub returns-in_err-room : goal.returns-in_err-room
returns-in_err-room c =
    let s = c.args.self.now in
    let life = life_of s c.args.session in
    let success = code_on (loss_of life) Success in
    let checks = action_space_checks s c.args.action c.args.sub c.args.offset in
    let room = no_room s.handles kind.Space ∷ [] in
    let is : c.from_residual-in_err-room.result ≡ Err (c.in_err-room.field-0.0) = search rules in
    is ∙ sym (then_ok (no_handle s.handles kind.Session c.args.session ∷ []) (no_handle s.handles kind.Action c.args.action ∷ is_lost life ∷ when false CallOrderInvalid ∷ (checks ++ room)) tt tt success (sym c.in_ok-live.ensures)
    ∙ then_ok (no_handle s.handles kind.Action c.args.action ∷ []) (is_lost life ∷ when false CallOrderInvalid ∷ (checks ++ room)) tt tt success (sym c.in_ok-live-2.ensures)
    ∙ then_ok (is_lost life ∷ []) (when false CallOrderInvalid ∷ (checks ++ room)) success c.in_ok-success.success success (sym c.in_ok-success.ensures)
    ∙ then_ok checks room tt tt success (sym c.in_ok-check_action_space.ensures)
    ∙ then_err room [] tt success (c.in_err-room.field-0.0) (sym c.in_err-room.ensures))
