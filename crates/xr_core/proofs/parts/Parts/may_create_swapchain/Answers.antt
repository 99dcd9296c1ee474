use Rattle.std.proofs.Common.{rules, ◌≡◌, [], ◌∷◌, ◌++◌, sym, ◌∙◌}
use Rattle.std.specs.Prelude.{Err, false}
use Rattle.xr_types.specs.declared.code.Code.TheVariants.{Success, CallOrderInvalid}
use Rattle.xr_types.specs.declared.handles.Kind.TheVariants as kind
use Rattle.xr_model.specs.machine.Chains.{chain_checks, no_place}
use Rattle.xr_model.specs.machine.Handles.{no_handle, no_room}
use Rattle.xr_model.specs.machine.Refusals.{when}
use Rattle.xr_model.specs.machine.SessionLife.{is_lost}
use Rattle.xr_model.specs.machine.SessionRule.{loss_of, code_on}
use Rattle.xr_model.specs.machine.Rules.Session.{life_of}
use Rattle.xr_core.proofs.Deciding.{then_err, then_ok}
use Rattle.xr_core.proofs.parts.Parts.may_create_swapchain.Goals as goal

pub returns-in_err-room : goal.returns-in_err-room
returns-in_err-room c = λ fixed.
    let s = c.args.self.now in
    let life = life_of s c.args.session in
    let success = code_on (loss_of life) Success in
    let checks = chain_checks c.args.format c.args.width c.args.height in
    let place = no_place s.chains ∷ [] in
    let room = no_room s.handles kind.Swapchain ∷ [] in
    let is : c.from_residual-in_err-room.result ≡ Err (c.in_err-room.field-0.0) = search rules in
    is ∙ sym (then_ok (no_handle s.handles kind.Session c.args.session ∷ []) (is_lost life ∷ when false CallOrderInvalid ∷ (checks ++ (place ++ room))) tt tt success (sym c.in_ok-live.ensures)
    ∙ then_ok (is_lost life ∷ []) (when false CallOrderInvalid ∷ (checks ++ (place ++ room))) success c.in_ok-success.success success (sym c.in_ok-success.ensures)
    ∙ then_ok checks (place ++ room) tt tt success (sym c.in_ok-check_chain.ensures)
    ∙ then_ok place room tt tt success (sym c.in_ok-place.ensures)
    ∙ then_err room [] tt success (c.in_err-room.field-0.0) (sym c.in_err-room.ensures))
