use Rattle.std.proofs.Common.{rules, ◌≡◌, sym}
use Rattle.std.specs.Prelude.{Err}
use Rattle.xr_types.specs.declared.code.Code.TheVariants.{Success}
use Rattle.xr_model.specs.machine.Refusals.{first_of}
use Rattle.xr_model.specs.machine.Rule.{refusals}
use Rattle.xr_model.specs.machine.SessionRule.{loss_of, code_on}
use Rattle.xr_model.specs.machine.Rules.Session.{life_of}
use Rattle.xr_model.specs.machine.Rules.Swapchains.{create_swapchain_rule}
use Rattle.xr_core.specs.declared.halt.Halt.TheVariants.{Refused}
use Rattle.xr_core.proofs.Deciding.{ok_none}
use Rattle.xr_core.proofs.ChainCalls.{create_refused, create_done, may_create, room_where, place_where}
use Rattle.xr_core.proofs.parts.Parts.create_swapchain.Goals as goal

pub returns-in_err-success : goal.returns-in_err-success
returns-in_err-success g c =
    let is : c.from_residual.result ≡ Err (Refused (c.in_err-success.field-0.0)) = search rules in
    rw is (create_refused g.C.Cells.does c.args.self.now c.args.session c.args.format c.args.width c.args.height c.args.fixed (c.in_err-success.field-0.0) c.args.cells.now (sym (c.in_err-success.ensures c.args.fixed)))

pub new_swapchain-handle-requires-clause-room : goal.new_swapchain-handle-requires-clause-room
new_swapchain-handle-requires-clause-room g c =
    let s = c.args.self.now in
    let both = ok_none (first_of (refusals (create_swapchain_rule s 0 c.args.session c.args.format c.args.width c.args.height c.args.fixed))) (code_on (loss_of (life_of s c.args.session)) Success) c.in_ok-success.success (sym (c.in_ok-success.ensures c.args.fixed)) in
    room_where g.C.Cells.does s c.args.session c.args.format c.args.width c.args.height c.args.fixed both.0

pub new_swapchain-handle-requires-clause-place : goal.new_swapchain-handle-requires-clause-place
new_swapchain-handle-requires-clause-place g c =
    let s = c.args.self.now in
    let both = ok_none (first_of (refusals (create_swapchain_rule s 0 c.args.session c.args.format c.args.width c.args.height c.args.fixed))) (code_on (loss_of (life_of s c.args.session)) Success) c.in_ok-success.success (sym (c.in_ok-success.ensures c.args.fixed)) in
    place_where g.C.Cells.does s c.args.session c.args.format c.args.width c.args.height c.args.fixed both.0

pub new_swapchain-handle-requires-clause-may : goal.new_swapchain-handle-requires-clause-may
new_swapchain-handle-requires-clause-may g c =
    let s = c.args.self.now in
    let both = ok_none (first_of (refusals (create_swapchain_rule s 0 c.args.session c.args.format c.args.width c.args.height c.args.fixed))) (code_on (loss_of (life_of s c.args.session)) Success) c.in_ok-success.success (sym (c.in_ok-success.ensures c.args.fixed)) in
    may_create g.C.Cells.does s c.args.session c.args.format c.args.width c.args.height c.args.fixed g.C.Cells.may c.args.cells.now c.requires.may both.0

pub returns : goal.returns
returns g c =
    let s = c.args.self.now in
    let both = ok_none (first_of (refusals (create_swapchain_rule s 0 c.args.session c.args.format c.args.width c.args.height c.args.fixed))) (code_on (loss_of (life_of s c.args.session)) Success) c.in_ok-success.success (sym (c.in_ok-success.ensures c.args.fixed)) in
    rw (c.giving.ensures, both.1, c.new_swapchain-handle.ensures.state)
    (create_done g.C.Cells.does s c.args.session c.args.format c.args.width c.args.height c.args.fixed c.new_swapchain-handle.result c.args.cells.now c.new_swapchain-handle.new.cells both.0 c.new_swapchain-handle.ensures.fresh c.new_swapchain-handle.ensures.cells)
