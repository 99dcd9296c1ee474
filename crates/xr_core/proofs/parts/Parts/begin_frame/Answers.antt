use Rattle.std.proofs.Common.{rules, ◌≡◌, sym, ap, subst, ◌∙◌}
use Rattle.std.specs.Prelude.{Ok, Err, if◌then◌else◌}
use Rattle.xr_types.specs.declared.code.Code.{Code}
use Rattle.xr_types.specs.declared.code.Code.TheVariants.{Success, CallOrderInvalid, FrameDiscarded}
use Rattle.xr_model.specs.machine.Refusals.{first_of}
use Rattle.xr_model.specs.machine.Rule.{ahead}
use Rattle.xr_model.specs.machine.Rules.Frames.{wait_frame_rule}
use Rattle.xr_model.specs.machine.Rules.Session.{life_of, loop_of}
use Rattle.xr_model.specs.machine.SessionRule.{loss_of, code_on}
use Rattle.xr_core.specs.declared.halt.Halt.TheVariants.{Refused}
use Rattle.xr_core.proofs.Deciding.{ok_none}
use Rattle.xr_core.proofs.FrameCalls.{live_passed, begin_refused, begin_disordered, begin_done}
use Rattle.xr_core.proofs.parts.Parts.begin_frame.Goals as goal

pub returns-in_err-success : goal.returns-in_err-success
returns-in_err-success c =
    let is : c.from_residual.result ≡ Err (Refused (c.in_err-success.field-0.0)) = search rules in
    rw is (begin_refused c.args.self.now c.args.session (c.in_err-success.field-0.0) (sym c.in_err-success.ensures))

pub returns-in_err-code : goal.returns-in_err-code
returns-in_err-code c =
    let s = c.args.self.now in
    let both = ok_none (first_of (ahead (wait_frame_rule s c.args.session))) (code_on (loss_of (life_of s c.args.session)) Success) c.in_ok-success.success (sym c.in_ok-success.ensures) in
    let is : c.from_residual-in_err-code.result ≡ Err (Refused (c.in_err-code.field-0.0)) = search rules in
    rw is
    (begin_disordered s c.args.session (c.in_err-code.field-0.0) c.begin.new.self (sym c.in_ok-success.ensures ∙ ap Ok both.1)
    (subst (λ (x : Code). Err (c.in_err-code.field-0.0) ≡ (if (loop_of s c.args.session).has_waited then Ok (if (loop_of s c.args.session).has_begun then FrameDiscarded else x) else Err CallOrderInvalid)) both.1 c.in_err-code.ensures.code) c.begin.ensures.state)

pub returns : goal.returns
returns c =
    let s = c.args.self.now in
    let both = ok_none (first_of (ahead (wait_frame_rule s c.args.session))) (code_on (loss_of (life_of s c.args.session)) Success) c.in_ok-success.success (sym c.in_ok-success.ensures) in
    rw c.done.ensures
    (begin_done s c.args.session c.in_ok-code.code c.begin.new.self (sym c.in_ok-success.ensures ∙ ap Ok both.1)
    (subst (λ (x : Code). Ok c.in_ok-code.code ≡ (if (loop_of s c.args.session).has_waited then Ok (if (loop_of s c.args.session).has_begun then FrameDiscarded else x) else Err CallOrderInvalid)) both.1 c.in_ok-code.ensures.code) c.begin.ensures.state)

pub begin-requires : goal.begin-requires
begin-requires c =
    let s = c.args.self.now in
    record { live = live_passed s c.args.session (code_on (loss_of (life_of s c.args.session)) Success) c.in_ok-success.success (sym c.in_ok-success.ensures) }
