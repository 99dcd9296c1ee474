use Rattle.std.proofs.Common.{rules, ◌≡◌, refl, sym}
use Rattle.std.specs.Prelude.{Err}
use Rattle.xr_types.specs.declared.calls.Gives.TheVariants as gives
use Rattle.xr_types.specs.declared.code.Code.TheVariants.{Success}
use Rattle.xr_model.specs.machine.Frames.{waited_loop}
use Rattle.xr_model.specs.machine.Refusals.{first_of}
use Rattle.xr_types.specs.declared.calls.Call.TheVariants as ask
use Rattle.xr_model.specs.machine.Rule.{refusals, nothing_done}
use Rattle.xr_model.specs.machine.SessionRule.{loss_of, code_on}
use Rattle.xr_model.specs.machine.Rules.Frames.{wait_frame_rule, next_time, frame_state}
use Rattle.xr_model.specs.machine.Rules.Session.{life_of, loop_of, with_loop}
use Rattle.xr_core.specs.declared.halt.Halt.TheVariants.{Refused}
use Rattle.xr_core.proofs.Deciding.{err_decides, effect_decides, waits_decides, ok_none, success_found}
use Rattle.xr_core.proofs.FrameCalls.{live_passed}
use Rattle.xr_core.proofs.parts.Parts.wait_frame.Goals as goal

pub returns-in_err-success : goal.returns-in_err-success
returns-in_err-success c =
    let s = c.args.self.now in
    let success = code_on (loss_of (life_of s c.args.session)) Success in
    let is : c.from_residual.result ≡ Err (Refused (c.in_err-success.field-0.0)) = search rules in
    rw is (err_decides s (ask.WaitFrame c.args.session) (wait_frame_rule s c.args.session) success refl (λ who reads. refl) (c.in_err-success.field-0.0) (sym c.in_err-success.ensures))

pub returns-in-Some : goal.returns-in-Some
returns-in-Some c =
    let s = c.args.self.now in
    let success = code_on (loss_of (life_of s c.args.session)) Success in
    let both = ok_none (first_of (refusals (wait_frame_rule s c.args.session))) success c.in_ok-success.success (sym c.in_ok-success.ensures) in
    let made = c.in-Some.ensures in
    let state : c.in-Some.state ≡ frame_state s c.args.session = rw (made.predicts, c.is_seen-render.ensures) refl in
    rw (c.giving.ensures, both.1, state, made.waited)
    (effect_decides s (ask.WaitFrame c.args.session) (λ given. wait_frame_rule s c.args.session) (with_loop s c.args.session (waited_loop (loop_of s c.args.session) (next_time s c.args.session))) success (gives.Frame (frame_state s c.args.session)) nothing_done
    (λ who reads. refl) both.0 made.free refl refl (success_found (loss_of (life_of s c.args.session))))

pub returns-in-None : goal.returns-in-None
returns-in-None c =
    let s = c.args.self.now in
    let success = code_on (loss_of (life_of s c.args.session)) Success in
    let both = ok_none (first_of (refusals (wait_frame_rule s c.args.session))) success c.in_ok-success.success (sym c.in_ok-success.ensures) in
    let held = c.in-None.ensures.waits refl in
    rw held.1 (waits_decides s (ask.WaitFrame c.args.session) (wait_frame_rule s c.args.session) (λ who reads given. refl) both.0 held.0)

pub wait-requires : goal.wait-requires
wait-requires c =
    let s = c.args.self.now in
    record { live = live_passed s c.args.session (code_on (loss_of (life_of s c.args.session)) Success) c.in_ok-success.success (sym c.in_ok-success.ensures) }
