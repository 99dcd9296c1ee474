use Rattle.std.proofs.Common.{rules, ◌≡◌, ℤ, w64, to_z, of_z, subst, sym}
use Rattle.xr_model.specs.machine.Layers.{frame_checks}
use Rattle.xr_model.specs.machine.PartAnswers.{code_by}
use Rattle.xr_model.specs.machine.Refusals.{first_of}
use Rattle.xr_model.specs.machine.Rules.Frames.{look_of}
use Rattle.xr_model.specs.machine.State.{CoreState}
use Rattle.xr_core.proofs.CheckedFrame.{frame_after, unless_passed}
use Rattle.xr_core.proofs.Deciding.{passed, failed}
use Rattle.xr_core.proofs.Plain.{plain_layers}
use Rattle.xr_core.proofs.parts.Parts.check_frame.Goals as goal

pub returns-in-Success-clause-checks : goal.returns-in-Success-clause-checks
returns-in-Success-clause-checks c =
    let same : to_z w64 (of_z w64 c.args.time.now) ≡ c.args.time.now = search rules in
    let seen = subst (λ (s : CoreState). c.check.result ≡ code_by (first_of (frame_checks (look_of s c.args.session) (to_z w64 (of_z w64 c.args.time.now)) c.args.blend c.args.layers.now))) c.self.view_is c.check.ensures.code in
    let told = subst (λ (t : ℤ). c.check.result ≡ code_by (first_of (frame_checks (look_of c.args.self.now c.args.session) t c.args.blend c.args.layers.now))) same seen in
    sym (passed (frame_checks (look_of c.args.self.now c.args.session) c.args.time.now c.args.blend c.args.layers.now) c.check.result (plain_layers (look_of c.args.self.now c.args.session) c.args.layers.now) told c.in-Success.is)

pub returns-in-Success-clause-frame : goal.returns-in-Success-clause-frame
returns-in-Success-clause-frame c = λ good.
    let same : to_z w64 (of_z w64 c.args.time.now) ≡ c.args.time.now = search rules in
    let seen = subst (λ (s : CoreState). c.check.result ≡ code_by (first_of (frame_checks (look_of s c.args.session) (to_z w64 (of_z w64 c.args.time.now)) c.args.blend c.args.layers.now))) c.self.view_is c.check.ensures.code in
    let told = subst (λ (t : ℤ). c.check.result ≡ code_by (first_of (frame_checks (look_of c.args.self.now c.args.session) t c.args.blend c.args.layers.now))) same seen in
    let kept = subst (λ (t : ℤ). c.check.new.out ≡ frame_after (look_of c.args.self.now c.args.session) t c.args.blend c.args.layers.now c.args.frame.now) same (subst (λ (s : CoreState). c.check.new.out ≡ frame_after (look_of s c.args.session) (to_z w64 (of_z w64 c.args.time.now)) c.args.blend c.args.layers.now c.args.frame.now) c.self.view_is c.check.ensures.frame) in
    unless_passed (frame_checks (look_of c.args.self.now c.args.session) c.args.time.now c.args.blend c.args.layers.now) c.check.result (plain_layers (look_of c.args.self.now c.args.session) c.args.layers.now) told c.in-Success.is
    _ _ c.check.new.out kept

pub returns-in_default : goal.returns-in_default
returns-in_default c =
    let same : to_z w64 (of_z w64 c.args.time.now) ≡ c.args.time.now = search rules in
    let seen = subst (λ (s : CoreState). c.check.result ≡ code_by (first_of (frame_checks (look_of s c.args.session) (to_z w64 (of_z w64 c.args.time.now)) c.args.blend c.args.layers.now))) c.self.view_is c.check.ensures.code in
    let told = subst (λ (t : ℤ). c.check.result ≡ code_by (first_of (frame_checks (look_of c.args.self.now c.args.session) t c.args.blend c.args.layers.now))) same seen in
    record {
      checks = sym (failed (frame_checks (look_of c.args.self.now c.args.session) c.args.time.now c.args.blend c.args.layers.now) c.check.result told c.in_default.not-Success);
      frame = λ good. cc;
    }
