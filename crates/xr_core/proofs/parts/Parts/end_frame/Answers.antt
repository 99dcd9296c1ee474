use Rattle.std.proofs.Common.{rules, ◌≡◌, List, sym, ap, subst, ◌∙◌}
use Rattle.std.specs.Prelude.{Err}
use Rattle.xr_types.specs.declared.code.Code.TheVariants.{Success}
use Rattle.xr_types.specs.declared.frames.Image.{Image}
use Rattle.xr_types.specs.Frames.{PendingFrame}
use Rattle.xr_model.specs.machine.CellCalls.{pin_calls, MayCall, Leads}
use Rattle.xr_model.specs.machine.Refusals.{first_of}
use Rattle.xr_model.specs.machine.Rule.{refusals}
use Rattle.xr_model.specs.machine.SessionRule.{loss_of, code_on}
use Rattle.xr_model.specs.machine.Rules.Frames.{end_frame_rule, new_frame}
use Rattle.xr_model.specs.machine.Rules.Session.{life_of}
use Rattle.xr_core.specs.declared.halt.Halt.TheVariants.{Refused}
use Rattle.xr_core.proofs.Deciding.{ok_none}
use Rattle.xr_core.proofs.EndCalls.{end_refused, end_done, may_end, live_at_end, frame_ended}
use Rattle.xr_core.proofs.FrameCalls.{begun_where}
use Rattle.xr_core.proofs.parts.Parts.end_frame.Goals as goal

pub returns-in_err-success : goal.returns-in_err-success
returns-in_err-success g c =
    let is : c.from_residual.result ≡ Err (Refused (c.in_err-success.field-0.0)) = search rules in
    rw is (end_refused g.C.Cells.does c.args.self.now c.args.session c.args.time.now c.args.blend c.args.layers.now (c.in_err-success.field-0.0) c.args.cells.now (sym c.in_err-success.ensures.checks))

pub pin_all-requires : goal.pin_all-requires
pin_all-requires g c =
    let s = c.args.self.now in
    let both = ok_none (first_of (refusals (end_frame_rule s c.args.session c.args.time.now c.args.blend c.args.layers.now))) (code_on (loss_of (life_of s c.args.session)) Success) c.in_ok-success.success (sym c.in_ok-success.ensures.checks) in
    let images = c.as_slice.ensures.value ∙ ap (λ (f : PendingFrame). f.images) (c.frame.view_is ∙ c.in_ok-success.ensures.frame both.0) in
    subst (λ (is : List Image). MayCall g.C.Cells.may g.C.Cells.does c.args.cells.now (pin_calls is)) (sym images) (may_end g.C.Cells.does s c.args.session c.args.time.now c.args.blend c.args.layers.now g.C.Cells.may c.args.cells.now c.requires.may both.0)

pub returns : goal.returns
returns g c =
    let s = c.args.self.now in
    let both = ok_none (first_of (refusals (end_frame_rule s c.args.session c.args.time.now c.args.blend c.args.layers.now))) (code_on (loss_of (life_of s c.args.session)) Success) c.in_ok-success.success (sym c.in_ok-success.ensures.checks) in
    let frame = c.in_ok-success.ensures.frame both.0 in
    let images = c.as_slice.ensures.value ∙ ap (λ (f : PendingFrame). f.images) (c.frame.view_is ∙ frame) in
    let pinned = subst (λ (is : List Image). Leads g.C.Cells.does c.args.cells.now (pin_calls is) c.pin_all.new.cells) images c.pin_all.ensures in
    let new = new_frame s c.args.session c.args.time.now c.args.layers.now in
    rw (c.done.ensures, c.sync.ensures, c.submit.ensures, both.1, frame, frame_ended s c.args.session new)
    (end_done g.C.Cells.does s c.args.session c.args.time.now c.args.blend c.args.layers.now c.args.cells.now c.pin_all.new.cells both.0 pinned)

pub submit-requires : goal.submit-requires
submit-requires g c =
    let s = c.args.self.now in
    let both = ok_none (first_of (refusals (end_frame_rule s c.args.session c.args.time.now c.args.blend c.args.layers.now))) (code_on (loss_of (life_of s c.args.session)) Success) c.in_ok-success.success (sym c.in_ok-success.ensures.checks) in
    record {
      ended = c.requires.ended;
      live = live_at_end s c.args.session c.args.time.now c.args.blend c.args.layers.now both.0;
      begun = begun_where s c.args.session c.args.time.now c.args.blend c.args.layers.now both.0;
    }
