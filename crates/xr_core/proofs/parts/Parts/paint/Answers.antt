use Rattle.std.proofs.Common.{rules, ◌≡◌, sym, subst}
use Rattle.std.specs.Prelude.{Err}
use Rattle.xr_types.specs.declared.frames.Image.{Image}
use Rattle.xr_model.specs.machine.CellCalls.{stamp}
use Rattle.xr_model.specs.machine.Chains.{chain_at, is_paint_wrong, oldest_image}
use Rattle.xr_core.specs.declared.halt.Halt.TheVariants.{Refused}
use Rattle.xr_core.proofs.ChainCalls.{passed_by, right_where, paint_refused, paint_disordered, paint_done, may_paint}
use Rattle.xr_core.proofs.parts.Parts.paint.Goals as goal

pub returns-in_err-success : goal.returns-in_err-success
returns-in_err-success g c =
    let is : c.from_residual.result ≡ Err (Refused (c.in_err-success.field-0.0)) = search rules in
    rw is (paint_refused g.C.Cells.does c.args.self.now c.args.chain c.args.stamp (c.in_err-success.field-0.0) c.args.cells.now (sym c.in_err-success.ensures))

pub returns-in_err-image : goal.returns-in_err-image
returns-in_err-image g c =
    let s = c.args.self.now in
    let passed = passed_by s c.args.chain c.in_ok-success.success (sym c.in_ok-success.ensures) in
    let is : c.from_residual-in_err-image.result ≡ Err (Refused (c.in_err-image.field-0.0)) = search rules in
    rw is (paint_disordered g.C.Cells.does s c.args.chain c.args.stamp (oldest_image s.chains c.args.chain) (c.in_err-image.field-0.0) c.args.cells.now passed.0 (sym c.in_err-image.ensures))

pub stamp-requires : goal.stamp-requires
stamp-requires g c =
    let s = c.args.self.now in
    let passed = passed_by s c.args.chain c.in_ok-success.success (sym c.in_ok-success.ensures) in
    let right = right_where (is_paint_wrong (chain_at s.chains c.args.chain)) (oldest_image s.chains c.args.chain) c.in_ok-image.image (sym c.in_ok-image.ensures) in
    subst (λ (i : Image). g.C.Cells.may c.args.cells.now (stamp i c.args.stamp)) (sym right.1) (may_paint g.C.Cells.does s c.args.chain c.args.stamp g.C.Cells.may c.args.cells.now c.requires.may passed.0 right.0)

pub returns : goal.returns
returns g c =
    let s = c.args.self.now in
    let passed = passed_by s c.args.chain c.in_ok-success.success (sym c.in_ok-success.ensures) in
    let right = right_where (is_paint_wrong (chain_at s.chains c.args.chain)) (oldest_image s.chains c.args.chain) c.in_ok-image.image (sym c.in_ok-image.ensures) in
    let painted = c.stamp.ensures in
    rw (c.done.ensures, passed.1) (paint_done g.C.Cells.does s c.args.chain c.args.stamp c.args.cells.now c.stamp.new.self passed.0 right.0 (rw right.1 at painted))
