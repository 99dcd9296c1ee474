use Rattle.std.proofs.Common.{rules, ◌≡◌, sym, ◌∙◌}
use Rattle.std.specs.Prelude.{Err}
use Rattle.xr_core.specs.declared.halt.Halt.TheVariants.{Refused}
use Rattle.xr_core.proofs.ChainCalls.{passed_by, ok_where, release_refused, released, release_kept, may_release}
use Rattle.xr_core.proofs.parts.Parts.release_image.Goals as goal

pub returns-in_err-success : goal.returns-in_err-success
returns-in_err-success g c =
    let is : c.from_residual.result ≡ Err (Refused (c.in_err-success.field-0.0)) = search rules in
    rw is (release_refused g.C.Cells.does c.args.self.now c.args.chain (c.in_err-success.field-0.0) c.args.cells.now (sym c.in_err-success.ensures))

pub release-requires : goal.release-requires
release-requires g c =
    let passed = passed_by c.args.self.now c.args.chain c.in_ok-success.success (sym c.in_ok-success.ensures) in
    record { may = may_release g.C.Cells.does c.args.self.now c.args.chain g.C.Cells.may c.args.cells.now c.requires.may passed.0 }

pub returns-in-Err : goal.returns-in-Err
returns-in-Err g c =
    let s = c.args.self.now in
    let passed = passed_by s c.args.chain c.in_ok-success.success (sym c.in_ok-success.ensures) in
    rw (c.refused.ensures, c.in-Err.ensures.state) (release_kept g.C.Cells.does s c.args.chain c.in-Err.code c.args.cells.now c.release.new.cells passed.0 (sym c.in-Err.ensures.code) c.release.ensures.cells)

pub returns : goal.returns
returns g c =
    let s = c.args.self.now in
    let passed = passed_by s c.args.chain c.in_ok-success.success (sym c.in_ok-success.ensures) in
    rw (c.done.ensures, passed.1, c.release.ensures.state) (released g.C.Cells.does s c.args.chain c.args.cells.now c.release.new.cells passed.0 (sym c.release.ensures.code ∙ ok_where c.release.result c.in_default.not-Err) c.release.ensures.cells)
