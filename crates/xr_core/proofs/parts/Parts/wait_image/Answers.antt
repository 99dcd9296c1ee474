use Rattle.std.proofs.Common.{rules, ◌≡◌, Bool, true, false, sym, subst, ◌∙◌}
use Rattle.std.specs.Prelude.{Err}
use Rattle.xr_types.specs.declared.frames.Image.{Image}
use Rattle.xr_model.specs.machine.CellCalls.{claim}
use Rattle.xr_model.specs.machine.Chains.{chain_at, is_wait_wrong, oldest_image}
use Rattle.xr_core.specs.declared.halt.Halt.TheVariants.{Refused}
use Rattle.xr_core.proofs.ChainCalls.{passed_by, right_where, wait_refused, wait_disordered, wait_done, wait_late, wait_waits, may_claim}
use Rattle.xr_core.proofs.parts.Parts.wait_image.Goals as goal

pub returns-in_err-success : goal.returns-in_err-success
returns-in_err-success g c =
    let is : c.from_residual.result ≡ Err (Refused (c.in_err-success.field-0.0)) = search rules in
    rw is (wait_refused g.C.Cells.does c.args.self.now c.args.chain c.args.timeout.now c.args.start.now (c.in_err-success.field-0.0) c.args.cells.now (sym c.in_err-success.ensures))

pub returns-in_err-image : goal.returns-in_err-image
returns-in_err-image g c =
    let s = c.args.self.now in
    let passed = passed_by s c.args.chain c.in_ok-success.success (sym c.in_ok-success.ensures) in
    let is : c.from_residual-in_err-image.result ≡ Err (Refused (c.in_err-image.field-0.0)) = search rules in
    rw is (wait_disordered g.C.Cells.does s c.args.chain c.args.timeout.now c.args.start.now (oldest_image s.chains c.args.chain) (c.in_err-image.field-0.0) c.args.cells.now passed.0 (sym c.in_err-image.ensures))

pub claim-requires : goal.claim-requires
claim-requires g c = λ answer.
    let s = c.args.self.now in
    let passed = passed_by s c.args.chain c.in_ok-success.success (sym c.in_ok-success.ensures) in
    let right = right_where (is_wait_wrong (chain_at s.chains c.args.chain)) (oldest_image s.chains c.args.chain) c.in_ok-image.image (sym c.in_ok-image.ensures) in
    subst (λ (i : Image). g.C.Cells.may c.args.cells.now (claim i answer)) (sym right.1) (may_claim g.C.Cells.does s c.args.chain c.args.timeout.now c.args.start.now passed.0 right.0 g.C.Cells.may c.args.cells.now c.requires.may answer)

pub returns-then-claim : goal.returns-then-claim
returns-then-claim g c =
    let s = c.args.self.now in
    let passed = passed_by s c.args.chain c.in_ok-success.success (sym c.in_ok-success.ensures) in
    let right = right_where (is_wait_wrong (chain_at s.chains c.args.chain)) (oldest_image s.chains c.args.chain) c.in_ok-image.image (sym c.in_ok-image.ensures) in
    let told = subst (λ (i : Image). g.C.Cells.does c.args.cells.now (claim i true) c.claim.new.self) right.1 (subst (λ (b : Bool). g.C.Cells.does c.args.cells.now (claim c.in_ok-image.image b) c.claim.new.self) c.if-claim.true c.claim.ensures) in
    rw (c.done.ensures, passed.1, c.set_waited.ensures) (wait_done g.C.Cells.does s c.args.chain c.args.timeout.now c.args.start.now passed.0 right.0 c.args.cells.now c.claim.new.self told)

pub returns-then-is_late : goal.returns-then-is_late
returns-then-is_late g c =
    let s = c.args.self.now in
    let passed = passed_by s c.args.chain c.in_ok-success.success (sym c.in_ok-success.ensures) in
    let right = right_where (is_wait_wrong (chain_at s.chains c.args.chain)) (oldest_image s.chains c.args.chain) c.in_ok-image.image (sym c.in_ok-image.ensures) in
    let told = subst (λ (i : Image). g.C.Cells.does c.args.cells.now (claim i false) c.claim.new.self) right.1 (subst (λ (b : Bool). g.C.Cells.does c.args.cells.now (claim c.in_ok-image.image b) c.claim.new.self) c.if-claim.false c.claim.ensures) in
    rw c.refused.ensures (wait_late g.C.Cells.does s c.args.chain c.args.timeout.now c.args.start.now passed.0 right.0 c.args.cells.now c.claim.new.self told (sym c.is_late.ensures ∙ c.if-is_late.true))

pub returns : goal.returns
returns g c =
    let s = c.args.self.now in
    let passed = passed_by s c.args.chain c.in_ok-success.success (sym c.in_ok-success.ensures) in
    let right = right_where (is_wait_wrong (chain_at s.chains c.args.chain)) (oldest_image s.chains c.args.chain) c.in_ok-image.image (sym c.in_ok-image.ensures) in
    let told = subst (λ (i : Image). g.C.Cells.does c.args.cells.now (claim i false) c.claim.new.self) right.1 (subst (λ (b : Bool). g.C.Cells.does c.args.cells.now (claim c.in_ok-image.image b) c.claim.new.self) c.if-claim.false c.claim.ensures) in
    wait_waits g.C.Cells.does s c.args.chain c.args.timeout.now c.args.start.now passed.0 right.0 c.args.cells.now c.claim.new.self told (sym c.is_late.ensures ∙ c.if-is_late.false)
