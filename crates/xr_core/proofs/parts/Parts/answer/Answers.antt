use Rattle.std.proofs.Common.{rules, ◌≡◌, sym, Err}
use Rattle.xr_core.specs.declared.halt.Halt.TheVariants.{Refused}
use Rattle.xr_core.proofs.GetterCalls.{getter_refused, getter_answered}
use Rattle.xr_core.proofs.parts.Parts.answer.Goals as goal

pub returns-in_err-success : goal.returns-in_err-success
returns-in_err-success c what same =
    let is : c.from_residual.result ≡ Err (Refused (c.in_err-success.field-0.0)) = search rules in
    rw is (getter_refused c.args.self.now c.args.wanted c.args.session c.args.action c.args.sub what same (c.in_err-success.field-0.0) (sym c.in_err-success.ensures))

pub returns : goal.returns
returns c what same = rw c.giving.ensures (getter_answered c.args.self.now c.args.wanted c.args.session c.args.action c.args.sub what same c.in_ok-success.success c.in_ok-success.gives (sym c.in_ok-success.ensures))
