use Rattle.std.proofs.Common.{rules, ◌≡◌, refl, sym}
use Rattle.std.specs.Prelude.{Err}
use Rattle.xr_types.specs.declared.handles.Kind.TheVariants.{Session}
use Rattle.xr_model.specs.machine.Destroyed.{without_handle}
use Rattle.xr_types.specs.declared.calls.Call.TheVariants as ask
use Rattle.xr_model.specs.machine.Rules.Session.{destroy_session_rule}
use Rattle.xr_core.specs.declared.halt.Halt.TheVariants.{Refused}
use Rattle.xr_core.proofs.ChainCalls.{going_refused, going_done, may_go}
use Rattle.xr_core.proofs.parts.Parts.destroy_session.Goals as goal

pub returns-in_err-live : goal.returns-in_err-live
returns-in_err-live g c =
    let s = c.args.self.now in
    let is : c.from_residual.result ≡ Err (Refused (c.in_err-live.field-0.0)) = search rules in
    rw is (going_refused g.C.Cells.does s c.args.session (ask.DestroySession c.args.session) Session (destroy_session_rule s c.args.session) (without_handle s c.args.session) refl (λ who reads given. refl) refl refl refl refl refl (c.in_err-live.field-0.0) c.args.cells.now (sym c.in_err-live.ensures))

pub destroy_over-requires : goal.destroy_over-requires
destroy_over-requires g c =
    let s = c.args.self.now in
    record { may = may_go g.C.Cells.does s c.args.session (ask.DestroySession c.args.session) Session (destroy_session_rule s c.args.session) (without_handle s c.args.session) refl (λ who reads given. refl) refl refl refl refl refl g.C.Cells.may c.args.cells.now c.requires.may (sym c.in_ok-live.ensures) }

pub returns : goal.returns
returns g c =
    let s = c.args.self.now in
    rw (c.done.ensures, c.destroy_over.ensures.state)
    (going_done g.C.Cells.does s c.args.session (ask.DestroySession c.args.session) Session (destroy_session_rule s c.args.session) (without_handle s c.args.session) refl (λ who reads given. refl) refl refl refl refl refl c.args.cells.now c.destroy_over.new.cells (sym c.in_ok-live.ensures) c.destroy_over.ensures.cells)
