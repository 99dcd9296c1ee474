use Rattle.std.proofs.Common.{rules, ◌≡◌, [], refl, sym}
use Rattle.std.specs.Prelude.{Err}
use Rattle.xr_types.specs.declared.handles.Kind.TheVariants.{Instance}
use Rattle.xr_model.specs.machine.Destroyed.{without_handle}
use Rattle.xr_model.specs.machine.Events.{no_events}
use Rattle.xr_types.specs.declared.calls.Call.TheVariants as ask
use Rattle.xr_model.specs.machine.Rules.Instance.{destroy_instance_rule}
use Rattle.xr_core.specs.declared.halt.Halt.TheVariants.{Refused}
use Rattle.xr_core.proofs.ChainCalls.{going_refused, going_done, may_go}
use Rattle.xr_core.proofs.parts.Parts.destroy_instance.Goals as goal

pub returns-in_err-live : goal.returns-in_err-live
returns-in_err-live g c =
    let s = c.args.self.now in
    let is : c.from_residual.result ≡ Err (Refused (c.in_err-live.field-0.0)) = search rules in
    rw is (going_refused g.C.Cells.does s c.args.instance (ask.DestroyInstance c.args.instance) Instance (destroy_instance_rule s c.args.instance) (record (without_handle s c.args.instance) { atoms = []; events = no_events }) refl (λ who reads given. refl) refl refl refl refl refl (c.in_err-live.field-0.0) c.args.cells.now (sym c.in_err-live.ensures))

pub destroy_over-requires : goal.destroy_over-requires
destroy_over-requires g c =
    let s = c.args.self.now in
    record { may = may_go g.C.Cells.does s c.args.instance (ask.DestroyInstance c.args.instance) Instance (destroy_instance_rule s c.args.instance) (record (without_handle s c.args.instance) { atoms = []; events = no_events }) refl (λ who reads given. refl) refl refl refl refl refl g.C.Cells.may c.args.cells.now c.requires.may (sym c.in_ok-live.ensures) }

pub returns : goal.returns
returns g c =
    let s = c.args.self.now in
    rw (c.done.ensures, c.forget_all.ensures, c.destroy_over.ensures.state)
    (going_done g.C.Cells.does s c.args.instance (ask.DestroyInstance c.args.instance) Instance (destroy_instance_rule s c.args.instance) (record (without_handle s c.args.instance) { atoms = []; events = no_events }) refl (λ who reads given. refl) refl refl refl refl refl c.args.cells.now c.destroy_over.new.cells (sym c.in_ok-live.ensures) c.destroy_over.ensures.cells)
