use Rattle.std.proofs.Common.{sym, ap, ◌∙◌}
use Rattle.xr_model.specs.machine.State.{CoreState}
use Rattle.xr_model.specs.machine.Target.{target_of}
use Rattle.xr_core.proofs.Seated.{target_seated}
use Rattle.xr_core.proofs.SessionEvents.{settles}
use Rattle.xr_core.proofs.Settling.{nothing_settles}
use Rattle.xr_core.proofs.parts.Parts.settle.Goals as goal

pub returns : goal.returns
returns c =
    settles c.args.self.now c.change_all.new.self c.change_all-2.new.self c.wish-wish.result c.target_of-target.result
    (c.wish-wish.ensures ∙ ap (λ (s : CoreState). s.device.wish) c.self.view_is)
    (c.target_of-target.ensures ∙ ap target_of c.as_slice.ensures.value ∙ sym (target_seated c.self.inside.frames.loops c.self.inside.columns.items c.self.inside.handles.sessions c.self.inside.sessions.items) ∙ ap (λ (s : CoreState). target_of s.sessions) c.self.view_is)
    c.change_all.ensures c.change_all-2.ensures

pub returns-then-have_settled : goal.returns-then-have_settled
returns-then-have_settled c =
    nothing_settles c.args.self.now c.self.inside.frames.loops c.self.inside.columns.items c.self.inside.handles.sessions c.self.inside.sessions.items _ c.wish-wish.result c.target_of-target.result
    (ap (λ (s : CoreState). s.sessions) (sym c.self.view_is))
    (c.wish-wish.ensures ∙ ap (λ (s : CoreState). s.device.wish) c.self.view_is)
    (c.target_of-target.ensures ∙ ap target_of c.as_slice.ensures.value ∙ sym (target_seated c.self.inside.frames.loops c.self.inside.columns.items c.self.inside.handles.sessions c.self.inside.sessions.items) ∙ ap (λ (s : CoreState). target_of s.sessions) c.self.view_is)
    c.as_slice-2.ensures.value
    (sym c.have_settled.ensures ∙ c.if-have_settled.true)
