use Rattle.std.proofs.Common.{rules, ◌≡◌, w64, to_z, of_z, refl, ap, ◌∙◌}
use Rattle.xr_types.specs.declared.session.FrameState.{FrameState}
use Rattle.xr_core.proofs.SlotCalls.{each_some, both_some, loop_is, loop_now, held_is, state_is}
use Rattle.xr_core.proofs.parts.Parts.wait.Goals as goal

pub returns-clause-waits : goal.returns-clause-waits
returns-clause-waits c = λ none.
    let both = c.wait.ensures.waits none in
    (held_is c.args.self.now _ c.self.inside.frames c.self.inside.columns.items c.self.inside.sessions.items c.args.session c.slot_of-slot.result c.self.view_is refl refl c.self.invariant.0 c.requires.live c.slot_of-slot.ensures.slot c.slot_of-slot.ensures.within ∙ both.0, rw both.1 c.self.view_is)

pub returns-clause-free : goal.returns-clause-free
returns-clause-free c = each_some _ _ c.wait.result c.wait.ensures.free (λ x free. held_is c.args.self.now _ c.self.inside.frames c.self.inside.columns.items c.self.inside.sessions.items c.args.session c.slot_of-slot.result c.self.view_is refl refl c.self.invariant.0 c.requires.live c.slot_of-slot.ensures.slot c.slot_of-slot.ensures.within ∙ free)

pub returns-clause-predicts : goal.returns-clause-predicts
returns-clause-predicts c = each_some _ _ c.wait.result c.wait.ensures.predicts (λ x told.
    let a : to_z w64 (of_z w64 c.clock.result) ≡ c.clock.result = search rules in
    let b : to_z w64 (of_z w64 c.base.result) ≡ c.base.result = search rules in
    let d : to_z w64 (of_z w64 c.period.result) ≡ c.period.result = search rules in
    state_is c.args.self.now _ c.self.inside.frames c.self.inside.columns.items c.self.inside.sessions.items c.args.session c.slot_of-slot.result c.self.view_is refl refl c.self.invariant.0 c.requires.live c.slot_of-slot.ensures.slot c.slot_of-slot.ensures.within _ _ _ c.args.render x (a ∙ c.clock.ensures.clock) (b ∙ c.base.ensures) (d ∙ c.period.ensures.period) told)

pub returns-clause-waited : goal.returns-clause-waited
returns-clause-waited c = both_some _ _ _ c.wait.result c.wait.ensures.predicts c.wait.ensures.waited (λ x told new.
    let a : to_z w64 (of_z w64 c.clock.result) ≡ c.clock.result = search rules in
    let b : to_z w64 (of_z w64 c.base.result) ≡ c.base.result = search rules in
    let d : to_z w64 (of_z w64 c.period.result) ≡ c.period.result = search rules in
    let time = ap (λ (y : FrameState). y.time) (state_is c.args.self.now _ c.self.inside.frames c.self.inside.columns.items c.self.inside.sessions.items c.args.session c.slot_of-slot.result c.self.view_is refl refl c.self.invariant.0 c.requires.live c.slot_of-slot.ensures.slot c.slot_of-slot.ensures.within _ _ _ c.args.render x (a ∙ c.clock.ensures.clock) (b ∙ c.base.ensures) (d ∙ c.period.ensures.period) told) in
    let own = loop_is c.args.self.now _ c.self.inside.frames c.self.inside.columns.items c.self.inside.sessions.items c.args.session c.slot_of-slot.result c.self.view_is refl refl c.self.invariant.0 c.requires.live c.slot_of-slot.ensures.slot c.slot_of-slot.ensures.within in
    loop_now c.args.self.now _ c.self.inside.frames c.self.inside.columns.items c.self.inside.sessions.items c.args.session c.slot_of-slot.result c.self.view_is refl refl c.self.invariant.0 c.requires.live c.slot_of-slot.ensures.slot c.slot_of-slot.ensures.within c.wait.new.self _ _ new (rw (time, own) refl))
