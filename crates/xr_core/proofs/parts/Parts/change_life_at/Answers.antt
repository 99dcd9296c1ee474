use Rattle.std.proofs.Common.{refl, ap, ◌∙◌}
use Rattle.xr_model.specs.machine.SessionLife.{Life}
use Rattle.xr_core.specs.inside.Changes.{answer_to}
use Rattle.xr_core.proofs.KeptSeats.{kept_changed}
use Rattle.xr_core.proofs.Listed.{stands_within, found_at}
use Rattle.xr_core.proofs.SlotCalls.{found_inside, life_inside, life_changed}
use Rattle.xr_core.proofs.parts.Parts.change_life_at.Goals as goal

pub change_life-requires : goal.change_life-requires
change_life-requires c =
    let found = found_inside c.args.self.now _ c.self.inside.frames.loops c.self.inside.columns.items c.self.inside.sessions.items c.self.view_is refl c.args.session c.args.place c.requires.found in
    record { found = found; within = stands_within c.self.inside.sessions.items c.args.session c.args.place found }

pub invariant_of-self : goal.invariant_of-self
invariant_of-self c = (
  rw c.change_life.ensures.sessions (kept_changed c.self.inside.frames.loops c.self.inside.columns.items c.self.inside.handles c.self.inside.sessions.items c.args.session _ (λ x. refl) c.self.invariant.0),
  c.self.invariant.1,
  c.self.invariant.2,
  c.self.invariant.3,
  c.self.invariant.4,
)

pub returns-clause-state : goal.returns-clause-state
returns-clause-state c =
    let found = found_inside c.args.self.now _ c.self.inside.frames.loops c.self.inside.columns.items c.self.inside.sessions.items c.self.view_is refl c.args.session c.args.place c.requires.found in
    let x = (found_at c.self.inside.sessions.items c.args.session c.args.place found).0 in
    rw (c.change_life.ensures.events, c.change_life.ensures.sessions, c.wish.ensures) (life_changed c.args.self.now _ c.self.inside.frames.loops c.self.inside.columns.items c.self.inside.sessions.items c.self.view_is refl c.args.session c.args.place found x c.args.call)

pub returns-clause-code : goal.returns-clause-code
returns-clause-code c = c.change_life.ensures.code ∙ ap (λ (life : Life). answer_to c.args.call life) (life_inside c.args.self.now _ c.self.inside.frames.loops c.self.inside.columns.items c.self.inside.sessions.items c.self.view_is refl c.args.session)
