use Rattle.std.proofs.Common.{refl}
use Rattle.xr_core.proofs.KeptLive.{kept_sealed}
use Rattle.xr_core.proofs.KeptSeats.{kept_changed}
use Rattle.xr_core.proofs.Listed.{stands_within}
use Rattle.xr_core.proofs.SlotCalls.{found_inside, sets_attached}
use Rattle.xr_core.proofs.parts.Parts.attach.Goals as goal

pub attach_at-requires : goal.attach_at-requires
attach_at-requires c =
    let found = found_inside c.args.self.now _ c.self.inside.frames.loops c.self.inside.columns.items c.self.inside.sessions.items c.self.view_is refl c.args.session c.args.place c.requires.found in
    record { found = found; within = stands_within c.self.inside.sessions.items c.args.session c.args.place found }

pub invariant_of-self : goal.invariant_of-self
invariant_of-self c = (
  rw c.attach_at.ensures (kept_changed c.self.inside.frames.loops c.self.inside.columns.items c.self.inside.handles c.self.inside.sessions.items c.args.session _ (λ x. refl) c.self.invariant.0),
  c.self.invariant.1,
  rw c.seal.ensures (kept_sealed c.self.inside.room c.self.inside.inputs c.self.inside.handles c.args.sets.now c.self.invariant.2),
  c.self.invariant.3,
  c.self.invariant.4,
)

pub returns : goal.returns
returns c = rw (c.attach_at.ensures, c.seal.ensures, c.named-named.ensures) (sets_attached c.args.self.now _ c.self.inside.frames.loops c.self.inside.columns.items c.self.inside.sessions.items c.self.view_is refl c.args.session c.args.sets.now)
