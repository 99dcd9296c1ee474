use Rattle.std.proofs.Common.{rules, ◌≡◌, ◌==◌, length, map, true, false, refl, ap, ◌∙◌, arith}
use Rattle.xr_types.specs.declared.handles.Kind.TheVariants as kind
use Rattle.xr_types.specs.declared.handles.TheConstants.{SPACES}
use Rattle.xr_model.specs.machine.Handles.{has_room}
use Rattle.xr_model.specs.machine.Spaces.{Space}
use Rattle.xr_model.specs.machine.State.{CoreState}
use Rattle.xr_core.proofs.Housed as housed
use Rattle.xr_core.proofs.KeptLive.{names_count, kept_space}
use Rattle.xr_core.proofs.KeptSeats.{kept_given}
use Rattle.xr_core.proofs.parts.Parts.add_space.Goals as goal

pub add-requires : goal.add-requires
add-requires c =
    let rows : length c.self.inside.handles.spaces ≡ SPACES = c.give-handle.ensures.row in
    let room : has_room c.self.inside.handles kind.Space ≡ true = ap (λ (s : CoreState). has_room s.handles kind.Space) c.self.view_is ∙ c.requires.room in
    let few = housed.room_for_one (map (λ x. x.handle) c.self.inside.room.spaces) c.self.inside.handles.spaces c.self.invariant.2.spaces room in
    let same = names_count (λ (x : Space). x.handle) c.self.inside.room.spaces in
    omega (arith, few, same, rows)

pub invariant_of-self : goal.invariant_of-self
invariant_of-self c =
    let room : has_room c.self.inside.handles kind.Space ≡ true = ap (λ (s : CoreState). has_room s.handles kind.Space) c.self.view_is ∙ c.requires.room in
    let nonzero : (c.give-handle.result == 0) ≡ false = search rules in (
      kept_given c.self.inside.frames.loops c.self.inside.columns.items c.self.inside.handles c.give-handle.new.handles c.self.inside.sessions.items kind.Space c.args.session c.give-handle.result c.give-handle.ensures.state refl c.give-handle.ensures.fresh c.self.invariant.0,
      c.self.invariant.1,
      rw c.add.ensures (kept_space c.self.inside.room c.self.inside.inputs c.self.inside.handles c.give-handle.new.handles _ c.args.session c.give-handle.result c.self.invariant.2 refl nonzero room c.give-handle.ensures.state),
      c.self.invariant.3,
      c.self.invariant.4,
    )
