use Rattle.std.proofs.Common.{rules, ◌≡◌, ◌==◌, length, map, true, false, refl, ap, ◌∙◌, arith}
use Rattle.xr_types.specs.declared.handles.Kind.TheVariants as kind
use Rattle.xr_types.specs.declared.handles.TheConstants.{ACTION_SETS}
use Rattle.xr_model.specs.machine.Handles.{has_room}
use Rattle.xr_model.specs.machine.Sets.{Set}
use Rattle.xr_model.specs.machine.State.{CoreState}
use Rattle.xr_core.proofs.Housed as housed
use Rattle.xr_core.proofs.KeptLive.{names_count, kept_set}
use Rattle.xr_core.proofs.KeptSeats.{kept_given}
use Rattle.xr_core.proofs.parts.Parts.new_set.Goals as goal

pub add_set-requires : goal.add_set-requires
add_set-requires c =
    let rows : length c.self.inside.handles.sets ≡ ACTION_SETS = c.give-handle.ensures.row in
    let room : has_room c.self.inside.handles kind.ActionSet ≡ true = ap (λ (s : CoreState). has_room s.handles kind.ActionSet) c.self.view_is ∙ c.requires.room in
    let few = housed.room_for_one (map (λ x. x.handle) c.self.inside.inputs.sets) c.self.inside.handles.sets c.self.invariant.2.sets room in
    let same = names_count (λ (x : Set). x.handle) c.self.inside.inputs.sets in
    record { room = omega (arith, few, same, rows); checked = search rules }

pub invariant_of-self : goal.invariant_of-self
invariant_of-self c =
    let room : has_room c.self.inside.handles kind.ActionSet ≡ true = ap (λ (s : CoreState). has_room s.handles kind.ActionSet) c.self.view_is ∙ c.requires.room in
    let nonzero : (c.give-handle.result == 0) ≡ false = search rules in (
      kept_given c.self.inside.frames.loops c.self.inside.columns.items c.self.inside.handles c.give-handle.new.handles c.self.inside.sessions.items kind.ActionSet c.args.instance c.give-handle.result c.give-handle.ensures.state refl c.give-handle.ensures.fresh c.self.invariant.0,
      c.self.invariant.1,
      rw c.add_set.ensures (kept_set c.self.inside.room c.self.inside.inputs c.self.inside.handles c.give-handle.new.handles _ c.args.instance c.give-handle.result c.self.invariant.2 refl nonzero room c.give-handle.ensures.state),
      c.self.invariant.3,
      c.self.invariant.4,
    )
