use Rattle.std.proofs.Common.{rules, ◌≡◌, true, false, refl, sym}
use Rattle.std.specs.List.{list_all}
use Rattle.xr_types.specs.declared.handles.Kind.TheVariants as kind
use Rattle.xr_model.specs.machine.Handles.{is_live}
use Rattle.xr_core.proofs.SetCalls.{all_live, some_dead}
use Rattle.xr_core.proofs.parts.Parts.live_sets.Goals as goal

pub returns-then-are_sets : goal.returns-then-are_sets
returns-then-are_sets c =
    let all : list_all (λ set. is_live c.args.self.now.handles kind.ActionSet set) c.args.sets.now ≡ true = search rules in
    rw (all_live c.args.self.now.handles kind.ActionSet c.args.sets.now all) refl

pub returns-else-are_sets : goal.returns-else-are_sets
returns-else-are_sets c =
    let dead : list_all (λ set. is_live c.args.self.now.handles kind.ActionSet set) c.args.sets.now ≡ false = search rules in
    sym (some_dead c.args.self.now.handles kind.ActionSet c.args.sets.now dead)
