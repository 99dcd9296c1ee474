use Rattle.std.proofs.Common.{◌≡◌, ◌∙◌, sym, subst, length, List, Some, None, arith}
use Rattle.std.proofs.lemmas.Grind.{common_steps}
use Rattle.std.proofs.lemmas.Map.Text.{btree_map_updates_str}
use Rattle.std.specs.List.{find}
use Rattle.std.specs.Str.{bytes_eq}
use Rattle.xr_model.specs.scenario.Names.{NamedOp}
use Rattle.xr_scenario_fields.specs.Given.{names_of, index_of}
use Rattle.xr_scenario_fields.proofs.KnownNames.{not_found, finds_new}
use Rattle.xr_scenario_fields.proofs.named_ops.NamedOps.add.Goals as goal

pub invariant_of-self-in-Ok : goal.invariant_of-self-in-Ok
invariant_of-self-in-Ok c =
    let gs = c.self.inside.givers.items in
    let none : index_of c.args.giver.name.now (names_of gs) ≡ None =
    not_found c.args.giver.name.now gs (subst (λ (ks : List NamedOp). find (λ k. bytes_eq c.args.giver.name.now k.name) ks ≡ None) (sym c.self.view_is) c.requires.new) in
    let place : c.len-place.result ≡ length gs = grind (arith, common_steps) in
    λ name.
    btree_map_updates_str c.args.giver.name.now c.self.inside.places c.insert.new.self (Some c.len-place.result) c.in-Ok.ensures.updates name
    ∙ rw c.in_ok-push.ensures.items (finds_new gs c.args.giver c.len-place.result _ name none place (c.self.invariant name))
