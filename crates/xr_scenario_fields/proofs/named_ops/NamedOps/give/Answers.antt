use Rattle.std.proofs.Common.{rules, ◌≡◌, ◌∙◌, sym, ap, map, set, Some, None, arith}
use Rattle.std.proofs.lemmas.Grind.{common_steps}
use Rattle.std.proofs.lemmas.List.{map-set}
use Rattle.std.proofs.Math.Seq.{map-set_same}
use Rattle.std.specs.List.{find}
use Rattle.std.specs.Str.{bytes_eq}
use Rattle.xr_model.specs.scenario.Names.{known}
use Rattle.xr_scenario_fields.specs.declared.named_ops.Giver.{Giver}
use Rattle.xr_scenario_fields.specs.Given.{known_of, names_of, index_of}
use Rattle.xr_scenario_fields.proofs.KnownNames.{no_giver, index_within, given-new, given-again}
use Rattle.xr_scenario_fields.proofs.named_ops.NamedOps.give.Goals as goal

pub add-requires : goal.add-requires
add-requires c =
    let none : index_of c.args.name.now (names_of c.self.inside.givers.items) ≡ None = sym (c.self.invariant c.args.name.now) ∙ search rules in
    record { new = rw (← c.self.view_is) (no_giver c.args.name.now c.self.inside.givers.items none) }

pub returns-in_default : goal.returns-in_default
returns-in_default c =
    let none : index_of c.args.name.now (names_of c.self.inside.givers.items) ≡ None = sym (c.self.invariant c.args.name.now) ∙ search rules in
    let new : find (λ k. bytes_eq c.args.name.now k.name) c.args.self.now ≡ None = rw (← c.self.view_is) (no_giver c.args.name.now c.self.inside.givers.items none) in
    rw (given-new c.args.name.now c.args.place c.args.sort c.args.self.now new) c.add.ensures

pub index_mut-giver-requires : goal.index_mut-giver-requires
index_mut-giver-requires c =
    let found : index_of c.args.name.now (names_of c.self.inside.givers.items) ≡ Some c.in-Some.known.now = sym (c.self.invariant c.args.name.now) ∙ search rules in
    let within = index_within c.args.name.now c.self.inside.givers.items c.in-Some.known.now found in
    grind (arith, common_steps)

pub invariant_of-self : goal.invariant_of-self
invariant_of-self c =
    let gs = c.self.inside.givers.items in
    let old : Giver = c.index_mut-giver.result.now in
    let new : Giver = record old { place = c.args.place; sort = c.args.sort } in
    let same = ap (λ (g : Giver). g.name.now) c.index_mut-giver.ensures.value in
    λ name. c.self.invariant name ∙ ap (index_of name) (sym (map-set_same (λ (g : Giver). g.name.now) gs c.in-Some.known.now new old same))

pub returns : goal.returns
returns c =
    let gs = c.self.inside.givers.items in
    let old : Giver = c.index_mut-giver.result.now in
    let new : Giver = record old { place = c.args.place; sort = c.args.sort } in
    let found : index_of c.args.name.now (names_of gs) ≡ Some c.in-Some.known.now = sym (c.self.invariant c.args.name.now) ∙ search rules in
    let same = ap (λ (g : Giver). set (map known_of gs) c.in-Some.known.now (known g.name.now c.args.place c.args.sort)) c.index_mut-giver.ensures.value in
    rw (← c.self.view_is) (map-set known_of gs c.in-Some.known.now new ∙ same ∙ sym (given-again c.args.name.now c.args.place c.args.sort gs c.in-Some.known.now old found))
