use Rattle.std.proofs.Common.{rules, ◌≡◌, ◌∙◌, sym, Some, None, arith}
use Rattle.std.proofs.lemmas.Grind.{common_steps}
use Rattle.xr_scenario_fields.specs.Given.{names_of, index_of}
use Rattle.xr_scenario_fields.proofs.KnownNames.{index_within, named_at, named_none}
use Rattle.xr_scenario_fields.proofs.named_ops.NamedOps.place_of.Goals as goal

pub index-requires : goal.index-requires
index-requires c =
    let found : index_of c.args.name.now (names_of c.self.inside.givers.items) ≡ Some c.in-Some.known.now = sym (c.self.invariant c.args.name.now) ∙ search rules in
    let within = index_within c.args.name.now c.self.inside.givers.items c.in-Some.known.now found in
    grind (arith, common_steps)

pub returns-in-Some : goal.returns-in-Some
returns-in-Some c =
    let found : index_of c.args.name.now (names_of c.self.inside.givers.items) ≡ Some c.in-Some.known.now = sym (c.self.invariant c.args.name.now) ∙ search rules in
    rw (← c.self.view_is, named_at c.args.sort c.args.name.now c.self.inside.givers.items c.in-Some.known.now c.index.result.now found, ← c.index.ensures) c.of_sort.ensures

pub returns-in-None : goal.returns-in-None
returns-in-None c =
    let none : index_of c.args.name.now (names_of c.self.inside.givers.items) ≡ None = sym (c.self.invariant c.args.name.now) ∙ search rules in
    rw (← c.self.view_is) (sym (named_none c.args.sort c.args.name.now c.self.inside.givers.items none))
