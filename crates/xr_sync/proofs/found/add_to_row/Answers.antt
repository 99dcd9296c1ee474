use Rattle.std.proofs.Common.{◌∙◌, get_or, true, false, ap, sym, rules}
use Rattle.std.proofs.lemmas.Option.{unwrap_or-slice_get}
use Rattle.xr_types.specs.Users.{user_place}
use Rattle.xr_model.specs.machine.Sync.{nothing_found}
use Rattle.xr_sync.proofs.Rows.{added}
use Rattle.xr_sync.proofs.found.add_to_row.Goals as goal

pub returns-then-b-own-clause-row : goal.returns-then-b-own-clause-row
returns-then-b-own-clause-row c =
    let b = c.args.b.now in
    let declared = unwrap_or-slice_get b.declared (user_place b.bound.pick.user) false ∙ ap (λ n. get_or b.declared n false) (sym c.user_place-own.ensures.place) ∙ c.if-b-own.true in
    rw (c.give-then-b-own.ensures, c.give.ensures, c.given_by-given.ensures, c.user_place-own.ensures.place)
    (added c.args.inputs.now b true c.args.row.now nothing_found (search rules) declared)

pub returns-else-b-own-clause-row : goal.returns-else-b-own-clause-row
returns-else-b-own-clause-row c =
    let b = c.args.b.now in
    let declared = unwrap_or-slice_get b.declared (user_place b.bound.pick.user) false ∙ ap (λ n. get_or b.declared n false) (sym c.user_place-own.ensures.place) ∙ c.if-b-own.false in
    rw (c.give.ensures, c.given_by-given.ensures) (added c.args.inputs.now b false c.args.row.now nothing_found (search rules) declared)
