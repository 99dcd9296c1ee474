use Rattle.std.proofs.Common.{rules, ◌≡◌, ◌∷◌, [], Some, sym, subst, refl}
use Rattle.atomic_table.specs.Table.{opening}
use Rattle.xr_model.specs.machine.State.{opening_core, with_apps}
use Rattle.xr_rule.specs.Rule.{FollowsRule}
use Rattle.xr_rule.specs.Seats.{stands_in}
use Rattle.xr_rule.specs.View.{newcomer}
use Rattle.xr_rule.specs.declared.held.Held.{Held}
use Rattle.xr_rule.proofs.Moves.{opens}
use Rattle.xr_rule.proofs.Opening.{no_counts}
use Rattle.xr_rule.proofs.rule.XrTable.start.Goals as goal

pub new-requires-3 : goal.new-requires-3
new-requires-3 g c =
    let x : Held _ = record { value = c.in_ok-value.value; counts = no_counts; room = c.in_ok-room.room } in
    let boxed : c.in_ok-value.value.value ≡ c.args.value = search rules in
    let is : c.push_reserved.new.self.items ≡ Some x ∷ [] = search rules in
    let filled = c.fill_zeros.ensures in
    let same : c.deref.result.now ≡ c.fill_zeros.new.words.items = search rules in
    subst (λ l. FollowsRule (stands_in g.M.Machine.stands) c.args.apps (opening c.deref.result.now l (newcomer c.args.apps))) (sym is)
    (subst (λ l. FollowsRule (stands_in g.M.Machine.stands) c.args.apps (opening l (Some x ∷ []) (newcomer c.args.apps))) (sym same)
    (opens (stands_in g.M.Machine.stands) c.args.apps x c.fill_zeros.new.words.items c.requires.apps.1 filled.count filled.zeros (refl, λ cells. subst (λ v. g.M.Machine.stands v (record { core = opening_core (with_apps c.args.apps); cells = cells })) (sym boxed) (c.requires.value cells))))
