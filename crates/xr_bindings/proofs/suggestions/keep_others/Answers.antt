use Rattle.std.proofs.Common.{rules, false, take, ◌≡◌, ◌<◌, ◌+◌, ◌==◌, ℕ, List, length, get_or, not, arith}
use Rattle.std.specs.List.{list_any}
use Rattle.std.proofs.lemmas.List.{get_or_default}
use Rattle.std.proofs.lemmas.List.Filters.{FiltersInPlace, FiltersInPlace-more_set, FiltersInPlace-more_no}
use Rattle.xr_types.specs.declared.input.Bound.{Bound}
use Rattle.xr_bindings.proofs.Left.{none_left_out}
use Rattle.xr_bindings.proofs.suggestions.keep_others.Goals as goal

left_out : {xs ys : List Bound} {k i : ℕ} {action : ℕ} (d : Bound) → FiltersInPlace (λ b. not (b.action == action)) xs ys k i → i < length ys → (get_or ys i d).action ≡ action → FiltersInPlace (λ b. not (b.action == action)) xs ys k (i + 1)
left_out {ys = ys} {i = i} d at within same = FiltersInPlace-more_no at within (grind (arith, same)) (get_or_default ys i d _ within)

pub loop-next-preserved : goal.loop-next-preserved
loop-next-preserved c =
    let at = c.loop-next in
    elim c.if-bound-action.branch [
      | goal.then-bound-action w ↦ rw (w.list-is, w.kept-is) (FiltersInPlace-more_set at.invariant (omega arith) (grind (arith, w.if-bound-action.true)) (get_or_default at.list at.next _ _ (omega arith)))
      | goal.else-bound-action w ↦ rw (w.list-is, w.kept-is) (left_out _ at.invariant (omega arith) w.if-bound-action.false)
    ]

pub returns-then-not-has-clause-list : goal.returns-then-not-has-clause-list
returns-then-not-has-clause-list c =
    let none : list_any (λ (b : Bound). b.action == c.args.action) (take c.args.left c.args.list.now) ≡ false = search rules in
    none_left_out (λ (b : Bound). b.action == c.args.action) (take c.args.left c.args.list.now) none
