use Rattle.std.proofs.Common.{◌≡◌, ◌+◌, ◌++◌, [], ◌∷◌, map, drop, List, Bool, true, false, ℕ, arith, refl, ap, ◌∙◌}
use Rattle.std.specs.Prelude.{if◌then◌else◌}
use Rattle.std.specs.List.{filter}
use Rattle.std.proofs.lemmas.List.{at_drop_more}
use Rattle.xr_model.specs.machine.Handles.{is_among}
use Rattle.xr_model.specs.machine.Sets as model
use Rattle.xr_sets.proofs.set.named_among.Goals as goal

-- the handles of those that are among these
abbrev those : List ℕ → List model.Set → List ℕ
those handles sets = map (λ x. x.handle) (filter (λ x. is_among handles x.handle) sets)

append_one : (xs ys : List ℕ) (x : ℕ) → xs ++ x ∷ ys ≡ (xs ++ x ∷ []) ++ ys
append_one [] ys x = refl
append_one (y ∷ xs) ys x = ap (λ (l : List ℕ). y ∷ l) (append_one xs ys x)

one_more : (handles named : List ℕ) (x : model.Set) (xs : List model.Set) → named ++ those handles (x ∷ xs) ≡ (if is_among handles x.handle then named ++ x.handle ∷ [] else named) ++ those handles xs
one_more handles named x xs = by (is_among handles x.handle)
  where
    by : (b : Bool) → named ++ map (λ (y : model.Set). y.handle) (if b then x ∷ filter (λ y. is_among handles y.handle) xs else filter (λ y. is_among handles y.handle) xs) ≡ (if b then named ++ x.handle ∷ [] else named) ++ those handles xs
    by true = append_one named (those handles xs) x.handle
    by false = refl

pub loop-set-preserved : goal.loop-set-preserved
loop-set-preserved c =
    let few = c.loop-set.invariant.1 in
    let more = c.add_named.ensures.few in (
      c.loop-set.invariant.0
          ∙ ap (λ xs. c.loop-set.named.items ++ xs) (at_drop_more (those c.args.handles.now) c.args.sets.now c.loop-set.set-index c.set-item.result c.loop-set-test.true)
          ∙ rw (← c.set-item.is, c.add_named.ensures.items) (one_more c.args.handles.now c.loop-set.named.items c.set-item.result (drop (c.loop-set.set-index + 1) c.args.sets.now)),
      omega (arith, few, more),
    )
