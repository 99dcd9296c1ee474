use Rattle.std.proofs.Common.{rules, ◌≡◌, ◌++◌, ◌∙◌, ◌<◌, sym, arith, drop, take, subst, ℕ, List, length, get_or}
use Rattle.std.specs.Prelude.{replicate}
use Rattle.xr_types.specs.declared.input.Column.{Column}
use Rattle.xr_sync.specs.Tables.{no_row, rows_after}
use Rattle.xr_sync.proofs.Reach.{whole, settled_whole, all_six}
use Rattle.xr_sync.proofs.settle.settle.Goals as goal

pub returns-clause-after : goal.returns-clause-after
returns-clause-after c =
    let last = c.loop-place-test.false in
    let most = c.loop-place.auto.place-end in
    let end : c.loop-place.place ≡ c.args.reach = omega (arith, last, most) in
    sym (subst (λ (n : ℕ). rows_after c.args.clock.now c.args.rows.now c.args.found.now ≡ take n c.loop-place.rows ++ rows_after c.args.clock.now (drop n c.loop-place.rows) (drop n c.loop-place.found)) end c.loop-place.invariant.same
    ∙ settled_whole c.args.clock.now c.args.reach c.loop-place.rows c.args.rows.now c.loop-place.found c.args.found.now c.requires.shown c.requires.seen
    (subst (λ (n : ℕ). drop n c.loop-place.rows ≡ drop n c.args.rows.now) end c.loop-place.invariant.rest)
    (subst (λ (n : ℕ). drop n c.loop-place.found ≡ drop n c.args.found.now) end c.loop-place.invariant.later))

pub returns-clause-clean : goal.returns-clause-clean
returns-clause-clean c =
    let within = c.requires.seen.within in
    let last = c.loop-place-test.false in
    let most = c.loop-place.auto.place-end in
    let end : c.loop-place.place ≡ c.args.reach = omega (arith, last, most) in
    whole c.args.reach no_row c.loop-place.found within
    (subst (λ (n : ℕ). take n c.loop-place.found ≡ replicate n no_row) end c.loop-place.invariant.clean)
    (subst (λ (n : ℕ). drop n c.loop-place.found ≡ drop n c.args.found.now) end c.loop-place.invariant.later ∙ c.requires.seen.rest)

pub returns-clause-six : goal.returns-clause-six
returns-clause-six c =
    let last = c.loop-place-test.false in
    let most = c.loop-place.auto.place-end in
    let end : c.loop-place.place ≡ c.args.reach = omega (arith, last, most) in
    all_six c.args.reach c.args.rows.now c.requires.shown (search rules)
    (subst (λ (n : ℕ). (k : ℕ) (d : List Column) → k < n → length (get_or c.args.rows.now k d) ≡ 6) end c.loop-place.invariant.six)
