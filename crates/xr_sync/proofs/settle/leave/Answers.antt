use Rattle.std.proofs.Common.{◌≡◌, ◌++◌, ◌∙◌, sym, arith, drop, take, subst, ℕ, false}
use Rattle.std.specs.Prelude.{slice_index_or, if◌then◌else◌}
use Rattle.xr_model.specs.machine.Sync.{each_from, inactive_row, left_columns}
use Rattle.xr_sync.proofs.Reach.{left_whole}
use Rattle.xr_sync.proofs.settle.leave.Goals as goal

pub returns-clause-left : goal.returns-clause-left
returns-clause-left c =
    let last = c.loop-place-test.false in
    let most = c.loop-place.auto.place-end in
    let end : c.loop-place.place ≡ c.args.reach = omega (arith, last, most) in
    let there = λ (place : ℕ). slice_index_or c.args.there.now place false in
    sym (subst (λ (n : ℕ). left_columns there c.args.rows.now ≡ take n c.loop-place.rows ++ each_from (λ place row. if there place then row else inactive_row) n (drop n c.loop-place.rows)) end c.loop-place.invariant.same
    ∙ left_whole there c.args.reach c.loop-place.rows c.args.rows.now c.requires.beyond (subst (λ (n : ℕ). drop n c.loop-place.rows ≡ drop n c.args.rows.now) end c.loop-place.invariant.rest))
