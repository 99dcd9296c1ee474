use Rattle.std.proofs.Common.{◌≡◌, ◌∙◌, arith, drop, take, subst, ℕ}
use Rattle.std.specs.Prelude.{replicate}
use Rattle.xr_model.specs.machine.Sync.{inactive_row}
use Rattle.xr_sync.proofs.Reach.{whole}
use Rattle.xr_sync.proofs.settle.clear.Goals as goal

pub returns : goal.returns
returns c =
    let within = c.requires.beyond.within in
    let last = c.loop-place-test.false in
    let most = c.loop-place.auto.place-end in
    let end : c.loop-place.place ≡ c.args.reach = omega (arith, last, most) in
    whole c.args.reach inactive_row c.loop-place.rows within
    (subst (λ (n : ℕ). take n c.loop-place.rows ≡ replicate n inactive_row) end c.loop-place.invariant.clean)
    (subst (λ (n : ℕ). drop n c.loop-place.rows ≡ drop n c.args.rows.now) end c.loop-place.invariant.rest ∙ c.requires.beyond.rest)
