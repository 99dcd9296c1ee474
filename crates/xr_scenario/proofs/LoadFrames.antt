-- One frame more.
use Rattle.std.proofs.Common.{◌≡◌, ◌+◌, ◌-◌, ◌<◌, ℕ, suc, List, ◌++◌, refl, ap, ◌∙◌, sym, arith, length, append_assoc, length-append}
use Rattle.xr_types.specs.declared.scenario.Op.{Op}
use Rattle.xr_model.specs.scenario.LoadScenario.{frame_ops, frame_ops_from}

frames_next : (m n i place : ℕ) → n - i ≡ suc m → m ≡ n - (i + 1) → frame_ops_from (n - i) (i + 1) place ≡ frame_ops (i + 1) place ++ frame_ops_from (n - (i + 1)) (i + 1 + 1) (place + length (frame_ops (i + 1) place))
frames_next m n i place h k = rw (h, sym k) refl

pub one_more : (ops : List Op) (n i : ℕ) → i < n
    → ops ++ frame_ops_from (n - i) (i + 1) (length ops + 1)
    ≡ (ops ++ frame_ops (i + 1) (length ops + 1)) ++ frame_ops_from (n - (i + 1)) (i + 1 + 1) (length (ops ++ frame_ops (i + 1) (length ops + 1)) + 1)
one_more ops n i h =
    let place : ℕ = length ops + 1 in
    let frame : List Op = frame_ops (i + 1) (length ops + 1) in
    let moved : length ops + 1 + length frame ≡ length (ops ++ frame) + 1 = rw (length-append ops frame) (omega arith) in
    ap (λ r. ops ++ r) (frames_next (n - (i + 1)) n i (length ops + 1) (omega (arith, h)) refl)
    ∙ sym (append_assoc ops frame (frame_ops_from (n - (i + 1)) (i + 1 + 1) (length ops + 1 + length frame)))
    ∙ ap (λ p. (ops ++ frame) ++ frame_ops_from (n - (i + 1)) (i + 1 + 1) p) moved
