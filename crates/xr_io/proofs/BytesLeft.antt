-- What a read leaves of the bytes in memory.
use Rattle.std.proofs.Common.{◌≡◌, ◌≤◌, ◌<◌, ◌+◌, ℕ, List, [], ◌++◌, length, take, drop, min, sym, ap, ◌∙◌, arith, take-append-drop}
use Rattle.std.proofs.lemmas.List.{take_at, drop-drop, drop_all, length-take, length-drop}

pub consumed : (bytes front rest : List ℕ) (taken n : ℕ) → taken + n ≤ length bytes → front ≡ take n (drop taken bytes) → drop taken bytes ≡ take n (front ++ rest) ++ drop (taken + n) bytes
consumed bytes front rest taken n within is =
    let left = drop taken bytes in
    let size = length-drop taken bytes in
    let few = length-take n left in
    let same : length front ≡ length (take n left) = ap length is in
    let len : length front ≡ n = omega (arith, size, few, same, within) in
    sym (take-append-drop n left) ∙ ap (λ l. l ++ drop n left) (sym (take_at front rest n len ∙ is)) ∙ ap (λ l. take n (front ++ rest) ++ l) (drop-drop n taken bytes)

pub at_end : (bytes : List ℕ) (taken n size : ℕ) → taken ≤ length bytes → n ≡ min size (length (drop taken bytes)) → n ≡ 0 → 0 < size → drop (taken + n) bytes ≡ []
at_end bytes taken n size within is none some =
    let left = length-drop taken bytes in
    drop_all (taken + n) bytes (omega (arith, left, is, none, some, within))
