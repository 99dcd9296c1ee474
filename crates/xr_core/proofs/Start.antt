-- The applications and the slots at the start.
use Rattle.std.proofs.Math.Seq.{take-set-lt}
use Rattle.std.proofs.Common.{◌≡◌, ◌≤◌, ◌+◌, ◌++◌, ℕ, zero, suc, false, List, ◌∷◌, [], take, replicate, refl, ap, arith}

pub none_left : (n : ℕ) → n ≤ 8 → take n (false ∷ false ∷ false ∷ false ∷ false ∷ false ∷ false ∷ false ∷ []) ≡ replicate n false
none_left zero h = refl
none_left (suc zero) h = refl
none_left (suc (suc zero)) h = refl
none_left (suc (suc (suc zero))) h = refl
none_left (suc (suc (suc (suc zero)))) h = refl
none_left (suc (suc (suc (suc (suc zero))))) h = refl
none_left (suc (suc (suc (suc (suc (suc zero)))))) h = refl
none_left (suc (suc (suc (suc (suc (suc (suc zero))))))) h = refl
none_left (suc (suc (suc (suc (suc (suc (suc (suc zero)))))))) h = refl
none_left (suc (suc (suc (suc (suc (suc (suc (suc (suc n))))))))) h = absurd (omega arith)

pub ruleset left_set = (take-set-lt)

module _ {T : Type 0} (x : T) where
  -- one more of the same
  pub same_more : (n : ℕ) → replicate n x ++ x ∷ [] ≡ replicate (n + 1) x
  same_more zero = refl
  same_more (suc n) = let next : suc n + 1 ≡ suc (n + 1) = omega arith in rw next (ap (λ (xs : List T). x ∷ xs) (same_more n))
