-- Lists with one word more.
use Rattle.std.proofs.Common.{◌≡◌, ℕ, zero, suc, ◌<◌, List, [], ◌∷◌, ◌++◌, length, get_or, refl, ap, arith, length-append}

pub last_is : (xs : List ℕ) (x : ℕ) → get_or (xs ++ x ∷ []) (length xs) 0 ≡ x
last_is [] x = refl
last_is (z ∷ zs) x = last_is zs x

pub front_is : (xs : List ℕ) (x i : ℕ) → i < length xs → get_or (xs ++ x ∷ []) i 0 ≡ get_or xs i 0
front_is [] x i l = absurd (omega arith)
front_is (z ∷ zs) x zero l = refl
front_is (z ∷ zs) x (suc i) l = front_is zs x i (omega arith)

pub fronts_are : (xs zs : List ℕ) (y z : ℕ) → xs ++ y ∷ [] ≡ zs ++ z ∷ [] → xs ≡ zs
fronts_are [] [] y z e = refl
fronts_are [] (a ∷ []) y z e = absurd (omega (arith, ap length e))
fronts_are [] (a ∷ b ∷ zs) y z e = absurd (omega (arith, ap length e, length-append zs (z ∷ [])))
fronts_are (a ∷ []) [] y z e = absurd (omega (arith, ap length e))
fronts_are (a ∷ b ∷ xs) [] y z e = absurd (omega (arith, ap length e, length-append xs (y ∷ [])))
fronts_are (a ∷ xs) (b ∷ zs) y z e = let rest = fronts_are xs zs y z (cc e) in let head : a ≡ b = cc e in λ i. head i ∷ rest i
