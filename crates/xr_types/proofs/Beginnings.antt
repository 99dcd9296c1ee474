-- What stands behind a beginning.
use Rattle.std.proofs.Common.{◌≡◌, ◌==◌, ◌&&◌, ◌+◌, ℕ, Bool, true, false, List, [], ◌∷◌, length, take, drop, arith, ◌∙◌, cond, nat_eq, Some, None, refl, sym, ap}
use Rattle.std.specs.Borrow.{Bor}
use Rattle.std.specs.Prelude.{Option, MatchOption}
use Rattle.std.specs.Option.{option_copied}
use Rattle.std.specs.Cmp.Lexicographic.{pointwise}
use Rattle.std.proofs.lemmas.Bool.Decides.{nat_tests}
use Rattle.xr_types.specs.Words.{behind}

eqb-sym : (a b : ℕ) → (a == b) ≡ (b == a)
eqb-sym a b = grind (arith, nat_tests)

-- by the test of slices
behind-strip : (p s : List ℕ) → behind p s ≡ cond (pointwise nat_eq (take (length p) s) p) (Some (drop (length p) s)) None
behind-strip [] s = refl
behind-strip (b ∷ p) [] = refl
behind-strip (b ∷ p) (c ∷ s) = rw (eqb-sym b c) (by (c == b) (behind-strip p s))
  where
    by : (t : Bool) → behind p s ≡ cond (pointwise nat_eq (take (length p) s) p) (Some (drop (length p) s)) None
        → cond t (behind p s) None ≡ cond (t && pointwise nat_eq (take (length p) s) p) (Some (drop (length p) s)) None
    by true more = more
    by false more = refl

-- what `strip_prefix` gives
pub behind_is : (p s : List ℕ) (r : Option (Bor (List ℕ)))
    → MatchOption r (pointwise nat_eq (take (length p) s) p ≡ false) (λ x. (pointwise nat_eq (take (length p) s) p ≡ true) × (x.now ≡ drop (length p) s) × (length x.now + length p ≡ length s))
    → option_copied r ≡ behind p s
behind_is p s None e = sym (behind-strip p s ∙ ap (λ t. cond t (Some (drop (length p) s)) None) e)
behind_is p s (Some x) h = ap Some h.1 ∙ sym (behind-strip p s ∙ ap (λ t. cond t (Some (drop (length p) s)) None) h.0)
