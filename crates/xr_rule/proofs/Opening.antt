-- What is published before any call: the first buffer is the front, and all words are 0.
use Rattle.std.proofs.Common.{◌≡◌, ℕ, zero, suc, ◌+◌, ◌/◌, ◌%◌, ◌^◌, ◌≢◌, List, [], ◌∷◌, get_or, replicate, sym, refl, ap, ◌∙◌, subst, arith}
use mathlib.Core.Option.{some, some-injective, some-ne-none}
use lib.ListN.{get_elem?}
use Rattle.xr_rule.specs.Sums.{total}
use Rattle.xr_rule.specs.View.{Eyes, Out}
use Rattle.xr_rule.specs.Shows.{exit_word, state_word, front_of, no_count, inside, IsInside, SeesWell, Shows}
use Rattle.xr_rule.specs.Rule.{published_words, front_word}

-- a list of zeros
pub none_set : (n k : ℕ) → ◌≡◌ {A = ℕ} (get_or (replicate n 0) k 0) 0
none_set zero k = refl
none_set (suc n) zero = refl
none_set (suc n) (suc k) = none_set n k

-- the counts of entries before any call
abbrev pub no_counts : List ℕ
no_counts = no_count ∷ replicate 9 0

no_counts_else : (b : ℕ) → b ≢ 0 → get_or no_counts b 0 ≡ 0
no_counts_else zero ne = absurd (ne refl)
no_counts_else (suc b) ne = none_set 9 b

none_published : (key : ℕ) → published_words key [] ≡ replicate 7 0
unfolding published_words
none_published key = refl

pub shows_first : (key : ℕ) (ws : List ℕ) → ((i : ℕ) → get_or ws i 0 ≡ 0) → Shows front_word (published_words key []) no_counts ws (Out ∷ [])
shows_first key ws zero_all =
    let front_is : front_of front_word ws ≡ 0 = ap (λ (x : ℕ). x % 16) (zero_all front_word) in
    record {
      front = omega (arith, front_is);
      entries = subst (λ (f : ℕ). get_or ws front_word 0 / 16 ≡ (get_or ws (exit_word front_word f) 0 + total (inside f) (Out ∷ [])) % 2 ^ 60) (sym front_is) (omega (arith, zero_all front_word, zero_all (exit_word front_word 0)));
      shown = subst (λ (p : List ℕ). IsInside front_word ws (front_of front_word ws) p) (sym (none_published key)) record { near = omega (arith, front_is); short = omega arith; stored = λ i l. zero_all (state_word front_word (front_of front_word ws) i) ∙ sym (none_set 7 i) };
      ten = refl;
      marked = subst (λ (f : ℕ). get_or no_counts f 0 ≡ no_count) (sym front_is) refl;
      counted = λ b l ne. no_counts_else b (λ e. ne (e ∙ sym front_is)) ∙ omega (arith, zero_all (exit_word front_word b));
      each = λ j e at. only_out j e at;
    }
  where
    only_out : (j : ℕ) (e : Eyes) → get_elem? (Out ∷ []) j ≡ some e → SeesWell front_word ws no_counts (Out ∷ []) e
    only_out zero e at = subst (SeesWell front_word ws no_counts (Out ∷ [])) (some-injective Out e at) tt
    only_out (suc j) e at = absurd (some-ne-none e (sym at))
