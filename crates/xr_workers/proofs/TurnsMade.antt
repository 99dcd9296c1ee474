-- The gate round the turns of the compositor's worker.
use Rattle.std.proofs.Common.{◌≡◌, ◌≤◌, ◌<◌, ◌+◌, ◌∙◌, ℕ, zero, suc, Bool, true, false, List, [], ◌∷◌, ◌++◌, length, refl, sym, ap, subst, arith}
use Rattle.std.specs.Prelude.{nat_lt, if◌then◌else◌}
use Rattle.xr_types.specs.declared.calls.Actor.{Actor}
use Rattle.xr_types.specs.declared.calls.Actor.TheVariants.{Compositor}
use Rattle.xr_model.specs.laws.ImageLaws.{is_next_frame}
use Rattle.xr_model.specs.machine.Calls.{Exchange}
use Rattle.xr_workers.specs.Workers.{turns_in, before_turn, TurnsGated}

-- a further turn changes nothing of how many calls come before those up to it
before_same : (n : ℕ) (ts : List Exchange) (f : Exchange) (us : List Exchange) → is_next_frame f.call ≡ true → n ≤ turns_in ts → before_turn n (ts ++ f ∷ us) ≡ before_turn n ts
before_same zero [] f us is few = ap (λ (b : Bool). if b then 0 else before_turn zero us + 1) is
before_same (suc n) [] f us is few = absurd (omega (arith, few))
before_same zero (t ∷ ts) f us is few = by (is_next_frame t.call) (before_same zero ts f us is (omega arith))
  where
    by : (b : Bool) → before_turn zero (ts ++ f ∷ us) ≡ before_turn zero ts → (if b then 0 else before_turn zero (ts ++ f ∷ us) + 1) ≡ (if b then 0 else before_turn zero ts + 1)
    by true rest = refl
    by false rest = ap (λ (k : ℕ). k + 1) rest
before_same (suc n) (t ∷ ts) f us is few = by (is_next_frame t.call) few (before_same n ts f us is) (before_same (suc n) ts f us is)
  where
    by : (b : Bool) → suc n ≤ (if b then turns_in ts + 1 else turns_in ts) → (n ≤ turns_in ts → before_turn n (ts ++ f ∷ us) ≡ before_turn n ts)
        → (suc n ≤ turns_in ts → before_turn (suc n) (ts ++ f ∷ us) ≡ before_turn (suc n) ts)
        → (if b then before_turn n (ts ++ f ∷ us) + 1 else before_turn (suc n) (ts ++ f ∷ us) + 1) ≡ (if b then before_turn n ts + 1 else before_turn (suc n) ts + 1)
    by true less one all = ap (λ (k : ℕ). k + 1) (one (omega (arith, less)))
    by false less one all = ap (λ (k : ℕ). k + 1) (all less)

-- behind the last turn it is all of them
before_all : (n : ℕ) (ts : List Exchange) → turns_in ts ≤ n → before_turn n ts ≡ length ts
before_all zero [] few = refl
before_all (suc n) [] few = refl
before_all zero (t ∷ ts) few = by (is_next_frame t.call) few (before_all zero ts)
  where
    by : (b : Bool) → (if b then turns_in ts + 1 else turns_in ts) ≤ 0 → (turns_in ts ≤ 0 → before_turn zero ts ≡ length ts) → (if b then 0 else before_turn zero ts + 1) ≡ length (t ∷ ts)
    by true less all = absurd (omega (arith, less))
    by false less all = let rest = all less in omega (arith, rest)
before_all (suc n) (t ∷ ts) few = by (is_next_frame t.call) few (before_all n ts) (before_all (suc n) ts)
  where
    by : (b : Bool) → (if b then turns_in ts + 1 else turns_in ts) ≤ suc n → (turns_in ts ≤ n → before_turn n ts ≡ length ts) → (turns_in ts ≤ suc n → before_turn (suc n) ts ≡ length ts)
        → (if b then before_turn n ts + 1 else before_turn (suc n) ts + 1) ≡ length (t ∷ ts)
    by true less one all = let rest = one (omega (arith, less)) in omega (arith, rest)
    by false less one all = let rest = all less in omega (arith, rest)

-- one turn more, to which the compositor came having made all so far, and from which it went on having made all of these
pub turn_gated : (came went : Actor → ℕ → ℕ → Type 0) (calls : List Exchange) (frame : Exchange) (images : List Exchange) (turns before behind : ℕ)
    → is_next_frame frame.call ≡ true → turns ≡ turns_in calls → turns + 1 ≡ turns_in (calls ++ frame ∷ images) → before ≡ length calls → behind ≡ length (calls ++ frame ∷ images)
    → TurnsGated came went calls → came Compositor (turns + 1) before → went Compositor (turns + 1) behind → TurnsGated came went (calls ++ frame ∷ images)
turn_gated came went calls frame images turns before behind asks had has old new gated comes goes n less = by (nat_lt n turns) refl
  where
    all : List Exchange
    all = calls ++ frame ∷ images

    by : (b : Bool) → nat_lt n turns ≡ b → came Compositor (n + 1) (before_turn n all) × went Compositor (n + 1) (before_turn (n + 1) all)
    by true is =
        let within : n < turns_in calls = grind (arith, is, had) in
        let g = gated n within in (
          subst (came Compositor (n + 1)) (sym (before_same n calls frame images asks (omega (arith, within)))) g.0,
          subst (went Compositor (n + 1)) (sym (before_same (n + 1) calls frame images asks (omega (arith, within)))) g.1,
        )
    by false is =
        let same : turns ≡ n = grind (arith, is, less, has) in
        let first : before ≡ before_turn n all = old ∙ (sym (before_all n calls (omega (arith, had, same))) ∙ sym (before_same n calls frame images asks (omega (arith, had, same)))) in
        let last : behind ≡ before_turn (n + 1) all = new ∙ sym (before_all (n + 1) all (omega (arith, has, same))) in (
          subst (λ (z : ℕ × ℕ). came Compositor (z.0 + 1) z.1) (λ i. (same i, first i)) comes,
          subst (λ (z : ℕ × ℕ). went Compositor (z.0 + 1) z.1) (λ i. (same i, last i)) goes,
        )
