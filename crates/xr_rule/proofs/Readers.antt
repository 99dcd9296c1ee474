-- Few seats are in buffers: each has an application's number, and no two have one.
use Rattle.std.proofs.Common.{◌≡◌, ℕ, ◌+◌, ◌≤◌, List, [], ◌∷◌, length, refl, arith, ne_eqb, le-leb}
use mathlib.Core.Logic.{dite}
use native.Mathlib.Decide.{ℕ_discrete}
use Rattle.xr_rule.specs.Sums.{total}
use Rattle.xr_rule.specs.View.{Own, Know, is_of, is_app, app_in, owns, parts}

abbrev pub app_parts : Know → ℕ
app_parts k = total is_app k.own

by_number : (o : Own) → is_of 0 o + is_of 1 o + is_app o ≡ 1
by_number o = dite (ℕ_discrete o.number 0) (λ e. rw e refl) (λ n₀. dite (ℕ_discrete o.number 1) (λ e. rw e refl) (λ n₁. rw (ne_eqb o.number 0 n₀, ne_eqb o.number 1 n₁, le-leb 2 o.number (omega arith)) refl))

by_numbers : (os : List Own) → total (is_of 0) os + total (is_of 1) os + total is_app os ≡ length os
by_numbers [] = refl
by_numbers (o ∷ os) = omega (arith, by_number o, by_numbers os)

pub all_numbers_are : (ks : List Know) → total (owns 0) ks + total (owns 1) ks + total app_parts ks ≡ total parts ks
all_numbers_are [] = refl
all_numbers_are (k ∷ ks) = omega (arith, by_numbers k.own, all_numbers_are ks)

pub first_is_one : (os : List Own) → app_in os ≤ total is_app os
first_is_one [] = omega arith
first_is_one (o ∷ os) = omega arith
