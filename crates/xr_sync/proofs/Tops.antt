-- What is live by the tops is live by the list.
use Rattle.std.proofs.Common.{◌≡◌, ◌==◌, ◌&&◌, ◌||◌, ◌+◌, ◌*◌, ◌<◌, not, max, ℕ, zero, suc, Bool, true, false, List, [], ◌∷◌, refl, ap, sym, ◌∙◌, arith}
use Rattle.std.specs.Prelude.{nat_lt, nat_le, slice_index, replicate, All}
use Rattle.std.proofs.lemmas.Bool.Decides.{nat_tests}
use Rattle.xr_types.specs.declared.input.Pick.{Pick}
use Rattle.xr_types.specs.Users.{user_place}
use Rattle.xr_types.specs.declared.input.Heard.{Heard}
use Rattle.xr_types.specs.declared.input.Ranked.{Ranked}
use Rattle.xr_model.specs.machine.Sync.{is_heard, is_same_source, is_outranked, is_live}
use Rattle.xr_sync.specs.Ranks.{source_of, top_of, IsPlaced}

rest_are : (x : Ranked) (xs : List Ranked) → All IsPlaced (x ∷ xs) → All IsPlaced xs
rest_are x xs each k d h = each (suc k) d (omega (arith, h))

below_max : (p a b : ℕ) → nat_lt p a || nat_lt p b ≡ nat_lt p (max a b)
below_max p a b = grind (arith, nat_tests)

numbered : (u v i j : ℕ) → i < 30 → j < 30 → (u == v) && (i == j) ≡ (u * 30 + i) == (v * 30 + j)
numbered u v i j h k = grind (arith, nat_tests)

same_by_number : (a b : Pick) → a.identifier < 30 → b.identifier < 30 → is_same_source a b ≡ (source_of a == source_of b)
same_by_number a b h k = numbered (user_place a.user) (user_place b.user) a.identifier b.identifier h k

outranked_by_top : (active : List Heard) (all : List Ranked) (b : Ranked) → All IsPlaced all → IsPlaced b → is_outranked active all b ≡ nat_lt b.priority (top_of active all (source_of b.bound.pick))
outranked_by_top active [] b placed own = grind (arith, nat_tests)
outranked_by_top active (o ∷ os) b placed own = by (is_heard active o) refl (is_same_source o.bound.pick b.bound.pick) refl (outranked_by_top active os b (rest_are o os placed) own)
  where
    same : is_same_source o.bound.pick b.bound.pick ≡ (source_of o.bound.pick == source_of b.bound.pick)
    same = same_by_number o.bound.pick b.bound.pick (placed 0 o (omega arith)).0 own.0

    by : (h : Bool) → is_heard active o ≡ h → (s : Bool) → is_same_source o.bound.pick b.bound.pick ≡ s → is_outranked active os b ≡ nat_lt b.priority (top_of active os (source_of b.bound.pick))
        → is_outranked active (o ∷ os) b ≡ nat_lt b.priority (top_of active (o ∷ os) (source_of b.bound.pick))
    by true eh true es more = rw (eh, sym same, es) (ap (λ r. nat_lt b.priority o.priority || r) more ∙ below_max b.priority o.priority (top_of active os (source_of b.bound.pick)))
    by true eh false es more = rw (eh, sym same, es) more
    by false eh s es more = rw eh more

not_below : (a b : ℕ) → not (nat_lt a b) ≡ nat_le b a
not_below a b = grind (arith, nat_tests)

pub live_by_top : (active : List Heard) (all : List Ranked) (b : Ranked) → All IsPlaced all → IsPlaced b → is_live active all b ≡ is_heard active b && nat_le (top_of active all (source_of b.bound.pick)) b.priority
live_by_top active all b placed own = ap (λ r. is_heard active b && r) (ap not (outranked_by_top active all b placed own) ∙ not_below b.priority (top_of active all (source_of b.bound.pick)))

pub none_yet : (n k t : ℕ) → t ≡ max (slice_index (replicate n 0) k) t
none_yet n k t = rw (zeros n k) (grind arith)
  where
    zeros : (n k : ℕ) → slice_index (replicate n 0) k ≡ 0
    zeros zero k = refl
    zeros (suc n) zero = refl
    zeros (suc n) (suc k) = zeros n k
