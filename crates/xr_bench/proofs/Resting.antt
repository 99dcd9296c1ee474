-- Seats between calls: those of a start, and one that is as it was.
use Rattle.std.proofs.Common.{rules, Bool, true, false, nat_lt, slice_get, ◌≡◌, ℕ, ◌+◌, ◌<◌, List, length, sym, refl, ◌∙◌, subst, Option, Some, arith}
use Rattle.std.proofs.lemmas.Option.{slice_get-get_or}
use Rattle.std.specs.Prelude.{All, slice_index_or}
use Rattle.atomic_table.specs.Seated.{TableId}
use Rattle.atomic_table.specs.Table.{Me}
use Rattle.atomic_table.specs.declared.shared.Seat.{Seat}
use Rattle.xr_rule.specs.Seats.{IsFresh, AreFresh, IsBetween}
use Rattle.xr_rule.specs.View.{View}
use Rattle.xr_rule.proofs.Resting.{fresh_rests}
use Rattle.xr_bench.specs.Resting.{Rests}

module _ {S : Type 0} where
  pub rests_again : (table : TableId) (s t : Seat (Option S) View) → Rests table s → t.table_id ≡ s.table_id → t.me ≡ s.me → Rests table t
  rests_again table s t rests own same = record {
    own = own ∙ rests.own;
    between = subst (λ (z : Me (Option S) View). IsBetween z) (sym same) rests.between;
  }

  pub rests_first : (table : TableId) (apps n : ℕ) (s : Seat (Option S) View) → IsFresh table apps n s → Rests table s
  rests_first table apps n s fresh = record {
    own = fresh.0;
    between = fresh_rests table apps n s fresh;
  }

  -- the seats of a start rest
  pub all_rest : (table : TableId) (apps : ℕ) (seats : List (Seat (Option S) View)) → AreFresh table apps seats → All (Rests table) seats
  all_rest table apps seats fresh = λ k d within.
      let there : slice_get seats k ≡ Some (slice_index_or seats k d) = slice_get-get_or seats k d within in
      let count = fresh.count in
      by k (slice_index_or seats k d) there (omega (arith, within, count)) (nat_lt k apps) refl (nat_lt k (apps + 1)) refl
    where
      by : (k : ℕ) (s : Seat (Option S) View) → slice_get seats k ≡ Some s → k < apps + 2 → (b : Bool) → nat_lt k apps ≡ b → (c : Bool) → nat_lt k (apps + 1) ≡ c → Rests table s
      by k s there within true is c at = rests_first table apps (k + 2) s (fresh.applications k s (search rules) there)
      by k s there within false is true at = rests_first table apps 1 s (fresh.compositor s (subst (λ (n : ℕ). slice_get seats n ≡ Some s) (search rules) there))
      by k s there within false is false at = rests_first table apps 0 s (fresh.device s (subst (λ (n : ℕ). slice_get seats n ≡ Some s) (search rules) there))
