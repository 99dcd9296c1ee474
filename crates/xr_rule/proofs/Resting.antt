-- Seats between calls.
use Rattle.std.proofs.Common.{◌≡◌, ℕ, ◌<◌, [], length, sym, ap, subst, Option, arith}
use Rattle.atomic_table.specs.Seated.{TableId}
use Rattle.atomic_table.specs.Table.{Me}
use Rattle.atomic_table.specs.declared.shared.Seat.{Seat}
use Rattle.xr_rule.specs.Seats.{IsBetween, IsFresh}
use Rattle.xr_rule.specs.View.{View, Idle, sight, view}

module _ {S : Type 0} where
  -- a view between calls is just what its seat knows
  pub at_rest : (m : Me (Option S) View) → IsBetween m → m ≡ (view m.0.know Idle, [])
  at_rest m b = λ i. (sight m.0.know (b.idle i) (b.sees_none i), b.carries i)

  -- and a new seat is between calls
  pub fresh_rests : (table : TableId) (apps n : ℕ) (s : Seat (Option S) View) → IsFresh table apps n s → IsBetween s.me
  fresh_rests table apps n s fresh = record {
    idle = ap (λ (z : Me (Option S) View). z.0.turn) fresh.1;
    carries = ap (λ (z : Me (Option S) View). z.1) fresh.1;
    sees_none = ap (λ (z : Me (Option S) View). z.0.eyes) fresh.1;
    numbered = subst (λ (z : Me (Option S) View). 0 < length z.0.know.own) (sym fresh.1) (omega arith);
  }
