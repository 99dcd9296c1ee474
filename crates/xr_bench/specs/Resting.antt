-- Seats between calls.
use Rattle.std.specs.Prelude.{◌≡◌, Option}
use Rattle.atomic_table.specs.Seated.{TableId}
use Rattle.atomic_table.specs.declared.shared.Seat.{Seat}
use Rattle.xr_rule.specs.Seats.{IsBetween}
use Rattle.xr_rule.specs.View.{View}

-- The seat is this table's, and is in no call.
pub record Rests {S : Type 0} (table : TableId) (s : Seat (Option S) View) : Type 0 where
  pub own : s.table_id ≡ table
  pub between : IsBetween s.me
