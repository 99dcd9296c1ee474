-- A table's words as cells: what a call on them asks, and what it does.
use Rattle.std.specs.Prelude.{◌≡◌}
use Rattle.xr_model.specs.machine.CellCalls.{CellCall}
use Rattle.xr_words.specs.declared.cells.TableCells.{TableCells}
use Rattle.xr_words.specs.Table.{MayTouch, SeatDoes}

module _ {M : Type 0} where
  abbrev pub MayMakeOf : TableCells M → CellCall → Type 0
  MayMakeOf c x = MayTouch c.table.now.table.shared.table_id c.call.now c.late c.seat.now x

  -- The seat does it, by the same table, for the same call.
  abbrev pub MakesOf : TableCells M → CellCall → TableCells M → Type 0
  MakesOf c x d = (d.table ≡ c.table) × (d.seat.ghost_name ≡ c.seat.ghost_name) × (d.call ≡ c.call) × (d.late ≡ c.late) × SeatDoes c.call.now c.late c.seat.now c.decided x d.seat.now d.decided
