use Rattle.xr_words.specs.Table.{wait_entry}
use Rattle.xr_words.proofs.cells.TableCellsCells.claim.Given as goal

abbrev pub ghosts-claim_by : goal.ghosts-claim_by
ghosts-claim_by g a = record { entry = wait_entry a.seat.now.me.0.know a._call.now; late = a.late }
