use Rattle.xr_snap.specs.Reading.{getter_entry}
use Rattle.xr_snap.proofs.reading.enter.Given as goal

abbrev pub ghosts-enter_as : goal.ghosts-enter_as
ghosts-enter_as g a = record { entry = getter_entry a.seat.now.me.0.know a._call.now }
