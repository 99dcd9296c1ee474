use Rattle.std.proofs.Common.{◌≡◌, drop}
use Rattle.xr_io.specs.Memory.{bytes_under}
use Rattle.xr_io.specs.Held.{held_files}
use Rattle.xr_io.proofs.memory.bytes_under.Given as goal

abbrev pub invariant-loop-file : goal.invariant-loop-file
invariant-loop-file l =
    bytes_under (held_files l.files) l.name ≡
    bytes_under (held_files (drop l.file-index l.files)) l.name
