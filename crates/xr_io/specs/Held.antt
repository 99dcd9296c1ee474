-- What contracts see of the files that an opener in memory is given, and of how they fail.
use Rattle.std.specs.Prelude.{List, map}
use Rattle.xr_io.specs.declared.memory.MemoryFile.{MemoryFile}
use Rattle.xr_io.specs.declared.memory.Failing.{Failing}
use Rattle.xr_io.specs.Memory.{File, FailingCalls}

-- the names and bytes of these files
abbrev pub held_files : List MemoryFile → List File
held_files files = map (λ file. record { name = file.name.now; bytes = file.bytes.now }) files

-- what is to fail of one of the two
abbrev pub failing_calls : Failing → FailingCalls
failing_calls fails = record { opening = fails.«open»; reads = fails.reads.now }
