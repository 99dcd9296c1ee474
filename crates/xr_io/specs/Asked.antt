-- What an opener was asked for.
use Rattle.std.specs.Prelude.{ℕ, nat_lt, Bool, true, false, List, Option, None, Some, if◌then◌else◌}
use Rattle.xr_io.specs.declared.Taken.{Taken}
use Rattle.xr_io.specs.declared.Which.{Which}
use Rattle.xr_io.specs.declared.Which.TheVariants.{Scenario, Device}
use Rattle.xr_io.specs.Outside.{none_taken, raised_if, Files}

-- the name that was asked for, if one was; whether its source is open; how often opening it failed;
-- how many closed sources of it had a fault; and what was taken of the last of them
pub record AskedFile : Type 0 where
  pub name : Option (List ℕ)
  pub is_open : Bool
  pub open_faults : ℕ
  pub read_faults : ℕ
  pub taken : Taken

-- what was asked for as the scenario, and as the device
pub record Asked : Type 0 where
  pub scenario : AskedFile
  pub device : AskedFile

-- nothing was asked for as one of the two
abbrev pub unasked_file : AskedFile
unasked_file = record { name = None; is_open = false; open_faults = 0; read_faults = 0; taken = none_taken }

-- nothing was asked for
abbrev pub none_asked : Asked
none_asked = record { scenario = unasked_file; device = unasked_file }

-- what was asked for as one of the two
abbrev pub asked_file : Asked → Which → AskedFile
asked_file both Scenario = both.scenario
asked_file both Device = both.device

-- the name that was asked for as one of the two
abbrev pub asked_as : Asked → Which → Option (List ℕ)
asked_as both which = (asked_file both which).name

-- whether the source of one of the two is open
abbrev pub is_open_of : Asked → Which → Bool
is_open_of both which = (asked_file both which).is_open

-- how often opening one of the two failed
abbrev pub open_faults_of : Asked → Which → ℕ
open_faults_of both which = (asked_file both which).open_faults

-- how many closed sources of one of the two had a fault
abbrev pub read_faults_of : Asked → Which → ℕ
read_faults_of both which = (asked_file both which).read_faults

-- what was taken of the closed source of one of the two
abbrev pub taken_of : Asked → Which → Taken
taken_of both which = (asked_file both which).taken

-- both, with another for one of the two
abbrev pub with_asked_file : Asked → Which → AskedFile → Asked
with_asked_file both Scenario file = record { scenario = file; device = both.device }
with_asked_file both Device file = record { scenario = both.scenario; device = file }

-- it after an opening of this name
abbrev pub opened_file : AskedFile → List ℕ → Bool → AskedFile
opened_file file name failed = record {
  name = Some name;
  is_open = if failed then file.is_open else true;
  open_faults = raised_if failed file.open_faults;
  read_faults = file.read_faults;
  taken = file.taken;
}

-- it after the closing of a source with so many faults, of which this was taken
abbrev pub closed_file : AskedFile → ℕ → Taken → AskedFile
closed_file file faults taken = record {
  name = file.name;
  is_open = false;
  open_faults = file.open_faults;
  read_faults = raised_if (nat_lt 0 faults) file.read_faults;
  taken = taken;
}

-- both, after an opening as one of the two
abbrev pub after_opening : Asked → Which → List ℕ → Bool → Asked
after_opening both which name failed =
    with_asked_file both which (opened_file (asked_file both which) name failed)

-- both, after the closing of a source of one of the two
abbrev pub after_closing : Asked → Which → ℕ → Taken → Asked
after_closing both which faults taken =
    with_asked_file both which (closed_file (asked_file both which) faults taken)

-- what is seen of an opener that was asked for this, and has these bytes under names
abbrev pub files_of : (List ℕ → Option (List ℕ)) → Asked → Files
files_of bytes both = record { asked = asked_as both; is_open = is_open_of both; bytes = bytes; open_faults = open_faults_of both; read_faults = read_faults_of both; taken = taken_of both }
