-- The words that the program takes: their forms, over the statement of `clap`, which reads the words
-- after the first.
use Rattle.std.specs.Prelude.{ℕ, ◌&&◌, Bool, true, false, List, [], ◌∷◌, length, nat_lt, nat_le, codes, Option, Some, None, option_map, option_and_then, unwrap_or, if◌then◌else◌}
use Rattle.std.specs.Str.{bytes_eq}
use Rattle.std.specs.Str.Parse.{digits_value, without_leading_plus}
use Rattle.clap.specs.Words.{App, Rule, Row, new_app, new_rule, with_rule, fault_of, matches_of, first_of}
use Rattle.clap.specs.Walk.{is_empty}
use Rattle.clap.specs.ValueTests.{is_unsigned_in}
use Rattle.clap.specs.declared.builder.value_parser.ValueParser.TheVariants.{Unsigned}
use Rattle.xr_types.specs.declared.limits.TheConstants.{MOST_FILE_NAME, MOST_LOAD}
use Rattle.xr_model.specs.machine.Profiles.{first_some}
use Rattle.clap.specs.declared.builder.action.ArgAction.TheVariants.{SetTrue}

-- ---- the command that reads the words of a run

-- the file, which is wanted
abbrev pub file_arg : Rule
file_arg = record (new_rule (codes "file")) { required = true }

-- the option `--device` with its file
abbrev pub device_arg : Rule
device_arg = record (new_rule (codes "device")) { long = Some (codes "device") }

-- the flag `--places`
abbrev pub places_arg : Rule
places_arg = record (new_rule (codes "places")) { long = Some (codes "places"); action = Some SetTrue }

abbrev pub run_app : App
run_app = with_rule (with_rule (with_rule (new_app (codes "xrsim")) file_arg) device_arg) places_arg

-- The command takes the words: by its statement it has no fault to find in them. The first word
-- stands where a program's own name does, and isn't read. To ask for help is a fault too.
unfoldable pub is_taken : List (List ℕ) → Bool
is_taken words = is_empty (fault_of run_app words)

-- what the command makes of words that it takes
unfoldable pub rows_in : List (List ℕ) → List Row
rows_in words = matches_of run_app words

-- ---- the command that reads the words of a load

-- the number of frames, which is wanted
abbrev pub frames_arg : Rule
frames_arg = record (new_rule (codes "n")) { required = true; parser = Some (Unsigned 1 MOST_LOAD) }

abbrev pub load_app : App
load_app = with_rule (new_app (codes "xrsim")) frames_arg

-- the command takes the words, and what it makes of words that it takes
unfoldable pub is_load_taken : List (List ℕ) → Bool
is_load_taken words = is_empty (fault_of load_app words)

unfoldable pub load_rows_in : List (List ℕ) → List Row
load_rows_in words = matches_of load_app words

-- ---- the form of the words

-- the files of the scenario and of the device, if there is one, and whether each line of the report ends in
-- its reply's place
pub record RunOptions : Type 0 where
  pub file : List ℕ
  pub device : Option (List ℕ)
  pub places : Bool

-- a file's name has a byte, and no more than the system takes
abbrev pub is_file : List ℕ → Bool
is_file name = nat_lt 0 (length name) && nat_le (length name) MOST_FILE_NAME

abbrev pub is_file_or_none : Option (List ℕ) → Bool
is_file_or_none None = true
is_file_or_none (Some name) = is_file name

-- a flag is set where it has the value `true`, and not where it has its other value or none
abbrev pub is_on : Option (List ℕ) → Bool
is_on value = unwrap_or (option_map (λ text. bytes_eq text (codes "true")) value) false

abbrev pub options_with : List Row → List ℕ → Option RunOptions
options_with rows name =
    if is_file name && is_file_or_none (first_of (codes "device") rows) then Some (record { file = name; device = first_of (codes "device") rows; places = is_on (first_of (codes "places") rows) })
    else None

abbrev pub options_in : List Row → Option RunOptions
options_in rows = option_and_then (options_with rows) (first_of (codes "file") rows)

-- the first word is this one
abbrev pub begins_with : List ℕ → List (List ℕ) → Bool
begins_with word [] = false
begins_with word (first ∷ rest) = bytes_eq first word

-- The form of a run under its word, if the words have it: the word and FILE, with `--device FILE` and `--places` where these
-- are wanted.
abbrev pub run_under : List ℕ → List (List ℕ) → Option RunOptions
run_under word words = if begins_with word words && is_taken words then options_in (rows_in words) else None

-- a number of frames: decimal digits, behind a plus or not
abbrev pub frames_of : List ℕ → Option ℕ
frames_of text = if is_unsigned_in 1 MOST_LOAD text then Some (digits_value 10 (without_leading_plus text)) else None

abbrev pub frames_in : List Row → Option ℕ
frames_in rows = option_and_then frames_of (first_of (codes "n") rows)

-- the number of frames of a load, if the words have that form: `load N`
abbrev pub load_under : List ℕ → List (List ℕ) → Option ℕ
load_under word words = if begins_with word words && is_load_taken words then frames_in (load_rows_in words) else None

-- What words ask for: a run of files, or a load of so many frames.
pub data WordsForm : Type 0 where
  run : RunOptions → WordsForm
  load : ℕ → WordsForm

-- The form of the words on one thread, if they have one: `serial FILE` with its options, or `load N`.
abbrev pub form_of : List (List ℕ) → Option WordsForm
form_of words = first_some (option_map run (run_under (codes "serial") words)) (option_map load (load_under (codes "load") words))
