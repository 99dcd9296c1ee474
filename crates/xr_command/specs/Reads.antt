-- What reading the words came to.
use Rattle.std.specs.Prelude.{◌≡◌, ◌≤◌, ℕ, length, IfSome, true, false, List, Option, Some, None, option_map, Result, Ok, Err}
use Rattle.clap.specs.Walk.{is_empty}
use Rattle.clap.specs.Words.{App, fault_of, matches_of, found_of, rows_of}
use Rattle.clap.specs.declared.parser.matches.ArgMatches.{ArgMatches}
use Rattle.xr_types.specs.declared.limits.TheConstants.{MOST_FILE_NAME, MOST_LOAD}
use Rattle.xr_model.specs.command_line.Words as words
use Rattle.xr_command.specs.declared.WordsForm.{WordsForm}
use Rattle.xr_command.specs.declared.WordsForm.TheVariants.{Run, Load}
use Rattle.xr_command.specs.declared.RunOptions.{RunOptions}
use Rattle.xr_command.specs.declared.WordsFault.{WordsFault}
use Rattle.xr_command.specs.declared.WordsFault.TheVariants.{Usage, NoMemory}

-- the form as the definition has it
abbrev pub shown : RunOptions → words.RunOptions
shown form = record { file = form.file.now; device = option_map (λ name. name.now) form.device; places = form.places }

abbrev pub shown_form : WordsForm → words.WordsForm
shown_form (Run options) = words.run (shown options)
shown_form (Load frames) = words.load frames

-- The answer is what the words are to be read as, they can't be, or memory was short.
abbrev pub ReadsAs : {T M : Type 0} → (T → M) → Result T WordsFault → Option M → Type 0
ReadsAs shown_by (Ok read) meant = meant ≡ Some (shown_by read)
ReadsAs shown_by (Err Usage) meant = meant ≡ None
ReadsAs shown_by (Err NoMemory) meant = Unit {0}

-- The answer is what a command makes of the words, it doesn't take them, or memory was short.
abbrev pub ReadsRows : Result ArgMatches WordsFault → App → List (List ℕ) → Type 0
ReadsRows (Ok found) app words = (is_empty (fault_of app words) ≡ true) × (rows_of (found_of found) ≡ matches_of app words)
ReadsRows (Err Usage) app words = is_empty (fault_of app words) ≡ false
ReadsRows (Err NoMemory) app words = Unit {0}

-- A file's name is no longer than the system takes, and a load has at most so many frames and one at least.
abbrev pub FitsLimits : WordsForm → Type 0
FitsLimits (Run options) = (length options.file.now ≤ MOST_FILE_NAME) × IfSome options.device (λ name. length name.now ≤ MOST_FILE_NAME)
FitsLimits (Load frames) = (1 ≤ frames) × (frames ≤ MOST_LOAD)
