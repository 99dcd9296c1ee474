-- The words of columns, actions and sessions, as a core writes them.
use Rattle.std.specs.Prelude.{ℕ, ◌+◌, ◌*◌, ◌^◌, List, [], ◌∷◌, ◌++◌, length, map, flat_map, Option}
use Rattle.xr_types.specs.declared.input.Column.{Column}
use Rattle.xr_types.specs.Printed.{all_users}
use Rattle.xr_model.specs.machine.Handles.{Handles}
use Rattle.xr_model.specs.machine.LiveSessions.{Session, with_columns}
use Rattle.xr_model.specs.machine.Publication.{shown_of, has_set_of, columns_in, atom_of_user}
use Rattle.xr_model.specs.machine.PublicationWords.{bits, type_number, column_words}
use Rattle.xr_model.specs.machine.Rules.Session.{columns_of}
use Rattle.xr_model.specs.machine.SessionLife.{Life}
use Rattle.xr_model.specs.machine.SessionRule.{loss_of}
use Rattle.xr_model.specs.machine.Sets.{Action}
use Rattle.xr_model.specs.machine.State.{CoreState}

abbrev pub words_of_row : List Column → List ℕ
words_of_row row = flat_map (λ c. column_words (shown_of c)) row

abbrev pub words_of_action : Action → List ℕ
words_of_action x = x.handle ∷ (bits x.declared * 8 + type_number x.type) ∷ []

-- the words of an action's columns
abbrev pub words_of_columns : Handles → List (List Column) → Action → List ℕ
words_of_columns h columns x = words_of_row (columns_in h columns x.handle)

abbrev pub loss_word : Life → ℕ
loss_word life = bits ((loss_of life).lost ∷ (loss_of life).pending ∷ [])

-- for each action whether its set is attached
abbrev pub attached_word : Option (List ℕ) → List Action → ℕ
attached_word attached actions = bits (map (has_set_of attached) actions)

abbrev pub words_of_session : Handles → List Action → Session → List ℕ
words_of_session h actions x = x.handle ∷ loss_word x.life ∷ attached_word x.attached actions ∷ flat_map (words_of_columns h x.columns) actions

-- the same of a session that stands beside what its slot keeps
abbrev pub words_listed : CoreState → Session → List ℕ
words_listed s x = words_of_session s.handles s.inputs.actions (with_columns (columns_of s x.handle) x)

-- how many actions there are, and how many sessions
abbrev pub counts : CoreState → ℕ
counts s = length s.inputs.actions * 2 ^ 32 + length s.sessions

-- all words but the first, which is the number
abbrev pub contents_words : CoreState → List ℕ
contents_words s =
    counts s ∷ (map (atom_of_user s.atoms s.inputs.actions) all_users ++ (flat_map words_of_action s.inputs.actions ++ flat_map (words_of_session s.handles s.inputs.actions) s.sessions))
