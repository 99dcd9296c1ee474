-- A publication as words of 64 bits: seven and two for each action, then for each session three and twelve for each action. With 64
-- actions these are 135, and 771 for each session. They are, in this order:
-- - the number;
-- - the counts: 2^32 for each action, and 1 for each session;
-- - the atoms of the five user paths;
-- - for each action its handle, and a word with its type in the lowest three bits, and above them a bit for each user path, set where
--   the action declares it;
-- - for each session its handle; a word whose lowest bit is set where it is lost, and the next where its loss is pending; a word with a
--   bit for each action, set where the session has attached the action's set; and the six columns of each action.
-- A column has two words. One is y times 2^32 plus x, each as 32 bits in two's complement. The other is its time above two bits, of which
-- the lowest is set where it changed, and the next where it is active. Of bits for user paths or actions the first is the lowest. Who
-- looks for an action, or for a session, reads one word of each. That a publication is kept so is this project's own.
use Rattle.std.specs.Prelude.{ℕ, pos, unsigned_abs, ◌+◌, ◌*◌, ◌/◌, ◌%◌, ◌^◌, ◌==◌, zero, suc, Bool, true, false, List, [], ◌∷◌, ◌++◌, length, take, drop, flat_map, if◌then◌else◌}
use Rattle.std.specs.Int.{w32, cast_unsigned, cast_signed}
use Rattle.xr_types.specs.declared.input.ActionType.{ActionType}
use Rattle.xr_types.specs.declared.input.ActionType.TheVariants as type
use Rattle.xr_model.specs.machine.Publication.{ShownColumn, PublishedSession, PublishedAction, Publication}

-- ---- writing

abbrev pub bit : Bool → ℕ
bit true = 1
bit false = 0

-- a number with a bit below it
abbrev pub with_bit : ℕ → Bool → ℕ
with_bit n b = n * 2 + bit b

-- bits, the first of them the lowest
abbrev pub bits : List Bool → ℕ
bits [] = 0
bits (b ∷ bs) = with_bit (bits bs) b

abbrev pub type_number : ActionType → ℕ
type_number type.Boolean = 0
type_number type.Float = 1
type_number type.Vector = 2
type_number type.Pose = 3
type_number type.Vibration = 4

-- a column: its values, and its time with whether it is active and changed
abbrev pub column_words : ShownColumn → List ℕ
column_words c = (cast_unsigned w32 c.y * 2 ^ 32 + cast_unsigned w32 c.x) ∷ with_bit (with_bit (unsigned_abs c.time) c.active) c.changed ∷ []

-- an action: its handle; the user paths that it declares, and its type
abbrev pub action_words : PublishedAction → List ℕ
action_words a = a.handle ∷ (bits a.declared * 8 + type_number a.type) ∷ []

-- the columns of an action
abbrev pub row_words : List ShownColumn → List ℕ
row_words row = flat_map column_words row

-- a session: its handle, its loss, for each action whether its set is attached, and the columns of each
abbrev pub session_words : PublishedSession → List ℕ
session_words x = x.handle ∷ bits (x.loss.lost ∷ x.loss.pending ∷ []) ∷ bits x.attached ∷ flat_map row_words x.columns

abbrev pub counts_word : Publication → ℕ
counts_word p = length p.actions * 2 ^ 32 + length p.sessions

abbrev pub words : Publication → List ℕ
words p = p.number ∷ counts_word p ∷ (p.atoms ++ (flat_map action_words p.actions ++ flat_map session_words p.sessions))

-- ---- reading back

abbrev pub low_bit : ℕ → Bool
low_bit n = n % 2 == 1

abbrev pub bits_in : ℕ → ℕ → List Bool
bits_in zero n = []
bits_in (suc k) n = low_bit n ∷ bits_in k (n / 2)

abbrev pub type_in : ℕ → ActionType
type_in n = if n == 0 then type.Boolean else (if n == 1 then type.Float else (if n == 2 then type.Vector else (if n == 3 then type.Pose else type.Vibration)))

abbrev pub column_in : ℕ → ℕ → ShownColumn
column_in values when = record { x = cast_signed w32 (values % 2 ^ 32); y = cast_signed w32 (values / 2 ^ 32); changed = low_bit when; time = pos (when / 2 / 2); active = low_bit (when / 2) }

abbrev pub columns_in : ℕ → List ℕ → List ShownColumn
columns_in (suc k) (values ∷ when ∷ ws) = column_in values when ∷ columns_in k ws
columns_in _ _ = []

abbrev pub action_in : ℕ → ℕ → PublishedAction
action_in handle what = record { handle = handle; type = type_in (what % 8); declared = bits_in 5 (what / 8) }

-- so many actions
abbrev pub actions_in : ℕ → List ℕ → List PublishedAction
actions_in (suc k) (handle ∷ what ∷ ws) = action_in handle what ∷ actions_in k ws
actions_in _ _ = []

-- the columns of so many actions
abbrev pub rows_in : ℕ → List ℕ → List (List ShownColumn)
rows_in zero ws = []
rows_in (suc k) ws = columns_in 6 (take 12 ws) ∷ rows_in k (drop 12 ws)

-- a session, where there are so many actions, from the words of these
abbrev pub session_in : ℕ → ℕ → ℕ → ℕ → List ℕ → PublishedSession
session_in k handle loss attached ws =
    record { handle = handle; loss = record { lost = low_bit loss; pending = low_bit (loss / 2) }; attached = bits_in k attached; columns = rows_in k ws }

-- so many sessions, where there are so many actions
abbrev pub sessions_in : ℕ → ℕ → List ℕ → List PublishedSession
sessions_in (suc n) k (handle ∷ loss ∷ attached ∷ ws) = session_in k handle loss attached ws ∷ sessions_in n k (drop (12 * k) ws)
sessions_in _ _ _ = []

-- the same of words in which the sessions stand behind the actions
abbrev pub sessions_of : ℕ → ℕ → List ℕ → List PublishedSession
sessions_of n k ws = sessions_in n k (drop (2 * k) ws)

abbrev pub publication_in : List ℕ → Publication
publication_in (number ∷ counts ∷ ws) =
    record { number = number; sessions = sessions_of (counts % 2 ^ 32) (counts / 2 ^ 32) (drop 5 ws); atoms = take 5 ws; actions = actions_in (counts / 2 ^ 32) (drop 5 ws) }
publication_in _ = record { number = 0; sessions = []; atoms = []; actions = [] }
