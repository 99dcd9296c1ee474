-- What reading asks of an application's seat, and what it tells.
use Rattle.std.specs.Prelude.{◌≡◌, ◌≢◌, ◌<◌, ◌≤◌, ◌+◌, ◌*◌, ◌==◌, ℕ, false, List, [], length, slice_get, slice_index, Option, Some, None, option_and_then, unwrap_or, Result, if◌then◌else◌}
use Rattle.std.specs.List.{position_from}
use Rattle.atomic_table.specs.Table.{Me}
use Rattle.xr_types.specs.declared.calls.Call.{Call}
use Rattle.xr_types.specs.declared.calls.Gives.{Gives}
use Rattle.xr_types.specs.declared.calls.Reply.{Reply}
use Rattle.xr_types.specs.declared.code.Code.{Code}
use Rattle.xr_types.specs.declared.code.Code.TheVariants.{Success}
use Rattle.xr_types.specs.declared.input.ActionType.{ActionType}
use Rattle.xr_model.specs.machine.Calls.{Entry, Outcome}
use Rattle.xr_model.specs.machine.PartAnswers.{or_refused}
use Rattle.xr_model.specs.machine.Publication.{ShownColumn, PublishedSession, PublishedAction, Publication, loss_read, getter_gives}
use Rattle.xr_model.specs.machine.PublicationWords.{words, publication_in}
use Rattle.xr_model.specs.machine.Reads.{getter_refusals, reads}
use Rattle.xr_model.specs.machine.Refusals.{first_of}
use Rattle.xr_model.specs.machine.SessionRule.{code_on}
use Rattle.xr_model.specs.laws.Moments.{actor_at}
use Rattle.xr_model.specs.laws.WordLaws.{PublicationFits}
use Rattle.xr_snap.specs.declared.decoding.Asked.{Asked}
use Rattle.xr_snap.specs.declared.decoding.Cells.{Cells}
use Rattle.xr_snap.specs.declared.finding.Handles.{Handles}
use Rattle.xr_snap.specs.declared.looking.Heading.{Heading}
use Rattle.xr_snap.specs.declared.looking.Standing.{Standing}
use Rattle.xr_rule.specs.Plays.{Decides, published_by}
use Rattle.xr_rule.specs.Rule.{MayRead}
use Rattle.xr_rule.specs.Seats.{IsBetween}
use Rattle.xr_rule.specs.Shows.{buffers, buffer_words}
use Rattle.xr_rule.specs.View.{Know, View, Eyes, Idle, Out, Inside, Keeps, Writes, sight, view, number_in}

-- the entry of a getter of the seat's actor
abbrev pub getter_entry : Know → Call → Entry
getter_entry k what = record { actor = actor_at (number_in k.own); call = what; given = 0; short = false }

-- what a getter is answered, which writes no text and shows no frame
abbrev pub outcome_of : Reply → Outcome
outcome_of reply = record { reply = reply; text = []; shown = None }

-- ---- what a seat sees

-- the words of the buffer that a seat is in
abbrev pub words_in : Eyes → List ℕ
words_in Out = []
words_in (Inside b p) = p
words_in (Keeps cs k) = []
words_in (Writes cs b xs) = []

-- the seat is in this buffer
pub record IsIn (y : Eyes) (b : ℕ) : Type 0 where
  pub is : y ≡ Inside b (words_in y)
  pub near : b < buffers
  pub short : length (words_in y) ≤ buffer_words

-- the publication whose words the buffer has
abbrev pub publication_seen : Eyes → Publication
publication_seen y = publication_in (words_in y)

-- they are all its words, and it fits
pub record HasFit (y : Eyes) : Type 0 where
  pub are : words_in y ≡ words (publication_seen y)
  pub fits : PublicationFits (publication_seen y)

-- ---- where what stands among the words

-- where the words of the action at a place begin
abbrev pub action_word : ℕ → ℕ
action_word place = 7 + 2 * place

-- where those of the session at a place begin, where there are so many actions
abbrev pub session_word : ℕ → ℕ → ℕ
session_word actions place = 7 + 2 * actions + (3 + 12 * actions) * place

-- where those of a column of the action at a place begin, in that session
abbrev pub column_word : ℕ → ℕ → ℕ → ℕ → ℕ
column_word actions session action column = session_word actions session + 3 + 12 * action + 2 * column

-- the handle at a place, of those that stand so far apart
abbrev pub handle_in : List ℕ → Handles → ℕ → ℕ
handle_in ws h place = slice_index ws (h.first + h.apart * place)

-- all of them are there
abbrev pub AreThere : List ℕ → Handles → Type 0
AreThere ws h = (i : ℕ) → i < h.count → h.first + h.apart * i < length ws

-- none of them is this one
abbrev pub IsNone : List ℕ → Handles → ℕ → Type 0
IsNone ws h handle = (i : ℕ) → i < h.count → handle_in ws h i ≢ handle

-- the one at this place is, and none before it
pub record IsFirst (ws : List ℕ) (h : Handles) (handle place : ℕ) : Type 0 where
  pub near : place < h.count
  pub is : handle_in ws h place ≡ handle
  pub before : (i : ℕ) → i < place → handle_in ws h i ≢ handle

-- ---- what they tell

-- how a publication begins, what it tells of an action, and what two of its words tell of a column
abbrev pub heading_of : Publication → Heading
heading_of p = record { number = p.number; sessions = length p.sessions; actions = length p.actions }

abbrev pub asked_of : PublishedAction → Asked
asked_of a = record { kind = a.type; declared = a.declared }

abbrev pub shown_cells : Cells → ShownColumn
shown_cells c = record { x = c.x; y = c.y; changed = c.changed; time = c.time; active = c.active }

-- a session's loss, and whether it has attached the set of the action at a place
abbrev pub standing_of : ℕ → PublishedSession → Standing
standing_of action x = record { lost = x.loss.lost; pending = x.loss.pending; attached = unwrap_or (slice_get x.attached action) false }

-- the place of the session with this handle; 0 is nobody's
abbrev pub session_place : Publication → ℕ → Option ℕ
session_place p session = if session == 0 then None else position_from (λ x. x.handle == session) 0 p.sessions

-- a column of the action at a place, in the session at a place
abbrev pub column_seen : Publication → ℕ → ℕ → ℕ → Option ShownColumn
column_seen p session action column = option_and_then (λ row. slice_get row column) (option_and_then (λ x. slice_get x.columns action) (slice_get p.sessions session))

-- what a getter of this type gives beside its code, and what refuses it
abbrev pub getter_answer : Publication → ActionType → ℕ → ℕ → ℕ → Result (Code × Gives) Code
getter_answer p wanted session action sub = or_refused (first_of (getter_refusals p wanted session action sub)) (code_on (loss_read p session) Success, getter_gives p wanted session action sub)

-- ---- entering, and the whole

module _ {S : Type 0} where
  -- A seat may enter by this entry: no call is under way, and the entry is a getter of its own.
  pub record MayEnterAs (m : Me (Option S) View) (e : Entry) : Type 0 where
    pub between : IsBetween m
    pub may : MayRead m.0.know e

  abbrev pub MayEnter : Me (Option S) View → Call → Type 0
  MayEnter m what = MayEnterAs m (getter_entry m.0.know what)

  -- The getter is decided behind this history, and the buffer has the words of what is published there.
  pub record HasEnteredAs (m : Me (Option S) View) (e : Entry) (b : ℕ) (n : Me (Option S) View) : Type 0 where
    pub look : List Entry
    pub decides : Decides m.0.know look e (view n.0.know Idle)
    pub is : n ≡ (sight n.0.know Idle (Inside b (words (published_by m.0.know look))), [])
    pub near : b < buffers
    pub short : length (words (published_by m.0.know look)) ≤ buffer_words
    pub fits : PublicationFits (published_by m.0.know look)

  abbrev pub HasEntered : Me (Option S) View → Call → ℕ → Me (Option S) View → Type 0
  HasEntered m what = HasEnteredAs m (getter_entry m.0.know what)

  -- The getter's reply is what is read of the publication at its place.
  pub record HasRead (m : Me (Option S) View) (what : Call) (reply : Reply) (n : Me (Option S) View) : Type 0 where
    pub look : List Entry
    pub decides : Decides m.0.know look (getter_entry m.0.know what) n.0
    pub carries : n.1 ≡ []
    pub replies : reads (published_by m.0.know look) what ≡ Some (outcome_of reply)
