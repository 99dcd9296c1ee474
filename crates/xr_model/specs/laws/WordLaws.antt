-- The words of a publication give it back, where its numbers have room in them.
use Rattle.std.specs.Prelude.{◌≡◌, ◌<◌, ◌≤◌, ◌≤ℤ◌, ◌^◌, ℕ, pos, length, All, List, Bool, true}
use Rattle.std.specs.List.{list_all}
use Rattle.std.specs.Int.{w32}
use Rattle.std.specs.Prelude.{FitsSigned}
use Rattle.xr_types.specs.declared.handles.TheConstants.{SESSIONS, ACTIONS}
use Rattle.xr_types.specs.Device.{checks}
use Rattle.xr_model.specs.machine.Publication.{ShownColumn, PublishedSession, PublishedAction, Publication, publication_of}
use Rattle.xr_model.specs.machine.PublicationWords.{words, publication_in}
use Rattle.xr_model.specs.machine.Reads.{reads}
use Rattle.xr_model.specs.machine.Calls.{Entry}
use Rattle.xr_types.specs.declared.calls.Call.{Call}
use Rattle.xr_types.specs.declared.calls.Call.TheVariants as ask
use Rattle.xr_model.specs.machine.State.{Settings, opening}
use Rattle.xr_model.specs.machine.History.{after, IsLegal}

-- numbers of 32 bits, and a time that isn't negative
pub record ColumnFits (c : ShownColumn) : Type 0 where
  pub x : FitsSigned w32 c.x
  pub y : FitsSigned w32 c.y
  pub time : pos 0 ≤ℤ c.time

-- six columns, each of which fits
pub record RowFits (row : List ShownColumn) : Type 0 where
  pub six : length row ≡ 6
  pub each : All ColumnFits row

-- five user paths
pub record ActionFits (a : PublishedAction) : Type 0 where
  pub declared : length a.declared ≡ 5

-- of so many actions, whether each is attached, and its columns, which fit
pub record SessionFits (actions : ℕ) (x : PublishedSession) : Type 0 where
  pub attached : length x.attached ≡ actions
  pub columns : length x.columns ≡ actions
  pub each : All RowFits x.columns

-- Five atoms; fewer sessions than 2^32; and each fits, a session all the actions.
pub record HasRoom (p : Publication) : Type 0 where
  pub atoms : length p.atoms ≡ 5
  pub few : length p.sessions < 2 ^ 32
  pub sessions : All (SessionFits (length p.actions)) p.sessions
  pub actions : All ActionFits p.actions

-- and there are no more sessions and actions than may be live
pub record PublicationFits (p : Publication) : Type 0 where
  pub room : HasRoom p
  pub few_sessions : length p.sessions ≤ SESSIONS
  pub few_actions : length p.actions ≤ ACTIONS

-- no number and no bit is lost in the words
abbrev pub WordsGiveBack : Type 0
WordsGiveBack = (p : Publication) → HasRoom p → publication_in (words p) ≡ p

-- so a getter may read the words as well
abbrev pub WordsAreRead : Type 0
WordsAreRead = (p : Publication) (what : Call) → HasRoom p → reads (publication_in (words p)) what ≡ reads p what

-- the numbers of an event are in range
abbrev pub has_good_numbers : Call → Bool
has_good_numbers (ask.Device what) = checks what
has_good_numbers _ = true

-- what a legal history publishes fits, where the device tells numbers in range
abbrev pub PublicationsFit : Type 0
PublicationsFit =
    (settings : Settings) (es : List Entry) → IsLegal settings es → list_all (λ e. has_good_numbers e.call) es ≡ true
    → PublicationFits (publication_of (after (opening settings) es).core)
