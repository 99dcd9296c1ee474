-- The rule of the table: there is one history; what each seat knows of it, the words and the slot fit it.
use Rattle.std.specs.Prelude.{◌≡◌, ◌≢◌, ℕ, ◌+◌, ◌%◌, ◌^◌, ◌<◌, ◌≤◌, ◌⊎◌, Bool, true, false, List, [], ◌∷◌, ◌++◌, map, length, slice_index, Option, Some, IfSome}
use mathlib.Core.Option.{Option as Home, some}
use mathlib.Core.List.{IsPrefix}
use lib.ListN.{get_elem?}
use Rattle.atomic_table.specs.Table.{State as Table}
use Rattle.std.specs.List.{list_all}
use Rattle.xr_types.specs.CallKinds.{is_getter}
use Rattle.xr_types.specs.declared.frames.Image.{Image}
use Rattle.xr_model.specs.scenario.InRange.{Each}
use Rattle.xr_model.specs.machine.CellCalls.{CellCall}
use Rattle.xr_model.specs.machine.CoreCalls.{asked}
use Rattle.xr_model.specs.machine.Images.{slot_of, image_count}
use Rattle.xr_model.specs.machine.History.{StartsAt, clock_of}
use Rattle.xr_model.specs.machine.Machine.{IsPresent, reads_of, cell_calls}
use Rattle.xr_model.specs.machine.Publication.{publication_of}
use Rattle.xr_model.specs.machine.PublicationWords.{words}
use Rattle.xr_model.specs.machine.Calls.{Entry}
use Rattle.xr_model.specs.machine.Rule.{is_by}
use Rattle.xr_model.specs.machine.State.{CoreState, State}
use Rattle.xr_model.specs.laws.DecidedEntries.{is_image_done}
use Rattle.xr_model.specs.laws.ImageLaws.{IsPlaced}
use Rattle.xr_model.specs.laws.Moments.{opening_moment, moment_after, MayCome, IsLegalAt, actor_at, calls_by}
use Rattle.xr_model.specs.laws.MomentLaws.{IsByActors, are_by_callers}
use Rattle.xr_model.specs.laws.WordLaws.{has_good_numbers}
use Rattle.xr_model.specs.laws.FewCalls.{HasFew, MayAdd, how_many, tells_end}
use Rattle.xr_model.specs.laws.ImageWords.{word_of, stamp_of, word_after, stamp_after, FitsCall, claimed_by, are_free, Claims, late_of}
use Rattle.xr_rule.specs.Sums.{total}
use Rattle.xr_rule.specs.Shows.{shown_words, Shows, is_writing, reads_some}
use Rattle.xr_rule.specs.View.{Own, Know, Hold, Turn, View, Idle, Waiting, Holding, know_of, turn_of, eyes_of, number_in, calls_in, owns, parts, app_in, out, has_ticket, is_holder}

-- ---- one history

-- the numbers of each of these are in range
abbrev pub have_good_numbers : List Entry → Bool
have_good_numbers es = list_all (λ e. has_good_numbers e.call) es

-- What one seat knows: what it has seen is the history's front, each of its numbers has the calls that it keeps, and these are few.
pub record Knows (apps : ℕ) (log : List Entry) (k : Know) : Type 0 where
  pub apps_are : (k.own ≡ []) ⊎ (k.apps ≡ apps)
  pub begins : IsPrefix k.seen log
  pub own_seen : (i : ℕ) (o : Own) → get_elem? k.own i ≡ some o → calls_by o.number (opening_moment apps) k.seen ≡ o.calls
  pub own_all : (i : ℕ) (o : Own) → get_elem? k.own i ≡ some o → calls_by o.number (opening_moment apps) log ≡ o.calls
  pub saw : (i : ℕ) (o : Own) → get_elem? k.own i ≡ some o → IsPrefix o.saw k.seen
  pub few : (i : ℕ) (o : Own) → get_elem? k.own i ≡ some o → HasFew o.number o.calls

-- The history is legal, each entry is by one who may ask for it and has its numbers in range, one seat has seen all of it, and each number
-- is one seat's.
pub record OneHistory (apps : ℕ) (log : List Entry) (knows : List Know) : Type 0 where
  pub legal : IsLegalAt (opening_moment apps) log
  pub by_callers : are_by_callers log ≡ true
  pub good : have_good_numbers log ≡ true
  pub each : (j : ℕ) (k : Know) → get_elem? knows j ≡ some k → Knows apps log k
  pub owners : (n : ℕ) → n < apps + 2 → total (owns n) knows ≡ 1
  pub nobody : (n : ℕ) → apps + 2 ≤ n → total (owns n) knows ≡ 0
  pub all_parts : total parts knows ≡ apps + 2
  pub newest : (j : ℕ) × (k : Know) × (get_elem? knows j ≡ some k) × (0 < length k.own) × (k.seen ≡ log)

-- ---- tickets

-- The words are the next ticket and the one that is served, modulo 2^64. The tickets that are out are those from the served one on.
pub record Tickets (ticket serving drawn served : ℕ) (turns : List Turn) : Type 0 where
  pub ticket_is : ticket ≡ drawn % 2 ^ 64
  pub serving_is : serving ≡ served % 2 ^ 64
  pub all_out : served + total out turns ≡ drawn
  pub below : (n : ℕ) → n < served → total (has_ticket n) turns ≡ 0
  pub above : (n : ℕ) → drawn ≤ n → total (has_ticket n) turns ≡ 0
  pub once : (n : ℕ) → total (has_ticket n) turns ≤ 1

-- ---- the slot

-- since a look, the history grew by images that were given back and getters alone
pub record Grew (look log : List Entry) : Type 0 where
  pub more : List Entry
  pub is : look ++ more ≡ log
  pub free : are_free more ≡ true

-- a holder is served, and the history has grown by nothing else since its look
pub record Holds (log : List Entry) (served : ℕ) (h : Hold) : Type 0 where
  pub is_served : h.ticket ≡ served
  pub grew : Grew h.look log

abbrev pub HoldsIf : List Entry → ℕ → Turn → Type 0
HoldsIf log served Idle = Unit {0}
HoldsIf log served (Waiting t) = Unit {0}
HoldsIf log served (Holding h) = Holds log served h

-- The slot is out with the holder, or has a value that stands for what a core keeps after the history.
pub record SlotStands {S : Type 0} (stands : S → CoreState → Type 0) (apps : ℕ) (log : List Entry) (served : ℕ) (homes : List (Home (Option S))) (turns : List Turn) : Type 0 where
  pub held : (j : ℕ) (u : Turn) → get_elem? turns j ≡ some u → HoldsIf log served u
  pub free : ((j : ℕ) (u : Turn) → get_elem? turns j ≡ some u → is_holder u ≡ false) → (x : S) × (get_elem? homes 0 ≡ some (some (Some x))) × stands x (moment_after (opening_moment apps) log).state.core

-- ---- images

-- so many words are unused where no line of a cache may have words of both sides
abbrev pub apart : ℕ
apart = 8

-- The words: the two of tickets, then one for each image of each place, then their stamps, and what is published.
abbrev pub first_image : ℕ
first_image = 2 + apart

abbrev pub first_stamp : ℕ
first_stamp = first_image + image_count

abbrev pub front_word : ℕ
front_word = first_stamp + image_count + apart

abbrev pub word_count : ℕ
word_count = front_word + shown_words

-- where the word of an image stands, and its stamp
abbrev pub image_word : Image → ℕ
image_word i = first_image + slot_of i

abbrev pub stamp_word : Image → ℕ
stamp_word i = first_stamp + slot_of i

-- The words are what the state says, but for the calls that were made since.
pub record WordsSay (s : State) (made : List CellCall) (words : List ℕ) : Type 0 where
  pub image : (i : Image) → IsPlaced i → slice_index words (image_word i) ≡ word_after made i (word_of s i) % 2 ^ 64
  pub stamp : (i : Image) → IsPlaced i → slice_index words (stamp_word i) ≡ stamp_after made i (stamp_of s i)

abbrev pub WordsSayIf : State → List ℕ → Turn → Type 0
WordsSayIf s words Idle = Unit {0}
WordsSayIf s words (Waiting t) = Unit {0}
WordsSayIf s words (Holding h) = WordsSay s h.made words

-- The words are what the state says, but for what the holder made.
pub record ImageWords (s : State) (words : List ℕ) (turns : List Turn) : Type 0 where
  pub held : (j : ℕ) (u : Turn) → get_elem? turns j ≡ some u → WordsSayIf s words u
  pub free : ((j : ℕ) (u : Turn) → get_elem? turns j ≡ some u → is_holder u ≡ false) → WordsSay s [] words

-- ---- one view

-- the state behind so much of the history
abbrev pub state_at : Know → List Entry → State
state_at k look = (moment_after (opening_moment k.apps) look).state

-- A seat may decide an entry behind this history: it is of the seat's own actor, which may ask for it; it is allowed and ready; and
-- the actor's calls stay few.
pub record MayDecide (k : Know) (look : List Entry) (e : Entry) : Type 0 where
  pub by_own : e.actor ≡ actor_at (number_in k.own)
  pub caller : is_by (asked e.actor e.call).caller e.actor ≡ true
  pub numbers : (asked e.actor e.call).in_range ≡ true
  pub comes : MayCome (moment_after (opening_moment k.apps) look) e
  pub few : MayAdd (number_in k.own) (moment_after (opening_moment k.apps) look) e (calls_in k.own)

-- A holder may note an entry that it may decide: it gives no image back and claims none, and the calls on cells that were made are
-- the entry's.
pub record MayNote (k : Know) (look : List Entry) (made : List CellCall) (e : Entry) : Type 0 where
  pub decides : MayDecide k look e
  pub returns_none : is_image_done e.call ≡ false
  pub claims_none : claimed_by (state_at k look).core (reads_of (state_at k look) e.call) e ≡ []
  pub made_is : made ≡ cell_calls (state_at k look).core (reads_of (state_at k look) e.call) e

-- A holder may claim an image for this entry: it is a wait of the seat's own actor, an application that is there and has room for one
-- more call, begun at its clock, which nothing but a count stands against; and late says whether its time is up.
pub record MayClaim (k : Know) (look : List Entry) (e : Entry) (i : Image) (late : Bool) : Type 0 where
  pub claims : Claims (state_at k look).core e i
  pub is_own : e.actor ≡ actor_at (number_in k.own)
  pub others : number_in k.own ≢ 1
  pub caller : is_by (asked e.actor e.call).caller e.actor ≡ true
  pub numbers : (asked e.actor e.call).in_range ≡ true
  pub given : e.given ≡ 0
  pub short : e.short ≡ false
  pub present : IsPresent (state_at k look).core e.actor
  pub starts : StartsAt (clock_of (moment_after (opening_moment k.apps) look).clocks e.actor) e.call
  pub few : MayAdd (number_in k.own) (moment_after (opening_moment k.apps) look) e (calls_in k.own)
  pub late_is : late ≡ late_of (state_at k look).core.device.clock e.call

-- An application's seat may read by a getter: it is the seat's own, gives and takes nothing, and the application was there when its seat last
-- saw the history.
pub record MayRead (k : Know) (e : Entry) : Type 0 where
  pub is_own : e.actor ≡ actor_at (number_in k.own)
  pub is_app : 2 ≤ number_in k.own
  pub getter : is_getter e.call ≡ true
  pub gives_none : e.given ≡ 0
  pub not_short : e.short ≡ false
  pub here : IsPresent (state_at k k.seen).core e.actor
  pub few : length (calls_in k.own) < 2 ^ 40

-- The compositor's seat may give this image back: it is the first of those that it knows as held, and it wasn't told the end.
pub record MayReturn (k : Know) (i : Image) : Type 0 where
  pub rest : List Image
  pub is_own : number_in k.own ≡ 1
  pub held : (state_at k k.seen).cells.held ≡ i ∷ rest
  pub unended : how_many tells_end (calls_in k.own) ≡ 0

-- What a holder's view is like: it saw its look, what it noted it might note, and what it made fits what the core keeps.
pub record HoldFits (k : Know) (h : Hold) : Type 0 where
  pub begins : IsPrefix k.seen h.look
  pub notes_own : IfSome h.noted (λ e. MayNote k h.look h.made e)
  pub made_fits : Each (FitsCall (state_at k h.look).core) h.made

abbrev pub HoldFitsIf : Know → Turn → Type 0
HoldFitsIf k Idle = Unit {0}
HoldFitsIf k (Waiting t) = Unit {0}
HoldFitsIf k (Holding h) = HoldFits k h

-- only a seat with a number has a ticket, and a holder's view is so; the holder alone has counts, and applications alone read
pub record Fits (v : View) : Type 0 where
  pub numbered : out v.turn ≤ length v.know.own
  pub holds : HoldFitsIf v.know v.turn
  pub holds_eyes : is_writing v.eyes ≡ is_holder v.turn
  pub reads_own : reads_some v.eyes ≤ app_in v.know.own

-- ---- the whole

-- the words of what is published behind a history
unfoldable pub published_words : ℕ → List Entry → List ℕ
published_words apps log = words (publication_of (moment_after (opening_moment apps) log).state.core)

-- The key of a table is its run's number of applications. What is in the slot has the counts of entries of the buffers, and stands for
-- what a core keeps.
pub record FollowsRule {S : Type 0} (stands : List ℕ → S → CoreState → Type 0) (apps : ℕ) (s : Table (Option S) View) : Type 0 where
  pub log : List Entry
  pub drawn : ℕ
  pub served : ℕ
  pub entered : List ℕ
  pub wide : length s.words ≡ word_count
  pub few : apps ≤ 8
  pub history : OneHistory apps log (map know_of s.views)
  pub tickets : Tickets (slice_index s.words 0) (slice_index s.words 1) drawn served (map turn_of s.views)
  pub slot : SlotStands (stands entered) apps log served s.homes (map turn_of s.views)
  pub images : ImageWords (moment_after (opening_moment apps) log).state s.words (map turn_of s.views)
  pub shows : Shows front_word (published_words apps log) entered s.words (map eyes_of s.views)
  pub fits : (j : ℕ) (v : View) → get_elem? s.views j ≡ some v → Fits v

-- A seat has all numbers: what it saw is the whole history, which is legal and by actors that there are, each entry by one who may ask
-- for it. Of each number it has the calls, and what its seat had seen.
pub record HasAll (apps : ℕ) (k : Know) : Type 0 where
  pub apps_are : k.apps ≡ apps
  pub legal : IsLegalAt (opening_moment apps) k.seen
  pub by_callers : are_by_callers k.seen ≡ true
  pub own_all : (i : ℕ) (o : Own) → get_elem? k.own i ≡ some o → calls_by o.number (opening_moment apps) k.seen ≡ o.calls
  pub saw : (i : ℕ) (o : Own) → get_elem? k.own i ≡ some o → IsPrefix o.saw k.seen
  pub owners : (n : ℕ) → n < apps + 2 → owns n k ≡ 1
  pub by_actors : IsByActors apps k.seen
