-- What each step tells its caller.
use Rattle.std.specs.Prelude.{◌≡◌, ◌≢◌, ℕ, ◌+◌, ◌/◌, ◌%◌, ◌^◌, ◌<◌, ◌≤◌, Bool, true, false, List, [], ◌∷◌, ◌++◌, length, slice_index, slice_set, Option, Some, IfSome, MatchOption}
use Rattle.atomic_table.specs.Table.{Me, Step}
use Rattle.xr_types.specs.declared.calls.Actor.TheVariants.{Compositor}
use Rattle.xr_types.specs.declared.frames.Image.{Image}
use Rattle.xr_types.specs.CallKinds.{publishes}
use Rattle.xr_model.specs.machine.CellCalls.{CellCall, peek}
use Rattle.xr_model.specs.machine.History.{after}
use Rattle.xr_model.specs.machine.Machine.{reads_of, step as step_of}
use Rattle.xr_model.specs.machine.Publication.{Publication, publication_of}
use Rattle.xr_model.specs.machine.Calls.{Entry}
use Rattle.xr_types.specs.declared.calls.Call.TheVariants as ask
use Rattle.xr_model.specs.machine.State.{CoreState, with_apps, opening}
use Rattle.xr_model.specs.laws.Moments.{opening_moment, moment_after, IsLegalAt, exchange_at, actor_at, calls_by}
use Rattle.xr_model.specs.laws.PublicationLaws.{none_is_by}
use Rattle.xr_model.specs.laws.ImageWords.{stamp_of, stamp_after, are_free}
use Rattle.xr_model.specs.laws.MomentLaws.{are_by_callers}
use Rattle.xr_model.specs.machine.PublicationWords.{words}
use Rattle.xr_model.specs.laws.WordLaws.{PublicationFits}
use Rattle.xr_rule.specs.Rule.{state_at, front_word}
use Rattle.xr_rule.specs.Shows.{buffers, buffer_words, state_word, no_count}
use Rattle.xr_rule.specs.View.{Know, Hold, View, Eyes, Idle, Waiting, Holding, Inside, Keeps, Writes, sight, view, hold_from, number_in, calls_in, know_after}

-- What a look tells a seat of the history: it begins with what the seat has seen, what has come since is by others, it is legal, each
-- entry is by one who may ask for it, it has just those calls of the seat's actor that the seat keeps, and fewer than 2^44 of its calls
-- were counted.
pub record Sees (k : Know) (look : List Entry) : Type 0 where
  pub more : List Entry
  pub is : k.seen ++ more ≡ look
  pub none_own : none_is_by (actor_at (number_in k.own)) more ≡ true
  pub legal : IsLegalAt (opening_moment k.apps) look
  pub by_callers : are_by_callers look ≡ true
  pub own : calls_by (number_in k.own) (opening_moment k.apps) look ≡ calls_in k.own
  pub own_seen : calls_by (number_in k.own) (opening_moment k.apps) k.seen ≡ calls_in k.own
  pub few : (after (opening (with_apps k.apps)) look).core.locked < 2 ^ 44

-- no entry of any history, for a note that isn't told which
abbrev pub no_entry : Entry
no_entry = record { actor = actor_at 0; call = ask.Leave; given = 0; short = false }

-- the entry of an image that is given back
abbrev pub done_entry : Entry
done_entry = record { actor = Compositor; call = ask.ImageDone; given = 0; short = false }

-- The seat has decided the entry: what it knows has the entry last.
pub record Decides (k : Know) (look : List Entry) (e : Entry) (n : View) : Type 0 where
  pub is : n ≡ view (know_after k look e) Idle
  pub saw : Sees k look
  pub sees : Sees (know_after k look e) (look ++ e ∷ [])

-- Since the holder's look images were given back and getters read, and nothing else was decided. The entry came behind that, and comes to what it would
-- have come to at the look.
pub record DecidesBehind (k : Know) (look : List Entry) (e : Entry) (n : View) : Type 0 where
  pub more : List Entry
  pub free : are_free more ≡ true
  pub decides : Decides k (look ++ more) e n
  pub same : exchange_at (moment_after (opening_moment k.apps) (look ++ more)) e ≡ exchange_at (moment_after (opening_moment k.apps) look) e
  pub core : (state_at k ((look ++ more) ++ e ∷ [])).core ≡ (state_at k (look ++ e ∷ [])).core

-- a holder has made one call more
abbrev pub made_more : Know → Hold → Eyes → CellCall → View
made_more k h y x = sight k (Holding (record h { made = h.made ++ x ∷ [] })) y

-- ---- what is published

-- What a holder has noted publishes nothing: what does is decided where it is published.
abbrev pub PublishesNone : Know → Hold → Type 0
PublishesNone k h = IfSome h.noted (λ e. publishes e.call (step_of (state_at k h.look) e).1.reply.code ≡ false)

-- what is published behind a history
abbrev pub published_by : Know → List Entry → Publication
published_by k look = publication_of (state_at k look).core

-- the holder's counts once its buffer is the front, where this number was found there
abbrev pub counts_with : List ℕ → ℕ → ℕ → List ℕ
counts_with cs b found = slice_set (slice_set cs b no_count) (found % 16) (found / 16)

-- A seat enters the front, which decides its getter: the buffer has the words of what is published at that place.
pub record Enters (k : Know) (e : Entry) (r : ℕ) (n : View) : Type 0 where
  pub look : List Entry
  pub saw : Sees k look
  pub sees : Sees (know_after k look e) (look ++ e ∷ [])
  pub is : n ≡ sight (know_after k look e) Idle (Inside (r % 16) (words (published_by k look)))
  pub near : r % 16 < buffers
  pub short : length (words (published_by k look)) ≤ buffer_words
  pub fits : PublicationFits (published_by k look)

-- The holder has decided its entry, which published, and holds on with these counts: its look is the history with the entry, and it has
-- noted nothing. What came since its look comes before the entry, and the entry comes to what it would have come to at the look.
pub record Publishes (k : Know) (h : Hold) (e : Entry) (counts : List ℕ) (n : View) : Type 0 where
  pub more : List Entry
  pub free : are_free more ≡ true
  pub saw : Sees k (h.look ++ more)
  pub sees : Sees (know_after k (h.look ++ more) e) ((h.look ++ more) ++ e ∷ [])
  pub is : n ≡ sight (know_after k (h.look ++ more) e) (Holding (hold_from h.ticket ((h.look ++ more) ++ e ∷ []))) (Keeps counts 0)
  pub same : exchange_at (moment_after (opening_moment k.apps) (h.look ++ more)) e ≡ exchange_at (moment_after (opening_moment k.apps) h.look) e
  pub core : (state_at k ((h.look ++ more) ++ e ∷ [])).core ≡ (state_at k (h.look ++ e ∷ [])).core

module _ {S : Type 0} where
  -- a ticket is drawn: the seat waits with the one that was next
  abbrev pub Draws : Step (Option S) → Me (Option S) View → ℕ → Me (Option S) View → Type 0
  Draws st m r n = (t : ℕ) × (n ≡ (view m.0.know (Waiting t), m.1)) × (r ≡ t % 2 ^ 64)

  -- the seat has the slot, with a value that stands for what a core keeps after the history
  pub record Takes (stands : List ℕ → S → CoreState → Type 0) (k : Know) (t : ℕ) (n : Me (Option S) View) : Type 0 where
    pub look : List Entry
    pub value : S
    pub counts : List ℕ
    pub is : n ≡ (sight k (Holding (hold_from t look)) (Keeps counts 0), (0, Some value) ∷ [])
    pub sees : Sees k look
    pub stands_now : stands counts value (state_at k look).core

  -- a look takes the slot exactly where the seat's ticket is served
  abbrev pub Looks : (List ℕ → S → CoreState → Type 0) → Step (Option S) → Me (Option S) View → ℕ → Me (Option S) View → Type 0
  Looks stands st m r n = (t : ℕ) → m.0.turn ≡ Waiting t → (r ≡ t % 2 ^ 64 → Takes stands m.0.know t n) × (r ≢ t % 2 ^ 64 → n ≡ m)

  -- a holder's second look notes an entry
  abbrev pub Notes : Entry → Step (Option S) → Me (Option S) View → ℕ → Me (Option S) View → Type 0
  Notes e st m r n = (h : Hold) → m.0.turn ≡ Holding h → n ≡ (sight m.0.know (Holding (record h { noted = Some e })) m.0.eyes, m.1)

  -- a holder gives the slot back and serves the next ticket, which decides its entry if it noted one
  abbrev pub Serves : Step (Option S) → Me (Option S) View → ℕ → Me (Option S) View → Type 0
  Serves st m r n = (h : Hold) → m.0.turn ≡ Holding h → (n.1 ≡ []) × MatchOption h.noted (n.0 ≡ view m.0.know Idle) (λ e. DecidesBehind m.0.know h.look e n.0)

  -- ---- words of images

  abbrev pub Makes : CellCall → Step (Option S) → Me (Option S) View → ℕ → Me (Option S) View → Type 0
  Makes x st m r n = (h : Hold) → m.0.turn ≡ Holding h → n ≡ (made_more m.0.know h m.0.eyes x, m.1)

  -- a look at a stamp finds the one at the holder's look, but for those that it has set since
  abbrev pub Peeks : Image → Step (Option S) → Me (Option S) View → ℕ → Me (Option S) View → Type 0
  Peeks i st m r n = (h : Hold) → m.0.turn ≡ Holding h → (r ≡ stamp_after h.made i (stamp_of (state_at m.0.know h.look) i)) × (n ≡ (made_more m.0.know h m.0.eyes (peek i r), m.1))

  -- The entry of a wait is decided while its seat goes on holding: the image was unused there, or used.
  pub record DecidesHolding (k : Know) (h : Hold) (e : Entry) (unused : Bool) (m n : Me (Option S) View) : Type 0 where
    pub more : List Entry
    pub free : are_free more ≡ true
    pub found : (reads_of (state_at k (h.look ++ more)) e.call).unused ≡ unused
    pub saw : Sees k (h.look ++ more)
    pub is : n ≡ (sight (know_after k (h.look ++ more) e) (Holding (hold_from h.ticket ((h.look ++ more) ++ e ∷ []))) m.0.eyes, m.1)
    pub sees : Sees (know_after k (h.look ++ more) e) ((h.look ++ more) ++ e ∷ [])

  -- A claim of an image that is unused decides the wait, and so does one of an image that is used where the time is up.
  pub record Claimed (e : Entry) (late : Bool) (m : Me (Option S) View) (r : ℕ) (n : Me (Option S) View) (h : Hold) : Type 0 where
    pub hit : r ≡ 0 → DecidesHolding m.0.know h e true m n
    pub late_miss : r ≢ 0 → late ≡ true → DecidesHolding m.0.know h e false m n
    pub miss : r ≢ 0 → late ≡ false → n ≡ m

  abbrev pub Claims : Entry → Bool → Step (Option S) → Me (Option S) View → ℕ → Me (Option S) View → Type 0
  Claims e late st m r n = (h : Hold) → m.0.turn ≡ Holding h → Claimed e late m r n h

  -- an image is given back, also while another seat holds
  abbrev pub GivesBack : Step (Option S) → Me (Option S) View → ℕ → Me (Option S) View → Type 0
  GivesBack st m r n = (look : List Entry) × Decides m.0.know look done_entry n.0 × (n.1 ≡ m.1)

  -- ---- words of what is published

  abbrev pub EntersFor : Entry → Step (Option S) → Me (Option S) View → ℕ → Me (Option S) View → Type 0
  EntersFor e st m r n = (n.1 ≡ m.1) × Enters m.0.know e r n.0

  -- a word of the buffer that the seat is in is that of what was published
  abbrev pub Reads : Step (Option S) → Me (Option S) View → ℕ → Me (Option S) View → Type 0
  Reads st m r n = (n ≡ m) × ((b : ℕ) (p : List ℕ) (i : ℕ) → m.0.eyes ≡ Inside b p → st.word ≡ state_word front_word b i → i < length p → r ≡ slice_index p i)

  abbrev pub Leaves : Step (Option S) → Me (Option S) View → ℕ → Me (Option S) View → Type 0
  Leaves st m r n = n ≡ (view m.0.know m.0.turn, m.1)

  -- The holder looks at a buffer's exits: where they are as many as its entries, no seat is in it. The last buffer is never one that
  -- has seats in it, where all before it had.
  abbrev pub Searches : Step (Option S) → Me (Option S) View → ℕ → Me (Option S) View → Type 0
  Searches st m r n = (cs : List ℕ) (k : ℕ) → m.0.eyes ≡ Keeps cs k
      → (r % 2 ^ 60 ≡ slice_index cs k → n ≡ (sight m.0.know m.0.turn (Writes cs k []), m.1)) × (r % 2 ^ 60 ≢ slice_index cs k → (n ≡ (sight m.0.know m.0.turn (Keeps cs (k + 1)), m.1)) × (k + 1 < buffers))

  -- the holder looks at the next word of the buffer that it writes, and leaves it
  abbrev pub Finds : Step (Option S) → Me (Option S) View → ℕ → Me (Option S) View → Type 0
  Finds st m r n = (cs : List ℕ) (b : ℕ) (xs : List ℕ) → m.0.eyes ≡ Writes cs b xs → n ≡ (sight m.0.know m.0.turn (Writes cs b (xs ++ r ∷ [])), m.1)

  -- the holder writes another word in its place
  abbrev pub Changes : Step (Option S) → Me (Option S) View → ℕ → Me (Option S) View → Type 0
  Changes st m r n = (cs : List ℕ) (b : ℕ) (xs : List ℕ) (y : ℕ) → m.0.eyes ≡ Writes cs b (xs ++ y ∷ []) → n ≡ (sight m.0.know m.0.turn (Writes cs b (xs ++ r ∷ [])), m.1)

  -- the holder makes what it wrote the front, which decides its entry
  abbrev pub Swaps : Step (Option S) → Me (Option S) View → ℕ → Me (Option S) View → Type 0
  Swaps st m r n = (h : Hold) (e : Entry) (cs : List ℕ) (b : ℕ) (xs : List ℕ) → m.0.turn ≡ Holding h → h.noted ≡ Some e → m.0.eyes ≡ Writes cs b xs → (n.1 ≡ m.1) × (r % 16 < buffers) × Publishes m.0.know h e (counts_with cs b r) n.0
