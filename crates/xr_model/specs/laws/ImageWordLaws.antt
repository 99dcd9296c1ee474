-- Words of images in every history: whose image a word says it is, what an entry makes of words, what its calls on cells ask for,
-- what a wait comes to, and what may come between a look and an entry.
use Rattle.std.specs.Prelude.{◌≡◌, ◌+◌, ◌*◌, ◌^◌, ◌==◌, ◌&&◌, nat_le, true, false, List, [], ◌∷◌, ◌++◌, if◌then◌else◌}
use Rattle.xr_types.specs.declared.calls.Call.TheVariants as ask
use Rattle.xr_types.specs.declared.frames.Image.{Image}
use Rattle.xr_types.specs.declared.handles.TheConstants.{SESSIONS}
use Rattle.xr_model.specs.scenario.InRange.{Each}
use Rattle.xr_model.specs.machine.Calls.{Entry}
use Rattle.xr_model.specs.machine.CellCalls.{claim}
use Rattle.xr_model.specs.machine.History.{after, IsLegal}
use Rattle.xr_model.specs.machine.Images.{slot_of, times_in}
use Rattle.xr_model.specs.machine.Machine.{effect, core_ready, step, reads_of, cell_calls}
use Rattle.xr_model.specs.machine.Rule.{nothing_done}
use Rattle.xr_model.specs.machine.State.{Settings, CoreState, CellReads, opening}
use Rattle.xr_model.specs.laws.DecidedEntries.{is_image_done, past_of}
use Rattle.xr_model.specs.laws.ImageLaws.{IsPlaced, did_at, is_compositor_call}
use Rattle.xr_model.specs.laws.ImageWords.{word_of, stamp_of, calls_at, word_after, stamp_after, FitsCall, claimed_by, Claims, late_of, are_free}
use Rattle.xr_model.specs.laws.Moments.{Moment, MayCome, moment_after, exchange_at}
use Rattle.xr_model.specs.laws.Owners.{is_applications, is_compositors}

-- ---- owners

-- The image is an application's where its word is 2^32, and the compositor's where its word is 1 to 2 * SESSIONS + 2.
pub record WordTells (settings : Settings) (es : List Entry) (i : Image) : Type 0 where
  pub application : is_applications i (past_of settings es) ≡ (word_of (after (opening settings) es) i == 2 ^ 32)
  pub compositor : is_compositors i (past_of settings es) ≡ (nat_le 1 (word_of (after (opening settings) es) i) && nat_le (word_of (after (opening settings) es) i) (2 * SESSIONS + 2))

abbrev pub WordsTellOwners : Type 0
WordsTellOwners = (settings : Settings) (es : List Entry) (i : Image) → IsLegal settings es → IsPlaced i → WordTells settings es i

-- ---- what an entry makes of words

-- an entry that claims no image and gives none back makes of a word what its calls on cells make of it
abbrev pub WordsFollowCalls : Type 0
WordsFollowCalls =
    (settings : Settings) (es : List Entry) (e : Entry) (i : Image) → IsLegal settings (es ++ e ∷ []) → IsPlaced i
    → is_image_done e.call ≡ false → (did_at (after (opening settings) es) e).claimed ≡ []
    → word_of (step (after (opening settings) es) e).0 i ≡ word_after (calls_at (after (opening settings) es) e) i (word_of (after (opening settings) es) i)

-- and every entry makes of a stamp what its calls make of it
abbrev pub StampsFollowCalls : Type 0
StampsFollowCalls =
    (settings : Settings) (es : List Entry) (e : Entry) (i : Image) → IsLegal settings (es ++ e ∷ []) → IsPlaced i
    → stamp_of (step (after (opening settings) es) e).0 i ≡ stamp_after (calls_at (after (opening settings) es) e) i (stamp_of (after (opening settings) es) i)

-- a word falls by what is given back
abbrev pub WordsFallByReturns : Type 0
WordsFallByReturns =
    (settings : Settings) (es : List Entry) (e : Entry) (i : Image) → IsLegal settings (es ++ e ∷ []) → IsPlaced i → e.call ≡ ask.ImageDone
    → word_of (step (after (opening settings) es) e).0 i + times_in (did_at (after (opening settings) es) e).returned (slot_of i) ≡ word_of (after (opening settings) es) i

-- the word of an image that is claimed becomes an application's, and every other word stays
abbrev pub ClaimsAreWords : Type 0
ClaimsAreWords =
    (settings : Settings) (es : List Entry) (e : Entry) (i j : Image) → IsLegal settings (es ++ e ∷ []) → IsPlaced i
    → (did_at (after (opening settings) es) e).claimed ≡ j ∷ []
    → word_of (step (after (opening settings) es) e).0 i ≡ (if slot_of j == slot_of i then 2 ^ 32 else word_of (after (opening settings) es) i)

-- ---- what calls on cells ask for

-- behind every legal history, each call on cells of an entry fits what the core keeps, whatever cells tell
abbrev pub CallsFit : Type 0
CallsFit =
    (settings : Settings) (es : List Entry) (reads : CellReads) (e : Entry) → IsLegal settings es → is_image_done e.call ≡ false
    → Each (FitsCall (after (opening settings) es).core) (cell_calls (after (opening settings) es).core reads e)

-- An entry that may claim an image is a wait for it, and makes no other call on cells.
pub record ClaimsAlone (s : CoreState) (r : CellReads) (e : Entry) (i : Image) : Type 0 where
  pub claims : Claims s e i
  pub calls : cell_calls s r e ≡ claim i r.unused ∷ []

abbrev pub ClaimsStandAlone : Type 0
ClaimsStandAlone = (s : CoreState) (r : CellReads) (e : Entry) (i : Image) (is : List Image) → claimed_by s r e ≡ i ∷ is → ClaimsAlone s r e i

-- ---- what a wait comes to

-- the image is unused: the call gets it
pub record Gets (s : CoreState) (r : CellReads) (e : Entry) (i : Image) : Type 0 where
  pub claimed : (effect s r e).did.claimed ≡ i ∷ []
  pub used : (effect s r e).did.used ≡ []
  pub freed : (effect s r e).did.freed ≡ []
  pub returned : (effect s r e).did.returned ≡ []
  pub stamped : (effect s r e).did.stamped ≡ []
  pub is_ready : core_ready s r e ≡ true

-- the time is up: the call does nothing
pub record Expires (s : CoreState) (r : CellReads) (e : Entry) : Type 0 where
  pub nothing : (effect s r e).did ≡ nothing_done
  pub is_ready : core_ready s r e ≡ true

-- By whether its image is unused, and whether its time is up, a wait gets the image, or expires, or isn't ready.
pub record WaitComesTo (s : CoreState) (r : CellReads) (e : Entry) (i : Image) : Type 0 where
  pub gets : r.unused ≡ true → Gets s r e i
  pub expires : r.unused ≡ false → late_of s.device.clock e.call ≡ true → Expires s r e
  pub held_back : r.unused ≡ false → late_of s.device.clock e.call ≡ false → core_ready s r e ≡ false

abbrev pub WaitsComeToOneOfThree : Type 0
WaitsComeToOneOfThree = (s : CoreState) (r : CellReads) (e : Entry) (i : Image) → Claims s e i → WaitComesTo s r e i

-- ---- entries that are decided without the lock

-- What such entries leave of a moment.
pub record Leaves (m n : Moment) : Type 0 where
  pub core : n.state.core ≡ m.state.core
  pub clocks : n.clocks ≡ m.clocks
  pub stamps : n.state.cells.stamps ≡ m.state.cells.stamps

abbrev pub FreeEntriesLeave : Type 0
FreeEntriesLeave = (m : Moment) (es : List Entry) → are_free es ≡ true → Leaves m (moment_after m es)

-- An entry comes to the same at both moments.
pub record Carried (m n : Moment) (e : Entry) : Type 0 where
  pub comes : MayCome n e
  pub same : exchange_at n e ≡ exchange_at m e
  pub core : (step n.state e).0.core ≡ (step m.state e).0.core
  pub calls : calls_at n.state e ≡ calls_at m.state e
  pub unclaimed : claimed_by n.state.core (reads_of n.state e.call) e ≡ []

-- one that is none of the compositor's and claims no image comes to the same behind what such entries leave
abbrev pub EntriesAreCarried : Type 0
EntriesAreCarried =
    (m n : Moment) (e : Entry) → Leaves m n → is_compositor_call e.call ≡ false → claimed_by m.state.core (reads_of m.state e.call) e ≡ []
    → MayCome m e → Carried m n e
