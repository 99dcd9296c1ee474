-- The word and the stamp of an image, as a state says them, what a core's calls on cells make of them and ask for, which wait claims
-- an image, and which entries are decided without the lock.
use Rattle.std.specs.Prelude.{◌≡◌, ℕ, ℤ, ◌+◌, ◌^◌, ◌==◌, ◌||◌, Bool, false, true, List, [], ◌∷◌, if◌then◌else◌}
use Rattle.std.specs.List.{list_all, list_any}
use Rattle.xr_types.specs.declared.frames.Image.{Image}
use Rattle.xr_types.specs.CallKinds.{is_getter}
use Rattle.xr_model.specs.machine.CellCalls.{CellCall, pin, claim, free, stamp, peek, give_back}
use Rattle.xr_model.specs.machine.Images.{slot_of, stamp_in}
use Rattle.xr_types.specs.declared.handles.Kind.TheVariants.{Swapchain}
use Rattle.xr_model.specs.machine.Chains.{chain_at, is_wait_wrong, oldest_image}
use Rattle.xr_model.specs.machine.Handles.{is_live}
use Rattle.xr_model.specs.machine.Calls.{Entry}
use Rattle.xr_types.specs.declared.calls.Call.{Call}
use Rattle.xr_types.specs.declared.calls.Call.TheVariants as ask
use Rattle.xr_model.specs.machine.Rules.Session.{life_of}
use Rattle.xr_model.specs.machine.Rules.Spaces.{session_above}
use Rattle.xr_model.specs.machine.Rules.Swapchains.{is_up}
use Rattle.xr_model.specs.machine.State.{CoreState, CellReads, State}
use Rattle.xr_model.specs.machine.Machine.{effect, as_unused, cell_calls, reads_of}
use Rattle.xr_model.specs.laws.DecidedEntries.{is_image_done}
use Rattle.xr_model.specs.laws.ImageLaws.{IsPlaced, is_had, count_now}

-- ---- words

-- the word of an image: 2^32 where an application owns it, and else how often it is used
abbrev pub word_of : State → Image → ℕ
word_of s i = if is_had s.core i then 2 ^ 32 else count_now s i

abbrev pub stamp_of : State → Image → ℕ
stamp_of s i = stamp_in s.cells.stamps i

-- ---- calls on cells

-- the calls on cells that an entry makes in this state
abbrev pub calls_at : State → Entry → List CellCall
calls_at s e = cell_calls s.core (reads_of s e.call) e

-- what a call makes of an image's word. A claim, and a giving back, are decided as they are made, so they are no holder's.
abbrev pub word_by : CellCall → Image → ℕ → ℕ
word_by (pin j) i w = if slot_of j == slot_of i then w + 1 else w
word_by (free j) i w = if slot_of j == slot_of i then 0 else w
word_by _ i w = w

abbrev pub word_after : List CellCall → Image → ℕ → ℕ
word_after [] i w = w
word_after (x ∷ xs) i w = word_after xs i (word_by x i w)

abbrev pub stamp_by : CellCall → Image → ℕ → ℕ
stamp_by (stamp j n) i w = if slot_of j == slot_of i then n else w
stamp_by _ i w = w

abbrev pub stamp_after : List CellCall → Image → ℕ → ℕ
stamp_after [] i w = w
stamp_after (x ∷ xs) i w = stamp_after xs i (stamp_by x i w)

-- ---- what calls ask of what a core keeps

-- A call on cells fits what the core keeps: the image is one of the places, an application has what is freed and hasn't what is
-- claimed. Nobody gives an image back under the lock.
abbrev pub FitsCall : CoreState → CellCall → Type 0
FitsCall s (pin i) = IsPlaced i
FitsCall s (claim i b) = IsPlaced i × (is_had s i ≡ false)
FitsCall s (free i) = IsPlaced i × (is_had s i ≡ true)
FitsCall s (stamp i n) = IsPlaced i
FitsCall s (peek i n) = IsPlaced i
FitsCall s (give_back i) = ⊥

-- the images that a call claims where none is used
abbrev pub claimed_by : CoreState → CellReads → Entry → List Image
claimed_by s reads e = (effect s (as_unused reads) e).did.claimed

-- ---- claims

-- nothing but a count stands against a wait on this chain
pub record MayWait (s : CoreState) (chain : ℕ) : Type 0 where
  pub live : is_live s.handles Swapchain chain ≡ true
  pub lost : (life_of s (session_above s.handles chain)).lost ≡ false
  pub order : is_wait_wrong (chain_at s.chains chain) ≡ false

-- an entry that claims an image is a wait that nothing but a count stands against
pub record Claims (s : CoreState) (e : Entry) (i : Image) : Type 0 where
  pub chain : ℕ
  pub timeout : ℤ
  pub start : ℤ
  pub is : e.call ≡ ask.WaitImage chain timeout start
  pub image : i ≡ oldest_image s.chains chain
  pub may : MayWait s chain

-- a call is a wait whose time is up at this clock
abbrev pub late_of : ℤ → Call → Bool
late_of clock (ask.WaitImage chain timeout start) = is_up clock timeout start
late_of clock _ = false

-- ---- entries that are decided without the lock

-- an image that is given back, or what a getter reads
abbrev pub is_free : Entry → Bool
is_free e = is_image_done e.call || is_getter e.call

abbrev pub are_free : List Entry → Bool
are_free es = list_all is_free es

abbrev pub are_getters : List Entry → Bool
are_getters es = list_all (λ e. is_getter e.call) es

-- an image of these stands there
abbrev pub is_at : Image → List Image → Bool
is_at i images = list_any (λ j. slot_of j == slot_of i) images
