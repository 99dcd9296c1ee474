-- The counts in plain cells stay those of the state, along the cell calls of every entry.
use Rattle.std.proofs.Common.{◌≡◌, ◌≤◌, ◌<◌, ◌==◌, ◌+◌, ◌-◌, ◌^◌, ℕ, ℤ, zero, suc, Bool, true, false, List, [], ◌∷◌, ◌++◌, drop, length, Option, Some, None, refl, sym, ap, ◌∙◌, arith, append-nil, true≢false}
use Rattle.std.specs.Prelude.{min, slice_get, slice_set, unwrap_or, if◌then◌else◌}
use Rattle.std.specs.List.{list_all}
use Rattle.std.proofs.lemmas.Bool.Decides.{nat_tests}
use Rattle.xr_types.specs.declared.frames.Blend.{Blend}
use Rattle.xr_types.specs.declared.frames.Image.{Image}
use Rattle.xr_types.specs.declared.frames.Layer.{Layer}
use Rattle.xr_types.specs.Frames.{PendingFrame}
use Rattle.xr_model.specs.machine.Images.{Stamped, times_in, uses_of, count_of, slot_of}
use Rattle.xr_model.specs.machine.CellCalls.{CellCall, pin, claim, free, stamp, peek, give_back, claim_calls, pin_calls, free_calls, stamp_calls, peek_calls, return_calls, Leads}
use Rattle.xr_model.specs.machine.PlainImages.{PlainImages, PlainDoes, count_at}
use Rattle.xr_model.specs.machine.Frames.{one_if}
use Rattle.xr_model.specs.machine.Refusals.{Refusal}
use Rattle.xr_types.specs.CallKinds.{is_locked}
use Rattle.xr_model.specs.machine.Calls.{Entry}
use Rattle.xr_types.specs.declared.calls.Call.{Call}
use Rattle.xr_types.specs.declared.calls.Call.TheVariants as ask
use Rattle.xr_model.specs.machine.State.{CoreState, CellReads}
use Rattle.xr_model.specs.machine.Rule.{Rule, Effect, Did, refusal, told_on, unless_refused}
use Rattle.xr_model.specs.machine.Rules.Frames.{new_frame}
use Rattle.xr_model.specs.machine.Machine.{effect, rule, cell_calls, as_unused, held_after}
use Rattle.xr_model.specs.scenario.InRange.{Each}
use Rattle.xr_model.proofs.Rows.{itself, same_key}
use Rattle.xr_model.proofs.FrameLists.{is_frame_move, frames_stay}
use Rattle.xr_model.proofs.HeldFits.{did_kept}
use Rattle.xr_model.proofs.OverCells.{still_call}
use Rattle.xr_model.proofs.MarkValues.{set_there}
use Rattle.xr_model.proofs.LaterPoses.{set_length}
use Rattle.xr_model.proofs.FrameOrder.{clear}
use Rattle.xr_model.proofs.FrameImages.{IsLast, each_so, times_left}
use Rattle.xr_model.proofs.ImageOwners.{uses_few}
use Rattle.xr_model.proofs.SoundImages.{submitted_images}
use Rattle.xr_model.specs.laws.Soundness.{IsSound, AreCounted}

-- ---- one place of a list

one_less : (xs : List ℕ) (k n : ℕ) → unwrap_or (slice_get xs k) 0 ≡ suc n → unwrap_or (slice_get (slice_set xs k n) k) 0 ≡ n
one_less [] k n is = cc
one_less (x ∷ xs) zero n is = refl
one_less (x ∷ xs) (suc k) n is = one_less xs k n is

others_stay : (xs : List ℕ) (j k n : ℕ) → (j == k) ≡ false → unwrap_or (slice_get (slice_set xs j n) k) 0 ≡ unwrap_or (slice_get xs k) 0
others_stay [] j k n apart = refl
others_stay (x ∷ xs) zero zero n apart = absurd (true≢false apart)
others_stay (x ∷ xs) zero (suc k) n apart = refl
others_stay (x ∷ xs) (suc j) zero n apart = refl
others_stay (x ∷ xs) (suc j) (suc k) n apart = others_stay xs j k n (grind (arith, nat_tests, apart))

pub within : {T : Type 0} (xs : List T) (k : ℕ) (x : T) → slice_get xs k ≡ Some x → k < length xs
within [] k x at = cc
within (y ∷ ys) zero x at = omega arith
within (y ∷ ys) (suc k) x at = let more = within ys k x at in omega (arith, more)

-- ---- calls that leave the counts

abbrev leaves_counts : CellCall → Bool
leaves_counts (pin i) = false
leaves_counts (give_back i) = false
leaves_counts _ = true

claimed_counts : (b : Bool) (c : PlainImages) (k : ℕ) → (if b then record c { holders = slice_set c.holders k true } else c).counts ≡ c.counts
claimed_counts true c k = refl
claimed_counts false c k = refl

counts_stay : (calls : List CellCall) (c d : PlainImages) → list_all leaves_counts calls ≡ true → Leads PlainDoes c calls d → d.counts ≡ c.counts
counts_stay [] c d leave leads = ap (λ (x : PlainImages). x.counts) leads
counts_stay (pin i ∷ calls) c d leave leads = absurd (true≢false (sym leave))
counts_stay (claim i b ∷ calls) c d leave (m, h, rest) = counts_stay calls m d leave rest ∙ ap (λ (x : PlainImages). x.counts) h.1 ∙ claimed_counts (count_at c (slot_of i) == 0) c (slot_of i)
counts_stay (free i ∷ calls) c d leave (m, h, rest) = counts_stay calls m d leave rest ∙ ap (λ (x : PlainImages). x.counts) h
counts_stay (stamp i n ∷ calls) c d leave (m, h, rest) = counts_stay calls m d leave rest ∙ ap (λ (x : PlainImages). x.counts) h
counts_stay (peek i n ∷ calls) c d leave (m, h, rest) = counts_stay calls m d leave rest ∙ ap (λ (x : PlainImages). x.counts) h.1
counts_stay (give_back i ∷ calls) c d leave leads = absurd (true≢false (sym leave))

module _ (rest : List CellCall) where
  claims_leave : (b : Bool) (images : List Image) → list_all leaves_counts (claim_calls b images ++ rest) ≡ list_all leaves_counts rest
  claims_leave b [] = refl
  claims_leave b (i ∷ images) = claims_leave b images

  frees_leave : (images : List Image) → list_all leaves_counts (free_calls images ++ rest) ≡ list_all leaves_counts rest
  frees_leave [] = refl
  frees_leave (i ∷ images) = frees_leave images

  stamps_leave : (xs : List Stamped) → list_all leaves_counts (stamp_calls xs ++ rest) ≡ list_all leaves_counts rest
  stamps_leave [] = refl
  stamps_leave (x ∷ xs) = stamps_leave xs

  peeks_leave : (images : List Image) (stamps : List ℕ) → list_all leaves_counts (peek_calls images stamps ++ rest) ≡ list_all leaves_counts rest
  peeks_leave [] stamps = refl
  peeks_leave (i ∷ images) [] = peeks_leave images []
  peeks_leave (i ∷ images) (n ∷ stamps) = peeks_leave images stamps

-- calls by which no image is used or given back leave the counts
counts_left : (s : CoreState) (r : CellReads) (e : Entry) (c d : PlainImages) → (effect s r e).did.used ≡ [] → (effect s r e).did.returned ≡ [] → Leads PlainDoes c (cell_calls s r e) d → d.counts ≡ c.counts
counts_left s r e c d used returned leads = counts_stay (cell_calls s r e) c d all leads
  where
    did : Did
    did = (effect s r e).did

    all : list_all leaves_counts (cell_calls s r e) ≡ true
    all = rw (used, returned)
        (claims_leave (free_calls did.freed ++ (stamp_calls did.stamped ++ (peek_calls did.taken r.stamps ++ []))) r.unused (effect s (as_unused r) e).did.claimed
        ∙ frees_leave (stamp_calls did.stamped ++ (peek_calls did.taken r.stamps ++ [])) did.freed
        ∙ stamps_leave (peek_calls did.taken r.stamps ++ []) did.stamped ∙ peeks_leave [] did.taken r.stamps)

-- ---- images that a frame uses

-- an image has a count among so many
abbrev HasCount : ℕ → Image → Type 0
HasCount n i = slot_of i < n

-- uses more are counted, where the counts stay far from their type's end
pins_count : (images : List Image) (c d : PlainImages) → Each (HasCount (length c.counts)) images → ((k : ℕ) → count_at c k + times_in images k < 2 ^ 64) → Leads PlainDoes c (pin_calls images ++ []) d → (k : ℕ)
    → count_at d k ≡ count_at c k + times_in images k
pins_count [] c d each few leads k = rw leads (omega arith)
pins_count (i ∷ images) c d each few (m, h, rest) k =
    let there : slot_of i < length c.counts = each.0 in
    let last = few (slot_of i) in
    let bound : count_at c (slot_of i) + (1 + times_in images (slot_of i)) < 2 ^ 64 = rw (itself (slot_of i)) at last in
    let sum : min (count_at c (slot_of i) + 1) (2 ^ 64 - 1) ≡ count_at c (slot_of i) + 1 = omega (arith, bound) in
    let same : m.counts ≡ slice_set c.counts (slot_of i) (count_at c (slot_of i) + 1) = ap (λ (x : PlainImages). x.counts) h ∙ ap (λ (n : ℕ). slice_set c.counts (slot_of i) n) sum in
    let here : (q : ℕ) → count_at m q ≡ count_at c q + one_if (slot_of i == q) = λ q. rw same (one q there (slot_of i == q) refl) in
    let all : Each (HasCount (length m.counts)) images = rw (same, set_length c.counts (slot_of i) (count_at c (slot_of i) + 1)) each.1 in
    let fewer : (q : ℕ) → count_at m q + times_in images q < 2 ^ 64 = λ q. let at = here q in let before = few q in omega (arith, at, before) in
    let more = pins_count images m d all fewer rest k in
    let at = here k in omega (arith, more, at)
  where
    one : (q : ℕ) → slot_of i < length c.counts → (b : Bool) → (slot_of i == q) ≡ b → unwrap_or (slice_get (slice_set c.counts (slot_of i) (count_at c (slot_of i) + 1)) q) 0 ≡ count_at c q + one_if b
    one q there true is =
        let n : slot_of i ≡ q = same_key (slot_of i) q is in
        rw (← n, set_there c.counts (slot_of i) (count_at c (slot_of i) + 1) there) refl
    one q there false apart = others_stay c.counts (slot_of i) q (count_at c (slot_of i) + 1) apart ∙ omega arith

-- ---- the counts

uses_more : (fs : List PendingFrame) (f : PendingFrame) (k : ℕ) → uses_of (fs ++ f ∷ []) k ≡ uses_of fs k + times_in f.images k
uses_more [] f k = omega arith
uses_more (x ∷ fs) f k = let more = uses_more fs f k in omega (arith, more)

-- calls keep how many counts there are
all_counts : (calls : List CellCall) (c d : PlainImages) → Leads PlainDoes c calls d → length d.counts ≡ length c.counts
all_counts [] c d leads = ap (λ (x : PlainImages). length x.counts) leads
all_counts (pin i ∷ calls) c d (m, h, rest) = all_counts calls m d rest ∙ ap (λ (x : PlainImages). length x.counts) h ∙ set_length c.counts (slot_of i) (min (count_at c (slot_of i) + 1) (2 ^ 64 - 1))
all_counts (claim i b ∷ calls) c d (m, h, rest) = all_counts calls m d rest ∙ ap (λ (x : PlainImages). length x.counts) h.1 ∙ ap (λ (l : List ℕ). length l) (claimed_counts (count_at c (slot_of i) == 0) c (slot_of i))
all_counts (free i ∷ calls) c d (m, h, rest) = all_counts calls m d rest ∙ ap (λ (x : PlainImages). length x.counts) h
all_counts (stamp i n ∷ calls) c d (m, h, rest) = all_counts calls m d rest ∙ ap (λ (x : PlainImages). length x.counts) h
all_counts (peek i n ∷ calls) c d (m, h, rest) = all_counts calls m d rest ∙ ap (λ (x : PlainImages). length x.counts) h.1
all_counts (give_back i ∷ calls) c d (m, h, rest) = all_counts calls m d rest ∙ ap (λ (x : PlainImages). length x.counts) h ∙ set_length c.counts (slot_of i) (count_at c (slot_of i) - 1)

-- a call that leaves the frames and what is held
left_counted : (s : CoreState) (held : List Image) (x : Effect) (c d : PlainImages) → x.state.frames.pending ≡ s.frames.pending → x.did.taken ≡ [] → x.did.returned ≡ [] → d.counts ≡ c.counts
    → ((k : ℕ) → count_at c k ≡ count_of s.frames.pending held k) → (k : ℕ) → count_at d k ≡ count_of x.state.frames.pending (held_after held x.did) k
left_counted s held x c d pending taken returned same counts k = rw (pending, taken, returned, same) (counts k)

record UsesNone (did : Did) : Type 0 where
  used : did.used ≡ []
  returned : did.returned ≡ []

-- where no frame is submitted, no image is used more
used_none : (s : CoreState) (r : CellReads) (e : Entry) → is_frame_move e.call ≡ false → (effect s r e).did.used ≡ []
used_none s r e aside = by e.call aside
  where
    by : (what : Call) → is_frame_move what ≡ false → (effect s r (record e { call = what })).did.used ≡ []
    by (ask.EndFrame session time blend layers) aside = absurd (true≢false aside)
    by ask.NextFrame aside = absurd (true≢false aside)
    by what aside = did_kept (λ d. d.used ≡ []) s e.short (rule s r (record e { call = what })) refl refl

module _ (s : CoreState) (r : CellReads) (held : List Image) (e : Entry) (c d : PlainImages) (own : r.held ≡ held) (sound : IsSound s.handles.chains s.chains s.frames.pending s.shown_images held)
    (few : length s.frames.pending < 2 ^ 44) (counted : AreCounted c s.frames.pending held) where
  abbrev IsKept : Call → Type 0
  IsKept what = Leads PlainDoes c (cell_calls s r (record e { call = what })) d → (k : ℕ) → count_at d k ≡ count_of (effect s r (record e { call = what })).state.frames.pending (held_after held (effect s r (record e { call = what })).did) k

  taken_counted : IsKept ask.NextFrame
  taken_counted leads = takes held s.frames.pending own refl counted.counts (counts_left s r (record e { call = ask.NextFrame }) c d none.used none.returned leads)
    where
      none : UsesNone (effect s r (record e { call = ask.NextFrame })).did
      none = did_kept UsesNone s e.short (rule s r (record e { call = ask.NextFrame })) (record { used = refl; returned = refl }) (record { used = refl; returned = refl })

      takes : (hs : List Image) (fs : List PendingFrame) → r.held ≡ hs → s.frames.pending ≡ fs → ((k : ℕ) → count_at c k ≡ count_of s.frames.pending hs k) → d.counts ≡ c.counts
          → (k : ℕ) → count_at d k ≡ count_of (effect s r (record e { call = ask.NextFrame })).state.frames.pending (held_after hs (effect s r (record e { call = ask.NextFrame })).did) k
      takes (i ∷ hs) fs is pending counts same k = rw (is, same) (counts k)
      takes [] [] is pending counts same k = rw (is, pending, same) (rw pending at counts k)
      takes [] (f ∷ fs) is pending counts same k =
          let all : count_at c k ≡ (times_in f.images k + uses_of fs k) + 0 = rw pending at counts k in
          rw (is, pending, same, append-nil f.images) (all ∙ omega arith)

  returned_counted : IsKept ask.ImageDone
  returned_counted leads = gives held own counted.counts leads
    where
      gives : (hs : List Image) → r.held ≡ hs → ((k : ℕ) → count_at c k ≡ count_of s.frames.pending hs k) → Leads PlainDoes c (cell_calls s r (record e { call = ask.ImageDone })) d
          → (k : ℕ) → count_at d k ≡ count_of (effect s r (record e { call = ask.ImageDone })).state.frames.pending (held_after hs (effect s r (record e { call = ask.ImageDone })).did) k
      gives [] is counts leads k = let same : d ≡ c = rw is at leads in rw (is, same) (counts k)
      gives (i ∷ hs) is counts leads k = rw is (one (slot_of i == k) refl)
        where
          calls : Leads PlainDoes c (give_back i ∷ []) d
          calls = rw is at leads

          given : d ≡ record c { counts = slice_set c.counts (slot_of i) (count_at c (slot_of i) - 1) }
          given = calls.2 ∙ calls.1

          one : (b : Bool) → (slot_of i == k) ≡ b → count_at d k ≡ count_of s.frames.pending hs k
          one true here =
              let n : slot_of i ≡ k = same_key (slot_of i) k here in
              let more : count_at c (slot_of i) ≡ suc (count_of s.frames.pending hs (slot_of i)) = counts (slot_of i) ∙ rw (itself (slot_of i)) (omega arith) in
              let less : count_at c (slot_of i) - 1 ≡ count_of s.frames.pending hs (slot_of i) = omega (arith, more) in
              let left = one_less c.counts (slot_of i) (count_of s.frames.pending hs (slot_of i)) more in
              rw (given, less, ← n) left
          one false apart = let here = counts k in let all : count_at c k ≡ uses_of s.frames.pending k + (0 + times_in hs k) = rw apart at here in rw given (others_stay c.counts (slot_of i) k (count_at c (slot_of i) - 1) apart ∙ all ∙ omega arith)

  submitted_counted : (session : ℕ) (time : ℤ) (blend : Blend) (layers : List Layer) → IsKept (ask.EndFrame session time blend layers)
  submitted_counted session time blend layers leads = ends (refusal e.short f) refl leads
    where
      x : Entry
      x = record e { call = ask.EndFrame session time blend layers }

      f : Rule
      f = rule s r x

      images : List Image
      images = (new_frame s session time layers).images

      ends : (o : Option Refusal) → refusal e.short f ≡ o
          → Leads PlainDoes c (claim_calls r.unused (unless_refused s o (told_on f.on f.effect)).did.claimed ++ (pin_calls (unless_refused s o (told_on f.on f.effect)).did.used ++ (free_calls (unless_refused s o (told_on f.on f.effect)).did.freed ++ (stamp_calls (unless_refused s o (told_on f.on f.effect)).did.stamped ++ (peek_calls (unless_refused s o (told_on f.on f.effect)).did.taken r.stamps ++ return_calls (unless_refused s o (told_on f.on f.effect)).did.returned))))) d
          → (k : ℕ) → count_at d k ≡ count_of (unless_refused s o (told_on f.on f.effect)).state.frames.pending (held_after held (unless_refused s o (told_on f.on f.effect)).did) k
      ends (Some refused) found leads k = rw leads (counted.counts k)
      ends None found leads k =
          let once = submitted_images s held sound session time blend layers (clear f e.short found).behind in
          let each : Each (HasCount (length c.counts)) images = each_so (IsLast s.chains) (HasCount (length c.counts)) have images once.each in
          let here = counted.counts k in
          let more = uses_more s.frames.pending (new_frame s session time layers) k in
          let pinned = pins_count images c d each bound leads k in
          omega (arith, here, more, pinned)
        where
          have : (i : Image) → IsLast s.chains i → HasCount (length c.counts) i
          have i last = let place = within s.chains i.place last.chain last.at in let below = last.below in let size = sound.all in let all = counted.all in omega (arith, place, below, size, all)

          bound : (q : ℕ) → count_at c q + times_in images q < 2 ^ 64
          bound q =
              let once = submitted_images s held sound session time blend layers (clear f e.short found).behind in
              let one = once.once q in
              let here = counted.counts q in
              let pending = uses_few s.frames.pending q sound.frames in
              let kept : times_in held q ≤ times_in s.shown_images q = rw sound.left.are (times_left sound.left.gone s.shown_images q) in
              let last = sound.last.once q in
              omega (arith, one, here, pending, kept, last, few)

  counts_kept : IsKept e.call
  counts_kept = by e.call
    where
      by : (what : Call) → IsKept what
      by ask.NextFrame = taken_counted
      by ask.ImageDone = returned_counted
      by (ask.EndFrame session time blend layers) = submitted_counted session time blend layers
      by what = λ leads.
          let still = still_call s r (record e { call = what }) tt in
          let frames = frames_stay s r (record e { call = what }) refl in
          let same = counts_left s r (record e { call = what }) c d (used_none s r (record e { call = what }) refl) still.returned leads in
          left_counted s held (effect s r (record e { call = what })) c d frames.pending still.taken still.returned same counted.counts

  -- after each entry the counts are those of the frames and of what is held
  pub still_counted : Leads PlainDoes c (cell_calls s r e) d → AreCounted d (effect s r e).state.frames.pending (held_after held (effect s r e).did)
  still_counted leads = record { all = all_counts (cell_calls s r e) c d leads ∙ counted.all; counts = counts_kept leads }

-- no call that may have to wait uses an image or gives one back
pub waiting_counts : (s : CoreState) (r : CellReads) (e : Entry) (c d : PlainImages) → (rule s r e).waits ≡ true → Leads PlainDoes c (cell_calls s r e) d → d.counts ≡ c.counts
waiting_counts s r e c d waits leads = let none = by e.call waits in counts_left s r e c d none.used none.returned leads
  where
    by : (what : Call) → (rule s r (record e { call = what })).waits ≡ true → UsesNone (effect s r (record e { call = what })).did
    by (ask.EndFrame session time blend layers) waits = absurd (true≢false (sym waits))
    by ask.ImageDone waits = absurd (true≢false (sym waits))
    by what waits = did_kept UsesNone s e.short (rule s r (record e { call = what })) (record { used = refl; returned = refl }) (record { used = refl; returned = refl })

-- how many frames are pending after an entry
pub pending_few : (s : CoreState) (r : CellReads) (e : Entry) → length (effect s r e).state.frames.pending ≤ length s.frames.pending + one_if (is_locked e.call)
pending_few s r e = by e.call
  where
    ends : (o : Option Refusal) (x : Effect) → length x.state.frames.pending ≤ length s.frames.pending + 1 → length (unless_refused s o x).state.frames.pending ≤ length s.frames.pending + 1
    ends None x less = less
    ends (Some refused) x less = omega arith

    more : (fs : List PendingFrame) (f : PendingFrame) → length (fs ++ f ∷ []) ≤ length fs + 1
    more [] f = omega arith
    more (g ∷ fs) f = let less = more fs f in omega (arith, less)

    fewer : (fs : List PendingFrame) → length (drop 1 fs) ≤ length fs + 1
    fewer [] = omega arith
    fewer (g ∷ fs) = omega arith

    by : (what : Call) → length (effect s r (record e { call = what })).state.frames.pending ≤ length s.frames.pending + one_if (is_locked what)
    by (ask.EndFrame session time blend layers) =
        let f = rule s r (record e { call = ask.EndFrame session time blend layers }) in
        ends (refusal e.short f) (told_on f.on f.effect) (more s.frames.pending (new_frame s session time layers))
    by ask.NextFrame =
        let f = rule s r (record e { call = ask.NextFrame }) in
        ends (refusal e.short f) f.effect (fewer s.frames.pending)
    by what =
        let same = (frames_stay s r (record e { call = what }) refl).pending in
        let more = one_if (is_locked what) in
        rw same (omega arith)
