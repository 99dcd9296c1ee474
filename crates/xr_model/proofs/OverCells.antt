-- What is answered over cells of any kind: calls that touch none, and what plain cells make of the clause.
use Rattle.std.proofs.Common.{◌≡◌, ◌||◌, ◌==◌, ℕ, Bool, true, false, List, [], ◌∷◌, ◌++◌, length, refl, sym, ap, subst, ◌∙◌, arith, true≢false, not}
use Rattle.std.specs.Prelude.{is_some, slice_set, if◌then◌else◌}
use Rattle.xr_types.specs.declared.frames.Image.{Image}
use Rattle.xr_types.specs.declared.calls.Actor.{Actor}
use Rattle.xr_types.specs.declared.calls.Call.{Call}
use Rattle.xr_types.specs.declared.calls.Step.{Step}
use Rattle.xr_types.specs.declared.calls.Step.TheVariants.{Done, NotReady}
use Rattle.xr_model.specs.machine.Chains.{oldest_image}
use Rattle.xr_model.specs.machine.Images.{Stamped, slot_of, count_of, first_images, stamps_at, with_stamps}
use Rattle.xr_model.specs.machine.CellCalls.{CellCall, pin, claim, free, stamp, peek, give_back, claim_calls, pin_calls, free_calls, stamp_calls, peek_calls, return_calls, MayCall, Leads}
use Rattle.xr_model.specs.machine.PlainImages.{PlainImages, PlainMay, PlainDoes, count_at}
use Rattle.xr_model.specs.machine.Refusals.{first_of}
use Rattle.xr_model.specs.machine.Calls.{Entry}
use Rattle.xr_types.specs.declared.calls.Call.TheVariants as ask
use Rattle.xr_model.specs.machine.State.{CoreState, State, CellReads}
use Rattle.xr_model.specs.machine.Rule.{Effect, Did, refusals, decided_call}
use Rattle.xr_model.specs.machine.Machine.{effect, rule, core_ready, reads_of, waited_image, cell_calls, as_unused, held_after}
use Rattle.xr_model.specs.machine.CoreCalls.{Lent, left_in, entry_of, CoreApplies, Applies}
use Rattle.xr_model.specs.machine.OverCells.{entry_by, AppliesOver}
use Rattle.xr_model.proofs.CellsTold.{IsTold, AreTold, HoldTold, Told, Agrees, agree, same_by, allowed_by}
use Rattle.xr_model.proofs.HeldFits.{did_kept}
use Rattle.xr_model.specs.laws.Soundness.{IsAside}

-- ---- what a call does to cells

-- calls that touch no cells
abbrev pub IsQuiet : Call → Type 0
IsQuiet (ask.DestroyInstance instance) = ⊥
IsQuiet (ask.DestroySession session) = ⊥
IsQuiet (ask.CreateSwapchain session format width height fixed) = ⊥
IsQuiet (ask.DestroySwapchain chain) = ⊥
IsQuiet (ask.WaitImage chain timeout start) = ⊥
IsQuiet (ask.Paint chain value) = ⊥
IsQuiet (ask.ReleaseImage chain) = ⊥
IsQuiet (ask.EndFrame session time blend layers) = ⊥
IsQuiet ask.NextFrame = ⊥
IsQuiet ask.ImageDone = ⊥
IsQuiet _ = Unit {0}

-- no image is taken or given back
pub record IsStill (did : Did) : Type 0 where
  pub taken : did.taken ≡ []
  pub returned : did.returned ≡ []

pub still_call : (s : CoreState) (reads : CellReads) (e : Entry) → IsAside e.call → IsStill (effect s reads e).did
still_call s reads e = by e.call
  where
    by : (r : Call) → IsAside r → IsStill (effect s reads (record e { call = r })).did
    by ask.NextFrame aside = absurd aside
    by ask.ImageDone aside = absurd aside
    by r aside = did_kept IsStill s e.short (rule s reads (record e { call = r })) (record { taken = refl; returned = refl }) (record { taken = refl; returned = refl })

pub quiet_aside : (r : Call) → IsQuiet r → IsAside r
quiet_aside ask.NextFrame quiet = quiet
quiet_aside ask.ImageDone quiet = quiet
quiet_aside _ quiet = tt

-- nor used, claimed, freed or stamped
record IsCalm (did : Did) : Type 0 where
  used : did.used ≡ []
  claimed : did.claimed ≡ []
  freed : did.freed ≡ []
  stamped : did.stamped ≡ []

calm_call : (s : CoreState) (reads : CellReads) (e : Entry) → IsQuiet e.call → IsCalm (effect s reads e).did
calm_call s reads e = by e.call
  where
    by : (r : Call) → IsQuiet r → IsCalm (effect s reads (record e { call = r })).did
    by (ask.DestroyInstance instance) quiet = absurd quiet
    by (ask.DestroySession session) quiet = absurd quiet
    by (ask.CreateSwapchain session format width height fixed) quiet = absurd quiet
    by (ask.DestroySwapchain chain) quiet = absurd quiet
    by (ask.WaitImage chain timeout start) quiet = absurd quiet
    by (ask.Paint chain value) quiet = absurd quiet
    by (ask.ReleaseImage chain) quiet = absurd quiet
    by (ask.EndFrame session time blend layers) quiet = absurd quiet
    by ask.NextFrame quiet = absurd quiet
    by ask.ImageDone quiet = absurd quiet
    by r quiet = did_kept IsCalm s e.short (rule s reads (record e { call = r })) (record { used = refl; claimed = refl; freed = refl; stamped = refl }) (record { used = refl; claimed = refl; freed = refl; stamped = refl })

-- no call that may have to wait stamps
unstamped : (s : CoreState) (reads : CellReads) (e : Entry) → (rule s reads e).waits ≡ true → (effect s reads e).did.stamped ≡ []
unstamped s reads e = by e.call
  where
    by : (r : Call) → (rule s reads (record e { call = r })).waits ≡ true → (effect s reads (record e { call = r })).did.stamped ≡ []
    by (ask.CreateSwapchain session format width height fixed) waits = absurd (true≢false (sym waits))
    by (ask.Paint chain value) waits = absurd (true≢false (sym waits))
    by r waits = did_kept (λ d. d.stamped ≡ []) s e.short (rule s reads (record e { call = r })) refl refl

pub waits_where : (s : CoreState) (reads : CellReads) (e : Entry) → core_ready s reads e ≡ false → (rule s reads e).waits ≡ true
waits_where s reads e = by (rule s reads e).waits
  where
    by : (b : Bool) → not b || is_some (first_of (refusals (rule s reads e))) ≡ false → b ≡ true
    by true not_ready = refl
    by false not_ready = absurd (true≢false not_ready)

-- ---- calls that touch no cells

abbrev pub told_nothing : List Image → CellReads
told_nothing held = record { unused = true; stamps = []; held = held }

pub no_calls : (s : CoreState) (held : List Image) (e : Entry) → IsQuiet e.call → cell_calls s (told_nothing held) e ≡ []
no_calls s held e quiet =
    let still = still_call s (told_nothing held) e (quiet_aside e.call quiet) in
    let calm = calm_call s (told_nothing held) e quiet in
    rw (calm.claimed, calm.used, calm.freed, calm.stamped, still.taken, still.returned) refl

module _ {C : Type 0} (does : C → CellCall → C → Type 0) where
  -- what they answer for every reads is their clause over cells
  pub quiet_over : (s new : CoreState) (held : List Image) (c : C) (who : Actor) (asked : Call) (lent left : Lent) (answer : Step) → IsQuiet asked
      → ((reads : CellReads) → CoreApplies reads s new who asked lent left answer)
      → AppliesOver does (record { core = record { kept = s; held = held }; cells = c; lent = lent }) (record { core = record { kept = new; held = held }; cells = c; lent = left }) who asked answer
  quiet_over s new held c who asked lent left (Done answer) quiet made =
      let still = still_call s (told_nothing held) (entry_of who asked answer) (quiet_aside asked quiet) in
      record { reads = told_nothing held; own = refl; each = rw still.taken refl; cells = rw (no_calls s held (entry_of who asked answer) quiet) refl; applies = made (told_nothing held); holds = rw (still.taken, still.returned) refl }
  quiet_over s new held c who asked lent left NotReady quiet made =
      record { reads = told_nothing held; own = refl; each = refl; cells = rw (no_calls s held (entry_by who asked NotReady) quiet) refl; applies = made (told_nothing held); holds = refl }

-- ---- plain cells

pub plain_may : (calls : List CellCall) (c : PlainImages) → MayCall PlainMay PlainDoes c calls
plain_may [] c = tt
plain_may (x ∷ calls) c = (tt, λ d h. plain_may calls d)

-- the stamps that calls leave
abbrev stamps_by : List CellCall → List ℕ → List ℕ
stamps_by [] stamps = stamps
stamps_by (pin i ∷ calls) stamps = stamps_by calls stamps
stamps_by (claim i b ∷ calls) stamps = stamps_by calls stamps
stamps_by (free i ∷ calls) stamps = stamps_by calls stamps
stamps_by (stamp i n ∷ calls) stamps = stamps_by calls (slice_set stamps (slot_of i) n)
stamps_by (peek i n ∷ calls) stamps = stamps_by calls stamps
stamps_by (give_back i ∷ calls) stamps = stamps_by calls stamps

claimed_stamps : (b : Bool) (c : PlainImages) (k : ℕ) → (if b then record c { holders = slice_set c.holders k true } else c).stamps ≡ c.stamps
claimed_stamps true c k = refl
claimed_stamps false c k = refl

stamps_follow : (calls : List CellCall) (c d : PlainImages) → Leads PlainDoes c calls d → d.stamps ≡ stamps_by calls c.stamps
stamps_follow [] c d leads = ap (λ (x : PlainImages). x.stamps) leads
stamps_follow (pin i ∷ calls) c d (m, h, rest) = stamps_follow calls m d rest ∙ ap (λ (x : PlainImages). stamps_by calls x.stamps) h
stamps_follow (claim i b ∷ calls) c d (m, h, rest) = stamps_follow calls m d rest ∙ ap (λ (x : PlainImages). stamps_by calls x.stamps) h.1 ∙ ap (λ (x : List ℕ). stamps_by calls x) (claimed_stamps (count_at c (slot_of i) == 0) c (slot_of i))
stamps_follow (free i ∷ calls) c d (m, h, rest) = stamps_follow calls m d rest ∙ ap (λ (x : PlainImages). stamps_by calls x.stamps) h
stamps_follow (stamp i n ∷ calls) c d (m, h, rest) = stamps_follow calls m d rest ∙ ap (λ (x : PlainImages). stamps_by calls x.stamps) h
stamps_follow (peek i n ∷ calls) c d (m, h, rest) = stamps_follow calls m d rest ∙ ap (λ (x : PlainImages). stamps_by calls x.stamps) h.1
stamps_follow (give_back i ∷ calls) c d (m, h, rest) = stamps_follow calls m d rest ∙ ap (λ (x : PlainImages). stamps_by calls x.stamps) h

module _ (rest : List CellCall) where
  behind_claims : (b : Bool) (images : List Image) (stamps : List ℕ) → stamps_by (claim_calls b images ++ rest) stamps ≡ stamps_by rest stamps
  behind_claims b [] stamps = refl
  behind_claims b (i ∷ images) stamps = behind_claims b images stamps

  behind_pins : (images : List Image) (stamps : List ℕ) → stamps_by (pin_calls images ++ rest) stamps ≡ stamps_by rest stamps
  behind_pins [] stamps = refl
  behind_pins (i ∷ images) stamps = behind_pins images stamps

  behind_frees : (images : List Image) (stamps : List ℕ) → stamps_by (free_calls images ++ rest) stamps ≡ stamps_by rest stamps
  behind_frees [] stamps = refl
  behind_frees (i ∷ images) stamps = behind_frees images stamps

  behind_stamps : (xs : List Stamped) (stamps : List ℕ) → stamps_by (stamp_calls xs ++ rest) stamps ≡ stamps_by rest (with_stamps xs stamps)
  behind_stamps [] stamps = refl
  behind_stamps (x ∷ xs) stamps = behind_stamps xs (slice_set stamps (slot_of x.image) x.stamp)

  behind_peeks : (images : List Image) (found stamps : List ℕ) → stamps_by (peek_calls images found ++ rest) stamps ≡ stamps_by rest stamps
  behind_peeks [] found stamps = refl
  behind_peeks (i ∷ images) [] stamps = behind_peeks images [] stamps
  behind_peeks (i ∷ images) (n ∷ found) stamps = behind_peeks images found stamps

by_returns : (images : List Image) (stamps : List ℕ) → stamps_by (return_calls images) stamps ≡ stamps
by_returns [] stamps = refl
by_returns (i ∷ images) stamps = by_returns images stamps

-- the stamps after the cell calls of an entry are those of what it did
stamps_done : (s : CoreState) (r : CellReads) (e : Entry) (stamps : List ℕ) → stamps_by (cell_calls s r e) stamps ≡ with_stamps (effect s r e).did.stamped stamps
stamps_done s r e stamps =
    let did : Did = (effect s r e).did in
    let last : List CellCall = return_calls did.returned in
    let looks : List CellCall = peek_calls did.taken r.stamps ++ last in
    let stamped : List CellCall = stamp_calls did.stamped ++ looks in
    let frees : List CellCall = free_calls did.freed ++ stamped in
    behind_claims (pin_calls did.used ++ frees) r.unused (effect s (as_unused r) e).did.claimed stamps
    ∙ behind_pins frees did.used stamps ∙ behind_frees stamped did.freed stamps ∙ behind_stamps looks did.stamped stamps
    ∙ behind_peeks last did.taken r.stamps (with_stamps did.stamped stamps) ∙ by_returns did.returned (with_stamps did.stamped stamps)

-- ---- only a wait that finds an image depends on its count, and only a frame that is shown on stamps

held_same : (what : Call) (hs gs : List Image) → hs ≡ gs → HoldTold what hs gs
held_same ask.NextFrame hs gs same = same
held_same ask.ImageDone hs gs same = same
held_same _ hs gs same = tt

agree_of : (s : CoreState) (r q : CellReads) (e : Entry) → r.held ≡ q.held → IsTold s e.call r.unused q.unused → Agrees s r q e
agree_of s r q e same is = agree s r.unused q.unused r.stamps q.stamps r.held q.held e is (held_same e.call r.held q.held same)

-- what a claim answered is whether the count is 0
told_by : (s : CoreState) (r : CellReads) (held : List Image) (e : Entry) (c d : PlainImages) → ((k : ℕ) → count_at c k ≡ count_of s.frames.pending held k) → Leads PlainDoes c (cell_calls s r e) d
    → IsTold s e.call r.unused (count_of s.frames.pending held (slot_of (waited_image s e.call)) == 0)
told_by s r held e c d counts = by e.call
  where
    by : (what : Call) → Leads PlainDoes c (cell_calls s r (record e { call = what })) d → IsTold s what r.unused (count_of s.frames.pending held (slot_of (waited_image s what)) == 0)
    by (ask.WaitImage chain timeout start) leads = λ may. (rw (may.lost, may.order, may.live) at leads).1.0 ∙ ap (λ (n : ℕ). n == 0) (counts (slot_of (oldest_image s.chains chain)))
    by _ leads = tt

-- what looks at images found is their stamps
found_stamps : (images : List Image) (ns : List ℕ) (c d : PlainImages) → length ns ≡ length images → Leads PlainDoes c (peek_calls images ns ++ []) d → ns ≡ stamps_at c.stamps images
found_stamps [] [] c d each leads = refl
found_stamps [] (n ∷ ns) c d each leads = cc
found_stamps (i ∷ images) [] c d each leads = cc
found_stamps (i ∷ images) (n ∷ ns) c d each (m, h, rest) =
    let less : length ns ≡ length images = omega (arith, each) in
    let more = found_stamps images ns m d less rest in
    rw (h.0, more, h.1) refl

shown_by : (s : CoreState) (r : CellReads) (e : Entry) (c d : PlainImages) → length r.stamps ≡ length (effect s r e).did.taken → Leads PlainDoes c (cell_calls s r e) d
    → AreTold r.held e.call r.stamps (stamps_at c.stamps (first_images s.frames.pending))
shown_by s r e c d = by e.call
  where
    by : (what : Call) → length r.stamps ≡ length (effect s r (record e { call = what })).did.taken → Leads PlainDoes c (cell_calls s r (record e { call = what })) d
        → AreTold r.held what r.stamps (stamps_at c.stamps (first_images s.frames.pending))
    by ask.NextFrame each leads = λ none. found_stamps (first_images s.frames.pending) r.stamps c d (rw none at each) (rw none at leads)
    by _ each leads = tt

-- ---- the clause of the whole machine

abbrev whole : CoreState → List ℕ → List Image → State
whole s stamps held = record { core = s; cells = record { stamps = stamps; held = held } }

moves : (new k : CoreState) (ns ms : List ℕ) (hs gs : List Image) → new ≡ k → ns ≡ ms → hs ≡ gs → whole new ns hs ≡ whole k ms gs
moves new k ns ms hs gs kept same holds = rw (kept, same, holds) refl

pub plainly : (s new : CoreState) (held held2 : List Image) (c d : PlainImages) (who : Actor) (asked : Call) (lent left : Lent) (answer : Step) → ((k : ℕ) → count_at c k ≡ count_of s.frames.pending held k)
    → AppliesOver PlainDoes (record { core = record { kept = s; held = held }; cells = c; lent = lent }) (record { core = record { kept = new; held = held2 }; cells = d; lent = left }) who asked answer
    → Applies (whole s c.stamps held) (whole new d.stamps held2) who asked lent left answer
plainly s new held held2 c d who asked lent left (Done answer) counts x =
    let e : Entry = entry_of who asked answer in
    let q : CellReads = reads_of (whole s c.stamps held) e.call in
    let is = told_by s x.reads held e c d counts x.cells in
    let here : Agrees s x.reads q e = agree_of s x.reads q e x.own is in
    let told : Told s x.reads q e.call = record { unused = is; stamps = subst (λ (hs : List Image). AreTold hs e.call x.reads.stamps q.stamps) x.own (shown_by s x.reads e c d x.each x.cells); held = held_same e.call x.reads.held q.held x.own } in
    let effects : effect s x.reads e ≡ effect s q e = same_by s x.reads q e told in
    let stamps : d.stamps ≡ with_stamps (effect s x.reads e).did.stamped c.stamps = stamps_follow (cell_calls s x.reads e) c d x.cells ∙ stamps_done s x.reads e c.stamps in
    let a = x.applies in
    record {
      allowed = allowed_by s x.reads q e told a.allowed;
      is_ready = sym here.readies ∙ a.is_ready;
      leads = subst (λ (y : Effect). whole new d.stamps held2 ≡ whole (decided_call s e.call y).0 (with_stamps y.did.stamped c.stamps) (held_after held y.did)) effects
          (moves new (decided_call s e.call (effect s x.reads e)).0 d.stamps (with_stamps (effect s x.reads e).did.stamped c.stamps) held2 (held_after held (effect s x.reads e).did) a.leads stamps x.holds);
      replies = subst (λ (y : Effect). answer ≡ (decided_call s e.call y).1.reply) effects a.replies;
      writes = subst (λ (y : Effect). left ≡ left_in (decided_call s e.call y).1.text (decided_call s e.call y).1.shown lent) effects a.writes;
    }
plainly s new held held2 c d who asked lent left NotReady counts x = λ given short.
    let one : Entry = record { actor = who; call = asked; given = 0; short = false } in
    let e : Entry = record { actor = who; call = asked; given = given; short = short } in
    let q : CellReads = reads_of (whole s c.stamps held) e.call in
    let here : Agrees s x.reads q e = agree_of s x.reads q e x.own (told_by s x.reads held one c d counts x.cells) in
    let stamps : d.stamps ≡ c.stamps = stamps_follow (cell_calls s x.reads one) c d x.cells ∙ stamps_done s x.reads one c.stamps ∙ ap (λ (xs : List Stamped). with_stamps xs c.stamps) (unstamped s x.reads one (waits_where s x.reads one (x.applies 0 false).not_ready)) in
    let w = x.applies given short in
    record { not_ready = sym here.readies ∙ w.not_ready; same = moves new s d.stamps c.stamps held2 held w.same stamps x.holds; unwritten = w.unwritten }
