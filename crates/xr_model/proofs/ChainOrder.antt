-- The chains fit what is counted over every legal history, so calls on images are out of order where the counts say so.
use Rattle.std.proofs.Common.{◌≡◌, ◌≢◌, ◌==◌, ◌&&◌, ◌||◌, ◌+◌, ◌-◌, ◌%◌, ◌≤◌, ℕ, ℤ, zero, suc, Bool, true, false, not, List, [], ◌∷◌, ◌++◌, length, drop, replicate, Option, Some, None, option_map, refl, sym, ap, subst, ◌∙◌, arith, true≢false}
use Rattle.std.specs.Prelude.{is_some, nat_lt, if◌then◌else◌}
use Rattle.std.specs.List.{list_any}
use Rattle.std.proofs.lemmas.Bool.Decides.{nat_tests}
use Rattle.xr_types.specs.Code.{is_success}
use Rattle.xr_types.specs.declared.code.Code.TheVariants.{SwapchainFormatUnsupported, ValidationFailure, LimitReached}
use Rattle.xr_types.specs.declared.handles.TheConstants.{SWAPCHAINS}
use Rattle.xr_types.specs.declared.device.DeviceEvent.{DeviceEvent}
use Rattle.xr_types.specs.declared.device.DeviceEvent.TheVariants as event
use Rattle.xr_types.specs.declared.handles.Kind.TheVariants as kind
use Rattle.xr_model.specs.machine.Chains.{Chain, is_format, is_size, no_place, is_place_used, free_place, kept_place, new_chain, has_no_chain, is_chain, chain_at, with_chain, with_chain_at, left_in_place, left_in_places, oldest_of, index_behind, unless_acquired, acquiring, waiting, releasing, is_acquire_wrong, is_wait_wrong, is_paint_wrong}
use Rattle.xr_types.specs.Frames.{PendingFrame}
use Rattle.xr_model.specs.machine.Frames.{is_empty, one_if}
use Rattle.xr_model.specs.machine.Handles.{Handles, no_handles, no_handle, no_room, has, is_live, was_given, with_handle, cleared, without, without_alone, destroyed_parents}
use Rattle.xr_model.specs.machine.Refusals.{Refusal, when}
use Rattle.xr_model.specs.machine.Calls.{Entry}
use Rattle.xr_types.specs.declared.calls.Call.{Call}
use Rattle.xr_types.specs.declared.calls.Call.TheVariants as ask
use Rattle.xr_model.specs.machine.State.{CoreState, CellReads, Settings, State, opening}
use Rattle.xr_model.specs.machine.Rule.{Rule, Effect, Did, nothing_done, refusals, refusal, told_on, unless_refused, carried_out}
use Rattle.xr_model.specs.machine.Rules.Session.{life_of}
use Rattle.xr_model.specs.machine.SessionRule.{Loss, loss_of}
use Rattle.xr_model.specs.machine.History.{after, opening_clocks, clocks_after, IsLegalFrom}
use Rattle.xr_model.specs.machine.Rules.Device.{behind_event}
use Rattle.xr_model.specs.machine.Rules.Frames.{chains_behind}
use Rattle.xr_model.specs.machine.Machine.{core_step, rule, step, reads_of, IsGiven, IsAllowed}
use Rattle.xr_model.specs.laws.DecidedEntries.{Decided, decided, past_from, past_of, creates_static, on_chain, asked_chain, is_static_creation, is_static_chain, is_acquire_image, is_wait_image, is_release_image}
use Rattle.xr_model.proofs.Rows.{hasnt_free, hasnt_cleared, itself, same_key, both_of, neither_of, not_true, not_zero}
use Rattle.xr_model.proofs.Destroying.{known_step, known_opening}
use Rattle.xr_model.proofs.Successes.{success_succeeds, success_still}
use Rattle.xr_model.proofs.FrameOrder.{IsClear, clear, goes, by_rule, all_fail, none_first, not_false, is_live_by}
use Rattle.xr_model.proofs.StandOnce.{chain_same}
use Rattle.xr_model.proofs.HandleSteps.{is_chain_creation, kept_by_step}
use Rattle.xr_model.specs.laws.Soundness.{AreKnown}

-- ---- counts

abbrev is_chain_call : Call → Bool
is_chain_call (ask.AcquireImage chain) = true
is_chain_call (ask.WaitImage chain timeout start) = true
is_chain_call (ask.ReleaseImage chain) = true
is_chain_call _ = false

abbrev touches_chain : ℕ → Decided → Bool
touches_chain q t = (is_chain_call t.call && (t.is_done && (asked_chain t.call == q))) || creates_static q t

chain_sorts : (r : Call) (b : Bool) → is_chain_call r && b ≡ false → (is_acquire_image r && b ≡ false) × (is_wait_image r && b ≡ false) × (is_release_image r && b ≡ false)
chain_sorts (ask.AcquireImage chain) b e = (e, refl, refl)
chain_sorts (ask.WaitImage chain timeout start) b e = (refl, e, refl)
chain_sorts (ask.ReleaseImage chain) b e = (refl, refl, e)
chain_sorts _ b e = (refl, refl, refl)

-- the indices come in turn from 0 on; that of a static chain comes once
abbrev pub turn_of : Bool → ℕ → ℕ
turn_of true zero = 0
turn_of true (suc k) = 1
turn_of false k = k % 3

-- so many indices, from this turn on
abbrev pub turns : Bool → ℕ → ℕ → List ℕ
turns fixed k zero = []
turns fixed k (suc n) = turn_of fixed k ∷ turns fixed (k + 1) n

-- an index that was released last is that of the turn before
abbrev pub LastIs : Bool → Option ℕ → ℕ → Type 0
LastIs fixed None releases = Unit {0}
LastIs fixed (Some n) releases = (1 ≤ releases) × (n ≡ turn_of fixed (releases - 1))

turn_more : (fixed : Bool) (k : ℕ) → index_behind fixed (turn_of fixed k) ≡ turn_of fixed (k + 1)
turn_more true k = ap (λ (n : ℕ). turn_of true n) (one_more k)
  where
    one_more : (n : ℕ) → suc n ≡ n + 1
    one_more n = omega arith
turn_more false k = omega arith

turns_more : (fixed : Bool) (k n : ℕ) → turns fixed k (n + 1) ≡ turns fixed k n ++ turn_of fixed (k + n) ∷ []
turns_more fixed k zero = let same : k ≡ k + 0 = omega arith in ap (λ (i : ℕ). turn_of fixed i ∷ []) same
turns_more fixed k (suc n) =
    let more : suc n + 1 ≡ suc (n + 1) = omega arith in
    let here : turns fixed k (suc n + 1) ≡ turn_of fixed k ∷ turns fixed (k + 1) (n + 1) = ap (λ (i : ℕ). turns fixed k i) more in
    let next : (k + 1) + n ≡ k + suc n = omega arith in
    here ∙ ap (λ (l : List ℕ). turn_of fixed k ∷ l) (turns_more fixed (k + 1) n ∙ ap (λ (i : ℕ). turns fixed (k + 1) n ++ turn_of fixed i ∷ []) next)

last_kept : (fixed : Bool) (n : ℕ) (o : Option ℕ) (releases : ℕ) → LastIs fixed o releases → LastIs fixed (unless_acquired n o) releases
last_kept fixed n None releases is = tt
last_kept fixed n (Some last) releases is = by (last == n)
  where
    by : (b : Bool) → LastIs fixed (if b then None else Some last) releases
    by true = tt
    by false = is

pub oldest_turn : (fixed : Bool) (xs : List ℕ) (k : ℕ) → is_empty xs ≡ false → xs ≡ turns fixed k (length xs) → (oldest_of xs ≡ turn_of fixed k) × (drop 1 xs ≡ turns fixed (k + 1) (length (drop 1 xs)))
oldest_turn fixed [] k some is = absurd (true≢false some)
oldest_turn fixed (x ∷ xs) k some is = (first x (turn_of fixed k) xs (turns fixed (k + 1) (length xs)) is, rest x (turn_of fixed k) xs (turns fixed (k + 1) (length xs)) is)
  where
    first : (a b : ℕ) (xs ys : List ℕ) → a ∷ xs ≡ b ∷ ys → a ≡ b
    first a b xs ys same = cc

    rest : (a b : ℕ) (xs ys : List ℕ) → a ∷ xs ≡ b ∷ ys → xs ≡ ys
    rest a b xs ys same = cc

pub record ChainFits (q : ℕ) (c : Chain) (past : List Decided) : Type 0 where
  pub next : c.next ≡ turn_of c.is_static (on_chain is_acquire_image q past)
  pub indices : c.acquired ≡ turns c.is_static (on_chain is_release_image q past) (length c.acquired)
  pub last : LastIs c.is_static c.last (on_chain is_release_image q past)
  pub acquired : on_chain is_acquire_image q past ≡ on_chain is_release_image q past + length c.acquired
  pub waited : on_chain is_wait_image q past ≡ on_chain is_release_image q past + one_if c.has_waited
  pub some : c.has_waited ≡ true → is_empty c.acquired ≡ false
  pub static : is_static_chain q past ≡ c.is_static
  pub once : c.is_static ≡ true → on_chain is_acquire_image q past ≤ 1
  pub first : c.is_static ≡ true → (c.next == 0) ≡ (on_chain is_acquire_image q past == 0)

abbrev pub OptFits : ℕ → Option Chain → List Decided → Type 0
OptFits q None past = ⊥
OptFits q (Some c) past = ChainFits q c past

chain_aside : (q : ℕ) (c : Chain) (t : Decided) (past : List Decided) → touches_chain q t ≡ false → ChainFits q c past → ChainFits q c (t ∷ past)
chain_aside q c t past aside fits =
    let two = neither_of (is_chain_call t.call && (t.is_done && (asked_chain t.call == q))) (creates_static q t) aside in
    let none = chain_sorts t.call (t.is_done && (asked_chain t.call == q)) two.0 in
    record {
      next = rw none.0 fits.next;
      indices = rw none.2 fits.indices;
      last = rw none.2 fits.last;
      acquired = rw (none.0, none.2) fits.acquired;
      waited = rw (none.1, none.2) fits.waited;
      some = fits.some;
      static = rw two.1 fits.static;
      once = λ is. rw none.0 (fits.once is);
      first = λ is. rw none.0 (fits.first is);
    }

opt_aside : (q : ℕ) (o : Option Chain) (t : Decided) (past : List Decided) → touches_chain q t ≡ false → OptFits q o past → OptFits q o (t ∷ past)
opt_aside q None t past aside fits = fits
opt_aside q (Some c) t past aside fits = chain_aside q c t past aside fits

-- what was never touched has no counts
record NoCounts (q : ℕ) (past : List Decided) : Type 0 where
  acquires : on_chain is_acquire_image q past ≡ 0
  waits : on_chain is_wait_image q past ≡ 0
  releases : on_chain is_release_image q past ≡ 0
  static : is_static_chain q past ≡ false

no_counts : (q : ℕ) (past : List Decided) → list_any (touches_chain q) past ≡ false → NoCounts q past
no_counts q [] none = record { acquires = refl; waits = refl; releases = refl; static = refl }
no_counts q (t ∷ past) none =
    let two = neither_of (touches_chain q t) (list_any (touches_chain q) past) none in
    let here = neither_of (is_chain_call t.call && (t.is_done && (asked_chain t.call == q))) (creates_static q t) two.0 in
    let sorts = chain_sorts t.call (t.is_done && (asked_chain t.call == q)) here.0 in
    let more = no_counts q past two.1 in
    record { acquires = rw sorts.0 more.acquires; waits = rw sorts.1 more.waits; releases = rw sorts.2 more.releases; static = rw here.1 more.static }

-- ---- one chain of the row

chain_apart : (h q : ℕ) (c : Chain) → (h == q) ≡ false → is_chain h c ≡ true → is_chain q c ≡ false
unfolding is_chain
chain_apart h q c apart is =
    let two = both_of (c.handle == h) (not (has_no_chain c)) is in
    let other : (c.handle == q) ≡ false = subst (λ (n : ℕ). (n == q) ≡ false) (sym (same_key c.handle h two.0)) apart in
    rw other refl

named_chain : (q : ℕ) (c : Chain) → (c.handle == q) ≡ false → is_chain q c ≡ false
unfolding is_chain
named_chain q c other = rw other refl

-- a change that keeps which chain it is
abbrev IsChange : (Chain → Chain) → Type 0
IsChange f = (c : Chain) → ((f c).handle ≡ c.handle) × ((f c).is_destroyed ≡ c.is_destroyed)

same_chain : (f : Chain → Chain) → IsChange f → (q : ℕ) (c : Chain) → is_chain q (f c) ≡ is_chain q c
unfolding is_chain
same_chain f change q c = let two = change c in rw (two.0, two.1) refl

changed_own : (f : Chain → Chain) → IsChange f → (q : ℕ) (chains : List Chain) → chain_at (with_chain_at q f chains) q ≡ option_map f (chain_at chains q)
changed_own f change q [] = refl
changed_own f change q (c ∷ cs) = by (is_chain q c) refl (changed_own f change q cs)
  where
    by : (b : Bool) → is_chain q c ≡ b → chain_at (with_chain_at q f cs) q ≡ option_map f (chain_at cs q)
        → chain_at (if b then f c ∷ cs else c ∷ with_chain_at q f cs) q ≡ option_map f (if b then Some c else chain_at cs q)
    by true eb more = rw (same_chain f change q c ∙ eb) refl
    by false eb more = rw eb more

changed_other : (f : Chain → Chain) → IsChange f → (h q : ℕ) → (h == q) ≡ false → (chains : List Chain) → chain_at (with_chain_at h f chains) q ≡ chain_at chains q
changed_other f change h q apart [] = refl
changed_other f change h q apart (c ∷ cs) = by (is_chain h c) refl (is_chain q c) refl (changed_other f change h q apart cs)
  where
    by : (b : Bool) → is_chain h c ≡ b → (d : Bool) → is_chain q c ≡ d → chain_at (with_chain_at h f cs) q ≡ chain_at cs q
        → chain_at (if b then f c ∷ cs else c ∷ with_chain_at h f cs) q ≡ (if d then Some c else chain_at cs q)
    by true eb true ed more = absurd (true≢false (sym ed ∙ chain_apart h q c apart eb))
    by true eb false ed more = rw (same_chain f change q c ∙ ed) refl
    by false eb true ed more = rw ed refl
    by false eb false ed more = rw ed more

abbrev pub has_chain : List Chain → ℕ → Bool
has_chain chains q = list_any (λ c. c.handle == q) chains

changed_absent : (f : Chain → Chain) → IsChange f → (h q : ℕ) (chains : List Chain) → has_chain (with_chain_at h f chains) q ≡ has_chain chains q
changed_absent f change h q [] = refl
changed_absent f change h q (c ∷ cs) = by (is_chain h c) (changed_absent f change h q cs)
  where
    by : (b : Bool) → has_chain (with_chain_at h f cs) q ≡ has_chain cs q → has_chain (if b then f c ∷ cs else c ∷ with_chain_at h f cs) q ≡ (c.handle == q) || has_chain cs q
    by true more = rw (change c).0 refl
    by false more = rw more refl

-- ---- chains that go, and a new one

left_named : (h : Handles) (used : Bool) (c : Chain) (q : ℕ) → (q == 0) ≡ false → (c.handle == q) ≡ false → ((left_in_place h used c).handle == q) ≡ false
left_named h used c q nz other = by (is_live h kind.Swapchain c.handle) (not (c.handle == 0) && used)
  where
    by : (a b : Bool) → ((if a then c else if b then kept_place c.handle else free_place).handle == q) ≡ false
    by true b = other
    by false true = other
    by false false = not_zero q nz

left_at : (h : Handles) (used : ℕ → Bool) (place : ℕ) (q : ℕ) → (q == 0) ≡ false → is_live h kind.Swapchain q ≡ true → (chains : List Chain) → chain_at (left_in_places h used place chains) q ≡ chain_at chains q
left_at h used place q nz live [] = refl
left_at h used place q nz live (c ∷ cs) = by (c.handle == q) refl (left_at h used (place + 1) q nz live cs)
  where
    next : (b : Bool) → chain_at (left_in_places h used (place + 1) cs) q ≡ chain_at cs q → (if b then Some c else chain_at (left_in_places h used (place + 1) cs) q) ≡ (if b then Some c else chain_at cs q)
    next true more = refl
    next false more = more

    by : (b : Bool) → (c.handle == q) ≡ b → chain_at (left_in_places h used (place + 1) cs) q ≡ chain_at cs q → chain_at (left_in_place h (used place) c ∷ left_in_places h used (place + 1) cs) q ≡ chain_at (c ∷ cs) q
    by true eb more =
        let here : is_live h kind.Swapchain c.handle ≡ true = subst (λ (n : ℕ). is_live h kind.Swapchain n ≡ true) (sym (same_key c.handle q eb)) live in
        let same : left_in_place h (used place) c ≡ c = rw here refl in
        rw same (next (is_chain q c) more)
    by false eb more = rw (named_chain q (left_in_place h (used place) c) (left_named h (used place) c q nz eb), named_chain q c eb) more

left_absent : (h : Handles) (used : ℕ → Bool) (place : ℕ) (q : ℕ) → (q == 0) ≡ false → (chains : List Chain) → has_chain chains q ≡ false → has_chain (left_in_places h used place chains) q ≡ false
left_absent h used place q nz [] none = refl
left_absent h used place q nz (c ∷ cs) none =
    let two = neither_of (c.handle == q) (has_chain cs q) none in
    rw (left_named h (used place) c q nz two.0) (left_absent h used (place + 1) q nz cs two.1)

new_own : (new : Chain) (q : ℕ) → is_chain q new ≡ true → (chains : List Chain) → has_chain chains 0 ≡ true → has_chain chains q ≡ false → chain_at (with_chain chains new) q ≡ Some new
new_own new q is [] room none = absurd (true≢false (sym room))
new_own new q is (c ∷ cs) room none = let two = neither_of (c.handle == q) (has_chain cs q) none in by (c.handle == 0) refl room two.0 (λ more. new_own new q is cs more two.1)
  where
    by : (b : Bool) → (c.handle == 0) ≡ b → b || has_chain cs 0 ≡ true → (c.handle == q) ≡ false → (has_chain cs 0 ≡ true → chain_at (with_chain cs new) q ≡ Some new) → chain_at (if b then new ∷ cs else c ∷ with_chain cs new) q ≡ Some new
    by true eb room other more = rw is refl
    by false eb room other more = rw (named_chain q c other) (more room)

new_other : (new : Chain) (q : ℕ) → (q == 0) ≡ false → (new.handle == q) ≡ false → (chains : List Chain) → chain_at (with_chain chains new) q ≡ chain_at chains q
new_other new q nz other [] = refl
new_other new q nz other (c ∷ cs) = by (c.handle == 0) refl (new_other new q nz other cs)
  where
    next : (b : Bool) → chain_at (with_chain cs new) q ≡ chain_at cs q → (if b then Some c else chain_at (with_chain cs new) q) ≡ (if b then Some c else chain_at cs q)
    next true more = refl
    next false more = more

    by : (b : Bool) → (c.handle == 0) ≡ b → chain_at (with_chain cs new) q ≡ chain_at cs q → chain_at (if b then new ∷ cs else c ∷ with_chain cs new) q ≡ chain_at (c ∷ cs) q
    by true eb more =
        let free : (c.handle == q) ≡ false = subst (λ (n : ℕ). (n == q) ≡ false) (sym (same_key c.handle 0 eb)) (not_zero q nz) in
        rw (named_chain q new other, named_chain q c free) refl
    by false eb more = next (is_chain q c) more

new_absent : (new : Chain) (q : ℕ) → (new.handle == q) ≡ false → (chains : List Chain) → has_chain chains q ≡ false → has_chain (with_chain chains new) q ≡ false
new_absent new q other [] none = refl
new_absent new q other (c ∷ cs) none = let two = neither_of (c.handle == q) (has_chain cs q) none in by (c.handle == 0) two.0 two.1 (new_absent new q other cs two.1)
  where
    by : (b : Bool) → (c.handle == q) ≡ false → has_chain cs q ≡ false → has_chain (with_chain cs new) q ≡ false → has_chain (if b then new ∷ cs else c ∷ with_chain cs new) q ≡ false
    by true here there more = rw other there
    by false here there more = rw here more

-- ---- the row of chains and the counts

-- Each live handle was given; what isn't given was never touched and has no place; and each live chain fits its counts.
pub record ChainsFit (h : Handles) (chains : List Chain) (past : List Decided) : Type 0 where
  pub known : AreKnown h
  pub untouched : (q : ℕ) → (q == 0) ≡ false → was_given h q ≡ false → list_any (touches_chain q) past ≡ false
  pub absent : (q : ℕ) → (q == 0) ≡ false → was_given h q ≡ false → has_chain chains q ≡ false
  pub fits : (q : ℕ) → is_live h kind.Swapchain q ≡ true → OptFits q (chain_at chains q) past

-- no chain is live that wasn't before, and no handle was taken back
record Fewer (h h2 : Handles) : Type 0 where
  live : (q : ℕ) → is_live h2 kind.Swapchain q ≡ true → is_live h kind.Swapchain q ≡ true
  given : (q : ℕ) → was_given h2 q ≡ false → was_given h q ≡ false

live_nonzero : (h : Handles) (q : ℕ) → is_live h kind.Swapchain q ≡ true → (q == 0) ≡ false
live_nonzero h q live = not_true (q == 0) (both_of (not (q == 0)) (has h.chains q) live).0

fewer_same : (h : Handles) → Fewer h h
fewer_same h = record { live = λ q live. live; given = λ q new. new }

-- a swapchain that is live once others went was live before
live_before : (h : Handles) (handle : ℕ) (above : List ℕ) (q : ℕ) → not (q == 0) && has (cleared handle above h.chains) q ≡ true → is_live h kind.Swapchain q ≡ true
live_before h handle above q live = by (not_true (q == 0) (both_of (not (q == 0)) (has (cleared handle above h.chains) q) live).0) (has h.chains q) refl
  where
    by : (q == 0) ≡ false → (b : Bool) → has h.chains q ≡ b → is_live h kind.Swapchain q ≡ true
    by nz true eb = rw (nz, eb) refl
    by nz false eb = absurd (true≢false (sym live ∙ rw (hasnt_cleared handle above h.chains q nz eb) (both_false (q == 0))))
      where
        both_false : (z : Bool) → not z && false ≡ false
        both_false true = refl
        both_false false = refl

fewer_without : (h : Handles) (handle : ℕ) → Fewer h (without h handle)
fewer_without h handle = record { live = λ q live. live_before h handle (destroyed_parents h handle) q live; given = λ q new. new }

fewer_alone : (h : Handles) (chain : ℕ) → Fewer h (without_alone h kind.Swapchain chain)
fewer_alone h chain = record { live = λ q live. live_before h chain [] q live; given = λ q new. new }

fewer_step : (s : CoreState) (reads : CellReads) (e : Entry) → is_chain_creation e.call ≡ false → Fewer s.handles (core_step s reads e).0.handles
fewer_step s reads e other = kept_by_step (λ h. Fewer s.handles h) s reads e (record {
  same = fewer_same s.handles;
  instance = λ gives. record { live = λ q live. live; given = before };
  session = λ gives instance live. record { live = λ q live. live; given = before };
  set = λ gives instance live. record { live = λ q live. live; given = before };
  action = λ gives set live. record { live = λ q live. live; given = before };
  space = λ gives session live. record { live = λ q live. live; given = before };
  chain = λ is gives session live. absurd (true≢false (sym is ∙ other));
  without = λ handle. fewer_without s.handles handle;
  alone = λ space. record { live = λ q live. live; given = λ q new. new };
  chain_alone = λ chain. fewer_alone s.handles chain;
})
  where
    before : (q : ℕ) → (e.given == q) || was_given s.handles q ≡ false → was_given s.handles q ≡ false
    before q new = (neither_of (e.given == q) (was_given s.handles q) new).1

-- ---- what an entry does to the chains

-- the live chains are as before
record SameChains (old : List Chain) (h : Handles) (new : List Chain) : Type 0 where
  at : (q : ℕ) → is_live h kind.Swapchain q ≡ true → chain_at new q ≡ chain_at old q
  absent : (q : ℕ) → (q == 0) ≡ false → has_chain old q ≡ false → has_chain new q ≡ false

chains_kept : (s : CoreState) (o : Option Refusal) (x : Effect) → SameChains s.chains x.state.handles x.state.chains → SameChains s.chains (unless_refused s o x).state.handles (unless_refused s o x).state.chains
chains_kept s None x same = same
chains_kept s (Some r) x same = record { at = λ q live. refl; absent = λ q nz none. none }

left_same : (old : List Chain) (h : Handles) (used : ℕ → Bool) → SameChains old h (left_in_places h used 0 old)
left_same old h used = record { at = λ q live. left_at h used 0 q (live_nonzero h q live) live old; absent = λ q nz none. left_absent h used 0 q nz old none }

taken_same : (old : List Chain) (h : Handles) (fs : List PendingFrame) → SameChains old h (chains_behind h fs old)
taken_same old h [] = record { at = λ q live. refl; absent = λ q nz none. none }
taken_same old h (f ∷ fs) = left_same old h (is_place_used fs f.images)

events_same : (s : CoreState) (what : DeviceEvent) → (behind_event s what).chains ≡ s.chains
events_same s (event.Clock time) = refl
events_same s _ = refl

-- the calls that change a chain
abbrev is_chain_move : Call → Bool
is_chain_move (ask.CreateSwapchain session format width height fixed) = true
is_chain_move r = is_chain_call r

chains_stay : (s : CoreState) (reads : CellReads) (e : Entry) → is_chain_move e.call ≡ false → SameChains s.chains (core_step s reads e).0.handles (core_step s reads e).0.chains
chains_stay s reads e aside = by e.call aside
  where
    gone : (handle : ℕ) → SameChains s.chains (without s.handles handle) (left_in_places (without s.handles handle) (is_place_used s.frames.pending s.shown_images) 0 s.chains)
    gone handle = left_same s.chains (without s.handles handle) (is_place_used s.frames.pending s.shown_images)

    by : (r : Call) → is_chain_move r ≡ false → SameChains s.chains (core_step s reads (record e { call = r })).0.handles (core_step s reads (record e { call = r })).0.chains
    by (ask.CreateSwapchain session format width height fixed) aside = absurd (true≢false aside)
    by (ask.AcquireImage chain) aside = absurd (true≢false aside)
    by (ask.WaitImage chain timeout start) aside = absurd (true≢false aside)
    by (ask.ReleaseImage chain) aside = absurd (true≢false aside)
    by (ask.DestroyInstance instance) aside = let f = rule s reads (record e { call = ask.DestroyInstance instance }) in chains_kept s (refusal e.short f) (told_on f.on f.effect) (gone instance)
    by (ask.DestroySession session) aside = let f = rule s reads (record e { call = ask.DestroySession session }) in chains_kept s (refusal e.short f) (told_on f.on f.effect) (gone session)
    by (ask.DestroyActionSet set) aside = let f = rule s reads (record e { call = ask.DestroyActionSet set }) in chains_kept s (refusal e.short f) (told_on f.on f.effect) (gone set)
    by (ask.DestroyAction action) aside = let f = rule s reads (record e { call = ask.DestroyAction action }) in chains_kept s (refusal e.short f) (told_on f.on f.effect) (gone action)
    by (ask.DestroySwapchain chain) aside =
        let f = rule s reads (record e { call = ask.DestroySwapchain chain }) in
        chains_kept s (refusal e.short f) (told_on f.on f.effect) (left_same s.chains (without_alone s.handles kind.Swapchain chain) (is_place_used s.frames.pending s.shown_images))
    by ask.NextFrame aside = let f = rule s reads (record e { call = ask.NextFrame }) in chains_kept s (refusal e.short f) (told_on f.on f.effect) (taken_same s.chains s.handles s.frames.pending)
    by (ask.Device what) aside = let same = events_same s what in record { at = λ q live. ap (λ (l : List Chain). chain_at l q) same; absent = λ q nz none. ap (λ (l : List Chain). has_chain l q) same ∙ none }
    by r aside = let f = rule s reads (record e { call = r }) in chains_kept s (refusal e.short f) (told_on f.on f.effect) (record { at = λ q live. refl; absent = λ q nz none. none })

-- ---- an entry keeps the fit

-- a call that touches no chain, after which the live chains are as before
fits_aside : (h h2 : Handles) (old new : List Chain) (t : Decided) (past : List Decided) → ((q : ℕ) → touches_chain q t ≡ false) → Fewer h h2 → AreKnown h2 → SameChains old h2 new → ChainsFit h old past → ChainsFit h2 new (t ∷ past)
fits_aside h h2 old new t past aside fewer known same fits = record {
  known = known;
  untouched = λ q nz new. rw (aside q) (fits.untouched q nz (fewer.given q new));
  absent = λ q nz new. same.absent q nz (fits.absent q nz (fewer.given q new));
  fits = λ q live. rw (same.at q live) (opt_aside q (chain_at old q) t past (aside q) (fits.fits q (fewer.live q live)));
}

-- what is live was given
live_given : (h : Handles) (q : ℕ) → AreKnown h → is_live h kind.Swapchain q ≡ true → was_given h q ≡ true
live_given h q known live = by (was_given h q) refl
  where
    by : (b : Bool) → was_given h q ≡ b → b ≡ true
    by true eb = refl
    by false eb = let nz = live_nonzero h q live in absurd (true≢false (sym (both_of (not (q == 0)) (has h.chains q) live).1 ∙ (known q nz eb).chains))

is_false : (b : Bool) → (b ≡ true → ⊥) → b ≡ false
is_false true never = absurd (never refl)
is_false false never = refl

-- what a change makes of a chain that fits
abbrev Changes : ℕ → (Chain → Chain) → Decided → List Decided → Option Chain → Type 0
Changes q f t past o = OptFits q o past → OptFits q (option_map f o) (t ∷ past)

-- a call on a live chain that changes it
fits_changed : (h : Handles) (chains : List Chain) (chain : ℕ) (f : Chain → Chain) (t : Decided) (past : List Decided) → IsChange f → is_chain_call t.call ≡ true → is_static_creation t.call ≡ false → t.is_done ≡ true → asked_chain t.call ≡ chain
    → is_live h kind.Swapchain chain ≡ true → Changes chain f t past (chain_at chains chain) → ChainsFit h chains past → ChainsFit h (with_chain_at chain f chains) (t ∷ past)
fits_changed h chains chain f t past change call static done asked live changes fits = record {
  known = fits.known;
  untouched = λ q nz new. rw (other q (away q new)) (fits.untouched q nz new);
  absent = λ q nz new. changed_absent f change chain q chains ∙ fits.absent q nz new;
  fits = λ q there. by q there (chain == q) refl;
}
  where
    away : (q : ℕ) → was_given h q ≡ false → (chain == q) ≡ false
    away q new = is_false (chain == q) (λ same. true≢false (sym (live_given h chain fits.known live) ∙ subst (λ (k : ℕ). was_given h k ≡ false) (sym (same_key chain q same)) new))

    other : (q : ℕ) → (chain == q) ≡ false → touches_chain q t ≡ false
    other q apart = rw (call, done, asked, apart, static) refl

    by : (q : ℕ) → is_live h kind.Swapchain q ≡ true → (b : Bool) → (chain == q) ≡ b → OptFits q (chain_at (with_chain_at chain f chains) q) (t ∷ past)
    by q there true eb = subst (λ (k : ℕ). OptFits k (chain_at (with_chain_at chain f chains) k) (t ∷ past)) (same_key chain q eb) (rw (changed_own f change chain chains) (changes (fits.fits chain live)))
    by q there false eb = rw (changed_other f change chain q eb chains) (opt_aside q (chain_at chains q) t past (other q eb) (fits.fits q there))

new_is_own : (g w k : ℕ) (fixed : Bool) → (g == 0) ≡ false → is_chain g (new_chain g w k fixed) ≡ true
unfolding is_chain
new_is_own g w k fixed nz = rw (itself g, nz) refl

-- a chain is created
fits_created : (h : Handles) (chains : List Chain) (session g format w k : ℕ) (fixed : Bool) (d : Did) (past : List Decided) → (g == 0) ≡ false → was_given h g ≡ false → has_chain chains 0 ≡ true → AreKnown (with_handle h kind.Swapchain session g)
    → ChainsFit h chains past → ChainsFit (with_handle h kind.Swapchain session g) (with_chain chains (new_chain g w k fixed)) (record { call = ask.CreateSwapchain session format w k fixed; is_done = true; given = g; did = d } ∷ past)
fits_created h chains session g format w k fixed d past nz new room known fits = record {
  known = known;
  untouched = λ q qz free. let two = neither_of (g == q) (was_given h q) free in rw two.0 (rw (and_none fixed) (fits.untouched q qz two.1));
  absent = λ q qz free. let two = neither_of (g == q) (was_given h q) free in new_absent (new_chain g w k fixed) q two.0 chains (fits.absent q qz two.1);
  fits = λ q live. by q live (g == q) refl;
}
  where
    and_none : (b : Bool) → b && false ≡ false
    and_none true = refl
    and_none false = refl

    t : Decided
    t = record { call = ask.CreateSwapchain session format w k fixed; is_done = true; given = g; did = d }

    own : ChainFits g (new_chain g w k fixed) (t ∷ past)
    own =
        let none = no_counts g past (fits.untouched g nz new) in
        record {
          next = rw none.acquires (first_turn fixed);
          indices = refl;
          last = tt;
          acquired = rw (none.acquires, none.releases) refl;
          waited = rw (none.waits, none.releases) refl;
          some = λ is. absurd (true≢false (sym is));
          static = rw (itself g, none.static) (as_fixed fixed);
          once = λ is. rw none.acquires (omega arith);
          first = λ is. rw none.acquires refl;
        }
      where
        first_turn : (b : Bool) → 0 ≡ turn_of b 0
        first_turn true = refl
        first_turn false = refl

        as_fixed : (b : Bool) → (b && true) || false ≡ b
        as_fixed true = refl
        as_fixed false = refl

    by : (q : ℕ) → is_live (with_handle h kind.Swapchain session g) kind.Swapchain q ≡ true → (b : Bool) → (g == q) ≡ b → OptFits q (chain_at (with_chain chains (new_chain g w k fixed)) q) (t ∷ past)
    by q live true eb = subst (λ (n : ℕ). OptFits n (chain_at (with_chain chains (new_chain g w k fixed)) n) (t ∷ past)) (same_key g q eb) (rw (new_own (new_chain g w k fixed) g (new_is_own g w k fixed nz) chains room (fits.absent g nz new)) own)
    by q live false eb =
        let qz = live_nonzero (with_handle h kind.Swapchain session g) q live in
        let turned : (q == g) ≡ false = is_false (q == g) (λ same. true≢false (sym (subst (λ (n : ℕ). (g == n) ≡ true) (sym (same_key q g same)) (itself g)) ∙ eb)) in
        let before : is_live h kind.Swapchain q ≡ true = sym (chain_same h session g kind.Swapchain q turned) ∙ live in
        rw (new_other (new_chain g w k fixed) q qz eb chains) (opt_aside q (chain_at chains q) t past (rw eb (and_none fixed)) (fits.fits q before))

-- ---- each call on images

length_more : (xs : List ℕ) (x : ℕ) → length (xs ++ x ∷ []) ≡ length xs + 1
length_more [] x = refl
length_more (y ∷ xs) x = let more = length_more xs x in omega (arith, more)

more_is_some : (xs : List ℕ) (x : ℕ) → is_empty (xs ++ x ∷ []) ≡ false
more_is_some [] x = refl
more_is_some (y ∷ xs) x = refl

one_less : (xs : List ℕ) → is_empty xs ≡ false → length xs ≡ length (drop 1 xs) + 1
one_less [] some = absurd (true≢false some)
one_less (x ∷ xs) some = omega arith

or_false : (a b : Bool) → a || b ≡ false → (a ≡ false) × (b ≡ false)
or_false true b e = absurd (true≢false e)
or_false false b e = (refl, e)

-- a static chain is acquired where it never was
once_more : (c : Chain) (n : ℕ) → c.is_static ≡ true → is_acquire_wrong (Some c) ≡ false → (c.next == 0) ≡ (n == 0) → n + 1 ≤ 1
unfolding is_acquire_wrong
once_more c n static free first =
    let none : not (c.next == 0) ≡ false = rw static at free in
    let zero_count = same_key n 0 (sym first ∙ not_false (c.next == 0) none) in
    omega (arith, zero_count)

less_one : (n : ℕ) → n ≡ (n + 1) - 1
less_one n = omega arith

not_zero_more : (n : ℕ) → (n + 1 == 0) ≡ false
not_zero_more n = grind (arith, nat_tests)

module _ (q g : ℕ) (d : Did) (past : List Decided) where
  acquires : (o : Option Chain) → is_acquire_wrong o ≡ false → Changes q acquiring (record { call = ask.AcquireImage q; is_done = true; given = g; did = d }) past o
  acquires None free fits = fits
  acquires (Some c) free fits =
      let acquired = fits.acquired in
      let more = length_more c.acquired c.next in
      record {
        next = rw (itself q) (ap (λ (n : ℕ). index_behind c.is_static n) fits.next ∙ turn_more c.is_static (on_chain is_acquire_image q past));
        indices = rw more (ap (λ (l : List ℕ). l ++ c.next ∷ []) fits.indices ∙ ap (λ (n : ℕ). turns c.is_static (on_chain is_release_image q past) (length c.acquired) ++ n ∷ []) (fits.next ∙ ap (λ (n : ℕ). turn_of c.is_static n) acquired)
            ∙ sym (turns_more c.is_static (on_chain is_release_image q past) (length c.acquired)));
        last = last_kept c.is_static c.next c.last (on_chain is_release_image q past) fits.last;
        acquired = rw (itself q) (omega (arith, acquired, more));
        waited = fits.waited;
        some = λ is. more_is_some c.acquired c.next;
        static = fits.static;
        once = λ is. rw (itself q) (once_more c (on_chain is_acquire_image q past) is free (fits.first is));
        first = λ is. rw (is, itself q) (sym (not_zero_more (on_chain is_acquire_image q past)));
      }

  waits : (o : Option Chain) (timeout start : ℤ) → is_wait_wrong o ≡ false → Changes q waiting (record { call = ask.WaitImage q timeout start; is_done = true; given = g; did = d }) past o
  unfolding is_wait_wrong
  waits None timeout start free fits = fits
  waits (Some c) timeout start free fits =
      let two = or_false (is_empty c.acquired) c.has_waited free in
      let waited : on_chain is_wait_image q past ≡ on_chain is_release_image q past + 0 = rw two.1 at fits.waited in
      record { next = fits.next; indices = fits.indices; last = fits.last; acquired = fits.acquired; waited = rw (itself q) (omega (arith, waited)); some = λ is. two.0; static = fits.static; once = fits.once; first = fits.first }

  releases : (o : Option Chain) → is_paint_wrong o ≡ false → Changes q releasing (record { call = ask.ReleaseImage q; is_done = true; given = g; did = d }) past o
  unfolding is_paint_wrong
  releases None free fits = fits
  releases (Some c) free fits =
      let has : c.has_waited ≡ true = not_false c.has_waited free in
      let waited : on_chain is_wait_image q past ≡ on_chain is_release_image q past + 1 = rw has at fits.waited in
      let acquired = fits.acquired in
      let less = one_less c.acquired (fits.some has) in
      let turn = oldest_turn c.is_static c.acquired (on_chain is_release_image q past) (fits.some has) fits.indices in
      record {
        next = fits.next;
        indices = rw (itself q) turn.1;
        last = rw (itself q) (omega arith, turn.0 ∙ ap (λ (n : ℕ). turn_of c.is_static n) (less_one (on_chain is_release_image q past)));
        acquired = rw (itself q) (omega (arith, acquired, less));
        waited = rw (itself q) (omega (arith, waited));
        some = λ is. absurd (true≢false (sym is));
        static = fits.static;
        once = fits.once;
        first = fits.first;
      }

abbrev Fits : List Decided → Call → ℕ → Effect → Type 0
Fits past r g x = ChainsFit x.state.handles x.state.chains (record { call = r; is_done = is_success x.code; given = g; did = x.did } ∷ past)

and_none : (b : Bool) → b && false ≡ false
and_none true = refl
and_none false = refl

-- what didn't succeed changes nothing
fits_quiet : (h : Handles) (chains : List Chain) (r : Call) (g : ℕ) (d : Did) (past : List Decided) → ChainsFit h chains past → ChainsFit h chains (record { call = r; is_done = false; given = g; did = d } ∷ past)
fits_quiet h chains r g d past fits = fits_aside h h chains chains _ past (λ q. rw (and_none (is_chain_call r)) (and_none (is_static_creation r))) (fewer_same h) fits.known (record { at = λ q live. refl; absent = λ q nz none. none }) fits

module _ (s : CoreState) (past : List Decided) (fits : ChainsFit s.handles s.chains past) (r : Call) (g : ℕ) where
  refuse : (x : Effect) (refused : Refusal) → is_success refused.code ≡ false → Fits past r g (unless_refused s (Some refused) x)
  refuse x refused failed = rw failed (fits_quiet s.handles s.chains r g nothing_done past fits)

  -- a call on a live chain: it is refused, or changes the chain so
  by_call : (f : Rule) (short : Bool) (chain : ℕ) (change : Chain → Chain) → all_fail (refusals f) ≡ true → is_success f.effect.code ≡ true → is_chain_call r ≡ true → is_static_creation r ≡ false → asked_chain r ≡ chain → IsChange change
      → f.handles ≡ no_handle s.handles kind.Swapchain chain ∷ [] → f.effect.state.handles ≡ s.handles → f.effect.state.chains ≡ with_chain_at chain change s.chains
      → (IsClear f → Changes chain change (record { call = r; is_done = true; given = g; did = f.effect.did }) past (chain_at s.chains chain)) → Fits past r g (carried_out s short f)
  by_call f short chain change fails good call static asked changes named handles chains goes = by_rule (Fits past r g) s f short fails (refuse (told_on f.on f.effect)) (λ none. done f.on (clear f short none))
    where
      fit : IsClear f → ChainsFit s.handles (with_chain_at chain change s.chains) (record { call = r; is_done = true; given = g; did = f.effect.did } ∷ past)
      fit free = fits_changed s.handles s.chains chain change _ past changes call static refl asked (is_live_by (is_live s.handles kind.Swapchain chain) (rw named at free.handles)) (goes free) fits

      done : (l : Option Loss) → IsClear f → Fits past r g (told_on l f.effect)
      done None free = rw (good, handles, chains) (fit free)
      done (Some loss) free = rw (success_still loss f.effect.code good, handles, chains) (fit free)

pub given_nonzero : (n : ℕ) → n ≢ 0 → (n == 0) ≡ false
given_nonzero n some = is_false (n == 0) (λ e. some (same_key n 0 e))

pub new_given : (b : Bool) (h : Handles) (g : ℕ) → b ≡ true → IsGiven b h g → (g ≢ 0) × (was_given h g ≡ false)
new_given true h g e is = is
new_given false h g e is = absurd (true≢false (sym e))

fits_step : (s : State) (e : Entry) (past : List Decided) → IsAllowed s e → ChainsFit s.core.handles s.core.chains past → ChainsFit (step s e).0.core.handles (step s e).0.core.chains (decided s e ∷ past)
fits_step s e past allowed fits = by e.call allowed
  where
    other : (r : Call) → is_chain_move r ≡ false → is_chain_creation r ≡ false → ((q : ℕ) → touches_chain q (decided s (record e { call = r })) ≡ false)
        → ChainsFit (step s (record e { call = r })).0.core.handles (step s (record e { call = r })).0.core.chains (decided s (record e { call = r }) ∷ past)
    other r moves creates aside =
        fits_aside s.core.handles (step s (record e { call = r })).0.core.handles s.core.chains (step s (record e { call = r })).0.core.chains (decided s (record e { call = r })) past aside
        (fewer_step s.core (reads_of s r) (record e { call = r }) creates) (known_step s (record e { call = r }) fits.known) (chains_stay s.core (reads_of s r) (record e { call = r }) moves) fits

    by : (r : Call) → IsAllowed s (record e { call = r }) → ChainsFit (step s (record e { call = r })).0.core.handles (step s (record e { call = r })).0.core.chains (decided s (record e { call = r }) ∷ past)
    by (ask.CreateSwapchain session format width height fixed) allowed = by_rule (Fits past (ask.CreateSwapchain session format width height fixed) e.given) s.core f e.short refl (refuse s.core past fits (ask.CreateSwapchain session format width height fixed) e.given (told_on f.on f.effect)) made
      where
        x : Entry
        x = record e { call = ask.CreateSwapchain session format width height fixed }

        f : Rule
        f = rule s.core (reads_of s (ask.CreateSwapchain session format width height fixed)) x

        made : refusal e.short f ≡ None → Fits past (ask.CreateSwapchain session format width height fixed) e.given (told_on f.on f.effect)
        made none =
            let behind = (clear f e.short none).behind in
            let one = none_first (not (is_format format)) SwapchainFormatUnsupported (when (not (is_size width && is_size height)) ValidationFailure ∷ no_place s.core.chains ∷ no_room s.core.handles kind.Swapchain ∷ []) behind in
            let two = none_first (not (is_size width && is_size height)) ValidationFailure (no_place s.core.chains ∷ no_room s.core.handles kind.Swapchain ∷ []) one.1 in
            let room = not_false (has_chain s.core.chains 0) (none_first (not (has_chain s.core.chains 0)) LimitReached (no_room s.core.handles kind.Swapchain ∷ []) two.1).0 in
            let good = success_succeeds (loss_of (life_of s.core session)) in
            let done_is = goes s.core (refusal e.short f) (told_on f.on f.effect) none in
            let new = new_given (is_some f.creates && is_success (step s x).1.reply.code) s.core.handles e.given (ap (λ (y : Effect). is_success y.code) done_is ∙ good) allowed.handle in
            rw good (fits_created s.core.handles s.core.chains session e.given format width height fixed f.effect.did past (given_nonzero e.given new.0) new.1 room (subst (λ (y : Effect). AreKnown y.state.handles) done_is (known_step s x fits.known)) fits)
    by (ask.AcquireImage chain) allowed =
        by_call s.core past fits (ask.AcquireImage chain) e.given (rule s.core (reads_of s (ask.AcquireImage chain)) (record e { call = ask.AcquireImage chain })) e.short chain acquiring refl refl refl refl refl (λ c. (refl, refl)) refl refl refl
        (λ free. acquires chain e.given _ past (chain_at s.core.chains chain) free.order)
    by (ask.WaitImage chain timeout start) allowed =
        by_call s.core past fits (ask.WaitImage chain timeout start) e.given (rule s.core (reads_of s (ask.WaitImage chain timeout start)) (record e { call = ask.WaitImage chain timeout start })) e.short chain waiting refl refl refl refl refl (λ c. (refl, refl)) refl refl refl
        (λ free. waits chain e.given _ past (chain_at s.core.chains chain) timeout start free.order)
    by (ask.ReleaseImage chain) allowed =
        by_call s.core past fits (ask.ReleaseImage chain) e.given (rule s.core (reads_of s (ask.ReleaseImage chain)) (record e { call = ask.ReleaseImage chain })) e.short chain releasing refl refl refl refl refl (λ c. (refl, refl)) refl refl refl
        (λ free. releases chain e.given _ past (chain_at s.core.chains chain) free.order)
    by r allowed = other r refl refl (λ q. refl)

fits_after : (s : State) (clocks : List ℤ) (past : List Decided) (es : List Entry) → IsLegalFrom s clocks es → ChainsFit s.core.handles s.core.chains past → ChainsFit (after s es).core.handles (after s es).core.chains (past_from s past es)
fits_after s clocks past [] legal fits = fits
fits_after s clocks past (e ∷ es) legal fits = fits_after (step s e).0 (clocks_after clocks e (step s e).0) (decided s e ∷ past) es legal.3 (fits_step s e past legal.0 fits)

none_free : (q : ℕ) → (q == 0) ≡ false → (n : ℕ) → has_chain (replicate n free_place) q ≡ false
none_free q nz zero = refl
none_free q nz (suc n) = rw (not_zero q nz) (none_free q nz n)

pub chains_history : (settings : Settings) (es : List Entry) → IsLegalFrom (opening settings) (opening_clocks settings) es → ChainsFit (after (opening settings) es).core.handles (after (opening settings) es).core.chains (past_of settings es)
chains_history settings es legal = fits_after (opening settings) (opening_clocks settings) [] es legal (record {
  known = known_opening settings;
  untouched = λ q nz new. refl;
  absent = λ q nz new. none_free q nz SWAPCHAINS;
  fits = λ q live. absurd (true≢false (sym (both_of (not (q == 0)) (has no_handles.chains q) live).1 ∙ hasnt_free SWAPCHAINS q (live_nonzero no_handles q live)));
})

-- ---- what a call finds, by the counts

pub acquire_key : (q : ℕ) (o : Option Chain) (past : List Decided) → OptFits q o past
    → is_acquire_wrong o ≡ (if is_static_chain q past then not (on_chain is_acquire_image q past == 0) else on_chain is_acquire_image q past - on_chain is_release_image q past == 3)
unfolding is_acquire_wrong
acquire_key q None past fits = absurd fits
acquire_key q (Some c) past fits = by c.is_static refl
  where
    len : (a r l : ℕ) → a ≡ r + l → (l == 3) ≡ (a - r == 3)
    len a r l e = let same : a - r ≡ l = omega (arith, e) in ap (λ (n : ℕ). n == 3) (sym same)

    by : (b : Bool) → c.is_static ≡ b → (if c.is_static then not (c.next == 0) else length c.acquired == 3) ≡ (if is_static_chain q past then not (on_chain is_acquire_image q past == 0) else on_chain is_acquire_image q past - on_chain is_release_image q past == 3)
    by true eb = rw (fits.static ∙ eb, eb) (ap not (fits.first eb))
    by false eb = rw (fits.static ∙ eb, eb) (len (on_chain is_acquire_image q past) (on_chain is_release_image q past) (length c.acquired) fits.acquired)

pub wait_key : (q : ℕ) (o : Option Chain) (past : List Decided) → OptFits q o past
    → is_wait_wrong o ≡ (on_chain is_acquire_image q past == on_chain is_wait_image q past) || nat_lt (on_chain is_release_image q past) (on_chain is_wait_image q past)
unfolding is_wait_wrong
wait_key q None past fits = absurd fits
wait_key q (Some c) past fits = by c.acquired c.has_waited fits.acquired fits.waited
  where
    by : (xs : List ℕ) (b : Bool) → on_chain is_acquire_image q past ≡ on_chain is_release_image q past + length xs → on_chain is_wait_image q past ≡ on_chain is_release_image q past + one_if b
        → is_empty xs || b ≡ (on_chain is_acquire_image q past == on_chain is_wait_image q past) || nat_lt (on_chain is_release_image q past) (on_chain is_wait_image q past)
    by [] true a w = grind (arith, nat_tests, a, w)
    by [] false a w = grind (arith, nat_tests, a, w)
    by (x ∷ xs) true a w = grind (arith, nat_tests, a, w)
    by (x ∷ xs) false a w = grind (arith, nat_tests, a, w)

pub paint_key : (q : ℕ) (o : Option Chain) (past : List Decided) → OptFits q o past → is_paint_wrong o ≡ (on_chain is_wait_image q past == on_chain is_release_image q past)
unfolding is_paint_wrong
paint_key q None past fits = absurd fits
paint_key q (Some c) past fits = by c.has_waited fits.waited
  where
    by : (b : Bool) → on_chain is_wait_image q past ≡ on_chain is_release_image q past + one_if b → not b ≡ (on_chain is_wait_image q past == on_chain is_release_image q past)
    by true w = grind (arith, nat_tests, w)
    by false w = grind (arith, nat_tests, w)
