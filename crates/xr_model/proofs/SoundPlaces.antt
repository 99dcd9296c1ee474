-- What holds of each place of a row of swapchains, and that calls on images keep it.
use Rattle.std.proofs.Common.{◌≡◌, ◌+◌, ◌<◌, ◌≤◌, ◌==◌, ◌&&◌, ◌||◌, ℕ, Bool, true, false, not, List, [], ◌∷◌, ◌++◌, length, drop, Option, Some, None, refl, sym, subst, ◌∙◌, arith, true≢false}
use Rattle.std.specs.Prelude.{if◌then◌else◌}
use Rattle.std.proofs.lemmas.Bool.Decides.{nat_tests}
use Rattle.xr_types.specs.declared.handles.Slot.{Slot}
use Rattle.xr_model.specs.machine.Chains.{Chain, free_place, kept_place, new_chain, is_acquire_wrong, is_wait_wrong, is_paint_wrong, oldest_of, index_behind, unless_acquired, acquiring, waiting, releasing, left_in_place}
use Rattle.xr_model.specs.machine.Frames.{is_empty}
use Rattle.xr_model.specs.machine.Handles.{Handles}
use Rattle.xr_model.proofs.Rows.{same_key, neither_of}
use Rattle.xr_model.proofs.FrameOrder.{not_false}
use Rattle.xr_model.specs.laws.Soundness.{IsRun, most_acquired, is_acquired, LastFits, is_live_in, PlaceIsSound}

-- ---- indices

behind_below : (fixed : Bool) (k : ℕ) → index_behind fixed k < 3
behind_below true k = omega arith
behind_below false k = omega arith

run_more : (fixed : Bool) (ks : List ℕ) (next : ℕ) → IsRun fixed ks next → IsRun fixed (ks ++ next ∷ []) (index_behind fixed next)
run_more fixed [] next run = (run, refl, behind_below fixed next)
run_more fixed (k ∷ []) next run = (run.0, run.1, run_more fixed [] next run.2)
run_more fixed (k ∷ l ∷ ks) next run = (run.0, run.1, run_more fixed (l ∷ ks) next run.2)

run_less : (fixed : Bool) (ks : List ℕ) (next : ℕ) → IsRun fixed ks next → IsRun fixed (drop 1 ks) next
run_less fixed [] next run = run
run_less fixed (k ∷ ks) next run = run.2

pub oldest_below : (fixed : Bool) (ks : List ℕ) (next : ℕ) → IsRun fixed ks next → oldest_of ks < 3
oldest_below fixed [] next run = omega arith
oldest_below fixed (k ∷ ks) next run = run.0

pub next_below : (fixed : Bool) (ks : List ℕ) (next : ℕ) → IsRun fixed ks next → next < 3
next_below fixed [] next run = run
next_below fixed (k ∷ ks) next run = next_below fixed ks next run.2

-- once the one of a static chain was acquired, 1 is next
static_next : (k : ℕ) (ks : List ℕ) (next : ℕ) → IsRun true (k ∷ ks) next → next ≡ 1
static_next k [] next run = run.1
static_next k (l ∷ ks) next run = static_next l ks next run.2

-- the oldest index is acquired once
oldest_once : (fixed : Bool) (k : ℕ) (ks : List ℕ) (next : ℕ) → IsRun fixed (k ∷ ks) next → length (k ∷ ks) ≤ most_acquired fixed next → is_acquired k ks ≡ false
oldest_once fixed k [] next run few = refl
oldest_once true k (l ∷ ks) next run few = let one = static_next k (l ∷ ks) next run in absurd (omega (arith, few, one))
oldest_once false k (l ∷ []) next run few = grind (arith, nat_tests, run.0, run.1)
oldest_once false k (l ∷ m ∷ []) next run few = let more = run.2 in grind (arith, nat_tests, run.0, run.1, more.0, more.1)
oldest_once false k (l ∷ m ∷ n ∷ ks) next run few = absurd (omega (arith, few))

acquired_more : (k : ℕ) (ks : List ℕ) (n : ℕ) → is_acquired k ks ≡ false → (n == k) ≡ false → is_acquired k (ks ++ n ∷ []) ≡ false
acquired_more k [] n none other = rw other refl
acquired_more k (l ∷ ks) n none other = let two = neither_of (l == k) (is_acquired k ks) none in rw two.0 (acquired_more k ks n two.1 other)

length_more : (ks : List ℕ) (n : ℕ) → length (ks ++ n ∷ []) ≡ length ks + 1
length_more [] n = refl
length_more (k ∷ ks) n = let more = length_more ks n in omega (arith, more)

length_less : (ks : List ℕ) (n : ℕ) → length ks ≤ n → length (drop 1 ks) ≤ n
length_less [] n few = few
length_less (k ∷ ks) n few = omega (arith, few)

more_is_some : (ks : List ℕ) (n : ℕ) → is_empty (ks ++ n ∷ []) ≡ false
more_is_some [] n = refl
more_is_some (k ∷ ks) n = refl

-- ---- a place

pub bare_is_sound : (row : List Slot) (handle : ℕ) → PlaceIsSound row (kept_place handle)
bare_is_sound row handle = record {
  run = omega arith;
  few = omega arith;
  last = tt;
  some = λ is. absurd (true≢false (sym is));
  bare = λ dead. record { acquired = refl; has_waited = refl; last = refl; gone = or_true (handle == 0) };
}
  where
    or_true : (b : Bool) → b || true ≡ true
    or_true true = refl
    or_true false = refl

pub free_is_sound : (row : List Slot) → PlaceIsSound row free_place
free_is_sound row = record { run = omega arith; few = omega arith; last = tt; some = λ is. absurd (true≢false (sym is)); bare = λ dead. record { acquired = refl; has_waited = refl; last = refl; gone = refl } }

-- a new chain
pub new_is_sound : (row : List Slot) (g w k : ℕ) (fixed : Bool) → is_live_in row g ≡ true → PlaceIsSound row (new_chain g w k fixed)
new_is_sound row g w k fixed live = record {
  run = omega arith;
  few = by fixed;
  last = tt;
  some = λ is. absurd (true≢false (sym is));
  bare = λ dead. absurd (true≢false (sym live ∙ dead));
}
  where
    by : (b : Bool) → 0 ≤ most_acquired b 0
    by true = omega arith
    by false = omega arith

module _ (row : List Slot) (c : Chain) (live : is_live_in row c.handle ≡ true) (sound : PlaceIsSound row c) where
  pub acquired_is_sound : is_acquire_wrong (Some c) ≡ false → PlaceIsSound row (acquiring c)
  unfolding is_acquire_wrong
  acquired_is_sound free = record {
    run = run_more c.is_static c.acquired c.next sound.run;
    few = by c.is_static free sound.few;
    last = kept c.last sound.last;
    some = λ is. more_is_some c.acquired c.next;
    bare = λ dead. absurd (true≢false (sym live ∙ dead));
  }
    where
      by : (b : Bool) → (if b then not (c.next == 0) else length c.acquired == 3) ≡ false → length c.acquired ≤ most_acquired b c.next → length (c.acquired ++ c.next ∷ []) ≤ most_acquired b (index_behind b c.next)
      by true free few = let zero = same_key c.next 0 (not_false (c.next == 0) free) in let more = length_more c.acquired c.next in omega (arith, zero, few, more)
      by false free few = let more = length_more c.acquired c.next in grind (arith, nat_tests, free, few, more)

      kept : (last : Option ℕ) → LastFits last c.acquired → LastFits (unless_acquired c.next last) (c.acquired ++ c.next ∷ [])
      kept None fits = tt
      kept (Some n) fits = same (n == c.next) refl
        where
          same : (b : Bool) → (n == c.next) ≡ b → LastFits (if b then None else Some n) (c.acquired ++ c.next ∷ [])
          same true eb = tt
          same false eb = let other : (c.next == n) ≡ false = grind (arith, nat_tests, eb) in (fits.0, acquired_more n c.acquired c.next fits.1 other)

  pub waited_is_sound : is_wait_wrong (Some c) ≡ false → PlaceIsSound row (waiting c)
  unfolding is_wait_wrong
  waited_is_sound free = record {
    run = sound.run;
    few = sound.few;
    last = sound.last;
    some = λ is. (neither_of (is_empty c.acquired) c.has_waited free).0;
    bare = λ dead. absurd (true≢false (sym live ∙ dead));
  }

  pub released_is_sound : is_paint_wrong (Some c) ≡ false → PlaceIsSound row (releasing c)
  unfolding is_paint_wrong
  released_is_sound free = record {
    run = run_less c.is_static c.acquired c.next sound.run;
    few = length_less c.acquired (most_acquired c.is_static c.next) sound.few;
    last = (oldest_below c.is_static c.acquired c.next sound.run, once c.acquired (sound.some (not_false c.has_waited free)) sound.run sound.few);
    some = λ is. absurd (true≢false (sym is));
    bare = λ dead. absurd (true≢false (sym live ∙ dead));
  }
    where
      once : (ks : List ℕ) → is_empty ks ≡ false → IsRun c.is_static ks c.next → length ks ≤ most_acquired c.is_static c.next → is_acquired (oldest_of ks) (drop 1 ks) ≡ false
      once [] some run few = absurd (true≢false some)
      once (k ∷ ks) some run few = oldest_once c.is_static k ks c.next run few

-- where more handles are live
pub sound_with_more : (row more : List Slot) → ((q : ℕ) → is_live_in row q ≡ true → is_live_in more q ≡ true) → (c : Chain) → PlaceIsSound row c → PlaceIsSound more c
sound_with_more row more keeps c sound = record { run = sound.run; few = sound.few; last = sound.last; some = sound.some; bare = λ dead. sound.bare (was (is_live_in row c.handle) refl dead) }
  where
    was : (b : Bool) → is_live_in row c.handle ≡ b → is_live_in more c.handle ≡ false → b ≡ false
    was true eb dead = absurd (true≢false (sym (keeps c.handle eb) ∙ dead))
    was false eb dead = refl

-- where fewer are, and chains that aren't live have gone
pub left_is_sound : (row : List Slot) (h : Handles) (used : Bool) (c : Chain) → PlaceIsSound row c → PlaceIsSound h.chains (left_in_place h used c)
left_is_sound row h used c sound = by (is_live_in h.chains c.handle) refl (not (c.handle == 0) && used)
  where
    by : (a : Bool) → is_live_in h.chains c.handle ≡ a → (b : Bool) → PlaceIsSound h.chains (if a then c else if b then kept_place c.handle else free_place)
    by true live b = record { run = sound.run; few = sound.few; last = sound.last; some = sound.some; bare = λ dead. absurd (true≢false (sym live ∙ dead)) }
    by false dead true = bare_is_sound h.chains c.handle
    by false dead false = free_is_sound h.chains

-- ---- the index that was waited for

-- an index that was waited for wasn't released last
pub waited_isnt_last : (row : List Slot) (c : Chain) → PlaceIsSound row c → c.has_waited ≡ true → c.last ≡ Some (oldest_of c.acquired) → ⊥
waited_isnt_last row c sound waited last = by c.acquired (sound.some waited) (subst (λ (o : Option ℕ). LastFits o c.acquired) last sound.last)
  where
    by : (ks : List ℕ) → is_empty ks ≡ false → LastFits (Some (oldest_of ks)) ks → ⊥
    by [] some fits = absurd (true≢false some)
    by (k ∷ ks) some fits = let two = neither_of (k == k) (is_acquired k ks) fits.1 in absurd (omega (arith, apart k two.0))
      where
        apart : (n : ℕ) → (n == n) ≡ false → 1 ≤ 0
        apart n other = grind (arith, nat_tests, other)

pub oldest_stays : (row : List Slot) (c : Chain) (n : ℕ) → PlaceIsSound row c → c.has_waited ≡ true → oldest_of (c.acquired ++ n ∷ []) ≡ oldest_of c.acquired
oldest_stays row c n sound waited = by c.acquired (sound.some waited)
  where
    by : (ks : List ℕ) → is_empty ks ≡ false → oldest_of (ks ++ n ∷ []) ≡ oldest_of ks
    by [] some = absurd (true≢false some)
    by (k ∷ ks) some = refl
