-- Rows of places: what stands in one after a handle was put into it, and after handles were cleared from it.
use Rattle.std.proofs.Common.{◌≡◌, ◌≤◌, ◌+◌, ℕ, zero, suc, ◌==◌, ◌&&◌, ◌||◌, not, Bool, true, false, List, [], ◌∷◌, ◌++◌, replicate, Option, Some, None, option_map, refl, sym, ap, ◌∙◌, subst, arith, true≢false, if◌then◌else◌}
use Rattle.std.specs.Prelude.{is_some}
use Rattle.std.specs.List.{list_any, list_all, position_from}
use Rattle.xr_types.specs.declared.handles.Slot.{Slot}
use Rattle.xr_model.specs.machine.Handles.{free, has, first_free, put_in, goes, going, cleared}
use Rattle.xr_model.specs.laws.HandleLaws.{count_in, is_under}

-- ---- tests

pub same_key : (a b : ℕ) → (a == b) ≡ true → a ≡ b
same_key a b e = grind (arith, e)

pub itself : (n : ℕ) → (n == n) ≡ true
itself n = grind arith

pub both_of : (a b : Bool) → a && b ≡ true → (a ≡ true) × (b ≡ true)
both_of true b e = (refl, e)
both_of false b e = absurd (true≢false (sym e))

pub neither_of : (a b : Bool) → a || b ≡ false → (a ≡ false) × (b ≡ false)
neither_of true b e = absurd (true≢false e)
neither_of false b e = (refl, e)

pub is_false : (b : Bool) → (b ≡ true → ⊥) → b ≡ false
is_false true never = absurd (never refl)
is_false false never = refl

pub not_true : (b : Bool) → not b ≡ true → b ≡ false
not_true true e = absurd (true≢false (sym e))
not_true false e = refl

pub or_true : (b : Bool) → b || true ≡ true
or_true true = refl
or_true false = refl

pub any_more : (p : ℕ → Bool) (xs ys : List ℕ) → list_any p (xs ++ ys) ≡ false → (list_any p xs ≡ false) × (list_any p ys ≡ false)
any_more p [] ys e = (refl, e)
any_more p (x ∷ xs) ys e = let two = neither_of (p x) (list_any p (xs ++ ys)) e in let more = any_more p xs ys two.1 in (rw two.0 more.0, more.1)

-- what isn't in three lists joined is in none of them
pub in_none : (p : ℕ → Bool) (xs ys zs : List ℕ) → list_any p ((xs ++ ys) ++ zs) ≡ false → (list_any p xs ≡ false) × (list_any p ys ≡ false) × (list_any p zs ≡ false)
in_none p xs ys zs e = let two = any_more p (xs ++ ys) zs e in let more = any_more p xs ys two.0 in (more.0, more.1, two.1)

-- ---- a handle is put into a row

-- the row with a slot in its first free place
unfoldable pub put_first : Slot → List Slot → List Slot
put_first new [] = []
put_first new (s ∷ ss) = if s.handle == 0 then new ∷ ss else s ∷ put_first new ss

-- a search that starts to count one later ends one later
pub one_later : {X : Type 0} (test : X → Bool) (i : ℕ) (row : List X) → position_from test (suc i) row ≡ option_map (λ n. suc n) (position_from test i row)
one_later test i [] = refl
one_later test i (s ∷ ss) = by (test s) (one_later test (i + 1) ss)
  where
    by : (b : Bool) → position_from test (suc (i + 1)) ss ≡ option_map (λ n. suc n) (position_from test (i + 1) ss)
        → (if b then Some (suc i) else position_from test (suc i + 1) ss) ≡ option_map (λ n. suc n) (if b then Some i else position_from test (i + 1) ss)
    by true more = refl
    by false more = ap (λ n. position_from test n ss) (omega arith) ∙ more

put_behind : (new s : Slot) (ss : List Slot) (o : Option ℕ) → put_in (s ∷ ss) new (option_map (λ n. suc n) o) ≡ s ∷ put_in ss new o
put_behind new s ss None = refl
put_behind new s ss (Some place) = refl

pub put_is_first : (new : Slot) (row : List Slot) → put_in row new (first_free row) ≡ put_first new row
unfolding put_first
put_is_first new [] = refl
put_is_first new (s ∷ ss) = by (s.handle == 0) (put_is_first new ss)
  where
    by : (b : Bool) → put_in ss new (first_free ss) ≡ put_first new ss
        → put_in (s ∷ ss) new (if b then Some 0 else position_from (λ x. x.handle == 0) 1 ss) ≡ (if b then new ∷ ss else s ∷ put_first new ss)
    by true more = refl
    by false more = ap (λ o. put_in (s ∷ ss) new o) (one_later (λ x. x.handle == 0) 0 ss) ∙ put_behind new s ss (first_free ss) ∙ ap (λ l. s ∷ l) more

-- where a place is free the row has the new handle
pub later_is_some : (o : Option ℕ) → is_some (option_map (λ n. suc n) o) ≡ is_some o
later_is_some None = refl
later_is_some (Some n) = refl

has_first_new : (new : Slot) (row : List Slot) → is_some (first_free row) ≡ true → has (put_first new row) new.handle ≡ true
unfolding put_first
has_first_new new [] room = absurd (true≢false (sym room))
has_first_new new (s ∷ ss) room = by (s.handle == 0) room (has_first_new new ss)
  where
    by : (b : Bool) → is_some (if b then Some 0 else position_from (λ x. x.handle == 0) 1 ss) ≡ true → (is_some (first_free ss) ≡ true → has (put_first new ss) new.handle ≡ true)
        → has (if b then new ∷ ss else s ∷ put_first new ss) new.handle ≡ true
    by true room more = rw (itself new.handle) refl
    by false room more = rw (more (sym (later_is_some (first_free ss)) ∙ sym (ap is_some (one_later (λ x. x.handle == 0) 0 ss)) ∙ room)) (or_true (s.handle == new.handle))

-- a test that holds of no slot and not of the new one holds of none afterwards
none_put : (test : Slot → Bool) (new : Slot) (row : List Slot) → list_any test row ≡ false → test new ≡ false → list_any test (put_first new row) ≡ false
unfolding put_first
none_put test new [] none other = refl
none_put test new (s ∷ ss) none other =
    let two = neither_of (test s) (list_any test ss) none in
    by (s.handle == 0) two.0 two.1 (none_put test new ss two.1 other)
  where
    by : (b : Bool) → test s ≡ false → list_any test ss ≡ false → list_any test (put_first new ss) ≡ false → list_any test (if b then new ∷ ss else s ∷ put_first new ss) ≡ false
    by true here there more = rw other there
    by false here there more = rw here more

-- a test that holds of each slot and of the new one holds of each afterwards
pub each_put : (test : Slot → Bool) (new : Slot) (row : List Slot) → list_all test row ≡ true → test new ≡ true → list_all test (put_first new row) ≡ true
unfolding put_first
each_put test new [] each good = refl
each_put test new (s ∷ ss) each good =
    let two = both_of (test s) (list_all test ss) each in
    by (s.handle == 0) two.0 two.1 (each_put test new ss two.1 good)
  where
    by : (b : Bool) → test s ≡ true → list_all test ss ≡ true → list_all test (put_first new ss) ≡ true → list_all test (if b then new ∷ ss else s ∷ put_first new ss) ≡ true
    by true here there more = rw good there
    by false here there more = rw here more

apart : (a p : ℕ) → (a == 0) ≡ true → (a == p) ≡ true → (p == 0) ≡ false → ⊥
apart a p e f g = grind (arith, e, f, g)

pub not_zero : (p : ℕ) → (p == 0) ≡ false → (0 == p) ≡ false
not_zero p e = grind (arith, e)

-- what a row has stays there, since a free place has no handle
has_first : (new : Slot) (row : List Slot) (p : ℕ) → (p == 0) ≡ false → has row p ≡ true → has (put_first new row) p ≡ true
unfolding put_first
has_first new [] p nz there = there
has_first new (s ∷ ss) p nz there = by (s.handle == 0) refl (s.handle == p) refl there (has_first new ss p nz)
  where
    by : (z : Bool) → (s.handle == 0) ≡ z → (b : Bool) → (s.handle == p) ≡ b → b || has ss p ≡ true → (has ss p ≡ true → has (put_first new ss) p ≡ true)
        → has (if z then new ∷ ss else s ∷ put_first new ss) p ≡ true
    by true ez true eb there more = absurd (apart s.handle p ez eb nz)
    by true ez false eb there more = rw there (or_true (new.handle == p))
    by false ez true eb there more = rw eb refl
    by false ez false eb there more = rw eb (more there)

module _ (new : Slot) (row : List Slot) where
  pub has_put : (p : ℕ) → (p == 0) ≡ false → has row p ≡ true → has (put_in row new (first_free row)) p ≡ true
  has_put p nz there = subst (λ l. has l p ≡ true) (sym (put_is_first new row)) (has_first new row p nz there)

  pub has_new : is_some (first_free row) ≡ true → has (put_in row new (first_free row)) new.handle ≡ true
  has_new room = subst (λ l. has l new.handle ≡ true) (sym (put_is_first new row)) (has_first_new new row room)

  pub hasnt_put : (p : ℕ) → has row p ≡ false → (new.handle == p) ≡ false → has (put_in row new (first_free row)) p ≡ false
  hasnt_put p none other = subst (λ l. has l p ≡ false) (sym (put_is_first new row)) (none_put (λ s. s.handle == p) new row none other)

  pub under_put : (above : List Slot) → is_under above row ≡ true → (new.handle == 0) || (not (new.parent == 0) && has above new.parent) ≡ true → is_under above (put_in row new (first_free row)) ≡ true
  under_put above each good = subst (λ l. is_under above l ≡ true) (sym (put_is_first new row)) (each_put (λ s. (s.handle == 0) || (not (s.parent == 0) && has above s.parent)) new row each good)

-- a row stays under one that keeps all its handles
pub under_more : (above more : List Slot) → ((p : ℕ) → (p == 0) ≡ false → has above p ≡ true → has more p ≡ true) → (row : List Slot) → is_under above row ≡ true → is_under more row ≡ true
under_more above more keeps [] under = refl
under_more above more keeps (s ∷ ss) under =
    let two = both_of ((s.handle == 0) || (not (s.parent == 0) && has above s.parent)) (is_under above ss) under in
    let here = by (s.handle == 0) (s.parent == 0) refl two.0 in
    rw here (under_more above more keeps ss two.1)
  where
    by : (free? zero? : Bool) → (s.parent == 0) ≡ zero? → free? || (not zero? && has above s.parent) ≡ true → free? || (not zero? && has more s.parent) ≡ true
    by true z e h = refl
    by false true e h = h
    by false false e h = keeps s.parent e h

-- ---- handles are cleared from a row

pub hasnt_free : (n p : ℕ) → (p == 0) ≡ false → has (replicate n free) p ≡ false
hasnt_free zero p nz = refl
hasnt_free (suc n) p nz = rw (not_zero p nz) (hasnt_free n p nz)

-- what stands nowhere in a row doesn't stand there after it was cleared
pub hasnt_cleared : (h : ℕ) (above : List ℕ) (row : List Slot) (p : ℕ) → (p == 0) ≡ false → has row p ≡ false → has (cleared h above row) p ≡ false
hasnt_cleared h above [] p nz none = none
hasnt_cleared h above (s ∷ ss) p nz none =
    let two = neither_of (s.handle == p) (has ss p) none in
    by (goes h above s) two.0 (hasnt_cleared h above ss p nz two.1)
  where
    by : (g : Bool) → (s.handle == p) ≡ false → has (cleared h above ss) p ≡ false → has ((if g then free else s) ∷ cleared h above ss) p ≡ false
    by true here more = rw (not_zero p nz) more
    by false here more = rw here more

-- the handle that is destroyed goes
named_goes : (p : ℕ) (above : List ℕ) (s : Slot) → (p == 0) ≡ false → (s.handle == p) ≡ true → goes p above s ≡ true
unfolding goes
named_goes p above s nz e = let z : (s.handle == 0) ≡ false = subst (λ (a : ℕ). (a == 0) ≡ false) (sym (same_key s.handle p e)) nz in rw (z, e) refl

pub cleared_away : (p : ℕ) (above : List ℕ) (row : List Slot) → (p == 0) ≡ false → has (cleared p above row) p ≡ false
cleared_away p above [] nz = refl
cleared_away p above (s ∷ ss) nz = by (goes p above s) refl (s.handle == p) refl (cleared_away p above ss nz)
  where
    by : (g : Bool) → goes p above s ≡ g → (b : Bool) → (s.handle == p) ≡ b → has (cleared p above ss) p ≡ false → has ((if g then free else s) ∷ cleared p above ss) p ≡ false
    by true eg b eb more = rw (not_zero p nz) more
    by false eg true eb more = absurd (true≢false (sym (named_goes p above s nz eb) ∙ eg))
    by false eg false eb more = rw eb more

-- what a row has and what doesn't go is there after it was cleared
stays : (h : ℕ) (above : List ℕ) (row : List Slot) (p : ℕ) → (p == 0) ≡ false → has row p ≡ true → list_any (λ g. g == p) (going h above row) ≡ false → has (cleared h above row) p ≡ true
stays h above [] p nz there e = there
stays h above (s ∷ ss) p nz there e = by (goes h above s) refl (s.handle == p) refl (stays h above ss p nz) there e
  where
    by : (g : Bool) → goes h above s ≡ g → (b : Bool) → (s.handle == p) ≡ b → (has ss p ≡ true → list_any (λ g. g == p) (going h above ss) ≡ false → has (cleared h above ss) p ≡ true)
        → (s.handle == p) || has ss p ≡ true → list_any (λ g. g == p) (if goes h above s then s.handle ∷ going h above ss else going h above ss) ≡ false
        → has ((if goes h above s then free else s) ∷ cleared h above ss) p ≡ true
    by true eg true eb more there e = absurd (true≢false (rw (eg, eb) at e))
    by true eg false eb more there e =
        let rest = more (rw eb at there) (neither_of (s.handle == p) (list_any (λ g. g == p) (going h above ss)) (rw eg at e)).1 in
        rw eg (rw rest (or_true (0 == p)))
    by false eg true eb more there e = rw eg (rw eb refl)
    by false eg false eb more there e = rw eg (rw eb (more (rw eb at there) (rw eg at e)))

-- a live slot that stays is not under a handle that goes
not_named : (h : ℕ) (b : List ℕ) (s : Slot) → goes h b s ≡ false → (s.handle == 0) ≡ false → (s.handle == h) || list_any (λ g. g == s.parent) b ≡ false
unfolding goes
not_named h b s e z = rw z at e

-- a row under another is so after both were cleared, if what was known to go above it is all that went
pub cleared_under : (h : ℕ) (a b : List ℕ) (above row : List Slot) → ((p : ℕ) → list_any (λ g. g == p) b ≡ false → list_any (λ g. g == p) (going h a above) ≡ false)
    → is_under above row ≡ true → is_under (cleared h a above) (cleared h b row) ≡ true
cleared_under h a b above [] knows u = refl
cleared_under h a b above (s ∷ ss) knows u =
    let two = both_of ((s.handle == 0) || (not (s.parent == 0) && has above s.parent)) (is_under above ss) u in
    by (goes h b s) refl (s.handle == 0) refl (cleared_under h a b above ss knows two.1) two.0
  where
    by : (g : Bool) → goes h b s ≡ g → (z : Bool) → (s.handle == 0) ≡ z → is_under (cleared h a above) (cleared h b ss) ≡ true → (s.handle == 0) || (not (s.parent == 0) && has above s.parent) ≡ true
        → is_under (cleared h a above) (cleared h b (s ∷ ss)) ≡ true
    by true eg z ez more fact = rw eg more
    by false eg true ez more fact = rw eg (rw ez more)
    by false eg false ez more fact =
        let parts = both_of (not (s.parent == 0)) (has above s.parent) (rw ez at fact) in
        let keeps : goes h b s ≡ false = eg in
        let away : list_any (λ g. g == s.parent) b ≡ false = (neither_of (s.handle == h) (list_any (λ g. g == s.parent) b) (not_named h b s keeps ez)).1 in
        let there = stays h a above s.parent (not_true (s.parent == 0) parts.0) parts.1 (knows s.parent away) in
        rw eg (rw (ez, parts.0, there) more)

-- a row under another is so without some of its handles
pub row_under : (h : ℕ) (b : List ℕ) (above row : List Slot) → is_under above row ≡ true → is_under above (cleared h b row) ≡ true
row_under h b above [] u = refl
row_under h b above (s ∷ ss) u =
    let two = both_of ((s.handle == 0) || (not (s.parent == 0) && has above s.parent)) (is_under above ss) u in
    by (goes h b s) two.0 (row_under h b above ss two.1)
  where
    by : (g : Bool) → (s.handle == 0) || (not (s.parent == 0) && has above s.parent) ≡ true → is_under above (cleared h b ss) ≡ true → is_under above ((if g then free else s) ∷ cleared h b ss) ≡ true
    by true here more = more
    by false here more = rw here more

-- a row in which a handle doesn't stand is the same without it
pub none_goes : (h : ℕ) (s : Slot) → (s.handle == h) ≡ false → goes h [] s ≡ false
unfolding goes
none_goes h s e = rw e (by (s.handle == 0))
  where
    by : (z : Bool) → not z && false ≡ false
    by true = refl
    by false = refl

pub cleared_same : (h : ℕ) (row : List Slot) → has row h ≡ false → cleared h [] row ≡ row
cleared_same h [] none = refl
cleared_same h (s ∷ ss) none =
    let two = neither_of (s.handle == h) (has ss h) none in
    rw (none_goes h s two.0) (ap (λ (l : List Slot). s ∷ l) (cleared_same h ss two.1))

pub going_none : (h : ℕ) (row : List Slot) → has row h ≡ false → going h [] row ≡ []
going_none h [] none = refl
going_none h (s ∷ ss) none =
    let two = neither_of (s.handle == h) (has ss h) none in
    rw (none_goes h s two.0) (going_none h ss two.1)

-- ---- in how many places a handle stands

one_more : (n : ℕ) → n + 1 ≡ 0 → ⊥
one_more n e = omega (arith, e)

-- one that stands in no place of a row doesn't stand in it, and one that stands in it has a place
pub uncounted : (row : List Slot) (p : ℕ) → count_in row p ≡ 0 → has row p ≡ false
uncounted [] p none = refl
uncounted (s ∷ ss) p none = by (s.handle == p) none (uncounted ss p)
  where
    by : (b : Bool) → (if b then count_in ss p + 1 else count_in ss p) ≡ 0 → (count_in ss p ≡ 0 → has ss p ≡ false) → b || has ss p ≡ false
    by true none more = absurd (one_more (count_in ss p) none)
    by false none more = more none

pub counted : (row : List Slot) (p : ℕ) → has row p ≡ true → 1 ≤ count_in row p
counted [] p there = absurd (true≢false (sym there))
counted (s ∷ ss) p there = by (s.handle == p) there (counted ss p)
  where
    by : (b : Bool) → b || has ss p ≡ true → (has ss p ≡ true → 1 ≤ count_in ss p) → 1 ≤ (if b then count_in ss p + 1 else count_in ss p)
    by true there more = omega arith
    by false there more = more there
