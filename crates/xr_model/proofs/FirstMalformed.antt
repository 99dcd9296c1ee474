-- The lines of a device's text are the text, and the first malformed one is told.
use Rattle.std.proofs.Common.{◌≡◌, ◌+◌, ◌||◌, ℕ, Bool, true, false, List, [], ◌∷◌, ◌++◌, length, refl, ap, subst, arith}
use Rattle.std.specs.Prelude.{nat_lt, if◌then◌else◌}
use Rattle.std.specs.List.{sum_by, flat_map}
use Rattle.std.proofs.lemmas.List.Sums.{sum_by-cons}
use Rattle.xr_types.specs.declared.device.DeviceEvent.{DeviceEvent}
use Rattle.xr_types.specs.declared.limits.TheConstants.{MOST_LINE, MOST_DEVICE}
use Rattle.xr_model.specs.device_text.DeviceText.{Line, lines_in, line_size, Meaning, skipped, tells, malformed, meaning_of, Ending, ends, garbled_at, DeviceStream, told_by, told_from}
use Rattle.xr_model.specs.laws.LineLaws.{is_neither, event_in, AreWellFormed, EndsByItsLines, FirstMalformedIsTold}

-- ---- the first malformed line, from a number and a count of bytes on

-- a line is malformed behind so many bytes
abbrev wrong_behind : ℕ → Line → Bool
wrong_behind used l = nat_lt MOST_LINE (length l.bytes) || (nat_lt MOST_DEVICE (used + line_size l) || is_neither (meaning_of l.bytes))

abbrev events_in : List Line → List DeviceEvent
events_in ls = flat_map (λ l. event_in (meaning_of l.bytes)) ls

record RightBehind (used : ℕ) (ls : List Line) (events : List DeviceEvent) : Type 0 where
  formed : (front : List Line) (l : Line) (behind : List Line) → ls ≡ front ++ l ∷ behind → wrong_behind (used + sum_by line_size front) l ≡ false
  told : events ≡ events_in ls

record FirstBehind (used from : ℕ) (ls : List Line) (events : List DeviceEvent) (number : ℕ) : Type 0 where
  ahead : List Line
  line : Line
  rest : List Line
  stand : ls ≡ ahead ++ line ∷ rest
  place : number ≡ from + length ahead
  wrong : wrong_behind (used + sum_by line_size ahead) line ≡ true
  right : RightBehind used ahead events

abbrev EndsBehind : ℕ → ℕ → List Line → List DeviceEvent → Ending → Type 0
EndsBehind used from ls events ends = RightBehind used ls events
EndsBehind used from ls events (garbled_at number) = FirstBehind used from ls events number

pub first_line : (l k : Line) (ls ks : List Line) → l ∷ ls ≡ k ∷ ks → l ≡ k
first_line l k ls ks e = cc

pub other_lines : (l k : Line) (ls ks : List Line) → l ∷ ls ≡ k ∷ ks → ls ≡ ks
other_lines l k ls ks e = cc

pub no_lines : (front : List Line) (l : Line) (behind : List Line) → [] ≡ front ++ l ∷ behind → ⊥
no_lines [] l behind e = cc
no_lines (k ∷ front) l behind e = cc

none_right : (used : ℕ) → RightBehind used [] []
none_right used = record { formed = λ front l behind e. absurd (no_lines front l behind e); told = refl }

-- one more line ahead, that is well formed
right_more : (used : ℕ) (l : Line) (ls : List Line) (events : List DeviceEvent) → wrong_behind used l ≡ false → RightBehind (used + line_size l) ls events
    → RightBehind used (l ∷ ls) (event_in (meaning_of l.bytes) ++ events)
right_more used l ls events fine more = record {
  formed = by;
  told = ap (λ es. event_in (meaning_of l.bytes) ++ es) more.told;
}
  where
    by : (front : List Line) (k : Line) (behind : List Line) → l ∷ ls ≡ front ++ k ∷ behind → wrong_behind (used + sum_by line_size front) k ≡ false
    by [] k behind e =
        subst (λ x. wrong_behind (used + 0) x ≡ false) (first_line l k ls behind e)
        (subst (λ (n : ℕ). wrong_behind n l ≡ false) (omega arith) fine)
    by (h ∷ front) k behind e =
        let here = more.formed front k behind (other_lines l h ls (front ++ k ∷ behind) e) in
        let same : line_size l ≡ line_size h = ap line_size (first_line l h ls (front ++ k ∷ behind) e) in
        subst (λ (n : ℕ). wrong_behind n k ≡ false) (omega (arith, same, sum_by-cons line_size h front)) here

more_lines : (used from : ℕ) (l : Line) (ls : List Line) (events : List DeviceEvent) (ending : Ending) → wrong_behind used l ≡ false
    → EndsBehind (used + line_size l) (from + 1) ls events ending → EndsBehind used from (l ∷ ls) (event_in (meaning_of l.bytes) ++ events) ending
more_lines used from l ls events ends fine more = right_more used l ls events fine more
more_lines used from l ls events (garbled_at number) fine more = record {
  ahead = l ∷ more.ahead;
  line = more.line;
  rest = more.rest;
  stand = ap (λ ks. l ∷ ks) more.stand;
  place = omega (arith, more.place);
  wrong = subst (λ (n : ℕ). wrong_behind n more.line ≡ true) (omega (arith, sum_by-cons line_size l more.ahead)) more.wrong;
  right = right_more used l more.ahead events fine more.right;
}

here_wrong : (used from : ℕ) (l : Line) (ls : List Line) → wrong_behind used l ≡ true → FirstBehind used from (l ∷ ls) [] from
here_wrong used from l ls wrong = record {
  ahead = [];
  line = l;
  rest = ls;
  stand = refl;
  place = omega arith;
  wrong = subst (λ (n : ℕ). wrong_behind n l ≡ true) (omega arith) wrong;
  right = none_right used;
}

-- what the lines behind one tell
abbrev behind_line : ℕ → ℕ → Line → List Line → DeviceStream
behind_line used from l ls = told_from (from + 1) (used + line_size l) ls

ends_at_first : (used from : ℕ) (ls : List Line) → EndsBehind used from ls (told_from from used ls).events (told_from from used ls).ending
ends_at_first used from [] = none_right used
ends_at_first used from (l ∷ ls) =
    by (nat_lt MOST_LINE (length l.bytes)) (nat_lt MOST_DEVICE (used + line_size l)) (meaning_of l.bytes) refl refl refl
    (ends_at_first (used + line_size l) (from + 1) ls)
  where
    by : (long far : Bool) (m : Meaning) → nat_lt MOST_LINE (length l.bytes) ≡ long → nat_lt MOST_DEVICE (used + line_size l) ≡ far → meaning_of l.bytes ≡ m
        → EndsBehind (used + line_size l) (from + 1) ls (behind_line used from l ls).events (behind_line used from l ls).ending
        → EndsBehind used from (l ∷ ls) (if long || far then record { events = []; ending = garbled_at from }
        else told_by from m (behind_line used from l ls)).events
        (if long || far then record { events = []; ending = garbled_at from } else told_by from m (behind_line used from l ls)).ending
    by true far m is_long is_far means more = here_wrong used from l ls (rw is_long refl)
    by false true m is_long is_far means more = here_wrong used from l ls (rw (is_long, is_far) refl)
    by false false malformed is_long is_far means more = here_wrong used from l ls (rw (is_long, is_far, means) refl)
    by false false skipped is_long is_far means more =
        let one = more_lines used from l ls (behind_line used from l ls).events (behind_line used from l ls).ending (rw (is_long, is_far, means) refl) more in
        subst (λ m. EndsBehind used from (l ∷ ls) (event_in m ++ (behind_line used from l ls).events) (behind_line used from l ls).ending) means one
    by false false (tells e) is_long is_far means more =
        let one = more_lines used from l ls (behind_line used from l ls).events (behind_line used from l ls).ending (rw (is_long, is_far, means) refl) more in
        subst (λ m. EndsBehind used from (l ∷ ls) (event_in m ++ (behind_line used from l ls).events) (behind_line used from l ls).ending) means one

right_from_none : (ls : List Line) (events : List DeviceEvent) → RightBehind 0 ls events → AreWellFormed ls events
right_from_none ls events right = record {
  formed = λ front l behind e. subst (λ (n : ℕ). wrong_behind n l ≡ false) (omega arith) (right.formed front l behind e);
  told = right.told;
}

from_none : (ls : List Line) (events : List DeviceEvent) (ending : Ending) → EndsBehind 0 1 ls events ending → EndsByItsLines ls events ending
from_none ls events ends right = right_from_none ls events right
from_none ls events (garbled_at number) it = record {
  ahead = it.ahead;
  line = it.line;
  rest = it.rest;
  stand = it.stand;
  place = omega (arith, it.place);
  wrong = subst (λ (n : ℕ). wrong_behind n it.line ≡ true) (omega arith) it.wrong;
  right = right_from_none it.ahead events it.right;
}

pub first_malformed_is_told : FirstMalformedIsTold
first_malformed_is_told text = from_none (lines_in text) _ _ (ends_at_first 0 1 (lines_in text))
