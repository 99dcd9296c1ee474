-- The passes are joined one after another: the compositor's, the device's, and the applications' from the last.
use Rattle.std.proofs.Common.{◌≡◌, ℕ, zero, suc, ◌+◌, ◌<◌, List, [], ◌∷◌, ◌++◌, length, slice_get, sym, refl, ap, ◌∙◌, subst, Some, arith, append_assoc, append-nil, length-append}
use mathlib.Core.Option.{some}
use lib.ListN.{get_elem?}
use Rattle.atomic_table.proofs.Lists.{at_longer}
use Rattle.xr_model.specs.machine.Calls.{Entry}
use Rattle.xr_rule.specs.Rule.{HasAll}
use Rattle.xr_rule.specs.View.{Own, Know, own_of, with_seen, number_in, calls_in}
use Rattle.xr_runtime.specs.Closing.{Holds}
use Rattle.xr_runtime.specs.declared.passes.AppPass.{AppPass}

-- a seat's number is among these, with its calls and what the seat had seen
pub record IsIn (own : List Own) (k : Know) : Type 0 where
  pub place : ℕ
  pub there : get_elem? own place ≡ some (own_of (number_in k.own) (calls_in k.own) k.seen)

at_right : (l : List Own) (x : Own) (xs : List Own) → get_elem? (l ++ x ∷ xs) (length l) ≡ some x
at_right [] x xs = refl
at_right (y ∷ ys) x xs = at_right ys x xs

pub is_new : (own : List Own) (k : Know) → 0 < length k.own → IsIn (own ++ with_seen k.seen k.own) k
is_new own k one = by k.own one
  where
    by : (os : List Own) → 0 < length os → IsIn (own ++ with_seen k.seen os) (record k { own = os })
    by [] one = absurd (omega arith)
    by (o ∷ os) one = record { place = length own; there = at_right own (own_of o.number o.calls k.seen) os }

pub is_still : (own more : List Own) (k : Know) → IsIn own k → IsIn (own ++ more) k
is_still own more k h = record { place = h.place; there = at_longer own more h.place _ h.there }

pub as_long : (s : List Entry) (os : List Own) → length (with_seen s os) ≡ length os
as_long s [] = refl
as_long s (o ∷ os) = refl

abbrev pub know_in : AppPass → Know
know_in a = a.seat.me.0.know

-- What was joined: the compositor and the device, and all applications but those that are left.
pub record Gathered (apps : ℕ) (items left : List AppPass) (first second : Know) (own : List Own) : Type 0 where
  pub more : List AppPass
  pub are : items ≡ left ++ more
  pub joined : (i : ℕ) (a : AppPass) → slice_get more i ≡ Some a → IsIn own (know_in a)
  pub compositor : IsIn own first
  pub device : IsIn own second
  pub all : length left + length own ≡ apps + 2

at_mid : (l : List AppPass) (x : AppPass) (more : List AppPass) → slice_get ((l ++ x ∷ []) ++ more) (length l) ≡ Some x
at_mid [] x more = refl
at_mid (y ∷ ys) x more = at_mid ys x more

pub gathers_two : (apps : ℕ) (items : List AppPass) (first second : Know) → length items ≡ apps → length first.own ≡ 1 → length second.own ≡ 1
    → Gathered apps items items first second (([] ++ with_seen first.seen first.own) ++ with_seen second.seen second.own)
gathers_two apps items first second count one other = record {
  more = [];
  are = sym (append-nil items);
  joined = λ i a at. absurd (cc at);
  compositor = is_still ([] ++ with_seen first.seen first.own) (with_seen second.seen second.own) first (is_new [] first (omega (arith, one)));
  device = is_new ([] ++ with_seen first.seen first.own) second (omega (arith, other));
  all = omega (arith, count, one, other, as_long first.seen first.own, as_long second.seen second.own, length-append (with_seen first.seen first.own) (with_seen second.seen second.own));
}

module _ (apps : ℕ) (items left rest : List AppPass) (first second : Know) (own : List Own) (x : AppPass) (g : Gathered apps items left first second own) (is : left ≡ rest ++ x ∷ []) where
  -- what holds of each holds of the last one that is left
  pub holds_of_last : (P : AppPass → Type 0) → ((i : ℕ) (a : AppPass) → slice_get items i ≡ Some a → P a) → P x
  holds_of_last P all = all (length rest) x (ap (λ l. slice_get l (length rest)) (g.are ∙ ap (λ l. l ++ g.more) is) ∙ at_mid rest x g.more)

  pub gathers : length (know_in x).own ≡ 1 → Gathered apps items rest first second (own ++ with_seen (know_in x).seen (know_in x).own)
  gathers alone = let k : Know = know_in x in record {
    more = x ∷ g.more;
    are = g.are ∙ (ap (λ l. l ++ g.more) is ∙ append_assoc rest (x ∷ []) g.more);
    joined = joins;
    compositor = is_still own (with_seen k.seen k.own) first g.compositor;
    device = is_still own (with_seen k.seen k.own) second g.device;
    all = let before = g.all in omega (arith, before, alone, ap length is, length-append rest (x ∷ []), length-append own (with_seen k.seen k.own), as_long k.seen k.own);
  }
    where
      joins : (i : ℕ) (a : AppPass) → slice_get (x ∷ g.more) i ≡ Some a → IsIn (own ++ with_seen (know_in x).seen (know_in x).own) (know_in a)
      joins zero a at = let same : x ≡ a = cc in subst (λ (q : AppPass). IsIn (own ++ with_seen (know_in x).seen (know_in x).own) (know_in q)) same (is_new own (know_in x) (omega (arith, alone)))
      joins (suc i) a at = is_still own (with_seen (know_in x).seen (know_in x).own) (know_in a) (g.joined i a at)

-- what a seat knew is held by the history that one seat with all numbers has seen
pub is_held : (apps : ℕ) (all k : Know) (own : List Own) → all.own ≡ own → HasAll apps all → IsIn own k → Holds apps all.seen k
is_held apps all k own same has h =
    let there : get_elem? all.own h.place ≡ some (own_of (number_in k.own) (calls_in k.own) k.seen) = ap (λ l. get_elem? l h.place) same ∙ h.there in
    record { begins = has.saw h.place _ there; calls = has.own_all h.place _ there }

pub none_is_left : (l : List AppPass) → length l ≡ 0 → l ≡ []
none_is_left [] none = refl
none_is_left (x ∷ xs) none = absurd (omega (arith, none))

-- each pass of a list is held, where none is left to join
pub apps_are_held : (apps : ℕ) (items left : List AppPass) (first second all : Know) → Gathered apps items left first second all.own → left ≡ [] → HasAll apps all → (i : ℕ) (a : AppPass) → slice_get items i ≡ Some a → Holds apps all.seen (know_in a)
apps_are_held apps items left first second all g none has i a at =
    is_held apps all (know_in a) all.own refl has (g.joined i a (ap (λ (l : List AppPass). slice_get l i) (sym (g.are ∙ ap (λ (l : List AppPass). l ++ g.more) none)) ∙ at))

pub from_none : (n : ℕ) → 0 + n ≡ n
from_none n = omega arith
