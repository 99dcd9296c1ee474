-- Passes before any call.
use Rattle.std.proofs.Common.{rules, ◌≡◌, ◌+◌, ◌-◌, ◌<◌, ◌≤◌, ◌≤ℤ◌, ℕ, zero, suc, ℤ, pos, false, List, [], ◌∷◌, ◌++◌, length, slice_get, replicate, sym, refl, ap, ◌∙◌, subst, Option, Some, arith, length-append}
use Rattle.std.proofs.lemmas.Option.{slice_get_within}
use Rattle.std.specs.List.{remove}
use Rattle.std.specs.Prelude.{unwrap_or, slice_index_or}
use Rattle.atomic_table.specs.Seated.{TableId}
use Rattle.atomic_table.specs.declared.shared.Seat.{Seat}
use Rattle.xr_types.specs.declared.calls.Actor.TheVariants.{App}
use Rattle.xr_model.specs.machine.History.{clock_of}
use Rattle.xr_model.specs.machine.Machine.{IsPresent}
use Rattle.xr_model.specs.machine.State.{WholeCore}
use Rattle.xr_model.specs.laws.FewCalls.{how_many, tells_end}
use Rattle.xr_model.specs.laws.Moments.{opening_moment, IsLegalAt, actor_at}
use Rattle.xr_rule.specs.declared.held.Held.{Held}
use Rattle.xr_rule.specs.Seats.{IsFresh, AreFresh}
use Rattle.xr_rule.specs.View.{View, number_in, calls_in}
use Rattle.xr_runtime.specs.Calling.{Has, seen_by, actor_of}
use Rattle.xr_runtime.specs.Passes.{Rests, IsCompositor, IsDevice, AreSeats, IsFirst, AreFirst}
use Rattle.xr_runtime.specs.declared.passes.AppPass.{AppPass}
use Rattle.xr_runtime.specs.declared.passes.CompositorPass.{CompositorPass}
use Rattle.xr_runtime.specs.declared.passes.DevicePass.{DevicePass}

abbrev OfTable : Type 0
OfTable = Seat (Option (Held WholeCore)) View

-- ---- lists

all_same : {A : Type 0} (n : ℕ) (x : A) (i : ℕ) → i < n → slice_get (replicate n x) i ≡ Some x
all_same zero x i within = absurd (omega arith)
all_same (suc n) x zero within = refl
all_same (suc n) x (suc i) within = all_same n x i (omega arith)

pub still_at : {A : Type 0} (l m : List A) (i : ℕ) (x : A) → slice_get l i ≡ Some x → slice_get (l ++ m) i ≡ Some x
still_at [] m i x at = absurd (cc at)
still_at (y ∷ ys) m zero x at = at
still_at (y ∷ ys) m (suc i) x at = still_at ys m i x at

pub last_at : {A : Type 0} (l : List A) (x : A) → slice_get (l ++ x ∷ []) (length l) ≡ Some x
last_at [] x = refl
last_at (y ∷ ys) x = last_at ys x

-- one more is as the others, each by its place
pub one_more_is : {A : Type 0} (P : ℕ → A → Type 0) (l : List A) (x : A) → ((i : ℕ) (a : A) → slice_get l i ≡ Some a → P i a) → P (length l) x → (i : ℕ) (a : A) → slice_get (l ++ x ∷ []) i ≡ Some a → P i a
one_more_is P [] x all last zero a at = let same : x ≡ a = cc at in subst (P 0) same last
one_more_is P [] x all last (suc i) a at = absurd (cc at)
one_more_is P (y ∷ ys) x all last zero a at = all 0 a at
one_more_is P (y ∷ ys) x all last (suc i) a at = one_more_is (λ j. P (suc j)) ys x (λ j b h. all (suc j) b h) last i a at

-- ---- seats

rests_first : (table : TableId) (apps n : ℕ) (s : OfTable) → IsFresh table apps n s → Rests table s
rests_first table apps n s fresh = record {
  own = fresh.0;
  between = record { idle = ap (λ (z : Has). z.0.turn) fresh.1; carries = ap (λ (z : Has). z.1) fresh.1; sees_none = ap (λ (z : Has). z.0.eyes) fresh.1; numbered = subst (λ (z : Has). 0 < length z.0.know.own) (sym fresh.1) (omega arith) };
  alone = ap (λ (z : Has). length z.0.know.own) fresh.1;
}

is_application : (n app : ℕ) → n ≡ suc app → 1 ≤ app → actor_at n ≡ App app
is_application n zero is one = absurd (omega (arith, one))
is_application n (suc k) is one = ap actor_at is

none_negative : pos 0 ≤ℤ pos 0
none_negative = first_of (omega arith, search rules, grind arith)

pub app_first : (table : TableId) (apps n app : ℕ) (p : AppPass) → IsFresh table apps n p.seat → n ≡ suc app → 1 ≤ app → app ≤ apps → p.app ≡ app → p.left ≡ false → p.calls ≡ 0 → p.clock ≡ pos 0 → IsFirst table app p
app_first table apps n app p fresh number one most app_is stays none clock =
    let place : app - 1 < apps = omega (arith, one, most) in record {
      is = record {
        rests = rests_first table apps n p.seat fresh;
        is_own = ap (λ (z : Has). actor_of z.0.know) fresh.1 ∙ (is_application n app number one ∙ ap App (sym app_is));
        here = λ is_there. subst (λ (z : Has). IsPresent (seen_by z.0.know).state.core (App p.app)) (sym fresh.1) (subst (λ (k : ℕ). IsPresent (opening_moment apps).state.core (App k)) (sym app_is) (one, most, all_same apps false (app - 1) place));
        clock_is = clock ∙ sym (ap (λ (z : Has). clock_of (seen_by z.0.know).clocks (App p.app)) fresh.1 ∙ (ap (λ (k : ℕ). clock_of (opening_moment apps).clocks (App k)) app_is ∙ ap (λ (o : Option ℤ). unwrap_or o (pos 0)) (all_same apps (pos 0) (app - 1) place)));
        begun = subst (λ (z : ℤ). pos 0 ≤ℤ z) (sym clock) none_negative;
        counts = none ∙ sym (ap (λ (z : Has). length (calls_in z.0.know.own)) fresh.1);
      };
      app_is = app_is;
      stays = stays;
      none_made = none;
    }

-- ---- the first seat is taken out

pub first_is : (table : TableId) (apps from : ℕ) (l : List OfTable) (x : OfTable) → 0 < length l → AreSeats table apps from l → x ≡ slice_index_or l 0 x → IsFresh table apps from x
first_is table apps from [] x some seats is = absurd (omega (arith, some))
first_is table apps from (y ∷ ys) x some seats is =
    let same : 0 + from ≡ from = omega arith in
    subst (λ (z : ℕ × OfTable). IsFresh table apps z.0 z.1) (λ i. (same i, sym is i)) (seats 0 y refl)

pub others_are : (table : TableId) (apps from : ℕ) (l more : List OfTable) → 0 < length l → AreSeats table apps from l → more ≡ remove l 0 → AreSeats table apps (from + 1) more
others_are table apps from [] more some seats is = absurd (omega (arith, some))
others_are table apps from (y ∷ ys) more some seats is = λ i s at.
    let next : suc i + from ≡ i + (from + 1) = omega arith in
    subst (λ (n : ℕ). IsFresh table apps n s) next (seats (suc i) s (ap (λ (l : List OfTable). slice_get l i) (sym is) ∙ at))

pub next_first : (table : TableId) (apps app : ℕ) (l : List OfTable) (x : OfTable) (p : AppPass) (ps more : List AppPass) → 0 < length l → app + 1 ≤ apps → AreSeats table apps (app + 2) l → x ≡ slice_index_or l 0 x → AreFirst table ps → length ps ≡ app
    → p ≡ record { seat = x; app = app + 1; calls = 0; left = false; clock = pos 0 } → more ≡ ps ++ p ∷ [] → AreFirst table more
next_first table apps app l x p ps more some within seats is firsts count p_is more_is =
    let number : app + 2 ≡ suc (app + 1) = omega arith in
    let one : 1 ≤ app + 1 = omega arith in
    let made : IsFirst table (app + 1) p = subst (IsFirst table (app + 1)) (sym p_is) (app_first table apps (app + 2) (app + 1) (record { seat = x; app = app + 1; calls = 0; left = false; clock = pos 0 }) (first_is table apps (app + 2) l x some seats is) number one within refl refl refl refl) in
    subst (AreFirst table) (sym more_is) (one_more_is (λ i a. IsFirst table (i + 1) a) ps p firsts (subst (λ (n : ℕ). IsFirst table (n + 1) p) (sym count) made))

-- ---- the compositor's and the device's seat

pub last_two : (table : TableId) (apps : ℕ) (seats mid front : List OfTable) (d c : OfTable) → AreFresh table apps seats → seats ≡ mid ++ d ∷ [] → mid ≡ front ++ c ∷ [] → IsFresh table apps 1 c × IsFresh table apps 0 d
last_two table apps seats mid front d c fresh is mid_is =
    let count = fresh.count in
    let many : length mid ≡ apps + 1 = omega (arith, count, ap length is, length-append mid (d ∷ [])) in
    let few : length front ≡ apps = omega (arith, many, ap length mid_is, length-append front (c ∷ [])) in
    let there : slice_get mid apps ≡ Some c = ap (λ (l : List OfTable). slice_get l apps) mid_is ∙ subst (λ (n : ℕ). slice_get (front ++ c ∷ []) n ≡ Some c) few (last_at front c) in (
      fresh.compositor c (ap (λ (l : List OfTable). slice_get l apps) is ∙ still_at mid (d ∷ []) apps c there),
      fresh.device d (ap (λ (l : List OfTable). slice_get l (apps + 1)) is ∙ subst (λ (n : ℕ). slice_get (mid ++ d ∷ []) n ≡ Some d) many (last_at mid d)),
    )

pub compositor_first : (table : TableId) (apps : ℕ) (p : CompositorPass) → IsFresh table apps 1 p.seat → p.held.items ≡ [] → p.calls ≡ 0 → IsCompositor table p
compositor_first table apps p fresh held calls = record {
  rests = rests_first table apps 1 p.seat fresh;
  is_own = ap (λ (z : Has). number_in z.0.know.own) fresh.1;
  legal = subst (λ (z : Has). IsLegalAt (opening_moment z.0.know.apps) z.0.know.seen) (sym fresh.1) tt;
  held_is = held ∙ sym (ap (λ (z : Has). (seen_by z.0.know).state.cells.held) fresh.1);
  counts = calls ∙ sym (ap (λ (z : Has). length (calls_in z.0.know.own)) fresh.1);
  unended = λ before. ap (λ (z : Has). how_many tells_end (calls_in z.0.know.own)) fresh.1;
}

pub device_first : (table : TableId) (apps : ℕ) (p : DevicePass) → IsFresh table apps 0 p.seat → p.calls ≡ 0 → IsDevice table p
device_first table apps p fresh calls = record {
  rests = rests_first table apps 0 p.seat fresh;
  is_own = ap (λ (z : Has). number_in z.0.know.own) fresh.1;
  counts = calls ∙ sym (ap (λ (z : Has). length (calls_in z.0.know.own)) fresh.1);
}

-- what is left in front of these two are the applications' seats
pub front_seats : (table : TableId) (apps : ℕ) (seats mid front : List OfTable) (d c : OfTable) → AreFresh table apps seats → seats ≡ mid ++ d ∷ [] → mid ≡ front ++ c ∷ [] → AreSeats table apps 2 front
front_seats table apps seats mid front d c fresh is mid_is = λ i s at.
    let count = fresh.count in
    let many : length mid ≡ apps + 1 = omega (arith, count, ap length is, length-append mid (d ∷ [])) in
    let few : length front ≡ apps = omega (arith, many, ap length mid_is, length-append front (c ∷ [])) in
    let within = slice_get_within front i s at in
    let there : slice_get mid i ≡ Some s = ap (λ (l : List OfTable). slice_get l i) mid_is ∙ still_at front (c ∷ []) i s at in
    fresh.applications i s (omega (arith, within, few)) (ap (λ (l : List OfTable). slice_get l i) is ∙ still_at mid (d ∷ []) i s there)
