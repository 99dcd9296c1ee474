-- After every history the focus is the last session's that takes part in it, where it is wished for.
use Rattle.std.proofs.Common.{◌≡◌, ◌≤◌, ◌==◌, ◌&&◌, ◌||◌, ℕ, max, not, Bool, true, false, List, [], ◌∷◌, Some, None, refl, sym, ap, subst, ◌∙◌, true≢false, arith}
use Rattle.std.proofs.lemmas.Bool.Decides.{nat_tests}
use Rattle.std.specs.Prelude.{nat_lt, if◌then◌else◌}
use Rattle.std.specs.List.{list_any}
use Rattle.xr_types.specs.declared.device.Wish.{Wish}
use Rattle.xr_types.specs.declared.device.Wish.TheVariants as wish
use Rattle.xr_types.specs.declared.session.SessionState.{SessionState}
use Rattle.xr_types.specs.declared.session.SessionState.TheVariants.{Idle, Ready, Synchronized, Visible, Focused, Stopping, LossPending, Exiting}
use Rattle.xr_model.specs.machine.SessionLife.{Life, is_state, is_wish, next_state}
use Rattle.xr_model.specs.machine.LiveSessions.{Session, session_at}
use Rattle.xr_model.specs.machine.State.{opening}
use Rattle.xr_model.specs.machine.Target.{is_candidate, target_of, is_target, without_focus}
use Rattle.xr_model.specs.machine.History.{after}
use Rattle.xr_model.specs.laws.SessionLifeLaws.{is_focused, takes_part, is_later_one, TheLastIsFocused}
use Rattle.xr_model.proofs.Rows.{itself, same_key, both_of}
use Rattle.xr_model.proofs.Targets.{Settles}
use Rattle.xr_model.proofs.Settled.{sessions_have_settled, focused_is_the_target}

-- ---- one session

-- who takes part can be the target
same_part : (life : Life) → is_candidate life ≡ takes_part life.state life.exit
same_part life = by life.state life.exit
  where
    by : (state : SessionState) (exit : Bool)
        → (is_state state Synchronized || (is_state state Visible || is_state state Focused)) && not exit ≡ takes_part state exit
    by Idle true = refl
    by Idle false = refl
    by Ready true = refl
    by Ready false = refl
    by Synchronized true = refl
    by Synchronized false = refl
    by Visible true = refl
    by Visible false = refl
    by Focused true = refl
    by Focused false = refl
    by Stopping true = refl
    by Stopping false = refl
    by LossPending true = refl
    by LossPending false = refl
    by Exiting true = refl
    by Exiting false = refl

-- where a focused session rests, the focus is wished for and its end wasn't asked for
rests_in_focus : (w : Wish) (exit : Bool) (state : SessionState) → is_state state Focused ≡ true → next_state w exit state ≡ None → is_wish w wish.Focused && takes_part state exit ≡ true
rests_in_focus w exit Idle is none = absurd (true≢false (sym is))
rests_in_focus w exit Ready is none = absurd (true≢false (sym is))
rests_in_focus w exit Synchronized is none = absurd (true≢false (sym is))
rests_in_focus w exit Visible is none = absurd (true≢false (sym is))
rests_in_focus w exit Stopping is none = absurd (true≢false (sym is))
rests_in_focus w exit LossPending is none = absurd (true≢false (sym is))
rests_in_focus w exit Exiting is none = absurd (true≢false (sym is))
rests_in_focus wish.Rest true Focused is none = cc
rests_in_focus wish.Rest false Focused is none = cc
rests_in_focus wish.Ready true Focused is none = cc
rests_in_focus wish.Ready false Focused is none = cc
rests_in_focus wish.Visible true Focused is none = cc
rests_in_focus wish.Visible false Focused is none = cc
rests_in_focus wish.Focused true Focused is none = cc
rests_in_focus wish.Focused false Focused is none = refl

-- where the focus is wished for, who takes part and rests is focused
comes_to_focus : (w : Wish) (exit : Bool) (state : SessionState) → is_wish w wish.Focused ≡ true → takes_part state exit ≡ true → next_state w exit state ≡ None → is_state state Focused ≡ true
comes_to_focus wish.Rest exit state wished part none = absurd (true≢false (sym wished))
comes_to_focus wish.Ready exit state wished part none = absurd (true≢false (sym wished))
comes_to_focus wish.Visible exit state wished part none = absurd (true≢false (sym wished))
comes_to_focus wish.Focused true Idle wished part none = absurd (true≢false (sym part))
comes_to_focus wish.Focused false Idle wished part none = absurd (true≢false (sym part))
comes_to_focus wish.Focused true Ready wished part none = absurd (true≢false (sym part))
comes_to_focus wish.Focused false Ready wished part none = absurd (true≢false (sym part))
comes_to_focus wish.Focused true Synchronized wished part none = absurd (true≢false (sym part))
comes_to_focus wish.Focused false Synchronized wished part none = cc
comes_to_focus wish.Focused true Visible wished part none = absurd (true≢false (sym part))
comes_to_focus wish.Focused false Visible wished part none = cc
comes_to_focus wish.Focused exit Focused wished part none = refl
comes_to_focus wish.Focused true Stopping wished part none = absurd (true≢false (sym part))
comes_to_focus wish.Focused false Stopping wished part none = absurd (true≢false (sym part))
comes_to_focus wish.Focused true LossPending wished part none = absurd (true≢false (sym part))
comes_to_focus wish.Focused false LossPending wished part none = absurd (true≢false (sym part))
comes_to_focus wish.Focused true Exiting wished part none = absurd (true≢false (sym part))
comes_to_focus wish.Focused false Exiting wished part none = absurd (true≢false (sym part))

-- ---- the target among the sessions

-- no session takes part that is later than the target
none_later : (n : ℕ) (xs : List Session) → target_of xs ≤ n → list_any (is_later_one n) xs ≡ false
none_later n [] less = refl
none_later n (x ∷ xs) less = subst (λ (c : Bool). (c && nat_lt n x.ordinal) || list_any (is_later_one n) xs ≡ false) (same_part x.life) (by (is_candidate x.life) (nat_lt n x.ordinal) refl less (none_later n xs))
  where
    by : (c l : Bool) → nat_lt n x.ordinal ≡ l → (if c then max x.ordinal (target_of xs) else target_of xs) ≤ n → (target_of xs ≤ n → list_any (is_later_one n) xs ≡ false)
        → (c && l) || list_any (is_later_one n) xs ≡ false
    by true true el less more = absurd (grind (arith, nat_tests, el, less))
    by true false el less more = more (omega (arith, less))
    by false l el less more = more less

-- so the target is no later than that
not_later : (n : ℕ) (xs : List Session) → list_any (is_later_one n) xs ≡ false → target_of xs ≤ n
not_later n [] none = omega arith
not_later n (x ∷ xs) none = by (is_candidate x.life) (nat_lt n x.ordinal) refl (subst (λ (c : Bool). (c && nat_lt n x.ordinal) || list_any (is_later_one n) xs ≡ false) (sym (same_part x.life)) none) (not_later n xs)
  where
    by : (c l : Bool) → nat_lt n x.ordinal ≡ l → (c && l) || list_any (is_later_one n) xs ≡ false → (list_any (is_later_one n) xs ≡ false → target_of xs ≤ n)
        → (if c then max x.ordinal (target_of xs) else target_of xs) ≤ n
    by true true el none more = absurd (true≢false none)
    by true false el none more = let less = more none in let own : x.ordinal ≤ n = grind (arith, nat_tests, el) in omega (arith, own, less)
    by false l el none more = more none

-- who takes part isn't later than the target
within_target : (xs : List Session) (session : ℕ) (x : Session) → session_at xs session ≡ Some x → is_candidate x.life ≡ true → x.ordinal ≤ target_of xs
within_target [] session x found can = cc
within_target (y ∷ ys) session x found can = by (y.handle == session) found (λ here. within_target ys session x here can)
  where
    below : (a n : ℕ) (c : Bool) → a ≤ n → a ≤ (if c then max y.ordinal n else n)
    below a n true less = omega (arith, less)
    below a n false less = less

    by : (b : Bool) → (if b then Some y else session_at ys session) ≡ Some x → (session_at ys session ≡ Some x → x.ordinal ≤ target_of ys) → x.ordinal ≤ target_of (y ∷ ys)
    by true here more =
        let same : y ≡ x = cc in
        let own : is_candidate y.life ≡ true = ap (λ (z : Session). is_candidate z.life) same ∙ can in
        subst (λ (z : Session). z.ordinal ≤ target_of (y ∷ ys)) same (rw own (omega arith))
    by false here more = below x.ordinal (target_of ys) (is_candidate y.life) (more here)

-- ---- the law

-- what holds of a session that rests under its own part of the wish
module _ (w : Wish) (xs : List Session) (session : ℕ) (x : Session) (found : session_at xs session ≡ Some x) (rests : Settles w (target_of xs) x) where
  abbrev has_focus : Bool
  has_focus = is_wish w wish.Focused && (takes_part x.life.state x.life.exit && not (list_any (is_later_one x.ordinal) xs))

  under_wish : is_target (target_of xs) x ≡ true → next_state w x.life.exit x.life.state ≡ None
  under_wish target = subst (λ (b : Bool). next_state (if b then w else without_focus w) x.life.exit x.life.state ≡ None) target rests

  focus_is_its : is_focused x ≡ true → is_target (target_of xs) x ≡ true → has_focus ≡ true
  focus_is_its focused target =
      let both = both_of (is_wish w wish.Focused) (takes_part x.life.state x.life.exit) (rests_in_focus w x.life.exit x.life.state focused (under_wish target)) in
      let same = same_key x.ordinal (target_of xs) target in
      rw (both.0, both.1, none_later x.ordinal xs (omega (arith, same))) refl

  is_in_focus : has_focus ≡ true → is_focused x ≡ true
  is_in_focus has =
      let both = both_of (is_wish w wish.Focused) (takes_part x.life.state x.life.exit && not (list_any (is_later_one x.ordinal) xs)) has in
      let its = both_of (takes_part x.life.state x.life.exit) (not (list_any (is_later_one x.ordinal) xs)) both.1 in
      let less = not_later x.ordinal xs (is_none (list_any (is_later_one x.ordinal) xs) its.1) in
      let more = within_target xs session x found (same_part x.life ∙ its.0) in
      let same : target_of xs ≡ x.ordinal = omega (arith, less, more) in
      comes_to_focus w x.life.exit x.life.state both.0 its.0 (under_wish (ap (λ (n : ℕ). x.ordinal == n) same ∙ itself x.ordinal))
    where
      is_none : (b : Bool) → not b ≡ true → b ≡ false
      is_none true e = absurd (true≢false (sym e))
      is_none false e = refl

-- two tests that follow from each other are the same
same_tests : (a b : Bool) → (a ≡ true → b ≡ true) → (b ≡ true → a ≡ true) → a ≡ b
same_tests true b to from = sym (to refl)
same_tests false true to from = from refl
same_tests false false to from = refl

pub the_last_is_focused : TheLastIsFocused
the_last_is_focused settings es session x found =
    let w = (after (opening settings) es).core.device.wish in
    let xs : List Session = (after (opening settings) es).core.sessions in
    let rests = sessions_have_settled settings es session x found in
    same_tests (is_focused x) (has_focus w xs session x found rests)
    (λ focused. focus_is_its w xs session x found rests focused (focused_is_the_target settings es session x found focused))
    (is_in_focus w xs session x found rests)
