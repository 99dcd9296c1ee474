-- Sums over the loops of the listed sessions, and how many sessions are listed.
use Rattle.std.proofs.Common.{◌≡◌, ◌==◌, ◌+◌, ◌*◌, ◌≤◌, ◌++◌, ◌∙◌, ℕ, suc, not, Bool, true, false, List, [], ◌∷◌, map, length, Option, Some, None, refl, sym, arith, true≢false}
use Rattle.std.specs.Prelude.{is_some, if◌then◌else◌}
use Rattle.std.specs.List.{filter}
use Rattle.xr_types.specs.declared.device.Wish.{Wish}
use Rattle.xr_model.specs.machine.Frames.{FrameLoop, new_loop}
use Rattle.xr_model.specs.machine.Handles.{Handles, has}
use Rattle.xr_model.specs.machine.LiveSessions.{Session, session_at, loop_in, with_session_at, with_frame_loop, with_life}
use Rattle.xr_model.specs.machine.SessionLife.{Life, Changed}
use Rattle.xr_model.specs.machine.Rules.Session.{changed_in}
use Rattle.xr_model.specs.machine.Target.{Standing, rounds, most_rounds}
use Rattle.xr_model.specs.laws.SessionLaws.{AreListed}
use Rattle.xr_model.proofs.FewListed.{AreOwn, fit_in}
use Rattle.xr_model.proofs.Rows.{both_of}
use Rattle.xr_model.proofs.Targets.{rounds_keep}
use Rattle.xr_model.proofs.ToldStates.{AreApart, listed_state}

abbrev pub sum_in : (FrameLoop → ℕ) → List Session → ℕ
sum_in weight [] = 0
sum_in weight (x ∷ xs) = weight x.frame_loop + sum_in weight xs

module _ (weight : FrameLoop → ℕ) where
  -- sessions that keep their loops
  pub sum_map : (g : Session → Session) → ((x : Session) → (g x).frame_loop ≡ x.frame_loop) → (xs : List Session) → sum_in weight (map g xs) ≡ sum_in weight xs
  sum_map g same [] = refl
  sum_map g same (x ∷ xs) = rw (same x, sum_map g same xs) refl

  pub sum_at : (g : Session → Session) → ((x : Session) → (g x).frame_loop ≡ x.frame_loop) → (handle : ℕ) (xs : List Session) → sum_in weight (with_session_at handle g xs) ≡ sum_in weight xs
  sum_at g same handle [] = refl
  sum_at g same handle (x ∷ xs) = by (x.handle == handle) (sum_at g same handle xs)
    where
      by : (b : Bool) → sum_in weight (with_session_at handle g xs) ≡ sum_in weight xs → sum_in weight (if b then g x ∷ xs else x ∷ with_session_at handle g xs) ≡ weight x.frame_loop + sum_in weight xs
      by true more = rw (same x) refl
      by false more = rw more refl

  pub sum_rounds : (w : Wish) (t : Standing) → sum_in weight (rounds most_rounds w t).sessions ≡ sum_in weight t.sessions
  sum_rounds w t = rounds_keep (λ xs. sum_in weight xs ≡ sum_in weight t.sessions) (λ f steady xs there. sum_map (λ x. with_life (f x).life x) (λ x. refl) xs ∙ there) w t refl

  pub sum_changed : (o : Option Session) (f : Life → Changed) (xs : List Session) → sum_in weight (changed_in o f xs) ≡ sum_in weight xs
  sum_changed None f xs = refl
  sum_changed (Some x) f xs = sum_at (with_life (f x.life).life) (λ y. refl) x.handle xs

  pub sum_left : (p : Session → Bool) (xs : List Session) → sum_in weight (filter p xs) ≤ sum_in weight xs
  sum_left p [] = omega arith
  sum_left p (x ∷ xs) = by (p x) (sum_left p xs)
    where
      by : (b : Bool) → sum_in weight (filter p xs) ≤ sum_in weight xs → sum_in weight (if b then x ∷ filter p xs else filter p xs) ≤ weight x.frame_loop + sum_in weight xs
      by true more = omega (arith, more)
      by false more = omega (arith, more)

  pub sum_more : (xs : List Session) (new : Session) → weight new.frame_loop ≡ 0 → sum_in weight (xs ++ new ∷ []) ≡ sum_in weight xs
  sum_more [] new bare = omega (arith, bare)
  sum_more (x ∷ xs) new bare = rw (sum_more xs new bare) refl

  -- a session's loop changes
  pub sum_loop : weight new_loop ≡ 0 → (session : ℕ) (l : FrameLoop) (xs : List Session) → sum_in weight (with_session_at session (with_frame_loop l) xs) + weight (loop_in (session_at xs session)) ≤ sum_in weight xs + weight l
  sum_loop none session l [] = omega (arith, none)
  sum_loop none session l (x ∷ xs) = by (x.handle == session) (sum_loop none session l xs)
    where
      by : (b : Bool) → sum_in weight (with_session_at session (with_frame_loop l) xs) + weight (loop_in (session_at xs session)) ≤ sum_in weight xs + weight l
          → sum_in weight (if b then with_frame_loop l x ∷ xs else x ∷ with_session_at session (with_frame_loop l) xs) + weight (loop_in (if b then Some x else session_at xs session)) ≤ (weight x.frame_loop + sum_in weight xs) + weight l
      by true more = omega arith
      by false more = omega (arith, more)

  -- where a loop weighs at most 2, the others do so together by their number
  pub sum_few : ((l : FrameLoop) → weight l ≤ 2) → (xs : List Session) → sum_in weight xs ≤ 2 * length xs
  sum_few few [] = omega arith
  sum_few few (x ∷ xs) = let one = few x.frame_loop in let more = sum_few few xs in omega (arith, one, more)

  pub others_few : ((l : FrameLoop) → weight l ≤ 2) → (session : ℕ) (xs : List Session) → is_some (session_at xs session) ≡ true → sum_in weight xs + 2 ≤ weight (loop_in (session_at xs session)) + 2 * length xs
  others_few few session [] there = absurd (true≢false (sym there))
  others_few few session (x ∷ xs) there = by (x.handle == session) there (others_few few session xs)
    where
      by : (b : Bool) → is_some (if b then Some x else session_at xs session) ≡ true → (is_some (session_at xs session) ≡ true → sum_in weight xs + 2 ≤ weight (loop_in (session_at xs session)) + 2 * length xs)
          → (weight x.frame_loop + sum_in weight xs) + 2 ≤ weight (loop_in (if b then Some x else session_at xs session)) + 2 * suc (length xs)
      by true there more = let rest = sum_few few xs in omega (arith, rest)
      by false there more = let one = few x.frame_loop in let rest = more there in omega (arith, one, rest)

-- ---- sessions stand in a row

-- handles of their own
pub own_handles : (xs : List Session) → AreApart xs → AreOwn (λ (x : Session). x.handle) xs
own_handles [] apart = tt
own_handles (x ∷ xs) apart = (sym (listed_state xs x.handle) ∙ apart.0, own_handles xs apart.1)

pub listed_fit : (h : Handles) (xs : List Session) → AreListed h xs → AreApart xs → length xs ≤ length h.sessions
listed_fit h xs listed apart = fit_in (λ (x : Session). x.handle) h.sessions xs (own_handles xs apart) (λ k there. (both_of (not (k == 0)) (has h.sessions k) (sym (listed k) ∙ there)).1)
