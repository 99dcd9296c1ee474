-- How many calls a history can have, where each actor makes few.
use Rattle.std.specs.Prelude.{◌≡◌, ◌≢◌, ◌+◌, ◌^◌, ◌≤◌, ◌<◌, ◌&&◌, ℕ, suc, zero, Bool, true, false, not, is_some, List, [], ◌∷◌, ◌++◌, length, if◌then◌else◌}
use Rattle.std.specs.List.{list_all}
use Rattle.xr_types.specs.declared.calls.Gives.{Gives}
use Rattle.xr_types.specs.declared.calls.Gives.TheVariants.{Ended}
use Rattle.xr_types.specs.declared.code.Code.TheVariants.{CallOrderInvalid}
use Rattle.xr_model.specs.machine.CoreCalls.{asked}
use Rattle.xr_types.specs.CallKinds.{is_locked}
use Rattle.xr_model.specs.machine.Calls.{Entry, Exchange}
use Rattle.xr_model.specs.machine.Rule.{is_by}
use Rattle.xr_model.specs.laws.ImageLaws.{is_compositor_call, is_next_frame}
use Rattle.xr_model.specs.laws.Laws.{count_locked}
use Rattle.xr_model.specs.laws.Moments.{Moment, opening_moment, IsLegalAt, exchange_at, actor_at, calls_by}

-- how many of these calls are so
abbrev pub how_many : (Exchange → Bool) → List Exchange → ℕ
how_many is_so [] = 0
how_many is_so (x ∷ xs) = if is_so x then how_many is_so xs + 1 else how_many is_so xs

-- a call is counted and shows no frame
abbrev pub is_frameless : Exchange → Bool
is_frameless x = is_locked x.call && not (is_some x.outcome.shown)

abbrev pub is_end : Gives → Bool
is_end Ended = true
is_end _ = false

-- the compositor is told the end
abbrev pub tells_end : Exchange → Bool
tells_end x = is_end x.outcome.reply.gives

-- Few calls of the compositor: they are its own two, it was told the end once at most, and each other one that is counted shows a
-- frame.
pub record HasFewFrames (calls : List Exchange) : Type 0 where
  pub its_own : list_all (λ x. is_compositor_call x.call) calls ≡ true
  pub shown : how_many is_frameless calls ≤ how_many tells_end calls
  pub ended : how_many tells_end calls ≤ 1

-- a number's calls are few: at most 2^40, and the compositor's by the frames that it is shown
abbrev pub HasFew : ℕ → List Exchange → Type 0
HasFew (suc zero) calls = HasFewFrames calls
HasFew _ calls = length calls ≤ 2 ^ 40

-- The compositor may add this call: it wasn't told the end, and is not refused a frame for the images that it holds.
pub record MayShow (m : Moment) (e : Entry) (calls : List Exchange) : Type 0 where
  pub in_order : is_next_frame e.call ≡ true → (exchange_at m e).outcome.reply.code ≢ CallOrderInvalid
  pub unended : how_many tells_end calls ≡ 0

-- a number may add this call to its own
abbrev pub MayAdd : ℕ → Moment → Entry → List Exchange → Type 0
MayAdd (suc zero) m e calls = MayShow m e calls
MayAdd _ m e calls = length calls < 2 ^ 40

-- where a number may add a call that it may ask for, its calls are few afterwards
abbrev pub FewMore : Type 0
FewMore =
    (n : ℕ) (m : Moment) (e : Entry) (calls : List Exchange) → e.actor ≡ actor_at n → is_by (asked e.actor e.call).caller e.actor ≡ true
    → HasFew n calls → MayAdd n m e calls → HasFew n (calls ++ exchange_at m e ∷ [])

-- Where the calls of each number are few, fewer than 2^44 are counted: of the frames that the compositor takes, each was begun and
-- ended by others.
abbrev pub LockedAreFew : Type 0
LockedAreFew =
    (apps : ℕ) (es : List Entry) → apps ≤ 8 → IsLegalAt (opening_moment apps) es
    → ((n : ℕ) → n < apps + 2 → HasFew n (calls_by n (opening_moment apps) es)) → count_locked es < 2 ^ 44
