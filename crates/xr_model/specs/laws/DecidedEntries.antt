-- What was decided in a history, the newest first, and what is counted over it. The counts know nothing of the state.
use Rattle.std.specs.Prelude.{ℕ, ◌+◌, ◌-◌, ◌==◌, ◌&&◌, ◌||◌, nat_lt, length, not, Bool, true, false, List, [], ◌∷◌, if◌then◌else◌}
use Rattle.std.specs.List.{list_any}
use Rattle.xr_types.specs.Code.{is_success}
use Rattle.xr_model.specs.machine.Calls.{Entry}
use Rattle.xr_types.specs.declared.calls.Call.{Call}
use Rattle.xr_types.specs.declared.calls.Call.TheVariants as ask
use Rattle.xr_model.specs.machine.State.{Settings, State, opening}
use Rattle.xr_model.specs.machine.Rule.{Did}
use Rattle.xr_model.specs.machine.Machine.{effect, reads_of, step}

-- an entry: what was asked, whether it succeeded, the handle that it gave, and what it did with handles and images
pub record Decided : Type 0 where
  pub call : Call
  pub is_done : Bool
  pub given : ℕ
  pub did : Did

abbrev pub decided : State → Entry → Decided
decided s e = record { call = e.call; is_done = is_success (step s e).1.reply.code; given = e.given; did = (effect s.core (reads_of s e.call) e).did }

abbrev pub past_from : State → List Decided → List Entry → List Decided
past_from s past [] = past
past_from s past (e ∷ es) = past_from (step s e).0 (decided s e ∷ past) es

abbrev pub past_of : Settings → List Entry → List Decided
past_of settings es = past_from (opening settings) [] es

-- ---- sorts of calls on a session's frames

abbrev pub is_begin_session : Call → Bool
is_begin_session (ask.BeginSession session view) = true
is_begin_session _ = false

abbrev pub is_end_session : Call → Bool
is_end_session (ask.EndSession session) = true
is_end_session _ = false

abbrev pub is_wait_frame : Call → Bool
is_wait_frame (ask.WaitFrame session) = true
is_wait_frame _ = false

abbrev pub is_begin_frame : Call → Bool
is_begin_frame (ask.BeginFrame session) = true
is_begin_frame _ = false

abbrev pub is_end_frame : Call → Bool
is_end_frame (ask.EndFrame session time blend layers) = true
is_end_frame _ = false

-- the session that such a call is made on
abbrev pub period_session : Call → ℕ
period_session (ask.BeginSession session view) = session
period_session (ask.EndSession session) = session
period_session (ask.WaitFrame session) = session
period_session (ask.BeginFrame session) = session
period_session (ask.EndFrame session time blend layers) = session
period_session _ = 0

-- a successful call of this sort on the session
abbrev pub acts : (Call → Bool) → ℕ → Decided → Bool
acts sort session t = sort t.call && (t.is_done && (period_session t.call == session))

-- ---- counts

abbrev pub how_many : (Decided → Bool) → List Decided → ℕ
how_many test [] = 0
how_many test (t ∷ ts) = if test t then how_many test ts + 1 else how_many test ts

-- a running period of the session begins or ends here
abbrev pub is_bound : ℕ → Decided → Bool
is_bound session t = acts is_begin_session session t || acts is_end_session session t

-- what was decided since a running period of the session began or ended last
abbrev pub period : ℕ → List Decided → List Decided
period session [] = []
period session (t ∷ ts) = if is_bound session t then [] else t ∷ period session ts

-- the successful waits and begins of the current running period
abbrev pub waits : ℕ → List Decided → ℕ
waits session past = how_many (acts is_wait_frame session) (period session past)

abbrev pub begins : ℕ → List Decided → ℕ
begins session past = how_many (acts is_begin_frame session) (period session past)

-- a successful begin stands after the last successful end
abbrev pub is_begun : ℕ → List Decided → Bool
is_begun session [] = false
is_begun session (t ∷ ts) = if acts is_begin_frame session t then true else if acts is_end_frame session t then false else is_begun session ts

-- ---- images of a swapchain

abbrev pub is_acquire_image : Call → Bool
is_acquire_image (ask.AcquireImage chain) = true
is_acquire_image _ = false

abbrev pub is_wait_image : Call → Bool
is_wait_image (ask.WaitImage chain timeout start) = true
is_wait_image _ = false

abbrev pub is_release_image : Call → Bool
is_release_image (ask.ReleaseImage chain) = true
is_release_image _ = false

-- the swapchain that such a call is made on
abbrev pub asked_chain : Call → ℕ
asked_chain (ask.AcquireImage chain) = chain
asked_chain (ask.WaitImage chain timeout start) = chain
asked_chain (ask.ReleaseImage chain) = chain
asked_chain _ = 0

-- a successful call of this sort on the swapchain
abbrev pub acts_on : (Call → Bool) → ℕ → Decided → Bool
acts_on sort chain t = sort t.call && (t.is_done && (asked_chain t.call == chain))

abbrev pub on_chain : (Call → Bool) → ℕ → List Decided → ℕ
on_chain sort chain past = how_many (acts_on sort chain) past

abbrev pub acquires : ℕ → List Decided → ℕ
acquires chain past = on_chain is_acquire_image chain past

abbrev pub image_waits : ℕ → List Decided → ℕ
image_waits chain past = on_chain is_wait_image chain past

abbrev pub releases : ℕ → List Decided → ℕ
releases chain past = on_chain is_release_image chain past

-- the swapchain was created as a static one
abbrev pub is_static_creation : Call → Bool
is_static_creation (ask.CreateSwapchain session format width height fixed) = fixed
is_static_creation _ = false

abbrev pub creates_static : ℕ → Decided → Bool
creates_static chain t = is_static_creation t.call && (t.is_done && (t.given == chain))

abbrev pub is_static_chain : ℕ → List Decided → Bool
is_static_chain chain past = list_any (creates_static chain) past

-- ---- images of the frames that were taken

abbrev pub is_image_done : Call → Bool
is_image_done ask.ImageDone = true
is_image_done _ = false

-- how many images the frames had that were taken
abbrev pub taken_images : List Decided → ℕ
taken_images [] = 0
taken_images (t ∷ ts) = length t.did.taken + taken_images ts

-- how many of them were given back
abbrev pub given_back : List Decided → ℕ
given_back past = how_many (λ t. is_image_done t.call && t.is_done) past

-- ---- order

-- a call that is out of order after this past
abbrev pub is_disorder : List Decided → Call → Bool
is_disorder past (ask.BeginFrame session) = waits session past == begins session past
is_disorder past (ask.EndFrame session time blend layers) = not (is_begun session (period session past))
is_disorder past (ask.AcquireImage chain) = if is_static_chain chain past then not (acquires chain past == 0) else acquires chain past - releases chain past == 3
is_disorder past (ask.WaitImage chain timeout start) = (acquires chain past == image_waits chain past) || nat_lt (releases chain past) (image_waits chain past)
is_disorder past (ask.Paint chain stamp) = image_waits chain past == releases chain past
is_disorder past (ask.ReleaseImage chain) = image_waits chain past == releases chain past
is_disorder past ask.NextFrame = nat_lt (given_back past) (taken_images past)
is_disorder past ask.ImageDone = given_back past == taken_images past
is_disorder past _ = false
