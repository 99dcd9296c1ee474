-- A call is a rule, and this is how every rule is carried out.
use Rattle.std.specs.Prelude.{ℕ, ◌+◌, ◌&&◌, Bool, true, false, List, [], ◌∷◌, ◌++◌, Option, Some, None, if◌then◌else◌}
use Rattle.xr_types.specs.declared.calls.Actor.{Actor}
use Rattle.xr_types.specs.declared.calls.Actor.TheVariants.{App, Compositor, Device}
use Rattle.xr_types.specs.declared.code.Code.{Code}
use Rattle.xr_types.specs.declared.code.Code.TheVariants.{Success, CallOrderInvalid, OutOfMemory}
use Rattle.xr_types.specs.declared.calls.Gives.{Gives}
use Rattle.xr_types.specs.declared.calls.Gives.TheVariants.{Nothing}
use Rattle.xr_types.specs.declared.frames.Image.{Image}
use Rattle.xr_types.specs.declared.handles.Kind.{Kind}
use Rattle.xr_types.specs.declared.frames.Shown.{Shown}
use Rattle.xr_model.specs.machine.Images.{Stamped}
use Rattle.xr_types.specs.CallKinds.{is_getter, is_locked, publishes}
use Rattle.xr_model.specs.machine.Calls.{Outcome}
use Rattle.xr_types.specs.declared.calls.Call.{Call}
use Rattle.xr_model.specs.machine.Refusals.{Refusal, when, first_of}
use Rattle.xr_model.specs.machine.SessionRule.{Loss, code_on, losses}
use Rattle.xr_model.specs.machine.State.{CoreState}

-- ---- what a call does

-- What a call did beside changing what the core keeps: the handles that went, with all below them; the images that a new frame
-- uses, that an application got, that it no longer has, and that got a stamp; and the images that the compositor took, and that
-- it gave back.
pub record Did : Type 0 where
  pub destroyed : List ℕ
  pub used : List Image
  pub claimed : List Image
  pub freed : List Image
  pub stamped : List Stamped
  pub taken : List Image
  pub returned : List Image

abbrev pub nothing_done : Did
nothing_done = record { destroyed = []; used = []; claimed = []; freed = []; stamped = []; taken = []; returned = [] }

-- The effect of a call: what the core keeps after it, its code, what it gives, the bytes that go to the
-- front of the lent buffer, the frame that it shows, and what it did.
pub record Effect : Type 0 where
  pub state : CoreState
  pub code : Code
  pub gives : Gives
  pub text : List ℕ
  pub shown : Option Shown
  pub did : Did

-- a success that gives a value and writes no text
abbrev pub done : CoreState → Gives → Effect
done s value = record { state = s; code = Success; gives = value; text = []; shown = None; did = nothing_done }

-- a success that also puts bytes into the lent buffer
abbrev pub done_writing : CoreState → Gives → List ℕ → Effect
done_writing s value bytes = record (done s value) { text = bytes }

-- a success that also does this
abbrev pub done_doing : CoreState → Gives → Did → Effect
done_doing s value did = record (done s value) { did = did }

-- a success by which these handles go, and an application no longer has these images
abbrev pub destroying : CoreState → List ℕ → List Image → Effect
destroying s handles images = done_doing s Nothing (record nothing_done { destroyed = handles; freed = images })

-- ---- the rule of a call

-- who makes a call
pub data Caller : Type 0 where
  application : Caller
  compositor : Caller
  device : Caller

abbrev pub is_by : Caller → Actor → Bool
is_by application (App k) = true
is_by compositor Compositor = true
is_by device Device = true
is_by _ _ = false

-- A rule says of a call, in the state that it meets: who makes it; how many bytes it is lent, where
-- it wants a buffer; whether its numbers are ones that it may have; whether it would have to wait, were it not refused; the
-- loss of the session that it is made on, if it is made on one; what refuses it by its handles, before the check of the call
-- order, by that check, and behind it; whether it takes memory, which is asked for last; the kind of the handle that it
-- gives, if it gives one; and its effect where nothing refuses it.
pub record Rule : Type 0 where
  pub caller : Caller
  pub lent : Option ℕ
  pub in_range : Bool
  pub waits : Bool
  pub on : Option Loss
  pub handles : List Refusal
  pub before : List Refusal
  pub disorder : Bool
  pub behind : List Refusal
  pub takes_memory : Bool
  pub creates : Option Kind
  pub effect : Effect

-- A call of an application that nothing refuses and that does nothing. Each rule says what differs.
abbrev pub ordinary : CoreState → Rule
ordinary s = record {
  caller = application;
  lent = None;
  in_range = true;
  waits = false;
  on = None;
  handles = [];
  before = [];
  disorder = false;
  behind = [];
  takes_memory = false;
  creates = None;
  effect = done s Nothing;
}

-- what refuses a call ahead of the check of the call order
abbrev pub ahead : Rule → List Refusal
ahead r = r.handles ++ (losses r.on ++ r.before)

-- all refusals of a rule in their order, but for the want of memory
abbrev pub refusals : Rule → List Refusal
refusals r = r.handles ++ (losses r.on ++ (r.before ++ when r.disorder CallOrderInvalid ∷ r.behind))

-- the want of memory comes behind all refusals
abbrev pub or_short : Bool → Option Refusal → Option Refusal
or_short false found = found
or_short true None = Some (when true OutOfMemory)
or_short true (Some r) = Some r

-- what refuses a call, told whether memory is short
abbrev pub refusal : Bool → Rule → Option Refusal
refusal short r = or_short (r.takes_memory && short) (first_of (refusals r))

-- ---- carrying it out

-- a call on a session tells of its pending loss
abbrev pub told_on : Option Loss → Effect → Effect
told_on None e = e
told_on (Some loss) e = record e { code = code_on loss e.code }

-- a refusal leaves the state as it was
abbrev pub unless_refused : CoreState → Option Refusal → Effect → Effect
unless_refused s None e = e
unless_refused s (Some r) e = record (done s r.gives) { code = r.code }

abbrev pub carried_out : CoreState → Bool → Rule → Effect
carried_out s short r = unless_refused s (refusal short r) (told_on r.on r.effect)

-- The place in the reply: of a locked call the count of locked calls, itself included; of a getter the number of what was
-- published last.
abbrev pub reply_place : CoreState → Call → ℕ
reply_place s what = if is_locked what then s.locked + 1 else (if is_getter what then s.published else 0)

-- how many locked calls were decided after a call, refused or not
abbrev pub locked_after : CoreState → Call → ℕ
locked_after s what = if is_locked what then s.locked + 1 else s.locked

-- the place of the call that published last
abbrev pub published_after : CoreState → Call → Code → ℕ
published_after s what code = if publishes what code then s.locked + 1 else s.published

-- What is kept after a call, and its outcome. No call changes the number of applications.
abbrev pub decided_call : CoreState → Call → Effect → CoreState × Outcome
decided_call s what e = (record e.state { apps = s.apps; locked = locked_after s what; published = published_after s what e.code }, record { reply = record { code = e.code; gives = e.gives; place = reply_place s what }; text = e.text; shown = e.shown })
