-- How much of a lent buffer a call has written, by what its reply gives.
use Rattle.std.proofs.Common.{◌≡◌, ℕ, Bool, List, [], ◌∷◌, ◌++◌, length, take, drop, Option, refl, sym, subst, ◌∙◌, ap, arith}
use Rattle.std.proofs.lemmas.Grind.{common_steps}
use Rattle.xr_types.specs.declared.calls.Actor.{Actor}
use Rattle.xr_types.specs.declared.calls.Reply.{Reply}
use Rattle.xr_model.specs.machine.Calls.{Entry, Outcome}
use Rattle.xr_types.specs.declared.calls.Call.{Call}
use Rattle.xr_types.specs.declared.calls.Call.TheVariants as ask
use Rattle.xr_types.specs.declared.frames.Image.{Image}
use Rattle.xr_model.specs.machine.CoreCalls.{entry_of, Lent, AnswersBy, written_over, shown_over}
use Rattle.xr_model.specs.machine.State.{CoreState, State}
use Rattle.xr_model.specs.machine.Rule.{carried_out}
use Rattle.xr_types.specs.Frames.{PendingFrame}
use Rattle.xr_types.specs.declared.frames.Shown.{Shown}
use Rattle.xr_model.specs.machine.Rules.Frames.{told_frame, oldest_shown, next_frame_rule}
use Rattle.xr_model.specs.machine.Machine.{reads_of, step, ready, IsAllowed}
use Rattle.xr_types.specs.CallKinds.{lent_size, written_size}
use Rattle.xr_serial.specs.inside.Made.{IsAnswered, frame_told, frame_shown}
use Rattle.xr_runs.proofs.CallTexts.{text_fits, shows_none}

-- whether a call is ready is decided by neither a handle nor want of memory
pub ready_any : (s : State) (who : Actor) (what : Call) (g h : ℕ) (a b : Bool) → ready s (record { actor = who; call = what; given = g; short = a }) ≡ ready s (record { actor = who; call = what; given = h; short = b })
ready_any s who (ask.CreateInstance major minor) g h a b = refl
ready_any s who _ g h a b = refl

-- the front of bytes with others behind them
pub front_of : (bytes rest : List ℕ) (n : ℕ) → length bytes ≡ n → take n (bytes ++ rest) ≡ bytes
front_of bytes rest n e = subst (λ (m : ℕ). take m (bytes ++ rest) ≡ bytes) e (grind (arith, common_steps))

-- the front of a buffer that was written over
pub front_of-written : (bytes buffer : List ℕ) (n : ℕ) → length bytes ≡ n → take n (written_over bytes buffer) ≡ bytes
front_of-written bytes buffer n e = front_of bytes (drop (length bytes) buffer) n e

-- ---- the frame that a call shows

-- which shows the oldest that is pending
oldest : (frame : Shown) (stamps : List ℕ) (fs : List PendingFrame) → frame_told (told_frame fs) (shown_over (oldest_shown fs stamps) frame) ≡ oldest_shown fs stamps
oldest frame stamps [] = refl
oldest frame stamps (f ∷ fs) = refl

-- or is refused, and shows none
next_left : (s : CoreState) (short : Bool) (frame : Shown) (unused : Bool) (stamps : List ℕ) (held : List Image)
    → let x = carried_out s short (next_frame_rule s (record { unused = unused; stamps = stamps; held = held })) in frame_told x.gives (shown_over x.shown frame) ≡ x.shown
next_left s short frame unused stamps [] = oldest frame stamps s.frames.pending
next_left s short frame unused stamps (i ∷ held) = refl

-- what is left in the place of a frame is what was shown
pub frame_left : (s : State) (e : Entry) (frame : Shown) → frame_shown e.call (step s e).1.reply.gives (shown_over (step s e).1.shown frame) ≡ (step s e).1.shown
frame_left s e frame = by e.call
  where
    entry : Call → Entry
    entry r = record e { call = r }

    by : (r : Call) → frame_shown r (step s (entry r)).1.reply.gives (shown_over (step s (entry r)).1.shown frame) ≡ (step s (entry r)).1.shown
    by ask.NextFrame = let reads = reads_of s ask.NextFrame in next_left s.core e.short frame reads.unused reads.stamps reads.held
    by (ask.CreateInstance major minor) = sym (shows_none s (entry (ask.CreateInstance major minor)) tt)
    by r = sym (shows_none s (entry r) tt)

-- ---- what the core answered

same_outcome : (o : Outcome) (answer : Reply) (bytes : List ℕ) (shown : Option Shown) → answer ≡ o.reply → bytes ≡ o.text → shown ≡ o.shown → o ≡ record { reply = answer; text = bytes; shown = shown }
same_outcome o answer bytes shown e f g = rw (e, f, g) refl

-- It is a call that was made, with the bytes at the front of its buffer and the frame in its place.
pub made_of : (old new : State) (who : Actor) (what : Call) (answer : Reply) (before written : Lent) (bytes : List ℕ) (n : ℕ) → AnswersBy (IsAllowed old (entry_of who what answer)) (ready old (entry_of who what answer)) (step old (entry_of who what answer)) new answer before written
    → n ≡ written_size answer.gives (lent_size what) → bytes ≡ take n written.text
    → IsAnswered old new who what (record { reply = answer; text = bytes; shown = frame_shown what answer.gives written.frame })
made_of old new who what answer before written bytes n a size front =
    let led : Outcome = (step old (entry_of who what answer)).1 in
    let fits : length led.text ≡ n = text_fits old (entry_of who what answer) ∙ ap (λ (r : Reply). written_size r.gives (lent_size what)) (sym a.replies) ∙ sym size in
    let same : bytes ≡ led.text = front ∙ rw a.writes (front_of-written led.text before.text n fits) in
    let shown : frame_shown what answer.gives written.frame ≡ led.shown =
    ap (λ (l : Lent). frame_shown what answer.gives l.frame) a.writes ∙ ap (λ (r : Reply). frame_shown what r.gives (shown_over led.shown before.frame)) a.replies ∙ frame_left old (entry_of who what answer) before.frame in
    record { allowed = a.allowed; is_ready = a.is_ready; leads = a.leads; comes = same_outcome led answer bytes (frame_shown what answer.gives written.frame) a.replies same shown }
