-- What the loop keeps in the compositor's turn.
use Rattle.std.proofs.Common.{◌≡◌, ◌+◌, ◌<◌, ℕ, Bool, true, false, List, [], ◌∷◌, ◌++◌, length, get_or, length-append, Option, Some, None, refl, sym, ap, subst, ◌∙◌, arith, append_assoc, append-nil, true≢false}
use Rattle.std.specs.Prelude.{if◌then◌else◌, is_some, drop, not}
use Rattle.xr_types.specs.declared.calls.Actor.TheVariants.{Compositor, Device}
use Rattle.xr_types.specs.declared.calls.Actor.{Actor}
use Rattle.xr_types.specs.declared.device.DeviceEvent.{DeviceEvent}
use Rattle.xr_types.specs.declared.calls.Gives.TheVariants.{Ended, Nothing, Shown}
use Rattle.xr_types.specs.declared.code.Code.TheVariants.{Success}
use Rattle.xr_types.specs.declared.calls.Reply.{Reply}
use Rattle.xr_types.specs.declared.scenario.Scenario.{Scenario}
use Rattle.xr_types.specs.Frames.{PendingFrame}
use Rattle.xr_types.specs.declared.frames.Shown as frames
use Rattle.xr_model.specs.machine.Calls.{Outcome, Exchange}
use Rattle.xr_types.specs.declared.calls.Call.TheVariants as ask
use Rattle.xr_model.specs.machine.CoreCalls.{entry_of}
use Rattle.xr_model.specs.machine.Frames.{is_empty}
use Rattle.xr_model.specs.machine.History.{shown_if}
use Rattle.xr_model.specs.machine.Images.{first_images}
use Rattle.xr_types.specs.declared.frames.Image.{Image}
use Rattle.xr_model.specs.machine.Machine.{reads_of, step}
use Rattle.xr_model.specs.machine.State.{CoreState, State}
use Rattle.xr_model.specs.machine.Rules.Frames.{told_frame, oldest_shown}
use Rattle.xr_model.specs.runs.Robin.{compositor, next_call, is_ended}
use Rattle.xr_model.specs.runs.Lists.{frames_in, reply_if_shown, replies_in}
use Rattle.xr_serial.specs.inside.Made.{IsAnswered, calls_with}
use Rattle.xr_serial.specs.inside.RunState.{CompositorState, RunState}
use Rattle.xr_device.specs.Prospect.{Prospect}
use Rattle.xr_serial.specs.inside.Sides.{compositor_with, FrameMade, FrameWaits, FrameTurn, ImageReturned}
use Rattle.xr_serial.specs.inside.Turns.{compositor_part, parts_of, actors_of, turn_behind, AreHeldBack}
use Rattle.xr_serial.specs.inside.RunInvariant.{EndKept, CompositorKept, end_work, frames_work, shown_work, events_told, trace_of, RunInvariant}
use Rattle.xr_serial.specs.inside.PastOfRun.{Standing}
use Rattle.xr_serial.proofs.OnlyLeaveLeaves.{call_keeps}
use Rattle.xr_serial.proofs.ActorParts.{AreAll, compositor_at, compositor_set}
use Rattle.xr_serial.proofs.Steps.{Goes, trace_behind, made_turn, same_parts}
use Rattle.xr_serial.proofs.KeptApplications.{others_more}
use Rattle.xr_serial.proofs.AppTurns.{all_of, are_so, passes}
use Rattle.xr_runs.specs.Sides.{exchange_of, AllGoOn}
use Rattle.xr_runs.specs.Runs.{GoesOn, a_frame, an_image}

-- ---- what its calls come to

abbrev whole : CoreState → List ℕ → List Image → State
whole k stamps held = record { core = k; cells = record { stamps = stamps; held = held } }

-- It was shown the oldest frame, of which it holds the images from now on, or was told the end where none is pending.
pub data Told (s after : State) (o : Outcome) : Type 0 where
  shows : (frame : frames.Shown) → o.shown ≡ Some frame → o.reply.gives ≡ Shown → shown_work after + 1 ≡ shown_work s → Told s after o
  ends : o.shown ≡ None → o.reply.gives ≡ Ended → shown_work after ≡ shown_work s → Told s after o

-- where no image is held its call isn't refused
goes_so : (k : CoreState) (stamps : List ℕ) (reply : Reply) (held : List Image) → held ≡ []
    → ((step (whole k stamps held) (entry_of Compositor ask.NextFrame reply)).1.shown ≡ oldest_shown k.frames.pending (reads_of (whole k stamps held) ask.NextFrame).stamps)
    × ((step (whole k stamps held) (entry_of Compositor ask.NextFrame reply)).1.reply.gives ≡ told_frame k.frames.pending)
    × ((step (whole k stamps held) (entry_of Compositor ask.NextFrame reply)).0.core.frames.pending ≡ drop 1 k.frames.pending)
    × ((step (whole k stamps held) (entry_of Compositor ask.NextFrame reply)).0.cells.held ≡ first_images k.frames.pending ++ [])
goes_so k stamps reply [] unheld = (refl, refl, refl, refl)
goes_so k stamps reply (i ∷ held) unheld = cc

-- the work behind a call, by the frames that are pending and the images that are held then
work_is : (after : State) (fs : List PendingFrame) (images : List Image) → after.core.frames.pending ≡ fs → after.cells.held ≡ images → shown_work after ≡ frames_work fs + length images
work_is after fs images pending held = rw (pending, held) refl

pub told : (s after : State) (o : Outcome) → s.cells.held ≡ [] → IsAnswered s after Compositor ask.NextFrame o → Told s after o
told s after o unheld call =
    let went = goes_so s.core s.cells.stamps o.reply s.cells.held unheld in
    by s.core.frames.pending refl (sym (ap (λ (x : Outcome). x.shown) call.comes) ∙ went.0) (sym (ap (λ (x : Outcome). x.reply.gives) call.comes) ∙ went.1) (ap (λ (t : State). t.core.frames.pending) call.leads ∙ went.2) (ap (λ (t : State). t.cells.held) call.leads ∙ went.3)
  where
    seen : List ℕ
    seen = (reads_of s ask.NextFrame).stamps

    by : (fs : List PendingFrame) → s.core.frames.pending ≡ fs → o.shown ≡ oldest_shown s.core.frames.pending seen → o.reply.gives ≡ told_frame s.core.frames.pending → after.core.frames.pending ≡ drop 1 s.core.frames.pending
        → after.cells.held ≡ first_images s.core.frames.pending ++ [] → Told s after o
    by [] e shown gives left holds =
        let before : shown_work s ≡ 0 + 0 = work_is s [] [] e unheld in
        let behind : shown_work after ≡ 0 + 0 = work_is after [] [] (rw (left, e) refl) (rw (holds, e) refl) in
        ends (shown ∙ ap (λ (l : List PendingFrame). oldest_shown l seen) e) (gives ∙ ap told_frame e) (omega (arith, before, behind))
    by (f ∷ fs) e shown gives left holds =
        let before : shown_work s ≡ frames_work (f ∷ fs) + 0 = work_is s (f ∷ fs) [] e unheld in
        let behind : shown_work after ≡ frames_work fs + length f.images = work_is after fs f.images (rw (left, e) refl) (rw (holds, e) (append-nil f.images)) in
        shows _ (shown ∙ ap (λ (l : List PendingFrame). oldest_shown l seen) e) (gives ∙ ap told_frame e) (omega (arith, before, behind))

-- It gave back an image, which it doesn't hold from now on.
pub record Returned (s after : State) (o : Outcome) : Type 0 where
  pub shown : o.shown ≡ None
  pub good : o.reply.code ≡ Success
  pub gives : o.reply.gives ≡ Nothing
  pub less : shown_work after + 1 ≡ shown_work s

pub returned : (s after : State) (o : Outcome) → is_empty s.cells.held ≡ false → IsAnswered s after Compositor ask.ImageDone o → Returned s after o
returned s after o holds call = by s.core s.cells.stamps s.cells.held holds call.leads call.comes
  where
    by : (k : CoreState) (stamps : List ℕ) (held : List Image) → is_empty held ≡ false → after ≡ (step (whole k stamps held) (entry_of Compositor ask.ImageDone o.reply)).0 → (step (whole k stamps held) (entry_of Compositor ask.ImageDone o.reply)).1 ≡ o → Returned (whole k stamps held) after o
    by k stamps [] holds leads comes = absurd (true≢false holds)
    by k stamps (i ∷ held) holds leads comes = record {
      shown = sym (ap (λ (x : Outcome). x.shown) comes);
      good = sym (ap (λ (x : Outcome). x.reply.code) comes);
      gives = sym (ap (λ (x : Outcome). x.reply.gives) comes);
      less = rw leads (omega arith);
    }

-- the call of one that holds so many images
asks_a_frame : (held : List Image) → held ≡ [] → next_call (compositor (length held)) ≡ ask.NextFrame
asks_a_frame held none = rw none refl

gives_back : (held : List Image) → is_empty held ≡ false → next_call (compositor (length held)) ≡ ask.ImageDone
gives_back [] holds = absurd (true≢false holds)
gives_back (i ∷ held) holds = refl

pub none_held : (held : List Image) → not (is_empty held) ≡ false → held ≡ []
none_held [] none = refl
none_held (i ∷ held) none = absurd (true≢false none)

-- ---- its calls

pub frames_snoc : (calls : List Exchange) (t : Exchange) → frames_in (calls ++ t ∷ []) ≡ frames_in calls ++ shown_if t.outcome.shown
frames_snoc [] t = append-nil (shown_if t.outcome.shown)
frames_snoc (u ∷ calls) t = ap (λ (l : List frames.Shown). shown_if u.outcome.shown ++ l) (frames_snoc calls t) ∙ sym (append_assoc (shown_if u.outcome.shown) (frames_in calls) (shown_if t.outcome.shown))

replies_snoc : (calls : List Exchange) (t : Exchange) → replies_in (calls ++ t ∷ []) ≡ replies_in calls ++ reply_if_shown t.outcome.shown t.outcome.reply
replies_snoc [] t = append-nil (reply_if_shown t.outcome.shown t.outcome.reply)
replies_snoc (u ∷ calls) t =
    ap (λ (l : List Reply). reply_if_shown u.outcome.shown u.outcome.reply ++ l) (replies_snoc calls t)
    ∙ sym (append_assoc (reply_if_shown u.outcome.shown u.outcome.reply) (replies_in calls) (reply_if_shown t.outcome.shown t.outcome.reply))

goes_on_snoc : (calls : List Exchange) (t : Exchange) → AllGoOn calls → GoesOn t → AllGoOn (calls ++ t ∷ [])
goes_on_snoc [] t were goes = (goes, tt)
goes_on_snoc (u ∷ calls) t were goes = (were.0, goes_on_snoc calls t were.1 goes)

-- none of its calls was told the end yet
not_ended : (ended : Option Reply) (calls : List Exchange) → ended ≡ None → EndKept ended calls → AllGoOn calls
not_ended None calls unended kept = kept
not_ended (Some reply) calls unended kept = absurd (true≢false (ap is_some unended))

-- what is kept of them, with one more
module _ (c : CompositorState) (calls : List Exchange) (o : Outcome) (unended : c.ended ≡ None) (kept : CompositorKept c calls) where
  were : AllGoOn calls
  were = not_ended c.ended calls unended kept.end

  -- it goes on behind a call
  end_more : (t : Exchange) → GoesOn t → EndKept c.ended (calls ++ t ∷ [])
  end_more t goes = subst (λ (ended : Option Reply). EndKept ended (calls ++ t ∷ [])) (sym unended) (goes_on_snoc calls t were goes)

  -- no frame is shown by it
  frames_same : (t : Exchange) → t.outcome.shown ≡ None → c.frames ≡ frames_in (calls ++ t ∷ [])
  frames_same t shown = sym (frames_snoc calls t ∙ ap (λ (x : Option frames.Shown). frames_in calls ++ shown_if x) shown ∙ append-nil (frames_in calls) ∙ sym kept.frames_are)

  replies_same : (t : Exchange) → t.outcome.shown ≡ None → c.replies ≡ replies_in (calls ++ t ∷ [])
  replies_same t shown = sym (replies_snoc calls t ∙ ap (λ (x : Option frames.Shown). replies_in calls ++ reply_if_shown x t.outcome.reply) shown ∙ append-nil (replies_in calls) ∙ sym kept.replies_are)

  with_frame : (frame : frames.Shown) → o.shown ≡ Some frame → o.reply.gives ≡ Shown → CompositorKept (compositor_with c o.reply (Some frame)) (calls ++ exchange_of ask.NextFrame o ∷ [])
  with_frame frame shown gives =
      let t : Exchange = exchange_of ask.NextFrame o in
      record {
        frames_are = sym (frames_snoc calls t ∙ ap (λ (x : Option frames.Shown). frames_in calls ++ shown_if x) shown ∙ ap (λ (l : List frames.Shown). l ++ frame ∷ []) (sym kept.frames_are));
        replies_are = sym (replies_snoc calls t ∙ ap (λ (x : Option frames.Shown). replies_in calls ++ reply_if_shown x o.reply) shown ∙ ap (λ (l : List Reply). l ++ o.reply ∷ []) (sym kept.replies_are));
        end = end_more t (a_frame refl gives);
      }

  with_end : o.shown ≡ None → o.reply.gives ≡ Ended → CompositorKept (compositor_with c o.reply None) (calls ++ exchange_of ask.NextFrame o ∷ [])
  with_end shown gives = record {
    frames_are = frames_same (exchange_of ask.NextFrame o) shown;
    replies_are = replies_same (exchange_of ask.NextFrame o) shown;
    end = (calls, o, refl, were, refl, gives);
  }

  kept_more : (s after : State) → Told s after o → CompositorKept (compositor_with c o.reply o.shown) (calls ++ exchange_of ask.NextFrame o ∷ [])
  kept_more s after (shows frame shown gives fewer) = subst (λ (x : Option frames.Shown). CompositorKept (compositor_with c o.reply x) (calls ++ exchange_of ask.NextFrame o ∷ [])) (sym shown) (with_frame frame shown gives)
  kept_more s after (ends shown gives same) = subst (λ (x : Option frames.Shown). CompositorKept (compositor_with c o.reply x) (calls ++ exchange_of ask.NextFrame o ∷ [])) (sym shown) (with_end shown gives)

  with_image : (done : List ℕ) → o.shown ≡ None → o.reply.code ≡ Success → o.reply.gives ≡ Nothing → CompositorKept (record c { done = done }) (calls ++ exchange_of ask.ImageDone o ∷ [])
  with_image done shown good gives = record {
    frames_are = frames_same (exchange_of ask.ImageDone o) shown;
    replies_are = replies_same (exchange_of ask.ImageDone o) shown;
    end = end_more (exchange_of ask.ImageDone o) (an_image refl good gives);
  }

-- a frame, or the end, is no image given back
same_done : (c : CompositorState) (reply : Reply) (shown : Option frames.Shown) → (compositor_with c reply shown).done ≡ c.done
same_done c reply None = refl
same_done c reply (Some frame) = refl

-- what is left of it, where so many images are held
part_more : (s after : State) (c : CompositorState) (o : Outcome) (held : ℕ) → c.ended ≡ None → Told s after o → (if is_ended o.reply.gives then [] else compositor held ∷ []) ≡ compositor_part (compositor_with c o.reply o.shown).ended held
part_more s after c o held unended (shows frame shown gives fewer) = rw (gives, shown, unended) refl
part_more s after c o held unended (ends shown gives same) = rw (gives, shown) refl

-- the work that is left
work_more : (s after : State) (c : CompositorState) (o : Outcome) → c.ended ≡ None → Told s after o
    → end_work (compositor_with c o.reply o.shown).ended + shown_work after + 1 ≡ end_work c.ended + shown_work s
work_more s after c o unended (shows frame shown gives fewer) = rw (shown, unended) (omega (arith, fewer))
work_more s after c o unended (ends shown gives same) = rw (shown, unended) (omega (arith, same))

ended_part : (ended : Option Reply) (held : ℕ) → is_some ended ≡ true → compositor_part ended held ≡ []
ended_part None held told = absurd (true≢false (sym told))
ended_part (Some reply) held told = refl

-- ---- its turn

module _ (scenario : Scenario) (idle : ℕ) (s after : State) (run : RunState) (start now : Prospect) (few : idle < actors_of scenario) where
  abbrev last : ℕ
  last = length scenario.scripts + 1

  last_within : last < actors_of scenario
  last_within = omega arith

  -- where it goes on, it stands by the images that it holds
  alone : (rest : List DeviceEvent) → AreAll scenario run → run.compositor.ended ≡ None → get_or (parts_of scenario s run rest) last [] ≡ compositor (length s.cells.held) ∷ []
  alone rest all unended = compositor_at scenario s run rest all ∙ ap (λ (ended : Option Reply). compositor_part ended (length s.cells.held)) unended

  -- its call moves no application's clock
  frame_trace : (calls : Actor → List Exchange) (o : Outcome) → trace_behind s after (trace_of run calls) Compositor ask.NextFrame o
      ≡ trace_of (record run { compositor = compositor_with run.compositor o.reply o.shown }) (calls_with calls Compositor (exchange_of ask.NextFrame o))
  frame_trace calls o = rw (append-nil run.compositor.done, same_done run.compositor o.reply o.shown) refl

  frame_made : (c : CompositorState) → run.compositor.ended ≡ None → FrameMade run.compositor c s after → RunInvariant scenario last idle s run start now
      → RunInvariant scenario (turn_behind last (actors_of scenario)) 0 after (record run { compositor = c }) start now
  frame_made c unended m kept =
      let t : Exchange = exchange_of ask.NextFrame m.outcome in
      let new : CompositorState = compositor_with run.compositor m.outcome.reply m.outcome.shown in
      let came : Told s after m.outcome = told s after m.outcome m.unheld m.call in
      let all : AreAll scenario run = all_of scenario s run kept.calls start now kept.kept in
      let goes : Goes last (parts_of scenario s run) s after (trace_of run kept.calls) Compositor ask.NextFrame m.outcome = record {
        agenda = λ rest. compositor (length s.cells.held);
        alone = λ rest. alone rest all unended;
        of = λ rest. record { actor = refl; call = asks_a_frame s.cells.held m.unheld };
        starts = tt;
        made = m.call;
      } in
      let work = kept.kept.work in
      let counted = kept.kept.counted in
      let locks : after.core.locked ≡ s.core.locked + 1 = rw m.call.leads refl in
      let spent = work_more s after run.compositor m.outcome unended came in
      let done : length new.done ≡ length run.compositor.done = ap length (same_done run.compositor m.outcome.reply m.outcome.shown) in
      rw m.compositor (record {
        calls = calls_with kept.calls Compositor t;
        standing =
            subst (Standing scenario (turn_behind last (actors_of scenario)) 0 after run.side.over (events_told run.side (kept.calls Device)) (parts_of scenario after (record run { compositor = new }))) (frame_trace kept.calls m.outcome)
            (same_parts scenario (turn_behind last (actors_of scenario)) 0 after after run.side.over (events_told run.side (kept.calls Device)) _ (trace_behind s after (trace_of run kept.calls) Compositor ask.NextFrame m.outcome)
            (parts_of scenario after (record run { compositor = new }))
            (λ rest ok. rw (part_more s after run.compositor m.outcome (length after.cells.held) unended came) (compositor_set scenario s run rest all after new))
            (made_turn scenario last idle s after run.side.over (events_told run.side (kept.calls Device)) (parts_of scenario s run) (actors_of scenario) (trace_of run kept.calls) Compositor ask.NextFrame m.outcome
            (are_so scenario last idle s run all last_within few) goes kept.standing));
        kept = record {
          apps = others_more scenario.scripts s after run.apps kept.calls (calls_with kept.calls Compositor t) kept.kept.apps (rw m.call.leads refl) (rw m.call.leads (call_keeps s (entry_of Compositor ask.NextFrame m.outcome.reply) tt)) (λ place. refl);
          device = kept.kept.device;
          compositor = kept_more run.compositor (kept.calls Compositor) m.outcome unended kept.kept.compositor s after came;
          counted = omega (arith, counted, locks);
          work = omega (arith, work, locks, spent, done);
        };
      })

  -- it gives back an image
  pub image_returned : (c : CompositorState) → run.compositor.ended ≡ None → ImageReturned run.compositor c s after → RunInvariant scenario last idle s run start now
      → RunInvariant scenario (turn_behind last (actors_of scenario)) 0 after (record run { compositor = c }) start now
  image_returned c unended m kept =
      let t : Exchange = exchange_of ask.ImageDone m.outcome in
      let new : CompositorState = record run.compositor { done = run.compositor.done ++ s.core.locked ∷ [] } in
      let came : Returned s after m.outcome = returned s after m.outcome m.holds m.call in
      let all : AreAll scenario run = all_of scenario s run kept.calls start now kept.kept in
      let goes : Goes last (parts_of scenario s run) s after (trace_of run kept.calls) Compositor ask.ImageDone m.outcome = record {
        agenda = λ rest. compositor (length s.cells.held);
        alone = λ rest. alone rest all unended;
        of = λ rest. record { actor = refl; call = gives_back s.cells.held m.holds };
        starts = tt;
        made = m.call;
      } in
      let work = kept.kept.work in
      let counted = kept.kept.counted in
      let locks : after.core.locked ≡ s.core.locked = rw m.call.leads refl in
      let less = came.less in
      let done : length new.done ≡ length run.compositor.done + 1 = length-append run.compositor.done (s.core.locked ∷ []) in
      rw m.compositor (record {
        calls = calls_with kept.calls Compositor t;
        standing =
            same_parts scenario (turn_behind last (actors_of scenario)) 0 after after run.side.over (events_told run.side (kept.calls Device)) _ (trace_of (record run { compositor = new }) (calls_with kept.calls Compositor t))
            (parts_of scenario after (record run { compositor = new }))
            (λ rest ok. rw (came.gives, ← ap (λ (ended : Option Reply). compositor_part ended (length after.cells.held)) unended) (compositor_set scenario s run rest all after new))
            (made_turn scenario last idle s after run.side.over (events_told run.side (kept.calls Device)) (parts_of scenario s run) (actors_of scenario) (trace_of run kept.calls) Compositor ask.ImageDone m.outcome
            (are_so scenario last idle s run all last_within few) goes kept.standing);
        kept = record {
          apps = others_more scenario.scripts s after run.apps kept.calls (calls_with kept.calls Compositor t) kept.kept.apps (rw m.call.leads refl) (rw m.call.leads (call_keeps s (entry_of Compositor ask.ImageDone m.outcome.reply) tt)) (λ place. refl);
          device = kept.kept.device;
          compositor = with_image run.compositor (kept.calls Compositor) m.outcome unended kept.kept.compositor new.done came.shown came.good came.gives;
          counted = omega (arith, counted, locks);
          work = omega (arith, work, locks, less, done);
        };
      })

  frame_waits : (c : CompositorState) → run.compositor.ended ≡ None → FrameWaits run.compositor c s after → RunInvariant scenario last idle s run start now
      → RunInvariant scenario (turn_behind last (actors_of scenario)) (idle + 1) after (record run { compositor = c }) start now
  frame_waits c unended m kept =
      let all : AreAll scenario run = all_of scenario s run kept.calls start now kept.kept in
      rw (m.same, m.compositor)
      (passes scenario last idle s run start now last_within few kept
      (λ rest ok. subst (AreHeldBack s) (sym (alone rest all unended)) (rw (asks_a_frame s.cells.held m.unheld) m.waits, tt)))

  -- it was told the end
  pub end_over : is_some run.compositor.ended ≡ true → RunInvariant scenario last idle s run start now → RunInvariant scenario (turn_behind last (actors_of scenario)) (idle + 1) s run start now
  end_over told kept =
      let all : AreAll scenario run = all_of scenario s run kept.calls start now kept.kept in
      passes scenario last idle s run start now last_within few kept
      (λ rest ok. subst (AreHeldBack s) (sym (compositor_at scenario s run rest all ∙ ended_part run.compositor.ended (length s.cells.held) told)) tt)

  pub frame_turn : (c : CompositorState) (went : Bool) → run.compositor.ended ≡ None → FrameTurn run.compositor c s after went → RunInvariant scenario last idle s run start now
      → RunInvariant scenario (turn_behind last (actors_of scenario)) (if went then 0 else idle + 1) after (record run { compositor = c }) start now
  frame_turn c true unended m kept = frame_made c unended m kept
  frame_turn c false unended m kept = frame_waits c unended m kept
