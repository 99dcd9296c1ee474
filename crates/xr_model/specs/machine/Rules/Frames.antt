-- The rules of the calls on frames (OpenXR 1.0 chapter 10).
use Rattle.std.specs.Prelude.{ℕ, ℤ, ◌+◌, ◌&&◌, ◌||◌, Bool, not, List, [], ◌∷◌, ◌++◌, Some, drop, Option, None, if◌then◌else◌}
use Rattle.std.specs.List.{list_all}
use Rattle.xr_types.specs.declared.code.Code.TheVariants.{SessionNotRunning}
use Rattle.xr_types.specs.declared.calls.Gives.{Gives}
use Rattle.xr_types.specs.declared.calls.Gives.TheVariants as gives
use Rattle.xr_types.specs.declared.frames.Blend.{Blend}
use Rattle.xr_types.specs.declared.frames.Image.{Image}
use Rattle.xr_types.specs.declared.frames.Layer.{Layer}
use Rattle.xr_types.specs.declared.device.Wish.TheVariants as wish
use Rattle.xr_types.specs.declared.handles.Kind.TheVariants.{Session, Space, Swapchain}
use Rattle.xr_types.specs.declared.session.FrameState.{FrameState}
use Rattle.xr_types.specs.declared.session.SessionState.TheVariants.{Visible, Focused}
use Rattle.xr_types.specs.Frames.{PendingFrame}
use Rattle.xr_types.specs.declared.frames.Shown.{Shown}
use Rattle.xr_model.specs.machine.Chains.{Chain, info_at, is_place_used, left_in_places}
use Rattle.xr_model.specs.machine.Frames.{waited_loop, begun_loop, begun_code, ended_loop, predicted_time, is_frame_held_back, is_empty}
use Rattle.xr_model.specs.machine.Handles.{Handles, no_handle}
use Rattle.xr_model.specs.machine.HandlePlaces.{is_below}
use Rattle.xr_model.specs.machine.Images.{first_images, with_images_of, shown_of}
use Rattle.xr_model.specs.machine.Layers.{Look, frame_checks, layers_of}
use Rattle.xr_model.specs.machine.LiveSessions.{session_at}
use Rattle.xr_model.specs.machine.Refusals.{Refusal, when}
use Rattle.xr_model.specs.machine.SessionLife.{Life, is_state, synced_session}
use Rattle.xr_model.specs.machine.SessionRule.{loss_of}
use Rattle.xr_model.specs.machine.State.{CoreState, CellReads}
use Rattle.xr_model.specs.machine.Rule.{Rule, compositor, ordinary, done, done_doing, nothing_done}
use Rattle.xr_model.specs.machine.Rules.Session.{life_of, loop_of, with_change, with_loop}

-- ---- the loop of a session

-- a frame belongs to a running period
abbrev pub not_running : Life → Refusal
not_running life = when (not life.running) SessionNotRunning

abbrev pub next_time : CoreState → ℕ → ℤ
next_time s session = predicted_time (loop_of s session).predicted s.device.clock s.device.base s.device.period

-- what a wait gives: the time of the frame, the period, and whether it is worth while to render
abbrev pub frame_state : CoreState → ℕ → FrameState
frame_state s session = record {
  time = next_time s session;
  period = s.device.period;
  render = is_state (life_of s session).state Visible || is_state (life_of s session).state Focused;
}

-- xrWaitFrame: it waits while a frame is waited for, and while as many are pending or begun as may be
abbrev pub wait_frame_rule : CoreState → ℕ → Rule
wait_frame_rule s session = record (ordinary s) {
  waits = is_frame_held_back s.frames (loop_of s session);
  on = Some (loss_of (life_of s session));
  handles = no_handle s.handles Session session ∷ [];
  before = not_running (life_of s session) ∷ [];
  effect = done (with_loop s session (waited_loop (loop_of s session) (next_time s session))) (gives.Frame (frame_state s session));
}

-- xrBeginFrame: of the frame that was waited for
abbrev pub begin_frame_rule : CoreState → ℕ → Rule
begin_frame_rule s session = record (ordinary s) {
  on = Some (loss_of (life_of s session));
  handles = no_handle s.handles Session session ∷ [];
  before = not_running (life_of s session) ∷ [];
  disorder = not (loop_of s session).has_waited;
  effect = record (done (with_loop s session (begun_loop (loop_of s session))) gives.Nothing) { code = begun_code (loop_of s session) };
}

-- ---- frames that are submitted

-- what a frame of a session is checked against: the live spaces and swapchains of that session
abbrev pub look_of : CoreState → ℕ → Look
look_of s session = record {
  space = λ space. is_below s.handles Space session space;
  chain = λ chain. if is_below s.handles Swapchain session chain then info_at s.chains chain else None;
}

-- the next frame, of this session: its layers by the images that were released last, and these images, each once
abbrev pub new_frame : CoreState → ℕ → ℤ → List Layer → PendingFrame
new_frame s session time layers =
    record { number = s.ended + 1; time = time; layers = layers_of (look_of s session) layers; images = with_images_of [] (layers_of (look_of s session) layers) }

-- a frame is pending from now on; the first one of a period synchronizes its session
abbrev pub with_frame : CoreState → ℕ → PendingFrame → CoreState
with_frame s session frame = record (with_change (with_loop s session (ended_loop (loop_of s session))) (session_at s.sessions session) (synced_session wish.Ready)) {
  frames = record { pending = s.frames.pending ++ frame ∷ [] };
  ended = s.ended + 1;
}

-- xrEndFrame: of the frame that was begun. It uses its images from now on.
abbrev pub end_frame_rule : CoreState → ℕ → ℤ → Blend → List Layer → Rule
end_frame_rule s session time mode layers = record (ordinary s) {
  on = Some (loss_of (life_of s session));
  handles = no_handle s.handles Session session ∷ [];
  before = not_running (life_of s session) ∷ [];
  disorder = not (loop_of s session).has_begun;
  behind = frame_checks (look_of s session) time mode layers;
  effect = done_doing (with_frame s session (new_frame s session time layers)) gives.Nothing (record nothing_done { used = (new_frame s session time layers).images });
}

-- ---- frames that are shown

-- what the compositor is told where these frames are pending: that it was shown a frame, or the end
abbrev pub told_frame : List PendingFrame → Gives
told_frame [] = gives.Ended
told_frame (f ∷ fs) = gives.Shown

-- the oldest of these frames as it is shown, told the stamps of its images
abbrev pub oldest_shown : List PendingFrame → List ℕ → Option Shown
oldest_shown [] stamps = None
oldest_shown (f ∷ fs) stamps = Some (shown_of f stamps)

-- the swapchains once the oldest of these frames is taken: a place that a destroyed chain kept is free where neither that frame
-- nor another one uses it
abbrev pub chains_behind : Handles → List PendingFrame → List Chain → List Chain
chains_behind h [] chains = chains
chains_behind h (f ∷ fs) chains = left_in_places h (is_place_used fs f.images) 0 chains

-- the images of the frame taken last, once the oldest of these is taken
abbrev pub shown_behind : List PendingFrame → List Image → List Image
shown_behind [] images = images
shown_behind (f ∷ fs) images = f.images

-- the oldest pending frame is taken, where one is
abbrev pub with_frame_taken : CoreState → CoreState
with_frame_taken s = record s {
  frames = record s.frames { pending = drop 1 s.frames.pending };
  chains = chains_behind s.handles s.frames.pending s.chains;
  shown_images = shown_behind s.frames.pending s.shown_images;
}

-- no frame is pending, and some application hasn't left
abbrev pub is_frame_awaited : CoreState → Bool
is_frame_awaited s = is_empty s.frames.pending && not (list_all (λ has_left. has_left) s.left)

-- The compositor asks for a frame, once it has given back all images of the last one, and is shown the oldest one that is
-- pending. It waits while there is none and an application is there; where all have left it is told the end.
abbrev pub next_frame_rule : CoreState → CellReads → Rule
next_frame_rule s reads = record (ordinary s) {
  caller = compositor;
  waits = is_frame_awaited s;
  disorder = not (is_empty reads.held);
  effect = record (done_doing (with_frame_taken s) (told_frame s.frames.pending) (record nothing_done { taken = first_images s.frames.pending })) { shown = oldest_shown s.frames.pending reads.stamps };
}
