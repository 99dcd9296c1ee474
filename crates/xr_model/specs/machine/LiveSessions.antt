-- The live sessions (OpenXR 1.0 chapter 9, "Session"), in the order of their creation, and what their changes tell.
use Rattle.std.specs.Prelude.{ℕ, ◌==◌, not, false, List, [], ◌∷◌, map, Option, Some, None, option_map, unwrap_or, if◌then◌else◌}
use Rattle.std.specs.List.{find, filter}
use Rattle.xr_types.specs.declared.handles.Kind.TheVariants as kind
use Rattle.xr_types.specs.declared.session.Event.TheVariants as event
use Rattle.xr_types.specs.declared.session.SessionState.{SessionState}
use Rattle.xr_types.specs.declared.session.SessionState.TheVariants.{Idle}
use Rattle.xr_types.specs.declared.input.Column.{Column}
use Rattle.xr_model.specs.machine.Handles.{Handles, is_live, is_among}
use Rattle.xr_model.specs.machine.Events.{Queue, pushed}
use Rattle.xr_model.specs.machine.Frames.{FrameLoop, new_loop}
use Rattle.xr_model.specs.machine.SessionLife.{Life, Changed}
use Rattle.xr_model.specs.machine.Sync.{no_columns}

-- Its handle; its ordinal, which is the count of sessions that were created in the run, itself included; its life; its loop of
-- frames; the action sets that it has attached, each once, where it has attached any; and what each action shows in it since its
-- last sync, by the action's place.
pub record Session : Type 0 where
  pub handle : ℕ
  pub ordinal : ℕ
  pub life : Life
  pub frame_loop : FrameLoop
  pub attached : Option (List ℕ)
  pub columns : List (List Column)

-- the session with this handle
abbrev pub session_at : List Session → ℕ → Option Session
session_at xs handle = find (λ x. x.handle == handle) xs

-- its life; where there is none, that of no session, whose refusal comes first
abbrev pub no_life : Life
no_life = record { state = Idle; running = false; exit = false; lost = false }

abbrev pub life_in : Option Session → Life
life_in None = no_life
life_in (Some x) = x.life

-- its loop of frames; where there is none, a new one, which no call gets to see
abbrev pub loop_in : Option Session → FrameLoop
loop_in None = new_loop
loop_in (Some x) = x.frame_loop

abbrev pub with_frame_loop : FrameLoop → Session → Session
with_frame_loop l x = record x { frame_loop = l }

abbrev pub with_life : Life → Session → Session
with_life life x = record x { life = life }

abbrev pub with_attached : List ℕ → Session → Session
with_attached sets x = record x { attached = Some sets }

abbrev pub with_columns : List (List Column) → Session → Session
with_columns columns x = record x { columns = columns }

-- a destroyed set is attached no more
abbrev pub without_sets : List ℕ → Session → Session
without_sets gone x = record x { attached = option_map (filter (λ set. not (is_among gone set))) x.attached }

-- the action sets that it has attached, where it has attached any
abbrev pub attached_in : Option Session → Option (List ℕ)
attached_in None = None
attached_in (Some x) = x.attached

-- what actions show in it; where there is none, what they show in a new one: nothing
abbrev pub shown_in : Option Session → List (List Column)
shown_in o = unwrap_or (option_map (λ x. x.columns) o) no_columns

-- the sessions once that with this handle has changed so
abbrev pub with_session_at : ℕ → (Session → Session) → List Session → List Session
with_session_at handle f [] = []
with_session_at handle f (x ∷ xs) = if x.handle == handle then f x ∷ xs else x ∷ with_session_at handle f xs

-- the sessions once that with this handle lives so
abbrev pub with_life_at : ℕ → Life → List Session → List Session
with_life_at handle life xs = with_session_at handle (with_life life) xs

-- the sessions whose handles are live
abbrev pub still_live : Handles → List Session → List Session
still_live h xs = filter (λ x. is_live h kind.Session x.handle) xs

-- ---- what is told of a session

-- a session's states, one after another
abbrev pub told_states : Queue → ℕ → ℕ → List SessionState → Queue
told_states q ordinal handle [] = q
told_states q ordinal handle (state ∷ states) = told_states (pushed q (event.State ordinal handle state)) ordinal handle states

-- ---- all sessions change

abbrev pub each_changed : (Session → Changed) → List Session → List Session
each_changed f xs = map (λ x. with_life (f x).life x) xs

-- what is told of that, session by session
abbrev pub told_changes : Queue → (Session → Changed) → List Session → Queue
told_changes q f [] = q
told_changes q f (x ∷ xs) = told_changes (told_states q x.ordinal x.handle (f x).through) f xs
