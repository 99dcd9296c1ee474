-- How the end of a frame is decided beside cells.
use Rattle.std.proofs.Common.{◌≡◌, ◌+◌, ◌++◌, not, true, [], ◌∷◌, ℕ, ℤ, List, append-nil, None, refl, ap}
use Rattle.std.specs.Prelude.{Ok, Err}
use Rattle.xr_types.specs.declared.calls.Gives.TheVariants.{Nothing}
use Rattle.xr_types.specs.declared.code.Code.{Code}
use Rattle.xr_types.specs.declared.code.Code.TheVariants.{Success, CallOrderInvalid}
use Rattle.xr_types.specs.declared.frames.Blend.{Blend}
use Rattle.xr_types.specs.declared.frames.Layer.{Layer}
use Rattle.xr_model.specs.machine.CellCalls.{CellCall, pin_calls, MayCall, Leads}
use Rattle.xr_model.specs.machine.Refusals.{when, first_of}
use Rattle.xr_model.specs.machine.Frames.{ended_loop}
use Rattle.xr_model.specs.machine.Handles.{is_live}
use Rattle.xr_model.specs.machine.Layers.{frame_checks}
use Rattle.xr_model.specs.machine.LiveSessions.{session_at}
use Rattle.xr_model.specs.machine.SessionLife.{synced_session}
use Rattle.xr_types.specs.Frames.{PendingFrame}
use Rattle.xr_types.specs.declared.device.Wish.TheVariants as wish
use Rattle.xr_types.specs.declared.handles.Kind.TheVariants as kind
use Rattle.xr_types.specs.declared.calls.Call.{Call}
use Rattle.xr_types.specs.declared.calls.Call.TheVariants as ask
use Rattle.xr_model.specs.machine.Rule.{Did, ahead, refusals, nothing_done}
use Rattle.xr_model.specs.machine.SessionRule.{Loss, loss_of, code_on}
use Rattle.xr_model.specs.machine.Rules.Frames.{wait_frame_rule, end_frame_rule, look_of, new_frame, with_frame}
use Rattle.xr_model.specs.machine.Rules.Session.{life_of, loop_of, with_change, with_loop}
use Rattle.xr_model.specs.machine.State.{CoreState}
use Rattle.xr_model.specs.machine.PartAnswers.{or_refused}
use Rattle.xr_core.specs.declared.halt.Halt.TheVariants.{Refused}
use Rattle.xr_core.specs.inside.Deciding.{DecidesCells, MayTouch}
use Rattle.xr_core.proofs.Along.{refused_cells, done_cells, may_do}
use Rattle.xr_core.proofs.Deciding.{success_found, none_first}
use Rattle.xr_core.proofs.FrameCalls.{live_where}
use Rattle.xr_core.proofs.LoopChanges.{changes_looped}

-- where nothing refuses the end of a frame, its session is live
pub live_at_end : (s : CoreState) (session : ℕ) (time : ℤ) (blend : Blend) (layers : List Layer) → first_of (refusals (end_frame_rule s session time blend layers)) ≡ None → is_live s.handles kind.Session session ≡ true
live_at_end s session time blend layers none =
    live_where s session (none_first (ahead (wait_frame_rule s session)) (when (not (loop_of s session).has_begun) CallOrderInvalid ∷ frame_checks (look_of s session) time blend layers) none)

-- a frame is pending before its session is synchronized by it
pub frame_ended : (s : CoreState) (session : ℕ) (frame : PendingFrame)
    → (let t : CoreState = record (with_loop s session (ended_loop (loop_of s session))) { frames = record { pending = s.frames.pending ++ frame ∷ [] }; ended = s.ended + 1 } in with_change t (session_at t.sessions session) (synced_session wish.Ready)) ≡ with_frame s session frame
frame_ended s session frame =
    ap (λ (t : CoreState). let u : CoreState = record t { frames = record { pending = s.frames.pending ++ frame ∷ [] }; ended = s.ended + 1 } in u) (changes_looped s session (ended_loop (loop_of s session)) (synced_session wish.Ready))

module _ {C : Type 0} (does : C → CellCall → C → Type 0) (s : CoreState) (session : ℕ) (time : ℤ) (blend : Blend) (layers : List Layer) where
  abbrev loss : Loss
  loss = loss_of (life_of s session)

  abbrev what : Call
  what = ask.EndFrame session time blend layers

  abbrev used : Did
  used = record nothing_done { used = (new_frame s session time layers).images }

  pub end_refused : (code : Code) (c : C) → or_refused (first_of (refusals (end_frame_rule s session time blend layers))) (code_on loss Success) ≡ Err code → DecidesCells does s what s (Err (Refused code)) c c
  end_refused code c told = refused_cells s what (λ given. end_frame_rule s session time blend layers) (λ who reads given. refl) does (code_on loss Success) code c refl told

  pub end_done : (c d : C) → first_of (refusals (end_frame_rule s session time blend layers)) ≡ None → Leads does c (pin_calls (new_frame s session time layers).images) d
      → DecidesCells does s what (with_frame s session (new_frame s session time layers)) (Ok (record { code = code_on loss Success; gives = Nothing; place = 0 })) c d
  end_done c d none pinned =
      done_cells s what (λ given. end_frame_rule s session time blend layers) (λ who reads given. refl) does (with_frame s session (new_frame s session time layers)) (code_on loss Success) Nothing used c d
      none refl refl refl (success_found loss) (record { claimed = refl; taken = refl; returned = refl }) (rw (append-nil (pin_calls (new_frame s session time layers).images)) pinned)

  pub may_end : (may : C → CellCall → Type 0) (c : C) → MayTouch may does s c what → first_of (refusals (end_frame_rule s session time blend layers)) ≡ None → MayCall may does c (pin_calls (new_frame s session time layers).images)
  may_end may c touch none =
      let calls = may_do s what (λ given. end_frame_rule s session time blend layers) (λ who reads given. refl) does may c 0 used touch none refl refl (record { claimed = refl; taken = refl; returned = refl }) in
      rw (append-nil (pin_calls (new_frame s session time layers).images)) at calls
