-- How the calls on frames are decided, by what their checks and the loop say.
use Rattle.std.proofs.Common.{◌≡◌, ℕ, ℤ, Bool, true, false, not, List, [], ◌∷◌, Option, Some, None, refl, ◌∙◌}
use Rattle.std.specs.Prelude.{Ok, Err, is_ok, is_none, if◌then◌else◌}
use Rattle.xr_types.specs.Code.{is_out_of_memory}
use Rattle.xr_types.specs.declared.calls.Gives.TheVariants.{Nothing}
use Rattle.xr_types.specs.declared.code.Code.{Code}
use Rattle.xr_types.specs.declared.code.Code.TheVariants.{Success, HandleInvalid, CallOrderInvalid, FrameDiscarded}
use Rattle.xr_types.specs.declared.frames.Blend.{Blend}
use Rattle.xr_types.specs.declared.frames.Layer.{Layer}
use Rattle.xr_types.specs.declared.handles.Kind.TheVariants as kind
use Rattle.xr_model.specs.machine.Frames.{begun_loop}
use Rattle.xr_model.specs.machine.Handles.{is_live}
use Rattle.xr_model.specs.machine.Refusals.{Refusal, when, first_of}
use Rattle.xr_types.specs.declared.calls.Call.TheVariants as ask
use Rattle.xr_model.specs.machine.Rule.{ahead, refusals, nothing_done}
use Rattle.xr_model.specs.machine.SessionRule.{Loss, loss_of, code_on}
use Rattle.xr_model.specs.machine.Layers.{frame_checks}
use Rattle.xr_model.specs.machine.Rules.Frames.{not_running, wait_frame_rule, begin_frame_rule, end_frame_rule, look_of}
use Rattle.xr_model.specs.machine.Rules.Session.{life_of, loop_of, with_loop}
use Rattle.xr_model.specs.machine.SessionLife.{is_lost}
use Rattle.xr_model.specs.machine.State.{CoreState}
use Rattle.xr_model.proofs.HandleSteps.{first_fails}
use Rattle.xr_core.specs.declared.halt.Halt.TheVariants.{Refused}
use Rattle.xr_core.specs.inside.Deciding.{Decides}
use Rattle.xr_model.specs.machine.PartAnswers.{or_refused}
use Rattle.xr_core.proofs.Deciding.{err_decides, effect_decides, ok_none, success_found, then_err, then_ok, none_second}

-- a check that refuses nothing
pub ok_where : {T : Type 0} (o : Option Refusal) (x : T) → is_ok (or_refused o x) ≡ is_none o
ok_where None x = refl
ok_where (Some r) x = refl

module _ (s : CoreState) (session : ℕ) where
  abbrev loss : Loss
  loss = loss_of (life_of s session)

  abbrev success : Code
  success = code_on loss Success

  abbrev front : List Refusal
  front = ahead (wait_frame_rule s session)

  abbrev order : List Refusal
  order = when (not (loop_of s session).has_waited) CallOrderInvalid ∷ []

  -- a begin that is refused ahead of the call order
  pub begin_refused : (code : Code) → or_refused (first_of front) success ≡ Err code → Decides s (ask.BeginFrame session) s (Err (Refused code))
  begin_refused code told = err_decides s (ask.BeginFrame session) (begin_frame_rule s session) success refl (λ who reads. refl) code (then_err front order success success code told)

  -- one that comes to the order is refused where no frame is waited for
  pub begin_disordered : (code : Code) (kept : CoreState) → or_refused (first_of front) success ≡ Ok success
      → Err code ≡ (if (loop_of s session).has_waited then Ok (if (loop_of s session).has_begun then FrameDiscarded else success) else Err CallOrderInvalid)
      → kept ≡ (if (loop_of s session).has_waited then with_loop s session (begun_loop (loop_of s session)) else s) → Decides s (ask.BeginFrame session) kept (Err (Refused code))
  begin_disordered code kept passed told stays = by (loop_of s session).has_waited refl told stays
    where
      by : (b : Bool) → (loop_of s session).has_waited ≡ b → Err code ≡ (if b then Ok (if (loop_of s session).has_begun then FrameDiscarded else success) else Err CallOrderInvalid) → kept ≡ (if b then with_loop s session (begun_loop (loop_of s session)) else s)
          → Decides s (ask.BeginFrame session) kept (Err (Refused code))
      by true e told stays = cc
      by false e told stays =
          let is : code ≡ CallOrderInvalid = cc in
          rw (stays, is) (err_decides s (ask.BeginFrame session) (begin_frame_rule s session) success refl (λ who reads. refl) CallOrderInvalid (then_ok front order success success success passed ∙ rw e refl))

  -- and else begins the frame
  pub begin_done : (code : Code) (kept : CoreState) → or_refused (first_of front) success ≡ Ok success
      → Ok code ≡ (if (loop_of s session).has_waited then Ok (if (loop_of s session).has_begun then FrameDiscarded else success) else Err CallOrderInvalid)
      → kept ≡ (if (loop_of s session).has_waited then with_loop s session (begun_loop (loop_of s session)) else s) → Decides s (ask.BeginFrame session) kept (Ok (record { code = code; gives = Nothing; place = 0 }))
  begin_done code kept passed told stays = by (loop_of s session).has_waited refl told stays
    where
      none : (loop_of s session).has_waited ≡ true → first_of (refusals (begin_frame_rule s session)) ≡ None
      none e = (ok_none (first_of (refusals (begin_frame_rule s session))) success success (then_ok front order success success success passed ∙ rw e refl)).0

      begins : (begun : Bool) → code_on loss (if begun then FrameDiscarded else Success) ≡ (if begun then FrameDiscarded else success)
      begins true = refl
      begins false = refl

      found : (begun : Bool) → is_out_of_memory (if begun then FrameDiscarded else success) ≡ false
      found true = refl
      found false = success_found loss

      by : (b : Bool) → (loop_of s session).has_waited ≡ b → Ok code ≡ (if b then Ok (if (loop_of s session).has_begun then FrameDiscarded else success) else Err CallOrderInvalid) → kept ≡ (if b then with_loop s session (begun_loop (loop_of s session)) else s)
          → Decides s (ask.BeginFrame session) kept (Ok (record { code = code; gives = Nothing; place = 0 }))
      by false e told stays = cc
      by true e told stays =
          let is : code ≡ (if (loop_of s session).has_begun then FrameDiscarded else success) = cc in
          rw (stays, is)
          (effect_decides s (ask.BeginFrame session) (λ given. begin_frame_rule s session) (with_loop s session (begun_loop (loop_of s session))) (if (loop_of s session).has_begun then FrameDiscarded else success) Nothing nothing_done
          (λ who reads. refl) (none e) refl (rw (begins (loop_of s session).has_begun) refl) refl (found (loop_of s session).has_begun))

  -- where nothing refuses a call on frames ahead of the order, the session is live
  pub live_where : first_of front ≡ None → is_live s.handles kind.Session session ≡ true
  live_where none = first_fails (is_live s.handles kind.Session session) HandleInvalid (is_lost (life_of s session) ∷ not_running (life_of s session) ∷ []) none

  pub live_passed : {T : Type 0} (x y : T) → or_refused (first_of front) x ≡ Ok y → is_live s.handles kind.Session session ≡ true
  live_passed x y passed = live_where (ok_none (first_of front) x y passed).0

  -- where nothing refuses the end of a frame, one is begun
  pub begun_where : (time : ℤ) (blend : Blend) (layers : List Layer) → first_of (refusals (end_frame_rule s session time blend layers)) ≡ None → (loop_of s session).has_begun ≡ true
  begun_where time blend layers none = by (loop_of s session).has_begun refl (none_second front (when (not (loop_of s session).has_begun) CallOrderInvalid ∷ frame_checks (look_of s session) time blend layers) none)
    where
      by : (b : Bool) → (loop_of s session).has_begun ≡ b → first_of (when (not (loop_of s session).has_begun) CallOrderInvalid ∷ frame_checks (look_of s session) time blend layers) ≡ None → (loop_of s session).has_begun ≡ true
      by true e none = e
      by false e none = cc
