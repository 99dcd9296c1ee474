-- How a call that changes a session is decided, by what the session made of it.
use Rattle.std.proofs.Common.{◌≡◌, ℕ, true, false, Option, Some, None, refl, ap, ◌∙◌}
use Rattle.std.specs.Prelude.{Ok, Err}
use Rattle.xr_types.specs.declared.calls.Actor.{Actor}
use Rattle.xr_types.specs.declared.calls.Gives.TheVariants.{Nothing}
use Rattle.xr_types.specs.declared.code.Code.{Code}
use Rattle.xr_types.specs.declared.code.Code.TheVariants.{Success, HandleInvalid}
use Rattle.xr_types.specs.declared.handles.Kind.TheVariants as kind
use Rattle.xr_model.specs.machine.Handles.{is_live}
use Rattle.xr_model.specs.machine.Refusals.{Refusal, when, first_of, unless}
use Rattle.xr_model.specs.machine.SessionLife.{Life}
use Rattle.xr_model.specs.machine.LiveSessions.{session_at}
use Rattle.xr_model.specs.machine.SessionRule.{loss_of, code_on}
use Rattle.xr_model.specs.machine.Rules.Session.{life_of, with_change, changing_rule}
use Rattle.xr_model.specs.machine.Target.{settled}
use Rattle.xr_model.specs.machine.State.{CoreState, CellReads}
use Rattle.xr_model.specs.machine.Rule.{Rule, done, refusals, nothing_done}
use Rattle.xr_model.specs.machine.Machine.{rule_of}
use Rattle.xr_model.specs.machine.PartAnswers.{code_by}
use Rattle.xr_core.specs.inside.Deciding.{Decides}
use Rattle.xr_core.specs.inside.Changes.{life_request, checks_of, change_of, refusals_of, changed_alone, changed_life, with_period, answer_to}
use Rattle.xr_core.specs.declared.halt.Halt.TheVariants.{Refused}
use Rattle.xr_core.specs.declared.sessions.LifeCall.{LifeCall}
use Rattle.xr_core.specs.declared.sessions.LifeCall.TheVariants.{Begin, End, RequestExit}
use Rattle.xr_core.proofs.LoopChanges.{period_behind}
use Rattle.xr_core.proofs.Plain.{are_plain, first_plain}
use Rattle.xr_core.proofs.Deciding.{refused_decides, effect_decides, passed_is_ok, success_found}

abbrev life_rule : CoreState → ℕ → LifeCall → Rule
life_rule s session call = record (changing_rule s session (checks_of call (life_of s session)) (change_of s.device.wish call)) {
  effect = done (with_change (with_period s session call) (session_at s.sessions session) (change_of s.device.wish call)) Nothing;
}

has_rule : (s : CoreState) (session : ℕ) (call : LifeCall) (who : Actor) (reads : CellReads) → rule_of s reads who 0 (life_request session call) ≡ life_rule s session call
has_rule s session (Begin view) who reads = refl
has_rule s session End who reads = refl
has_rule s session RequestExit who reads = refl

plain_life : (call : LifeCall) (life : Life) → are_plain (refusals_of call life) ≡ true
plain_life (Begin view) life = refl
plain_life End life = refl
plain_life RequestExit life = refl

first_live : (s : CoreState) (session : ℕ) (call : LifeCall) → is_live s.handles kind.Session session ≡ true → first_of (refusals (life_rule s session call)) ≡ first_of (refusals_of call (life_of s session))
first_live s session (Begin view) live = rw live refl
first_live s session End live = rw live refl
first_live s session RequestExit live = rw live refl

first_dead : (s : CoreState) (session : ℕ) (call : LifeCall) → is_live s.handles kind.Session session ≡ false → first_of (refusals (life_rule s session call)) ≡ Some (when true HandleInvalid)
first_dead s session (Begin view) dead = rw dead refl
first_dead s session End dead = rw dead refl
first_dead s session RequestExit dead = rw dead refl

module _ (s : CoreState) (session : ℕ) (call : LifeCall) where
  -- it is refused where the handle isn't live
  pub no_session : is_live s.handles kind.Session session ≡ false → Decides s (life_request session call) s (Err (Refused HandleInvalid))
  no_session dead =
      refused_decides s (life_request session call) (when true HandleInvalid) (λ who reads. ap (λ (r : Rule). first_of (refusals r)) (has_rule s session call who reads) ∙ first_dead s session call dead) (record { gives = refl; memory = refl; fails = refl })

  -- the call leaves the handles
  pub still_alive : is_live s.handles kind.Session session ≡ true → is_live (changed_life s session call).handles kind.Session session ≡ true
  unfolding changed_life
  still_alive live = by (first_of (refusals_of call (life_of s session)))
    where
      by : (o : Option Refusal) → is_live (unless o s (changed_alone s (session_at s.sessions session) (change_of s.device.wish call))).handles kind.Session session ≡ true
      by None = live
      by (Some r) = live

  module _ (live : is_live s.handles kind.Session session ≡ true) (kept : CoreState) (code : Code) (stays : kept ≡ changed_life s session call) (told : code ≡ answer_to call (life_of s session)) where
    -- it is refused by the session
    pub life_refused : (code ≡ Success → ⊥) → Decides s (life_request session call) kept (Err (Refused code))
    unfolding changed_life answer_to
    life_refused failed = by (first_of (refusals_of call (life_of s session))) refl
      where
        by : (o : Option Refusal) → first_of (refusals_of call (life_of s session)) ≡ o → Decides s (life_request session call) kept (Err (Refused code))
        by None e = absurd (failed (told ∙ ap code_by e))
        by (Some y) e =
            let is : code ≡ y.code = told ∙ ap code_by e in
            let here : kept ≡ s = stays ∙ ap (λ (o : Option Refusal). unless o s (changed_alone s (session_at s.sessions session) (change_of s.device.wish call))) e in
            rw (is, here)
            (refused_decides s (life_request session call) y (λ who reads. ap (λ (r : Rule). first_of (refusals r)) (has_rule s session call who reads) ∙ first_live s session call live ∙ e) (first_plain (refusals_of call (life_of s session)) y (plain_life call (life_of s session)) e))

    -- nothing refuses it
    pub life_done : code ≡ Success → Decides s (life_request session call) (settled (with_period kept session call)) (Ok (record { code = code_on (loss_of (life_of s session)) Success; gives = Nothing; place = 0 }))
    unfolding changed_life answer_to
    life_done good =
        let none = passed_is_ok (refusals_of call (life_of s session)) code (plain_life call (life_of s session)) told good in
        let here : kept ≡ changed_alone s (session_at s.sessions session) (change_of s.device.wish call) = stays ∙ ap (λ (o : Option Refusal). unless o s (changed_alone s (session_at s.sessions session) (change_of s.device.wish call))) none in
        rw (here, period_behind s session (change_of s.device.wish call) call)
        (effect_decides s (life_request session call) (λ given. life_rule s session call) (with_change (with_period s session call) (session_at s.sessions session) (change_of s.device.wish call)) (code_on (loss_of (life_of s session)) Success) Nothing nothing_done
        (has_rule s session call) (first_live s session call live ∙ none) refl refl refl (success_found (loss_of (life_of s session))))
