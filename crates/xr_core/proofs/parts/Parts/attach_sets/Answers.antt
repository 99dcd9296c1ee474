use Rattle.std.proofs.Common.{rules, ◌≡◌, ◌∷◌, ◌++◌, map, Some, None, false, refl, sym, ap, ◌∙◌, true≢false}
use Rattle.std.specs.Prelude.{Err}
use Rattle.xr_types.specs.declared.calls.Gives.TheVariants.{Nothing}
use Rattle.xr_types.specs.declared.code.Code.TheVariants.{Success, HandleInvalid, CallOrderInvalid}
use Rattle.xr_types.specs.declared.handles.Kind.TheVariants as kind
use Rattle.xr_model.specs.machine.Handles.{is_live, no_handle}
use Rattle.xr_model.specs.machine.Refusals.{first_of, when}
use Rattle.xr_types.specs.declared.calls.Call.TheVariants as ask
use Rattle.xr_model.specs.machine.Rule.{refusals, nothing_done}
use Rattle.xr_model.specs.machine.SessionLife.{is_lost}
use Rattle.xr_model.specs.machine.SessionRule.{loss_of, code_on}
use Rattle.xr_model.specs.machine.LiveSessions.{session_at, attached_in}
use Rattle.xr_model.specs.machine.Sets.{attach_checks}
use Rattle.xr_model.specs.machine.State.{CoreState}
use Rattle.xr_model.specs.machine.Rules.Session.{life_of}
use Rattle.xr_model.specs.machine.Rules.Sets.{attach_sets_rule, with_attached_sets}
use Rattle.xr_model.proofs.HandleSteps.{first_fails}
use Rattle.xr_core.specs.inside.Changes.{place_at}
use Rattle.xr_core.specs.declared.halt.Halt.TheVariants.{Refused}
use Rattle.xr_core.proofs.Deciding.{err_decides, effect_decides, ok_none, success_found}
use Rattle.xr_core.proofs.Listed.{stands_within, stands_nowhere}
use Rattle.xr_core.proofs.SlotCalls.{found_outside}
use Rattle.xr_core.proofs.parts.Parts.attach_sets.Goals as goal

pub returns-in_err-success : goal.returns-in_err-success
returns-in_err-success c =
    let is : c.from_residual.result ≡ Err (Refused (c.in_err-success.field-0.0)) = search rules in
    rw is (err_decides c.args.self.now (ask.AttachSets c.args.session c.args.sets.now) (attach_sets_rule c.args.self.now c.args.session c.args.sets.now) (code_on (loss_of (life_of c.args.self.now c.args.session)) Success) refl (λ who reads. refl) (c.in_err-success.field-0.0) (sym c.in_err-success.ensures))

pub unreachable-requires : goal.unreachable-requires
unreachable-requires c =
    let none = (ok_none (first_of (refusals (attach_sets_rule c.args.self.now c.args.session c.args.sets.now))) (code_on (loss_of (life_of c.args.self.now c.args.session)) Success) c.in_ok-success.success (sym c.in_ok-success.ensures)).0 in
    let live = first_fails (is_live c.args.self.now.handles kind.Session c.args.session) HandleInvalid (is_lost (life_of c.args.self.now c.args.session) ∷ when false CallOrderInvalid ∷ (attach_checks (attached_in (session_at c.args.self.now.sessions c.args.session)) c.args.sets.now ++ map (no_handle c.args.self.now.handles kind.ActionSet) c.args.sets.now)) none in
    let here = ap (λ (s : CoreState). is_live s.handles kind.Session c.args.session) c.self.view_is ∙ live in
    let nowhere : place_at c.self.inside.sessions.items c.args.session ≡ None = search rules in
    true≢false (sym here ∙ sym (c.self.invariant.0.listed c.args.session) ∙ stands_nowhere c.self.inside.sessions.items c.args.session nowhere)

pub attach-requires : goal.attach-requires
attach-requires c =
    let found : place_at c.self.inside.sessions.items c.args.session ≡ Some c.in-Some.place = search rules in
    let there = found_outside c.args.self.now _ c.self.inside.frames.loops c.self.inside.columns.items c.self.inside.sessions.items c.self.view_is refl c.args.session c.in-Some.place found in
    record { found = there; within = stands_within c.args.self.now.sessions c.args.session c.in-Some.place there }

pub returns : goal.returns
returns c =
    let loss = loss_of (life_of c.args.self.now c.args.session) in
    let both = ok_none (first_of (refusals (attach_sets_rule c.args.self.now c.args.session c.args.sets.now))) (code_on (loss_of (life_of c.args.self.now c.args.session)) Success) c.in_ok-success.success (sym c.in_ok-success.ensures) in
    rw (c.done.ensures, c.attach.ensures, both.1)
    (effect_decides c.args.self.now (ask.AttachSets c.args.session c.args.sets.now) (λ given. attach_sets_rule c.args.self.now c.args.session c.args.sets.now)
    (with_attached_sets c.args.self.now c.args.session c.args.sets.now) (code_on (loss_of (life_of c.args.self.now c.args.session)) Success) Nothing nothing_done (λ who reads. refl) both.0 refl refl refl (success_found loss))
