use Rattle.std.proofs.Common.{rules, ◌≡◌, ℕ, pos, List, [], ◌∷◌, ◌++◌, sym, subst, ◌∙◌, not, false}
use Rattle.std.specs.Prelude.{Err, int_le}
use Rattle.xr_types.specs.declared.code.Code.TheVariants.{Success, HandleInvalid, CallOrderInvalid, TimeInvalid}
use Rattle.xr_types.specs.declared.handles.Kind.TheVariants as kind
use Rattle.xr_model.specs.machine.Handles.{no_handle}
use Rattle.xr_model.specs.machine.HandlePlaces.{is_below}
use Rattle.xr_model.specs.machine.PartAnswers.{or_refused}
use Rattle.xr_model.specs.machine.Refusals.{Refusal, when, first_of}
use Rattle.xr_model.specs.machine.SessionLife.{is_lost}
use Rattle.xr_model.specs.machine.SessionRule.{loss_of, code_on}
use Rattle.xr_model.specs.machine.Rules.Session.{life_of}
use Rattle.xr_model.specs.machine.Rules.Spaces.{session_above}
use Rattle.xr_core.proofs.Deciding.{ok_none, then_err, then_ok}
use Rattle.xr_core.proofs.parts.Parts.may_locate_space.Goals as goal

pub returns-in_err-below : goal.returns-in_err-below
returns-in_err-below c =
    let s = c.args.self.now in
    let above = session_above s.handles c.args.space in
    let life = life_of s above in
    let success = code_on (loss_of life) Success in
    let own = no_handle s.handles kind.Space c.args.space ∷ [] in
    let beside : ℕ → List Refusal = λ n. when (not (is_below s.handles kind.Space n c.args.base)) HandleInvalid ∷ [] in
    let rest = is_lost life ∷ when false CallOrderInvalid ∷ when (int_le c.args.time.now (pos 0)) TimeInvalid ∷ [] in
    let code = c.in_err-below.field-0.0 in
    let is : c.from_residual-in_err-below.result ≡ Err (c.in_err-below.field-0.0) = search rules in
    let same = (ok_none (first_of own) above c.in_ok-session.session (sym c.in_ok-session.ensures)).1 in
    is ∙ sym (then_ok own (beside above ++ rest) above c.in_ok-session.session success (sym c.in_ok-session.ensures)
    ∙ then_err (beside above) rest tt success code (subst (λ (n : ℕ). or_refused (first_of (beside n)) tt ≡ Err code) same (sym c.in_err-below.ensures)))
