use Rattle.std.proofs.Common.{rules, ◌≡◌, [], ◌∷◌, List, refl, sym, ◌∙◌}
use Rattle.xr_types.specs.declared.code.Code.TheVariants.{CallOrderInvalid}
use Rattle.xr_model.specs.machine.Chains.{chain_at, is_paint_wrong, releasing}
use Rattle.xr_model.specs.machine.PartAnswers.{code_by}
use Rattle.xr_model.specs.machine.Refusals.{Refusal, when, first_of}
use Rattle.xr_core.proofs.ChainChanges.{chain_changed}
use Rattle.xr_core.proofs.Deciding.{passed, failed}
use Rattle.xr_core.proofs.parts.Parts.release.Goals as goal
use Rattle.xr_core.proofs.parts.Parts.release.Goals.{in-Success, in_default}

pub returns-clause-code : goal.returns-clause-code
returns-clause-code g c =
    let checks : List Refusal = when (is_paint_wrong (chain_at c.args.self.now.chains c.args.chain)) CallOrderInvalid ∷ [] in
    let told : c.release.result ≡ code_by (first_of checks) = search rules in
    elim c.match-release.branch [
      | in-Success w ↦ w.result-is ∙ sym (passed checks c.release.result refl told w.in-Success.is)
      | in_default w ↦ w.result-is ∙ sym (failed checks c.release.result told w.in_default.not-Success)
    ]

pub returns-clause-state : goal.returns-clause-state
returns-clause-state g c = chain_changed c.args.self.now _ (λ s. first_of (when (is_paint_wrong (chain_at s.chains c.args.chain)) CallOrderInvalid ∷ [])) c.args.chain releasing c.release.new.self c.self.view_is c.release.ensures.chains
