use Rattle.std.proofs.Common.{rules, ◌≡◌, refl}
use Rattle.xr_types.specs.declared.code.Code.TheVariants.{Success}
use Rattle.xr_core.proofs.PathCalls.{intern_refused}
use Rattle.xr_core.proofs.parts.Parts.string_to_path.Goals as goal

pub returns-then-ne : goal.returns-then-ne
returns-then-ne c =
    let failed : c.intern-answer.result.code ≡ Success → ⊥ = search rules in
    rw (c.refused.ensures, c.intern-answer.ensures.state) (intern_refused c.args.self.now c.args.instance c.args.text.now c.intern-answer.result _ (search rules) refl c.intern-answer.ensures.answer c.intern-answer.ensures.memory failed)
