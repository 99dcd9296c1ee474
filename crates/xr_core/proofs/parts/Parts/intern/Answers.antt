use Rattle.std.proofs.Common.{rules, ◌≡◌}
use Rattle.xr_types.specs.declared.code.Code.TheVariants.{Success}
use Rattle.xr_core.proofs.PathCalls.{users_kept, users_noted}
use Rattle.xr_core.proofs.parts.Parts.intern.Goals as goal

pub invariant_of-self : goal.invariant_of-self
invariant_of-self c =
    let good : c.intern-answer.result.code ≡ Success = search rules in (
      c.self.invariant.0,
      c.self.invariant.1,
      c.self.invariant.2,
      c.self.invariant.3,
      users_noted c.self.inside.paths c.args.text.now c.intern-answer.result c.intern-answer.new.self c.self.inside.users c.self.invariant.4 c.intern-answer.ensures.state c.intern-answer.ensures.answer c.note_text.new.users good c.note_text.ensures,
    )

pub invariant_of-self-else-eq : goal.invariant_of-self-else-eq
invariant_of-self-else-eq c =
    let failed : c.intern-answer.result.code ≡ Success → ⊥ = search rules in (
      c.self.invariant.0,
      c.self.invariant.1,
      c.self.invariant.2,
      c.self.invariant.3,
      users_kept c.self.inside.paths c.args.text.now c.intern-answer.result c.intern-answer.new.self c.self.inside.users c.self.invariant.4 c.intern-answer.ensures.state c.intern-answer.ensures.answer failed,
    )
