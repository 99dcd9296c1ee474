use Rattle.std.proofs.Common.{◌++◌, List, ℕ, flat_map, refl, ap, ◌∙◌}
use Rattle.xr_model.specs.machine.LiveSessions.{Session}
use Rattle.xr_core.specs.inside.Viewing.{words_listed}
use Rattle.xr_core.proofs.SlotCalls.{all_live, words_seated}
use Rattle.xr_core.proofs.parts.Parts.push_sessions.Goals as goal

pub push_each-requires-clause-live : goal.push_each-requires-clause-live
push_each-requires-clause-live c = rw c.as_slice.ensures.value (all_live c.args.self.now _ c.self.inside.frames.loops c.self.inside.columns.items c.self.inside.sessions.items c.self.view_is refl c.self.invariant.0)

pub returns : goal.returns
returns c =
    c.push_each.ensures ∙ ap (λ (xs : List Session). c.args.out.now ++ flat_map (words_listed c.args.self.now) xs) c.as_slice.ensures.value
    ∙ ap (λ (l : List ℕ). c.args.out.now ++ l) (words_seated c.args.self.now _ c.self.inside.frames.loops c.self.inside.columns.items c.self.inside.sessions.items c.self.view_is refl)
