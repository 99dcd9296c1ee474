use Rattle.std.proofs.Common.{rules, ◌≡◌, List, true, false, Some, None, refl, sym, ap, ◌∙◌}
use Rattle.xr_types.specs.declared.code.Code.TheVariants.{Success}
use Rattle.xr_types.specs.declared.handles.Kind.TheVariants as kind
use Rattle.xr_model.specs.machine.Handles.{is_live}
use Rattle.xr_model.specs.machine.LiveSessions.{Session, life_in, session_at}
use Rattle.xr_model.specs.machine.SessionLife.{Life}
use Rattle.xr_model.specs.machine.SessionRule.{loss_of, code_on}
use Rattle.xr_model.specs.machine.State.{CoreState}
use Rattle.xr_model.specs.machine.Rules.Session.{life_of}
use Rattle.xr_core.specs.inside.Changes.{place_at}
use Rattle.xr_core.proofs.Listed.{stands_within, live_at, stands_nowhere}
use Rattle.xr_core.proofs.SessionCalls.{no_session, still_alive, life_refused, life_done}
use Rattle.xr_core.proofs.SlotCalls.{found_outside, life_inside}
use Rattle.xr_core.proofs.parts.Parts.change_life.Goals as goal

pub returns-in_default : goal.returns-in_default
returns-in_default c =
    let none : place_at c.self.inside.sessions.items c.args.session ≡ None = search rules in
    let dead : is_live c.self.inside.handles kind.Session c.args.session ≡ false = sym (c.self.invariant.0.listed c.args.session) ∙ stands_nowhere c.self.inside.sessions.items c.args.session none in
    let here : is_live c.args.self.now.handles kind.Session c.args.session ≡ false = sym (ap (λ (s : CoreState). is_live s.handles kind.Session c.args.session) c.self.view_is) ∙ dead in
    rw c.refused.ensures (no_session c.args.self.now c.args.session c.args.call here)

pub success_of-success-requires-clause-within : goal.success_of-success-requires-clause-within
success_of-success-requires-clause-within c =
    let found : place_at c.as_slice-2.result.now c.args.session ≡ Some c.in-Some.place = search rules in
    stands_within c.as_slice-2.result.now c.args.session c.in-Some.place found

pub change_life_at-code-requires : goal.change_life_at-code-requires
change_life_at-code-requires c =
    let found : place_at c.self.inside.sessions.items c.args.session ≡ Some c.in-Some.place = search rules in
    let there = found_outside c.args.self.now _ c.self.inside.frames.loops c.self.inside.columns.items c.self.inside.sessions.items c.self.view_is refl c.args.session c.in-Some.place found in
    record { found = there; within = stands_within c.args.self.now.sessions c.args.session c.in-Some.place there }

pub end_frames-requires : goal.end_frames-requires
end_frames-requires c =
    let found : place_at c.self.inside.sessions.items c.args.session ≡ Some c.in-Some.place = search rules in
    let live = live_at c.self.inside.handles c.self.inside.sessions.items c.args.session c.in-Some.place c.self.invariant.0.listed found in
    let here : is_live c.args.self.now.handles kind.Session c.args.session ≡ true = sym (ap (λ (s : CoreState). is_live s.handles kind.Session c.args.session) c.self.view_is) ∙ live in
    record { live = rw c.change_life_at-code.ensures.state (still_alive c.args.self.now c.args.session c.args.call here) }

pub returns-then-ne : goal.returns-then-ne
returns-then-ne c =
    let found : place_at c.self.inside.sessions.items c.args.session ≡ Some c.in-Some.place = search rules in
    let live = live_at c.self.inside.handles c.self.inside.sessions.items c.args.session c.in-Some.place c.self.invariant.0.listed found in
    let here = sym (ap (λ (s : CoreState). is_live s.handles kind.Session c.args.session) c.self.view_is) ∙ live in
    let failed : c.change_life_at-code.result ≡ Success → ⊥ = search rules in
    rw c.refused-then-ne.ensures (life_refused c.args.self.now c.args.session c.args.call here c.change_life_at-code.new.self c.change_life_at-code.result c.change_life_at-code.ensures.state c.change_life_at-code.ensures.code failed)

pub returns : goal.returns
returns c =
    let found : place_at c.self.inside.sessions.items c.args.session ≡ Some c.in-Some.place = search rules in
    let live = live_at c.self.inside.handles c.self.inside.sessions.items c.args.session c.in-Some.place c.self.invariant.0.listed found in
    let here = sym (ap (λ (s : CoreState). is_live s.handles kind.Session c.args.session) c.self.view_is) ∙ live in
    let good : c.change_life_at-code.result ≡ Success = search rules in
    let code : c.success_of-success.result ≡ code_on (loss_of (life_of c.args.self.now c.args.session)) Success =
    c.success_of-success.ensures ∙ ap (λ (xs : List Session). code_on (loss_of (life_in (session_at xs c.args.session))) Success) c.as_slice-2.ensures.value
    ∙ ap (λ (life : Life). code_on (loss_of life) Success) (life_inside c.args.self.now _ c.self.inside.frames.loops c.self.inside.columns.items c.self.inside.sessions.items c.self.view_is refl c.args.session) in
    rw (c.done.ensures, code, c.settle.ensures, c.end_frames.ensures) (life_done c.args.self.now c.args.session c.args.call here c.change_life_at-code.new.self c.change_life_at-code.result c.change_life_at-code.ensures.state c.change_life_at-code.ensures.code good)
