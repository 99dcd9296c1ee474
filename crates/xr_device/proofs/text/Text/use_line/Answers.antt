use Rattle.std.proofs.Common.{rules, ◌+◌, ◌∙◌, List, ℕ, take, sym, ap, subst, arith}
use Rattle.xr_model.specs.device_text.DeviceText.{meaning_of}
use Rattle.xr_device.specs.Texts.{Reading, IsFrontLine}
use Rattle.xr_device.proofs.LineSteps.{same_used, limits_used, skips_line, tells_line}
use Rattle.xr_device.proofs.text.Text.use_line.Goals as goal

pub invariant_of-self : goal.invariant_of-self
invariant_of-self g c =
    let at = c.self.inside in
    let r : Reading = record { number = at.number; given = at.given; used = at.used; held = at.held; ended = at.ended; source = g.S.Source.state at.source } in
    rw c.skip.ensures (limits_used r c.args.size at.given c.requires.some (search (rules, arith)) (search (rules, arith)) (omega arith) c.self.invariant)

pub invariant_of-self-in-Event : goal.invariant_of-self-in-Event
invariant_of-self-in-Event g c =
    let at = c.self.inside in
    let r : Reading = record { number = at.number; given = at.given; used = at.used; held = at.held; ended = at.ended; source = g.S.Source.state at.source } in
    rw c.skip.ensures (limits_used r c.args.size (at.given + 1) c.requires.some (search (rules, arith)) (search (rules, arith)) (omega arith) c.self.invariant)

pub invariant_of-self-in-Malformed : goal.invariant_of-self-in-Malformed
invariant_of-self-in-Malformed g c =
    let at = c.self.inside in
    let r : Reading = record { number = at.number; given = at.given; used = at.used; held = at.held; ended = at.ended; source = g.S.Source.state at.source } in
    rw c.skip.ensures (limits_used r c.args.size at.given c.requires.some (search (rules, arith)) (search (rules, arith)) (omega arith) c.self.invariant)

pub returns-in-Event-clause-same : goal.returns-in-Event-clause-same
returns-in-Event-clause-same g c =
    let at = c.self.inside in
    let r : Reading = record { number = at.number; given = at.given; used = at.used; held = at.held; ended = at.ended; source = g.S.Source.state at.source } in
    rw (← c.self.view_is, c.skip.ensures) (same_used r c.args.size (at.given + 1) (search (rules, arith)))

pub returns-in-Nothing-clause-lines : goal.returns-in-Nothing-clause-lines
returns-in-Nothing-clause-lines g c =
    let at = c.self.inside in
    let r : Reading = record { number = at.number; given = at.given; used = at.used; held = at.held; ended = at.ended; source = g.S.Source.state at.source } in
    let line : IsFrontLine r.used r.held r.ended c.args.bytes c.args.size = subst (λ (x : Reading). IsFrontLine x.used x.held x.ended c.args.bytes c.args.size) (sym c.self.view_is) c.requires in
    rw (← c.self.view_is, c.skip.ensures) (λ u. skips_line r c.args.bytes c.args.size c.self.invariant line u (c.in-Nothing.ensures.meaning ∙ ap (λ (h : List ℕ). meaning_of (take c.args.bytes h)) c.as_slice.ensures.value))

pub returns-in-Event-clause-lines : goal.returns-in-Event-clause-lines
returns-in-Event-clause-lines g c =
    let at = c.self.inside in
    let r : Reading = record { number = at.number; given = at.given; used = at.used; held = at.held; ended = at.ended; source = g.S.Source.state at.source } in
    let line : IsFrontLine r.used r.held r.ended c.args.bytes c.args.size = subst (λ (x : Reading). IsFrontLine x.used x.held x.ended c.args.bytes c.args.size) (sym c.self.view_is) c.requires in
    rw (← c.self.view_is, c.skip.ensures) (λ u. tells_line r c.args.bytes c.args.size c.self.invariant line u c.in-Event.event (c.in-Event.ensures.meaning ∙ ap (λ (h : List ℕ). meaning_of (take c.args.bytes h)) c.as_slice.ensures.value))
