use Rattle.std.proofs.Common.{rules, ◌≡◌, Some, None, refl, sym, ◌∙◌}
use Rattle.xr_types.specs.declared.device.Wish.TheVariants as wish
use Rattle.xr_model.specs.machine.SessionLife.{synced_session}
use Rattle.xr_core.specs.inside.Changes.{place_at}
use Rattle.xr_core.proofs.KeptSeats.{kept_changed}
use Rattle.xr_core.proofs.Listed.{stands_within, stands_nowhere, found_at}
use Rattle.xr_core.proofs.SessionEvents.{changes_none}
use Rattle.xr_core.proofs.SlotCalls.{listed_inside, life_synced}
use Rattle.xr_core.proofs.parts.Parts.sync_one.Goals as goal

pub returns-in_default : goal.returns-in_default
returns-in_default c =
    let none : place_at c.self.inside.sessions.items c.args.session ≡ None = search rules in
    changes_none c.args.self.now c.args.session (synced_session wish.Ready)
    (sym (listed_inside c.args.self.now _ c.self.inside.frames.loops c.self.inside.columns.items c.self.inside.sessions.items c.self.view_is refl c.args.session) ∙ stands_nowhere c.self.inside.sessions.items c.args.session none)

pub sync_at-requires-clause-within : goal.sync_at-requires-clause-within
sync_at-requires-clause-within c =
    let found : place_at c.self.inside.sessions.items c.args.session ≡ Some c.in-Some.place = search rules in
    stands_within c.self.inside.sessions.items c.args.session c.in-Some.place found

pub invariant_of-self : goal.invariant_of-self
invariant_of-self c = (
  rw c.sync_at.ensures.sessions (kept_changed c.self.inside.frames.loops c.self.inside.columns.items c.self.inside.handles c.self.inside.sessions.items c.args.session _ (λ x. refl) c.self.invariant.0),
  c.self.invariant.1,
  c.self.invariant.2,
  c.self.invariant.3,
  c.self.invariant.4,
)

pub returns : goal.returns
returns c =
    let found : place_at c.self.inside.sessions.items c.args.session ≡ Some c.in-Some.place = search rules in
    let x = (found_at c.self.inside.sessions.items c.args.session c.in-Some.place found).0 in
    rw (c.sync_at.ensures.events, c.sync_at.ensures.sessions) (life_synced c.args.self.now _ c.self.inside.frames.loops c.self.inside.columns.items c.self.inside.sessions.items c.self.view_is refl c.args.session c.in-Some.place found x)
