use Rattle.std.proofs.Common.{rules, ◌≡◌, ◌==◌, length, map, true, false, refl, ap, ◌∙◌, arith}
use Rattle.xr_types.specs.declared.handles.Kind.TheVariants as kind
use Rattle.xr_types.specs.declared.handles.TheConstants.{SESSIONS}
use Rattle.xr_model.specs.machine.Frames.{new_loop}
use Rattle.xr_model.specs.machine.Handles.{has_room, with_handle}
use Rattle.xr_model.specs.machine.LiveSessions.{Session}
use Rattle.xr_model.specs.machine.State.{CoreState}
use Rattle.xr_model.specs.machine.Sync.{no_columns}
use Rattle.xr_core.proofs.Housed.{room_for_one}
use Rattle.xr_core.proofs.KeptLive.{names_count, kept_same}
use Rattle.xr_core.proofs.KeptSeats.{kept_session, kept_own, live_given}
use Rattle.xr_core.proofs.SlotCalls.{session_more}
use Rattle.xr_core.proofs.parts.Parts.add_session.Goals as goal

pub push-requires : goal.push-requires
push-requires c =
    let rows : length c.self.inside.handles.sessions ≡ SESSIONS = c.give-handle.ensures.row in
    let room : has_room c.self.inside.handles kind.Session ≡ true = ap (λ (s : CoreState). has_room s.handles kind.Session) c.self.view_is ∙ c.requires.room in
    let few = room_for_one (map (λ x. x.handle) c.self.inside.sessions.items) c.self.inside.handles.sessions c.self.invariant.0.housed room in
    let same = names_count (λ (x : Session). x.handle) c.self.inside.sessions.items in
    (omega arith, omega (arith, few, same, rows))

pub renew_slot-requires : goal.renew_slot-requires
renew_slot-requires c =
    let room : has_room c.self.inside.handles kind.Session ≡ true = ap (λ (s : CoreState). has_room s.handles kind.Session) c.self.view_is ∙ c.requires.room in
    let nonzero : (c.give-handle.result == 0) ≡ false = search rules in
    record { live = live_given c.self.inside.handles c.give-handle.new.handles c.args.instance c.give-handle.result room c.give-handle.ensures.state nonzero; stand = c.self.invariant.0.columns_stand }

pub invariant_of-self : goal.invariant_of-self
invariant_of-self c =
    let room : has_room c.self.inside.handles kind.Session ≡ true = ap (λ (s : CoreState). has_room s.handles kind.Session) c.self.view_is ∙ c.requires.room in
    let nonzero : (c.give-handle.result == 0) ≡ false = search rules in
    let kept = kept_session c.self.inside.frames.loops c.self.inside.columns.items c.self.inside.handles c.give-handle.new.handles c.self.inside.sessions.items c.push.new.self.items c.create-session.result c.args.instance c.give-handle.result room c.give-handle.ensures.state (rw c.create-session.ensures.session refl) nonzero c.give-handle.ensures.fresh c.push.ensures.items c.self.invariant.0 in (
      rw (c.renew_slot.ensures.frames, c.renew_slot.ensures.columns) (kept_own c.self.inside.frames c.self.inside.columns.items c.give-handle.new.handles c.push.new.self.items c.give-handle.new.handles.sessions c.give-handle.result new_loop no_columns kept),
      c.self.invariant.1,
      kept_same c.self.inside.room c.self.inside.inputs c.self.inside.handles c.give-handle.new.handles (with_handle c.self.inside.handles kind.Session c.args.instance c.give-handle.result) c.give-handle.ensures.state refl refl refl c.self.invariant.2,
      c.self.invariant.3,
      c.self.invariant.4,
    )

pub returns-clause-state : goal.returns-clause-state
returns-clause-state c =
    let nonzero : (c.give-handle.result == 0) ≡ false = search rules in
    session_more c.args.self.now _ c.self.inside.frames c.self.inside.columns.items c.self.inside.sessions.items c.self.view_is refl refl c.self.invariant.0 c.args.instance c.give-handle.result nonzero c.give-handle.ensures.fresh.1 c.wish.result c.give-handle.new.handles
    c.push.new.self.items c.create-session.result c.renew_slot.new.frames c.renew_slot.new.columns.items c.create-session.new.events c.wish.ensures c.give-handle.ensures.state c.create-session.ensures.session c.push.ensures.items c.renew_slot.ensures.frames c.renew_slot.ensures.columns c.create-session.ensures.events
