use Rattle.std.proofs.Common.{rules, ◌≡◌, ◌==◌, map, Some, None, Err, false, true, refl, sym, ◌∙◌}
use Rattle.std.specs.Prelude.{if◌then◌else◌}
use Rattle.xr_types.specs.Printed.{all_users}
use Rattle.xr_model.specs.machine.Publication.{is_attached, is_same_type, column_from, user_atom}
use Rattle.xr_model.specs.machine.Sets.{action_at}
use Rattle.xr_core.specs.inside.Getters.{look, named_look}
use Rattle.xr_core.proofs.GetterCalls.{named_listed, no_session, no_action, refused_by_loss, refused_by_set, refused_by_type, refused_by_path, gives}
use Rattle.xr_core.proofs.SlotCalls.{listed_so}
use Rattle.xr_core.proofs.parts.Parts.read.Goals as goal

pub returns-in_default : goal.returns-in_default
returns-in_default c =
    let none : named_look c.args.self.now.sessions c.args.session ≡ None = search rules in
    sym (no_session c.args.self.now c.args.wanted c.args.session c.args.action c.args.sub none)

pub returns-in_default-action_at : goal.returns-in_default-action_at
returns-in_default-action_at c =
    let named : named_look c.args.self.now.sessions c.args.session ≡ Some (look c.in-Some.live.now) = search rules in
    let none : action_at c.args.self.now.inputs c.args.action ≡ None = search rules in
    sym (no_action c.args.self.now c.args.wanted c.args.session c.args.action c.args.sub c.in-Some.live.now named none)

pub returns-in_err-success : goal.returns-in_err-success
returns-in_err-success c =
    let named : named_look c.args.self.now.sessions c.args.session ≡ Some (look c.in-Some.live.now) = search rules in
    let there : action_at c.args.self.now.inputs c.args.action ≡ Some c.in-Some-action_at.entry.now = search rules in
    let is : c.from_residual.result ≡ Err (c.in_err-success.field-0.0) = search rules in
    is ∙ sym (refused_by_loss c.args.self.now c.args.wanted c.args.session c.args.action c.args.sub c.in-Some.live.now named c.in-Some-action_at.entry.now there (c.in_err-success.field-0.0) (sym c.in_err-success.ensures))

pub returns-then-not-has_set : goal.returns-then-not-has_set
returns-then-not-has_set c =
    let named : named_look c.args.self.now.sessions c.args.session ≡ Some (look c.in-Some.live.now) = search rules in
    let there : action_at c.args.self.now.inputs c.args.action ≡ Some c.in-Some-action_at.entry.now = search rules in
    let other : is_attached c.in-Some.live.now.attached c.in-Some-action_at.entry.now.set ≡ false = search rules in
    sym (refused_by_set c.args.self.now c.args.wanted c.args.session c.args.action c.args.sub c.in-Some.live.now named c.in-Some-action_at.entry.now there c.in_ok-success.success (sym c.in_ok-success.ensures) other)

pub returns-then-not-is_same_type : goal.returns-then-not-is_same_type
returns-then-not-is_same_type c =
    let named : named_look c.args.self.now.sessions c.args.session ≡ Some (look c.in-Some.live.now) = search rules in
    let there : action_at c.args.self.now.inputs c.args.action ≡ Some c.in-Some-action_at.entry.now = search rules in
    let attached : is_attached c.in-Some.live.now.attached c.in-Some-action_at.entry.now.set ≡ true = search rules in
    let other : is_same_type c.in-Some-action_at.entry.now.type c.args.wanted ≡ false = search rules in
    sym (refused_by_type c.args.self.now c.args.wanted c.args.session c.args.action c.args.sub c.in-Some.live.now named c.in-Some-action_at.entry.now there c.in_ok-success.success (sym c.in_ok-success.ensures) attached other)

pub returns-in_default-column_by : goal.returns-in_default-column_by
returns-in_default-column_by c =
    let named : named_look c.args.self.now.sessions c.args.session ≡ Some (look c.in-Some.live.now) = search rules in
    let there : action_at c.args.self.now.inputs c.args.action ≡ Some c.in-Some-action_at.entry.now = search rules in
    let attached : is_attached c.in-Some.live.now.attached c.in-Some-action_at.entry.now.set ≡ true = search rules in
    let typed : is_same_type c.in-Some-action_at.entry.now.type c.args.wanted ≡ true = search rules in
    let none : (if c.args.sub == 0 then Some 0 else column_from 1 c.self.inside.users c.in-Some-action_at.entry.now.declared c.args.sub) ≡ None = search rules in
    let known : c.self.inside.users ≡ map (user_atom c.args.self.now.atoms) all_users = search rules in
    sym (refused_by_path c.args.self.now c.args.wanted c.args.session c.args.action c.args.sub c.in-Some.live.now named c.in-Some-action_at.entry.now there c.in_ok-success.success (sym c.in_ok-success.ensures) attached typed c.self.inside.users known none)

pub shown-requires : goal.shown-requires
shown-requires c =
    let named : named_look c.args.self.now.sessions c.args.session ≡ Some (look c.in-Some.live.now) = search rules in
    record { live = sym (listed_so c.args.self.now _ c.self.inside.frames.loops c.self.inside.columns.items c.self.inside.sessions.items c.self.view_is refl c.self.invariant.0 c.args.session) ∙ named_listed c.args.self.now c.args.session c.in-Some.live.now named }

pub returns : goal.returns
returns c =
    let named : named_look c.args.self.now.sessions c.args.session ≡ Some (look c.in-Some.live.now) = search rules in
    let there : action_at c.args.self.now.inputs c.args.action ≡ Some c.in-Some-action_at.entry.now = search rules in
    let attached : is_attached c.in-Some.live.now.attached c.in-Some-action_at.entry.now.set ≡ true = search rules in
    let typed : is_same_type c.in-Some-action_at.entry.now.type c.args.wanted ≡ true = search rules in
    let has : (if c.args.sub == 0 then Some 0 else column_from 1 c.self.inside.users c.in-Some-action_at.entry.now.declared c.args.sub) ≡ Some c.in-Some-column_by.column = search rules in
    let known : c.self.inside.users ≡ map (user_atom c.args.self.now.atoms) all_users = search rules in
    rw c.shown.ensures
    (sym (gives c.args.self.now c.args.wanted c.args.session c.args.action c.args.sub c.in-Some.live.now named c.in-Some-action_at.entry.now there c.in_ok-success.success (sym c.in_ok-success.ensures) attached typed c.self.inside.users known c.in-Some-column_by.column has))
