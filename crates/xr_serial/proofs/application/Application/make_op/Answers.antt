use Rattle.std.proofs.Common.{rules, ◌≡◌, ◌≤◌, ◌<◌, ◌+◌, ◌∙◌, [], ℕ, ℤ, List, Bool, true, false, w64, to_z, of_z, length, get_or, refl, sym, ap, subst}
use Rattle.std.specs.Prelude.{if◌then◌else◌}
use Rattle.std.proofs.Math.Seq.{get_or-append_seam}
use Rattle.xr_types.specs.declared.calls.Actor.TheVariants.{App}
use Rattle.xr_types.specs.declared.made.Made.{Made}
use Rattle.xr_types.specs.declared.calls.Call.{Call}
use Rattle.xr_types.specs.CallKinds.{lent_size, with_start}
use Rattle.xr_model.specs.scenario.ScriptForm.{IsInRange}
use Rattle.xr_model.specs.machine.CoreCalls.{MayAsk}
use Rattle.xr_model.specs.machine.State.{State}
use Rattle.xr_model.specs.runs.Lists.{made_at}
use Rattle.xr_model.specs.runs.NameValues.{with_name_value}
use Rattle.xr_model.specs.runs.Robin.{clock_behind}
use Rattle.xr_model.specs.runs.Scripts.{request_for}
use Rattle.xr_model.proofs.ScriptForm.{in_range-item}
use Rattle.xr_serial.specs.inside.Made.{CallTurn, CallMade, CallWaits}
use Rattle.xr_serial.specs.inside.RunState.{AppState}
use Rattle.xr_serial.proofs.KeptApplications.{same_app}
use Rattle.xr_serial.proofs.Ops.{as_locked}
use Rattle.xr_serial.proofs.application.Application.make_op.Goals as goal
use Rattle.xr_runs.specs.Sides.{exchange_of}
use Rattle.xr_runs.proofs.OpCalls.{here_at, op_lent, op_asks}

pub call_of-call-requires : goal.call_of-call-requires
call_of-call-requires c = subst IsInRange (sym c.index-ops-self.is) (in_range-item c.args.ops.now c.self.inside.made c.index-ops-self.result c.requires.formed (subst (λ (a : AppState). a.made < length c.args.ops.now) (sym c.self.view_is) c.requires.within))

pub make-requires-clause-asks : goal.make-requires-clause-asks
make-requires-clause-asks c =
    let o = c.index-ops-self.result in
    let names = c.self.inside.names in
    let clock = c.self.inside.clock in
    let within : c.self.inside.made < length c.args.ops.now = subst (λ (a : AppState). a.made < length c.args.ops.now) (sym c.self.view_is) c.requires.within in
    let ranged : IsInRange o = subst IsInRange (sym c.index-ops-self.is) (in_range-item c.args.ops.now c.self.inside.made o c.requires.formed within) in
    let read : to_z w64 (of_z w64 clock) ≡ clock = search rules in
    let same : c.begin_wait.new.self ≡ with_start clock (request_for names o) = c.begin_wait.ensures ∙ ap (λ (z : ℤ). with_start z c.call_of-call.result) read ∙ ap (with_start clock) c.call_of-call.ensures in
    subst (λ (r : Call). MayAsk (App c.args.number) r (lent_size r)) (sym same) (op_asks clock names c.args.number o c.self.invariant.1 ranged)

pub make-requires-clause-few : goal.make-requires-clause-few
make-requires-clause-few c =
    let o = c.index-ops-self.result in
    let names = c.self.inside.names in
    let clock = c.self.inside.clock in
    let within : c.self.inside.made < length c.args.ops.now = subst (λ (a : AppState). a.made < length c.args.ops.now) (sym c.self.view_is) c.requires.within in
    let ranged : IsInRange o = subst IsInRange (sym c.index-ops-self.is) (in_range-item c.args.ops.now c.self.inside.made o c.requires.formed within) in
    let read : to_z w64 (of_z w64 clock) ≡ clock = search rules in
    let same : c.begin_wait.new.self ≡ with_start clock (request_for names o) = c.begin_wait.ensures ∙ ap (λ (z : ℤ). with_start z c.call_of-call.result) read ∙ ap (with_start clock) c.call_of-call.ensures in
    subst (λ (r : Call). lent_size r ≤ 1024) (sym same) (op_lent clock names o ranged)

pub returns-then-not-branch : goal.returns-then-not-branch
returns-then-not-branch c =
    let within : c.self.inside.made < length c.args.ops.now = subst (λ (a : AppState). a.made < length c.args.ops.now) (sym c.self.view_is) c.requires.within in
    let o = c.index-ops-self.result in
    let names = c.self.inside.names in
    let clock = c.self.inside.clock in
    let what : Call = with_start clock (request_for names o) in
    let calls = c.self.inside.calls.items in
    let after = c.make.new.self in
    let read : to_z w64 (of_z w64 clock) ≡ clock = search rules in
    let same : c.begin_wait.new.self ≡ what = c.begin_wait.ensures ∙ ap (λ (z : ℤ). with_start z c.call_of-call.result) read ∙ ap (with_start clock) c.call_of-call.ensures in
    let core : c.machine.inside.lender ≡ c.args.machine.now = c.machine.view_is in
    let none : c.in_ok-make.field-0 ≡ false = search rules in
    let unmade : CallWaits c.machine.inside.lender after (App c.args.number) c.begin_wait.new.self calls c.make.new.list.items =
    subst (λ (b : Bool). CallTurn c.machine.inside.lender after (App c.args.number) c.begin_wait.new.self (c.self.inside.made + 1) calls c.make.new.list.items b) none c.in_ok-make.ensures in
    let waits : CallWaits c.args.machine.now after (App c.args.number) what calls c.make.new.list.items =
    subst (λ (s : State). CallWaits s after (App c.args.number) what calls c.make.new.list.items) core (subst (λ (r : Call). CallWaits c.machine.inside.lender after (App c.args.number) r calls c.make.new.list.items) same unmade) in
    rw (← c.self.view_is) (record { op = o; here = here_at c.args.ops.now c.self.inside.made o within c.index-ops-self.is; waits = waits.waits; same = waits.same; app = same_app refl refl waits.unlisted refl refl })

pub returns : goal.returns
returns c =
    let within : c.self.inside.made < length c.args.ops.now = subst (λ (a : AppState). a.made < length c.args.ops.now) (sym c.self.view_is) c.requires.within in
    let o = c.index-ops-self.result in
    let names = c.self.inside.names in
    let clock = c.self.inside.clock in
    let place = c.self.inside.made + 1 in
    let plain : Call = request_for names o in
    let what : Call = with_start clock plain in
    let calls = c.self.inside.calls.items in
    let after = c.make.new.self in
    let read : to_z w64 (of_z w64 clock) ≡ clock = search rules in
    let same : c.begin_wait.new.self ≡ what = c.begin_wait.ensures ∙ ap (λ (z : ℤ). with_start z c.call_of-call.result) read ∙ ap (with_start clock) c.call_of-call.ensures in
    let core : c.machine.inside.lender ≡ c.args.machine.now = c.machine.view_is in
    let went : c.in_ok-make.field-0 ≡ true = search rules in
    let turned : CallMade c.machine.inside.lender after (App c.args.number) c.begin_wait.new.self place calls c.make.new.list.items =
    subst (λ (b : Bool). CallTurn c.machine.inside.lender after (App c.args.number) c.begin_wait.new.self place calls c.make.new.list.items b) went c.in_ok-make.ensures in
    let call : CallMade c.args.machine.now after (App c.args.number) what place calls c.make.new.list.items =
    subst (λ (s : State). CallMade s after (App c.args.number) what place calls c.make.new.list.items) core (subst (λ (r : Call). CallMade c.machine.inside.lender after (App c.args.number) r place calls c.make.new.list.items) same turned) in
    let outcome = call.outcome in
    let made : Made = made_at place (exchange_of what outcome) in
    let counted : c.len-count.result ≡ length calls = search rules in
    let last : c.index.result.now ≡ made = c.index.ensures ∙ ap (λ (n : ℕ). get_or c.make.new.list.items n c.index.result.now) counted ∙ ap (λ (l : List Made). get_or l (length calls) c.index.result.now) call.listed ∙ get_or-append_seam calls made [] c.index.result.now in
    let shown : to_z w64 (of_z w64 c.clock_behind-self-inside.result) ≡ c.clock_behind-self-inside.result = search rules in
    let behind : to_z w64 (of_z w64 c.clock_behind-self-inside.result) ≡ clock_behind clock plain after =
    shown ∙ c.clock_behind-self-inside.ensures.clock ∙ ap (λ (z : ℤ). clock_behind z c.begin_wait.new.self c.lender-2.inside.core) read ∙ ap (λ (s : State). clock_behind clock c.begin_wait.new.self s) c.lender-2.view_is ∙ ap (λ (r : Call). clock_behind clock r after) same
    ∙ ap (λ (b : Bool). if b then after.core.device.clock else clock) (as_locked clock plain) in
    rw (← c.self.view_is) (record {
      op = o;
      outcome = outcome;
      here = here_at c.args.ops.now c.self.inside.made o within c.index-ops-self.is;
      ranged = rw c.index-ops-self.is (in_range-item c.args.ops.now c.self.inside.made o c.requires.formed within);
      call = call.call;
      app = same_app refl (c.learn.ensures ∙ ap (λ (m : Made). with_name_value names place o m.reply) last) call.listed behind refl;
    })
