use Rattle.std.proofs.Common.{◌≡◌, ◌+◌, ◌≤◌, ◌<◌, ℕ, false, [], length, get_or, sym, ap, subst, ◌∙◌, arith}
use Rattle.std.proofs.lemmas.List.{get_or_default}
use Rattle.std.specs.Prelude.{◌≢◌}
use Rattle.xr_model.specs.scenario.ScriptForm.{IsInForm}
use Rattle.xr_serial.specs.inside.RunInvariant.{RunInvariant}
use Rattle.xr_serial.specs.inside.RunState.{AppState, RunState}
use Rattle.xr_serial.proofs.AppTurns.{is_present, has_left_from, op_turn_from, leaves_from, in_form_at, op_turn_counts, leave_turn_counts}
use Rattle.xr_serial.proofs.rounds.one_turn.Goals as goal

-- ---- an application's turn

pub returns-then-app-clause-run : goal.returns-then-app-clause-run
returns-then-app-clause-run g c =
    let within : c.args.turn < length c.args.scenario.now.scripts = rw (← c.as_slice-apps.ensures) c.if-turn-apps.true in
    rw (← c.run.view_is) (λ idle start few kept. has_left_from c.args.scenario.now c.args.turn idle c.args.machine.now _ start (g.D.Device.prospect c.args.device.now) c.index_mut-app.result.now within few c.index_mut-app.ensures.value (ap (λ (a : AppState). a.has_left) (sym c.app.view_is) ∙ c.if-app.true) kept)

pub make_op-requires-clause-present : goal.make_op-requires-clause-present
make_op-requires-clause-present g c =
    let kept = c.requires.run in
    let within : c.args.turn < length c.args.scenario.now.scripts = rw (← c.as_slice-apps.ensures) c.if-turn-apps.true in
    is_present c.args.scenario.now c.args.turn kept.0 c.args.machine.now c.args.run.now kept.1 (g.D.Device.prospect c.args.device.now) c.index_mut-app.result.now within
    (c.index_mut-app.ensures.value ∙ ap (λ (r : RunState). get_or r.apps c.args.turn c.index_mut-app.result.now) c.run.view_is) (ap (λ (a : AppState). a.has_left) (sym c.app.view_is) ∙ c.if-app.false) kept.3

pub make_op-requires-clause-formed : goal.make_op-requires-clause-formed
make_op-requires-clause-formed g c =
    let within : c.args.turn < length c.args.scenario.now.scripts = rw (← c.as_slice-apps.ensures) c.if-turn-apps.true in
    let ops = c.as_slice-ops.result.now in
    let are : ops ≡ get_or c.args.scenario.now.scripts c.args.turn ops = rw (c.as_slice-ops.ensures, ← c.as_slice.ensures) c.index-as_slice-turn.is in
    subst IsInForm (sym (are ∙ get_or_default c.args.scenario.now.scripts c.args.turn ops [] within)) (in_form_at c.args.scenario.now.scripts c.args.turn c.requires.runs.formed within)

pub returns-then-app-ops-clause-run : goal.returns-then-app-ops-clause-run
returns-then-app-ops-clause-run g c =
    let within : c.args.turn < length c.args.scenario.now.scripts = rw (← c.as_slice-apps.ensures) c.if-turn-apps.true in
    let ops = c.as_slice-ops.result.now in
    let old = c.index_mut-app.result.now in
    let are : ops ≡ get_or c.args.scenario.now.scripts c.args.turn ops = rw (c.as_slice-ops.ensures, ← c.as_slice.ensures) c.index-as_slice-turn.is in
    let more : old.made < length ops = subst (λ (a : AppState). a.made < length ops) c.app.view_is c.if-app-ops.true in
    let stays : old.has_left ≡ false = ap (λ (a : AppState). a.has_left) (sym c.app.view_is) ∙ c.if-app.false in
    rw (← c.run.view_is) (λ idle start few kept. op_turn_from c.args.scenario.now c.args.turn idle c.args.machine.now c.make_op.new.machine _ start (g.D.Device.prospect c.args.device.now) old c.make_op.new.self ops c.in_ok-went.went within few c.index_mut-app.ensures.value are c.in_ok-went.ensures more stays kept)

pub returns-then-app-ops-clause-counts : goal.returns-then-app-ops-clause-counts
returns-then-app-ops-clause-counts g c =
    let turn : c.args.turn < length c.args.scenario.now.scripts = rw (← c.as_slice-apps.ensures) c.if-turn-apps.true in
    let run : RunState = record { apps = c.run.inside.apps.items; side = c.run.inside.side; compositor = c.run.inside.compositor } in
    let size : length run.apps ≡ length c.args.scenario.now.scripts = ap (λ (r : RunState). length r.apps) c.run.view_is ∙ c.requires.run.3.kept.apps.count in
    let within : c.args.turn < length run.apps = omega (arith, size, turn) in
    rw (← c.run.view_is) (op_turn_counts c.args.machine.now c.make_op.new.machine run c.args.turn c.as_slice-ops.result.now c.index_mut-app.result.now c.make_op.new.self c.in_ok-went.went within c.index_mut-app.ensures.value c.in_ok-went.ensures)

pub leave-requires-clause-present : goal.leave-requires-clause-present
leave-requires-clause-present g c =
    let kept = c.requires.run in
    let within : c.args.turn < length c.args.scenario.now.scripts = rw (← c.as_slice-apps.ensures) c.if-turn-apps.true in
    is_present c.args.scenario.now c.args.turn kept.0 c.args.machine.now c.args.run.now kept.1 (g.D.Device.prospect c.args.device.now) c.index_mut-app.result.now within
    (c.index_mut-app.ensures.value ∙ ap (λ (r : RunState). get_or r.apps c.args.turn c.index_mut-app.result.now) c.run.view_is) (ap (λ (a : AppState). a.has_left) (sym c.app.view_is) ∙ c.if-app.false) kept.3

pub returns-then-turn-apps-clause-run : goal.returns-then-turn-apps-clause-run
returns-then-turn-apps-clause-run g c =
    let within : c.args.turn < length c.args.scenario.now.scripts = rw (← c.as_slice-apps.ensures) c.if-turn-apps.true in
    let ops = c.as_slice-ops.result.now in
    let old = c.index_mut-app.result.now in
    let are : ops ≡ get_or c.args.scenario.now.scripts c.args.turn ops = rw (c.as_slice-ops.ensures, ← c.as_slice.ensures) c.index-as_slice-turn.is in
    let not_less = c.if-app-ops.false in
    let all : length ops ≤ old.made = subst (λ (a : AppState). length ops ≤ a.made) c.app.view_is (omega (arith, not_less)) in
    let stays : old.has_left ≡ false = ap (λ (a : AppState). a.has_left) (sym c.app.view_is) ∙ c.if-app.false in
    rw (← c.run.view_is) (λ idle start few kept. leaves_from c.args.scenario.now c.args.turn idle c.args.machine.now c.leave.new.machine _ start (g.D.Device.prospect c.args.device.now) old c.leave.new.self ops within few c.index_mut-app.ensures.value are c.in_ok-leave.ensures all stays kept)

pub returns-then-turn-apps-clause-counts : goal.returns-then-turn-apps-clause-counts
returns-then-turn-apps-clause-counts g c =
    let turn : c.args.turn < length c.args.scenario.now.scripts = rw (← c.as_slice-apps.ensures) c.if-turn-apps.true in
    let run : RunState = record { apps = c.run.inside.apps.items; side = c.run.inside.side; compositor = c.run.inside.compositor } in
    let size : length run.apps ≡ length c.args.scenario.now.scripts = ap (λ (r : RunState). length r.apps) c.run.view_is ∙ c.requires.run.3.kept.apps.count in
    let within : c.args.turn < length run.apps = omega (arith, size, turn) in
    rw (← c.run.view_is) (leave_turn_counts c.args.machine.now c.leave.new.machine run c.args.turn c.index_mut-app.result.now c.leave.new.self within c.index_mut-app.ensures.value c.in_ok-leave.ensures)

-- ---- the compositor's turn

last_turn : (turn apps : ℕ) → apps ≤ turn → turn ≢ apps → turn < apps + 2 → turn ≡ apps + 1
last_turn turn apps least apart within = omega (arith, least, apart, within)

pub compositor_turn-requires-clause-run : goal.compositor_turn-requires-clause-run
compositor_turn-requires-clause-run g c =
    let kept = c.requires.run in
    let turn : c.args.turn ≡ length c.args.scenario.now.scripts + 1 = rw (← c.as_slice-apps.ensures) (last_turn c.args.turn (length c.as_slice-apps.result.now) c.if-turn-apps.false c.if-turn-apps-2.false (rw c.as_slice-apps.ensures c.requires.within)) in
    (g.D.Device.prospect c.args.device.now, (kept.0, kept.1, kept.2, subst (λ (t : ℕ). RunInvariant c.args.scenario.now t kept.0 c.args.machine.now c.args.run.now kept.1 (g.D.Device.prospect c.args.device.now)) turn kept.3))

pub returns-clause-run : goal.returns-clause-run
returns-clause-run g c =
    let turn : c.args.turn ≡ length c.args.scenario.now.scripts + 1 = rw (← c.as_slice-apps.ensures) (last_turn c.args.turn (length c.as_slice-apps.result.now) c.if-turn-apps.false c.if-turn-apps-2.false (rw c.as_slice-apps.ensures c.requires.within)) in
    rw turn (λ idle start few kept. c.in_ok-went-2.ensures.run (g.D.Device.prospect c.args.device.now) idle start few kept)
