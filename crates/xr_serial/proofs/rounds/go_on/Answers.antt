use Rattle.std.proofs.Common.{◌≡◌, ◌≤◌, ◌<◌, ◌+◌, length, refl, ◌∙◌, arith}
use Rattle.std.specs.Prelude.{if◌then◌else◌}
use Rattle.xr_serial.specs.inside.Turns.{actors_of}
use Rattle.xr_serial.specs.inside.RunInvariant.{most_calls, calls_made}
use Rattle.xr_serial.proofs.TurnOrder.{behind_within}
use Rattle.xr_serial.proofs.Work.{made_less, passed_less}
use Rattle.xr_serial.proofs.rounds.go_on.Goals.{then-went, else-went}
use Rattle.xr_serial.proofs.rounds.go_on.Goals as goal
use Rattle.xr_runs.proofs.Failing.{reads_on}

pub one_turn-requires-clause-run : goal.one_turn-requires-clause-run
one_turn-requires-clause-run g c =
    let start = c.requires.run.0 in
    let few : c.loop-idle.idle < actors_of c.args.scenario.now = rw (← c.as_slice.ensures) c.loop-idle-test.true in
    (c.loop-idle.idle, start, few, c.loop-idle.invariant.kept start c.requires.run.1)

pub loop-idle-smaller : goal.loop-idle-smaller
loop-idle-smaller g c =
    let start = c.requires.run.0 in
    let few : c.loop-idle.idle < actors_of c.args.scenario.now = rw (← c.as_slice.ensures) c.loop-idle-test.true in
    let work = (c.in_ok-went.ensures.run c.loop-idle.idle start few (c.loop-idle.invariant.kept start c.requires.run.1)).kept.work in
    let all = most_calls c.args.scenario.now.scripts in
    let actors = length c.as_slice.result.now + 2 in
    let within : calls_made c.one_turn.new.machine c.one_turn.new.run ≤ all = omega (arith, work) in
    let most : actors ≤ 10 = rw c.as_slice.ensures (let most = c.requires.runs.most in omega (arith, most)) in
    elim c.if-went.branch [
      | then-went w ↦ made_less all (calls_made c.loop-idle.machine c.loop-idle.run) (calls_made c.one_turn.new.machine c.one_turn.new.run) actors c.loop-idle.idle c.if-went.idle (c.in_ok-went.ensures.counts ∙ rw w.if-went.true refl) within most c.loop-idle-test.true w.idle-is
      | else-went w ↦ passed_less all (calls_made c.loop-idle.machine c.loop-idle.run) (calls_made c.one_turn.new.machine c.one_turn.new.run) actors c.loop-idle.idle c.if-went.idle (c.in_ok-went.ensures.counts ∙ rw w.if-went.false refl) w.idle-is c.loop-idle-test.true
    ]

pub loop-idle-preserved : goal.loop-idle-preserved
loop-idle-preserved g c =
    let less = c.loop-idle-test.true in
    let later = c.loop-idle.invariant.later in
    let later2 = c.in_ok-went.ensures.later in
    let few : c.loop-idle.idle < actors_of c.args.scenario.now = rw (← c.as_slice.ensures) c.loop-idle-test.true in
    let idle_is : c.if-went.idle ≡ (if c.in_ok-went.went then 0 else c.loop-idle.idle + 1) = elim c.if-went.branch [
      | then-went w ↦ w.idle-is ∙ rw w.if-went.true refl
      | else-went w ↦ w.idle-is ∙ rw w.if-went.false refl
    ] in
    record {
      most = elim c.if-went.branch [
        | then-went w ↦ let none = w.idle-is in omega (arith, none)
        | else-went w ↦ let more = w.idle-is in omega (arith, more, less)
      ];
      turn = rw c.behind-turn.ensures (behind_within c.loop-idle.turn (length c.as_slice.result.now + 2) c.loop-idle.invariant.turn);
      kept = λ start kept. rw (c.behind-turn.ensures, idle_is, c.as_slice.ensures) (c.in_ok-went.ensures.run c.loop-idle.idle start few (c.loop-idle.invariant.kept start kept));
      later = omega (arith, later, later2);
      reads = reads_on _ _ _ c.loop-idle.invariant.reads c.in_ok-went.ensures.reads;
    }
