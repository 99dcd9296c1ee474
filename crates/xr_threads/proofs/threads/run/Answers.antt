use Rattle.std.proofs.Common.{◌≡◌, ◌∙◌, sym, ap, List, length}
use Rattle.std.proofs.lemmas.List.{length-map}
use Rattle.xr_types.specs.declared.scenario.Op.{Op}
use Rattle.xr_runtime.specs.declared.passes.AppPass.{AppPass}
use Rattle.xr_runtime.specs.Passes.{table_of}
use Rattle.xr_threads.specs.declared.app.AppWorker.{AppWorker}
use Rattle.xr_threads.specs.inside.Working.{pass_of}
use Rattle.xr_threads.proofs.Workers.{may_work_all, at_rest, as_many}
use Rattle.xr_threads.proofs.Ending.{closes, ran_if}
use Rattle.xr_threads.proofs.threads.run.Goals as goal

pub run_actors-listed-requires-clause-may : goal.run_actors-listed-requires-clause-may
run_actors-listed-requires-clause-may g c κs within =
    let started = c.in_ok-runtime.ensures.started in
    record {
      scripts = may_work_all (table_of c.in_ok-runtime.runtime) c.args.scenario.now c.in_ok-workers.workers.items c.in_ok-runtime.passes.apps.items c.in_ok-workers.ensures (started.count ∙ ap (λ (l : List (List Op)). length l) c.as_slice-count.ensures) started.passes;
      compositor = started.compositor;
      none_shown = started.none_shown;
      none_held = started.none_held;
      device = started.device;
      none_told = started.none_told;
    }

pub close-closed-requires : goal.close-closed-requires
close-closed-requires g c =
    let started = c.in_ok-runtime.ensures.started in
    let ws : List AppWorker = c.run_actors-listed.new.workers.items in
    let many : length ws ≡ length c.in_ok-runtime.passes.apps.items = as_many ws c.in_ok-workers.workers.items c.in_ok-runtime.passes.apps.items c.run_actors-listed.ensures.count c.in_ok-workers.ensures in
    record {
      all = record {
        count = ap (λ (l : List AppPass). length l) c.part-all.ensures.passes_are ∙ (length-map ws pass_of ∙ (many ∙ (started.count ∙ sym started.apps_are)));
        apps = at_rest (table_of c.in_ok-runtime.runtime) c.args.scenario.now ws _ _ c.part-all.new.passes.items c.part-all.ensures.passes_are c.run_actors-listed.ensures.have;
        compositor = c.run_actors-listed.ensures.composed.is.rests;
        device = c.run_actors-listed.ensures.told.is.rests;
      };
    }

pub returns-clause-ran : goal.returns-clause-ran
returns-clause-ran g c =
    let started = c.in_ok-runtime.ensures.started in
    let ws : List AppWorker = c.run_actors-listed.new.workers.items in
    let many : length ws ≡ length c.in_ok-runtime.passes.apps.items = as_many ws c.in_ok-workers.workers.items c.in_ok-runtime.passes.apps.items c.run_actors-listed.ensures.count c.in_ok-workers.ensures in
    let scripts : length c.as_slice-count.result.now ≡ length c.args.scenario.now.scripts = ap (λ (l : List (List Op)). length l) c.as_slice-count.ensures in
    ran_if _ _ (table_of c.in_ok-runtime.runtime) ws c.in_ok-runtime.runtime _ c.close-closed.result c.args.scenario.now c.close-closed.ensures.closed (started.apps_are ∙ scripts) c.part-all.new.lists.items c.part-all.result
    c.part-all.ensures (many ∙ (started.count ∙ scripts)) c.run_actors-listed.ensures.have c.run_actors-listed.result.composed c.run_actors-listed.result.told _ _
    c.in_ok-runtime.passes.compositor started.compositor started.none_shown.1 c.run_actors-listed.ensures.composed c.in_ok-runtime.passes.device started.device started.none_told c.run_actors-listed.ensures.told
    c.lists-lists.result c.lists-lists.ensures

pub returns-clause-closed : goal.returns-clause-closed
returns-clause-closed g c =
    let started = c.in_ok-runtime.ensures.started in
    let ws : List AppWorker = c.run_actors-listed.new.workers.items in
    let many : length ws ≡ length c.in_ok-runtime.passes.apps.items = as_many ws c.in_ok-workers.workers.items c.in_ok-runtime.passes.apps.items c.run_actors-listed.ensures.count c.in_ok-workers.ensures in
    let scripts : length c.as_slice-count.result.now ≡ length c.args.scenario.now.scripts = ap (λ (l : List (List Op)). length l) c.as_slice-count.ensures in
    let ran = c.run_actors-listed.ensures in
    closes _ _ (table_of c.in_ok-runtime.runtime) c.in_ok-runtime.runtime _ c.close-closed.result c.args.scenario.now c.close-closed.ensures.closed (started.apps_are ∙ scripts) ws c.part-all.ensures.passes_are (many ∙ (started.count ∙ scripts)) ran.have
    c.in_ok-runtime.passes.compositor c.in_ok-runtime.passes.device c.run_actors-listed.result.composed c.run_actors-listed.result.told _ _
    started.compositor started.none_shown.1 ran.composed ran.composed_gated started.device started.none_told ran.told ran.told_gated
