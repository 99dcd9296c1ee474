use Rattle.std.proofs.Common.{rules, ◌≡◌, ◌+◌, ◌<◌, [], ◌∷◌, ◌++◌, length, length-append, get_or, Ok, ◌∙◌}
use Rattle.serde_json.specs.View.{view}
use Rattle.xr_model.specs.scenario.Scenario.{script_of}
use Rattle.xr_scenario.proofs.ScriptForm.{all_in_form-snoc}
use Rattle.xr_scenario.proofs.OpReading.{scripts_more}
use Rattle.xr_scenario.proofs.reader.read_scripts.Goals as goal

pub loop-value-preserved : goal.loop-value-preserved
loop-value-preserved c =
    let inside : c.loop-value.value-index < length c.args.values.now = search rules in
    let read : script_of c.args.version (c.loop-value.script + 1) (view (get_or c.args.values.now c.loop-value.value-index c.value-item.result)) ≡ Ok c.in-Ok.ops = search rules in
    let added : c.add.new.list.items ≡ c.loop-value.scripts.items ++ c.in-Ok.ops ∷ [] = search rules in
    record {
      count = search rules;
      made = rw (added, length-append, c.loop-value.invariant.made) (search rules);
      meant = rw added (c.loop-value.invariant.meant ∙ scripts_more c.args.version (c.loop-value.script + 1) c.args.values.now c.loop-value.value-index c.value-item.result c.loop-value.scripts.items c.in-Ok.ops inside read);
      formed = rw added (all_in_form-snoc c.loop-value.scripts.items c.in-Ok.ops c.loop-value.invariant.formed c.in-Ok.ensures.formed);
    }
