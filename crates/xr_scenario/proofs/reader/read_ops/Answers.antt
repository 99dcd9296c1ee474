use Rattle.std.proofs.Common.{rules, ◌≡◌, ◌+◌, ◌<◌, [], ◌∷◌, ◌++◌, length, length-append, get_or, option_map, Ok, ◌∙◌}
use Rattle.serde_json.specs.View.{view}
use Rattle.xr_model.specs.scenario.ReadOp.{ReadOp}
use Rattle.xr_model.specs.scenario.OpReading.{read_op_of, with_name, with_name_of}
use Rattle.xr_scenario.proofs.ScriptForm.{are_of-next, in_form-next}
use Rattle.xr_scenario.proofs.OpReading.{ops_more}
use Rattle.xr_scenario.proofs.reader.read_ops.Goals as goal

pub loop-value-preserved : goal.loop-value-preserved
loop-value-preserved c =
    let l : ReadOp = record { op = c.in-Ok.read.op; name = option_map (λ t. t.now) c.in-Ok.read.name } in
    let inside : c.loop-value.value-index < length c.args.values.now = search rules in
    let read : read_op_of c.args.version c.loop-value.named_ops (view (get_or c.args.values.now c.loop-value.value-index c.value-item.result)) ≡ Ok l = search rules in
    let added : c.add.new.list.items ≡ c.loop-value.ops.items ++ c.in-Ok.read.op ∷ [] = search rules in
    let named : c.keep.new.named_ops ≡ with_name_of (c.loop-value.place + 1) c.sort_named-sort.result l.name c.loop-value.named_ops = search rules in
    let kept : c.keep.new.named_ops ≡ with_name (c.loop-value.place + 1) l c.loop-value.named_ops = named ∙ c.sort_named-sort.ensures (c.loop-value.place + 1) c.loop-value.named_ops in
    let place : c.loop-value.place + 1 ≡ length c.loop-value.ops.items + 1 = search rules in
    record {
      count = search rules;
      made = rw (added, length-append, c.loop-value.invariant.made) (search rules);
      meant = rw (added, kept) (c.loop-value.invariant.meant ∙ ops_more c.args.version c.args.script (c.loop-value.place + 1) c.loop-value.named_ops c.args.values.now c.loop-value.value-index c.value-item.result c.loop-value.ops.items l inside read);
      known = rw (added, kept) (are_of-next c.loop-value.named_ops c.loop-value.ops.items l.op l.name (c.loop-value.place + 1) place c.loop-value.invariant.known);
      formed = rw added (in_form-next c.loop-value.named_ops c.loop-value.ops.items l.op c.loop-value.invariant.known c.loop-value.invariant.formed c.in-Ok.ensures.formed);
    }
