use Rattle.std.proofs.Common.{rules, ◌≡◌, option_map, true, false, Ok}
use Rattle.serde_json.specs.View.{view}
use Rattle.xr_model.specs.scenario.OpReading.{op_name, op_in}
use Rattle.xr_model.specs.scenario.ReadOp.{ReadOp}
use Rattle.xr_scenario.proofs.FullRows.{read_alone, read_with_another}
use Rattle.xr_scenario.proofs.read_op.read_op.Goals as goal

pub returns-then-only-clause-reads : goal.returns-then-only-clause-reads
returns-then-only-clause-reads c =
    let l : ReadOp = record { op = c.in_ok-read.read.op; name = option_map (λ t. t.now) c.in_ok-read.read.name } in
    let named : op_name (view c.args.value.now) ≡ Ok c.in_ok-row.row = search rules in
    let read : op_in c.args.named_ops.now (view c.args.value.now) c.in_ok-row.row ≡ Ok l = search rules in
    let alone : c.only_its_keys-only.result ≡ true = search rules in
    read_alone c.args.version c.args.named_ops.now (view c.args.value.now) c.in_ok-row.row l c.only_its_keys-only.result named read c.only_its_keys-only.ensures alone

pub returns-clause-reads : goal.returns-clause-reads
returns-clause-reads c =
    let l : ReadOp = record { op = c.in_ok-read.read.op; name = option_map (λ t. t.now) c.in_ok-read.read.name } in
    let named : op_name (view c.args.value.now) ≡ Ok c.in_ok-row.row = search rules in
    let read : op_in c.args.named_ops.now (view c.args.value.now) c.in_ok-row.row ≡ Ok l = search rules in
    let other : c.only_its_keys-only.result ≡ false = search rules in
    read_with_another c.args.version c.args.named_ops.now (view c.args.value.now) c.in_ok-row.row l c.only_its_keys-only.result named read c.only_its_keys-only.ensures other
