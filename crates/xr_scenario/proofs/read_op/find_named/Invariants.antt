use Rattle.std.proofs.Common.{◌≡◌, drop}
use Rattle.std.specs.List.{find}
use Rattle.std.specs.Str.{bytes_eq}
use Rattle.xr_types.specs.Op.{name_of_call}
use Rattle.xr_scenario.proofs.read_op.find_named.Given as goal

abbrev pub invariant-loop-op : goal.invariant-loop-op
invariant-loop-op l = find (λ c. bytes_eq l.text (name_of_call c)) l.ops ≡ find (λ c. bytes_eq l.text (name_of_call c)) (drop l.op-index l.ops)
