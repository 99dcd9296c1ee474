use Rattle.std.proofs.Common.{sym, subst}
use Rattle.std.specs.Prelude.{All}
use Rattle.xr_bench.specs.Resting.{Rests}
use Rattle.xr_bench.proofs.Resting.{all_rest}
use Rattle.xr_bench.proofs.turns.have_turns.Goals as goal

pub work_on-requires-clause-rest : goal.work_on-requires-clause-rest
work_on-requires-clause-rest g c κs within =
    let id = c.in_ok-table.table.table.shared.table_id in
    subst (λ l. All (Rests id) l) (sym c.as_mut_slice.ensures.value) (all_rest id c.args.work.threads c.in_ok-table.seats.items c.in_ok-table.ensures.seats)
