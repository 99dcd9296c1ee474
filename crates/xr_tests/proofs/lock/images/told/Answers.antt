use Rattle.xr_runtime.specs.Passes.{table_of}
use Rattle.xr_tests.proofs.Going.{popped}
use Rattle.xr_tests.proofs.lock.images.told.Goals as goal

pub count_right-requires-clause-is : goal.count_right-requires-clause-is
count_right-requires-clause-is g c = popped (table_of c.in-Ok.runtime) c.in-Ok.passes.apps.items c.pop.new.self.items c.in-Some.app c.in-Some.ensures.items c.in-Ok.ensures.started.passes
