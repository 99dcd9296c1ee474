use Rattle.std.proofs.Common.{length}
use Rattle.xr_runtime.specs.Passes.{table_of}
use Rattle.xr_compositor.specs.Turns.{GivesBack}
use Rattle.xr_compositor.proofs.give_all_back.Given as goal

-- some were given back
abbrev pub invariant-loop-pass : goal.invariant-loop-pass
invariant-loop-pass l = GivesBack (table_of l.runtime) l.initial.pass l.pass

abbrev pub decreases-loop-pass : goal.decreases-loop-pass
decreases-loop-pass l = length l.pass.held.items
