use Rattle.std.proofs.Common.{◌≡◌, map}
use Rattle.xr_threads.specs.inside.Working.{pass_of}
use Rattle.xr_threads.proofs.app.workers_of.Given as goal

abbrev pub invariant-loop-pass : goal.invariant-loop-pass
invariant-loop-pass l = map pass_of l.workers.items ≡ l.yielded
