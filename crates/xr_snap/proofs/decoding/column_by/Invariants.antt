use Rattle.std.proofs.Common.{◌≡◌, ◌+◌, drop}
use Rattle.xr_model.specs.machine.Publication.{column_from}
use Rattle.xr_snap.proofs.decoding.column_by.Given as goal

abbrev pub invariant-loop-place : goal.invariant-loop-place
invariant-loop-place l = column_from 1 l.users l.declared l.sub ≡ column_from (l.place + 1) (drop l.place l.users) (drop l.place l.declared) l.sub
