use Rattle.std.proofs.Common.{◌≡◌, ◌+◌, ◌++◌, drop}
use Rattle.xr_serial.specs.inside.AtEnd.{apps_next}
use Rattle.xr_serial.proofs.lists.add_apps.Given as goal

abbrev pub invariant-loop-place : goal.invariant-loop-place
invariant-loop-place l = l.initial.list.items ++ apps_next 1 l.scripts l.apps ≡ l.list.items ++ apps_next (l.place + 1) (drop l.place l.scripts) (drop l.place l.apps)
