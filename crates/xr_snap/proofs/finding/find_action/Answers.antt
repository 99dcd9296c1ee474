use Rattle.std.proofs.Common.{ap}
use Rattle.xr_snap.specs.declared.looking.Heading.{Heading}
use Rattle.xr_snap.proofs.Seen.{actions_there, action_place_is}
use Rattle.xr_snap.proofs.finding.find_action.Goals as goal

pub find_handle-requires-clause-there : goal.find_handle-requires-clause-there
find_handle-requires-clause-there g c = actions_there c.args.seat.now.me.0.eyes c.requires.fits c.args.heading.now.actions (ap (λ (h : Heading). h.actions) c.requires.heading)

pub returns-clause-found : goal.returns-clause-found
returns-clause-found g c =
    action_place_is c.args.seat.now.me.0.eyes c.requires.fits c.args.heading.now.actions (ap (λ (h : Heading). h.actions) c.requires.heading) c.args.action c.find_handle.result c.find_handle.ensures.found
