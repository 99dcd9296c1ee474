use Rattle.std.proofs.Common.{ap, sym, subst, ne_eqb}
use Rattle.std.specs.Prelude.{MatchOption}
use Rattle.xr_snap.specs.declared.finding.Handles.{Handles}
use Rattle.xr_snap.specs.declared.looking.Heading.{Heading}
use Rattle.xr_snap.specs.Reading.{AreThere, IsNone, IsFirst, words_in}
use Rattle.xr_snap.proofs.Seen.{sessions_there, session_place_is}
use Rattle.xr_snap.proofs.finding.find_session.Goals as goal

pub find_handle-requires-clause-there : goal.find_handle-requires-clause-there
find_handle-requires-clause-there g c =
    let y = c.args.seat.now.me.0.eyes in
    let h = c.args.heading.now in
    let there = sessions_there y c.requires.fits h.actions h.sessions (ap (λ (x : Heading). x.actions) c.requires.heading) (ap (λ (x : Heading). x.sessions) c.requires.heading) in
    subst (AreThere (words_in y)) (sym (λ z. record { first = c.sessions_from.ensures z; apart = c.per_session.ensures z; count = h.sessions })) there

pub returns-clause-found : goal.returns-clause-found
returns-clause-found g c =
    let y = c.args.seat.now.me.0.eyes in
    let h = c.args.heading.now in
    let found = subst (λ (x : Handles). MatchOption c.find_handle.result (IsNone (words_in y) x c.args.session) (λ i. IsFirst (words_in y) x c.args.session i)) (λ z. record { first = c.sessions_from.ensures z; apart = c.per_session.ensures z; count = h.sessions }) c.find_handle.ensures.found in
    session_place_is y c.requires.fits h.actions h.sessions (ap (λ (x : Heading). x.actions) c.requires.heading) (ap (λ (x : Heading). x.sessions) c.requires.heading) c.args.session c.find_handle.result found (ne_eqb c.args.session 0 c.if-session-eq0.false)
