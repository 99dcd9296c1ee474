use Rattle.std.proofs.Common.{rules, arith, ◌≡◌, ◌==◌, ◌<◌, Some, None, Ok, length, subst, sym, ◌∙◌}
use Rattle.std.specs.Prelude.{if◌then◌else◌}
use Rattle.xr_model.specs.machine.Publication.{column_from}
use Rattle.xr_snap.specs.Reading.{publication_seen, shown_cells}
use Rattle.xr_snap.specs.declared.looking.Heading.{Heading}
use Rattle.xr_snap.proofs.Answered.{no_session, no_action, lost, not_attached, other_type, no_path, told, places_here, no_action_here, stands_here, asks_here, column_here, shows_here}
use Rattle.xr_snap.proofs.UserColumns.{column_near}
use Rattle.xr_snap.proofs.answering.look.Goals as goal

pub returns-in_default-clause-answer : goal.returns-in_default-clause-answer
returns-in_default-clause-answer g c =
    let m = c.args.seat.now.me in
    let w = c.args.wanted.now in
    sym (no_session (publication_seen m.0.eyes) w.kind w.session w.action w.sub (sym c.find_session.ensures.found ∙ c.in_default.is))

pub returns-in_default-find_action-clause-answer : goal.returns-in_default-find_action-clause-answer
returns-in_default-find_action-clause-answer g c =
    let m = c.args.seat.now.me in
    let w = c.args.wanted.now in
    let m1 = c.find_session.new.seat.me in
    let first = c.find_session.ensures.same.1 in
    sym (no_action (publication_seen m.0.eyes) w.kind w.session w.action w.sub (no_action_here m m1 first w.action c.find_action.result c.find_action.ensures.found c.in_default-find_action.is))

pub standing_at-standing-requires-clause-there : goal.standing_at-standing-requires-clause-there
standing_at-standing-requires-clause-there g c =
    let m = c.args.seat.now.me in
    let w = c.args.wanted.now in
    let m1 = c.find_session.new.seat.me in
    let first = c.find_session.ensures.same.1 in
    places_here m m1 first c.args.heading.now c.requires.heading w.session w.action c.in-Some.here c.in-Some-find_action.place c.find_session.result c.find_action.result c.find_session.ensures.found c.in-Some.is c.find_action.ensures.found c.in-Some-find_action.is

pub returns-then-standing-clause-answer : goal.returns-then-standing-clause-answer
returns-then-standing-clause-answer g c =
    let m = c.args.seat.now.me in
    let w = c.args.wanted.now in
    let m1 = c.find_session.new.seat.me in
    let first = c.find_session.ensures.same.1 in
    let m2 = c.find_action.new.seat.me in
    let second = c.find_action.ensures.same.1 in
    let st = c.standing_at-standing in
    let known = stands_here m m1 first m2 second w.session w.action c.in-Some.here c.in-Some-find_action.place st.result c.find_session.result c.find_action.result c.find_session.ensures.found c.in-Some.is c.find_action.ensures.found c.in-Some-find_action.is st.ensures.standing in
    sym (lost (publication_seen m.0.eyes) w.kind w.session w.action w.sub c.in-Some.here c.in-Some-find_action.place st.result known c.if-standing.true)

pub returns-then-not-standing-clause-answer : goal.returns-then-not-standing-clause-answer
returns-then-not-standing-clause-answer g c =
    let m = c.args.seat.now.me in
    let w = c.args.wanted.now in
    let m1 = c.find_session.new.seat.me in
    let first = c.find_session.ensures.same.1 in
    let m2 = c.find_action.new.seat.me in
    let second = c.find_action.ensures.same.1 in
    let st = c.standing_at-standing in
    let known = stands_here m m1 first m2 second w.session w.action c.in-Some.here c.in-Some-find_action.place st.result c.find_session.result c.find_action.result c.find_session.ensures.found c.in-Some.is c.find_action.ensures.found c.in-Some-find_action.is st.ensures.standing in
    sym (not_attached (publication_seen m.0.eyes) w.kind w.session w.action w.sub c.in-Some.here c.in-Some-find_action.place st.result known c.if-standing.false c.if-not-standing.true)

pub asked_at-asked-requires-clause-there : goal.asked_at-asked-requires-clause-there
asked_at-asked-requires-clause-there g c =
    let m = c.args.seat.now.me in
    let w = c.args.wanted.now in
    let m1 = c.find_session.new.seat.me in
    let first = c.find_session.ensures.same.1 in
    let m2 = c.find_action.new.seat.me in
    let second = c.find_action.ensures.same.1 in
    let m3 = c.standing_at-standing.new.seat.me in
    let third = c.standing_at-standing.ensures.same.1 in
    let places = places_here m m1 first c.args.heading.now c.requires.heading w.session w.action c.in-Some.here c.in-Some-find_action.place c.find_session.result c.find_action.result c.find_session.ensures.found c.in-Some.is c.find_action.ensures.found c.in-Some-find_action.is in
    let here = subst (λ (h : Heading). c.in-Some-find_action.place < h.actions) c.requires.heading places.1 in
    subst (λ n. c.in-Some-find_action.place < length (publication_seen n.0.eyes).actions) (sym (third ∙ second ∙ first)) here

pub returns-then-not-is_same_type-clause-answer : goal.returns-then-not-is_same_type-clause-answer
returns-then-not-is_same_type-clause-answer g c =
    let m = c.args.seat.now.me in
    let w = c.args.wanted.now in
    let m1 = c.find_session.new.seat.me in
    let first = c.find_session.ensures.same.1 in
    let m2 = c.find_action.new.seat.me in
    let second = c.find_action.ensures.same.1 in
    let m3 = c.standing_at-standing.new.seat.me in
    let third = c.standing_at-standing.ensures.same.1 in
    let st = c.standing_at-standing in
    let known = stands_here m m1 first m2 second w.session w.action c.in-Some.here c.in-Some-find_action.place st.result c.find_session.result c.find_action.result c.find_session.ensures.found c.in-Some.is c.find_action.ensures.found c.in-Some-find_action.is st.ensures.standing in
    let asks = asks_here m m1 first m2 second m3 third c.in-Some-find_action.place c.asked_at-asked.result c.asked_at-asked.ensures.asked in
    sym (other_type (publication_seen m.0.eyes) w.kind w.session w.action w.sub c.in-Some.here c.in-Some-find_action.place st.result known c.if-standing.false c.if-not-standing.false c.asked_at-asked.result asks (sym c.is_same_type.ensures ∙ c.if-not-is_same_type.true))

pub returns-in_default-column_by-clause-answer : goal.returns-in_default-column_by-clause-answer
returns-in_default-column_by-clause-answer g c =
    let m = c.args.seat.now.me in
    let w = c.args.wanted.now in
    let m1 = c.find_session.new.seat.me in
    let first = c.find_session.ensures.same.1 in
    let m2 = c.find_action.new.seat.me in
    let second = c.find_action.ensures.same.1 in
    let m3 = c.standing_at-standing.new.seat.me in
    let third = c.standing_at-standing.ensures.same.1 in
    let m4 = c.asked_at-asked.new.seat.me in
    let fourth = c.asked_at-asked.ensures.same.1 in
    let st = c.standing_at-standing in
    let known = stands_here m m1 first m2 second w.session w.action c.in-Some.here c.in-Some-find_action.place st.result c.find_session.result c.find_action.result c.find_session.ensures.found c.in-Some.is c.find_action.ensures.found c.in-Some-find_action.is st.ensures.standing in
    let asks = asks_here m m1 first m2 second m3 third c.in-Some-find_action.place c.asked_at-asked.result c.asked_at-asked.ensures.asked in
    let declared = c.asked_at-asked.result.declared in
    let column = column_here m m1 first m2 second m3 third m4 fourth w.sub declared c.atoms-users.result c.column_by.result None c.column_by.ensures c.atoms-users.ensures.atoms c.in_default-column_by.is in
    sym (no_path (publication_seen m.0.eyes) w.kind w.session w.action w.sub c.in-Some.here c.in-Some-find_action.place st.result known c.if-standing.false c.if-not-standing.false c.asked_at-asked.result asks (sym c.is_same_type.ensures ∙ c.if-not-is_same_type.false) column)

pub column_at-cells-requires-clause-there : goal.column_at-cells-requires-clause-there
column_at-cells-requires-clause-there g c =
    let m = c.args.seat.now.me in
    let w = c.args.wanted.now in
    let m1 = c.find_session.new.seat.me in
    let first = c.find_session.ensures.same.1 in
    let places = places_here m m1 first c.args.heading.now c.requires.heading w.session w.action c.in-Some.here c.in-Some-find_action.place c.find_session.result c.find_action.result c.find_session.ensures.found c.in-Some.is c.find_action.ensures.found c.in-Some-find_action.is in
    let declared = c.asked_at-asked.result.declared in
    let found : (if w.sub == 0 then Some 0 else column_from 1 c.atoms-users.result declared w.sub) ≡ Some c.in-Some-column_by.column = sym c.column_by.ensures ∙ c.in-Some-column_by.is in
    let five : length declared ≡ 5 = search rules in
    let near = column_near c.atoms-users.result declared w.sub c.in-Some-column_by.column found in
    (places.0, places.1, omega (arith, near, five))

pub returns-clause-answer : goal.returns-clause-answer
returns-clause-answer g c =
    let m = c.args.seat.now.me in
    let w = c.args.wanted.now in
    let m1 = c.find_session.new.seat.me in
    let first = c.find_session.ensures.same.1 in
    let m2 = c.find_action.new.seat.me in
    let second = c.find_action.ensures.same.1 in
    let m3 = c.standing_at-standing.new.seat.me in
    let third = c.standing_at-standing.ensures.same.1 in
    let m4 = c.asked_at-asked.new.seat.me in
    let fourth = c.asked_at-asked.ensures.same.1 in
    let m5 = c.atoms-users.new.seat.me in
    let fifth = c.atoms-users.ensures.same.1 in
    let st = c.standing_at-standing in
    let known = stands_here m m1 first m2 second w.session w.action c.in-Some.here c.in-Some-find_action.place st.result c.find_session.result c.find_action.result c.find_session.ensures.found c.in-Some.is c.find_action.ensures.found c.in-Some-find_action.is st.ensures.standing in
    let asks = asks_here m m1 first m2 second m3 third c.in-Some-find_action.place c.asked_at-asked.result c.asked_at-asked.ensures.asked in
    let declared = c.asked_at-asked.result.declared in
    let column = column_here m m1 first m2 second m3 third m4 fourth w.sub declared c.atoms-users.result c.column_by.result (Some c.in-Some-column_by.column) c.column_by.ensures c.atoms-users.ensures.atoms c.in-Some-column_by.is in
    let shows = shows_here m m1 first m2 second m3 third m4 fourth m5 fifth c.in-Some.here c.in-Some-find_action.place c.in-Some-column_by.column (shown_cells c.column_at-cells.result) c.column_at-cells.ensures.column in
    (λ z. Ok (c.success.ensures z, c.shown.ensures z))
    ∙ sym (told (publication_seen m.0.eyes) w.kind w.session w.action w.sub c.in-Some.here c.in-Some-find_action.place st.result known c.if-standing.false c.if-not-standing.false c.asked_at-asked.result asks c.in-Some-column_by.column column (shown_cells c.column_at-cells.result) shows (sym c.is_same_type.ensures ∙ c.if-not-is_same_type.false))
