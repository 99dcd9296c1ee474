use Rattle.std.proofs.Common.{arith, ℕ, ◌<◌, ◌+◌, length, get_or, Some, ap, subst, sym, ◌∙◌}
use Rattle.xr_snap.specs.Reading.{words_in}
use Rattle.xr_snap.proofs.Seen.{has_standing, standing_seen}
use Rattle.xr_snap.proofs.looking.standing_at.Goals as goal

pub session_word-at-requires : goal.session_word-at-requires
session_word-at-requires g c =
    let there = has_standing c.args.seat.now.me.0.eyes c.requires.fits c.args.heading.now c.requires.heading c.args.session c.requires.there.0 in
    let short = c.requires.inside.short in
    omega arith

pub word-loss-requires-clause-there : goal.word-loss-requires-clause-there
word-loss-requires-clause-there g c =
    let there = has_standing c.args.seat.now.me.0.eyes c.requires.fits c.args.heading.now c.requires.heading c.args.session c.requires.there.0 in
    let at = c.session_word-at.ensures in
    omega arith

pub word-attached-requires-clause-there : goal.word-attached-requires-clause-there
word-attached-requires-clause-there g c =
    let y = c.args.seat.now.me.0.eyes in
    let there = has_standing y c.requires.fits c.args.heading.now c.requires.heading c.args.session c.requires.there.0 in
    let at = c.session_word-at.ensures in
    let here : c.session_word-at.result + 2 < length (words_in y) = omega arith in
    subst (λ m. c.session_word-at.result + 2 < length (words_in m.0.eyes)) (sym c.word-loss.ensures.same.1) here

pub returns-clause-standing : goal.returns-clause-standing
returns-clause-standing g c =
    let y = c.args.seat.now.me.0.eyes in
    let loss = c.word-loss.ensures.word ∙ ap (λ (n : ℕ). get_or (words_in y) (n + 1) 0) c.session_word-at.ensures in
    let attached = c.word-attached.ensures.word ∙ (ap (λ m. get_or (words_in m.0.eyes) (c.session_word-at.result + 2) 0) c.word-loss.ensures.same.1 ∙ ap (λ (n : ℕ). get_or (words_in y) (n + 2) 0) c.session_word-at.ensures) in
    standing_seen y c.requires.fits c.args.heading.now c.requires.heading c.args.session c.args.action c.requires.there.0 c.requires.there.1 c.word-loss.result c.word-attached.result loss attached
    ∙ sym (λ z. Some (record { lost = c.low_bit.ensures z; pending = c.low_bit-2.ensures z; attached = c.bit_at.ensures z }))
