use Rattle.std.proofs.Common.{arith, ℕ, ◌<◌, ◌+◌, length, get_or, Some, ap, subst, sym, ◌∙◌}
use Rattle.xr_snap.specs.Reading.{words_in}
use Rattle.xr_snap.proofs.Seen.{both_there, shown_is}
use Rattle.xr_snap.proofs.looking.column_at.Goals as goal

pub column_word-at-requires : goal.column_word-at-requires
column_word-at-requires g c =
    let there = both_there c.args.seat.now.me.0.eyes c.requires.fits c.args.heading.now c.requires.heading c.args.session c.args.action c.args.column c.requires.there.0 c.requires.there.1 c.requires.there.2 in
    let short = c.requires.inside.short in
    omega arith

pub overflow_add-at : goal.overflow_add-at
overflow_add-at g c =
    let there = both_there c.args.seat.now.me.0.eyes c.requires.fits c.args.heading.now c.requires.heading c.args.session c.args.action c.args.column c.requires.there.0 c.requires.there.1 c.requires.there.2 in
    let short = c.requires.inside.short in
    let at = c.column_word-at.ensures in
    omega arith

pub word-values-requires-clause-there : goal.word-values-requires-clause-there
word-values-requires-clause-there g c =
    let there = both_there c.args.seat.now.me.0.eyes c.requires.fits c.args.heading.now c.requires.heading c.args.session c.args.action c.args.column c.requires.there.0 c.requires.there.1 c.requires.there.2 in
    let at = c.column_word-at.ensures in
    omega arith

pub word-when-requires-clause-there : goal.word-when-requires-clause-there
word-when-requires-clause-there g c =
    let y = c.args.seat.now.me.0.eyes in
    let there = both_there y c.requires.fits c.args.heading.now c.requires.heading c.args.session c.args.action c.args.column c.requires.there.0 c.requires.there.1 c.requires.there.2 in
    let at = c.column_word-at.ensures in
    let here : c.column_word-at.result + 1 < length (words_in y) = omega arith in
    subst (λ m. c.column_word-at.result + 1 < length (words_in m.0.eyes)) (sym c.word-values.ensures.same.1) here

pub returns-clause-column : goal.returns-clause-column
returns-clause-column g c =
    let y = c.args.seat.now.me.0.eyes in
    let values = c.word-values.ensures.word ∙ ap (λ (n : ℕ). get_or (words_in y) n 0) c.column_word-at.ensures in
    let when = c.word-when.ensures.word ∙ (ap (λ m. get_or (words_in m.0.eyes) (c.column_word-at.result + 1) 0) c.word-values.ensures.same.1 ∙ ap (λ (n : ℕ). get_or (words_in y) (n + 1) 0) c.column_word-at.ensures) in
    shown_is y c.requires.fits c.args.heading.now c.requires.heading c.args.session c.args.action c.args.column c.requires.there.0 c.requires.there.1 c.requires.there.2 c.word-values.result c.word-when.result values when ∙ ap Some (sym c.column_in.ensures)
