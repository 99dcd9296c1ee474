use Rattle.std.proofs.Common.{arith, ℕ, Some, ap, sym, ◌+◌, ◌∙◌, get_or}
use Rattle.xr_snap.specs.Reading.{words_in}
use Rattle.xr_snap.proofs.Seen.{has_action, asked_is}
use Rattle.xr_snap.proofs.looking.asked_at.Goals as goal

pub action_word-at-requires : goal.action_word-at-requires
action_word-at-requires g c =
    let there = has_action c.args.seat.now.me.0.eyes c.requires.fits c.args.action c.requires.there in
    let short = c.requires.inside.short in
    omega arith

pub overflow_add-at : goal.overflow_add-at
overflow_add-at g c =
    let there = has_action c.args.seat.now.me.0.eyes c.requires.fits c.args.action c.requires.there in
    let short = c.requires.inside.short in
    let at = c.action_word-at.ensures in
    omega arith

pub word-requires-clause-there : goal.word-requires-clause-there
word-requires-clause-there g c =
    let there = has_action c.args.seat.now.me.0.eyes c.requires.fits c.args.action c.requires.there in
    let at = c.action_word-at.ensures in
    omega arith

pub returns-clause-asked : goal.returns-clause-asked
returns-clause-asked g c =
    let y = c.args.seat.now.me.0.eyes in
    let word = c.word.ensures.word ∙ ap (λ (n : ℕ). get_or (words_in y) (n + 1) 0) c.action_word-at.ensures in
    asked_is y c.requires.fits c.args.action c.requires.there c.word.result word ∙ ap Some (sym c.asked_in.ensures)
