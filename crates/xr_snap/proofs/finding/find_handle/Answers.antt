use Rattle.std.proofs.Common.{arith, ◌≢◌, ◌<◌, ◌+◌, ◌*◌, length, sym, refl, ap, ◌∙◌, subst, get_or}
use Rattle.xr_snap.specs.Reading.{IsIn, handle_in, words_in}
use Rattle.xr_snap.proofs.Found.{one_more}
use Rattle.xr_snap.proofs.finding.find_handle.Goals as goal

pub loop-place-init : goal.loop-place-init
loop-place-init g c = record { own = refl; me = refl; few = omega arith; none = λ j l. absurd (omega arith) }

pub word-found-requires-clause-own : goal.word-found-requires-clause-own
word-found-requires-clause-own g c = c.loop-place.invariant.own ∙ c.requires.own

pub word-found-requires-clause-inside : goal.word-found-requires-clause-inside
word-found-requires-clause-inside g c = subst (λ m. IsIn m.0.eyes c.args.buffer) (sym c.loop-place.invariant.me) c.requires.inside

pub word-found-requires-clause-there : goal.word-found-requires-clause-there
word-found-requires-clause-there g c =
    let h = c.args.handles.now in
    let there = c.requires.there c.loop-place.place c.loop-place-test.true in
    subst (λ m. h.first + h.apart * c.loop-place.place < length (words_in m.0.eyes)) (sym c.loop-place.invariant.me) there

pub returns-then-found-handle-clause-same : goal.returns-then-found-handle-clause-same
returns-then-found-handle-clause-same g c = let i = c.loop-place.invariant in (c.word-found.ensures.same.0 ∙ i.own, c.word-found.ensures.same.1 ∙ i.me)

pub returns-then-found-handle-clause-found : goal.returns-then-found-handle-clause-found
returns-then-found-handle-clause-found g c =
    let h = c.args.handles.now in
    let i = c.loop-place.invariant in
    let found = c.word-found.ensures.word ∙ ap (λ m. get_or (words_in m.0.eyes) (h.first + h.apart * c.loop-place.place) 0) i.me in
    record { near = c.loop-place-test.true; is = sym found ∙ c.if-found-handle.true; before = i.none }

pub loop-place-preserved : goal.loop-place-preserved
loop-place-preserved g c =
    let h = c.args.handles.now in
    let more = c.loop-place-test.true in
    let i = c.loop-place.invariant in
    let found = c.word-found.ensures.word ∙ ap (λ m. get_or (words_in m.0.eyes) (h.first + h.apart * c.loop-place.place) 0) i.me in
    record {
      own = c.word-found.ensures.same.0 ∙ i.own;
      me = c.word-found.ensures.same.1 ∙ i.me;
      few = omega arith;
      none = one_more (λ j. handle_in (words_in c.args.seat.now.me.0.eyes) h j ≢ c.args.handle) c.loop-place.place i.none (λ e. c.if-found-handle.false (found ∙ e));
    }

pub returns-clause-same : goal.returns-clause-same
returns-clause-same g c = let i = c.loop-place.invariant in (i.own, i.me)

pub returns-clause-found : goal.returns-clause-found
returns-clause-found g c =
    let done = c.loop-place-test.false in
    let i = c.loop-place.invariant in
    λ j l. i.none j (omega (arith, l, done))

pub overflow_mul-handles : goal.overflow_mul-handles
overflow_mul-handles g c = let there = c.requires.there c.loop-place.place c.loop-place-test.true in let short = c.requires.inside.short in omega arith

pub overflow_add-handles : goal.overflow_add-handles
overflow_add-handles g c = let there = c.requires.there c.loop-place.place c.loop-place-test.true in let short = c.requires.inside.short in omega arith
