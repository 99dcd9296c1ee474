-- The words of what is published change where a call publishes, and nowhere else.
use Rattle.std.proofs.Common.{◌≡◌, ℕ, false, List, [], ◌∷◌, ◌++◌, sym, ap, ◌∙◌}
use Rattle.xr_types.specs.CallKinds.{publishes}
use Rattle.xr_model.specs.machine.Calls.{Entry, Exchange}
use Rattle.xr_model.specs.machine.History.{after, opening_clocks}
use Rattle.xr_model.specs.machine.Machine.{step}
use Rattle.xr_model.specs.machine.Publication.{publication_of}
use Rattle.xr_model.specs.machine.PublicationWords.{words}
use Rattle.xr_model.specs.machine.State.{CoreState, State, with_apps}
use Rattle.xr_model.specs.laws.Moments.{Moment, opening_moment, moment_after, IsLegalAt, exchange_at}
use Rattle.xr_model.proofs.Histories.{after_is_in_turn}
use Rattle.xr_model.proofs.PublishedLast.{stays_published, sound_after, sound_opening}
use Rattle.xr_rule.specs.Rule.{published_words}

-- where two histories leave the same in a core, the same is published
pub same_published : (key : ℕ) (log look : List Entry) → (moment_after (opening_moment key) log).state.core ≡ (moment_after (opening_moment key) look).state.core → published_words key log ≡ published_words key look
unfolding published_words
same_published key log look same = ap (λ (c : CoreState). words (publication_of c)) same

-- behind an entry that publishes nothing, what was published is published still
pub next_publishes_none : (key : ℕ) (log : List Entry) (e : Entry) → IsLegalAt (opening_moment key) log
    → publishes e.call (step (moment_after (opening_moment key) log).state e).1.reply.code ≡ false → published_words key (log ++ e ∷ []) ≡ published_words key log
unfolding published_words
next_publishes_none key log e legal none =
    let s : State = (opening_moment key).state in
    let sound = sound_after s (opening_clocks (with_apps key)) log legal (sound_opening (with_apps key)) in
    ap (λ (t : State). words (publication_of t.core)) (after_is_in_turn s log (e ∷ [])) ∙ ap words (stays_published (after s log) e sound none)

-- an entry that comes to the same publishes nothing there either
pub quiet_as : (m n : Moment) (e : Entry) → exchange_at n e ≡ exchange_at m e → publishes e.call (step m.state e).1.reply.code ≡ false → publishes e.call (step n.state e).1.reply.code ≡ false
unfolding exchange_at
quiet_as m n e same quiet = ap (λ (x : Exchange). publishes e.call x.outcome.reply.code) same ∙ quiet

-- the words, by a seat's own number of applications
pub words_are : (key apps : ℕ) (log : List Entry) → apps ≡ key → published_words key log ≡ words (publication_of (moment_after (opening_moment apps) log).state.core)
unfolding published_words
words_are key apps log is = ap (λ (a : ℕ). words (publication_of (moment_after (opening_moment a) log).state.core)) (sym is)
