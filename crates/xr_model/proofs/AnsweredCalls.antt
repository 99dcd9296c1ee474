-- Calls that are answered in turn are a legal history.
use Rattle.std.specs.Prelude.{ℤ}
use Rattle.std.proofs.Common.{false, List, [], ◌∷◌, ap, ◌∙◌, refl, subst}
use Rattle.xr_types.specs.declared.calls.Reply.{Reply}
use Rattle.xr_types.specs.declared.calls.Step.{Step}
use Rattle.xr_types.specs.declared.calls.Step.TheVariants.{Done, NotReady}
use Rattle.xr_model.specs.machine.CoreCalls.{entry_of}
use Rattle.xr_model.specs.machine.State.{State}
use Rattle.xr_model.specs.machine.Machine.{step}
use Rattle.xr_model.specs.machine.CoreCalls.{Applies}
use Rattle.xr_model.specs.machine.History.{clock_of, clocks_after, StartsAt}
use Rattle.xr_model.specs.laws.AnswerLaws.{Asked, clocks_if, AreHistory, AnswersAreAHistory, replies_of}

-- one answer more, in front
one_more : (s mid t : State) (clocks : List ℤ) (a : Asked) (asked : List Asked) (answer : Step) → StartsAt (clock_of clocks a.who) a.call → Applies s mid a.who a.call a.before a.behind answer
    → AreHistory mid (clocks_if clocks a.who a.call answer mid) asked t → AreHistory s clocks (record a { answer = answer } ∷ asked) t
one_more s mid t clocks a asked (Done reply) starts answered rest =
    let e = entry_of a.who a.call reply in
    let more = subst (λ (m : State). AreHistory m (clocks_after clocks e m) asked t) answered.leads rest in
    record {
      legal = (answered.allowed, starts, answered.is_ready, more.legal);
      leads = more.leads;
      replies = ap (λ (r : Reply). r ∷ replies_of asked) answered.replies ∙ ap (λ (rs : List Reply). (step s e).1.reply ∷ rs) more.replies;
      leave = (answered.writes, more.leave);
    }
one_more s mid t clocks a asked NotReady starts waits rest =
    let more = subst (λ (m : State). AreHistory m clocks asked t) (waits 0 false).same rest in
    record { legal = more.legal; leads = more.leads; replies = more.replies; leave = (((waits 0 false).not_ready, (waits 0 false).unwritten), more.leave) }

pub answers_are_a_history : AnswersAreAHistory
answers_are_a_history s t clocks [] same = record { legal = tt; leads = same; replies = refl; leave = tt }
answers_are_a_history s t clocks (a ∷ asked) answered =
    one_more s answered.1 t clocks a asked a.answer answered.0 answered.2 (answers_are_a_history answered.1 t (clocks_if clocks a.who a.call a.answer answered.1) asked answered.3)
