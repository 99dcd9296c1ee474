-- What the names of a script's ops stand for.
use Rattle.std.proofs.Common.{◌≡◌, ◌++◌, ℕ, ℤ, pos, negsuc, Bool, true, List, [], ◌∷◌, map, Option, Some, None, unwrap_or, refl, sym, ap, subst, ◌∙◌, true≢false}
use Rattle.std.specs.Prelude.{int_le}
use Rattle.xr_types.specs.Code.{is_success}
use Rattle.xr_types.specs.declared.calls.Call.{Call}
use Rattle.xr_types.specs.declared.calls.Call.TheVariants as ask
use Rattle.xr_types.specs.declared.calls.Gives.TheVariants as gives
use Rattle.xr_types.specs.declared.handles.Kind.TheVariants as kind
use Rattle.xr_types.specs.declared.scenario.Op.{Op}
use Rattle.xr_types.specs.declared.scenario.Op.TheVariants as op
use Rattle.xr_types.specs.declared.session.FrameState.{FrameState}
use Rattle.xr_model.specs.machine.Calls.{Entry}
use Rattle.xr_model.specs.machine.Machine.{reads_of, rule, step}
use Rattle.xr_model.specs.machine.Marks.{mark_at}
use Rattle.xr_model.specs.machine.Paths.{text_at}
use Rattle.xr_model.specs.machine.Refusals.{Refusal}
use Rattle.xr_model.specs.machine.Rule.{Effect, Rule, refusals, told_on, carried_out}
use Rattle.xr_model.specs.machine.Rules.Sets.{sub_checks, user_at, with_user}
use Rattle.xr_model.specs.machine.SessionRule.{Loss}
use Rattle.xr_model.specs.machine.Handles.{no_room}
use Rattle.xr_model.specs.machine.Sets.{no_users, action_label_checks}
use Rattle.xr_model.specs.machine.State.{State}
use Rattle.xr_model.specs.runs.NameValues.{value_of, nonnegative, number_given, value_given}
use Rattle.xr_model.specs.runs.Scripts.{request_for}
use Rattle.xr_model.specs.laws.ScriptLaws.{NamesIt, NamesStandForWhatWasGiven}
use Rattle.xr_model.proofs.FrameCalls.{where_done}
use Rattle.xr_model.proofs.FrameOrder.{all_fail}
use Rattle.xr_model.proofs.KnownTexts.{known_text}

-- user paths are refused, and never taken by a refusal
subs_fail : (atoms : List (List ℕ)) (declared : List Bool) (subs : List ℕ) (rest : List Refusal) → all_fail rest ≡ true
    → all_fail (sub_checks atoms declared subs ++ rest) ≡ true
subs_fail atoms declared [] rest fails = fails
subs_fail atoms declared (sub ∷ subs) rest fails = subs_fail atoms (with_user declared (user_at atoms sub)) subs rest fails

-- an entry with this call
abbrev asking : Entry → Call → Entry
asking e r = record e { call = r }

abbrev rule_for : State → Entry → Call → Rule
rule_for s e r = rule s.core (reads_of s r) (asking e r)

abbrev IsNamed : State → Entry → Op → Call → Type 0
IsNamed s e o r =
    is_success (step s (asking e r)).1.reply.code ≡ true
    → NamesIt s (asking e r) (step s (asking e r)).1.reply.gives r (value_given o (step s (asking e r)).1.reply.gives)

-- a pending loss changes nothing of what is given
told : (on : Option Loss) (x : Effect) → (told_on on x).gives ≡ x.gives
told None x = refl
told (Some loss) x = refl

-- a creation that succeeds gives its handle
created : (s : State) (e : Entry) (r : Call) → all_fail (refusals (rule_for s e r)) ≡ true → (rule_for s e r).effect.gives ≡ gives.Handle e.given
    → is_success (step s (asking e r)).1.reply.code ≡ true → number_given (step s (asking e r)).1.reply.gives ≡ e.given
created s e r fails is good = by (rule_for s e r) fails is good
  where
    by : (f : Rule) → all_fail (refusals f) ≡ true → f.effect.gives ≡ gives.Handle e.given → is_success (carried_out s.core e.short f).code ≡ true
        → number_given (carried_out s.core e.short f).gives ≡ e.given
    by f fails is good = where_done (λ x. number_given x.gives ≡ e.given) s.core f e.short fails (λ none. ap number_given (told f.on f.effect ∙ is)) good

time_is : (t : ℤ) → int_le (pos 0) t ≡ true → pos (nonnegative t) ≡ t
time_is (pos n) some = refl
time_is (negsuc n) some = absurd (true≢false (sym some))

named : (s : State) (e : Entry) (values : List ℕ) (o : Op) → IsNamed s e o (request_for values o)
named s e values (op.CreateInstance major minor) good = created s e (ask.CreateInstance major minor) refl refl good
named s e values (op.CreateSession instance system) good = created s e (request_for values (op.CreateSession instance system)) refl refl good
named s e values (op.CreateReferenceSpace session what offset) good = created s e
    (request_for values (op.CreateReferenceSpace session what offset)) refl refl good
named s e values (op.CreateActionSpace session action sub offset) good =
    created s e (request_for values (op.CreateActionSpace session action sub offset)) refl refl good
named s e values (op.CreateActionSet instance name localized priority) good =
    created s e (request_for values (op.CreateActionSet instance name localized priority)) refl refl good
named s e values (op.CreateAction set name type subs localized) good =
    created s e (request_for values (op.CreateAction set name type subs localized)) (subs_fail s.core.atoms no_users (map (λ u. value_of values u.atom) subs)
    (action_label_checks s.core.inputs (value_of values set) localized ++ no_room s.core.handles kind.Action ∷ []) refl) refl good
named s e values (op.CreateSwapchain session format width height fixed) good =
    created s e (request_for values (op.CreateSwapchain session format width height fixed)) refl refl good
named s e values (op.StringToPath instance text) good =
    where_done (λ x. text_at x.state.atoms (number_given x.gives) ≡ Some text) s.core
    (rule_for s e (request_for values (op.StringToPath instance text))) e.short refl
    (λ none. known_text s.core.atoms text) good
named s e values (op.GetSystem instance form) good =
    where_done (λ x. number_given x.gives ≡ 1) s.core (rule_for s e (request_for values (op.GetSystem instance form))) e.short refl (λ none. refl) good
named s e values (op.WaitFrame session) good =
    where_done (λ x. (f : FrameState) → x.gives ≡ gives.Frame f → int_le (pos 0) f.time ≡ true → pos (number_given x.gives) ≡ f.time)
    s.core (rule_for s e (request_for values (op.WaitFrame session))) e.short refl
    (λ none f is some. ap (λ g. pos (number_given g)) is ∙ time_is f.time some) good
named s e values (op.Await number) good =
    where_done (λ x. (v : ℕ) → mark_at s.core.marks number ≡ Some v → number_given x.gives ≡ v) s.core (rule_for s e (ask.AwaitMark number)) e.short refl
    (λ none v is. ap (λ o. unwrap_or o 0) is) good
named s e values _ good = refl

pub names_stand_for_what_was_given : NamesStandForWhatWasGiven
names_stand_for_what_was_given s e values o is = subst (λ r. IsNamed s e o r) (sym is) (named s e values o)
