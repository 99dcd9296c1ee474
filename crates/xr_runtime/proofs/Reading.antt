-- A getter that is read without the lock is a call of its application, as any other is.
use Rattle.std.proofs.Common.{◌≡◌, ◌==◌, ◌&&◌, ◌<◌, ◌≤◌, ◌^◌, ℕ, zero, suc, not, Bool, true, false, true≢false, List, [], ◌∷◌, sym, refl, ap, ◌∙◌, subst, Option, Some, None, option_map, option_and_then, eqb-true, arith}
use Rattle.std.specs.Prelude.{slice_get, unwrap_or, if◌then◌else◌}
use Rattle.std.specs.List.{list_all}
use Rattle.atomic_table.specs.Seated.{TableId}
use Rattle.xr_types.specs.Code.{is_out_of_memory}
use Rattle.xr_types.specs.CallKinds.{is_getter, is_locked, is_leave}
use Rattle.xr_types.specs.declared.calls.Actor.{Actor}
use Rattle.xr_types.specs.declared.calls.Actor.TheVariants.{App}
use Rattle.xr_types.specs.declared.calls.Call.{Call}
use Rattle.xr_types.specs.declared.calls.Call.TheVariants as ask
use Rattle.xr_types.specs.declared.calls.Gives.{Gives}
use Rattle.xr_types.specs.declared.calls.Gives.TheVariants.{Nothing}
use Rattle.xr_types.specs.declared.calls.Reply.{Reply}
use Rattle.xr_types.specs.declared.code.Code.TheVariants.{Success}
use Rattle.xr_types.specs.declared.input.ActionType.{ActionType}
use Rattle.xr_types.specs.declared.input.ActionType.TheVariants as type
use Rattle.xr_model.specs.machine.Calls.{Entry, Outcome}
use Rattle.xr_model.specs.machine.CoreCalls.{Lent, entry_of, given_by, left_in}
use Rattle.xr_model.specs.machine.Machine.{IsPresent, step}
use Rattle.xr_model.specs.machine.Publication.{ShownColumn, Publication, published_at, loss_read, row_read, column_read, getter_gives, shown_by}
use Rattle.xr_model.specs.machine.Reads.{getter_refusals, answered, read, reads}
use Rattle.xr_model.specs.machine.Refusals.{Refusal, first_of}
use Rattle.xr_model.specs.machine.SessionRule.{Loss, code_on}
use Rattle.xr_model.specs.laws.Moments.{actor_at}
use Rattle.xr_model.proofs.GetterSteps.{getters_read}
use Rattle.xr_model.proofs.Rows.{both_of, not_true}
use Rattle.xr_rule.specs.Plays.{Decides, published_by}
use Rattle.xr_rule.specs.View.{Know, number_in}
use Rattle.xr_snap.specs.Reading.{getter_entry, outcome_of, MayEnter, HasRead}
use Rattle.xr_runtime.specs.Calling.{Has, actor_of, behind, seen_by, entry_by, Called}
use Rattle.xr_runtime.specs.Passes.{MayCall}
use Rattle.xr_runtime.specs.declared.passes.AppPass.{AppPass}

-- ---- a getter gives no handle and is never short of memory

abbrev is_plain : Refusal → Bool
is_plain r = not (is_out_of_memory r.code) && (given_by r.gives == 0)

plain_first : (rs : List Refusal) (r : Refusal) → list_all is_plain rs ≡ true → first_of rs ≡ Some r → is_plain r ≡ true
plain_first [] r all is = cc
plain_first (x ∷ xs) r all is = by x.holds is (plain_first xs r (both_of (is_plain x) (list_all is_plain xs) all).1)
  where
    by : (b : Bool) → (if b then Some x else first_of xs) ≡ Some r → (first_of xs ≡ Some r → is_plain r ≡ true) → is_plain r ≡ true
    by true is rest = let same : x ≡ r = cc in subst (λ (q : Refusal). is_plain q ≡ true) same (both_of (is_plain x) (list_all is_plain xs) all).0
    by false is rest = rest is

all_plain : (p : Publication) (wanted : ActionType) (session action sub : ℕ) → list_all is_plain (getter_refusals p wanted session action sub) ≡ true
all_plain p wanted session action sub = refl

given_none : (wanted : ActionType) (o : Option ShownColumn) → given_by (unwrap_or (option_map (shown_by wanted) o) Nothing) ≡ 0
given_none wanted None = refl
given_none type.Boolean (Some c) = refl
given_none type.Float (Some c) = refl
given_none type.Vector (Some c) = refl
given_none type.Pose (Some c) = refl
given_none type.Vibration (Some c) = refl

code_plain : (loss : Loss) → is_out_of_memory (code_on loss Success) ≡ false
code_plain loss = by loss.pending
  where
    by : (b : Bool) → is_out_of_memory (code_on (record loss { pending = b }) Success) ≡ false
    by true = refl
    by false = refl

record IsPlain (reply : Reply) : Type 0 where
  gives_none : given_by reply.gives ≡ 0
  not_short : is_out_of_memory reply.code ≡ false

plain_answer : (p : Publication) (loss : Loss) (o : Option Refusal) (value : Gives) → ((r : Refusal) → o ≡ Some r → is_plain r ≡ true) → given_by value ≡ 0 → IsPlain (answered p loss o value).reply
plain_answer p loss None value plain none = record { gives_none = none; not_short = code_plain loss }
plain_answer p loss (Some r) value plain none =
    let two = both_of (not (is_out_of_memory r.code)) (given_by r.gives == 0) (plain r refl) in
    record { gives_none = eqb-true (given_by r.gives) 0 two.1; not_short = not_true (is_out_of_memory r.code) two.0 }

plain_read : (p : Publication) (wanted : ActionType) (session action sub : ℕ) → IsPlain (read p wanted session action sub).reply
plain_read p wanted session action sub =
    let refusals = getter_refusals p wanted session action sub in
    plain_answer p (loss_read p session) (first_of refusals) (getter_gives p wanted session action sub)
    (λ r is. plain_first refusals r (all_plain p wanted session action sub) is)
    (given_none wanted (option_and_then (λ k. option_and_then (λ row. slice_get row k) (row_read p session action)) (column_read p (published_at p action) sub)))

same_reply : (o : Outcome) (reply : Reply) → Some o ≡ Some (outcome_of reply) → IsPlain o.reply → IsPlain reply
same_reply o reply is plain = let same : o ≡ outcome_of reply = cc in subst (λ (x : Outcome). IsPlain x.reply) same plain

getters_are_plain : (p : Publication) (what : Call) (reply : Reply) → reads p what ≡ Some (outcome_of reply) → IsPlain reply
getters_are_plain p (ask.GetBoolean session action sub) reply is = same_reply (read p type.Boolean session action sub) reply is (plain_read p type.Boolean session action sub)
getters_are_plain p (ask.GetFloat session action sub) reply is = same_reply (read p type.Float session action sub) reply is (plain_read p type.Float session action sub)
getters_are_plain p (ask.GetVector session action sub) reply is = same_reply (read p type.Vector session action sub) reply is (plain_read p type.Vector session action sub)
getters_are_plain p (ask.GetPoseActive session action sub) reply is = same_reply (read p type.Pose session action sub) reply is (plain_read p type.Pose session action sub)
getters_are_plain p what reply is = cc

entry_is : (who : Actor) (what : Call) (reply : Reply) → IsPlain reply → entry_of who what reply ≡ record { actor = who; call = what; given = 0; short = false }
entry_is who what reply plain = λ i. record { actor = who; call = what; given = plain.gives_none i; short = plain.not_short i }

-- ---- it is a call of the seat's application

module _ (m n : Has) (what : Call) (reply : Reply) (getter : is_getter what ≡ true) (has : HasRead m what reply n) where
  abbrev k : Know
  k = m.0.know

  same_entry : entry_by k what reply ≡ getter_entry k what
  same_entry = entry_is (actor_of k) what reply (getters_are_plain (published_by k has.look) what reply has.replies)

  outcome_is : (step (behind k has.look).state (getter_entry k what)).1 ≡ outcome_of reply
  outcome_is =
      let both : Some (step (behind k has.look).state (getter_entry k what)).1 ≡ Some (outcome_of reply) = sym (getters_read (behind k has.look).state (getter_entry k what) getter) ∙ has.replies in
      cc

  comes : (step (behind k has.look).state (entry_by k what reply)).1 ≡ outcome_of reply
  comes = ap (λ (e : Entry). (step (behind k has.look).state e).1) same_entry ∙ outcome_is

  pub is_called : (lent : Lent) → Called m what reply lent lent n
  is_called lent = record {
    look = has.look;
    decides = subst (λ (e : Entry). Decides k has.look e n.0) (sym same_entry) has.decides;
    carries = has.carries;
    replies = ap (λ (o : Outcome). o.reply) comes;
    writes = ap (λ (o : Outcome). left_in o.text o.shown lent) (sym comes);
  }

-- ---- it may be made

apps_from_two : (n app : ℕ) → actor_at n ≡ App app → 2 ≤ n
apps_from_two zero app is = cc
apps_from_two (suc zero) app is = cc
apps_from_two (suc (suc n)) app is = omega arith

pub may_enter : (table : TableId) (p : AppPass) (what : Call) → MayCall table p → is_getter what ≡ true → MayEnter p.seat.me what
may_enter table p what may getter =
    let k : Know = p.seat.me.0.know in record {
      between = may.is.rests.between;
      may = record {
        is_own = refl;
        is_app = apps_from_two (number_in k.own) p.app may.is.is_own;
        getter = getter;
        gives_none = refl;
        not_short = refl;
        here = subst (λ (a : Actor). IsPresent (seen_by k).state.core a) (sym may.is.is_own) (may.is.here may.here);
        few = subst (λ (n : ℕ). n < 2 ^ 40) may.is.counts may.few;
      };
    }

-- a getter isn't counted, and nobody leaves by it
pub getters_not_locked : (r : Call) → is_getter r ≡ true → is_locked r ≡ false
getters_not_locked (ask.GetBoolean session action sub) is = refl
getters_not_locked (ask.GetFloat session action sub) is = refl
getters_not_locked (ask.GetVector session action sub) is = refl
getters_not_locked (ask.GetPoseActive session action sub) is = refl
getters_not_locked r is = absurd (true≢false (sym is))

pub getters_stay : (r : Call) → is_getter r ≡ true → is_leave r ≡ false
getters_stay (ask.GetBoolean session action sub) is = refl
getters_stay (ask.GetFloat session action sub) is = refl
getters_stay (ask.GetVector session action sub) is = refl
getters_stay (ask.GetPoseActive session action sub) is = refl
getters_stay r is = absurd (true≢false (sym is))
