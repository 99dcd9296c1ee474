-- The reply that is made of an answer is what is read.
use Rattle.std.proofs.Common.{◌≡◌, ℕ, Bool, true, false, not, List, [], ◌∷◌, Some, sym, refl, ap, ◌∙◌}
use Rattle.std.specs.Prelude.{is_none}
use Rattle.xr_types.specs.declared.calls.Call.{Call}
use Rattle.xr_types.specs.declared.calls.Gives.{Gives}
use Rattle.xr_types.specs.declared.calls.Reply.{Reply}
use Rattle.xr_types.specs.declared.code.Code.TheVariants.{Success, HandleInvalid, SessionLost, ActionsetNotAttached, ActionTypeMismatch, PathUnsupported}
use Rattle.xr_types.specs.declared.input.ActionType.{ActionType}
use Rattle.xr_model.specs.machine.PartAnswers.{or_refused}
use Rattle.xr_model.specs.machine.Publication.{Publication, session_read, loss_read, published_at, has_attached, is_action_of, column_read, getter_gives}
use Rattle.xr_model.specs.machine.Reads.{answered, read, reads}
use Rattle.xr_model.specs.machine.Refusals.{Refusal, when, first_of}
use Rattle.xr_model.specs.machine.SessionRule.{Loss, code_on}
use Rattle.xr_snap.specs.Answering.{IsAsked, reply_at}
use Rattle.xr_snap.specs.Reading.{getter_answer, outcome_of}
use Rattle.xr_snap.specs.declared.answering.Wanted.{Wanted}

module _ (p : Publication) (loss : Loss) (value : Gives) where
  -- answered by these refusals
  abbrev Same : List Refusal → Type 0
  Same rs = answered p loss (first_of rs) value ≡ outcome_of (reply_at p.number (or_refused (first_of rs) (code_on loss Success, value)))

  six : (a b lost d t u : Bool) → Same (when a HandleInvalid ∷ when b HandleInvalid ∷ when lost SessionLost ∷ when d ActionsetNotAttached ∷ when t ActionTypeMismatch ∷ when u PathUnsupported ∷ [])
  six true b lost d t u = refl
  six false true lost d t u = refl
  six false false true d t u = refl
  six false false false true t u = refl
  six false false false false true u = refl
  six false false false false false true = refl
  six false false false false false false = refl

read_is : (p : Publication) (wanted : ActionType) (session action sub : ℕ) → read p wanted session action sub ≡ outcome_of (reply_at p.number (getter_answer p wanted session action sub))
read_is p wanted session action sub =
    let loss = loss_read p session in
    let found = published_at p action in
    six p loss (getter_gives p wanted session action sub) (is_none (session_read p session)) (is_none found) loss.lost (not (has_attached p session action)) (not (is_action_of wanted found)) (is_none (column_read p found sub))

pub replies : (p : Publication) (what : Call) (w : Wanted) (n : ℕ) (reply : Reply) → IsAsked what w → n ≡ p.number → reply ≡ reply_at n (getter_answer p w.kind w.session w.action w.sub) → reads p what ≡ Some (outcome_of reply)
replies p what w n reply asked number is =
    asked p ∙ (ap Some (read_is p w.kind w.session w.action w.sub) ∙ ap (λ (r : Reply). Some (outcome_of r)) (sym (is ∙ ap (λ (k : ℕ). reply_at k (getter_answer p w.kind w.session w.action w.sub)) number)))
