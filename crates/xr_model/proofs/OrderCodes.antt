-- A call is answered as out of order exactly where nothing ahead refuses it and its rule finds the disorder.
use Rattle.std.proofs.Common.{◌≡◌, ◌&&◌, ◌++◌, Bool, true, false, not, List, ◌∷◌, Option, Some, None, refl, sym, ap, ◌∙◌, append_assoc, true≢false}
use Rattle.std.specs.Prelude.{◌↔◌, if◌then◌else◌}
use Rattle.xr_types.specs.declared.code.Code.{Code}
use Rattle.xr_types.specs.declared.code.Code.TheVariants.{Success, SessionLossPending, CallOrderInvalid}
use Rattle.xr_model.specs.machine.Refusals.{Refusal, when, first_of}
use Rattle.xr_model.specs.machine.Rule.{Rule, Effect, ahead, refusals, refusal, or_short, told_on, unless_refused, carried_out}
use Rattle.xr_model.specs.machine.SessionRule.{Loss, code_on, losses}
use Rattle.xr_model.specs.machine.State.{CoreState}
use Rattle.xr_model.proofs.SessionAnswers.{is_session, none_fewer, Sessionless, none_with, none_in, none_more, first_none, first_stays, first_skips, short_some}

abbrev pub is_order : Code → Bool
is_order CallOrderInvalid = true
is_order _ = false

order_is_session : (c : Code) → not (is_session c) ≡ true → not (is_order c) ≡ true
order_is_session CallOrderInvalid e = absurd (true≢false (sym e))
order_is_session _ e = refl

no_order : (rs : List Refusal) → none_with is_session rs ≡ true → none_with is_order rs ≡ true
no_order = none_fewer is_session is_order order_is_session

none_losses : (on : Option Loss) → none_with is_order (losses on) ≡ true
none_losses None = refl
none_losses (Some loss) = refl

not_order : (c : Code) → is_session c ≡ false → is_order c ≡ false
not_order CallOrderInvalid e = e
not_order _ e = refl

success_no_order : (b : Bool) → is_order (if b then SessionLossPending else Success) ≡ false
success_no_order true = refl
success_no_order false = refl

code_no_order : (loss : Loss) (code : Code) → is_order code ≡ false → is_order (code_on loss code) ≡ false
code_no_order loss Success apart = success_no_order loss.pending
code_no_order loss _ apart = apart

told_no_order : (on : Option Loss) (x : Effect) → is_order x.code ≡ false → is_order (told_on on x).code ≡ false
told_no_order None x apart = apart
told_no_order (Some loss) x apart = code_no_order loss x.code apart

short_no_order : (short : Bool) (o : Option Refusal) → none_in is_order o ≡ true → none_in is_order (or_short short o) ≡ true
short_no_order false o none = none
short_no_order true None none = refl
short_no_order true (Some r) none = none

code_is_other : (s : CoreState) (o : Option Refusal) (x : Effect) → none_in is_order o ≡ true → is_order x.code ≡ false → (unless_refused s o x).code ≡ CallOrderInvalid → ⊥
code_is_other s None x none apart is = true≢false (sym (ap is_order is) ∙ apart)
code_is_other s (Some r) x none apart is = true≢false (sym none ∙ ap (λ c. not (is_order c)) is)

pub coded : (s : CoreState) (short : Bool) (r : Rule) → Sessionless r → ((carried_out s short r).code ≡ CallOrderInvalid) ↔ ((first_of (ahead r) ≡ None) × (r.disorder ≡ true))
coded s short r less = by (first_of (ahead r)) refl r.disorder refl
  where
    whole : refusals r ≡ ahead r ++ when r.disorder CallOrderInvalid ∷ r.behind
    whole = ap (λ (l : List Refusal). r.handles ++ l) (sym (append_assoc (losses r.on) r.before (when r.disorder CallOrderInvalid ∷ r.behind))) ∙ sym (append_assoc r.handles (losses r.on ++ r.before) (when r.disorder CallOrderInvalid ∷ r.behind))

    none_ahead : none_with is_order (ahead r) ≡ true
    none_ahead = none_more is_order r.handles (losses r.on ++ r.before) (no_order r.handles less.handles) (none_more is_order (losses r.on) r.before (none_losses r.on) (no_order r.before less.before))

    some_is_none : (x : Refusal) → Some x ≡ None → ⊥
    some_is_none x e = cc

    by : (o : Option Refusal) → first_of (ahead r) ≡ o → (d : Bool) → r.disorder ≡ d → ((carried_out s short r).code ≡ CallOrderInvalid) ↔ ((first_of (ahead r) ≡ None) × (r.disorder ≡ true))
    by (Some x) eo d ed =
        let first : first_of (refusals r) ≡ Some x = ap first_of whole ∙ first_stays (ahead r) (when r.disorder CallOrderInvalid ∷ r.behind) x eo in
        let few : none_in is_order (refusal short r) ≡ true = short_no_order (r.takes_memory && short) (first_of (refusals r)) (ap (none_in is_order) (first ∙ sym eo) ∙ first_none is_order (ahead r) none_ahead) in
        ((λ is. absurd (code_is_other s (refusal short r) (told_on r.on r.effect) few (told_no_order r.on r.effect (not_order r.effect.code less.code)) is)), (λ both. absurd (some_is_none x (sym eo ∙ both.0))))
    by None eo true ed =
        let first : first_of (refusals r) ≡ Some (when true CallOrderInvalid) = ap first_of whole ∙ first_skips (ahead r) (when r.disorder CallOrderInvalid ∷ r.behind) eo ∙ rw ed refl in
        let told = short_some (r.takes_memory && short) (first_of (refusals r)) (when true CallOrderInvalid) first in
        ((λ is. (eo, ed)), (λ both. ap (λ (o : Option Refusal). (unless_refused s o (told_on r.on r.effect)).code) told))
    by None eo false ed =
        let first : first_of (refusals r) ≡ first_of r.behind = ap first_of whole ∙ first_skips (ahead r) (when r.disorder CallOrderInvalid ∷ r.behind) eo ∙ rw ed refl in
        let few : none_in is_order (refusal short r) ≡ true = short_no_order (r.takes_memory && short) (first_of (refusals r)) (ap (none_in is_order) first ∙ first_none is_order r.behind (no_order r.behind less.behind)) in
        ((λ is. absurd (code_is_other s (refusal short r) (told_on r.on r.effect) few (told_no_order r.on r.effect (not_order r.effect.code less.code)) is)), (λ both. absurd (true≢false (sym both.1 ∙ ed))))
