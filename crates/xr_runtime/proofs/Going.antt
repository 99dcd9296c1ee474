-- What a seat knew of its actor when it last called still holds at its next look.
use Rattle.std.proofs.Common.{◌≡◌, ℤ, Bool, true, false, not, ◌&&◌, List, [], ◌∷◌, ◌++◌, sym, refl, ap, ◌∙◌, subst}
use Rattle.xr_types.specs.declared.calls.Actor.{Actor}
use Rattle.xr_model.specs.machine.History.{after, clock_of, clocks_after, IsLegalFrom}
use Rattle.xr_model.specs.machine.Machine.{IsPresent, step}
use Rattle.xr_model.specs.machine.Calls.{Entry, is_actor}
use Rattle.xr_model.specs.machine.State.{State}
use Rattle.xr_model.specs.laws.Moments.{Moment, opening_moment, moment_after, clocks_over, IsLegalAt}
use Rattle.xr_model.specs.laws.MomentLaws.{leaves_by_none}
use Rattle.xr_types.specs.CallKinds.{is_leave}
use Rattle.xr_model.specs.laws.PublicationLaws.{none_is_by}
use Rattle.xr_model.proofs.OthersEntries.{actors_stay, clocks_stay}
use Rattle.xr_model.proofs.Rows.{both_of, not_true}
use Rattle.xr_rule.proofs.Carrying.{moments_in_turn}
use Rattle.xr_rule.specs.Plays.{Sees}
use Rattle.xr_rule.specs.View.{Know}
use Rattle.xr_runtime.specs.Calling.{actor_of, behind, seen_by}

-- a history in two parts
legal_behind : (s : State) (clocks : List ℤ) (es fs : List Entry) → IsLegalFrom s clocks (es ++ fs) → IsLegalFrom (after s es) (clocks_over s clocks es) fs
legal_behind s clocks [] fs legal = legal
legal_behind s clocks (e ∷ es) fs legal = legal_behind (step s e).0 (clocks_after clocks e (step s e).0) es fs legal.3

pub rest_is_legal : (m : Moment) (es fs : List Entry) → IsLegalAt m (es ++ fs) → IsLegalAt (moment_after m es) fs
rest_is_legal m es fs legal = legal_behind m.state m.clocks es fs legal

-- who makes none of these entries doesn't leave by them
and_false : (a b : Bool) → a ≡ false → not (a && b) ≡ true
and_false a b is = rw is refl

pub others_dont_leave : (who : Actor) (es : List Entry) → none_is_by who es ≡ true → leaves_by_none who es ≡ true
others_dont_leave who [] none = refl
others_dont_leave who (e ∷ es) none =
    let two = both_of (not (is_actor who e.actor)) (none_is_by who es) none in
    rw (and_false (is_actor who e.actor) (is_leave e.call) (not_true (is_actor who e.actor) two.0)) (others_dont_leave who es two.1)

-- at a look the seat's actor is there where it was, and its clock is as it was
module _ (k : Know) (look : List Entry) (sees : Sees k look) (here : IsPresent (seen_by k).state.core (actor_of k)) where
  legal_more : IsLegalAt (seen_by k) sees.more
  legal_more = rest_is_legal (opening_moment k.apps) k.seen sees.more (subst (IsLegalAt (opening_moment k.apps)) (sym sees.is) sees.legal)

  look_is : behind k look ≡ moment_after (seen_by k) sees.more
  look_is = ap (behind k) (sym sees.is) ∙ moments_in_turn (opening_moment k.apps) k.seen sees.more

  pub here_at_look : IsPresent (behind k look).state.core (actor_of k)
  here_at_look = subst (λ (m : Moment). IsPresent m.state.core (actor_of k)) (sym look_is) (actors_stay (seen_by k) sees.more (actor_of k) legal_more (others_dont_leave (actor_of k) sees.more sees.none_own) here)

  pub clock_at_look : clock_of (behind k look).clocks (actor_of k) ≡ clock_of (seen_by k).clocks (actor_of k)
  clock_at_look = ap (λ (m : Moment). clock_of m.clocks (actor_of k)) look_is ∙ clocks_stay (seen_by k) sees.more (actor_of k) legal_more sees.none_own here
