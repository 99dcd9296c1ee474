-- A getter of an application that is there may be decided wherever the history is.
use Rattle.std.proofs.Common.{◌≡◌, ℕ, suc, zero, ◌<◌, ◌≤◌, ◌^◌, ℤ, Bool, true, false, not, ◌&&◌, ◌||◌, List, [], ◌∷◌, ◌++◌, length, sym, refl, ap, ◌∙◌, subst, arith, true≢false}
use Rattle.xr_types.specs.declared.calls.Actor.{Actor}
use Rattle.xr_types.specs.declared.calls.Actor.TheVariants.{App}
use Rattle.xr_types.specs.declared.calls.Call.{Call}
use Rattle.xr_types.specs.declared.calls.Call.TheVariants as ask
use Rattle.xr_types.specs.CallKinds.{is_getter, is_leave}
use Rattle.xr_model.specs.machine.Calls.{Entry, Exchange, is_actor}
use Rattle.xr_model.specs.machine.CoreCalls.{asked}
use Rattle.xr_model.specs.machine.History.{after, clocks_after, clock_of, IsLegalFrom, StartsAt}
use Rattle.xr_model.specs.machine.Machine.{IsPresent, IsAllowed, step}
use Rattle.xr_model.specs.machine.Publication.{publication_of}
use Rattle.xr_model.specs.machine.Rule.{is_by}
use Rattle.xr_model.specs.machine.State.{State, with_apps}
use Rattle.xr_model.specs.laws.DecidedEntries.{is_image_done}
use Rattle.xr_model.specs.laws.FewCalls.{MayAdd}
use Rattle.xr_model.specs.laws.ImageWords.{is_free}
use Rattle.xr_model.specs.laws.Moments.{Moment, opening_moment, moment_after, clocks_over, IsLegalAt, actor_at}
use Rattle.xr_model.specs.laws.MomentLaws.{leaves_by_none}
use Rattle.xr_model.specs.laws.PublicationLaws.{none_is_by}
use Rattle.xr_model.specs.laws.WordLaws.{PublicationFits}
use Rattle.xr_model.proofs.FittingPublications.{publications_fit}
use Rattle.xr_model.proofs.GetterSteps.{getters_are_ready}
use Rattle.xr_model.proofs.OthersEntries.{actors_stay}
use Rattle.xr_model.proofs.Rows.{both_of, not_true}
use Rattle.xr_rule.specs.Plays.{Sees}
use Rattle.xr_rule.specs.Rule.{have_good_numbers, MayDecide, MayRead}
use Rattle.xr_rule.specs.View.{Know, number_in, calls_in}
use Rattle.xr_rule.proofs.Carrying.{moments_in_turn}

-- it is decided without the lock
pub reads_freely : (e : Entry) → is_getter e.call ≡ true → is_free e ≡ true
reads_freely e is = by (is_image_done e.call)
  where
    by : (b : Bool) → b || is_getter e.call ≡ true
    by true = refl
    by false = is

module _ (s : State) (e : Entry) (is : is_getter e.call ≡ true) where
  allowed : e.given ≡ 0 → e.short ≡ false → IsPresent s.core e.actor → IsAllowed s e
  allowed none not_short here = by e.call is
    where
      by : (r : Call) → is_getter r ≡ true → IsAllowed s (record e { call = r })
      by (ask.GetBoolean session action sub) is = record { handle = none; memory = λ short. absurd (true≢false (sym short ∙ not_short)); present = here }
      by (ask.GetFloat session action sub) is = record { handle = none; memory = λ short. absurd (true≢false (sym short ∙ not_short)); present = here }
      by (ask.GetVector session action sub) is = record { handle = none; memory = λ short. absurd (true≢false (sym short ∙ not_short)); present = here }
      by (ask.GetPoseActive session action sub) is = record { handle = none; memory = λ short. absurd (true≢false (sym short ∙ not_short)); present = here }
      by r is = absurd (true≢false (sym is))

starts_anywhere : (clock : ℤ) (r : Call) → is_getter r ≡ true → StartsAt clock r
starts_anywhere clock (ask.GetBoolean session action sub) is = tt
starts_anywhere clock (ask.GetFloat session action sub) is = tt
starts_anywhere clock (ask.GetVector session action sub) is = tt
starts_anywhere clock (ask.GetPoseActive session action sub) is = tt
starts_anywhere clock r is = absurd (true≢false (sym is))

asked_by_app : (k : ℕ) (r : Call) → is_getter r ≡ true → is_by (asked (App k) r).caller (App k) ≡ true
asked_by_app k (ask.GetBoolean session action sub) is = refl
asked_by_app k (ask.GetFloat session action sub) is = refl
asked_by_app k (ask.GetVector session action sub) is = refl
asked_by_app k (ask.GetPoseActive session action sub) is = refl
asked_by_app k r is = absurd (true≢false (sym is))

asked_in_range : (who : Actor) (r : Call) → is_getter r ≡ true → (asked who r).in_range ≡ true
asked_in_range who (ask.GetBoolean session action sub) is = refl
asked_in_range who (ask.GetFloat session action sub) is = refl
asked_in_range who (ask.GetVector session action sub) is = refl
asked_in_range who (ask.GetPoseActive session action sub) is = refl
asked_in_range who r is = absurd (true≢false (sym is))

app_asks : (n : ℕ) (who : Actor) (r : Call) → 2 ≤ n → who ≡ actor_at n → is_getter r ≡ true → is_by (asked who r).caller who ≡ true
app_asks zero who r two is getter = absurd (omega arith)
app_asks (suc zero) who r two is getter = absurd (omega arith)
app_asks (suc (suc k)) who r two is getter = subst (λ (a : Actor). is_by (asked a r).caller a ≡ true) (sym is) (asked_by_app (suc k) r getter)

app_adds : (n : ℕ) (m : Moment) (e : Entry) (calls : List Exchange) → 2 ≤ n → length calls < 2 ^ 40 → MayAdd n m e calls
app_adds zero m e calls two few = absurd (omega arith)
app_adds (suc zero) m e calls two few = absurd (omega arith)
app_adds (suc (suc k)) m e calls two few = few

legal_behind : (s : State) (clocks : List ℤ) (es fs : List Entry) → IsLegalFrom s clocks (es ++ fs) → IsLegalFrom (after s es) (clocks_over s clocks es) fs
legal_behind s clocks [] fs legal = legal
legal_behind s clocks (e ∷ es) fs legal = legal_behind (step s e).0 (clocks_after clocks e (step s e).0) es fs legal.3

pub and_false : (a b : Bool) → a ≡ false → not (a && b) ≡ true
and_false a b is = rw is refl

others_dont_leave : (who : Actor) (es : List Entry) → none_is_by who es ≡ true → leaves_by_none who es ≡ true
others_dont_leave who [] none = refl
others_dont_leave who (e ∷ es) none =
    let two = both_of (not (is_actor who e.actor)) (none_is_by who es) none in
    rw (and_false (is_actor who e.actor) (is_leave e.call) (not_true (is_actor who e.actor) two.0)) (others_dont_leave who es two.1)

-- who was there is there still
still_here : (k : Know) (log : List Entry) (e : Entry) → Sees k log → e.actor ≡ actor_at (number_in k.own) → IsPresent (moment_after (opening_moment k.apps) k.seen).state.core e.actor → IsPresent (moment_after (opening_moment k.apps) log).state.core e.actor
still_here k log e sees own here =
    let m : Moment = opening_moment k.apps in
    let now : Moment = moment_after m k.seen in
    let legal : IsLegalAt now sees.more = legal_behind m.state m.clocks k.seen sees.more (subst (IsLegalAt m) (sym sees.is) sees.legal) in
    let is : moment_after now sees.more ≡ moment_after m log = sym (moments_in_turn m k.seen sees.more) ∙ ap (moment_after m) sees.is in
    subst (λ (x : Moment). IsPresent x.state.core e.actor) is (actors_stay now sees.more e.actor legal (others_dont_leave e.actor sees.more (subst (λ (a : Actor). none_is_by a sees.more ≡ true) (sym own) sees.none_own)) here)

-- a getter may be decided wherever the history is
pub may_read : (k : Know) (log : List Entry) (e : Entry) → Sees k log → MayRead k e → MayDecide k log e
may_read k log e sees may =
    let m : Moment = moment_after (opening_moment k.apps) log in
    let here = still_here k log e sees may.is_own may.here in record {
      by_own = may.is_own;
      caller = app_asks (number_in k.own) e.actor e.call may.is_app may.is_own may.getter;
      numbers = asked_in_range e.actor e.call may.getter;
      comes = record { allowed = allowed m.state e may.getter may.gives_none may.not_short here; starts = starts_anywhere (clock_of m.clocks e.actor) e.call may.getter; is_ready = getters_are_ready m.state e may.getter };
      few = app_adds (number_in k.own) m e (calls_in k.own) may.is_app may.few;
    }

-- and what is published has room in words
pub published_fits : (key : ℕ) (log : List Entry) → IsLegalAt (opening_moment key) log → have_good_numbers log ≡ true → PublicationFits (publication_of (moment_after (opening_moment key) log).state.core)
published_fits key log legal good = publications_fit (with_apps key) log legal good
