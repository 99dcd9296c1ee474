-- What a holder noted comes to the same behind images that were given back since.
use Rattle.std.proofs.Common.{◌≡◌, ◌≢◌, ⊎_elim, ℕ, zero, suc, ℤ, true, false, not, List, [], ◌∷◌, ◌++◌, sym, refl, ap, ◌∙◌, subst, append_assoc, true≢false}
use mathlib.Core.Logic.{dite}
use native.Mathlib.Decide.{ℕ_discrete}
use Rattle.xr_types.specs.declared.calls.Actor.{Actor}
use Rattle.xr_types.specs.declared.calls.Actor.TheVariants.{App, Compositor, Device}
use Rattle.xr_model.specs.machine.CellCalls.{CellCall}
use Rattle.xr_model.specs.machine.CoreCalls.{asked}
use Rattle.xr_model.specs.machine.History.{after, clocks_after}
use Rattle.xr_model.specs.machine.Machine.{step, reads_of, cell_calls}
use Rattle.xr_model.specs.machine.Calls.{Entry, Exchange, is_actor}
use Rattle.xr_types.specs.declared.calls.Call.{Call}
use Rattle.xr_types.specs.declared.calls.Call.TheVariants as ask
use Rattle.xr_model.specs.machine.Rule.{is_by}
use Rattle.xr_model.specs.machine.State.{State}
use Rattle.xr_model.specs.laws.FewCalls.{MayAdd}
use Rattle.xr_model.specs.laws.ImageLaws.{is_compositor_call}
use Rattle.xr_model.specs.laws.Moments.{Moment, opening_moment, moment_after, clocks_over, MayCome, exchange_at, actor_at}
use Rattle.xr_model.specs.laws.PublicationLaws.{none_is_by}
use Rattle.xr_model.proofs.Histories.{after_is_in_turn}
use Rattle.xr_model.proofs.OthersEntries.{held_images_stay}
use Rattle.xr_model.proofs.Rows.{both_of, not_true}
use Rattle.xr_model.specs.laws.ImageWords.{claimed_by, is_free, are_free, are_getters}
use Rattle.xr_model.specs.laws.ImageWordLaws.{Leaves}
use Rattle.xr_types.specs.CallKinds.{is_getter}
use Rattle.xr_model.proofs.FreeEntries.{free_is, free_leaves, getters_leave, carried}
use Rattle.xr_rule.specs.View.{Know, Turn, Idle, Waiting, Holding, number_in, calls_in}
use Rattle.xr_rule.specs.Plays.{Sees}
use Rattle.xr_model.specs.laws.MomentLaws.{are_by_callers}
use Rattle.xr_rule.specs.Rule.{Grew, HoldsIf, state_at, MayDecide, MayNote}

-- ---- moments, one behind another

clocks_in_turn : (s : State) (clocks : List ℤ) (es fs : List Entry) → clocks_over s clocks (es ++ fs) ≡ clocks_over (after s es) (clocks_over s clocks es) fs
clocks_in_turn s clocks [] fs = refl
clocks_in_turn s clocks (e ∷ es) fs = clocks_in_turn (step s e).0 (clocks_after clocks e (step s e).0) es fs

pub moments_in_turn : (m : Moment) (es fs : List Entry) → moment_after m (es ++ fs) ≡ moment_after (moment_after m es) fs
moments_in_turn m es fs = λ i. record { state = after_is_in_turn m.state es fs i; clocks = clocks_in_turn m.state m.clocks es fs i }

-- behind getters
pub moments_stay : (m : Moment) (es more : List Entry) → are_getters more ≡ true → moment_after m (es ++ more) ≡ moment_after m es
moments_stay m es more all = moments_in_turn m es more ∙ getters_leave (moment_after m es).state (moment_after m es).clocks more all

pub leaves_at : (m : Moment) (es fs : List Entry) → are_free fs ≡ true → Leaves (moment_after m es) (moment_after m (es ++ fs))
leaves_at m es fs free = subst (Leaves (moment_after m es)) (sym (moments_in_turn m es fs)) (free_leaves (moment_after m es).state (moment_after m es).clocks fs free)

-- ---- who gives images back

callers_behind : (es fs : List Entry) → are_by_callers (es ++ fs) ≡ true → are_by_callers fs ≡ true
callers_behind [] fs all = all
callers_behind (e ∷ es) fs all = callers_behind es fs (both_of (is_by (asked e.actor e.call).caller e.actor) (are_by_callers (es ++ fs)) all).1

by_compositor : (who : Actor) → is_by (asked who ask.ImageDone).caller who ≡ true → is_actor Compositor who ≡ true
by_compositor Compositor by = refl
by_compositor (App k) by = absurd (true≢false (sym by))
by_compositor Device by = absurd (true≢false (sym by))

-- the compositor alone gives images back, so behind its own look there are getters alone
pub getters_behind : (look more : List Entry) → are_by_callers (look ++ more) ≡ true → are_free more ≡ true → none_is_by (actor_at 1) more ≡ true → are_getters more ≡ true
getters_behind look [] callers free none = refl
getters_behind look (f ∷ more) callers free none =
    let here = both_of (is_by (asked f.actor f.call).caller f.actor) (are_by_callers more) (callers_behind look (f ∷ more) callers) in
    let two = both_of (is_free f) (are_free more) free in
    let others = both_of (not (is_actor Compositor f.actor)) (none_is_by Compositor more) none in
    let reads : is_getter f.call ≡ true = ⊎_elim
    (λ (done : f.call ≡ ask.ImageDone). let by = by_compositor f.actor (subst (λ (r : Call). is_by (asked f.actor r).caller f.actor ≡ true) done here.0) in absurd (true≢false (sym others.0 ∙ ap not by)))
    (λ (reads : is_getter f.call ≡ true). reads)
    (free_is f two.0) in
    rw reads (getters_behind [] more here.1 two.1 others.1)

-- others' calls are none of the compositor's
pub others_aside : (n : ℕ) (what : Call) → n ≢ 1 → is_by (asked (actor_at n) what).caller (actor_at n) ≡ true → is_compositor_call what ≡ false
others_aside zero ask.NextFrame apart by = absurd (true≢false (sym by))
others_aside zero ask.ImageDone apart by = absurd (true≢false (sym by))
others_aside zero what apart by = refl
others_aside (suc zero) what apart by = absurd (apart refl)
others_aside (suc (suc n)) ask.NextFrame apart by = absurd (true≢false (sym by))
others_aside (suc (suc n)) ask.ImageDone apart by = absurd (true≢false (sym by))
others_aside (suc (suc n)) what apart by = refl

-- how many calls others may add doesn't depend on the moment
pub others_add : (n : ℕ) (m l : Moment) (e : Entry) (calls : List Exchange) → n ≢ 1 → MayAdd n m e calls → MayAdd n l e calls
others_add zero m l e calls apart may = may
others_add (suc zero) m l e calls apart may = absurd (apart refl)
others_add (suc (suc n)) m l e calls apart may = may

-- ---- the history grows beside a holder

free_more : (es : List Entry) (e : Entry) → are_free es ≡ true → is_free e ≡ true → are_free (es ++ e ∷ []) ≡ true
free_more [] e free one = rw one refl
free_more (f ∷ es) e free one = let two = both_of (is_free f) (are_free es) free in rw (two.0, free_more es e two.1 one) refl

pub grew_more : (look log : List Entry) (e : Entry) → Grew look log → is_free e ≡ true → Grew look (log ++ e ∷ [])
grew_more look log e g one = record { more = g.more ++ e ∷ []; is = sym (append_assoc look g.more (e ∷ [])) ∙ ap (λ (l : List Entry). l ++ e ∷ []) g.is; free = free_more g.more e g.free one }

pub holds_more : (log : List Entry) (served : ℕ) (e : Entry) (u : Turn) → is_free e ≡ true → HoldsIf log served u → HoldsIf (log ++ e ∷ []) served u
holds_more log served e Idle one h = tt
holds_more log served e (Waiting n) one h = tt
holds_more log served e (Holding x) one h = record { is_served = h.is_served; grew = grew_more x.look log e h.grew one }

-- ---- what was noted

-- A noted entry may be decided behind a longer history, and comes to the same there.
pub record NoteAt (k : Know) (look log : List Entry) (made : List CellCall) (e : Entry) : Type 0 where
  pub decides : MayDecide k log e
  pub same : exchange_at (moment_after (opening_moment k.apps) log) e ≡ exchange_at (moment_after (opening_moment k.apps) look) e
  pub core : (step (state_at k log) e).0.core ≡ (step (state_at k look) e).0.core
  pub made_is : made ≡ cell_calls (state_at k log).core (reads_of (state_at k log) e.call) e
  pub claims_none : claimed_by (state_at k log).core (reads_of (state_at k log) e.call) e ≡ []

-- getters leave the whole moment
note_still : (k : Know) (look more : List Entry) (made : List CellCall) (e : Entry) → are_getters more ≡ true → MayNote k look made e → NoteAt k look (look ++ more) made e
note_still k look more made e all may =
    let m : Moment = moment_after (opening_moment k.apps) look in
    let same : moment_after (opening_moment k.apps) (look ++ more) ≡ m = moments_stay (opening_moment k.apps) look more all in
    let d = may.decides in
    record {
      decides = record { by_own = d.by_own; caller = d.caller; numbers = d.numbers; comes = subst (λ (n : Moment). MayCome n e) (sym same) d.comes; few = subst (λ (n : Moment). MayAdd (number_in k.own) n e (calls_in k.own)) (sym same) d.few };
      same = ap (λ (n : Moment). exchange_at n e) same;
      core = ap (λ (n : Moment). (step n.state e).0.core) same;
      made_is = may.made_is ∙ ap (λ (n : Moment). cell_calls n.state.core (reads_of n.state e.call) e) (sym same);
      claims_none = ap (λ (n : Moment). claimed_by n.state.core (reads_of n.state e.call) e) same ∙ may.claims_none;
    }

note_behind : (k : Know) (look more : List Entry) (made : List CellCall) (e : Entry) → are_free more ≡ true → number_in k.own ≢ 1 → MayNote k look made e → NoteAt k look (look ++ more) made e
note_behind k look more made e free apart may =
    let m : Moment = moment_after (opening_moment k.apps) look in
    let n : Moment = moment_after (opening_moment k.apps) (look ++ more) in
    let d = may.decides in
    let aside : is_compositor_call e.call ≡ false = others_aside (number_in k.own) e.call apart (subst (λ (a : Actor). is_by (asked a e.call).caller a ≡ true) d.by_own d.caller) in
    let c = carried m n e (leaves_at (opening_moment k.apps) look more free) aside may.claims_none d.comes in
    record {
      decides = record { by_own = d.by_own; caller = d.caller; numbers = d.numbers; comes = c.comes; few = others_add (number_in k.own) m n e (calls_in k.own) apart d.few };
      same = c.same;
      core = c.core;
      made_is = may.made_is ∙ sym c.calls;
      claims_none = c.unclaimed;
    }

pub note_at : (k : Know) (look log : List Entry) (made : List CellCall) (e : Entry) (g : Grew look log) → (number_in k.own ≡ 1 → are_getters g.more ≡ true) → MayNote k look made e → NoteAt k look log made e
note_at k look log made e g compositor may = subst (λ (l : List Entry). NoteAt k look l made e) g.is (dite (ℕ_discrete (number_in k.own) 1)
    (λ is. note_still k look g.more made e (compositor is) may)
    (λ apart. note_behind k look g.more made e g.free apart may))

-- ---- what the compositor holds

-- of what callers may ask, only the compositor's calls change what is held
aside : (who : Actor) (what : Call) → is_by (asked who what).caller who ≡ true → is_actor Compositor who ≡ false → is_compositor_call what ≡ false
aside (App k) ask.NextFrame by other = absurd (true≢false (sym by))
aside (App k) ask.ImageDone by other = absurd (true≢false (sym by))
aside Compositor ask.NextFrame by other = absurd (true≢false other)
aside Compositor ask.ImageDone by other = absurd (true≢false other)
aside Device ask.NextFrame by other = absurd (true≢false (sym by))
aside Device ask.ImageDone by other = absurd (true≢false (sym by))
aside who what by other = refl

held_over : (s : State) (es : List Entry) → none_is_by Compositor es ≡ true → are_by_callers es ≡ true → (after s es).cells.held ≡ s.cells.held
held_over s [] none own = refl
held_over s (e ∷ es) none own =
    let two = both_of (not (is_actor Compositor e.actor)) (none_is_by Compositor es) none in
    let callers = both_of (is_by (asked e.actor e.call).caller e.actor) (are_by_callers es) own in
    held_over (step s e).0 es two.1 callers.1 ∙ held_images_stay s e (aside e.actor e.call callers.0 (not_true (is_actor Compositor e.actor) two.0))

-- the compositor's seat knows which images are held
pub held_seen : (k : Know) (look : List Entry) (sees : Sees k look) → number_in k.own ≡ 1 → (state_at k look).cells.held ≡ (state_at k k.seen).cells.held
held_seen k look sees is =
    ap (λ (l : List Entry). (state_at k l).cells.held) (sym sees.is)
    ∙ ap (λ (s : State). s.cells.held) (after_is_in_turn (opening_moment k.apps).state k.seen sees.more)
    ∙ held_over (state_at k k.seen) sees.more
    (subst (λ (n : ℕ). none_is_by (actor_at n) sees.more ≡ true) is sees.none_own)
    (callers_behind k.seen sees.more (subst (λ (es : List Entry). are_by_callers es ≡ true) (sym sees.is) sees.by_callers))
