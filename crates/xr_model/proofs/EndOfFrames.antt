-- Once the compositor was told the end, all frames that were submitted are shown.
use Rattle.std.proofs.Common.{◌≡◌, ◌-◌, ◌++◌, ◌∙◌, ℕ, ℤ, Bool, true, false, not, List, [], ◌∷◌, drop, Option, Some, None, refl, sym, ap, append-nil, true≢false}
use Rattle.std.specs.Prelude.{◌&&◌, ◌||◌}
use Rattle.std.specs.List.{list_all}
use Rattle.xr_types.specs.declared.calls.Actor.{Actor}
use Rattle.xr_types.specs.declared.calls.Actor.TheVariants.{App, Compositor, Device}
use Rattle.xr_types.specs.Frames.{PendingFrame}
use Rattle.xr_model.specs.machine.CoreCalls.{asked}
use Rattle.xr_model.specs.machine.Frames.{is_empty}
use Rattle.xr_model.specs.machine.Refusals.{Refusal}
use Rattle.xr_model.specs.machine.Calls.{Entry, is_actor}
use Rattle.xr_types.specs.declared.calls.Call.{Call}
use Rattle.xr_types.specs.declared.calls.Call.TheVariants as ask
use Rattle.xr_model.specs.machine.Rule.{Effect, is_by, refusal, told_on, unless_refused}
use Rattle.xr_model.specs.machine.State.{CoreState, State, opening}
use Rattle.xr_model.specs.machine.Machine.{IsPresent, ready, reads_of, rule, step}
use Rattle.xr_model.specs.machine.History.{after, opening_clocks, clocks_after, IsLegalFrom}
use Rattle.xr_model.specs.laws.FrameLaws.{shown_from, shown_now, is_told_end, was_told_end, AllAreShownAtTheEnd}
use Rattle.xr_model.specs.laws.MomentLaws.{are_by_callers}
use Rattle.xr_types.specs.CallKinds.{is_leave}
use Rattle.xr_model.proofs.FrameCalls.{none_is_there}
use Rattle.xr_model.proofs.FrameLists.{frames_stay, is_frame_move}
use Rattle.xr_model.proofs.OthersEntries.{left_stays}
use Rattle.xr_model.proofs.Rows.{both_of}
use Rattle.xr_model.proofs.ShownFrames.{frames_as_submitted}

-- no frame is pending, and no application is there
pub record IsOver (s : CoreState) : Type 0 where
  pub pending : s.frames.pending ≡ []
  pub gone : (k : ℕ) → IsPresent s (App k) → ⊥

-- ---- the end is told

at_end : (s : State) (e : Entry) (d : Bool) → not (is_empty s.cells.held) ≡ d → (fs : List PendingFrame) → s.core.frames.pending ≡ fs → (a : Bool) → list_all (λ has_left. has_left) s.core.left ≡ a
    → ready s (record e { call = ask.NextFrame }) ≡ true → is_told_end s (record e { call = ask.NextFrame }) ≡ true → IsOver (step s (record e { call = ask.NextFrame })).0.core
at_end s e true ed fs efs a ea is_ready tells = absurd (true≢false (sym (rw ed at tells)))
at_end s e false ed (f ∷ fs) efs a ea is_ready tells = absurd (true≢false (sym (rw (ed, efs) at tells)))
at_end s e false ed [] efs false ea is_ready tells = absurd (true≢false (sym (rw (ed, efs, ea) at is_ready)))
at_end s e false ed [] efs true ea is_ready tells = record {
  pending = rw (ed, efs) refl;
  gone = λ k there. let here = rw ed at there in none_is_there s.core.left (k - 1) ea here.2;
}

over_at : (s : State) (e : Entry) → ready s e ≡ true → is_told_end s e ≡ true → IsOver (step s e).0.core
over_at s e is_ready tells = by e.call is_ready tells
  where
    by : (r : Call) → ready s (record e { call = r }) ≡ true → is_told_end s (record e { call = r }) ≡ true → IsOver (step s (record e { call = r })).0.core
    by ask.NextFrame is_ready tells = at_end s e (not (is_empty s.cells.held)) refl s.core.frames.pending refl (list_all (λ has_left. has_left) s.core.left) refl is_ready tells
    by _ is_ready tells = absurd (true≢false (sym tells))

-- ---- behind the end

next_pending : (s : CoreState) (o : Option Refusal) (x : Effect) → s.frames.pending ≡ [] → x.state.frames.pending ≡ drop 1 s.frames.pending → (unless_refused s o x).state.frames.pending ≡ []
next_pending s None x none is = is ∙ ap (λ (fs : List PendingFrame). drop 1 fs) none
next_pending s (Some r) x none is = none

-- nobody submits a frame who isn't an application
not_submitted : (s : CoreState) (e : Entry) → IsOver s → IsPresent s e.actor → is_by (asked e.actor e.call).caller e.actor ≡ true → (r : Call) → e.call ≡ r → is_frame_move r ≡ true → r ≡ ask.NextFrame
not_submitted s e over there own ask.NextFrame er moves = refl
not_submitted s e over there own (ask.EndFrame session time blend layers) er moves = by e.actor there (rw er at own)
  where
    by : (who : Actor) → IsPresent s who → is_by (asked who (ask.EndFrame session time blend layers)).caller who ≡ true → ask.EndFrame session time blend layers ≡ ask.NextFrame
    by (App k) there own = absurd (over.gone k there)
    by Compositor there own = absurd (true≢false (sym own))
    by Device there own = absurd (true≢false (sym own))
not_submitted s e over there own _ er moves = absurd (true≢false (sym moves))

over_step : (s : State) (e : Entry) → IsPresent s.core e.actor → is_by (asked e.actor e.call).caller e.actor ≡ true → IsOver s.core → IsOver (step s e).0.core
over_step s e there own over = record { pending = by (is_frame_move e.call) refl; gone = gone }
  where
    taken : (r : Call) → e.call ≡ r → r ≡ ask.NextFrame → (step s (record e { call = r })).0.core.frames.pending ≡ []
    taken ask.NextFrame er is = let f = rule s.core (reads_of s ask.NextFrame) (record e { call = ask.NextFrame }) in next_pending s.core (refusal e.short f) (told_on f.on f.effect) over.pending refl
    taken r er is = cc

    by : (b : Bool) → is_frame_move e.call ≡ b → (step s e).0.core.frames.pending ≡ []
    by true moves = taken e.call refl (not_submitted s.core e over there own e.call refl moves)
    by false moves = (frames_stay s.core (reads_of s e.call) e moves).pending ∙ over.pending

    other : (k : ℕ) (who : Actor) → IsPresent s.core who → is_actor (App k) who && is_leave e.call ≡ false
    other k (App j) there = absurd (over.gone j there)
    other k Compositor there = refl
    other k Device there = refl

    gone : (k : ℕ) → IsPresent (step s e).0.core (App k) → ⊥
    gone k here = over.gone k (here.0, here.1, sym (left_stays s e k here.0 there (other k e.actor there)) ∙ here.2)

over_after : (s : State) (clocks : List ℤ) (es : List Entry) → IsLegalFrom s clocks es → are_by_callers es ≡ true → IsOver s.core → (after s es).core.frames.pending ≡ []
over_after s clocks [] legal own over = over.pending
over_after s clocks (e ∷ es) legal own over =
    let two = both_of (is_by (asked e.actor e.call).caller e.actor) (are_by_callers es) own in
    over_after (step s e).0 (clocks_after clocks e (step s e).0) es legal.3 two.1 (over_step s e legal.0.present two.0 over)

none_pending : (s : State) (clocks : List ℤ) (es : List Entry) → IsLegalFrom s clocks es → are_by_callers es ≡ true → was_told_end s es ≡ true → (after s es).core.frames.pending ≡ []
none_pending s clocks [] legal own told = absurd (true≢false (sym told))
none_pending s clocks (e ∷ es) legal own told =
    let two = both_of (is_by (asked e.actor e.call).caller e.actor) (are_by_callers es) own in
    by two.1 (none_pending (step s e).0 (clocks_after clocks e (step s e).0) es legal.3 two.1) (is_told_end s e) refl told
  where
    by : are_by_callers es ≡ true → (was_told_end (step s e).0 es ≡ true → (after (step s e).0 es).core.frames.pending ≡ []) → (b : Bool) → is_told_end s e ≡ b → b || was_told_end (step s e).0 es ≡ true
        → (after (step s e).0 es).core.frames.pending ≡ []
    by own more true is told = over_after (step s e).0 (clocks_after clocks e (step s e).0) es legal.3 own (over_at s e legal.2 is)
    by own more false is told = more told

pub all_are_shown_at_the_end : AllAreShownAtTheEnd
all_are_shown_at_the_end settings es legal own told =
    sym (append-nil (shown_from (opening settings) es))
    ∙ sym (ap (λ (fs : List PendingFrame). shown_from (opening settings) es ++ shown_now (after (opening settings) es) fs) (none_pending (opening settings) (opening_clocks settings) es legal own told))
    ∙ frames_as_submitted settings es legal
