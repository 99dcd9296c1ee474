-- Laws of histories, by induction over their entries.
use Rattle.std.specs.Prelude.{if◌then◌else◌, cond, take}
use Rattle.std.proofs.Common.{◌≡◌, ◌+◌, ℕ, List, Bool, zero, suc, true, false, [], ◌∷◌, Option, Some, None, refl, sym, ◌∙◌, arith, true≢false}
use Rattle.xr_types.specs.Code.{is_success}
use Rattle.xr_types.specs.declared.code.Code.{Code}
use Rattle.xr_types.specs.declared.code.Code.TheVariants.{Success, SessionLossPending, SessionNotFocused, FrameDiscarded}
use Rattle.xr_model.specs.machine.SessionRule.{Loss}
use Rattle.xr_model.proofs.Successes.{success_still, begun_succeeds}
use Rattle.xr_types.specs.declared.device.DeviceEvent.TheVariants as event
use Rattle.xr_types.specs.CallKinds.{is_locked, is_published}
use Rattle.xr_model.specs.machine.Calls.{Entry, Outcome}
use Rattle.xr_types.specs.declared.calls.Call.{Call}
use Rattle.xr_types.specs.declared.calls.Call.TheVariants as ask
use Rattle.xr_model.specs.machine.Refusals.{Refusal}
use Rattle.xr_model.specs.machine.State.{CoreState, CellReads, State}
use Rattle.xr_model.specs.machine.Rule.{Effect, refusal, told_on, unless_refused, nothing_done, locked_after, published_after}
use Rattle.xr_types.specs.declared.session.SessionState.TheVariants.{Focused}
use Rattle.xr_model.specs.machine.Rules.Session.{life_of, loop_of}
use Rattle.xr_model.specs.machine.Rules.Sync.{synced_code}
use Rattle.xr_model.specs.machine.SessionLife.{is_state}
use Rattle.xr_model.specs.machine.Machine.{step, effect, rule, reads_of, cells_after}
use Rattle.xr_model.specs.machine.History.{clocks_after}
use Rattle.xr_model.specs.machine.Positions.{outcome_from}
use Rattle.xr_model.specs.laws.Laws.{is_without_effect, RefusalsChangeNothing, AfterIsInTurn, count_locked, EntriesAreCounted, PlacesCount, FrontsAreLegal, HasPlace}

-- a success has an effect
success_has_effect : (code : Code) → is_success code ≡ true → is_without_effect code ≡ true → ⊥
success_has_effect Success good bad = true≢false (sym bad)
success_has_effect SessionLossPending good bad = true≢false (sym bad)
success_has_effect SessionNotFocused good bad = true≢false (sym bad)
success_has_effect FrameDiscarded good bad = true≢false (sym bad)
success_has_effect _ good bad = true≢false (sym good)

-- what is left where an effect is a success and the call was answered without an effect is the old state, and nothing was done
refused_or_done : (s : CoreState) (o : Option Refusal) (e : Effect) → is_success e.code ≡ true → is_without_effect (unless_refused s o e).code ≡ true → ((unless_refused s o e).state ≡ s) × ((unless_refused s o e).did ≡ nothing_done)
refused_or_done s None e good bad = absurd (success_has_effect e.code good bad)
refused_or_done s (Some r) e good bad = (refl, refl)

synced_succeeds : (is_focused : Bool) → is_success (synced_code is_focused) ≡ true
synced_succeeds true = refl
synced_succeeds false = refl

-- the effect of every rule is a success
effects_succeed : (s : CoreState) (reads : CellReads) (e : Entry) → is_success (rule s reads e).effect.code ≡ true
effects_succeed s reads e = by e.call
  where
    by : (r : Call) → is_success (rule s reads (record e { call = r })).effect.code ≡ true
    by (ask.BeginFrame session) = begun_succeeds (loop_of s session)
    by (ask.SyncActions session active) = synced_succeeds (is_state (life_of s session).state Focused)
    by ask.Leave = refl
    by _ = refl

told_succeeds : (on : Option Loss) (x : Effect) → is_success x.code ≡ true → is_success (told_on on x).code ≡ true
told_succeeds None x good = good
told_succeeds (Some loss) x good = success_still loss x.code good

-- what an effect that did nothing leaves of the whole state
left_whole : (s : State) (e : Entry) (x : Effect) → x.state ≡ s.core → x.did ≡ nothing_done → published_after s.core e.call x.code ≡ s.core.published
    → record { core = record x.state { apps = s.core.apps; locked = locked_after s.core e.call; published = published_after s.core e.call x.code }; cells = cells_after s.cells x.did } ≡ record s { core = record s.core { locked = locked_after s.core e.call } }
left_whole s e x state did same = rw (state, did, same) refl

-- a call without an effect publishes nothing
silent : (code : Code) → is_without_effect code ≡ true → is_published code ≡ false
silent Success bad = absurd (true≢false (sym bad))
silent SessionLossPending bad = absurd (true≢false (sym bad))
silent SessionNotFocused bad = absurd (true≢false (sym bad))
silent _ bad = refl

unpublished : (s : State) (e : Entry) → is_without_effect (step s e).1.reply.code ≡ true → published_after s.core e.call (step s e).1.reply.code ≡ s.core.published
unpublished s e bad = by e.call bad
  where
    code_of : Call → Code
    code_of r = (step s (record e { call = r })).1.reply.code

    none : (r : Call) → is_without_effect (code_of r) ≡ true → (if is_published (code_of r) then s.core.locked + 1 else s.core.published) ≡ s.core.published
    none r bad = rw (silent (code_of r) bad) refl

    by : (r : Call) → is_without_effect (code_of r) ≡ true → published_after s.core r (code_of r) ≡ s.core.published
    by (ask.CreateSession instance system) bad = none (ask.CreateSession instance system) bad
    by (ask.DestroySession session) bad = none (ask.DestroySession session) bad
    by (ask.CreateAction set name type subs localized) bad = none (ask.CreateAction set name type subs localized) bad
    by (ask.DestroyAction action) bad = none (ask.DestroyAction action) bad
    by (ask.DestroyActionSet set) bad = none (ask.DestroyActionSet set) bad
    by (ask.DestroyInstance instance) bad = none (ask.DestroyInstance instance) bad
    by (ask.AttachSets session sets) bad = none (ask.AttachSets session sets) bad
    by (ask.SyncActions session active) bad = none (ask.SyncActions session active) bad
    by (ask.Device event.Loss) bad = absurd (true≢false (sym bad))
    by (ask.Device event.Lost) bad = absurd (true≢false (sym bad))
    by (ask.Device event.Fault) bad = absurd (true≢false (sym bad))
    by (ask.Device (event.Garbled line)) bad = absurd (true≢false (sym bad))
    by (ask.Device told) bad = refl
    by r bad = refl

pub refusals_change_nothing : RefusalsChangeNothing
refusals_change_nothing s e bad =
    let f = rule s.core (reads_of s e.call) e in
    let both = refused_or_done s.core (refusal e.short f) (told_on f.on f.effect) (told_succeeds f.on f.effect (effects_succeed s.core (reads_of s e.call) e)) bad in
    left_whole s e (effect s.core (reads_of s e.call) e) both.0 both.1 (unpublished s e bad)

pub after_is_in_turn : AfterIsInTurn
after_is_in_turn s [] fs = refl
after_is_in_turn s (e ∷ es) fs = after_is_in_turn (step s e).0 es fs

-- a locked call is counted
counted : (b : Bool) (n : ℕ) → (if b then n + 1 else n) ≡ n + cond b 1 0
counted true n = refl
counted false n = omega arith

pub step_counts : (s : State) (e : Entry) → (step s e).0.core.locked ≡ s.core.locked + cond (is_locked e.call) 1 0
step_counts s e = counted (is_locked e.call) s.core.locked

pub one_more : (e : Entry) (es : List Entry) → count_locked (e ∷ es) ≡ count_locked es + cond (is_locked e.call) 1 0
one_more e es = counted (is_locked e.call) (count_locked es)

pub entries_are_counted : EntriesAreCounted
entries_are_counted s [] = omega arith
entries_are_counted s (e ∷ es) =
    let first = step_counts s e in
    let all = one_more e es in
    entries_are_counted (step s e).0 es ∙ omega arith

only : (x y : Entry) → Some x ≡ Some y → x ≡ y
only x y same = cc

pub places_count : PlacesCount
places_count s [] k e there locked = cc
places_count s (x ∷ es) zero e there locked = rw (only x e there, locked) (omega arith)
places_count s (x ∷ es) (suc k) e there locked = by (outcome_from (step s x).0 es k) (places_count (step s x).0 es k e there locked)
  where
    by : (o : Option Outcome) → HasPlace ((step s x).0.core.locked + count_locked (take (suc k) es)) o → HasPlace (s.core.locked + count_locked (take (suc (suc k)) (x ∷ es))) o
    by None h = h
    by (Some outcome) h =
        let first = step_counts s x in
        let all = one_more x (take (suc k) es) in
        h ∙ omega arith

pub fronts_are_legal : FrontsAreLegal
fronts_are_legal s clocks [] fs legal = tt
fronts_are_legal s clocks (e ∷ es) fs legal = (legal.0, legal.1, legal.2, fronts_are_legal (step s e).0 (clocks_after clocks e (step s e).0) es fs legal.3)
