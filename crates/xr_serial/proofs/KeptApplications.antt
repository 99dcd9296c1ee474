-- What is kept of the applications.
use Rattle.std.proofs.Common.{◌≡◌, ◌+◌, ◌-◌, ◌<◌, ℕ, ℤ, Bool, true, false, List, [], ◌∷◌, ◌++◌, length, drop, map, get_or, set, refl, sym, ◌∙◌, arith, append_assoc, length-append, length-set, true≢false}
use Rattle.std.specs.Prelude.{if◌then◌else◌, ◌==◌}
use Rattle.std.proofs.lemmas.Bool.{eqb-true, eqb-false, eq-eqb, ne_eqb}
use Rattle.std.proofs.lemmas.List.{get_or-set_same, get_or-set_other}
use Rattle.std.proofs.lemmas.Grind.{common_steps}
use Rattle.xr_types.specs.declared.calls.Actor.{Actor}
use Rattle.xr_types.specs.declared.calls.Actor.TheVariants.{App}
use Rattle.xr_types.specs.declared.made.Made.{Made}
use Rattle.xr_types.specs.declared.scenario.Op.{Op}
use Rattle.xr_model.specs.machine.Calls.{Outcome, Exchange}
use Rattle.xr_types.specs.declared.calls.Call.TheVariants as ask
use Rattle.xr_model.specs.machine.State.{State}
use Rattle.xr_model.specs.runs.NameValues.{value_given}
use Rattle.xr_serial.specs.inside.Made.{calls_with}
use Rattle.xr_serial.specs.inside.RunState.{AppState}
use Rattle.xr_serial.specs.inside.Sides.{app_with, app_left, op_request}
use Rattle.xr_serial.specs.inside.RunInvariant.{AppKept, AppsKept}
use Rattle.xr_runs.specs.Sides.{exchange_of}
use Rattle.xr_runs.proofs.OpCalls.{same_request}
use Rattle.xr_runs.proofs.Listing.{made_snoc}

drop_all : (ops : List Op) → drop (length ops) ops ≡ []
drop_all ops = grind (arith, common_steps)

-- ---- one application

-- told by what each of its values is
pub same_app : {a b : AppState} → a.made ≡ b.made → a.names ≡ b.names → a.calls ≡ b.calls → a.clock ≡ b.clock → a.has_left ≡ b.has_left → a ≡ b
same_app {a} {b} made names calls clock left = by b.made b.names b.calls b.clock b.has_left made names calls clock left
  where
    by : (m : ℕ) (n : List ℕ) (c : List Made) (t : ℤ) (l : Bool) → a.made ≡ m → a.names ≡ n → a.calls ≡ c → a.clock ≡ t → a.has_left ≡ l → a ≡ record { made = m; names = n; calls = c; clock = t; has_left = l }
    by m n c t l em en ec et el = rw (← em, ← en, ← ec, ← et, ← el) refl

-- it hasn't left yet
left_no_calls : (app : AppState) (calls : List Exchange) → app.has_left ≡ false → length calls ≡ app.made + (if app.has_left then 1 else 0) → length calls ≡ app.made + 0
left_no_calls app calls stays count = count ∙ rw stays refl

pub op_more : (ops : List Op) (app : AppState) (calls : List Exchange) (o : Op) (outcome : Outcome) (clock : ℤ) → app.made < length ops → drop app.made ops ≡ o ∷ drop (app.made + 1) ops → app.has_left ≡ false → AppKept ops app calls
    → AppKept ops (app_with app o (exchange_of (op_request app o) outcome) clock) (calls ++ exchange_of (op_request app o) outcome ∷ [])
op_more ops app calls o outcome clock within here stays kept =
    let t : Exchange = exchange_of (op_request app o) outcome in
    let count : length calls ≡ app.made + 0 = left_no_calls app calls stays kept.count in
    let place : 1 + length calls ≡ app.made + 1 = omega (arith, count) in
    record {
      within = omega (arith, within);
      named = length-set app.names (app.made + 1 - 1) (value_given o outcome.reply.gives) ∙ kept.named;
      list_is = sym (made_snoc 1 calls t ∙ rw (place, ← kept.list_is) refl);
      count = length-append calls (t ∷ []) ∙ rw stays (omega (arith, count));
      follows = λ all more here_yet h. rw append_assoc (kept.follows all (t ∷ more) stays (rw here (same_request app.clock app.names o, h)));
      whole = λ all e. absurd (true≢false (sym e ∙ stays));
    }

pub leave_more : (ops : List Op) (app : AppState) (calls : List Exchange) (outcome : Outcome) (clock : ℤ) → app.made ≡ length ops → app.has_left ≡ false → AppKept ops app calls
    → AppKept ops (app_left app (exchange_of ask.Leave outcome) clock) (calls ++ exchange_of ask.Leave outcome ∷ [])
leave_more ops app calls outcome clock all stays kept =
    let t : Exchange = exchange_of ask.Leave outcome in
    let none : drop app.made ops ≡ [] = rw all (drop_all ops) in
    let count : length calls ≡ app.made + 0 = left_no_calls app calls stays kept.count in
    let place : 1 + length calls ≡ app.made + 1 = omega (arith, count) in
    record {
      within = kept.within;
      named = kept.named;
      list_is = sym (made_snoc 1 calls t ∙ rw (place, ← kept.list_is) refl);
      count = length-append calls (t ∷ []) ∙ omega (arith, count);
      follows = λ all more e. absurd (true≢false e);
      whole = λ all e. kept.follows all (t ∷ []) stays (rw none refl);
    }

-- ---- all of them, where one has made a call

-- the calls of the one
own_calls : (calls : Actor → List Exchange) (place : ℕ) (t : Exchange) → calls_with calls (App (place + 1)) t (App (place + 1)) ≡ calls (App (place + 1)) ++ t ∷ []
own_calls calls place t = rw (eq-eqb (place + 1) (place + 1) refl) refl

other_place : (i place : ℕ) → (i ≡ place → ⊥) → (i + 1 == place + 1) ≡ false
other_place i place apart = ne_eqb (i + 1) (place + 1) (λ same. apart (omega (arith, same)))

-- the calls of another
other_calls : (calls : Actor → List Exchange) (i place : ℕ) (t : Exchange) → (i ≡ place → ⊥) → calls_with calls (App (place + 1)) t (App (i + 1)) ≡ calls (App (i + 1))
other_calls calls i place t apart = rw (other_place i place apart) refl

pub one_more : (scripts : List (List Op)) (s after : State) (apps : List AppState) (calls : Actor → List Exchange) (place : ℕ) (app : AppState) (t : Exchange) → place < length scripts → AppsKept scripts s apps calls
    → after.core.apps ≡ s.core.apps → after.core.left ≡ map (λ (a : AppState). a.has_left) (set apps place app) → AppKept (get_or scripts place []) app (calls (App (place + 1)) ++ t ∷ [])
    → AppsKept scripts after (set apps place app) (calls_with calls (App (place + 1)) t)
one_more scripts s after apps calls place app t within kept known left here = record {
  count = length-set apps place app ∙ kept.count;
  known = known ∙ kept.known;
  left = left;
  each = λ i none there. by i none there (i == place) refl;
}
  where
    by : (i : ℕ) (none : AppState) → i < length scripts → (b : Bool) → (i == place) ≡ b → AppKept (get_or scripts i []) (get_or (set apps place app) i none) (calls_with calls (App (place + 1)) t (App (i + 1)))
    by i none there true e =
        let same : i ≡ place = eqb-true i place e in
        let size = kept.count in
        rw (same, get_or-set_same apps place app none (omega (arith, within, size)), own_calls calls place t) here
    by i none there false e =
        let apart : i ≡ place → ⊥ = eqb-false i place e in
        rw (get_or-set_other apps place i app none apart, other_calls calls i place t apart) (kept.each i none there)

-- all, where somebody else has made a call
pub others_more : (scripts : List (List Op)) (s after : State) (apps : List AppState) (calls more : Actor → List Exchange) → AppsKept scripts s apps calls
    → after.core.apps ≡ s.core.apps → after.core.left ≡ s.core.left → ((place : ℕ) → more (App (place + 1)) ≡ calls (App (place + 1))) → AppsKept scripts after apps more
others_more scripts s after apps calls more kept known left same = record {
  count = kept.count;
  known = known ∙ kept.known;
  left = left ∙ kept.left;
  each = λ place none within. rw (same place) (kept.each place none within);
}
