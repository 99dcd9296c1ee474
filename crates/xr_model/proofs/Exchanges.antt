-- Each exchange of an actor stands in the history at the position of that entry of the actor.
use Rattle.std.proofs.Common.{◌≡◌, ◌+◌, ℕ, zero, suc, Bool, true, false, List, [], ◌∷◌, Some, ap, refl, ◌∙◌, arith}
use Rattle.std.specs.Prelude.{slice_get, if◌then◌else◌}
use Rattle.xr_types.specs.declared.calls.Actor.{Actor}
use Rattle.xr_model.specs.machine.Calls.{Entry, Exchange, is_actor}
use Rattle.xr_model.specs.machine.State.{State, opening}
use Rattle.xr_model.specs.machine.Machine.{step}
use Rattle.xr_model.specs.machine.History.{calls_from}
use Rattle.xr_model.specs.machine.Positions.{outcome_from, positions_from}
use Rattle.xr_model.specs.laws.Laws.{ExchangesStand}

-- the same of a history that stands behind n other entries
record StandsFrom (s : State) (n : ℕ) (who : Actor) (es : List Entry) (k : ℕ) (x : Exchange) : Type 0 where
  at : ℕ
  own : slice_get (positions_from n who es) k ≡ Some (n + at)
  entry : Entry
  there : slice_get es at ≡ Some entry
  asks : entry.call ≡ x.call
  comes : outcome_from s es at ≡ Some x.outcome

-- with one entry more in front
later : (s : State) (n : ℕ) (who : Actor) (e : Entry) (es : List Entry) (j k : ℕ) (x : Exchange) → slice_get (positions_from n who (e ∷ es)) k ≡ slice_get (positions_from (n + 1) who es) j
    → StandsFrom (step s e).0 (n + 1) who es j x → StandsFrom s n who (e ∷ es) k x
later s n who e es j k x same f = record {
  at = suc f.at;
  own = same ∙ f.own ∙ ap (λ (m : ℕ). Some m) (omega arith);
  entry = f.entry;
  there = f.there;
  asks = f.asks;
  comes = f.comes;
}

only : (x y : Exchange) → Some y ≡ Some x → y ≡ x
only x y is = cc

exchange_stands : (s : State) (n : ℕ) (who : Actor) (es : List Entry) (k : ℕ) (x : Exchange) → slice_get (calls_from s who es) k ≡ Some x → StandsFrom s n who es k x
exchange_stands s n who [] k x found = cc
exchange_stands s n who (e ∷ es) k x found = by (is_actor who e.actor) refl k (λ j there. exchange_stands (step s e).0 (n + 1) who es j x there) found
  where
    by : (b : Bool) → is_actor who e.actor ≡ b → (k : ℕ) → ((j : ℕ) → slice_get (calls_from (step s e).0 who es) j ≡ Some x → StandsFrom (step s e).0 (n + 1) who es j x)
        → slice_get (if b then record { call = e.call; outcome = (step s e).1 } ∷ calls_from (step s e).0 who es else calls_from (step s e).0 who es) k ≡ Some x
        → StandsFrom s n who (e ∷ es) k x
    by false is k more found = later s n who e es k k x (rw is refl) (more k found)
    by true is zero more found =
        let same = only x (record { call = e.call; outcome = (step s e).1 }) found in
        record {
          at = 0;
          own = rw is (ap (λ (m : ℕ). Some m) (omega arith));
          entry = e;
          there = refl;
          asks = ap (λ (y : Exchange). y.call) same;
          comes = ap (λ (y : Exchange). Some y.outcome) same;
        }
    by true is (suc j) more found = later s n who e es j (suc j) x (rw is refl) (more j found)

pub exchanges_stand : ExchangesStand
exchanges_stand settings who es k x found =
    let f = exchange_stands (opening settings) 0 who es k x found in
    record { position = f.at; own = f.own ∙ ap (λ (m : ℕ). Some m) (omega arith); entry = f.entry; there = f.there; asks = f.asks; comes = f.comes }
