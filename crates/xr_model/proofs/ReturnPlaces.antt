-- How many locked calls came before each image that was given back.
use Rattle.std.proofs.Common.{◌≡◌, ◌+◌, ℕ, suc, true, List, [], ◌∷◌, ◌++◌, length, slice_get, Some, refl, sym, ap, subst, ◌∙◌, arith, true≢false}
use Rattle.std.specs.Prelude.{if◌then◌else◌}
use Rattle.xr_types.specs.declared.calls.Call.{Call}
use Rattle.xr_types.specs.declared.calls.Call.TheVariants as ask
use Rattle.xr_model.specs.machine.Calls.{Entry}
use Rattle.xr_model.specs.machine.Machine.{step}
use Rattle.xr_model.specs.machine.State.{State, opening}
use Rattle.xr_model.specs.runs.Lists.{done_at, done_from}
use Rattle.xr_model.specs.laws.Laws.{count_locked}
use Rattle.xr_model.specs.laws.EndLaws.{is_return, count_returns, ReturnsStandBehindCalls}
use Rattle.xr_model.proofs.Histories.{step_counts, one_more}

many_returns : (s : State) (es : List Entry) → length (done_from s es) ≡ count_returns es
many_returns s [] = refl
many_returns s (e ∷ es) = by e.call (many_returns (step s e).0 es)
  where
    by : (r : Call) → length (done_from (step s e).0 es) ≡ count_returns es
        → length (done_at s r ++ done_from (step s e).0 es) ≡ (if is_return r then suc (count_returns es) else count_returns es)
    by ask.ImageDone more = ap suc more
    by _ more = more

-- the number of one stands behind those of the ones before it
return_here : (s : State) (r : Call) (rest : List ℕ) → is_return r ≡ true → slice_get (done_at s r ++ rest) 0 ≡ Some (s.core.locked + 0)
return_here s ask.ImageDone rest is = ap (λ (n : ℕ). Some n) (omega arith)
return_here s _ rest is = absurd (true≢false (sym is))

behind_one : (s : State) (r : Call) (rest : List ℕ) (k n : ℕ) → slice_get rest k ≡ Some n
    → slice_get (done_at s r ++ rest) (if is_return r then suc k else k) ≡ Some n
behind_one s ask.ImageDone rest k n there = there
behind_one s _ rest k n there = there

return_stands : (s : State) (front : List Entry) (e : Entry) (behind : List Entry) → is_return e.call ≡ true
    → slice_get (done_from s (front ++ e ∷ behind)) (count_returns front) ≡ Some (s.core.locked + count_locked front)
return_stands s [] e behind is = return_here s e.call (done_from (step s e).0 behind) is
return_stands s (x ∷ front) e behind is =
    let more = return_stands (step s x).0 front e behind is in
    let first = step_counts s x in
    let all = one_more x front in
    let same : (step s x).0.core.locked + count_locked front ≡ s.core.locked + count_locked (x ∷ front) = omega arith in
    behind_one s x.call (done_from (step s x).0 (front ++ e ∷ behind)) (count_returns front) (s.core.locked + count_locked (x ∷ front))
    (more ∙ ap (λ (n : ℕ). Some n) same)

pub returns_stand_behind_calls : ReturnsStandBehindCalls
returns_stand_behind_calls settings es left = record {
  many = many_returns (opening settings) es;
  each = λ front e behind stand is.
      subst (λ hs. slice_get (done_from (opening settings) hs) (count_returns front) ≡ Some (count_locked front)) (sym stand)
      (return_stands (opening settings) front e behind is ∙ ap (λ (n : ℕ). Some n) (omega arith));
}
