-- The workers of the applications.
use Rattle.std.proofs.Common.{◌≡◌, ℕ, List, ◌++◌, length, map, get_or, slice_get, Some, sym, ap, ◌∙◌, subst, arith}
use Rattle.std.proofs.lemmas.List.{length-map}
use Rattle.atomic_table.specs.Seated.{TableId}
use Rattle.xr_types.specs.declared.calls.Actor.{Actor}
use Rattle.xr_types.specs.declared.scenario.Scenario.{Scenario}
use Rattle.xr_model.specs.machine.Calls.{Exchange}
use Rattle.xr_runtime.specs.declared.passes.AppPass.{AppPass}
use Rattle.xr_runtime.specs.Passes.{AreFirst, Rests}
use Rattle.xr_threads.specs.declared.app.AppWorker.{AppWorker}
use Rattle.xr_threads.specs.inside.Working.{pass_of, MayWorkAll, HaveWorked}
use Rattle.xr_threads.proofs.Places.{there, mapped, Source, source_of, none_of}

-- a pass that had made no call has made just these
pub all_calls : (old new calls : List Exchange) → length old ≡ 0 → new ≡ old ++ calls → new ≡ calls
all_calls old new calls none is = is ∙ ap (λ (l : List Exchange). l ++ calls) (none_of old none)

-- there are as many workers behind a run as passes were handed out
pub as_many : (new old : List AppWorker) (passes : List AppPass) → length new ≡ length old → map pass_of old ≡ passes → length new ≡ length passes
as_many new old passes count are = count ∙ (sym (length-map old pass_of) ∙ ap length are)

module _ (table : TableId) (scenario : Scenario) (ws : List AppWorker) where
  -- the workers of fresh passes may work
  pub may_work_all : (passes : List AppPass) → map pass_of ws ≡ passes → length passes ≡ length scenario.scripts → AreFirst table passes → MayWorkAll table scenario ws
  may_work_all passes are count first i d within =
      let size : length (map pass_of ws) ≡ length ws = length-map ws pass_of in
      let same : length (map pass_of ws) ≡ length passes = ap length are in
      record {
        within = omega (arith, within, size, same, count);
        first = first i (pass_of (get_or ws i d)) (sym (ap (λ (l : List AppPass). slice_get l i) are) ∙ mapped pass_of ws i (get_or ws i d) (there ws i d within));
      }

  -- the passes of workers that have run rest
  pub at_rest : (came went : Actor → ℕ → ℕ → Type 0) (passes : List AppPass) → passes ≡ map pass_of ws → HaveWorked came went table scenario ws → (i : ℕ) (a : AppPass) → slice_get passes i ≡ Some a → Rests table a.seat
  at_rest came went passes are have i a at =
      let s : Source pass_of ws i a = source_of pass_of ws i a (sym (ap (λ (l : List AppPass). slice_get l i) are) ∙ at) in
      subst (λ (p : AppPass). Rests table p.seat) (ap pass_of (s.at s.source) ∙ s.gives) (have i s.source s.within).is.rests
