-- That a pass may make its next call: the first of a runtime of one application, and one that has made few and hasn't left.
use Rattle.std.proofs.Common.{◌≡◌, ◌+◌, ◌<◌, ◌^◌, ◌∙◌, ℕ, false, List, [], ◌∷◌, ◌++◌, length, slice_get, sym, ap, subst, arith, length-append}
use Rattle.atomic_table.specs.Seated.{TableId}
use Rattle.xr_types.specs.CallKinds.{is_leave}
use Rattle.xr_types.specs.declared.calls.Call.{Call}
use Rattle.xr_types.specs.declared.calls.Reply.{Reply}
use Rattle.xr_runtime.specs.Passes.{IsApp, AreFirst, MayCall, AppAnswers}
use Rattle.xr_runtime.specs.declared.passes.AppPass.{AppPass}

-- It keeps its promise, hasn't left, and has made so many calls.
pub record Stands (table : TableId) (calls : ℕ) (p : AppPass) : Type 0 where
  pub is : IsApp table p
  pub here : p.left ≡ false
  pub made : p.calls ≡ calls

pub may : (table : TableId) (calls : ℕ) (p : AppPass) → calls < 2 ^ 40 → Stands table calls p → MayCall table p
may table calls p few s = record { is = s.is; here = s.here; few = subst (λ (n : ℕ). n < 2 ^ 40) (sym s.made) few }

-- the only pass of an application, before any call
pub first : (table : TableId) (passes rest : List AppPass) (app : AppPass) → passes ≡ rest ++ app ∷ [] → length passes ≡ 1 → AreFirst table passes → Stands table 0 app
first table passes [] app same size are = let f = are 0 app (ap (λ (l : List AppPass). slice_get l 0) same) in record { is = f.is; here = f.stays; made = f.none_made }
first table passes (x ∷ rest) app same size are =
    let all = ap length same in
    let more : length (rest ++ app ∷ []) ≡ length rest + 1 = length-append rest (app ∷ []) in
    absurd (omega (arith, size, all, more))

-- once one more was made, by which the application doesn't leave
pub next : (table : TableId) (calls : ℕ) (old new : AppPass) (what : Call) (reply : Reply) → is_leave what ≡ false → Stands table calls old → AppAnswers table old what reply new → Stands table (calls + 1) new
next table calls old new what reply stays s a = record { is = a.1.2.is; here = a.1.2.left_is ∙ stays; made = a.1.2.counted ∙ ap (λ (n : ℕ). n + 1) s.made }
