-- How many calls are still to come.
use Rattle.std.proofs.Common.{◌≡◌, ◌+◌, ◌-◌, ◌*◌, ◌<◌, ◌≤◌, ℕ, zero, suc, Bool, true, false, not, List, [], ◌∷◌, ◌++◌, length, get_or, set, refl, arith}
use Rattle.std.specs.Prelude.{map, if◌then◌else◌}
use Rattle.std.proofs.lemmas.List.Sums.{sum_by-cons}
use Rattle.std.specs.List.{sum_by}
use Rattle.xr_types.specs.declared.made.Made.{Made}
use Rattle.xr_types.specs.declared.scenario.Op.{Op}
use Rattle.xr_serial.specs.inside.RunState.{AppState}
use Rattle.xr_serial.specs.inside.Sides.{new_app}
use Rattle.xr_serial.specs.inside.RunInvariant.{app_work, apps_work, is_getter_name, getters_in, getters_of}

-- where one application has gone on
pub work_set : (scripts : List (List Op)) (apps : List AppState) (place : ℕ) (app none : AppState) → length apps ≡ length scripts → place < length scripts
    → apps_work scripts (set apps place app) + app_work (get_or scripts place []) (get_or apps place none) ≡ apps_work scripts apps + app_work (get_or scripts place []) app
work_set [] apps place app none a within = let no : ⊥ = omega (arith, within) in absurd no
work_set (ops ∷ scripts) [] place app none a within = let no : ⊥ = omega (arith, a) in absurd no
work_set (ops ∷ scripts) (other ∷ apps) zero app none a within = omega arith
work_set (ops ∷ scripts) (other ∷ apps) (suc place) app none a within =
    let more = work_set scripts apps place app none (omega (arith, a)) (omega (arith, within)) in
    omega (arith, more)

-- at the start all ops and each `leave` are to come
pub work_at_start : (scripts : List (List Op)) → apps_work scripts (map new_app scripts) ≡ 66 * sum_by length scripts + length scripts
work_at_start [] = refl
work_at_start (ops ∷ scripts) = let more = work_at_start scripts in let all = sum_by-cons length ops scripts in omega (arith, more, all)

-- a script is no longer than all of them
pub within_all : (scripts : List (List Op)) (place : ℕ) → place < length scripts → length (get_or scripts place []) ≤ sum_by length scripts
within_all [] place within = let no : ⊥ = omega (arith, within) in absurd no
within_all (ops ∷ scripts) zero within = let all = sum_by-cons length ops scripts in let first : length ops ≤ sum_by length (ops ∷ scripts) = omega (arith, all) in first
within_all (ops ∷ scripts) (suc place) within =
    let more = within_all scripts place (omega (arith, within)) in
    let all = sum_by-cons length ops scripts in
    let one : length (get_or scripts place []) ≤ sum_by length (ops ∷ scripts) = omega (arith, more, all) in
    one

-- ---- getters

-- with one call more
pub getters_more : (ms : List Made) (m : Made) → getters_in (ms ++ m ∷ []) ≡ getters_in ms + (if is_getter_name m.name then 1 else 0)
getters_more [] m = omega arith
getters_more (x ∷ ms) m = let more = getters_more ms m in omega (arith, more)

-- where one application has gone on
pub getters_set : (apps : List AppState) (place : ℕ) (app none : AppState) → place < length apps → getters_of (set apps place app) + getters_in (get_or apps place none).calls ≡ getters_of apps + getters_in app.calls
getters_set [] place app none within = absurd (omega (arith, within))
getters_set (other ∷ apps) zero app none within = omega arith
getters_set (other ∷ apps) (suc place) app none within = let more = getters_set apps place app none (omega (arith, within)) in omega (arith, more)

-- none was made at the start
pub no_getters : (scripts : List (List Op)) → getters_of (map new_app scripts) ≡ 0
no_getters [] = refl
no_getters (ops ∷ scripts) = let more = no_getters scripts in omega (arith, more)

-- a call is counted as a locked one or as a getter
pub one_of_both : (b : Bool) (locked new getters after : ℕ) → new ≡ (if b then locked + 1 else locked) → after ≡ getters + (if not b then 1 else 0) → new + after ≡ locked + getters + 1
one_of_both true locked new getters after a b = omega (arith, a, b)
one_of_both false locked new getters after a b = omega (arith, a, b)

pub not_fewer : (b : Bool) (locked new : ℕ) → new ≡ (if b then locked + 1 else locked) → locked ≤ new
not_fewer true locked new a = omega (arith, a)
not_fewer false locked new a = omega (arith, a)

-- ---- the rounds come to an end: a call that is made takes one of those to come, and a round at most behind it makes none

pub made_less : (all old new actors idle idle2 : ℕ) → new ≡ old + 1 → new ≤ all → actors ≤ 10 → idle < actors → idle2 ≡ 0 → 11 * (all - new) + (actors - idle2) < 11 * (all - old) + (actors - idle)
made_less all old new actors idle idle2 grew within few less none = omega (arith, grew, within, few, less, none)

pub passed_less : (all old new actors idle idle2 : ℕ) → new ≡ old + 0 → idle2 ≡ idle + 1 → idle < actors → 11 * (all - new) + (actors - idle2) < 11 * (all - old) + (actors - idle)
passed_less all old new actors idle idle2 same more few = omega (arith, same, more, few)
