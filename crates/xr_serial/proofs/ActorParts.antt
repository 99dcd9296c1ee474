-- What is left of each actor, by its place in a round.
use Rattle.std.proofs.Common.{◌≡◌, ◌+◌, ◌-◌, ◌<◌, ℕ, zero, suc, List, [], ◌∷◌, ◌++◌, length, get_or, set, refl, ap, subst, ◌∙◌, arith, length-append}
use Rattle.std.proofs.Math.Seq.{get_or-append_seam, set-append_seam}
use Rattle.std.proofs.lemmas.List.{get_or_append_left, get_or-append-add, set-append_left, set-append_right}
use Rattle.xr_types.specs.declared.device.DeviceEvent.{DeviceEvent}
use Rattle.xr_types.specs.declared.scenario.Op.{Op}
use Rattle.xr_types.specs.declared.scenario.Scenario.{Scenario}
use Rattle.xr_model.specs.machine.State.{State}
use Rattle.xr_model.specs.runs.Robin.{Agenda}
use Rattle.xr_serial.specs.inside.RunState.{AppState, CompositorState, RunState}
use Rattle.xr_serial.specs.inside.Turns.{script_part, script_parts, device_part, compositor_part, parts_of, actors_of}
use Rattle.xr_runs.specs.Sides.{SideState}

-- ---- the applications

pub length-script_parts : (number : ℕ) (scripts : List (List Op)) (apps : List AppState) → length apps ≡ length scripts → length (script_parts number scripts apps) ≡ length scripts
length-script_parts number [] apps a = refl
length-script_parts number (ops ∷ scripts) [] a = let none : ⊥ = omega (arith, a) in absurd none
length-script_parts number (ops ∷ scripts) (app ∷ apps) a = ap suc (length-script_parts (number + 1) scripts apps (omega (arith, a)))

part_at : (number : ℕ) (scripts : List (List Op)) (apps : List AppState) (place own : ℕ) (none : AppState) → length apps ≡ length scripts → place < length scripts → own ≡ number + place
    → get_or (script_parts number scripts apps) place [] ≡ script_part own (get_or scripts place []) (get_or apps place none)
part_at number [] apps place own none a within is = let none : ⊥ = omega (arith, within) in absurd none
part_at number (ops ∷ scripts) [] place own none a within is = let none : ⊥ = omega (arith, a) in absurd none
part_at number (ops ∷ scripts) (app ∷ apps) zero own none a within is = let same : own ≡ number = omega (arith, is) in rw same refl
part_at number (ops ∷ scripts) (app ∷ apps) (suc place) own none a within is =
    part_at (number + 1) scripts apps place own none (omega (arith, a)) (omega (arith, within)) (omega (arith, is))

part_set : (number : ℕ) (scripts : List (List Op)) (apps : List AppState) (place own : ℕ) (app : AppState) → length apps ≡ length scripts → place < length scripts → own ≡ number + place
    → set (script_parts number scripts apps) place (script_part own (get_or scripts place []) app) ≡ script_parts number scripts (set apps place app)
part_set number [] apps place own app a within is = let none : ⊥ = omega (arith, within) in absurd none
part_set number (ops ∷ scripts) [] place own app a within is = let none : ⊥ = omega (arith, a) in absurd none
part_set number (ops ∷ scripts) (other ∷ apps) zero own app a within is = let same : own ≡ number = omega (arith, is) in rw same refl
part_set number (ops ∷ scripts) (other ∷ apps) (suc place) own app a within is =
    ap (λ (l : List (List Agenda)). script_part number ops other ∷ l)
    (part_set (number + 1) scripts apps place own app (omega (arith, a)) (omega (arith, within)) (omega (arith, is)))

-- ---- all actors

-- a run has as many applications as its scenario has scripts
abbrev pub AreAll : Scenario → RunState → Type 0
AreAll scenario run = length run.apps ≡ length scenario.scripts

module _ (scenario : Scenario) (s : State) (run : RunState) (rest : List DeviceEvent) (all : AreAll scenario run) where
  abbrev scripts : List (List Agenda)
  scripts = script_parts 1 scenario.scripts run.apps

  abbrev device : List Agenda
  device = device_part run.side.pending rest

  abbrev compositor : List Agenda
  compositor = compositor_part run.compositor.ended (length s.cells.held)

  count : length scripts ≡ length scenario.scripts
  count = length-script_parts 1 scenario.scripts run.apps all

  pub parts_count : length (parts_of scenario s run rest) ≡ actors_of scenario
  parts_count = length-append scripts (device ∷ compositor ∷ []) ∙ ap (λ (n : ℕ). n + 2) count

  pub app_at : (place : ℕ) (none : AppState) → place < length scenario.scripts → get_or (parts_of scenario s run rest) place [] ≡ script_part (place + 1) (get_or scenario.scripts place []) (get_or run.apps place none)
  app_at place none within =
      let size = count in
      get_or_append_left scripts (device ∷ compositor ∷ []) [] place (omega (arith, within, size)) ∙ part_at 1 scenario.scripts run.apps place (place + 1) none all within (omega arith)

  pub device_at : get_or (parts_of scenario s run rest) (length scenario.scripts) [] ≡ device_part run.side.pending rest
  device_at = subst (λ (n : ℕ). get_or (scripts ++ device ∷ compositor ∷ []) n [] ≡ device) count (get_or-append_seam scripts device (compositor ∷ []) [])

  pub compositor_at : get_or (parts_of scenario s run rest) (length scenario.scripts + 1) [] ≡ compositor_part run.compositor.ended (length s.cells.held)
  compositor_at = subst (λ (n : ℕ). get_or (scripts ++ device ∷ compositor ∷ []) (n + 1) [] ≡ compositor) count (get_or-append-add scripts (device ∷ compositor ∷ []) 1 [])

  -- where one of them has gone on, and as many images are held
  pub app_set : (after : State) (place : ℕ) (app : AppState) → place < length scenario.scripts → after.cells.held ≡ s.cells.held
      → set (parts_of scenario s run rest) place (script_part (place + 1) (get_or scenario.scripts place []) app) ≡ parts_of scenario after (record run { apps = set run.apps place app }) rest
  app_set after place app within same =
      let size = count in
      rw same
      (set-append_left scripts (device ∷ compositor ∷ []) place (script_part (place + 1) (get_or scenario.scripts place []) app) (omega (arith, within, size))
      ∙ ap (λ (l : List (List Agenda)). l ++ device ∷ compositor ∷ []) (part_set 1 scenario.scripts run.apps place (place + 1) app all within (omega arith)))

  pub device_set : (after : State) (side : SideState) (later : List DeviceEvent) → after.cells.held ≡ s.cells.held
      → set (parts_of scenario s run rest) (length scenario.scripts) (device_part side.pending later) ≡ parts_of scenario after (record run { side = side }) later
  device_set after side later same =
      rw same (subst (λ (n : ℕ). set (scripts ++ device ∷ compositor ∷ []) n (device_part side.pending later) ≡ scripts ++ device_part side.pending later ∷ compositor ∷ []) count (set-append_seam scripts device (compositor ∷ []) (device_part side.pending later)))

  pub compositor_set : (after : State) (c : CompositorState) → set (parts_of scenario s run rest) (length scenario.scripts + 1) (compositor_part c.ended (length after.cells.held)) ≡ parts_of scenario after (record run { compositor = c }) rest
  compositor_set after c =
      let behind : length scenario.scripts + 1 - length scenario.scripts ≡ 1 = omega arith in
      let part : List Agenda = compositor_part c.ended (length after.cells.held) in
      set-append_right scripts (device ∷ compositor ∷ []) (length scenario.scripts) (length scenario.scripts + 1) part count (omega arith)
      ∙ ap (λ (n : ℕ). scripts ++ set (device ∷ compositor ∷ []) n part) behind
