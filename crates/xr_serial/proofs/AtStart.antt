-- What the loop keeps holds at the start.
use Rattle.std.proofs.Common.{◌≡◌, ◌≤◌, ◌+◌, ℕ, ℤ, suc, pos, false, List, [], ◌∷◌, ◌++◌, length, map, get_or, replicate, Option, Some, None, refl, sym, ap, subst, ◌∙◌, arith, append_assoc, true≢false}
use Rattle.std.proofs.lemmas.Grind.{common_steps}
use Rattle.std.proofs.lemmas.List.{get_or-map}
use Rattle.xr_types.specs.declared.calls.Actor.{Actor}
use Rattle.xr_types.specs.declared.device.DeviceEvent.{DeviceEvent}
use Rattle.xr_types.specs.declared.scenario.Op.{Op}
use Rattle.xr_types.specs.declared.scenario.Scenario.{Scenario}
use Rattle.xr_model.specs.machine.Calls.{Exchange}
use Rattle.xr_model.specs.machine.State.{opening}
use Rattle.xr_model.specs.machine.History.{IsLegalFrom}
use Rattle.xr_model.specs.device_text.DeviceText.{DeviceStream}
use Rattle.xr_model.specs.runs.NameValues.{no_values}
use Rattle.xr_model.specs.runs.Robin.{Agenda, script, script_agendas, device_agendas, compositor, first_agendas}
use Rattle.xr_serial.specs.inside.RunState.{AppState}
use Rattle.xr_device.specs.Prospect.{Prospect}
use Rattle.xr_serial.specs.inside.Sides.{new_app, first_run}
use Rattle.xr_serial.specs.inside.Turns.{script_parts, joined, parts_of}
use Rattle.xr_serial.specs.inside.RunInvariant.{AppKept, RunInvariant}
use Rattle.xr_serial.proofs.TurnOrder.{joined-append}
use Rattle.xr_serial.proofs.Work.{work_at_start, no_getters}
use Rattle.xr_runs.specs.Runs.{settings_of}
use Rattle.xr_runs.specs.Sides.{GivesMore}

gives_all : (told : Option DeviceStream) → GivesMore told told []
gives_all None = tt
gives_all (Some t) = refl

abbrev no_calls : Actor → List Exchange
no_calls who = []

-- the clock that each application knows
no_clocks : (scripts : List (List Op)) → replicate (length scripts) (pos 0) ≡ map (λ (a : AppState). a.clock) (map new_app scripts)
no_clocks [] = refl
no_clocks (ops ∷ scripts) = ap (λ l. pos 0 ∷ l) (no_clocks scripts)

length-map : {A B : Type 0} (f : A → B) (xs : List A) → length (map f xs) ≡ length xs
length-map f [] = refl
length-map f (x ∷ xs) = ap suc (length-map f xs)

-- nobody has left
none_left : (scripts : List (List Op)) → replicate (length scripts) false ≡ map (λ (a : AppState). a.has_left) (map new_app scripts)
none_left [] = refl
none_left (ops ∷ scripts) = ap (λ l. false ∷ l) (none_left scripts)

-- each application's agenda is its whole script
scripts_joined : (number : ℕ) (scripts : List (List Op)) → joined (script_parts number scripts (map new_app scripts)) ≡ script_agendas number scripts
scripts_joined number [] = refl
scripts_joined number (ops ∷ scripts) = ap (λ (l : List Agenda). script number 1 ops (no_values (length ops)) (pos 0) ∷ l) (scripts_joined (number + 1) scripts)

parts_joined : (scenario : Scenario) (rest : List DeviceEvent) → first_agendas scenario rest ≡ joined (parts_of scenario (opening (settings_of scenario)) (first_run scenario) rest)
parts_joined scenario rest =
    let scripts : List (List Agenda) = script_parts 1 scenario.scripts (map new_app scenario.scripts) in
    sym
    (joined-append scripts (device_agendas rest ∷ (compositor 0 ∷ []) ∷ []) ∙ ap (λ (l : List Agenda). l ++ (device_agendas rest ++ compositor 0 ∷ [])) (scripts_joined 1 scenario.scripts)
    ∙ sym (append_assoc (script_agendas 1 scenario.scripts) (device_agendas rest) (compositor 0 ∷ [])))

app_starts : (ops : List Op) → AppKept ops (new_app ops) []
app_starts ops = record {
  within = omega arith;
  named = grind (arith, common_steps);
  list_is = refl;
  count = refl;
  follows = λ all more here h. h;
  whole = λ all e. absurd (true≢false (sym e));
}

pub starts : (scenario : Scenario) (start : Prospect) → start.bound ≤ 16777216 → RunInvariant scenario 0 0 (opening (settings_of scenario)) (first_run scenario) start start
starts scenario start few =
    let work = work_at_start scenario.scripts in
    let none_read = no_getters scenario.scripts in
    record {
      calls = no_calls;
      standing = record {
        so_far = record {
          past = [];
          agendas = λ rest. first_agendas scenario rest;
          legal = λ more h. subst (λ (l : List ℤ). IsLegalFrom (opening (settings_of scenario)) l more) (sym (no_clocks scenario.scripts)) h;
          robin = λ rest ok more h. h;
          left = λ rest ok more. refl;
          made = λ who more. refl;
          done = λ more. refl;
        };
        order = λ rest ok. record {
          coming = parts_of scenario (opening (settings_of scenario)) (first_run scenario) rest;
          passed = [];
          order_is = refl;
          count = refl;
          held = tt;
          agendas_are = parts_joined scenario rest;
        };
      };
      kept = record {
        apps = record {
          count = length-map new_app scenario.scripts;
          known = refl;
          left = none_left scenario.scripts;
          each = λ place none within. rw (get_or-map new_app scenario.scripts place [] none within) (app_starts (get_or scenario.scripts place []));
        };
        device = record {
          given = [];
          closing = [];
          begun = refl;
          came = (gives_all start.remaining, refl);
          counted = omega arith;
          faultless = refl;
          sound = tt;
          done = tt;
          list_is = refl;
          events_are = refl;
          later = omega arith;
          unfailed = λ e. refl;
          lines = λ e. absurd (true≢false (sym e));
        };
        compositor = record { frames_are = refl; replies_are = refl; end = tt };
        counted = omega arith;
        work = omega (arith, work, few, none_read);
      };
    }
