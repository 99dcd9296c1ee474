-- The history that a closed runtime stands for is the run's.
use Rattle.std.proofs.Common.{◌≡◌, ◌<◌, ◌≤◌, ◌+◌, ℕ, zero, suc, true, List, [], ◌∷◌, ◌++◌, length, map, get_or, take, slice_get, Option, Some, None, IfSome, IfOk, Result, Ok, Err, Bool, refl, sym, ap, ◌∙◌, subst, arith, add-one}
use Rattle.std.proofs.lemmas.List.{map_more, take_all}
use Rattle.std.specs.Prelude.{is_some, unwrap_or}
use Rattle.std.specs.List.{list_all}
use Rattle.atomic_table.specs.Seated.{TableId}
use Rattle.xr_types.specs.declared.calls.Actor.{Actor}
use Rattle.xr_types.specs.declared.calls.Actor.TheVariants.{App, Compositor, Device}
use Rattle.xr_types.specs.declared.calls.NoMemory.{NoMemory}
use Rattle.xr_types.specs.declared.made.Lists.{Lists}
use Rattle.xr_types.specs.declared.made.Made.{Made}
use Rattle.xr_types.specs.declared.scenario.Scenario.{Scenario}
use Rattle.xr_device.specs.Prospect.{Prospect}
use Rattle.xr_model.specs.laws.Moments.{opening_moment, actor_at, calls_by}
use Rattle.xr_model.specs.machine.History.{calls_from, calls_of, IsLegal}
use Rattle.xr_model.specs.machine.Calls.{Entry, Exchange}
use Rattle.xr_model.specs.machine.State.{with_apps, opening}
use Rattle.xr_model.specs.runs.Lists.{lists_to, made_from, frames_in, replies_in, events_in, end_of}
use Rattle.xr_model.specs.runs.Scripts.{Follows}
use Rattle.xr_model.specs.laws.FrameLaws.{shown_from}
use Rattle.xr_model.proofs.Rows.{both_of}
use Rattle.xr_rule.specs.View.{Know, number_in, calls_in}
use Rattle.xr_runtime.specs.declared.calling.Runtime.{Runtime}
use Rattle.xr_runtime.specs.declared.close.Closed.{Closed}
use Rattle.xr_runtime.specs.declared.passes.AppPass.{AppPass}
use Rattle.xr_runtime.specs.declared.passes.CompositorPass.{CompositorPass}
use Rattle.xr_runtime.specs.declared.passes.DevicePass.{DevicePass}
use Rattle.xr_runtime.specs.declared.passes.Passes.{Passes}
use Rattle.xr_runtime.specs.Closing.{Holds, history_of, IsClosed}
use Rattle.xr_runtime.specs.Passes.{apps_of, IsCompositor, IsDevice}
use Rattle.xr_workers.specs.declared.compositor.Composed.{Composed}
use Rattle.xr_workers.specs.declared.device.DeviceMade.{DeviceMade}
use Rattle.xr_workers.specs.Workers.{Adds, IsGated, TurnsGated, FollowsFront, TellsSoFar, RanCompositor, RanDevice}
use Rattle.xr_threads.specs.declared.app.AppWorker.{AppWorker}
use Rattle.xr_threads.specs.Threads.{RanOnThreads, ClosesRun}
use Rattle.xr_threads.specs.inside.Working.{pass_of, calls_made, HasWorked, HaveWorked, list_of, is_listed, Parted}
use Rattle.xr_threads.specs.inside.Ending.{AreListed}
use Rattle.xr_threads.proofs.Places.{there, mapped}
use Rattle.xr_threads.proofs.Workers.{all_calls}
use Rattle.xr_runs.specs.Runs.{settings_of, OfEachScript, IsEnd}
use Rattle.xr_runs.proofs.FramesOfRuns.{all_shown, all_submitted}

-- a list that is there
there_if : {X : Type 0} (o : Option X) (P : X → Type 0) → is_some o ≡ true → IfSome o P → (x : X) × (o ≡ Some x) × P x
there_if None P is if = absurd (cc is)
there_if (Some x) P is if = (x, refl, if)

listed_at : (ws : List AppWorker) (i : ℕ) (d : AppWorker) → list_all is_listed ws ≡ true → i < length ws → is_some (get_or ws i d).listed ≡ true
listed_at [] i d all within = absurd (omega (arith, within))
listed_at (w ∷ ws) zero d all within = (both_of (is_listed w) (list_all is_listed ws) all).0
listed_at (w ∷ ws) (suc i) d all within = listed_at ws i d (both_of (is_listed w) (list_all is_listed ws) all).1 (omega (arith, within))

module _ (came went : Actor → ℕ → ℕ → Type 0) (table : TableId) (r : Runtime) (p : Passes) (c : Closed) (scenario : Scenario) (k : IsClosed r p c) (apps : apps_of r ≡ length scenario.scripts)
    (ws : List AppWorker) (passes : p.apps.items ≡ map pass_of ws) (count : length ws ≡ length scenario.scripts) (have : HaveWorked came went table scenario ws) where
  abbrev pub history : List Entry
  history = history_of c

  -- the history has just the calls of a pass, under its actor
  calls_are : (who : Actor) (n : Know) → actor_at (number_in n.own) ≡ who → Holds (apps_of r) history n → calls_of (settings_of scenario) who history ≡ calls_in n.own
  calls_are who n is holds = subst (λ (z : ℕ × Actor). calls_from (opening (with_apps z.0)) z.1 history ≡ calls_in n.own) (λ i. (apps i, is i)) holds.calls

  app_calls : (i : ℕ) (d : AppWorker) → i < length ws → calls_of (settings_of scenario) (App (i + 1)) history ≡ calls_made (pass_of (get_or ws i d))
  app_calls i d within =
      let w : AppWorker = get_or ws i d in
      let has : HasWorked came went table scenario i w = have i d within in
      calls_are (App (i + 1)) w.pass.seat.me.0.know (has.is.is_own ∙ ap App has.app_is)
      (k.apps i w.pass (ap (λ (l : List AppPass). slice_get l i) passes ∙ mapped pass_of ws i w (there ws i d within)))

  some_worker : 0 < length ws → AppWorker
  some_worker some = by ws some
    where
      by : (l : List AppWorker) → 0 < length l → AppWorker
      by [] some = absurd (omega (arith, some))
      by (w ∷ l) some = w

  -- what the compositor's and the device's calls are in the history
  compositor_calls : (old : CompositorPass) (calls : List Exchange) → IsCompositor table old → old.calls ≡ 0 → number_in p.compositor.seat.me.0.know.own ≡ 1 → Adds old.seat.me.0.know p.compositor.seat.me.0.know calls
      → calls_of (settings_of scenario) Compositor history ≡ calls
  compositor_calls old calls is none own adds =
      calls_are Compositor p.compositor.seat.me.0.know (ap actor_at own) k.compositor ∙ all_calls (calls_in old.seat.me.0.know.own) (calls_in p.compositor.seat.me.0.know.own) calls (sym is.counts ∙ none) adds

  device_calls_are : (old : DevicePass) (calls : List Exchange) → IsDevice table old → old.calls ≡ 0 → number_in p.device.seat.me.0.know.own ≡ 0 → Adds old.seat.me.0.know p.device.seat.me.0.know calls
      → calls_of (settings_of scenario) Device history ≡ calls
  device_calls_are old calls is none own adds =
      calls_are Device p.device.seat.me.0.know (ap actor_at own) k.device ∙ all_calls (calls_in old.seat.me.0.know.own) (calls_in p.device.seat.me.0.know.own) calls (sym is.counts ∙ none) adds

  -- the closed runtime stands for a legal history, which has so much of what each actor does
  pub closes : (c_old : CompositorPass) (d_old : DevicePass) (composed : Result Composed NoMemory) (told : Result DeviceMade NoMemory) (start now : Prospect)
      → IsCompositor table c_old → c_old.calls ≡ 0 → RanCompositor table c_old p.compositor composed
      → (calls : List Exchange) × Adds c_old.seat.me.0.know p.compositor.seat.me.0.know calls × TurnsGated came went calls
      → IsDevice table d_old → d_old.calls ≡ 0 → RanDevice table start now d_old p.device told → IsGated came went Device d_old.calls p.device.calls → ClosesRun came went scenario start now c
  closes c_old d_old composed told start now is_c none_c ran_c gated_c is_d none_d ran_d gated_d = record {
    legal = subst (λ (n : ℕ). IsLegal (with_apps n) history) apps k.legal;
    places_are = k.places_are;
    follow = λ place within.
        let some : 0 < length ws = omega (arith, within, count) in
        let here : place < length ws = omega (arith, within, count) in
        subst (FollowsFront (get_or scenario.scripts place [])) (sym (app_calls place (some_worker some) here)) (have place (some_worker some) here).front;
    ends = subst IsEnd (sym (compositor_calls c_old ran_c.calls is_c none_c ran_c.is.is_own ran_c.made)) ran_c.ends;
    tells = subst (TellsSoFar start now) (sym (device_calls_are d_old ran_d.calls is_d none_d ran_d.is.is_own ran_d.made)) ran_d.so_far;
    apps_gated = λ place within.
        let some : 0 < length ws = omega (arith, within, count) in
        let here : place < length ws = omega (arith, within, count) in
        subst (λ (l : List Exchange). IsGated came went (App (place + 1)) 0 (length l)) (sym (app_calls place (some_worker some) here)) (have place (some_worker some) here).gated;
    compositor_gated = subst (TurnsGated came went) (sym (compositor_calls c_old gated_c.0 is_c none_c ran_c.is.is_own gated_c.1)) gated_c.2;
    device_gated =
        let all : calls_of (settings_of scenario) Device history ≡ calls_in p.device.seat.me.0.know.own = calls_are Device p.device.seat.me.0.know (ap actor_at ran_d.is.is_own) k.device in
        subst (λ (z : ℕ × ℕ). IsGated came went Device z.0 z.1) (λ i. (none_d i, (ran_d.is.counts ∙ ap length (sym all)) i)) gated_d;
  }

  module _ (listed : list_all is_listed ws ≡ true) where
    -- an application's list, and that it follows its script
    record Told (i : ℕ) (w : AppWorker) : Type 0 where
      list : List Made
      is : w.listed ≡ Some list
      follows : Follows (get_or scenario.scripts i []) (calls_of (settings_of scenario) (App (i + 1)) history)
      are : list ≡ made_from 1 (calls_of (settings_of scenario) (App (i + 1)) history)

    told : (i : ℕ) (d : AppWorker) → i < length ws → Told i (get_or ws i d)
    told i d within =
        let w : AppWorker = get_or ws i d in
        let t = there_if w.listed (λ list. Follows (get_or scenario.scripts i []) (calls_made w.pass) × (list ≡ made_from 1 (calls_made w.pass))) (listed_at ws i d listed within) (have i d within).lists in
        record {
          list = t.0;
          is = t.1;
          follows = subst (Follows (get_or scenario.scripts i [])) (sym (app_calls i d within)) t.2.0;
          are = t.2.1 ∙ ap (made_from 1) (sym (app_calls i d within));
        }

    pub follow : OfEachScript scenario history Follows
    follow place within = let some : 0 < length ws = omega (arith, within, count) in (told place (some_worker some) (omega (arith, within, count))).follows

    first_lists : (n : ℕ) → n ≤ length ws → map list_of (take n ws) ≡ lists_to (settings_of scenario) n history
    first_lists zero few = refl
    first_lists (suc n) few =
        let some : 0 < length ws = omega (arith, few) in
        let d : AppWorker = some_worker some in
        let t : Told n (get_or ws n d) = told n d (omega (arith, few)) in
        let one : list_of (get_or ws n d) ≡ made_from 1 (calls_of (settings_of scenario) (App (suc n)) history) = ap (λ (o : Option (List Made)). unwrap_or o []) t.is ∙ (t.are ∙ ap (λ (m : ℕ). made_from 1 (calls_of (settings_of scenario) (App m) history)) (add-one n)) in
        ap (λ (m : ℕ). map list_of (take m ws)) (sym (add-one n)) ∙ (map_more list_of ws n d (omega (arith, few)) ∙ (λ i. first_lists n (omega (arith, few)) i ++ one i ∷ []))

    pub all_lists : map list_of ws ≡ lists_to (settings_of scenario) (length scenario.scripts) history
    all_lists = ap (map list_of) (sym (take_all (length ws) ws (omega arith))) ∙ (first_lists (length ws) (omega arith) ∙ ap (λ (n : ℕ). lists_to (settings_of scenario) n history) count)

    -- the lists of all actors are those of the history
    pub ran_on_threads : (c_old : CompositorPass) (d_old : DevicePass) (start now : Prospect) (composed : Composed) (made : DeviceMade) (all : Lists)
        → IsCompositor table c_old → c_old.calls ≡ 0 → RanCompositor table c_old p.compositor (Ok composed) → IsDevice table d_old → d_old.calls ≡ 0 → RanDevice table start now d_old p.device (Ok made)
        → all ≡ record { apps = map list_of ws; device = made.calls; compositor = composed.frames; ended = Some composed.ended; shown = composed.replies; done = []; events = made.events; next = [] }
        → (n : ℕ) × (now.given ≡ start.given + n) × RanOnThreads c scenario start.remaining n all
    ran_on_threads c_old d_old start now composed made all is_c none_c ran_c is_d none_d ran_d is =
        let of_c : calls_of (settings_of scenario) Compositor history ≡ ran_c.calls = compositor_calls c_old ran_c.calls is_c none_c ran_c.is.is_own ran_c.made in
        let of_d : calls_of (settings_of scenario) Device history ≡ ran_d.calls = device_calls_are d_old ran_d.calls is_d none_d ran_d.is.is_own ran_d.made in
        let l = ran_d.lists in
        let legal : IsLegal (settings_of scenario) history = subst (λ (n : ℕ). IsLegal (with_apps n) history) apps k.legal in
        let ends : IsEnd (calls_of (settings_of scenario) Compositor history) = rw of_c ran_c.ends in
        let shown : all.compositor ≡ shown_from (opening (settings_of scenario)) history =
        ap (λ (z : Lists). z.compositor) is ∙ (ran_c.lists.frames ∙ (ap frames_in (sym of_c) ∙ all_shown (opening (settings_of scenario)) history k.by_callers)) in (
          length l.told,
          l.counted,
          record {
            events = l.told;
            ending = l.ending;
            gave = l.gave;
            sound = rw is l.sound;
            legal = legal;
            places = k.places_are;
            by_callers = k.by_callers;
            whole = record {
              follow = follow;
              ends = ends;
              device = rw of_d (l.asks ∙ l.events_are);
            };
            no_others = subst (λ (m : ℕ). (n : ℕ) → m + 2 ≤ n → calls_by n (opening_moment m) history ≡ []) apps k.others;
            shown = shown;
            submitted = shown ∙ all_submitted (settings_of scenario) history legal k.by_callers ends;
            made = is ∙ (λ i. record {
              apps = all_lists i;
              device = (l.calls_are ∙ ap (made_from 1) (sym of_d)) i;
              compositor = (ran_c.lists.frames ∙ ap frames_in (sym of_c)) i;
              ended = (sym ran_c.lists.ended ∙ ap end_of (sym of_c)) i;
              shown = (ran_c.lists.replies ∙ ap replies_in (sym of_c)) i;
              done = [];
              events = (sym l.asks ∙ ap events_in (sym of_d)) i;
              next = [];
            });
          },
        )

module _ (came went : Actor → ℕ → ℕ → Type 0) (table : TableId) (ws : List AppWorker) (r : Runtime) (p : Passes) (c : Closed) (scenario : Scenario) (k : IsClosed r p c) (apps : apps_of r ≡ length scenario.scripts) (lists : List (List Made)) (all : Bool)
    (parts : Parted ws p.apps.items lists all) (count : length ws ≡ length scenario.scripts) (have : HaveWorked came went table scenario ws) (composed : Result Composed NoMemory) (told : Result DeviceMade NoMemory) (start now : Prospect)
    (c_old : CompositorPass) (is_c : IsCompositor table c_old) (none_c : c_old.calls ≡ 0) (ran_c : RanCompositor table c_old p.compositor composed)
    (d_old : DevicePass) (is_d : IsDevice table d_old) (none_d : d_old.calls ≡ 0) (ran_d : RanDevice table start now d_old p.device told) where
  pub ran_if : (result : Result Lists NoMemory) → IfOk result (AreListed lists all composed told) → IfOk result (λ l. (n : ℕ) × (now.given ≡ start.given + n) × RanOnThreads c scenario start.remaining n l)
  ran_if (Err short) if = tt
  ran_if (Ok l) if =
      ran_on_threads came went table r p c scenario k apps ws parts.passes_are count have (parts.listed if.listed) c_old d_old start now if.frames if.made l is_c none_c (subst (RanCompositor table c_old p.compositor) if.composed_is ran_c) is_d none_d
      (subst (RanDevice table start now d_old p.device) if.told_is ran_d)
      (if.lists_are ∙ (λ i. record { apps = parts.lists_are if.listed i; device = if.made.calls; compositor = if.frames.frames; ended = Some if.frames.ended; shown = if.frames.replies; done = []; events = if.made.events; next = [] }))
