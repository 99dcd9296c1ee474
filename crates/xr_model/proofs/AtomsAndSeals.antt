-- What stays: the texts of atoms, and sealed sets with their actions.
use Rattle.std.proofs.Common.{◌≡◌, ◌-◌, ◌==◌, ◌&&◌, ◌⊎◌, inl, inr, ℕ, zero, suc, not, Bool, true, false, List, [], ◌∷◌, ◌++◌, Option, Some, None, refl, sym, ap, subst, ◌∙◌, true≢false}
use Rattle.std.specs.Prelude.{is_some, slice_get, unwrap_or, option_map, if◌then◌else◌}
use Rattle.std.specs.List.{list_any}
use Rattle.xr_types.specs.Code.{is_success}
use Rattle.xr_types.specs.declared.code.Code.TheVariants.{ActionsetsAlreadyAttached}
use Rattle.xr_types.specs.declared.device.DeviceEvent.{DeviceEvent}
use Rattle.xr_types.specs.declared.device.DeviceEvent.TheVariants as event
use Rattle.xr_types.specs.declared.calls.Call.{Call}
use Rattle.xr_types.specs.declared.calls.Call.TheVariants as ask
use Rattle.xr_model.specs.machine.Handles.{is_among, destroyed_by}
use Rattle.xr_model.specs.machine.Paths.{is_new, with_text, text_at}
use Rattle.xr_model.specs.machine.Refusals.{Refusal, when, first_of}
use Rattle.xr_model.specs.machine.Sets.{Sets, Set, Action, set_at, action_at, is_sealed, without_inputs, sealed_by, name_checks, same_text, action_checks}
use Rattle.xr_model.specs.machine.State.{CoreState}
use Rattle.xr_model.specs.machine.Rule.{Effect, refusal, told_on, unless_refused}
use Rattle.xr_model.specs.machine.Rules.Device.{behind_event}
use Rattle.xr_model.specs.machine.Machine.{rule, step, reads_of}
use Rattle.xr_model.specs.laws.ListLaws.{is_instance_end, AtomsStay, AtomsGo, SealedStays}
use Rattle.xr_types.specs.declared.handles.Kind.TheVariants as kind
use Rattle.xr_model.specs.machine.Handles.{is_live}
use Rattle.xr_model.proofs.Keyed.{which_more, which_left, which_map, front_first}
use Rattle.xr_model.proofs.ListSteps.{kept_by_step}

-- ---- atoms

more_texts : (atoms : List (List ℕ)) (k : ℕ) (text new : List ℕ) → slice_get atoms k ≡ Some text → slice_get (atoms ++ new ∷ []) k ≡ Some text
more_texts [] k text new found = cc
more_texts (a ∷ atoms) zero text new found = found
more_texts (a ∷ atoms) (suc k) text new found = more_texts atoms k text new found

still_text : (atoms : List (List ℕ)) (k : ℕ) (text new : List ℕ) → text_at atoms k ≡ Some text → text_at (with_text atoms new) k ≡ Some text
still_text atoms k text new found = by (is_new atoms new) (k == 0) found
  where
    by : (b z : Bool) → (if z then None else slice_get atoms (k - 1)) ≡ Some text → (if z then None else slice_get (if b then atoms ++ new ∷ [] else atoms) (k - 1)) ≡ Some text
    by b true found = cc
    by true false found = more_texts atoms (k - 1) text new found
    by false false found = found

module _ (P : List (List ℕ) → Type 0) (s : CoreState) (same : P s.atoms) where
  kept : (o : Option Refusal) (x : Effect) → (o ≡ None → P x.state.atoms) → P (unless_refused s o x).state.atoms
  kept None x done = done refl
  kept (Some r) x done = same

  events : (what : DeviceEvent) → P (behind_event s what).atoms
  events (event.Clock time) = same
  events _ = same

pub atoms_stay : AtomsStay
atoms_stay s e atom text aside found = by e.call aside
  where
    by : (r : Call) → is_instance_end r ≡ false → text_at (step s (record e { call = r })).0.core.atoms atom ≡ Some text
    by (ask.DestroyInstance instance) aside = absurd (true≢false aside)
    by (ask.StringToPath instance new) aside = let f = rule s.core (reads_of s (ask.StringToPath instance new)) (record e { call = ask.StringToPath instance new }) in kept (λ atoms. text_at atoms atom ≡ Some text) s.core found (refusal e.short f) (told_on f.on f.effect) (λ none. still_text s.core.atoms atom text new found)
    by (ask.Device what) aside = events (λ atoms. text_at atoms atom ≡ Some text) s.core found what
    by r aside = let f = rule s.core (reads_of s r) (record e { call = r }) in kept (λ atoms. text_at atoms atom ≡ Some text) s.core found (refusal e.short f) (told_on f.on f.effect) (λ none. found)

-- ---- sealed sets

-- sealed by what is found of it
abbrev pub sealed_in : Option Set → Bool
sealed_in o = unwrap_or (option_map (λ x. x.sealed) o) false

sealed_there : (o : Option Set) → sealed_in o ≡ true → (x : Set) → o ≡ Some x → x.sealed ≡ true
sealed_there None is x found = cc
sealed_there (Some y) is x found = ap (λ (o : Option Set). sealed_in o) (sym found) ∙ is

pub found_sealed : (o : Option Set) → ((x : Set) → o ≡ Some x → x.sealed ≡ true) → is_some o ≡ true → sealed_in o ≡ true
found_sealed None each there = absurd (true≢false (sym there))
found_sealed (Some x) each there = each x refl

-- the first refusal doesn't hold where none does
pub first_doesnt : (b : Bool) (rest : List Refusal) → first_of (when b ActionsetsAlreadyAttached ∷ rest) ≡ None → b ≡ false
first_doesnt true rest none = cc
first_doesnt false rest none = refl

pub sealed_named : (handles : List ℕ) (x : Set) → (sealed_by handles x).handle ≡ x.handle
sealed_named handles x = by (is_among handles x.handle)
  where
    by : (b : Bool) → (if b then record x { sealed = true } else x).handle ≡ x.handle
    by true = refl
    by false = refl

-- the set is sealed wherever it is found, and each action of it was there before
record Stays (old : Sets) (set : ℕ) (new : Sets) : Type 0 where
  found : (x : Set) → set_at new set ≡ Some x → x.sealed ≡ true
  joins : (handle : ℕ) (x : Action) → action_at new handle ≡ Some x → x.set ≡ set → action_at old handle ≡ Some x

pub sealed_stays : SealedStays
sealed_stays s e set is =
    let stays = kept_by_step (λ h sp st su. Stays s.core.inputs set st) s.core (reads_of s e.call) e (record {
      same = same;
      instance = λ gives. same;
      session = λ gives instance. same;
      set = λ gives room instance name localized priority. record { found = λ x found. sealed_there (set_at s.core.inputs set) is x (front_first (λ (y : Set). y.handle) s.core.inputs.sets _ set x (there_is (set_at s.core.inputs set) is) found); joins = λ handle x found of. found };
      action = λ gives room x named live free. record { found = sealed_there (set_at s.core.inputs set) is; joins = λ handle y found of. joined x free y of (which_more (λ (z : Action). z.handle) s.core.inputs.actions x handle y found) };
      space = λ gives room session root offset. same;
      chain = λ gives session. same;
      gone = λ handle. left (destroyed_by s.core.handles handle);
      alone = λ space. same;
      chain_alone = λ chain. same;
      suggest = λ o list none. same;
      attach = λ handles. record { found = λ x found. let one = which_map (λ (y : Set). y.handle) (sealed_by handles) (sealed_named handles) s.core.inputs.sets set x found in ap (λ (y : Set). y.sealed) one.2 ∙ seals handles one.0 (sealed_there (set_at s.core.inputs set) is one.0 one.1); joins = λ handle x found of. found };
      sample = λ what time pose. same;
    }) in
    record { sealed = λ there. found_sealed (set_at (step s e).0.core.inputs set) stays.found there; joins = stays.joins }
  where
    same : Stays s.core.inputs set s.core.inputs
    same = record { found = sealed_there (set_at s.core.inputs set) is; joins = λ handle x found of. found }

    there_is : (o : Option Set) → sealed_in o ≡ true → is_some o ≡ true
    there_is None is = absurd (true≢false (sym is))
    there_is (Some x) is = refl

    joined : (x : Action) → first_of (action_checks s.core.inputs x.set x.name) ≡ None → (y : Action) → y.set ≡ set → {handle : ℕ} → (action_at s.core.inputs handle ≡ Some y) ⊎ ((x.handle ≡ handle) × (y ≡ x)) → action_at s.core.inputs handle ≡ Some y
    joined x free y of (inl there) = there
    joined x free y of (inr new) = absurd (true≢false (sym (subst (λ (n : ℕ). is_sealed s.core.inputs n ≡ true) (sym (ap (λ (z : Action). z.set) (sym new.1) ∙ of)) is) ∙ first_doesnt (is_sealed s.core.inputs x.set) (name_checks x.name (list_any (λ z. z.set == x.set && same_text z.name x.name) s.core.inputs.actions)) free))

    left : (gone : List ℕ) → Stays s.core.inputs set (without_inputs s.core.inputs gone)
    left gone = record {
      found = λ x found. sealed_there (set_at s.core.inputs set) is x (which_left (λ (y : Set). y.handle) (λ k. not (is_among gone k)) s.core.inputs.sets set x found).0;
      joins = λ handle x found of. (which_left (λ (y : Action). y.handle) (λ k. not (is_among gone k)) s.core.inputs.actions handle x found).0;
    }

    seals : (handles : List ℕ) (x : Set) → x.sealed ≡ true → (sealed_by handles x).sealed ≡ true
    seals handles x is = by (is_among handles x.handle)
      where
        by : (b : Bool) → (if b then record x { sealed = true } else x).sealed ≡ true
        by true = refl
        by false = is

-- ---- atoms go with the instance

pub atoms_go : AtomsGo
atoms_go s e ends good = by e.call ends good
  where
    by : (r : Call) → is_instance_end r ≡ true → is_success (step s (record e { call = r })).1.reply.code ≡ true → (step s (record e { call = r })).0.core.atoms ≡ []
    by (ask.DestroyInstance instance) ends good = cases (is_live s.core.handles kind.Instance instance) refl
      where
        cases : (b : Bool) → is_live s.core.handles kind.Instance instance ≡ b → (step s (record e { call = ask.DestroyInstance instance })).0.core.atoms ≡ []
        cases true live = rw live refl
        cases false dead = absurd (true≢false (sym good ∙ rw dead refl))
    by _ ends good = absurd (true≢false (sym ends))
