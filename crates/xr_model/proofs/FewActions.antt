-- Each listed action has a handle of its own, so no more are listed than may be live.
use Rattle.std.proofs.Common.{◌≡◌, ◌≢◌, ◌≤◌, ◌==◌, ◌∙◌, ℕ, ℤ, not, true, false, List, [], ◌∷◌, length, refl, sym, subst}
use Rattle.std.specs.Prelude.{is_some}
use Rattle.std.specs.List.{find}
use Rattle.xr_types.specs.declared.handles.Kind.TheVariants as kind
use Rattle.xr_types.specs.declared.handles.TheConstants.{ACTIONS}
use Rattle.xr_types.specs.declared.input.Bound.{Bound}
use Rattle.xr_model.specs.machine.Calls.{Entry}
use Rattle.xr_model.specs.machine.Handles.{Handles, has, is_among, was_given, destroyed_by}
use Rattle.xr_model.specs.machine.History.{after, clocks_after, opening_clocks, IsLegal, IsLegalFrom}
use Rattle.xr_model.specs.machine.Machine.{IsAllowed, reads_of, step}
use Rattle.xr_model.specs.machine.Sets.{Action, Sets}
use Rattle.xr_model.specs.machine.Spaces.{Spaces}
use Rattle.xr_model.specs.machine.State.{Settings, State, opening}
use Rattle.xr_model.proofs.FewListed.{AreOwn, own_more, own_left, fit_in}
use Rattle.xr_model.proofs.HandleSteps.{gives_handle}
use Rattle.xr_model.proofs.Limits.{long_after, long_opening}
use Rattle.xr_model.proofs.ListSteps.{Has, kept_by_step}
use Rattle.xr_model.proofs.PublishedLast.{IsSound, sound_step, sound_opening, sound_after}
use Rattle.xr_model.proofs.Rows.{both_of, is_false, same_key}
use Rattle.xr_model.proofs.StandOnce.{given_one}

abbrev key : Action → ℕ
key x = x.handle

abbrev HasOwn : Handles → Spaces → Sets → List (List Bound) → Type 0
HasOwn h room inputs suggestions = AreOwn key inputs.actions

own_step : (s : State) (e : Entry) → IsAllowed s e → IsSound s.core → Has HasOwn s.core → Has HasOwn (step s e).0.core
own_step s e allowed sound own = kept_by_step HasOwn s.core (reads_of s e.call) e (record {
  same = own;
  instance = λ gives. own;
  session = λ gives instance. own;
  set = λ gives room instance name localized priority. own;
  action = λ gives room x named live free. own_more key s.core.inputs.actions x own (subst (λ (n : ℕ). is_some (find (λ (y : Action). y.handle == n) s.core.inputs.actions) ≡ false) (sym named) (unlisted gives));
  space = λ gives room session root offset. own;
  chain = λ gives session. own;
  gone = λ handle. own_left key (λ n. not (is_among (destroyed_by s.core.handles handle) n)) s.core.inputs.actions own;
  alone = λ space. own;
  chain_alone = λ chain. own;
  suggest = λ o list none. own;
  attach = λ handles. own;
  sample = λ what time pose. own;
})
  where
    -- a new handle stands nowhere
    unlisted : gives_handle s.core (reads_of s e.call) e ≡ true → is_some (find (λ (y : Action). y.handle == e.given) s.core.inputs.actions) ≡ false
    unlisted gives =
        let fresh : (e.given ≢ 0) × (was_given s.core.handles e.given ≡ false) = given_one (gives_handle s.core (reads_of s e.call) e) s.core.handles e.given gives allowed.handle in
        let nz : (e.given == 0) ≡ false = is_false (e.given == 0) (λ is. fresh.0 (same_key e.given 0 is)) in
        sound.kept.actions e.given ∙ rw (nz, (sound.known e.given nz fresh.1).actions) refl

own_after : (s : State) (clocks : List ℤ) (es : List Entry) → IsLegalFrom s clocks es → IsSound s.core → Has HasOwn s.core → Has HasOwn (after s es).core
own_after s clocks [] legal sound own = own
own_after s clocks (e ∷ es) legal sound own = own_after (step s e).0 (clocks_after clocks e (step s e).0) es legal.3 (sound_step s e legal.0 sound) (own_step s e legal.0 sound own)

pub actions_are_few : (settings : Settings) (es : List Entry) → IsLegal settings es → length (after (opening settings) es).core.inputs.actions ≤ ACTIONS
actions_are_few settings es legal =
    let s = (after (opening settings) es).core in
    let sound = sound_after (opening settings) (opening_clocks settings) es legal (sound_opening settings) in
    subst (λ (n : ℕ). length s.inputs.actions ≤ n) (long_after (opening settings) es (long_opening settings) kind.Action)
    (fit_in key s.handles.actions s.inputs.actions (own_after (opening settings) (opening_clocks settings) es legal (sound_opening settings) tt)
    (λ k found. (both_of (not (k == 0)) (has s.handles.actions k) (sym (sound.kept.actions k) ∙ found)).1))
