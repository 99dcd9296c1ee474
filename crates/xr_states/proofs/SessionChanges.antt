-- How far a session has come through the table.
use Rattle.std.proofs.Common.{◌≡◌, ◌<◌, ◌≤◌, ◌+◌, ◌-◌, ℕ, zero, suc, Bool, List, [], ◌∷◌, ◌++◌, Some, None, refl, sym, ap, ◌∙◌, arith, append_assoc, append-nil, length, length-append}
use Rattle.xr_types.specs.declared.device.Wish.{Wish}
use Rattle.xr_types.specs.declared.session.SessionState.{SessionState}
use Rattle.xr_model.specs.machine.SessionLife.{next_state, changes, most_changes, last_of}

-- After so many changes a session is in one state and these are told: with the changes that are left,
-- they are what was told before and all changes from the first state.
pub record ComesSoFar (w : Wish) (exit : Bool) (from : SessionState) (before : List SessionState) (i : ℕ) (now : SessionState) (through : List SessionState) : Type 0 where
  pub listed : before ++ changes most_changes w exit from ≡ through ++ changes (4 - i) w exit now
  pub ends : last_of from (changes most_changes w exit from) ≡ last_of now (changes (4 - i) w exit now)
  pub few : length through ≤ i + 1

one_step : (n : ℕ) (w : Wish) (exit : Bool) (state to : SessionState) → next_state w exit state ≡ Some to → changes (suc n) w exit state ≡ to ∷ changes n w exit to
one_step n w exit state to e = rw (changes, e) refl

no_step : (n : ℕ) (w : Wish) (exit : Bool) (state : SessionState) → next_state w exit state ≡ None → changes n w exit state ≡ []
no_step zero w exit state e = refl
no_step (suc n) w exit state e = rw (changes, e) refl

module _ (w : Wish) (exit : Bool) (from : SessionState) (before : List SessionState) (i : ℕ) (now : SessionState) (through : List SessionState) where
  pub goes_on : (to : SessionState) → ComesSoFar w exit from before i now through → i < 4 → next_state w exit now ≡ Some to → ComesSoFar w exit from before (i + 1) to (through ++ to ∷ [])
  goes_on to g within e =
      let left : 4 - i ≡ suc (4 - (i + 1)) = omega (arith, within) in
      let opened : changes (4 - i) w exit now ≡ to ∷ changes (4 - (i + 1)) w exit to = ap (λ n. changes n w exit now) left ∙ one_step (4 - (i + 1)) w exit now to e in record {
        listed = g.listed ∙ ap (λ l. through ++ l) opened ∙ sym (append_assoc through (to ∷ []) (changes (4 - (i + 1)) w exit to));
        ends = g.ends ∙ ap (λ l. last_of now l) opened;
        few = let few = g.few in rw (length-append through (to ∷ [])) (omega (arith, few));
      }

  pub stops : ComesSoFar w exit from before i now through → next_state w exit now ≡ None → (through ≡ before ++ changes most_changes w exit from) × (now ≡ last_of from (changes most_changes w exit from))
  stops g e =
      let none = no_step (4 - i) w exit now e in
      (sym (g.listed ∙ ap (λ l. through ++ l) none ∙ append-nil through), sym (g.ends ∙ ap (λ l. last_of now l) none))
