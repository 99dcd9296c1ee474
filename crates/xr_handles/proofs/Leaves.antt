-- An action, below which nothing stands: it alone goes.
use Rattle.std.proofs.Common.{◌≡◌, ◌≤◌, ◌+◌, ◌==◌, ◌||◌, ℕ, Bool, true, false, not, List, [], ◌∷◌, refl, sym, arith, true≢false}
use Rattle.std.specs.Prelude.{if◌then◌else◌}
use Rattle.xr_types.specs.declared.handles.Kind.TheVariants.{Action}
use Rattle.xr_types.specs.declared.handles.Slot.{Slot}
use Rattle.xr_model.specs.machine.Handles.{Handles, has, is_live, goes, going, destroyed_by, without, without_alone}
use Rattle.xr_model.specs.laws.HandleLaws.{count_in, places_with, StandOnce}
use Rattle.xr_model.proofs.Rows.{both_of, not_true, same_key, itself, counted, uncounted, none_goes, cleared_same, going_none}

this_goes : (h : ℕ) (s : Slot) → (s.handle == h) ≡ true → (h == 0) ≡ false → goes h [] s ≡ true
unfolding goes
this_goes h s same some = rw (same_key s.handle h same, some, itself h) refl

-- a handle that stands once in a row goes alone
goes_alone : (row : List Slot) (handle : ℕ) → (handle == 0) ≡ false → has row handle ≡ true → count_in row handle ≤ 1 → going handle [] row ≡ handle ∷ []
goes_alone [] handle some there once = absurd (true≢false (sym there))
goes_alone (s ∷ ss) handle some there once = by (s.handle == handle) refl there once (goes_alone ss handle some)
  where
    by : (b : Bool) → (s.handle == handle) ≡ b → b || has ss handle ≡ true → (if b then count_in ss handle + 1 else count_in ss handle) ≤ 1
        → (has ss handle ≡ true → count_in ss handle ≤ 1 → going handle [] ss ≡ handle ∷ []) → (if goes handle [] s then s.handle ∷ going handle [] ss else going handle [] ss) ≡ handle ∷ []
    by true same there once more = rw (this_goes handle s same some, going_none handle ss (uncounted ss handle (omega (arith, once))), same_key s.handle handle same) refl
    by false other there once more = rw (none_goes handle s other) (more there once)

module _ (h : Handles) (action : ℕ) (once : StandOnce h) (live : is_live h Action action ≡ true) where
  -- it stands in no other row
  elsewhere : (row : List Slot) → count_in h.actions action + count_in row action ≤ places_with h action → has row action ≡ false
  elsewhere row part =
      let two = both_of (not (action == 0)) (has h.actions action) live in
      let all = once action (not_true (action == 0) two.0) in
      let here = counted h.actions action two.1 in
      uncounted row action (omega (arith, part, all, here))

  pub action_is_whole : without_alone h Action action ≡ without h action
  action_is_whole =
      let a = elsewhere h.instances (omega arith) in
      let b = elsewhere h.sessions (omega arith) in
      let c = elsewhere h.sets (omega arith) in
      let d = elsewhere h.spaces (omega arith) in
      let f = elsewhere h.chains (omega arith) in
      rw (
        going_none action h.instances a,
        cleared_same action h.instances a,
        going_none action h.sessions b,
        cleared_same action h.sessions b,
        going_none action h.sets c,
        cleared_same action h.sets c,
        cleared_same action h.spaces d,
        cleared_same action h.chains f,
      ) refl

  pub action_alone_goes : destroyed_by h action ≡ action ∷ []
  action_alone_goes =
      let two = both_of (not (action == 0)) (has h.actions action) live in
      let some = not_true (action == 0) two.0 in
      let all = once action some in
      rw (
        going_none action h.instances (elsewhere h.instances (omega arith)),
        going_none action h.sessions (elsewhere h.sessions (omega arith)),
        going_none action h.sets (elsewhere h.sets (omega arith)),
        goes_alone h.actions action some two.1 (omega (arith, all)),
        going_none action h.spaces (elsewhere h.spaces (omega arith)),
        going_none action h.chains (elsewhere h.chains (omega arith)),
      ) refl
