-- What a sync of a focused session comes to.
use Rattle.std.proofs.Common.{◌≡◌, ℕ, List, true, false, map, None, refl}
use Rattle.std.specs.Prelude.{Ok}
use Rattle.xr_types.specs.declared.calls.Call.TheVariants as ask
use Rattle.xr_types.specs.declared.calls.Gives.TheVariants.{Nothing}
use Rattle.xr_types.specs.declared.code.Code.TheVariants.{Success}
use Rattle.xr_types.specs.declared.input.ActiveSet.{ActiveSet}
use Rattle.xr_types.specs.declared.session.SessionState.{SessionState}
use Rattle.xr_types.specs.declared.session.SessionState.TheVariants.{Focused, LossPending}
use Rattle.xr_model.specs.machine.Refusals.{first_of}
use Rattle.xr_model.specs.machine.Rule.{refusals, nothing_done}
use Rattle.xr_model.specs.machine.Rules.Session.{life_of, columns_of}
use Rattle.xr_model.specs.machine.Rules.Sync.{heard_by, bindings_of, sync_actions_rule}
use Rattle.xr_model.specs.machine.SessionLife.{is_state, state_number}
use Rattle.xr_model.specs.machine.State.{CoreState}
use Rattle.xr_model.specs.machine.Sync.{columns_after}
use Rattle.xr_model.proofs.Rows.{same_key}
use Rattle.xr_core.specs.inside.Changes.{with_shown}
use Rattle.xr_core.specs.inside.Deciding.{Decides}
use Rattle.xr_core.proofs.Deciding.{effect_decides}

-- the loss of a focused session isn't pending
not_pending : (state : SessionState) → is_state state Focused ≡ true → is_state state LossPending ≡ false
not_pending state focused = rw (same_key (state_number state) (state_number Focused) focused) refl

module _ (s : CoreState) (session : ℕ) (active : List ActiveSet) (focused : is_state (life_of s session).state Focused ≡ true) where
  -- what actions show in it then
  abbrev synced : CoreState
  synced = with_shown s session (columns_after (map (heard_by s) active) (bindings_of s) s.device.inputs s.device.clock (columns_of s session))

  pub sync_decides : first_of (refusals (sync_actions_rule s session active)) ≡ None → Decides s (ask.SyncActions session active) synced (Ok (record { code = Success; gives = Nothing; place = 0 }))
  sync_decides none =
      effect_decides s (ask.SyncActions session active) (λ given. sync_actions_rule s session active) synced Success Nothing nothing_done (λ who reads. refl) none refl
      (rw (not_pending (life_of s session).state focused, focused) refl) refl refl
