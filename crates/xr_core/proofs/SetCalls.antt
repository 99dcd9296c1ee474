-- The checks of calls on action sets and actions, one behind another.
use Rattle.std.proofs.Common.{◌≡◌, ◌&&◌, ◌++◌, ℕ, Bool, true, false, not, List, [], ◌∷◌, map, Some, None, Ok, Err, refl, sym, ◌∙◌, true≢false}
use Rattle.std.specs.Prelude.{if◌then◌else◌}
use Rattle.std.specs.List.{list_all}
use Rattle.xr_types.specs.declared.code.Code.{Code}
use Rattle.xr_types.specs.declared.code.Code.TheVariants.{HandleInvalid, CallOrderInvalid}
use Rattle.xr_types.specs.declared.handles.Kind.{Kind}
use Rattle.xr_types.specs.declared.handles.Kind.TheVariants as kind
use Rattle.xr_types.specs.declared.input.ActionType.{ActionType}
use Rattle.xr_model.specs.machine.Handles.{Handles, is_live, has_room, no_handle, no_room}
use Rattle.xr_model.specs.machine.Refusals.{when, first_of}
use Rattle.xr_model.specs.machine.Rule.{refusals}
use Rattle.xr_model.specs.machine.Rules.Sets.{sub_checks, create_action_rule}
use Rattle.xr_model.specs.machine.Sets.{no_users, action_checks, action_label_checks}
use Rattle.xr_model.specs.machine.State.{CoreState}
use Rattle.xr_model.specs.machine.PartAnswers.{or_refused}
use Rattle.xr_core.proofs.Deciding.{then_err, then_ok, none_first, none_second, room_last}

pub all_live : (h : Handles) (kind : Kind) (handles : List ℕ) → list_all (λ handle. is_live h kind handle) handles ≡ true → first_of (map (no_handle h kind) handles) ≡ None
all_live h kind [] live = refl
all_live h kind (handle ∷ handles) live = by (is_live h kind handle) live (all_live h kind handles)
  where
    by : (b : Bool) → b && list_all (λ x. is_live h kind x) handles ≡ true → (list_all (λ x. is_live h kind x) handles ≡ true → first_of (map (no_handle h kind) handles) ≡ None)
        → (if not b then Some (when (not b) HandleInvalid) else first_of (map (no_handle h kind) handles)) ≡ None
    by true live more = more live
    by false live more = absurd (true≢false (sym live))

pub some_dead : (h : Handles) (kind : Kind) (handles : List ℕ) → list_all (λ handle. is_live h kind handle) handles ≡ false → or_refused {T = Unit {0}} (first_of (map (no_handle h kind) handles)) tt ≡ Err HandleInvalid
some_dead h kind [] dead = absurd (true≢false dead)
some_dead h kind (handle ∷ handles) dead = by (is_live h kind handle) dead (some_dead h kind handles)
  where
    by : (b : Bool) → b && list_all (λ x. is_live h kind x) handles ≡ false → (list_all (λ x. is_live h kind x) handles ≡ false → or_refused {T = Unit {0}} (first_of (map (no_handle h kind) handles)) tt ≡ Err HandleInvalid)
        → or_refused {T = Unit {0}} (if not b then Some (when (not b) HandleInvalid) else first_of (map (no_handle h kind) handles)) tt ≡ Err HandleInvalid
    by true dead more = more dead
    by false dead more = refl

-- ---- an action, whose handle is that of a live set

module _ (s : CoreState) (set : ℕ) (name : List ℕ) (type : ActionType) (subs localized : List ℕ) (declared : List Bool) (live : or_refused {T = Unit {0}} (first_of (no_handle s.handles kind.ActionSet set ∷ [])) tt ≡ Ok tt) where
  behind_handle : or_refused (first_of (refusals (create_action_rule s 0 set name type subs localized))) declared
      ≡ or_refused (first_of (action_checks s.inputs set name ++ (sub_checks s.atoms no_users subs ++ (action_label_checks s.inputs set localized ++ no_room s.handles kind.Action ∷ [])))) declared
  behind_handle =
      then_ok (no_handle s.handles kind.ActionSet set ∷ []) (when false CallOrderInvalid ∷ (action_checks s.inputs set name ++ (sub_checks s.atoms no_users subs ++ (action_label_checks s.inputs set localized ++ no_room s.handles kind.Action ∷ [])))) tt tt declared live

  pub refused_by_name : (code : Code) → or_refused {T = Unit {0}} (first_of (action_checks s.inputs set name)) tt ≡ Err code → or_refused (first_of (refusals (create_action_rule s 0 set name type subs localized))) declared ≡ Err code
  refused_by_name code told =
      behind_handle ∙ then_err (action_checks s.inputs set name) (sub_checks s.atoms no_users subs ++ (action_label_checks s.inputs set localized ++ no_room s.handles kind.Action ∷ [])) tt declared code told

  module _ (named : or_refused {T = Unit {0}} (first_of (action_checks s.inputs set name)) tt ≡ Ok tt) where
    behind_name : or_refused (first_of (refusals (create_action_rule s 0 set name type subs localized))) declared
        ≡ or_refused (first_of (sub_checks s.atoms no_users subs ++ (action_label_checks s.inputs set localized ++ no_room s.handles kind.Action ∷ []))) declared
    behind_name = behind_handle ∙ then_ok (action_checks s.inputs set name) (sub_checks s.atoms no_users subs ++ (action_label_checks s.inputs set localized ++ no_room s.handles kind.Action ∷ [])) tt tt declared named

    pub refused_by_subs : (d : List Bool) (code : Code) → or_refused (first_of (sub_checks s.atoms no_users subs)) d ≡ Err code → or_refused (first_of (refusals (create_action_rule s 0 set name type subs localized))) declared ≡ Err code
    refused_by_subs d code told = behind_name ∙ then_err (sub_checks s.atoms no_users subs) (action_label_checks s.inputs set localized ++ no_room s.handles kind.Action ∷ []) d declared code told

    module _ (d found : List Bool) (known : or_refused (first_of (sub_checks s.atoms no_users subs)) d ≡ Ok found) where
      behind_subs : or_refused (first_of (refusals (create_action_rule s 0 set name type subs localized))) declared ≡ or_refused (first_of (action_label_checks s.inputs set localized ++ no_room s.handles kind.Action ∷ [])) declared
      behind_subs = behind_name ∙ then_ok (sub_checks s.atoms no_users subs) (action_label_checks s.inputs set localized ++ no_room s.handles kind.Action ∷ []) d found declared known

      pub refused_by_label : (code : Code) → or_refused {T = Unit {0}} (first_of (action_label_checks s.inputs set localized)) tt ≡ Err code → or_refused (first_of (refusals (create_action_rule s 0 set name type subs localized))) declared ≡ Err code
      refused_by_label code told = behind_subs ∙ then_err (action_label_checks s.inputs set localized) (no_room s.handles kind.Action ∷ []) tt declared code told

      pub behind_label : or_refused {T = Unit {0}} (first_of (action_label_checks s.inputs set localized)) tt ≡ Ok tt → or_refused (first_of (refusals (create_action_rule s 0 set name type subs localized))) declared ≡ or_refused (first_of (no_room s.handles kind.Action ∷ [])) declared
      behind_label labelled = behind_subs ∙ then_ok (action_label_checks s.inputs set localized) (no_room s.handles kind.Action ∷ []) tt tt declared labelled

-- where nothing refuses it
module _ (s : CoreState) (set : ℕ) (name : List ℕ) (type : ActionType) (subs localized : List ℕ) (none : first_of (refusals (create_action_rule s 0 set name type subs localized)) ≡ None) where
  from_name : first_of (action_checks s.inputs set name ++ (sub_checks s.atoms no_users subs ++ (action_label_checks s.inputs set localized ++ no_room s.handles kind.Action ∷ []))) ≡ None
  from_name = none_second (no_handle s.handles kind.ActionSet set ∷ when false CallOrderInvalid ∷ []) (action_checks s.inputs set name ++ (sub_checks s.atoms no_users subs ++ (action_label_checks s.inputs set localized ++ no_room s.handles kind.Action ∷ []))) none

  from_label : first_of (action_label_checks s.inputs set localized ++ no_room s.handles kind.Action ∷ []) ≡ None
  from_label =
      none_second (sub_checks s.atoms no_users subs) (action_label_checks s.inputs set localized ++ no_room s.handles kind.Action ∷ [])
      (none_second (action_checks s.inputs set name) (sub_checks s.atoms no_users subs ++ (action_label_checks s.inputs set localized ++ no_room s.handles kind.Action ∷ [])) from_name)

  pub name_none : first_of (action_checks s.inputs set name) ≡ None
  name_none = none_first (action_checks s.inputs set name) (sub_checks s.atoms no_users subs ++ (action_label_checks s.inputs set localized ++ no_room s.handles kind.Action ∷ [])) from_name

  pub label_none : first_of (action_label_checks s.inputs set localized) ≡ None
  label_none = none_first (action_label_checks s.inputs set localized) (no_room s.handles kind.Action ∷ []) from_label

  pub action_room : has_room s.handles kind.Action ≡ true
  action_room = room_last (action_label_checks s.inputs set localized) s.handles kind.Action from_label
