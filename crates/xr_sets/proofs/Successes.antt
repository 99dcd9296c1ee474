-- Where a check answers a success, it refuses nothing: what `add_set` and `add_action` require.
use Rattle.std.proofs.Common.{◌≡◌, ℕ, List, None, arith}
use Rattle.xr_types.specs.declared.code.Code.TheVariants.{Success}
use Rattle.xr_model.specs.machine.Refusals.{first_of}
use Rattle.xr_model.specs.machine.Sets.{Sets, set_checks, action_checks, action_label_checks}
use Rattle.xr_model.specs.machine.PartAnswers.{code_by}

pub nothing_refuses_set : (s : Sets) (name localized : List ℕ) → code_by (first_of (set_checks s name localized)) ≡ Success → first_of (set_checks s name localized) ≡ None
nothing_refuses_set s name localized success = grind arith

pub nothing_refuses_action : (s : Sets) (set : ℕ) (name : List ℕ) → code_by (first_of (action_checks s set name)) ≡ Success → first_of (action_checks s set name) ≡ None
nothing_refuses_action s set name success = grind arith

pub nothing_refuses_label : (s : Sets) (set : ℕ) (localized : List ℕ) → code_by (first_of (action_label_checks s set localized)) ≡ Success → first_of (action_label_checks s set localized) ≡ None
nothing_refuses_label s set localized success = grind arith

pub ruleset nothing_refuses = (nothing_refuses_set, nothing_refuses_action, nothing_refuses_label)
