-- The rules of the calls on path texts and atoms (OpenXR 1.0 section 6.2).
use Rattle.std.specs.Prelude.{ℕ, List, [], ◌∷◌, Some}
use Rattle.xr_types.specs.declared.calls.Gives.TheVariants.{Number, Size}
use Rattle.xr_types.specs.declared.handles.Kind.TheVariants.{Instance}
use Rattle.xr_model.specs.machine.Handles.{no_handle}
use Rattle.xr_model.specs.machine.Paths.{is_new, intern_checks, with_text, atom_of, text_at, copy_refusals, copied, size_at}
use Rattle.xr_model.specs.machine.State.{CoreState}
use Rattle.xr_model.specs.machine.Rule.{Rule, ordinary, done, done_writing}

-- xrStringToPath
abbrev pub string_to_path_rule : CoreState → ℕ → List ℕ → Rule
string_to_path_rule s instance text = record (ordinary s) {
  handles = no_handle s.handles Instance instance ∷ [];
  behind = intern_checks s.atoms text;
  takes_memory = is_new s.atoms text;
  effect = done (record s { atoms = with_text s.atoms text }) (Number (atom_of s.atoms text));
}

-- xrPathToString
abbrev pub path_to_string_rule : CoreState → ℕ → ℕ → ℕ → Rule
path_to_string_rule s instance path capacity = record (ordinary s) {
  lent = Some capacity;
  handles = no_handle s.handles Instance instance ∷ [];
  behind = copy_refusals (text_at s.atoms path) capacity;
  effect = done_writing s (Size (size_at (text_at s.atoms path))) (copied (text_at s.atoms path) capacity);
}
