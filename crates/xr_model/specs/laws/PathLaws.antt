-- Texts of paths: a text that is taken is known by its atom, and is given back with its zero and its size.
use Rattle.std.specs.Prelude.{◌≡◌, ◌↔◌, ◌≤◌, ◌+◌, ◌==◌, ◌&&◌, ◌++◌, not, ℕ, Bool, true, List, [], ◌∷◌, length, Some, if◌then◌else◌}
use Rattle.std.specs.List.{list_all}
use Rattle.xr_types.specs.Name.{is_name_byte, is_periods}
use Rattle.xr_types.specs.Code.{is_success}
use Rattle.xr_types.specs.declared.calls.Call.TheVariants as ask
use Rattle.xr_types.specs.declared.calls.Gives.TheVariants.{Number, Size}
use Rattle.xr_model.specs.machine.Calls.{Entry}
use Rattle.xr_model.specs.machine.Paths.{text_at, is_path_text}
use Rattle.xr_model.specs.machine.State.{State}
use Rattle.xr_model.specs.machine.Machine.{step}

-- a text that was taken has the atom that was given
pub record IsKnown (s : State) (e : Entry) (text : List ℕ) : Type 0 where
  pub atom : ℕ
  pub gives : (step s e).1.reply.gives ≡ Number atom
  pub known : text_at (step s e).0.core.atoms atom ≡ Some text

abbrev pub TextsAreKnown : Type 0
TextsAreKnown =
    (s : State) (e : Entry) (instance : ℕ) (text : List ℕ) → e.call ≡ ask.StringToPath instance text → is_success (step s e).1.reply.code ≡ true → IsKnown s e text

-- The size of an atom's text is given, and counts a zero behind it; the text and the zero are written, but where no buffer is lent.
pub record IsGivenBack (s : State) (e : Entry) (text : List ℕ) (capacity : ℕ) : Type 0 where
  pub size : (step s e).1.reply.gives ≡ Size (length text + 1)
  pub written : (step s e).1.text ≡ (if capacity == 0 then [] else text ++ 0 ∷ [])

abbrev pub TextsAreGivenBack : Type 0
TextsAreGivenBack =
    (s : State) (e : Entry) (instance path capacity : ℕ) (text : List ℕ) → e.call ≡ ask.PathToString instance path capacity → is_success (step s e).1.reply.code ≡ true
    → text_at s.core.atoms path ≡ Some text → IsGivenBack s e text capacity

-- ---- the grammar of paths

-- these names, each behind a slash
abbrev pub joined : List (List ℕ) → List ℕ
joined [] = []
joined (name ∷ names) = 47 ∷ (name ++ joined names)

-- a name of a path: bytes that a name has, and not periods alone or nothing
abbrev pub is_path_name : List ℕ → Bool
is_path_name name = list_all is_name_byte name && not (is_periods name)

-- A path: one name or more, each behind a slash, in at most 255 bytes (OpenXR 1.0 section 6.2).
pub record IsPath (text : List ℕ) : Type 0 where
  pub first : List ℕ
  pub more : List (List ℕ)
  pub are : text ≡ joined (first ∷ more)
  pub each : list_all is_path_name (first ∷ more) ≡ true
  pub few : length text ≤ 255

abbrev pub PathsAreNames : Type 0
PathsAreNames = (text : List ℕ) → (is_path_text text ≡ true) ↔ IsPath text
