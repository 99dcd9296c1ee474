-- Which bytes are a JSON text.
use Rattle.std.proofs.Common.{◌≡◌, ℕ, ◌+◌, ◌≤◌, length, Bool, true, false, List, Some, None, refl}
use Rattle.std.specs.Prelude.{IsUtf8}
use Rattle.std.specs.Str.{is_utf8}
use Rattle.std.proofs.lemmas.Str.{IsUtf8-from_is_utf8, is_utf8-from_IsUtf8}
use Rattle.serde_json.specs.Data.{Data}
use Rattle.serde_json.specs.Read.{read}
use Rattle.xr_scenario.specs.Size.{size}
use Rattle.xr_scenario.proofs.Sizes.{holds_less}
use Rattle.xr_model.specs.scenario.Scenario.{json_of}

pub json_some : (bytes : List ℕ) (d : Data) → IsUtf8 bytes → read bytes ≡ Some d → json_of bytes ≡ Some d
json_some bytes d utf8 e = rw (is_utf8-from_IsUtf8 bytes utf8) e

pub json_none : (bytes : List ℕ) → (IsUtf8 bytes → read bytes ≡ None) → json_of bytes ≡ None
json_none bytes none = by (is_utf8 bytes) refl
  where
    by : (b : Bool) → is_utf8 bytes ≡ b → json_of bytes ≡ None
    by true e = rw e (none (IsUtf8-from_is_utf8 bytes e))
    by false e = rw e refl

pub json_size : (bytes : List ℕ) (d : Data) → read bytes ≡ Some d → size d ≤ length bytes + 1
json_size bytes d e = holds_less bytes d e
