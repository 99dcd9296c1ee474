-- Names of action sets and actions: a name, which has the form of one name of a path, and a localized
-- name for people (OpenXR 1.0 chapter 11, "Action Sets" and "Actions").
use Rattle.std.specs.Prelude.{ℕ, ◌&&◌, ◌||◌, ◌==◌, Bool, not, nat_lt, nat_le, List, length, if◌then◌else◌}
use Rattle.std.specs.List.{list_all}
use Rattle.std.specs.Str.{is_utf8}
use Rattle.xr_types.specs.declared.code.Code.{Code}
use Rattle.xr_types.specs.declared.code.Code.TheVariants.{Success, NameInvalid, PathFormatInvalid, LocalizedNameInvalid}
use Rattle.xr_types.specs.declared.limits.TheConstants.{MOST_NAME, MOST_LOCALIZED}

-- ---- names

-- `a` to `z`, `0` to `9`, `-`, `_` and `.`
unfoldable pub is_name_byte : ℕ → Bool
is_name_byte b = (nat_le 97 b && nat_le b 122) || (nat_le 48 b && nat_le b 57) || (b == 45) || (b == 95) || (b == 46)

-- periods alone, or nothing
abbrev pub is_periods : List ℕ → Bool
is_periods text = list_all (λ b. b == 46) text

-- 1 to 63 bytes, and not periods alone
abbrev pub has_name_form : List ℕ → Bool
has_name_form text = nat_lt 0 (length text) && nat_le (length text) MOST_NAME && not (is_periods text)

-- a name: 1 to 63 bytes that may stand in a name, and not periods alone
abbrev pub is_name : List ℕ → Bool
is_name text = has_name_form text && list_all is_name_byte text

-- What the name of an action set or an action is answered with. One that is empty, too long or made
-- of periods alone is no name at all; any other that is refused has a byte that no path has.
abbrev pub name_code : List ℕ → Code
name_code text =
    if is_name text then Success
    else (if has_name_form text then PathFormatInvalid else NameInvalid)

-- ---- localized names

-- a text for people: UTF-8 of 1 to 127 bytes
abbrev pub is_localized : List ℕ → Bool
is_localized text = nat_lt 0 (length text) && nat_le (length text) MOST_LOCALIZED && is_utf8 text

-- what a localized name is answered with
abbrev pub localized_code : List ℕ → Code
localized_code text = if is_localized text then Success else LocalizedNameInvalid
