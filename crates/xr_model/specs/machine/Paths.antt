-- Path texts and their atoms (OpenXR 1.0 section 6.2).
use Rattle.std.specs.Prelude.{ℕ, ◌+◌, ◌-◌, ◌&&◌, ◌||◌, ◌==◌, Bool, false, not, nat_eq, nat_lt, nat_le, List, [], ◌∷◌, ◌++◌, length, position, slice_get, Option, Some, None, if◌then◌else◌, is_none, unwrap_or}
use Rattle.std.specs.List.{list_all}
use Rattle.std.specs.Cmp.Lexicographic.{pointwise}
use Rattle.xr_types.specs.declared.code.Code.TheVariants.{OutOfMemory, PathInvalid, PathCountExceeded, PathFormatInvalid, SizeInsufficient}
use Rattle.xr_types.specs.declared.calls.Gives.TheVariants.{Size}
use Rattle.xr_model.specs.machine.Refusals.{Refusal, when, when_with, first_of}

-- ---- which texts are paths

-- `a` to `z`, `0` to `9`, `-`, `_`, `.` and `/`
unfoldable pub is_path_byte : ℕ → Bool
is_path_byte b = (nat_le 97 b && nat_le b 122) || (nat_le 48 b && nat_le b 57) || (b == 45) || (b == 95) || (b == 46) || (b == 47)

-- the first byte is a slash
abbrev pub begins_with_slash : List ℕ → Bool
begins_with_slash [] = false
begins_with_slash (b ∷ bs) = b == 47

-- the last byte is a slash
abbrev pub ends_with_slash : List ℕ → Bool
ends_with_slash [] = false
ends_with_slash (b ∷ []) = b == 47
ends_with_slash (b ∷ c ∷ bs) = ends_with_slash (c ∷ bs)

-- periods alone, or nothing, and then a slash
abbrev pub periods_to_slash : List ℕ → Bool
periods_to_slash [] = false
periods_to_slash (b ∷ bs) = (b == 47) || ((b == 46) && periods_to_slash bs)

-- somewhere two slashes are adjacent or have only periods between them
abbrev pub has_empty_name : List ℕ → Bool
has_empty_name [] = false
has_empty_name (b ∷ bs) = ((b == 47) && periods_to_slash bs) || has_empty_name bs

-- after some slash, which is then the last, stand periods alone or nothing
abbrev pub has_empty_end : List ℕ → Bool
has_empty_end [] = false
has_empty_end (b ∷ bs) = ((b == 47) && list_all (λ c. c == 46) bs) || has_empty_end bs

-- A path text, by six conditions: its length, its bytes, its beginning, its end, the names between its
-- slashes, and its last name.
unfoldable pub is_path_text : List ℕ → Bool
is_path_text text =
    nat_lt 0 (length text) && nat_le (length text) 255
    && list_all is_path_byte text
    && begins_with_slash text
    && not (ends_with_slash text)
    && not (has_empty_name text)
    && not (has_empty_end text)

-- ---- atoms: the distinct texts in the order in which they came; the k-th of them has the atom k

abbrev pub index_of : List (List ℕ) → List ℕ → Option ℕ
index_of atoms text = position (λ known. pointwise nat_eq text known) atoms

abbrev pub is_new : List (List ℕ) → List ℕ → Bool
is_new atoms text = is_none (index_of atoms text)

-- the atom of a text: its place, or that of the next one where the text is new
abbrev pub atom_of : List (List ℕ) → List ℕ → ℕ
atom_of atoms text = unwrap_or (index_of atoms text) (length atoms) + 1

abbrev pub with_text : List (List ℕ) → List ℕ → List (List ℕ)
with_text atoms text = if is_new atoms text then atoms ++ text ∷ [] else atoms

-- the text of an atom
abbrev pub text_at : List (List ℕ) → ℕ → Option (List ℕ)
text_at atoms k = if k == 0 then None else slice_get atoms (k - 1)

-- ---- asking for the atom of a text

-- how a text is refused: it is no path, or it is one too many
abbrev pub intern_checks : List (List ℕ) → List ℕ → List Refusal
intern_checks atoms text =
    when (not (is_path_text text)) PathFormatInvalid
    ∷ when (is_new atoms text && nat_le 1024 (length atoms)) PathCountExceeded
    ∷ []

-- the same of the part that keeps atoms, where memory may be short for the text
abbrev pub intern_refusals : List (List ℕ) → List ℕ → Bool → List Refusal
intern_refusals atoms text short =
    when (not (is_path_text text)) PathFormatInvalid
    ∷ when (is_new atoms text && nat_le 1024 (length atoms)) PathCountExceeded
    ∷ when (is_new atoms text && short) OutOfMemory
    ∷ []

-- ---- asking for the text of an atom

-- how many bytes a text takes with its terminating zero
abbrev pub size_of : List ℕ → ℕ
size_of text = length text + 1

-- the size of a text, where there is one
abbrev pub size_at : Option (List ℕ) → ℕ
size_at None = 0
size_at (Some text) = size_of text

-- How an atom's text is refused to a buffer of this size: there is no such atom, or the text doesn't
-- fit, and its size is given with that. A buffer of size 0 asks for the text's size alone.
abbrev pub copy_refusals : Option (List ℕ) → ℕ → List Refusal
copy_refusals found capacity =
    when (is_none found) PathInvalid
    ∷ when_with (nat_lt 0 capacity && nat_lt capacity (size_at found)) SizeInsufficient (Size (size_at found))
    ∷ []

-- what goes to the front of the buffer: the text and a zero, where they fit
abbrev pub copied : Option (List ℕ) → ℕ → List ℕ
copied None capacity = []
copied (Some text) capacity = if nat_le (size_of text) capacity then text ++ 0 ∷ [] else []

-- a new text that would be kept, were there memory for it
abbrev pub may_want_memory : List (List ℕ) → List ℕ → Bool
may_want_memory atoms text = is_new atoms text && is_none (first_of (intern_refusals atoms text false))
