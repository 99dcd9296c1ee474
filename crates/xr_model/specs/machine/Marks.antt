-- Marks, by which scripts and the device wait for each other. They are this project's own.
use Rattle.std.specs.Prelude.{ℕ, ◌-◌, ◌==◌, Bool, List, replicate, slice_get, slice_set, Option, Some, None, is_some, unwrap_or, if◌then◌else◌}
use Rattle.xr_types.specs.declared.limits.TheConstants.{MOST_MARK}

-- none is set; they are numbered from 1
abbrev pub no_marks : List (Option ℕ)
no_marks = replicate MOST_MARK None

-- the value of a mark, where it is set
abbrev pub in_place : Option (Option ℕ) → Option ℕ
in_place None = None
in_place (Some value) = value

abbrev pub mark_at : List (Option ℕ) → ℕ → Option ℕ
mark_at marks mark = if mark == 0 then None else in_place (slice_get marks (mark - 1))

abbrev pub is_set : List (Option ℕ) → ℕ → Bool
is_set marks mark = is_some (mark_at marks mark)

-- the marks once one is set; there is no mark 0
abbrev pub with_mark : List (Option ℕ) → ℕ → ℕ → List (Option ℕ)
with_mark marks mark value = if mark == 0 then marks else slice_set marks (mark - 1) (Some value)

-- the value that is waited for
abbrev pub value_of_mark : List (Option ℕ) → ℕ → ℕ
value_of_mark marks mark = unwrap_or (mark_at marks mark) 0
