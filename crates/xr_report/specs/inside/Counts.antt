-- The lines of results, by the counts of all.
use Rattle.std.specs.Prelude.{ℕ, List, [], ◌∷◌, ◌++◌, slice_index}
use Rattle.xr_types.specs.Code.{number_of_code}
use Rattle.xr_types.specs.declared.code.Code.{Code}
use Rattle.xr_model.specs.report.Summary.{code_line}

-- a line for each of these results that came, by how often the result of each number came
abbrev pub lines_by : List ℕ → List Code → List ℕ
lines_by counts [] = []
lines_by counts (c ∷ cs) = code_line (slice_index counts (number_of_code c)) c ++ lines_by counts cs
