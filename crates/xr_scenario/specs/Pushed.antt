-- What is asked of a list of ops, and what becomes of it, where ops are pushed into room that was taken before.
use Rattle.std.specs.Prelude.{◌≡◌, ◌≤◌, ◌+◌, ◌++◌, List, length, Vec, vec_len, vec_capacity}
use Rattle.xr_types.specs.declared.scenario.Op.{Op}

-- there is room for so many more
abbrev pub HasRoom : {A : Type 0} → Vec Op A → List Op → Type 0
HasRoom ops more = vec_len ops + length more ≤ vec_capacity ops

-- they stand behind what was there, and no room was taken
abbrev pub Pushed : {A : Type 0} → Vec Op A → Vec Op A → List Op → Type 0
Pushed old new more = (new.items ≡ old.items ++ more) × (vec_len new ≡ vec_len old + length more) × (vec_capacity new ≡ vec_capacity old)
