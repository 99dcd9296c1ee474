-- The calls that are this project's own and no statement about the standard.
use Rattle.std.specs.Prelude.{ℕ, List, Bool, ◌-◌, slice_set, not, true}
use Rattle.xr_types.specs.declared.calls.Actor.{Actor}
use Rattle.xr_types.specs.declared.calls.Actor.TheVariants.{App, Compositor, Device}
use Rattle.xr_types.specs.declared.calls.Gives.TheVariants.{Nothing, Number}
use Rattle.xr_types.specs.Device.{is_mark}
use Rattle.xr_model.specs.machine.Marks.{is_set, with_mark, value_of_mark}
use Rattle.xr_model.specs.machine.State.{CoreState}
use Rattle.xr_model.specs.machine.Rule.{Rule, ordinary, done}

-- an application is gone; nobody else leaves
abbrev pub left_with : List Bool → Actor → List Bool
left_with left (App k) = slice_set left (k - 1) true
left_with left Compositor = left
left_with left Device = left

abbrev pub with_left : CoreState → Actor → CoreState
with_left s who = record s { left = left_with s.left who }

-- an application says that it makes no further call
abbrev pub leave_rule : CoreState → Actor → Rule
leave_rule s who = record (ordinary s) { effect = done (with_left s who) Nothing }

-- an application sets a mark with a value
abbrev pub mark_rule : CoreState → ℕ → ℕ → Rule
mark_rule s number value = record (ordinary s) { in_range = is_mark number; effect = done (record s { marks = with_mark s.marks number value }) Nothing }

-- an application waits for a mark
abbrev pub await_mark_rule : CoreState → ℕ → Rule
await_mark_rule s number = record (ordinary s) { in_range = is_mark number; waits = not (is_set s.marks number); effect = done s (Number (value_of_mark s.marks number)) }

-- a call that has no rule yet: no entry with it is allowed
