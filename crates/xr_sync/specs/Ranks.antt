-- What the code keeps of priorities: the largest heard one of each source, a source being a number.
use Rattle.std.specs.Prelude.{ℕ, ◌+◌, ◌*◌, ◌<◌, ◌==◌, ◌&&◌, List, [], ◌∷◌, max, if◌then◌else◌}
use Rattle.std.specs.List.{filter}
use Rattle.xr_types.specs.declared.input.Heard.{Heard}
use Rattle.xr_types.specs.declared.input.Pick.{Pick}
use Rattle.xr_types.specs.declared.input.Ranked.{Ranked}
use Rattle.xr_types.specs.Users.{user_place}
use Rattle.xr_model.specs.machine.Sync.{is_heard, is_live}

abbrev pub source_of : Pick → ℕ
source_of pick = user_place pick.user * 30 + pick.identifier

abbrev pub top_of : List Heard → List Ranked → ℕ → ℕ
top_of active [] source = 0
top_of active (o ∷ os) source = if is_heard active o && (source_of o.bound.pick == source) then max o.priority (top_of active os source) else top_of active os source

abbrev pub live_bindings : List Heard → List Ranked → List Ranked
live_bindings active all = filter (is_live active all) all

-- the binding's identifier is one of those that there are, and its place an action's
abbrev pub IsPlaced : Ranked → Type 0
IsPlaced b = (b.bound.pick.identifier < 30) × (b.place < 64)
