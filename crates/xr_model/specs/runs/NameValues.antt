-- What the names of a script stand for while it runs.
use Rattle.std.specs.Prelude.{ℕ, ◌-◌, ◌^◌, ℤ, pos, negsuc, min, replicate, length, List, [], ◌∷◌, Option, Some, None, slice_get, slice_set, unwrap_or}
use Rattle.xr_types.specs.declared.calls.Gives.{Gives}
use Rattle.xr_types.specs.declared.calls.Gives.TheVariants.{Handle, Number, Frame}
use Rattle.xr_types.specs.declared.calls.Reply.{Reply}
use Rattle.xr_types.specs.declared.frames.Layer.{Layer}
use Rattle.xr_types.specs.declared.frames.Layer.TheVariants as layer
use Rattle.xr_types.specs.declared.frames.SubImage.{SubImage}
use Rattle.xr_types.specs.declared.input.ActiveSet.{ActiveSet}
use Rattle.xr_types.specs.declared.input.Binding.{Binding}
use Rattle.xr_types.specs.declared.scenario.ActiveSetUse.{ActiveSetUse}
use Rattle.xr_types.specs.declared.scenario.BindingUse.{BindingUse}
use Rattle.xr_types.specs.declared.scenario.LayerUse.{LayerUse}
use Rattle.xr_types.specs.declared.scenario.LayerUse.TheVariants.{Projection, Quad}
use Rattle.xr_types.specs.declared.scenario.Op.{Op}
use Rattle.xr_types.specs.declared.scenario.Sort.{Sort}
use Rattle.xr_types.specs.declared.scenario.SubImageUse.{SubImageUse}
use Rattle.xr_types.specs.declared.scenario.Use.{Use}
use Rattle.xr_types.specs.declared.scenario.Use.TheVariants as use_of
use Rattle.xr_types.specs.Op.{sort_of}

-- ---- what replies give to names

abbrev pub nonnegative : ℤ → ℕ
nonnegative (pos n) = n
nonnegative (negsuc n) = 0

-- a handle, an atom, a system, a mark's value or a predicted time, and 0 where none of these is given
abbrev pub number_given : Gives → ℕ
number_given (Handle n) = n
number_given (Number n) = n
number_given (Frame f) = nonnegative f.time
number_given _ = 0

abbrev pub value_by : Option Sort → Gives → ℕ
value_by None gives = 0
value_by (Some sort) gives = number_given gives

-- the value that a reply gives to its op's name, where the op's row has a name
abbrev pub value_given : Op → Gives → ℕ
value_given o gives = value_by (sort_of o) gives

-- the values of a script of so many ops, before any is made
abbrev pub no_values : ℕ → List ℕ
no_values ops = replicate ops 0

-- the values, once the op at a place was answered so
abbrev pub with_name_value : List ℕ → ℕ → Op → Reply → List ℕ
with_name_value values place o answer = slice_set values (place - 1) (value_given o answer.gives)

-- ---- what fields stand for

abbrev pub value_at : List ℕ → ℕ → ℕ
value_at values place = unwrap_or (slice_get values (place - 1)) 0

-- the value of a field: a number, or what the op at that place gave
abbrev pub value_of : List ℕ → Use → ℕ
value_of values (use_of.Number n) = nonnegative n
value_of values (use_of.Of place) = value_at values place

-- the same of a time, which may be below 0 and is at most 2^63 - 1
abbrev pub time_of : List ℕ → Use → ℤ
time_of values (use_of.Number n) = n
time_of values (use_of.Of place) = pos (min (value_at values place) (2 ^ 63 - 1))

abbrev pub binding_for : List ℕ → BindingUse → Binding
binding_for values u = record { action = value_of values u.action; path = value_of values u.path }

abbrev pub active_set_for : List ℕ → ActiveSetUse → ActiveSet
active_set_for values u = record { set = value_of values u.set; sub = value_of values u.sub }

abbrev pub sub_image_for : List ℕ → SubImageUse → SubImage
sub_image_for values u = record { chain = value_of values u.chain; x = u.x; y = u.y; w = u.w; h = u.h }

abbrev pub no_sub_image : SubImage
no_sub_image = record { chain = 0; x = pos 0; y = pos 0; w = pos 0; h = pos 0 }

abbrev pub sub_image_by : List ℕ → Option SubImageUse → SubImage
sub_image_by values None = no_sub_image
sub_image_by values (Some u) = sub_image_for values u

-- the first four views, and nothing where there are fewer
abbrev pub four : List ℕ → List SubImageUse → List SubImage
four values views = sub_image_by values (slice_get views 0) ∷ sub_image_by values (slice_get views 1) ∷ sub_image_by values (slice_get views 2) ∷ sub_image_by values (slice_get views 3) ∷ []

abbrev pub layer_for : List ℕ → LayerUse → Layer
layer_for values (Projection space views) = layer.Projection (value_of values space) (length views) (four values views)
layer_for values (Quad space image pose) = layer.Quad (value_of values space) (sub_image_for values image) pose
