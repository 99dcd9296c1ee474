-- What the lists of an op may hold.
use Rattle.std.specs.Prelude.{ℕ, ◌+◌, ◌-◌, ◌^◌, nat_le, ◌==◌, ℤ, pos, negsuc, List, [], ◌∷◌, Option, Some, None, option_and_then, option_map, if◌then◌else◌}
use Rattle.serde_json.specs.Data.{Data, Items, no_items, item}
use Rattle.serde_json.specs.Find.{as_array, at, get}
use Rattle.xr_types.specs.Field.{name_of_field}
use Rattle.xr_types.specs.declared.fields.FieldName.TheVariants as key
use Rattle.xr_types.specs.declared.limits.TheConstants.{MOST_VIEWS}
use Rattle.xr_types.specs.declared.scenario.ActiveSetUse.{ActiveSetUse}
use Rattle.xr_types.specs.declared.scenario.AtomUse.{AtomUse}
use Rattle.xr_types.specs.declared.scenario.BindingUse.{BindingUse}
use Rattle.xr_types.specs.declared.scenario.HandleUse.{HandleUse}
use Rattle.xr_types.specs.declared.scenario.LayerUse.{LayerUse}
use Rattle.xr_types.specs.declared.scenario.LayerUse.TheVariants.{Projection, Quad}
use Rattle.xr_types.specs.declared.scenario.SubImageUse.{SubImageUse}
use Rattle.xr_types.specs.declared.scenario.Use.{Use}
use Rattle.xr_model.specs.scenario.Names.{NamedOp}
use Rattle.xr_model.specs.scenario.Fields.{most, handle_in, atom_in, number_in, integer_in, only_keys}

-- ---- lists

abbrev pub count_items : Items → ℕ
count_items no_items = 0
count_items (item d ds) = 1 + count_items ds

-- the values of the items, where each is one
abbrev pub all_of : {T : Type 0} → (Data → Option T) → Items → Option (List T)
all_of read no_items = Some []
all_of read (item d ds) = option_and_then (λ x. option_map (λ xs. x ∷ xs) (all_of read ds)) (read d)

abbrev pub list_of : {T : Type 0} → (Data → Option T) → ℕ → Items → Option (List T)
list_of read greatest ds = if nat_le (count_items ds) greatest then all_of read ds else None

-- an array of at most so many items
abbrev pub list_in : {T : Type 0} → (Data → Option T) → ℕ → Data → Option (List T)
list_in read greatest d = option_and_then (list_of read greatest) (as_array d)

abbrev pub count_by : Option Items → ℕ
count_by None = 0
count_by (Some ds) = count_items ds

-- how many items an array has; what is no array has none
abbrev pub item_count : Data → ℕ
item_count d = count_by (as_array d)

-- ---- items

abbrev pub handle_part : List NamedOp → Data → Option HandleUse
handle_part names d = option_map (λ u. record { handle = u }) (handle_in names d)

abbrev pub atom_part : List NamedOp → Data → Option AtomUse
atom_part names d = option_map (λ u. record { atom = u }) (atom_in names d)

-- an array of a handle and an atom
abbrev pub pair_part : {T : Type 0} → (Use → Use → T) → List NamedOp → Data → Option T
pair_part made_of names d =
    if item_count d == 2 then option_and_then (λ h. option_map (made_of h) (option_and_then (atom_in names) (at 1 d))) (option_and_then (handle_in names) (at 0 d))
    else None

-- an action and a path
abbrev pub binding_part : List NamedOp → Data → Option BindingUse
binding_part names d = pair_part (λ h a. record { action = h; path = a }) names d

-- an action set and a user path
abbrev pub active_set_part : List NamedOp → Data → Option ActiveSetUse
active_set_part names d = pair_part (λ h a. record { set = h; sub = a }) names d

-- a number of pixels, of 32 bits
abbrev pub pixel_in : Data → Option ℤ
pixel_in = integer_in (negsuc (2 ^ 31 - 1)) (pos (2 ^ 31 - 1))

abbrev pub pixel_at : ℕ → Data → Option ℤ
pixel_at i d = option_and_then pixel_in (at i d)

abbrev pub sub_image : Use → ℤ → ℤ → ℤ → ℤ → SubImageUse
sub_image c left top width height = record { chain = c; x = left; y = top; w = width; h = height }

abbrev pub sub_image_of : List NamedOp → Data → Option SubImageUse
sub_image_of names d =
    option_and_then (λ c. option_and_then (λ x. option_and_then (λ y. option_and_then (λ w.
    option_map (sub_image c x y w) (pixel_at 4 d)) (pixel_at 3 d)) (pixel_at 2 d)) (pixel_at 1 d)) (option_and_then (handle_in names) (at 0 d))

-- an array of a chain and four numbers of pixels
abbrev pub sub_image_part : List NamedOp → Data → Option SubImageUse
sub_image_part names d = if item_count d == 5 then sub_image_of names d else None

abbrev pub projection_in : List NamedOp → Data → Option LayerUse
projection_in names d =
    option_and_then (λ space. option_map (Projection space) (option_and_then (list_in (sub_image_part names) MOST_VIEWS) (get (name_of_field key.Views) d)))
    (option_and_then (handle_in names) (get (name_of_field key.Projection) d))

abbrev pub quad_in : List NamedOp → Data → Option LayerUse
quad_in names d =
    option_and_then (λ space. option_and_then (λ i. option_map (Quad space i) (option_and_then (number_in most) (get (name_of_field key.Pose) d)))
    (option_and_then (sub_image_part names) (get (name_of_field key.Image) d))) (option_and_then (handle_in names) (get (name_of_field key.Quad) d))

-- a projection with its keys alone, or a quad with its own
abbrev pub layer_part : List NamedOp → Data → Option LayerUse
layer_part names d =
    if only_keys (key.Projection ∷ key.Views ∷ []) d then projection_in names d
    else (if only_keys (key.Quad ∷ key.Image ∷ key.Pose ∷ []) d then quad_in names d
    else None)
