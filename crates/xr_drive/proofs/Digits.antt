-- How long the parts of a line are.
use Rattle.std.proofs.Common.{◌≤◌, ◌<◌, ◌^◌, ℕ, length, arith}
use Rattle.std.specs.Prelude.{decimal}
use Rattle.std.proofs.lemmas.Fmt.{length-decimal-le}
use Rattle.xr_types.specs.declared.fields.FieldName.{FieldName}
use Rattle.xr_types.specs.declared.fields.FieldName.TheVariants as field
use Rattle.xr_types.specs.Field.{name_of_field}

-- the longest names are those of an action's user paths and of a projection
pub short_part : (key : FieldName) → length (name_of_field key) ≤ 10
short_part field.Version = omega arith
short_part field.Scripts = omega arith
short_part field.Op = omega arith
short_part field.Major = omega arith
short_part field.Minor = omega arith
short_part field.As = omega arith
short_part field.Instance = omega arith
short_part field.Form = omega arith
short_part field.Text = omega arith
short_part field.Path = omega arith
short_part field.Capacity = omega arith
short_part field.System = omega arith
short_part field.Session = omega arith
short_part field.View = omega arith
short_part field.Mark = omega arith
short_part field.Value = omega arith
short_part field.Name = omega arith
short_part field.Localized = omega arith
short_part field.Priority = omega arith
short_part field.Set = omega arith
short_part field.ActionType = omega arith
short_part field.Subactions = omega arith
short_part field.Action = omega arith
short_part field.Profile = omega arith
short_part field.Bindings = omega arith
short_part field.Sets = omega arith
short_part field.Active = omega arith
short_part field.Sub = omega arith
short_part field.Kind = omega arith
short_part field.Offset = omega arith
short_part field.Space = omega arith
short_part field.Base = omega arith
short_part field.Time = omega arith
short_part field.Format = omega arith
short_part field.Width = omega arith
short_part field.Height = omega arith
short_part field.Static = omega arith
short_part field.Chain = omega arith
short_part field.Timeout = omega arith
short_part field.Stamp = omega arith
short_part field.Blend = omega arith
short_part field.Layers = omega arith
short_part field.Projection = omega arith
short_part field.Views = omega arith
short_part field.Quad = omega arith
short_part field.Image = omega arith
short_part field.Pose = omega arith

pub few_digits : (n : ℕ) → n < 2 ^ 64 → length (decimal n) ≤ 20
few_digits n h = length-decimal-le 20 n (omega arith) (omega (arith, h)) h
