-- What the parts of a line of an input make of it.
use Rattle.std.proofs.Common.{◌≡◌, ◌&&◌, ℕ, ℤ, pos, negsuc, Bool, true, false, nat_le, Option, Some, None, refl}
use Rattle.std.specs.Prelude.{if◌then◌else◌}
use Rattle.xr_types.specs.declared.device.DeviceEvent.TheVariants as event
use Rattle.xr_types.specs.declared.input.User.{User}
use Rattle.xr_types.specs.declared.limits.TheConstants.{MOST_ROW}
use Rattle.xr_types.specs.Device.{in_range}
use Rattle.xr_model.specs.device_text.DeviceText.{input_by, if_checked}
use Rattle.xr_device.specs.inside.Said.{whole}

and_false : (b : Bool) → b && false ≡ false
and_false true = refl
and_false false = refl

-- a value that is none makes no event
pub no_value : (source : Option (User × ℕ)) (v : Option ℤ) → whole (negsuc 32767) (pos 32768) v ≡ None → if_checked (input_by source v) ≡ None
no_value None v none = refl
no_value (Some s) None none = refl
no_value (Some s) (Some x) none = by (in_range x (negsuc 32767) (pos 32768)) refl none
  where
    by : (b : Bool) → in_range x (negsuc 32767) (pos 32768) ≡ b → (if b then Some x else None) ≡ None → if_checked (Some (event.Input s.0 s.1 x)) ≡ None
    by true e none = cc
    by false e none = rw (e, and_false (nat_le 1 s.1 && nat_le s.1 MOST_ROW)) refl

-- all that is read makes the event, if it checks
pub read_value : (who : User) (row : ℕ) (v : Option ℤ) (x : ℤ) → whole (negsuc 32767) (pos 32768) v ≡ Some x
    → if_checked (input_by (Some (who, row)) v) ≡ if_checked (Some (event.Input who row x))
read_value who row None x value = cc
read_value who row (Some y) x value = by (in_range y (negsuc 32767) (pos 32768)) value
  where
    same : (a b : ℤ) → Some a ≡ Some b → a ≡ b
    same a b e = cc

    by : (b : Bool) → (if b then Some y else None) ≡ Some x → if_checked (Some (event.Input who row y)) ≡ if_checked (Some (event.Input who row x))
    by true value = rw (same y x value) refl
    by false value = cc

pub ruleset inputs = (no_value, read_value)
