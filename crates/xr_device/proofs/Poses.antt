-- What the parts of a line of a pose make of it.
use Rattle.std.proofs.Common.{◌≡◌, ◌&&◌, ℕ, ℤ, pos, Bool, true, false, nat_le, Option, Some, None, refl}
use Rattle.std.specs.Prelude.{if◌then◌else◌}
use Rattle.xr_types.specs.declared.device.DeviceEvent.TheVariants as event
use Rattle.xr_types.specs.declared.spaces.Origin.{Origin}
use Rattle.xr_types.specs.Device.{is_hand, is_time}
use Rattle.xr_model.specs.device_text.DeviceText.{pose_by, if_checked, most_pose}
use Rattle.xr_device.specs.inside.Said.{ranged, whole}

and_false : (b : Bool) → b && false ≡ false
and_false true = refl
and_false false = refl

-- a time that is none makes no event
pub no_time : (o : Option Origin) (t : Option ℤ) (n : Option ℕ) → whole (pos 0) (pos 4611686018427387903) t ≡ None → if_checked (pose_by o t n) ≡ None
no_time None t n none = refl
no_time (Some o) None n none = refl
no_time (Some o) (Some x) None none = refl
no_time (Some o) (Some x) (Some m) none = by (is_time x) refl (nat_le m most_pose) none
  where
    by : (b : Bool) → is_time x ≡ b → (c : Bool) → (if b then Some x else None) ≡ None → if_checked (if c then Some (event.Pose o x m) else None) ≡ None
    by true e c none = cc
    by false e false none = refl
    by false e true none = rw (e, and_false (is_hand o)) refl

-- nor does a pose that is none
pub no_pose : (o : Option Origin) (t : Option ℤ) (n : Option ℕ) → ranged 1 most_pose n ≡ None → if_checked (pose_by o t n) ≡ None
no_pose None t n none = refl
no_pose (Some o) None n none = refl
no_pose (Some o) (Some x) None none = refl
no_pose (Some o) (Some x) (Some m) none = by (nat_le 1 m) refl (nat_le m most_pose) none
  where
    by : (b : Bool) → nat_le 1 m ≡ b → (c : Bool) → (if b && c then Some m else None) ≡ None → if_checked (if c then Some (event.Pose o x m) else None) ≡ None
    by true e true none = cc
    by false e true none = rw (e, and_false (is_hand o && is_time x)) refl
    by b e false none = refl

-- all that is read makes the event, if it checks
pub read : (o : Origin) (t : Option ℤ) (n : Option ℕ) (x : ℤ) (m : ℕ) → whole (pos 0) (pos 4611686018427387903) t ≡ Some x → ranged 1 most_pose n ≡ Some m
    → if_checked (pose_by (Some o) t n) ≡ if_checked (Some (event.Pose o x m))
read o None n x m time pose = cc
read o (Some y) None x m time pose = cc
read o (Some y) (Some k) x m time pose = by (is_time y) (nat_le 1 k) (nat_le k most_pose) refl time pose
  where
    same_time : (a b : ℤ) → Some a ≡ Some b → a ≡ b
    same_time a b e = cc

    same_pose : (a b : ℕ) → Some a ≡ Some b → a ≡ b
    same_pose a b e = cc

    by : (a b c : Bool) → nat_le k most_pose ≡ c → (if a then Some y else None) ≡ Some x → (if b && c then Some k else None) ≡ Some m
        → if_checked (if c then Some (event.Pose o y k) else None) ≡ if_checked (Some (event.Pose o x m))
    by true true true e time pose = rw (same_time y x time, same_pose k m pose) refl
    by false b c e time pose = cc
    by true false c e time pose = cc
    by true true false e time pose = cc

pub ruleset poses = (no_time, no_pose, read)
