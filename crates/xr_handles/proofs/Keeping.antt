-- What a call on handles keeps: each live one was given, and stands in one place.
use Rattle.std.proofs.Common.{◌≡◌, ◌≢◌, ℕ, suc, false, arith}
use Rattle.xr_types.specs.declared.handles.Kind.{Kind}
use Rattle.xr_model.specs.machine.Handles.{Handles, was_given, with_handle, without, without_alone}
use Rattle.xr_model.proofs.Destroying.{known_put, known_without, known_alone}
use Rattle.xr_model.proofs.StandOnce.{once_put, once_without, once_alone}
use Rattle.xr_handles.specs.HandleRows.{IsKept}
use Rattle.xr_handles.specs.Numbers.{counted}
use Rattle.xr_handles.proofs.Numbers.{new_number}

some : (n : ℕ) → suc n ≢ 0
some n e = omega (arith, e)

-- the number behind all that were counted is given
pub put_kept : {h : Handles} (kind : Kind) (parent count : ℕ) → h.given ≡ counted count → IsKept h → IsKept (with_handle h kind parent (suc count))
put_kept {h} kind parent count given kept =
    let new : was_given h (suc count) ≡ false = rw given (new_number count (suc count) (omega arith)) in
    record { known = known_put h kind parent (suc count) kept.known; once = once_put h kind parent (suc count) (some count, new) kept.known kept.once }

pub without_kept : {h : Handles} (handle : ℕ) → IsKept h → IsKept (without h handle)
without_kept {h} handle kept = record { known = known_without h handle kept.known; once = once_without h handle kept.once }

pub alone_kept : {h : Handles} (kind : Kind) (handle : ℕ) → IsKept h → IsKept (without_alone h kind handle)
alone_kept {h} kind handle kept = record { known = known_alone h kind handle kept.known; once = once_alone h kind handle kept.once }
