-- A line of a device's text, printed from its event, reads back as that event.
use Rattle.std.proofs.Common.{◌≡◌, pos, negsuc, true, false, Some, refl, sym, true≢false}
use Rattle.std.specs.List.{list_all}
use Rattle.std.specs.Prelude.{◌&&◌, not, nat_le, ◌==◌, codes}
use Rattle.xr_types.specs.declared.device.DeviceEvent.TheVariants as event
use Rattle.xr_types.specs.declared.device.Wish.TheVariants as wish
use Rattle.xr_types.specs.declared.input.User.TheVariants as user
use Rattle.xr_types.specs.declared.spaces.Origin.{Origin}
use Rattle.xr_types.specs.declared.spaces.Origin.TheVariants as origin
use Rattle.xr_types.specs.Device.{checks, is_time, is_hand, in_range}
use Rattle.xr_types.specs.Printed.{origin_name, all_origins}
use Rattle.xr_types.specs.Words.{named}
use Rattle.xr_model.specs.device_text.DeviceText.{words_of, event_by, if_checked}
use Rattle.xr_model.specs.device_text.DeviceLines.{device_line}
use Rattle.xr_model.specs.laws.DeviceLaws.{LinesReadBack}
use Rattle.xr_model.proofs.DeviceInputs.{profile_back, input_back}
use Rattle.xr_model.proofs.DeviceLines.{integer_reads, number_reads, word_number, grid_words, pose_back, checked, small_time, small_period, small_mark}
use Rattle.xr_model.proofs.Rows.{both_of}

pub lines_read_back : LinesReadBack
lines_read_back (event.Clock (pos n)) line good =
    let small = small_time n good in
    checked (event.Clock (pos n)) (event_by (words_of (device_line (event.Clock (pos n))))) (rw (word_number (codes "clock") n (refl, (refl, (refl, (refl, (refl, tt))))) small, integer_reads n small) refl) good
lines_read_back (event.Clock (negsuc n)) line good = absurd (true≢false (sym good))
lines_read_back (event.Grid (pos base) (pos period)) line good =
    let parts = both_of (is_time (pos base)) (in_range (pos period) (pos 1) (pos 1000000000)) good in
    let small = small_time base parts.0 in
    let few = small_period period parts.1 in
    checked (event.Grid (pos base) (pos period)) (event_by (words_of (device_line (event.Grid (pos base) (pos period))))) (rw (grid_words base period small few, integer_reads base small, integer_reads period few) refl) good
lines_read_back (event.Grid (negsuc base) period) line good = absurd (true≢false (sym good))
lines_read_back (event.Grid (pos base) (negsuc period)) line good = absurd (true≢false (sym (both_of (is_time (pos base)) false good).1))
lines_read_back (event.Mark n) line good =
    let small = small_mark n good in
    checked (event.Mark n) (event_by (words_of (device_line (event.Mark n)))) (rw (word_number (codes "mark") n (refl, (refl, (refl, (refl, tt)))) small, number_reads n small) refl) good
lines_read_back (event.Await n) line good =
    let small = small_mark n good in
    checked (event.Await n) (event_by (words_of (device_line (event.Await n)))) (rw (word_number (codes "await") n (refl, (refl, (refl, (refl, (refl, tt))))) small, number_reads n small) refl) good
lines_read_back (event.Wish wish.Rest) line good = refl
lines_read_back (event.Wish wish.Ready) line good = refl
lines_read_back (event.Wish wish.Visible) line good = refl
lines_read_back (event.Wish wish.Focused) line good = refl
lines_read_back (event.Stage true) line good = refl
lines_read_back (event.Stage false) line good = refl
lines_read_back (event.Pose o (pos time) pose) line good = by o (both_of (is_hand o) (is_time (pos time)) (both_of (is_hand o && is_time (pos time)) (nat_le 1 pose) good).0).0 good
  where
    back : (o : Origin) → list_all (λ b. not (b == 32)) (origin_name o) ≡ true → named origin_name all_origins (origin_name o) ≡ Some o → checks (event.Pose o (pos time) pose) ≡ true
        → if_checked (event_by (words_of (device_line (event.Pose o (pos time) pose)))) ≡ Some (event.Pose o (pos time) pose)
    back o none own good =
        checked (event.Pose o (pos time) pose) (event_by (words_of (device_line (event.Pose o (pos time) pose))))
        (pose_back o time pose none own line (both_of (is_hand o) (is_time (pos time)) (both_of (is_hand o && is_time (pos time)) (nat_le 1 pose) good).0).1) good

    by : (o : Origin) → is_hand o ≡ true → checks (event.Pose o (pos time) pose) ≡ true → if_checked (event_by (words_of (device_line (event.Pose o (pos time) pose)))) ≡ Some (event.Pose o (pos time) pose)
    by origin.View hand good = back origin.View refl refl good
    by origin.Local hand good = back origin.Local refl refl good
    by origin.Stage hand good = back origin.Stage refl refl good
    by (origin.Grip user.Left) hand good = back (origin.Grip user.Left) refl refl good
    by (origin.Grip user.Right) hand good = back (origin.Grip user.Right) refl refl good
    by (origin.Aim user.Left) hand good = back (origin.Aim user.Left) refl refl good
    by (origin.Aim user.Right) hand good = back (origin.Aim user.Right) refl refl good
    by (origin.Grip _) hand good = absurd (true≢false (sym hand))
    by (origin.Aim _) hand good = absurd (true≢false (sym hand))
lines_read_back (event.Pose o (negsuc time) pose) line good = absurd (true≢false (sym (both_of (is_hand o) false (both_of (is_hand o && false) (nat_le 1 pose) good).0).1))
lines_read_back event.Loss line good = refl
lines_read_back event.Lost line good = refl
lines_read_back (event.Profile who profile) line good = profile_back who profile
lines_read_back (event.Input who row value) line good = checked (event.Input who row value) (event_by (words_of (device_line (event.Input who row value)))) (input_back who row value good) good
lines_read_back event.Fault line good = absurd (true≢false (sym line))
lines_read_back (event.Garbled number) line good = absurd (true≢false (sym line))
