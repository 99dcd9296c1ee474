-- A device text tells no garbled event: a line that is none ends what it tells.
use Rattle.std.proofs.Common.{◌≡◌, ◌+◌, ℕ, ℤ, Bool, true, false, List, [], ◌∷◌, Option, Some, None, option_map, refl, sym, ap, subst, ◌∙◌}
use Rattle.std.specs.Prelude.{◌||◌, ◌==◌, nat_lt, nat_le, length, if◌then◌else◌, codes}
use Rattle.std.specs.List.{list_any}
use Rattle.std.proofs.lemmas.Option.{none-some, same_Some}
use Rattle.xr_types.specs.declared.calls.Actor.TheVariants as actor
use Rattle.xr_types.specs.declared.device.DeviceEvent.{DeviceEvent}
use Rattle.xr_types.specs.declared.device.DeviceEvent.TheVariants as event
use Rattle.xr_types.specs.declared.device.Wish.{Wish}
use Rattle.xr_types.specs.declared.input.Profile.{Profile}
use Rattle.xr_types.specs.declared.input.User.{User}
use Rattle.xr_types.specs.declared.spaces.Origin.{Origin}
use Rattle.xr_types.specs.declared.limits.TheConstants.{MOST_LINE, MOST_DEVICE}
use Rattle.xr_types.specs.Device.{checks}
use Rattle.xr_types.specs.Printed.{wish_name, all_wishes, origin_name, all_origins, user_path, all_users}
use Rattle.xr_types.specs.Words.{named}
use Rattle.xr_model.specs.device_text.DeviceText.{Line, lines_in, line_size, is_word, Meaning, skipped, tells, malformed, event_or_none, meaning_of, words_of, number_of, integer_of, grid_by, switch_of, connected_of, profile_by, input_among, input_by, most_pose, pose_by, event_by, if_checked, event_of, Ending, ends, garbled_at, DeviceStream, nothing_more, told_by, told_from, told_in}
use Rattle.xr_model.specs.machine.History.{calls_of}
use Rattle.xr_model.specs.runs.Lists.{events_in}
use Rattle.xr_model.specs.report.RunEnding.{is_garbled}
use Rattle.xr_model.specs.runs.Robin.{device_calls, last_event}
use Rattle.xr_serial.specs.Ran.{Ran}
use Rattle.xr_drive.specs.Top.{told_under}
use Rattle.xr_drive.specs.Run.{IsClean}
use Rattle.xr_drive.specs.TopLaws.{KeepsClean}
use Rattle.xr_drive.proofs.Status.{clean_front, clean_both}
use Rattle.xr_runs.specs.Runs.{settings_of, Gave}

-- ---- one line

abbrev IsCleanIfSome : Option DeviceEvent → Type 0
IsCleanIfSome None = Unit {0}
IsCleanIfSome (Some e) = is_garbled e ≡ false

grid_clean : (base period : Option ℤ) → IsCleanIfSome (grid_by base period)
grid_clean None period = tt
grid_clean (Some base) None = tt
grid_clean (Some base) (Some period) = refl

one_clean : (loss lost : Bool) → IsCleanIfSome (if loss then Some event.Loss else (if lost then Some event.Lost else None))
one_clean true lost = refl
one_clean false true = refl
one_clean false false = tt

two_clean : (clock wish stage mark await : Bool) (t : Option ℤ) (n : Option ℕ) (w : Option Wish) (s : Option Bool)
    → IsCleanIfSome (if clock then option_map (λ t. event.Clock t) t else (if wish then option_map (λ w. event.Wish w) w else (if stage then option_map (λ on. event.Stage on) s else (if mark then option_map (λ n. event.Mark n) n else (if await then option_map (λ n. event.Await n) n else None)))))
two_clean true wish stage mark await None n w s = tt
two_clean true wish stage mark await (Some t) n w s = refl
two_clean false true stage mark await t n None s = tt
two_clean false true stage mark await t n (Some w) s = refl
two_clean false false true mark await t n w None = tt
two_clean false false true mark await t n w (Some on) = refl
two_clean false false false true await t None w s = tt
two_clean false false false true await t (Some n) w s = refl
two_clean false false false false true t None w s = tt
two_clean false false false false true t (Some n) w s = refl
two_clean false false false false false t n w s = tt

profile_clean : (who : Option User) (profile : Option (Option Profile)) → IsCleanIfSome (profile_by who profile)
profile_clean None profile = tt
profile_clean (Some who) None = tt
profile_clean (Some who) (Some profile) = refl

input_clean : (source : Option (User × ℕ)) (value : Option ℤ) → IsCleanIfSome (input_by source value)
input_clean None value = tt
input_clean (Some source) None = tt
input_clean (Some source) (Some value) = refl

three_clean : (grid profile input : Bool) (base period : Option ℤ) (who : Option User) (connected : Option (Option Profile)) (source : Option (User × ℕ))
    → IsCleanIfSome (if grid then grid_by base period else (if profile then profile_by who connected else (if input then input_by source period else None)))
three_clean true profile input base period who connected source = grid_clean base period
three_clean false true input base period who connected source = profile_clean who connected
three_clean false false true base period who connected source = input_clean source period
three_clean false false false base period who connected source = tt

pose_clean : (o : Option Origin) (t : Option ℤ) (n : Option ℕ) → IsCleanIfSome (pose_by o t n)
pose_clean None t n = tt
pose_clean (Some o) None n = tt
pose_clean (Some o) (Some t) None = tt
pose_clean (Some o) (Some t) (Some n) = by (nat_le n most_pose)
  where
    by : (b : Bool) → IsCleanIfSome (if b then Some (event.Pose o t n) else None)
    by true = refl
    by false = tt

four_clean : (pose : Bool) (o : Option Origin) (t : Option ℤ) (n : Option ℕ) → IsCleanIfSome (if pose then pose_by o t n else None)
four_clean true o t n = pose_clean o t n
four_clean false o t n = tt

by_clean : (words : List (List ℕ)) → IsCleanIfSome (event_by words)
by_clean [] = tt
by_clean (word ∷ []) = one_clean (is_word word (codes "loss")) (is_word word (codes "lost"))
by_clean (word ∷ a ∷ []) = two_clean (is_word word (codes "clock")) (is_word word (codes "wish")) (is_word word (codes "stage")) (is_word word (codes "mark")) (is_word word (codes "await")) (integer_of a) (number_of a) (named wish_name all_wishes a) (switch_of a)
by_clean (word ∷ a ∷ b ∷ []) =
    three_clean (is_word word (codes "grid")) (is_word word (codes "profile")) (is_word word (codes "input")) (integer_of a) (integer_of b) (named user_path all_users a) (connected_of b) (input_among a all_users)
by_clean (word ∷ a ∷ b ∷ c ∷ []) = four_clean (is_word word (codes "pose")) (named origin_name all_origins a) (integer_of b) (number_of c)
by_clean (word ∷ a ∷ b ∷ c ∷ d ∷ ws) = tt

checked_clean : (o : Option DeviceEvent) → IsCleanIfSome o → IsCleanIfSome (if_checked o)
checked_clean None h = tt
checked_clean (Some e) h = by (checks e)
  where
    by : (checked : Bool) → IsCleanIfSome (if checked then Some e else None)
    by true = h
    by false = tt

abbrev IsCleanMeaning : Meaning → Type 0
IsCleanMeaning skipped = Unit {0}
IsCleanMeaning (tells e) = is_garbled e ≡ false
IsCleanMeaning malformed = Unit {0}

or_none : (o : Option DeviceEvent) → IsCleanIfSome o → IsCleanMeaning (event_or_none o)
or_none None h = tt
or_none (Some e) h = h

meaning_clean : (line : List ℕ) → IsCleanMeaning (meaning_of line)
meaning_clean [] = tt
meaning_clean (b ∷ bs) = by (b == 35)
  where
    by : (comment : Bool) → IsCleanMeaning (if comment then skipped else event_or_none (event_of (b ∷ bs)))
    by true = tt
    by false = or_none (event_of (b ∷ bs)) (checked_clean (event_by (words_of (b ∷ bs))) (by_clean (words_of (b ∷ bs))))

-- ---- a text

told_by_clean : (number : ℕ) (m : Meaning) (rest : DeviceStream) → IsCleanMeaning m → IsClean rest.events → IsClean (told_by number m rest).events
told_by_clean number skipped rest h clean = clean
told_by_clean number (tells e) rest h clean = rw h clean
told_by_clean number malformed rest h clean = refl

told_from_clean : (number used : ℕ) (ls : List Line) → IsClean (told_from number used ls).events
told_from_clean number used [] = refl
told_from_clean number used (l ∷ ls) =
    by (nat_lt MOST_LINE (length l.bytes) || nat_lt MOST_DEVICE (used + line_size l)) (told_by_clean number (meaning_of l.bytes) (told_from (number + 1) (used + line_size l) ls) (meaning_clean l.bytes) (told_from_clean (number + 1) (used + line_size l) ls))
  where
    by : (bad : Bool) → IsClean (told_by number (meaning_of l.bytes) (told_from (number + 1) (used + line_size l) ls)).events
        → IsClean (if bad then record { events = []; ending = garbled_at number } else told_by number (meaning_of l.bytes) (told_from (number + 1) (used + line_size l) ls)).events
    by true clean = refl
    by false clean = clean

-- what a device is known to give has no garbled event
pub told_clean : (bytes : List ℕ → Option (List ℕ)) (device : Option (List ℕ)) (told : DeviceStream) → told_under bytes device ≡ Some told → IsClean told.events
told_clean bytes None told is = ap (λ (t : DeviceStream). list_any is_garbled t.events) (sym (same_Some nothing_more told is))
told_clean bytes (Some name) told is = by (bytes name) is
  where
    by : (text : Option (List ℕ)) → option_map told_in text ≡ Some told → IsClean told.events
    by None is = absurd (none-some told is)
    by (Some text) is = subst (λ (t : DeviceStream). IsClean t.events) (same_Some (told_in text) told is) (told_from_clean 1 0 (lines_in text))

-- ---- a run

last_clean : (e : Ending) → ends ≡ e → IsClean (last_event (Some e))
last_clean e is = subst (λ (e : Ending). IsClean (last_event (Some e))) is refl

-- a device that is known to end at the end of its text does nothing that is garbled
pub calls_clean : (told : DeviceStream) (count : ℕ) (events : List DeviceEvent) (ending : Option Ending) → IsClean told.events → told.ending ≡ ends → Gave (Some told) count events ending → IsClean (device_calls events ending)
calls_clean told count events None clean end gave = clean_both events (event.Fault ∷ []) (clean_front events gave.0 (subst IsClean gave.1 clean)) refl
calls_clean told count events (Some e) clean end gave = clean_both events (last_event (Some e)) (subst IsClean gave.0 clean) (last_clean e (sym end ∙ gave.1))

pub run_clean : KeepsClean Ran
run_clean scenario told count lists clean end ran =
    let calls = calls_clean told count ran.events ran.ending clean end ran.gave in
    rw ran.made (clean_front (events_in (calls_of (settings_of scenario) actor.Device ran.history)) ran.device.0 (subst IsClean ran.device.1 calls))
