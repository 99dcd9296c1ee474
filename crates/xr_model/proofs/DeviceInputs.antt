-- The lines of a device's inputs, printed, read back.
use Rattle.std.proofs.Common.{◌≡◌, ◌<◌, ◌-◌, ◌==◌, ◌^◌, ℕ, suc, ℤ, pos, negsuc, Bool, true, false, List, [], ◌∷◌, ◌++◌, Option, Some, None, refl, sym, ap, ◌∙◌, arith, append_assoc, true≢false}
use Rattle.std.specs.List.{list_all}
use Rattle.std.specs.Prelude.{◌&&◌, ◌||◌, not, nat_le, codes, decimal}
use Rattle.std.proofs.lemmas.Bool.Decides.{nat_tests}
use Rattle.xr_types.specs.declared.device.DeviceEvent.TheVariants as event
use Rattle.xr_types.specs.declared.input.Profile.{Profile}
use Rattle.xr_types.specs.declared.input.Profile.TheVariants as profile
use Rattle.xr_types.specs.declared.input.User.{User}
use Rattle.xr_types.specs.declared.input.User.TheVariants as user
use Rattle.xr_types.specs.Device.{checks, in_range}
use Rattle.xr_types.specs.InputNames.{input_name, row_of}
use Rattle.xr_types.specs.Printed.{user_path, all_users}
use Rattle.xr_types.specs.Words.{behind}
use Rattle.xr_types.proofs.RowSorts.{each_under, under_each}
use Rattle.xr_model.specs.device_text.DeviceText.{words_of, below_0, integer_of, input_at, input_among, event_of, event_by}
use Rattle.xr_model.specs.device_text.DeviceLines.{device_line}
use Rattle.xr_model.proofs.DeviceLines.{NoSpace, reads, integer_reads, number_reads, words_then, words_alone, no_space_by}
use Rattle.xr_model.proofs.Rows.{both_of, same_key, itself}

-- ---- profiles

pub profile_back : (who : User) (connected : Option Profile) → event_of (device_line (event.Profile who connected)) ≡ Some (event.Profile who connected)
profile_back user.Left None = refl
profile_back user.Left (Some profile.Simple) = refl
profile_back user.Left (Some profile.Touch) = refl
profile_back user.Left (Some profile.Vive) = refl
profile_back user.Left (Some profile.Xbox) = refl
profile_back user.Right None = refl
profile_back user.Right (Some profile.Simple) = refl
profile_back user.Right (Some profile.Touch) = refl
profile_back user.Right (Some profile.Vive) = refl
profile_back user.Right (Some profile.Xbox) = refl
profile_back user.Head None = refl
profile_back user.Head (Some profile.Simple) = refl
profile_back user.Head (Some profile.Touch) = refl
profile_back user.Head (Some profile.Vive) = refl
profile_back user.Head (Some profile.Xbox) = refl
profile_back user.Gamepad None = refl
profile_back user.Gamepad (Some profile.Simple) = refl
profile_back user.Gamepad (Some profile.Touch) = refl
profile_back user.Gamepad (Some profile.Vive) = refl
profile_back user.Gamepad (Some profile.Xbox) = refl
profile_back user.Treadmill None = refl
profile_back user.Treadmill (Some profile.Simple) = refl
profile_back user.Treadmill (Some profile.Touch) = refl
profile_back user.Treadmill (Some profile.Vive) = refl
profile_back user.Treadmill (Some profile.Xbox) = refl

-- ---- the word of an input

abbrev pub source_word : User → ℕ → List ℕ
source_word who row = (user_path who ++ codes "/input/") ++ input_name row

-- what stands behind a beginning of a text that begins so
behind_own : (p rest : List ℕ) → behind p (p ++ rest) ≡ Some rest
behind_own [] rest = refl
behind_own (b ∷ bs) rest = rw (itself b) (behind_own bs rest)

-- a row's name is its own, and has no space
abbrev is_own : ℕ → Option ℕ → Bool
is_own row None = false
is_own row (Some found) = found == row

abbrev is_good : ℕ → Bool
is_good row = (row == 0) || (is_own row (row_of (input_name row)) && list_all (λ b. not (b == 32)) (input_name row))

all_good : each_under is_good 41 ≡ true
all_good = refl

pub row_good : (row : ℕ) → nat_le 1 row ≡ true → nat_le row 40 ≡ true → (row_of (input_name row) ≡ Some row) × (list_all (λ b. not (b == 32)) (input_name row) ≡ true)
row_good row first last =
    let less : row < 41 = grind (arith, nat_tests) in
    let some : (row == 0) ≡ false = grind (arith, nat_tests) in
    parts (row == 0) some (under_each is_good 41 row all_good less)
  where
    own : (found : Option ℕ) → is_own row found ≡ true → found ≡ Some row
    own None is = absurd (true≢false (sym is))
    own (Some found) is = ap Some (same_key found row is)

    parts : (b : Bool) → b ≡ false → (b || (is_own row (row_of (input_name row)) && list_all (λ b. not (b == 32)) (input_name row))) ≡ true
        → (row_of (input_name row) ≡ Some row) × (list_all (λ b. not (b == 32)) (input_name row) ≡ true)
    parts true is good = absurd (true≢false is)
    parts false is good =
        let two = both_of (is_own row (row_of (input_name row))) (list_all (λ b. not (b == 32)) (input_name row)) good in
        (own (row_of (input_name row)) two.0, two.1)

own_input : (who : User) (row : ℕ) → row_of (input_name row) ≡ Some row → input_at (source_word who row) who ≡ Some (who, row)
own_input who row named =
    let split : source_word who row ≡ user_path who ++ (codes "/input/" ++ input_name row) = append_assoc (user_path who) (codes "/input/") (input_name row) in
    rw (split, behind_own (user_path who) (codes "/input/" ++ input_name row), named) refl

source_reads : (who : User) (row : ℕ) → row_of (input_name row) ≡ Some row → input_among (source_word who row) all_users ≡ Some (who, row)
source_reads user.Left row named = rw (own_input user.Left row named) refl
source_reads user.Right row named = rw (own_input user.Right row named) refl
source_reads user.Head row named = rw (own_input user.Head row named) refl
source_reads user.Gamepad row named = rw (own_input user.Gamepad row named) refl
source_reads user.Treadmill row named = rw (own_input user.Treadmill row named) refl

-- ---- its line

no_space_joined : (a b : List ℕ) → NoSpace a → NoSpace b → NoSpace (a ++ b)
no_space_joined [] b none more = more
no_space_joined (x ∷ xs) b none more = (none.0, no_space_joined xs b none.1 more)

no_space_source : (who : User) (row : ℕ) → list_all (λ b. not (b == 32)) (input_name row) ≡ true → NoSpace (source_word who row)
no_space_source who row none = no_space_joined (user_path who ++ codes "/input/") (input_name row) (front who) (no_space_by (input_name row) none)
  where
    front : (u : User) → NoSpace (user_path u ++ codes "/input/")
    front user.Left = no_space_by (user_path user.Left ++ codes "/input/") refl
    front user.Right = no_space_by (user_path user.Right ++ codes "/input/") refl
    front user.Head = no_space_by (user_path user.Head ++ codes "/input/") refl
    front user.Gamepad = no_space_by (user_path user.Gamepad ++ codes "/input/") refl
    front user.Treadmill = no_space_by (user_path user.Treadmill ++ codes "/input/") refl

pieces : (a b c d e f : List ℕ) → ((((a ++ b) ++ c) ++ d) ++ e) ++ f ≡ a ++ (((b ++ c) ++ d) ++ (e ++ f))
pieces a b c d e f = simp append_assoc

input_words : (who : User) (row : ℕ) (number : List ℕ) → NoSpace (source_word who row) → NoSpace number
    → words_of (((((codes "input " ++ user_path who) ++ codes "/input/") ++ input_name row) ++ codes " ") ++ number) ≡ codes "input" ∷ source_word who row ∷ number ∷ []
input_words who row number none plain =
    ap words_of (pieces (codes "input ") (user_path who) (codes "/input/") (input_name row) (codes " ") number)
    ∙ words_then (codes "input") (source_word who row ++ (codes " " ++ number)) (refl, (refl, (refl, (refl, (refl, tt)))))
    ∙ ap (λ (ws : List (List ℕ)). codes "input" ∷ ws) (words_then (source_word who row) number none
    ∙ ap (λ (ws : List (List ℕ)). source_word who row ∷ ws) (words_alone number plain))

-- a number below 0 reads back, and has no space
below_suc : (n : ℕ) → below_0 (suc n) ≡ Some (negsuc n)
below_suc n = let some : (suc n == 0) ≡ false = grind (arith, nat_tests) in let less : suc n - 1 ≡ n = omega arith in rw (some, less) refl

negative_reads : (n : ℕ) → suc n < 2 ^ 64 → integer_of (45 ∷ decimal (suc n)) ≡ Some (negsuc n)
negative_reads n small = rw (number_reads (suc n) small) (below_suc n)

-- an input's line
pub input_back : (who : User) (row : ℕ) (value : ℤ) → checks (event.Input who row value) ≡ true → event_by (words_of (device_line (event.Input who row value))) ≡ Some (event.Input who row value)
input_back who row value good = by value (both_of (nat_le 1 row && nat_le row 40) (in_range value (negsuc 32767) (pos 32768)) good).1
  where
    rows : (nat_le 1 row ≡ true) × (nat_le row 40 ≡ true)
    rows = both_of (nat_le 1 row) (nat_le row 40) (both_of (nat_le 1 row && nat_le row 40) (in_range value (negsuc 32767) (pos 32768)) good).0

    named : row_of (input_name row) ≡ Some row
    named = (row_good row rows.0 rows.1).0

    plain : NoSpace (source_word who row)
    plain = no_space_source who row (row_good row rows.0 rows.1).1

    by : (v : ℤ) → in_range v (negsuc 32767) (pos 32768) ≡ true → event_by (words_of (device_line (event.Input who row v))) ≡ Some (event.Input who row v)
    by (pos n) range =
        let small : n < 2 ^ 64 = grind (arith, nat_tests, range) in
        rw (input_words who row (decimal n) plain (reads n small).1, source_reads who row named, integer_reads n small) refl
    by (negsuc n) range =
        let small : suc n < 2 ^ 64 = grind (arith, nat_tests, range) in
        rw (input_words who row (45 ∷ decimal (suc n)) plain (refl, (reads (suc n) small).1), source_reads who row named, negative_reads n small) refl
