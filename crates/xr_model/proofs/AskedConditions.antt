-- What refuses calls by their versions, systems, times and buffers.
use Rattle.std.proofs.Common.{arith, ◌≡◌, ◌+◌, ◌-◌, ◌==◌, ◌&&◌, ◌||◌, not, suc, zero, ℕ, ℤ, pos, Bool, true, false, List, [], ◌∷◌, length, slice_get, Option, Some, None, refl, ap, ◌∙◌}
use Rattle.std.specs.Prelude.{int_le, int_lt, is_none, nat_le, nat_lt}
use Rattle.std.proofs.lemmas.Bool.Decides.{nat_tests}
use Rattle.xr_types.specs.declared.session.Form.{Form}
use Rattle.xr_types.specs.declared.session.Form.TheVariants.{Head, Hand}
use Rattle.xr_types.specs.declared.calls.Gives.TheVariants.{Number}
use Rattle.xr_model.specs.machine.Paths.{size_at, text_at}
use Rattle.xr_model.specs.machine.Rules.Instance.{is_head}
use Rattle.xr_model.specs.laws.AskedLaws.{InstancesAreOfOneVersion, is_for_hands, SessionsAreOfTheOneSystem, LocationsAreAtTimes, bytes_at, TextsFitTheirBuffers}

-- ---- versions and systems

version_is : (major minor : ℕ) → not (major == 1) || not (minor == 0) ≡ nat_lt major 1 || (nat_lt 1 major || nat_lt 0 minor)
version_is major minor = by (major == 1) (nat_lt major 1) (nat_lt 1 major) (not (minor == 0)) (nat_lt 0 minor) (grind (arith, nat_tests))
    (grind (arith, nat_tests)) (some minor)
  where
    some : (n : ℕ) → not (n == 0) ≡ nat_lt 0 n
    some n = grind (arith, nat_tests)

    by : (one less more c d : Bool) → not one ≡ less || more → (less && more ≡ false) → c ≡ d → not one || c ≡ less || (more || d)
    by true true more c d is both same = cc
    by true false true c d is both same = cc
    by true false false c d is both same = same
    by false true more c d is both same = refl
    by false false true c d is both same = refl
    by false false false c d is both same = cc

pub instances_are_of_one_version : InstancesAreOfOneVersion
instances_are_of_one_version s reads e major minor = version_is major minor

same_number : (a b : ℕ) → Number a ≡ Number b → a ≡ b
same_number a b is = cc

pub sessions_are_of_the_one_system : SessionsAreOfTheOneSystem
sessions_are_of_the_one_system s t reads e = record {
  form = λ instance form. of_form form;
  one = λ instance form. (1, refl);
  taken = λ instance other system asked form is. ap (λ (n : ℕ). not (asked == n)) (same_number 1 system is);
}
  where
    of_form : (form : Form) → not (is_head form) ∷ [] ≡ is_for_hands form ∷ []
    of_form Head = refl
    of_form Hand = refl

-- ---- times

time_is : (time : ℤ) → int_le time (pos 0) ≡ not (int_lt (pos 0) time)
time_is time = grind arith

pub locations_are_at_times : LocationsAreAtTimes
locations_are_at_times s reads e space base time = ap (λ (b : Bool). b ∷ []) (time_is time)

-- ---- atoms and buffers

known_there : (atoms : List (List ℕ)) (k : ℕ) → is_none (slice_get atoms k) ≡ nat_le (length atoms) k
known_there [] k = least k
  where
    least : (k : ℕ) → true ≡ nat_le 0 k
    least k = grind (arith, nat_tests)
known_there (a ∷ atoms) zero = none (length atoms)
  where
    none : (n : ℕ) → false ≡ nat_le (suc n) 0
    none n = grind (arith, nat_tests)
known_there (a ∷ atoms) (suc k) = known_there atoms k ∙ more (length atoms) k
  where
    more : (n k : ℕ) → nat_le n k ≡ nat_le (suc n) (suc k)
    more n k = grind (arith, nat_tests)

atom_is : (atoms : List (List ℕ)) (k : ℕ) → is_none (text_at atoms k) ≡ nat_lt k 1 || nat_lt (length atoms) k
atom_is atoms zero = refl
atom_is atoms (suc k) = ap is_none (at atoms k) ∙ known_there atoms k ∙ more (length atoms) k
  where
    some : (k : ℕ) → (suc k == 0) ≡ false
    some k = grind (arith, nat_tests)

    at : (atoms : List (List ℕ)) (k : ℕ) → text_at atoms (suc k) ≡ slice_get atoms k
    at atoms k = let less : suc k - 1 ≡ k = omega arith in rw (some k) (ap (λ (n : ℕ). slice_get atoms n) less)

    more : (n k : ℕ) → nat_le n k ≡ nat_lt (suc k) 1 || nat_lt n (suc k)
    more n k = grind (arith, nat_tests)

fits_is : (found : Option (List ℕ)) (capacity : ℕ) → nat_lt 0 capacity && nat_lt capacity (size_at found)
    ≡ nat_le 1 capacity && nat_le capacity (bytes_at found)
fits_is None capacity = by capacity
  where
    by : (c : ℕ) → nat_lt 0 c && nat_lt c 0 ≡ nat_le 1 c && nat_le c 0
    by c = grind (arith, nat_tests)
fits_is (Some text) capacity = by (length text) capacity
  where
    by : (n c : ℕ) → nat_lt 0 c && nat_lt c (n + 1) ≡ nat_le 1 c && nat_le c n
    by n c = grind (arith, nat_tests)

two_are : (a b c d : Bool) → a ≡ c → b ≡ d → a ∷ b ∷ [] ≡ c ∷ d ∷ []
two_are a b c d first second = cc

pub texts_fit_their_buffers : TextsFitTheirBuffers
texts_fit_their_buffers s reads e instance path capacity = two_are _ _ _ _ (atom_is s.atoms path) (fits_is (text_at s.atoms path) capacity)
