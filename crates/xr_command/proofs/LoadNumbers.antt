-- The number of frames that a text tells, by what `parse` reads of it.
use Rattle.std.proofs.Common.{◌≡◌, ◌<◌, ◌≤◌, ◌^◌, ℕ, Bool, true, false, List, Some, None, refl, subst}
use Rattle.std.specs.Str.Parse.{IsNumeral, digits_value, without_leading_plus}
use Rattle.clap.specs.Values.{IsUnsignedIn}
use Rattle.clap.specs.ValueTests.{is_unsigned_in}
use Rattle.clap.specs.declared.builder.value_parser.ValueParser.TheVariants as parser
use Rattle.clap.proofs.ValueTestLemmas.{accepts-Accepts, Accepts-accepts}
use Rattle.xr_model.specs.command_line.Words.{frames_of}

-- a number of 1 to 200000
pub frames_told : (text : List ℕ) (n : ℕ) → IsNumeral 10 (without_leading_plus text) → digits_value 10 (without_leading_plus text) < 2 ^ 64
    → n ≡ digits_value 10 (without_leading_plus text) → 0 < n → n ≤ 200000 → frames_of text ≡ Some n
frames_told text n numeral fits is some few =
    let within : IsUnsignedIn 1 200000 text = (numeral, fits, subst (λ m. 1 ≤ m) is some, subst (λ m. m ≤ 200000) is few) in
    rw (Accepts-accepts false (parser.Unsigned 1 200000) text within, is) refl

-- any other text tells none
pub frames_untold : (text : List ℕ) → (IsUnsignedIn 1 200000 text → ⊥) → frames_of text ≡ None
frames_untold text not_in = by (is_unsigned_in 1 200000 text) refl
  where
    by : (b : Bool) → is_unsigned_in 1 200000 text ≡ b → frames_of text ≡ None
    by true e = absurd (not_in (accepts-Accepts false (parser.Unsigned 1 200000) text e))
    by false e = rw e refl
