-- The lines of a text are the text, one behind the other.
use Rattle.std.proofs.Common.{◌≡◌, ◌==◌, ℕ, Bool, true, false, List, [], ◌∷◌, ◌++◌, refl, sym, ap, subst, ◌∙◌, true≢false}
use Rattle.std.specs.Prelude.{if◌then◌else◌}
use Rattle.std.specs.List.{flat_map}
use Rattle.xr_model.specs.device_text.DeviceText.{Line, in_front, lines_in}
use Rattle.xr_model.specs.laws.LineLaws.{bytes_of, IsOneLine, AreItsLines, LinesAreTheText}
use Rattle.xr_model.proofs.Rows.{itself, same_key}
use Rattle.xr_model.proofs.Cuts.{same_first, same_others}
use Rattle.xr_model.proofs.FirstMalformed.{first_line, other_lines, no_lines}

abbrev AllOne : List Line → Type 0
AllOne ls = (front : List Line) (l : Line) (behind : List Line) → ls ≡ front ++ l ∷ behind → IsOneLine l

abbrev AllEnded : List Line → Type 0
AllEnded ls = (front : List Line) (l next : Line) (behind : List Line) → ls ≡ front ++ l ∷ next ∷ behind → l.closed ≡ true

no_bytes : (b : ℕ) (bs : List ℕ) → b ∷ bs ≡ [] → ⊥
no_bytes b bs e = cc

no_cut : (front behind : List ℕ) → [] ≡ front ++ 10 ∷ behind → ⊥
no_cut [] behind e = cc
no_cut (b ∷ front) behind e = cc

-- ---- each is one line

one_more : (l : Line) (ls : List Line) → IsOneLine l → AllOne ls → AllOne (l ∷ ls)
one_more l ls one more [] k behind e = subst (λ x. IsOneLine x) (first_line l k ls behind e) one
one_more l ls one more (h ∷ front) k behind e = more front k behind (other_lines l h ls (front ++ k ∷ behind) e)

one_less : (l : Line) (ls : List Line) → AllOne (l ∷ ls) → AllOne ls
one_less l ls all front k behind e = all (l ∷ front) k behind (ap (λ x. l ∷ x) e)

-- no line feed comes before others that have none
free_more : (b : ℕ) (bytes : List ℕ) → (b == 10) ≡ false → ((front behind : List ℕ) → bytes ≡ front ++ 10 ∷ behind → ⊥)
    → (front behind : List ℕ) → b ∷ bytes ≡ front ++ 10 ∷ behind → ⊥
free_more b bytes other free [] behind e = true≢false (sym (itself 10) ∙ ap (λ (n : ℕ). n == 10) (sym (same_first b 10 bytes behind e)) ∙ other)
free_more b bytes other free (c ∷ front) behind e = free front behind (same_others b c bytes (front ++ 10 ∷ behind) e)

one_in_front : (b : ℕ) (ls : List Line) → (b == 10) ≡ false → AllOne ls → AllOne (in_front b ls)
one_in_front b [] other all =
    one_more (record { bytes = b ∷ []; closed = false }) []
    (record { one = free_more b [] other no_cut; some = λ unended empty. no_bytes b [] empty }) (λ front l behind e. absurd (no_lines front l behind e))
one_in_front b (l ∷ ls) other all =
    let own = all [] l ls refl in
    one_more (record l { bytes = b ∷ l.bytes }) ls
    (record { one = free_more b l.bytes other own.one; some = λ unended empty. no_bytes b l.bytes empty }) (one_less l ls all)

-- ---- all but the last are ended

ended_more : (l : Line) (ls : List Line) → l.closed ≡ true → AllEnded ls → AllEnded (l ∷ ls)
ended_more l ls closed more [] k next behind e = sym (ap (λ (x : Line). x.closed) (first_line l k ls (next ∷ behind) e)) ∙ closed
ended_more l ls closed more (h ∷ front) k next behind e = more front k next behind (other_lines l h ls (front ++ k ∷ next ∷ behind) e)

-- only the bytes of the first line are others
ended_same : (l m : Line) (ls : List Line) → m.closed ≡ l.closed → AllEnded (l ∷ ls) → AllEnded (m ∷ ls)
ended_same l m ls same all [] k next behind e =
    sym (ap (λ (x : Line). x.closed) (first_line m k ls (next ∷ behind) e)) ∙ same
    ∙ all [] l next behind (ap (λ x. l ∷ x) (other_lines m k ls (next ∷ behind) e))
ended_same l m ls same all (h ∷ front) k next behind e = all (l ∷ front) k next behind (ap (λ x. l ∷ x) (other_lines m h ls (front ++ k ∷ next ∷ behind) e))

no_two : (l k next : Line) (behind : List Line) → l ∷ [] ≡ k ∷ next ∷ behind → ⊥
no_two l k next behind e = cc

ended_alone : (l : Line) → AllEnded (l ∷ [])
ended_alone l [] k next behind e = absurd (no_two l k next behind e)
ended_alone l (h ∷ front) k next behind e = absurd (no_lines front k (next ∷ behind) (other_lines l h [] (front ++ k ∷ next ∷ behind) e))

ended_in_front : (b : ℕ) (ls : List Line) → AllEnded ls → AllEnded (in_front b ls)
ended_in_front b [] all = ended_alone (record { bytes = b ∷ []; closed = false })
ended_in_front b (l ∷ ls) all = ended_same l (record l { bytes = b ∷ l.bytes }) ls refl all

-- ---- the text

whole_in_front : (b : ℕ) (ls : List Line) (bs : List ℕ) → flat_map bytes_of ls ≡ bs → flat_map bytes_of (in_front b ls) ≡ b ∷ bs
whole_in_front b [] bs whole = ap (λ x. b ∷ x) whole
whole_in_front b (l ∷ ls) bs whole = ap (λ x. b ∷ x) whole

pub lines_are_the_text : LinesAreTheText
lines_are_the_text [] = record {
  whole = refl;
  each = λ front l behind e. absurd (no_lines front l behind e);
  ended = λ front l next behind e. absurd (no_lines front l (next ∷ behind) e);
}
lines_are_the_text (b ∷ bs) = by (b == 10) refl (lines_are_the_text bs)
  where
    by : (feed : Bool) → (b == 10) ≡ feed → AreItsLines bs (lines_in bs)
        → AreItsLines (b ∷ bs) (if feed then record { bytes = []; closed = true } ∷ lines_in bs else in_front b (lines_in bs))
    by true is more = record {
      whole = ap (λ x. 10 ∷ x) more.whole ∙ ap (λ x. x ∷ bs) (sym (same_key b 10 is));
      each = one_more (record { bytes = []; closed = true }) (lines_in bs)
          (record { one = no_cut; some = λ unended empty. true≢false unended }) more.each;
      ended = ended_more (record { bytes = []; closed = true }) (lines_in bs) refl more.ended;
    }
    by false is more = record {
      whole = whole_in_front b (lines_in bs) bs more.whole;
      each = one_in_front b (lines_in bs) is more.each;
      ended = ended_in_front b (lines_in bs) more.ended;
    }
