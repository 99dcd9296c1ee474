-- The stamp of an image is found behind the places where the image isn't.
use Rattle.std.proofs.Common.{◌≡◌, ◌<◌, ◌+◌, ℕ, zero, suc, false, List, [], ◌∷◌, drop, length, refl, sym, ap, ◌∙◌, arith}
use Rattle.std.specs.Prelude.{slice_index_or}
use Rattle.std.proofs.lemmas.List.{drop_more}
use Rattle.xr_types.specs.declared.frames.Image.{Image}
use Rattle.xr_model.specs.machine.Images.{is_image, stamp_among}

-- without stamps there is none
none_among : (images : List Image) (i : Image) → stamp_among images [] i ≡ 0
none_among [] i = refl
none_among (j ∷ images) i = refl

-- one place on
first_passed : (j : Image) (images : List Image) (stamps : List ℕ) (i : Image) → is_image i j ≡ false → stamp_among (j ∷ images) stamps i ≡ stamp_among images (drop 1 stamps) i
first_passed j images [] i other = sym (none_among images i)
first_passed j images (n ∷ stamps) i other = rw other refl

-- one stamp more
one_more : (n : ℕ) (stamps : List ℕ) → drop 1 (drop n stamps) ≡ drop (suc n) stamps
one_more zero stamps = refl
one_more (suc n) [] = refl
one_more (suc n) (x ∷ stamps) = one_more n stamps

-- one more, written in two ways
after : (n : ℕ) → suc n ≡ n + 1
after n = omega arith

-- the place isn't that of the image
pub passed_over : (images : List Image) (stamps : List ℕ) (i : Image) (n : ℕ) → n < length images → is_image i (slice_index_or images n (record { place = 0; index = 0 })) ≡ false
    → stamp_among (drop n images) (drop n stamps) i ≡ stamp_among (drop (n + 1) images) (drop (n + 1) stamps) i
passed_over images stamps i n less other =
    ap (λ (js : List Image). stamp_among js (drop n stamps) i) (drop_more images n (record { place = 0; index = 0 }) less)
    ∙ first_passed (slice_index_or images n (record { place = 0; index = 0 })) (drop (n + 1) images) (drop n stamps) i other
    ∙ ap (λ (ns : List ℕ). stamp_among (drop (n + 1) images) ns i) (one_more n stamps ∙ ap (λ (k : ℕ). drop k stamps) (after n))
