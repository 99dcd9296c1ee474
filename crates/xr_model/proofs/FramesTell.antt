-- The line of a frame tells the frame: its words are its numbers, its layers and its place.
use Rattle.std.proofs.Common.{arith, ◌≡◌, ℕ, List, [], ◌∷◌, ◌++◌, map, length, refl, sym, ap, ◌∙◌}
use Rattle.std.specs.Prelude.{codes, decimal}
use Rattle.std.specs.Fmt.{signed_decimal}
use Rattle.std.proofs.lemmas.List.{append_assoc, append_cancel_left, append_cancel_right}
use Rattle.std.proofs.lemmas.Fmt.{decimal_injective}
use Rattle.xr_types.specs.declared.calls.Reply.{Reply}
use Rattle.xr_types.specs.declared.frames.ShownLayer.{ShownLayer}
use Rattle.xr_types.specs.declared.frames.ShownLayer.TheVariants as layer
use Rattle.xr_types.specs.declared.frames.Shown.{Shown}
use Rattle.xr_model.specs.scenario.InRange.{Each}
use Rattle.xr_model.specs.report.ReportLines.{layer_text, layers_text}
use Rattle.xr_model.specs.laws.ReportLaws.{IsLayerPrintable, FrameLinesTellTheFrame}
use Rattle.xr_model.proofs.Cuts.{Free, free_both, cut, same_first, same_others, decimal_free}
use Rattle.xr_model.proofs.ValuesTell.{follow, AllFree, SameWords, words_tell, number_word, signed_word, same_signed}

-- ---- layers

-- a layer's word
abbrev layer_word : ShownLayer → List ℕ
layer_word (layer.Projection left right) = codes "projection:" ++ decimal left ++ codes "," ++ decimal right
layer_word (layer.Quad stamp) = codes "quad:" ++ decimal stamp

word_is : (l : ShownLayer) → layer_text l ≡ 32 ∷ layer_word l
word_is (layer.Projection left right) = refl
word_is (layer.Quad stamp) = refl

word_free : (l : ShownLayer) → Free 32 (layer_word l)
word_free (layer.Projection left right) =
    free_both 32 (decimal left ++ codes ",") (decimal right) (free_both 32 (decimal left) (codes ",") (number_word left) refl) (number_word right)
word_free (layer.Quad stamp) = number_word stamp

words_free : (ls : List ShownLayer) (p : List ℕ) → Free 32 p → AllFree (map layer_word ls ++ p ∷ [])
words_free [] p free = (free, tt)
words_free (l ∷ ls) p free = (word_free l, words_free ls p free)

pieces : (word later place : List ℕ) → ((word ++ later) ++ place) ++ 32 ∷ [] ≡ word ++ ((later ++ place) ++ 32 ∷ [])
pieces word later place = simp append_assoc refl

layers_follow : (ls : List ShownLayer) (p : List ℕ) → (layers_text ls ++ 32 ∷ p) ++ 32 ∷ [] ≡ 32 ∷ follow (map layer_word ls ++ p ∷ [])
layers_follow [] p = refl
layers_follow (l ∷ ls) p =
    ap (λ w. ((w ++ layers_text ls) ++ 32 ∷ p) ++ 32 ∷ []) (word_is l)
    ∙ ap (λ x. 32 ∷ x) (pieces (layer_word l) (layers_text ls) (32 ∷ p) ∙ ap (λ x. layer_word l ++ x) (layers_follow ls p))

other_byte : (us vs : List ℕ) → 112 ∷ us ≡ 113 ∷ vs → ⊥
other_byte us vs e = omega (arith, same_first 112 113 us vs e)

layer_tells : (l k : ShownLayer) → IsLayerPrintable l → IsLayerPrintable k → layer_word l ≡ layer_word k → l ≡ k
layer_tells (layer.Projection a b) (layer.Projection c d) first second e =
    let inner = append_cancel_left (codes "projection:") ((decimal a ++ codes ",") ++ decimal b) ((decimal c ++ codes ",") ++ decimal d) e in
    let parts = cut 44 (decimal a) (decimal c) (decimal b) (decimal d) (decimal_free 44 a refl) (decimal_free 44 c refl)
    (sym (append_assoc (decimal a) (codes ",") (decimal b)) ∙ inner ∙ append_assoc (decimal c) (codes ",") (decimal d)) in
    let left = decimal_injective a c first.0 second.0 parts.0 in
    let right = decimal_injective b d first.1 second.1 parts.1 in
    λ i. layer.Projection (left i) (right i)
layer_tells (layer.Projection a b) (layer.Quad s) first second e = absurd (other_byte _ _ e)
layer_tells (layer.Quad s) (layer.Projection c d) first second e = absurd (other_byte _ _ (sym e))
layer_tells (layer.Quad s) (layer.Quad t) first second e =
    ap layer.Quad (decimal_injective s t first second (append_cancel_left (codes "quad:") (decimal s) (decimal t) e))

layers_tell : (ls ks : List ShownLayer) (p q : List ℕ) → length ls ≡ length ks → Each IsLayerPrintable ls → Each IsLayerPrintable ks
    → SameWords (map layer_word ls ++ p ∷ []) (map layer_word ks ++ q ∷ []) → (ls ≡ ks) × (p ≡ q)
layers_tell [] [] p q size first second same = (refl, same.0)
layers_tell [] (k ∷ ks) p q size first second same = absurd (omega (arith, size))
layers_tell (l ∷ ls) [] p q size first second same = absurd (omega (arith, size))
layers_tell (l ∷ ls) (k ∷ ks) p q size first second same =
    let one = layer_tells l k first.0 second.0 same.0 in
    let more = layers_tell ls ks p q (omega (arith, size)) first.1 second.1 same.1 in
    (ap (λ x. x ∷ ls) one ∙ ap (λ x. k ∷ x) more.0, more.1)

-- ---- frames

frame_spread : (a n b t c count layers place : List ℕ) → (((((((a ++ n) ++ b) ++ t) ++ c) ++ count) ++ layers) ++ place) ++ 32 ∷ []
    ≡ a ++ (n ++ (b ++ (t ++ (c ++ (count ++ ((layers ++ place) ++ 32 ∷ []))))))
frame_spread a n b t c count layers place = simp append_assoc refl

-- a frame's words
abbrev frame_list : Shown → Reply → List (List ℕ)
frame_list f r =
    codes "frame" ∷ decimal f.number ∷ codes "time" ∷ signed_decimal f.time ∷ codes "layers" ∷ decimal (length f.layers)
    ∷ (map layer_word f.layers ++ (64 ∷ decimal r.place) ∷ [])

frame_free : (f : Shown) (r : Reply) → AllFree (frame_list f r)
frame_free f r =
    (refl, (number_word f.number, (refl, (signed_word f.time, (refl, (number_word (length f.layers), words_free f.layers (64 ∷ decimal r.place) (number_word r.place)))))))

-- a frame's line without its line feed
abbrev frame_body : Shown → Reply → List ℕ
frame_body f r =
    codes "frame " ++ decimal f.number ++ codes " time " ++ signed_decimal f.time ++ codes " layers " ++ decimal (length f.layers)
    ++ layers_text f.layers ++ (codes " @" ++ decimal r.place)

body_follow : (f : Shown) (r : Reply) → frame_body f r ++ 32 ∷ [] ≡ follow (frame_list f r)
body_follow f r =
    frame_spread (codes "frame ") (decimal f.number) (codes " time ") (signed_decimal f.time) (codes " layers ") (decimal (length f.layers))
    (layers_text f.layers) (codes " @" ++ decimal r.place)
    ∙ ap (λ x. codes "frame " ++ (decimal f.number ++ (codes " time " ++ (signed_decimal f.time ++ (codes " layers " ++ (decimal (length f.layers) ++ x))))))
    (layers_follow f.layers (64 ∷ decimal r.place))

pub frame_lines_tell_the_frame : FrameLinesTellTheFrame
frame_lines_tell_the_frame f g r q first second small few e =
    let body = append_cancel_right (frame_body f r) (frame_body g q) (codes "\n") e in
    let t = words_tell (frame_list f r) (frame_list g q) (frame_free f r) (frame_free g q)
    (sym (body_follow f r) ∙ ap (λ l. l ++ 32 ∷ []) body ∙ body_follow g q) in
    let number = decimal_injective f.number g.number first.number second.number t.1.0 in
    let time = same_signed f.time g.time first.time second.time t.1.1.1.0 in
    let count = decimal_injective (length f.layers) (length g.layers) first.count second.count t.1.1.1.1.1.0 in
    let both = layers_tell f.layers g.layers (64 ∷ decimal r.place) (64 ∷ decimal q.place) count first.layers second.layers t.1.1.1.1.1.1 in
    let own = both.0 in
    let place = decimal_injective r.place q.place small few (same_others 64 64 (decimal r.place) (decimal q.place) both.1) in
    (λ i. record { number = number i; time = time i; layers = own i }, place)
