-- The compositor's block of a report tells its frames, and what stands behind it.
use Rattle.std.proofs.Common.{arith, ◌≡◌, ◌+◌, ◌==◌, ℕ, Bool, true, false, List, [], ◌∷◌, ◌++◌, length, map, slice_get, Option, Some, None, option_map, refl, sym, ap, subst, ◌∙◌, true≢false}
use Rattle.std.specs.Prelude.{codes, decimal}
use Rattle.std.specs.Fmt.{signed_decimal}
use Rattle.std.proofs.lemmas.List.{append-nil, append_assoc, append_cancel_left}
use Rattle.std.proofs.lemmas.Fmt.{decimal_injective}
use Rattle.xr_types.specs.declared.calls.Reply.{Reply}
use Rattle.xr_types.specs.declared.frames.ShownLayer.{ShownLayer}
use Rattle.xr_types.specs.declared.frames.ShownLayer.TheVariants as layer
use Rattle.xr_types.specs.declared.frames.Shown.{Shown}
use Rattle.xr_types.specs.declared.made.Lists.{Lists}
use Rattle.xr_model.specs.scenario.InRange.{Each}
use Rattle.xr_model.specs.report.Report.{frames_from, events_from, stuck_block, status_line, report_of}
use Rattle.xr_model.specs.report.ReportLines.{layer_text, layers_text, frame_line, ended_line}
use Rattle.xr_model.specs.laws.ReportLaws.{IsFramePrintable}
use Rattle.xr_model.specs.laws.BlockLaws.{HasSmallPlace, MayHaveSmallPlace, ArePrintable, SameFrames, ReportsTellTheFrames}
use Rattle.xr_model.proofs.Cuts.{Free, free_both, cut, decimal_free, signed_free}
use Rattle.xr_model.proofs.FramesTell.{frame_lines_tell_the_frame}
use Rattle.xr_model.proofs.ReportsTell.{reports_tell, report_behind}

abbrev place_of : Reply → ℕ
place_of r = r.place

-- ---- one line, which has no line feed inside

layer_flat : (l : ShownLayer) → Free 10 (layer_text l)
layer_flat (layer.Projection left right) =
    free_both 10 (decimal left ++ codes ",") (decimal right) (free_both 10 (decimal left) (codes ",") (decimal_free 10 left refl) refl)
    (decimal_free 10 right refl)
layer_flat (layer.Quad stamp) = decimal_free 10 stamp refl

layers_flat : (ls : List ShownLayer) → Free 10 (layers_text ls)
layers_flat [] = refl
layers_flat (l ∷ ls) = free_both 10 (layer_text l) (layers_text ls) (layer_flat l) (layers_flat ls)

-- a frame's line behind its first byte, without its line feed
abbrev frame_rest : Shown → Reply → List ℕ
frame_rest f r =
    codes "rame " ++ (decimal f.number ++ (codes " time " ++ (signed_decimal f.time ++ (codes " layers " ++ (decimal (length f.layers)
    ++ (layers_text f.layers ++ (codes " @" ++ decimal r.place)))))))

rest_flat : (f : Shown) (r : Reply) → Free 10 (frame_rest f r)
rest_flat f r =
    free_both 10 (decimal f.number) _ (decimal_free 10 f.number refl)
    (free_both 10 (signed_decimal f.time) _ (signed_free 10 f.time refl refl)
    (free_both 10 (decimal (length f.layers)) _ (decimal_free 10 (length f.layers) refl)
    (free_both 10 (layers_text f.layers) _ (layers_flat f.layers) (decimal_free 10 r.place refl))))

frame_spread : (a n b t c count layers place rest : List ℕ) → ((((((((a ++ n) ++ b) ++ t) ++ c) ++ count) ++ layers) ++ place) ++ 10 ∷ []) ++ rest
    ≡ (a ++ (n ++ (b ++ (t ++ (c ++ (count ++ (layers ++ place))))))) ++ 10 ∷ rest
frame_spread a n b t c count layers place rest = simp append_assoc refl

line_is : (f : Shown) (r : Reply) (rest : List ℕ) → frame_line true f (Some r) ++ rest ≡ 102 ∷ (frame_rest f r ++ 10 ∷ rest)
line_is f r rest =
    frame_spread (codes "frame ") (decimal f.number) (codes " time ") (signed_decimal f.time) (codes " layers ") (decimal (length f.layers))
    (layers_text f.layers) (codes " @" ++ decimal r.place) rest

-- a line and what stands behind it
line_then : (f g : Shown) (r q : Reply) (us vs : List ℕ) → IsFramePrintable f → IsFramePrintable g → HasSmallPlace r → HasSmallPlace q
    → frame_line true f (Some r) ++ us ≡ frame_line true g (Some q) ++ vs → (f ≡ g) × (r.place ≡ q.place) × (us ≡ vs)
line_then f g r q us vs first second small few e =
    let parts = cut 10 (102 ∷ frame_rest f r) (102 ∷ frame_rest g q) us vs (rest_flat f r) (rest_flat g q) (sym (line_is f r us) ∙ e ∙ line_is g q vs) in
    let line = line_is f r [] ∙ ap (λ l. l ++ 10 ∷ []) parts.0 ∙ sym (line_is g q []) in
    let one = frame_lines_tell_the_frame f g r q first second small few
    (sym (append-nil (frame_line true f (Some r))) ∙ line ∙ append-nil (frame_line true g (Some q))) in
    (one.0, one.1, parts.1)

-- ---- all lines

-- the lines of frames with their replies
abbrev zipped : List Shown → List Reply → List ℕ
zipped [] rs = []
zipped (f ∷ fs) [] = []
zipped (f ∷ fs) (r ∷ rs) = frame_line true f (Some r) ++ zipped fs rs

there : (front rs : List Reply) (r : Reply) → slice_get (front ++ r ∷ rs) (length front) ≡ Some r
there [] rs r = refl
there (q ∷ front) rs r = there front rs r

longer : (front : List Reply) (r : Reply) → length front + 1 ≡ length (front ++ r ∷ [])
longer [] r = refl
longer (q ∷ front) r = let more = longer front r in omega (arith, more)

zip_is : (front rs : List Reply) (fs : List Shown) → length fs ≡ length rs → frames_from true (front ++ rs) (length front) fs ≡ zipped fs rs
zip_is front rs [] size = refl
zip_is front [] (f ∷ fs) size = absurd (omega (arith, size))
zip_is front (r ∷ rs) (f ∷ fs) size =
    let more = zip_is (front ++ r ∷ []) rs fs (omega (arith, size)) in
    let moved = subst (λ l. frames_from true l (length front + 1) fs ≡ zipped fs rs) (append_assoc front (r ∷ []) rs)
    (subst (λ (n : ℕ). frames_from true ((front ++ r ∷ []) ++ rs) n fs ≡ zipped fs rs) (sym (longer front r)) more) in
    (λ i. frame_line true f (there front rs r i) ++ moved i)

-- a text begins with this byte
abbrev pub begins : ℕ → List ℕ → Bool
begins b [] = false
begins b (x ∷ xs) = x == b

pub other_begin : (b : ℕ) (us vs : List ℕ) → begins b us ≡ false → begins b vs ≡ true → us ≡ vs → ⊥
other_begin b us vs never here e = true≢false (sym here ∙ ap (begins b) (sym e) ∙ never)

-- what stands behind the lines is no frame's line
frames_tell : (fs gs : List Shown) (rs qs : List Reply) (us vs : List ℕ) → begins 102 us ≡ false → begins 102 vs ≡ false
    → Each IsFramePrintable fs → Each IsFramePrintable gs → Each HasSmallPlace rs → Each HasSmallPlace qs → length fs ≡ length rs → length gs ≡ length qs
    → zipped fs rs ++ us ≡ zipped gs qs ++ vs → (fs ≡ gs) × (map place_of rs ≡ map place_of qs) × (us ≡ vs)
frames_tell [] [] [] [] us vs never none p q small few size other e = (refl, refl, e)
frames_tell [] [] [] (x ∷ qs) us vs never none p q small few size other e = absurd (omega (arith, other))
frames_tell [] [] (r ∷ rs) qs us vs never none p q small few size other e = absurd (omega (arith, size))
frames_tell [] (g ∷ gs) rs [] us vs never none p q small few size other e = absurd (omega (arith, other))
frames_tell [] (g ∷ gs) rs (x ∷ qs) us vs never none p q small few size other e =
    absurd (other_begin 102 us _ never refl (e ∙ append_assoc (frame_line true g (Some x)) (zipped gs qs) vs ∙ line_is g x (zipped gs qs ++ vs)))
frames_tell (f ∷ fs) gs [] qs us vs never none p q small few size other e = absurd (omega (arith, size))
frames_tell (f ∷ fs) [] (r ∷ rs) qs us vs never none p q small few size other e =
    absurd (other_begin 102 vs _ none refl (sym e ∙ append_assoc (frame_line true f (Some r)) (zipped fs rs) us ∙ line_is f r (zipped fs rs ++ us)))
frames_tell (f ∷ fs) (g ∷ gs) (r ∷ rs) [] us vs never none p q small few size other e = absurd (omega (arith, other))
frames_tell (f ∷ fs) (g ∷ gs) (r ∷ rs) (x ∷ qs) us vs never none p q small few size other e =
    let one = line_then f g r x (zipped fs rs ++ us) (zipped gs qs ++ vs) p.0 q.0 small.0 few.0
    (sym (append_assoc (frame_line true f (Some r)) (zipped fs rs) us) ∙ e ∙ append_assoc (frame_line true g (Some x)) (zipped gs qs) vs) in
    let more = frames_tell fs gs rs qs us vs never none p.1 q.1 small.1 few.1 (omega (arith, size)) (omega (arith, other)) one.2 in
    ((λ i. one.0 i ∷ more.0 i), (λ i. one.1 i ∷ more.1 i), more.2)

-- ---- the end

ended_spread : (place rest : List ℕ) → ((codes "ended" ++ (codes " @" ++ place)) ++ 10 ∷ []) ++ rest ≡ codes "ended @" ++ (place ++ 10 ∷ rest)
ended_spread place rest = simp append_assoc refl

end_tells : (o p : Option Reply) (us vs : List ℕ) → MayHaveSmallPlace o → MayHaveSmallPlace p → begins 101 us ≡ false → begins 101 vs ≡ false
    → ended_line true o ++ us ≡ ended_line true p ++ vs → (option_map place_of o ≡ option_map place_of p) × (us ≡ vs)
end_tells None None us vs small few never none e = (refl, e)
end_tells None (Some q) us vs small few never none e = absurd (other_begin 101 us _ never refl (e ∙ ended_spread (decimal q.place) vs))
end_tells (Some r) None us vs small few never none e = absurd (other_begin 101 vs _ none refl (sym e ∙ ended_spread (decimal r.place) us))
end_tells (Some r) (Some q) us vs small few never none e =
    let inner = append_cancel_left (codes "ended @") _ _ (sym (ended_spread (decimal r.place) us) ∙ e ∙ ended_spread (decimal q.place) vs) in
    let parts = cut 10 (decimal r.place) (decimal q.place) us vs (decimal_free 10 r.place refl) (decimal_free 10 q.place refl) inner in
    (ap (λ (n : ℕ). Some n) (decimal_injective r.place q.place small few parts.0), parts.1)

no_frame_behind : (o : Option Reply) (rest : List ℕ) → begins 102 (ended_line true o ++ (codes "device\n" ++ rest)) ≡ false
no_frame_behind None rest = refl
no_frame_behind (Some r) rest = refl

-- ---- the block

-- what stands behind the head of the device's block
abbrev pub behind_device : Lists → List ℕ
behind_device lists = events_from true 1 lists.events lists.device ++ (stuck_block lists.next ++ status_line lists)

block_is : (lists : Lists) → length lists.compositor ≡ length lists.shown
    → report_behind lists ≡ zipped lists.compositor lists.shown ++ (ended_line true lists.ended ++ (codes "device\n" ++ behind_device lists))
block_is lists size =
    (λ i. zip_is [] lists.shown lists.compositor size i ++ (ended_line true lists.ended
    ++ append_assoc (codes "device\n") (events_from true 1 lists.events lists.device) (stuck_block lists.next ++ status_line lists) i))

pub frames_then : (lists others : Lists) → ArePrintable lists → ArePrintable others → report_of lists true ≡ report_of others true
    → SameFrames lists others × (behind_device lists ≡ behind_device others)
frames_then lists others first second e =
    let behind = append_cancel_left (codes "compositor\n") _ _ (reports_tell lists others first.apps second.apps e).1 in
    let all = frames_tell lists.compositor others.compositor lists.shown others.shown _ _
    (no_frame_behind lists.ended (behind_device lists)) (no_frame_behind others.ended (behind_device others))
    first.frames second.frames first.replies second.replies first.answered second.answered
    (sym (block_is lists first.answered) ∙ behind ∙ block_is others second.answered) in
    let end = end_tells lists.ended others.ended _ _ first.end second.end refl refl all.2 in
    (record { frames = all.0; places = all.1; end = end.0 }, append_cancel_left (codes "device\n") _ _ end.1)

pub reports_tell_the_frames : ReportsTellTheFrames
reports_tell_the_frames lists others first second e = (frames_then lists others first second e).0
