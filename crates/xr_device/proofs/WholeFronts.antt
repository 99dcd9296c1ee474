-- What the whole lines at the front of a text tell.
use Rattle.std.proofs.Common.{◌≡◌, ◌≤◌, ◌==◌, ◌||◌, ℕ, ◌+◌, Bool, true, false, nat_lt, List, [], ◌∷◌, ◌++◌, length, take, drop, refl, sym, ap, ◌∙◌, arith, append_assoc, append-nil, add-zero, length-append, take-append-drop}
use Rattle.std.proofs.lemmas.List.{take_at, take-append-le, length-take-le}
use Rattle.std.specs.Prelude.{if◌then◌else◌}
use lib.Seq.{take-add}
use Rattle.xr_types.specs.declared.device.DeviceEvent.{DeviceEvent}
use Rattle.xr_types.specs.declared.limits.TheConstants.{MOST_LINE, MOST_DEVICE}
use Rattle.xr_model.specs.device_text.DeviceText.{Line, in_front, lines_in, line_size, Meaning, skipped, tells, malformed, meaning_of, Ending, ends, garbled_at, DeviceStream, nothing_more, told_by, told_from, told_in}
use Rattle.xr_device.specs.FirstByte.{is_free_of}
use Rattle.xr_device.specs.Texts.{StandsIn, IsClosed}
use Rattle.xr_device.specs.WholeLines.{whole_lines, told_whole, is_whole, AreWholeLines}
use Rattle.xr_device.proofs.FirstBytes.{first_parts}
use Rattle.xr_device.proofs.TextLines.{closed_line, lines_closed, lines_open, fits}

-- ---- lines

-- a text of a byte at least has a line
some_line : (c : ℕ) (bs : List ℕ) → (l : Line) × (ls : List Line) × (lines_in (c ∷ bs) ≡ l ∷ ls)
some_line c bs = by (c == 10) refl (lines_in bs) refl
  where
    by : (t : Bool) → (c == 10) ≡ t → (ms : List Line) → lines_in bs ≡ ms → (l : Line) × (ls : List Line) × (lines_in (c ∷ bs) ≡ l ∷ ls)
    by true e ms is = (record { bytes = []; closed = true }, lines_in bs, rw e refl)
    by false e [] is = (record { bytes = c ∷ []; closed = false }, [], rw (e, is) refl)
    by false e (m ∷ ms) is = (record m { bytes = c ∷ m.bytes }, ms, rw (e, is) refl)

pub lines_append : (front more : List ℕ) → is_whole front ≡ true → lines_in (front ++ more) ≡ lines_in front ++ lines_in more
lines_append [] more h = refl
lines_append (b ∷ []) more h = rw h refl
lines_append (b ∷ c ∷ bs) more h = by (b == 10) refl (lines_append (c ∷ bs) more h) (some_line c bs)
  where
    by : (t : Bool) → (b == 10) ≡ t → lines_in ((c ∷ bs) ++ more) ≡ lines_in (c ∷ bs) ++ lines_in more → (l : Line) × (ls : List Line) × (lines_in (c ∷ bs) ≡ l ∷ ls)
        → lines_in ((b ∷ c ∷ bs) ++ more) ≡ lines_in (b ∷ c ∷ bs) ++ lines_in more
    by true e so some = rw e (ap (λ (ls : List Line). record { bytes = []; closed = true } ∷ ls) so)
    by false e so some = rw e (ap (in_front b) so ∙ rw some.2 refl)

same_rest : (x : Line) (xs ys : List Line) → x ∷ xs ≡ x ∷ ys → xs ≡ ys
same_rest x xs ys is = cc

none_first : (x : Line) (xs : List Line) → [] ≡ x ∷ xs → ⊥
none_first x xs is = cc

first_whole : (b : ℕ) (l : Line) (ls ms : List Line) → whole_lines (l ∷ (ls ++ ms)) ≡ l ∷ (ls ++ whole_lines ms) → whole_lines (in_front b (l ∷ ls) ++ ms) ≡ in_front b (l ∷ ls) ++ whole_lines ms
first_whole b l ls ms = by l.closed refl
  where
    by : (t : Bool) → l.closed ≡ t → whole_lines (l ∷ (ls ++ ms)) ≡ l ∷ (ls ++ whole_lines ms) → whole_lines (in_front b (l ∷ ls) ++ ms) ≡ in_front b (l ∷ ls) ++ whole_lines ms
    by true e h = rw e (ap (λ (x : List Line). record { bytes = b ∷ l.bytes; closed = true } ∷ x) (same_rest _ _ _ (rw e at h)))
    by false e h = absurd (none_first _ _ (rw e at h))

pub whole_append : (front : List ℕ) (ms : List Line) → is_whole front ≡ true → whole_lines (lines_in front ++ ms) ≡ lines_in front ++ whole_lines ms
whole_append [] ms h = refl
whole_append (b ∷ []) ms h = rw h refl
whole_append (b ∷ c ∷ bs) ms h = by (b == 10) refl (whole_append (c ∷ bs) ms h) (some_line c bs)
  where
    by : (t : Bool) → (b == 10) ≡ t → whole_lines (lines_in (c ∷ bs) ++ ms) ≡ lines_in (c ∷ bs) ++ whole_lines ms → (l : Line) × (ls : List Line) × (lines_in (c ∷ bs) ≡ l ∷ ls)
        → whole_lines (lines_in (b ∷ c ∷ bs) ++ ms) ≡ lines_in (b ∷ c ∷ bs) ++ whole_lines ms
    by true e so some = rw e (ap (λ (ls : List Line). record { bytes = []; closed = true } ∷ ls) so)
    by false e so some = rw (e, some.2) (first_whole b some.0 some.1 ms (rw some.2 at so))

none_whole : (held : List ℕ) → is_free_of 10 held ≡ true → whole_lines (lines_in held) ≡ []
none_whole [] free = refl
none_whole (x ∷ xs) free = rw (lines_open x xs free) refl

abbrev size_of : List Line → ℕ
size_of [] = 0
size_of (l ∷ ls) = line_size l + size_of ls

front_size : (b : ℕ) (ls : List Line) → size_of (in_front b ls) ≡ 1 + size_of ls
front_size b [] = refl
front_size b (l ∷ ls) = omega arith

sizes : (bs : List ℕ) → size_of (lines_in bs) ≡ length bs
sizes [] = refl
sizes (b ∷ bs) = by (b == 10) refl (sizes bs)
  where
    by : (t : Bool) → (b == 10) ≡ t → size_of (lines_in bs) ≡ length bs → size_of (lines_in (b ∷ bs)) ≡ length (b ∷ bs)
    by true e so = rw e (omega (arith, so))
    by false e so = let more = front_size b (lines_in bs) in rw e (omega (arith, more, so))

-- ---- what they tell

-- these events, and then the rest
abbrev pub told_before : List DeviceEvent → DeviceStream → DeviceStream
told_before events rest = record { events = events ++ rest.events; ending = rest.ending }

-- what a line tells with those behind it
abbrev with_line : ℕ → Bool → Meaning → DeviceStream → DeviceStream
with_line number bad m rest = if bad then record { events = []; ending = garbled_at number } else told_by number m rest

not_garbled : (n : ℕ) → garbled_at n ≡ ends → ⊥
not_garbled n h = cc

line_before : (n : ℕ) (bad : Bool) (m : Meaning) (a b c : DeviceStream) → (with_line n bad m a).ending ≡ ends → (a.ending ≡ ends → b ≡ told_before a.events c) → with_line n bad m b ≡ told_before (with_line n bad m a).events c
line_before n true m a b c h more = absurd (not_garbled n h)
line_before n false skipped a b c h more = more h
line_before n false (tells e) a b c h more = ap (λ (s : DeviceStream). record s { events = e ∷ s.events }) (more h)
line_before n false malformed a b c h more = absurd (not_garbled n h)

told_append : (n u : ℕ) (ls ms : List Line) → (told_from n u ls).ending ≡ ends → told_from n u (ls ++ ms) ≡ told_before (told_from n u ls).events (told_from (n + length ls) (u + size_of ls) ms)
told_append n u [] ms h = rw (add-zero n, add-zero u) refl
told_append n u (l ∷ ls) ms h =
    let place : n + 1 + length ls ≡ n + length (l ∷ ls) = omega arith in
    let behind : u + line_size l + size_of ls ≡ u + size_of (l ∷ ls) = omega arith in
    line_before n (nat_lt MOST_LINE (length l.bytes) || nat_lt MOST_DEVICE (u + line_size l)) (meaning_of l.bytes) (told_from (n + 1) (u + line_size l) ls) (told_from (n + 1) (u + line_size l) (ls ++ ms)) (told_from (n + length (l ∷ ls)) (u + size_of (l ∷ ls)) ms) h
    (λ good. told_append (n + 1) (u + line_size l) ls ms good ∙ ap (λ (k : ℕ). told_before (told_from (n + 1) (u + line_size l) ls).events (told_from k (u + line_size l + size_of ls) ms)) place ∙ ap (λ (k : ℕ). told_before (told_from (n + 1) (u + line_size l) ls).events (told_from (n + length (l ∷ ls)) k ms)) behind)

-- what a text tells whose front are whole lines
told_behind : (front more : List ℕ) (number given : ℕ) → AreWholeLines front number given → told_in (front ++ more) ≡ told_before (told_in front).events (told_from number (length front) (lines_in more))
told_behind front more number given w =
    let size = sizes front in
    let behind : 0 + size_of (lines_in front) ≡ length front = omega (arith, size) in
    ap (told_from 1 0) (lines_append front more w.whole) ∙ told_append 1 0 (lines_in front) (lines_in more) w.ending
    ∙ ap (λ (k : ℕ). told_before (told_in front).events (told_from k (0 + size_of (lines_in front)) (lines_in more))) (sym w.numbered)
    ∙ ap (λ (k : ℕ). told_before (told_in front).events (told_from number k (lines_in more))) behind

ends_well : (s : DeviceStream) → s.ending ≡ ends → s ≡ record { events = s.events; ending = ends }
ends_well s h = ap (λ (e : Ending). let told : DeviceStream = record { events = s.events; ending = e } in told) h

-- ---- a read that fails

pub gave_whole : (text held left : List ℕ) (used number given : ℕ) → StandsIn used held left text → AreWholeLines (take used text) number given → is_free_of 10 held ≡ true
    → told_whole (take (used + length held) text) ≡ record { events = take given (told_in text).events; ending = ends }
gave_whole text held left used number given s w free =
    let front : List ℕ = take used text in
    let parts : take (used + length held) text ≡ front ++ held =
    take-add used (length held) text ∙ ap (λ (l : List ℕ). front ++ take (length held) l) s.rest ∙ ap (λ (l : List ℕ). front ++ l) (take_at held left (length held) refl) in
    let lines : whole_lines (lines_in (front ++ held)) ≡ lines_in front =
    ap whole_lines (lines_append front held w.whole) ∙ whole_append front (lines_in held) w.whole ∙ ap (λ (l : List Line). lines_in front ++ l) (none_whole held free) ∙ append-nil (lines_in front) in
    let all : told_in text ≡ told_before (told_in front).events (told_from number (length front) (lines_in (drop used text))) =
    ap told_in (sym (take-append-drop used text)) ∙ told_behind front (drop used text) number given w in
    let events : take given (told_in text).events ≡ (told_in front).events =
    ap (λ (t : DeviceStream). take given t.events) all ∙ take_at (told_in front).events _ given w.count in
    ap told_whole parts ∙ ap (told_from 1 0) lines ∙ ends_well (told_in front) w.ending ∙ ap (λ (es : List DeviceEvent). let told : DeviceStream = record { events = es; ending = ends } in told) (sym events)

-- ---- a line more

ends_whole : (xs : List ℕ) → is_whole (xs ++ 10 ∷ []) ≡ true
ends_whole [] = refl
ends_whole (x ∷ []) = refl
ends_whole (x ∷ y ∷ ys) = ends_whole (y ∷ ys)

-- how many events were given, with what a line says
abbrev pub count_with : Meaning → ℕ → ℕ
count_with skipped given = given
count_with (tells e) given = given + 1
count_with malformed given = given

abbrev pub UnlessMalformed : Meaning → Type 0 → Type 0
UnlessMalformed skipped P = P
UnlessMalformed (tells e) P = P
UnlessMalformed malformed P = Unit {0}

-- the line that is closed
line_bytes : (held : List ℕ) (bytes size : ℕ) → IsClosed held bytes size → take size held ≡ take bytes held ++ 10 ∷ []
line_bytes held bytes size line =
    let inside = line.first.within in
    let l : List ℕ = take bytes held in
    let few : length l ≡ bytes = length-take-le bytes held (omega (arith, inside)) in
    let more : length (l ++ 10 ∷ []) ≡ length l + 1 = length-append l (10 ∷ []) in
    let sized = line.sized in
    let len : length (l ++ 10 ∷ []) ≡ size = omega (arith, few, more, sized) in
    ap (take size) (first_parts 10 held bytes line.first ∙ sym (append_assoc l (10 ∷ []) (drop (bytes + 1) held))) ∙ take_at (l ++ 10 ∷ []) (drop (bytes + 1) held) size len

pub lines_more : (text held left : List ℕ) (used number given bytes size : ℕ) (m : Meaning) → StandsIn used held left text → AreWholeLines (take used text) number given → IsClosed held bytes size → size ≤ length held
    → used + size ≤ 16777216 → m ≡ meaning_of (take bytes held) → UnlessMalformed m (AreWholeLines (take (used + size) text) (number + 1) (count_with m given))
lines_more text held left used number given bytes size m s w line within limit is =
    by m (told_is ∙ ap (λ (n : Meaning). told_before (told_in front).events (told_by number n nothing_more)) (sym is))
  where
    front : List ℕ
    front = take used text

    l : List ℕ
    l = take bytes held

    parts : take (used + size) text ≡ front ++ (l ++ 10 ∷ [])
    parts = take-add used size text ∙ ap (λ (x : List ℕ). front ++ take size x) s.rest ∙ ap (λ (x : List ℕ). front ++ x) (take-append-le size held left within ∙ line_bytes held bytes size line)

    one : lines_in (l ++ 10 ∷ []) ≡ closed_line l ∷ []
    one = lines_closed l [] line.first.front

    lines : lines_in (front ++ (l ++ 10 ∷ [])) ≡ lines_in front ++ closed_line l ∷ []
    lines = lines_append front (l ++ 10 ∷ []) w.whole ∙ ap (λ (ls : List Line). lines_in front ++ ls) one

    len : length front ≡ used
    len = length-take-le used text s.enough

    short : length l ≡ bytes
    short = let inside = line.first.within in length-take-le bytes held (omega (arith, inside))

    fitting : used + line_size (closed_line l) ≤ 16777216
    fitting = let sized = line.sized in omega (arith, short, sized, limit)

    few : length l ≤ 255
    few = let most = line.few in omega (arith, short, most)

    told_is : told_in (take (used + size) text) ≡ told_before (told_in front).events (told_by number (meaning_of l) nothing_more)
    told_is =
        ap told_in parts ∙ told_behind front (l ++ 10 ∷ []) number given w
        ∙ ap (λ (k : ℕ). told_before (told_in front).events (told_from number k (lines_in (l ++ 10 ∷ [])))) len
        ∙ ap (λ (ls : List Line). told_before (told_in front).events (told_from number used ls)) one
        ∙ ap (told_before (told_in front).events) (fits number used (closed_line l) [] few fitting)

    whole_so : is_whole (take (used + size) text) ≡ true
    whole_so = ap is_whole (parts ∙ sym (append_assoc front l (10 ∷ []))) ∙ ends_whole (front ++ l)

    numbered_so : number + 1 ≡ 1 + length (lines_in (take (used + size) text))
    numbered_so =
        let all : length (lines_in (take (used + size) text)) ≡ length (lines_in front) + 1 = ap (λ (b : List ℕ). length (lines_in b)) parts ∙ ap length lines ∙ length-append (lines_in front) (closed_line l ∷ []) in
        let before = w.numbered in
        omega (arith, all, before)

    by : (m : Meaning) → told_in (take (used + size) text) ≡ told_before (told_in front).events (told_by number m nothing_more) → UnlessMalformed m (AreWholeLines (take (used + size) text) (number + 1) (count_with m given))
    by skipped told = record { whole = whole_so; numbered = numbered_so; ending = ap (λ (t : DeviceStream). t.ending) told; count = ap (λ (t : DeviceStream). length t.events) told ∙ ap length (append-nil (told_in front).events) ∙ w.count }
    by (tells e) told = record { whole = whole_so; numbered = numbered_so; ending = ap (λ (t : DeviceStream). t.ending) told; count = ap (λ (t : DeviceStream). length t.events) told ∙ length-append (told_in front).events (e ∷ []) ∙ ap (λ (k : ℕ). k + 1) w.count }
    by malformed told = tt
