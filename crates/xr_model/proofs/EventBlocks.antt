-- The device's block of a report tells its events, and what stands behind it who can't go on.
use Rattle.std.proofs.Common.{arith, ◌≡◌, ◌<◌, ◌+◌, ◌^◌, ℕ, true, false, List, [], ◌∷◌, ◌++◌, ◌⊎◌, inl, inr, length, map, refl, sym, ap, subst, ◌∙◌, true≢false}
use Rattle.std.specs.Prelude.{codes, decimal}
use Rattle.std.proofs.lemmas.Bool.Decides.{nat_tests}
use Rattle.std.proofs.lemmas.List.{append_assoc, append_cancel_left, append_cancel_right}
use Rattle.std.proofs.lemmas.Fmt.{decimal_injective}
use Rattle.xr_types.specs.declared.device.DeviceEvent.{DeviceEvent}
use Rattle.xr_types.specs.declared.device.DeviceEvent.TheVariants as event
use Rattle.xr_types.specs.declared.made.Lists.{Lists}
use Rattle.xr_types.specs.declared.made.Made.{Made}
use Rattle.xr_types.specs.declared.made.Waiting.{Waiting}
use Rattle.xr_model.specs.device_text.DeviceLines.{device_line}
use Rattle.xr_model.specs.scenario.InRange.{Each}
use Rattle.xr_model.specs.report.Report.{events_from, stuck_block, status_line, report_of}
use Rattle.xr_model.specs.report.ReportLines.{event_text, event_line}
use Rattle.xr_model.specs.laws.ReportLaws.{IsTold}
use Rattle.xr_model.specs.laws.BlockLaws.{HasSmallPlace, IsEventPrintable, ArePrintable, SameEvents, ReportsTellTheEvents}
use Rattle.xr_model.proofs.Cuts.{Free, free_both, cut, decimal_free, begins_digit, number_begins}
use Rattle.xr_model.proofs.EventsTell.{line_plain, text_is, same_event}
use Rattle.xr_model.proofs.FrameBlocks.{begins, other_begin, frames_then}

abbrev place_of : Made → ℕ
place_of m = m.reply.place

-- ---- the text of an event

-- it is one of the two ways to end early, or a line tells it
abbrev Sort : DeviceEvent → Type 0
Sort e = IsTold e ⊎ ((e ≡ event.Fault) ⊎ ((line : ℕ) × (e ≡ event.Garbled line) × (line < 2 ^ 64)))

sort_of : (e : DeviceEvent) → IsEventPrintable e → Sort e
sort_of event.Fault printable = inr (inl refl)
sort_of (event.Garbled line) printable = inr (inr (line, refl, printable))
sort_of _ printable = inl printable

number_plain : (n : ℕ) → Free 64 (decimal n)
number_plain n = decimal_free 64 n refl

told_plain : (number : ℕ) (e : DeviceEvent) → IsTold e → Free 64 (event_text number e)
told_plain number e told =
    subst (λ t. Free 64 t) (sym (text_is number e told.line))
    (free_both 64 (decimal number ++ codes " ") (device_line e) (free_both 64 (decimal number) (codes " ") (number_plain number) refl) (line_plain e))

text_plain : (number : ℕ) (e : DeviceEvent) → IsEventPrintable e → Free 64 (event_text number e)
text_plain number e printable = elim (sort_of e printable) as (λ x. Free 64 (event_text number e)) [
  | inl told ↦ told_plain number e told
  | inr early ↦ elim early as (λ x. Free 64 (event_text number e)) [
    | inl fault ↦ subst (λ x. Free 64 (event_text number x)) (sym fault) refl
    | inr garbled ↦ subst (λ x. Free 64 (event_text number x)) (sym garbled.1) (number_plain garbled.0)
  ]
]

told_begins : (number : ℕ) (e : DeviceEvent) → IsTold e → begins_digit (event_text number e) ≡ true
told_begins number e told =
    ap begins_digit (text_is number e told.line ∙ append_assoc (decimal number) (codes " ") (device_line e)) ∙ number_begins number _

-- a text that begins with a digit is none that doesn't
digit_first : (us vs : List ℕ) → begins_digit us ≡ true → begins_digit vs ≡ false → us ≡ vs → ⊥
digit_first us vs digit none e = true≢false (sym digit ∙ ap begins_digit e ∙ none)

both_told : (number : ℕ) (e f : DeviceEvent) → IsTold e → IsTold f → event_text number e ≡ event_text number f → e ≡ f
both_told number e f first second same =
    same_event e f first second (append_cancel_left (decimal number ++ codes " ") (device_line e) (device_line f)
    (sym (text_is number e first.line) ∙ same ∙ text_is number f second.line))

fault_or_garbled : (number line : ℕ) → event_text number event.Fault ≡ event_text number (event.Garbled line) → ⊥
fault_or_garbled number line same = other_begin 103 (event_text number event.Fault) (event_text number (event.Garbled line)) refl refl same

same_line : (number j k : ℕ) → j < 2 ^ 64 → k < 2 ^ 64 → event_text number (event.Garbled j) ≡ event_text number (event.Garbled k) → j ≡ k
same_line number j k small few same = decimal_injective j k small few (append_cancel_left (codes "garbled ") (decimal j) (decimal k) same)

-- by the sorts of both
text_tells : (number : ℕ) (e f : DeviceEvent) → IsEventPrintable e → IsEventPrintable f → event_text number e ≡ event_text number f → e ≡ f
text_tells number e f first second = by (sort_of e first) (sort_of f second)
  where
    by : Sort e → Sort f → event_text number e ≡ event_text number f → e ≡ f
    by (inl told) (inl other) same = both_told number e f told other same
    by (inl told) (inr (inl fault)) same = absurd (digit_first _ _ (told_begins number e told) refl (same ∙ ap (event_text number) fault))
    by (inl told) (inr (inr g)) same = absurd (digit_first _ _ (told_begins number e told) refl (same ∙ ap (event_text number) g.1))
    by (inr (inl fault)) (inl told) same = absurd (digit_first _ _ (told_begins number f told) refl (sym same ∙ ap (event_text number) fault))
    by (inr (inr g)) (inl told) same = absurd (digit_first _ _ (told_begins number f told) refl (sym same ∙ ap (event_text number) g.1))
    by (inr (inl fault)) (inr (inl other)) same = fault ∙ sym other
    by (inr (inl fault)) (inr (inr g)) same = absurd (fault_or_garbled number g.0 (sym (ap (event_text number) fault) ∙ same ∙ ap (event_text number) g.1))
    by (inr (inr g)) (inr (inl fault)) same = absurd (fault_or_garbled number g.0 (sym (ap (event_text number) fault) ∙ sym same ∙ ap (event_text number) g.1))
    by (inr (inr g)) (inr (inr h)) same =
        g.1 ∙ ap event.Garbled (same_line number g.0 h.0 g.2 h.2 (sym (ap (event_text number) g.1) ∙ same ∙ ap (event_text number) h.1)) ∙ sym h.1

-- ---- lines

line_spread : (text place rest : List ℕ) → ((text ++ (codes " @" ++ place)) ++ 10 ∷ []) ++ rest ≡ (text ++ 32 ∷ []) ++ 64 ∷ (place ++ 10 ∷ rest)
line_spread text place rest = simp append_assoc refl

line_tells : (number : ℕ) (e f : DeviceEvent) (m n : Made) (us vs : List ℕ) → IsEventPrintable e → IsEventPrintable f → HasSmallPlace m.reply
    → HasSmallPlace n.reply
    → event_line true number e m ++ us ≡ event_line true number f n ++ vs → (e ≡ f) × (place_of m ≡ place_of n) × (us ≡ vs)
line_tells number e f m n us vs first second small few is =
    let one = line_spread (event_text number e) (decimal m.reply.place) us in
    let other = line_spread (event_text number f) (decimal n.reply.place) vs in
    let parts = cut 64 (event_text number e ++ 32 ∷ []) (event_text number f ++ 32 ∷ []) (decimal m.reply.place ++ 10 ∷ us) (decimal n.reply.place ++ 10 ∷ vs)
    (free_both 64 (event_text number e) (32 ∷ []) (text_plain number e first) refl)
    (free_both 64 (event_text number f) (32 ∷ []) (text_plain number f second) refl)
    (sym one ∙ is ∙ other) in
    let place = cut 10 (decimal m.reply.place) (decimal n.reply.place) us vs (decimal_free 10 m.reply.place refl)
    (decimal_free 10 n.reply.place refl) parts.1 in (
      text_tells number e f first second (append_cancel_right (event_text number e) (event_text number f) (32 ∷ []) parts.0),
      decimal_injective m.reply.place n.reply.place small few place.0,
      place.1,
    )

-- no line of an event begins with an `s`
told_no_s : (text rest : List ℕ) → begins_digit text ≡ true → begins 115 (text ++ rest) ≡ false
told_no_s [] rest digit = absurd (true≢false (sym digit))
told_no_s (b ∷ bs) rest digit = grind (arith, nat_tests, digit)

line_no_s : (number : ℕ) (e : DeviceEvent) (m : Made) (rest : List ℕ) → IsEventPrintable e → begins 115 (event_line true number e m ++ rest) ≡ false
line_no_s number e m rest printable = elim (sort_of e printable) as (λ x. begins 115 (event_line true number e m ++ rest) ≡ false) [
  | inl told ↦ ap (begins 115) (line_spread (event_text number e) (decimal m.reply.place) rest
      ∙ append_assoc (event_text number e) (32 ∷ []) (64 ∷ (decimal m.reply.place ++ 10 ∷ rest)))
      ∙ told_no_s (event_text number e) (32 ∷ 64 ∷ (decimal m.reply.place ++ 10 ∷ rest)) (told_begins number e told)
  | inr early ↦ elim early as (λ x. begins 115 (event_line true number e m ++ rest) ≡ false) [
    | inl fault ↦ subst (λ x. begins 115 (event_line true number x m ++ rest) ≡ false) (sym fault) refl
    | inr garbled ↦ subst (λ x. begins 115 (event_line true number x m ++ rest) ≡ false) (sym garbled.1) refl
  ]
]

events_tell : (number : ℕ) (es fs : List DeviceEvent) (ms ns : List Made) (us vs : List ℕ) → begins 115 us ≡ true → begins 115 vs ≡ true
    → Each IsEventPrintable es → Each IsEventPrintable fs → Each (λ (m : Made). HasSmallPlace m.reply) ms → Each (λ (m : Made). HasSmallPlace m.reply) ns
    → length es ≡ length ms → length fs ≡ length ns
    → events_from true number es ms ++ us ≡ events_from true number fs ns ++ vs → (es ≡ fs) × (map place_of ms ≡ map place_of ns) × (us ≡ vs)
events_tell number [] [] [] [] us vs here there p q small few size other e = (refl, refl, e)
events_tell number [] [] [] (n ∷ ns) us vs here there p q small few size other e = absurd (omega (arith, other))
events_tell number [] [] (m ∷ ms) ns us vs here there p q small few size other e = absurd (omega (arith, size))
events_tell number [] (f ∷ fs) ms [] us vs here there p q small few size other e = absurd (omega (arith, other))
events_tell number [] (f ∷ fs) [] (n ∷ ns) us vs here there p q small few size other e =
    absurd (other_begin 115 (event_line true number f n ++ (events_from true (number + 1) fs ns ++ vs)) us (line_no_s number f n _ q.0) here
    (sym (e ∙ append_assoc (event_line true number f n) (events_from true (number + 1) fs ns) vs)))
events_tell number [] (f ∷ fs) (m ∷ ms) (n ∷ ns) us vs here there p q small few size other e = absurd (omega (arith, size))
events_tell number (x ∷ es) fs [] ns us vs here there p q small few size other e = absurd (omega (arith, size))
events_tell number (x ∷ es) [] (m ∷ ms) ns us vs here there p q small few size other e =
    absurd (other_begin 115 (event_line true number x m ++ (events_from true (number + 1) es ms ++ us)) vs (line_no_s number x m _ p.0) there
    (sym (append_assoc (event_line true number x m) (events_from true (number + 1) es ms) us) ∙ e))
events_tell number (x ∷ es) (f ∷ fs) (m ∷ ms) [] us vs here there p q small few size other e = absurd (omega (arith, other))
events_tell number (x ∷ es) (f ∷ fs) (m ∷ ms) (n ∷ ns) us vs here there p q small few size other e =
    let one = line_tells number x f m n (events_from true (number + 1) es ms ++ us) (events_from true (number + 1) fs ns ++ vs) p.0 q.0 small.0 few.0
    (sym (append_assoc (event_line true number x m) (events_from true (number + 1) es ms) us) ∙ e
    ∙ append_assoc (event_line true number f n) (events_from true (number + 1) fs ns) vs) in
    let more = events_tell (number + 1) es fs ms ns us vs here there p.1 q.1 small.1 few.1 (omega (arith, size)) (omega (arith, other)) one.2 in
    ((λ i. one.0 i ∷ more.0 i), (λ i. one.1 i ∷ more.1 i), more.2)

-- behind the events stands `stuck` or `status`
behind_begins : (ws : List Waiting) (lists : Lists) → begins 115 (stuck_block ws ++ status_line lists) ≡ true
behind_begins [] lists = refl
behind_begins (w ∷ ws) lists = refl

pub events_then : (lists others : Lists) → ArePrintable lists → ArePrintable others → report_of lists true ≡ report_of others true
    → SameEvents lists others × (stuck_block lists.next ++ status_line lists ≡ stuck_block others.next ++ status_line others)
events_then lists others first second e =
    let all = events_tell 1 lists.events others.events lists.device others.device (stuck_block lists.next ++ status_line lists)
    (stuck_block others.next ++ status_line others)
    (behind_begins lists.next lists) (behind_begins others.next others) first.events second.events first.calls second.calls first.made second.made
    (frames_then lists others first second e).1 in
    (record { events = all.0; places = all.1 }, all.2)

pub reports_tell_the_events : ReportsTellTheEvents
reports_tell_the_events lists others first second e = (events_then lists others first second e).0
