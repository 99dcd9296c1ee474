-- The next calls of a run that is stuck, as a report tells them.
use Rattle.std.proofs.Common.{arith, ◌≡◌, ℕ, true, false, List, [], ◌∷◌, ◌++◌, refl, sym, ap, ◌∙◌}
use Rattle.std.specs.Prelude.{codes, decimal}
use Rattle.std.proofs.lemmas.List.{append_assoc, append_cancel_left}
use Rattle.std.proofs.lemmas.Fmt.{decimal_injective}
use Rattle.xr_types.specs.declared.calls.Actor.{Actor}
use Rattle.xr_types.specs.declared.calls.Actor.TheVariants as actor
use Rattle.xr_types.specs.declared.made.Lists.{Lists}
use Rattle.xr_types.specs.declared.made.Waiting.{Waiting}
use Rattle.xr_types.specs.declared.names.CallName.{CallName}
use Rattle.xr_types.specs.declared.names.CallName.TheVariants as call
use Rattle.xr_types.specs.Op.{name_of_call}
use Rattle.xr_model.specs.scenario.InRange.{Each}
use Rattle.xr_model.specs.report.Report.{waiting_lines, stuck_block, status_line}
use Rattle.xr_model.specs.report.ReportLines.{waiting_line}
use Rattle.xr_model.specs.laws.BlockLaws.{IsWaitingPrintable, ReportsTellWhoIsStuck}
use Rattle.xr_model.proofs.Cuts.{Free, cut, same_first, decimal_free}
use Rattle.xr_model.proofs.DistinctNames.{names_are_distinct}
use Rattle.xr_model.proofs.FrameBlocks.{begins, other_begin}
use Rattle.xr_model.proofs.EventBlocks.{events_then}

name_flat : (c : CallName) → Free 10 (name_of_call c)
name_flat call.CreateInstance = refl
name_flat _ = refl

-- ---- one line, by whose it is

app_spread : (number op name rest : List ℕ) → ((((((codes "thread " ++ number) ++ codes " ") ++ op) ++ codes " ") ++ name) ++ 10 ∷ []) ++ rest
    ≡ codes "thread " ++ (number ++ 32 ∷ (op ++ 32 ∷ (name ++ 10 ∷ rest)))
app_spread number op name rest = simp append_assoc refl

device_spread : (op rest : List ℕ) → ((codes "device await " ++ op) ++ 10 ∷ []) ++ rest ≡ codes "device await " ++ (op ++ 10 ∷ rest)
device_spread op rest = simp append_assoc refl

-- two waiting actors are the same where their parts are
same_waiting : (w x : Waiting) → w.actor ≡ x.actor → w.op ≡ x.op → w.name ≡ x.name → w ≡ x
same_waiting w x who op name = λ i. record { actor = who i; op = op i; name = name i }

-- what a line tells, and what stands behind it
abbrev Tells : Waiting → Waiting → List ℕ → List ℕ → Type 0
Tells w x us vs = (w ≡ x) × (us ≡ vs)

app_tells : (j k : ℕ) (w x : Waiting) (us vs : List ℕ) → w.actor ≡ actor.App j → x.actor ≡ actor.App k → IsWaitingPrintable (actor.App j) w
    → IsWaitingPrintable (actor.App k) x
    → waiting_line (actor.App j) w ++ us ≡ waiting_line (actor.App k) x ++ vs → Tells w x us vs
app_tells j k w x us vs own other first second e =
    let inner = append_cancel_left (codes "thread ") _ _
    (sym (app_spread (decimal j) (decimal w.op) (name_of_call w.name) us) ∙ e ∙ app_spread (decimal k) (decimal x.op) (name_of_call x.name) vs) in
    let number = cut 32 (decimal j) (decimal k) _ _ (decimal_free 32 j refl) (decimal_free 32 k refl) inner in
    let op = cut 32 (decimal w.op) (decimal x.op) _ _ (decimal_free 32 w.op refl) (decimal_free 32 x.op refl) number.1 in
    let name = cut 10 (name_of_call w.name) (name_of_call x.name) us vs (name_flat w.name) (name_flat x.name) op.1 in (
      same_waiting w x (own ∙ ap actor.App (decimal_injective j k first.0 second.0 number.0) ∙ sym other)
          (decimal_injective w.op x.op first.1 second.1 op.0) (names_are_distinct.calls w.name x.name name.0),
      name.1,
    )

device_tells : (w x : Waiting) (us vs : List ℕ) → w.actor ≡ actor.Device → x.actor ≡ actor.Device → IsWaitingPrintable actor.Device w
    → IsWaitingPrintable actor.Device x
    → waiting_line actor.Device w ++ us ≡ waiting_line actor.Device x ++ vs → Tells w x us vs
device_tells w x us vs own other first second e =
    let inner = append_cancel_left (codes "device await ") _ _ (sym (device_spread (decimal w.op) us) ∙ e ∙ device_spread (decimal x.op) vs) in
    let op = cut 10 (decimal w.op) (decimal x.op) us vs (decimal_free 10 w.op refl) (decimal_free 10 x.op refl) inner in
    (same_waiting w x (own ∙ sym other) (decimal_injective w.op x.op first.1 second.1 op.0) (first.0 ∙ sym second.0), op.1)

compositor_tells : (w x : Waiting) (us vs : List ℕ) → w.actor ≡ actor.Compositor → x.actor ≡ actor.Compositor → IsWaitingPrintable actor.Compositor w
    → IsWaitingPrintable actor.Compositor x → waiting_line actor.Compositor w ++ us ≡ waiting_line actor.Compositor x ++ vs → Tells w x us vs
compositor_tells w x us vs own other first second e =
    (same_waiting w x (own ∙ sym other) (first.1 ∙ sym second.1) (first.0 ∙ sym second.0), append_cancel_left (codes "compositor next_frame\n") us vs e)

-- the byte by which the line of an actor begins
abbrev first_byte : Actor → ℕ
first_byte (actor.App number) = 116
first_byte actor.Device = 100
first_byte actor.Compositor = 99

line_begins : (who : Actor) (w : Waiting) (us : List ℕ) → begins (first_byte who) (waiting_line who w ++ us) ≡ true
line_begins (actor.App number) w us = refl
line_begins actor.Device w us = refl
line_begins actor.Compositor w us = refl

waiting_tells : (w x : Waiting) (us vs : List ℕ) → IsWaitingPrintable w.actor w → IsWaitingPrintable x.actor x
    → waiting_line w.actor w ++ us ≡ waiting_line x.actor x ++ vs → Tells w x us vs
waiting_tells w x us vs = by w.actor x.actor refl refl
  where
    by : (a b : Actor) → w.actor ≡ a → x.actor ≡ b → IsWaitingPrintable a w → IsWaitingPrintable b x → waiting_line a w ++ us ≡ waiting_line b x ++ vs
        → Tells w x us vs
    by (actor.App j) (actor.App k) own other first second e = app_tells j k w x us vs own other first second e
    by (actor.App j) actor.Device own other first second e = absurd (other_begin 100 (waiting_line (actor.App j) w ++ us) _ refl refl e)
    by (actor.App j) actor.Compositor own other first second e = absurd (other_begin 99 (waiting_line (actor.App j) w ++ us) _ refl refl e)
    by actor.Device (actor.App k) own other first second e = absurd (other_begin 116 (waiting_line actor.Device w ++ us) _ refl refl e)
    by actor.Device actor.Device own other first second e = device_tells w x us vs own other first second e
    by actor.Device actor.Compositor own other first second e = absurd (other_begin 99 (waiting_line actor.Device w ++ us) _ refl refl e)
    by actor.Compositor (actor.App k) own other first second e = absurd (other_begin 116 (waiting_line actor.Compositor w ++ us) _ refl refl e)
    by actor.Compositor actor.Device own other first second e = absurd (other_begin 100 (waiting_line actor.Compositor w ++ us) _ refl refl e)
    by actor.Compositor actor.Compositor own other first second e = compositor_tells w x us vs own other first second e

-- ---- all lines

line_no_s : (who : Actor) (w : Waiting) (us : List ℕ) → begins 115 (waiting_line who w ++ us) ≡ false
line_no_s (actor.App number) w us = refl
line_no_s actor.Device w us = refl
line_no_s actor.Compositor w us = refl

abbrev AllPrintable : List Waiting → Type 0
AllPrintable ws = Each (λ (w : Waiting). IsWaitingPrintable w.actor w) ws

lines_tell : (ws xs : List Waiting) (us vs : List ℕ) → begins 115 us ≡ true → begins 115 vs ≡ true → AllPrintable ws → AllPrintable xs
    → waiting_lines ws ++ us ≡ waiting_lines xs ++ vs → ws ≡ xs
lines_tell [] [] us vs here there p q e = refl
lines_tell [] (x ∷ xs) us vs here there p q e =
    absurd (other_begin 115 (waiting_line x.actor x ++ (waiting_lines xs ++ vs)) us (line_no_s x.actor x _) here
    (sym (e ∙ append_assoc (waiting_line x.actor x) (waiting_lines xs) vs)))
lines_tell (w ∷ ws) [] us vs here there p q e =
    absurd (other_begin 115 (waiting_line w.actor w ++ (waiting_lines ws ++ us)) vs (line_no_s w.actor w _) there
    (sym (append_assoc (waiting_line w.actor w) (waiting_lines ws) us) ∙ e))
lines_tell (w ∷ ws) (x ∷ xs) us vs here there p q e =
    let one = waiting_tells w x (waiting_lines ws ++ us) (waiting_lines xs ++ vs) p.0 q.0
    (sym (append_assoc (waiting_line w.actor w) (waiting_lines ws) us) ∙ e ∙ append_assoc (waiting_line x.actor x) (waiting_lines xs) vs) in
    let more = lines_tell ws xs us vs here there p.1 q.1 one.1 in
    (λ i. one.0 i ∷ more i)

-- `status` is no `stuck`
no_block : (us vs : List ℕ) → codes "sta" ++ us ≡ codes "stu" ++ vs → ⊥
no_block us vs e = omega (arith, same_first 97 117 us vs (append_cancel_left (codes "st") (97 ∷ us) (117 ∷ vs) e))

stuck_tells : (ws xs : List Waiting) (lists others : Lists) → AllPrintable ws → AllPrintable xs
    → stuck_block ws ++ status_line lists ≡ stuck_block xs ++ status_line others → ws ≡ xs
stuck_tells [] [] lists others p q e = refl
stuck_tells [] (x ∷ xs) lists others p q e = absurd (no_block _ _ e)
stuck_tells (w ∷ ws) [] lists others p q e = absurd (no_block _ _ (sym e))
stuck_tells (w ∷ ws) (x ∷ xs) lists others p q e =
    lines_tell (w ∷ ws) (x ∷ xs) (status_line lists) (status_line others) refl refl p q
    (append_cancel_left (codes "stuck\n") _ _
    (sym (append_assoc (codes "stuck\n") (waiting_lines (w ∷ ws)) (status_line lists)) ∙ e
    ∙ append_assoc (codes "stuck\n") (waiting_lines (x ∷ xs)) (status_line others)))

pub reports_tell_who_is_stuck : ReportsTellWhoIsStuck
reports_tell_who_is_stuck lists others first second e =
    stuck_tells lists.next others.next lists others first.next second.next (events_then lists others first second e).1
