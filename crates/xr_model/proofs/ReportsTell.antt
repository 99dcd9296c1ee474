-- The lines of a report tell the calls and what they were answered.
use Rattle.std.proofs.Common.{arith, ◌≡◌, ◌+◌, ◌==◌, not, zero, suc, ℕ, ℤ, Bool, true, false, List, [], ◌∷◌, ◌++◌, length, take, refl, sym, ap, ◌∙◌, true≢false}
use Rattle.std.specs.Prelude.{nat_le, codes, decimal, if◌then◌else◌}
use Rattle.std.specs.List.{list_all}
use Rattle.std.specs.Fmt.{signed_decimal}
use Rattle.std.proofs.lemmas.List.{append_assoc, append_cancel_left, append_cancel_right}
use Rattle.std.proofs.lemmas.Fmt.{decimal_injective}
use Rattle.xr_types.specs.declared.calls.Gives.{Gives}
use Rattle.xr_types.specs.declared.calls.Gives.TheVariants as gives
use Rattle.xr_types.specs.declared.code.Code.{Code}
use Rattle.xr_types.specs.declared.code.Code.TheVariants as code
use Rattle.xr_types.specs.declared.limits.TheConstants.{MOST_HANDLE_MARK}
use Rattle.xr_types.specs.declared.made.Lists.{Lists}
use Rattle.xr_types.specs.declared.made.Made.{Made}
use Rattle.xr_types.specs.declared.names.CallName.{CallName}
use Rattle.xr_types.specs.declared.names.CallName.TheVariants as call
use Rattle.xr_types.specs.declared.session.Event.TheVariants as event
use Rattle.xr_types.specs.declared.session.SessionState.{SessionState}
use Rattle.xr_types.specs.declared.session.SessionState.TheVariants as state
use Rattle.xr_types.specs.declared.spaces.Location.TheVariants as location
use Rattle.xr_types.specs.Code.{name_of_code}
use Rattle.xr_types.specs.Op.{name_of_call}
use Rattle.xr_types.specs.Printed.{state_name}
use Rattle.xr_model.specs.scenario.InRange.{Each}
use Rattle.xr_model.specs.report.Report.{lines_of, threads_from, frames_from, device_block, stuck_block, status_line, report_of}
use Rattle.xr_model.specs.report.ReportLines.{call_line, ended_line}
use Rattle.xr_model.specs.report.ReportValues.{flag, number_values, mark_values, size_values, text_behind, text_values, event_values, frame_values, boolean_values, float_values, vector_values, active_values, location_values, success_values, too_small_values, values_at, values_of}
use Rattle.xr_model.specs.laws.ReportLaws.{has_no_at, IsPrintable, AnsweredAlike, AllAnsweredAlike, ScriptsAnsweredAlike, ReportsTellTheCalls}
use Rattle.xr_model.proofs.Rows.{both_of, same_key}
use Rattle.xr_model.proofs.DistinctNames.{names_are_distinct}
use Rattle.xr_model.proofs.Cuts.{Free, free_both, same_first, cut, decimal_free, signed_free, begins_digit, number_begins}

-- ---- what stands in values

-- values are nothing, or stand behind a space
abbrev starts : List ℕ → Bool
starts [] = true
starts (b ∷ bs) = b == 32

-- they have no `@`
abbrev IsPlain : List ℕ → Type 0
IsPlain text = Free 64 text × (starts text ≡ true)

decimal_plain : (n : ℕ) → Free 64 (decimal n)
decimal_plain n = decimal_free 64 n refl

signed_plain : (z : ℤ) → Free 64 (signed_decimal z)
signed_plain z = signed_free 64 z refl refl

flag_plain : (b : Bool) → Free 64 (flag b)
flag_plain true = refl
flag_plain false = refl

state_plain : (s : SessionState) → Free 64 (state_name s)
state_plain state.Idle = refl
state_plain _ = refl

free_take : (k : ℕ) (text : List ℕ) → Free 64 text → Free 64 (take k text)
free_take zero text free = refl
free_take (suc k) [] free = refl
free_take (suc k) (b ∷ bs) free =
    let both = both_of (not (b == 64)) (list_all (λ x. not (x == 64)) bs) free in
    rw (both.0, free_take k bs both.1) refl

number_plain : (g : Gives) → IsPlain (number_values g)
number_plain (gives.Number n) = (decimal_plain n, refl)
number_plain _ = (refl, refl)

mark_plain : (mark : ℕ) (g : Gives) → IsPlain (mark_values mark g)
mark_plain mark g = by (nat_le mark MOST_HANDLE_MARK)
  where
    by : (b : Bool) → IsPlain (if b then [] else number_values g)
    by true = (refl, refl)
    by false = number_plain g

size_plain : (g : Gives) → IsPlain (size_values g)
size_plain (gives.Size n) = (decimal_plain n, refl)
size_plain _ = (refl, refl)

behind_plain : (text : List ℕ) → has_no_at text ≡ true → Free 64 (text_behind text)
behind_plain [] none = refl
behind_plain (b ∷ bs) none = free_take (length bs) (b ∷ bs) none

text_plain : (g : Gives) (text : List ℕ) → has_no_at text ≡ true → IsPlain (text_values g text)
text_plain (gives.Size n) text none = (free_both 64 (decimal n) (text_behind text) (decimal_plain n) (behind_plain text none), refl)
text_plain _ text none = (refl, refl)

event_plain : (g : Gives) → IsPlain (event_values g)
event_plain (gives.Event (event.Lost n)) = (decimal_plain n, refl)
event_plain (gives.Event (event.State ordinal session s)) = (search (free_both, decimal_plain, state_plain) depth 12, refl)
event_plain _ = (refl, refl)

frame_plain : (g : Gives) → IsPlain (frame_values g)
frame_plain (gives.Frame f) = (search (free_both, signed_plain, flag_plain) depth 12, refl)
frame_plain _ = (refl, refl)

boolean_plain : (g : Gives) → IsPlain (boolean_values g)
boolean_plain (gives.Boolean s) = (search (free_both, signed_plain, flag_plain) depth 12, refl)
boolean_plain _ = (refl, refl)

float_plain : (g : Gives) → IsPlain (float_values g)
float_plain (gives.Float s) = (search (free_both, signed_plain, flag_plain) depth 12, refl)
float_plain _ = (refl, refl)

vector_plain : (g : Gives) → IsPlain (vector_values g)
vector_plain (gives.Vector s) = (search (free_both, signed_plain, flag_plain) depth 12, refl)
vector_plain _ = (refl, refl)

active_plain : (g : Gives) → IsPlain (active_values g)
active_plain (gives.Active a) = (flag_plain a, refl)
active_plain _ = (refl, refl)

location_plain : (g : Gives) → IsPlain (location_values g)
location_plain (gives.Location location.Missing) = (refl, refl)
location_plain (gives.Location (location.Factors base_offset base_sample sample offset)) = (search (free_both, decimal_plain) depth 12, refl)
location_plain _ = (refl, refl)

success_plain : (c : CallName) (m : Made) → has_no_at m.text ≡ true → IsPlain (success_values c m)
-- rows: success_plain
success_plain call.GetSystem m none = number_plain m.reply.gives
success_plain call.StringToPath m none = number_plain m.reply.gives
success_plain call.AcquireImage m none = number_plain m.reply.gives
success_plain call.PathToString m none = text_plain m.reply.gives m.text none
success_plain call.PollEvent m none = event_plain m.reply.gives
success_plain call.LocateSpace m none = location_plain m.reply.gives
success_plain call.GetBoolean m none = boolean_plain m.reply.gives
success_plain call.GetFloat m none = float_plain m.reply.gives
success_plain call.GetVector m none = vector_plain m.reply.gives
success_plain call.GetPoseActive m none = active_plain m.reply.gives
success_plain call.WaitFrame m none = frame_plain m.reply.gives
success_plain call.Await m none = mark_plain m.mark m.reply.gives
-- rows: end
success_plain _ m none = (refl, refl)

too_small_plain : (c : CallName) (g : Gives) → IsPlain (too_small_values c g)
too_small_plain call.PathToString g = size_plain g
too_small_plain _ g = (refl, refl)

values_plain : (m : Made) → has_no_at m.text ≡ true → IsPlain (values_of m)
values_plain m none = by m.reply.code
  where
    by : (c : Code) → IsPlain (values_at c m)
    by code.Success = success_plain m.name m none
    by code.SessionLossPending = success_plain m.name m none
    by code.SizeInsufficient = too_small_plain m.name m.reply.gives
    by _ = (refl, refl)

-- ---- names

pub name_free : (c : CallName) → Free 32 (name_of_call c)
name_free call.CreateInstance = refl
name_free _ = refl

code_free : (c : Code) → Free 32 (name_of_code c)
code_free code.Success = refl
code_free _ = refl

code_plain : (c : Code) → Free 64 (name_of_code c)
code_plain code.Success = refl
code_plain _ = refl

-- ---- lines

spread : (op name c values place rest : List ℕ)
    → (((((((op ++ codes " ") ++ name) ++ codes " ") ++ c) ++ values) ++ (codes " @" ++ place)) ++ codes "\n") ++ rest
    ≡ op ++ 32 ∷ (name ++ 32 ∷ (((c ++ values) ++ 32 ∷ []) ++ 64 ∷ (place ++ 10 ∷ rest)))
spread op name c values place rest = simp append_assoc refl

-- a line's parts, and what comes behind
abbrev line_then : Made → List ℕ → List ℕ
line_then m rest =
    decimal m.op ++ 32 ∷ (name_of_call m.name ++ 32 ∷ (((name_of_code m.reply.code ++ values_of m) ++ 32 ∷ []) ++ 64 ∷ (decimal m.reply.place ++ 10 ∷ rest)))

line_is : (m : Made) (ms : List Made) (rest : List ℕ) → lines_of true (m ∷ ms) ++ rest ≡ line_then m (lines_of true ms ++ rest)
line_is m ms rest =
    append_assoc (call_line true m) (lines_of true ms) rest
    ∙ spread (decimal m.op) (name_of_call m.name) (name_of_code m.reply.code) (values_of m) (decimal m.reply.place) (lines_of true ms ++ rest)

line_begins : (m : Made) (ms : List Made) (rest : List ℕ) → begins_digit (lines_of true (m ∷ ms) ++ rest) ≡ true
line_begins m ms rest = ap begins_digit (line_is m ms rest) ∙ number_begins m.op _

-- values, and a space behind them, stand behind a space
abbrev behind_space : List ℕ → List ℕ
behind_space [] = []
behind_space (b ∷ bs) = bs ++ 32 ∷ []

space_first : (values : List ℕ) → starts values ≡ true → values ++ 32 ∷ [] ≡ 32 ∷ behind_space values
space_first [] first = refl
space_first (b ∷ bs) first = ap (λ x. x ∷ (bs ++ 32 ∷ [])) (same_key b 32 first)

-- a code and its values
code_and_values : (c d : Code) (us vs : List ℕ) → IsPlain us → IsPlain vs → (name_of_code c ++ us) ++ 32 ∷ [] ≡ (name_of_code d ++ vs) ++ 32 ∷ [] → (c ≡ d) × (us ≡ vs)
code_and_values c d us vs first second e =
    let one = append_assoc (name_of_code c) us (32 ∷ []) ∙ ap (λ l. name_of_code c ++ l) (space_first us first.1) in
    let other = append_assoc (name_of_code d) vs (32 ∷ []) ∙ ap (λ l. name_of_code d ++ l) (space_first vs second.1) in
    let parts = cut 32 (name_of_code c) (name_of_code d) (behind_space us) (behind_space vs) (code_free c) (code_free d) (sym one ∙ e ∙ other) in (
      names_are_distinct.codes c d parts.0,
      append_cancel_right us vs (32 ∷ []) (space_first us first.1 ∙ ap (λ l. 32 ∷ l) parts.1 ∙ sym (space_first vs second.1)),
    )

part_plain : (m : Made) → has_no_at m.text ≡ true → Free 64 ((name_of_code m.reply.code ++ values_of m) ++ 32 ∷ [])
part_plain m none =
    free_both 64 (name_of_code m.reply.code ++ values_of m) (32 ∷ [])
    (free_both 64 (name_of_code m.reply.code) (values_of m) (code_plain m.reply.code) (values_plain m none).0) refl

-- one line
line_tells : (m n : Made) (us vs : List ℕ) → IsPrintable m → IsPrintable n → line_then m us ≡ line_then n vs → AnsweredAlike m n × (us ≡ vs)
line_tells m n us vs first second e =
    let op = cut 32 (decimal m.op) (decimal n.op) _ _ (decimal_free 32 m.op refl) (decimal_free 32 n.op refl) e in
    let name = cut 32 (name_of_call m.name) (name_of_call n.name) _ _ (name_free m.name) (name_free n.name) op.1 in
    let part = cut 64 ((name_of_code m.reply.code ++ values_of m) ++ 32 ∷ []) ((name_of_code n.reply.code ++ values_of n) ++ 32 ∷ []) _ _
    (part_plain m first.text) (part_plain n second.text) name.1 in
    let place = cut 10 (decimal m.reply.place) (decimal n.reply.place) us vs (decimal_free 10 m.reply.place refl) (decimal_free 10 n.reply.place refl) part.1 in
    let both = code_and_values m.reply.code n.reply.code (values_of m) (values_of n) (values_plain m first.text) (values_plain n second.text) part.0 in (
      record {
        op = decimal_injective m.op n.op first.op second.op op.0;
        called = names_are_distinct.calls m.name n.name name.0;
        code = both.0;
        values = both.1;
        place = decimal_injective m.reply.place n.reply.place first.place second.place place.0;
      },
      place.1,
    )

-- the lines of a script, with what comes behind them, which is no such line
pub lines_tell : (ms ns : List Made) (us vs : List ℕ) → Each IsPrintable ms → Each IsPrintable ns → begins_digit us ≡ false → begins_digit vs ≡ false
    → lines_of true ms ++ us ≡ lines_of true ns ++ vs → AllAnsweredAlike ms ns × (us ≡ vs)
lines_tell [] [] us vs first second none other e = (tt, e)
lines_tell [] (n ∷ ns) us vs first second none other e = absurd (true≢false (sym (line_begins n ns vs) ∙ ap begins_digit (sym e) ∙ none))
lines_tell (m ∷ ms) [] us vs first second none other e = absurd (true≢false (sym (line_begins m ms us) ∙ ap begins_digit e ∙ other))
lines_tell (m ∷ ms) (n ∷ ns) us vs first second none other e =
    let one = line_tells m n (lines_of true ms ++ us) (lines_of true ns ++ vs) first.0 second.0 (sym (line_is m ms us) ∙ e ∙ line_is n ns vs) in
    let more = lines_tell ms ns us vs first.1 second.1 none other one.1 in
    ((one.0, more.0), more.1)

-- ---- the scripts of a report

thread_spread : (head lines later rest : List ℕ) → ((head ++ lines) ++ later) ++ rest ≡ head ++ (lines ++ (later ++ rest))
thread_spread head lines later rest = simp append_assoc refl

-- behind a script comes another, or the compositor
thread_no_digit : (number : ℕ) (scripts : List (List Made)) (rest : List ℕ) → begins_digit (threads_from true number scripts ++ 99 ∷ rest) ≡ false
thread_no_digit number [] rest = refl
thread_no_digit number (ms ∷ scripts) rest = refl

other_byte : (us vs : List ℕ) → 99 ∷ us ≡ 116 ∷ vs → ⊥
other_byte us vs e = omega (arith, same_first 99 116 us vs e)

-- the blocks of the scripts, with what comes behind them
pub threads_tell : (number : ℕ) (scripts others : List (List Made)) (us vs : List ℕ) → Each (Each IsPrintable) scripts → Each (Each IsPrintable) others
    → threads_from true number scripts ++ 99 ∷ us ≡ threads_from true number others ++ 99 ∷ vs → ScriptsAnsweredAlike scripts others × (99 ∷ us ≡ 99 ∷ vs)
threads_tell number [] [] us vs first second e = (tt, e)
threads_tell number [] (ns ∷ others) us vs first second e = absurd (other_byte us _ e)
threads_tell number (ms ∷ scripts) [] us vs first second e = absurd (other_byte vs _ (sym e))
threads_tell number (ms ∷ scripts) (ns ∷ others) us vs first second e =
    let head = (codes "thread " ++ decimal number) ++ codes "\n" in
    let one = thread_spread head (lines_of true ms) (threads_from true (number + 1) scripts) (99 ∷ us) in
    let other = thread_spread head (lines_of true ns) (threads_from true (number + 1) others) (99 ∷ vs) in
    let behind = append_cancel_left head _ _ (sym one ∙ e ∙ other) in
    let lines = lines_tell ms ns (threads_from true (number + 1) scripts ++ 99 ∷ us) (threads_from true (number + 1) others ++ 99 ∷ vs) first.0 second.0
    (thread_no_digit (number + 1) scripts us) (thread_no_digit (number + 1) others vs) behind in
    let more = threads_tell (number + 1) scripts others us vs first.1 second.1 lines.1 in
    ((lines.0, more.0), more.1)

report_spread : (head threads frames ended device stuck status : List ℕ)
    → ((((head ++ threads) ++ ((codes "compositor\n" ++ frames) ++ ended)) ++ device) ++ stuck) ++ status
    ≡ head ++ (threads ++ (codes "compositor\n" ++ (frames ++ (ended ++ (device ++ (stuck ++ status))))))
report_spread head threads frames ended device stuck status = simp append_assoc refl

-- a report behind its first line
abbrev pub report_behind : Lists → List ℕ
report_behind lists =
    frames_from true lists.shown 0 lists.compositor ++ (ended_line true lists.ended ++ (device_block true lists.events lists.device
    ++ (stuck_block lists.next ++ status_line lists)))

report_is : (lists : Lists) → report_of lists true ≡ codes "xrsim report 1\n" ++ (threads_from true 1 lists.apps ++ (codes "compositor\n" ++ report_behind lists))
report_is lists =
    report_spread (codes "xrsim report 1\n") (threads_from true 1 lists.apps) (frames_from true lists.shown 0 lists.compositor) (ended_line true lists.ended)
    (device_block true lists.events lists.device) (stuck_block lists.next) (status_line lists)

pub reports_tell : (lists others : Lists) → Each (Each IsPrintable) lists.apps → Each (Each IsPrintable) others.apps → report_of lists true ≡ report_of others true
    → ScriptsAnsweredAlike lists.apps others.apps × (codes "compositor\n" ++ report_behind lists ≡ codes "compositor\n" ++ report_behind others)
reports_tell lists others first second e =
    threads_tell 1 lists.apps others.apps _ _ first second
    (append_cancel_left (codes "xrsim report 1\n") _ _ (sym (report_is lists) ∙ e ∙ report_is others))

pub reports_tell_the_calls : ReportsTellTheCalls
reports_tell_the_calls lists others first second e = (reports_tell lists others first second e).0
