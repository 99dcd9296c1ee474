-- What a text keeps when a line of it is used, and when a read of it fails.
use Rattle.std.proofs.Common.{◌≡◌, ◌≤◌, ◌<◌, ℕ, ◌+◌, ◌-◌, true, false, List, ◌++◌, length, take, drop, Option, Some, None, option_map, IfSome, refl, sym, ap, subst, ◌∙◌, arith, length-append}
use Rattle.std.proofs.lemmas.List.{drop-drop, drop-append-le, length-drop}
use Rattle.xr_io.specs.Outside.{SourceState}
use Rattle.xr_types.specs.declared.device.DeviceEvent.{DeviceEvent}
use Rattle.xr_model.specs.device_text.DeviceText.{Meaning, skipped, tells, malformed, meaning_of}
use Rattle.xr_device.specs.FirstByte.{is_free_of}
use Rattle.xr_device.specs.Texts.{Reading, begins_at, text_from, StandsIn, UsedLines, SameText, IsClosed, IsFrontLine, IsInLimits}
use Rattle.xr_device.specs.WholeLines.{AreWholeLines, GaveWholeLines}
use Rattle.xr_device.proofs.WholeFronts.{count_with, UnlessMalformed, lines_more, gave_whole}

-- a line of this size was used, and then so many events are given
abbrev pub with_used : Reading → ℕ → ℕ → Reading
with_used r size given = record { number = r.number + 1; given = given; used = r.used + size; held = drop size r.held; ended = r.ended; source = r.source }

-- ---- what is held

stands_used : (used size : ℕ) (held left text : List ℕ) → size ≤ length held → StandsIn used held left text → StandsIn (used + size) (drop size held) left text
stands_used used size held left text within s =
    let rest : length (drop used text) ≡ length (held ++ left) = ap length s.rest in
    let both : length (held ++ left) ≡ length held + length left = length-append held left in
    let cut = length-drop used text in
    let enough = s.enough in record {
      enough = omega (arith, rest, both, cut, enough, within);
      rest = sym (drop-drop size used text) ∙ ap (drop size) s.rest ∙ drop-append-le size held left within;
    }

stands_on : (all : Option (List ℕ)) (used size taken begun begun2 : ℕ) (held : List ℕ) → size ≤ length held → begun ≡ begun2 → IfSome all (λ b. StandsIn used held (drop taken b) (drop begun b)) → IfSome all (λ b. StandsIn (used + size) (drop size held) (drop taken b) (drop begun2 b))
stands_on None used size taken begun begun2 held within same s = tt
stands_on (Some b) used size taken begun begun2 held within same s =
    subst (λ (p : ℕ). StandsIn (used + size) (drop size held) (drop taken b) (drop p b)) same (stands_used used size held (drop taken b) (drop begun b) within s)

begins_same : (r : Reading) (size given : ℕ) → size ≤ length r.held → begins_at r ≡ begins_at (with_used r size given)
begins_same r size given within = let cut = length-drop size r.held in omega (arith, cut, within)

pub same_used : (r : Reading) (size given : ℕ) → size ≤ length r.held → SameText r (with_used r size given)
same_used r size given within =
    let same : begins_at (with_used r size given) ≡ begins_at r = sym (begins_same r size given within) in record {
      begins = same;
      text = ap (λ (p : ℕ). text_from p r.source) same;
      which = refl;
    }

pub limits_used : (r : Reading) (size given : ℕ) → 0 < size → size ≤ length r.held → r.used + size ≤ 16777216 → given ≤ r.given + 1 → IsInLimits r → IsInLimits (with_used r size given)
limits_used r size given some within limit more k =
    let cut = length-drop size r.held in
    let lines = k.lines in
    let events = k.events in
    let few = k.few in
    let inside = k.within in record {
      lines = omega (arith, lines, some);
      events = omega (arith, events, some, more);
      limit = limit;
      few = omega (arith, few, cut, within);
      end = k.end;
      within = omega (arith, inside, cut, within);
      stands = stands_on r.source.bytes r.used size r.source.taken.count (begins_at r) (begins_at (with_used r size given)) r.held within (begins_same r size given within) k.stands;
    }

-- ---- whole lines

unless : (m : Meaning) → UnlessMalformed m (Unit {0})
unless skipped = tt
unless (tells e) = tt
unless malformed = tt

lines_on : (all : Option (List ℕ)) (used size bytes number given taken begun : ℕ) (held : List ℕ) (m : Meaning) → IfSome all (λ b. StandsIn used held (drop taken b) (drop begun b)) → IfSome (option_map (drop begun) all) (λ text. AreWholeLines (take used text) number given)
    → IsClosed held bytes size → size ≤ length held → used + size ≤ 16777216 → m ≡ meaning_of (take bytes held)
    → UnlessMalformed m (IfSome (option_map (drop begun) all) (λ text. AreWholeLines (take (used + size) text) (number + 1) (count_with m given)))
lines_on None used size bytes number given taken begun held m s w line within limit is = unless m
lines_on (Some b) used size bytes number given taken begun held m s w line within limit is = lines_more (drop begun b) held (drop taken b) used number given bytes size m s w line within limit is

module _ (r : Reading) (bytes size : ℕ) (k : IsInLimits r) (line : IsFrontLine r.used r.held r.ended bytes size) (u : UsedLines r) where
  -- a line that tells nothing
  pub skips_line : skipped ≡ meaning_of (take bytes r.held) → UsedLines (with_used r size r.given)
  skips_line is = λ unended.
      subst (λ (p : ℕ). IfSome (text_from p r.source) (λ text. AreWholeLines (take (r.used + size) text) (r.number + 1) r.given)) (begins_same r size r.given line.within)
      (lines_on r.source.bytes r.used size bytes r.number r.given r.source.taken.count (begins_at r) r.held skipped k.stands (u unended) (line.closed unended) line.within line.limit is)

  pub tells_line : (e : DeviceEvent) → tells e ≡ meaning_of (take bytes r.held) → UsedLines (with_used r size (r.given + 1))
  tells_line e is = λ unended.
      subst (λ (p : ℕ). IfSome (text_from p r.source) (λ text. AreWholeLines (take (r.used + size) text) (r.number + 1) (r.given + 1))) (begins_same r size (r.given + 1) line.within)
      (lines_on r.source.bytes r.used size bytes r.number r.given r.source.taken.count (begins_at r) r.held (tells e) k.stands (u unended) (line.closed unended) line.within line.limit is)

-- ---- a read that fails

gave_on : (all : Option (List ℕ)) (used number given taken begun : ℕ) (held : List ℕ) → IfSome all (λ b. StandsIn used held (drop taken b) (drop begun b)) → IfSome (option_map (drop begun) all) (λ text. AreWholeLines (take used text) number given)
    → is_free_of 10 held ≡ true → GaveWholeLines (option_map (drop begun) all) (used + length held) given
gave_on None used number given taken begun held s w free = tt
gave_on (Some b) used number given taken begun held s w free = gave_whole (drop begun b) held (drop taken b) used number given s w free

pub fails_behind : (r : Reading) (held : List ℕ) (source : SourceState) → held ≡ r.held → source.bytes ≡ r.source.bytes → source.taken.count ≡ r.source.taken.count + 0 → IsInLimits r → is_free_of 10 r.held ≡ true → r.ended ≡ false → UsedLines r
    → GaveWholeLines (text_from (source.taken.count - (r.used + length held)) source) (r.used + length held) r.given
fails_behind r held source same bytes taken k free unended u =
    let place : r.source.taken.count - (r.used + length r.held) ≡ source.taken.count - (r.used + length r.held) = omega (arith, taken) in
    rw (same, bytes)
    (subst (λ (p : ℕ). GaveWholeLines (option_map (drop p) r.source.bytes) (r.used + length r.held) r.given) place
    (gave_on r.source.bytes r.used r.number r.given r.source.taken.count (begins_at r) r.held k.stands (u unended) free))
