use Rattle.std.proofs.Common.{◌≡◌, ◌≤◌, ◌<◌, ◌+◌, true, length, take, inl, inr, refl, true≢false, sym, ap, ◌∙◌, arith}
use Rattle.std.proofs.lemmas.Bool.Decides.{nat_tests}
use Rattle.std.proofs.lemmas.List.{length-take, take_all}
use Rattle.xr_device.specs.FirstByte.{is_free_of, IsFirstAt}
use Rattle.xr_device.proofs.FirstBytes.{first_in_front}
use Rattle.xr_device.proofs.TextLines.{past_at, line_at, late_front, line_open}
use Rattle.xr_device.proofs.lines.front_of.Goals as goal

pub returns-then-used-size-gt-MOST_DEVICE : goal.returns-then-used-size-gt-MOST_DEVICE
returns-then-used-size-gt-MOST_DEVICE c =
    let held = c.args.held.now in
    let i = c.in-Some.bytes in
    let at : IsFirstAt 10 held i = first_in_front 10 held c.min.result i c.in-Some.ensures in
    λ number rest end. past_at number c.args.used held rest i at (omega arith)

pub returns-in-Some : goal.returns-in-Some
returns-in-Some c =
    let held = c.args.held.now in
    let i = c.in-Some.bytes in
    let n = c.min.result in
    let seen : IsFirstAt 10 (take n held) i = c.in-Some.ensures in
    let at : IsFirstAt 10 held i = first_in_front 10 held n i seen in
    let inside = at.within in
    let near = seen.within in
    let len = length-take n held in
    let few : i ≤ 255 = omega arith in
    let fits : c.args.used + (i + 1) ≤ 16777216 = omega arith in record {
      some = omega arith;
      within = omega arith;
      short = omega arith;
      limit = fits;
      closed = λ more. record { first = at; few = few; sized = refl };
      told = λ number rest end. line_at number c.args.used held rest i at few fits;
    }

pub returns-then-seen-gt-MOST_LINE : goal.returns-then-seen-gt-MOST_LINE
returns-then-seen-gt-MOST_LINE c =
    λ number rest end. late_front number c.args.used c.args.held.now rest c.min.result c.in_default.ensures c.requires.used (inl (omega arith))

pub returns-then-used-seen-gt-MOST_DEVICE : goal.returns-then-used-seen-gt-MOST_DEVICE
returns-then-used-seen-gt-MOST_DEVICE c =
    λ number rest end. late_front number c.args.used c.args.held.now rest c.min.result c.in_default.ensures c.requires.used (inr (omega arith))

pub returns : goal.returns
returns c =
    let held = c.args.held.now in
    let n = c.min.result in
    let len = length-take n held in
    let all : take n held ≡ held = take_all n held (omega arith) in
    let free : is_free_of 10 held ≡ true = ap (is_free_of 10) (sym all) ∙ c.in_default.ensures in
    let same : length (take n held) ≡ length held = ap length all in
    let seen : 0 < length (take n held) = grind (arith, nat_tests, c.if-is_empty.ensures) in
    let some : 0 < length held = omega arith in
    let few : length held ≤ 255 = omega arith in
    let fits : c.args.used + length held ≤ 16777216 = omega arith in
    rw same (record {
      some = some;
      within = omega arith;
      short = omega arith;
      limit = fits;
      closed = λ more. absurd (true≢false (sym c.if-not-ended.false ∙ more));
      told = λ number rest end. line_open number c.args.used held rest free some few fits (end c.if-not-ended.false);
    })
