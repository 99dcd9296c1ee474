use Rattle.std.proofs.Common.{◌<◌, ◌≤◌, ◌+◌, ◌-◌, ◌*◌, length, get_or, drop, sym, ap, ◌∙◌, arith}
use Rattle.xr_device.specs.inside.Said.{up_to}
use Rattle.xr_device.proofs.Digits.{digits_step, up_to-past}
use Rattle.xr_device.proofs.numbers.digits.Goals as goal

pub returns-then-number-gt-TENTH : goal.returns-then-number-gt-TENTH
returns-then-number-gt-TENTH c =
    let word = c.args.word.now in
    let i = c.loop-b.b-index in
    let n = c.loop-b.number in
    let within : i < length word = omega arith in
    let low : 48 ≤ get_or word i 0 = omega arith in
    let high : get_or word i 0 ≤ 57 = omega arith in
    let past : c.args.most < n * 10 + (get_or word i 0 - 48) = omega arith in
    sym (ap (up_to c.args.most) (sym c.loop-b.invariant.rest ∙ digits_step word i n within low high) ∙ up_to-past c.args.most (n * 10 + (get_or word i 0 - 48)) (drop (i + 1) word) past)
