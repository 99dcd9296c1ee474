-- The number of a text, or that it tells none.
use Rattle.std.proofs.Common.{◌≤◌, sym, subst, arith}
use Rattle.xr_command.proofs.LoadNumbers.{frames_told, frames_untold}
use Rattle.xr_command.proofs.frames_of.Goals as goal

pub returns-in_default : goal.returns-in_default
returns-in_default c = sym (frames_untold c.args.text.now (λ h. c.in_default.ensures.value.0 (h.0, h.1)))

pub returns : goal.returns
returns c =
    let read = c.in-Ok.ensures.value.0 in
    sym (frames_told c.args.text.now c.in-Ok.frames read.0.0 read.0.1 read.1
    (grind (arith, c.if-frames-eq0.false)) (subst (λ m. c.in-Ok.frames ≤ m) c.from.ensures c.if-frames-from.false))
