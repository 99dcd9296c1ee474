use Rattle.std.proofs.Common.{rules, ◌≤◌, ◌+◌, ◌-◌, ◌∙◌, length, take, sym, ap, arith}
use Rattle.std.specs.List.{copy_within}
use Rattle.xr_device.proofs.HeldBytes.{read_behind, with_room}
use Rattle.xr_device.proofs.held.Held.read_from.Goals as goal

pub returns-clause-read : goal.returns-clause-read
returns-clause-read g c =
    let at = c.self.inside in
    let n = c.in-Ok.count in
    let buf = c.read.new.buf in
    let room = c.deref_mut.ensures.value in
    let moved = c.deref_mut-2.ensures.value in
    let within : at.end ≤ length at.bytes.value = rw (← room) (omega arith) in
    let bound = c.in-Ok.ensures.bound in
    record {
      bytes = (
        take n buf,
        sym bound.1,
        read_behind at.bytes.value c.deref_mut-2.result.now buf c.args.self.now at.start at.end (at.end - at.start + c.args.most - (at.end - at.start)) n c.self.invariant.0 within c.self.view_is
            (moved ∙ c.copy_within.ensures.after ∙ ap (λ b. copy_within b at.start at.end 0) room)
            (ap length moved ∙ c.copy_within.ensures.len ∙ ap length room) bound.0,
        c.in-Ok.ensures.bytes.0,
      );
      end = search (rules, arith);
      kept = search rules;
      all = c.in-Ok.ensures.all;
      taken = c.in-Ok.ensures.taken;
      over = c.in-Ok.ensures.over ∙ with_room _ n (length buf) (search (rules, arith));
      cause = c.in-Ok.ensures.cause;
      count = c.in-Ok.ensures.kept;
      which = c.in-Ok.ensures.which;
    }
