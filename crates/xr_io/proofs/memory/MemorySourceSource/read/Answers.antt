use Rattle.std.proofs.Common.{rules, ◌≡◌, ◌≤◌, ◌+◌, ◌∙◌, ap, length, take, drop, min, arith}
use Rattle.std.proofs.lemmas.List.{take_rest}
use Rattle.xr_io.proofs.BytesLeft.{consumed, at_end}
use Rattle.xr_io.proofs.memory.MemorySourceSource.read.Goals as goal

pub returns-clause-read : goal.returns-clause-read
returns-clause-read c =
    let at = c.self.inside in
    let n = c.min-count.result in
    let bytes = at.bytes.now in
    let rest = drop n c.args.buf.now in
    let whole = take_rest bytes at.taken in
    let within : at.taken + n ≤ length bytes = search (rules, arith) in
    let front : c.copy_from_slice.new.self ≡ take n (drop at.taken bytes) = c.copy_from_slice.ensures.after ∙ ap (take n) whole in
    let count : n ≡ min (length c.args.buf.now) (length (drop at.taken bytes)) = search rules ∙ ap (λ l. min (length c.args.buf.now) (length l)) whole in
    record {
      bound = search rules;
      bytes = rw (← c.self.view_is) (consumed bytes c.copy_from_slice.new.self rest at.taken n within front, λ none some. at_end bytes at.taken n (length c.args.buf.now) c.self.invariant count none (search (rules, arith)));
      all = search rules;
      taken = search rules;
      over = search rules;
      cause = search rules;
      kept = search rules;
      which = search rules;
    }
