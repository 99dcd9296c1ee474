use Rattle.std.proofs.Common.{rules, ◌≡◌, subst, List, ℕ, take, Option, IfSome, Ok, Err}
use Rattle.xr_io.specs.declared.Which.TheVariants as which
use Rattle.xr_drive.proofs.DeviceRead.{left_fresh, closed_read}
use Rattle.xr_drive.proofs.files.read_text.Goals as goal

pub returns-in-Ok-clause-bytes : goal.returns-in-Ok-clause-bytes
returns-in-Ok-clause-bytes g c =
    subst (λ (b : Option (List ℕ)). IfSome b (λ bytes. c.in-Ok.text.items ≡ take 1048577 bytes)) (left_fresh (g.O.S.Source.state c.args.source) which.Scenario c.requires.fresh) c.in-Ok.ensures.bytes

pub returns-in-Ok-clause-out : goal.returns-in-Ok-clause-out
returns-in-Ok-clause-out g c = record {
  asked = search rules;
  opens = search rules;
  reads = search rules;
  within = closed_read (g.O.S.Source.state c.args.source) (g.O.S.Source.state c.read_all.new.source) which.Scenario (Ok c.in-Ok.text) (g.O.Opener.files c.args.opener.now) (g.O.Opener.files c.close.new.self) c.requires.fresh c.in-Ok.ensures.which c.in-Ok.ensures.taken c.close.ensures;
  untaken = search rules;
  closed = search rules;
  stays = search rules;
  same = search rules;
}

pub returns-in-Err-clause-out : goal.returns-in-Err-clause-out
returns-in-Err-clause-out g c = record {
  asked = search rules;
  opens = search rules;
  reads = search rules;
  within = closed_read (g.O.S.Source.state c.args.source) (g.O.S.Source.state c.read_all.new.source) which.Scenario (Err c.in-Err.stop) (g.O.Opener.files c.args.opener.now) (g.O.Opener.files c.close-in-Err.new.self) c.requires.fresh c.in-Err.ensures.which c.in-Err.ensures.taken c.close-in-Err.ensures;
  untaken = search rules;
  closed = search rules;
  stays = search rules;
  same = search rules;
}
