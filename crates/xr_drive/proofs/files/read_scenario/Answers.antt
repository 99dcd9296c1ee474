use Rattle.std.proofs.Common.{◌≡◌, take, IfSome, arith}
use Rattle.xr_drive.proofs.Runs.{scenario_whole, refused_text}
use Rattle.xr_drive.proofs.files.read_scenario.Goals as goal

pub returns-in-Ok-read-clause-read : goal.returns-in-Ok-read-clause-read
returns-in-Ok-read-clause-read g c =
    let all : IfSome (g.O.S.Source.state c.args.source).bytes (λ bytes. c.as_slice.result.now ≡ take 1048577 bytes) = rw c.as_slice.ensures.value c.in-Ok.ensures.bytes in
    let read = c.in-Ok-read.ensures in
    let few = read.few in
    record {
      text = c.as_slice.result.now;
      is_all = scenario_whole _ c.as_slice.result.now c.in-Ok-read.scenario all read.reads;
      reads = read.reads;
      can = record { some = read.count.0; most = read.count.1; few = omega (arith, few); formed = read.formed };
    }

pub returns-clause-unread : goal.returns-clause-unread
returns-clause-unread g c =
    let all : IfSome (g.O.S.Source.state c.args.source).bytes (λ bytes. c.as_slice.result.now ≡ take 1048577 bytes) = rw c.as_slice.ensures.value c.in-Ok.ensures.bytes in
    rw c.of_scenario.ensures (refused_text _ c.as_slice.result.now (g.O.Opener.files c.args.opener.now) (g.O.Opener.files c.read_text.new.opener) c.in-Err-read.fault all c.in-Ok.ensures.counts c.in-Err-read.ensures.reads)
