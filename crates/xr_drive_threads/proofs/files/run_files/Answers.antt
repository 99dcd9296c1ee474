use Rattle.std.proofs.Common.{◌≡◌, ◌∙◌, [], ap, sym, subst}
use Rattle.xr_device.specs.Kinds.{Stored}
use Rattle.xr_command.specs.Reads.{shown}
use Rattle.xr_drive.specs.Files.{FilesAnswer}
use Rattle.xr_drive_threads.specs.declared.files.FilesRun.{FilesRun}
use Rattle.xr_drive_threads.specs.Top.{RanClosed}
use Rattle.xr_drive_threads.proofs.RunAnswers.{run_alone, run_beside}
use Rattle.xr_drive_threads.proofs.files.run_files.Goals as goal

pub returns-clause-answer : goal.returns-clause-answer
returns-clause-answer g c =
    let files = g.O.Opener.files in
    let options = c.args.options.now in
    let beside = c.in-Ok-open_beside.beside in
    let ran = c.run-run.ensures in
    subst (λ (r : FilesRun). FilesAnswer (RanClosed r.closed) (shown options) (files c.args.opener.now) (files c.close_device.new.opener) r.lists) (sym c.of-2.ensures)
    (rw c.in-Some.is
    (run_beside options.file.now c.in-Some.name.now options.places (files c.args.opener.now) (files c.open_beside.new.opener) (files c.close_device.new.opener) beside.scenario beside.device c.run-run.new.device
    c.in-Ok-open_beside.ensures.ready ran.reads c.close_device.ensures c.run-run.result ran.ran ran.fault ran.unfailed ran.failed))

pub returns-in_default-clause-answer : goal.returns-in_default-clause-answer
returns-in_default-clause-answer g c =
    let files = g.O.Opener.files in
    let options = c.args.options.now in
    let empty : c.new-none.result.events ≡ [] = ap (λ (s : Stored). s.events) c.new-none.ensures ∙ c.new.ensures.items in
    subst (λ (r : FilesRun). FilesAnswer (RanClosed r.closed) (shown options) (files c.args.opener.now) (files c.open_alone.new.opener) r.lists) (sym c.of.ensures)
    (rw c.in_default.is
    (run_alone options.file.now options.places (files c.args.opener.now) (files c.open_alone.new.opener) c.in-Ok.scenario c.in-Ok.ensures.ready c.new-none.result c.run.new.device empty c.run.result c.run.ensures.ran c.run.ensures.fault))
