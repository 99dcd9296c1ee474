use Rattle.xr_command.specs.Reads.{shown}
use Rattle.xr_drive.proofs.Ended.{files_answered}
use Rattle.xr_drive_threads.specs.Top.{RanClosed}
use Rattle.xr_drive_threads.proofs.threads.run_threads.Goals as goal

pub returns-clause-answer : goal.returns-clause-answer
returns-clause-answer g c =
    let run = c.run_files-lists in
    let report = c.answer_files-status in
    rw c.in-Ok.ensures.form
    (files_answered (RanClosed run.result.closed) (shown c.in-Ok.options) (g.O.Opener.files c.args.opener.now) (g.O.Opener.files run.new.opener) (g.K.Sink.output c.args.sink.now) (g.K.Sink.output report.new.sink) run.result.lists report.result
    run.ensures.answer report.ensures.answer)
