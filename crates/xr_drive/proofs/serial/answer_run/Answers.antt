use Rattle.xr_command.specs.Reads.{shown}
use Rattle.xr_serial.specs.Ran.{Ran}
use Rattle.xr_drive.proofs.Ended.{files_answered}
use Rattle.xr_drive.proofs.serial.answer_run.Goals as goal

pub returns : goal.returns
returns g c =
    files_answered Ran (shown c.args.options.now) (g.O.Opener.files c.args.opener.now) (g.O.Opener.files c.run_files-lists.new.opener) (g.K.Sink.output c.args.sink.now) (g.K.Sink.output c.answer_files.new.sink) c.run_files-lists.result
    c.answer_files.result c.run_files-lists.ensures c.answer_files.ensures.answer
