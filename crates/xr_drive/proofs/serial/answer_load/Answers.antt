use Rattle.xr_drive.proofs.Ended.{load_ended, load_unwritten}
use Rattle.xr_drive.proofs.serial.answer_load.Goals as goal

pub returns-in-Ok-write_text : goal.returns-in-Ok-write_text
returns-in-Ok-write_text g c = λ files unasked.
    rw c.ending_of.ensures (load_ended c.args.frames files unasked (g.K.Sink.output c.args.sink.now) (g.K.Sink.output c.write_text.new.sink) c.in-Ok.lists c.in-Ok.ensures c.in-Ok-write_text.ensures.means c.in-Ok-write_text.ensures.counts)

pub returns : goal.returns
returns g c = λ files unasked.
    let unwritten = c.in-Err.ensures in
    rw c.status.ensures
    (load_unwritten c.args.frames files unasked (g.K.Sink.output c.args.sink.now) (g.K.Sink.output c.write_text.new.sink) c.in-Ok.lists c.in-Err.fault c.in-Ok.ensures unwritten.means unwritten.cause unwritten.counts)
