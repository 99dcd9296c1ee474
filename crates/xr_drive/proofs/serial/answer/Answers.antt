use Rattle.xr_drive.proofs.serial.answer.Goals as goal

pub returns-in-Load : goal.returns-in-Load
returns-in-Load g c = rw c.in-Load.is (c.answer_load.ensures (g.O.Opener.files c.args.opener.now) c.requires.fresh)
