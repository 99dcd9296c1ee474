use Rattle.xr_device.proofs.FirstBytes.{words_whole, words_at_place}
use Rattle.xr_device.proofs.words.cut.Goals as goal

pub returns-in-Some : goal.returns-in-Some
returns-in-Some c = words_at_place c.args.line.now c.in-Some.place c.in-Some.ensures

pub returns-in-None : goal.returns-in-None
returns-in-None c = words_whole c.args.line.now c.in-None.ensures
