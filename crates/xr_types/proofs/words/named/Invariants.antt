use Rattle.std.proofs.Common.{◌≡◌, drop}
use Rattle.xr_types.specs.Words.{named}
use Rattle.xr_types.proofs.words.named.Given as goal

abbrev pub invariant-loop-value : goal.invariant-loop-value
invariant-loop-value g l = named g.W.Word.printed g.W.Word.listed l.word ≡ named g.W.Word.printed (drop l.value-index l.value-items) l.word
