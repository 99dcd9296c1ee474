use Rattle.std.proofs.Common.{ap, sym, take, ◌∙◌}
use Rattle.std.specs.Option.{option_map_or}
use Rattle.xr_profiles.proofs.Pieces.{before_slash-place}
use Rattle.xr_profiles.proofs.texts.before_slash.Goals as goal

pub returns-in-Some : goal.returns-in-Some
returns-in-Some c = ap (λ o. option_map_or (λ k. take k c.args.entry.now) o c.args.entry.now) c.in-Some.ensures.place ∙ sym (before_slash-place c.args.entry.now)

pub returns-in-None : goal.returns-in-None
returns-in-None c = ap (λ o. option_map_or (λ k. take k c.args.entry.now) o c.args.entry.now) c.in-None.ensures.place ∙ sym (before_slash-place c.args.entry.now)
