use Rattle.std.proofs.Common.{rules, ◌≡◌, None, ◌∙◌}
use Rattle.xr_profiles.proofs.Pieces.{profile-unless, profile-by}
use Rattle.xr_profiles.proofs.profile_of.Goals as goal

pub returns-in_err-behind : goal.returns-in_err-behind
returns-in_err-behind c =
    let none : c.from_residual.result ≡ None = search rules in
    none ∙ profile-unless c.args.text.now c.in_err-behind.ensures

pub returns : goal.returns
returns c = c.named.ensures ∙ profile-by c.args.text.now c.in_ok-behind.field-0.now c.in_ok-behind.ensures
