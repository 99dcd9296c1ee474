use Rattle.std.proofs.Common.{rules, ◌≡◌, codes}
use Rattle.xr_types.specs.Printed.{user_path}
use Rattle.xr_profiles.proofs.Pieces.{twice-unless, twice-by}
use Rattle.xr_profiles.proofs.picks.pick_at.Goals as goal

pub returns-in_err-below : goal.returns-in_err-below
returns-in_err-below c =
    let named : c.as_bytes.result.now ≡ user_path c.args.user = search rules in
    let none = rw named at c.in_err-below.ensures in
    rw (← twice-unless (user_path c.args.user) (codes "/input/") c.args.path.now none, ← twice-unless (user_path c.args.user) (codes "/output/") c.args.path.now none) (search rules)

pub returns : goal.returns
returns c =
    let named : c.as_bytes.result.now ≡ user_path c.args.user = search rules in
    let below = rw named at c.in_ok-below.ensures in
    rw (twice-by (user_path c.args.user) (codes "/input/") c.args.path.now c.in_ok-below.below.now below, twice-by (user_path c.args.user) (codes "/output/") c.args.path.now c.in_ok-below.below.now below) (search rules)
