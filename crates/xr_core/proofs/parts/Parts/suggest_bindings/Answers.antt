use Rattle.std.proofs.Common.{rules, ◌≡◌, ◌==◌, true, false, nat_le, length, flat_map, filter_map, refl, sym}
use Rattle.std.specs.Prelude.{Err}
use Rattle.xr_types.specs.declared.limits.TheConstants.{MOST_SUGGESTED}
use Rattle.xr_model.specs.machine.Refusals.{first_of}
use Rattle.xr_types.specs.declared.calls.Call.TheVariants as ask
use Rattle.xr_model.specs.machine.Rules.Bindings.{binding_checks, bound_of, suggest_bindings_rule}
use Rattle.xr_core.specs.declared.halt.Halt.TheVariants.{Refused}
use Rattle.xr_core.proofs.Deciding.{err_decides}
use Rattle.xr_core.proofs.Suggesting.{all_bound, sources_bound, number_none, profile_err, profile_found, refused_by_profile, refused_by_binding}
use Rattle.xr_core.proofs.parts.Parts.suggest_bindings.Goals as goal

pub returns-in_err-profile : goal.returns-in_err-profile
returns-in_err-profile c =
    let is : c.from_residual-in_err-profile.result ≡ Err (Refused (c.in_err-profile.field-0.0)) = search rules in
    rw is (err_decides c.args.self.now (ask.SuggestBindings c.args.instance c.args.profile c.args.list.now) (suggest_bindings_rule c.args.self.now c.args.instance c.args.profile c.args.list.now) _ refl (λ who reads. refl) (c.in_err-profile.field-0.0)
    (refused_by_profile c.args.self.now c.args.instance c.args.profile c.args.list.now (sym c.in_ok-live.ensures) (c.in_err-profile.field-0.0) (profile_err c.args.self.now.atoms c.args.profile (c.in_err-profile.field-0.0) c.in_err-profile.ensures)))

pub returns-in_err-bound_by : goal.returns-in_err-bound_by
returns-in_err-bound_by c =
    let is : c.from_residual-in_err-bound_by.result ≡ Err (Refused (c.in_err-bound_by.field-0.0)) = search rules in
    let found = profile_found c.args.self.now.atoms c.args.profile c.in_ok-profile.profile c.in_ok-profile.ensures in
    let some : (length c.args.list.now == 0) ≡ false = search rules in
    let few : nat_le (length c.args.list.now) MOST_SUGGESTED ≡ true = search rules in
    rw is (err_decides c.args.self.now (ask.SuggestBindings c.args.instance c.args.profile c.args.list.now) (suggest_bindings_rule c.args.self.now c.args.instance c.args.profile c.args.list.now) _ refl (λ who reads. refl) (c.in_err-bound_by.field-0.0)
    (refused_by_binding c.args.self.now c.args.instance c.args.profile c.args.list.now (sym c.in_ok-live.ensures) c.in_ok-profile.profile found.0 found.1 (number_none c.args.list.now some few) (filter_map (bound_of c.args.self.now c.in_ok-profile.profile) c.args.list.now) (c.in_err-bound_by.field-0.0) c.in_err-bound_by.ensures.bound))

pub suggest-code-requires : goal.suggest-code-requires
suggest-code-requires c =
    let all : c.bound_by.new.draft ≡ filter_map (bound_of c.args.self.now c.in_ok-profile.profile) c.args.list.now = (all_bound (first_of (flat_map (binding_checks c.args.self.now c.in_ok-profile.profile) c.args.list.now)) (filter_map (bound_of c.args.self.now c.in_ok-profile.profile) c.args.list.now) c.bound_by.new.draft (search rules)).1 in
    record { sources = rw (c.as_slice.ensures, all) (sources_bound c.args.self.now c.in_ok-profile.profile c.args.list.now) }
