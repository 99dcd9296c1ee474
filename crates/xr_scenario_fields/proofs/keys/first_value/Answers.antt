use Rattle.std.proofs.Common.{rules, ◌≡◌, true, Some, string_bytes, string_cmp}
use Rattle.std.specs.BTreeMap.{is_at}
use Rattle.std.specs.Map.{lookup}
use Rattle.std.specs.Str.{bytes_eq}
use Rattle.serde_json.specs.Find.{as_object}
use Rattle.serde_json.specs.View.{view, members_view}
use Rattle.xr_types.specs.Field.{name_of_field}
use Rattle.xr_scenario_fields.proofs.LastMember.{member_found}
use Rattle.xr_scenario_fields.proofs.keys.first_value.Goals as goal

pub returns-in-Some : goal.returns-in-Some
returns-in-Some c =
    let members : as_object (view c.args.value.now) ≡ Some (members_view c.in_ok-members.members.now.entries) = search rules in
    let stands : lookup (is_at (string_cmp c.in-Some.first.now)) c.in_ok-members.members.now.entries ≡ Some c.in-Some.found.now = search rules in
    let named : bytes_eq (string_bytes c.in-Some.first.now) (name_of_field c.args.key) ≡ true = search rules in
    member_found (name_of_field c.args.key) (view c.args.value.now) c.in-Some.first.now c.in-Some.found.now c.in_ok-members.members.now.entries members stands named
