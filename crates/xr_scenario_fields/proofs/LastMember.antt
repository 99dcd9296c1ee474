-- The value of a member that is looked at without a search.
use Rattle.std.proofs.Common.{◌≡◌, ℕ, true, List, Option, Some, option_map, String, Global, string_bytes, string_cmp, sym, ap, ◌∙◌}
use Rattle.std.proofs.lemmas.Slice.Eq.{bytes_eq-Decides}
use Rattle.std.specs.BTreeMap.{is_at}
use Rattle.std.specs.Map.{lookup}
use Rattle.std.specs.Str.{bytes_eq}
use Rattle.serde_json.specs.Data.{Data, null, boolean, number, string, array, object, Members}
use Rattle.serde_json.specs.Find.{get, get_member, as_object}
use Rattle.serde_json.specs.View.{view, members_view}
use Rattle.serde_json.specs.declared.value.Value.{Value}
use Rattle.serde_json.proofs.Views.{view-lookup}

get_in : (name : List ℕ) (d : Data) (ms : Members) → as_object d ≡ Some ms → get name d ≡ get_member name ms
get_in name null ms is = cc
get_in name (boolean b) ms is = cc
get_in name (number n) ms is = cc
get_in name (string s) ms is = cc
get_in name (array ds) ms is = cc
get_in name (object all) ms is = ap (get_member name) same
  where
    same : all ≡ ms
    same = cc

-- a member that the map has at its own key is what is found under its name
pub member_found : (name : List ℕ) (d : Data) (k : String Global) (v : Value) (es : List (String Global × Value)) → as_object d ≡ Some (members_view es)
    → lookup (is_at (string_cmp k)) es ≡ Some v → bytes_eq (string_bytes k) name ≡ true → Some (view v) ≡ get name d
member_found name d k v es is stands named =
    ap (option_map view) (sym stands) ∙ view-lookup (string_bytes k) es
    ∙ ap (λ n. get_member n (members_view es)) ((bytes_eq-Decides (string_bytes k) name).0 named) ∙ sym (get_in name d (members_view es) is)
