-- When names have their form, and when sets are attached and items of a sync taken.
use Rattle.std.proofs.Common.{arith, ◌≡◌, ◌+◌, ◌*◌, ◌==◌, ◌&&◌, ◌||◌, ◌⊎◌, inl, inr, not, suc, ℕ, Bool, true, false, List, [], ◌∷◌, ◌++◌, length, Option, Some, None, refl, sym, ap, subst, ◌∙◌, true≢false}
use Rattle.std.specs.Prelude.{◌↔◌, nat_le, nat_lt, is_some, flat_map, option_map, unwrap_or}
use Rattle.std.specs.List.{list_all, list_any}
use Rattle.std.specs.Str.{is_utf8}
use Rattle.std.proofs.lemmas.Bool.Decides.{nat_tests}
use Rattle.xr_types.specs.Name.{is_name_byte, is_periods, has_name_form, is_localized}
use Rattle.xr_types.specs.declared.calls.Call.TheVariants as ask
use Rattle.xr_types.specs.declared.input.ActiveSet.{ActiveSet}
use Rattle.xr_types.specs.declared.input.User.{User}
use Rattle.xr_types.proofs.RowSorts.{each_under, under_each}
use Rattle.xr_model.specs.machine.LiveSessions.{attached_in, session_at}
use Rattle.xr_model.specs.machine.Machine.{rule}
use Rattle.xr_model.specs.machine.Publication.{is_attached}
use Rattle.xr_model.specs.machine.Rules.Sets.{user_at}
use Rattle.xr_model.specs.machine.Rules.Sync.{is_named, item_checks}
use Rattle.xr_model.specs.machine.Sets.{Action, is_declared, set_declares}
use Rattle.xr_model.specs.machine.State.{CoreState}
use Rattle.xr_model.specs.laws.AskedLaws.{Among, asking, holds_behind, name_bytes, is_one_of, NamesAreOfForms, SetsAreAttachedOnce, HasAttached, DeclaresIt, SyncedSetsAreAttached}
use Rattle.xr_model.proofs.Rows.{both_of, same_key, itself, is_false}
use Rattle.xr_model.proofs.TakenNames.{among}

-- ---- bytes of names

abbrev alike : Bool → Bool → Bool
alike true b = b
alike false b = not b

alike_is : (a b : Bool) → alike a b ≡ true → a ≡ b
alike_is true true e = refl
alike_is true false e = absurd (true≢false (sym e))
alike_is false true e = absurd (true≢false (sym e))
alike_is false false e = refl

all_alike : each_under (λ b. alike (is_name_byte b) (is_one_of name_bytes b)) 123 ≡ true
unfolding is_name_byte
all_alike = refl

over_all : (b : ℕ) → nat_le b 122 ≡ false → is_name_byte b ≡ false
unfolding is_name_byte
over_all b over = is_false _ (λ is. grind (arith, nat_tests, over, is))

none_over : (b : ℕ) (cs : List ℕ) → nat_le b 122 ≡ false → list_all (λ c. nat_le c 122) cs ≡ true → is_one_of cs b ≡ false
none_over b [] over all = refl
none_over b (c ∷ cs) over all =
    let both = both_of (nat_le c 122) (list_all (λ x. nat_le x 122) cs) all in
    let other : (c == b) ≡ false = grind (arith, nat_tests, over, both.0) in
    rw (other, none_over b cs over both.1) refl

byte_is : (b : ℕ) → is_name_byte b ≡ is_one_of name_bytes b
byte_is b = by (nat_le b 122) refl
  where
    by : (c : Bool) → nat_le b 122 ≡ c → is_name_byte b ≡ is_one_of name_bytes b
    by true few = alike_is (is_name_byte b) (is_one_of name_bytes b)
        (under_each (λ k. alike (is_name_byte k) (is_one_of name_bytes k)) 123 b all_alike (grind (arith, nat_tests, few)))
    by false over = over_all b over ∙ sym (none_over b name_bytes over refl)

bytes_are : (name : List ℕ) → list_all is_name_byte name ≡ list_all (is_one_of name_bytes) name
bytes_are [] = refl
bytes_are (b ∷ bs) = λ i. byte_is b i && bytes_are bs i

-- ---- forms

form_is : (name : List ℕ) → not (has_name_form name) ≡ nat_lt 63 (length name) || is_periods name
form_is [] = refl
form_is (b ∷ bs) = by (length bs) (is_periods (b ∷ bs))
  where
    flip : (many few p : Bool) → few ≡ not many → not (few && not p) ≡ many || p
    flip true few p is = rw is refl
    flip false few true is = rw is refl
    flip false few false is = rw is refl

    by : (n : ℕ) (p : Bool) → not ((nat_lt 0 (suc n) && nat_le (suc n) 63) && not p) ≡ nat_lt 63 (suc n) || p
    by n p =
        let some : nat_lt 0 (suc n) ≡ true = grind (arith, nat_tests) in
        rw some (flip (nat_lt 63 (suc n)) (nat_le (suc n) 63) p (grind (arith, nat_tests)))

label_is : (text : List ℕ) → not (is_localized text) ≡ nat_lt (length text) 1 || (nat_lt 127 (length text) || not (is_utf8 text))
label_is text = by (nat_lt 0 (length text)) (nat_le (length text) 127) (nat_lt (length text) 1) (nat_lt 127 (length text)) (is_utf8 text)
    (least (length text)) (most (length text))
  where
    least : (n : ℕ) → nat_lt n 1 ≡ not (nat_lt 0 n)
    least n = grind (arith, nat_tests)

    most : (n : ℕ) → nat_lt 127 n ≡ not (nat_le n 127)
    most n = grind (arith, nat_tests)

    by : (some few none many utf : Bool) → none ≡ not some → many ≡ not few → not ((some && few) && utf) ≡ none || (many || not utf)
    by true true none many utf n m = rw (n, m) refl
    by true false none many utf n m = rw (n, m) refl
    by false few none many utf n m = rw n refl

pub names_are_of_forms : NamesAreOfForms
names_are_of_forms s reads e instance name localized priority = record {
  form = form_is name;
  bytes = ap not (bytes_are name);
  label = label_is localized;
}

-- ---- attached sets

bare_is : (attached : Option (List ℕ)) → (is_some attached ≡ false) ↔ (attached ≡ None)
bare_is None = (λ e. refl, λ e. refl)
bare_is (Some sets) = (λ e. absurd (true≢false e), λ e. cc)

none_is : (n : ℕ) → (n == 0) ≡ nat_lt n 1
none_is n = grind (arith, nat_tests)

pub sets_are_attached_once : SetsAreAttachedOnce
sets_are_attached_once s reads e session handles = record {
  bare = bare_is (attached_in (session_at s.sessions session));
  some = none_is (length handles);
}

-- a condition that isn't met is one whose test passes
pub passes : (b : Bool) → (not b ≡ false) ↔ (b ≡ true)
passes true = (λ e. refl, λ e. refl)
passes false = (λ e. absurd (true≢false e), λ e. absurd (true≢false (sym e)))

pub attached_is : (attached : Option (List ℕ)) (set : ℕ) → (is_attached attached set ≡ true) ↔ HasAttached attached set
attached_is None set = (λ e. absurd (true≢false (sym e)), λ none. absurd none)
attached_is (Some sets) set = among (λ (x : ℕ). x == set) (λ x. x ≡ set) (λ x is. same_key x set is) (λ x is. ap (λ (n : ℕ). n == set) is ∙ itself set) sets

declared_is : (s : CoreState) (item : ActiveSet) → (is_named s item ≡ true) ↔ ((item.sub ≡ 0) ⊎ DeclaresIt s item.set item.sub)
declared_is s item = by (item.sub == 0) refl (user_at s.atoms item.sub) refl
  where
    of_action : (who : User) (x : Action) → (x.set == item.set) && is_declared x.declared who ≡ true → (x.set ≡ item.set) × (is_declared x.declared who ≡ true)
    of_action who x e = let both = both_of (x.set == item.set) (is_declared x.declared who) e in (same_key x.set item.set both.0, both.1)

    action_of : (who : User) (x : Action) → (x.set ≡ item.set) × (is_declared x.declared who ≡ true) → (x.set == item.set) && is_declared x.declared who ≡ true
    action_of who x both = let own : (x.set == item.set) ≡ true = ap (λ (n : ℕ). n == item.set) both.0 ∙ itself item.set in rw (own, both.1) refl

    some : (who : User) → (list_any (λ x. x.set == item.set && is_declared x.declared who) s.inputs.actions ≡ true)
        ↔ Among (λ (x : Action). (x.set ≡ item.set) × (is_declared x.declared who ≡ true)) s.inputs.actions
    some who = among (λ (x : Action). x.set == item.set && is_declared x.declared who) (λ x. (x.set ≡ item.set) × (is_declared x.declared who ≡ true))
        (of_action who) (action_of who) s.inputs.actions

    same_user : (a b : User) → Some a ≡ Some b → a ≡ b
    same_user a b e = cc

    none_is_not : (b : User) → None ≡ Some b → ⊥
    none_is_not b e = cc

    by : (zero_is : Bool) → (item.sub == 0) ≡ zero_is → (o : Option User) → user_at s.atoms item.sub ≡ o
        → (zero_is || unwrap_or (option_map (set_declares s.inputs item.set) o) false ≡ true) ↔ ((item.sub ≡ 0) ⊎ DeclaresIt s item.set item.sub)
    by true is o eo = (λ e. inl (same_key item.sub 0 is), λ x. refl)
    by false is None eo = (
      λ e. absurd (true≢false (sym e)),
      λ x. elim x [
        | inl zero_is ↦ absurd (true≢false (sym (ap (λ (n : ℕ). n == 0) zero_is) ∙ is))
        | inr it ↦ absurd (none_is_not it.who (sym eo ∙ it.is))
      ],
    )
    by false is (Some who) eo = (
      λ e. inr (record { who = who; is = eo; some = (some who).0 e }),
      λ x. elim x [
        | inl zero_is ↦ absurd (true≢false (sym (ap (λ (n : ℕ). n == 0) zero_is) ∙ is))
        | inr it ↦ (some who).1 (subst (λ u. Among (λ (x : Action). (x.set ≡ item.set) × (is_declared x.declared u ≡ true)) s.inputs.actions)
            (same_user it.who who (sym it.is ∙ eo)) it.some)
      ],
    )

behind_items : (s : CoreState) (session : ℕ) (front items : List ActiveSet) (k : ℕ)
    → holds_behind (4 * length front + k) (flat_map (item_checks s session) (front ++ items)) ≡ holds_behind k (flat_map (item_checks s session) items)
behind_items s session [] items k = ap (λ (n : ℕ). holds_behind n (flat_map (item_checks s session) items)) (omega arith)
behind_items s session (x ∷ front) items k =
    let count : 4 * suc (length front) + k ≡ suc (suc (suc (suc (4 * length front + k)))) = omega arith in
    ap (λ (n : ℕ). holds_behind n (flat_map (item_checks s session) (x ∷ (front ++ items)))) count ∙ behind_items s session front items k

pub synced_sets_are_attached : SyncedSetsAreAttached
synced_sets_are_attached s reads e session front item behind =
    let items = front ++ item ∷ behind in
    let asked = (rule s reads (asking e (ask.SyncActions session items))).behind in
    let second : 4 * length front + 2 ≡ suc (4 * length front + 1) = omega arith in
    let fourth : 4 * length front + 4 ≡ suc (4 * length front + 3) = omega arith in
    let one = ap (λ (n : ℕ). holds_behind n asked) second ∙ behind_items s session front (item ∷ behind) 1 in
    let other = ap (λ (n : ℕ). holds_behind n asked) fourth ∙ behind_items s session front (item ∷ behind) 3 in
    let attached = attached_is (attached_in (session_at s.sessions session)) item.set in
    let declared = declared_is s item in
    record {
      attached = (
        λ e. attached.0 ((passes (is_attached (attached_in (session_at s.sessions session)) item.set)).0 (sym one ∙ e)),
        λ has. one ∙ (passes (is_attached (attached_in (session_at s.sessions session)) item.set)).1 (attached.1 has),
      );
      declared = (λ e. declared.0 ((passes (is_named s item)).0 (sym other ∙ e)), λ has. other ∙ (passes (is_named s item)).1 (declared.1 has));
    }
