-- What a path picks is what it names.
use Rattle.std.proofs.Common.{◌≡◌, ◌==◌, ◌||◌, ◌++◌, ◌⊎◌, inl, inr, ℕ, Bool, true, false, List, [], ◌∷◌, Option, Some, None, option_map, refl, sym, ap, subst, ◌∙◌, arith, append_assoc}
use Rattle.std.specs.Prelude.{bytes_eq, codes, nat_lt, option_and_then, slice_index_or, if◌then◌else◌}
use Rattle.std.specs.Cmp.Lexicographic.{bytes_decides}
use Rattle.std.specs.List.{filter, find, list_any}
use Rattle.std.proofs.lemmas.Bool.Decides.{nat_tests}
use Rattle.std.proofs.lemmas.List.Quantifiers.{position-Some}
use Rattle.xr_types.specs.InputNames.{input_name, is_digital}
use Rattle.xr_types.specs.Printed.{all_users, user_path}
use Rattle.xr_types.specs.Words.{behind}
use Rattle.xr_types.specs.declared.input.ActionType.{ActionType}
use Rattle.xr_types.specs.declared.input.ActionType.TheVariants as type
use Rattle.xr_types.specs.declared.input.Part.{Part}
use Rattle.xr_types.specs.declared.input.Part.TheVariants as part
use Rattle.xr_types.specs.declared.input.Pick.{Pick}
use Rattle.xr_types.specs.declared.input.Profile.{Profile}
use Rattle.xr_types.specs.declared.input.User.{User}
use Rattle.xr_types.specs.declared.spaces.Origin.TheVariants as origin
use Rattle.xr_model.specs.machine.Profiles.{grip, aim, before_slash, both, entry_name, first_some, identifier_place, identifiers, is_input, is_pose, outputs_at, part_of, pick_among, pick_at, pick_by, picked, picked_output, row_alone, row_named, rows_at}
use Rattle.xr_model.specs.laws.SyncLaws.{is_row, has_rows, input_at, IsShortFor, IsNamedFor, PicksAreNamed, IsOfSource, PicksHaveTheirSources}
use Rattle.xr_model.proofs.ChainPlaces.{same_some}
use Rattle.xr_model.proofs.PickRanges.{picks_are_in_range}
use Rattle.xr_model.proofs.Rows.{both_of, same_key}

-- ---- where an option is some

module _ {X : Type 0} (P : X → Type 0) where
  abbrev Each : Option X → Type 0
  Each o = (x : X) → o ≡ Some x → P x

  each_none : Each None
  each_none x e = cc

  each_first : (a b : Option X) → Each a → Each b → Each (first_some a b)
  each_first (Some y) b first second x e = first x e
  each_first None b first second x e = second x e

  each_then : {Y : Type 0} (f : Y → Option X) (o : Option Y) → ((y : Y) → o ≡ Some y → Each (f y)) → Each (option_and_then f o)
  each_then f None each x e = cc
  each_then f (Some y) each x e = each y refl x e

each_map : {X Y : Type 0} (P : X → Type 0) (Q : Y → Type 0) (f : X → Y) → ((x : X) → P x → Q (f x)) → (o : Option X) → Each P o → Each Q (option_map f o)
each_map P Q f more None each y e = cc
each_map P Q f more (Some x) each y e = subst Q (same_some (f x) y e) (more x (each x refl))

found_is : (test : ℕ → Bool) (rows : List ℕ) → Each (λ row. test row ≡ true) (find test rows)
found_is test [] row e = cc
found_is test (x ∷ xs) row e = by (test x) refl (found_is test xs row) e
  where
    by : (b : Bool) → test x ≡ b → (find test xs ≡ Some row → test row ≡ true) → (if b then Some x else find test xs) ≡ Some row → test row ≡ true
    by true eb more e = subst (λ r. test r ≡ true) (same_some x row e) eb
    by false eb more e = more e

-- ---- texts

behind_is : (front text : List ℕ) → Each (λ rest. text ≡ front ++ rest) (behind front text)
behind_is [] text rest e = same_some text rest e
behind_is (p ∷ ps) [] rest e = cc
behind_is (p ∷ ps) (c ∷ cs) rest e = by (p == c) refl (behind_is ps cs rest) e
  where
    by : (b : Bool) → (p == c) ≡ b → (behind ps cs ≡ Some rest → cs ≡ ps ++ rest) → (if b then behind ps cs else None) ≡ Some rest → c ∷ cs ≡ p ∷ (ps ++ rest)
    by true eb more e = ap (λ (n : ℕ). n ∷ cs) (sym (same_key p c eb)) ∙ ap (λ (l : List ℕ). p ∷ l) (more e)
    by false eb more e = cc

joined : (front entry tail name path : List ℕ) → path ≡ front ++ entry → entry ++ tail ≡ name → path ++ tail ≡ front ++ name
joined front entry tail name path is named = ap (λ (l : List ℕ). l ++ tail) is ∙ append_assoc front entry tail ∙ ap (λ (l : List ℕ). front ++ l) named

short_for : (front entry path name : List ℕ) → path ≡ front ++ entry → (cs : List (List ℕ)) → IsShortFor entry cs name → IsShortFor path cs (front ++ name)
short_for front entry path name is [] named = is ∙ ap (λ (l : List ℕ). front ++ l) named
short_for front entry path name is (c ∷ cs) (inl named) =
    inl (append_assoc path (codes "/") c ∙ joined front entry (codes "/" ++ c) name path is (sym (append_assoc entry (codes "/") c) ∙ named))
short_for front entry path name is (c ∷ cs) (inr more) = inr (short_for front entry path name is cs more)

-- ---- what an entry picks

abbrev IsEntry : List ℕ → Part → Type 0
IsEntry entry (part.Digital row) = (is_digital row ≡ true) × IsShortFor entry (codes "click" ∷ codes "value" ∷ []) (entry_name row)
IsEntry entry (part.Analogue row) = (is_digital row ≡ false) × IsShortFor entry (codes "click" ∷ codes "value" ∷ []) (entry_name row)
IsEntry entry (part.Both x y) = (entry ++ codes "/x" ≡ entry_name x) × (entry ++ codes "/y" ≡ entry_name y)
IsEntry entry (part.Pose row) = IsShortFor entry (codes "pose" ∷ []) (entry_name row)
IsEntry entry part.Output = ⊥

named_is : (rows : List ℕ) (entry : List ℕ) → Each (λ row. entry ≡ entry_name row) (row_named rows entry)
named_is rows entry row e = (bytes_decides entry (entry_name row)).0 (found_is (λ r. bytes_eq entry (entry_name r)) rows row e)

alone_is : (rows : List ℕ) (entry c : List ℕ) → Each (λ row. entry ++ codes "/" ++ c ≡ entry_name row) (row_alone rows entry c)
alone_is rows entry c = named_is rows (entry ++ codes "/" ++ c)

abbrev IsInput : List ℕ → ℕ → Type 0
IsInput entry row = IsShortFor entry (codes "click" ∷ codes "value" ∷ []) (entry_name row)

part_is : (entry : List ℕ) (row : ℕ) → IsInput entry row → IsEntry entry (part_of row)
part_is entry row is = by (is_digital row) refl
  where
    by : (b : Bool) → is_digital row ≡ b → IsEntry entry (if b then part.Digital row else part.Analogue row)
    by true eb = (eb, is)
    by false eb = (eb, is)

both_is : (entry : List ℕ) (a b : Option ℕ) → Each (λ row. entry ++ codes "/x" ≡ entry_name row) a → Each (λ row. entry ++ codes "/y" ≡ entry_name row) b → Each (IsEntry entry) (both a b)
both_is entry None b first second p e = cc
both_is entry (Some x) None first second p e = cc
both_is entry (Some x) (Some y) first second p e = subst (IsEntry entry) (same_some (part.Both x y) p e) (first x refl, second y refl)

picked_is : (wanted : ActionType) (rows : List ℕ) (entry : List ℕ) → Each (IsEntry entry) (picked wanted rows entry)
picked_is type.Boolean rows entry =
    let clicks = row_alone rows entry (codes "click") in
    let values = row_alone rows entry (codes "value") in
    each_map (IsInput entry) (IsEntry entry) part_of (part_is entry) (first_some (row_named (filter is_input rows) entry) (first_some clicks values))
    (each_first (IsInput entry) (row_named (filter is_input rows) entry) (first_some clicks values) (λ row e. inr (inr (named_is (filter is_input rows) entry row e)))
    (each_first (IsInput entry) clicks values (λ row e. inl (alone_is rows entry (codes "click") row e)) (λ row e. inr (inl (alone_is rows entry (codes "value") row e)))))
picked_is type.Float rows entry =
    let clicks = row_alone rows entry (codes "click") in
    let values = row_alone rows entry (codes "value") in
    each_map (IsInput entry) (IsEntry entry) part_of (part_is entry) (first_some (row_named (filter is_input rows) entry) (first_some values clicks))
    (each_first (IsInput entry) (row_named (filter is_input rows) entry) (first_some values clicks) (λ row e. inr (inr (named_is (filter is_input rows) entry row e)))
    (each_first (IsInput entry) values clicks (λ row e. inr (inl (alone_is rows entry (codes "value") row e))) (λ row e. inl (alone_is rows entry (codes "click") row e))))
picked_is type.Vector rows entry = both_is entry (row_alone rows entry (codes "x")) (row_alone rows entry (codes "y"))
    (λ row e. sym (append_assoc entry (codes "/") (codes "x")) ∙ alone_is rows entry (codes "x") row e) (λ row e. sym (append_assoc entry (codes "/") (codes "y")) ∙ alone_is rows entry (codes "y") row e)
picked_is type.Pose rows entry =
    let alone = row_alone rows entry (codes "pose") in
    each_map (λ row. IsShortFor entry (codes "pose" ∷ []) (entry_name row)) (IsEntry entry) (λ row. part.Pose row) (λ row is. is) (first_some (row_named (filter is_pose rows) entry) alone)
    (each_first (λ row. IsShortFor entry (codes "pose" ∷ []) (entry_name row)) (row_named (filter is_pose rows) entry) alone (λ row e. inr (named_is (filter is_pose rows) entry row e)) (λ row e. inl (alone_is rows entry (codes "pose") row e)))
picked_is type.Vibration rows entry = each_none (IsEntry entry)

output_is : (wanted : ActionType) (outputs : List (List ℕ)) (entry : List ℕ) → Each (λ p. part.Output ≡ p) (picked_output wanted outputs entry)
output_is type.Boolean outputs entry p e = cc
output_is type.Float outputs entry p e = cc
output_is type.Vector outputs entry p e = cc
output_is type.Pose outputs entry p e = cc
output_is type.Vibration outputs entry p e = by (list_any (λ name. bytes_eq entry name) outputs) e
  where
    by : (b : Bool) → (if b then Some part.Output else None) ≡ Some p → part.Output ≡ p
    by true e = same_some part.Output p e
    by false e = cc

-- ---- what a path picks

input_row : (row : ℕ) → is_row row ≡ true → entry_name row ≡ input_name row
input_row row is =
    let grips : (row == grip) ≡ false = grind (arith, nat_tests, is) in
    let aims : (row == aim) ≡ false = grind (arith, nat_tests, is) in
    rw (grips, aims) refl

module _ (who : User) (entry path : List ℕ) (is : path ≡ (user_path who ++ codes "/input/") ++ entry) where
  input_is : (row : ℕ) → is_row row ≡ true → (cs : List (List ℕ)) → IsShortFor entry cs (entry_name row) → IsShortFor path cs (input_at who (input_name row))
  input_is row fits cs named = short_for (user_path who ++ codes "/input/") entry path (input_name row) is cs (subst (IsShortFor entry cs) (input_row row fits) named)

  pose_is : (row : ℕ) → (row == grip) || (row == aim) ≡ true → IsShortFor entry (codes "pose" ∷ []) (entry_name row) → IsNamedFor path who (part.Pose row)
  pose_is row fits named = by (row == grip) refl fits
    where
      by : (b : Bool) → (row == grip) ≡ b → b || (row == aim) ≡ true → IsNamedFor path who (part.Pose row)
      by true eb fits =
          let same = same_key row grip eb in
          let text : IsShortFor entry (codes "pose" ∷ []) (codes "grip/pose") = subst (λ (n : ℕ). IsShortFor entry (codes "pose" ∷ []) (entry_name n)) same named in
          let named_so = short_for (user_path who ++ codes "/input/") entry path (codes "grip/pose") is (codes "pose" ∷ []) text in
          (origin.Grip who, rw eb refl, subst (IsShortFor path (codes "pose" ∷ [])) (append_assoc (user_path who) (codes "/input/") (codes "grip/pose")) named_so)
      by false eb fits =
          let same = same_key row aim fits in
          let text : IsShortFor entry (codes "pose" ∷ []) (codes "aim/pose") = subst (λ (n : ℕ). IsShortFor entry (codes "pose" ∷ []) (entry_name n)) same named in
          let named_so = short_for (user_path who ++ codes "/input/") entry path (codes "aim/pose") is (codes "pose" ∷ []) text in
          (origin.Aim who, rw eb refl, subst (IsShortFor path (codes "pose" ∷ [])) (append_assoc (user_path who) (codes "/input/") (codes "aim/pose")) named_so)

  named_for : (p : Part) → IsEntry entry p → has_rows p ≡ true → IsNamedFor path who p
  named_for (part.Digital row) named fits = (named.0, input_is row fits (codes "click" ∷ codes "value" ∷ []) named.1)
  named_for (part.Analogue row) named fits = (named.0, input_is row fits (codes "click" ∷ codes "value" ∷ []) named.1)
  named_for (part.Both x y) named fits =
      let two = both_of (is_row x) (is_row y) fits in
      let front = user_path who ++ codes "/input/" in
      (joined front entry (codes "/x") (input_name x) path is (named.0 ∙ input_row x two.0), joined front entry (codes "/y") (input_name y) path is (named.1 ∙ input_row y two.1))
  named_for (part.Pose row) named fits = pose_is row fits named
  named_for part.Output named fits = absurd named

abbrev IsNamedPick : List ℕ → Pick → Type 0
IsNamedPick path pick = has_rows pick.part ≡ true → IsNamedFor path pick.user pick.part

placed_is : (path : List ℕ) (who : User) (entry : List ℕ) (what : Option Part) → Each (λ p. has_rows p ≡ true → IsNamedFor path who p) what → Each (IsNamedPick path) (pick_by who entry what)
placed_is path who entry None each pick e = cc
placed_is path who entry (Some p) each pick e = by (identifier_place (before_slash entry)) e
  where
    by : (o : Option ℕ) → option_map (λ place. (let q : Pick = record { user = who; identifier = place; part = p } in q)) o ≡ Some pick → IsNamedPick path pick
    by None e = cc
    by (Some place) e = let q : Pick = record { user = who; identifier = place; part = p } in subst (IsNamedPick path) (same_some q pick e) (each p refl)

at_is : (which : Profile) (wanted : ActionType) (path : List ℕ) (who : User) → Each (IsNamedPick path) (pick_at which wanted path who)
at_is which wanted path who =
    each_first (IsNamedPick path)
    (option_and_then (λ entry. pick_by who entry (picked wanted (rows_at which who) entry)) (behind (user_path who ++ codes "/input/") path))
    (option_and_then (λ entry. pick_by who entry (picked_output wanted (outputs_at which who) entry)) (behind (user_path who ++ codes "/output/") path))
    (each_then (IsNamedPick path) (λ entry. pick_by who entry (picked wanted (rows_at which who) entry)) (behind (user_path who ++ codes "/input/") path)
    (λ entry at. placed_is path who entry (picked wanted (rows_at which who) entry)
    (λ p e fits. named_for who entry path (behind_is (user_path who ++ codes "/input/") path entry at) p (picked_is wanted (rows_at which who) entry p e) fits)))
    (each_then (IsNamedPick path) (λ entry. pick_by who entry (picked_output wanted (outputs_at which who) entry)) (behind (user_path who ++ codes "/output/") path)
    (λ entry at. placed_is path who entry (picked_output wanted (outputs_at which who) entry)
    (λ p e fits. subst (IsNamedFor path who) (output_is wanted (outputs_at which who) entry p e)
    (entry, behind_is (user_path who ++ codes "/output/") path entry at))))

among_is : (which : Profile) (wanted : ActionType) (path : List ℕ) (users : List User) → Each (IsNamedPick path) (pick_among which wanted path users)
among_is which wanted path [] = each_none (IsNamedPick path)
among_is which wanted path (who ∷ more) = each_first (IsNamedPick path) (pick_at which wanted path who) (pick_among which wanted path more) (at_is which wanted path who) (among_is which wanted path more)

pub picks_are_named : PicksAreNamed
picks_are_named which wanted path pick e = among_is which wanted path all_users pick e (both_of (nat_lt pick.identifier 30) (has_rows pick.part) (picks_are_in_range which wanted path pick e)).1

-- ---- sources

abbrev Ends : List ℕ → Type 0
Ends rest = (rest ≡ []) ⊎ ((more : List ℕ) × (rest ≡ codes "/" ++ more))

-- what stands behind the first slash
slash_behind : (entry : List ℕ) → (rest : List ℕ) × (entry ≡ before_slash entry ++ rest) × Ends rest
slash_behind [] = ([], refl, inl refl)
slash_behind (b ∷ bs) = by (b == 47) refl (slash_behind bs)
  where
    by : (c : Bool) → (b == 47) ≡ c → (rest : List ℕ) × (bs ≡ before_slash bs ++ rest) × Ends rest → (rest : List ℕ) × (b ∷ bs ≡ (if c then [] else b ∷ before_slash bs) ++ rest) × Ends rest
    by true ec more = (b ∷ bs, refl, inr (bs, ap (λ (n : ℕ). n ∷ bs) (same_key b 47 ec)))
    by false ec more = (more.0, ap (λ (l : List ℕ). b ∷ l) more.1, more.2)

module _ (path : List ℕ) (who : User) (way : List ℕ) (known : (way ≡ codes "/input/") ⊎ (way ≡ codes "/output/")) where
  source_by : (entry : List ℕ) → path ≡ (user_path who ++ way) ++ entry → (what : Option Part) → Each (IsOfSource path) (pick_by who entry what)
  source_by entry is None pick e = cc
  source_by entry is (Some p) pick e = by (identifier_place (before_slash entry)) refl e
    where
      by : (o : Option ℕ) → identifier_place (before_slash entry) ≡ o → option_map (λ place. (let q : Pick = record { user = who; identifier = place; part = p } in q)) o ≡ Some pick → IsOfSource path pick
      by None at e = cc
      by (Some place) at e =
          let named = (bytes_decides (before_slash entry) (slice_index_or identifiers place [])).0 (position-Some (λ text. bytes_eq (before_slash entry) text) identifiers place [] at).1 in
          let cut = slash_behind entry in
          let q : Pick = record { user = who; identifier = place; part = p } in
          subst (IsOfSource path) (same_some q pick e)
          (record {
            way = way;
            known = known;
            rest = cut.0;
            whole =
                is ∙ ap (λ (l : List ℕ). (user_path who ++ way) ++ l) cut.1 ∙ sym (append_assoc (user_path who ++ way) (before_slash entry) cut.0)
                ∙ ap (λ (l : List ℕ). (user_path who ++ way) ++ l ++ cut.0) named;
            ends = cut.2;
          })

source_at : (which : Profile) (wanted : ActionType) (path : List ℕ) (who : User) → Each (IsOfSource path) (pick_at which wanted path who)
source_at which wanted path who =
    each_first (IsOfSource path)
    (option_and_then (λ entry. pick_by who entry (picked wanted (rows_at which who) entry)) (behind (user_path who ++ codes "/input/") path))
    (option_and_then (λ entry. pick_by who entry (picked_output wanted (outputs_at which who) entry)) (behind (user_path who ++ codes "/output/") path))
    (each_then (IsOfSource path) (λ entry. pick_by who entry (picked wanted (rows_at which who) entry)) (behind (user_path who ++ codes "/input/") path)
    (λ entry at. source_by path who (codes "/input/") (inl refl) entry (behind_is (user_path who ++ codes "/input/") path entry at) (picked wanted (rows_at which who) entry)))
    (each_then (IsOfSource path) (λ entry. pick_by who entry (picked_output wanted (outputs_at which who) entry)) (behind (user_path who ++ codes "/output/") path)
    (λ entry at. source_by path who (codes "/output/") (inr refl) entry (behind_is (user_path who ++ codes "/output/") path entry at) (picked_output wanted (outputs_at which who) entry)))

source_among : (which : Profile) (wanted : ActionType) (path : List ℕ) (users : List User) → Each (IsOfSource path) (pick_among which wanted path users)
source_among which wanted path [] = each_none (IsOfSource path)
source_among which wanted path (who ∷ more) = each_first (IsOfSource path) (pick_at which wanted path who) (pick_among which wanted path more) (source_at which wanted path who) (source_among which wanted path more)

pub picks_have_their_sources : PicksHaveTheirSources
picks_have_their_sources which wanted path pick e = source_among which wanted path all_users pick e
