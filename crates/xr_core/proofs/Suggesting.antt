-- What suggested bindings come to, binding by binding, and what their call makes of its rule.
use Rattle.std.proofs.Common.{◌≡◌, ◌<◌, ◌+◌, ◌==◌, ◌++◌, ℕ, Bool, true, false, nat_le, nat_lt, List, [], ◌∷◌, length, drop, flat_map, filter_map, Option, Some, None, Ok, Err, refl, sym, ap, ◌∙◌, append_assoc, true≢false}
use Rattle.std.proofs.lemmas.List.{drop_more}
use lib.ListN.{get_or}
use Rattle.std.specs.Prelude.{is_none, option_map, option_and_then, if◌then◌else◌}
use Rattle.std.specs.List.{list_all, cons_option}
use Rattle.xr_types.specs.declared.calls.Gives.TheVariants.{Nothing}
use Rattle.xr_types.specs.declared.code.Code.{Code}
use Rattle.xr_types.specs.declared.code.Code.TheVariants.{Success, OutOfMemory, CallOrderInvalid, PathInvalid, PathUnsupported, ActionsetsAlreadyAttached}
use Rattle.xr_types.specs.declared.handles.Kind.TheVariants.{Instance, Action}
use Rattle.xr_types.specs.declared.input.ActionType.{ActionType}
use Rattle.xr_types.specs.declared.input.Binding.{Binding}
use Rattle.xr_types.specs.declared.input.Bound.{Bound}
use Rattle.xr_types.specs.declared.input.Pick.{Pick}
use Rattle.xr_types.specs.declared.input.Profile.{Profile}
use Rattle.xr_types.specs.declared.limits.TheConstants.{MOST_SUGGESTED}
use Rattle.xr_types.specs.Code.{is_out_of_memory}
use Rattle.xr_model.specs.machine.Bindings.{number_checks, suggest_refusals, with_suggestions}
use Rattle.xr_model.specs.machine.Handles.{no_handle}
use Rattle.xr_model.specs.machine.PartAnswers.{code_by}
use Rattle.xr_model.specs.machine.Paths.{text_at}
use Rattle.xr_model.specs.machine.Profiles.{component}
use Rattle.xr_model.specs.machine.Refusals.{Refusal, when, first_of, unless}
use Rattle.xr_types.specs.declared.calls.Call.TheVariants as ask
use Rattle.xr_model.specs.machine.Rule.{refusals, nothing_done}
use Rattle.xr_model.specs.machine.Rules.Bindings.{profile_at, profile_checks, pick_of, binding_checks, bound_of, bindings_checks, suggested, suggest_bindings_rule}
use Rattle.xr_model.specs.machine.Sets.{is_in_sealed_set, type_of_action}
use Rattle.xr_model.specs.machine.Sync.{is_source}
use Rattle.xr_model.specs.machine.State.{CoreState}
use Rattle.xr_model.specs.laws.SyncLaws.{has_rows}
use Rattle.xr_model.proofs.PickRanges.{picks_are_in_range}
use Rattle.xr_model.proofs.Rows.{both_of}
use Rattle.xr_model.proofs.SessionAnswers.{first_stays, first_skips}
use Rattle.xr_core.specs.inside.Deciding.{Decides}
use Rattle.xr_model.specs.machine.PartAnswers.{or_refused}
use Rattle.xr_core.specs.inside.Refusing.{some_or_refused}
use Rattle.xr_core.specs.declared.halt.Halt.TheVariants.{Refused}
use Rattle.xr_core.proofs.Deciding.{effect_decides, ok_none, then_err, then_ok}

-- a list whose last refusal holds where something is missing refuses that
missing : {T : Type 0} (a b c : Refusal) (o : Option T) → o ≡ None → first_of (a ∷ b ∷ c ∷ when (is_none o) PathUnsupported ∷ []) ≡ None → ⊥
missing a b c o none first = by a.holds b.holds c.holds (rw none at first)
  where
    by : (x y z : Bool) → (if x then Some a else (if y then Some b else (if z then Some c else Some (when true PathUnsupported)))) ≡ None → ⊥
    by true y z e = cc
    by false true z e = cc
    by false false true e = cc
    by false false false e = cc

module _ (s : CoreState) (which : Profile) (b : Binding) (bs : List Binding) where
  -- one that is taken stands behind those that were
  pub one_bound : (front : List Bound) (pick : Pick) → Ok pick ≡ some_or_refused (first_of (binding_checks s which b)) (pick_of s which b)
      → or_refused (first_of (flat_map (binding_checks s which) (b ∷ bs))) (front ++ filter_map (bound_of s which) (b ∷ bs))
      ≡ or_refused (first_of (flat_map (binding_checks s which) bs)) ((front ++ record { action = b.action; pick = pick } ∷ []) ++ filter_map (bound_of s which) bs)
  one_bound front pick told = by (first_of (binding_checks s which b)) refl (pick_of s which b) refl told
    where
      by : (o : Option Refusal) → first_of (binding_checks s which b) ≡ o → (p : Option Pick) → pick_of s which b ≡ p → Ok pick ≡ some_or_refused o p
          → or_refused (first_of (flat_map (binding_checks s which) (b ∷ bs))) (front ++ filter_map (bound_of s which) (b ∷ bs))
          ≡ or_refused (first_of (flat_map (binding_checks s which) bs)) ((front ++ record { action = b.action; pick = pick } ∷ []) ++ filter_map (bound_of s which) bs)
      by None eo (Some p) ep told =
          let is : p ≡ pick = cc in
          rw (first_skips (binding_checks s which b) (flat_map (binding_checks s which) bs) eo, ep, is) (ap (λ (l : List Bound). or_refused (first_of (flat_map (binding_checks s which) bs)) l) (sym (append_assoc front (record { action = b.action; pick = pick } ∷ []) (filter_map (bound_of s which) bs))))
      by None eo None ep told = cc
      by (Some r) eo p ep told = cc

  -- one that is refused refuses all
  pub one_refused : (front : List Bound) (code : Code) → Err code ≡ some_or_refused (first_of (binding_checks s which b)) (pick_of s which b)
      → or_refused (first_of (flat_map (binding_checks s which) (b ∷ bs))) (front ++ filter_map (bound_of s which) (b ∷ bs)) ≡ Err code
  one_refused front code told = by (first_of (binding_checks s which b)) refl (pick_of s which b) refl told
    where
      by : (o : Option Refusal) → first_of (binding_checks s which b) ≡ o → (p : Option Pick) → pick_of s which b ≡ p → Err code ≡ some_or_refused o p
          → or_refused (first_of (flat_map (binding_checks s which) (b ∷ bs))) (front ++ filter_map (bound_of s which) (b ∷ bs)) ≡ Err code
      by None eo (Some p) ep told = cc
      by None eo None ep told = absurd (missing (no_handle s.handles Action b.action) (when (is_in_sealed_set s.inputs b.action) ActionsetsAlreadyAttached) (when (is_none (text_at s.atoms b.path)) PathInvalid) (pick_of s which b) ep eo)
      by (Some r) eo p ep told = let is : code ≡ r.code = cc in rw (first_stays (binding_checks s which b) (flat_map (binding_checks s which) bs) r eo, is) refl

module _ (s : CoreState) (which : Profile) (list : List Binding) (i : ℕ) (d : Binding) (within : i < length list) where
  -- the same at a place of a list
  pub bound_at : (front : List Bound) (pick : Pick) → Ok pick ≡ some_or_refused (first_of (binding_checks s which (get_or list i d))) (pick_of s which (get_or list i d))
      → or_refused (first_of (flat_map (binding_checks s which) (drop i list))) (front ++ filter_map (bound_of s which) (drop i list))
      ≡ or_refused (first_of (flat_map (binding_checks s which) (drop (i + 1) list))) ((front ++ record { action = (get_or list i d).action; pick = pick } ∷ []) ++ filter_map (bound_of s which) (drop (i + 1) list))
  bound_at front pick told = rw (drop_more list i d within) (one_bound s which (get_or list i d) (drop (i + 1) list) front pick told)

  pub refused_at : (front : List Bound) (code : Code) → Err code ≡ some_or_refused (first_of (binding_checks s which (get_or list i d))) (pick_of s which (get_or list i d))
      → or_refused (first_of (flat_map (binding_checks s which) (drop i list))) (front ++ filter_map (bound_of s which) (drop i list)) ≡ Err code
  refused_at front code told = rw (drop_more list i d within) (one_refused s which (get_or list i d) (drop (i + 1) list) front code told)

-- what a path picks has one of the thirty identifiers
pub sources_bound : (s : CoreState) (which : Profile) (list : List Binding) → list_all is_source (filter_map (bound_of s which) list) ≡ true
sources_bound s which [] = refl
sources_bound s which (b ∷ list) = by (type_of_action s.inputs b.action) (text_at s.atoms b.path) (sources_bound s which list)
  where
    one : (wanted : ActionType) (path : List ℕ) (o : Option Pick) → component which wanted path ≡ o → list_all is_source (filter_map (bound_of s which) list) ≡ true → list_all is_source (cons_option (option_map (λ pick. record { action = b.action; pick = pick }) o) (filter_map (bound_of s which) list)) ≡ true
    one wanted path None e rest = rest
    one wanted path (Some pick) e rest =
        let good = both_of (nat_lt pick.identifier 30) (has_rows pick.part) (picks_are_in_range which wanted path pick e) in
        rw good.0 rest

    by : (o : Option ActionType) (t : Option (List ℕ)) → list_all is_source (filter_map (bound_of s which) list) ≡ true
        → list_all is_source (cons_option (option_map (λ pick. record { action = b.action; pick = pick }) (option_and_then (λ type. option_and_then (component which type) t) o)) (filter_map (bound_of s which) list)) ≡ true
    by None t rest = rest
    by (Some wanted) None rest = rest
    by (Some wanted) (Some path) rest = one wanted path (component which wanted path) refl rest

-- ---- the call

-- what comes to bindings isn't refused
pub all_bound : (o : Option Refusal) (xs bound : List Bound) → Ok bound ≡ or_refused o xs → (o ≡ None) × (bound ≡ xs)
all_bound None xs bound told = (refl, cc)
all_bound (Some r) xs bound told = cc

-- a profile is refused by its atom
pub profile_err : (atoms : List (List ℕ)) (profile : ℕ) (code : Code) → Err code ≡ some_or_refused (first_of (profile_checks atoms profile)) (profile_at atoms profile) → or_refused {T = Unit {0}} (first_of (profile_checks atoms profile)) tt ≡ Err code
profile_err atoms profile code told = by (first_of (profile_checks atoms profile)) refl (profile_at atoms profile) refl told
  where
    last : first_of (when (is_none (text_at atoms profile)) PathInvalid ∷ when true PathUnsupported ∷ []) ≡ None → ⊥
    last e = either (is_none (text_at atoms profile)) e
      where
        either : (x : Bool) → (if x then Some (when x PathInvalid) else Some (when true PathUnsupported)) ≡ None → ⊥
        either true e = cc
        either false e = cc

    by : (o : Option Refusal) → first_of (profile_checks atoms profile) ≡ o → (p : Option Profile) → profile_at atoms profile ≡ p → Err code ≡ some_or_refused o p → or_refused {T = Unit {0}} o tt ≡ Err code
    by None eo (Some p) ep told = cc
    by None eo None ep told = absurd (last (rw ep at eo))
    by (Some r) eo p ep told = let same : r.code ≡ code = cc in ap Err same

-- the profile of an atom that isn't refused
pub profile_found : (atoms : List (List ℕ)) (profile : ℕ) (which : Profile) → Ok which ≡ some_or_refused (first_of (profile_checks atoms profile)) (profile_at atoms profile) → (first_of (profile_checks atoms profile) ≡ None) × (profile_at atoms profile ≡ Some which)
profile_found atoms profile which told = by (first_of (profile_checks atoms profile)) (profile_at atoms profile) told
  where
    by : (o : Option Refusal) (p : Option Profile) → Ok which ≡ some_or_refused o p → (o ≡ None) × (p ≡ Some which)
    by None (Some p) told = (refl, cc)
    by None None told = cc
    by (Some r) p told = cc

-- as many bindings are refused by their number alike
number_same : {T U : Type 0} (xs : List T) (ys : List U) → length xs ≡ length ys → first_of (number_checks xs) ≡ first_of (number_checks ys)
number_same xs ys same = rw same refl

pub number_none : (list : List Binding) → (length list == 0) ≡ false → nat_le (length list) MOST_SUGGESTED ≡ true → first_of (number_checks list) ≡ None
number_none list some few = rw (some, few) refl

ok_is : {T : Type 0} (o : Option Refusal) (x : T) → o ≡ None → or_refused o x ≡ Ok x
ok_is o x none = rw none refl

module _ (s : CoreState) (instance profile : ℕ) (list : List Binding) (live : or_refused {T = Unit {0}} (first_of (no_handle s.handles Instance instance ∷ [])) tt ≡ Ok tt) where
  behind_handle : or_refused {T = Unit {0}} (first_of (refusals (suggest_bindings_rule s instance profile list))) tt ≡ or_refused (first_of (profile_checks s.atoms profile ++ (number_checks list ++ bindings_checks s (profile_at s.atoms profile) list))) tt
  behind_handle = then_ok (no_handle s.handles Instance instance ∷ []) (when false CallOrderInvalid ∷ (profile_checks s.atoms profile ++ (number_checks list ++ bindings_checks s (profile_at s.atoms profile) list))) (tt {0}) (tt {0}) (tt {0}) live

  pub refused_by_profile : (code : Code) → or_refused {T = Unit {0}} (first_of (profile_checks s.atoms profile)) tt ≡ Err code → or_refused {T = Unit {0}} (first_of (refusals (suggest_bindings_rule s instance profile list))) tt ≡ Err code
  refused_by_profile code told = behind_handle ∙ then_err (profile_checks s.atoms profile) (number_checks list ++ bindings_checks s (profile_at s.atoms profile) list) (tt {0}) (tt {0}) code told

  module _ (which : Profile) (known : first_of (profile_checks s.atoms profile) ≡ None) (found : profile_at s.atoms profile ≡ Some which) where
    behind_profile : or_refused {T = Unit {0}} (first_of (refusals (suggest_bindings_rule s instance profile list))) tt ≡ or_refused (first_of (number_checks list ++ flat_map (binding_checks s which) list)) tt
    behind_profile =
        behind_handle ∙ then_ok (profile_checks s.atoms profile) (number_checks list ++ bindings_checks s (profile_at s.atoms profile) list) (tt {0}) (tt {0}) (tt {0}) (ok_is (first_of (profile_checks s.atoms profile)) (tt {0}) known)
        ∙ ap (λ (o : Option Profile). or_refused {T = Unit {0}} (first_of (number_checks list ++ bindings_checks s o list)) (tt {0})) found

    pub refused_by_number : (code : Code) → or_refused {T = Unit {0}} (first_of (number_checks list)) tt ≡ Err code → or_refused {T = Unit {0}} (first_of (refusals (suggest_bindings_rule s instance profile list))) tt ≡ Err code
    refused_by_number code told = behind_profile ∙ then_err (number_checks list) (flat_map (binding_checks s which) list) (tt {0}) (tt {0}) code told

    module _ (few : first_of (number_checks list) ≡ None) where
      pub behind_number : or_refused {T = Unit {0}} (first_of (refusals (suggest_bindings_rule s instance profile list))) tt ≡ or_refused (first_of (flat_map (binding_checks s which) list)) tt
      behind_number = behind_profile ∙ then_ok (number_checks list) (flat_map (binding_checks s which) list) (tt {0}) (tt {0}) (tt {0}) (ok_is (first_of (number_checks list)) (tt {0}) few)

      pub refused_by_binding : (bound : List Bound) (code : Code) → Err code ≡ or_refused (first_of (flat_map (binding_checks s which) list)) bound → or_refused {T = Unit {0}} (first_of (refusals (suggest_bindings_rule s instance profile list))) tt ≡ Err code
      refused_by_binding bound code told = behind_number ∙ by (first_of (flat_map (binding_checks s which) list)) told
        where
          by : (o : Option Refusal) → Err code ≡ or_refused o bound → or_refused {T = Unit {0}} o tt ≡ Err code
          by None told = cc
          by (Some r) told = let same : r.code ≡ code = cc in ap Err same

      module _ (good : first_of (flat_map (binding_checks s which) list) ≡ None) where
        nothing_refuses : first_of (refusals (suggest_bindings_rule s instance profile list)) ≡ None
        nothing_refuses = (ok_none (first_of (refusals (suggest_bindings_rule s instance profile list))) (tt {0}) (tt {0}) (behind_number ∙ ok_is (first_of (flat_map (binding_checks s which) list)) (tt {0}) good)).0

        -- memory alone may be wanted
        module _ (bound : List Bound) (kept : CoreState) (code : Code) (all : bound ≡ filter_map (bound_of s which) list) (counted : length bound ≡ length list)
            (leads : kept ≡ record s { suggestions = unless (first_of (suggest_refusals bound (is_out_of_memory code))) s.suggestions (with_suggestions s.suggestions which bound) })
            (told : code ≡ code_by (first_of (suggest_refusals bound (is_out_of_memory code)))) where
          skips : first_of (suggest_refusals bound (is_out_of_memory code)) ≡ first_of (when (is_out_of_memory code) OutOfMemory ∷ [])
          skips = first_skips (number_checks bound) (when (is_out_of_memory code) OutOfMemory ∷ []) (number_same bound list counted ∙ few)

          pub memory_short : (code ≡ Success → ⊥) → Decides s (ask.SuggestBindings instance profile list) kept (Err (Refused code))
          memory_short failed = by (is_out_of_memory code) refl (rw skips at leads) (rw skips at told)
            where
              by : (short : Bool) → is_out_of_memory code ≡ short → kept ≡ record s { suggestions = unless (first_of (when short OutOfMemory ∷ [])) s.suggestions (with_suggestions s.suggestions which bound) } → code ≡ code_by (first_of (when short OutOfMemory ∷ []))
                  → Decides s (ask.SuggestBindings instance profile list) kept (Err (Refused code))
              by true eb leads told = rw (leads, told) (λ who lent reads. record {
                ready = refl;
                handle = refl;
                memory = λ short. (refl, nothing_refuses);
                keeps = rw nothing_refuses refl;
                code = rw nothing_refuses refl;
                gives = rw nothing_refuses refl;
                writes = rw nothing_refuses refl;
              })
              by false eb leads told = absurd (failed told)

          pub suggests : code ≡ Success → Decides s (ask.SuggestBindings instance profile list) kept (Ok (record { code = Success; gives = Nothing; place = 0 }))
          suggests good = by (is_out_of_memory code) (ap is_out_of_memory good) (rw skips at leads)
            where
              by : (short : Bool) → short ≡ false → kept ≡ record s { suggestions = unless (first_of (when short OutOfMemory ∷ [])) s.suggestions (with_suggestions s.suggestions which bound) } → Decides s (ask.SuggestBindings instance profile list) kept (Ok (record { code = Success; gives = Nothing; place = 0 }))
              by true short leads = absurd (true≢false short)
              by false short leads =
                  let taken : kept ≡ record s { suggestions = suggested s (profile_at s.atoms profile) list } = leads ∙ ap (λ (b : List Bound). record s { suggestions = with_suggestions s.suggestions which b }) all ∙ ap (λ (o : Option Profile). record s { suggestions = suggested s o list }) (sym found) in
                  rw taken
                  (effect_decides s (ask.SuggestBindings instance profile list) (λ given. suggest_bindings_rule s instance profile list) (record s { suggestions = suggested s (profile_at s.atoms profile) list }) Success Nothing nothing_done (λ who reads. refl) nothing_refuses refl refl refl refl)
