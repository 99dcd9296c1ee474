-- A list whose items are checked one after another, and what each comes to.
use Rattle.std.proofs.Common.{◌≡◌, ◌<◌, ◌+◌, ◌++◌, ℕ, List, [], ◌∷◌, length, drop, map, flat_map, Option, Some, None, Ok, Err, refl, sym, ap, append_assoc}
use Rattle.std.proofs.lemmas.List.{drop_more}
use lib.ListN.{get_or}
use Rattle.std.specs.Prelude.{Result}
use Rattle.xr_types.specs.declared.code.Code.{Code}
use Rattle.xr_model.specs.machine.Refusals.{Refusal, first_of}
use Rattle.xr_model.specs.machine.PartAnswers.{or_refused}
use Rattle.xr_model.proofs.SessionAnswers.{first_stays, first_skips}

module _ {T U : Type 0} (checks : T → List Refusal) (f : T → U) where
  -- what the rest of a list comes to, behind these
  abbrev pub comes_to : List T → List U → Result (List U) Code
  comes_to items front = or_refused (first_of (flat_map checks items)) (front ++ map f items)

  one_taken : (x : T) (xs : List T) (front : List U) (y : U) → Ok y ≡ or_refused (first_of (checks x)) (f x) → comes_to (x ∷ xs) front ≡ comes_to xs (front ++ y ∷ [])
  one_taken x xs front y told = by (first_of (checks x)) refl told
    where
      by : (o : Option Refusal) → first_of (checks x) ≡ o → Ok y ≡ or_refused o (f x) → comes_to (x ∷ xs) front ≡ comes_to xs (front ++ y ∷ [])
      by None eo told =
          let is : y ≡ f x = cc in
          rw (first_skips (checks x) (flat_map checks xs) eo, is) (ap (λ (l : List U). or_refused (first_of (flat_map checks xs)) l) (sym (append_assoc front (f x ∷ []) (map f xs))))
      by (Some r) eo told = cc

  one_refused : (x : T) (xs : List T) (front : List U) (code : Code) → Err code ≡ or_refused (first_of (checks x)) (f x) → comes_to (x ∷ xs) front ≡ Err code
  one_refused x xs front code told = by (first_of (checks x)) refl told
    where
      by : (o : Option Refusal) → first_of (checks x) ≡ o → Err code ≡ or_refused o (f x) → comes_to (x ∷ xs) front ≡ Err code
      by None eo told = cc
      by (Some r) eo told = let is : code ≡ r.code = cc in rw (first_stays (checks x) (flat_map checks xs) r eo, is) refl

  module _ (list : List T) (i : ℕ) (d : T) (within : i < length list) where
    pub taken_at : (front : List U) (y : U) → Ok y ≡ or_refused (first_of (checks (get_or list i d))) (f (get_or list i d)) → comes_to (drop i list) front ≡ comes_to (drop (i + 1) list) (front ++ y ∷ [])
    taken_at front y told = rw (drop_more list i d within) (one_taken (get_or list i d) (drop (i + 1) list) front y told)

    pub refused_at : (front : List U) (code : Code) → Err code ≡ or_refused (first_of (checks (get_or list i d))) (f (get_or list i d)) → comes_to (drop i list) front ≡ Err code
    refused_at front code told = rw (drop_more list i d within) (one_refused (get_or list i d) (drop (i + 1) list) front code told)
