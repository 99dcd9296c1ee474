-- A row that is swept place by place.
use Rattle.std.proofs.Common.{◌≡◌, ◌<◌, ◌≤◌, ℕ, suc, ◌+◌, true, false, List, [], ◌∷◌, ◌++◌, length, get_or, set, take, drop, map, refl, sym, ap, ◌∙◌, arith, take-suc, take-suc-set, drop-cons, get_or-drop, drop-set-lt, append_assoc, add-one, length-set, add-zero, length-append}
use Rattle.xr_types.specs.declared.handles.Slot.{Slot}
use Rattle.xr_model.specs.machine.Handles.{goes, going, cleared, free}

-- how far the sweep of a row has come
pub record SweptTo (h : ℕ) (a : List ℕ) (row0 : List Slot) (destroyed0 : List ℕ) (i : ℕ) (row : List Slot) (destroyed : List ℕ) : Type 0 where
  pub same_length : length row ≡ length row0
  pub done : take i row ≡ cleared h a (take i row0)
  pub rest : drop i row ≡ drop i row0
  pub listed : destroyed ++ going h a (drop i row0) ≡ destroyed0 ++ going h a row0
  pub few : length destroyed ≤ length destroyed0 + i

map-one : {A B : Type 0} (f : A → B) (xs : List A) (y : A) → map f (xs ++ y ∷ []) ≡ map f xs ++ f y ∷ []
map-one f [] y = refl
map-one f (x ∷ xs) y = ap (λ l. f x ∷ l) (map-one f xs y)

same_item : (row row0 : List Slot) (i : ℕ) (d : Slot) → drop i row ≡ drop i row0 → get_or row i d ≡ get_or row0 i d
same_item row row0 i d e =
    ap (λ k. get_or row k d) (sym (add-zero i)) ∙ sym (get_or-drop i row 0 d) ∙ ap (λ l. get_or l 0 d) e ∙ get_or-drop i row0 0 d ∙ ap (λ k. get_or row0 k d) (add-zero i)

next_rest : (row row0 : List Slot) (i : ℕ) (d : Slot) → i < length row → length row ≡ length row0 → drop i row ≡ drop i row0 → drop (suc i) row ≡ drop (suc i) row0
next_rest row row0 i d h l e = ap (λ xs. drop 1 xs) (sym (drop-cons row i d h) ∙ e ∙ drop-cons row0 i d (rw (← l) h))

module _ (h : ℕ) (a : List ℕ) (row0 : List Slot) (destroyed0 : List ℕ) (i : ℕ) (row : List Slot) (destroyed : List ℕ) (d : Slot) where
  pub sweeps_one : i < length row → SweptTo h a row0 destroyed0 i row destroyed → goes h a (get_or row i d) ≡ true
      → SweptTo h a row0 destroyed0 (i + 1) (set row i free) (destroyed ++ (get_or row i d).handle ∷ [])
  sweeps_one within s leaves =
      let item = same_item row row0 i d s.rest in
      let yes0 : goes h a (get_or row0 i d) ≡ true = ap (λ x. goes h a x) (sym item) ∙ leaves in
      let within0 : i < length row0 = rw (← s.same_length) within in
      let opened : going h a (drop i row0) ≡ (get_or row0 i d).handle ∷ going h a (drop (suc i) row0) = rw (drop-cons row0 i d within0) (rw yes0 refl) in
      rw (add-one i) (record {
        same_length = length-set row i free ∙ s.same_length;
        done = take-suc-set row i free within ∙ ap (λ l. l ++ free ∷ []) s.done
            ∙ sym (ap (λ l. cleared h a l) (take-suc row0 i d within0) ∙ map-one _ (take i row0) (get_or row0 i d) ∙ rw yes0 refl);
        rest = drop-set-lt (suc i) row i free (omega arith) ∙ next_rest row row0 i d within s.same_length s.rest;
        listed = append_assoc destroyed ((get_or row i d).handle ∷ []) (going h a (drop (suc i) row0)) ∙ rw item (ap (λ l. destroyed ++ l) (sym opened) ∙ s.listed);
        few = let few = s.few in rw (length-append destroyed ((get_or row i d).handle ∷ [])) (omega arith);
      })

  pub keeps_one : i < length row → SweptTo h a row0 destroyed0 i row destroyed → goes h a (get_or row i d) ≡ false
      → SweptTo h a row0 destroyed0 (i + 1) row destroyed
  keeps_one within s stays =
      let item = same_item row row0 i d s.rest in
      let no0 : goes h a (get_or row0 i d) ≡ false = ap (λ x. goes h a x) (sym item) ∙ stays in
      let within0 : i < length row0 = rw (← s.same_length) within in
      let opened : going h a (drop i row0) ≡ going h a (drop (suc i) row0) = rw (drop-cons row0 i d within0) (rw no0 refl) in
      rw (add-one i) (record {
        same_length = s.same_length;
        done = take-suc row i d within ∙ ap (λ l. l ++ get_or row i d ∷ []) s.done ∙ ap (λ x. cleared h a (take i row0) ++ x ∷ []) item
            ∙ sym (ap (λ l. cleared h a l) (take-suc row0 i d within0) ∙ map-one _ (take i row0) (get_or row0 i d) ∙ rw no0 refl);
        rest = next_rest row row0 i d within s.same_length s.rest;
        listed = ap (λ l. destroyed ++ l) (sym opened) ∙ s.listed;
        few = let few = s.few in omega arith;
      })
