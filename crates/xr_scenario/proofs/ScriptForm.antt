-- Ops that are in form, one after another.
use Rattle.std.proofs.Common.{◌≡◌, ◌+◌, ◌-◌, ◌==◌, ◌&&◌, ℕ, zero, suc, Bool, true, false, List, [], ◌∷◌, ◌++◌, length, Option, Some, None, refl, sym, subst, append_assoc, append-nil, true≢false, inl, inr, ◌⊎◌, arith}
use Rattle.std.proofs.lemmas.Bool.{and_parts, or_cases, or_left, or_right, eqb-true}
use Rattle.std.specs.Prelude.{slice_get, if◌then◌else◌}
use Rattle.std.specs.Str.{bytes_eq}
use Rattle.xr_types.specs.declared.scenario.Op.{Op}
use Rattle.xr_types.specs.declared.scenario.Sort.{Sort}
use Rattle.xr_types.specs.declared.scenario.Sort.TheVariants.{Handle, Atom, Number}
use Rattle.xr_types.specs.Op.{sort_of}
use Rattle.xr_model.specs.scenario.Names.{NamedOp, known, given, is_known, is_sort}
use Rattle.xr_model.specs.scenario.InRange.{IsFormed}
use Rattle.xr_model.specs.scenario.ScriptForm.{HasSort, IsPlaceOf, AreInForm, IsInForm, AllInForm, IsKnownPlace}
use Rattle.xr_model.specs.scenario.OpReading.{with_name_of}
use Rattle.xr_model.proofs.InRange.{formed-weaker}

-- ---- one more

in_form_snoc : (before ops : List Op) (o : Op) → AreInForm before ops → IsFormed (IsPlaceOf (before ++ ops)) o → AreInForm before (ops ++ o ∷ [])
in_form_snoc before [] o all h = (subst (λ (os : List Op). IsFormed (IsPlaceOf os) o) (append-nil before) h, tt)
in_form_snoc before (p ∷ ops) o all h = (all.0, in_form_snoc (before ++ p ∷ []) ops o all.1 (subst (λ (os : List Op). IsFormed (IsPlaceOf os) o) (sym (append_assoc before (p ∷ []) ops)) h))

pub all_in_form-snoc : (scripts : List (List Op)) (ops : List Op) → AllInForm scripts → IsInForm ops → AllInForm (scripts ++ ops ∷ [])
all_in_form-snoc [] ops all h = (h, tt)
all_in_form-snoc (os ∷ scripts) ops all h = (all.0, all_in_form-snoc scripts ops all.1 h)

-- ---- names stand for ops

-- each place that a name stands for is that of an op whose name has its sort
abbrev pub AreOf : List NamedOp → List Op → Type 0
AreOf names ops = (sort : Sort) (place : ℕ) → IsKnownPlace names sort place → IsPlaceOf ops sort place

slice_get-append : (ops more : List Op) (i : ℕ) (sort : Sort) → HasSort (slice_get ops i) sort → HasSort (slice_get (ops ++ more) i) sort
slice_get-append [] more i sort h = absurd h
slice_get-append (o ∷ ops) more zero sort h = h
slice_get-append (o ∷ ops) more (suc i) sort h = slice_get-append ops more i sort h

slice_get-last : (ops : List Op) (o : Op) (sort : Sort) → sort_of o ≡ Some sort → HasSort (slice_get (ops ++ o ∷ []) (length ops)) sort
slice_get-last [] o sort e = e
slice_get-last (p ∷ ops) o sort e = slice_get-last ops o sort e

same_sort : (a b : Sort) → is_sort a b ≡ true → a ≡ b
same_sort Handle Handle h = refl
same_sort Atom Atom h = refl
same_sort Number Number h = refl
same_sort Handle Atom h = absurd (true≢false (sym h))
same_sort Handle Number h = absurd (true≢false (sym h))
same_sort Atom Handle h = absurd (true≢false (sym h))
same_sort Atom Number h = absurd (true≢false (sym h))
same_sort Number Handle h = absurd (true≢false (sym h))
same_sort Number Atom h = absurd (true≢false (sym h))

are_of-more : (names : List NamedOp) (ops : List Op) (o : Op) → AreOf names ops → AreOf names (ops ++ o ∷ [])
are_of-more names ops o are sort place h = let old : IsPlaceOf ops sort place = are sort place h in (old.0, slice_get-append ops (o ∷ []) (place - 1) sort old.1)

-- a place that is known once a name is given is the new one, or was known before
given_known : (name : List ℕ) (place : ℕ) (sort : Sort) (names : List NamedOp) (s : Sort) (p : ℕ) → IsKnownPlace (given name place sort names) s p → ((place ≡ p) × (sort ≡ s)) ⊎ IsKnownPlace names s p
given_known name place sort [] s p h = here (or_cases (place == p && is_sort sort s) false h)
  where
    here : ((place == p && is_sort sort s) ≡ true) ⊎ (false ≡ true) → ((place ≡ p) × (sort ≡ s)) ⊎ IsKnownPlace [] s p
    here (inl e) = inl (eqb-true place p ((and_parts (place == p) (is_sort sort s) e).0), same_sort sort s ((and_parts (place == p) (is_sort sort s) e).1))
    here (inr e) = absurd (true≢false (sym e))
given_known name place sort (k ∷ ks) s p h = by (bytes_eq name k.name) (given_known name place sort ks s p) h
  where
    new : ((place == p && is_sort sort s) ≡ true) ⊎ (is_known ks s p ≡ true) → ((place ≡ p) × (sort ≡ s)) ⊎ IsKnownPlace (k ∷ ks) s p
    new (inl e) = inl (eqb-true place p ((and_parts (place == p) (is_sort sort s) e).0), same_sort sort s ((and_parts (place == p) (is_sort sort s) e).1))
    new (inr e) = inr (or_right (k.place == p && is_sort k.sort s) (is_known ks s p) e)

    later : ((place ≡ p) × (sort ≡ s)) ⊎ IsKnownPlace ks s p → ((place ≡ p) × (sort ≡ s)) ⊎ IsKnownPlace (k ∷ ks) s p
    later (inl e) = inl e
    later (inr e) = inr (or_right (k.place == p && is_sort k.sort s) (is_known ks s p) e)

    old : (IsKnownPlace (given name place sort ks) s p → ((place ≡ p) × (sort ≡ s)) ⊎ IsKnownPlace ks s p) → ((k.place == p && is_sort k.sort s) ≡ true) ⊎ (is_known (given name place sort ks) s p ≡ true)
        → ((place ≡ p) × (sort ≡ s)) ⊎ IsKnownPlace (k ∷ ks) s p
    old more (inl e) = inr (or_left (k.place == p && is_sort k.sort s) (is_known ks s p) e)
    old more (inr e) = later (more e)

    by : (b : Bool) → (IsKnownPlace (given name place sort ks) s p → ((place ≡ p) × (sort ≡ s)) ⊎ IsKnownPlace ks s p)
        → IsKnownPlace (if b then known k.name place sort ∷ ks else k ∷ given name place sort ks) s p → ((place ≡ p) × (sort ≡ s)) ⊎ IsKnownPlace (k ∷ ks) s p
    by true more h = new (or_cases (place == p && is_sort sort s) (is_known ks s p) h)
    by false more h = old more (or_cases (k.place == p && is_sort k.sort s) (is_known (given name place sort ks) s p) h)

-- the op behind these has given its name, if it has one
pub are_of-next : (names : List NamedOp) (ops : List Op) (o : Op) (name : Option (List ℕ)) (place : ℕ) → place ≡ length ops + 1 → AreOf names ops → AreOf (with_name_of place (sort_of o) name names) (ops ++ o ∷ [])
are_of-next names ops o name place is are = by (sort_of o) refl name
  where
    given_are : (sort : Sort) (text : List ℕ) → sort_of o ≡ Some sort → AreOf (given text place sort names) (ops ++ o ∷ [])
    given_are sort text e s p h = found (given_known text place sort names s p h)
      where
        found : ((place ≡ p) × (sort ≡ s)) ⊎ IsKnownPlace names s p → IsPlaceOf (ops ++ o ∷ []) s p
        found (inl new) =
            let last : length ops ≡ p - 1 = omega (arith, is, new.0) in
            (omega (arith, is, new.0), subst (λ (i : ℕ). HasSort (slice_get (ops ++ o ∷ []) i) s) last (slice_get-last ops o s (rw (← new.1) e)))
        found (inr old) = are_of-more names ops o are s p old

    by : (s : Option Sort) → sort_of o ≡ s → (n : Option (List ℕ)) → AreOf (with_name_of place s n names) (ops ++ o ∷ [])
    by None e n = are_of-more names ops o are
    by (Some sort) e None = are_of-more names ops o are
    by (Some sort) e (Some text) = given_are sort text e

pub formed_of-known : (names : List NamedOp) (ops : List Op) (o : Op) → AreOf names ops → IsFormed (IsKnownPlace names) o → IsFormed (IsPlaceOf ops) o
formed_of-known names ops o are h = formed-weaker (IsKnownPlace names) (IsPlaceOf ops) are o h

pub in_form-next : (names : List NamedOp) (ops : List Op) (o : Op) → AreOf names ops → IsInForm ops → IsFormed (IsKnownPlace names) o → IsInForm (ops ++ o ∷ [])
in_form-next names ops o are all h = in_form_snoc [] ops o all (formed_of-known names ops o are h)
