-- One check behind another: where the first is refused so are both, and else the second decides.
use Rattle.std.proofs.Common.{◌≡◌, ◌++◌, Bool, true, false, List, [], ◌∷◌, Option, Some, None, refl, sym, ◌∙◌}
use Rattle.std.specs.Prelude.{Ok, Err, if◌then◌else◌}
use Rattle.xr_types.specs.declared.code.Code.{Code}
use Rattle.xr_model.specs.machine.Refusals.{Refusal, first_of}
use Rattle.xr_model.specs.machine.PartAnswers.{or_refused}

first_stays : (xs ys : List Refusal) (r : Refusal) → first_of xs ≡ Some r → first_of (xs ++ ys) ≡ Some r
first_stays [] ys r told = cc
first_stays (x ∷ xs) ys r told = by x.holds told (first_stays xs ys r)
  where
    by : (b : Bool) → (if b then Some x else first_of xs) ≡ Some r → (first_of xs ≡ Some r → first_of (xs ++ ys) ≡ Some r) → (if b then Some x else first_of (xs ++ ys)) ≡ Some r
    by true told more = told
    by false told more = more told

pub first_skips : (xs ys : List Refusal) → first_of xs ≡ None → first_of (xs ++ ys) ≡ first_of ys
first_skips [] ys none = refl
first_skips (x ∷ xs) ys none = by x.holds none (first_skips xs ys)
  where
    by : (b : Bool) → (if b then Some x else first_of xs) ≡ None → (first_of xs ≡ None → first_of (xs ++ ys) ≡ first_of ys) → (if b then Some x else first_of (xs ++ ys)) ≡ first_of ys
    by true none more = cc
    by false none more = more none

-- what a check came to that passed
pub ok_none : {T : Type 0} (o : Option Refusal) (x y : T) → Ok y ≡ or_refused o x → (o ≡ None) × (y ≡ x)
ok_none None x y told = (refl, cc)
ok_none (Some r) x y told = cc

pub then_err : {T U : Type 0} (xs ys : List Refusal) (x : T) (y : U) (code : Code) → Err code ≡ or_refused (first_of xs) x → Err code ≡ or_refused (first_of (xs ++ ys)) y
then_err {T = T} {U = U} xs ys x y code told = by (first_of xs) refl told
  where
    by : (o : Option Refusal) → first_of xs ≡ o → Err code ≡ or_refused o x → Err code ≡ or_refused (first_of (xs ++ ys)) y
    by None eo told = cc
    by (Some r) eo told = let is : r.code ≡ code = cc in rw (first_stays xs ys r eo, is) refl

pub then_ok : {T U : Type 0} (xs ys : List Refusal) (x z : T) (y : U) → Ok z ≡ or_refused (first_of xs) x → or_refused (first_of ys) y ≡ or_refused (first_of (xs ++ ys)) y
then_ok xs ys x z y told = rw (first_skips xs ys (ok_none (first_of xs) x z told).0) refl

-- ---- where nothing refuses

pub none_here : (x : Refusal) (xs : List Refusal) → first_of (x ∷ xs) ≡ None → x.holds ≡ false
none_here x xs none = by x.holds none
  where
    by : (b : Bool) → (if b then Some x else first_of xs) ≡ None → b ≡ false
    by true none = cc
    by false none = refl

pub none_behind : (x : Refusal) (xs : List Refusal) → first_of (x ∷ xs) ≡ None → first_of xs ≡ None
none_behind x xs none = by x.holds none
  where
    by : (b : Bool) → (if b then Some x else first_of xs) ≡ None → first_of xs ≡ None
    by true none = cc
    by false none = none

pub none_first : (xs ys : List Refusal) → first_of (xs ++ ys) ≡ None → first_of xs ≡ None
none_first [] ys none = refl
none_first (x ∷ xs) ys none = by x.holds none (none_first xs ys)
  where
    by : (b : Bool) → (if b then Some x else first_of (xs ++ ys)) ≡ None → (first_of (xs ++ ys) ≡ None → first_of xs ≡ None) → (if b then Some x else first_of xs) ≡ None
    by true none more = cc
    by false none more = more none

pub none_second : (xs ys : List Refusal) → first_of (xs ++ ys) ≡ None → first_of ys ≡ None
none_second xs ys none = sym (first_skips xs ys (none_first xs ys none)) ∙ none
