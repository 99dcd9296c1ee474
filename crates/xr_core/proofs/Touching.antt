-- The calls on cells of a loop: those made so far, and those that are left.
use Rattle.std.proofs.Common.{◌<◌, ◌≤◌, ◌+◌, ◌++◌, ℕ, List, [], ◌∷◌, drop, length, refl, sym, subst}
use Rattle.std.specs.Prelude.{slice_index_or}
use Rattle.std.proofs.Math.ListN.{drop_of_length-le}
use Rattle.std.proofs.lemmas.List.{append_assoc, append-nil, drop_more}
use Rattle.xr_types.specs.declared.frames.Image.{Image}
use Rattle.xr_model.specs.machine.CellCalls.{CellCall, peek, peek_calls, MayCall, Leads}

module _ {C : Type 0} (may : C → CellCall → Type 0) (does : C → CellCall → C → Type 0) where
  -- The calls that are left may be made from these cells, and wherever they lead, all of them lead from the first cells.
  pub record IsTouching (first now : C) (all left : List CellCall) : Type 0 where
    pub may_go_on : MayCall may does now left
    pub goes_on : (d : C) → Leads does now left d → Leads does first all d

  -- The same of looks at images, whatever stamps are still to be found behind those found so far.
  pub record IsPeeking (first now : C) (all left : List Image) (found : List ℕ) : Type 0 where
    pub may_go_on : (rest : List ℕ) → MayCall may does now (peek_calls left rest)
    pub goes_on : (rest : List ℕ) (d : C) → Leads does now (peek_calls left rest) d → Leads does first (peek_calls all (found ++ rest)) d

  -- at the place of the image that is looked at next
  pub next_is : (first now : C) (all : List Image) (n : ℕ) (found : List ℕ) → n < length all → IsPeeking first now all (drop n all) found
      → IsPeeking first now all (slice_index_or all n (record { place = 0; index = 0 }) ∷ drop (n + 1) all) found
  next_is first now all n found less p = subst (λ (xs : List Image). IsPeeking first now all xs found) (drop_more all n (record { place = 0; index = 0 }) less) p

  -- where none is left
  pub none_is_left : (first now : C) (all : List Image) (n : ℕ) (found : List ℕ) → length all ≤ n → IsPeeking first now all (drop n all) found → IsPeeking first now all [] found
  none_is_left first now all n found more p = subst (λ (xs : List Image). IsPeeking first now all xs found) (drop_of_length-le all more) p

  -- the next image may be looked at
  pub may_peek : (first now : C) (all : List Image) (i : Image) (left : List Image) (found : List ℕ) → IsPeeking first now all (i ∷ left) found → (answer : ℕ) → may now (peek i answer)
  may_peek first now all i left found p answer = (p.may_go_on (answer ∷ [])).0

  -- it was
  pub peeked : (first now next : C) (all : List Image) (i : Image) (left : List Image) (found : List ℕ) (answer : ℕ) → IsPeeking first now all (i ∷ left) found → does now (peek i answer) next → IsPeeking first next all left (found ++ answer ∷ [])
  peeked first now next all i left found answer p did = record {
    may_go_on = λ rest. (p.may_go_on (answer ∷ rest)).1 next did;
    goes_on = λ rest d leads. subst (λ (ns : List ℕ). Leads does first (peek_calls all ns) d) (sym (append_assoc found (answer ∷ []) rest)) (p.goes_on (answer ∷ rest) d (next, did, leads));
  }

  -- all were
  pub all_peeked : (first now : C) (all : List Image) (found : List ℕ) → IsPeeking first now all [] found → Leads does first (peek_calls all found) now
  all_peeked first now all found p = subst (λ (ns : List ℕ). Leads does first (peek_calls all ns) now) (append-nil found) (p.goes_on [] now refl)
