-- The scenario of a load has only ops in form.
use Rattle.std.proofs.Common.{◌≡◌, ◌≤◌, ◌+◌, ◌-◌, ◌^◌, ◌<◌, ℕ, zero, suc, Bool, true, false, List, [], ◌∷◌, ◌++◌, refl, ap, ◌∙◌, sym, subst, arith, length, append_assoc, append-nil, length-append, rules}
use Rattle.std.specs.Prelude.{slice_get, ⊤}
use Rattle.std.specs.List.{sum_by}
use Rattle.xr_types.specs.declared.frames.Blend.TheVariants.{Opaque}
use Rattle.xr_types.specs.declared.scenario.Op.{Op}
use Rattle.xr_types.specs.declared.scenario.Op.TheVariants as op
use Rattle.xr_types.specs.declared.scenario.Sort.{Sort}
use Rattle.xr_types.specs.declared.scenario.Sort.TheVariants as sort
use Rattle.xr_types.specs.declared.scenario.Use.TheVariants.{Of}
use Rattle.xr_types.specs.declared.limits.TheConstants.{MOST_LOAD}
use Rattle.xr_model.specs.scenario.InRange.{IsFormed}
use Rattle.xr_model.specs.scenario.ScriptForm.{HasSort, IsPlaceOf, AreInForm, AllInForm}
use Rattle.xr_model.specs.scenario.LoadScenario.{the_session, opening_ops, is_tenth, is_seventh, one_round, rounds_by, image_ops, wrong_end_by, whole_quad, wait_place, right_end, begun_ops, frame_ops, frame_ops_from, load_scenario}
use Rattle.xr_scenario.proofs.LoadCounts.{loads_have_so_many_ops}
use Rattle.xr_scenario.specs.LoadLaws.{LoadsCanBeRun}

-- what is found at a place stays there
sort_stays : (xs ys : List Op) (k : ℕ) (s : Sort) → HasSort (slice_get xs k) s → HasSort (slice_get (xs ++ ys) k) s
sort_stays [] ys k s h = elim h [ ]
sort_stays (x ∷ xs) ys zero s h = h
sort_stays (x ∷ xs) ys (suc k) s h = sort_stays xs ys k s h

place_stays : (xs ys : List Op) (s : Sort) (place : ℕ) → IsPlaceOf xs s place → IsPlaceOf (xs ++ ys) s place
place_stays xs ys s place h = (h.0, sort_stays xs ys (place - 1) s h.1)

-- the places of the session, the space and the chain
record Known (xs : List Op) : Type 0 where
  its_session : IsPlaceOf xs sort.Handle 4
  its_space : IsPlaceOf xs sort.Handle 5
  its_chain : IsPlaceOf xs sort.Handle 6

known_stays : (xs ys : List Op) → Known xs → Known (xs ++ ys)
known_stays xs ys h = record { its_session = place_stays xs ys sort.Handle 4 h.its_session; its_space = place_stays xs ys sort.Handle 5 h.its_space; its_chain = place_stays xs ys sort.Handle 6 h.its_chain }

-- an op that uses no other places
abbrev Uses : Op → Type 0
Uses o = (xs : List Op) → Known xs → IsFormed (IsPlaceOf xs) o

abbrev AllUse : List Op → Type 0
AllUse [] = ⊤
AllUse (o ∷ os) = Uses o × AllUse os

all_use-append : (xs ys : List Op) → AllUse xs → AllUse ys → AllUse (xs ++ ys)
all_use-append [] ys h k = k
all_use-append (x ∷ xs) ys h k = (h.0, all_use-append xs ys h.1 k)

-- first these in form, then those behind them
in_form-append : (before xs ys : List Op) → AreInForm before xs → AreInForm (before ++ xs) ys → AreInForm before (xs ++ ys)
in_form-append before [] ys h k = subst (λ b. AreInForm b ys) (append-nil before) k
in_form-append before (x ∷ xs) ys h k = (h.0, in_form-append (before ++ x ∷ []) xs ys h.1 (subst (λ b. AreInForm b ys) (sym (append_assoc before (x ∷ []) xs)) k))

in_form_by_use : (before os : List Op) → Known before → AllUse os → AreInForm before os
in_form_by_use before [] known all = tt
in_form_by_use before (o ∷ os) known all = (all.0 before known, in_form_by_use (before ++ o ∷ []) os (known_stays before (o ∷ []) known) all.1)

round_uses : AllUse one_round
round_uses = ((λ xs known. known.its_session), ((λ xs known. known.its_session), tt))

rounds_use : (t : Bool) → AllUse (rounds_by t)
rounds_use true = all_use-append one_round one_round round_uses round_uses
rounds_use false = round_uses

image_uses : (j : ℕ) → j ≤ 200000 → AllUse (image_ops j)
image_uses j h = ((λ xs known. known.its_chain), ((λ xs known. (known.its_chain, search rules)), ((λ xs known. (known.its_chain, omega (arith, h))), ((λ xs known. known.its_chain), tt))))

wrong_end_uses : (s : Bool) → AllUse (wrong_end_by s)
wrong_end_uses true = ((λ xs known. search (rules, known.its_session)), tt)
wrong_end_uses false = tt

-- what stands behind a list
behind : (xs ys : List Op) (k : ℕ) → slice_get (xs ++ ys) (length xs + k) ≡ slice_get ys k
behind [] ys k = ap (slice_get ys) (zero_more k)
  where
    zero_more : (n : ℕ) → 0 + n ≡ n
    zero_more n = omega arith
behind (x ∷ xs) ys k = ap (slice_get (x ∷ (xs ++ ys))) (one_out (length xs) k) ∙ behind xs ys k
  where
    one_out : (n m : ℕ) → suc n + m ≡ suc (n + m)
    one_out n m = omega arith

-- an op that gives a number
wait_stands : (before rest : List Op) (t : Bool) → HasSort (slice_get (before ++ (rounds_by t ++ rest)) (wait_place t (length before + 1) - 1)) sort.Number
wait_stands before rest true =
    let e : wait_place true (length before + 1) - 1 ≡ length before + 2 = omega arith in
    rw (e, behind before (rounds_by true ++ rest) 2) refl
wait_stands before rest false =
    let e : wait_place false (length before + 1) - 1 ≡ length before + 0 = omega arith in
    rw (e, behind before (rounds_by false ++ rest) 0) refl

wait_is_placed : (t : Bool) (n : ℕ) → 1 ≤ wait_place t (n + 1)
wait_is_placed true n = omega arith
wait_is_placed false n = omega arith

end_in_form : (xs : List Op) (wait : ℕ) → Known xs → IsPlaceOf xs sort.Number wait → IsFormed (IsPlaceOf xs) (op.EndFrame the_session (Of wait) Opaque (whole_quad ∷ []))
end_in_form xs wait known placed = (known.its_session, placed, search (rules, known.its_space, known.its_chain))

frame_in_form : (before : List Op) (j : ℕ) → Known before → j ≤ 200000 → AreInForm before (frame_ops j (length before + 1))
frame_in_form before j known h =
    let begun : AllUse (begun_ops j) = all_use-append (rounds_by (is_tenth j)) (image_ops j ++ wrong_end_by (is_seventh j)) (rounds_use (is_tenth j)) (all_use-append (image_ops j) (wrong_end_by (is_seventh j)) (image_uses j h) (wrong_end_uses (is_seventh j))) in
    in_form-append before (begun_ops j) (right_end (wait_place (is_tenth j) (length before + 1)) ∷ []) (in_form_by_use before (begun_ops j) known begun) (
      end_in_form (before ++ begun_ops j) (wait_place (is_tenth j) (length before + 1)) (known_stays before (begun_ops j) known)
          (wait_is_placed (is_tenth j) (length before), wait_stands before (image_ops j ++ wrong_end_by (is_seventh j)) (is_tenth j)),
      tt,
    )

frames_in_form : (k j place : ℕ) (before : List Op) → place ≡ length before + 1 → Known before → j + k ≤ 200001 → AreInForm before (frame_ops_from k j place)
frames_in_form zero j place before p known h = tt
frames_in_form (suc k) j place before p known h = rw p
    (in_form-append before (frame_ops j (length before + 1)) (frame_ops_from k (j + 1) (length before + 1 + length (frame_ops j (length before + 1)))) (frame_in_form before j known (omega (arith, h)))
    (frames_in_form k (j + 1) (length before + 1 + length (frame_ops j (length before + 1))) (before ++ frame_ops j (length before + 1))
    (rw (length-append before (frame_ops j (length before + 1))) (omega arith)) (known_stays before (frame_ops j (length before + 1)) known) (omega (arith, h))))

opening_in_form : AreInForm [] opening_ops
opening_in_form = search rules

opening_known : Known opening_ops
opening_known = record { its_session = (omega arith, refl); its_space = (omega arith, refl); its_chain = (omega arith, refl) }

in_form : (n : ℕ) → n ≤ MOST_LOAD → AllInForm (load_scenario n).scripts
in_form n h = (in_form-append [] opening_ops (frame_ops_from n 1 8) opening_in_form (frames_in_form n 1 8 opening_ops refl opening_known (omega (arith, h))), tt)

few : (n : ℕ) → n ≤ MOST_LOAD → sum_by length (load_scenario n).scripts < 2 ^ 22
few n h = omega (arith, h, loads_have_so_many_ops n)

pub loads_can_be_run : LoadsCanBeRun
loads_can_be_run n h = record { one = refl; few = few n h; formed = in_form n h }
