-- The number of how a run ended is of one way to end, and a summary's counts add up.
use Rattle.std.proofs.Common.{◌≡◌, ◌+◌, ◌<◌, ◌==◌, ℕ, Bool, true, false, List, [], ◌∷◌, Some, slice_get, unwrap_or, zero, suc, refl, sym, ◌∙◌, arith}
use Rattle.std.specs.Prelude.{if◌then◌else◌}
use Rattle.std.specs.List.{sum_by}
use Rattle.std.proofs.lemmas.List.Sums.{sum_by-cons}
use Rattle.xr_types.specs.declared.code.Code.{Code}
use Rattle.xr_types.specs.declared.code.Code.TheVariants as code
use Rattle.xr_types.specs.Code.{number_of_code, every_code}
use Rattle.xr_types.specs.declared.made.Made.{Made}
use Rattle.xr_types.specs.declared.status.Refusal.{Refusal}
use Rattle.xr_types.specs.declared.status.Refusal.TheVariants.{TooLong}
use Rattle.xr_types.specs.declared.status.Status.{Status}
use Rattle.xr_types.specs.declared.status.Status.TheVariants.{Done, Usage, OpenFault, ReadFault, ScenarioRefused, DeviceFailed, DeviceGarbled, Stuck, WriteFault, NoMemory}
use Rattle.xr_model.specs.report.RunEnding.{exit_of}
use Rattle.xr_model.specs.report.Summary.{code_count}
use Rattle.xr_model.specs.laws.EndLaws.{why_of, line_of, StatusesHaveTheirNumbers, CountsAddUp}

-- ---- numbers

-- all ways to end by their numbers, with what two of them tell
abbrev all_ends : Refusal → ℕ → List Status
all_ends why line =
    Done ∷ Usage ∷ OpenFault ∷ ReadFault ∷ ScenarioRefused why ∷ DeviceFailed ∷ DeviceGarbled line ∷ Stuck ∷ WriteFault ∷ NoMemory ∷ []

end_found : (s : Status) → slice_get (all_ends (unwrap_or (why_of s) TooLong) (unwrap_or (line_of s) 0)) (exit_of s) ≡ Some s
end_found Done = refl
end_found _ = refl

same_end : (s t : Status) → exit_of s ≡ exit_of t → why_of s ≡ why_of t → line_of s ≡ line_of t → s ≡ t
same_end s t number why line =
    one (sym (end_found s)
    ∙ (λ i. slice_get (all_ends (unwrap_or (why i) TooLong) (unwrap_or (line i) 0)) (number i))
    ∙ end_found t)
  where
    one : Some s ≡ Some t → s ≡ t
    one e = cc

few_ends : (s : Status) → exit_of s < 10
few_ends Done = omega arith
few_ends _ = omega arith

each_end : (n : ℕ) → n < 10 → (s : Status) × (exit_of s ≡ n)
each_end zero small = (Done, refl)
each_end (suc zero) small = (Usage, refl)
each_end (suc (suc zero)) small = (OpenFault, refl)
each_end (suc (suc (suc zero))) small = (ReadFault, refl)
each_end (suc (suc (suc (suc zero)))) small = (ScenarioRefused TooLong, refl)
each_end (suc (suc (suc (suc (suc zero))))) small = (DeviceFailed, refl)
each_end (suc (suc (suc (suc (suc (suc zero)))))) small = (DeviceGarbled 0, refl)
each_end (suc (suc (suc (suc (suc (suc (suc zero))))))) small = (Stuck, refl)
each_end (suc (suc (suc (suc (suc (suc (suc (suc zero)))))))) small = (WriteFault, refl)
each_end (suc (suc (suc (suc (suc (suc (suc (suc (suc zero))))))))) small = (NoMemory, refl)
each_end (suc (suc (suc (suc (suc (suc (suc (suc (suc (suc n)))))))))) small = absurd (omega (arith, small))

pub statuses_have_their_numbers : StatusesHaveTheirNumbers
statuses_have_their_numbers = record { apart = same_end; few = few_ends; each = each_end }

-- ---- counts

-- the result of a call is this one
abbrev hit : Code → Code → ℕ
hit x c = if number_of_code x == number_of_code c then 1 else 0

one_hit : (x : Code) → sum_by (hit x) every_code ≡ 1
one_hit code.Success = refl
one_hit _ = refl

count_more : (b : Bool) (n : ℕ) → (if b then n + 1 else n) ≡ (if b then 1 else 0) + n
count_more true n = omega arith
count_more false n = omega arith

count_first : (m : Made) (ms : List Made) (cs : List Code)
    → sum_by (λ c. code_count (number_of_code c) (m ∷ ms)) cs ≡ sum_by (hit m.reply.code) cs + sum_by (λ c. code_count (number_of_code c) ms) cs
count_first m ms [] = refl
count_first m ms (c ∷ cs) =
    let more = count_first m ms cs in
    let here = count_more (number_of_code m.reply.code == number_of_code c) (code_count (number_of_code c) ms) in
    let all = sum_by-cons (λ x. code_count (number_of_code x) (m ∷ ms)) c cs in
    let hits = sum_by-cons (hit m.reply.code) c cs in
    let others = sum_by-cons (λ x. code_count (number_of_code x) ms) c cs in
    omega (arith, more, here, all, hits, others)

none_counted : (cs : List Code) → sum_by (λ c. code_count (number_of_code c) []) cs ≡ 0
none_counted [] = refl
none_counted (c ∷ cs) = omega (arith, sum_by-cons (λ x. code_count (number_of_code x) []) c cs, none_counted cs)

pub counts_add_up : CountsAddUp
counts_add_up [] = none_counted every_code
counts_add_up (m ∷ ms) = omega (arith, count_first m ms every_code, one_hit m.reply.code, counts_add_up ms)
