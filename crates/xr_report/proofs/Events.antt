-- Events and their calls, side by side.
use Rattle.std.proofs.Common.{◌≡◌, ℕ, Bool, List, [], ◌∷◌, drop, length, min, refl, arith, inl, inr, ◌∙◌}
use Rattle.std.proofs.lemmas.Bool.{cases_lt}
use Rattle.std.proofs.lemmas.List.{at_drop_all}
use Rattle.xr_types.specs.declared.device.DeviceEvent.{DeviceEvent}
use Rattle.xr_types.specs.declared.made.Made.{Made}
use Rattle.xr_model.specs.report.Report.{events_from}

events_from-no_calls : (places : Bool) (number : ℕ) (events : List DeviceEvent) → events_from places number events [] ≡ []
events_from-no_calls places number [] = refl
events_from-no_calls places number (e ∷ es) = refl

-- behind the shorter of the two lists no line is left
pub events_from-past : (places : Bool) (number i : ℕ) (events : List DeviceEvent) (calls : List Made) → i ≡ min (length events) (length calls)
    → events_from places number (drop i events) (drop i calls) ≡ []
events_from-past places number i events calls h = elim (cases_lt (length events) (length calls)) as (λ _. events_from places number (drop i events) (drop i calls) ≡ []) [
  | inl few ↦ at_drop_all (λ (es : List DeviceEvent). events_from places number es (drop i calls)) events i (omega arith)
  | inr more ↦ at_drop_all (λ (ms : List Made). events_from places number (drop i events) ms) calls i (omega arith) ∙ events_from-no_calls places number (drop i events)
]
