-- A wait for an image is told a timeout exactly where it is out of time.
use Rattle.std.proofs.Common.{◌≡◌, ◌≢◌, ◌==◌, ◌&&◌, ℕ, ℤ, Bool, true, false, not, [], ◌∷◌, Option, Some, None, refl, sym, subst, ◌∙◌, arith, true≢false}
use Rattle.std.specs.Prelude.{◌↔◌, ◌+ℤ◌, ◌-ℤ◌, int_le, int_lt, if◌then◌else◌}
use Rattle.xr_types.specs.declared.calls.Call.{Call}
use Rattle.xr_types.specs.declared.calls.Call.TheVariants as ask
use Rattle.xr_types.specs.declared.code.Code.TheVariants.{Success, SessionLossPending, HandleInvalid, SessionLost, CallOrderInvalid, TimeoutExpired}
use Rattle.xr_types.specs.declared.handles.Kind.TheVariants.{Swapchain}
use Rattle.xr_model.specs.machine.Chains.{chain_at, is_wait_wrong, oldest_image}
use Rattle.xr_model.specs.machine.Handles.{is_live}
use Rattle.xr_model.specs.machine.Refusals.{Refusal, when, first_of}
use Rattle.xr_model.specs.machine.Rule.{Effect, ahead, unless_refused}
use Rattle.xr_model.specs.machine.Rules.Session.{life_of}
use Rattle.xr_model.specs.machine.Rules.Spaces.{session_above}
use Rattle.xr_model.specs.machine.Rules.Swapchains.{is_up}
use Rattle.xr_model.specs.machine.SessionRule.{Loss, code_on, loss_of}
use Rattle.xr_model.specs.machine.State.{CoreState}
use Rattle.xr_model.specs.machine.Machine.{reads_of, rule, step}
use Rattle.xr_model.specs.laws.ImageLaws.{count_now}
use Rattle.xr_model.specs.laws.ImageUseLaws.{infinite, IsOutOfTime, TimeoutsAreTold}
use Rattle.xr_model.proofs.Rows.{both_of, same_key, is_false}

-- what refuses the wait, by what holds
abbrev found : Bool → Bool → Bool → Bool → Option Refusal
found dead lost wrong up = first_of (when dead HandleInvalid ∷ when lost SessionLost ∷ when wrong CallOrderInvalid ∷ when up TimeoutExpired ∷ [])

told_late : (s : CoreState) (x : Effect) (loss : Loss) → x.code ≡ code_on loss Success → (dead lost wrong up : Bool)
    → ((unless_refused s (found dead lost wrong up) x).code ≡ TimeoutExpired) ↔ ((first_of (when dead HandleInvalid ∷ when lost SessionLost ∷ []) ≡ None) × (wrong ≡ false) × (up ≡ true))
told_late s x loss is true lost wrong up = ((λ told. cc), (λ all. absurd (no_more all.0)))
  where
    no_more : Some (when true HandleInvalid) ≡ None → ⊥
    no_more e = cc
told_late s x loss is false true wrong up = ((λ told. cc), (λ all. absurd (no_more all.0)))
  where
    no_more : Some (when true SessionLost) ≡ None → ⊥
    no_more e = cc
told_late s x loss is false false true up = ((λ told. cc), (λ all. absurd (true≢false all.1)))
told_late s x loss is false false false true = ((λ told. (refl, refl, refl)), (λ all. refl))
told_late s x loss is false false false false = ((λ told. absurd (plain loss.pending (sym is ∙ told))), (λ all. absurd (true≢false (sym all.2))))
  where
    plain : (b : Bool) → (if b then SessionLossPending else Success) ≡ TimeoutExpired → ⊥
    plain true e = cc
    plain false e = cc

-- used, and out of time
late : (n : ℕ) (clock timeout start : ℤ) → not (n == 0) && is_up clock timeout start ≡ true → (n ≢ 0) × (int_lt timeout infinite ≡ true) × (int_le (start +ℤ timeout) clock ≡ true)
late n clock timeout start is =
    let used = both_of (not (n == 0)) (is_up clock timeout start) is in
    let up = both_of (not (int_le infinite timeout)) (int_le timeout (clock -ℤ start)) used.1 in
    ((λ none. true≢false (sym used.0 ∙ rw none refl)), ends infinite up.0, reached up.1)
  where
    ends : (most : ℤ) → not (int_le most timeout) ≡ true → int_lt timeout most ≡ true
    ends most e = grind (arith, e)

    reached : int_le timeout (clock -ℤ start) ≡ true → int_le (start +ℤ timeout) clock ≡ true
    reached e = grind (arith, e)

is_late : (n : ℕ) (clock timeout start : ℤ) → n ≢ 0 → int_lt timeout infinite ≡ true → int_le (start +ℤ timeout) clock ≡ true → not (n == 0) && is_up clock timeout start ≡ true
is_late n clock timeout start used ends up = rw (is_false (n == 0) (λ e. used (same_key n 0 e)), isnt infinite ends) (reached up)
  where
    isnt : (most : ℤ) → int_lt timeout most ≡ true → int_le most timeout ≡ false
    isnt most e = grind (arith, e)

    reached : int_le (start +ℤ timeout) clock ≡ true → int_le timeout (clock -ℤ start) ≡ true
    reached e = grind (arith, e)

pub timeouts_are_told : TimeoutsAreTold
timeouts_are_told s e chain timeout start is = subst Tells (sym is) waits
  where
    Tells : Call → Type 0
    Tells r = ((step s (record e { call = r })).1.reply.code ≡ TimeoutExpired)
        ↔ ((first_of (ahead (rule s.core (reads_of s r) (record e { call = r }))) ≡ None) × ((rule s.core (reads_of s r) (record e { call = r })).disorder ≡ false) × IsOutOfTime s chain timeout start)

    count : ℕ
    count = count_now s (oldest_image s.core.chains chain)

    loss : Loss
    loss = loss_of (life_of s.core (session_above s.core.handles chain))

    waits : Tells (ask.WaitImage chain timeout start)
    waits =
        let f = rule s.core (reads_of s (ask.WaitImage chain timeout start)) (record e { call = ask.WaitImage chain timeout start }) in
        let told = told_late s.core (record f.effect { code = code_on loss Success }) loss refl (not (is_live s.core.handles Swapchain chain)) loss.lost (is_wait_wrong (chain_at s.core.chains chain)) (not (count == 0) && is_up s.core.device.clock timeout start) in (
          (λ code.
              let all = told.0 code in
              let three = late count s.core.device.clock timeout start all.2 in
              (all.0, all.1, record { used = three.0; ends = three.1; up = three.2 })),
          (λ all. told.1 (all.0, all.1, is_late count s.core.device.clock timeout start all.2.used all.2.ends all.2.up)),
        )
