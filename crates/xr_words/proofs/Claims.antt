-- What a claim tells, by what its word was.
use Rattle.std.proofs.Common.{◌≡◌, ◌≢◌, ◌==◌, ℕ, Bool, true, false, refl, sym, ◌∙◌, subst, Option, true≢false}
use Rattle.atomic_table.specs.Table.{Me}
use Rattle.xr_model.specs.machine.Calls.{Entry}
use Rattle.xr_model.proofs.Rows.{same_key, itself, is_false}
use Rattle.xr_rule.specs.View.{Hold, View}
use Rattle.xr_rule.specs.Plays.{Claimed}
use Rattle.xr_words.specs.Table.{ClaimTells}

module _ {S : Type 0} (e : Entry) (late : Bool) (h : Hold) (m : Me (Option S) View) (q : Bool) (r : ℕ) (n : Me (Option S) View) (c : Claimed e late m r n h) where
  is_zero : r ≡ 0 → (r == 0) ≡ true
  is_zero got = subst (λ (v : ℕ). (v == 0) ≡ true) (sym got) (itself 0)

  is_more : r ≢ 0 → (r == 0) ≡ false
  is_more other = is_false (r == 0) (λ got. other (same_key r 0 got))

  pub got_it : r ≡ 0 → ClaimTells e late h m q (r == 0) n true
  got_it got = record {
    hit = λ _. (refl, c.hit got);
    late_miss = λ other _. absurd (true≢false (sym (is_zero got) ∙ other));
    miss = λ other _. absurd (true≢false (sym (is_zero got) ∙ other));
  }

  pub too_late : r ≢ 0 → late ≡ true → ClaimTells e late h m q (r == 0) n true
  too_late other is_late = record {
    hit = λ got. absurd (other (same_key r 0 got));
    late_miss = λ _ _. (refl, c.late_miss other is_late);
    miss = λ _ early. absurd (true≢false (sym is_late ∙ early));
  }

  pub not_yet : r ≢ 0 → late ≡ false → ClaimTells e late h m q (r == 0) n q
  not_yet other early = record {
    hit = λ got. absurd (other (same_key r 0 got));
    late_miss = λ _ is_late. absurd (true≢false (sym is_late ∙ early));
    miss = λ _ _. (refl, c.miss other early);
  }
