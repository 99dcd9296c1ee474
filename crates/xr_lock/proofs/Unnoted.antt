-- What was taken is given back, and nothing was noted.
use Rattle.std.proofs.Common.{◌≡◌, ℕ, List, sym, refl, ◌∙◌, subst, Option}
use Rattle.atomic_table.specs.Table.{Me}
use Rattle.xr_model.specs.machine.State.{CoreState}
use Rattle.xr_rule.specs.Seats.{IsBetween}
use Rattle.xr_rule.specs.View.{View, hold_from}
use Rattle.xr_rule.proofs.Resting.{at_rest}
use Rattle.xr_lock.specs.Holders.{Taken, MayGive, Given}

module _ {S : Type 0} where
  -- it may be, where it stands as it stood
  pub may_give_back : (stands : List ℕ → S → CoreState → Type 0) (m n : Me (Option S) View) (held other : S) → Taken stands m.0.know n held → ((cs : List ℕ) (x : CoreState) → stands cs held x → stands cs other x) → MayGive stands n other
  may_give_back stands m n held other taken same =
      subst (λ (z : Me (Option S) View). MayGive stands z other) (sym taken.is) record {
        hold = hold_from taken.ticket taken.look;
        counts = taken.counts;
        looked = 0;
        is = refl;
        publishes_none = tt;
        unmade = λ _. refl;
        stands_so = same taken.counts _ taken.stands_now;
      }

  -- and the seat is as it was
  pub gave_back : (stands : List ℕ → S → CoreState → Type 0) (m n w : Me (Option S) View) (held : S) → IsBetween m → Taken stands m.0.know n held → Given n w → w ≡ m
  gave_back stands m n w held between taken given =
      let g = subst (λ (z : Me (Option S) View). Given z w) taken.is given (hold_from taken.ticket taken.look) refl in
      (λ i. (g.1 i, g.0 i)) ∙ sym (at_rest m between)
