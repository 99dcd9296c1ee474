use Rattle.std.proofs.Common.{refl}
use Rattle.xr_words.specs.Table.{wait_entry}
use Rattle.xr_words.proofs.Claims.{got_it, too_late, not_yet}
use Rattle.xr_words.proofs.cells.TableCellsCells.claim.Goals as goal
use Rattle.xr_words.proofs.cells.TableCellsCells.claim.Goals.{then-got-via-then-got, then-got-via-else-got+then-self}

pub claim_by-found-requires : goal.claim_by-found-requires
claim_by-found-requires g c = record { may = c.requires; picks = (refl, refl) }

pub returns-then-got : goal.returns-then-got
returns-then-got g c =
    let s = c.args.self.now in let m = s.seat.now.me in let e = wait_entry m.0.know s.call.now in (
      refl,
      refl,
      refl,
      refl,
      (
        c.claim_by-found.ensures.own,
        λ h is. elim c.then-got.branch [
          | then-got-via-then-got w ↦ got_it e s.late h m s.decided c.claim_by-found.result c.claim_by-found.new.seat.me (c.claim_by-found.ensures.claimed h is) w.if-got.true
          | then-got-via-else-got+then-self w ↦ too_late e s.late h m s.decided c.claim_by-found.result c.claim_by-found.new.seat.me (c.claim_by-found.ensures.claimed h is) w.if-got.false w.if-self.true
        ],
      ),
    )

pub returns-else-self : goal.returns-else-self
returns-else-self g c =
    let s = c.args.self.now in let m = s.seat.now.me in let e = wait_entry m.0.know s.call.now in
    (refl, refl, refl, refl, (c.claim_by-found.ensures.own, λ h is. not_yet e s.late h m s.decided c.claim_by-found.result c.claim_by-found.new.seat.me (c.claim_by-found.ensures.claimed h is) c.if-got.false c.if-self.false))
