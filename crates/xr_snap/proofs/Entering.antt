-- A seat that has entered the front.
use Rattle.std.proofs.Common.{◌≡◌, ℕ, ◌%◌, [], sym, ap, ◌∙◌, subst, Option, Some}
use Rattle.atomic_table.specs.Table.{Me}
use Rattle.xr_types.specs.declared.calls.Call.{Call}
use Rattle.xr_types.specs.declared.calls.Reply.{Reply}
use Rattle.xr_model.specs.machine.Publication.{Publication}
use Rattle.xr_model.specs.machine.PublicationWords.{words}
use Rattle.xr_model.specs.machine.Reads.{reads}
use Rattle.xr_model.specs.machine.Calls.{Entry}
use Rattle.xr_model.specs.laws.WordLaws.{PublicationFits}
use Rattle.xr_model.proofs.WordsBack.{words_give_back}
use Rattle.xr_rule.specs.Plays.{Enters, Decides, published_by}
use Rattle.xr_rule.specs.Seats.{IsBetween}
use Rattle.xr_rule.specs.View.{Know, View, Idle, Inside, sight, view, know_after}
use Rattle.xr_snap.specs.Reading.{getter_entry, outcome_of, words_in, publication_seen, HasFit, HasEnteredAs, HasEntered, HasRead}

module _ {S : Type 0} where
  joined : (m n : Me (Option S) View) (e : Entry) (r : ℕ) (x : Enters m.0.know e r n.0) → IsBetween m → n.1 ≡ m.1 → n ≡ (sight (know_after m.0.know x.look e) Idle (Inside (r % 16) (words (published_by m.0.know x.look))), [])
  joined m n e r x between same = λ i. (x.is i, (same ∙ between.carries) i)

  pub has_entered : (m n : Me (Option S) View) (e : Entry) (r : ℕ) → IsBetween m → (n.1 ≡ m.1) × Enters m.0.know e r n.0 → HasEnteredAs m e (r % 16) n
  has_entered m n e r between t =
      let x = t.1 in
      let know : n.0.know ≡ know_after m.0.know x.look e = ap (λ (v : View). v.know) x.is in
      record {
        look = x.look;
        decides = record { is = ap (λ (k : Know). view k Idle) know; saw = x.saw; sees = x.sees };
        is = joined m n e r x between t.0 ∙ ap (λ (k : Know). (sight k Idle (Inside (r % 16) (words (published_by m.0.know x.look))), [])) (sym know);
        near = x.near;
        short = x.short;
        fits = x.fits;
      }

  -- ---- inside

  -- the buffer has all words of what is published there, and of nothing else
  pub seen_is : (m n : Me (Option S) View) (e : Entry) (b : ℕ) (x : HasEnteredAs m e b n) → publication_seen n.0.eyes ≡ published_by m.0.know x.look
  seen_is m n e b x = ap (λ (z : Me (Option S) View). publication_seen z.0.eyes) x.is ∙ words_give_back (published_by m.0.know x.look) x.fits.room

  pub has_fit : (m n : Me (Option S) View) (e : Entry) (b : ℕ) → HasEnteredAs m e b n → HasFit n.0.eyes
  has_fit m n e b x = record {
    are = ap (λ (z : Me (Option S) View). words_in z.0.eyes) x.is ∙ ap words (sym (seen_is m n e b x));
    fits = subst PublicationFits (sym (seen_is m n e b x)) x.fits;
  }

  -- ---- behind its leave

  left_is : (m n o : Me (Option S) View) (e : Entry) (b : ℕ) → HasEnteredAs m e b n → o ≡ (view n.0.know n.0.turn, n.1) → o ≡ (view n.0.know Idle, [])
  left_is m n o e b x out = out ∙ (λ i. (view n.0.know (ap (λ (z : Me (Option S) View). z.0.turn) x.is i), ap (λ (z : Me (Option S) View). z.1) x.is i))

  pub has_read : (m n o : Me (Option S) View) (what : Call) (b : ℕ) (reply : Reply) (x : HasEntered m what b n) → o ≡ (view n.0.know n.0.turn, n.1)
      → (reads (publication_seen n.0.eyes) what ≡ Some (outcome_of reply)) → HasRead m what reply o
  has_read m n o what b reply x out is =
      let e = getter_entry m.0.know what in
      let left = left_is m n o e b x out in
      record {
        look = x.look;
        decides = subst (λ (v : View). Decides m.0.know x.look e v) (sym (ap (λ (z : Me (Option S) View). z.0) left)) x.decides;
        carries = ap (λ (z : Me (Option S) View). z.1) left;
        replies = ap (λ (p : Publication). reads p what) (sym (seen_is m n e b x)) ∙ is;
      }
