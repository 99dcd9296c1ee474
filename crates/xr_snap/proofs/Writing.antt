-- The holder finds a buffer, writes it, and makes it the front.
use Rattle.std.proofs.Common.{◌≡◌, ℕ, zero, suc, ◌+◌, ◌<◌, ◌≤◌, List, [], ◌∷◌, ◌++◌, length, take, get_or, sym, refl, ap, ◌∙◌, subst, Option, arith}
use Rattle.atomic_table.specs.Table.{Me}
use Rattle.xr_model.specs.machine.PublicationWords.{words}
use Rattle.xr_model.specs.machine.Calls.{Entry}
use Rattle.xr_rule.specs.Plays.{published_by, Publishes}
use Rattle.xr_rule.specs.Seats.{holder}
use Rattle.xr_rule.specs.View.{Know, Hold, Turn, View, Eyes, Writes, sight}
use Rattle.xr_snap.specs.Publishing.{MayPublish, MayShow}

-- one word more
pub take_more : (xs : List ℕ) (n : ℕ) → n < length xs → take (n + 1) xs ≡ take n xs ++ get_or xs n 0 ∷ []
take_more [] n l = absurd (omega arith)
take_more (x ∷ xs) zero l = refl
take_more (x ∷ xs) (suc n) l = let is : suc n + 1 ≡ suc (n + 1) = omega arith in ap (λ (k : ℕ). take k (x ∷ xs)) is ∙ ap (λ (ys : List ℕ). x ∷ ys) (take_more xs n (omega arith))

pub take_all : (xs : List ℕ) (n : ℕ) → length xs ≤ n → take n xs ≡ xs
take_all [] zero l = refl
take_all [] (suc n) l = refl
take_all (x ∷ xs) zero l = absurd (omega arith)
take_all (x ∷ xs) (suc n) l = ap (λ (ys : List ℕ). x ∷ ys) (take_all xs n (omega arith))

pub take_few : (xs : List ℕ) (n : ℕ) → n ≤ length xs → length (take n xs) ≡ n
take_few [] zero l = refl
take_few [] (suc n) l = absurd (omega arith)
take_few (x ∷ xs) zero l = refl
take_few (x ∷ xs) (suc n) l = omega (arith, take_few xs n (omega arith))

module _ {S : Type 0} where
  -- a holder that sees anew, and what it saw
  pub anew : (m : Me (Option S) View) (k : Know) (u : Turn) (y z : Eyes) (c : List (ℕ × Option S)) → m ≡ (sight k u y, c) → (n : Me (Option S) View) → n ≡ (sight m.0.know m.0.turn z, m.1) → n ≡ (sight k u z, c)
  anew m k u y z c is n then = then ∙ ap (λ (x : Me (Option S) View). (sight x.0.know x.0.turn z, x.1)) is

  pub eyes_are : (m : Me (Option S) View) (k : Know) (u : Turn) (y : Eyes) (c : List (ℕ × Option S)) → m ≡ (sight k u y, c) → m.0.eyes ≡ y
  eyes_are m k u y c is = ap (λ (x : Me (Option S) View). x.0.eyes) is

  pub may_show : (m n : Me (Option S) View) (counts ws : List ℕ) (b : ℕ) → MayPublish m counts ws → n ≡ (sight m.0.know m.0.turn (Writes counts b ws), m.1) → MayShow n counts b
  may_show m n counts ws b may then =
      let is : n ≡ holder m.0.know may.hold (Writes counts b ws) = then ∙ ap (λ (x : Me (Option S) View). (sight x.0.know x.0.turn (Writes counts b ws), x.1)) may.is in
      let same : m.0.know ≡ n.0.know = sym (ap (λ (x : Me (Option S) View). x.0.know) is) in
      record {
        hold = may.hold;
        entry = may.entry;
        is = is ∙ ap (λ (k : Know). holder k may.hold (Writes counts b ws)) same ∙ ap (λ (l : List ℕ). holder n.0.know may.hold (Writes counts b l)) (may.words_are ∙ ap (λ (k : Know). words (published_by k (may.hold.look ++ may.entry ∷ []))) same);
        noted = may.noted;
      }

  pub same_holder : (m n : Me (Option S) View) (h : Hold) (y z : Eyes) → m ≡ holder m.0.know h m.0.eyes → n ≡ (sight m.0.know m.0.turn z, m.1) → n ≡ holder n.0.know h n.0.eyes
  same_holder m n h y z is then =
      let at : n ≡ holder m.0.know h z = then ∙ ap (λ (x : Me (Option S) View). (sight x.0.know x.0.turn z, x.1)) is in
      at ∙ ap (λ (x : Me (Option S) View). holder x.0.know h x.0.eyes) (sym at)

  pub know_same : (m n : Me (Option S) View) (z : Eyes) (h : Hold) (e : Entry) (w : Me (Option S) View) (counts : List ℕ) → n ≡ (sight m.0.know m.0.turn z, m.1) → (w.1 ≡ n.1) × Publishes n.0.know h e counts w.0 → (w.1 ≡ m.1) × Publishes m.0.know h e counts w.0
  know_same m n z h e w counts then p = (p.0 ∙ ap (λ (x : Me (Option S) View). x.1) then, subst (λ (k : Know). Publishes k h e counts w.0) (ap (λ (x : Me (Option S) View). x.0.know) then) p.1)
