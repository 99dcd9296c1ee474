-- What is published stays fit at each step: of the seats that see it, only the one that steps sees anew.
use Rattle.std.proofs.Common.{◌≡◌, ℕ, ◌+◌, ◌*◌, ◌/◌, ◌%◌, ◌^◌, ◌<◌, ◌≤◌, ◌≢◌, ◌&&◌, ◌==◌, nat_le, not, Bool, true, false, List, [], ◌∷◌, ◌++◌, length, get_or, set, sym, refl, ap, ap₂, ◌∙◌, subst, ⊎_elim, arith, length-set, get_or-set_same, get_or-set_other, eq-eqb, ne_eqb, le-leb, leb-true, true≢false, length-append}
use Rattle.std.specs.Prelude.{if◌then◌else◌}
use mathlib.Core.Logic.{dite}
use mathlib.Core.Option.{some}
use native.Mathlib.Decide.{ℕ_discrete, dec_le}
use lib.ListN.{get_elem?}
use Rattle.atomic_table.proofs.Lists.{at_set, at_snoc}
use Rattle.xr_rule.specs.Sums.{total}
use Rattle.xr_rule.specs.View.{Eyes, Out, Inside, Keeps, Writes}
use Rattle.xr_rule.specs.Shows.{buffers, buffer_words, shown_words, exit_word, state_word, front_of, no_count, inside, reads_some, beyond, is_writing, HasSearched, IsInside, SeesWell, Shows}
use Rattle.xr_rule.specs.Plays.{counts_with}
use Rattle.xr_rule.proofs.LastWords.{last_is, front_is}
use Rattle.xr_rule.proofs.Sums.{total-set, total-append, term_le, totals_le}

-- ---- seats in buffers

leb_no : (a b : ℕ) → b < a → nat_le a b ≡ false
leb_no a b less = by (nat_le a b) refl
  where
    by : (t : Bool) → nat_le a b ≡ t → nat_le a b ≡ false
    by true is = let le = leb-true a b is in absurd (omega arith)
    by false is = is

pub yes_in : (c b : ℕ) (p : List ℕ) → c ≡ b → inside b (Inside c p) ≡ 1
yes_in c b p e = ap (λ x. if x then 1 else 0) (eq-eqb c b e)

pub no_in : (c b : ℕ) (p : List ℕ) → c ≢ b → inside b (Inside c p) ≡ 0
no_in c b p e = ap (λ x. if x then 1 else 0) (ne_eqb c b e)

abbrev as_number : Bool → ℕ
as_number b = if b then 1 else 0

inside_le : (b : ℕ) (e : Eyes) → inside b e ≤ reads_some e
inside_le b Out = omega arith
inside_le b (Inside c p) = dite (ℕ_discrete c b) (λ e. omega (arith, yes_in c b p e)) (λ ne. omega (arith, no_in c b p ne))
inside_le b (Keeps cs k) = omega arith
inside_le b (Writes cs c xs) = omega arith

beyond_front : (f k : ℕ) (p : List ℕ) → beyond f k (Inside f p) ≡ 0
beyond_front f k p = rw (eq-eqb f f refl) (by (nat_le k f))
  where
    by : (t : Bool) → as_number (t && not true) ≡ 0
    by true = refl
    by false = refl

beyond_is : (f k c : ℕ) (p : List ℕ) → c ≢ f → k ≤ c → beyond f k (Inside c p) ≡ 1
beyond_is f k c p apart le = rw (ne_eqb c f apart, le-leb k c le) refl

beyond_not : (f k c : ℕ) (p : List ℕ) → c < k → beyond f k (Inside c p) ≡ 0
beyond_not f k c p less = rw (leb_no k c less) refl

beyond_le : (f k : ℕ) (e : Eyes) → beyond f k e ≤ reads_some e
beyond_le f k Out = omega arith
beyond_le f k (Inside c p) = by (nat_le k c && not (c == f))
  where
    by : (t : Bool) → as_number t ≤ 1
    by true = omega arith
    by false = omega arith
beyond_le f k (Keeps cs j) = omega arith
beyond_le f k (Writes cs c xs) = omega arith

-- the seats beyond a buffer are those in it and those beyond the next
next_one : (f k c : ℕ) (p : List ℕ) → k ≢ f → beyond f k (Inside c p) ≡ beyond f (k + 1) (Inside c p) + inside k (Inside c p)
next_one f k c p apart = dite (ℕ_discrete c f)
    (λ e. subst (λ (z : ℕ). beyond f k (Inside z p) ≡ beyond f (k + 1) (Inside z p) + inside k (Inside z p)) (sym e) (omega (arith, beyond_front f k p, beyond_front f (k + 1) p, no_in f k p (λ z. apart (sym z)))))
    (λ ne. dite (dec_le k c)
    (λ le. dite (ℕ_discrete c k)
    (λ is. omega (arith, beyond_is f k c p ne le, beyond_not f (k + 1) c p (omega arith), yes_in c k p is))
    (λ isn. omega (arith, beyond_is f k c p ne le, beyond_is f (k + 1) c p ne (omega arith), no_in c k p isn)))
    (λ more. omega (arith, beyond_not f k c p (omega arith), beyond_not f (k + 1) c p (omega arith), no_in c k p (λ z. omega arith))))

next_of : (f k : ℕ) (e : Eyes) → k ≢ f → beyond f k e ≡ beyond f (k + 1) e + inside k e
next_of f k Out apart = refl
next_of f k (Inside c p) apart = next_one f k c p apart
next_of f k (Keeps cs j) apart = refl
next_of f k (Writes cs c xs) apart = refl

over_front : (f : ℕ) (e : Eyes) → beyond f f e ≡ beyond f (f + 1) e
over_front f Out = refl
over_front f (Inside c p) = dite (ℕ_discrete c f)
    (λ e. subst (λ (z : ℕ). beyond f f (Inside z p) ≡ beyond f (f + 1) (Inside z p)) (sym e) (omega (arith, beyond_front f f p, beyond_front f (f + 1) p)))
    (λ ne. dite (dec_le f c) (λ le. omega (arith, beyond_is f f c p ne le, beyond_is f (f + 1) c p ne (omega arith))) (λ more. omega (arith, beyond_not f f c p (omega arith), beyond_not f (f + 1) c p (omega arith))))
over_front f (Keeps cs j) = refl
over_front f (Writes cs c xs) = refl

pub next_total : (f k : ℕ) (eyes : List Eyes) → k ≢ f → total (beyond f k) eyes ≡ total (beyond f (k + 1)) eyes + total (inside k) eyes
next_total f k [] apart = refl
next_total f k (e ∷ es) apart = omega (arith, next_of f k e apart, next_total f k es apart)

pub front_total : (f : ℕ) (eyes : List Eyes) → total (beyond f f) eyes ≡ total (beyond f (f + 1)) eyes
front_total f [] = refl
front_total f (e ∷ es) = omega (arith, over_front f e, front_total f es)

pub beyond_few : (f k : ℕ) (eyes : List Eyes) → total (beyond f k) eyes ≤ total reads_some eyes
beyond_few f k eyes = totals_le (beyond f k) reads_some eyes (λ j e _. beyond_le f k e)

pub inside_few : (b : ℕ) (eyes : List Eyes) → total (inside b) eyes ≤ total reads_some eyes
inside_few b eyes = totals_le (inside b) reads_some eyes (λ j e _. inside_le b e)

-- nothing is found yet
pub searched_none : (f : ℕ) (eyes : List Eyes) → total reads_some eyes ≤ 8 → HasSearched f 0 eyes
searched_none f eyes few = record { behind_front = λ l. omega (arith, beyond_few f 0 eyes); before_front = λ l. omega (arith, beyond_few f 0 eyes) }

-- one more buffer was looked at: it is the front or has a seat in it; and it wasn't the last
pub searched_more : (f k : ℕ) (eyes : List Eyes) → f < buffers → HasSearched f k eyes → (k ≢ f → 0 < total (inside k) eyes) → HasSearched f (k + 1) eyes × (k < 9)
searched_more f k eyes small h full = dite (ℕ_discrete k f)
    (λ e. let same : total (beyond f k) eyes ≡ total (beyond f (k + 1)) eyes = subst (λ (z : ℕ). total (beyond f z) eyes ≡ total (beyond f (z + 1)) eyes) (sym e) (front_total f eyes) in
    let before = h.before_front (omega arith) in (record { behind_front = λ l. omega arith; before_front = λ l. absurd (omega arith) }, omega arith))
    (λ ne. let next = next_total f k eyes ne in let some_in = full ne in dite (dec_le k f)
    (λ le. let before = h.before_front le in (record { behind_front = λ l. absurd (omega arith); before_front = λ l. omega arith }, omega arith))
    (λ more. let behind = h.behind_front (omega arith) in (record { behind_front = λ l. omega arith; before_front = λ l. absurd (omega arith) }, omega arith)))

-- ---- what one seat sees at another's step

module _ (o : ℕ) where
  -- the front stays, and all buffers; no buffer but the front gets one more seat in it
  pub sees_on : (ws ws' cs : List ℕ) (es es' : List Eyes) → front_of o ws' ≡ front_of o ws → ((b i : ℕ) → b < buffers → i < buffer_words → get_or ws' (state_word o b i) 0 ≡ get_or ws (state_word o b i) 0)
      → ((b : ℕ) → b ≢ front_of o ws → total (inside b) es' ≤ total (inside b) es) → ((k : ℕ) → total (beyond (front_of o ws) k) es' ≤ total (beyond (front_of o ws) k) es) → (e : Eyes) → SeesWell o ws cs es e → SeesWell o ws' cs es' e
  sees_on ws ws' cs es es' same stay fewer less Out h = tt
  sees_on ws ws' cs es es' same stay fewer less (Inside b p) h = let short = h.short in record { near = h.near; short = h.short; stored = λ i l. stay b i h.near (omega arith) ∙ h.stored i l }
  sees_on ws ws' cs es es' same stay fewer less (Keeps ks k) h =
      let s : HasSearched (front_of o ws) k es' = record { behind_front = λ l. let a = h.2.behind_front l in omega (arith, less k); before_front = λ l. let a = h.2.before_front l in omega (arith, less k) } in
      (h.0, h.1, subst (λ (z : ℕ). HasSearched z k es') (sym same) s)
  sees_on ws ws' cs es es' same stay fewer less (Writes ks b xs) h = let w = h.1 in let short = w.short in let none = w.empty in
      (h.0, record { near = w.near; apart = λ e. w.apart (e ∙ same); empty = omega (arith, fewer b w.apart); short = w.short; stored = λ i l. stay b i w.near (omega arith) ∙ w.stored i l })

  -- who doesn't write sees on where the buffers stay that seats are in
  pub sees_aside : (ws ws' cs cs' : List ℕ) (es es' : List Eyes) (j : ℕ) → ((b i : ℕ) → b < buffers → i < buffer_words → 0 < total (inside b) es → get_or ws' (state_word o b i) 0 ≡ get_or ws (state_word o b i) 0)
      → (e : Eyes) → get_elem? es j ≡ some e → is_writing e ≡ false → SeesWell o ws cs es e → SeesWell o ws' cs' es' e
  sees_aside ws ws' cs cs' es es' j busy Out at not h = tt
  sees_aside ws ws' cs cs' es es' j busy (Inside b p) at not h = let short = h.short in
      let full : 0 < total (inside b) es = omega (arith, term_le (inside b) es j (Inside b p) at, yes_in b b p refl) in
      record { near = h.near; short = h.short; stored = λ i l. busy b i h.near (omega arith) full ∙ h.stored i l }
  sees_aside ws ws' cs cs' es es' j busy (Keeps ks k) at not h = absurd (true≢false not)
  sees_aside ws ws' cs cs' es es' j busy (Writes ks b xs) at not h = absurd (true≢false not)

  -- ---- a seat sees anew, and no word of these changes

  pub shows_on : (now cs ws ws' : List ℕ) (es : List Eyes) (id : ℕ) (e u : Eyes) → Shows o now cs ws es → ((i : ℕ) → o ≤ i → get_or ws' i 0 ≡ get_or ws i 0) → get_elem? es id ≡ some e
      → ((b : ℕ) → inside b u ≡ inside b e) → ((f k : ℕ) → beyond f k u ≡ beyond f k e) → SeesWell o ws cs es u → Shows o now cs ws' (set es id u)
  shows_on now cs ws ws' es id e u h stay at in_same beyond_same well =
      let es' : List Eyes = set es id u in
      let moved : (b : ℕ) → total (inside b) es' ≡ total (inside b) es = λ b. omega (arith, total-set (inside b) es id e u at, in_same b) in
      let past : (f k : ℕ) → total (beyond f k) es' ≡ total (beyond f k) es = λ f k. omega (arith, total-set (beyond f k) es id e u at, beyond_same f k) in
      let first : get_or ws' o 0 ≡ get_or ws o 0 = stay o (omega arith) in
      let same : front_of o ws' ≡ front_of o ws = ap (λ (x : ℕ). x % 16) first in
      let states : (b i : ℕ) → b < buffers → i < buffer_words → get_or ws' (state_word o b i) 0 ≡ get_or ws (state_word o b i) 0 = λ b i _ _. stay (state_word o b i) (omega arith) in
      let on : (x : Eyes) → SeesWell o ws cs es x → SeesWell o ws' cs es' x = λ x y. sees_on ws ws' cs es es' same states (λ b _. omega (arith, moved b)) (λ k. omega (arith, past (front_of o ws) k)) x y in
      record {
        front = subst (λ (z : ℕ). z < buffers) (sym same) h.front;
        entries = subst (λ (z : ℕ). get_or ws' o 0 / 16 ≡ (get_or ws' (exit_word o z) 0 + total (inside z) es') % 2 ^ 60) (sym same)
            (ap (λ (x : ℕ). x / 16) first ∙ (h.entries ∙ ap₂ (λ (x y : ℕ). (x + y) % 2 ^ 60) (sym (stay (exit_word o (front_of o ws)) (omega arith))) (sym (moved (front_of o ws)))));
        shown = subst (λ (z : ℕ). IsInside o ws' z now) (sym same) (on (Inside (front_of o ws) now) h.shown);
        ten = h.ten;
        marked = subst (λ (z : ℕ). get_or cs z 0 ≡ no_count) (sym same) h.marked;
        counted = λ b l ne. h.counted b l (λ z. ne (z ∙ sym same)) ∙ ap₂ (λ (x y : ℕ). (x + y) % 2 ^ 60) (sym (stay (exit_word o b) (omega arith))) (sym (moved b));
        each = λ j x q. ⊎_elim (λ (z : (j ≡ id) × (u ≡ x)). subst (SeesWell o ws' cs es') z.1 (on u well)) (λ (z : (j ≢ id) × (get_elem? es j ≡ some x)). on x (h.each j x z.1)) (at_set es id j u x q);
      }

  -- ---- a seat enters the front

  pub shows_enter : (now cs ws : List ℕ) (es : List Eyes) (id : ℕ) → Shows o now cs ws es → o < length ws → get_elem? es id ≡ some Out
      → Shows o now cs (set ws o ((get_or ws o 0 + 16) % 2 ^ 64)) (set es id (Inside (front_of o ws) now))
  shows_enter now cs ws es id h wide at =
      let w : ℕ = get_or ws o 0 in
      let f : ℕ = front_of o ws in
      let w' : ℕ = (w + 16) % 2 ^ 64 in
      let ws' : List ℕ = set ws o w' in
      let u : Eyes = Inside f now in
      let es' : List Eyes = set es id u in
      let first : get_or ws' o 0 ≡ w' = get_or-set_same ws o w' 0 wide in
      let same : front_of o ws' ≡ f = ap (λ (x : ℕ). x % 16) first ∙ omega arith in
      let other : (i : ℕ) → o < i → get_or ws' i 0 ≡ get_or ws i 0 = λ i l. get_or-set_other ws o i w' 0 (λ e. omega arith) in
      let moved : (b : ℕ) → total (inside b) es' ≡ total (inside b) es + inside b u = λ b. omega (arith, total-set (inside b) es id Out u at) in
      let past : (k : ℕ) → total (beyond f k) es' ≡ total (beyond f k) es = λ k. omega (arith, total-set (beyond f k) es id Out u at, beyond_front f k now) in
      let states : (b i : ℕ) → b < buffers → i < buffer_words → get_or ws' (state_word o b i) 0 ≡ get_or ws (state_word o b i) 0 = λ b i _ _. other (state_word o b i) (omega arith) in
      let on : (x : Eyes) → SeesWell o ws cs es x → SeesWell o ws' cs es' x = λ x y. sees_on ws ws' cs es es' same states (λ b ne. omega (arith, moved b, no_in f b now (λ z. ne (sym z)))) (λ k. omega (arith, past k)) x y in
      let e = h.entries in let fr = h.front in
      record {
        front = subst (λ (z : ℕ). z < buffers) (sym same) h.front;
        entries = subst (λ (z : ℕ). get_or ws' o 0 / 16 ≡ (get_or ws' (exit_word o z) 0 + total (inside z) es') % 2 ^ 60) (sym same)
            (ap (λ (x : ℕ). x / 16) first ∙ entered w (get_or ws (exit_word o f) 0) (total (inside f) es) (get_or ws' (exit_word o f) 0) (total (inside f) es') h.entries (other (exit_word o f) (omega arith)) (moved f ∙ ap (λ (x : ℕ). total (inside f) es + x) (yes_in f f now refl)));
        shown = subst (λ (z : ℕ). IsInside o ws' z now) (sym same) (on u h.shown);
        ten = h.ten;
        marked = subst (λ (z : ℕ). get_or cs z 0 ≡ no_count) (sym same) h.marked;
        counted = λ b l ne. let apart : b ≢ f = λ z. ne (z ∙ sym same) in h.counted b l apart ∙ ap₂ (λ (x y : ℕ). (x + y) % 2 ^ 60) (sym (other (exit_word o b) (omega arith))) (omega (arith, moved b, no_in f b now (λ z. apart (sym z))));
        each = λ j x q. ⊎_elim (λ (z : (j ≡ id) × (u ≡ x)). subst (SeesWell o ws' cs es') z.1 (on u h.shown)) (λ (z : (j ≢ id) × (get_elem? es j ≡ some x)). on x (h.each j x z.1)) (at_set es id j u x q);
      }
    where
      entered : (w x n x' n' : ℕ) → w / 16 ≡ (x + n) % 2 ^ 60 → x' ≡ x → n' ≡ n + 1 → (w + 16) % 2 ^ 64 / 16 ≡ (x' + n') % 2 ^ 60
      entered w x n x' n' is a b = omega arith

  -- ---- a seat leaves a buffer

  turn_over : (x n m : ℕ) → m + 1 ≡ n → ((x + 1) % 2 ^ 64 + m) % 2 ^ 60 ≡ (x + n) % 2 ^ 60
  turn_over x n m e = omega arith

  pub shows_leave : (now cs ws : List ℕ) (es : List Eyes) (id b : ℕ) (p : List ℕ) → Shows o now cs ws es → o + 1 + buffers ≤ length ws → get_elem? es id ≡ some (Inside b p)
      → Shows o now cs (set ws (exit_word o b) ((get_or ws (exit_word o b) 0 + 1) % 2 ^ 64)) (set es id Out)
  shows_leave now cs ws es id b p h wide at =
      let n : ℕ = exit_word o b in
      let x : ℕ = get_or ws n 0 in
      let x' : ℕ = (x + 1) % 2 ^ 64 in
      let ws' : List ℕ = set ws n x' in
      let es' : List Eyes = set es id Out in
      let f : ℕ = front_of o ws in
      let near = (h.each id (Inside b p) at).near in
      let here_is : get_or ws' n 0 ≡ x' = get_or-set_same ws n x' 0 (omega arith) in
      let other : (i : ℕ) → i ≢ n → get_or ws' i 0 ≡ get_or ws i 0 = λ i ne. get_or-set_other ws n i x' 0 ne in
      let first : get_or ws' o 0 ≡ get_or ws o 0 = other o (λ e. omega arith) in
      let same : front_of o ws' ≡ f = ap (λ (y : ℕ). y % 16) first in
      let moved : (d : ℕ) → total (inside d) es' + inside d (Inside b p) ≡ total (inside d) es = λ d. omega (arith, total-set (inside d) es id (Inside b p) Out at) in
      let past : (k : ℕ) → total (beyond f k) es' ≤ total (beyond f k) es = λ k. omega (arith, total-set (beyond f k) es id (Inside b p) Out at) in
      let one = yes_in b b p refl in
      let counts : (d : ℕ) → d < buffers → (get_or ws' (exit_word o d) 0 + total (inside d) es') % 2 ^ 60 ≡ (get_or ws (exit_word o d) 0 + total (inside d) es) % 2 ^ 60 = λ d l. dite (ℕ_discrete d b)
      (λ e. subst (λ (y : ℕ). (get_or ws' (exit_word o y) 0 + total (inside y) es') % 2 ^ 60 ≡ (get_or ws (exit_word o y) 0 + total (inside y) es) % 2 ^ 60) (sym e)
      (ap (λ (y : ℕ). (y + total (inside b) es') % 2 ^ 60) here_is ∙ turn_over x (total (inside b) es) (total (inside b) es') (omega (arith, moved b, one))))
      (λ ne. ap₂ (λ (y q : ℕ). (y + q) % 2 ^ 60) (other (exit_word o d) (λ e. ne (omega arith))) (omega (arith, moved d, no_in b d p (λ e. ne (sym e))))) in
      let states : (d i : ℕ) → d < buffers → i < buffer_words → get_or ws' (state_word o d i) 0 ≡ get_or ws (state_word o d i) 0 = λ d i _ _. other (state_word o d i) (λ e. omega arith) in
      let on : (y : Eyes) → SeesWell o ws cs es y → SeesWell o ws' cs es' y = λ y z. sees_on ws ws' cs es es' same states (λ d _. omega (arith, moved d)) past y z in
      let fr = h.front in
      record {
        front = subst (λ (z : ℕ). z < buffers) (sym same) h.front;
        entries = subst (λ (z : ℕ). get_or ws' o 0 / 16 ≡ (get_or ws' (exit_word o z) 0 + total (inside z) es') % 2 ^ 60) (sym same) (ap (λ (y : ℕ). y / 16) first ∙ (h.entries ∙ sym (counts f h.front)));
        shown = subst (λ (z : ℕ). IsInside o ws' z now) (sym same) (on (Inside f now) h.shown);
        ten = h.ten;
        marked = subst (λ (z : ℕ). get_or cs z 0 ≡ no_count) (sym same) h.marked;
        counted = λ d l ne. h.counted d l (λ z. ne (z ∙ sym same)) ∙ sym (counts d l);
        each = λ j y q. ⊎_elim (λ (z : (j ≡ id) × (Out ≡ y)). subst (SeesWell o ws' cs es') z.1 tt) (λ (z : (j ≢ id) × (get_elem? es j ≡ some y)). on y (h.each j y z.1)) (at_set es id j Out y q);
      }

  -- ---- the holder writes a word

  -- the last word that the buffer begins with is another
  pub shows_write : (now cs ws : List ℕ) (es : List Eyes) (id b x y : ℕ) (xs : List ℕ) → Shows o now cs ws es → o + shown_words ≤ length ws → get_elem? es id ≡ some (Writes cs b (xs ++ y ∷ []))
      → ((j : ℕ) (e : Eyes) → j ≢ id → get_elem? es j ≡ some e → is_writing e ≡ false) → Shows o now cs (set ws (state_word o b (length xs)) x) (set es id (Writes cs b (xs ++ x ∷ [])))
  shows_write now cs ws es id b x y xs h wide at alone =
      let old : Eyes = Writes cs b (xs ++ y ∷ []) in
      let u : Eyes = Writes cs b (xs ++ x ∷ []) in
      let k : ℕ = length xs in
      let n : ℕ = state_word o b k in
      let ws' : List ℕ = set ws n x in
      let es' : List Eyes = set es id u in
      let f : ℕ = front_of o ws in
      let w = (h.each id old at).1 in
      let near = w.near in let fr = h.front in
      let long : k + 1 ≤ buffer_words = let s = w.short in omega (arith, length-append xs (y ∷ [])) in
      let here_is : get_or ws' n 0 ≡ x = get_or-set_same ws n x 0 (omega arith) in
      let other : (i : ℕ) → i ≢ n → get_or ws' i 0 ≡ get_or ws i 0 = λ i ne. get_or-set_other ws n i x 0 ne in
      let first : get_or ws' o 0 ≡ get_or ws o 0 = other o (λ e. omega arith) in
      let same : front_of o ws' ≡ f = ap (λ (z : ℕ). z % 16) first in
      let exits : (d : ℕ) → d < buffers → get_or ws' (exit_word o d) 0 ≡ get_or ws (exit_word o d) 0 = λ d l. other (exit_word o d) (λ e. omega arith) in
      let moved : (d : ℕ) → total (inside d) es' ≡ total (inside d) es = λ d. omega (arith, total-set (inside d) es id old u at) in
      let elsewhere : (d i : ℕ) → d ≢ b → i < buffer_words → get_or ws' (state_word o d i) 0 ≡ get_or ws (state_word o d i) 0 = λ d i ne l. other (state_word o d i) (λ e. apart_at d b i k ne l (omega arith) e) in
      let busy : (d i : ℕ) → d < buffers → i < buffer_words → 0 < total (inside d) es → get_or ws' (state_word o d i) 0 ≡ get_or ws (state_word o d i) 0 = λ d i l l' full. elsewhere d i (λ e. let none = w.empty in omega (arith, ap (λ (z : ℕ). total (inside z) es) e)) l' in
      let sh = h.shown in
      record {
        front = subst (λ (z : ℕ). z < buffers) (sym same) h.front;
        entries = subst (λ (z : ℕ). get_or ws' o 0 / 16 ≡ (get_or ws' (exit_word o z) 0 + total (inside z) es') % 2 ^ 60) (sym same)
            (ap (λ (z : ℕ). z / 16) first ∙ (h.entries ∙ ap₂ (λ (z q : ℕ). (z + q) % 2 ^ 60) (sym (exits f fr)) (sym (moved f))));
        shown = subst (λ (z : ℕ). IsInside o ws' z now) (sym same) record { near = sh.near; short = sh.short; stored = λ i l. let s = sh.short in elsewhere f i (λ e. w.apart (sym e)) (omega arith) ∙ sh.stored i l };
        ten = h.ten;
        marked = subst (λ (z : ℕ). get_or cs z 0 ≡ no_count) (sym same) h.marked;
        counted = λ d l ne. h.counted d l (λ z. ne (z ∙ sym same)) ∙ ap₂ (λ (z q : ℕ). (z + q) % 2 ^ 60) (sym (exits d l)) (sym (moved d));
        each = λ j z q. ⊎_elim
            (λ (t : (j ≡ id) × (u ≡ z)). subst (SeesWell o ws' cs es') t.1 (
              refl,
              record {
                near = w.near;
                apart = λ e. w.apart (e ∙ same);
                empty = moved b ∙ w.empty;
                short = omega (arith, length-append xs (x ∷ []));
                stored = λ i l. dite (ℕ_discrete i k)
                    (λ e. ap (λ (z : ℕ). get_or ws' (state_word o b z) 0) e ∙ (here_is ∙ sym (ap (λ (z : ℕ). get_or (xs ++ x ∷ []) z 0) e ∙ last_is xs x)))
                    (λ ne. let less : i < k = omega (arith, length-append xs (x ∷ [])) in other (state_word o b i) (λ e. ne (omega arith)) ∙ (w.stored i (omega (arith, length-append xs (y ∷ []))) ∙ (front_is xs y i less ∙ sym (front_is xs x i less))));
              },
            ))
            (λ (t : (j ≢ id) × (get_elem? es j ≡ some z)). sees_aside ws ws' cs cs es es' j busy z t.1 (alone j z t.0 t.1) (h.each j z t.1)) (at_set es id j u z q);
      }
    where
      apart_at : (d b i k : ℕ) → d ≢ b → i < buffer_words → k < buffer_words → ¬ (state_word o d i ≡ state_word o b k)
      apart_at d b i k ne l m e = ne (omega arith)

  -- ---- the holder makes what it has written the front

  pub shows_swap : (now cs ws : List ℕ) (es : List Eyes) (id b x : ℕ) (xs : List ℕ) → Shows o now cs ws es → o < length ws → get_elem? es id ≡ some (Writes cs b xs)
      → ((j : ℕ) (e : Eyes) → j ≢ id → get_elem? es j ≡ some e → is_writing e ≡ false) → total reads_some es ≤ 8 → x ≡ b + 16 * get_or cs b 0
      → Shows o xs (counts_with cs b (get_or ws o 0)) (set ws o x) (set es id (Keeps (counts_with cs b (get_or ws o 0)) 0))
  shows_swap now cs ws es id b x xs h wide at alone few is =
      let old : Eyes = Writes cs b xs in
      let y : ℕ = get_or ws o 0 in
      let f : ℕ = front_of o ws in
      let cs₁ : List ℕ = set cs b no_count in
      let cs' : List ℕ = counts_with cs b y in
      let u : Eyes = Keeps cs' 0 in
      let ws' : List ℕ = set ws o x in
      let es' : List Eyes = set es id u in
      let w = (h.each id old at).1 in
      let near = w.near in let fr = h.front in let ten = h.ten in
      let apart = w.apart in
      let none = w.empty in
      let count = h.counted b near apart in
      let here_is : get_or ws' o 0 ≡ x = get_or-set_same ws o x 0 wide in
      let other : (i : ℕ) → o < i → get_or ws' i 0 ≡ get_or ws i 0 = λ i l. get_or-set_other ws o i x 0 (λ e. omega arith) in
      let same : front_of o ws' ≡ b = ap (λ (z : ℕ). z % 16) here_is ∙ omega arith in
      let over : x / 16 ≡ get_or cs b 0 = omega arith in
      let moved : (d : ℕ) → total (inside d) es' ≡ total (inside d) es = λ d. omega (arith, total-set (inside d) es id old u at) in
      let reads : total reads_some es' ≡ total reads_some es = omega (arith, total-set reads_some es id old u at) in
      let sums : (d : ℕ) → (get_or ws' (exit_word o d) 0 + total (inside d) es') % 2 ^ 60 ≡ (get_or ws (exit_word o d) 0 + total (inside d) es) % 2 ^ 60 = λ d. ap₂ (λ (z q : ℕ). (z + q) % 2 ^ 60) (other (exit_word o d) (omega arith)) (moved d) in
      let states : (d i : ℕ) → get_or ws' (state_word o d i) 0 ≡ get_or ws (state_word o d i) 0 = λ d i. other (state_word o d i) (omega arith) in
      let ten' : length cs' ≡ buffers = length-set cs₁ f (y / 16) ∙ (length-set cs b no_count ∙ ten) in
      let mark : get_or cs' b 0 ≡ no_count = get_or-set_other cs₁ f b (y / 16) 0 apart ∙ get_or-set_same cs b no_count 0 (omega arith) in
      record {
        front = subst (λ (z : ℕ). z < buffers) (sym same) near;
        entries = subst (λ (z : ℕ). get_or ws' o 0 / 16 ≡ (get_or ws' (exit_word o z) 0 + total (inside z) es') % 2 ^ 60) (sym same) (ap (λ (z : ℕ). z / 16) here_is ∙ (over ∙ (count ∙ sym (sums b))));
        shown = subst (λ (z : ℕ). IsInside o ws' z xs) (sym same) record { near = near; short = w.short; stored = λ i l. states b i ∙ w.stored i l };
        ten = ten';
        marked = subst (λ (z : ℕ). get_or cs' z 0 ≡ no_count) (sym same) mark;
        counted = λ d l ne. let away : d ≢ b = λ e. ne (e ∙ sym same) in dite (ℕ_discrete d f)
            (λ e. subst (λ (z : ℕ). get_or cs' z 0 ≡ (get_or ws' (exit_word o z) 0 + total (inside z) es') % 2 ^ 60) (sym e) (get_or-set_same cs₁ f (y / 16) 0 (omega (arith, length-set cs b no_count)) ∙ (h.entries ∙ sym (sums f))))
            (λ nf. get_or-set_other cs₁ f d (y / 16) 0 nf ∙ (get_or-set_other cs b d no_count 0 away ∙ (h.counted d l nf ∙ sym (sums d))));
        each = λ j z q. ⊎_elim
            (λ (t : (j ≡ id) × (u ≡ z)). subst (SeesWell o ws' cs' es') t.1 (refl, omega arith, searched_none (front_of o ws') es' (omega arith)))
            (λ (t : (j ≢ id) × (get_elem? es j ≡ some z)). sees_aside ws ws' cs cs' es es' j (λ d i _ _ _. states d i) z t.1 (alone j z t.0 t.1) (h.each j z t.1)) (at_set es id j u z q);
      }

  -- ---- a seat comes that sees nothing

  come_total : (g : Eyes → ℕ) (es : List Eyes) → g Out ≡ 0 → total g (es ++ Out ∷ []) ≡ total g es
  come_total g es none = omega (arith, total-append g es (Out ∷ []), none)

  pub shows_come : (now cs ws : List ℕ) (es : List Eyes) → Shows o now cs ws es → Shows o now cs ws (es ++ Out ∷ [])
  shows_come now cs ws es h =
      let es' : List Eyes = es ++ Out ∷ [] in
      let f : ℕ = front_of o ws in
      let on : (e : Eyes) → SeesWell o ws cs es e → SeesWell o ws cs es' e = λ e w. sees_on ws ws cs es es' refl (λ b i _ _. refl) (λ b _. omega (arith, come_total (inside b) es refl)) (λ k. omega (arith, come_total (beyond f k) es refl)) e w in
      record {
        front = h.front;
        entries = h.entries ∙ ap (λ (n : ℕ). (get_or ws (exit_word o f) 0 + n) % 2 ^ 60) (sym (come_total (inside f) es refl));
        shown = h.shown;
        ten = h.ten;
        marked = h.marked;
        counted = λ b l ne. h.counted b l ne ∙ ap (λ (n : ℕ). (get_or ws (exit_word o b) 0 + n) % 2 ^ 60) (sym (come_total (inside b) es refl));
        each = λ j e at. ⊎_elim (λ (q : get_elem? es j ≡ some e). on e (h.each j e q)) (λ (q : Out ≡ e). subst (SeesWell o ws cs es') q tt) (at_snoc es Out e j at);
      }
