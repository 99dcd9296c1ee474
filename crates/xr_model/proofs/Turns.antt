-- Actors that take turns: each turn is the front one's, which then stands last, or leaves.
use Rattle.std.proofs.Common.{arith, ◌≡◌, ◌≤◌, ◌+◌, ◌⊎◌, inl, inr, ℕ, Bool, true, false, List, [], ◌∷◌, ◌++◌, refl, sym, ap, subst, ◌∙◌, true≢false, append_assoc}
use Rattle.std.specs.Prelude.{if◌then◌else◌}
use Rattle.std.proofs.lemmas.List.{append-nil}
use Rattle.xr_types.specs.declared.calls.Actor.{Actor}
use Rattle.xr_types.specs.declared.calls.Actor.TheVariants.{App, Compositor, Device}
use Rattle.xr_model.specs.machine.Calls.{is_actor}
use Rattle.xr_model.specs.laws.RunLaws.{count_of}
use Rattle.xr_model.proofs.Rows.{itself, same_key}

-- ---- actors

pub actor_itself : (a : Actor) → is_actor a a ≡ true
actor_itself (App k) = itself k
actor_itself Compositor = refl
actor_itself Device = refl

pub same_actor : (a b : Actor) → is_actor a b ≡ true → a ≡ b
same_actor (App j) (App k) e = ap App (same_key j k e)
same_actor (App j) Compositor e = absurd (true≢false (sym e))
same_actor (App j) Device e = absurd (true≢false (sym e))
same_actor Compositor (App k) e = absurd (true≢false (sym e))
same_actor Compositor Compositor e = refl
same_actor Compositor Device e = absurd (true≢false (sym e))
same_actor Device (App k) e = absurd (true≢false (sym e))
same_actor Device Compositor e = absurd (true≢false (sym e))
same_actor Device Device e = refl

-- ---- counts

abbrev pub bit : Bool → ℕ
bit b = if b then 1 else 0

pub count_more : (who : Actor) (xs ys : List Actor) → count_of who (xs ++ ys) ≡ count_of who xs + count_of who ys
count_more who [] ys = omega arith
count_more who (x ∷ xs) ys = let more = count_more who xs ys in omega (arith, more)

-- ---- turns

-- by these turns the queue becomes another
abbrev pub Turned : List Actor → List Actor → List Actor → Type 0
Turned queue [] left = queue ≡ left
Turned [] (x ∷ turns) left = ⊥
Turned (y ∷ queue) (x ∷ turns) left = (x ≡ y) × (Turned (queue ++ y ∷ []) turns left ⊎ Turned queue turns left)

pub falls : (who : Actor) (queue turns left : List Actor) → Turned queue turns left → count_of who left ≤ count_of who queue
falls who queue [] left goes = let e = ap (count_of who) goes in omega (arith, e)
falls who [] (x ∷ turns) left goes = absurd goes
falls who (y ∷ queue) (x ∷ turns) left (is, inl goes) =
    let more = falls who (queue ++ y ∷ []) turns left goes in
    let e = count_more who queue (y ∷ []) in
    omega (arith, more, e)
falls who (y ∷ queue) (x ∷ turns) left (is, inr goes) = let more = falls who queue turns left goes in omega (arith, more)

-- whether the first of two stands ahead of the other
abbrev pub leads : Actor → Actor → List Actor → ℕ
leads a b [] = 0
leads a b (x ∷ xs) = if is_actor a x then 1 else if is_actor b x then 0 else leads a b xs

leads_few : (a b : Actor) (xs : List Actor) → leads a b xs ≤ 1
leads_few a b [] = omega arith
leads_few a b (x ∷ xs) = by (is_actor a x) (is_actor b x) (leads_few a b xs)
  where
    by : (p q : Bool) → leads a b xs ≤ 1 → (if p then 1 else if q then 0 else leads a b xs) ≤ 1
    by true q more = omega arith
    by false true more = omega arith
    by false false more = more

leads_more : (a b : Actor) (xs ys : List Actor) → 1 ≤ count_of a xs + count_of b xs → leads a b (xs ++ ys) ≡ leads a b xs
leads_more a b [] ys some = absurd (omega arith)
leads_more a b (x ∷ xs) ys some = by (is_actor a x) (is_actor b x) some (leads_more a b xs ys)
  where
    by : (p q : Bool) → 1 ≤ bit p + count_of a xs + (bit q + count_of b xs)
        → (1 ≤ count_of a xs + count_of b xs → leads a b (xs ++ ys) ≡ leads a b xs)
        → (if p then 1 else if q then 0 else leads a b (xs ++ ys)) ≡ (if p then 1 else if q then 0 else leads a b xs)
    by true q some more = refl
    by false true some more = refl
    by false false some more = more (omega arith)

leads_without : (a b : Actor) (xs : List Actor) → count_of a xs ≡ 0 → leads a b xs ≡ 0
leads_without a b [] none = refl
leads_without a b (x ∷ xs) none = by (is_actor a x) (is_actor b x) none (leads_without a b xs)
  where
    by : (p q : Bool) → bit p + count_of a xs ≡ 0 → (count_of a xs ≡ 0 → leads a b xs ≡ 0) → (if p then 1 else if q then 0 else leads a b xs) ≡ 0
    by true q none more = absurd (omega arith)
    by false true none more = refl
    by false false none more = more (omega arith)

leads_alone : (a b : Actor) (xs : List Actor) → 1 ≤ count_of a xs → count_of b xs ≡ 0 → leads a b xs ≡ 1
leads_alone a b [] some none = absurd (omega arith)
leads_alone a b (x ∷ xs) some none = by (is_actor a x) (is_actor b x) some none (leads_alone a b xs)
  where
    by : (p q : Bool) → 1 ≤ bit p + count_of a xs → bit q + count_of b xs ≡ 0 → (1 ≤ count_of a xs → count_of b xs ≡ 0 → leads a b xs ≡ 1)
        → (if p then 1 else if q then 0 else leads a b xs) ≡ 1
    by true q some none more = refl
    by false true some none more = absurd (omega arith)
    by false false some none more = more (omega arith) (omega arith)

-- one turn of one of the two, or of another
module _ (a b : Actor) (other : is_actor a b ≡ false) where
  one_turn : (y : Actor) (queue : List Actor) → count_of a (y ∷ queue) ≡ 1 → count_of b (y ∷ queue) ≡ 1
      → bit (is_actor a y) + leads a b (queue ++ y ∷ []) ≡ bit (is_actor b y) + leads a b (y ∷ queue)
  one_turn y queue one two = by (is_actor a y) refl (is_actor b y) refl one two
    where
      by : (p : Bool) → is_actor a y ≡ p → (q : Bool) → is_actor b y ≡ q → bit p + count_of a queue ≡ 1 → bit q + count_of b queue ≡ 1
          → bit p + leads a b (queue ++ y ∷ []) ≡ bit q + (if p then 1 else if q then 0 else leads a b queue)
      by true ep true eq one two =
          absurd (true≢false (sym (subst (λ x. is_actor a x ≡ true) (same_actor a y ep ∙ sym (same_actor b y eq)) (actor_itself a)) ∙ other))
      by true ep false eq one two =
          let some : 1 ≤ count_of a queue + count_of b queue = omega arith in
          let e = leads_more a b queue (y ∷ []) some in
          let none : count_of a queue ≡ 0 = omega arith in
          let f = leads_without a b queue none in
          omega (arith, e, f)
      by false ep true eq one two =
          let some : 1 ≤ count_of a queue + count_of b queue = omega arith in
          let e = leads_more a b queue (y ∷ []) some in
          let none : count_of b queue ≡ 0 = omega arith in
          let there : 1 ≤ count_of a queue = omega arith in
          let f = leads_alone a b queue there none in
          omega (arith, e, f)
      by false ep false eq one two =
          let some : 1 ≤ count_of a queue + count_of b queue = omega arith in
          let e = leads_more a b queue (y ∷ []) some in
          omega (arith, e)

  stays : (y : Actor) (queue : List Actor) → count_of a (y ∷ queue) ≡ 1 → count_of b (y ∷ queue) ≡ 1 → 1 ≤ count_of a queue → 1 ≤ count_of b queue
      → bit (is_actor a y) + leads a b queue ≡ bit (is_actor b y) + leads a b (y ∷ queue)
  stays y queue one two first second = by (is_actor a y) (is_actor b y) one two
    where
      by : (p q : Bool) → bit p + count_of a queue ≡ 1 → bit q + count_of b queue ≡ 1 → bit p + leads a b queue
          ≡ bit q + (if p then 1 else if q then 0 else leads a b queue)
      by true q one two = absurd (omega arith)
      by false true one two = absurd (omega arith)
      by false false one two = refl

  -- two that stand in the queue all the while have turns alike
  pub even : (queue turns left : List Actor) → Turned queue turns left → count_of a queue ≡ 1 → count_of b queue ≡ 1 → 1 ≤ count_of a left
      → 1 ≤ count_of b left
      → count_of a turns + leads a b left ≡ count_of b turns + leads a b queue
  even queue [] left goes one two first second = let e = ap (leads a b) goes in omega (arith, e)
  even [] (x ∷ turns) left goes one two first second = absurd goes
  even (y ∷ queue) (x ∷ turns) left (is, inl goes) one two first second =
      let ea = count_more a queue (y ∷ []) in
      let eb = count_more b queue (y ∷ []) in
      let one_on : count_of a (queue ++ y ∷ []) ≡ 1 = omega (arith, ea) in
      let two_on : count_of b (queue ++ y ∷ []) ≡ 1 = omega (arith, eb) in
      let more = even (queue ++ y ∷ []) turns left goes one_on two_on first second in
      let here = one_turn y queue one two in
      let fa = ap (λ z. bit (is_actor a z)) is in
      let fb = ap (λ z. bit (is_actor b z)) is in
      omega (arith, more, here, fa, fb)
  even (y ∷ queue) (x ∷ turns) left (is, inr goes) one two first second =
      let la = falls a queue turns left goes in
      let lb = falls b queue turns left goes in
      let there : 1 ≤ count_of a queue = omega (arith, la) in
      let also : 1 ≤ count_of b queue = omega (arith, lb) in
      let one_on : count_of a queue ≡ 1 = omega arith in
      let two_on : count_of b queue ≡ 1 = omega arith in
      let more = even queue turns left goes one_on two_on first second in
      let here = stays y queue one two there also in
      let fa = ap (λ z. bit (is_actor a z)) is in
      let fb = ap (λ z. bit (is_actor b z)) is in
      omega (arith, more, here, fa, fb)

  pub alike : (queue turns left : List Actor) → Turned queue turns left → count_of a queue ≡ 1 → count_of b queue ≡ 1 → 1 ≤ count_of a left
      → 1 ≤ count_of b left → leads a b queue ≡ 1
      → (count_of b turns ≤ count_of a turns) × (count_of a turns ≤ count_of b turns + 1)
  alike queue turns left goes one two first second ahead =
      let e = even queue turns left goes one two first second in
      let few = leads_few a b left in
      (omega (arith, e, few, ahead), omega (arith, e, few, ahead))

-- ---- turns one after another

pub front : (queue turns later left : List Actor) → Turned queue (turns ++ later) left → (mid : List Actor) × Turned queue turns mid
    × Turned mid later left
front queue [] later left goes = (queue, refl, goes)
front [] (x ∷ turns) later left goes = absurd goes
front (y ∷ queue) (x ∷ turns) later left (is, inl goes) =
    let more = front (queue ++ y ∷ []) turns later left goes in
    (more.0, (is, inl more.1), more.2)
front (y ∷ queue) (x ∷ turns) later left (is, inr goes) = let more = front queue turns later left goes in (more.0, (is, inr more.1), more.2)

pub joined : (queue turns mid later left : List Actor) → Turned queue turns mid → Turned mid later left → Turned queue (turns ++ later) left
joined queue [] mid later left goes on = subst (λ q. Turned q later left) (sym goes) on
joined [] (x ∷ turns) mid later left goes on = absurd goes
joined (y ∷ queue) (x ∷ turns) mid later left (is, inl goes) on = (is, inl (joined (queue ++ y ∷ []) turns mid later left goes on))
joined (y ∷ queue) (x ∷ turns) mid later left (is, inr goes) on = (is, inr (joined queue turns mid later left goes on))

passing : (ps queue : List Actor) → Turned (ps ++ queue) ps (queue ++ ps)
passing [] queue = sym (append-nil queue)
passing (p ∷ ps) queue = (
  refl,
  inl (subst (λ q. Turned q ps (queue ++ p ∷ ps)) (sym (append_assoc ps queue (p ∷ [])))
      (subst (λ l. Turned (ps ++ (queue ++ p ∷ [])) ps l) (append_assoc queue (p ∷ []) ps) (passing ps (queue ++ p ∷ [])))),
)

-- those in front are passed over, and the next one stands last, or leaves
pub passed_over : (ps : List Actor) (x : Actor) (behind left : List Actor) → (left ≡ x ∷ []) ⊎ (left ≡ [])
    → Turned (ps ++ x ∷ behind) (ps ++ x ∷ []) (behind ++ ps ++ left)
passed_over ps x behind left own =
    joined (ps ++ x ∷ behind) ps (x ∷ (behind ++ ps)) (x ∷ []) (behind ++ ps ++ left) (passing ps (x ∷ behind)) (by own)
  where
    by : (left ≡ x ∷ []) ⊎ (left ≡ []) → Turned (x ∷ (behind ++ ps)) (x ∷ []) (behind ++ ps ++ left)
    by (inl own) = (refl, inl (ap (λ l. behind ++ ps ++ l) (sym own)))
    by (inr own) = (refl, inr (sym (append-nil (behind ++ ps)) ∙ ap (λ l. behind ++ ps ++ l) (sym own)))
