-- What was told, what was lost and what waits adds up to what was pushed.
use Rattle.std.proofs.Common.{◌≡◌, ◌≤◌, ◌<◌, ◌+◌, ◌==◌, ℕ, suc, not, Bool, true, false, List, [], ◌∷◌, ◌++◌, length, map, drop, min, nat_lt, Some, refl, sym, ap, subst, ◌∙◌, append_assoc, append-nil, arith, true≢false}
use Rattle.std.specs.Prelude.{if◌then◌else◌}
use Rattle.std.specs.List.{filter, list_any}
use Rattle.std.proofs.lemmas.List.{length-append}
use Rattle.xr_types.specs.declared.session.Event.{Event}
use Rattle.xr_types.specs.declared.session.Event.TheVariants.{Lost, State}
use Rattle.xr_types.specs.declared.limits.TheConstants.{EVENTS}
use Rattle.xr_model.specs.machine.Events.{oldest, most_lost}
use Rattle.xr_model.specs.laws.EventLaws.{QueueStep, push, poll, pushes_of, is_count, event_told, losses_told, Trace, with_push, with_poll, traced, no_trace, Gone, EventsAddUp}
use Rattle.xr_model.proofs.Rows.{neither_of, same_key}

-- ---- one more is gone

abbrev one_gone : Event → Bool → Gone
one_gone event was_told = record { event = event; was_told = was_told }

told_append : (gone : List Gone) (g : Gone) → map (λ g. g.event) (filter (λ g. g.was_told) (gone ++ g ∷ [])) ≡ map (λ g. g.event) (filter (λ g. g.was_told) gone) ++ map (λ g. g.event) (filter (λ g. g.was_told) (g ∷ []))
told_append [] g = refl
told_append (x ∷ gone) g = by x.was_told (told_append gone g)
  where
    by : (b : Bool) → map (λ g. g.event) (filter (λ g. g.was_told) (gone ++ g ∷ [])) ≡ map (λ g. g.event) (filter (λ g. g.was_told) gone) ++ map (λ g. g.event) (filter (λ g. g.was_told) (g ∷ []))
        → map (λ g. g.event) (if b then x ∷ filter (λ g. g.was_told) (gone ++ g ∷ []) else filter (λ g. g.was_told) (gone ++ g ∷ [])) ≡ map (λ g. g.event) (if b then x ∷ filter (λ g. g.was_told) gone else filter (λ g. g.was_told) gone) ++ map (λ g. g.event) (filter (λ g. g.was_told) (g ∷ []))
    by true more = ap (λ (l : List Event). x.event ∷ l) more
    by false more = more

lost_append : (gone : List Gone) (g : Gone) → length (filter (λ g. not g.was_told) (gone ++ g ∷ [])) ≡ length (filter (λ g. not g.was_told) gone) + length (filter (λ g. not g.was_told) (g ∷ []))
lost_append [] g = omega arith
lost_append (x ∷ gone) g = by (not x.was_told) (lost_append gone g)
  where
    by : (b : Bool) → length (filter (λ g. not g.was_told) (gone ++ g ∷ [])) ≡ length (filter (λ g. not g.was_told) gone) + length (filter (λ g. not g.was_told) (g ∷ []))
        → length (if b then x ∷ filter (λ g. not g.was_told) (gone ++ g ∷ []) else filter (λ g. not g.was_told) (gone ++ g ∷ [])) ≡ length (if b then x ∷ filter (λ g. not g.was_told) gone else filter (λ g. not g.was_told) gone) + length (filter (λ g. not g.was_told) (g ∷ []))
    by true more = omega (arith, more)
    by false more = more

events_append : (gone : List Gone) (g : Gone) (rest : List Event) → map (λ g. g.event) (gone ++ g ∷ []) ++ rest ≡ map (λ g. g.event) gone ++ (g.event ∷ rest)
events_append [] g rest = refl
events_append (x ∷ gone) g rest = ap (λ (l : List Event). x.event ∷ l) (events_append gone g rest)

-- ---- numbers

below : (n m : ℕ) → nat_lt n m ≡ true → n < m
below n m e = grind (arith, e)

not_below : (n m : ℕ) → nat_lt n m ≡ false → m ≤ n
not_below n m e = grind (arith, e)

least : (n m : ℕ) → n ≤ m → min n m ≡ n
least n m e = omega (arith, e)

none_lost : (n : ℕ) → (n == 0) ≡ true → n ≡ 0
none_lost n e = same_key n 0 e

-- ---- a queue that adds up, but for the sum

record Holds (came : List Event) (t : Trace) : Type 0 where
  gone : List Gone
  order : came ≡ map (λ g. g.event) gone ++ t.queue.waiting
  told : t.told ≡ map (λ g. g.event) (filter (λ g. g.was_told) gone)
  lost : length (filter (λ g. not g.was_told) gone) ≡ t.losses + t.queue.lost
  few : length t.queue.waiting ≤ EVENTS
  full : (t.queue.lost == 0) ≡ false → length t.queue.waiting ≡ EVENTS

sum_of : (gone : List Gone) → length gone ≡ length (filter (λ g. g.was_told) gone) + length (filter (λ g. not g.was_told) gone)
sum_of [] = omega arith
sum_of (g ∷ gone) = by g.was_told (sum_of gone)
  where
    by : (b : Bool) → length gone ≡ length (filter (λ g. g.was_told) gone) + length (filter (λ g. not g.was_told) gone)
        → length (g ∷ gone) ≡ length (if b then g ∷ filter (λ g. g.was_told) gone else filter (λ g. g.was_told) gone) + length (if not b then g ∷ filter (λ g. not g.was_told) gone else filter (λ g. not g.was_told) gone)
    by true more = omega (arith, more)
    by false more = omega (arith, more)

length_map : {A B : Type 0} (f : A → B) (xs : List A) → length (map f xs) ≡ length xs
length_map f [] = refl
length_map f (x ∷ xs) = ap (λ (n : ℕ). suc n) (length_map f xs)

module _ (came : List Event) (t : Trace) (h : Holds came t) where
  sum : length came ≡ length t.told + (t.losses + t.queue.lost) + length t.queue.waiting
  sum =
      let all = ap (λ (l : List Event). length l) h.order ∙ length-append (map (λ g. g.event) h.gone) t.queue.waiting in
      let one = length_map (λ (g : Gone). g.event) h.gone in
      let told = ap (λ (l : List Event). length l) h.told ∙ length_map (λ (g : Gone). g.event) (filter (λ g. g.was_told) h.gone) in
      let parts = sum_of h.gone in
      let lost = h.lost in
      omega (arith, all, one, told, parts, lost)

  -- an event comes
  push_holds : (event : Event) → length came + 1 ≤ most_lost → Holds (came ++ event ∷ []) (with_push t event)
  push_holds event small = by (nat_lt (length t.queue.waiting) EVENTS) refl
    where
      drops : (w : List Event) → t.queue.waiting ≡ w → nat_lt (length t.queue.waiting) EVENTS ≡ false → Holds (came ++ event ∷ []) (record t { queue = record { waiting = drop 1 t.queue.waiting ++ event ∷ []; lost = min (t.queue.lost + 1) most_lost } })
      drops [] same full =
          let none = ap (λ (l : List Event). length l) same in
          let many = not_below (length t.queue.waiting) EVENTS full in
          absurd (omega (arith, none, many))
      drops (w ∷ ws) same full =
          let few = h.few in
          let all = sum in
          let many = not_below (length t.queue.waiting) EVENTS full in
          let one : length t.queue.waiting ≡ suc (length ws) = ap (λ (l : List Event). length l) same in
          let more = length-append (drop 1 t.queue.waiting) (event ∷ []) in
          let left : drop 1 t.queue.waiting ≡ ws = ap (λ (l : List Event). drop 1 l) same in
          let rest = ap (λ (l : List Event). length l) left in
          let exact : length (drop 1 t.queue.waiting ++ event ∷ []) ≡ EVENTS = omega (arith, few, many, one, more, rest) in
          let counts : min (t.queue.lost + 1) most_lost ≡ t.queue.lost + 1 = least (t.queue.lost + 1) most_lost (omega (arith, small, all)) in
          let lost = lost_append h.gone (one_gone w false) in
          let before = h.lost in
          record {
            gone = h.gone ++ one_gone w false ∷ [];
            order = ap (λ (l : List Event). l ++ event ∷ []) (h.order ∙ ap (λ (l : List Event). map (λ g. g.event) h.gone ++ l) same) ∙ append_assoc (map (λ g. g.event) h.gone) (w ∷ ws) (event ∷ [])
                ∙ sym (events_append h.gone (one_gone w false) (ws ++ event ∷ [])) ∙ ap (λ (l : List Event). map (λ g. g.event) (h.gone ++ one_gone w false ∷ []) ++ (l ++ event ∷ [])) (sym left);
            told = h.told ∙ sym (append-nil _) ∙ sym (told_append h.gone (one_gone w false));
            lost = lost ∙ rw counts (omega (arith, before));
            few = omega (arith, exact);
            full = λ some. exact;
          }

      by : (b : Bool) → nat_lt (length t.queue.waiting) EVENTS ≡ b
          → Holds (came ++ event ∷ []) (record t { queue = if b then record t.queue { waiting = t.queue.waiting ++ event ∷ [] } else record { waiting = drop 1 t.queue.waiting ++ event ∷ []; lost = min (t.queue.lost + 1) most_lost } })
      by true room = record {
        gone = h.gone;
        order = ap (λ (l : List Event). l ++ event ∷ []) h.order ∙ append_assoc (map (λ g. g.event) h.gone) t.queue.waiting (event ∷ []);
        told = h.told;
        lost = h.lost;
        few = let more = length-append t.queue.waiting (event ∷ []) in let fits = below (length t.queue.waiting) EVENTS room in omega (arith, more, fits);
        full = λ some. let all = h.full some in let fits = below (length t.queue.waiting) EVENTS room in absurd (omega (arith, all, fits));
      }
      by false full = drops t.queue.waiting refl full

  -- a poll
  poll_holds : list_any is_count t.queue.waiting ≡ false → Holds came (with_poll t)
  poll_holds plain = by (t.queue.lost == 0) refl
    where
      -- no losses are to be told
      events : (w : List Event) → t.queue.waiting ≡ w → list_any is_count w ≡ false → t.queue.lost ≡ 0
          → Holds came (record { queue = record t.queue { waiting = drop 1 w }; told = t.told ++ event_told (oldest w); losses = t.losses + losses_told (oldest w) })
      events [] same plain none = record {
        gone = h.gone;
        order = h.order ∙ ap (λ (l : List Event). map (λ g. g.event) h.gone ++ l) same;
        told = append-nil t.told ∙ h.told;
        lost = h.lost ∙ omega arith;
        few = omega arith;
        full = λ some. absurd (true≢false (sym (ap (λ (n : ℕ). n == 0) none) ∙ some));
      }
      events (Lost n ∷ ws) same plain none = absurd (true≢false plain)
      events (State ordinal session state ∷ ws) same plain none =
          let w = State ordinal session state in
          let few = h.few in
          let one = ap (λ (l : List Event). length l) same in
          let lost = lost_append h.gone (one_gone w true) in
          let before = h.lost in
          record {
            gone = h.gone ++ one_gone w true ∷ [];
            order = h.order ∙ ap (λ (l : List Event). map (λ g. g.event) h.gone ++ l) same ∙ sym (events_append h.gone (one_gone w true) ws);
            told = ap (λ (l : List Event). l ++ w ∷ []) h.told ∙ sym (told_append h.gone (one_gone w true));
            lost = lost ∙ omega (arith, before);
            few = omega (arith, few, one);
            full = λ some. absurd (true≢false (sym (ap (λ (n : ℕ). n == 0) none) ∙ some));
          }

      by : (b : Bool) → (t.queue.lost == 0) ≡ b
          → Holds came (record {
            queue = if b then record t.queue { waiting = drop 1 t.queue.waiting } else record t.queue { lost = 0 };
            told = t.told ++ event_told (if b then oldest t.queue.waiting else Some (Lost t.queue.lost));
            losses = t.losses + losses_told (if b then oldest t.queue.waiting else Some (Lost t.queue.lost));
          })
      by true none = events t.queue.waiting refl plain (none_lost t.queue.lost none)
      by false some =
          let before = h.lost in
          record {
            gone = h.gone;
            order = h.order;
            told = append-nil t.told ∙ h.told;
            lost = omega (arith, before);
            few = h.few;
            full = λ again. absurd (true≢false again);
          }

-- ---- any steps

none_of_two : {T : Type 0} (p : T → Bool) (xs ys : List T) → list_any p (xs ++ ys) ≡ false → (list_any p xs ≡ false) × (list_any p ys ≡ false)
none_of_two p [] ys none = (refl, none)
none_of_two p (x ∷ xs) ys none =
    let here = neither_of (p x) (list_any p (xs ++ ys)) none in
    let more = none_of_two p xs ys here.1 in
    (rw (here.0, more.0) refl, more.1)

holds_after : (steps : List QueueStep) (came : List Event) (t : Trace) → Holds came t → list_any is_count (came ++ pushes_of steps) ≡ false → length (came ++ pushes_of steps) ≤ most_lost → Holds (came ++ pushes_of steps) (traced t steps)
holds_after [] came t h plain small = subst (λ (l : List Event). Holds l t) (sym (append-nil came)) h
holds_after (push event ∷ steps) came t h plain small =
    let joined : (came ++ event ∷ []) ++ pushes_of steps ≡ came ++ event ∷ pushes_of steps = append_assoc came (event ∷ []) (pushes_of steps) in
    let long = length-append came (event ∷ pushes_of steps) in
    let one : length (event ∷ pushes_of steps) ≡ suc (length (pushes_of steps)) = refl in
    let next = push_holds came t h event (omega (arith, small, long, one)) in
    subst (λ (l : List Event). Holds l (traced (with_push t event) steps)) joined
    (holds_after steps (came ++ event ∷ []) (with_push t event) next (subst (λ (l : List Event). list_any is_count l ≡ false) (sym joined) plain) (subst (λ (l : List Event). length l ≤ most_lost) (sym joined) small))
holds_after (poll ∷ steps) came t h plain small =
    let front = (none_of_two is_count came (pushes_of steps) plain).0 in
    let waiting = (none_of_two is_count (map (λ g. g.event) h.gone) t.queue.waiting (subst (λ (l : List Event). list_any is_count l ≡ false) h.order front)).1 in
    holds_after steps came (with_poll t) (poll_holds came t h waiting) plain small

pub events_add_up : EventsAddUp
events_add_up steps plain small =
    let h = holds_after steps [] no_trace (record { gone = []; order = refl; told = refl; lost = refl; few = omega arith; full = λ some. absurd (true≢false some) }) plain small in
    record { gone = h.gone; order = h.order; told = h.told; lost = h.lost; sum = sum (pushes_of steps) (traced no_trace steps) h; few = h.few; full = h.full }
