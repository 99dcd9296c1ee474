-- An application's calls, one after another.
use Rattle.std.proofs.Common.{◌≡◌, ◌≤◌, ◌<◌, ◌+◌, ◌^◌, ◌∙◌, ℕ, ℤ, Bool, true, false, List, [], ◌∷◌, ◌++◌, length, take, drop, Option, Some, None, IfSome, refl, sym, ap, subst, arith, append_assoc, append-nil, length-append, take-add}
use Rattle.std.specs.Prelude.{nat_lt, Result, Ok, Err, option_map}
use Rattle.std.proofs.lemmas.List.{length-take-le, length-set, length-replicate, take_all}
use Rattle.atomic_table.specs.Seated.{TableId}
use Rattle.atomic_table.specs.declared.shared.Seat.{Seat}
use Rattle.xr_model.specs.machine.State.{WholeCore}
use Rattle.xr_rule.specs.declared.held.Held.{Held}
use Rattle.xr_types.specs.declared.calls.Actor.{Actor}
use Rattle.xr_types.specs.declared.calls.NoMemory.{NoMemory}
use Rattle.xr_types.specs.declared.calls.Reply.{Reply}
use Rattle.xr_types.specs.declared.made.Made.{Made}
use Rattle.xr_types.specs.declared.scenario.Op.{Op}
use Rattle.xr_types.specs.declared.scenario.Op.TheVariants as op
use Rattle.xr_model.specs.machine.Calls.{Exchange}
use Rattle.xr_types.specs.declared.calls.Call.{Call}
use Rattle.xr_types.specs.declared.calls.Call.TheVariants as ask
use Rattle.xr_model.specs.runs.Lists.{made_at, made_from}
use Rattle.xr_model.specs.runs.NameValues.{no_values, with_name_value}
use Rattle.xr_model.specs.runs.Scripts.{request_for, unstarted, FollowsFrom}
use Rattle.xr_rule.specs.View.{View, calls_in}
use Rattle.xr_runtime.specs.Passes.{IsApp, MayCall}
use Rattle.xr_runtime.specs.declared.passes.AppPass.{AppPass}
use Rattle.xr_types.specs.CallKinds.{written_size, lent_size, with_start, listed_as, is_leave}
use Rattle.xr_workers.specs.declared.script.Asked.{Asked}
use Rattle.xr_workers.specs.inside.Made.{CallMade, AskedBy}
use Rattle.xr_workers.specs.inside.Script.{Leads, MadeOps, MadeOp, MadeSome}
use Rattle.xr_workers.specs.Workers.{IsGated, ListsScript, RanScript}
use Rattle.xr_runs.proofs.Listing.{made_snoc}
use Rattle.xr_runs.proofs.OpCalls.{same_request}

-- ---- the gate

pub gated_on : (came went : Actor → ℕ → ℕ → Type 0) (who : Actor) (a b c : ℕ) → IsGated came went who a b → IsGated came went who b c → IsGated came went who a c
gated_on came went who a b c first second n above within = by (nat_lt n b) refl
  where
    by : (t : Bool) → nat_lt n b ≡ t → came who (n + 1) n × went who (n + 1) (n + 1)
    by true is = first n above (grind (arith, is))
    by false is = second n (grind (arith, is)) within

pub gated_none : (came went : Actor → ℕ → ℕ → Type 0) (who : Actor) (a : ℕ) → IsGated came went who a a
gated_none came went who a n above within = absurd (omega (arith, above, within))

-- one call, which the actor came to having made so many, and from which it went on having made so many
pub gated_one : (came went : Actor → ℕ → ℕ → Type 0) (who : Actor) (a number before behind : ℕ) → number ≡ a + 1 → before ≡ a → behind ≡ a + 1 → came who number before → went who number behind → IsGated came went who a (a + 1)
gated_one came went who a number before behind at old new comes goes n above within =
    let same : a ≡ n = omega (arith, above, within) in
    subst (λ (k : ℕ). came who (k + 1) k × went who (k + 1) (k + 1)) same
    (subst (λ (z : ℕ × ℕ). came who z.0 z.1) (λ i. (at i, old i)) comes, subst (λ (z : ℕ × ℕ). went who z.0 z.1) (λ i. (at i, new i)) goes)

-- how many calls of its own a seat has made
abbrev made_by : Seat (Option (Held WholeCore)) View → ℕ
made_by s = length (calls_in s.me.0.know.own)

-- one call of a pass, with whose seat the gate was called before it and behind it
pub seat_gated : (came went : Actor → ℕ → ℕ → Type 0) (who : Actor) (a number : ℕ) (first second old new : Seat (Option (Held WholeCore)) View) (t : Exchange)
    → number ≡ a → a ≡ made_by old → calls_in new.me.0.know.own ≡ calls_in old.me.0.know.own ++ t ∷ [] → first ≡ old → second ≡ new
    → came who (number + 1) (made_by first) → went who (number + 1) (made_by second) → IsGated came went who a (a + 1)
seat_gated came went who a number first second old new t at counts more is_old is_new comes goes =
    let before : made_by first ≡ a = ap made_by is_old ∙ sym counts in
    let behind : made_by second ≡ a + 1 = ap made_by is_new ∙ (ap length more ∙ (length-append (calls_in old.me.0.know.own) (t ∷ []) ∙ ap (λ (k : ℕ). k + 1) (sym counts))) in
    gated_one came went who a (number + 1) (made_by first) (made_by second) (ap (λ (k : ℕ). k + 1) at) before behind comes goes

-- ---- one op

-- a wait that begins twice at a clock begins there
pub begun_twice : (clock : ℤ) (what : Call) → with_start clock (with_start clock what) ≡ with_start clock what
begun_twice clock (ask.WaitImage chain timeout start) = refl
begun_twice clock _ = refl

-- the call of an op, once its wait begins at this clock
pub begun_call : (clock t : ℤ) (names : List ℕ) (o : Op) (made begun : Call) → begun ≡ with_start t made → t ≡ clock → made ≡ request_for names o → begun ≡ with_start clock (request_for names o)
begun_call clock t names o made begun is at asks = is ∙ ap (λ (z : ℤ). with_start z made) at ∙ ap (with_start clock) asks

op_stays : (clock : ℤ) (values : List ℕ) (o : Op) → is_leave (with_start clock (request_for values o)) ≡ false
op_stays clock values (op.CreateInstance major minor) = refl
op_stays clock values _ = refl

module _ (table : TableId) (place : ℕ) (o : Op) (old new : AppPass) (names learned : List ℕ) (asked : Asked) (a : AskedBy table old (with_start old.clock (request_for names o)) asked new) (is : learned ≡ with_name_value names place o asked.reply) where
  pub op_made : (listed : Option Made) → IfSome listed (λ made. made ≡ made_at place a.exchange) → MadeOp table place o old new names learned listed
  op_made listed lists = record {
    is = a.is;
    same = a.same;
    stays = a.left_is ∙ op_stays old.clock names o;
    call = a.exchange;
    adds = a.made;
    asks = ap unstarted a.asks ∙ same_request old.clock names o;
    names_are = is ∙ ap (with_name_value names place o) (sym a.replies);
    lists = lists;
  }

  pub op_listed : (text : List ℕ) (made : Made) → asked.text ≡ Some text → made ≡ listed_as (with_start old.clock (request_for names o)) place asked.reply text → MadeOp table place o old new names learned (Some made)
  op_listed text made some same =
      let wrote : text ≡ a.exchange.outcome.text = subst (λ (t : Option (List ℕ)). IfSome t (λ u. u ≡ a.exchange.outcome.text)) some a.writes in
      op_made (Some made) (same ∙ sym (rw (a.asks, a.replies, ← wrote) refl))

-- ---- some ops

leads_more : (place : ℕ) (values : List ℕ) (os : List Op) (ts : List Exchange) (last : List ℕ) (o : Op) (t : Exchange) → Leads place values os ts last → unstarted t.call ≡ request_for last o
    → Leads place values (os ++ o ∷ []) (ts ++ t ∷ []) (with_name_value last (place + length os) o t.outcome.reply)
leads_more place values [] [] last o t h asks = (asks ∙ ap (λ (v : List ℕ). request_for v o) (sym h), let same : place ≡ place + 0 = omega arith in rw (h, ← same) refl)
leads_more place values [] (u ∷ ts) last o t h asks = absurd h
leads_more place values (p ∷ os) [] last o t h asks = absurd h
leads_more place values (p ∷ os) (u ∷ ts) last o t h asks =
    let same : place + 1 + length os ≡ place + length (p ∷ os) = omega arith in
    (h.0, subst (λ (n : ℕ). Leads (place + 1) (with_name_value values place p u.outcome.reply) (os ++ o ∷ []) (ts ++ t ∷ []) (with_name_value last n o t.outcome.reply)) same (leads_more (place + 1) (with_name_value values place p u.outcome.reply) os ts last o t h.1 asks))

leads_length : (place : ℕ) (values : List ℕ) (os : List Op) (ts : List Exchange) (last : List ℕ) → Leads place values os ts last → (length last ≡ length values) × (length ts ≡ length os)
leads_length place values [] [] last h = (ap length (sym h), refl)
leads_length place values [] (u ∷ ts) last h = absurd h
leads_length place values (p ∷ os) [] last h = absurd h
leads_length place values (p ∷ os) (u ∷ ts) last h =
    let rest = leads_length (place + 1) (with_name_value values place p u.outcome.reply) os ts last h.1 in
    let size = rest.1 in
    (rest.0 ∙ kept, omega (arith, size))
  where
    kept : length (with_name_value values place p u.outcome.reply) ≡ length values
    kept = length-set _ _ _

follows_leave : (place : ℕ) (values : List ℕ) (os : List Op) (ts : List Exchange) (last : List ℕ) (t : Exchange) → Leads place values os ts last → t.call ≡ ask.Leave → FollowsFrom true place values os (ts ++ t ∷ [])
follows_leave place values [] [] last t h asks = asks
follows_leave place values [] (u ∷ ts) last t h asks = absurd h
follows_leave place values (p ∷ os) [] last t h asks = absurd h
follows_leave place values (p ∷ os) (u ∷ ts) last t h asks = (h.0, follows_leave (place + 1) (with_name_value values place p u.outcome.reply) os ts last t h.1 asks)

pub none_made : (table : TableId) (ops : List Op) (p : AppPass) → IsApp table p → p.left ≡ false → MadeOps table ops 0 (no_values (length ops)) p p []
none_made table ops p is stays = record { is = is; same = refl; stays = stays; adds = sym (append-nil (calls_in p.seat.me.0.know.own)); leads = refl }

module _ (table : TableId) (ops : List Op) (count : ℕ) (values : List ℕ) (first old : AppPass) (calls : List Exchange) (within : count ≤ length ops) (m : MadeOps table ops count values first old calls) where
  pub calls_are : length calls ≡ count
  calls_are = (leads_length 1 (no_values (length ops)) (take count ops) calls values m.leads).1 ∙ length-take-le count ops within

  pub values_are : length values ≡ length ops
  values_are = (leads_length 1 (no_values (length ops)) (take count ops) calls values m.leads).0 ∙ length-replicate (length ops) 0

  counted : IsApp table first → old.calls ≡ first.calls + count
  counted is =
      let before = is.counts in
      let now = m.is.counts in
      let more = ap length m.adds in
      omega (arith, before, now, more, calls_are, length-append (calls_in first.seat.me.0.know.own) calls)

  pub may_go_on : IsApp table first → first.calls ≡ 0 → length ops < 2 ^ 22 → MayCall table old
  may_go_on is none few = record { is = m.is; here = m.stays; few = let so_many = counted is in omega (arith, none, few, so_many, within) }

  pub one_more : (o : Op) (new : AppPass) (learned : List ℕ) (listed : Option Made) → drop count ops ≡ o ∷ drop (count + 1) ops → (x : MadeOp table (count + 1) o old new values learned listed)
      → MadeOps table ops (count + 1) learned first new (calls ++ x.call ∷ [])
  one_more o new learned listed here x = record {
    is = x.is;
    same = x.same ∙ m.same;
    stays = x.stays;
    adds = x.adds ∙ (ap (λ (ts : List Exchange). ts ++ x.call ∷ []) m.adds ∙ append_assoc (calls_in first.seat.me.0.know.own) calls (x.call ∷ []));
    leads =
        let next = leads_more 1 (no_values (length ops)) (take count ops) calls values o x.call m.leads x.asks in
        let front : take count ops ++ o ∷ [] ≡ take (count + 1) ops = sym (take-add count 1 ops ∙ ap (λ (l : List Op). take count ops ++ take 1 l) here) in
        let place : 1 + length (take count ops) ≡ count + 1 = let size = length-take-le count ops within in omega (arith, size) in
        subst (λ (os : List Op). Leads 1 (no_values (length ops)) os (calls ++ x.call ∷ []) learned) front (subst (λ (v : List ℕ). Leads 1 (no_values (length ops)) (take count ops ++ o ∷ []) (calls ++ x.call ∷ []) v) (ap (λ (n : ℕ). with_name_value values n o x.call.outcome.reply) place ∙ sym x.names_are) next);
  }

  pub some_made : MadeSome table ops first old None
  some_made = record { count = count; values = values; calls = calls; made = m; within = within; all = tt }

  pub all_made : (list : List Made) → length ops ≤ count → list ≡ made_from 1 calls → MadeSome table ops first old (Some list)
  all_made list done is = record { count = count; values = values; calls = calls; made = m; within = within; all = (omega (arith, done, within), is) }

-- nothing is listed where memory was short
pub some_by : (table : TableId) (ops : List Op) (old new : AppPass) (listed : Option (List Made)) → listed ≡ None → MadeSome table ops old new None → MadeSome table ops old new listed
some_by table ops old new listed none s = subst (MadeSome table ops old new) (sym none) s

pub none_mapped : {A B : Type 0} (f : A → B) (o : Option A) → o ≡ None → option_map f o ≡ None
none_mapped f o none = ap (option_map f) none

pub some_mapped : {A B : Type 0} (f : A → B) (o : Option A) (x : A) → o ≡ Some x → option_map f o ≡ Some (f x)
some_mapped f o x some = ap (option_map f) some

-- the call of one op is one more
pub op_calls : (table : TableId) (place : ℕ) (o : Op) (old new : AppPass) (names learned : List ℕ) (listed : Option Made) → IsApp table old → MadeOp table place o old new names learned listed → new.calls ≡ old.calls + 1
op_calls table place o old new names learned listed is x =
    let before = is.counts in
    let now = x.is.counts in
    let more = ap length x.adds in
    omega (arith, before, now, more, length-append (calls_in old.seat.me.0.know.own) (x.call ∷ []))

pub op_gated : (came went : Actor → ℕ → ℕ → Type 0) (who : Actor) (first old new : ℕ) → new ≡ old + 1 → IsGated came went who first old → IsGated came went who old (old + 1) → IsGated came went who first new
op_gated came went who first old new is before this = subst (IsGated came went who first) (sym is) (gated_on came went who first old (old + 1) before this)

-- the list with one more
pub lists_more : (list : List Made) (calls : List Exchange) (count : ℕ) (t : Exchange) (made : Made) → list ≡ made_from 1 calls → length calls ≡ count → made ≡ made_at (count + 1) t → list ++ made ∷ [] ≡ made_from 1 (calls ++ t ∷ [])
lists_more list calls count t made is size one =
    let place : count + 1 ≡ 1 + length calls = omega (arith, size) in
    ap (λ (l : List Made). l ++ made ∷ []) is ∙ (ap (λ (x : Made). made_from 1 calls ++ x ∷ []) (one ∙ ap (λ (n : ℕ). made_at n t) place) ∙ sym (made_snoc 1 calls t))

-- ---- all of it

none_taken : (n : ℕ) (l : List ℕ) → l ≡ [] → take n l ≡ []
none_taken n l is = ap (take n) is ∙ grind arith

module _ (table : TableId) (ops : List Op) (old mid new : AppPass) (listed : Option (List Made)) (reply : Reply) (s : MadeSome table ops old mid listed) (c : CallMade table mid ask.Leave [] reply new) where
  abbrev all_calls : List Exchange
  all_calls = s.calls ++ c.exchange ∷ []

  ran_with : (list : Result (List Made) NoMemory) → ListsScript ops all_calls list → RanScript table ops old new list
  ran_with list lists = record {
    is = c.is;
    same = c.same ∙ s.made.same;
    has_left = c.left_is;
    calls = all_calls;
    made = c.made ∙ (ap (λ (ts : List Exchange). ts ++ c.exchange ∷ []) s.made.adds ∙ append_assoc (calls_in old.seat.me.0.know.own) s.calls (c.exchange ∷ []));
    front = (s.count, follows_leave 1 (no_values (length ops)) (take s.count ops) s.calls s.values c.exchange s.made.leads c.asks);
    lists = lists;
  }

  pub ran_short : (short : NoMemory) → RanScript table ops old new (Err short)
  ran_short short = ran_with (Err short) tt

  pub ran_whole : (list : List Made) (last : Made) → listed ≡ Some list → last ≡ listed_as ask.Leave (length ops + 1) reply [] → RanScript table ops old new (Ok (list ++ last ∷ []))
  ran_whole list last some is =
      let all = subst (λ (o : Option (List Made)). IfSome o (λ l. (s.count ≡ length ops) × (l ≡ made_from 1 s.calls))) some s.all in
      let whole : take s.count ops ≡ ops = ap (λ (n : ℕ). take n ops) all.0 ∙ take_all (length ops) ops (omega arith) in
      let wrote : c.exchange.outcome.text ≡ [] = c.writes ∙ none_taken (written_size reply.gives (lent_size ask.Leave)) [] refl in
      let size : length s.calls ≡ length ops = calls_are table ops s.count s.values old mid s.calls s.within s.made ∙ all.0 in
      let last_is : last ≡ made_at (length ops + 1) c.exchange = is ∙ sym (rw (c.asks, c.replies, wrote) refl) in
      let follows = subst (λ (os : List Op). FollowsFrom true 1 (no_values (length ops)) os all_calls) whole (follows_leave 1 (no_values (length ops)) (take s.count ops) s.calls s.values c.exchange s.made.leads c.asks) in
      ran_with (Ok (list ++ last ∷ [])) (follows, lists_more list s.calls (length ops) c.exchange last all.1 size last_is)

  -- its calls are one more than before
  pub one_call_more : new.calls ≡ mid.calls + 1
  one_call_more =
      let before = s.made.is.counts in
      let now = c.is.counts in
      let more = ap length c.made in
      omega (arith, before, now, more, length-append (calls_in mid.seat.me.0.know.own) (c.exchange ∷ []))
