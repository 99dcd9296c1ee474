-- One call of an application's worker.
use Rattle.std.proofs.Common.{◌≡◌, ◌∙◌, ℕ, ℤ, Bool, true, false, List, [], ◌∷◌, ◌++◌, length, take, drop, Option, Some, None, IfSome, refl, sym, ap, arith}
use Rattle.std.specs.Prelude.{nat_le, if◌then◌else◌}
use Rattle.std.proofs.lemmas.List.{take_at}
use Rattle.atomic_table.specs.Seated.{TableId}
use Rattle.xr_types.specs.declared.calls.Gives.{Gives}
use Rattle.xr_types.specs.declared.calls.Gives.TheVariants.{Size}
use Rattle.xr_types.specs.declared.calls.Reply.{Reply}
use Rattle.xr_model.specs.laws.Moments.{Moment, exchange_at}
use Rattle.xr_model.specs.machine.CoreCalls.{Lent}
use Rattle.xr_workers.specs.declared.script.Asked.{Asked}
use Rattle.xr_model.specs.machine.Machine.{step}
use Rattle.xr_model.specs.machine.Calls.{Entry}
use Rattle.xr_types.specs.declared.calls.Call.{Call}
use Rattle.xr_types.specs.declared.calls.Call.TheVariants as ask
use Rattle.xr_runtime.specs.Calling.{behind, entry_by}
use Rattle.xr_runtime.specs.Passes.{MayCall, AppCalls, AppAnswers, AnswersText}
use Rattle.xr_runtime.specs.declared.passes.AppPass.{AppPass}
use Rattle.xr_runtime.proofs.Passing.{seat_is}
use Rattle.xr_types.specs.CallKinds.{lent_size, written_size, with_start}
use Rattle.xr_workers.specs.inside.Made.{CallMade, AskedBy}
use Rattle.xr_runs.proofs.CallTexts.{text_fits}

-- ---- what was written

pub none_written : (gives : Gives) → written_size gives 0 ≡ 0
none_written (Size n) = by (nat_le n 0) refl
  where
    by : (b : Bool) → nat_le n 0 ≡ b → (if b then n else 0) ≡ 0
    by true is = grind (arith, is)
    by false is = refl
none_written gives = refl

pub is_none : (l : List ℕ) → length l ≡ 0 → l ≡ []
is_none [] none = refl
is_none (x ∷ xs) none = absurd (omega (arith, none))

abbrev pub text_at : Moment → Entry → List ℕ
text_at m e = (step m.state e).1.text

pub fits_at : (m : Moment) (e : Entry) (reply : Reply) → (step m.state e).1.reply ≡ reply → length (text_at m e) ≡ written_size reply.gives (lent_size e.call)
fits_at m e reply is = text_fits m.state e ∙ ap (λ (r : Reply). written_size r.gives (lent_size e.call)) is

same_text : (m : Moment) (e : Entry) → (exchange_at m e).outcome.text ≡ text_at m e
unfolding exchange_at
same_text m e = refl

same_reply : (m : Moment) (e : Entry) → (exchange_at m e).outcome.reply ≡ (step m.state e).1.reply
unfolding exchange_at
same_reply m e = refl

same_asked : (m : Moment) (e : Entry) → (exchange_at m e).call ≡ e.call
unfolding exchange_at
same_asked m e = refl

module _ (table : TableId) (old new : AppPass) (what : Call) (reply : Reply) (before after : Lent) (may : MayCall table old) (c : AppCalls table old what before after reply new) where
  abbrev m : Moment
  m = behind old.seat.me.0.know c.called.look

  abbrev e : Entry
  e = entry_by old.seat.me.0.know what reply

  pub made_with : (text : List ℕ) → text_at m e ≡ take (written_size reply.gives (lent_size what)) text → CallMade table old what text reply new
  made_with text front = record {
    is = c.is;
    same = c.same;
    left_is = c.left_is;
    exchange = exchange_at m e;
    asks = same_asked m e;
    replies = same_reply m e ∙ c.called.replies;
    writes = same_text m e ∙ front;
    made = (seat_is old.seat.me new.seat.me what reply before after may.is.rests.between c.called).calls;
  }

  fits : length (text_at m e) ≡ written_size reply.gives (lent_size what)
  fits = fits_at m e reply c.called.replies

  pub made_plain : (text : List ℕ) → lent_size what ≡ 0 → CallMade table old what text reply new
  made_plain text none =
      let zero_size : written_size reply.gives (lent_size what) ≡ 0 = ap (written_size reply.gives) none ∙ none_written reply.gives in
      let no_text : text_at m e ≡ [] = is_none (text_at m e) (fits ∙ zero_size) in
      made_with text (no_text ∙ sym (ap (λ (n : ℕ). take n text) zero_size))

  pub made_text : CallMade table old what after.text reply new
  made_text =
      let wrote : after.text ≡ text_at m e ++ drop (length (text_at m e)) before.text = ap (λ (l : Lent). l.text) c.called.writes in
      made_with after.text (sym (take_at (text_at m e) (drop (length (text_at m e)) before.text) (written_size reply.gives (lent_size what)) fits) ∙ ap (take (written_size reply.gives (lent_size what))) (sym wrote))

-- ---- the two kinds of calls

pub plain_made : (table : TableId) (old new : AppPass) (what : Call) (reply : Reply) (text : List ℕ) → MayCall table old → lent_size what ≡ 0 → AppAnswers table old what reply new → CallMade table old what text reply new
plain_made table old new what reply text may none a = made_plain table old new what reply (record { text = []; frame = a.1.0 }) (record { text = a.0; frame = a.1.1 }) may a.1.2 text none

pub text_made : (table : TableId) (old new : AppPass) (what : Call) (reply : Reply) (before after : List ℕ) → MayCall table old → AnswersText table old what before after reply new → CallMade table old what after reply new
text_made table old new what reply before after may a = made_text table old new what reply (record { text = before; frame = a.0 }) (record { text = after; frame = a.1 }) may a.2

-- ---- what is copied of it

-- when a wait begins says nothing of the buffer that a call is lent
pub lent_begun : (clock : ℤ) (what : Call) → lent_size (with_start clock what) ≡ lent_size what
lent_begun clock (ask.WaitImage chain timeout start) = refl
lent_begun clock _ = refl

pub asked_by : (table : TableId) (old new : AppPass) (what : Call) (lent : List ℕ) (asked : Asked) (written : ℕ) → CallMade table old what lent asked.reply new → written ≡ written_size asked.reply.gives (lent_size what)
    → IfSome asked.text (λ text. text ≡ take written lent) → AskedBy table old what asked new
asked_by table old new what lent asked written m size copied = record {
  is = m.is;
  same = m.same;
  left_is = m.left_is;
  exchange = m.exchange;
  asks = m.asks;
  replies = m.replies;
  writes = by asked.text copied;
  made = m.made;
}
  where
    by : (o : Option (List ℕ)) → IfSome o (λ text. text ≡ take written lent) → IfSome o (λ text. text ≡ m.exchange.outcome.text)
    by None is = tt
    by (Some text) is = is ∙ (ap (λ (n : ℕ). take n lent) size ∙ sym m.writes)
