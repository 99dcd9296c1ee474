-- What the part that keeps atoms makes of the calls on paths.
use Rattle.std.proofs.Common.{◌≡◌, ◌&&◌, ◌⊎◌, inl, inr, arith, ℕ, Bool, true, false, not, nat_le, nat_lt, List, [], ◌∷◌, length, Option, Some, None, refl, sym, ap, subst, ◌∙◌, true≢false}
use Rattle.std.proofs.lemmas.Bool.Decides.{nat_tests}
use Rattle.std.specs.Prelude.{is_none, Ok, Err}
use Rattle.xr_types.specs.declared.calls.Actor.{Actor}
use Rattle.xr_types.specs.declared.calls.Answer.{Answer}
use Rattle.xr_types.specs.declared.calls.Gives.TheVariants.{Nothing, Number, Size}
use Rattle.xr_types.specs.declared.code.Code.{Code}
use Rattle.xr_types.specs.declared.code.Code.TheVariants.{Success, SizeInsufficient, PathInvalid, PathFormatInvalid, PathCountExceeded, OutOfMemory}
use Rattle.xr_types.specs.declared.handles.Kind.TheVariants.{Instance}
use Rattle.xr_types.specs.Code.{is_out_of_memory, is_success}
use Rattle.xr_core.specs.inside.Users.{users_with, KnowsUsers}
use Rattle.xr_model.specs.machine.Profiles.{user_of}
use Rattle.xr_core.proofs.UserAtoms.{users_more}
use Rattle.xr_types.specs.declared.calls.Call.TheVariants as ask
use Rattle.xr_model.specs.machine.Handles.{is_live}
use Rattle.xr_model.specs.machine.Paths.{is_path_text, intern_checks, intern_refusals, with_text, atom_of, may_want_memory, is_new, text_at, copy_refusals, copied, size_at, size_of}
use Rattle.xr_model.specs.machine.Refusals.{Refusal, when, first_of, unless}
use Rattle.xr_model.specs.machine.PartAnswers.{answer_by}
use Rattle.xr_model.specs.machine.CoreCalls.{Lent, written_over}
use Rattle.xr_model.specs.machine.Rule.{or_short}
use Rattle.xr_model.specs.machine.State.{CoreState}
use Rattle.xr_core.specs.inside.Deciding.{Decides, DecidesBy, DecidesWriting}
use Rattle.xr_core.specs.declared.halt.Halt.TheVariants.{Refused}

and_both : (a b : Bool) → (a && b) ≡ true → (a ≡ true) × (b ≡ true)
and_both true b e = (refl, e)
and_both false b e = absurd (true≢false (sym e))

none_of : (o : Option Refusal) → is_none o ≡ true → o ≡ None
none_of None e = refl
none_of (Some r) e = absurd (true≢false (sym e))

-- the part asks for memory last, as the rule does
asked_last : (a b new short : Bool) (x y : Code) → first_of (when a x ∷ when b y ∷ when (new && short) OutOfMemory ∷ []) ≡ or_short (new && short) (first_of (when a x ∷ when b y ∷ []))
asked_last true b true true x y = refl
asked_last true b true false x y = refl
asked_last true b false short x y = refl
asked_last false true true true x y = refl
asked_last false true true false x y = refl
asked_last false true false short x y = refl
asked_last false false true true x y = refl
asked_last false false true false x y = refl
asked_last false false false short x y = refl

by_checks : (atoms : List (List ℕ)) (text : List ℕ) (short : Bool) → first_of (intern_refusals atoms text short) ≡ or_short (is_new atoms text && short) (first_of (intern_checks atoms text))
by_checks atoms text short = asked_last (not (is_path_text text)) (is_new atoms text && nat_le 1024 (length atoms)) (is_new atoms text) short PathFormatInvalid PathCountExceeded

unasked : (new : Bool) (o : Option Refusal) → or_short (new && false) o ≡ o
unasked true o = refl
unasked false o = refl

-- memory is wanted only for a new text that would else be kept
wanted : (atoms : List (List ℕ)) (text : List ℕ) → may_want_memory atoms text ≡ true → (is_new atoms text ≡ true) × (first_of (intern_checks atoms text) ≡ None)
wanted atoms text may =
    let two = and_both (is_new atoms text) (is_none (first_of (intern_refusals atoms text false))) may in
    (two.0, sym (by_checks atoms text false ∙ unasked (is_new atoms text) (first_of (intern_checks atoms text))) ∙ none_of (first_of (intern_refusals atoms text false)) two.1)

short_gives_nothing : (short : Bool) (a b : Bool) (x y : Code) (r : Refusal) → or_short short (first_of (when a x ∷ when b y ∷ [])) ≡ Some r → r.gives ≡ Nothing
short_gives_nothing false true b x y r e = cc
short_gives_nothing false false true x y r e = cc
short_gives_nothing false false false x y r e = cc
short_gives_nothing true true b x y r e = cc
short_gives_nothing true false true x y r e = cc
short_gives_nothing true false false x y r e = cc

some_is : (x r : Refusal) → Some x ≡ Some r → x ≡ r
some_is x r e = cc

-- nor is any of them a success
short_fails : (short a b : Bool) (r : Refusal) → or_short short (first_of (when a PathFormatInvalid ∷ when b PathCountExceeded ∷ [])) ≡ Some r → is_success r.code ≡ false
short_fails false true b r e = rw (← some_is (when true PathFormatInvalid) r e) refl
short_fails false false true r e = rw (← some_is (when true PathCountExceeded) r e) refl
short_fails false false false r e = cc
short_fails true true b r e = rw (← some_is (when true PathFormatInvalid) r e) refl
short_fails true false true r e = rw (← some_is (when true PathCountExceeded) r e) refl
short_fails true false false r e = rw (← some_is (when true OutOfMemory) r e) refl

-- ---- the atom of a text

module _ (s : CoreState) (instance : ℕ) (text : List ℕ) (a : Answer) (atoms : List (List ℕ)) (live : is_live s.handles Instance instance ≡ true)
    (kept : atoms ≡ unless (first_of (intern_refusals s.atoms text (is_out_of_memory a.code))) s.atoms (with_text s.atoms text))
    (answer : a ≡ answer_by (first_of (intern_refusals s.atoms text (is_out_of_memory a.code))) (atom_of s.atoms text))
    (memory : is_out_of_memory a.code ≡ true → may_want_memory s.atoms text ≡ true) where
  shorted : or_short (is_new s.atoms text && is_out_of_memory a.code) (first_of (intern_checks s.atoms text)) ≡ first_of (intern_refusals s.atoms text (is_out_of_memory a.code))
  shorted = sym (by_checks s.atoms text (is_out_of_memory a.code))

  -- a text that the part refuses is refused by the call
  pub intern_refused : (a.code ≡ Success → ⊥) → Decides s (ask.StringToPath instance text) (record s { atoms = atoms }) (Err (Refused a.code))
  intern_refused failed = λ who lent. by (first_of (intern_refusals s.atoms text (is_out_of_memory a.code))) refl who lent
    where
      by : (o : Option Refusal) → first_of (intern_refusals s.atoms text (is_out_of_memory a.code)) ≡ o → (who : Actor) → DecidesBy who s (ask.StringToPath instance text) (record s { atoms = atoms }) (Err (Refused a.code))
      by None e who lent = absurd (failed (ap (λ (x : Answer). x.code) (rw e at answer)))
      by (Some r) e who lent = λ reads.
          let same : atoms ≡ s.atoms = rw e at kept in
          let code : a.code ≡ r.code = ap (λ (x : Answer). x.code) (rw e at answer) in
          let short = shorted ∙ e in
          let gives : r.gives ≡ Nothing = short_gives_nothing (is_new s.atoms text && is_out_of_memory a.code) (not (is_path_text text)) (is_new s.atoms text && nat_le 1024 (length s.atoms)) PathFormatInvalid PathCountExceeded r short in
          record {
            ready = refl;
            handle = refl;
            memory = λ wants. let may = wanted s.atoms text (memory wants) in (may.0, rw (live, may.1) refl);
            keeps = rw (live, short, same) refl;
            code = rw (live, short) code;
            gives = rw (live, short) (sym gives);
            writes = rw (live, short) refl;
          }

  -- a text that it takes has its atom
  pub interned : a.code ≡ Success → Decides s (ask.StringToPath instance text) (record s { atoms = atoms }) (Ok (record { code = Success; gives = Number a.number; place = 0 }))
  interned good = λ who lent. by (first_of (intern_refusals s.atoms text (is_out_of_memory a.code))) refl who lent
    where
      by : (o : Option Refusal) → first_of (intern_refusals s.atoms text (is_out_of_memory a.code)) ≡ o → (who : Actor) → DecidesBy who s (ask.StringToPath instance text) (record s { atoms = atoms }) (Ok (record { code = Success; gives = Number a.number; place = 0 }))
      by None e who lent = λ reads.
          let new : atoms ≡ with_text s.atoms text = rw e at kept in
          let number : a.number ≡ atom_of s.atoms text = ap (λ (x : Answer). x.number) (rw e at answer) in
          let none : first_of (intern_checks s.atoms text) ≡ None = unshort (is_new s.atoms text && is_out_of_memory a.code) (first_of (intern_checks s.atoms text)) (shorted ∙ e) in
          record {
            ready = refl;
            handle = refl;
            memory = λ wants. absurd (true≢false (sym wants));
            keeps = rw (live, none, unasked (is_new s.atoms text) None) (ap (λ (l : List (List ℕ)). record s { atoms = l }) new);
            code = rw (live, none, unasked (is_new s.atoms text) None) refl;
            gives = rw (live, none, unasked (is_new s.atoms text) None) (ap Number number);
            writes = rw (live, none, unasked (is_new s.atoms text) None) refl;
          }
        where
          unshort : (short : Bool) (o : Option Refusal) → or_short short o ≡ None → o ≡ None
          unshort false o e = e
          unshort true None e = cc
          unshort true (Some r) e = cc
      by (Some r) e who lent =
          let code : a.code ≡ r.code = ap (λ (x : Answer). x.code) (rw e at answer) in
          absurd (true≢false (sym (ap is_success (sym code ∙ good)) ∙ short_fails (is_new s.atoms text && is_out_of_memory a.code) (not (is_path_text text)) (is_new s.atoms text && nat_le 1024 (length s.atoms)) r (shorted ∙ e)))

-- ---- the atoms of user paths

-- what was asked for, told by the answer
module _ (atoms : List (List ℕ)) (text : List ℕ) (a : Answer) (new : List (List ℕ)) (users : List ℕ) (known : KnowsUsers users atoms)
    (kept : new ≡ unless (first_of (intern_refusals atoms text (is_out_of_memory a.code))) atoms (with_text atoms text))
    (answer : a ≡ answer_by (first_of (intern_refusals atoms text (is_out_of_memory a.code))) (atom_of atoms text)) where
  pub users_kept : (a.code ≡ Success → ⊥) → KnowsUsers users new
  users_kept failed = by (first_of (intern_refusals atoms text (is_out_of_memory a.code))) refl
    where
      by : (o : Option Refusal) → first_of (intern_refusals atoms text (is_out_of_memory a.code)) ≡ o → KnowsUsers users new
      by None e = absurd (failed (ap (λ (x : Answer). x.code) (rw e at answer)))
      by (Some r) e = let same : new ≡ atoms = rw e at kept in subst (λ (l : List (List ℕ)). KnowsUsers users l) (sym same) known

  pub users_noted : (noted : List ℕ) → a.code ≡ Success → noted ≡ users_with users (user_of text) a.number → KnowsUsers noted new
  users_noted noted good told = by (first_of (intern_refusals atoms text (is_out_of_memory a.code))) refl
    where
      by : (o : Option Refusal) → first_of (intern_refusals atoms text (is_out_of_memory a.code)) ≡ o → KnowsUsers noted new
      by None e =
          let taken : new ≡ with_text atoms text = rw e at kept in
          let number : a.number ≡ atom_of atoms text = ap (λ (x : Answer). x.number) (rw e at answer) in
          subst (λ (l : List (List ℕ)). KnowsUsers noted l) (sym taken) (told ∙ ap (λ (n : ℕ). users_with users (user_of text) n) number ∙ ap (λ (l : List ℕ). users_with l (user_of text) (atom_of atoms text)) known ∙ users_more atoms text)
      by (Some r) e =
          let code : a.code ≡ r.code = ap (λ (x : Answer). x.code) (rw e at answer) in
          absurd (true≢false (sym (ap is_success (sym code ∙ good)) ∙ short_fails (is_new atoms text && is_out_of_memory a.code) (not (is_path_text text)) (is_new atoms text && nat_le 1024 (length atoms)) r (sym (by_checks atoms text (is_out_of_memory a.code)) ∙ e)))

-- ---- the text of an atom

module _ (s : CoreState) (instance path : ℕ) (a : Answer) (before after : List ℕ) (live : is_live s.handles Instance instance ≡ true)
    (answer : a ≡ answer_by (first_of (copy_refusals (text_at s.atoms path) (length before))) (size_at (text_at s.atoms path)))
    (written : after ≡ written_over (copied (text_at s.atoms path) (length before)) before) where
  -- an atom that isn't known is refused by the call, and the buffer stays
  pub copy_refused : (a.code ≡ Success → ⊥) → (a.code ≡ SizeInsufficient → ⊥) → (who : Actor) → DecidesWriting who s (ask.PathToString instance path (length before)) s (Err (Refused a.code)) before after
  copy_refused failed small who = by (text_at s.atoms path) refl
    where
      neither : (t : List ℕ) (b : Bool) → (nat_lt 0 (length before) && nat_lt (length before) (size_of t)) ≡ b → a ≡ answer_by (first_of (copy_refusals (Some t) (length before))) (size_of t) → ⊥
      neither t true e k = small (ap (λ (x : Answer). x.code) (rw e at k))
      neither t false e k = failed (ap (λ (x : Answer). x.code) (rw e at k))

      by : (found : Option (List ℕ)) → text_at s.atoms path ≡ found → DecidesWriting who s (ask.PathToString instance path (length before)) s (Err (Refused a.code)) before after
      by None e = λ frame reads.
          let code : a.code ≡ PathInvalid = ap (λ (x : Answer). x.code) (rw e at answer) in
          let stays : after ≡ before = rw e at written in
          rw (code, stays) (record {
            ready = refl;
            handle = refl;
            memory = λ wants. absurd (true≢false (sym wants));
            keeps = rw (live, e) refl;
            code = rw (live, e) refl;
            gives = rw (live, e) refl;
            writes = rw (live, e) refl;
          })
      by (Some t) e = absurd (neither t _ refl (rw e at answer))

  -- one that is known gives its size, whether or not the text fits
  pub copy_given : (a.code ≡ Success) ⊎ (a.code ≡ SizeInsufficient) → (who : Actor) → DecidesWriting who s (ask.PathToString instance path (length before)) s (Ok (record { code = a.code; gives = Size a.number; place = 0 })) before after
  copy_given known who = by (text_at s.atoms path) refl
    where
      not_invalid : (a.code ≡ Success) ⊎ (a.code ≡ SizeInsufficient) → a.code ≡ PathInvalid → ⊥
      not_invalid (inl good) bad = cc
      not_invalid (inr small) bad = cc

      -- what doesn't fit isn't written
      unwritten : (n m : ℕ) → nat_lt 0 n && nat_lt n m ≡ true → nat_le m n ≡ false
      unwritten n m small = grind (arith, nat_tests)

      one : (t : List ℕ) → text_at s.atoms path ≡ Some t → (b : Bool) → (nat_lt 0 (length before) && nat_lt (length before) (size_of t)) ≡ b
          → DecidesWriting who s (ask.PathToString instance path (length before)) s (Ok (record { code = a.code; gives = Size a.number; place = 0 })) before after
      one t e true eb = λ frame reads.
          let is : a ≡ record { code = SizeInsufficient; number = size_of t } = rw (e, eb) at answer in
          let over : nat_le (size_of t) (length before) ≡ false = unwritten (length before) (size_of t) eb in
          let stays : after ≡ before = rw (e, over) at written in
          rw (is, stays) (record {
            ready = refl;
            handle = refl;
            memory = λ wants. absurd (true≢false (sym wants));
            keeps = rw (live, e, eb) refl;
            code = rw (live, e, eb) refl;
            gives = rw (live, e, eb) refl;
            writes = rw (live, e, eb) refl;
          })
      one t e false eb = λ frame reads.
          let is : a ≡ record { code = Success; number = size_of t } = rw (e, eb) at answer in
          let bytes : after ≡ written_over (copied (Some t) (length before)) before = rw e at written in
          rw is (record {
            ready = refl;
            handle = refl;
            memory = λ wants. absurd (true≢false (sym wants));
            keeps = rw (live, e, eb) refl;
            code = rw (live, e, eb) refl;
            gives = rw (live, e, eb) refl;
            writes = rw (live, e, eb) (ap (λ (b : List ℕ). let lent : Lent = record { text = b; frame = frame } in lent) bytes);
          })

      by : (found : Option (List ℕ)) → text_at s.atoms path ≡ found → DecidesWriting who s (ask.PathToString instance path (length before)) s (Ok (record { code = a.code; gives = Size a.number; place = 0 })) before after
      by None e = absurd (not_invalid known (ap (λ (x : Answer). x.code) (rw e at answer)))
      by (Some t) e = one t e (nat_lt 0 (length before) && nat_lt (length before) (size_of t)) refl
