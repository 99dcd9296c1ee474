-- A text that is taken is known by its atom, and is given back.
use Rattle.std.proofs.Common.{◌≡◌, ◌+◌, ◌-◌, ◌==◌, ◌&&◌, ◌++◌, ℕ, Bool, true, false, List, [], ◌∷◌, length, Option, Some, None, get_or, slice_get, unwrap_or, refl, sym, ap, subst, ◌∙◌, arith}
use Rattle.std.specs.Prelude.{is_none, nat_eq, nat_le, nat_lt, if◌then◌else◌}
use Rattle.std.specs.Cmp.Lexicographic.{pointwise, same_text}
use Rattle.std.proofs.lemmas.Bool.Decides.{nat_tests}
use Rattle.std.proofs.lemmas.List.Quantifiers.{position-Some}
use Rattle.std.proofs.lemmas.Option.{slice_get-get_or}
use Rattle.xr_types.specs.Code.{is_success}
use Rattle.xr_types.specs.declared.code.Code.{Code}
use Rattle.xr_types.specs.declared.code.Code.TheVariants.{SizeInsufficient}
use Rattle.xr_types.specs.declared.calls.Call.{Call}
use Rattle.xr_types.specs.declared.calls.Call.TheVariants as ask
use Rattle.xr_types.specs.declared.calls.Gives.{Gives}
use Rattle.xr_types.specs.declared.calls.Gives.TheVariants.{Number, Size}
use Rattle.xr_model.specs.machine.Paths.{atom_of, copied, copy_refusals, index_of, size_of, text_at, with_text}
use Rattle.xr_model.specs.machine.Refusals.{Refusal, when_with, first_of}
use Rattle.xr_model.specs.machine.Machine.{reads_of, rule, step}
use Rattle.xr_model.specs.laws.PathLaws.{IsKnown, TextsAreKnown, IsGivenBack, TextsAreGivenBack}
use Rattle.xr_model.proofs.FrameCalls.{where_done}
use Rattle.xr_model.proofs.FrameOrder.{clear}

-- ---- atoms

last_there : (atoms : List (List ℕ)) (text : List ℕ) → slice_get (atoms ++ text ∷ []) (length atoms) ≡ Some text
last_there [] text = refl
last_there (a ∷ atoms) text = last_there atoms text

-- an atom that isn't 0 has the text of its place
at_atom : (atoms : List (List ℕ)) (k : ℕ) (o : Option (List ℕ)) → slice_get atoms k ≡ o → text_at atoms (k + 1) ≡ o
at_atom atoms k o is = let less : (k + 1) - 1 ≡ k = omega arith in rw (some k) (ap (λ (n : ℕ). slice_get atoms n) less ∙ is)
  where
    some : (n : ℕ) → (n + 1 == 0) ≡ false
    some n = grind (arith, nat_tests)

pub known_text : (atoms : List (List ℕ)) (text : List ℕ) → text_at (with_text atoms text) (atom_of atoms text) ≡ Some text
known_text atoms text = by (index_of atoms text) refl
  where
    by : (o : Option ℕ) → index_of atoms text ≡ o → text_at (if is_none o then atoms ++ text ∷ [] else atoms) (unwrap_or o (length atoms) + 1) ≡ Some text
    by None eo = at_atom (atoms ++ text ∷ []) (length atoms) (Some text) (last_there atoms text)
    by (Some i) eo =
        let found = position-Some (λ (known : List ℕ). pointwise nat_eq text known) atoms i [] eo in
        at_atom atoms i (Some text) (slice_get-get_or atoms i [] found.0 ∙ ap (λ (t : List ℕ). Some t) (sym (same_text text (get_or atoms i []) (sym found.1))))

pub texts_are_known : TextsAreKnown
texts_are_known s e instance text is = subst Knows (sym is) asked
  where
    Knows : Call → Type 0
    Knows r = is_success (step s (record e { call = r })).1.reply.code ≡ true → IsKnown s (record e { call = r }) text

    asked : Knows (ask.StringToPath instance text)
    asked good =
        let f = rule s.core (reads_of s (ask.StringToPath instance text)) (record e { call = ask.StringToPath instance text }) in
        let two = where_done (λ x. (x.gives ≡ Number (atom_of s.core.atoms text)) × (text_at x.state.atoms (atom_of s.core.atoms text) ≡ Some text)) s.core f e.short refl (λ none. (refl, known_text s.core.atoms text)) good in
        record { atom = atom_of s.core.atoms text; gives = two.0; known = two.1 }

-- ---- given back

none_with : (b : Bool) (code : Code) (given : Gives) (rs : List Refusal) → first_of (when_with b code given ∷ rs) ≡ None → b ≡ false
none_with true code given rs none = absurd (some_is_not none)
  where
    some_is_not : Some (when_with true code given) ≡ None → ⊥
    some_is_not e = cc
none_with false code given rs none = refl

written_whole : (text : List ℕ) (capacity : ℕ) → nat_lt 0 capacity && nat_lt capacity (size_of text) ≡ false → copied (Some text) capacity ≡ (if capacity == 0 then [] else text ++ 0 ∷ [])
written_whole text capacity fits = by (capacity == 0) refl
  where
    never : (n c : ℕ) → (c == 0) ≡ true → nat_le (n + 1) c ≡ false
    never n c e = grind (arith, nat_tests, e)

    some : (c : ℕ) → (c == 0) ≡ false → nat_lt 0 c ≡ true
    some c e = grind (arith, nat_tests, e)

    enough : (n c : ℕ) → nat_lt c n ≡ false → nat_le n c ≡ true
    enough n c e = grind (arith, nat_tests, e)

    by : (b : Bool) → (capacity == 0) ≡ b → (if nat_le (size_of text) capacity then text ++ 0 ∷ [] else []) ≡ (if b then [] else text ++ 0 ∷ [])
    by true eb = rw (never (length text) capacity eb) refl
    by false eb =
        let less : nat_lt capacity (size_of text) ≡ false = rw (some capacity eb) at fits in
        rw (enough (size_of text) capacity less) refl

pub texts_are_given_back : TextsAreGivenBack
texts_are_given_back s e instance path capacity text is = subst Gives_it (sym is) asked
  where
    Gives_it : Call → Type 0
    Gives_it r = is_success (step s (record e { call = r })).1.reply.code ≡ true → text_at s.core.atoms path ≡ Some text → IsGivenBack s (record e { call = r }) text capacity

    asked : Gives_it (ask.PathToString instance path capacity)
    asked good at =
        let f = rule s.core (reads_of s (ask.PathToString instance path capacity)) (record e { call = ask.PathToString instance path capacity }) in
        let two = where_done (λ x. (x.gives ≡ Size (length text + 1)) × (x.text ≡ (if capacity == 0 then [] else text ++ 0 ∷ []))) s.core f e.short refl
        (λ none.
        let checks : first_of (copy_refusals (Some text) capacity) ≡ None = rw at at (clear f e.short none).behind in
        rw at (refl, written_whole text capacity (none_with (nat_lt 0 capacity && nat_lt capacity (size_of text)) SizeInsufficient (Size (size_of text)) [] checks))) good in
        record { size = two.0; written = two.1 }
