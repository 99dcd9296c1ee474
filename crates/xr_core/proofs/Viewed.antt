-- The words of a list, one item after another.
use Rattle.std.proofs.Common.{◌≡◌, ◌<◌, ◌≤◌, ◌+◌, ◌^◌, ◌&&◌, ◌++◌, ℕ, zero, suc, arith, Bool, true, false, List, [], ◌∷◌, length, map, drop, flat_map, Option, Some, refl, sym, ap, ◌∙◌, append_assoc, true≢false}
use Rattle.std.proofs.lemmas.List.{drop_more}
use Rattle.std.specs.List.{list_all}
use lib.ListN.{get_or}
use Rattle.xr_types.specs.declared.input.Column.{Column}
use Rattle.std.specs.Prelude.{unwrap_or, slice_get}
use Rattle.xr_types.specs.declared.handles.Kind.TheVariants as kind
use Rattle.xr_model.specs.machine.Handles.{Handles}
use Rattle.xr_model.specs.machine.HandlePlaces.{place_among}
use Rattle.xr_model.specs.machine.LiveSessions.{Session}
use Rattle.xr_model.specs.machine.Publication.{has_set_of, is_attached, shown_of, shown_row, columns_in, published_action, published_session, publication_of}
use Rattle.xr_model.specs.machine.PublicationWords.{bits, with_bit, column_words, action_words, row_words, session_words, words}
use Rattle.xr_model.specs.machine.Sets.{Action}
use Rattle.xr_model.specs.machine.State.{CoreState}
use Rattle.xr_core.specs.inside.Viewing.{words_of_columns, loss_word, attached_word, words_of_session, contents_words}

module _ {T : Type 0} (f : T → List ℕ) where
  -- one more of a list
  pub words_more : (xs : List T) (i : ℕ) (d : T) (before front after : List ℕ) → i < length xs → before ++ flat_map f xs ≡ front ++ flat_map f (drop i xs) → after ≡ front ++ f (get_or xs i d)
      → before ++ flat_map f xs ≡ after ++ flat_map f (drop (i + 1) xs)
  words_more xs i d before front after within so_far one =
      so_far ∙ rw (drop_more xs i d within, one) (sym (append_assoc front (f (get_or xs i d)) (flat_map f (drop (i + 1) xs))))

-- one of a list is as all are
pub one_of : {T : Type 0} (p : T → Bool) (xs : List T) (i : ℕ) (d : T) → list_all p xs ≡ true → i < length xs → p (get_or xs i d) ≡ true
one_of p [] i d all within = absurd (omega (arith, within))
one_of p (x ∷ xs) zero d all within = by (p x) (list_all p xs) all
  where
    by : (b c : Bool) → b && c ≡ true → b ≡ true
    by true c e = refl
    by false c e = e
one_of p (x ∷ xs) (suc i) d all within = one_of p xs i d (by (p x) (list_all p xs) all) (omega (arith, within))
  where
    by : (b c : Bool) → b && c ≡ true → c ≡ true
    by true c e = e
    by false c e = absurd (true≢false (sym e))

-- the columns of an action that stands in a place
pub row_in : (h : Handles) (columns : List (List Column)) (action place : ℕ) (d : List Column) → place_among h kind.Action action ≡ Some place → place < length columns → columns_in h columns action ≡ get_or columns place d
row_in h columns action place d is within = rw is (by columns place within)
  where
    by : (xs : List (List Column)) (i : ℕ) → i < length xs → unwrap_or (slice_get xs i) [] ≡ get_or xs i d
    by [] i within = absurd (omega (arith, within))
    by (x ∷ xs) zero within = refl
    by (x ∷ xs) (suc i) within = by xs i (omega (arith, within))

pub two_more : (out : List ℕ) (a b : ℕ) → (out ++ a ∷ []) ++ b ∷ [] ≡ out ++ a ∷ b ∷ []
two_more out a b = append_assoc out (a ∷ []) (b ∷ [])

-- the three words of a session, and its columns
pub three_more : (out : List ℕ) (a b c : ℕ) (more : List ℕ) → (((out ++ a ∷ []) ++ b ∷ []) ++ c ∷ []) ++ more ≡ out ++ a ∷ b ∷ c ∷ more
three_more out a b c more = ap (λ (l : List ℕ). (l ++ c ∷ []) ++ more) (two_more out a b) ∙ ap (λ (l : List ℕ). l ++ more) (append_assoc out (a ∷ b ∷ []) (c ∷ [])) ∙ append_assoc out (a ∷ b ∷ c ∷ []) more

pub five_more : (out : List ℕ) (a b c d e : ℕ) → ((((out ++ a ∷ []) ++ b ∷ []) ++ c ∷ []) ++ d ∷ []) ++ e ∷ [] ≡ out ++ a ∷ b ∷ c ∷ d ∷ e ∷ []
five_more out a b c d e =
    ap (λ (l : List ℕ). ((l ++ c ∷ []) ++ d ∷ []) ++ e ∷ []) (two_more out a b) ∙ ap (λ (l : List ℕ). (l ++ d ∷ []) ++ e ∷ []) (append_assoc out (a ∷ b ∷ []) (c ∷ [])) ∙ two_more (out ++ a ∷ b ∷ c ∷ []) d e
    ∙ append_assoc out (a ∷ b ∷ c ∷ []) (d ∷ e ∷ [])

-- ---- bits

as_many : {T U : Type 0} (f : T → U) (xs : List T) → length (map f xs) ≡ length xs
as_many f [] = refl
as_many f (x ∷ xs) = ap suc (as_many f xs)

-- so many bits are a number below that power
bits_under : (k : ℕ) (bs : List Bool) → length bs ≤ k → bits bs < 2 ^ k
bits_under zero [] few = omega arith
bits_under zero (b ∷ bs) few = absurd (omega (arith, few))
bits_under (suc k) [] few = let more = bits_under k [] (omega arith) in omega (arith, more)
bits_under (suc k) (true ∷ bs) few = let more = bits_under k bs (omega (arith, few)) in omega (arith, more)
bits_under (suc k) (false ∷ bs) few = let more = bits_under k bs (omega (arith, few)) in omega (arith, more)

length_behind : {T : Type 0} (f : T → Bool) (xs : List T) (i n : ℕ) → length xs ≤ n + i → length (map f (drop i xs)) ≤ n
length_behind f [] zero n few = omega arith
length_behind f [] (suc i) n few = omega arith
length_behind f (x ∷ xs) zero n few = let more : length (map f (drop 0 (x ∷ xs))) ≡ length (x ∷ xs) = as_many f (x ∷ xs) in omega (arith, few, more)
length_behind f (x ∷ xs) (suc i) n few = length_behind f xs i n (omega (arith, few))

-- one more bit has room below those of the actions behind one
pub room_below : (attached : Option (List ℕ)) (xs : List Action) (i : ℕ) → length xs ≤ 64 → attached_word attached (drop (i + 1) xs) < 2 ^ 63
room_below attached xs i few = bits_under 63 (map (has_set_of attached) (drop (i + 1) xs)) (length_behind (has_set_of attached) xs (i + 1) 63 (omega (arith, few)))

-- the bits of an action and those behind it
pub bit_before : (attached : Option (List ℕ)) (xs : List Action) (i : ℕ) (d : Action) → i < length xs → with_bit (attached_word attached (drop (i + 1) xs)) (is_attached attached (get_or xs i d).set) ≡ attached_word attached (drop i xs)
bit_before attached xs i d within = ap (attached_word attached) (sym (drop_more xs i d within))

-- none are behind all
pub all_behind : (attached : Option (List ℕ)) (xs : List Action) → 0 ≡ attached_word attached (drop (length xs) xs)
all_behind attached [] = refl
all_behind attached (x ∷ xs) = all_behind attached xs

-- ---- the words of what is published

flat_map_map : {T U : Type 0} (f : U → List ℕ) (g : T → U) (xs : List T) → flat_map f (map g xs) ≡ flat_map (λ x. f (g x)) xs
flat_map_map f g [] = refl
flat_map_map f g (x ∷ xs) = ap (λ (l : List ℕ). f (g x) ++ l) (flat_map_map f g xs)

same_words : {T : Type 0} (f g : T → List ℕ) → ((x : T) → f x ≡ g x) → (xs : List T) → flat_map f xs ≡ flat_map g xs
same_words f g same [] = refl
same_words f g same (x ∷ xs) = rw (same x, same_words f g same xs) refl

-- a session's rows
rows_so : (h : Handles) (columns : List (List Column)) (xs : List Action) → flat_map row_words (map (shown_row h columns) xs) ≡ flat_map (words_of_columns h columns) xs
rows_so h columns xs =
    flat_map_map row_words (shown_row h columns) xs
    ∙ same_words (λ x. row_words (shown_row h columns x)) (words_of_columns h columns) (λ x. flat_map_map column_words shown_of (columns_in h columns x.handle)) xs

session_so : (h : Handles) (actions : List Action) (x : Session) → session_words (published_session h actions x) ≡ words_of_session h actions x
session_so h actions x = ap (λ (l : List ℕ). x.handle ∷ loss_word x.life ∷ attached_word x.attached actions ∷ l) (rows_so h x.columns actions)

sessions_so : (h : Handles) (actions : List Action) (xs : List Session) → flat_map session_words (map (published_session h actions) xs) ≡ flat_map (words_of_session h actions) xs
sessions_so h actions xs =
    flat_map_map session_words (published_session h actions) xs ∙ same_words (λ x. session_words (published_session h actions x)) (words_of_session h actions) (λ x. session_so h actions x) xs

-- the number, and then what a core writes
pub words_of_core : (s : CoreState) → words (publication_of s) ≡ s.published ∷ contents_words s
words_of_core s =
    rw (flat_map_map action_words published_action s.inputs.actions, sessions_so s.handles s.inputs.actions s.sessions, as_many published_action s.inputs.actions, as_many (published_session s.handles s.inputs.actions) s.sessions) refl
