-- A text has a byte for each lexeme, a lexeme for each token and a token for each part of its value.
use Rattle.std.proofs.Common.{◌≡◌, ℕ, zero, suc, ◌+◌, ◌≤◌, Bool, true, false, List, [], ◌∷◌, length, Option, Some, None, option_map, option_and_then, Ordering, Less, Equal, Greater, refl, subst, arith}
use Rattle.std.specs.Prelude.{⊤}
use Rattle.std.specs.Ordering.{match_ordering}
use Rattle.json.specs.Token.{Token, begin_object, end_object, begin_array, end_array, key, string, number, boolean, null, bad}
use Rattle.json.specs.Lex.{Lexeme, token, comma, colon, Class, quote, backslash, operator, space, other, class, Mode, between, in_word, in_string, in_escape, lex_byte, lex, Place, fresh, after_value, after_comma, after_key, begins_colon, may_begin, may_close, if_allowed, place_token, punctuate, tokens}
use Rattle.json.specs.Json as json
use Rattle.json.specs.Json.{Parse, parse_map, after_end_array, read_key, items_step, members_step, value_with}
use Rattle.json.proofs.Grammar.{after_end_array-shorter, read_key-shorter}
use Rattle.serde_json.specs.Data.{Data, Members, no_members, member, put}
use Rattle.serde_json.specs.Data as datum
use Rattle.serde_json.specs.Read.{number_of, of_json, of_items, of_members, max_depth}
use Rattle.xr_scenario.specs.Size.{size, items_size, members_size, HoldsLessThanItsBytes}

-- ---- lexemes

lex_step : (n : ℕ) (m : Mode) (c : Class) (x : ℕ) (xs : List ℕ) (k : Mode → List Lexeme) → ((next : Mode) → length (k next) ≤ n) → length (lex_byte m c x xs k) ≤ suc n
lex_step n between quote x xs k h = omega (arith, h in_string)
lex_step n between backslash x xs k h = omega (arith, h in_word)
lex_step n between operator x xs k h = omega (arith, h between)
lex_step n between space x xs k h = omega (arith, h between)
lex_step n between other x xs k h = omega (arith, h in_word)
lex_step n in_word quote x xs k h = omega (arith, h in_word)
lex_step n in_word backslash x xs k h = omega (arith, h in_word)
lex_step n in_word operator x xs k h = omega (arith, h between)
lex_step n in_word space x xs k h = omega (arith, h between)
lex_step n in_word other x xs k h = omega (arith, h in_word)
lex_step n in_string quote x xs k h = omega (arith, h between)
lex_step n in_string backslash x xs k h = omega (arith, h in_escape)
lex_step n in_string operator x xs k h = omega (arith, h in_string)
lex_step n in_string space x xs k h = omega (arith, h in_string)
lex_step n in_string other x xs k h = omega (arith, h in_string)
lex_step n in_escape c x xs k h = omega (arith, h in_string)

length-lex : (xs : List ℕ) (m : Mode) → length (lex m xs) ≤ length xs
unfolding lex
length-lex [] m = omega arith
length-lex (x ∷ xs) m = lex_step (length xs) m (class x) x xs (λ n. lex n xs) (length-lex xs)

-- ---- tokens

allowed : (n : ℕ) (b : Bool) (t : Token) (k : Place → List Token) (next : Place) → length (k next) ≤ suc n → length (if_allowed b t k next) ≤ suc (suc n)
allowed n true t k next h = omega (arith, h)
allowed n false t k next h = omega arith

placed : (n : ℕ) (p : Place) (t : Token) (b : Bool) (k : Place → List Token) → ((next : Place) → length (k next) ≤ suc n) → length (place_token p t b k) ≤ suc (suc n)
placed n p begin_object b k h = allowed n (may_begin p) begin_object k fresh (h fresh)
placed n p end_object b k h = allowed n (may_close p) end_object k after_value (h after_value)
placed n p begin_array b k h = allowed n (may_begin p) begin_array k fresh (h fresh)
placed n p end_array b k h = allowed n (may_close p) end_array k after_value (h after_value)
placed n p (key s) b k h = omega arith
placed n p (string s) true k h = allowed n (may_begin p) (key s) k after_key (h after_key)
placed n p (string s) false k h = allowed n (may_begin p) (string s) k after_value (h after_value)
placed n p (number s) b k h = allowed n (may_begin p) (number s) k after_value (h after_value)
placed n p (boolean v) b k h = allowed n (may_begin p) (boolean v) k after_value (h after_value)
placed n p null b k h = allowed n (may_begin p) null k after_value (h after_value)
placed n p bad b k h = omega arith

length-punctuate : (ls : List Lexeme) (p : Place) → length (punctuate p ls) ≤ suc (length ls)
unfolding punctuate
length-punctuate [] fresh = omega arith
length-punctuate [] after_value = omega arith
length-punctuate [] after_comma = omega arith
length-punctuate [] after_key = omega arith
length-punctuate (token t ∷ ls) p = placed (length ls) p t (begins_colon ls) (λ n. punctuate n ls) (length-punctuate ls)
length-punctuate (comma ∷ ls) fresh = omega arith
length-punctuate (comma ∷ ls) after_value = omega (arith, length-punctuate ls after_comma)
length-punctuate (comma ∷ ls) after_comma = omega arith
length-punctuate (comma ∷ ls) after_key = omega arith
length-punctuate (colon ∷ ls) fresh = omega arith
length-punctuate (colon ∷ ls) after_value = omega arith
length-punctuate (colon ∷ ls) after_comma = omega arith
length-punctuate (colon ∷ ls) after_key = omega (arith, length-punctuate ls fresh)

length-tokens : (text : List ℕ) → length (tokens text) ≤ suc (length text)
length-tokens text = omega (arith, length-punctuate (lex between text) fresh, length-lex text between)

-- ---- a value takes a token for each of its parts

abbrev mutual
  parts : json.Json → ℕ
  parts json.null = 1
  parts (json.boolean b) = 1
  parts (json.number s) = 1
  parts (json.string s) = 1
  parts (json.array js) = 2 + items_parts js
  parts (json.object ms) = 2 + members_parts ms

  items_parts : json.Items → ℕ
  items_parts json.no_items = 0
  items_parts (json.item j js) = parts j + items_parts js

  members_parts : json.Members → ℕ
  members_parts json.no_members = 0
  members_parts (json.member k j ms) = 1 + parts j + members_parts ms

abbrev Leaves : {A : Type 0} → (A → ℕ) → ℕ → Option (A × List Token) → Type 0
Leaves f n None = ⊤
Leaves f n (Some p) = f p.0 + length p.1 ≤ n

abbrev Takes : {A : Type 0} → (A → ℕ) → Parse A → Type 0
Takes f p = (ts : List Token) → Leaves f (length ts) (p ts)

abbrev closed_items : json.Items → ℕ
closed_items js = 1 + items_parts js

abbrev closed_members : json.Members → ℕ
closed_members ms = 1 + members_parts ms

mapped : {A B : Type 0} (f : A → ℕ) (g : B → ℕ) (n m : ℕ) (h : A → B) → ((a : A) → g (h a) ≤ 1 + f a) → (o : Option (A × List Token)) → 1 + n ≤ m → Leaves f n o → Leaves g m (parse_map h o)
mapped f g n m h k None le x = tt
mapped f g n m h k (Some p) le x = omega (arith, k p.0, x, le)

and_more : {B : Type 0} (g : B → ℕ) (c n m : ℕ) (h : json.Json → B → B) → ((j : json.Json) (b : B) → g (h j b) ≤ c + parts j + g b) → (more : Parse B) → Takes g more
    → (o : Option (json.Json × List Token)) → c + n ≤ m → Leaves parts n o → Leaves g m (option_and_then (λ q. parse_map (h q.0) (more q.1)) o)
and_more g c n m h k more takes None le x = tt
and_more {B} g c n m h k more takes (Some q) le x = by (more q.1) (takes q.1)
  where
    by : (o : Option (B × List Token)) → Leaves g (length q.1) o → Leaves g m (parse_map (h q.0) o)
    by None y = tt
    by (Some r) y = omega (arith, k q.0 r.0, y, x, le)

weaker : {A : Type 0} (f : A → ℕ) (m n : ℕ) (o : Option (A × List Token)) → m ≤ n → Leaves f m o → Leaves f n o
weaker f m n None le x = tt
weaker f m n (Some p) le x = omega (arith, le, x)

module _ (p : Parse json.Json) (takes : Takes parts p) where
  item_turn : (more : Parse json.Items) → Takes closed_items more → (ts : List Token) (o : Option (List Token)) → after_end_array ts ≡ o → Leaves closed_items (length ts) (items_step p more ts o)
  item_turn more again ts (Some r) e = omega (arith, after_end_array-shorter ts r e)
  item_turn more again ts None e = and_more closed_items 0 (length ts) (length ts) json.item (λ j b. omega arith) more again (p ts) (omega arith) (takes ts)

  Takes-items : (n : ℕ) → Takes closed_items (json.items p n)
  unfolding json.items
  Takes-items zero ts = tt
  Takes-items (suc n) ts = item_turn (json.items p n) (Takes-items n) ts (after_end_array ts) refl

  member_turn : (more : Parse json.Members) → Takes closed_members more → (ts : List Token) (o : Option (Option (List ℕ) × List Token)) → read_key ts ≡ o
      → Leaves closed_members (length ts) (option_and_then (λ q. members_step p more q.0 q.1) o)
  member_turn more again ts None e = tt
  member_turn more again ts (Some (None, s)) e = omega (arith, read_key-shorter ts None s e)
  member_turn more again ts (Some (Some k, s)) e =
      and_more closed_members 1 (length s) (length ts) (json.member k) (λ j b. omega arith) more again (p s) (omega (arith, read_key-shorter ts (Some k) s e)) (takes s)

  Takes-members : (n : ℕ) → Takes closed_members (json.members p n)
  unfolding json.members
  Takes-members zero ts = tt
  Takes-members (suc n) ts = member_turn (json.members p n) (Takes-members n) ts (read_key ts) refl

Takes-value_with : (a : Parse json.Items) (o : Parse json.Members) → Takes closed_items a → Takes closed_members o → Takes parts (value_with a o)
Takes-value_with a o p q [] = tt
Takes-value_with a o p q (begin_object ∷ ts) = mapped closed_members parts (length ts) (suc (length ts)) json.object (λ m. omega arith) (o ts) (omega arith) (q ts)
Takes-value_with a o p q (end_object ∷ ts) = tt
Takes-value_with a o p q (begin_array ∷ ts) = mapped closed_items parts (length ts) (suc (length ts)) json.array (λ m. omega arith) (a ts) (omega arith) (p ts)
Takes-value_with a o p q (end_array ∷ ts) = tt
Takes-value_with a o p q (key s ∷ ts) = tt
Takes-value_with a o p q (string s ∷ ts) = omega arith
Takes-value_with a o p q (number s ∷ ts) = omega arith
Takes-value_with a o p q (boolean v ∷ ts) = omega arith
Takes-value_with a o p q (null ∷ ts) = omega arith
Takes-value_with a o p q (bad ∷ ts) = tt

Takes-value : (depth : ℕ) → Takes parts (json.value depth)
unfolding json.value
Takes-value zero = Takes-value_with (λ ts. None) (λ ts. None) (λ ts. tt) (λ ts. tt)
Takes-value (suc d) =
    Takes-value_with (λ ts. json.items (json.value d) (length ts) ts) (λ ts. json.members (json.value d) (length ts) ts)
    (λ ts. Takes-items (json.value d) (Takes-value d) (length ts) ts) (λ ts. Takes-members (json.value d) (Takes-value d) (length ts) ts)

-- ---- the same of the data, where a key that comes twice counts once

abbrev AtMost : {A : Type 0} → (A → ℕ) → ℕ → Option A → Type 0
AtMost f n None = ⊤
AtMost f n (Some a) = f a ≤ n

AtMost-map : {A B : Type 0} (f : A → ℕ) (g : B → ℕ) (m n : ℕ) (h : A → B) → ((a : A) → f a ≤ m → g (h a) ≤ n) → (o : Option A) → AtMost f m o → AtMost g n (option_map h o)
AtMost-map f g m n h k None x = tt
AtMost-map f g m n h k (Some a) x = k a x

AtMost-and_then : {A B : Type 0} (f : A → ℕ) (g : B → ℕ) (m n : ℕ) (h : A → Option B) → ((a : A) → f a ≤ m → AtMost g n (h a)) → (o : Option A) → AtMost f m o → AtMost g n (option_and_then h o)
AtMost-and_then f g m n h k None x = tt
AtMost-and_then f g m n h k (Some a) x = k a x

flat : {A : Type 0} (o : Option A) → AtMost (λ _. 0) 0 o
flat None = tt
flat (Some a) = omega arith

members_size-match_ordering : (o : Ordering) (a b c : Members) (n : ℕ) → members_size a ≤ n → members_size b ≤ n → members_size c ≤ n → members_size (match_ordering o a b c) ≤ n
members_size-match_ordering Less a b c n p q r = p
members_size-match_ordering Equal a b c n p q r = q
members_size-match_ordering Greater a b c n p q r = r

members_size-put : (k : List ℕ) (d : Data) (ms : Members) → members_size (put k d ms) ≤ 1 + size d + members_size ms
members_size-put k d no_members = omega arith
members_size-put k d (member l e ms) =
    members_size-match_ordering _ (member k d (member l e ms)) (member l d ms) (member l e (put k d ms)) (1 + size d + (1 + size e + members_size ms)) (omega arith) (omega arith) (omega (arith, members_size-put k d ms))

mutual
  size-of_json : (j : json.Json) (n : ℕ) → parts j ≤ n → AtMost size n (of_json j)
  size-of_json json.null n h = omega arith
  size-of_json (json.boolean b) n h = omega arith
  size-of_json (json.number s) n h = AtMost-map (λ _. 0) size 0 n datum.number (λ a x. omega arith) (number_of s) (flat _)
  size-of_json (json.string s) n h = omega arith
  size-of_json (json.array js) n h = AtMost-map items_size size (items_parts js) n datum.array (λ a x. omega arith) _ (size-of_items js _ (omega arith))
  size-of_json (json.object ms) n h = AtMost-map members_size size (members_parts ms) n datum.object (λ a x. omega arith) _ (size-of_members ms no_members _ (omega arith))

  size-of_items : (js : json.Items) (n : ℕ) → items_parts js ≤ n → AtMost items_size n (of_items js)
  size-of_items json.no_items n h = omega arith
  size-of_items (json.item j js) n h =
      AtMost-and_then size items_size (parts j) n _ (λ d x. AtMost-map items_size items_size (items_parts js) n (datum.item d) (λ ds y. omega arith) _ (size-of_items js _ (omega arith))) _ (size-of_json j _ (omega arith))

  size-of_members : (ms : json.Members) (found : Members) (n : ℕ) → members_parts ms + members_size found ≤ n → AtMost members_size n (of_members ms found)
  size-of_members json.no_members found n h = omega (arith, h)
  size-of_members (json.member name j ms) found n h =
      AtMost-and_then size members_size (parts j) n _ (λ d x. size-of_members ms (put name d found) n (omega (arith, members_size-put name d found, x))) _ (size-of_json j _ (omega arith))

last_within : (o : Option (json.Json × List Token)) (n : ℕ) → Leaves parts n o → AtMost parts n (option_and_then (λ p. json.if_last p.0 p.1) o)
last_within None n h = tt
last_within (Some (j, [])) n h = omega (arith, h)
last_within (Some (j, t ∷ r)) n h = tt

pub holds_less : HoldsLessThanItsBytes
holds_less text d e =
    let few : length (tokens text) ≤ length text + 1 = omega (arith, length-tokens text) in
    subst (AtMost size (length text + 1)) e
    (AtMost-and_then parts size (length text + 1) (length text + 1) of_json (λ j x. size-of_json j (length text + 1) x) _
    (last_within _ (length text + 1) (weaker parts (length (tokens text)) (length text + 1) _ few (Takes-value max_depth (tokens text)))))
