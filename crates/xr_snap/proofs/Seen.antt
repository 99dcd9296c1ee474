-- What stands where among the words of a publication.
use Rattle.std.proofs.Common.{◌≡◌, ◌==◌, ℕ, zero, suc, ◌+◌, ◌*◌, ◌/◌, ◌%◌, ◌^◌, ◌<◌, ◌≤◌, Bool, false, All, List, [], ◌∷◌, ◌++◌, length, get_or, flat_map, take, drop, slice_get, sym, refl, ap, ◌∙◌, Option, Some, None, option_map, subst, arith, length-append}
use Rattle.std.specs.Prelude.{MatchOption, option_and_then, unwrap_or, if◌then◌else◌}
use Rattle.std.specs.List.{position_from}
use Rattle.std.proofs.lemmas.List.{get_or-drop, get_or-take, drop-drop, length-drop, length-take-le}
use Rattle.std.proofs.lemmas.Nat.{div-mul-add, mod-mul-add, shr-shr}
use Rattle.xr_model.specs.machine.Publication.{ShownColumn, PublishedSession, PublishedAction, Publication, place_at}
use Rattle.xr_model.specs.machine.PublicationWords.{words, column_words, action_words, row_words, session_words, low_bit, bits_in, type_in, column_in, columns_in, action_in, actions_in, rows_in, session_in, sessions_in, publication_in}
use Rattle.xr_model.specs.laws.WordLaws.{RowFits, SessionFits, PublicationFits}
use Rattle.xr_rule.specs.View.{Eyes}
use Rattle.xr_snap.specs.Reading.{words_in, publication_seen, HasFit, AreThere, IsNone, IsFirst, asked_of, heading_of, standing_of, action_word, session_word, session_place, column_word, column_seen}
use Rattle.xr_snap.specs.declared.looking.Heading.{Heading}
use Rattle.xr_snap.proofs.Found.{first_at, none_from}

-- ---- how many words there are

first_fits : {T : Type 0} (P : T → Type 0) (x : T) (xs : List T) → All P (x ∷ xs) → P x
first_fits P x xs each = each 0 x (omega arith)

rest_fits : {T : Type 0} (P : T → Type 0) (x : T) (xs : List T) → All P (x ∷ xs) → All P xs
rest_fits P x xs each k d h = each (suc k) d (omega (arith, h))

-- so many times as much, and once more
once_more : (w n : ℕ) → w * suc n ≡ w + w * n
once_more w n = omega arith

once_within : (w i n : ℕ) → i < n → w * i + w ≤ w * n
once_within w i zero l = absurd (omega arith)
once_within w zero (suc n) l = omega arith
once_within w (suc i) (suc n) l = let less = once_within w i n (omega arith) in omega (arith, less)

columns_length : (cs : List ShownColumn) → length (flat_map column_words cs) ≡ 2 * length cs
columns_length [] = refl
columns_length (c ∷ cs) = omega (arith, columns_length cs)

actions_length : (acts : List PublishedAction) → length (flat_map action_words acts) ≡ 2 * length acts
actions_length [] = refl
actions_length (a ∷ acts) = omega (arith, actions_length acts)

rows_length : (rows : List (List ShownColumn)) → All RowFits rows → length (flat_map row_words rows) ≡ 12 * length rows
rows_length [] all = refl
rows_length (row ∷ rows) all =
    let six = (first_fits RowFits row rows all).six in
    omega (arith, length-append (row_words row) (flat_map row_words rows), columns_length row, six, rows_length rows (rest_fits RowFits row rows all))

sessions_length : (k : ℕ) (xs : List PublishedSession) → All (SessionFits k) xs → length (flat_map session_words xs) ≡ (3 + 12 * k) * length xs
sessions_length k [] all = omega arith
sessions_length k (x ∷ xs) all =
    let fits = first_fits (SessionFits k) x xs all in
    let many = fits.columns in
    let rest = sessions_length k xs (rest_fits (SessionFits k) x xs all) in
    omega (arith, length-append (session_words x) (flat_map session_words xs), rows_length x.columns fits.each, many, rest, once_more (3 + 12 * k) (length xs))

words_length : (p : Publication) → PublicationFits p → length (words p) ≡ session_word (length p.actions) (length p.sessions)
words_length p fits =
    let room = fits.room in
    let five = room.atoms in
    omega (arith, length-append p.atoms (flat_map action_words p.actions ++ flat_map session_words p.sessions), length-append (flat_map action_words p.actions) (flat_map session_words p.sessions), five, actions_length p.actions, sessions_length (length p.actions) p.sessions room.sessions)

sessions_count : (p : Publication) → PublicationFits p → get_or (words p) 1 0 % 2 ^ 32 ≡ length p.sessions
sessions_count p fits = mod-mul-add (length p.actions) (2 ^ 32) (length p.sessions) fits.room.few

actions_count : (p : Publication) → PublicationFits p → get_or (words p) 1 0 / 2 ^ 32 ≡ length p.actions
actions_count p fits = div-mul-add (length p.actions) (2 ^ 32) (length p.sessions) fits.room.few

-- ---- the first seven

record Heads (ws : List ℕ) : Type 0 where
  number : (publication_in ws).number ≡ get_or ws 0 0
  atoms : (publication_in ws).atoms ≡ take 5 (drop 2 ws)
  actions : (publication_in ws).actions ≡ actions_in (get_or ws 1 0 / 2 ^ 32) (drop 7 ws)
  sessions : (publication_in ws).sessions ≡ sessions_in (get_or ws 1 0 % 2 ^ 32) (get_or ws 1 0 / 2 ^ 32) (drop (2 * (get_or ws 1 0 / 2 ^ 32)) (drop 7 ws))

heads : (ws : List ℕ) → 1 < length ws → Heads ws
heads [] l = absurd (omega arith)
heads (a ∷ []) l = absurd (omega arith)
heads (a ∷ b ∷ ws) l = record { number = refl; atoms = refl; actions = refl; sessions = refl }

five_of : (ws : List ℕ) → 5 ≤ length ws → take 5 ws ≡ get_or ws 0 0 ∷ get_or ws 1 0 ∷ get_or ws 2 0 ∷ get_or ws 3 0 ∷ get_or ws 4 0 ∷ []
five_of [] l = absurd (omega arith)
five_of (a ∷ []) l = absurd (omega arith)
five_of (a ∷ b ∷ []) l = absurd (omega arith)
five_of (a ∷ b ∷ c ∷ []) l = absurd (omega arith)
five_of (a ∷ b ∷ c ∷ d ∷ []) l = absurd (omega arith)
five_of (a ∷ b ∷ c ∷ d ∷ e ∷ ws) l = refl

-- ---- actions, sessions, bits, columns

actions_at : (k : ℕ) (ws : List ℕ) (i : ℕ) → i < k → 2 * k ≤ length ws → slice_get (actions_in k ws) i ≡ Some (action_in (get_or ws (2 * i) 0) (get_or ws (2 * i + 1) 0))
actions_at zero ws i l long = absurd (omega arith)
actions_at (suc k) [] i l long = absurd (omega arith)
actions_at (suc k) (h ∷ []) i l long = absurd (omega arith)
actions_at (suc k) (h ∷ w ∷ ws) zero l long = refl
actions_at (suc k) (h ∷ w ∷ ws) (suc i) l long =
    let is : 2 * suc i ≡ suc (suc (2 * i)) = omega arith in
    let is1 : 2 * suc i + 1 ≡ suc (suc (2 * i + 1)) = omega arith in
    actions_at k ws i (omega arith) (omega arith) ∙ sym (λ j. Some (action_in (get_or (h ∷ w ∷ ws) (is j) 0) (get_or (h ∷ w ∷ ws) (is1 j) 0)))

-- the session whose words begin here
abbrev session_from : ℕ → List ℕ → ℕ → PublishedSession
session_from k ws at = session_in k (get_or ws at 0) (get_or ws (at + 1) 0) (get_or ws (at + 2) 0) (drop (at + 3) ws)

-- behind so many words it begins so many later
session_later : (k m : ℕ) (ws : List ℕ) (at to : ℕ) → m + at ≡ to → session_from k (drop m ws) at ≡ session_from k ws to
session_later k m ws at to is =
    let word : (c : ℕ) → get_or (drop m ws) (at + c) 0 ≡ get_or ws (to + c) 0 = λ c. get_or-drop m ws (at + c) 0 ∙ ap (λ (n : ℕ). get_or ws n 0) (omega (arith, is)) in
    let first : get_or (drop m ws) at 0 ≡ get_or ws to 0 = get_or-drop m ws at 0 ∙ ap (λ (n : ℕ). get_or ws n 0) is in
    let rest : drop (at + 3) (drop m ws) ≡ drop (to + 3) ws = drop-drop (at + 3) m ws ∙ ap (λ (n : ℕ). drop n ws) (omega (arith, is)) in
    λ j. session_in k (first j) (word 1 j) (word 2 j) (rest j)

sessions_at : (n k : ℕ) (ws : List ℕ) (j : ℕ) → j < n → (3 + 12 * k) * n ≤ length ws → slice_get (sessions_in n k ws) j ≡ Some (session_from k ws ((3 + 12 * k) * j))
sessions_at zero k ws j l long = absurd (omega arith)
sessions_at (suc n) k [] j l long = absurd (omega (arith, once_more (3 + 12 * k) n))
sessions_at (suc n) k (h ∷ []) j l long = absurd (omega (arith, once_more (3 + 12 * k) n))
sessions_at (suc n) k (h ∷ w ∷ []) j l long = absurd (omega (arith, once_more (3 + 12 * k) n))
sessions_at (suc n) k (h ∷ w ∷ a ∷ ws) zero l long = let none : (3 + 12 * k) * 0 ≡ 0 = omega arith in ap (λ (at : ℕ). Some (session_from k (h ∷ w ∷ a ∷ ws) at)) (sym none)
sessions_at (suc n) k (h ∷ w ∷ a ∷ ws) (suc j) l long =
    let all = h ∷ w ∷ a ∷ ws in
    let three : suc (suc (suc (12 * k))) ≡ 3 + 12 * k = omega arith in
    let more : drop (12 * k) ws ≡ drop (3 + 12 * k) all = ap (λ (m : ℕ). drop m all) three in
    let enough : (3 + 12 * k) * n ≤ length (drop (12 * k) ws) = omega (arith, length-drop (12 * k) ws, once_more (3 + 12 * k) n) in
    sessions_at n k (drop (12 * k) ws) j (omega arith) enough
    ∙ (ap (λ (us : List ℕ). Some (session_from k us ((3 + 12 * k) * j))) more ∙ ap (λ (x : PublishedSession). Some x) (session_later k (3 + 12 * k) all ((3 + 12 * k) * j) ((3 + 12 * k) * suc j) (sym (once_more (3 + 12 * k) j))))

bits_at : (k n i : ℕ) → i < k → slice_get (bits_in k n) i ≡ Some (low_bit (n / 2 ^ i))
bits_at zero n i l = absurd (omega arith)
bits_at (suc k) n zero l = let whole : n ≡ n / 2 ^ 0 = omega arith in ap (λ (m : ℕ). Some (low_bit m)) whole
bits_at (suc k) n (suc i) l =
    let further : n / 2 / 2 ^ i ≡ n / 2 ^ suc i = shr-shr n 1 i ∙ ap (λ (m : ℕ). n / 2 ^ m) (omega arith) in
    bits_at k (n / 2) i (omega arith) ∙ ap (λ (m : ℕ). Some (low_bit m)) further

rows_at : (k : ℕ) (ws : List ℕ) (i : ℕ) → i < k → slice_get (rows_in k ws) i ≡ Some (columns_in 6 (take 12 (drop (12 * i) ws)))
rows_at zero ws i l = absurd (omega arith)
rows_at (suc k) ws zero l = refl
rows_at (suc k) ws (suc i) l =
    let far : 12 + 12 * i ≡ 12 * suc i = omega arith in
    let there : drop (12 * i) (drop 12 ws) ≡ drop (12 * suc i) ws = drop-drop (12 * i) 12 ws ∙ ap (λ (n : ℕ). drop n ws) far in
    rows_at k (drop 12 ws) i (omega arith) ∙ ap (λ (us : List ℕ). Some (columns_in 6 (take 12 us))) there

columns_at : (k : ℕ) (ws : List ℕ) (i : ℕ) → i < k → 2 * k ≤ length ws → slice_get (columns_in k ws) i ≡ Some (column_in (get_or ws (2 * i) 0) (get_or ws (2 * i + 1) 0))
columns_at zero ws i l long = absurd (omega arith)
columns_at (suc k) [] i l long = absurd (omega arith)
columns_at (suc k) (v ∷ []) i l long = absurd (omega arith)
columns_at (suc k) (v ∷ w ∷ ws) zero l long = refl
columns_at (suc k) (v ∷ w ∷ ws) (suc i) l long =
    let is : 2 * suc i ≡ suc (suc (2 * i)) = omega arith in
    let is1 : 2 * suc i + 1 ≡ suc (suc (2 * i + 1)) = omega arith in
    columns_at k ws i (omega arith) (omega arith) ∙ sym (λ j. Some (column_in (get_or (v ∷ w ∷ ws) (is j) 0) (get_or (v ∷ w ∷ ws) (is1 j) 0)))

-- ---- of what a seat sees

module _ (y : Eyes) (fit : HasFit y) where
  abbrev ws : List ℕ
  ws = words_in y

  abbrev p : Publication
  p = publication_seen y

  abbrev many : ℕ
  many = length p.actions

  pub sessions_counted : get_or ws 1 0 % 2 ^ 32 ≡ length p.sessions
  sessions_counted = ap (λ (us : List ℕ). get_or us 1 0 % 2 ^ 32) fit.are ∙ sessions_count p fit.fits

  pub actions_counted : get_or ws 1 0 / 2 ^ 32 ≡ length p.actions
  actions_counted = ap (λ (us : List ℕ). get_or us 1 0 / 2 ^ 32) fit.are ∙ actions_count p fit.fits

  pub long : length ws ≡ session_word (length p.actions) (length p.sessions)
  long = ap length fit.are ∙ words_length p fit.fits

  pub has_heads : 7 ≤ length ws
  has_heads = omega (arith, long)

  top : Heads ws
  top = heads ws (omega (arith, long))

  pub number_is : p.number ≡ get_or ws 0 0
  number_is = top.number

  pub atoms_are : p.atoms ≡ get_or ws 2 0 ∷ get_or ws 3 0 ∷ get_or ws 4 0 ∷ get_or ws 5 0 ∷ get_or ws 6 0 ∷ []
  atoms_are =
      let enough : 5 ≤ length (drop 2 ws) = omega (arith, length-drop 2 ws, long) in
      let at : (i : ℕ) → get_or (drop 2 ws) i 0 ≡ get_or ws (2 + i) 0 = λ i. get_or-drop 2 ws i 0 in
      top.atoms ∙ (five_of (drop 2 ws) enough ∙ (λ j. at 0 j ∷ at 1 j ∷ at 2 j ∷ at 3 j ∷ at 4 j ∷ []))

  abbrev behind : List ℕ
  behind = drop 7 ws

  -- ---- actions

  acts : p.actions ≡ actions_in many behind
  acts = top.actions ∙ ap (λ (k : ℕ). actions_in k behind) actions_counted

  pub has_action : (i : ℕ) → i < length p.actions → action_word i + 1 < length ws
  has_action i l = omega (arith, long)

  pub action_is : (i : ℕ) → i < length p.actions → slice_get p.actions i ≡ Some (action_in (get_or ws (action_word i) 0) (get_or ws (action_word i + 1) 0))
  action_is i l =
      let enough : 2 * many ≤ length behind = omega (arith, length-drop 7 ws, long) in
      let one : get_or behind (2 * i) 0 ≡ get_or ws (7 + 2 * i) 0 = get_or-drop 7 ws (2 * i) 0 in
      let two : get_or behind (2 * i + 1) 0 ≡ get_or ws (7 + 2 * i + 1) 0 = get_or-drop 7 ws (2 * i + 1) 0 ∙ ap (λ (n : ℕ). get_or ws n 0) (omega arith) in
      ap (λ (xs : List PublishedAction). slice_get xs i) acts ∙ (actions_at many behind i l enough ∙ (λ j. Some (action_in (one j) (two j))))

  -- so whoever looks at the word behind a handle knows the action
  pub asked_is : (i : ℕ) → i < length p.actions → (w : ℕ) → w ≡ get_or ws (action_word i + 1) 0 → option_map asked_of (slice_get p.actions i) ≡ Some (record { kind = type_in (w % 8); declared = bits_in 5 (w / 8) })
  asked_is i l w is = ap (option_map asked_of) (action_is i l) ∙ ap (λ (n : ℕ). Some (asked_of (action_in (get_or ws (action_word i) 0) n))) (sym is)

  -- ---- sessions

  abbrev words_of_sessions : List ℕ
  words_of_sessions = drop (2 * many) behind

  here : p.sessions ≡ sessions_in (length p.sessions) many words_of_sessions
  here = top.sessions ∙ (λ i. sessions_in (sessions_counted i) (actions_counted i) (drop (2 * actions_counted i) behind))

  -- the words of a session are there
  pub has_session : (j : ℕ) → j < length p.sessions → session_word (length p.actions) j + (3 + 12 * length p.actions) ≤ length ws
  has_session j l = omega (arith, long, once_within (3 + 12 * many) j (length p.sessions) l)

  pub session_is : (j : ℕ) → j < length p.sessions → slice_get p.sessions j ≡ Some (session_from (length p.actions) ws (session_word (length p.actions) j))
  session_is j l =
      let enough : (3 + 12 * many) * length p.sessions ≤ length words_of_sessions = omega (arith, length-drop 7 ws, length-drop (2 * many) behind, long) in
      ap (λ (xs : List PublishedSession). slice_get xs j) here
      ∙ sessions_at (length p.sessions) many words_of_sessions j l enough
      ∙ ap (λ (x : PublishedSession). Some x) (session_later many (2 * many) behind ((3 + 12 * many) * j) (2 * many + (3 + 12 * many) * j) refl ∙ session_later many 7 ws (2 * many + (3 + 12 * many) * j) (session_word many j) (omega arith))

  standing_is : (j i : ℕ) → j < length p.sessions → i < length p.actions → (loss attached : ℕ) → loss ≡ get_or ws (session_word (length p.actions) j + 1) 0 → attached ≡ get_or ws (session_word (length p.actions) j + 2) 0
      → option_map (standing_of i) (slice_get p.sessions j) ≡ Some (record { lost = low_bit loss; pending = low_bit (loss / 2); attached = low_bit (attached / 2 ^ i) })
  standing_is j i l m loss attached loss_is attached_is =
      ap (option_map (standing_of i)) (session_is j l)
      ∙ sym (λ z. Some (record { lost = low_bit (loss_is z); pending = low_bit (loss_is z / 2); attached = unwrap_or (slice_get (bits_in many (attached_is z)) i) false }))
      ∙ ap (λ (b : Option Bool). Some (record { lost = low_bit loss; pending = low_bit (loss / 2); attached = unwrap_or b false })) (bits_at many attached i m)

  has_column : (j i c : ℕ) → j < length p.sessions → i < length p.actions → c < 6 → column_word (length p.actions) j i c + 1 < length ws
  has_column j i c l m k = omega (arith, has_session j l)

  column_is : (j i c : ℕ) → j < length p.sessions → i < length p.actions → c < 6 → (v w : ℕ) → v ≡ get_or ws (column_word (length p.actions) j i c) 0 → w ≡ get_or ws (column_word (length p.actions) j i c + 1) 0
      → column_seen p j i c ≡ Some (column_in v w)
  column_is j i c l m k v w v_is w_is =
      let from : ℕ = session_word many j + 3 in
      let its : List ℕ = drop from ws in
      let row : List ℕ = take 12 (drop (12 * i) its) in
      let full : length row ≡ 12 = length-take-le 12 (drop (12 * i) its) (omega (arith, length-drop (12 * i) its, length-drop from ws, has_session j l)) in
      let word : (d : ℕ) → d < 12 → get_or row d 0 ≡ get_or ws (from + (12 * i + d)) 0 = λ d less. get_or-take 12 (drop (12 * i) its) d 0 less ∙ (get_or-drop (12 * i) its d 0 ∙ get_or-drop from ws (12 * i + d) 0) in
      let one : get_or row (2 * c) 0 ≡ v = word (2 * c) (omega arith) ∙ (ap (λ (n : ℕ). get_or ws n 0) (omega arith) ∙ sym v_is) in
      let two : get_or row (2 * c + 1) 0 ≡ w = word (2 * c + 1) (omega arith) ∙ (ap (λ (n : ℕ). get_or ws n 0) (omega arith) ∙ sym w_is) in
      ap (λ (o : Option PublishedSession). option_and_then (λ (us : List ShownColumn). slice_get us c) (option_and_then (λ x. slice_get x.columns i) o)) (session_is j l)
      ∙ (ap (λ (o : Option (List ShownColumn)). option_and_then (λ (us : List ShownColumn). slice_get us c) o) (rows_at many its i m) ∙ (columns_at 6 row c k (omega (arith, full)) ∙ (λ z. Some (column_in (one z) (two z)))))

  -- whoever has the heading and looks at the two words behind a session's handle knows how it stands to an action, and at two of a column
  -- the column
  module _ (h : Heading) (is : h ≡ heading_of p) where
    pub has_standing : (j : ℕ) → j < h.sessions → session_word h.actions j + 2 < length ws
    has_standing = subst (λ (g : Heading). (j : ℕ) → j < g.sessions → session_word g.actions j + 2 < length ws) (sym is) (λ j l. let there = has_session j l in omega (arith, there))

    pub standing_seen : (j i : ℕ) → j < h.sessions → i < h.actions → (loss attached : ℕ) → loss ≡ get_or ws (session_word h.actions j + 1) 0 → attached ≡ get_or ws (session_word h.actions j + 2) 0
        → option_map (standing_of i) (slice_get p.sessions j) ≡ Some (record { lost = low_bit loss; pending = low_bit (loss / 2); attached = low_bit (attached / 2 ^ i) })
    standing_seen =
        subst (λ (g : Heading). (j i : ℕ) → j < g.sessions → i < g.actions → (loss attached : ℕ) → loss ≡ get_or ws (session_word g.actions j + 1) 0 → attached ≡ get_or ws (session_word g.actions j + 2) 0
        → option_map (standing_of i) (slice_get p.sessions j) ≡ Some (record { lost = low_bit loss; pending = low_bit (loss / 2); attached = low_bit (attached / 2 ^ i) }))
        (sym is) standing_is

    pub both_there : (j i c : ℕ) → j < h.sessions → i < h.actions → c < 6 → column_word h.actions j i c + 1 < length ws
    both_there = subst (λ (g : Heading). (j i c : ℕ) → j < g.sessions → i < g.actions → c < 6 → column_word g.actions j i c + 1 < length ws) (sym is) has_column

    pub shown_is : (j i c : ℕ) → j < h.sessions → i < h.actions → c < 6 → (v w : ℕ) → v ≡ get_or ws (column_word h.actions j i c) 0 → w ≡ get_or ws (column_word h.actions j i c + 1) 0
        → column_seen p j i c ≡ Some (column_in v w)
    shown_is =
        subst (λ (g : Heading). (j i c : ℕ) → j < g.sessions → i < g.actions → c < 6 → (v w : ℕ) → v ≡ get_or ws (column_word g.actions j i c) 0 → w ≡ get_or ws (column_word g.actions j i c + 1) 0 → column_seen p j i c ≡ Some (column_in v w))
        (sym is) column_is

  -- ---- handles

  pub action_handle : (i : ℕ) → i < length p.actions → option_map (λ (a : PublishedAction). a.handle) (slice_get p.actions i) ≡ Some (get_or ws (action_word i) 0)
  action_handle i l = ap (option_map (λ (a : PublishedAction). a.handle)) (action_is i l)

  pub session_handle : (j : ℕ) → j < length p.sessions → option_map (λ (x : PublishedSession). x.handle) (slice_get p.sessions j) ≡ Some (get_or ws (session_word (length p.actions) j) 0)
  session_handle j l = ap (option_map (λ (x : PublishedSession). x.handle)) (session_is j l)

  pub actions_there : (n : ℕ) → n ≡ length p.actions → AreThere ws (record { first = 7; apart = 2; count = n })
  actions_there n all i l = let inside : i < length p.actions = omega (arith, all, l) in let there = has_action i inside in omega (arith, there)

  pub sessions_there : (k n : ℕ) → k ≡ length p.actions → n ≡ length p.sessions → AreThere ws (record { first = 7 + 2 * k; apart = 3 + 12 * k; count = n })
  sessions_there k n same all i l =
      let inside : i < length p.sessions = omega (arith, all, l) in
      let there = has_session i inside in
      let here : session_word (length p.actions) i < length ws = omega (arith, there) in
      subst (λ (m : ℕ). session_word m i < length ws) (sym same) here

  pub action_place_is : (n : ℕ) → n ≡ length p.actions → (action : ℕ) (o : Option ℕ)
      → MatchOption o (IsNone ws (record { first = 7; apart = 2; count = n }) action) (λ i. IsFirst ws (record { first = 7; apart = 2; count = n }) action i) → o ≡ place_at p action
  action_place_is n all action None none = sym (none_from (λ (a : PublishedAction). a.handle) action p.actions (λ i. get_or ws (action_word i) 0) 0 action_handle (λ j l. none j (omega (arith, all, l))))
  action_place_is n all action (Some i) found =
      let near = found.near in
      sym (first_at (λ (a : PublishedAction). a.handle) action p.actions (λ j. get_or ws (action_word j) 0) i action_handle (omega (arith, all, near)) found.is found.before)

  pub session_place_is : (k n : ℕ) → k ≡ length p.actions → n ≡ length p.sessions → (session : ℕ) (o : Option ℕ)
      → MatchOption o (IsNone ws (record { first = 7 + 2 * k; apart = 3 + 12 * k; count = n }) session) (λ i. IsFirst ws (record { first = 7 + 2 * k; apart = 3 + 12 * k; count = n }) session i)
      → (session == 0) ≡ false → o ≡ session_place p session
  session_place_is k n same all session o found other = by o found ∙ sym (ap (λ (b : Bool). if b then None else position_from (λ (x : PublishedSession). x.handle == session) 0 p.sessions) other)
    where
      keys : (j : ℕ) → j < length p.sessions → option_map (λ (x : PublishedSession). x.handle) (slice_get p.sessions j) ≡ Some (get_or ws (session_word k j) 0)
      keys j l = session_handle j l ∙ ap (λ (m : ℕ). Some (get_or ws (session_word m j) 0)) (sym same)

      by : (o : Option ℕ) → MatchOption o (IsNone ws (record { first = 7 + 2 * k; apart = 3 + 12 * k; count = n }) session) (λ i. IsFirst ws (record { first = 7 + 2 * k; apart = 3 + 12 * k; count = n }) session i)
          → o ≡ position_from (λ (x : PublishedSession). x.handle == session) 0 p.sessions
      by None none = sym (none_from (λ (x : PublishedSession). x.handle) session p.sessions (λ j. get_or ws (session_word k j) 0) 0 keys (λ j l. none j (omega (arith, all, l))))
      by (Some i) found =
          let near = found.near in
          sym (first_at (λ (x : PublishedSession). x.handle) session p.sessions (λ j. get_or ws (session_word k j) 0) i keys (omega (arith, all, near)) found.is found.before)
