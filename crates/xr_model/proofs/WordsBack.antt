-- The words of a publication read back.
use Rattle.std.proofs.Common.{◌≡◌, ◌==◌, ◌+◌, ◌*◌, ◌/◌, ◌^◌, ◌<◌, ◌≤ℤ◌, ℕ, ℤ, pos, negsuc, zero, suc, Bool, true, false, List, [], ◌∷◌, refl, ap, sym, ◌∙◌, arith, length, ◌++◌, to_z-of_z, length-append}
use Rattle.std.specs.Prelude.{unsigned_abs, flat_map, take, drop, All, FitsSigned}
use Rattle.std.specs.Int.{w32, cast_unsigned}
use Rattle.std.proofs.lemmas.Nat.{div-mul-add, mod-mul-add}
use Rattle.std.proofs.lemmas.List.{take_at, drop_at, append_assoc}
use Rattle.xr_types.specs.declared.input.ActionType.{ActionType}
use Rattle.xr_types.specs.declared.input.ActionType.TheVariants as type
use Rattle.xr_model.specs.machine.Publication.{ShownColumn, PublishedSession, PublishedAction, Publication}
use Rattle.xr_model.specs.machine.PublicationWords.{bit, with_bit, bits, type_number, column_words, action_words, row_words, session_words, low_bit, bits_in, type_in, column_in, columns_in, action_in, actions_in, rows_in, session_in, sessions_in}
use Rattle.xr_model.specs.machine.Reads.{reads}
use Rattle.xr_model.specs.laws.WordLaws.{ColumnFits, RowFits, ActionFits, SessionFits, WordsGiveBack, WordsAreRead}

first_fits : {T : Type 0} (P : T → Type 0) (x : T) (xs : List T) → All P (x ∷ xs) → P x
first_fits P x xs each = each 0 x (omega arith)

rest_fits : {T : Type 0} (P : T → Type 0) (x : T) (xs : List T) → All P (x ∷ xs) → All P xs
rest_fits P x xs each k d h = each (suc k) d (omega (arith, h))

bit_is_small : (b : Bool) → bit b < 2
bit_is_small true = omega arith
bit_is_small false = omega arith

low_of_bit : (b : Bool) → (bit b == 1) ≡ b
low_of_bit true = refl
low_of_bit false = refl

low : (n : ℕ) (b : Bool) → low_bit (with_bit n b) ≡ b
low n b = ap (λ r. r == 1) (mod-mul-add n 2 (bit b) (bit_is_small b)) ∙ low_of_bit b

high : (n : ℕ) (b : Bool) → with_bit n b / 2 ≡ n
high n b = div-mul-add n 2 (bit b) (bit_is_small b)

bits_back : (k : ℕ) (bs : List Bool) → length bs ≡ k → bits_in k (bits bs) ≡ bs
bits_back zero [] h = refl
bits_back zero (b ∷ bs) h = absurd (omega (arith, h))
bits_back (suc k) [] h = absurd (omega (arith, h))
bits_back (suc k) (b ∷ bs) h = rw (low (bits bs) b, high (bits bs) b, bits_back k bs (omega (arith, h))) refl

type_is_small : (t : ActionType) → type_number t < 8
type_is_small type.Boolean = omega arith
type_is_small type.Float = omega arith
type_is_small type.Vector = omega arith
type_is_small type.Pose = omega arith
type_is_small type.Vibration = omega arith

type_back : (t : ActionType) → type_in (type_number t) ≡ t
type_back type.Boolean = refl
type_back type.Float = refl
type_back type.Vector = refl
type_back type.Pose = refl
type_back type.Vibration = refl

time_back : (time : ℤ) → pos 0 ≤ℤ time → pos (unsigned_abs time) ≡ time
time_back (pos n) h = refl
time_back (negsuc n) h = absurd (omega (arith, h))

below_32 : (z : ℤ) → FitsSigned w32 z → cast_unsigned w32 z < 2 ^ 32
below_32 (pos n) fits = let h : n < 2 ^ 31 = fits.sfits in omega (arith, h)
below_32 (negsuc n) fits = omega arith

column_back : (c : ShownColumn) → ColumnFits c → column_in (cast_unsigned w32 c.y * 2 ^ 32 + cast_unsigned w32 c.x) (with_bit (with_bit (unsigned_abs c.time) c.active) c.changed) ≡ c
column_back c fits = rw (
  mod-mul-add (cast_unsigned w32 c.y) (2 ^ 32) (cast_unsigned w32 c.x) (below_32 c.x fits.x),
  div-mul-add (cast_unsigned w32 c.y) (2 ^ 32) (cast_unsigned w32 c.x) (below_32 c.x fits.x),
  low (with_bit (unsigned_abs c.time) c.active) c.changed,
  high (with_bit (unsigned_abs c.time) c.active) c.changed,
  low (unsigned_abs c.time) c.active,
  high (unsigned_abs c.time) c.active,
  time_back c.time fits.time,
  to_z-of_z fits.x,
  to_z-of_z fits.y,
) refl

columns_back : (k : ℕ) (cs : List ShownColumn) → length cs ≡ k → All ColumnFits cs → columns_in k (flat_map column_words cs) ≡ cs
columns_back zero [] h each = refl
columns_back zero (c ∷ cs) h each = absurd (omega (arith, h))
columns_back (suc k) [] h each = absurd (omega (arith, h))
columns_back (suc k) (c ∷ cs) h each = rw (column_back c (first_fits ColumnFits c cs each), columns_back k cs (omega (arith, h)) (rest_fits ColumnFits c cs each)) refl

columns_size : (cs : List ShownColumn) → length (flat_map column_words cs) ≡ length cs * 2
columns_size [] = refl
columns_size (c ∷ cs) = rw (columns_size cs) (omega arith)

-- ---- actions

action_back : (a : PublishedAction) → ActionFits a → action_in a.handle (bits a.declared * 8 + type_number a.type) ≡ a
action_back a fits = rw (
  mod-mul-add (bits a.declared) 8 (type_number a.type) (type_is_small a.type),
  div-mul-add (bits a.declared) 8 (type_number a.type) (type_is_small a.type),
  bits_back 5 a.declared fits.declared,
  type_back a.type,
) refl

actions_size : (xs : List PublishedAction) → length (flat_map action_words xs) ≡ 2 * length xs
actions_size [] = refl
actions_size (a ∷ xs) = rw (actions_size xs) (omega arith)

-- whatever stands behind the words of the actions
actions_back : (xs : List PublishedAction) (behind : List ℕ) → All ActionFits xs → actions_in (length xs) (flat_map action_words xs ++ behind) ≡ xs
actions_back [] behind each = refl
actions_back (a ∷ xs) behind each = rw (action_back a (first_fits ActionFits a xs each), actions_back xs behind (rest_fits ActionFits a xs each)) refl

-- ---- sessions

row_size : (row : List ShownColumn) → RowFits row → length (row_words row) ≡ 12
row_size row fits = columns_size row ∙ rw (fits.six) refl

rows_size : (rows : List (List ShownColumn)) → All RowFits rows → length (flat_map row_words rows) ≡ 12 * length rows
rows_size [] each = refl
rows_size (row ∷ rows) each =
    let one = row_size row (first_fits RowFits row rows each) in
    let more = rows_size rows (rest_fits RowFits row rows each) in
    let both = length-append (row_words row) (flat_map row_words rows) in
    omega (arith, one, more, both)

rows_back : (rows : List (List ShownColumn)) (behind : List ℕ) → All RowFits rows → rows_in (length rows) (flat_map row_words rows ++ behind) ≡ rows
rows_back [] behind each = refl
rows_back (row ∷ rows) behind each =
    let fits = first_fits RowFits row rows each in
    let rest : List ℕ = flat_map row_words rows ++ behind in
    let size = row_size row fits in
    ap (λ (ws : List ℕ). columns_in 6 (take 12 ws) ∷ rows_in (length rows) (drop 12 ws)) (append_assoc (row_words row) (flat_map row_words rows) behind)
    ∙ ap (λ (ws : List ℕ). columns_in 6 ws ∷ rows_in (length rows) (drop 12 (row_words row ++ rest))) (take_at (row_words row) rest 12 size)
    ∙ ap (λ (ws : List ℕ). columns_in 6 (row_words row) ∷ rows_in (length rows) ws) (drop_at (row_words row) rest 12 size)
    ∙ rw (columns_back 6 row fits.six fits.each, rows_back rows behind (rest_fits RowFits row rows each)) refl

-- whatever stands behind the words of its columns
session_back : (k : ℕ) (x : PublishedSession) (behind : List ℕ) → SessionFits k x → session_in k x.handle (bits (x.loss.lost ∷ x.loss.pending ∷ [])) (bits x.attached) (flat_map row_words x.columns ++ behind) ≡ x
session_back k x behind fits =
    rw (
      low (bits (x.loss.pending ∷ [])) x.loss.lost,
      high (bits (x.loss.pending ∷ [])) x.loss.lost,
      low (bits []) x.loss.pending,
      bits_back k x.attached fits.attached,
    ) (ap (λ (rows : List (List ShownColumn)). record x { columns = rows }) (ap (λ (n : ℕ). rows_in n (flat_map row_words x.columns ++ behind)) (sym fits.columns) ∙ rows_back x.columns behind fits.each))

sessions_back : (k : ℕ) (xs : List PublishedSession) → All (SessionFits k) xs → sessions_in (length xs) k (flat_map session_words xs) ≡ xs
sessions_back k [] each = refl
sessions_back k (x ∷ xs) each =
    let fits = first_fits (SessionFits k) x xs each in
    let rest : List ℕ = flat_map session_words xs in
    let size : length (flat_map row_words x.columns) ≡ 12 * k = rows_size x.columns fits.each ∙ ap (λ (n : ℕ). 12 * n) fits.columns in
    ap (λ (y : PublishedSession). y ∷ sessions_in (length xs) k (drop (12 * k) (flat_map row_words x.columns ++ rest))) (session_back k x rest fits)
    ∙ ap (λ (ws : List ℕ). x ∷ sessions_in (length xs) k ws) (drop_at (flat_map row_words x.columns) rest (12 * k) size)
    ∙ ap (λ (ys : List PublishedSession). x ∷ ys) (sessions_back k xs (rest_fits (SessionFits k) x xs each))

-- ---- all of them

pub words_give_back : WordsGiveBack
words_give_back p fits =
    let acts : List ℕ = flat_map action_words p.actions in
    let rest : List ℕ = flat_map session_words p.sessions in
    rw (
      mod-mul-add (length p.actions) (2 ^ 32) (length p.sessions) fits.few,
      div-mul-add (length p.actions) (2 ^ 32) (length p.sessions) fits.few,
      take_at p.atoms (acts ++ rest) 5 fits.atoms,
      drop_at p.atoms (acts ++ rest) 5 fits.atoms,
      actions_back p.actions rest fits.actions,
      drop_at acts rest (2 * length p.actions) (actions_size p.actions),
      sessions_back (length p.actions) p.sessions fits.sessions,
    ) refl

pub words_are_read : WordsAreRead
words_are_read p what fits = ap (λ (q : Publication). reads q what) (words_give_back p fits)
