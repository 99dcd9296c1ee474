-- What is published, as words: the front, the exits of ten buffers, and the buffers; and how it fits what seats see.
use Rattle.std.specs.Prelude.{◌≡◌, ◌≢◌, ℕ, ◌+◌, ◌*◌, ◌/◌, ◌%◌, ◌^◌, ◌<◌, ◌≤◌, ◌==◌, ◌&&◌, nat_le, not, Bool, true, false, List, length, slice_index, if◌then◌else◌}
use mathlib.Core.Option.{some}
use lib.ListN.{get_elem?}
use Rattle.xr_types.specs.declared.view.TheConstants.{MOST_WORDS}
use Rattle.xr_rule.specs.Sums.{total}
use Rattle.xr_rule.specs.View.{Eyes, Out, Inside, Keeps, Writes}

-- ---- where the words are, from the first of them on

-- how many buffers there are: one more than eight readers and the front can be in
abbrev pub buffers : ℕ
buffers = 10

-- how many words a buffer has
abbrev pub buffer_words : ℕ
buffer_words = MOST_WORDS

-- how many words there are: the front, the exits, and the buffers
abbrev pub shown_words : ℕ
shown_words = 1 + buffers + buffers * buffer_words

-- where a buffer's exits are counted
abbrev pub exit_word : ℕ → ℕ → ℕ
exit_word o b = o + 1 + b

-- where a word of a buffer is
abbrev pub state_word : ℕ → ℕ → ℕ → ℕ
state_word o b i = o + 1 + buffers + buffer_words * b + i

-- the front's number of entries stands above the number of its buffer
abbrev pub front_of : ℕ → List ℕ → ℕ
front_of o ws = slice_index ws o % 16

-- in the holder's counts, at the front's place
abbrev pub no_count : ℕ
no_count = 18446744073709551615

-- ---- what eyes come to

abbrev pub inside : ℕ → Eyes → ℕ
inside b Out = 0
inside b (Inside c p) = if c == b then 1 else 0
inside b (Keeps cs k) = 0
inside b (Writes cs c xs) = 0

-- in some buffer
abbrev pub reads_some : Eyes → ℕ
reads_some Out = 0
reads_some (Inside c p) = 1
reads_some (Keeps cs k) = 0
reads_some (Writes cs c xs) = 0

-- in one from this one on that isn't the front
abbrev pub beyond : ℕ → ℕ → Eyes → ℕ
beyond f k Out = 0
beyond f k (Inside c p) = if nat_le k c && not (c == f) then 1 else 0
beyond f k (Keeps cs j) = 0
beyond f k (Writes cs c xs) = 0

abbrev pub is_writing : Eyes → Bool
is_writing Out = false
is_writing (Inside c p) = false
is_writing (Keeps cs k) = true
is_writing (Writes cs c xs) = true

-- ---- the rule's part

-- the buffer begins with these words
abbrev pub Stored : ℕ → List ℕ → ℕ → List ℕ → Type 0
Stored o ws b p = (i : ℕ) → i < length p → slice_index ws (state_word o b i) ≡ slice_index p i

-- Of each buffer but the front the count of entries is that of its exits and of the seats inside.
abbrev pub AreCounts : ℕ → List ℕ → List Eyes → List ℕ → Type 0
AreCounts o ws eyes cs = (b : ℕ) → b < buffers → b ≢ front_of o ws → slice_index cs b ≡ (slice_index ws (exit_word o b) + total (inside b) eyes) % 2 ^ 60

-- The buffers before this one, but the front, were found with seats in them: with the seats beyond that makes eight at most.
pub record HasSearched (f k : ℕ) (eyes : List Eyes) : Type 0 where
  pub behind_front : f < k → total (beyond f k) eyes + k ≤ 9
  pub before_front : k ≤ f → total (beyond f k) eyes + k ≤ 8

pub record IsInside (o : ℕ) (ws : List ℕ) (b : ℕ) (p : List ℕ) : Type 0 where
  pub near : b < buffers
  pub short : length p ≤ buffer_words
  pub stored : Stored o ws b p

pub record IsWriting (o : ℕ) (ws : List ℕ) (eyes : List Eyes) (b : ℕ) (xs : List ℕ) : Type 0 where
  pub near : b < buffers
  pub apart : b ≢ front_of o ws
  pub empty : total (inside b) eyes ≡ 0
  pub short : length xs ≤ buffer_words
  pub stored : Stored o ws b xs

-- what one seat sees fits
abbrev pub SeesWell : ℕ → List ℕ → List ℕ → List Eyes → Eyes → Type 0
SeesWell o ws cs eyes Out = Unit {0}
SeesWell o ws cs eyes (Inside b p) = IsInside o ws b p
SeesWell o ws cs eyes (Keeps ks k) = (ks ≡ cs) × (k ≤ buffers) × HasSearched (front_of o ws) k eyes
SeesWell o ws cs eyes (Writes ks b xs) = (ks ≡ cs) × IsWriting o ws eyes b xs

-- The front has the words of what was published last, and each seat sees well. Word o is the front.
pub record Shows (o : ℕ) (now cs ws : List ℕ) (eyes : List Eyes) : Type 0 where
  pub front : front_of o ws < buffers
  pub entries : slice_index ws o / 16 ≡ (slice_index ws (exit_word o (front_of o ws)) + total (inside (front_of o ws)) eyes) % 2 ^ 60
  pub shown : IsInside o ws (front_of o ws) now
  pub ten : length cs ≡ buffers
  pub marked : slice_index cs (front_of o ws) ≡ no_count
  pub counted : AreCounts o ws eyes cs
  pub each : (j : ℕ) (e : Eyes) → get_elem? eyes j ≡ some e → SeesWell o ws cs eyes e
