-- What a seat knows, and how views are cut in two and joined.
use Rattle.std.specs.Prelude.{ℕ, zero, suc, ◌+◌, ◌==◌, nat_le, Bool, true, false, List, [], ◌∷◌, ◌++◌, length, Option, Some, None, if◌then◌else◌}
use Rattle.xr_model.specs.machine.CellCalls.{CellCall}
use Rattle.xr_model.specs.machine.Calls.{Entry, Exchange}
use Rattle.xr_model.specs.laws.Moments.{opening_moment, moment_after, exchange_at}
use Rattle.xr_rule.specs.Sums.{total}

-- ---- views

-- An actor's number, its calls so far, and what its seat had seen when another seat took it in.
pub record Own : Type 0 where
  pub number : ℕ
  pub calls : List Exchange
  pub saw : List Entry

-- What a seat knows of the history: how many applications the run has; numbers, the seat's own first, and then those that it
-- took in or has yet to give away; and the history that it has seen.
pub record Know : Type 0 where
  pub apps : ℕ
  pub own : List Own
  pub seen : List Entry

-- What a holder has: its ticket, counted without bound; the history at its last look, which is the one that made it the holder, or
-- the claim that decided its entry; its undecided entry; and the calls on cells that it made since that look.
pub record Hold : Type 0 where
  pub ticket : ℕ
  pub look : List Entry
  pub noted : Option Entry
  pub made : List CellCall

-- A seat has no ticket, or waits with one, or holds the slot.
pub data Turn : Type 0 where
  Idle : Turn
  Waiting : ℕ → Turn  -- ticket
  Holding : Hold → Turn

-- What a seat sees of what is published: nothing; the buffer that it entered, and the words that are in it; as the holder, the counts
-- of entries, and how many buffers it has looked at; or those, and the buffer that it writes with the words that it begins with.
pub data Eyes : Type 0 where
  Out : Eyes
  Inside : ℕ → List ℕ → Eyes  -- buffer, words
  Keeps : List ℕ → ℕ → Eyes  -- counts, looked at
  Writes : List ℕ → ℕ → List ℕ → Eyes  -- counts, buffer, words so far

pub record View : Type 0 where
  pub know : Know
  pub turn : Turn
  pub eyes : Eyes

abbrev pub sight : Know → Turn → Eyes → View
sight k u e = record { know = k; turn = u; eyes = e }

-- who sees nothing of what is published
abbrev pub view : Know → Turn → View
view k u = sight k u Out

abbrev pub know : ℕ → List Own → List Entry → Know
know apps own seen = record { apps = apps; own = own; seen = seen }

abbrev pub own_of : ℕ → List Exchange → List Entry → Own
own_of number calls saw = record { number = number; calls = calls; saw = saw }

-- what a look makes of the seat whose ticket is served
abbrev pub hold_from : ℕ → List Entry → Hold
hold_from ticket look = record { ticket = ticket; look = look; noted = None; made = [] }

abbrev pub know_of : View → Know
know_of v = v.know

abbrev pub turn_of : View → Turn
turn_of v = v.turn

abbrev pub eyes_of : View → Eyes
eyes_of v = v.eyes

-- ---- a seat's numbers

-- the seat's own number
abbrev pub number_in : List Own → ℕ
number_in [] = 0
number_in (o ∷ os) = o.number

-- its own calls
abbrev pub calls_in : List Own → List Exchange
calls_in [] = []
calls_in (o ∷ os) = o.calls

-- the seat's own number has one more call
abbrev pub with_call : Exchange → List Own → List Own
with_call x [] = []
with_call x (o ∷ os) = own_of o.number (o.calls ++ x ∷ []) o.saw ∷ os

-- the first number is taken in from a seat that had seen so much
abbrev pub with_seen : List Entry → List Own → List Own
with_seen seen [] = []
with_seen seen (o ∷ os) = own_of o.number o.calls seen ∷ os

abbrev pub is_of : ℕ → Own → ℕ
is_of n o = if o.number == n then 1 else 0

-- how often a seat has a number
abbrev pub owns : ℕ → Know → ℕ
owns n k = total (is_of n) k.own

abbrev pub parts : Know → ℕ
parts k = length k.own

-- whether the seat's own number is an application's
abbrev pub is_app : Own → ℕ
is_app o = if nat_le 2 o.number then 1 else 0

abbrev pub app_in : List Own → ℕ
app_in [] = 0
app_in (o ∷ os) = is_app o

-- ---- tickets

abbrev pub out : Turn → ℕ
out Idle = 0
out (Waiting t) = 1
out (Holding h) = 1

abbrev pub has_ticket : ℕ → Turn → ℕ
has_ticket n Idle = 0
has_ticket n (Waiting t) = if t == n then 1 else 0
has_ticket n (Holding h) = if h.ticket == n then 1 else 0

abbrev pub is_holder : Turn → Bool
is_holder Idle = false
is_holder (Waiting t) = false
is_holder (Holding h) = true

-- ---- the first view, and how views are cut and joined

-- so many applications' numbers from this one on, and then the compositor's, none with a call
abbrev pub numbers_from : ℕ → ℕ → List Own
numbers_from n zero = own_of 1 [] [] ∷ []
numbers_from n (suc k) = own_of n [] [] ∷ numbers_from (n + 1) k

-- all numbers: the device's first, and then the others in the order in which they are given away
abbrev pub all_numbers : ℕ → List Own
all_numbers apps = own_of 0 [] [] ∷ numbers_from 2 apps

-- the first view has all numbers, and has seen nothing
abbrev pub newcomer : ℕ → View
newcomer apps = view (know apps (all_numbers apps) []) Idle

-- the second number goes to a new seat
abbrev pub without_second : List Own → List Own
without_second [] = []
without_second (o ∷ []) = o ∷ []
without_second (o ∷ p ∷ os) = o ∷ os

abbrev pub second_of : List Own → List Own
second_of [] = []
second_of (o ∷ []) = []
second_of (o ∷ p ∷ os) = p ∷ []

abbrev pub staying_view : View → View
staying_view v = sight (know v.know.apps (without_second v.know.own) v.know.seen) v.turn v.eyes

abbrev pub cut_view : View → View
cut_view v = view (know v.know.apps (second_of v.know.own) v.know.seen) Idle

-- a seat without a number keeps what was seen
abbrev pub keepsake : View → View
keepsake v = view (know v.know.apps [] v.know.seen) Idle

abbrev pub longer : List Entry → List Entry → List Entry
longer xs ys = if nat_le (length xs) (length ys) then ys else xs

-- A seat takes another in: it has the longer of what both have seen, and the other's numbers with their calls behind its own.
abbrev pub joined_view : View → View → View
joined_view v w = sight (know w.know.apps (v.know.own ++ with_seen w.know.seen w.know.own) (longer v.know.seen w.know.seen)) v.turn v.eyes

abbrev pub spent_know : Know
spent_know = know 0 [] []

-- what is left of the other
abbrev pub spent_view : View
spent_view = view spent_know Idle

-- ---- deciding

-- the history once the undecided entry is decided, if there is one
abbrev pub history_with : List Entry → Option Entry → List Entry
history_with look None = look
history_with look (Some e) = look ++ e ∷ []

-- what a seat knows once it has decided an entry behind this history
abbrev pub know_after : Know → List Entry → Entry → Know
know_after k look e = know k.apps (with_call (exchange_at (moment_after (opening_moment k.apps) look) e) k.own) (look ++ e ∷ [])
