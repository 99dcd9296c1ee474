-- What a seat makes of cells that lie in a table's words.
use Rattle.std.specs.Prelude.{◌≡◌, ℕ, Bool, true, false, [], Option, None}
use Rattle.atomic_table.specs.Seated.{TableId}
use Rattle.atomic_table.specs.Table.{Me}
use Rattle.atomic_table.specs.declared.shared.Seat.{Seat}
use Rattle.xr_types.specs.declared.frames.Image.{Image}
use Rattle.xr_model.specs.machine.CellCalls.{CellCall, claim, peek, give_back}
use Rattle.xr_model.specs.machine.Calls.{Entry}
use Rattle.xr_types.specs.declared.calls.Call.{Call}
use Rattle.xr_model.specs.laws.Moments.{actor_at}
use Rattle.xr_model.specs.laws.ImageWords.{stamp_of, stamp_after, FitsCall}
use Rattle.xr_rule.specs.View.{Know, Hold, View, Holding, sight, number_in}
use Rattle.xr_rule.specs.Rule.{state_at, MayClaim}
use Rattle.xr_rule.specs.Plays.{made_more, DecidesHolding}

-- the entry of a wait, which gives no handle and takes no memory
abbrev pub wait_entry : Know → Call → Entry
wait_entry k what = record { actor = actor_at (number_in k.own); call = what; given = 0; short = false }

-- a claim is made for a wait that may be decided, and is its only call
abbrev pub ClaimsIf : Know → Hold → Call → Bool → CellCall → Type 0
ClaimsIf k h what late (claim i b) = MayClaim k h.look (wait_entry k what) i late × (h.made ≡ [])
ClaimsIf k h what late _ = Unit {0}

module _ {S : Type 0} where
  -- The seat holds the lock of this table and has noted nothing, and the call fits what the core keeps.
  pub record MaySet (table : TableId) (s : Seat (Option S) View) (x : CellCall) : Type 0 where
    pub own : s.table_id ≡ table
    pub hold : Hold
    pub is : s.me ≡ (sight s.me.0.know (Holding hold) s.me.0.eyes, s.me.1)
    pub unnoted : hold.noted ≡ None
    pub fits : FitsCall (state_at s.me.0.know hold.look).core x

  -- The same of what a seat knows and carries, whichever table it is of.
  pub record MeMay (what : Call) (late : Bool) (m : Me (Option S) View) (x : CellCall) : Type 0 where
    pub hold : Hold
    pub is : m ≡ (sight m.0.know (Holding hold) m.0.eyes, m.1)
    pub unnoted : hold.noted ≡ None
    pub fits : FitsCall (state_at m.0.know hold.look).core x
    pub claims : ClaimsIf m.0.know hold what late x

  -- And a claim is one that may be made for this call.
  pub record MayStep (table : TableId) (what : Call) (late : Bool) (s : Seat (Option S) View) (x : CellCall) : Type 0 where
    pub sets : MaySet table s x
    pub claims : ClaimsIf s.me.0.know sets.hold what late x

  -- What a call asks of the seat. A giving back asks nothing and does nothing: images aren't given back under the lock.
  abbrev pub MayTouch : TableId → Call → Bool → Seat (Option S) View → CellCall → Type 0
  MayTouch table what late s (give_back i) = Unit {0}
  MayTouch table what late s x = MayStep table what late s x

  -- a call more was made
  abbrev pub SetsMore : CellCall → Me (Option S) View → Me (Option S) View → Type 0
  SetsMore x m n = (h : Hold) → m.0.turn ≡ Holding h → n ≡ (made_more m.0.know h m.0.eyes x, m.1)

  -- a stamp was looked at
  abbrev pub Finds : Image → Me (Option S) View → ℕ → Me (Option S) View → Type 0
  Finds i m v n = (h : Hold) → m.0.turn ≡ Holding h → (v ≡ stamp_after h.made i (stamp_of (state_at m.0.know h.look) i)) × (n ≡ (made_more m.0.know h m.0.eyes (peek i v), m.1))

  -- What a claim that was answered so makes of a seat, and of whether its entry is decided.
  pub record ClaimTells (e : Entry) (late : Bool) (h : Hold) (m : Me (Option S) View) (q b : Bool) (n : Me (Option S) View) (p : Bool) : Type 0 where
    pub hit : b ≡ true → (p ≡ true) × DecidesHolding m.0.know h e true m n
    pub late_miss : b ≡ false → late ≡ true → (p ≡ true) × DecidesHolding m.0.know h e false m n
    pub miss : b ≡ false → late ≡ false → (p ≡ q) × (n ≡ m)

  -- what a call makes of a seat and of whether its entry is decided
  abbrev pub MeDoes : Call → Bool → Me (Option S) View → Bool → CellCall → Me (Option S) View → Bool → Type 0
  MeDoes what late m q (claim i b) n p = (h : Hold) → m.0.turn ≡ Holding h → ClaimTells (wait_entry m.0.know what) late h m q b n p
  MeDoes what late m q (peek i v) n p = (p ≡ q) × Finds i m v n
  MeDoes what late m q (give_back i) n p = (p ≡ q) × (n ≡ m)
  MeDoes what late m q x n p = (p ≡ q) × SetsMore x m n

  abbrev pub SeatDoes : Call → Bool → Seat (Option S) View → Bool → CellCall → Seat (Option S) View → Bool → Type 0
  SeatDoes what late s q x n p = (n.table_id ≡ s.table_id) × MeDoes what late s.me q x n.me p
