-- What the holder's seat is like, and what each call of the lock asks of it and tells of it.
use Rattle.std.specs.Prelude.{◌≡◌, ℕ, List, [], ◌∷◌, ◌++◌, Option, Some, None, MatchOption}
use Rattle.atomic_table.specs.Table.{Me}
use Rattle.xr_types.specs.declared.calls.Call.{Call}
use Rattle.xr_types.specs.declared.calls.Reply.{Reply}
use Rattle.xr_model.specs.machine.CoreCalls.{entry_of}
use Rattle.xr_model.specs.machine.Calls.{Entry}
use Rattle.xr_model.specs.machine.State.{CoreState}
use Rattle.xr_model.specs.laws.Moments.{opening_moment, moment_after, exchange_at, actor_at}
use Rattle.xr_rule.specs.View.{Know, Hold, View, Idle, Keeps, view, hold_from, number_in, history_with}
use Rattle.xr_rule.specs.Rule.{state_at, MayNote}
use Rattle.xr_rule.specs.Seats.{holder}
use Rattle.xr_rule.specs.Plays.{Sees, DecidesBehind, PublishesNone}

-- the entry of a call of the seat's actor that is answered so
abbrev pub noted_entry : Know → Call → Reply → Entry
noted_entry k call reply = entry_of (actor_at (number_in k.own)) call reply

module _ {S : Type 0} where
  -- The seat holds, has noted and made nothing, and has seen so much; the value has the counts of entries that the seat keeps, and stands
  -- for what a core keeps after that.
  pub record Taken (stands : List ℕ → S → CoreState → Type 0) (k : Know) (m : Me (Option S) View) (value : S) : Type 0 where
    pub ticket : ℕ
    pub look : List Entry
    pub counts : List ℕ
    pub is : m ≡ holder k (hold_from ticket look) (Keeps counts 0)
    pub sees : Sees k look
    pub stands_now : stands counts value (state_at k look).core

  -- A holder that has noted nothing may note this entry.
  pub record MayNoteAs (m : Me (Option S) View) (e : Entry) : Type 0 where
    pub hold : Hold
    pub is : m ≡ holder m.0.know hold m.0.eyes
    pub unnoted : hold.noted ≡ None
    pub may : MayNote m.0.know hold.look hold.made e

  -- And the entry is the call's, the reply is the entry's, and the value stands, with some counts, for the state after it.
  pub record NotesCall (stands : List ℕ → S → CoreState → Type 0) (m : Me (Option S) View) (value : S) (call : Call) (reply : Reply) : Type 0 where
    pub notes : MayNoteAs m (noted_entry m.0.know call reply)
    pub replies : (exchange_at (moment_after (opening_moment m.0.know.apps) notes.hold.look) (noted_entry m.0.know call reply)).outcome.reply ≡ reply
    pub counts : List ℕ
    pub stands_next : stands counts value (state_at m.0.know (notes.hold.look ++ noted_entry m.0.know call reply ∷ [])).core

  -- the holder has this entry as its undecided one, and all else as it was
  abbrev pub Noted : Me (Option S) View → Entry → Me (Option S) View → Type 0
  Noted m e n = (h : Hold) → m ≡ holder m.0.know h m.0.eyes → n ≡ holder m.0.know (record h { noted = Some e }) m.0.eyes

  -- The seat holds, and the value has the counts that it keeps, and stands for what a core keeps after the history of its look and the
  -- entry that it noted, if it did. What it noted publishes nothing; where it noted none, it made no call on cells since.
  pub record MayGive (stands : List ℕ → S → CoreState → Type 0) (m : Me (Option S) View) (value : S) : Type 0 where
    pub hold : Hold
    pub counts : List ℕ
    pub looked : ℕ
    pub is : m ≡ holder m.0.know hold (Keeps counts looked)
    pub publishes_none : PublishesNone m.0.know hold
    pub unmade : hold.noted ≡ None → hold.made ≡ []
    pub stands_so : stands counts value (state_at m.0.know (history_with hold.look hold.noted)).core

  -- no call is under way any more, and what was noted is decided
  abbrev pub Given : Me (Option S) View → Me (Option S) View → Type 0
  Given m n = (h : Hold) → m ≡ holder m.0.know h m.0.eyes → (n.1 ≡ []) × MatchOption h.noted (n.0 ≡ view m.0.know Idle) (λ e. DecidesBehind m.0.know h.look e n.0)
