-- What becomes of a call that was made: it is decided by then, or noted; and where it publishes, that decides it.
use Rattle.std.specs.Prelude.{◌≡◌, ℕ, Bool, true, false, List}
use Rattle.xr_types.specs.CallKinds.{publishes}
use Rattle.xr_types.specs.declared.calls.Call.{Call}
use Rattle.xr_types.specs.declared.calls.Reply.{Reply}
use Rattle.xr_model.specs.machine.State.{CoreState, State, WholeCore}
use Rattle.xr_rule.specs.declared.held.Held.{Held}
use Rattle.xr_rule.specs.View.{Keeps}
use Rattle.xr_lock.specs.Holders.{noted_entry, NotesCall, Noted}
use Rattle.xr_snap.specs.Publishing.{HasPublished}
use Rattle.xr_runtime.specs.Calling.{Has}

-- a core stands for the states that keep what it keeps
abbrev pub keeps : WholeCore → State → Type 0
keeps c s = c.kept ≡ s.core

-- The seat keeps the counts that lie beside the value, and where the call isn't decided, it is one that the seat may note.
pub record MaySettle (stands : List ℕ → Held WholeCore → CoreState → Type 0) (m : Has) (held : Held WholeCore) (call : Call) (reply : Reply) (decided : Bool) : Type 0 where
  pub keeps : m.0.eyes ≡ Keeps held.counts 0
  pub notes : decided ≡ false → NotesCall stands m held call reply

-- By whether it was decided, and whether it publishes: the seat, with the counts beside the value.
abbrev pub SettlesBy : Bool → Bool → Has → List ℕ → Call → Reply → Has → List ℕ → Type 0
SettlesBy true publishing m counts call reply n kept = (n ≡ m) × (kept ≡ counts)
SettlesBy false false m counts call reply n kept = Noted m (noted_entry m.0.know call reply) n × (kept ≡ counts)
SettlesBy false true m counts call reply n kept = (l : Has) × Noted m (noted_entry m.0.know call reply) l × HasPublished l n kept

abbrev pub Settles : Bool → Has → List ℕ → Call → Reply → Has → List ℕ → Type 0
Settles decided m counts call reply n kept = SettlesBy decided (publishes call reply.code) m counts call reply n kept
