-- Calls out of order, by counting.
use Rattle.std.specs.Prelude.{◌≡◌, ◌≤◌, ◌+◌, ◌↔◌, ℕ, true, List, None}
use Rattle.xr_types.specs.declared.code.Code.TheVariants.{CallOrderInvalid}
use Rattle.xr_types.specs.declared.handles.Kind.TheVariants as kind
use Rattle.xr_model.specs.machine.Calls.{Entry}
use Rattle.xr_model.specs.machine.Handles.{is_live}
use Rattle.xr_model.specs.machine.Refusals.{first_of}
use Rattle.xr_model.specs.machine.State.{Settings, opening}
use Rattle.xr_model.specs.machine.Rule.{ahead}
use Rattle.xr_model.specs.machine.Machine.{reads_of, rule, step}
use Rattle.xr_model.specs.machine.History.{after, IsLegal}
use Rattle.xr_model.specs.laws.DecidedEntries.{past_of, waits, begins, is_disorder}

-- After a legal history a call is answered as out of order exactly where no earlier refusal of it holds and the counts
-- over the history say so.
abbrev pub CallOrder : Type 0
CallOrder =
    (settings : Settings) (es : List Entry) (e : Entry) → IsLegal settings es
    → ((step (after (opening settings) es) e).1.reply.code ≡ CallOrderInvalid)
    ↔ ((first_of (ahead (rule (after (opening settings) es).core (reads_of (after (opening settings) es) e.call) e)) ≡ None) × (is_disorder (past_of settings es) e.call ≡ true))

-- in a running period the begins are at most the waits, and these at most one more
abbrev pub WaitsAndBegins : Type 0
WaitsAndBegins =
    (settings : Settings) (es : List Entry) (session : ℕ) → IsLegal settings es → is_live (after (opening settings) es).core.handles kind.Session session ≡ true
    → (begins session (past_of settings es) ≤ waits session (past_of settings es)) × (waits session (past_of settings es) ≤ begins session (past_of settings es) + 1)
