-- What a getter wants, and its reply.
use Rattle.std.specs.Prelude.{◌≡◌, ℕ, Some, Result, Ok, Err}
use Rattle.xr_types.specs.declared.calls.Call.{Call}
use Rattle.xr_types.specs.declared.calls.Gives.{Gives}
use Rattle.xr_types.specs.declared.calls.Gives.TheVariants.{Nothing}
use Rattle.xr_types.specs.declared.calls.Reply.{Reply}
use Rattle.xr_types.specs.declared.code.Code.{Code}
use Rattle.xr_model.specs.machine.Publication.{Publication}
use Rattle.xr_model.specs.machine.Reads.{read, reads}
use Rattle.xr_snap.specs.declared.answering.Wanted.{Wanted}

-- the call asks for this of every publication
abbrev pub IsAsked : Call → Wanted → Type 0
IsAsked what w = (p : Publication) → reads p what ≡ Some (read p w.kind w.session w.action w.sub)

-- the reply at a place
abbrev pub reply_at : ℕ → Result (Code × Gives) Code → Reply
reply_at place (Ok told) = record { code = told.0; gives = told.1; place = place }
reply_at place (Err code) = record { code = code; gives = Nothing; place = place }
