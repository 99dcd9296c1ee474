-- What is published behind a noted call is what getters answer from in the state that the value stands for.
use Rattle.std.proofs.Common.{◌≡◌, List, [], ◌∷◌, ◌++◌, ℕ, Some, sym, refl, ap, ◌∙◌}
use Rattle.xr_types.specs.declared.calls.Call.{Call}
use Rattle.xr_types.specs.declared.calls.Reply.{Reply}
use Rattle.xr_model.specs.machine.Calls.{Entry}
use Rattle.xr_model.specs.machine.Publication.{publication_of}
use Rattle.xr_model.specs.machine.PublicationWords.{words}
use Rattle.xr_model.specs.machine.State.{CoreState, WholeCore, opening_cells}
use Rattle.xr_rule.specs.declared.held.Held.{Held}
use Rattle.xr_rule.specs.Plays.{published_by}
use Rattle.xr_rule.specs.Seats.{holder, stands_in}
use Rattle.xr_rule.specs.View.{Know, Hold, Keeps}
use Rattle.xr_lock.specs.Holders.{noted_entry, NotesCall, Noted}
use Rattle.xr_snap.specs.Publishing.{MayPublish}
use Rattle.xr_runtime.specs.Calling.{Has}
use Rattle.xr_runtime.specs.Settling.{keeps}

pub may_publish : (m n : Has) (held : Held WholeCore) (call : Call) (reply : Reply) (room : List ℕ) → m.0.eyes ≡ Keeps held.counts 0 → NotesCall (stands_in keeps) m held call reply → Noted m (noted_entry m.0.know call reply) n
    → room ≡ words (publication_of held.value.value.kept) → MayPublish n held.counts room
may_publish m n held call reply room kept notes noted room_is =
    let e : Entry = noted_entry m.0.know call reply in
    let h : Hold = notes.notes.hold in
    let g : Hold = record h { noted = Some e } in
    let at : n ≡ holder m.0.know g (Keeps held.counts 0) = noted h notes.notes.is ∙ ap (holder m.0.know g) kept in
    let same : m.0.know ≡ n.0.know = sym (ap (λ (z : Has). z.0.know) at) in
    record {
      hold = g;
      entry = e;
      is = at ∙ ap (λ (k : Know). holder k g (Keeps held.counts 0)) same;
      noted = refl;
      words_are = room_is ∙ (ap (λ (s : CoreState). words (publication_of s)) (notes.stands_next.1 opening_cells) ∙ ap (λ (k : Know). words (published_by k (h.look ++ e ∷ []))) same);
    }
