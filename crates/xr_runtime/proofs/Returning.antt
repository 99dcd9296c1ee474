-- An image given back without the lock, as a call of the compositor.
use Rattle.std.proofs.Common.{◌≡◌, ◌<◌, List, [], ◌∷◌, length, sym, refl, ap, ◌∙◌, subst, arith, None, false}
use Rattle.std.specs.List.{remove}
use Rattle.std.specs.Prelude.{slice_index_or}
use Rattle.atomic_table.specs.Seated.{TableId}
use Rattle.xr_types.specs.declared.calls.Gives.TheVariants.{Nothing}
use Rattle.xr_types.specs.declared.calls.Reply.{Reply}
use Rattle.xr_types.specs.declared.code.Code.TheVariants.{Success}
use Rattle.xr_types.specs.declared.frames.Image.{Image}
use Rattle.xr_model.specs.machine.CoreCalls.{Lent, left_in}
use Rattle.xr_model.specs.machine.Machine.{step}
use Rattle.xr_model.specs.machine.Calls.{Entry, Outcome}
use Rattle.xr_types.specs.declared.calls.Call.TheVariants as ask
use Rattle.xr_model.specs.machine.State.{State, with_apps}
use Rattle.xr_model.specs.laws.ImageLaws.{IsPlaced}
use Rattle.xr_model.proofs.SoundImages.{sound_history}
use Rattle.xr_model.specs.laws.Moments.{opening_moment, actor_at}
use Rattle.xr_model.proofs.Histories.{after_is_in_turn}
use Rattle.xr_rule.specs.Plays.{Decides, done_entry}
use Rattle.xr_rule.specs.Rule.{state_at, MayReturn}
use Rattle.xr_rule.specs.View.{Know, View}
use Rattle.xr_rule.proofs.Carrying.{held_seen}
use Rattle.xr_model.proofs.HeldReturns.{held_placed, done_leaves}
use Rattle.xr_runtime.specs.Calling.{Has, entry_by, seen_by, Called}
use Rattle.xr_runtime.specs.Passes.{IsCompositor}
use Rattle.xr_runtime.specs.declared.passes.CompositorPass.{CompositorPass}

abbrev pub done_reply : Reply
done_reply = record { code = Success; gives = Nothing; place = 0 }

done_answers : (s : State) (i : Image) (rest : List Image) → s.cells.held ≡ i ∷ rest → (step s done_entry).1 ≡ record { reply = done_reply; text = []; shown = None }
done_answers s i rest held = rw held refl

module _ (m w : Has) (i : Image) (look : List Entry) (may : MayReturn m.0.know i) (decides : Decides m.0.know look done_entry w.0) (carries : w.1 ≡ []) (lent : Lent) where
  abbrev k : Know
  k = m.0.know

  held : (state_at k look).cells.held ≡ i ∷ may.rest
  held = held_seen k look decides.saw may.is_own ∙ may.held

  own : done_entry ≡ entry_by k ask.ImageDone done_reply
  own = λ t. record { actor = ap actor_at (sym may.is_own) t; call = ask.ImageDone; given = 0; short = false }

  -- by whichever entry it is
  record At (e : Entry) : Type 0 where
    at_decides : Decides k look e w.0
    at_replies : (step (state_at k look) e).1 ≡ record { reply = done_reply; text = []; shown = None }

  at_own : At (entry_by k ask.ImageDone done_reply)
  at_own = subst At own record { at_decides = decides; at_replies = done_answers (state_at k look) i may.rest held }

  pub done_called : Called m ask.ImageDone done_reply lent lent w
  done_called = record {
    look = look;
    decides = at_own.at_decides;
    carries = carries;
    replies = ap (λ (o : Outcome). o.reply) at_own.at_replies;
    writes = ap (λ (o : Outcome). left_in o.text o.shown lent) (sym at_own.at_replies);
  }

-- and what is held afterwards is what else was held
pub held_then : (m w : Has) (i : Image) (look : List Entry) (may : MayReturn m.0.know i) → Decides m.0.know look done_entry w.0 → (seen_by w.0.know).state.cells.held ≡ may.rest
held_then m w i look may decides =
    let k : Know = m.0.know in
    ap (λ (v : View). (seen_by v.know).state.cells.held) decides.is
    ∙ (ap (λ (s : State). s.cells.held) (after_is_in_turn (opening_moment k.apps).state look (done_entry ∷ [])) ∙ done_leaves (state_at k look) i may.rest (held_seen k look decides.saw may.is_own ∙ may.held))

-- ---- the compositor's pass

first_of : (held : List Image) (image : Image) (rest : List Image) → 0 < length held → image ≡ slice_index_or held 0 image → rest ≡ remove held 0 → held ≡ image ∷ rest
first_of [] image rest some first others = absurd (omega (arith, some))
first_of (x ∷ xs) image rest some first others = λ i. sym first i ∷ sym others i

module _ (table : TableId) (p : CompositorPass) (image : Image) (rest : List Image) (is : IsCompositor table p) (unended : p.ended ≡ false) (some : 0 < length p.held.items) (first : image ≡ slice_index_or p.held.items 0 image) (others : rest ≡ remove p.held.items 0) where
  held_is : (seen_by p.seat.me.0.know).state.cells.held ≡ image ∷ rest
  held_is = sym is.held_is ∙ first_of p.held.items image rest some first others

  -- it may give back the first image that it knows as held, which is one of the places
  pub may_return : MayReturn p.seat.me.0.know image
  may_return = record { rest = rest; is_own = is.is_own; held = held_is; unended = is.unended unended }

  pub is_placed : IsPlaced image
  is_placed = held_placed (seen_by p.seat.me.0.know).state image rest (sound_history (with_apps p.seat.me.0.know.apps) p.seat.me.0.know.seen is.legal) held_is

  -- and then knows the rest as held
  pub rest_is_held : (w : Has) (look : List Entry) → Decides p.seat.me.0.know look done_entry w.0 → rest ≡ (seen_by w.0.know).state.cells.held
  rest_is_held w look decides = sym (held_then p.seat.me w image look record { rest = rest; is_own = is.is_own; held = held_is; unended = is.unended unended } decides)
