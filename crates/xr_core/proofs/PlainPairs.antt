-- What a core answers beside plain cells is what the whole machine answers, and what holds of both stays so.
use Rattle.std.proofs.Common.{◌≡◌, ◌≤◌, ◌<◌, ◌+◌, ◌^◌, ◌*◌, ℕ, zero, suc, Bool, true, false, [], length, refl, sym, ap, subst, arith}
use Rattle.std.specs.Prelude.{slice_get, unwrap_or, replicate, if◌then◌else◌}
use Rattle.xr_types.specs.declared.calls.Actor.{Actor}
use Rattle.xr_types.specs.declared.calls.Call.{Call}
use Rattle.xr_types.specs.declared.calls.Step.{Step}
use Rattle.xr_types.specs.declared.calls.Step.TheVariants.{Done, NotReady}
use Rattle.xr_types.specs.declared.handles.TheConstants.{SWAPCHAINS}
use Rattle.xr_model.specs.machine.CoreCalls.{Lent, Applies, entry_of}
use Rattle.xr_model.specs.machine.Frames.{one_if}
use Rattle.xr_model.specs.machine.Machine.{effect}
use Rattle.xr_model.specs.machine.OverCells.{entry_by, AppliesOver}
use Rattle.xr_model.specs.machine.PlainImages.{PlainImages, PlainDoes, no_images}
use Rattle.xr_types.specs.CallKinds.{is_locked}
use Rattle.xr_model.specs.machine.State.{CoreState, State, WholeCore, Settings, opening_core}
use Rattle.xr_model.proofs.CellCounts.{still_counted, waiting_counts, pending_few}
use Rattle.xr_model.proofs.OverCells.{plainly, waits_where}
use Rattle.xr_model.proofs.SoundImages.{sound_step, sound_opening}
use Rattle.xr_core.specs.inside.Plainly.{IsPlain}
use Rattle.xr_model.specs.laws.Soundness.{StateIsSound}

abbrev whole : WholeCore → PlainImages → State
whole core cells = record { core = core.kept; cells = record { stamps = cells.stamps; held = core.held } }

module _ (old new : WholeCore) (c d : PlainImages) (who : Actor) (call : Call) (lent left : Lent) (few : old.kept.locked < 2 ^ 44) (plain : IsPlain old c) where
  abbrev Made : Step → Type 0
  Made answer = AppliesOver PlainDoes (record { core = old; cells = c; lent = lent }) (record { core = new; cells = d; lent = left }) who call answer

  pub pairs : (answer : Step) → Made answer → Applies (whole old c) (whole new d) who call lent left answer
  pairs answer x = plainly old.kept new.kept old.held new.held c d who call lent left answer plain.counted.counts x

  frames_few : length old.kept.frames.pending < 2 ^ 44
  frames_few = let less = plain.few in omega (arith, less, few)

  more_locked : (b : Bool) (n m k : ℕ) → m ≤ n → k ≤ m + one_if b → k ≤ (if b then n + 1 else n)
  more_locked true n m k less more = omega (arith, less, more)
  more_locked false n m k less more = omega (arith, less, more)

  pub stays_plain : (answer : Step) → Made answer → IsPlain new d
  stays_plain (Done answer) x =
      let e = entry_of who call answer in
      let a = pairs (Done answer) x in
      let done = still_counted old.kept x.reads old.held e c d x.own plain.sound frames_few plain.counted x.cells in
      let kept = x.applies.leads in
      let pending = ap (λ (s : CoreState). s.frames.pending) kept in
      let grows = pending_few old.kept x.reads e in
      record {
        sound = subst StateIsSound (sym a.leads) (sound_step (whole old c) e a.allowed a.is_ready plain.sound);
        few = rw kept (more_locked (is_locked call) old.kept.locked (length old.kept.frames.pending) (length (effect old.kept x.reads e).state.frames.pending) plain.few grows);
        counted = rw (pending, x.holds) done;
      }
  stays_plain NotReady x =
      let w = x.applies 0 false in
      let e = entry_by who call NotReady in
      let counts = waiting_counts old.kept x.reads e c d (waits_where old.kept x.reads e w.not_ready) x.cells in
      let sound = plain.sound in
      rw (w.same, x.holds) (record { sound = sound; few = plain.few; counted = record { all = rw counts plain.counted.all; counts = λ k. rw counts (plain.counted.counts k) } })

-- it holds before any call
pub opening_plain : (settings : Settings) → IsPlain (record { kept = opening_core settings; held = [] }) no_images
opening_plain settings = record {
  sound = sound_opening settings;
  few = omega arith;
  counted = record { all = refl; counts = none (3 * SWAPCHAINS) };
}
  where
    none : (n k : ℕ) → ◌≡◌ {A = ℕ} (unwrap_or (slice_get (replicate n 0) k) 0) 0
    none zero k = refl
    none (suc n) zero = refl
    none (suc n) (suc k) = none n k
