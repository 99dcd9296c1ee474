-- A call is answered as out of order exactly where no earlier refusal of it holds and its rule finds the disorder; and
-- the rule finds it exactly where the counts do.
use Rattle.std.proofs.Common.{◌≡◌, ◌≢◌, ◌==◌, ◌+◌, ◌++◌, ℕ, Bool, true, false, not, List, [], ◌∷◌, None, refl, sym, ap, ◌∙◌, arith}
use Rattle.xr_types.specs.declared.handles.Kind.{Kind}
use Rattle.xr_types.specs.declared.handles.Kind.TheVariants as kind
use Rattle.xr_model.specs.machine.Calls.{Entry}
use Rattle.xr_types.specs.declared.calls.Call.{Call}
use Rattle.xr_types.specs.declared.calls.Call.TheVariants as ask
use Rattle.xr_model.specs.machine.Chains.{chain_at}
use Rattle.xr_model.specs.machine.Frames.{one_if}
use Rattle.xr_model.specs.machine.Handles.{no_handle, is_live}
use Rattle.xr_model.specs.machine.Refusals.{first_of}
use Rattle.xr_model.specs.machine.State.{CoreState, CellReads, opening}
use Rattle.xr_model.specs.machine.Rule.{Rule, ahead}
use Rattle.xr_model.specs.machine.SessionRule.{losses}
use Rattle.xr_model.specs.machine.Machine.{rule, reads_of}
use Rattle.xr_model.specs.machine.History.{after}
use Rattle.xr_model.specs.laws.DecidedEntries.{Decided, past_of, waits, begins, taken_images, given_back, is_disorder}
use Rattle.xr_model.specs.laws.OrderLaws.{CallOrder}
use Rattle.xr_model.proofs.Rows.{itself}
use Rattle.xr_model.proofs.OrderCodes.{coded}
use Rattle.xr_model.proofs.SessionAnswers.{sessionless}
use Rattle.xr_model.proofs.ChainOrder.{ChainsFit, chains_history, acquire_key, wait_key, paint_key}
use Rattle.xr_model.proofs.HeldFits.{HeldFits, held_history, some_held, none_held}
use Rattle.xr_model.proofs.FrameOrder.{FramesFit, fits_history, none_of, is_live_by, live_fits}
use Rattle.xr_model.specs.machine.Rules.Session.{loop_of}

-- ---- the counts

other_key : (a b : ℕ) → a ≢ b → (a == b) ≡ false
other_key a b e = grind (arith, e)

bit_key : (n m : ℕ) (b : Bool) → n ≡ m + one_if b → not b ≡ (n == m)
bit_key n m true e = sym (other_key n m (λ e'. absurd (omega (arith, e, e'))))
bit_key n m false e = let same : n ≡ m = omega (arith, e) in sym (ap (λ k. k == m) same ∙ itself m)

-- what stands ahead of the order refuses nothing, so the handle of the call is live
live_ahead : (s : CoreState) (kind : Kind) (handle : ℕ) (r : Rule) → r.handles ≡ no_handle s.handles kind handle ∷ [] → first_of (ahead r) ≡ None → is_live s.handles kind handle ≡ true
live_ahead s kind handle r is none = is_live_by (is_live s.handles kind handle) (rw is at (none_of r.handles (losses r.on ++ r.before) none).0)

-- where no earlier refusal holds, the rule's condition is that of the counts
same_order : (s : CoreState) (past : List Decided) (reads : CellReads) (e : Entry) → FramesFit s.handles s.sessions past → ChainsFit s.handles s.chains past → HeldFits reads.held past
    → first_of (ahead (rule s reads e)) ≡ None → (rule s reads e).disorder ≡ is_disorder past e.call
same_order s past reads e fits chains held none = by e.call none
  where
    by : (r : Call) → first_of (ahead (rule s reads (record e { call = r }))) ≡ None → (rule s reads (record e { call = r })).disorder ≡ is_disorder past r
    by (ask.BeginFrame session) none =
        let live = live_ahead s kind.Session session (rule s reads (record e { call = ask.BeginFrame session })) refl none in
        bit_key (waits session past) (begins session past) (loop_of s session).has_waited (live_fits s.handles s.sessions past fits session live).frames
    by (ask.EndFrame session time blend layers) none =
        let live = live_ahead s kind.Session session (rule s reads (record e { call = ask.EndFrame session time blend layers })) refl none in
        ap not (sym (live_fits s.handles s.sessions past fits session live).begun)
    by (ask.AcquireImage chain) none =
        let live = live_ahead s kind.Swapchain chain (rule s reads (record e { call = ask.AcquireImage chain })) refl none in
        acquire_key chain (chain_at s.chains chain) past (chains.fits chain live)
    by (ask.WaitImage chain timeout start) none =
        let live = live_ahead s kind.Swapchain chain (rule s reads (record e { call = ask.WaitImage chain timeout start })) refl none in
        wait_key chain (chain_at s.chains chain) past (chains.fits chain live)
    by (ask.Paint chain value) none =
        let live = live_ahead s kind.Swapchain chain (rule s reads (record e { call = ask.Paint chain value })) refl none in
        paint_key chain (chain_at s.chains chain) past (chains.fits chain live)
    by (ask.ReleaseImage chain) none =
        let live = live_ahead s kind.Swapchain chain (rule s reads (record e { call = ask.ReleaseImage chain })) refl none in
        paint_key chain (chain_at s.chains chain) past (chains.fits chain live)
    by ask.NextFrame none = some_held reads.held (given_back past) (taken_images past) held
    by ask.ImageDone none = none_held reads.held (given_back past) (taken_images past) held
    by _ none = refl

pub call_order : CallOrder
call_order settings es e legal =
    let s = after (opening settings) es in
    let code = coded s.core e.short (rule s.core (reads_of s e.call) e) (sessionless s.core (reads_of s e.call) e) in
    let same = same_order s.core (past_of settings es) (reads_of s e.call) e (fits_history settings es legal) (chains_history settings es legal) (held_history settings es) in
    ((λ is. let two = code.0 is in (two.0, sym (same two.0) ∙ two.1)), (λ two. code.1 (two.0, same two.0 ∙ two.1)))
