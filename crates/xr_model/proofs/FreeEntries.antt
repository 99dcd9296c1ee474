-- Entries that are decided without the lock leave what a core keeps, and others come to the same behind them.
use Rattle.std.proofs.Common.{◌≡◌, ◌||◌, ◌⊎◌, inl, inr, ⊎_elim, ℕ, ℤ, Bool, true, false, List, [], ◌∷◌, ◌++◌, refl, sym, ap, subst, ◌∙◌, true≢false}
use Rattle.xr_types.specs.CallKinds.{is_getter, is_locked}
use Rattle.xr_types.specs.declared.frames.Image.{Image}
use Rattle.xr_model.specs.machine.CellCalls.{CellCall, claim_calls, pin_calls, free_calls, stamp_calls, peek_calls, return_calls}
use Rattle.xr_model.specs.machine.Chains.{oldest_image}
use Rattle.xr_model.specs.machine.Images.{Stamped, with_stamps}
use Rattle.xr_model.specs.machine.Calls.{Entry}
use Rattle.xr_types.specs.declared.calls.Call.{Call}
use Rattle.xr_types.specs.declared.calls.Call.TheVariants as ask
use Rattle.xr_model.specs.machine.State.{CoreState, Cells, CellReads, State}
use Rattle.xr_model.specs.machine.Rule.{Effect, Did, decided_call}
use Rattle.xr_model.specs.machine.Machine.{effect, rule, step, reads_of, cell_calls, as_unused}
use Rattle.xr_model.specs.machine.History.{clocks_after}
use Rattle.xr_model.specs.laws.DecidedEntries.{is_image_done}
use Rattle.xr_model.specs.laws.ImageLaws.{is_compositor_call}
use Rattle.xr_model.specs.laws.Moments.{Moment, moment_after, MayCome, exchange_at}
use Rattle.xr_model.specs.laws.ImageWordLaws.{Leaves, FreeEntriesLeave, Carried, EntriesAreCarried}
use Rattle.xr_model.proofs.GetterSteps.{getters_change_nothing}
use Rattle.xr_model.proofs.GivingBack.{giving_back_leaves_the_core}
use Rattle.xr_model.proofs.HeldFits.{did_kept}
use Rattle.xr_model.proofs.Rows.{both_of}
use Rattle.xr_model.specs.laws.ImageWords.{claimed_by, is_free, are_free, are_getters}
use Rattle.xr_model.proofs.CellsTold.{IsTold, AreTold, HoldTold, Told, agrees, same_by, allowed_by}
use Rattle.xr_model.proofs.ImageWaits.{wait_claims}

-- ---- calls that cells tell nothing

-- one that claims nothing isn't told of a count
pub untold : (s : CoreState) (r : CellReads) (e : Entry) (u v : Bool) → claimed_by s r e ≡ [] → IsTold s e.call u v
untold s r e u v = by e.call
  where
    by : (what : Call) → claimed_by s r (record e { call = what }) ≡ [] → IsTold s what u v
    by (ask.WaitImage chain timeout start) none = λ may. absurd (some_is_none (oldest_image s.chains chain) (sym (wait_claims s r.stamps r.held e chain timeout start may) ∙ none))
      where
        some_is_none : (i : Image) → i ∷ [] ≡ [] → ⊥
        some_is_none i e = cc
    by _ none = tt

held_aside : (what : Call) (hs gs : List Image) → is_compositor_call what ≡ false → HoldTold what hs gs
held_aside ask.NextFrame hs gs aside = absurd (true≢false aside)
held_aside ask.ImageDone hs gs aside = absurd (true≢false aside)
held_aside _ hs gs aside = tt

stamps_aside : (what : Call) (hs : List Image) (ns ms : List ℕ) → is_compositor_call what ≡ false → AreTold hs what ns ms
stamps_aside ask.NextFrame hs ns ms aside = absurd (true≢false aside)
stamps_aside _ hs ns ms aside = tt

-- all readings tell the same to a call that is none of the compositor's and claims nothing
pub all_tell : (s : CoreState) (r q : CellReads) (e : Entry) → is_compositor_call e.call ≡ false → claimed_by s r e ≡ [] → Told s r q e.call
all_tell s r q e aside none = record {
  unused = untold s r e r.unused q.unused none;
  stamps = stamps_aside e.call q.held r.stamps q.stamps aside;
  held = held_aside e.call r.held q.held aside;
}

-- a call that claims nothing is told the same where its image is unused
pub told_as_unused : (s : CoreState) (r : CellReads) (e : Entry) → claimed_by s r e ≡ [] → Told s r (as_unused r) e.call
told_as_unused s r e none = record { unused = untold s r e r.unused true none; stamps = stamps_self e.call; held = held_self e.call }
  where
    stamps_self : (what : Call) → AreTold r.held what r.stamps r.stamps
    stamps_self ask.NextFrame = λ none. refl
    stamps_self _ = tt

    held_self : (what : Call) → HoldTold what r.held r.held
    held_self ask.NextFrame = refl
    held_self ask.ImageDone = refl
    held_self _ = tt

none_taken : (s : CoreState) (r : CellReads) (e : Entry) → is_compositor_call e.call ≡ false → (effect s r e).did.taken ≡ []
none_taken s r e = by e.call
  where
    by : (what : Call) → is_compositor_call what ≡ false → (effect s r (record e { call = what })).did.taken ≡ []
    by ask.NextFrame aside = absurd (true≢false aside)
    by what aside = did_kept (λ d. d.taken ≡ []) s e.short (rule s r (record e { call = what })) refl refl

abbrev pub calls_of : List Image → CellReads → Did → List CellCall
calls_of images x did = claim_calls x.unused images ++ (pin_calls did.used ++ (free_calls did.freed ++ (stamp_calls did.stamped ++ (peek_calls did.taken x.stamps ++ return_calls did.returned))))

calls_by : (is js : List Image) (x y : CellReads) (a b : Did) → is ≡ [] → js ≡ [] → a.taken ≡ [] → b.taken ≡ [] → a ≡ b → calls_of is x a ≡ calls_of js y b
calls_by is js x y a b none none2 taken taken2 same = rw (none, none2, taken, taken2) (ap (λ (d : Did). pin_calls d.used ++ (free_calls d.freed ++ (stamp_calls d.stamped ++ ([] ++ return_calls d.returned)))) same)

module _ (s : CoreState) (r q : CellReads) (e : Entry) (aside : is_compositor_call e.call ≡ false) (none : claimed_by s r e ≡ []) where
  pub none_claimed_by : claimed_by s q e ≡ []
  none_claimed_by = ap (λ (x : Effect). x.did.claimed) (sym (same_by s (as_unused r) (as_unused q) e (record { unused = same e.call; stamps = stamps_aside e.call q.held r.stamps q.stamps aside; held = held_aside e.call r.held q.held aside }))) ∙ none
    where
      same : (what : Call) → IsTold s what true true
      same (ask.WaitImage chain timeout start) = λ may. refl
      same _ = tt

  -- its calls on cells are the same
  pub calls_same : cell_calls s r e ≡ cell_calls s q e
  calls_same =
      let effects = same_by s r q e (all_tell s r q e aside none) in
      let taken = none_taken s r e aside in
      let taken2 = none_taken s q e aside in
      let here = none_claimed_by in
      calls_by (claimed_by s r e) (claimed_by s q e) r q (effect s r e).did (effect s q e).did none here taken taken2 (ap (λ (x : Effect). x.did) effects)

-- ---- entries that are decided without the lock

asks_done : (r : Call) → is_image_done r ≡ true → r ≡ ask.ImageDone
asks_done ask.ImageDone is = refl
asks_done r is = absurd (true≢false (sym is))

-- what is decided without the lock gives an image back, or reads
pub free_is : (e : Entry) → is_free e ≡ true → (e.call ≡ ask.ImageDone) ⊎ (is_getter e.call ≡ true)
free_is e is = by (is_image_done e.call) refl
  where
    by : (b : Bool) → is_image_done e.call ≡ b → (e.call ≡ ask.ImageDone) ⊎ (is_getter e.call ≡ true)
    by true done = inl (asks_done e.call done)
    by false other = inr (ap (λ (b : Bool). b || is_getter e.call) (sym other) ∙ is)

clock_left : (clocks : List ℤ) (e : Entry) (s : State) → e.call ≡ ask.ImageDone → clocks_after clocks e s ≡ clocks
clock_left clocks e s is = rw is refl

pub stamps_left : (s : State) (e : Entry) → e.call ≡ ask.ImageDone → (step s e).0.cells.stamps ≡ s.cells.stamps
stamps_left s e is = ap (λ (l : List Stamped). with_stamps l s.cells.stamps) (subst (λ (what : Call). (effect s.core (reads_of s what) (record e { call = what })).did.stamped ≡ []) (sym is)
    (did_kept (λ d. d.stamped ≡ []) s.core e.short (rule s.core (reads_of s ask.ImageDone) (record e { call = ask.ImageDone })) refl refl))

uncounted : (r : Call) → is_getter r ≡ true → is_locked r ≡ false
uncounted (ask.GetBoolean session action sub) is = refl
uncounted (ask.GetFloat session action sub) is = refl
uncounted (ask.GetVector session action sub) is = refl
uncounted (ask.GetPoseActive session action sub) is = refl
uncounted r is = absurd (true≢false (sym is))

clock_read : (clocks : List ℤ) (e : Entry) (s : State) → is_getter e.call ≡ true → clocks_after clocks e s ≡ clocks
clock_read clocks e s is = rw (uncounted e.call is) refl

-- getters leave the whole moment
pub getters_leave : (s : State) (clocks : List ℤ) (es : List Entry) → are_getters es ≡ true → moment_after (record { state = s; clocks = clocks }) es ≡ record { state = s; clocks = clocks }
getters_leave s clocks [] all = refl
getters_leave s clocks (e ∷ es) all =
    let two = both_of (is_getter e.call) (are_getters es) all in
    let t : State = (step s e).0 in
    getters_leave t (clocks_after clocks e t) es two.1 ∙ (λ i. record { state = getters_change_nothing s e two.0 i; clocks = clock_read clocks e t two.0 i })

free_step : (s : State) (clocks : List ℤ) (e : Entry) → is_free e ≡ true → Leaves (record { state = s; clocks = clocks }) (record { state = (step s e).0; clocks = clocks_after clocks e (step s e).0 })
free_step s clocks e free = ⊎_elim
    (λ (is : e.call ≡ ask.ImageDone). record { core = giving_back_leaves_the_core s e is; clocks = clock_left clocks e (step s e).0 is; stamps = stamps_left s e is })
    (λ (is : is_getter e.call ≡ true).
    let same = getters_change_nothing s e is in
    record { core = ap (λ (t : State). t.core) same; clocks = clock_read clocks e (step s e).0 is; stamps = ap (λ (t : State). t.cells.stamps) same })
    (free_is e free)

pub free_leaves : (s : State) (clocks : List ℤ) (es : List Entry) → are_free es ≡ true → Leaves (record { state = s; clocks = clocks }) (moment_after (record { state = s; clocks = clocks }) es)
free_leaves s clocks [] free = record { core = refl; clocks = refl; stamps = refl }
free_leaves s clocks (e ∷ es) free =
    let two = both_of (is_free e) (are_free es) free in
    let one = free_step s clocks e two.0 in
    let more = free_leaves (step s e).0 (clocks_after clocks e (step s e).0) es two.1 in
    record { core = more.core ∙ one.core; clocks = more.clocks ∙ one.clocks; stamps = more.stamps ∙ one.stamps }

-- ---- entries behind them

abbrev at_cells : CoreState → Cells → List ℤ → Moment
at_cells c d k = record { state = record { core = c; cells = d }; clocks = k }

over_cells : (c : CoreState) (d f : Cells) (k : List ℤ) (e : Entry) → is_compositor_call e.call ≡ false → claimed_by c (reads_of (record { core = c; cells = d }) e.call) e ≡ [] → MayCome (at_cells c d k) e → Carried (at_cells c d k) (at_cells c f k) e
unfolding exchange_at
over_cells c d f k e aside none may =
    let r : CellReads = reads_of (record { core = c; cells = d }) e.call in
    let q : CellReads = reads_of (record { core = c; cells = f }) e.call in
    let told : Told c r q e.call = all_tell c r q e aside none in
    let effects = same_by c r q e told in
    record {
      comes = record { allowed = allowed_by c r q e told may.allowed; starts = may.starts; is_ready = sym (agrees c r q e told).readies ∙ may.is_ready };
      same = ap (λ (x : Effect). record { call = e.call; outcome = (decided_call c e.call x).1 }) (sym effects);
      core = ap (λ (x : Effect). (decided_call c e.call x).0) (sym effects);
      calls = sym (calls_same c r q e aside none);
      unclaimed = none_claimed_by c r q e aside none;
    }

pub carried : (m n : Moment) (e : Entry) → Leaves m n → is_compositor_call e.call ≡ false → claimed_by m.state.core (reads_of m.state e.call) e ≡ [] → MayCome m e → Carried m n e
carried m n e left aside none may =
    subst (λ (x : CoreState × List ℤ). Carried m (at_cells x.0 n.state.cells x.1) e) (λ i. (sym left.core i, sym left.clocks i)) (over_cells m.state.core m.state.cells n.state.cells m.clocks e aside none may)

-- ---- the laws

pub free_entries_leave : FreeEntriesLeave
free_entries_leave m es free = free_leaves m.state m.clocks es free

pub entries_are_carried : EntriesAreCarried
entries_are_carried = carried
