-- What a core's clause over cells comes to, where the cells are a table's words.
use Rattle.std.proofs.Common.{◌≡◌, ◌&&◌, ℕ, Bool, true, false, not, List, [], ◌∷◌, ◌++◌, length, Option, sym, refl, ap, ◌∙◌, subst, true≢false}
use Rattle.std.specs.List.{list_all}
use Rattle.xr_model.specs.machine.Frames.{is_empty}
use Rattle.atomic_table.specs.Table.{Me}
use Rattle.xr_types.specs.declared.calls.Call.{Call}
use Rattle.xr_types.specs.declared.calls.Reply.{Reply}
use Rattle.xr_types.specs.declared.frames.Image.{Image}
use Rattle.xr_types.specs.Frames.{PendingFrame}
use Rattle.xr_model.specs.machine.CellCalls.{CellCall, pin_calls, free_calls, stamp_calls, peek_calls, return_calls}
use Rattle.xr_model.specs.machine.CoreCalls.{Lent, AnswersBy, left_in}
use Rattle.xr_model.specs.machine.Images.{first_images, stamps_at}
use Rattle.xr_model.specs.machine.Machine.{effect, as_unused, rule, core_step, core_ready, reads_of, cell_calls, held_after, CoreAllows}
use Rattle.xr_model.specs.machine.Calls.{Entry}
use Rattle.xr_types.specs.declared.calls.Call.TheVariants as ask
use Rattle.xr_model.specs.machine.Rule.{Rule, Did, Effect, nothing_done, decided_call}
use Rattle.xr_model.specs.machine.State.{CoreState, CellReads, State, WholeCore}
use Rattle.xr_model.specs.laws.DecidedEntries.{is_image_done}
use Rattle.xr_model.specs.laws.ImageLaws.{is_compositor_call, is_next_frame}
use Rattle.xr_model.specs.laws.Moments.{opening_moment}
use Rattle.xr_model.proofs.HeldFits.{did_kept}
use Rattle.xr_model.proofs.OverCells.{waits_where}
use Rattle.xr_model.specs.laws.ImageWords.{claimed_by, stamp_after, Claims, are_free, late_of}
use Rattle.xr_model.proofs.FittingCalls.{claims_alone}
use Rattle.xr_model.proofs.CellsTold.{Told, agrees, same_by, allowed_by}
use Rattle.xr_model.proofs.FreeEntries.{all_tell, calls_same, none_claimed_by, calls_of}
use Rattle.xr_model.proofs.ImageWaits.{gets, expires, held_back}
use Rattle.xr_rule.specs.View.{Know, Hold, View, Eyes, Holding, sight}
use Rattle.xr_rule.specs.Rule.{state_at}
use Rattle.xr_rule.specs.Plays.{DecidesHolding}
use Rattle.xr_rule.proofs.Carrying.{leaves_at}
use Rattle.xr_words.specs.Table.{wait_entry, ClaimTells}
use Rattle.xr_words.specs.Lent.{own_entry, AnswersAt, Prepares, Decided}
use Rattle.xr_words.proofs.Leading.{MeLeads, made, leads_made, leads_found}
use Rattle.xr_words.proofs.Lending.{calls_set}

-- ---- by what the state tells

-- What is answered by one reading of a core's state is what the machine answers in a state that keeps the same and tells the same.
answers_at : (s : State) (core new : CoreState) (r : CellReads) (e : Entry) (reply : Reply) (before after : Lent) → s.core ≡ core → Told s.core r (reads_of s e.call) e.call
    → AnswersBy (CoreAllows core r e) (core_ready core r e) (core_step core r e) new reply before after → AnswersAt s e new reply before after
answers_at s core new r e reply before after same told a =
    by (subst (λ (c : CoreState). AnswersBy (CoreAllows c r e) (core_ready c r e) (core_step c r e) new reply before after) (sym same) a)
  where
    by : AnswersBy (CoreAllows s.core r e) (core_ready s.core r e) (core_step s.core r e) new reply before after → AnswersAt s e new reply before after
    by a =
        let q : CellReads = reads_of s e.call in
        let effects = same_by s.core r q e told in
        record {
          allowed = allowed_by s.core r q e told a.allowed;
          is_ready = sym (agrees s.core r q e told).readies ∙ a.is_ready;
          leads = subst (λ (y : Effect). new ≡ (decided_call s.core e.call y).0) effects a.leads;
          replies = subst (λ (y : Effect). reply ≡ (decided_call s.core e.call y).1.reply) effects a.replies;
          writes = subst (λ (y : Effect). after ≡ left_in (decided_call s.core e.call y).1.text (decided_call s.core e.call y).1.shown before) effects a.writes;
        }

-- ---- frames

asks_frame : (r : Call) → is_compositor_call r ≡ true → is_image_done r ≡ false → r ≡ ask.NextFrame
asks_frame ask.NextFrame is other = refl
asks_frame ask.ImageDone is other = absurd (true≢false other)
asks_frame r is other = absurd (true≢false (sym is))

-- a frame claims nothing
frame_claims : (s : CoreState) (r : CellReads) (e : Entry) → e.call ≡ ask.NextFrame → claimed_by s r e ≡ []
frame_claims s r e asks = subst (λ (what : Call). claimed_by s r (record e { call = what }) ≡ []) (sym asks) (did_kept (λ d. d.claimed ≡ []) s e.short (rule s (as_unused r) (record e { call = ask.NextFrame })) refl refl)

calls_told : (is js : List Image) (x y : CellReads) (a b : Did) → is ≡ [] → js ≡ [] → x.stamps ≡ y.stamps → a ≡ b → calls_of is x a ≡ calls_of js y b
calls_told is js x y a b none none2 stamps same = rw (none, none2, stamps) (ap (λ (d : Did). pin_calls d.used ++ (free_calls d.freed ++ (stamp_calls d.stamped ++ (peek_calls d.taken y.stamps ++ return_calls d.returned)))) same)

-- ---- calls that have to wait

record IsStill (did : Did) : Type 0 where
  used : did.used ≡ []
  freed : did.freed ≡ []
  stamped : did.stamped ≡ []
  taken : did.taken ≡ []
  returned : did.returned ≡ []

still_none : IsStill nothing_done
still_none = record { used = refl; freed = refl; stamped = refl; taken = refl; returned = refl }

no_frame : (fs : List PendingFrame) (b : Bool) → is_empty fs && b ≡ true → first_images fs ≡ []
no_frame [] b awaited = refl
no_frame (f ∷ fs) b awaited = absurd (true≢false (sym awaited))

still_call : (s : CoreState) (r : CellReads) (e : Entry) → core_ready s r e ≡ false → IsStill (effect s r e).did
still_call s r e = by e.call
  where
    by : (what : Call) → core_ready s r (record e { call = what }) ≡ false → IsStill (effect s r (record e { call = what })).did
    by (ask.DestroyInstance instance) not_ready = absurd (true≢false not_ready)
    by (ask.DestroySession session) not_ready = absurd (true≢false not_ready)
    by (ask.DestroyActionSet set) not_ready = absurd (true≢false not_ready)
    by (ask.DestroyAction action) not_ready = absurd (true≢false not_ready)
    by (ask.CreateSwapchain session format width height fixed) not_ready = absurd (true≢false not_ready)
    by (ask.DestroySwapchain chain) not_ready = absurd (true≢false not_ready)
    by (ask.Paint chain value) not_ready = absurd (true≢false not_ready)
    by (ask.ReleaseImage chain) not_ready = absurd (true≢false not_ready)
    by (ask.EndFrame session time blend layers) not_ready = absurd (true≢false not_ready)
    by ask.ImageDone not_ready = absurd (true≢false not_ready)
    by ask.NextFrame not_ready =
        let f : Rule = rule s r (record e { call = ask.NextFrame }) in
        did_kept IsStill s e.short f still_none (record { used = refl; freed = refl; stamped = refl; taken = no_frame s.frames.pending (not (list_all (λ has_left. has_left) s.left)) (waits_where s r (record e { call = ask.NextFrame }) not_ready); returned = refl })
    by what not_ready = did_kept IsStill s e.short (rule s r (record e { call = what })) still_none (record { used = refl; freed = refl; stamped = refl; taken = refl; returned = refl })

waiting_calls : (s : CoreState) (r : CellReads) (e : Entry) → core_ready s r e ≡ false → claimed_by s r e ≡ [] → cell_calls s r e ≡ []
waiting_calls s r e not_ready none = let still = still_call s r e not_ready in rw (none, still.used, still.freed, still.stamped, still.taken, still.returned) refl

module _ {S : Type 0} (k : Know) (h : Hold) (y : Eyes) (l : List (ℕ × Option S)) (late : Bool) where
  abbrev s : State
  s = state_at k h.look

  abbrev start : Me (Option S) View
  start = (sight k (Holding h) y, l)

  -- what a frame's looks found are the stamps that the state has
  frame_found : (r : CellReads) (e : Entry) (q : Bool) (n : Me (Option S) View) (p : Bool) → h.made ≡ [] → e.call ≡ ask.NextFrame → r.held ≡ [] → length r.stamps ≡ length (effect s.core r e).did.taken
      → MeLeads e.call late start q (cell_calls s.core r e) n p → r.stamps ≡ stamps_at s.cells.stamps (first_images s.core.frames.pending)
  frame_found r e q n p unmade asks none_held = subst (λ (what : Call). length r.stamps ≡ length (effect s.core r (record e { call = what })).did.taken → MeLeads what late start q (cell_calls s.core r (record e { call = what })) n p
      → r.stamps ≡ stamps_at s.cells.stamps (first_images s.core.frames.pending)) (sym asks) by
    where
      by : length r.stamps ≡ length (effect s.core r (record e { call = ask.NextFrame })).did.taken → MeLeads ask.NextFrame late start q (cell_calls s.core r (record e { call = ask.NextFrame })) n p → r.stamps ≡ stamps_at s.cells.stamps (first_images s.core.frames.pending)
      by each leads = leads_found ask.NextFrame late k h y l (first_images s.core.frames.pending) r.stamps q n p (λ i w. ap (λ (m : List CellCall). stamp_after m i w) unmade) (rw none_held at each) (rw none_held at leads)

  -- ---- an entry that is noted later

  module _ (r : CellReads) (e : Entry) (n : Me (Option S) View) (p : Bool) (unmade : h.made ≡ []) (other : is_image_done e.call ≡ false) (frames : is_next_frame e.call ≡ true → (r.held ≡ []) × (s.cells.held ≡ []))
      (each : length r.stamps ≡ length (effect s.core r e).did.taken) (leads : MeLeads e.call late start false (cell_calls s.core r e) n p) (none : claimed_by s.core r e ≡ []) where
    abbrev q : CellReads
    q = reads_of s e.call

    -- the cells told it what the state says, and so its calls on them are the entry's
    record Same : Type 0 where
      told : Told s.core r q e.call
      claims_none : claimed_by s.core q e ≡ []
      calls : cell_calls s.core r e ≡ cell_calls s.core q e

    same : (b : Bool) → is_compositor_call e.call ≡ b → Same
    same false aside = record { told = all_tell s.core r q e aside none; claims_none = none_claimed_by s.core r q e aside none; calls = calls_same s.core r q e aside none }
    same true its =
        let asks : e.call ≡ ask.NextFrame = asks_frame e.call its other in
        let held = frames (subst (λ (what : Call). is_next_frame what ≡ true) (sym asks) refl) in
        let found : r.stamps ≡ q.stamps = frame_found r e false n p unmade asks held.0 each leads in
        let told : Told s.core r q e.call = subst (Told s.core r q) (sym asks) (record { unused = tt; stamps = λ z. found; held = held.0 ∙ sym held.1 }) in
        let none2 = frame_claims s.core q e asks in
        record { told = told; claims_none = none2; calls = calls_told (claimed_by s.core r e) (claimed_by s.core q e) r q (effect s.core r e).did (effect s.core q e).did none none2 found (ap (λ (x : Effect). x.did) (same_by s.core r q e told)) }

  pub prepares : (r : CellReads) (reply : Reply) (what : Call) (n : Me (Option S) View) (p : Bool) (new : WholeCore) (before after : Lent) → h.made ≡ [] → is_image_done what ≡ false → (is_next_frame what ≡ true → (r.held ≡ []) × (s.cells.held ≡ []))
      → length r.stamps ≡ length (effect s.core r (own_entry k what reply)).did.taken → MeLeads what late start false (cell_calls s.core r (own_entry k what reply)) n p → claimed_by s.core r (own_entry k what reply) ≡ []
      → AnswersBy (CoreAllows s.core r (own_entry k what reply)) (core_ready s.core r (own_entry k what reply)) (core_step s.core r (own_entry k what reply)) new.kept reply before after
      → new.held ≡ held_after r.held (effect s.core r (own_entry k what reply)).did → (p ≡ false) × Prepares k h y l what new before after reply n
  prepares r reply what n p new before after unmade other frames each leads none a hold =
      let e : Entry = own_entry k what reply in
      let x = same r e n p unmade other frames each leads none (is_compositor_call what) refl in
      let led = leads_made what late k h y l (cell_calls s.core r e) false n p (calls_set s.core r e other none) leads in (
        led.1,
        record {
          made = cell_calls s.core r e;
          is = led.0 ∙ ap (λ (m : List CellCall). let o : Me (Option S) View = (sight k (Holding (record h { made = m ++ cell_calls s.core r e })) y, l) in o) unmade;
          made_is = x.calls;
          claims_none = x.claims_none;
          answers = answers_at s s.core new.kept r e reply before after refl x.told a;
          holds = λ asks. let held = frames asks in hold ∙ (ap (λ (y : Effect). held_after r.held y.did) (same_by s.core r (reads_of s what) e x.told) ∙ ap (λ (hs : List Image). held_after hs (effect s.core (reads_of s what) e).did) (held.0 ∙ sym held.1));
        },
      )

  -- ---- an entry that a claim decides

  -- a wait gives no handle and takes no memory
  wait_is : (r : CellReads) (reply : Reply) (what : Call) (i : Image) → Claims s.core (own_entry k what reply) i → CoreAllows s.core r (own_entry k what reply) → own_entry k what reply ≡ wait_entry k what
  wait_is r reply what i c a =
      let e : Entry = own_entry k what reply in
      let x : CoreAllows s.core r (record e { call = ask.WaitImage c.chain c.timeout c.start }) = subst (λ (w : Call). CoreAllows s.core r (record e { call = w })) c.is a in
      λ t. record { actor = e.actor; call = what; given = x.handle t; short = unshort e.short (λ bad. (x.memory bad).0) t }
    where
      unshort : (b : Bool) → (b ≡ true → false ≡ true) → b ≡ false
      unshort true bad = sym (bad refl)
      unshort false bad = refl

  core_behind : (more : List Entry) → are_free more ≡ true → (state_at k (h.look ++ more)).core ≡ s.core
  core_behind more free = (leaves_at (opening_moment k.apps) h.look more free).core

  told_behind : (r : CellReads) (what : Call) (t : State) (i : Image) (e : Entry) → e.call ≡ what → Claims s.core e i → t.core ≡ s.core → (reads_of t what).unused ≡ r.unused → Told s.core r (reads_of t what) what
  told_behind r what t i e asks c same found = subst (λ (w : Call). (reads_of t w).unused ≡ r.unused → Told s.core r (reads_of t w) w) (sym c.is ∙ asks) (λ u. record { unused = λ may. sym u; stamps = tt; held = tt }) found

  decides_at : (r : CellReads) (reply : Reply) (what : Call) (i : Image) (n : Me (Option S) View) (new : WholeCore) (before after : Lent) → Claims s.core (own_entry k what reply) i
      → AnswersBy (CoreAllows s.core r (own_entry k what reply)) (core_ready s.core r (own_entry k what reply)) (core_step s.core r (own_entry k what reply)) new.kept reply before after
      → (b : Bool) → r.unused ≡ b → DecidesHolding k h (wait_entry k what) b start n → Decided k h y l what new before after reply n
  decides_at r reply what i n new before after c a b unused d =
      let e : Entry = own_entry k what reply in
      let t : State = state_at k (h.look ++ d.more) in
      let same = core_behind d.more d.free in
      record {
        unused = b;
        no_frame = ap is_next_frame c.is;
        is_wait = wait_is r reply what i c a.allowed;
        decides = d;
        answers = answers_at t s.core new.kept r e reply before after same (subst (λ (x : CoreState). Told x r (reads_of t what) what) (sym same) (told_behind r what t i e refl c same (d.found ∙ sym unused))) a;
      }

  -- a claim that decided the entry
  pub decides : (r : CellReads) (reply : Reply) (what : Call) (i : Image) (is : List Image) (n : Me (Option S) View) (p : Bool) (new : WholeCore) (before after : Lent) → late ≡ late_of s.core.device.clock what → claimed_by s.core r (own_entry k what reply) ≡ i ∷ is
      → MeLeads what late start false (cell_calls s.core r (own_entry k what reply)) n p
      → AnswersBy (CoreAllows s.core r (own_entry k what reply)) (core_ready s.core r (own_entry k what reply)) (core_step s.core r (own_entry k what reply)) new.kept reply before after
      → (p ≡ true) × Decided k h y l what new before after reply n
  decides r reply what i is n p new before after late_is claimed leads a =
      let e : Entry = own_entry k what reply in
      let alone = claims_alone s.core r e i is claimed in
      let led = subst (λ (cs : List CellCall). MeLeads what late start false cs n p) alone.calls leads in
      by alone.claims led.0 led.1 (led.2 h refl) led.3.0 led.3.1 r.unused refl late refl
    where
      by : (c : Claims s.core (own_entry k what reply) i) (m : Me (Option S) View) (o : Bool) → ClaimTells (wait_entry k what) late h start false r.unused m o → n ≡ m → p ≡ o → (b : Bool) → r.unused ≡ b → (u : Bool) → late ≡ u → (p ≡ true) × Decided k h y l what new before after reply n
      by c m o tells at same true unused u is_late =
          let got = tells.hit unused in
          (same ∙ got.0, decides_at r reply what i n new before after c a true unused (subst (DecidesHolding k h (wait_entry k what) true start) (sym at) got.1))
      by c m o tells at same false unused true is_late =
          let got = tells.late_miss unused is_late in
          (same ∙ got.0, decides_at r reply what i n new before after c a false unused (subst (DecidesHolding k h (wait_entry k what) false start) (sym at) got.1))
      by c m o tells at same false unused false early =
          absurd (true≢false (sym a.is_ready ∙ held_back s.core r (own_entry k what reply) i c unused (sym (ap (late_of s.core.device.clock) c.is) ∙ (sym late_is ∙ early))))

  -- ---- a call that has to wait

  pub waits : (r : CellReads) (what : Call) (n : Me (Option S) View) (p : Bool) → late ≡ late_of s.core.device.clock what → core_ready s.core r (wait_entry k what) ≡ false → MeLeads what late start false (cell_calls s.core r (wait_entry k what)) n p
      → (p ≡ false) × (n ≡ start)
  waits r what n p late_is not_ready leads = split (claimed_by s.core r (wait_entry k what)) refl
    where
      claim_waits : (i : Image) (c : Claims s.core (wait_entry k what) i) (m : Me (Option S) View) (o : Bool) → ClaimTells (wait_entry k what) late h start false r.unused m o → n ≡ m → p ≡ o → (b : Bool) → r.unused ≡ b → (u : Bool) → late ≡ u → (p ≡ false) × (n ≡ start)
      claim_waits i c m o tells at same true unused u is_late = absurd (true≢false (sym (gets s.core r (wait_entry k what) i c unused).is_ready ∙ not_ready))
      claim_waits i c m o tells at same false unused true is_late = absurd (true≢false (sym (expires s.core r (wait_entry k what) i c unused (sym (ap (late_of s.core.device.clock) c.is) ∙ (sym late_is ∙ is_late))).is_ready ∙ not_ready))
      claim_waits i c m o tells at same false unused false early = let got = tells.miss unused early in (same ∙ got.0, at ∙ got.1)

      split : (images : List Image) → claimed_by s.core r (wait_entry k what) ≡ images → (p ≡ false) × (n ≡ start)
      split [] none = let led = subst (λ (cs : List CellCall). MeLeads what late start false cs n p) (waiting_calls s.core r (wait_entry k what) not_ready none) leads in (led.1, led.0)
      split (i ∷ is) some_claimed =
          let alone = claims_alone s.core r (wait_entry k what) i is some_claimed in
          let led = subst (λ (cs : List CellCall). MeLeads what late start false cs n p) alone.calls leads in
          claim_waits i alone.claims led.0 led.1 (led.2 h refl) led.3.0 led.3.1 r.unused refl late refl
