-- A core over a table's words: what it asks of them, and what its clause says of the seat.
use Rattle.std.proofs.Common.{◌≡◌, ℕ, ℤ, Bool, true, false, List, [], ◌∷◌, length, sym, refl, ap, ◌∙◌, subst, true≢false}
use Rattle.xr_types.specs.declared.calls.Actor.{Actor}
use Rattle.xr_types.specs.declared.calls.Call.{Call}
use Rattle.xr_types.specs.declared.calls.Reply.{Reply}
use Rattle.xr_types.specs.declared.calls.Step.{Step}
use Rattle.xr_types.specs.declared.calls.Step.TheVariants.{Done, NotReady}
use Rattle.xr_types.specs.declared.frames.Image.{Image}
use Rattle.xr_model.specs.machine.CellCalls.{CellCall, pin, claim, free, stamp, peek, give_back, Leads}
use Rattle.xr_model.specs.machine.CoreCalls.{Lent, MayMake, asked, entry_of, AnswersBy}
use Rattle.xr_model.specs.machine.Machine.{IsPresent, held_after, CoreAllows, effect, core_step, core_ready, cell_calls}
use Rattle.xr_model.specs.machine.OverCells.{AppliesOver, MayApply}
use Rattle.xr_types.specs.declared.calls.Call.TheVariants as ask
use Rattle.xr_model.specs.machine.Rule.{is_by}
use Rattle.xr_model.specs.machine.State.{CoreState, CellReads, WholeCore, with_apps}
use Rattle.xr_model.specs.laws.Moments.{actor_at}
use Rattle.xr_model.proofs.SoundImages.{sound_history}
use Rattle.xr_model.specs.laws.ImageWords.{Claims, claimed_by, late_of}
use Rattle.xr_rule.specs.View.{Know, Hold, Eyes, Holding, sight, number_in}
use Rattle.xr_rule.specs.Rule.{state_at, MayClaim}
use Rattle.xr_words.specs.declared.cells.TableCells.{TableCells}
use Rattle.xr_words.specs.Table.{wait_entry, ClaimsIf, MayStep, MeMay, MeDoes}
use Rattle.xr_words.specs.Lending.{MayMakeOf, MakesOf}
use Rattle.xr_words.specs.Lent.{own_entry, Tells}
use Rattle.xr_words.proofs.Leading.{MeLeads}
use Rattle.xr_words.proofs.Lending.{leads_me, may_apply}
use Rattle.xr_words.proofs.Applied.{prepares, decides, waits}
use Rattle.xr_runtime.specs.Calling.{Has}
use Rattle.xr_runtime.specs.Lending.{MayLend}

-- ---- a table's words as cells

abbrev pub Words : Type 0
Words = TableCells WholeCore

abbrev pub me_of : Words → Has
me_of c = c.seat.now.me

abbrev pub decided_of : Words → Bool
decided_of c = c.decided

module _ (what : Call) (late : Bool) (c0 : Words) where
  -- they are still lent by the same caller, for the same call
  pub record Same (c : Words) : Type 0 where
    pub table : c.table ≡ c0.table
    pub name : c.seat.ghost_name ≡ c0.seat.ghost_name
    pub own : c.seat.now.table_id ≡ c.table.now.table.shared.table_id
    pub what_is : c.call.now ≡ what
    pub late_is : c.late ≡ late

  touches : (c : Words) (x : CellCall) → MayStep c.table.now.table.shared.table_id c.call.now c.late c.seat.now x → MayMakeOf c x
  touches c (pin i) may = may
  touches c (claim i b) may = may
  touches c (free i) may = may
  touches c (stamp i n) may = may
  touches c (peek i n) may = may
  touches c (give_back i) may = tt

  asks : (c : Words) (x : CellCall) → Same c → MeMay what late (me_of c) x → MayMakeOf c x
  asks c x same m = touches c x record {
    sets = record { own = same.own; hold = m.hold; is = m.is; unnoted = m.unnoted; fits = m.fits };
    claims = subst (λ (z : Call × Bool). ClaimsIf (me_of c).0.know m.hold z.0 z.1 x) (λ i. (sym same.what_is i, sym same.late_is i)) m.claims;
  }

  tells : (c : Words) (x : CellCall) (d : Words) → Same c → MakesOf c x d → Same d × MeDoes what late (me_of c) (decided_of c) x (me_of d) (decided_of d)
  tells c x d same done = (
    record {
      table = done.0 ∙ same.table;
      name = done.1 ∙ same.name;
      own = done.4.0 ∙ (same.own ∙ sym (ap (λ t. t.now.table.shared.table_id) done.0));
      what_is = ap (λ z. z.now) done.2 ∙ same.what_is;
      late_is = done.3 ∙ same.late_is;
    },
    subst (λ (z : Call × Bool). MeDoes z.0 z.1 (me_of c) (decided_of c) x (me_of d) (decided_of d)) (λ i. (same.what_is i, same.late_is i)) done.4.1,
  )

-- ---- a claim

-- A holder that lends its words may claim for the call.
may_claim : (m : Has) (core : WholeCore) (who : Actor) (what : Call) (size : ℕ) (late : Bool) (p : MayLend m core who what) → MayMake core.kept who what size → late ≡ late_of core.kept.device.clock what
    → (i : Image) → Claims (state_at m.0.know p.hold.look).core (wait_entry m.0.know what) i → MayClaim m.0.know p.hold.look (wait_entry m.0.know what) i late
may_claim m core who what size late p may late_is i c = record {
  claims = c;
  is_own = refl;
  others = λ one. no_compositor (number_in m.0.know.own) what c.chain c.timeout c.start one c.is (subst (λ (a : Actor). is_by (asked a what).caller a ≡ true) p.is_own may.asks.caller);
  caller = subst (λ (a : Actor). is_by (asked a what).caller a ≡ true) p.is_own may.asks.caller;
  numbers = subst (λ (a : Actor). (asked a what).in_range ≡ true) p.is_own may.asks.numbers;
  given = refl;
  short = refl;
  present = subst (λ (z : CoreState × Actor). IsPresent z.0 z.1) (λ t. (p.kept t, p.is_own t)) may.present;
  starts = p.starts;
  few = p.few;
  late_is = late_is ∙ ap (λ (s : CoreState). late_of s.device.clock what) p.kept;
}
  where
    no_compositor : (n : ℕ) (w : Call) (chain : ℕ) (timeout start : ℤ) → n ≡ 1 → w ≡ ask.WaitImage chain timeout start → is_by (asked (actor_at n) w).caller (actor_at n) ≡ true → ⊥
    no_compositor n w chain timeout start one is by = true≢false (sym (subst (λ (z : ℕ × Call). is_by (asked (actor_at z.0) z.1).caller (actor_at z.0) ≡ true) (λ t. (one t, is t)) by))

-- ---- what the core asks, and what is told

module _ (m : Has) (core : WholeCore) (who : Actor) (call : Call) (size : ℕ) (late : Bool) (p : MayLend m core who call) (may : MayMake core.kept who call size) (late_is : late ≡ late_of core.kept.device.clock call) (c : Words)
    (same : Same call late c c) (at : me_of c ≡ m) where
  abbrev k : Know
  k = m.0.know

  abbrev what : Call
  what = call

  abbrev y : Eyes
  y = m.0.eyes

  abbrev kept : CoreState
  kept = (state_at k p.hold.look).core

  pub asks_cells : MayApply MayMakeOf MakesOf core c who what
  asks_cells = subst (λ (a : Actor). MayApply MayMakeOf MakesOf core c a what) (sym p.is_own)
      (may_apply what late MayMakeOf MakesOf me_of decided_of (Same what late c) (asks what late c) (tells what late c) k p.hold y m.1 core c same (at ∙ p.is) p.unnoted p.unmade
      (sound_history (with_apps k.apps) p.hold.look p.legal) p.kept p.other (may_claim m core who what size late p may late_is))

  late_now : late ≡ late_of kept.device.clock what
  late_now = late_is ∙ ap (λ (s : CoreState). late_of s.device.clock what) p.kept

  module _ (new : WholeCore) (d : Words) (before after : Lent) (fresh : c.decided ≡ false) where
    -- what the clause says of a reply, for what the core keeps at the look and the seat's own actor
    abbrev Says : CellReads → Reply → CoreState × Actor → Type 0
    Says r reply z = (length r.stamps ≡ length (effect z.0 r (entry_of z.1 what reply)).did.taken) × Leads MakesOf c (cell_calls z.0 r (entry_of z.1 what reply)) d
        × AnswersBy (CoreAllows z.0 r (entry_of z.1 what reply)) (core_ready z.0 r (entry_of z.1 what reply)) (core_step z.0 r (entry_of z.1 what reply)) new.kept reply before after × (new.held ≡ held_after core.held (effect z.0 r (entry_of z.1 what reply)).did)

    from_start : (xs : List CellCall) → Leads MakesOf c xs d → Same what late c d × MeLeads what late (sight k (Holding p.hold) y, m.1) false xs (me_of d) (decided_of d)
    from_start xs leads =
        let led = leads_me what late MayMakeOf MakesOf me_of decided_of (Same what late c) (asks what late c) (tells what late c) c xs d same leads in
        (led.0, subst (λ (z : Has × Bool). MeLeads what late z.0 z.1 xs (me_of d) (decided_of d)) (λ i. ((at ∙ p.is) i, fresh i)) led.1)

    done_so : (r : CellReads) (reply : Reply) → r.held ≡ core.held → Says r reply (kept, actor_at (number_in k.own)) → (images : List Image) → claimed_by kept r (own_entry k what reply) ≡ images
        → Same what late c d × Tells k p.hold y m.1 what new before after core.kept (Done reply) (decided_of d) (me_of d)
    done_so r reply own says [] none =
        let led = from_start (cell_calls kept r (own_entry k what reply)) says.1 in
        let got = prepares k p.hold y m.1 late r reply what (me_of d) (decided_of d) new before after p.unmade p.other (λ asks. let f = p.frames asks in (own ∙ f.0, f.1)) says.0 led.1 none says.2 (says.3 ∙ ap (λ (hs : List Image). held_after hs (effect kept r (own_entry k what reply)).did) (sym own)) in
        (led.0, subst (λ (b : Bool). Tells k p.hold y m.1 what new before after core.kept (Done reply) b (me_of d)) (sym got.0) got.1)
    done_so r reply own says (i ∷ is) claimed =
        let led = from_start (cell_calls kept r (own_entry k what reply)) says.1 in
        let got = decides k p.hold y m.1 late r reply what i is (me_of d) (decided_of d) new before after late_now claimed led.1 says.2 in
        (led.0, subst (λ (b : Bool). Tells k p.hold y m.1 what new before after core.kept (Done reply) b (me_of d)) (sym got.0) got.1)

    pub told_so : (answer : Step) → AppliesOver MakesOf (record { core = core; cells = c; lent = before }) (record { core = new; cells = d; lent = after }) who call answer
        → Same what late c d × Tells k p.hold y m.1 what new before after core.kept answer (decided_of d) (me_of d)
    told_so (Done reply) x =
        let says : Says x.reads reply (kept, actor_at (number_in k.own)) = subst (Says x.reads reply) (λ t. (p.kept t, p.is_own t)) (x.each, x.cells, x.applies, x.holds) in
        done_so x.reads reply x.own says (claimed_by kept x.reads (own_entry k what reply)) refl
    told_so NotReady x =
        let w = x.applies 0 false in
        let at_look : (core_ready kept x.reads (wait_entry k what) ≡ false) × Leads MakesOf c (cell_calls kept x.reads (wait_entry k what)) d = subst (λ (z : CoreState × Actor). (core_ready z.0 x.reads (record { actor = z.1; call = what; given = 0; short = false }) ≡ false) × Leads MakesOf c (cell_calls z.0 x.reads (record { actor = z.1; call = what; given = 0; short = false })) d)
        (λ t. (p.kept t, p.is_own t)) (w.not_ready, x.cells) in
        let led = from_start (cell_calls kept x.reads (wait_entry k what)) at_look.1 in
        let got = waits k p.hold y m.1 late x.reads what (me_of d) (decided_of d) late_now at_look.0 led.1 in
        (led.0, (got.0, record { same = got.1; kept = w.same; unwritten = w.unwritten }))

-- ---- what was told by one look of the holder's is told by any

same_hold : (g h : Hold) → Holding g ≡ Holding h → g ≡ h
same_hold g h is = cc

pub told_at : (m : Has) (core : WholeCore) (who : Actor) (call : Call) (p : MayLend m core who call) (new : WholeCore) (before after : Lent) (answer : Step) (decided : Bool) (n w : Has) → n ≡ w
    → Tells m.0.know p.hold m.0.eyes m.1 call new before after core.kept answer decided n → (h : Hold) → m ≡ (sight m.0.know (Holding h) m.0.eyes, m.1) → Tells m.0.know h m.0.eyes m.1 call new before after core.kept answer decided w
told_at m core who call p new before after answer decided n w at told h is =
    let turns : Holding p.hold ≡ Holding h = ap (λ (z : Has). z.0.turn) (sym p.is ∙ is) in
    subst (λ (z : Hold). Tells m.0.know z m.0.eyes m.1 call new before after core.kept answer decided w) (same_hold p.hold h turns)
    (subst (λ (z : Has). Tells m.0.know p.hold m.0.eyes m.1 call new before after core.kept answer decided z) at told)
