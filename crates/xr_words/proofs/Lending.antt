-- A core that is lent the words of a table for one call: which calls on them may be made, and what its clause says of the seat.
use Rattle.std.proofs.Common.{◌≡◌, ◌&&◌, ℕ, Bool, true, false, List, [], ◌∷◌, ◌++◌, Option, None, sym, refl, ap, ◌∙◌, subst, true≢false}
use Rattle.std.specs.List.{list_all}
use Rattle.atomic_table.specs.Table.{Me}
use Rattle.xr_types.specs.declared.calls.Call.{Call}
use Rattle.xr_types.specs.declared.frames.Image.{Image}
use Rattle.xr_model.specs.laws.Soundness.{StateIsSound}
use Rattle.xr_model.specs.scenario.InRange.{Each}
use Rattle.xr_model.specs.machine.CellCalls.{CellCall, pin, claim, free, stamp, peek, give_back, claim_calls, pin_calls, free_calls, stamp_calls, peek_calls, return_calls, MayCall, Leads}
use Rattle.xr_model.specs.machine.Images.{Stamped}
use Rattle.xr_model.specs.machine.Machine.{effect, cell_calls}
use Rattle.xr_model.specs.machine.OverCells.{MayApply}
use Rattle.xr_model.specs.machine.Calls.{Entry}
use Rattle.xr_model.specs.machine.Rule.{Did}
use Rattle.xr_model.specs.machine.State.{CoreState, CellReads, WholeCore}
use Rattle.xr_model.specs.laws.DecidedEntries.{is_image_done}
use Rattle.xr_model.specs.laws.Moments.{actor_at}
use Rattle.xr_model.proofs.Rows.{both_of}
use Rattle.xr_model.specs.laws.ImageWords.{FitsCall, claimed_by, Claims}
use Rattle.xr_model.proofs.FittingCalls.{calls_fit, claims_alone, returned_none}
use Rattle.xr_rule.specs.View.{Know, Hold, View, Eyes, Holding, sight, number_in}
use Rattle.xr_rule.specs.Rule.{state_at, MayClaim}
use Rattle.xr_words.specs.Table.{wait_entry, ClaimsIf, MeMay, MeDoes}
use Rattle.xr_words.proofs.Leading.{is_set, MeLeads, made, leads_made}

-- ---- the calls of an entry

both : (a b : Bool) → a ≡ true → b ≡ true → a && b ≡ true
both a b is_a is_b = rw (is_a, is_b) refl

sets_append : (xs ys : List CellCall) → list_all is_set xs ≡ true → list_all is_set ys ≡ true → list_all is_set (xs ++ ys) ≡ true
sets_append [] ys a b = b
sets_append (x ∷ xs) ys a b = let two = both_of (is_set x) (list_all is_set xs) a in both (is_set x) (list_all is_set (xs ++ ys)) two.0 (sets_append xs ys two.1 b)

pins_set : (images : List Image) → list_all is_set (pin_calls images) ≡ true
pins_set [] = refl
pins_set (j ∷ images) = pins_set images

frees_set : (images : List Image) → list_all is_set (free_calls images) ≡ true
frees_set [] = refl
frees_set (j ∷ images) = frees_set images

stamps_set : (xs : List Stamped) → list_all is_set (stamp_calls xs) ≡ true
stamps_set [] = refl
stamps_set (x ∷ xs) = stamps_set xs

peeks_set : (images : List Image) (ns : List ℕ) → list_all is_set (peek_calls images ns) ≡ true
peeks_set [] ns = refl
peeks_set (j ∷ images) [] = peeks_set images []
peeks_set (j ∷ images) (n ∷ ns) = peeks_set images ns

-- where nothing is claimed and nothing given back, they are made for an entry that is noted later
pub calls_set : (s : CoreState) (r : CellReads) (e : Entry) → is_image_done e.call ≡ false → claimed_by s r e ≡ [] → list_all is_set (cell_calls s r e) ≡ true
calls_set s r e other none =
    let did : Did = (effect s r e).did in
    let last : list_all is_set (return_calls did.returned) ≡ true = ap (λ (l : List Image). list_all is_set (return_calls l)) (returned_none s r e other) in
    ap (λ (l : List Image). list_all is_set (claim_calls r.unused l ++ (pin_calls did.used ++ (free_calls did.freed ++ (stamp_calls did.stamped ++ (peek_calls did.taken r.stamps ++ return_calls did.returned)))))) none
    ∙ sets_append (pin_calls did.used) _ (pins_set did.used) (sets_append (free_calls did.freed) _ (frees_set did.freed) (sets_append (stamp_calls did.stamped) _ (stamps_set did.stamped) (sets_append (peek_calls did.taken r.stamps) _ (peeks_set did.taken r.stamps) last)))

-- ---- cells that are a table's words

-- A kind of cells, of which its seat and whether its entry is decided are seen, as long as they are for one call.
module _ {S C : Type 0} (what : Call) (late : Bool) (may : C → CellCall → Type 0) (does : C → CellCall → C → Type 0) (me : C → Me (Option S) View) (decided : C → Bool) (Same : C → Type 0)
    (asks : (c : C) (x : CellCall) → Same c → MeMay what late (me c) x → may c x) (tells : (c : C) (x : CellCall) (d : C) → Same c → does c x d → Same d × MeDoes what late (me c) (decided c) x (me d) (decided d)) where
  pub leads_me : (c : C) (xs : List CellCall) (d : C) → Same c → Leads does c xs d → Same d × MeLeads what late (me c) (decided c) xs (me d) (decided d)
  leads_me c [] d same leads = (subst Same (sym leads) same, (ap me leads, ap decided leads))
  leads_me c (x ∷ xs) d same (m, here, rest) =
      let one = tells c x m same here in
      let more = leads_me m xs d one.0 rest in
      (more.0, (me m, decided m, one.1, more.1))

  none_claimed : (k : Know) (h : Hold) (x : CellCall) → is_set x ≡ true → ClaimsIf k h what late x
  none_claimed k h (claim i b) set = absurd (true≢false (sym set))
  none_claimed k h (pin i) set = tt
  none_claimed k h (free i) set = tt
  none_claimed k h (stamp i v) set = tt
  none_claimed k h (peek i v) set = tt
  none_claimed k h (give_back i) set = tt

  -- calls that fit, for an entry that is noted later
  may_set : (k : Know) (h : Hold) (y : Eyes) (l : List (ℕ × Option S)) (xs : List CellCall) (c : C) → Same c → me c ≡ (sight k (Holding h) y, l) → h.noted ≡ None → list_all is_set xs ≡ true → Each (FitsCall (state_at k h.look).core) xs → MayCall may does c xs
  may_set k h y l [] c same is unnoted sets fits = tt
  may_set k h y l (x ∷ xs) c same is unnoted sets fits =
      let two = both_of (is_set x) (list_all is_set xs) sets in (
        asks c x same (subst (λ (m : Me (Option S) View). MeMay what late m x) (sym is) record { hold = h; is = refl; unnoted = unnoted; fits = fits.0; claims = none_claimed k h x two.0 }),
        λ d done. let one = tells c x d same done in
            let led = leads_made what late k h y l (x ∷ []) (decided c) (me d) (decided d) (both (is_set x) true two.0 refl) (me d, decided d, subst (λ (m : Me (Option S) View). MeDoes what late m (decided c) x (me d) (decided d)) is one.1, (refl, refl)) in
            may_set k (record h { made = h.made ++ x ∷ [] }) y l xs d one.0 led.0 unnoted two.1 fits.1,
      )

  -- a claim, which is an entry's only call
  may_claim : (k : Know) (h : Hold) (y : Eyes) (l : List (ℕ × Option S)) (i : Image) (b : Bool) (c : C) → Same c → me c ≡ (sight k (Holding h) y, l) → h.noted ≡ None → h.made ≡ [] → FitsCall (state_at k h.look).core (claim i b) → MayClaim k h.look (wait_entry k what) i late
      → MayCall may does c (claim i b ∷ [])
  may_claim k h y l i b c same is unnoted unmade fits claims =
      (asks c (claim i b) same (subst (λ (m : Me (Option S) View). MeMay what late m (claim i b)) (sym is) record { hold = h; is = refl; unnoted = unnoted; fits = fits; claims = (claims, unmade) }), λ d done. tt)

  abbrev asked_by : Know → ℕ → Bool → Entry
  asked_by k given short = record { actor = actor_at (number_in k.own); call = what; given = given; short = short }

  as_wait : (k : Know) (s : CoreState) (given : ℕ) (short : Bool) (i : Image) → Claims s (asked_by k given short) i → Claims s (wait_entry k what) i
  as_wait k s given short i x = record { chain = x.chain; timeout = x.timeout; start = x.start; is = x.is; image = x.image; may = x.may }

  may_all : (k : Know) (h : Hold) (y : Eyes) (l : List (ℕ × Option S)) (c : C) (reads : CellReads) (given : ℕ) (short : Bool) → Same c → me c ≡ (sight k (Holding h) y, l) → h.noted ≡ None → h.made ≡ [] → StateIsSound (state_at k h.look) → is_image_done what ≡ false
      → ((i : Image) → Claims (state_at k h.look).core (wait_entry k what) i → MayClaim k h.look (wait_entry k what) i late)
      → (images : List Image) → claimed_by (state_at k h.look).core reads (asked_by k given short) ≡ images → MayCall may does c (cell_calls (state_at k h.look).core reads (asked_by k given short))
  may_all k h y l c reads given short same is unnoted unmade sound other claims [] none =
      may_set k h y l (cell_calls (state_at k h.look).core reads (asked_by k given short)) c same is unnoted (calls_set (state_at k h.look).core reads (asked_by k given short) other none) (calls_fit (state_at k h.look) reads (asked_by k given short) sound other)
  may_all k h y l c reads given short same is unnoted unmade sound other claims (i ∷ images) some =
      let alone = claims_alone (state_at k h.look).core reads (asked_by k given short) i images some in
      let fits = subst (Each (FitsCall (state_at k h.look).core)) alone.calls (calls_fit (state_at k h.look) reads (asked_by k given short) sound other) in
      subst (MayCall may does c) (sym alone.calls) (may_claim k h y l i reads.unused c same is unnoted unmade fits.0 (claims i (as_wait k (state_at k h.look).core given short i alone.claims)))

  -- what the core asks of the cells that it is lent
  pub may_apply : (k : Know) (h : Hold) (y : Eyes) (l : List (ℕ × Option S)) (core : WholeCore) (c : C) → Same c → me c ≡ (sight k (Holding h) y, l) → h.noted ≡ None → h.made ≡ [] → StateIsSound (state_at k h.look) → core.kept ≡ (state_at k h.look).core → is_image_done what ≡ false
      → ((i : Image) → Claims (state_at k h.look).core (wait_entry k what) i → MayClaim k h.look (wait_entry k what) i late) → MayApply may does core c (actor_at (number_in k.own)) what
  may_apply k h y l core c same is unnoted unmade sound kept other claims reads given short held =
      subst (λ (s : CoreState). MayCall may does c (cell_calls s reads (asked_by k given short))) (sym kept)
      (may_all k h y l c reads given short same is unnoted unmade sound other claims (claimed_by (state_at k h.look).core reads (asked_by k given short)) refl)
