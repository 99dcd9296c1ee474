-- What calls on cells, one after another, make of a seat.
use Rattle.std.proofs.Common.{◌≡◌, ℕ, Bool, true, false, List, [], ◌∷◌, ◌++◌, length, Option, sym, refl, ap, ◌∙◌, subst, append-nil, append_assoc, arith, true≢false}
use Rattle.std.specs.List.{list_all}
use Rattle.atomic_table.specs.Table.{Me}
use Rattle.xr_types.specs.declared.frames.Image.{Image}
use Rattle.xr_model.specs.machine.CellCalls.{CellCall, pin, claim, free, stamp, peek, give_back, peek_calls}
use Rattle.xr_model.specs.machine.Images.{stamp_in, stamps_at}
use Rattle.xr_types.specs.declared.calls.Call.{Call}
use Rattle.xr_model.proofs.Rows.{both_of}
use Rattle.xr_model.specs.laws.ImageWords.{stamp_of, stamp_after}
use Rattle.xr_model.proofs.CallWords.{stamp_append}
use Rattle.xr_rule.specs.View.{Know, Hold, View, Eyes, Holding, sight}
use Rattle.xr_rule.specs.Rule.{state_at}
use Rattle.xr_words.specs.Table.{MeDoes}

-- a call that the seat makes for an entry which it notes later
abbrev pub is_set : CellCall → Bool
is_set (claim i b) = false
is_set (give_back i) = false
is_set _ = true

abbrev hold_with : Hold → CellCall → Hold
hold_with h x = record h { made = h.made ++ x ∷ [] }

module _ {S : Type 0} (what : Call) (late : Bool) where
  -- a seat, and whether its entry is decided, call by call
  abbrev pub MeLeads : Me (Option S) View → Bool → List CellCall → Me (Option S) View → Bool → Type 0
  MeLeads m q [] n p = (n ≡ m) × (p ≡ q)
  MeLeads m q (x ∷ xs) n p = (l : Me (Option S) View) × (o : Bool) × MeDoes what late m q x l o × MeLeads l o xs n p

  -- a holder that has made these
  abbrev pub made : Know → Hold → Eyes → List CellCall → List (ℕ × Option S) → Me (Option S) View
  made k h y xs c = (sight k (Holding (record h { made = h.made ++ xs })) y, c)

  pub leads_made : (k : Know) (h : Hold) (y : Eyes) (c : List (ℕ × Option S)) (xs : List CellCall) (q : Bool) (n : Me (Option S) View) (p : Bool) → list_all is_set xs ≡ true → MeLeads (sight k (Holding h) y, c) q xs n p → (n ≡ made k h y xs c) × (p ≡ q)
  leads_made k h y c [] q n p sets leads = (leads.0 ∙ ap (λ (l : List CellCall). let m : Me (Option S) View = (sight k (Holding (record h { made = l })) y, c) in m) (sym (append-nil h.made)), leads.1)
  leads_made k h y c (x ∷ xs) q n p sets (l, o, does, rest) =
      let two = both_of (is_set x) (list_all is_set xs) sets in
      let one : (o ≡ q) × (l ≡ made k h y (x ∷ []) c) = by x two.0 does in
      let more = leads_made k (hold_with h x) y c xs o n p two.1 (subst (λ (m : Me (Option S) View). MeLeads m o xs n p) one.1 rest) in
      (more.0 ∙ ap (λ (l : List CellCall). let m : Me (Option S) View = (sight k (Holding (record h { made = l })) y, c) in m) (append_assoc h.made (x ∷ []) xs), more.1 ∙ one.0)
    where
      by : (x : CellCall) → is_set x ≡ true → MeDoes what late (sight k (Holding h) y, c) q x l o → (o ≡ q) × (l ≡ made k h y (x ∷ []) c)
      by (pin i) set does = (does.0, does.1 h refl)
      by (free i) set does = (does.0, does.1 h refl)
      by (stamp i v) set does = (does.0, does.1 h refl)
      by (peek i v) set does = (does.0, (does.1 h refl).1)
      by (claim i b) set does = absurd (true≢false (sym set))
      by (give_back i) set does = absurd (true≢false (sym set))

  -- a seat that sets no stamp finds the stamps at its look
  pub leads_found : (k : Know) (h : Hold) (y : Eyes) (c : List (ℕ × Option S)) (images : List Image) (ns : List ℕ) (q : Bool) (n : Me (Option S) View) (p : Bool) → ((i : Image) (w : ℕ) → stamp_after h.made i w ≡ w) → length ns ≡ length images
      → MeLeads (sight k (Holding h) y, c) q (peek_calls images ns ++ []) n p → ns ≡ stamps_at (state_at k h.look).cells.stamps images
  leads_found k h y c [] [] q n p none each leads = refl
  leads_found k h y c [] (v ∷ ns) q n p none each leads = absurd (omega (arith, each))
  leads_found k h y c (i ∷ images) [] q n p none each leads = absurd (omega (arith, each))
  leads_found k h y c (i ∷ images) (v ∷ ns) q n p none each (l, o, does, rest) =
      let found = does.1 h refl in
      let here : v ≡ stamp_in (state_at k h.look).cells.stamps i = found.0 ∙ none i (stamp_of (state_at k h.look) i) in
      let less : length ns ≡ length images = omega (arith, each) in
      let more = leads_found k (hold_with h (peek i v)) y c images ns o n p (λ j w. stamp_append h.made (peek i v ∷ []) j w ∙ none j w) less (subst (λ (m : Me (Option S) View). MeLeads m o (peek_calls images ns ++ []) n p) found.1 rest) in
      λ t. here t ∷ more t
