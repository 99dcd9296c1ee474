-- The steps on words of images as a caller meets them, who has worked out where a word stands and picked what it makes.
use Rattle.std.proofs.Common.{◌≡◌, ℕ, ◌+◌, ◌%◌, ◌^◌, ◌==◌, Bool, List, [], sym, subst, Option, None}
use mathlib.Core.Option.{none}
use prog.Atomic.{either}
use Rattle.atomic_table.specs.Table.{Me, step, Allows}
use Rattle.xr_types.specs.declared.frames.Image.{Image}
use Rattle.xr_model.specs.machine.CellCalls.{CellCall, pin, free, stamp, peek}
use Rattle.xr_model.specs.machine.Calls.{Entry}
use Rattle.xr_model.specs.machine.State.{CoreState}
use Rattle.xr_model.specs.laws.ImageWords.{FitsCall}
use Rattle.xr_rule.specs.View.{Know, Hold, View, Eyes, Holding, sight}
use Rattle.xr_rule.specs.Rule.{image_word, stamp_word, state_at, MayClaim, FollowsRule}
use Rattle.xr_rule.specs.Plays.{Makes, Peeks, Claims}
use Rattle.xr_rule.proofs.Calls.{pins_at, frees_at, stamps_at, peeks_at, claims_at}

module _ {S : Type 0} (stands : List ℕ → S → CoreState → Type 0) (key n id : ℕ) (m : Me (Option S) View) (one : n ≡ 1) (w : ℕ) where
  pub pins_by : (k : Know) (h : Hold) (y : Eyes) (j : Image) (c : List (ℕ × Option S)) (x : CellCall) → w ≡ image_word j → x ≡ pin j → m ≡ (sight k (Holding h) y, c) → h.noted ≡ None → FitsCall (state_at k h.look).core (pin j)
      → Allows (FollowsRule stands key) n id m w (λ v. (v + 1) % 2 ^ 64) (Makes x (step n w 1 0 none) m)
  pins_by k h y j c x where_is picks is unnoted fits = subst (λ (z : ℕ × CellCall). Allows (FollowsRule stands key) n id m z.0 (λ v. (v + 1) % 2 ^ 64) (Makes z.1 (step n z.0 1 0 none) m)) (λ i. (sym where_is i, sym picks i)) (pins_at stands key n id m one k h y j c is unnoted fits)

  pub frees_by : (k : Know) (h : Hold) (y : Eyes) (j : Image) (c : List (ℕ × Option S)) (x : CellCall) → w ≡ image_word j → x ≡ free j → m ≡ (sight k (Holding h) y, c) → h.noted ≡ None → FitsCall (state_at k h.look).core (free j)
      → Allows (FollowsRule stands key) n id m w (λ _. 0) (λ _. Makes x (step n w 0 0 none) m 0)
  frees_by k h y j c x where_is picks is unnoted fits = subst (λ (z : ℕ × CellCall). Allows (FollowsRule stands key) n id m z.0 (λ _. 0) (λ _. Makes z.1 (step n z.0 0 0 none) m 0)) (λ i. (sym where_is i, sym picks i)) (frees_at stands key n id m one k h y j c is unnoted fits)

  pub stamps_by : (k : Know) (h : Hold) (y : Eyes) (j : Image) (v : ℕ) (c : List (ℕ × Option S)) (x : CellCall) → w ≡ stamp_word j → x ≡ stamp j v → m ≡ (sight k (Holding h) y, c) → h.noted ≡ None → FitsCall (state_at k h.look).core (stamp j v)
      → Allows (FollowsRule stands key) n id m w (λ _. v) (λ _. Makes x (step n w v 0 none) m v)
  stamps_by k h y j v c x where_is picks is unnoted fits = subst (λ (z : ℕ × CellCall). Allows (FollowsRule stands key) n id m z.0 (λ _. v) (λ _. Makes z.1 (step n z.0 v 0 none) m v)) (λ i. (sym where_is i, sym picks i)) (stamps_at stands key n id m one k h y j v c is unnoted fits)

  pub peeks_by : (k : Know) (h : Hold) (y : Eyes) (j : Image) (c : List (ℕ × Option S)) (i : Image) → w ≡ stamp_word j → i ≡ j → m ≡ (sight k (Holding h) y, c) → h.noted ≡ None → ((v : ℕ) → FitsCall (state_at k h.look).core (peek j v))
      → Allows (FollowsRule stands key) n id m w (λ v. v) (Peeks i (step n w 0 0 none) m)
  peeks_by k h y j c i where_is picks is unnoted fits = subst (λ (z : ℕ × Image). Allows (FollowsRule stands key) n id m z.0 (λ v. v) (Peeks z.1 (step n z.0 0 0 none) m)) (λ t. (sym where_is t, sym picks t)) (peeks_at stands key n id m one k h y j c is unnoted fits)

  pub claims_by : (k : Know) (h : Hold) (y : Eyes) (e : Entry) (j : Image) (late : Bool) (c : List (ℕ × Option S)) (f : Entry) (b : Bool) → w ≡ image_word j → f ≡ e → b ≡ late → m ≡ (sight k (Holding h) y, c) → h.noted ≡ None → h.made ≡ [] → MayClaim k h.look e j late
      → Allows (FollowsRule stands key) n id m w (λ v. either (v == 0) (2 ^ 32) v) (Claims f b (step n w 0 (2 ^ 32) none) m)
  claims_by k h y e j late c f b where_is picks same is unnoted unmade may = subst (λ (z : ℕ × Entry × Bool). Allows (FollowsRule stands key) n id m z.0 (λ v. either (v == 0) (2 ^ 32) v) (Claims z.1 z.2 (step n z.0 0 (2 ^ 32) none) m)) (λ t. (sym where_is t, sym picks t, sym same t)) (claims_at stands key n id m one k h y e j late c is unnoted unmade may)
