-- The steps as a caller meets them: its table has some number of slots, which is one, and its seat is equal to one of the form.
use Rattle.std.proofs.Common.{◌*◌, ◌++◌, length, get_or, ◌≡◌, ℕ, ◌+◌, ◌-◌, ◌%◌, ◌^◌, ◌<◌, ◌==◌, Bool, List, [], ◌∷◌, length, sym, subst, Option, Some, None}
use mathlib.Core.Option.{none}
use prog.Atomic.{either}
use Rattle.atomic_table.specs.Table.{Me, step, Allows}
use Rattle.xr_types.specs.declared.frames.Image.{Image}
use Rattle.xr_model.specs.machine.CellCalls.{pin, free, stamp, peek}
use Rattle.xr_model.specs.machine.Calls.{Entry}
use Rattle.xr_model.specs.machine.PublicationWords.{words}
use Rattle.xr_model.specs.laws.ImageWords.{FitsCall}
use Rattle.xr_model.specs.machine.State.{CoreState}
use Rattle.xr_rule.specs.Shows.{buffers, buffer_words, exit_word, state_word}
use Rattle.xr_rule.specs.View.{Know, Hold, View, Turn, Eyes, Idle, Waiting, Holding, Inside, Keeps, Writes, sight, view, history_with}
use Rattle.xr_rule.specs.Rule.{image_word, stamp_word, state_at, MayNote, MayClaim, MayReturn, MayRead, front_word, FollowsRule}
use Rattle.xr_rule.specs.Plays.{PublishesNone, published_by, Draws, Looks, Notes, Serves, Makes, Peeks, Claims, GivesBack, Searches, Finds, Changes, Swaps, EntersFor, Reads, Leaves}
use Rattle.xr_rule.proofs.Steps.{draws, looks, notes}
use Rattle.xr_rule.proofs.Serving.{serves}
use Rattle.xr_rule.proofs.HolderSteps.{pins, frees, stamps, peeks}
use Rattle.xr_rule.proofs.ClaimSteps.{claims}
use Rattle.xr_rule.proofs.Returning.{returns}
use Rattle.xr_rule.proofs.Publishing.{searches, finds, changes, swaps}
use Rattle.xr_rule.proofs.Reading.{enters, reads, leaves}

module _ {S : Type 0} (stands : List ℕ → S → CoreState → Type 0) (key n id : ℕ) (m : Me (Option S) View) (one : n ≡ 1) where
  pub draws_at : (k : Know) (c : List (ℕ × Option S)) → m ≡ (view k Idle, c) → 0 < length k.own → Allows (FollowsRule stands key) n id m 0 (λ x. (x + 1) % 2 ^ 64) (Draws (step n 0 1 0 none) m)
  draws_at k c is own = subst (λ (z : ℕ × Me (Option S) View). Allows (FollowsRule stands key) z.0 id z.1 0 (λ x. (x + 1) % 2 ^ 64) (Draws (step z.0 0 1 0 none) z.1)) (λ i. (sym one i, sym is i)) (draws stands key id k c own)

  pub looks_at : (k : Know) (t : ℕ) → m ≡ (view k (Waiting t), []) → Allows (FollowsRule stands key) n id m 1 (λ x. x) (Looks stands (step n 1 0 0 none) m)
  looks_at k t is = subst (λ (z : ℕ × Me (Option S) View). Allows (FollowsRule stands key) z.0 id z.1 1 (λ x. x) (Looks stands (step z.0 1 0 0 none) z.1)) (λ i. (sym one i, sym is i)) (looks stands key id t k)

  pub notes_at : (k : Know) (h : Hold) (y : Eyes) (e : Entry) (c : List (ℕ × Option S)) → m ≡ (sight k (Holding h) y, c) → MayNote k h.look h.made e → Allows (FollowsRule stands key) n id m 1 (λ x. x) (Notes e (step n 1 0 0 none) m)
  notes_at k h y e c is may = subst (λ (z : ℕ × Me (Option S) View). Allows (FollowsRule stands key) z.0 id z.1 1 (λ x. x) (Notes e (step z.0 1 0 0 none) z.1)) (λ i. (sym one i, sym is i)) (notes stands key id h k y e c may)

  pub serves_at : (k : Know) (h : Hold) (cs : List ℕ) (j : ℕ) (x : S) → m ≡ (sight k (Holding h) (Keeps cs j), (0, Some x) ∷ []) → (h.noted ≡ None → h.made ≡ []) → stands cs x (state_at k (history_with h.look h.noted)).core → PublishesNone k h
      → Allows (FollowsRule stands key) n id m 1 (λ y. (y + 1) % 2 ^ 64) (Serves (step n 1 1 0 none) m)
  serves_at k h cs j x is unmade ok quiet = subst (λ (z : ℕ × Me (Option S) View). Allows (FollowsRule stands key) z.0 id z.1 1 (λ y. (y + 1) % 2 ^ 64) (Serves (step z.0 1 1 0 none) z.1)) (λ i. (sym one i, sym is i)) (serves stands key id h k cs j x unmade ok quiet)

  pub pins_at : (k : Know) (h : Hold) (y : Eyes) (j : Image) (c : List (ℕ × Option S)) → m ≡ (sight k (Holding h) y, c) → h.noted ≡ None → FitsCall (state_at k h.look).core (pin j) → Allows (FollowsRule stands key) n id m (image_word j) (λ x. (x + 1) % 2 ^ 64) (Makes (pin j) (step n (image_word j) 1 0 none) m)
  pins_at k h y j c is unnoted fits = subst (λ (z : ℕ × Me (Option S) View). Allows (FollowsRule stands key) z.0 id z.1 (image_word j) (λ x. (x + 1) % 2 ^ 64) (Makes (pin j) (step z.0 (image_word j) 1 0 none) z.1)) (λ i. (sym one i, sym is i)) (pins stands key id h k y j c unnoted fits)

  pub frees_at : (k : Know) (h : Hold) (y : Eyes) (j : Image) (c : List (ℕ × Option S)) → m ≡ (sight k (Holding h) y, c) → h.noted ≡ None → FitsCall (state_at k h.look).core (free j) → Allows (FollowsRule stands key) n id m (image_word j) (λ _. 0) (λ _. Makes (free j) (step n (image_word j) 0 0 none) m 0)
  frees_at k h y j c is unnoted fits = subst (λ (z : ℕ × Me (Option S) View). Allows (FollowsRule stands key) z.0 id z.1 (image_word j) (λ _. 0) (λ _. Makes (free j) (step z.0 (image_word j) 0 0 none) z.1 0)) (λ i. (sym one i, sym is i)) (frees stands key id h k y j c unnoted fits)

  pub stamps_at : (k : Know) (h : Hold) (y : Eyes) (j : Image) (v : ℕ) (c : List (ℕ × Option S)) → m ≡ (sight k (Holding h) y, c) → h.noted ≡ None → FitsCall (state_at k h.look).core (stamp j v) → Allows (FollowsRule stands key) n id m (stamp_word j) (λ _. v) (λ _. Makes (stamp j v) (step n (stamp_word j) v 0 none) m v)
  stamps_at k h y j v c is unnoted fits = subst (λ (z : ℕ × Me (Option S) View). Allows (FollowsRule stands key) z.0 id z.1 (stamp_word j) (λ _. v) (λ _. Makes (stamp j v) (step z.0 (stamp_word j) v 0 none) z.1 v)) (λ i. (sym one i, sym is i)) (stamps stands key id h k y j v c unnoted fits)

  pub peeks_at : (k : Know) (h : Hold) (y : Eyes) (j : Image) (c : List (ℕ × Option S)) → m ≡ (sight k (Holding h) y, c) → h.noted ≡ None → ((v : ℕ) → FitsCall (state_at k h.look).core (peek j v)) → Allows (FollowsRule stands key) n id m (stamp_word j) (λ x. x) (Peeks j (step n (stamp_word j) 0 0 none) m)
  peeks_at k h y j c is unnoted fits = subst (λ (z : ℕ × Me (Option S) View). Allows (FollowsRule stands key) z.0 id z.1 (stamp_word j) (λ x. x) (Peeks j (step z.0 (stamp_word j) 0 0 none) z.1)) (λ i. (sym one i, sym is i)) (peeks stands key id h k y j c unnoted fits)

  pub claims_at : (k : Know) (h : Hold) (y : Eyes) (e : Entry) (j : Image) (late : Bool) (c : List (ℕ × Option S)) → m ≡ (sight k (Holding h) y, c) → h.noted ≡ None → h.made ≡ [] → MayClaim k h.look e j late
      → Allows (FollowsRule stands key) n id m (image_word j) (λ x. either (x == 0) (2 ^ 32) x) (Claims e late (step n (image_word j) 0 (2 ^ 32) none) m)
  claims_at k h y e j late c is unnoted unmade may = subst (λ (z : ℕ × Me (Option S) View). Allows (FollowsRule stands key) z.0 id z.1 (image_word j) (λ x. either (x == 0) (2 ^ 32) x) (Claims e late (step z.0 (image_word j) 0 (2 ^ 32) none) z.1)) (λ i. (sym one i, sym is i)) (claims stands key id h k y e j late c unnoted unmade may)

  pub returns_at : (k : Know) (j : Image) (c : List (ℕ × Option S)) → m ≡ (view k Idle, c) → 0 < length k.own → MayReturn k j → Allows (FollowsRule stands key) n id m (image_word j) (λ x. (x + (2 ^ 64 - 1)) % 2 ^ 64) (GivesBack (step n (image_word j) 1 0 none) m)
  returns_at k j c is own may = subst (λ (z : ℕ × Me (Option S) View). Allows (FollowsRule stands key) z.0 id z.1 (image_word j) (λ x. (x + (2 ^ 64 - 1)) % 2 ^ 64) (GivesBack (step z.0 (image_word j) 1 0 none) z.1)) (λ i. (sym one i, sym is i)) (returns stands key id k j c own may)

  pub searches_at : (k : Know) (u : Turn) (cs : List ℕ) (j word : ℕ) (c : List (ℕ × Option S)) → m ≡ (sight k u (Keeps cs j), c) → word ≡ exit_word front_word j → j < buffers → Allows (FollowsRule stands key) n id m word (λ x. x) (Searches (step n word 0 0 none) m)
  searches_at k u cs j word c is at near = subst (λ (z : ℕ × Me (Option S) View). Allows (FollowsRule stands key) z.0 id z.1 word (λ x. x) (Searches (step z.0 word 0 0 none) z.1)) (λ i. (sym one i, sym is i)) (searches stands key id k u cs j word c at near)

  pub finds_at : (k : Know) (u : Turn) (cs : List ℕ) (b word : ℕ) (xs : List ℕ) (c : List (ℕ × Option S)) → m ≡ (sight k u (Writes cs b xs), c) → word ≡ state_word front_word b (length xs) → length xs < buffer_words → Allows (FollowsRule stands key) n id m word (λ x. x) (Finds (step n word 0 0 none) m)
  finds_at k u cs b word xs c is at room = subst (λ (z : ℕ × Me (Option S) View). Allows (FollowsRule stands key) z.0 id z.1 word (λ x. x) (Finds (step z.0 word 0 0 none) z.1)) (λ i. (sym one i, sym is i)) (finds stands key id k u cs b word xs c at room)

  pub changes_at : (k : Know) (h : Hold) (cs : List ℕ) (b word x y : ℕ) (xs : List ℕ) (c : List (ℕ × Option S)) → m ≡ (sight k (Holding h) (Writes cs b (xs ++ y ∷ [])), c) → word ≡ state_word front_word b (length xs)
      → Allows (FollowsRule stands key) n id m word (λ _. x) (λ _. Changes (step n word x 0 none) m x)
  changes_at k h cs b word x y xs c is at = subst (λ (z : ℕ × Me (Option S) View). Allows (FollowsRule stands key) z.0 id z.1 word (λ _. x) (λ _. Changes (step z.0 word x 0 none) z.1 x)) (λ i. (sym one i, sym is i)) (changes stands key id k h cs b word x y xs c at)

  pub swaps_at : (k : Know) (h : Hold) (e : Entry) (cs : List ℕ) (b word x : ℕ) (xs : List ℕ) (c : List (ℕ × Option S)) → m ≡ (sight k (Holding h) (Writes cs b xs), c) → h.noted ≡ Some e → xs ≡ words (published_by k (h.look ++ e ∷ [])) → word ≡ front_word → x ≡ b + 16 * get_or cs b 0
      → Allows (FollowsRule stands key) n id m word (λ _. x) (Swaps (step n word x 0 none) m)
  swaps_at k h e cs b word x xs c is noted whole front at = subst (λ (z : ℕ × ℕ × Me (Option S) View). Allows (FollowsRule stands key) z.0 id z.2 z.1 (λ _. x) (Swaps (step z.0 z.1 x 0 none) z.2)) (λ i. (sym one i, sym front i, sym is i)) (swaps stands key id k h e cs b x xs c noted whole at)

  pub enters_at : (k : Know) (e : Entry) (word : ℕ) (c : List (ℕ × Option S)) → m ≡ (view k Idle, c) → word ≡ front_word → MayRead k e → Allows (FollowsRule stands key) n id m word (λ x. (x + 16) % 2 ^ 64) (EntersFor e (step n word 16 0 none) m)
  enters_at k e word c is front may = subst (λ (z : ℕ × ℕ × Me (Option S) View). Allows (FollowsRule stands key) z.0 id z.2 z.1 (λ x. (x + 16) % 2 ^ 64) (EntersFor e (step z.0 z.1 16 0 none) z.2)) (λ i. (sym one i, sym front i, sym is i)) (enters stands key id k e c may)

  pub reads_at : (k : Know) (u : Turn) (b i word : ℕ) (p : List ℕ) (c : List (ℕ × Option S)) → m ≡ (sight k u (Inside b p), c) → word ≡ state_word front_word b i → i < length p → Allows (FollowsRule stands key) n id m word (λ x. x) (Reads (step n word 0 0 none) m)
  reads_at k u b i word p c is at inside = subst (λ (z : ℕ × Me (Option S) View). Allows (FollowsRule stands key) z.0 id z.1 word (λ x. x) (Reads (step z.0 word 0 0 none) z.1)) (λ i. (sym one i, sym is i)) (reads stands key id k u b i word p c at inside)

  pub leaves_at : (k : Know) (u : Turn) (b word : ℕ) (p : List ℕ) (c : List (ℕ × Option S)) → m ≡ (sight k u (Inside b p), c) → word ≡ exit_word front_word b → Allows (FollowsRule stands key) n id m word (λ x. (x + 1) % 2 ^ 64) (Leaves (step n word 1 0 none) m)
  leaves_at k u b word p c is at = subst (λ (z : ℕ × Me (Option S) View). Allows (FollowsRule stands key) z.0 id z.1 word (λ x. (x + 1) % 2 ^ 64) (Leaves (step z.0 word 1 0 none) z.1)) (λ i. (sym one i, sym is i)) (leaves stands key id k u b word p c at)
