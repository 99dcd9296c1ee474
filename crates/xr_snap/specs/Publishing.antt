-- What publishing asks of the holder, and what it tells.
use Rattle.std.specs.Prelude.{◌≡◌, ℕ, List, [], ◌∷◌, ◌++◌, Option, Some}
use Rattle.atomic_table.specs.Table.{Me}
use Rattle.xr_model.specs.machine.Calls.{Entry}
use Rattle.xr_model.specs.machine.PublicationWords.{words}
use Rattle.xr_rule.specs.Plays.{published_by, Publishes}
use Rattle.xr_rule.specs.Seats.{holder}
use Rattle.xr_rule.specs.View.{Hold, Turn, View, Holding, Keeps, Writes}

abbrev pub IsHolding : Turn → Type 0
IsHolding u = (h : Hold) × (u ≡ Holding h)

module _ {S : Type 0} where
  -- The holder has noted an entry and keeps these counts, and these are the words of what is published behind the entry.
  pub record MayPublish (m : Me (Option S) View) (counts ws : List ℕ) : Type 0 where
    pub hold : Hold
    pub entry : Entry
    pub is : m ≡ holder m.0.know hold (Keeps counts 0)
    pub noted : hold.noted ≡ Some entry
    pub words_are : ws ≡ words (published_by m.0.know (hold.look ++ entry ∷ []))

  -- The holder has written them into this buffer.
  pub record MayShow (m : Me (Option S) View) (counts : List ℕ) (b : ℕ) : Type 0 where
    pub hold : Hold
    pub entry : Entry
    pub is : m ≡ holder m.0.know hold (Writes counts b (words (published_by m.0.know (hold.look ++ entry ∷ []))))
    pub noted : hold.noted ≡ Some entry

  -- The noted entry is decided, and the holder holds on with these counts.
  abbrev pub HasPublished : Me (Option S) View → Me (Option S) View → List ℕ → Type 0
  HasPublished m n counts = (h : Hold) (e : Entry) → m ≡ holder m.0.know h m.0.eyes → h.noted ≡ Some e → (n.1 ≡ m.1) × Publishes m.0.know h e counts n.0
