-- Cells of one thread: for each image a count, whether an application has it, and its stamp.
use Rattle.std.specs.Prelude.{◌≡◌, ◌+◌, ◌-◌, ◌^◌, ◌==◌, min, ℕ, Bool, true, false, List, replicate, slice_get, slice_set, unwrap_or, if◌then◌else◌}
use Rattle.xr_model.specs.machine.Images.{slot_of, image_count, stamp_in}
use Rattle.xr_model.specs.machine.CellCalls.{CellCall, pin, claim, free, stamp, peek, give_back}

pub record PlainImages : Type 0 where
  pub counts : List ℕ
  pub holders : List Bool
  pub stamps : List ℕ

-- all images of all places: none is used, no application has one, and every stamp is 0
abbrev pub no_images : PlainImages
no_images = record { counts = replicate image_count 0; holders = replicate image_count false; stamps = replicate image_count 0 }

abbrev pub count_at : PlainImages → ℕ → ℕ
count_at c k = unwrap_or (slice_get c.counts k) 0

abbrev pub with_count : PlainImages → ℕ → ℕ → PlainImages
with_count c k n = record c { counts = slice_set c.counts k n }

abbrev pub with_holder : PlainImages → ℕ → Bool → PlainImages
with_holder c k b = record c { holders = slice_set c.holders k b }

-- a claim is met where no frame uses the image
abbrev pub claimed : PlainImages → ℕ → PlainImages
claimed c k = if count_at c k == 0 then with_holder c k true else c

-- What a call answers and makes of them. A count stays at its type's ends.
abbrev pub PlainDoes : PlainImages → CellCall → PlainImages → Type 0
PlainDoes c (pin i) d = d ≡ with_count c (slot_of i) (min (count_at c (slot_of i) + 1) (2 ^ 64 - 1))
PlainDoes c (claim i b) d = (b ≡ (count_at c (slot_of i) == 0)) × (d ≡ claimed c (slot_of i))
PlainDoes c (free i) d = d ≡ with_holder c (slot_of i) false
PlainDoes c (stamp i n) d = d ≡ record c { stamps = slice_set c.stamps (slot_of i) n }
PlainDoes c (peek i n) d = (n ≡ stamp_in c.stamps i) × (d ≡ c)
PlainDoes c (give_back i) d = d ≡ with_count c (slot_of i) (count_at c (slot_of i) - 1)

-- they always may be called
abbrev pub PlainMay : PlainImages → CellCall → Type 0
PlainMay c x = Unit {0}
