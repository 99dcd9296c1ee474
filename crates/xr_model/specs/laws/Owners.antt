-- Who owns an image, read off what was decided. The state is not asked. An image is named by its place and its index, since a
-- place names one swapchain while anybody owns an image of it.
use Rattle.std.specs.Prelude.{ℕ, ◌+◌, nat_lt, Bool, true, false, List, [], ◌∷◌, if◌then◌else◌}
use Rattle.std.specs.List.{list_any}
use Rattle.xr_types.specs.declared.frames.Image.{Image}
use Rattle.xr_model.specs.machine.Images.{is_image, slot_of, times_in}
use Rattle.xr_model.specs.machine.Rule.{Did}
use Rattle.xr_model.specs.laws.DecidedEntries.{Decided}

abbrev pub has_image : Image → List Image → Bool
has_image i images = list_any (is_image i) images

-- whether an application has an image, once a call did this
abbrev pub has_behind : Image → Did → Bool → Bool
has_behind i did before = if has_image i did.claimed then true else if has_image i did.freed then false else before

-- An application owns an image from the wait that got it to its release, or to the end of its swapchain.
abbrev pub is_applications : Image → List Decided → Bool
is_applications i [] = false
is_applications i (t ∷ past) = has_behind i t.did (is_applications i past)

-- how often frames came to use an image, and how often it was given back
abbrev pub times_used : Image → List Decided → ℕ
times_used i [] = 0
times_used i (t ∷ past) = times_in t.did.used (slot_of i) + times_used i past

abbrev pub times_returned : Image → List Decided → ℕ
times_returned i [] = 0
times_returned i (t ∷ past) = times_in t.did.returned (slot_of i) + times_returned i past

-- the compositor owns an image that was used more often than it was given back
abbrev pub is_compositors : Image → List Decided → Bool
is_compositors i past = nat_lt (times_returned i past) (times_used i past)
