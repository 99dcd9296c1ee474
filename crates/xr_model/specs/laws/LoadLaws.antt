-- The script of a load by its arithmetic: how many ops of a kind it has, and at which times its frames are ended.
use Rattle.std.specs.Prelude.{◌≡◌, ◌+◌, ◌*◌, ◌/◌, ℕ, Bool, true, false, List, [], ◌∷◌, length, if◌then◌else◌}
use Rattle.xr_types.specs.declared.scenario.Op.{Op}
use Rattle.xr_types.specs.declared.scenario.Op.TheVariants as op
use Rattle.xr_types.specs.declared.scenario.Use.TheVariants.{Number, Of}
use Rattle.xr_model.specs.scenario.LoadScenario.{load_script}

-- how many of these ops are of a kind
abbrev pub how_many : (Op → Bool) → List Op → ℕ
how_many kind [] = 0
how_many kind (o ∷ os) = if kind o then how_many kind os + 1 else how_many kind os

-- a frame is waited for
abbrev pub is_wait : Op → Bool
is_wait (op.WaitFrame session) = true
is_wait _ = false

-- a frame is ended at the time that a wait gave
abbrev pub is_end : Op → Bool
is_end (op.EndFrame session (Of wait) blend layers) = true
is_end _ = false

-- a frame is ended at a time that no wait gave
abbrev pub is_wrong_end : Op → Bool
is_wrong_end (op.EndFrame session (Number time) blend layers) = true
is_wrong_end _ = false

-- A load of n frames has 7 ops ahead of them and 7 for each, of which one is a wait and one an end; for each tenth frame a wait and a
-- begin more, and for each seventh a wrong end.
pub record LoadsHaveSoManyOps : Type 0 where
  pub all : (n : ℕ) → length (load_script n) ≡ 7 + 7 * n + 2 * (n / 10) + n / 7
  pub waits : (n : ℕ) → how_many is_wait (load_script n) ≡ n + n / 10
  pub ends : (n : ℕ) → how_many is_end (load_script n) ≡ n
  pub wrong : (n : ℕ) → how_many is_wrong_end (load_script n) ≡ n / 7

-- an end at the time of a wait is at that of the wait at this place
abbrev pub IsOfWait : ℕ → Op → Type 0
IsOfWait place (op.EndFrame session (Of wait) blend layers) = wait ≡ place
IsOfWait place _ = Unit {0}

-- From a place of a script on, told where the last wait ahead stands, each such end is of the last wait ahead of it.
abbrev pub EndTheirWaits : ℕ → ℕ → List Op → Type 0  -- the place, the last wait's
EndTheirWaits place last [] = Unit {0}
EndTheirWaits place last (o ∷ os) = IsOfWait last o × EndTheirWaits (place + 1) (if is_wait o then place else last) os

-- so are those of a load
abbrev pub LoadsEndTheirWaits : Type 0
LoadsEndTheirWaits = (n : ℕ) → EndTheirWaits 1 0 (load_script n)
