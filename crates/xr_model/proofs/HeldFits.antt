-- The images that the compositor holds are those of the frames taken but for those given back.
use Rattle.std.proofs.Common.{◌≡◌, ◌==◌, ◌+◌, ℕ, Bool, true, not, List, [], ◌∷◌, length, Option, Some, None, refl, sym, append-nil, arith, true≢false}
use Rattle.std.specs.Prelude.{nat_lt}
use Rattle.std.proofs.lemmas.Bool.Decides.{nat_tests}
use Rattle.xr_types.specs.declared.frames.Image.{Image}
use Rattle.xr_model.specs.machine.Frames.{is_empty}
use Rattle.xr_model.specs.machine.Refusals.{Refusal}
use Rattle.xr_model.specs.machine.Calls.{Entry}
use Rattle.xr_types.specs.declared.calls.Call.{Call}
use Rattle.xr_types.specs.declared.calls.Call.TheVariants as ask
use Rattle.xr_model.specs.machine.State.{Settings, CoreState, CellReads, State, opening}
use Rattle.xr_model.specs.machine.SessionRule.{Loss}
use Rattle.xr_model.specs.machine.Rule.{Rule, Did, nothing_done, refusal, told_on, unless_refused, carried_out}
use Rattle.xr_model.specs.machine.Images.{first_images}
use Rattle.xr_model.specs.machine.Machine.{effect, rule, step, reads_of, held_after}
use Rattle.xr_model.specs.machine.History.{after}
use Rattle.xr_model.specs.laws.DecidedEntries.{Decided, decided, past_from, past_of, taken_images, given_back}
use Rattle.xr_model.proofs.FrameOrder.{clear, not_false}
use Rattle.xr_model.specs.laws.Soundness.{IsAside}

-- ---- what a call did

-- a call did nothing, or what its rule says
pub did_kept : (P : Did → Type 0) (s : CoreState) (short : Bool) (f : Rule) → P nothing_done → P f.effect.did → P (carried_out s short f).did
did_kept P s short f nothing done = by (refusal short f) f.on
  where
    by : (o : Option Refusal) (on : Option Loss) → P (unless_refused s o (told_on on f.effect)).did
    by None None = done
    by None (Some loss) = done
    by (Some r) on = nothing

-- nothing was taken or given back
pub record LeavesHeld (did : Did) : Type 0 where
  pub taken : did.taken ≡ []
  pub returned : did.returned ≡ []

-- the other calls leave what is held
pub leaves_held : (s : CoreState) (reads : CellReads) (e : Entry) → IsAside e.call → LeavesHeld (effect s reads e).did
leaves_held s reads e = by e.call
  where
    by : (r : Call) → IsAside r → LeavesHeld (effect s reads (record e { call = r })).did
    by ask.NextFrame aside = absurd aside
    by ask.ImageDone aside = absurd aside
    by r aside = did_kept LeavesHeld s e.short (rule s reads (record e { call = r })) (record { taken = refl; returned = refl }) (record { taken = refl; returned = refl })

-- ---- what is held

abbrev pub HeldFits : List Image → List Decided → Type 0
HeldFits held past = taken_images past ≡ given_back past + length held

pub none_is_empty : (hs : List Image) → is_empty hs ≡ true → hs ≡ []
none_is_empty [] e = refl
none_is_empty (i ∷ hs) e = absurd (true≢false (sym e))

-- what is held where nothing was taken or given back
left : (did : Did) (held : List Image) (past : List Decided) → did.taken ≡ [] → did.returned ≡ [] → HeldFits held past → length did.taken + taken_images past ≡ given_back past + length (held_after held did)
left did held past taken returned fits = rw (taken, returned) (omega (arith, fits))

held_step : (s : State) (e : Entry) (past : List Decided) → HeldFits s.cells.held past → HeldFits (step s e).0.cells.held (decided s e ∷ past)
held_step s e past fits = by e.call
  where
    by : (r : Call) → HeldFits (step s (record e { call = r })).0.cells.held (decided s (record e { call = r }) ∷ past)
    by ask.NextFrame = taken (refusal e.short f) refl
      where
        f : Rule
        f = rule s.core (reads_of s ask.NextFrame) (record e { call = ask.NextFrame })

        taken : (o : Option Refusal) → refusal e.short f ≡ o → length (unless_refused s.core o f.effect).did.taken + taken_images past ≡ given_back past + length (held_after s.cells.held (unless_refused s.core o f.effect).did)
        taken (Some r) found = omega (arith, fits)
        taken None found =
            let none = none_is_empty s.cells.held (not_false (is_empty s.cells.held) (clear f e.short found).order) in
            let same : taken_images past ≡ given_back past + 0 = rw none at fits in
            rw (none, append-nil (first_images s.core.frames.pending)) (omega (arith, same))
    by ask.ImageDone = gives s.cells.held refl fits
      where
        gives : (hs : List Image) → s.cells.held ≡ hs → HeldFits hs past → HeldFits (step s (record e { call = ask.ImageDone })).0.cells.held (decided s (record e { call = ask.ImageDone }) ∷ past)
        gives [] is fits = rw is (omega (arith, fits))
        gives (i ∷ hs) is fits = rw is (omega (arith, fits))
    by r =
        let still = leaves_held s.core (reads_of s r) (record e { call = r }) tt in
        left (effect s.core (reads_of s r) (record e { call = r })).did s.cells.held past still.taken still.returned fits

held_after_all : (s : State) (past : List Decided) (es : List Entry) → HeldFits s.cells.held past → HeldFits (after s es).cells.held (past_from s past es)
held_after_all s past [] fits = fits
held_after_all s past (e ∷ es) fits = held_after_all (step s e).0 (decided s e ∷ past) es (held_step s e past fits)

pub held_history : (settings : Settings) (es : List Entry) → HeldFits (after (opening settings) es).cells.held (past_of settings es)
held_history settings es = held_after_all (opening settings) [] es refl

-- what is held, by the counts
pub some_held : (hs : List Image) (given taken : ℕ) → taken ≡ given + length hs → not (is_empty hs) ≡ nat_lt given taken
some_held [] given taken e = grind (arith, nat_tests, e)
some_held (i ∷ hs) given taken e = grind (arith, nat_tests, e)

pub none_held : (hs : List Image) (given taken : ℕ) → taken ≡ given + length hs → is_empty hs ≡ (given == taken)
none_held [] given taken e = grind (arith, nat_tests, e)
none_held (i ∷ hs) given taken e = grind (arith, nat_tests, e)
