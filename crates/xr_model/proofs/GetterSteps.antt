-- What a getter does: nothing, and what it is answered.
use Rattle.std.proofs.Common.{◌≡◌, ℕ, true, Option, Some, None, refl, sym, ap, true≢false}
use Rattle.xr_types.specs.declared.input.ActionType.{ActionType}
use Rattle.xr_types.specs.declared.input.ActionType.TheVariants as type
use Rattle.xr_model.specs.machine.Publication.{Publication, publication_of, loss_read, getter_gives}
use Rattle.xr_model.specs.machine.Refusals.{Refusal, first_of}
use Rattle.xr_types.specs.CallKinds.{is_getter}
use Rattle.xr_model.specs.machine.Calls.{Entry}
use Rattle.xr_types.specs.declared.calls.Call.{Call}
use Rattle.xr_types.specs.declared.calls.Call.TheVariants as ask
use Rattle.xr_model.specs.machine.Reads.{answered, reads}
use Rattle.xr_model.specs.machine.Rule.{Rule, refusals, refusal, unless_refused, told_on, decided_call}
use Rattle.xr_model.specs.machine.Rules.Sync.{getter_rule}
use Rattle.xr_model.specs.machine.SessionRule.{Loss}
use Rattle.xr_model.specs.machine.State.{CoreState, State}
use Rattle.xr_model.specs.machine.Machine.{step, ready, cells_after}
use Rattle.xr_model.specs.laws.PublicationLaws.{GettersChangeNothing, GettersAreReady, GettersRead}

-- ---- what it leaves

module _ (s : State) (e : Entry) (wanted : ActionType) (session action sub : ℕ) where
  abbrev made : Rule
  made = getter_rule s.core wanted session action sub

  stays : (o : Option Refusal) → record {
    core = record (unless_refused s.core o (told_on made.on made.effect)).state { apps = s.core.apps; locked = s.core.locked; published = s.core.published };
    cells = cells_after s.cells (unless_refused s.core o (told_on made.on made.effect)).did;
  } ≡ s
  stays None = refl
  stays (Some r) = refl

  all_stays : record {
    core = record (unless_refused s.core (refusal e.short made) (told_on made.on made.effect)).state { apps = s.core.apps; locked = s.core.locked; published = s.core.published };
    cells = cells_after s.cells (unless_refused s.core (refusal e.short made) (told_on made.on made.effect)).did;
  } ≡ s
  all_stays = stays (refusal e.short made)

pub getters_change_nothing : GettersChangeNothing
getters_change_nothing s e is = by e.call is
  where
    by : (r : Call) → is_getter r ≡ true → (step s (record e { call = r })).0 ≡ s
    by (ask.GetBoolean session action sub) is = all_stays s e type.Boolean session action sub
    by (ask.GetFloat session action sub) is = all_stays s e type.Float session action sub
    by (ask.GetVector session action sub) is = all_stays s e type.Vector session action sub
    by (ask.GetPoseActive session action sub) is = all_stays s e type.Pose session action sub
    by _ is = absurd (true≢false (sym is))

pub getters_are_ready : GettersAreReady
getters_are_ready s e is = by e.call is
  where
    by : (r : Call) → is_getter r ≡ true → ready s (record e { call = r }) ≡ true
    by (ask.GetBoolean session action sub) is = refl
    by (ask.GetFloat session action sub) is = refl
    by (ask.GetVector session action sub) is = refl
    by (ask.GetPoseActive session action sub) is = refl
    by _ is = absurd (true≢false (sym is))

-- ---- what it is answered

module _ (s : CoreState) (wanted : ActionType) (session action sub : ℕ) where
  abbrev asked : Rule
  asked = getter_rule s wanted session action sub

  abbrev published : Publication
  published = publication_of s

  abbrev loss : Loss
  loss = loss_read published session

  -- by what refuses it
  carried : (o : Option Refusal) → answered published loss o (getter_gives published wanted session action sub) ≡ (decided_call s (ask.GetBoolean session action sub) (unless_refused s o (told_on asked.on asked.effect))).1
  carried None = refl
  carried (Some r) = refl

  all_carried : answered published loss (first_of (refusals asked)) (getter_gives published wanted session action sub)
      ≡ (decided_call s (ask.GetBoolean session action sub) (unless_refused s (first_of (refusals asked)) (told_on asked.on asked.effect))).1
  all_carried = carried (first_of (refusals asked))

pub getters_read : GettersRead
getters_read s e is = by e.call is
  where
    by : (r : Call) → is_getter r ≡ true → reads (publication_of s.core) r ≡ Some (step s (record e { call = r })).1
    by (ask.GetBoolean session action sub) is = ap Some (all_carried s.core type.Boolean session action sub)
    by (ask.GetFloat session action sub) is = ap Some (all_carried s.core type.Float session action sub)
    by (ask.GetVector session action sub) is = ap Some (all_carried s.core type.Vector session action sub)
    by (ask.GetPoseActive session action sub) is = ap Some (all_carried s.core type.Pose session action sub)
    by _ is = absurd (true≢false (sym is))
