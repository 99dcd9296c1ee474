-- What was published last in a legal history is what the state behind it gives.
use Rattle.std.proofs.Common.{◌≡◌, ◌+◌, ◌||◌, ◌++◌, ◌⊎◌, inl, inr, ℕ, ℤ, not, Bool, true, false, List, [], ◌∷◌, length, Option, Some, None, refl, sym, ap, subst, ◌∙◌, true≢false}
use Rattle.std.specs.List.{list_any, filter}
use Rattle.std.specs.Prelude.{if◌then◌else◌}
use Rattle.xr_types.specs.declared.code.Code.TheVariants.{HandleInvalid, CallOrderInvalid}
use Rattle.xr_types.specs.declared.handles.Kind.TheVariants as kind
use Rattle.xr_types.specs.declared.input.User.{User}
use Rattle.xr_types.specs.declared.input.User.TheVariants as user
use Rattle.xr_model.specs.machine.Handles.{is_live, is_among, destroyed_by}
use Rattle.xr_model.specs.machine.Publication.{Publication, publication_of}
use Rattle.xr_types.specs.CallKinds.{publishes}
use Rattle.xr_model.specs.machine.Reads.{published_behind, published_from}
use Rattle.xr_model.specs.machine.Refusals.{Refusal, when}
use Rattle.xr_model.specs.machine.Calls.{Entry}
use Rattle.xr_types.specs.declared.calls.Call.{Call}
use Rattle.xr_types.specs.declared.calls.Call.TheVariants as ask
use Rattle.xr_model.specs.machine.Rule.{Effect, refusal, unless_refused, told_on}
use Rattle.xr_model.specs.machine.Rules.Device.{behind_event}
use Rattle.xr_model.specs.machine.Sets.{Action, is_declared, no_users, without_inputs}
use Rattle.xr_model.specs.machine.State.{CoreState, CellReads, Settings, State, opening}
use Rattle.xr_model.specs.machine.Machine.{IsAllowed, core_step, effect, reads_of, rule, step}
use Rattle.xr_model.specs.machine.History.{after, clocks_after, opening_clocks, IsLegalFrom}
use Rattle.xr_types.specs.declared.device.DeviceEvent.{DeviceEvent}
use Rattle.xr_types.specs.declared.device.DeviceEvent.TheVariants as event
use Rattle.xr_model.specs.laws.HandleLaws.{AreUnder, StandOnce}
use Rattle.xr_model.specs.laws.PublicationLaws.{PublishedIsCurrent}
use Rattle.xr_model.proofs.Destroying.{known_step, known_opening}
use Rattle.xr_model.proofs.FrameOrder.{length_put, length_cleared}
use Rattle.xr_model.proofs.HandleSteps as handles
use Rattle.xr_model.proofs.ListSteps.{Has}
use Rattle.xr_model.proofs.Lists.{Kept, kept_step, none_kept}
use Rattle.xr_model.proofs.NothingLeft.{none_left}
use Rattle.xr_model.proofs.Orphans.{under_step}
use Rattle.xr_model.proofs.PublishedContents.{contents_stay}
use Rattle.xr_model.proofs.StandOnce.{once_step, none_once}
use Rattle.xr_model.proofs.UserAtoms.{known_user, declared_known, KnowsDeclared}
use Rattle.xr_model.specs.laws.Soundness.{AreKnown}

-- ---- what an entry leaves of the atoms that are declared

any_more : {T : Type 0} (p : T → Bool) (xs : List T) (y : T) → list_any p (xs ++ y ∷ []) ≡ true → (list_any p xs ≡ true) ⊎ (p y ≡ true)
any_more p [] y is = by (p y) is
  where
    by : (b : Bool) → b || false ≡ true → (false ≡ true) ⊎ (b ≡ true)
    by true is = inr refl
    by false is = inl is
any_more p (x ∷ xs) y is = by (p x) is (any_more p xs y)
  where
    by : (b : Bool) → b || list_any p (xs ++ y ∷ []) ≡ true → (list_any p (xs ++ y ∷ []) ≡ true → (list_any p xs ≡ true) ⊎ (p y ≡ true)) → (b || list_any p xs ≡ true) ⊎ (p y ≡ true)
    by true is more = inl refl
    by false is more = more is

any_left : {T : Type 0} (p q : T → Bool) (xs : List T) → list_any p (filter q xs) ≡ true → list_any p xs ≡ true
any_left p q [] is = is
any_left p q (x ∷ xs) is = by (q x) (p x) refl is (any_left p q xs)
  where
    by : (c b : Bool) → p x ≡ b → list_any p (if c then x ∷ filter q xs else filter q xs) ≡ true → (list_any p (filter q xs) ≡ true → list_any p xs ≡ true) → b || list_any p xs ≡ true
    by c true eb is more = refl
    by true false eb is more = more (rw eb at is)
    by false false eb is more = more is

-- as long as nothing refuses it, an entry does what its rule says
kept : (P : CoreState → Type 0) (s : CoreState) (o : Option Refusal) (x : Effect) → P s → (o ≡ None → P x.state) → P (unless_refused s o x).state
kept P s None x same done = done refl
kept P s (Some r) x same done = same

abbrev Knows : CoreState → Type 0
Knows s = KnowsDeclared s.atoms s.inputs.actions

events_know : (s : CoreState) (what : DeviceEvent) → Knows s → Knows (behind_event s what)
events_know s (event.Clock time) known = known
events_know s _ known = known

none_declared : (atoms : List (List ℕ)) (actions : List Action) → actions ≡ [] → KnowsDeclared atoms actions
none_declared atoms actions none who is = absurd (true≢false (sym is ∙ ap (λ (xs : List Action). list_any (λ x. is_declared x.declared who) xs) none))

-- ---- what is sound

-- what the publication of a state stands on
pub record IsSound (s : CoreState) : Type 0 where
  pub one : length s.handles.instances ≡ 1
  pub under : AreUnder s.handles
  pub known : AreKnown s.handles
  pub once : StandOnce s.handles
  pub kept : Has Kept s
  pub declared : Knows s

-- nobody is declared at first
undeclared : (who : User) → is_declared no_users who ≡ true → ⊥
undeclared user.Left bad = true≢false (sym bad)
undeclared _ bad = true≢false (sym bad)

-- a destroyed handle
module _ (s : CoreState) (reads : CellReads) (e : Entry) (sound : IsSound s) where
  left : (handle : ℕ) → Knows (record s { inputs = without_inputs s.inputs (destroyed_by s.handles handle) })
  left handle who is = sound.declared who (any_left (λ x. is_declared x.declared who) (λ x. not (is_among (destroyed_by s.handles handle) x.handle)) s.inputs.actions is)

  instance_gone : (instance : ℕ) → is_live s.handles kind.Instance instance ≡ true → KnowsDeclared [] (without_inputs s.inputs (destroyed_by s.handles instance)).actions
  instance_gone instance live = none_declared [] (without_inputs s.inputs (destroyed_by s.handles instance)).actions (none_left s instance sound.one live sound.under sound.once sound.kept)

  declared_step : Knows (core_step s reads e).0
  declared_step = by e.call
    where
      by : (r : Call) → Knows (core_step s reads (record e { call = r })).0
      by (ask.StringToPath instance text) =
          let f = rule s reads (record e { call = ask.StringToPath instance text }) in
          kept Knows s (refusal e.short f) (told_on f.on f.effect) sound.declared (λ none who is. rw (known_user s.atoms text who (sound.declared who is)) (sound.declared who is))
      by (ask.CreateAction set name type subs localized) =
          let f = rule s reads (record e { call = ask.CreateAction set name type subs localized }) in
          kept Knows s (refusal e.short f) (told_on f.on f.effect) sound.declared (λ none who is.
          elim (any_more (λ x. is_declared x.declared who) s.inputs.actions _ is) [
            | inl before ↦ sound.declared who before
            | inr new ↦ declared_known s.atoms subs no_users who (λ bad. absurd (undeclared who bad)) new
          ])
      by (ask.DestroyInstance instance) =
          let f = rule s reads (record e { call = ask.DestroyInstance instance }) in
          kept Knows s (refusal e.short f) (told_on f.on f.effect) sound.declared (λ none. instance_gone instance (handles.first_fails (is_live s.handles kind.Instance instance) HandleInvalid (when false CallOrderInvalid ∷ []) none))
      by (ask.DestroySession session) =
          let f = rule s reads (record e { call = ask.DestroySession session }) in
          kept Knows s (refusal e.short f) (told_on f.on f.effect) sound.declared (λ none. left session)
      by (ask.DestroyActionSet set) =
          let f = rule s reads (record e { call = ask.DestroyActionSet set }) in
          kept Knows s (refusal e.short f) (told_on f.on f.effect) sound.declared (λ none. left set)
      by (ask.DestroyAction action) =
          let f = rule s reads (record e { call = ask.DestroyAction action }) in
          kept Knows s (refusal e.short f) (told_on f.on f.effect) sound.declared (λ none. left action)
      by (ask.Device what) = events_know s what sound.declared
      by r =
          let f = rule s reads (record e { call = r }) in
          kept Knows s (refusal e.short f) (told_on f.on f.effect) sound.declared (λ none. sound.declared)

  -- there is one place for an instance
  one_step : length (core_step s reads e).0.handles.instances ≡ 1
  one_step = handles.kept_by_step (λ h. length h.instances ≡ 1) s reads e (record {
    same = sound.one;
    instance = λ gives. length_put (record { handle = e.given; parent = 0 }) s.handles.instances ∙ sound.one;
    session = λ gives instance live. sound.one;
    set = λ gives instance live. sound.one;
    action = λ gives set live. sound.one;
    space = λ gives session live. sound.one;
    chain = λ is gives session live. sound.one;
    without = λ handle. length_cleared handle [] s.handles.instances ∙ sound.one;
    alone = λ space. sound.one;
    chain_alone = λ chain. sound.one;
  })

pub sound_step : (s : State) (e : Entry) → IsAllowed s e → IsSound s.core → IsSound (step s e).0.core
sound_step s e allowed sound = record {
  one = one_step s.core (reads_of s e.call) e sound;
  under = under_step s e sound.under;
  known = known_step s e sound.known;
  once = once_step s e allowed sound.known sound.once;
  kept = kept_step s e allowed sound.known sound.once sound.kept;
  declared = declared_step s.core (reads_of s e.call) e sound;
}

pub sound_opening : (settings : Settings) → IsSound (opening settings).core
sound_opening settings = record {
  one = refl;
  under = record { sessions = refl; sets = refl; actions = refl; spaces = refl; chains = refl };
  known = known_opening settings;
  once = none_once;
  kept = none_kept settings;
  declared = λ who is. absurd (true≢false (sym is));
}

pub sound_after : (s : State) (clocks : List ℤ) (es : List Entry) → IsLegalFrom s clocks es → IsSound s.core → IsSound (after s es).core
sound_after s clocks [] legal sound = sound
sound_after s clocks (e ∷ es) legal sound = sound_after (step s e).0 (clocks_after clocks e (step s e).0) es legal.3 (sound_step s e legal.0 sound)

-- ---- over a history

-- behind an entry that doesn't publish
pub stays_published : (s : State) (e : Entry) → IsSound s.core → publishes e.call (step s e).1.reply.code ≡ false → publication_of (step s e).0.core ≡ publication_of s.core
stays_published s e sound quiet =
    let t = (effect s.core (reads_of s e.call) e).state in
    subst (λ (n : ℕ). publication_of (record t { published = n }) ≡ publication_of s.core) (sym (ap (λ b. if b then s.core.locked + 1 else s.core.published) quiet)) (contents_stay s.core (reads_of s e.call) e sound.declared quiet)

behind : (s : State) (e : Entry) → IsSound s.core → published_behind (publication_of s.core) s e ≡ publication_of (step s e).0.core
behind s e sound = by (publishes e.call (step s e).1.reply.code) refl
  where
    by : (b : Bool) → publishes e.call (step s e).1.reply.code ≡ b → (if b then publication_of (step s e).0.core else publication_of s.core) ≡ publication_of (step s e).0.core
    by true eb = refl
    by false eb = sym (stays_published s e sound eb)

current_from : (s : State) (clocks : List ℤ) (es : List Entry) → IsLegalFrom s clocks es → IsSound s.core → published_from (publication_of s.core) s es ≡ publication_of (after s es).core
current_from s clocks [] legal sound = refl
current_from s clocks (e ∷ es) legal sound =
    ap (λ (p : Publication). published_from p (step s e).0 es) (behind s e sound)
    ∙ current_from (step s e).0 (clocks_after clocks e (step s e).0) es legal.3 (sound_step s e legal.0 sound)

pub published_is_current : PublishedIsCurrent
published_is_current settings es legal = current_from (opening settings) (opening_clocks settings) es legal (sound_opening settings)
