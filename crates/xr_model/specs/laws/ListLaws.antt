-- What holds of the lists of what is kept by its handle: spaces, action sets, actions and suggestions.
use Rattle.std.specs.Prelude.{option_map, unwrap_or, None, [], ◌≡◌, ◌==◌, ℕ, Bool, true, false, not, List, ◌++◌, ◌∷◌, map, Some, is_some}
use Rattle.std.specs.List.{filter, list_all}
use Rattle.xr_types.specs.Code.{is_success}
use Rattle.xr_types.specs.declared.handles.Kind.TheVariants.{ActionSet, Action, Space}
use Rattle.xr_model.specs.machine.Calls.{Entry}
use Rattle.xr_types.specs.declared.calls.Call.{Call}
use Rattle.xr_types.specs.declared.calls.Call.TheVariants as ask
use Rattle.xr_model.specs.machine.Handles.{Handles, is_live, is_among}
use Rattle.xr_model.specs.machine.HandlePlaces.{parent_of, place_of}
use Rattle.xr_model.specs.machine.Paths.{text_at}
use Rattle.xr_model.specs.machine.LiveSessions.{Session, session_at, attached_in}
use Rattle.xr_model.specs.machine.Sets as inputs
use Rattle.xr_model.specs.machine.Sets.{Set, set_at, action_at, is_sealed}
use Rattle.xr_model.specs.machine.Spaces as spaces
use Rattle.xr_model.specs.machine.Spaces.{Sample, space_at}
use Rattle.xr_types.specs.declared.session.SessionState.TheVariants.{Idle}
use Rattle.xr_types.specs.declared.spaces.TheConstants.{SAMPLES}
use Rattle.std.specs.Prelude.{nat_le, length}
use Rattle.xr_model.specs.machine.State.{CoreState, Settings, State, opening}
use Rattle.xr_model.specs.machine.Machine.{step, rule, reads_of, IsAllowed}
use Rattle.xr_model.specs.machine.History.{after, IsLegal}
use Rattle.xr_model.specs.laws.SessionLaws.{is_session_creation}
use Rattle.xr_model.specs.laws.HandleLaws.{destroys, is_within}

-- a session has attached live sets alone
abbrev pub attaches_live : Handles → Session → Bool
attaches_live h x = list_all (is_live h ActionSet) (unwrap_or x.attached [])

-- Spaces, action sets and actions are listed exactly where they are live; the set of an action is its parent; what is
-- suggested is suggested for live actions; and what is attached are live sets.
pub record AreKept (s : CoreState) : Type 0 where
  pub spaces : (handle : ℕ) → is_some (space_at s.room.spaces handle) ≡ is_live s.handles Space handle
  pub sets : (handle : ℕ) → is_some (set_at s.inputs handle) ≡ is_live s.handles ActionSet handle
  pub actions : (handle : ℕ) → is_some (action_at s.inputs handle) ≡ is_live s.handles Action handle
  pub above : (handle : ℕ) (x : inputs.Action) → action_at s.inputs handle ≡ Some x → parent_of s.handles handle ≡ Some x.set
  pub suggested : list_all (list_all (λ b. is_live s.handles Action b.action)) s.suggestions ≡ true
  pub attached : list_all (attaches_live s.handles) s.sessions ≡ true

abbrev pub ListedWhereLive : Type 0
ListedWhereLive = (settings : Settings) (es : List Entry) → IsLegal settings es → AreKept (after (opening settings) es).core

-- ---- destroying

-- a session without the attached sets that are gone
abbrev pub without_attached : (ℕ → Bool) → Session → Session
without_attached gone x = record x { attached = option_map (filter (λ set. not (gone set))) x.attached }

-- what a session keeps where others go: all but its state, since the target may go, and what actions show in it, since some may go
abbrev pub staying : Session → Session
staying x = record x { life = record x.life { state = Idle }; columns = [] }

-- what a space keeps also where its action goes: its handle and its offset
abbrev pub standing : spaces.Space → ℕ × ℕ
standing x = (x.handle, x.offset)

-- each list without what is below a handle, in its order, and nothing else is gone; of a session that is left the state may
-- change, and what actions show in it
pub record AreFiltered (s new : CoreState) (gone : ℕ → Bool) : Type 0 where
  pub sessions : map staying new.sessions ≡ map staying (map (without_attached gone) (filter (λ x. not (gone x.handle)) s.sessions))
  pub sets : new.inputs.sets ≡ filter (λ x. not (gone x.handle)) s.inputs.sets
  pub actions : new.inputs.actions ≡ filter (λ x. not (gone x.handle)) s.inputs.actions
  pub spaces : map standing new.room.spaces ≡ map standing (filter (λ x. not (gone x.handle)) s.room.spaces)
  pub suggestions : new.suggestions ≡ map (λ bindings. filter (λ b. not (gone b.action)) bindings) s.suggestions

-- A call that destroys a handle takes exactly what is within it out of the lists.
abbrev pub DestroyingFilters : Type 0
DestroyingFilters =
    (settings : Settings) (es : List Entry) (e : Entry) (handle : ℕ) → IsLegal settings es → destroys e.call handle ≡ true → is_success (step (after (opening settings) es) e).1.reply.code ≡ true
    → AreFiltered (after (opening settings) es).core (step (after (opening settings) es) e).0.core (λ k. is_within 2 (after (opening settings) es).core.handles k handle)

-- ---- atoms

abbrev pub is_instance_end : Call → Bool
is_instance_end (ask.DestroyInstance instance) = true
is_instance_end _ = false

-- an atom keeps its text until the instance goes
abbrev pub AtomsStay : Type 0
AtomsStay =
    (s : State) (e : Entry) (atom : ℕ) (text : List ℕ) → is_instance_end e.call ≡ false → text_at s.core.atoms atom ≡ Some text → text_at (step s e).0.core.atoms atom ≡ Some text

-- and none is left behind its end
abbrev pub AtomsGo : Type 0
AtomsGo = (s : State) (e : Entry) → is_instance_end e.call ≡ true → is_success (step s e).1.reply.code ≡ true → (step s e).0.core.atoms ≡ []

-- ---- sealed sets

-- no action joins a sealed set, and a set that is sealed stays so as long as it is listed
pub record StaysSealed (s new : CoreState) (set : ℕ) : Type 0 where
  pub sealed : is_some (set_at new.inputs set) ≡ true → is_sealed new.inputs set ≡ true
  pub joins : (handle : ℕ) (x : inputs.Action) → action_at new.inputs handle ≡ Some x → x.set ≡ set → action_at s.inputs handle ≡ Some x

abbrev pub SealedStays : Type 0
SealedStays = (s : State) (e : Entry) (set : ℕ) → is_sealed s.core.inputs set ≡ true → StaysSealed s.core (step s e).0.core set

-- ---- attaching

abbrev pub attaches : Call → ℕ → Bool
attaches (ask.AttachSets session sets) handle = session == handle
attaches _ handle = false

-- the call attaches this set
abbrev pub seals : Call → ℕ → Bool
seals (ask.AttachSets session sets) set = is_among sets set
seals _ set = false

-- a set that is attached is sealed
abbrev pub AttachingSeals : Type 0
AttachingSeals =
    (s : State) (e : Entry) (set : ℕ) → seals e.call set ≡ true → is_success (step s e).1.reply.code ≡ true → is_some (set_at (step s e).0.core.inputs set) ≡ true → is_sealed (step s e).0.core.inputs set ≡ true

-- a new session has attached nothing
abbrev pub NewSessionsAreBare : Type 0
NewSessionsAreBare =
    (settings : Settings) (es : List Entry) (e : Entry) → IsLegal settings es → IsAllowed (after (opening settings) es) e → is_session_creation e.call ≡ true → is_success (step (after (opening settings) es) e).1.reply.code ≡ true
    → attached_in (session_at (step (after (opening settings) es) e).0.core.sessions e.given) ≡ None

-- a session attaches sets at most once
abbrev pub AttachesOnce : Type 0
AttachesOnce =
    (settings : Settings) (es fs : List Entry) (e f : Entry) (session : ℕ) → IsLegal settings (es ++ e ∷ fs)
    → attaches e.call session ≡ true → is_success (step (after (opening settings) es) e).1.reply.code ≡ true
    → attaches f.call session ≡ true → is_success (step (after (opening settings) (es ++ e ∷ fs)) f).1.reply.code ≡ false

-- ---- places and parents of others

pub record SamePlace (h new : Handles) (other : ℕ) : Type 0 where
  pub parent : parent_of new other ≡ parent_of h other
  pub place : place_of new other ≡ place_of h other

-- a call that gives a handle leaves the parent and the place of every other
abbrev pub CreatingLeavesPlaces : Type 0
CreatingLeavesPlaces =
    (s : State) (e : Entry) → is_some (rule s.core (reads_of s e.call) e).creates ≡ true
    → (other : ℕ) → (other == e.given) ≡ false → SamePlace s.core.handles (step s e).0.core.handles other

-- a call that destroys a handle leaves the parent and the place of all that is not within it
abbrev pub DestroyingLeavesPlaces : Type 0
DestroyingLeavesPlaces =
    (settings : Settings) (es : List Entry) (e : Entry) (handle : ℕ) → IsLegal settings es → destroys e.call handle ≡ true → is_success (step (after (opening settings) es) e).1.reply.code ≡ true
    → (other : ℕ) → is_within 2 (after (opening settings) es).core.handles other handle ≡ false → SamePlace (after (opening settings) es).core.handles (step (after (opening settings) es) e).0.core.handles other

-- ---- samples

-- of each origin so many samples are kept at most
abbrev pub are_few : List (List Sample) → Bool
are_few samples = list_all (λ kept. nat_le (length kept) SAMPLES) samples

abbrev pub SamplesAreFew : Type 0
SamplesAreFew = (settings : Settings) (es : List Entry) → are_few (after (opening settings) es).core.room.samples ≡ true
