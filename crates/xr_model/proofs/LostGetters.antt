-- Getters of a lost session are refused as the other calls on a session are.
use Rattle.std.proofs.Common.{◌≡◌, ◌==◌, ◌&&◌, ◌∙◌, ℕ, Bool, true, false, not, List, [], ◌∷◌, Option, Some, None, refl, sym, ap, subst, true≢false}
use Rattle.std.specs.Prelude.{◌↔◌, is_some, is_none, option_map}
use Rattle.xr_types.specs.declared.code.Code.TheVariants.{HandleInvalid, SessionLost}
use Rattle.xr_types.specs.declared.handles.Kind.TheVariants as kind
use Rattle.xr_types.specs.declared.input.ActionType.{ActionType}
use Rattle.xr_types.specs.declared.input.ActionType.TheVariants as type
use Rattle.xr_types.specs.declared.calls.Call.{Call}
use Rattle.xr_types.specs.declared.calls.Call.TheVariants as ask
use Rattle.xr_model.specs.machine.Handles.{has, is_live}
use Rattle.xr_model.specs.machine.LiveSessions.{Session, session_at, life_in}
use Rattle.xr_model.specs.machine.Publication.{publication_of, published_at, published_action, session_read, loss_read}
use Rattle.xr_model.specs.machine.Refusals.{when, first_of}
use Rattle.xr_model.specs.machine.Calls.{Entry}
use Rattle.xr_model.specs.machine.Rule.{Rule, carried_out}
use Rattle.xr_model.specs.machine.Rules.Sync.{getter_rule}
use Rattle.xr_model.specs.machine.SessionRule.{Loss}
use Rattle.xr_model.specs.machine.Sets as sets
use Rattle.xr_model.specs.machine.Sets.{action_at}
use Rattle.xr_model.specs.machine.State.{CoreState, Settings, opening}
use Rattle.xr_model.specs.machine.Machine.{step}
use Rattle.xr_model.specs.machine.History.{after, IsLegal}
use Rattle.xr_model.specs.laws.SessionLaws.{is_getter_of, was_lost, LostGetters}
use Rattle.xr_model.proofs.Lists.{all_kept}
use Rattle.xr_model.proofs.LostSessions.{known_loss, sessions_are_listed}
use Rattle.xr_model.proofs.PublishedPlaces.{action_read, listed_read, read_listed, loss_is_read}
use Rattle.xr_model.proofs.Rows.{both_of, not_true, same_key}
use Rattle.xr_model.proofs.SessionAnswers.{Sessionless, answered_lost}

-- ---- the session that is read

-- its being lost is what is read
lost_read : (s : CoreState) (session : ℕ) → is_none (session_read (publication_of s) session) ≡ false → (is_some (session_at s.sessions session) ≡ true) × ((loss_read (publication_of s) session).lost ≡ (life_in (session_at s.sessions session)).lost)
lost_read s session there =
    let it = read_listed s session there in
    (ap is_some it.listed, ap (λ (l : Loss). l.lost) (loss_is_read s session it) ∙ ap (λ (o : Option Session). (life_in o).lost) (sym it.listed))

live_number : (s : CoreState) (session : ℕ) → is_live s.handles kind.Session session ≡ true → (session == 0) ≡ false
live_number s session live = not_true (session == 0) (both_of (not (session == 0)) (has s.handles.sessions session) live).0

-- a live action is published
published : (s : CoreState) (action : ℕ) → is_some (action_at s.inputs action) ≡ true → is_none (published_at (publication_of s) action) ≡ false
published s action listed = ap is_none (action_read s action) ∙ by (action_at s.inputs action) listed
  where
    by : (o : Option sets.Action) → is_some o ≡ true → is_none (option_map published_action o) ≡ false
    by None listed = absurd (true≢false (sym listed))
    by (Some x) listed = refl

-- ---- the handles of a getter

live_two : (b c : Bool) → c ≡ false → ((first_of (when b HandleInvalid ∷ when c HandleInvalid ∷ []) ≡ None) ↔ (b ≡ false))
live_two b true e = absurd (true≢false e)
live_two true false e = ((λ n. cc), (λ n. absurd (true≢false n)))
live_two false false e = ((λ n. refl), (λ n. refl))

pub only_first : (b c : Bool) → first_of (when b HandleInvalid ∷ when c HandleInvalid ∷ []) ≡ None → b ≡ false
only_first false c e = refl
only_first true c e = cc

pub less : (s : CoreState) (wanted : ActionType) (session action sub : ℕ) → Sessionless (getter_rule s wanted session action sub)
less s wanted session action sub = record { handles = refl; before = refl; behind = refl; code = refl }

-- ---- the answers

module _ (settings : Settings) (es : List Entry) (e : Entry) (legal : IsLegal settings es) (wanted : ActionType) (session action sub : ℕ) where
  abbrev s : CoreState
  s = (after (opening settings) es).core

  abbrev asked : Rule
  asked = getter_rule s wanted session action sub

  listed : (p : ℕ) → is_some (session_at s.sessions p) ≡ is_live s.handles kind.Session p
  listed p = sessions_are_listed settings es legal p

  lost_one : is_live s.handles kind.Action action ≡ true
      → ((carried_out s e.short asked).code ≡ SessionLost) ↔ ((is_live s.handles kind.Session session ≡ true) × (was_lost session false es ≡ true))
  lost_one live =
      let there = published s action ((all_kept settings es legal).actions action ∙ live) in
      let answer = answered_lost s e.short asked (loss_read (publication_of s) session) refl (less s wanted session action sub) in
      let two = live_two (is_none (session_read (publication_of s) session)) (is_none (published_at (publication_of s) action)) there in (
        (λ code.
            let both = answer.0 code in
            let seen = lost_read s session (two.0 both.0) in
            let is = sym (listed session) ∙ seen.0 in
            (is, sym (known_loss settings es session legal is) ∙ sym seen.1 ∙ both.1)),
        (λ both.
            let is = listed_read s session (live_number s session both.0) (listed session ∙ both.0) in
            answer.1 (two.1 is, (lost_read s session is).1 ∙ known_loss settings es session legal both.0 ∙ both.1)),
      )

pub lost_getters : LostGetters
lost_getters settings es e session action legal named live = by e.call named
  where
    turned : (wanted : ActionType) (a b sub : ℕ) → (a == session) && (b == action) ≡ true
        → ((carried_out (after (opening settings) es).core e.short (getter_rule (after (opening settings) es).core wanted a b sub)).code ≡ SessionLost)
        ↔ ((is_live (after (opening settings) es).core.handles kind.Session session ≡ true) × (was_lost session false es ≡ true))
    turned wanted a b sub named =
        let both = both_of (a == session) (b == action) named in
        let same = same_key a session both.0 in
        let same_action = same_key b action both.1 in
        subst (λ (n : ℕ). ((carried_out (after (opening settings) es).core e.short (getter_rule (after (opening settings) es).core wanted a b sub)).code ≡ SessionLost) ↔ ((is_live (after (opening settings) es).core.handles kind.Session n ≡ true) × (was_lost n false es ≡ true)))
        same (lost_one settings es e legal wanted a b sub (subst (λ (n : ℕ). is_live (after (opening settings) es).core.handles kind.Action n ≡ true) (sym same_action) live))

    by : (r : Call) → is_getter_of r session action ≡ true → ((step (after (opening settings) es) (record e { call = r })).1.reply.code ≡ SessionLost)
        ↔ ((is_live (after (opening settings) es).core.handles kind.Session session ≡ true) × (was_lost session false es ≡ true))
    by (ask.GetBoolean a b sub) named = turned type.Boolean a b sub named
    by (ask.GetFloat a b sub) named = turned type.Float a b sub named
    by (ask.GetVector a b sub) named = turned type.Vector a b sub named
    by (ask.GetPoseActive a b sub) named = turned type.Pose a b sub named
    by _ named = absurd (true≢false (sym named))
