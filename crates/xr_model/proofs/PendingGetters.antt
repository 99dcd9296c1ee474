-- Getters tell a pending loss as the other calls on a session do.
use Rattle.std.proofs.Common.{◌≡◌, ◌==◌, ◌&&◌, ◌∙◌, ℕ, Bool, true, false, None, Option, refl, sym, ap, subst, true≢false}
use Rattle.std.specs.Prelude.{◌↔◌, is_none}
use Rattle.xr_types.specs.declared.code.Code.TheVariants.{SessionLossPending}
use Rattle.xr_types.specs.declared.input.ActionType.{ActionType}
use Rattle.xr_types.specs.declared.input.ActionType.TheVariants as type
use Rattle.xr_types.specs.declared.session.SessionState.TheVariants.{LossPending}
use Rattle.xr_model.specs.machine.LiveSessions.{Session, life_in}
use Rattle.xr_model.specs.machine.Publication.{publication_of, published_at, session_read, loss_read}
use Rattle.xr_types.specs.declared.calls.Call.{Call}
use Rattle.xr_types.specs.declared.calls.Call.TheVariants as ask
use Rattle.xr_model.specs.machine.Rule.{Rule, refusal, carried_out}
use Rattle.xr_model.specs.machine.Rules.Session.{life_of}
use Rattle.xr_model.specs.machine.Rules.Sync.{getter_rule}
use Rattle.xr_model.specs.machine.SessionLife.{is_state}
use Rattle.xr_model.specs.machine.SessionRule.{Loss}
use Rattle.xr_model.specs.machine.State.{CoreState}
use Rattle.xr_model.specs.machine.Machine.{reads_of, rule, step}
use Rattle.xr_model.specs.laws.SessionLaws.{is_getter_of, PendingGetters}
use Rattle.xr_model.proofs.FrameOrder.{clear}
use Rattle.xr_model.proofs.Rows.{both_of, same_key}
use Rattle.xr_model.proofs.SessionAnswers.{answered_pending}
use Rattle.xr_model.proofs.PublishedPlaces.{read_listed, loss_is_read}
use Rattle.xr_model.proofs.LostGetters.{only_first, less}

-- of a session that is read, the loss is pending where it is in that state
loss_pending : (s : CoreState) (session : ℕ) → is_none (session_read (publication_of s) session) ≡ false → (loss_read (publication_of s) session).pending ≡ is_state (life_of s session).state LossPending
loss_pending s session there =
    let it = read_listed s session there in
    ap (λ (l : Loss). l.pending) (loss_is_read s session it) ∙ ap (λ (o : Option Session). is_state (life_in o).state LossPending) (sym it.listed)

module _ (s : CoreState) (short : Bool) (wanted : ActionType) (session action sub : ℕ) where
  abbrev wants : Rule
  wants = getter_rule s wanted session action sub

  pending_seen : refusal short wants ≡ None → (loss_read (publication_of s) session).pending ≡ is_state (life_of s session).state LossPending
  pending_seen none = loss_pending s session (only_first (is_none (session_read (publication_of s) session)) (is_none (published_at (publication_of s) action)) (clear wants short none).handles)

  pending_one : ((carried_out s short wants).code ≡ SessionLossPending) ↔ ((refusal short wants ≡ None) × (is_state (life_of s session).state LossPending ≡ true))
  pending_one =
      let answer = answered_pending s short wants (loss_read (publication_of s) session) refl (less s wanted session action sub) in
      ((λ code. let three = answer.0 code in (three.0, sym (pending_seen three.0) ∙ three.2)), (λ two. answer.1 (two.0, refl, pending_seen two.0 ∙ two.1)))

pub pending_getters : PendingGetters
pending_getters t e session action named = by e.call named
  where
    turned : (wanted : ActionType) (a b sub : ℕ) → (a == session) && (b == action) ≡ true
        → ((carried_out t.core e.short (getter_rule t.core wanted a b sub)).code ≡ SessionLossPending)
        ↔ ((refusal e.short (getter_rule t.core wanted a b sub) ≡ None) × (is_state (life_of t.core session).state LossPending ≡ true))
    turned wanted a b sub named =
        subst (λ (n : ℕ). ((carried_out t.core e.short (getter_rule t.core wanted a b sub)).code ≡ SessionLossPending) ↔ ((refusal e.short (getter_rule t.core wanted a b sub) ≡ None) × (is_state (life_of t.core n).state LossPending ≡ true)))
        (same_key a session (both_of (a == session) (b == action) named).0) (pending_one t.core e.short wanted a b sub)

    by : (r : Call) → is_getter_of r session action ≡ true → ((step t (record e { call = r })).1.reply.code ≡ SessionLossPending)
        ↔ ((refusal e.short (rule t.core (reads_of t r) (record e { call = r })) ≡ None) × (is_state (life_of t.core session).state LossPending ≡ true))
    by (ask.GetBoolean a b sub) named = turned type.Boolean a b sub named
    by (ask.GetFloat a b sub) named = turned type.Float a b sub named
    by (ask.GetVector a b sub) named = turned type.Vector a b sub named
    by (ask.GetPoseActive a b sub) named = turned type.Pose a b sub named
    by _ named = absurd (true≢false (sym named))
