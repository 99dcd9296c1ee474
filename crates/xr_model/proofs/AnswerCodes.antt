-- The refusals of each rule are those of its row of the table, and so is what is answered.
use Rattle.std.proofs.Common.{◌≡◌, ◌&&◌, ◌⊎◌, inl, inr, zero, suc, ℕ, Bool, true, false, List, [], ◌∷◌, ◌++◌, length, map, Option, Some, None, refl, sym, ap, subst, ◌∙◌, append_assoc, true≢false}
use Rattle.std.specs.Prelude.{if◌then◌else◌, flat_map, is_some}
use Rattle.xr_types.specs.declared.input.ActiveSet.{ActiveSet}
use Rattle.xr_types.specs.declared.session.SessionState.TheVariants.{Focused}
use Rattle.xr_types.specs.declared.code.Code.{Code}
use Rattle.xr_types.specs.declared.code.Code.TheVariants.{Success, SessionLossPending, FrameDiscarded, OutOfMemory, CallOrderInvalid, HandleInvalid, SessionLost, NameInvalid, NameDuplicated, PathFormatInvalid, ValidationFailure, PathInvalid, PathUnsupported, ActionsetsAlreadyAttached, LimitReached, SessionNotRunning, TimeInvalid, EnvironmentBlendModeUnsupported, LayerLimitExceeded, SwapchainRectInvalid, LayerInvalid, PoseInvalid, ActionsetNotAttached, SessionNotFocused}
use Rattle.xr_types.specs.declared.frames.Layer.{Layer}
use Rattle.xr_types.specs.declared.frames.Layer.TheVariants.{Projection, Quad}
use Rattle.xr_model.specs.machine.SessionLife.{is_state}
use Rattle.xr_model.specs.machine.Rules.Sync.{item_checks, synced_code}
use Rattle.xr_model.specs.machine.Layers.{Look, layer_checks}
use Rattle.xr_model.specs.machine.Rules.Frames.{look_of}
use Rattle.xr_types.specs.declared.handles.Kind.{Kind}
use Rattle.xr_types.specs.declared.handles.Kind.TheVariants as kind
use Rattle.xr_types.specs.declared.input.Binding.{Binding}
use Rattle.xr_types.specs.declared.input.Profile.{Profile}
use Rattle.xr_types.specs.declared.calls.Call.{Call}
use Rattle.xr_types.specs.declared.calls.Call.TheVariants as ask
use Rattle.xr_model.specs.machine.Handles.{Handles, no_handle}
use Rattle.xr_model.specs.machine.Refusals.{Refusal, when, first_of}
use Rattle.xr_model.specs.machine.Rule.{Effect, Rule, ahead, refusals, or_short, told_on, unless_refused, carried_out}
use Rattle.xr_model.specs.machine.SessionRule.{Loss, loss_of, code_on, losses}
use Rattle.xr_model.specs.machine.Frames.{FrameLoop, begun_code}
use Rattle.xr_model.specs.machine.Rules.Session.{life_of, loop_of}
use Rattle.xr_model.proofs.Rows.{both_of}
use Rattle.xr_model.proofs.SessionAnswers.{first_stays, first_skips}
use Rattle.xr_model.specs.machine.Sets.{no_users}
use Rattle.xr_model.specs.machine.Rules.Bindings.{profile_at, bindings_checks}
use Rattle.xr_model.specs.machine.Rules.Sets.{sub_checks, with_user, user_at}
use Rattle.xr_model.specs.machine.State.{CoreState}
use Rattle.xr_model.specs.machine.Machine.{rule, reads_of}
use Rattle.xr_model.specs.laws.AnswerTable.{Row, Refuses, one, each, layer_refuses, answers_of, repeated, spelt_out, all_codes, codes_in, is_ordered}
use Rattle.xr_model.specs.laws.AnswerTableLaws.{IsOneOf, codes_of, codes_asked, items_of, IsOfRow, RefusalsAreTheTable, AnswersAreTheTable}

-- ---- the refusals of lists

subs_codes : (atoms : List (List ℕ)) (declared : List Bool) (subs : List ℕ) (rest : List Refusal) → codes_of (sub_checks atoms declared subs ++ rest) ≡ repeated (length subs) (PathInvalid ∷ PathUnsupported ∷ []) ++ codes_of rest
subs_codes atoms declared [] rest = refl
subs_codes atoms declared (sub ∷ subs) rest = ap (λ (cs : List Code). PathInvalid ∷ PathUnsupported ∷ cs) (subs_codes atoms (with_user declared (user_at atoms sub)) subs rest)

handles_codes : (h : Handles) (kind : Kind) (handles : List ℕ) → codes_of (map (no_handle h kind) handles) ≡ repeated (length handles) (HandleInvalid ∷ []) ++ []
handles_codes h kind [] = refl
handles_codes h kind (handle ∷ handles) = ap (λ (cs : List Code). HandleInvalid ∷ cs) (handles_codes h kind handles)

bindings_codes : (s : CoreState) (o : Option Profile) (list : List Binding)
    → codes_of (bindings_checks s o list) ≡ repeated (if is_some o then length list else 0) (HandleInvalid ∷ ActionsetsAlreadyAttached ∷ PathInvalid ∷ PathUnsupported ∷ []) ++ []
bindings_codes s None list = refl
bindings_codes s (Some which) [] = refl
bindings_codes s (Some which) (b ∷ list) = ap (λ (cs : List Code). HandleInvalid ∷ ActionsetsAlreadyAttached ∷ PathInvalid ∷ PathUnsupported ∷ cs) (bindings_codes s (Some which) list)

items_codes : (s : CoreState) (session : ℕ) (active : List ActiveSet)
    → codes_of (flat_map (item_checks s session) active) ≡ repeated (length active) (HandleInvalid ∷ ActionsetNotAttached ∷ PathInvalid ∷ PathUnsupported ∷ []) ++ []
items_codes s session [] = refl
items_codes s session (item ∷ active) = ap (λ (cs : List Code). HandleInvalid ∷ ActionsetNotAttached ∷ PathInvalid ∷ PathUnsupported ∷ cs) (items_codes s session active)

layers_codes : (look : Look) (layers : List Layer) → codes_of (flat_map (layer_checks look) layers) ≡ spelt_out (flat_map layer_refuses layers) []
layers_codes look [] = refl
layers_codes look (Projection space count views ∷ layers) =
    ap (λ (cs : List Code). HandleInvalid ∷ ValidationFailure ∷ HandleInvalid ∷ SwapchainRectInvalid ∷ LayerInvalid ∷ HandleInvalid ∷ SwapchainRectInvalid ∷ LayerInvalid ∷ cs) (layers_codes look layers)
layers_codes look (Quad space image pose ∷ layers) =
    ap (λ (cs : List Code). HandleInvalid ∷ HandleInvalid ∷ SwapchainRectInvalid ∷ LayerInvalid ∷ PoseInvalid ∷ cs) (layers_codes look layers)

-- a call succeeds plainly, or on a session tells of a pending loss
abbrev succeeds_on : Option Loss → List Code
succeeds_on None = Success ∷ []
succeeds_on (Some loss) = Success ∷ SessionLossPending ∷ []

on_success : (on : Option Loss) (x : Effect) → x.code ≡ Success → IsOneOf (succeeds_on on) (told_on on x).code
on_success None x plain = inl plain
on_success (Some loss) x plain = subst (λ (c : Code). IsOneOf (Success ∷ SessionLossPending ∷ []) (code_on loss c)) (sym plain) (by loss.pending)
  where
    by : (b : Bool) → IsOneOf (Success ∷ SessionLossPending ∷ []) (if b then SessionLossPending else Success)
    by true = inr (inl refl)
    by false = inl refl

-- a frame that is begun may discard another
begun_success : (loss : Loss) (l : FrameLoop) → IsOneOf (Success ∷ SessionLossPending ∷ FrameDiscarded ∷ []) (code_on loss (begun_code l))
begun_success loss l = by l.has_begun
  where
    plain : (b : Bool) → IsOneOf (Success ∷ SessionLossPending ∷ FrameDiscarded ∷ []) (if b then SessionLossPending else Success)
    plain true = inr (inl refl)
    plain false = inl refl

    by : (b : Bool) → IsOneOf (Success ∷ SessionLossPending ∷ FrameDiscarded ∷ []) (code_on loss (if b then FrameDiscarded else Success))
    by true = inr (inr (inl refl))
    by false = plain loss.pending

-- a sync may find its session not focused
synced_success : (loss : Loss) (is_focused : Bool) → IsOneOf (Success ∷ SessionLossPending ∷ SessionNotFocused ∷ []) (code_on loss (synced_code is_focused))
synced_success loss true = plain loss.pending
  where
    plain : (b : Bool) → IsOneOf (Success ∷ SessionLossPending ∷ SessionNotFocused ∷ []) (if b then SessionLossPending else Success)
    plain true = inr (inl refl)
    plain false = inl refl
synced_success loss false = inr (inr (inl refl))

pub refusals_are_the_table : RefusalsAreTheTable
refusals_are_the_table s reads e = by e.call
  where
    by : (r : Call) → IsOfRow (answers_of r) (items_of s r) (rule s reads (record e { call = r }))
    by (ask.CreateAction set name type subs localized) = record {
      refusals = ap (λ (cs : List Code). HandleInvalid ∷ ActionsetsAlreadyAttached ∷ NameInvalid ∷ PathFormatInvalid ∷ NameDuplicated ∷ cs) (subs_codes s.atoms no_users subs _);
      order = λ none. refl;
      memory = λ none. refl;
      success = inl refl;
    }
    by (ask.SuggestBindings instance profile list) = record {
      refusals = ap (λ (cs : List Code). HandleInvalid ∷ PathInvalid ∷ PathUnsupported ∷ ValidationFailure ∷ LimitReached ∷ cs) (bindings_codes s (profile_at s.atoms profile) list);
      order = λ none. refl;
      memory = λ none. absurd (true≢false none);
      success = inl refl;
    }
    by (ask.AttachSets session handles) = record {
      refusals = ap (λ (cs : List Code). HandleInvalid ∷ SessionLost ∷ ActionsetsAlreadyAttached ∷ ValidationFailure ∷ cs) (handles_codes s.handles kind.ActionSet handles);
      order = λ none. refl;
      memory = λ none. refl;
      success = on_success (Some (loss_of (life_of s session))) (rule s reads (record e { call = ask.AttachSets session handles })).effect refl;
    }
    by (ask.SyncActions session active) = record {
      refusals = ap (λ (cs : List Code). HandleInvalid ∷ SessionLost ∷ LimitReached ∷ cs) (items_codes s session active);
      order = λ none. refl;
      memory = λ none. refl;
      success = synced_success (loss_of (life_of s session)) (is_state (life_of s session).state Focused);
    }
    by (ask.BeginFrame session) = record {
      refusals = refl;
      order = λ none. cc;
      memory = λ none. refl;
      success = begun_success (loss_of (life_of s session)) (loop_of s session);
    }
    by (ask.EndFrame session time blend layers) = record {
      refusals = ap (λ (cs : List Code). HandleInvalid ∷ SessionLost ∷ SessionNotRunning ∷ CallOrderInvalid ∷ TimeInvalid ∷ EnvironmentBlendModeUnsupported ∷ LayerLimitExceeded ∷ cs) (layers_codes (look_of s session) layers);
      order = λ none. cc;
      memory = λ none. refl;
      success = on_success (Some (loss_of (life_of s session))) (rule s reads (record e { call = ask.EndFrame session time blend layers })).effect refl;
    }
    by (ask.Device what) = record { refusals = refl; order = λ none. refl; memory = λ none. refl; success = inl refl }
    by r =
        let f = rule s reads (record e { call = r }) in
        record { refusals = refl; order = λ none. cc; memory = λ none. cc; success = on_success f.on f.effect refl }

-- ---- what is answered is one of the row's codes

one_left : (xs ys : List Code) (c : Code) → IsOneOf xs c → IsOneOf (xs ++ ys) c
one_left [] ys c here = absurd here
one_left (x ∷ xs) ys c (inl is) = inl is
one_left (x ∷ xs) ys c (inr more) = inr (one_left xs ys c more)

one_right : (xs ys : List Code) (c : Code) → IsOneOf ys c → IsOneOf (xs ++ ys) c
one_right [] ys c here = here
one_right (x ∷ xs) ys c here = inr (one_right xs ys c here)

one_of_two : (xs ys : List Code) (c : Code) → IsOneOf (xs ++ ys) c → IsOneOf xs c ⊎ IsOneOf ys c
one_of_two [] ys c here = inr here
one_of_two (x ∷ xs) ys c (inl is) = inl (inl is)
one_of_two (x ∷ xs) ys c (inr more) = elim (one_of_two xs ys c more) [ inl l ↦ inl (inr l) | inr r ↦ inr r ]

one_item : (n : ℕ) (cs : List Code) (c : Code) → IsOneOf (repeated n cs) c → IsOneOf cs c
one_item zero cs c here = absurd here
one_item (suc n) cs c here = elim (one_of_two cs (repeated n cs) c here) [ inl l ↦ l | inr r ↦ one_item n cs c r ]

-- what is spelt out is one of the codes of the row's refusals
one_spelt : (refuses : List Refuses) (items : List ℕ) (c : Code) → IsOneOf (spelt_out refuses items) c → IsOneOf (flat_map codes_in refuses) c
one_spelt [] items c here = here
one_spelt (one x ∷ rest) items c (inl is) = inl is
one_spelt (one x ∷ rest) items c (inr more) = inr (one_spelt rest items c more)
one_spelt (each cs ∷ rest) [] c here = one_right cs (flat_map codes_in rest) c (one_spelt rest [] c here)
one_spelt (each cs ∷ rest) (n ∷ items) c here =
    elim (one_of_two (repeated n cs) (spelt_out rest items) c here) [ inl l ↦ one_left cs (flat_map codes_in rest) c (one_item n cs c l) | inr r ↦ one_right cs (flat_map codes_in rest) c (one_spelt rest items c r) ]

first_code : (rs : List Refusal) (x : Refusal) → first_of rs ≡ Some x → IsOneOf (codes_of rs) x.code
first_code [] x found = cc
first_code (r ∷ rs) x found = by r.holds found (first_code rs x)
  where
    by : (b : Bool) → (if b then Some r else first_of rs) ≡ Some x → (first_of rs ≡ Some x → IsOneOf (codes_of rs) x.code) → (x.code ≡ r.code) ⊎ IsOneOf (codes_of rs) x.code
    by true found more = inl (cc)
    by false found more = inr (more found)

module _ (s : CoreState) (short : Bool) (row : Row) (items : List ℕ) (r : Rule) (fits : IsOfRow row items r) where
  whole : refusals r ≡ ahead r ++ when r.disorder CallOrderInvalid ∷ r.behind
  whole = ap (λ (l : List Refusal). r.handles ++ l) (sym (append_assoc (losses r.on) r.before (when r.disorder CallOrderInvalid ∷ r.behind))) ∙ sym (append_assoc r.handles (losses r.on ++ r.before) (when r.disorder CallOrderInvalid ∷ r.behind))

  -- behind what is ahead of the order check
  later : (x : Refusal) → first_of (when r.disorder CallOrderInvalid ∷ r.behind) ≡ Some x → IsOneOf ((if is_ordered row then CallOrderInvalid ∷ [] else []) ++ codes_of r.behind) x.code
  later x found = by (is_ordered row) refl r.disorder refl found
    where
      by : (o : Bool) → is_ordered row ≡ o → (d : Bool) → r.disorder ≡ d → (if d then Some (when d CallOrderInvalid) else first_of r.behind) ≡ Some x → IsOneOf ((if o then CallOrderInvalid ∷ [] else []) ++ codes_of r.behind) x.code
      by true eo true ed found = inl cc
      by true eo false ed found = inr (first_code r.behind x found)
      by false eo true ed found = absurd (true≢false (sym ed ∙ fits.order eo))
      by false eo false ed found = first_code r.behind x found

  asked_for : (x : Refusal) → first_of (refusals r) ≡ Some x → IsOneOf (codes_asked (is_ordered row) r) x.code
  asked_for x found = by (first_of (ahead r)) refl
    where
      by : (o : Option Refusal) → first_of (ahead r) ≡ o → IsOneOf (codes_asked (is_ordered row) r) x.code
      by (Some y) eo =
          let same : Some y ≡ Some x = sym (first_stays (ahead r) (when r.disorder CallOrderInvalid ∷ r.behind) y eo) ∙ ap first_of (sym whole) ∙ found in
          one_left (codes_of (ahead r)) _ x.code (first_code (ahead r) x (eo ∙ same))
      by None eo = one_right (codes_of (ahead r)) _ x.code (later x (sym (first_skips (ahead r) (when r.disorder CallOrderInvalid ∷ r.behind) eo) ∙ ap first_of (sym whole) ∙ found))

  refused_by : (x : Refusal) → first_of (refusals r) ≡ Some x → IsOneOf (all_codes row) x.code
  refused_by x found = one_left (flat_map codes_in row.refuses) _ x.code (one_spelt row.refuses items x.code (subst (λ (cs : List Code). IsOneOf cs x.code) fits.refusals (asked_for x found)))

  wanting : (m : Bool) → row.memory ≡ m → r.takes_memory ≡ true → IsOneOf ((if m then OutOfMemory ∷ [] else []) ++ row.succeeds) OutOfMemory
  wanting true em takes = inl refl
  wanting false em takes = absurd (true≢false (sym takes ∙ fits.memory em))

  pub answered : IsOneOf (all_codes row) (carried_out s short r).code
  answered = by (r.takes_memory && short) refl (first_of (refusals r)) refl
    where
      takes : r.takes_memory && short ≡ true → r.takes_memory ≡ true
      takes both = (both_of r.takes_memory short both).0

      by : (b : Bool) → r.takes_memory && short ≡ b → (o : Option Refusal) → first_of (refusals r) ≡ o → IsOneOf (all_codes row) (unless_refused s (or_short b o) (told_on r.on r.effect)).code
      by false eb None eo = one_right (flat_map codes_in row.refuses) _ _ (one_right (if row.memory then OutOfMemory ∷ [] else []) row.succeeds _ fits.success)
      by true eb None eo = one_right (flat_map codes_in row.refuses) _ _ (wanting row.memory refl (takes eb))
      by false eb (Some x) eo = refused_by x eo
      by true eb (Some x) eo = refused_by x eo

pub answers_are_the_table : AnswersAreTheTable
answers_are_the_table s e = answered s.core e.short (answers_of e.call) (items_of s.core e.call) (rule s.core (reads_of s e.call) e) (refusals_are_the_table s.core (reads_of s e.call) e)
