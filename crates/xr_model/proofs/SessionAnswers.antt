-- The answers of calls on sessions: by a loss, and by a pending one.
use Rattle.std.proofs.Common.{◌≡◌, ◌&&◌, ℕ, Bool, true, false, not, List, [], ◌∷◌, ◌++◌, map, Option, Some, None, refl, sym, ap, subst, ◌∙◌, true≢false}
use Rattle.std.specs.Prelude.{flat_map, ◌↔◌, unwrap_or, if◌then◌else◌}
use Rattle.std.specs.List.{list_all}
use Rattle.xr_types.specs.declared.input.ActiveSet.{ActiveSet}
use Rattle.xr_types.specs.declared.session.SessionState.TheVariants.{Focused}
use Rattle.xr_types.specs.declared.handles.Kind.{Kind}
use Rattle.xr_types.specs.declared.handles.Kind.TheVariants as kind
use Rattle.xr_types.specs.declared.code.Code.{Code}
use Rattle.xr_types.specs.declared.code.Code.TheVariants.{Success, SessionLost, SessionLossPending, HandleInvalid, CallOrderInvalid}
use Rattle.xr_types.specs.declared.input.Binding.{Binding}
use Rattle.xr_types.specs.declared.input.Profile.{Profile}
use Rattle.xr_types.specs.declared.frames.Layer.{Layer}
use Rattle.xr_types.specs.declared.frames.Layer.TheVariants.{Projection, Quad}
use Rattle.xr_model.specs.machine.SessionLife.{is_state}
use Rattle.xr_model.specs.machine.Rules.Sync.{item_checks, synced_code}
use Rattle.xr_model.specs.machine.Layers.{Look, layer_checks}
use Rattle.xr_model.specs.machine.Rules.Frames.{look_of}
use Rattle.xr_model.specs.machine.Calls.{Entry}
use Rattle.xr_types.specs.declared.calls.Call.{Call}
use Rattle.xr_types.specs.declared.calls.Call.TheVariants as ask
use Rattle.xr_model.specs.machine.Handles.{Handles, is_live, no_handle}
use Rattle.xr_model.specs.machine.HandlePlaces.{parent_of, is_below}
use Rattle.xr_model.specs.machine.Refusals.{Refusal, when, first_of}
use Rattle.xr_model.specs.machine.State.{CoreState, CellReads, Settings, opening}
use Rattle.xr_model.specs.machine.Rule.{Rule, refusals, refusal, or_short, told_on, unless_refused, carried_out}
use Rattle.xr_model.specs.machine.SessionRule.{Loss, loss_of, code_on, losses}
use Rattle.xr_model.specs.machine.Sets.{no_users}
use Rattle.xr_model.specs.machine.Rules.Bindings.{profile_at, bindings_checks}
use Rattle.xr_model.specs.machine.Rules.Sets.{sub_checks, with_user, user_at}
use Rattle.xr_model.specs.machine.Frames.{FrameLoop, begun_code}
use Rattle.xr_model.specs.machine.Rules.Session.{life_of, loop_of}
use Rattle.xr_model.specs.machine.Rules.Spaces.{session_above}
use Rattle.xr_model.specs.machine.Machine.{rule, reads_of}
use Rattle.xr_model.specs.machine.History.{after}
use Rattle.xr_model.specs.laws.SessionLaws.{session_of, LostSessions, PendingLosses}
use Rattle.xr_model.proofs.Orphans.{no_orphans}
use Rattle.xr_model.proofs.StandOnce.{handles_stand_once}
use Rattle.xr_model.proofs.DestroyingTakes.{live_parent, live_chain_parent, roots_after}
use Rattle.xr_model.proofs.LostSessions.{known_loss}

-- ---- the first refusal of two lists

pub first_stays : (xs ys : List Refusal) (r : Refusal) → first_of xs ≡ Some r → first_of (xs ++ ys) ≡ Some r
first_stays [] ys r found = cc
first_stays (x ∷ xs) ys r found = by x.holds found (first_stays xs ys r)
  where
    by : (b : Bool) → (if b then Some x else first_of xs) ≡ Some r → (first_of xs ≡ Some r → first_of (xs ++ ys) ≡ Some r) → (if b then Some x else first_of (xs ++ ys)) ≡ Some r
    by true e more = e
    by false e more = more e

pub first_skips : (xs ys : List Refusal) → first_of xs ≡ None → first_of (xs ++ ys) ≡ first_of ys
first_skips [] ys none = refl
first_skips (x ∷ xs) ys none = by x.holds none (first_skips xs ys)
  where
    by : (b : Bool) → (if b then Some x else first_of xs) ≡ None → (first_of xs ≡ None → first_of (xs ++ ys) ≡ first_of ys) → (if b then Some x else first_of (xs ++ ys)) ≡ first_of ys
    by true e more = absurd (some_is_not e)
      where
        some_is_not : Some x ≡ None → ⊥
        some_is_not e = cc
    by false e more = more e

-- ---- lists in which no refusal has such a code

abbrev pub none_with : (Code → Bool) → List Refusal → Bool
none_with test rs = list_all (λ r. not (test r.code)) rs

abbrev pub none_in : (Code → Bool) → Option Refusal → Bool
none_in test None = true
none_in test (Some r) = not (test r.code)

pub none_more : (test : Code → Bool) (xs ys : List Refusal) → none_with test xs ≡ true → none_with test ys ≡ true → none_with test (xs ++ ys) ≡ true
none_more test [] ys a b = b
none_more test (x ∷ xs) ys a b = by (not (test x.code)) a (λ more. none_more test xs ys more b)
  where
    by : (c : Bool) → c && none_with test xs ≡ true → (none_with test xs ≡ true → none_with test (xs ++ ys) ≡ true) → c && none_with test (xs ++ ys) ≡ true
    by true a more = more a
    by false a more = absurd (true≢false (sym a))

pub first_none : (test : Code → Bool) (rs : List Refusal) → none_with test rs ≡ true → none_in test (first_of rs) ≡ true
first_none test [] none = refl
first_none test (r ∷ rs) none = by r.holds (not (test r.code)) refl none (first_none test rs)
  where
    by : (b c : Bool) → not (test r.code) ≡ c → c && none_with test rs ≡ true → (none_with test rs ≡ true → none_in test (first_of rs) ≡ true) → none_in test (if b then Some r else first_of rs) ≡ true
    by b false e none more = absurd (true≢false (sym none))
    by true true e none more = e
    by false true e none more = more none

-- what a session says of itself: that it is lost, that its loss is pending, that a call comes out of order
abbrev pub is_session : Code → Bool
is_session SessionLost = true
is_session SessionLossPending = true
is_session CallOrderInvalid = true
is_session _ = false

abbrev pub is_loss : Code → Bool
is_loss SessionLost = true
is_loss SessionLossPending = true
is_loss _ = false

abbrev pub is_pending : Code → Bool
is_pending SessionLossPending = true
is_pending _ = false

-- a test is passed over where a wider one is
pub none_fewer : (wide test : Code → Bool) → ((c : Code) → not (wide c) ≡ true → not (test c) ≡ true) → (rs : List Refusal) → none_with wide rs ≡ true → none_with test rs ≡ true
none_fewer wide test fewer [] none = refl
none_fewer wide test fewer (r ∷ rs) none = by (not (wide r.code)) refl none (none_fewer wide test fewer rs)
  where
    by : (c : Bool) → not (wide r.code) ≡ c → c && none_with wide rs ≡ true → (none_with wide rs ≡ true → none_with test rs ≡ true) → not (test r.code) && none_with test rs ≡ true
    by true e none more = rw (fewer r.code e) (more none)
    by false e none more = absurd (true≢false (sym none))

loss_is_session : (c : Code) → not (is_session c) ≡ true → not (is_loss c) ≡ true
loss_is_session SessionLost e = absurd (true≢false (sym e))
loss_is_session SessionLossPending e = absurd (true≢false (sym e))
loss_is_session _ e = refl

no_loss : (rs : List Refusal) → none_with is_session rs ≡ true → none_with is_loss rs ≡ true
no_loss = none_fewer is_session is_loss loss_is_session

pending_is_loss : (c : Code) → not (is_loss c) ≡ true → not (is_pending c) ≡ true
pending_is_loss SessionLossPending e = absurd (true≢false (sym e))
pending_is_loss _ e = refl

none_pending : (rs : List Refusal) → none_with is_loss rs ≡ true → none_with is_pending rs ≡ true
none_pending = none_fewer is_loss is_pending pending_is_loss

short_none : (short : Bool) (o : Option Refusal) → none_in is_loss o ≡ true → none_in is_loss (or_short short o) ≡ true
short_none false o none = none
short_none true None none = refl
short_none true (Some r) none = none

short_pending : (short : Bool) (o : Option Refusal) → none_in is_pending o ≡ true → none_in is_pending (or_short short o) ≡ true
short_pending false o none = none
short_pending true None none = refl
short_pending true (Some r) none = none

pub short_some : (short : Bool) (o : Option Refusal) (r : Refusal) → o ≡ Some r → or_short short o ≡ Some r
short_some false o r e = e
short_some true o r e = rw e refl

-- ---- no rule itself answers for the session

-- the refusals behind the session's loss
abbrev pub own : Rule → List Refusal
own r = r.before ++ when r.disorder CallOrderInvalid ∷ r.behind

-- no rule has such a code in its lists or as its own
pub record Sessionless (r : Rule) : Type 0 where
  pub handles : none_with is_session r.handles ≡ true
  pub before : none_with is_session r.before ≡ true
  pub behind : none_with is_session r.behind ≡ true
  pub code : is_session r.effect.code ≡ false

none_subs : (atoms : List (List ℕ)) (declared : List Bool) (subs : List ℕ) → none_with is_session (sub_checks atoms declared subs) ≡ true
none_subs atoms declared [] = refl
none_subs atoms declared (sub ∷ subs) = none_subs atoms (with_user declared (user_at atoms sub)) subs

none_handles : (h : Handles) (kind : Kind) (handles : List ℕ) → none_with is_session (map (no_handle h kind) handles) ≡ true
none_handles h kind [] = refl
none_handles h kind (handle ∷ handles) = none_handles h kind handles

none_bindings : (s : CoreState) (o : Option Profile) (list : List Binding) → none_with is_session (bindings_checks s o list) ≡ true
none_bindings s None list = refl
none_bindings s (Some which) [] = refl
none_bindings s (Some which) (b ∷ list) = none_bindings s (Some which) list

none_layers : (look : Look) (layers : List Layer) → none_with is_session (flat_map (layer_checks look) layers) ≡ true
none_layers look [] = refl
none_layers look (Projection space count views ∷ layers) = none_layers look layers
none_layers look (Quad space image pose ∷ layers) = none_layers look layers

begun_sessionless : (l : FrameLoop) → is_session (begun_code l) ≡ false
begun_sessionless l = by l.has_begun
  where
    by : (b : Bool) → is_session (begun_code (record l { has_begun = b })) ≡ false
    by true = refl
    by false = refl

none_items : (s : CoreState) (session : ℕ) (active : List ActiveSet) → none_with is_session (flat_map (item_checks s session) active) ≡ true
none_items s session [] = refl
none_items s session (item ∷ active) = none_items s session active

synced_sessionless : (is_focused : Bool) → is_session (synced_code is_focused) ≡ false
synced_sessionless true = refl
synced_sessionless false = refl

pub sessionless : (s : CoreState) (reads : CellReads) (e : Entry) → Sessionless (rule s reads e)
sessionless s reads e = by e.call
  where
    by : (r : Call) → Sessionless (rule s reads (record e { call = r }))
    by (ask.CreateAction set name type subs localized) = record { handles = refl; before = refl; behind = none_more is_session (sub_checks s.atoms no_users subs) _ (none_subs s.atoms no_users subs) refl; code = refl }
    by (ask.SuggestBindings instance profile list) = record { handles = refl; before = refl; behind = none_bindings s (profile_at s.atoms profile) list; code = refl }
    by (ask.AttachSets session handles) = record { handles = refl; before = refl; behind = none_handles s.handles kind.ActionSet handles; code = refl }
    by (ask.SyncActions session active) = record { handles = refl; before = refl; behind = none_items s session active; code = synced_sessionless (is_state (life_of s session).state Focused) }
    by (ask.BeginFrame session) = record { handles = refl; before = refl; behind = refl; code = begun_sessionless (loop_of s session) }
    by (ask.EndFrame session time blend layers) = record { handles = refl; before = refl; behind = none_layers (look_of s session) layers; code = refl }
    by _ = record { handles = refl; before = refl; behind = refl; code = refl }

-- ---- the code of a call on a session

success_is_not_lost : (loss : Loss) → code_on loss Success ≡ SessionLost → ⊥
success_is_not_lost loss = by (loss.pending)
  where
    by : (b : Bool) → (if b then SessionLossPending else Success) ≡ SessionLost → ⊥
    by true e = cc
    by false e = cc

told_is_not_lost : (loss : Loss) (code : Code) → is_session code ≡ false → code_on loss code ≡ SessionLost → ⊥
told_is_not_lost loss Success apart is = success_is_not_lost loss is
told_is_not_lost loss _ apart is = true≢false (sym (ap is_session is) ∙ apart)

some_is_none : (r : Refusal) → Some r ≡ None → ⊥
some_is_none r e = cc

success_pending : (loss : Loss) → (code_on loss Success ≡ SessionLossPending) ↔ ((Success ≡ Success) × (loss.pending ≡ true))
success_pending loss = by (loss.pending)
  where
    by : (b : Bool) → ((if b then SessionLossPending else Success) ≡ SessionLossPending) ↔ ((Success ≡ Success) × (b ≡ true))
    by true = ((λ e. (refl, refl)), (λ two. refl))
    by false = ((λ e. cc), (λ two. absurd (true≢false (sym two.1))))

told_pending : (loss : Loss) (code : Code) → is_session code ≡ false → (code_on loss code ≡ SessionLossPending) ↔ ((code ≡ Success) × (loss.pending ≡ true))
told_pending loss Success apart = success_pending loss
told_pending loss _ apart = ((λ is. absurd (true≢false (sym (ap is_session is) ∙ apart))), (λ two. cc))

module _ (s : CoreState) (short : Bool) (r : Rule) (loss : Loss) (on : r.on ≡ Some loss) (less : Sessionless r) where
  whole : refusals r ≡ r.handles ++ when loss.lost SessionLost ∷ own r
  whole = ap (λ (o : Option Loss). r.handles ++ (losses o ++ own r)) on

  handles_none : none_with is_loss r.handles ≡ true
  handles_none = no_loss r.handles less.handles

  own_none : none_with is_loss (own r) ≡ true
  own_none = none_more is_loss r.before (when r.disorder CallOrderInvalid ∷ r.behind) (no_loss r.before less.before) (no_loss r.behind less.behind)

  -- the code by the first of all refusals
  code_by : (o : Option Refusal) → refusal short r ≡ o → (carried_out s short r).code ≡ (unless_refused s o (record r.effect { code = code_on loss r.effect.code })).code
  code_by o found = ap (λ (x : Option Refusal). (unless_refused s x (told_on r.on r.effect)).code) found ∙ ap (λ (l : Option Loss). (unless_refused s o (told_on l r.effect)).code) on

  pub answered_lost : ((carried_out s short r).code ≡ SessionLost) ↔ ((first_of r.handles ≡ None) × (loss.lost ≡ true))
  answered_lost = by (first_of r.handles) refl loss.lost refl
    where
      by : (o : Option Refusal) → first_of r.handles ≡ o → (b : Bool) → loss.lost ≡ b → ((carried_out s short r).code ≡ SessionLost) ↔ ((first_of r.handles ≡ None) × (loss.lost ≡ true))
      by (Some x) eo b eb =
          let first : first_of (refusals r) ≡ Some x = ap first_of whole ∙ first_stays r.handles (when loss.lost SessionLost ∷ own r) x eo in
          let told = code_by (Some x) (short_some (r.takes_memory && short) (first_of (refusals r)) x first) in
          let apart : not (is_loss x.code) ≡ true = ap (none_in is_loss) (sym eo) ∙ first_none is_loss r.handles handles_none in
          ((λ code. absurd (true≢false (sym apart ∙ ap (λ c. not (is_loss c)) (sym told ∙ code)))), (λ both. absurd (some_is_none x (sym eo ∙ both.0))))
      by None eo true eb =
          let first : first_of (refusals r) ≡ Some (when loss.lost SessionLost) = ap first_of whole ∙ first_skips r.handles (when loss.lost SessionLost ∷ own r) eo ∙ rw eb refl in
          let told = code_by (Some (when loss.lost SessionLost)) (short_some (r.takes_memory && short) (first_of (refusals r)) (when loss.lost SessionLost) first) in
          ((λ code. (eo, eb)), (λ both. told))
      by None eo false eb =
          let first : first_of (refusals r) ≡ first_of (own r) = ap first_of whole ∙ first_skips r.handles (when loss.lost SessionLost ∷ own r) eo ∙ rw eb refl in
          let few = short_none (r.takes_memory && short) (first_of (refusals r)) (ap (none_in is_loss) first ∙ first_none is_loss (own r) own_none) in
          ((λ code. absurd (neither (refusal short r) refl few code)), (λ both. absurd (true≢false (sym both.1 ∙ eb))))
        where
          neither : (o : Option Refusal) → refusal short r ≡ o → none_in is_loss o ≡ true → (carried_out s short r).code ≡ SessionLost → ⊥
          neither None found few code = told_is_not_lost loss r.effect.code less.code (sym (code_by None found) ∙ code)
          neither (Some x) found few code = true≢false (sym few ∙ ap (λ c. not (is_loss c)) (sym (code_by (Some x) found) ∙ code))

  pub answered_pending : ((carried_out s short r).code ≡ SessionLossPending) ↔ ((refusal short r ≡ None) × (r.effect.code ≡ Success) × (loss.pending ≡ true))
  answered_pending = by (refusal short r) refl
    where
      few : none_in is_pending (refusal short r) ≡ true
      few = short_pending (r.takes_memory && short) (first_of (refusals r)) (first_none is_pending (refusals r) (ap (none_with is_pending) whole ∙ none_more is_pending r.handles (when loss.lost SessionLost ∷ own r) (none_pending r.handles handles_none) (none_pending (own r) own_none)))

      by : (o : Option Refusal) → refusal short r ≡ o → ((carried_out s short r).code ≡ SessionLossPending) ↔ ((refusal short r ≡ None) × (r.effect.code ≡ Success) × (loss.pending ≡ true))
      by None found =
          let both = told_pending loss r.effect.code less.code in
          let told = code_by None found in
          ((λ code. let two = both.0 (sym told ∙ code) in (found, two.0, two.1)), (λ all. told ∙ both.1 (all.1, all.2)))
      by (Some x) found =
          let told = code_by (Some x) found in
          let apart : not (is_pending x.code) ≡ true = ap (none_in is_pending) (sym found) ∙ few in
          ((λ code. absurd (true≢false (sym apart ∙ ap (λ c. not (is_pending c)) (sym told ∙ code)))), (λ all. absurd (some_is_none x (sym found ∙ all.0))))

-- ---- the session of a call

named_is : (a b : ℕ) → Some a ≡ Some b → a ≡ b
named_is a b e = cc

named_if : (c : Bool) (a b : ℕ) → (if c then Some a else None) ≡ Some b → a ≡ b
named_if true a b e = named_is a b e
named_if false a b e = cc

module _ (s : CoreState) (session : ℕ) where
  above_is : (b : Bool) (space : ℕ) → (if b then parent_of s.handles space else None) ≡ Some session → session_above s.handles space ≡ session
  above_is true space found = ap (λ (o : Option ℕ). unwrap_or o 0) found
  above_is false space found = cc

  life_is : (other : ℕ) → other ≡ session → Some (loss_of (life_of s other)) ≡ Some (loss_of (life_of s session))
  life_is other same = ap (λ (n : ℕ). Some (loss_of (life_of s n))) same

  -- its rule is one on that session
  pub named_on : (reads : CellReads) (e : Entry) → session_of s.handles e.call ≡ Some session → (rule s reads e).on ≡ Some (loss_of (life_of s session))
  named_on reads e = by e.call
    where
      by : (r : Call) → session_of s.handles r ≡ Some session → (rule s reads (record e { call = r })).on ≡ Some (loss_of (life_of s session))
      by (ask.BeginSession other view) named = life_is other (named_is other session named)
      by (ask.EndSession other) named = life_is other (named_is other session named)
      by (ask.RequestExitSession other) named = life_is other (named_is other session named)
      by (ask.CreateReferenceSpace other what offset) named = life_is other (named_is other session named)
      by (ask.AttachSets other handles) named = life_is other (named_is other session named)
      by (ask.SyncActions other active) named = life_is other (named_is other session named)
      by (ask.CreateActionSpace other action sub offset) named = life_is other (named_if (is_live s.handles kind.Action action) other session named)
      by (ask.WaitFrame other) named = life_is other (named_is other session named)
      by (ask.BeginFrame other) named = life_is other (named_is other session named)
      by (ask.EndFrame other time blend layers) named = life_is other (named_is other session named)
      by (ask.WaitImage chain timeout start) named = life_is (session_above s.handles chain) (above_is (is_live s.handles kind.Swapchain chain) chain named)
      by (ask.AcquireImage chain) named = life_is (session_above s.handles chain) (above_is (is_live s.handles kind.Swapchain chain) chain named)
      by (ask.Paint chain stamp) named = life_is (session_above s.handles chain) (above_is (is_live s.handles kind.Swapchain chain) chain named)
      by (ask.ReleaseImage chain) named = life_is (session_above s.handles chain) (above_is (is_live s.handles kind.Swapchain chain) chain named)
      by (ask.CreateSwapchain other format width height fixed) named = life_is other (named_is other session named)
      by (ask.LocateSpace space base time) named = life_is (session_above s.handles space) (above_is (is_live s.handles kind.Space space && is_below s.handles kind.Space (session_above s.handles space) base) space named)
      by _ named = cc

pub pending_losses : PendingLosses
pending_losses s e session named =
    answered_pending s.core e.short (rule s.core (reads_of s e.call) e) (loss_of (life_of s.core session)) (named_on s.core session (reads_of s e.call) e named) (sessionless s.core (reads_of s e.call) e)

-- handles that are live are not refused
live_first : (live : Bool) → ((first_of (when (not live) HandleInvalid ∷ []) ≡ None) ↔ (live ≡ true))
live_first true = ((λ e. refl), (λ e. refl))
live_first false = ((λ e. cc), (λ e. absurd (true≢false (sym e))))

-- and another that is live beside it
live_then : (live : Bool) → ((first_of (when (not live) HandleInvalid ∷ when false HandleInvalid ∷ []) ≡ None) ↔ (live ≡ true))
live_then true = ((λ e. refl), (λ e. refl))
live_then false = ((λ e. cc), (λ e. absurd (true≢false (sym e))))

-- its handles are refused but where the session is live
abbrev AsLive : Settings → List Entry → Entry → ℕ → Call → Type 0
AsLive settings es e session r =
    (first_of (rule (after (opening settings) es).core (reads_of (after (opening settings) es) r) (record e { call = r })).handles ≡ None) ↔ (is_live (after (opening settings) es).core.handles kind.Session session ≡ true)

pub lost_sessions : LostSessions
lost_sessions settings es e session legal named =
    let s = after (opening settings) es in
    let answer = answered_lost s.core e.short (rule s.core (reads_of s e.call) e) (loss_of (life_of s.core session)) (named_on s.core session (reads_of s e.call) e named) (sessionless s.core (reads_of s e.call) e) in
    let handles = by_handles e.call named in
    ((λ code. let two = answer.0 code in let live = handles.0 two.0 in (live, sym (known_loss settings es session legal live) ∙ two.1)), (λ two. answer.1 (handles.1 two.0, known_loss settings es session legal two.0 ∙ two.1)))
  where
    one : (other : ℕ) → other ≡ session → (first_of (no_handle (after (opening settings) es).core.handles kind.Session other ∷ []) ≡ None) ↔ (is_live (after (opening settings) es).core.handles kind.Session session ≡ true)
    one other same = subst (λ (n : ℕ). (first_of (no_handle (after (opening settings) es).core.handles kind.Session other ∷ []) ≡ None) ↔ (is_live (after (opening settings) es).core.handles kind.Session n ≡ true)) same (live_first (is_live (after (opening settings) es).core.handles kind.Session other))

    above : (chain : ℕ) (a : Bool) → is_live (after (opening settings) es).core.handles kind.Swapchain chain ≡ a → (if a then parent_of (after (opening settings) es).core.handles chain else None) ≡ Some session
        → (first_of (no_handle (after (opening settings) es).core.handles kind.Swapchain chain ∷ []) ≡ None) ↔ (is_live (after (opening settings) es).core.handles kind.Session session ≡ true)
    above chain false ea found = cc
    above chain true ea found =
        let live = live_chain_parent (after (opening settings) es).core.handles (handles_stand_once settings es legal) (no_orphans settings es) (roots_after (opening settings) es refl) chain session ea found in
        ((λ none. live), (λ there. rw ea refl))

    by_handles : (r : Call) → session_of (after (opening settings) es).core.handles r ≡ Some session → AsLive settings es e session r
    by_handles (ask.BeginSession other view) named = one other (named_is other session named)
    by_handles (ask.EndSession other) named = one other (named_is other session named)
    by_handles (ask.RequestExitSession other) named = one other (named_is other session named)
    by_handles (ask.CreateReferenceSpace other what offset) named = one other (named_is other session named)
    by_handles (ask.AttachSets other handles) named = one other (named_is other session named)
    by_handles (ask.SyncActions other active) named = one other (named_is other session named)
    by_handles (ask.CreateActionSpace other action sub offset) named = both (is_live (after (opening settings) es).core.handles kind.Action action) refl named
      where
        both : (a : Bool) → is_live (after (opening settings) es).core.handles kind.Action action ≡ a → (if a then Some other else None) ≡ Some session
            → (first_of (no_handle (after (opening settings) es).core.handles kind.Session other ∷ no_handle (after (opening settings) es).core.handles kind.Action action ∷ []) ≡ None) ↔ (is_live (after (opening settings) es).core.handles kind.Session session ≡ true)
        both false ea found = cc
        both true ea found =
            subst (λ (n : ℕ). (first_of (no_handle (after (opening settings) es).core.handles kind.Session other ∷ no_handle (after (opening settings) es).core.handles kind.Action action ∷ []) ≡ None) ↔ (is_live (after (opening settings) es).core.handles kind.Session n ≡ true))
            (named_is other session found) (rw ea (live_then (is_live (after (opening settings) es).core.handles kind.Session other)))
    by_handles (ask.WaitFrame other) named = one other (named_is other session named)
    by_handles (ask.BeginFrame other) named = one other (named_is other session named)
    by_handles (ask.EndFrame other time blend layers) named = one other (named_is other session named)
    by_handles (ask.CreateSwapchain other format width height fixed) named = one other (named_is other session named)
    by_handles (ask.AcquireImage chain) named = above chain (is_live (after (opening settings) es).core.handles kind.Swapchain chain) refl named
    by_handles (ask.WaitImage chain timeout start) named = above chain (is_live (after (opening settings) es).core.handles kind.Swapchain chain) refl named
    by_handles (ask.Paint chain stamp) named = above chain (is_live (after (opening settings) es).core.handles kind.Swapchain chain) refl named
    by_handles (ask.ReleaseImage chain) named = above chain (is_live (after (opening settings) es).core.handles kind.Swapchain chain) refl named
    by_handles (ask.LocateSpace space base time) named = cases (is_live (after (opening settings) es).core.handles kind.Space space) refl (is_below (after (opening settings) es).core.handles kind.Space (session_above (after (opening settings) es).core.handles space) base) refl named
      where
        cases : (a : Bool) → is_live (after (opening settings) es).core.handles kind.Space space ≡ a → (b : Bool) → is_below (after (opening settings) es).core.handles kind.Space (session_above (after (opening settings) es).core.handles space) base ≡ b → (if a && b then parent_of (after (opening settings) es).core.handles space else None) ≡ Some session
            → (first_of (no_handle (after (opening settings) es).core.handles kind.Space space ∷ when (not (is_below (after (opening settings) es).core.handles kind.Space (session_above (after (opening settings) es).core.handles space) base)) HandleInvalid ∷ []) ≡ None) ↔ (is_live (after (opening settings) es).core.handles kind.Session session ≡ true)
        cases false ea b eb found = cc
        cases true ea false eb found = cc
        cases true ea true eb found =
            let live = live_parent (after (opening settings) es).core.handles (handles_stand_once settings es legal) (no_orphans settings es) (roots_after (opening settings) es refl) space session ea found in
            ((λ none. live), (λ there. rw (eb, ea) refl))
    by_handles _ named = cc
