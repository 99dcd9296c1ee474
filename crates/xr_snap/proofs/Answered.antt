-- What a getter is answered, by what it found of the session and of the action.
use Rattle.std.proofs.Common.{◌≡◌, ◌==◌, ℕ, zero, suc, ◌<◌, Bool, true, false, not, List, [], ◌∷◌, length, sym, refl, ap, subst, ◌∙◌, arith, Option, Some, None, option_map, slice_get}
use Rattle.std.specs.List.{find, position_from}
use Rattle.std.specs.Prelude.{is_none, option_and_then, unwrap_or, Result, Ok, Err, if◌then◌else◌}
use Rattle.atomic_table.specs.Table.{Me}
use Rattle.xr_types.specs.declared.calls.Gives.{Gives}
use Rattle.xr_types.specs.declared.calls.Gives.TheVariants as gives
use Rattle.xr_types.specs.declared.code.Code.{Code}
use Rattle.xr_types.specs.declared.code.Code.TheVariants.{Success, SessionLossPending, HandleInvalid, SessionLost, ActionsetNotAttached, ActionTypeMismatch, PathUnsupported}
use Rattle.xr_types.specs.declared.input.ActionType.{ActionType}
use Rattle.xr_model.specs.machine.PartAnswers.{or_refused}
use Rattle.xr_model.specs.machine.Publication.{ShownColumn, PublishedSession, PublishedAction, Publication, session_read, no_loss, loss_read, published_at, place_at, has_attached, row_read, column_from, is_same_type, is_action_of, column_read, shown_by, getter_gives}
use Rattle.xr_model.specs.machine.Refusals.{when, first_of}
use Rattle.xr_model.specs.machine.SessionRule.{Loss, code_on}
use Rattle.xr_model.proofs.PublishedPlaces.{place_finds}
use Rattle.xr_rule.specs.View.{View}
use Rattle.xr_snap.specs.Reading.{asked_of, column_seen, getter_answer, heading_of, publication_seen, session_place, standing_of}
use Rattle.xr_snap.specs.declared.decoding.Asked.{Asked}
use Rattle.xr_snap.specs.declared.looking.Heading.{Heading}
use Rattle.xr_snap.specs.declared.looking.Standing.{Standing}
use Rattle.xr_snap.proofs.Found.{position_near}

-- refused by these, in their order
abbrev answer_by : Bool → Bool → Loss → Bool → Bool → Bool → Gives → Result (Code × Gives) Code
answer_by a b loss d t u given =
    or_refused (first_of (when a HandleInvalid ∷ when b HandleInvalid ∷ when loss.lost SessionLost ∷ when d ActionsetNotAttached ∷ when (not t) ActionTypeMismatch ∷ when u PathUnsupported ∷ [])) (code_on loss Success, given)

-- no action, whatever the session
nothing : (a : Bool) (loss : Loss) (d t u : Bool) (given : Gives) → answer_by a true loss d t u given ≡ Err HandleInvalid
nothing true loss d t u given = refl
nothing false loss d t u given = refl

-- ---- what is found

loss_found : (i : ℕ) (o : Option PublishedSession) (st : Standing) → option_map (standing_of i) o ≡ Some st → unwrap_or (option_map (λ x. x.loss) o) no_loss ≡ record { lost = st.lost; pending = st.pending }
loss_found i None st is = cc
loss_found i (Some x) st is = ap (λ (o : Option Standing). unwrap_or (option_map (λ (z : Standing). record { lost = z.lost; pending = z.pending }) o) no_loss) is

attached_found : (i : ℕ) (o : Option PublishedSession) (st : Standing) → option_map (standing_of i) o ≡ Some st → unwrap_or (option_and_then (λ x. slice_get x.attached i) o) false ≡ st.attached
attached_found i None st is = cc
attached_found i (Some x) st is = ap (λ (o : Option Standing). unwrap_or (option_map (λ (z : Standing). z.attached) o) false) is

session_there : (i : ℕ) (o : Option PublishedSession) (st : Standing) → option_map (standing_of i) o ≡ Some st → is_none o ≡ false
session_there i None st is = cc
session_there i (Some x) st is = refl

action_there : (acts : List PublishedAction) (i : ℕ) → i < length acts → is_none (slice_get acts i) ≡ false
action_there [] i l = absurd (omega arith)
action_there (a ∷ acts) zero l = refl
action_there (a ∷ acts) (suc i) l = action_there acts i (omega arith)

type_found : (wanted : ActionType) (o : Option PublishedAction) (asked : Asked) → option_map asked_of o ≡ Some asked → is_action_of wanted o ≡ is_same_type asked.kind wanted
type_found wanted None asked is = cc
type_found wanted (Some a) asked is = ap (λ (o : Option Asked). unwrap_or (option_map (λ (z : Asked). is_same_type z.kind wanted) o) false) is

-- ---- what a getter knows of a session and an action: their places, and how the one stands to the other

pub record Stands (p : Publication) (session action j i : ℕ) (st : Standing) : Type 0 where
  pub session_at : session_place p session ≡ Some j
  pub action_at : place_at p action ≡ Some i
  pub stands : option_map (standing_of i) (slice_get p.sessions j) ≡ Some st

module _ (p : Publication) where
  column_found : (sub : ℕ) (o : Option PublishedAction) (asked : Asked) → option_map asked_of o ≡ Some asked → column_read p o sub ≡ (if sub == 0 then Some 0 else column_from 1 p.atoms asked.declared sub)
  column_found sub None asked is = cc
  column_found sub (Some a) asked is = ap (λ (o : Option Asked). option_and_then (λ (z : Asked). if sub == 0 then Some 0 else column_from 1 p.atoms z.declared sub) o) is

  session_found : (session : ℕ) → session_read p session ≡ option_and_then (λ j. slice_get p.sessions j) (session_place p session)
  session_found session = by (session == 0)
    where
      by : (b : Bool) → (if b then None else find (λ x. x.handle == session) p.sessions) ≡ option_and_then (λ j. slice_get p.sessions j) (if b then None else position_from (λ x. x.handle == session) 0 p.sessions)
      by true = refl
      by false = sym (place_finds (λ (x : PublishedSession). x.handle == session) p.sessions)

  action_found : (action : ℕ) → published_at p action ≡ option_and_then (λ i. slice_get p.actions i) (place_at p action)
  action_found action = sym (place_finds (λ (a : PublishedAction). a.handle == action) p.actions)

  -- ---- places

  pub session_near : (session j : ℕ) → session_place p session ≡ Some j → j < length p.sessions
  session_near session j is = by (session == 0) is
    where
      by : (b : Bool) → (if b then None else position_from (λ x. x.handle == session) 0 p.sessions) ≡ Some j → j < length p.sessions
      by true is = cc
      by false is = let less = position_near (λ (x : PublishedSession). x.handle == session) p.sessions 0 j is in omega (arith, less)

  pub action_near : (action i : ℕ) → place_at p action ≡ Some i → i < length p.actions
  action_near action i is = let less = position_near (λ (a : PublishedAction). a.handle == action) p.actions 0 i is in omega (arith, less)

  module _ (wanted : ActionType) (session action sub : ℕ) where
    abbrev given : Gives
    given = getter_gives p wanted session action sub

    -- ---- refused by its handles

    pub no_session : session_place p session ≡ None → getter_answer p wanted session action sub ≡ Err HandleInvalid
    no_session none =
        let is : is_none (session_read p session) ≡ true = ap is_none (session_found session ∙ ap (option_and_then (λ j. slice_get p.sessions j)) none) in
        λ z. answer_by (is z) (is_none (published_at p action)) (loss_read p session) (not (has_attached p session action)) (is_action_of wanted (published_at p action)) (is_none (column_read p (published_at p action) sub)) given

    pub no_action : place_at p action ≡ None → getter_answer p wanted session action sub ≡ Err HandleInvalid
    no_action none =
        let is : is_none (published_at p action) ≡ true = ap is_none (action_found action ∙ ap (option_and_then (λ i. slice_get p.actions i)) none) in
        (λ z. answer_by (is_none (session_read p session)) (is z) (loss_read p session) (not (has_attached p session action)) (is_action_of wanted (published_at p action)) (is_none (column_read p (published_at p action) sub)) given)
        ∙ nothing (is_none (session_read p session)) (loss_read p session) (not (has_attached p session action)) (is_action_of wanted (published_at p action)) (is_none (column_read p (published_at p action) sub)) given

    -- ---- behind them

    module _ (j i : ℕ) (st : Standing) (known : Stands p session action j i st) where
      session_here : session_read p session ≡ slice_get p.sessions j
      session_here = session_found session ∙ ap (option_and_then (λ k. slice_get p.sessions k)) known.session_at

      action_here : published_at p action ≡ slice_get p.actions i
      action_here = action_found action ∙ ap (option_and_then (λ k. slice_get p.actions k)) known.action_at

      a_session : is_none (session_read p session) ≡ false
      a_session = ap is_none session_here ∙ session_there i (slice_get p.sessions j) st known.stands

      its_loss : loss_read p session ≡ record { lost = st.lost; pending = st.pending }
      its_loss = ap (λ (o : Option PublishedSession). unwrap_or (option_map (λ x. x.loss) o) no_loss) session_here ∙ loss_found i (slice_get p.sessions j) st known.stands

      its_set : has_attached p session action ≡ st.attached
      its_set =
          (λ z. unwrap_or (option_and_then (λ x. option_and_then (λ place. slice_get x.attached place) (known.action_at z)) (session_here z)) false)
          ∙ attached_found i (slice_get p.sessions j) st known.stands

      -- refused by the rest alone
      behind : (t u : Bool) → is_action_of wanted (published_at p action) ≡ t → is_none (column_read p (published_at p action) sub) ≡ u → getter_answer p wanted session action sub ≡ answer_by false false (record { lost = st.lost; pending = st.pending }) (not st.attached) t u given
      behind t u type_is column_is =
          let an_action : is_none (published_at p action) ≡ false = ap is_none action_here ∙ action_there p.actions i (action_near action i known.action_at) in
          λ z. answer_by (a_session z) (an_action z) (its_loss z) (not (its_set z)) (type_is z) (column_is z) given

      pub lost : st.lost ≡ true → getter_answer p wanted session action sub ≡ Err SessionLost
      lost is = behind (is_action_of wanted (published_at p action)) (is_none (column_read p (published_at p action) sub)) refl refl
          ∙ (λ z. answer_by false false (record { lost = is z; pending = st.pending }) (not st.attached) (is_action_of wanted (published_at p action)) (is_none (column_read p (published_at p action) sub)) given)

      pub not_attached : st.lost ≡ false → not st.attached ≡ true → getter_answer p wanted session action sub ≡ Err ActionsetNotAttached
      not_attached live is = behind (is_action_of wanted (published_at p action)) (is_none (column_read p (published_at p action) sub)) refl refl
          ∙ (λ z. answer_by false false (record { lost = live z; pending = st.pending }) (is z) (is_action_of wanted (published_at p action)) (is_none (column_read p (published_at p action) sub)) given)

      module _ (live : st.lost ≡ false) (has : not st.attached ≡ false) (asked : Asked) (asks : option_map asked_of (slice_get p.actions i) ≡ Some asked) where
        its_type : is_action_of wanted (published_at p action) ≡ is_same_type asked.kind wanted
        its_type = ap (is_action_of wanted) action_here ∙ type_found wanted (slice_get p.actions i) asked asks

        its_column : column_read p (published_at p action) sub ≡ (if sub == 0 then Some 0 else column_from 1 p.atoms asked.declared sub)
        its_column = ap (λ (o : Option PublishedAction). column_read p o sub) action_here ∙ column_found sub (slice_get p.actions i) asked asks

        pub other_type : is_same_type asked.kind wanted ≡ false → getter_answer p wanted session action sub ≡ Err ActionTypeMismatch
        other_type is = behind false (is_none (column_read p (published_at p action) sub)) (its_type ∙ is) refl
            ∙ (λ z. answer_by false false (record { lost = live z; pending = st.pending }) (has z) false (is_none (column_read p (published_at p action) sub)) given)

        pub no_path : is_same_type asked.kind wanted ≡ true → (if sub == 0 then Some 0 else column_from 1 p.atoms asked.declared sub) ≡ None → getter_answer p wanted session action sub ≡ Err PathUnsupported
        no_path same is = behind true true (its_type ∙ same) (ap is_none (its_column ∙ is)) ∙ (λ z. answer_by false false (record { lost = live z; pending = st.pending }) (has z) true true given)

        module _ (c : ℕ) (column : (if sub == 0 then Some 0 else column_from 1 p.atoms asked.declared sub) ≡ Some c) (shown : ShownColumn) (shows : column_seen p j i c ≡ Some shown) where
          its_row : row_read p session action ≡ option_and_then (λ x. slice_get x.columns i) (slice_get p.sessions j)
          its_row = λ z. option_and_then (λ x. option_and_then (λ place. slice_get x.columns place) (known.action_at z)) (session_here z)

          gives_it : given ≡ shown_by wanted shown
          gives_it =
              (λ z. unwrap_or (option_map (shown_by wanted) (option_and_then (λ k. option_and_then (λ row. slice_get row k) (its_row z)) ((its_column ∙ column) z))) gives.Nothing)
              ∙ ap (λ (o : Option ShownColumn). unwrap_or (option_map (shown_by wanted) o) gives.Nothing) shows

          pub told : is_same_type asked.kind wanted ≡ true → getter_answer p wanted session action sub ≡ Ok (if st.pending then SessionLossPending else Success, shown_by wanted shown)
          told same = behind true false (its_type ∙ same) (ap is_none (its_column ∙ column)) ∙ (λ z. answer_by false false (record { lost = live z; pending = st.pending }) (has z) true false (gives_it z))

-- ---- a getter looks while its seat stays inside, and sees the same at each look

module _ {S : Type 0} (m m1 : Me (Option S) View) (first : m1 ≡ m) where
  abbrev seen : Me (Option S) View → Publication
  seen n = publication_seen n.0.eyes

  -- the places are within what the heading counts
  pub places_here : (h : Heading) → h ≡ heading_of (seen m) → (session action j i : ℕ) (a b : Option ℕ) → a ≡ session_place (seen m) session → a ≡ Some j → b ≡ place_at (seen m1) action → b ≡ Some i → (j < h.sessions) × (i < h.actions)
  places_here h is session action j i a b a_is aj b_is bi =
      let less = session_near (seen m) session j (sym a_is ∙ aj) in
      let few = action_near (seen m) action i (ap (λ (n : Me (Option S) View). place_at (seen n) action) (sym first) ∙ sym b_is ∙ bi) in
      subst (λ (g : Heading). (j < g.sessions) × (i < g.actions)) (sym is) (less, few)

  pub no_action_here : (action : ℕ) (b : Option ℕ) → b ≡ place_at (seen m1) action → b ≡ None → place_at (seen m) action ≡ None
  no_action_here action b b_is none = ap (λ (n : Me (Option S) View). place_at (seen n) action) (sym first) ∙ sym b_is ∙ none

  module _ (m2 : Me (Option S) View) (second : m2 ≡ m1) where
    pub stands_here : (session action j i : ℕ) (st : Standing) (a b : Option ℕ) → a ≡ session_place (seen m) session → a ≡ Some j → b ≡ place_at (seen m1) action → b ≡ Some i
        → option_map (standing_of i) (slice_get (seen m2).sessions j) ≡ Some st → Stands (seen m) session action j i st
    stands_here session action j i st a b a_is aj b_is bi stands = record {
      session_at = sym a_is ∙ aj;
      action_at = ap (λ (n : Me (Option S) View). place_at (seen n) action) (sym first) ∙ sym b_is ∙ bi;
      stands = ap (λ (n : Me (Option S) View). option_map (standing_of i) (slice_get (seen n).sessions j)) (sym (second ∙ first)) ∙ stands;
    }

    module _ (m3 : Me (Option S) View) (third : m3 ≡ m2) where
      pub asks_here : (i : ℕ) (asked : Asked) → option_map asked_of (slice_get (seen m3).actions i) ≡ Some asked → option_map asked_of (slice_get (seen m).actions i) ≡ Some asked
      asks_here i asked asks = ap (λ (n : Me (Option S) View). option_map asked_of (slice_get (seen n).actions i)) (sym (third ∙ second ∙ first)) ∙ asks

      module _ (m4 : Me (Option S) View) (fourth : m4 ≡ m3) where
        pub column_here : (sub : ℕ) (declared : List Bool) (users : List ℕ) (o c : Option ℕ) → o ≡ (if sub == 0 then Some 0 else column_from 1 users declared sub) → users ≡ (seen m4).atoms → o ≡ c
            → (if sub == 0 then Some 0 else column_from 1 (seen m).atoms declared sub) ≡ c
        column_here sub declared users o c o_is users_are is =
            ap (λ (n : Me (Option S) View). if sub == 0 then Some 0 else column_from 1 (seen n).atoms declared sub) (sym (fourth ∙ third ∙ second ∙ first))
            ∙ ap (λ (us : List ℕ). if sub == 0 then Some 0 else column_from 1 us declared sub) (sym users_are) ∙ sym o_is ∙ is

        module _ (m5 : Me (Option S) View) (fifth : m5 ≡ m4) where
          pub shows_here : (j i c : ℕ) (shown : ShownColumn) → column_seen (seen m5) j i c ≡ Some shown → column_seen (seen m) j i c ≡ Some shown
          shows_here j i c shown shows = ap (λ (n : Me (Option S) View). column_seen (seen n) j i c) (sym (fifth ∙ fourth ∙ third ∙ second ∙ first)) ∙ shows
