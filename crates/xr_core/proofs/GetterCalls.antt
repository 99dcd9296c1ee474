-- What a getter answers by its rule, told what the core finds: the session, the action, and the column.
use Rattle.std.proofs.Common.{◌≡◌, ◌==◌, ◌&&◌, ◌||◌, ℕ, Bool, true, false, not, List, [], ◌∷◌, map, Option, Some, None, option_map, option_and_then, Ok, Err, refl, sym, ap, ◌∙◌}
use Rattle.std.specs.Prelude.{zero, suc, Result, is_none, is_some, slice_get, unwrap_or, if◌then◌else◌}
use Rattle.std.specs.List.{find, list_any}
use Rattle.xr_types.specs.declared.calls.Actor.{Actor}
use Rattle.xr_types.specs.declared.calls.Gives.{Gives}
use Rattle.xr_types.specs.declared.calls.Gives.TheVariants.{Nothing}
use Rattle.xr_types.specs.declared.code.Code.{Code}
use Rattle.xr_types.specs.declared.code.Code.TheVariants.{Success, HandleInvalid, SessionLost, CallOrderInvalid, ActionsetNotAttached, ActionTypeMismatch, PathUnsupported}
use Rattle.xr_types.specs.declared.handles.Kind.TheVariants as kind
use Rattle.xr_types.specs.declared.input.ActionType.{ActionType}
use Rattle.xr_types.specs.declared.input.ActionType.TheVariants.{Boolean, Float, Vector, Pose, Vibration}
use Rattle.xr_types.specs.declared.input.Column.{Column}
use Rattle.xr_types.specs.declared.input.User.{User}
use Rattle.xr_types.specs.declared.input.User.TheVariants as user
use Rattle.xr_types.specs.Printed.{all_users}
use Rattle.xr_model.specs.machine.HandlePlaces.{place_among}
use Rattle.xr_model.specs.machine.LiveSessions.{Session, session_at, shown_in}
use Rattle.xr_model.specs.machine.PartAnswers.{or_refused}
use Rattle.xr_model.specs.machine.Publication.{Publication, PublishedAction, ShownColumn, publication_of, published_at, published_action, published_session, session_read, loss_read, row_read, shown_row, columns_in, has_attached, has_set_of, is_attached, is_action_of, is_same_type, column_read, column_from, atom_of_user, user_atom, getter_gives, shown_by, shown_of}
use Rattle.xr_model.specs.machine.Refusals.{Refusal, when, first_of}
use Rattle.xr_model.specs.machine.CoreCalls.{given_by}
use Rattle.xr_model.specs.machine.Machine.{rule_of}
use Rattle.xr_types.specs.declared.calls.Call.{Call}
use Rattle.xr_model.specs.machine.Rule.{refusals, nothing_done}
use Rattle.xr_model.specs.machine.Rules.Session.{columns_of}
use Rattle.xr_model.specs.machine.Rules.Sync.{getter_rule}
use Rattle.xr_model.specs.machine.SessionLife.{Life, is_lost}
use Rattle.xr_model.specs.machine.SessionRule.{Loss, loss_of, code_on}
use Rattle.xr_model.specs.machine.Sets as sets
use Rattle.xr_model.specs.machine.Sets.{action_at, is_declared}
use Rattle.xr_model.specs.machine.State.{CoreState, CellReads}
use Rattle.xr_model.proofs.Keyed.{key_of}
use Rattle.xr_model.proofs.PublishedPlaces.{Read, session_is_read, action_read, loss_is_read, attached_is_read, row_is_read}
use Rattle.xr_core.specs.declared.halt.Halt.TheVariants.{Refused}
use Rattle.xr_core.specs.inside.Deciding.{Decides}
use Rattle.xr_core.specs.inside.Getters.{look, named_look}
use Rattle.xr_core.proofs.Deciding.{refused_decides, effect_decides, ok_none, success_found}
use Rattle.xr_core.proofs.Plain.{are_plain, first_plain}

-- ---- which of its refusals refuses a getter

abbrev refusals_by : Bool → Bool → Bool → Bool → Bool → Bool → List Refusal
refusals_by a b lost d t u =
    when a HandleInvalid ∷ when b HandleInvalid ∷ when lost SessionLost ∷ when false CallOrderInvalid ∷ when d ActionsetNotAttached ∷ when t ActionTypeMismatch ∷ when u PathUnsupported ∷ []

module _ {T : Type 0} (a b lost d t u : Bool) (v : T) where
  by_session : a ≡ true → or_refused (first_of (refusals_by a b lost d t u)) v ≡ Err HandleInvalid
  by_session ea = rw ea refl

  by_action : a ≡ false → b ≡ true → or_refused (first_of (refusals_by a b lost d t u)) v ≡ Err HandleInvalid
  by_action ea eb = rw (ea, eb) refl

  by_loss : a ≡ false → b ≡ false → lost ≡ true → or_refused (first_of (refusals_by a b lost d t u)) v ≡ Err SessionLost
  by_loss ea eb el = rw (ea, eb, el) refl

  by_set : a ≡ false → b ≡ false → lost ≡ false → d ≡ true → or_refused (first_of (refusals_by a b lost d t u)) v ≡ Err ActionsetNotAttached
  by_set ea eb el ed = rw (ea, eb, el, ed) refl

  by_type : a ≡ false → b ≡ false → lost ≡ false → d ≡ false → t ≡ true → or_refused (first_of (refusals_by a b lost d t u)) v ≡ Err ActionTypeMismatch
  by_type ea eb el ed et = rw (ea, eb, el, ed, et) refl

  by_path : a ≡ false → b ≡ false → lost ≡ false → d ≡ false → t ≡ false → u ≡ true → or_refused (first_of (refusals_by a b lost d t u)) v ≡ Err PathUnsupported
  by_path ea eb el ed et eu = rw (ea, eb, el, ed, et, eu) refl

  by_none : a ≡ false → b ≡ false → lost ≡ false → d ≡ false → t ≡ false → u ≡ false → or_refused (first_of (refusals_by a b lost d t u)) v ≡ Ok v
  by_none ea eb el ed et eu = rw (ea, eb, el, ed, et, eu) refl

-- ---- the session

-- the session that is named is the one that is read
pub record Named (s : CoreState) (session : ℕ) (x : Session) : Type 0 where
  pub read : Read s session
  pub same : look read.its ≡ look x

pub named_read : (s : CoreState) (session : ℕ) (x : Session) → named_look s.sessions session ≡ Some (look x) → Named s session x
named_read s session x named = by (session == 0) (session_at s.sessions session) refl (session_is_read s session) named
  where
    same_pair : (a b : Life × Option (List ℕ)) → Some a ≡ Some b → a ≡ b
    same_pair a b e = cc

    by : (b : Bool) (o : Option Session) → session_at s.sessions session ≡ o → session_read (publication_of s) session ≡ (if b then None else option_map (published_session s.handles s.inputs.actions) o)
        → (if b then None else option_map look o) ≡ Some (look x) → Named s session x
    by true o eo is named = cc
    by false None eo is named = cc
    by false (Some y) eo is named = record { read = record { its = y; listed = eo; is = is }; same = same_pair (look y) (look x) named }

-- where none is named, none is read
nobody_read : (s : CoreState) (session : ℕ) → named_look s.sessions session ≡ None → is_none (session_read (publication_of s) session) ≡ true
nobody_read s session none = ap is_none (session_is_read s session) ∙ by (session == 0) (session_at s.sessions session) none
  where
    by : (b : Bool) (o : Option Session) → (if b then None else option_map look o) ≡ None → is_none (if b then None else option_map (published_session s.handles s.inputs.actions) o) ≡ true
    by true o none = refl
    by false None none = refl
    by false (Some y) none = cc

-- a session that is named is listed
pub named_listed : (s : CoreState) (session : ℕ) (x : Session) → named_look s.sessions session ≡ Some (look x) → is_some (session_at s.sessions session) ≡ true
named_listed s session x named = ap is_some (named_read s session x named).read.listed

-- ---- the action

found_passes : {T : Type 0} (p q : T → Bool) (xs : List T) (x : T) → find p xs ≡ Some x → q x ≡ true → list_any q xs ≡ true
found_passes p q [] x found passes = cc
found_passes p q (y ∷ ys) x found passes = by (p y) found (found_passes p q ys x)
  where
    or_true : (b : Bool) → b || true ≡ true
    or_true true = refl
    or_true false = refl

    by : (b : Bool) → (if b then Some y else find p ys) ≡ Some x → (find p ys ≡ Some x → q x ≡ true → list_any q ys ≡ true) → q y || list_any q ys ≡ true
    by true found more = let is : y ≡ x = cc in rw (is, passes) refl
    by false found more = rw (more found passes) (or_true (q y))

-- ---- the column

module _ (atoms : List (List ℕ)) (actions : List sets.Action) (action sub : ℕ) (y : sets.Action) (found : find (λ x. x.handle == action) actions ≡ Some y) where
  same_atom : (who : User) → is_declared y.declared who ≡ true → atom_of_user atoms actions who ≡ user_atom atoms who
  same_atom who declares = rw (found_passes (λ (x : sets.Action). x.handle == action) (λ (x : sets.Action). is_declared x.declared who) actions y found declares) refl

  one : (k : ℕ) (d : Bool) (a b : ℕ) (x z : Option ℕ) → (d ≡ true → a ≡ b) → x ≡ z → (if d && (a == sub) then Some k else x) ≡ (if d && (b == sub) then Some k else z)
  one k true a b x z same rest = rw (same refl, rest) refl
  one k false a b x z same rest = rest

  -- where the action declares each of these, the atoms of those that any declares are as good as those of all
  columns_same : (ds : List Bool) → ((who : User) → is_declared ds who ≡ true → atom_of_user atoms actions who ≡ user_atom atoms who)
      → column_from 1 (map (atom_of_user atoms actions) all_users) ds sub ≡ column_from 1 (map (user_atom atoms) all_users) ds sub
  columns_same [] same = refl
  columns_same (d0 ∷ []) same = one 1 d0 _ _ None None (same user.Left) refl
  columns_same (d0 ∷ d1 ∷ []) same = one 1 d0 _ _ _ _ (same user.Left) (one 2 d1 _ _ None None (same user.Right) refl)
  columns_same (d0 ∷ d1 ∷ d2 ∷ []) same = one 1 d0 _ _ _ _ (same user.Left) (one 2 d1 _ _ _ _ (same user.Right) (one 3 d2 _ _ None None (same user.Head) refl))
  columns_same (d0 ∷ d1 ∷ d2 ∷ d3 ∷ []) same = one 1 d0 _ _ _ _ (same user.Left) (one 2 d1 _ _ _ _ (same user.Right) (one 3 d2 _ _ _ _ (same user.Head) (one 4 d3 _ _ None None (same user.Gamepad) refl)))
  columns_same (d0 ∷ d1 ∷ d2 ∷ d3 ∷ d4 ∷ ds) same =
      one 1 d0 _ _ _ _ (same user.Left) (one 2 d1 _ _ _ _ (same user.Right) (one 3 d2 _ _ _ _ (same user.Head) (one 4 d3 _ _ _ _ (same user.Gamepad) (one 5 d4 _ _ None None (same user.Treadmill) refl))))

  column_same : column_from 1 (map (atom_of_user atoms actions) all_users) y.declared sub ≡ column_from 1 (map (user_atom atoms) all_users) y.declared sub
  column_same = columns_same y.declared (λ who declares. same_atom who declares)

get_map : {T U : Type 0} (f : T → U) (xs : List T) (k : ℕ) → slice_get (map f xs) k ≡ option_map f (slice_get xs k)
get_map f [] k = refl
get_map f (x ∷ xs) zero = refl
get_map f (x ∷ xs) (suc k) = get_map f xs k

-- what a published column shows is what the column shows
shown_same : (wanted : ActionType) (columns : List (List Column)) (column : ℕ) (o : Option ℕ)
    → unwrap_or (option_map (shown_by wanted) (slice_get (map shown_of (unwrap_or (option_and_then (λ place. slice_get columns place) o) [])) column)) Nothing
    ≡ unwrap_or (option_map (λ c. shown_by wanted (shown_of c)) (option_and_then (λ place. option_and_then (λ row. slice_get row column) (slice_get columns place)) o)) Nothing
shown_same wanted columns column None = refl
shown_same wanted columns column (Some place) = by (slice_get columns place)
  where
    at : (o : Option Column) → unwrap_or (option_map (shown_by wanted) (option_map shown_of o)) Nothing ≡ unwrap_or (option_map (λ c. shown_by wanted (shown_of c)) o) Nothing
    at None = refl
    at (Some c) = refl

    by : (row : Option (List Column))
        → unwrap_or (option_map (shown_by wanted) (slice_get (map shown_of (unwrap_or row [])) column)) Nothing
        ≡ unwrap_or (option_map (λ c. shown_by wanted (shown_of c)) (option_and_then (λ r. slice_get r column) row)) Nothing
    by None = refl
    by (Some row) = rw (get_map shown_of row column) (at (slice_get row column))

-- ---- a getter

module _ (s : CoreState) (wanted : ActionType) (session action sub : ℕ) where
  abbrev p : Publication
  p = publication_of s

  abbrev found : Option PublishedAction
  found = published_at p action

  abbrev loss : Loss
  loss = loss_read p session

  -- what it is answered as and gives, where nothing refuses it
  abbrev pub told : Code × Gives
  told = (code_on loss Success, getter_gives p wanted session action sub)

  abbrev pub answer : Result (Code × Gives) Code
  answer = or_refused (first_of (refusals (getter_rule s wanted session action sub))) told

  abbrev a : Bool
  a = is_none (session_read p session)

  abbrev b : Bool
  b = is_none found

  abbrev d : Bool
  d = not (has_attached p session action)

  abbrev t : Bool
  t = not (is_action_of wanted found)

  abbrev u : Bool
  u = is_none (column_read p found sub)

  pub no_session : named_look s.sessions session ≡ None → answer ≡ Err HandleInvalid
  no_session none = by_session a b loss.lost d t u told (nobody_read s session none)

  module _ (x : Session) (named : named_look s.sessions session ≡ Some (look x)) where
    it : Named s session x
    it = named_read s session x named

    is_it : a ≡ false
    is_it = ap is_none it.read.is

    loss_so : loss ≡ loss_of x.life
    loss_so = loss_is_read s session it.read ∙ ap (λ (l : Life × Option (List ℕ)). loss_of l.0) it.same

    pub no_action : action_at s.inputs action ≡ None → answer ≡ Err HandleInvalid
    no_action none = by_action a b loss.lost d t u told is_it (rw (action_read s action, none) refl)

    module _ (y : sets.Action) (there : action_at s.inputs action ≡ Some y) where
      one_published : found ≡ Some (published_action y)
      one_published = action_read s action ∙ rw there refl

      has_action : b ≡ false
      has_action = rw one_published refl

      pub refused_by_loss : (code : Code) → or_refused (first_of (is_lost x.life ∷ [])) (code_on (loss_of x.life) Success) ≡ Err code → answer ≡ Err code
      refused_by_loss code told_so = by x.life.lost refl told_so
        where
          by : (l : Bool) → x.life.lost ≡ l → or_refused (if l then Some (when l SessionLost) else None) (code_on (loss_of x.life) Success) ≡ Err code → answer ≡ Err code
          by true el told_so = let is : SessionLost ≡ code = cc in by_loss a b loss.lost d t u told is_it has_action (rw loss_so el) ∙ ap Err is
          by false el told_so = cc

      module _ (success : Code) (lives : or_refused (first_of (is_lost x.life ∷ [])) (code_on (loss_of x.life) Success) ≡ Ok success) where
        isnt_lost : loss.lost ≡ false
        isnt_lost = rw loss_so (by x.life.lost refl lives)
          where
            by : (l : Bool) → x.life.lost ≡ l → or_refused (if l then Some (when l SessionLost) else None) (code_on (loss_of x.life) Success) ≡ Ok success → x.life.lost ≡ false
            by true el lives = cc
            by false el lives = el

        is_success : code_on loss Success ≡ success
        is_success = rw loss_so (by x.life.lost lives)
          where
            by : (l : Bool) → or_refused (if l then Some (when l SessionLost) else None) (code_on (loss_of x.life) Success) ≡ Ok success → code_on (loss_of x.life) Success ≡ success
            by true lives = cc
            by false lives = cc

        attached_so : has_attached p session action ≡ is_attached x.attached y.set
        attached_so =
            attached_is_read s session it.read action ∙ ap (λ (o : Option sets.Action). unwrap_or (option_map (has_set_of it.read.its.attached) o) false) there
            ∙ ap (λ (l : Life × Option (List ℕ)). is_attached l.1 y.set) it.same

        pub refused_by_set : is_attached x.attached y.set ≡ false → answer ≡ Err ActionsetNotAttached
        refused_by_set other = by_set a b loss.lost d t u told is_it has_action isnt_lost (rw (attached_so, other) refl)

        module _ (attached : is_attached x.attached y.set ≡ true) where
          has_set : d ≡ false
          has_set = rw (attached_so, attached) refl

          of_type : is_action_of wanted found ≡ is_same_type y.type wanted
          of_type = rw one_published refl

          pub refused_by_type : is_same_type y.type wanted ≡ false → answer ≡ Err ActionTypeMismatch
          refused_by_type other = by_type a b loss.lost d t u told is_it has_action isnt_lost has_set (rw (of_type, other) refl)

          module _ (typed : is_same_type y.type wanted ≡ true) (users : List ℕ) (known : users ≡ map (user_atom s.atoms) all_users) where
            has_type : t ≡ false
            has_type = rw (of_type, typed) refl

            column_so : column_read p found sub ≡ (if sub == 0 then Some 0 else column_from 1 users y.declared sub)
            column_so = rw (one_published, known) (ap (λ (o : Option ℕ). if sub == 0 then Some 0 else o) (column_same s.atoms s.inputs.actions action sub y there))

            pub refused_by_path : (if sub == 0 then Some 0 else column_from 1 users y.declared sub) ≡ None → answer ≡ Err PathUnsupported
            refused_by_path none = by_path a b loss.lost d t u told is_it has_action isnt_lost has_set has_type (rw (column_so, none) refl)

            module _ (column : ℕ) (has : (if sub == 0 then Some 0 else column_from 1 users y.declared sub) ≡ Some column) where
              -- what the column of the action's place shows
              abbrev shown : Gives
              shown = unwrap_or (option_map (λ c. shown_by wanted (shown_of c)) (option_and_then (λ place. option_and_then (λ row. slice_get row column) (slice_get (columns_of s session) place)) (place_among s.handles kind.Action action))) Nothing

              gives_so : getter_gives p wanted session action sub ≡ shown
              gives_so =
                  let own : y.handle ≡ action = key_of (λ (x : sets.Action). x.handle) s.inputs.actions action y there in
                  let columns : it.read.its.columns ≡ columns_of s session = ap shown_in (sym it.read.listed) in
                  let row : row_read p session action ≡ Some (map shown_of (columns_in s.handles (columns_of s session) action)) =
                  row_is_read s session it.read action ∙ ap (option_map (shown_row s.handles it.read.its.columns)) there
                  ∙ ap (λ (k : ℕ). Some (map shown_of (columns_in s.handles it.read.its.columns k))) own ∙ ap (λ (cs : List (List Column)). Some (map shown_of (columns_in s.handles cs action))) columns in
                  ap (λ (o : Option ℕ). unwrap_or (option_map (shown_by wanted) (option_and_then (λ k. option_and_then (λ r. slice_get r k) (row_read p session action)) o)) Nothing) (column_so ∙ has)
                  ∙ ap (λ (o : Option (List ShownColumn)). unwrap_or (option_map (shown_by wanted) (option_and_then (λ r. slice_get r column) o)) Nothing) row
                  ∙ shown_same wanted (columns_of s session) column (place_among s.handles kind.Action action)

              pub gives : answer ≡ Ok (success, shown)
              gives = by_none a b loss.lost d t u told is_it has_action isnt_lost has_set has_type (rw (column_so, has) refl) ∙ ap Ok (rw (is_success, gives_so) refl)

-- ---- each call whose rule is that of a getter

-- a getter creates nothing and its refusals are plain
plain_getter : (a b lost d t u : Bool) → are_plain (refusals_by a b lost d t u) ≡ true
plain_getter a b lost d t u = refl

gives_no_handle : (wanted : ActionType) (o : Option ShownColumn) → given_by (unwrap_or (option_map (shown_by wanted) o) Nothing) ≡ 0
gives_no_handle wanted None = refl
gives_no_handle Boolean (Some c) = refl
gives_no_handle Float (Some c) = refl
gives_no_handle Vector (Some c) = refl
gives_no_handle Pose (Some c) = refl
gives_no_handle Vibration (Some c) = refl

module _ (s : CoreState) (wanted : ActionType) (session action sub : ℕ) (what : Call) (same : (who : Actor) (reads : CellReads) (given : ℕ) → rule_of s reads who given what ≡ getter_rule s wanted session action sub) where
  pub getter_refused : (code : Code) → answer s wanted session action sub ≡ Err code → Decides s what s (Err (Refused code))
  getter_refused code told_so = by (first_of (refusals (getter_rule s wanted session action sub))) refl told_so
    where
      by : (o : Option Refusal) → first_of (refusals (getter_rule s wanted session action sub)) ≡ o → or_refused o (told s wanted session action sub) ≡ Err code → Decides s what s (Err (Refused code))
      by None eo told_so = cc
      by (Some r) eo told_so =
          let is : r.code ≡ code = cc in
          rw (← is) (refused_decides s what r (λ who reads. rw (same who reads 0) eo) (first_plain (refusals (getter_rule s wanted session action sub)) r refl eo))

  pub getter_answered : (success : Code) (value : Gives) → answer s wanted session action sub ≡ Ok (success, value) → Decides s what s (Ok (record { code = success; gives = value; place = 0 }))
  getter_answered success value told_so =
      let both = ok_none (first_of (refusals (getter_rule s wanted session action sub))) (told s wanted session action sub) (success, value) told_so in
      let loss = loss_read (publication_of s) session in
      let code : success ≡ code_on loss Success = ap (λ (x : Code × Gives). x.0) both.1 in
      let gives : value ≡ getter_gives (publication_of s) wanted session action sub = ap (λ (x : Code × Gives). x.1) both.1 in
      rw (code, gives)
      (effect_decides s what (λ given. getter_rule s wanted session action sub) s (code_on loss Success) (getter_gives (publication_of s) wanted session action sub) nothing_done
      (λ who reads. same who reads (given_by (getter_gives (publication_of s) wanted session action sub))) both.0 refl refl
      (gives_no_handle wanted (option_and_then (λ k. option_and_then (λ row. slice_get row k) (row_read (publication_of s) session action)) (column_read (publication_of s) (published_at (publication_of s) action) sub))) (success_found loss))
