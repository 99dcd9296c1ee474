-- What a getter tells: the column of the user path that it names, in the place of its action.
use Rattle.std.proofs.Common.{◌≡◌, ◌<◌, ◌+◌, ◌-◌, ◌==◌, inl, inr, not, ℕ, ℤ, pos, zero, suc, Bool, true, false, List, [], ◌∷◌, length, map, Option, Some, None, option_map, slice_get, refl, sym, ap, subst, ◌∙◌, arith, true≢false}
use Rattle.std.specs.Prelude.{◌↔◌, All, is_none, option_and_then, unwrap_or, if◌then◌else◌}
use Rattle.std.proofs.lemmas.List.{length-map}
use Rattle.std.proofs.lemmas.Option.{slice_get-map}
use Rattle.std.specs.List.{find, list_any, position_from}
use Rattle.std.specs.Ordering.{int_eq}
use Rattle.xr_types.specs.Code.{is_success}
use Rattle.xr_types.specs.Printed.{all_users}
use Rattle.xr_types.specs.Users.{user_place}
use Rattle.xr_types.specs.declared.calls.Call.{Call}
use Rattle.xr_types.specs.declared.calls.Call.TheVariants as ask
use Rattle.xr_types.specs.declared.calls.Gives.{Gives}
use Rattle.xr_types.specs.declared.calls.Gives.TheVariants as gives
use Rattle.xr_types.specs.declared.code.Code.TheVariants.{HandleInvalid, ActionsetNotAttached, ActionTypeMismatch, PathUnsupported}
use Rattle.xr_types.specs.declared.handles.Kind.TheVariants as kind
use Rattle.xr_types.specs.declared.handles.Slot.{Slot}
use Rattle.xr_types.specs.declared.input.ActionType.{ActionType}
use Rattle.xr_types.specs.declared.input.ActionType.TheVariants as type
use Rattle.xr_types.specs.declared.input.Column.{Column}
use Rattle.xr_types.specs.declared.input.User.{User}
use Rattle.xr_types.specs.declared.input.User.TheVariants as user
use Rattle.xr_model.specs.machine.Handles.{is_live}
use Rattle.xr_model.specs.machine.HandlePlaces.{place_in, place_among}
use Rattle.xr_model.specs.machine.Profiles.{user_of}
use Rattle.xr_model.specs.machine.Publication.{Publication, PublishedSession, PublishedAction, ShownColumn, shown_of, columns_in, shown_row, published_session, published_action, is_of_user, user_atom, atom_of_user, publication_of, session_read, published_at, has_attached, column_from, column_by, is_action_of, column_read, shown_by, getter_gives}
use Rattle.xr_model.specs.machine.Refusals.{when}
use Rattle.xr_model.specs.machine.Rule.{carried_out}
use Rattle.xr_model.specs.machine.Rules.Sets.{user_at}
use Rattle.xr_model.specs.machine.Rules.Sync.{getter_rule}
use Rattle.xr_model.specs.machine.Sets as sets
use Rattle.xr_model.specs.machine.LiveSessions.{Session}
use Rattle.xr_model.specs.machine.Sets.{is_declared, action_at}
use Rattle.xr_model.specs.machine.State.{CoreState, opening}
use Rattle.xr_model.specs.machine.Machine.{step}
use Rattle.xr_model.specs.machine.History.{after}
use Rattle.xr_model.specs.laws.ColumnLaws.{IsNamedBy, asked_of, TellsOf, TellsItsColumn, GettersTellTheirColumns}
use Rattle.xr_model.specs.laws.LocationLaws.{IsColumnOf}
use Rattle.xr_model.specs.laws.WordLaws.{RowFits, SessionFits, PublicationFits}
use Rattle.xr_model.proofs.ChainPlaces.{same_some}
use Rattle.xr_model.proofs.ColumnsGone.{getters_read_the_named_column}
use Rattle.xr_model.proofs.FittingPublications.{publications_fit}
use Rattle.xr_model.proofs.FrameCalls.{where_done}
use Rattle.xr_model.proofs.FrameOrder.{clear, none_first}
use Rattle.xr_model.proofs.Rows.{same_key}
use Rattle.xr_model.proofs.Keyed.{key_of}
use Rattle.xr_model.proofs.PublishedPlaces.{action_read, read_listed, row_is_read, Read}

-- ---- lists

-- what is found by a test stands in the list, where it is counted, and meets the test
pub position_got : {T : Type 0} (p : T → Bool) (xs : List T) (n place : ℕ) → position_from p n xs ≡ Some place
    → (i : ℕ) × (place ≡ i + n) × (x : T) × (slice_get xs i ≡ Some x) × (p x ≡ true)
position_got p [] n place found = cc
position_got {T = T} p (x ∷ xs) n place found = by (p x) refl found (position_got p xs (n + 1) place)
  where
    by : (b : Bool) → p x ≡ b → (if b then Some n else position_from p (n + 1) xs) ≡ Some place
        → (position_from p (n + 1) xs ≡ Some place → (i : ℕ) × (place ≡ i + (n + 1)) × (y : T) × (slice_get xs i ≡ Some y) × (p y ≡ true))
        → (i : ℕ) × (place ≡ i + n) × (y : T) × (slice_get (x ∷ xs) i ≡ Some y) × (p y ≡ true)
    by true eb found more = let same = same_some n place found in (zero, omega (arith, same), x, refl, eb)
    by false eb found more =
        let rest = more found in
        let i = rest.0 in
        let at = rest.1 in
        (suc i, omega (arith, at), rest.2, rest.3, rest.4)

got_within : {T : Type 0} (xs : List T) (k : ℕ) → k < length xs → (x : T) × (slice_get xs k ≡ Some x)
got_within [] k within = absurd (omega (arith, within))
got_within (x ∷ xs) zero within = (x, refl)
got_within (x ∷ xs) (suc k) within = got_within xs k (omega (arith, within))

-- what holds of all holds of one that is found
found_all : {T : Type 0} (P : T → Type 0) (p : T → Bool) (xs : List T) (x : T) → find p xs ≡ Some x → All P xs → P x
found_all P p [] x found all = cc
found_all {T = T} P p (y ∷ xs) x found all = by (p y) found (found_all P p xs x)
  where
    by : (b : Bool) → (if b then Some y else find p xs) ≡ Some x → (find p xs ≡ Some x → All P xs → P x) → P x
    by true found more = subst P (same_some y x found) (all zero y (omega arith))
    by false found more = more found (λ k d within. all (suc k) d (omega (arith, within)))

-- what holds of all that are made of some holds of each by what it is made of
all_unmade : {S T : Type 0} (P : T → Type 0) (f : S → T) (xs : List S) → All P (map f xs) → All (λ x. P (f x)) xs
all_unmade P f [] all k d within = absurd (omega (arith, within))
all_unmade P f (x ∷ xs) all zero d within = all zero (f x) (omega arith)
all_unmade P f (x ∷ xs) all (suc k) d within = all_unmade P f xs (λ j e m. all (suc j) e (omega (arith, m))) k d (omega (arith, within))

-- ---- user paths

-- one of the five
user_there : (f : User → ℕ) (place sub : ℕ) → slice_get (map f all_users) place ≡ Some sub → (who : User) × (user_place who ≡ place) × (f who ≡ sub)
user_there f zero sub e = (user.Left, refl, same_some (f user.Left) sub e)
user_there f (suc zero) sub e = (user.Right, refl, same_some (f user.Right) sub e)
user_there f (suc (suc zero)) sub e = (user.Head, refl, same_some (f user.Head) sub e)
user_there f (suc (suc (suc zero))) sub e = (user.Gamepad, refl, same_some (f user.Gamepad) sub e)
user_there f (suc (suc (suc (suc zero)))) sub e = (user.Treadmill, refl, same_some (f user.Treadmill) sub e)
user_there f (suc (suc (suc (suc (suc n))))) sub e = cc

user_few : (who : User) → user_place who < 5
user_few user.Left = omega arith
user_few user.Right = omega arith
user_few user.Head = omega arith
user_few user.Gamepad = omega arith
user_few user.Treadmill = omega arith

-- a text of a user path
text_user : (who : User) (text : List ℕ) → is_of_user who text ≡ true → (own : User) × (user_of text ≡ Some own) × (user_place own ≡ user_place who)
text_user who text is = by (user_of text) refl is
  where
    by : (o : Option User) → user_of text ≡ o → unwrap_or (option_map (λ other. user_place other == user_place who) o) false ≡ true
        → (own : User) × (user_of text ≡ Some own) × (user_place own ≡ user_place who)
    by None eo is = absurd (true≢false (sym is))
    by (Some own) eo is = (own, eo, same_key (user_place own) (user_place who) is)

-- the atom that is published for a user path is that of its text
atom_user : (atoms : List (List ℕ)) (actions : List sets.Action) (who : User) (sub : ℕ) → (sub == 0) ≡ false → atom_of_user atoms actions who ≡ sub
    → (own : User) × (user_at atoms sub ≡ Some own) × (user_place own ≡ user_place who)
atom_user atoms actions who sub some is = by (list_any (λ x. is_declared x.declared who) actions) is
  where
    none : (n : ℕ) → 0 ≡ n → (n == 0) ≡ false → ⊥
    none n e f = true≢false (sym (subst (λ (m : ℕ). (m == 0) ≡ true) e refl) ∙ f)

    there : (o : Option ℕ) → position_from (is_of_user who) 0 atoms ≡ o → unwrap_or (option_map (λ place. place + 1) o) 0 ≡ sub
        → (own : User) × (user_at atoms sub ≡ Some own) × (user_place own ≡ user_place who)
    there None eo is = absurd (none sub is some)
    there (Some n) eo is =
        let got = position_got (is_of_user who) atoms 0 n eo in
        let i = got.0 in
        let counted = got.1 in
        let before : sub - 1 ≡ i = omega (arith, counted, is) in
        let own = text_user who got.2 got.4 in
        (own.0, rw (some, before, got.3) own.1, own.2)

    by : (b : Bool) → (if b then user_atom atoms who else 0) ≡ sub → (own : User) × (user_at atoms sub ≡ Some own) × (user_place own ≡ user_place who)
    by true is = there (position_from (is_of_user who) 0 atoms) refl is
    by false is = absurd (none sub is some)

-- ---- the column

is_zero_is : (x : ℤ) → (not (int_eq x (pos 0)) ≡ false) ↔ (x ≡ pos 0)
is_zero_is x = by (int_eq x (pos 0)) refl
  where
    by : (b : Bool) → int_eq x (pos 0) ≡ b → (not b ≡ false) ↔ (x ≡ pos 0)
    by true eb = (λ e. grind (arith, eb), λ e. refl)
    by false eb = (λ e. absurd (true≢false e), λ e. absurd (true≢false (sym (subst (λ (y : ℤ). int_eq y (pos 0) ≡ true) (sym e) refl) ∙ eb)))

module _ (s : CoreState) (fits : PublicationFits (publication_of s)) (wanted : ActionType) (session action sub : ℕ) where
  abbrev p : Publication
  p = publication_of s

  -- where the action stands, and the row of its place in the session
  record Stands (x : Session) (a : sets.Action) : Type 0 where
    place : ℕ
    slot : Slot
    stands : slice_get s.handles.actions place ≡ Some slot
    own : slot.handle ≡ action
    row : List Column
    there : slice_get x.columns place ≡ Some row
    shown : shown_row s.handles x.columns a ≡ map shown_of row

  stands_at : (x : Session) (a : sets.Action) → a.handle ≡ action → length (shown_row s.handles x.columns a) ≡ 6 → Stands x a
  stands_at x a named six =
      let columns : shown_row s.handles x.columns a ≡ map shown_of (columns_in s.handles x.columns action) = ap (λ (k : ℕ). map shown_of (columns_in s.handles x.columns k)) named in
      by (place_among s.handles kind.Action action) refl columns
    where
      nothing : shown_row s.handles x.columns a ≡ [] → Stands x a
      nothing none = absurd (no_six (length (shown_row s.handles x.columns a)) six (ap length none))
        where
          no_six : (n : ℕ) → n ≡ 6 → n ≡ 0 → ⊥
          no_six n one two = omega (arith, one, two)

      some_row : (place : ℕ) → place_among s.handles kind.Action action ≡ Some place → (o : Option (List Column)) → slice_get x.columns place ≡ o → shown_row s.handles x.columns a ≡ map shown_of (unwrap_or o []) → Stands x a
      some_row place at None eo columns = nothing columns
      some_row place at (Some row) eo columns =
          let got = position_got (λ (x : Slot). x.handle == action) s.handles.actions 0 place (in_row (is_live s.handles kind.Action action) at) in
          let i = got.0 in
          let counted = got.1 in
          let same : place ≡ i = omega (arith, counted) in
          record { place = place; slot = got.2; stands = ap (λ (k : ℕ). slice_get s.handles.actions k) same ∙ got.3; own = same_key got.2.handle action got.4; row = row; there = eo; shown = columns }
        where
          in_row : (b : Bool) → (if b then place_in s.handles.actions action else None) ≡ Some place → place_in s.handles.actions action ≡ Some place
          in_row true e = e
          in_row false e = cc

      by : (o : Option ℕ) → place_among s.handles kind.Action action ≡ o → shown_row s.handles x.columns a ≡ map shown_of (unwrap_or (option_and_then (λ place. slice_get x.columns place) o) []) → Stands x a
      by None eo columns = nothing columns
      by (Some place) eo columns = some_row place eo (slice_get x.columns place) refl columns

  -- the column that the number names
  column_asked : (a : PublishedAction) (k : ℕ) → column_by p a sub ≡ Some k → IsColumnOf s.atoms sub k × (k < 6)
  column_asked a k is = by (sub == 0) refl is (getters_read_the_named_column p a sub k is)
    where
      few : (n m : ℕ) → m ≡ n + 1 → n < 5 → m < 6
      few n m e l = omega (arith, e, l)

      zero_few : (n : ℕ) → 0 ≡ n → n < 6
      zero_few n e = omega (arith, e)

      by : (b : Bool) → (sub == 0) ≡ b → (if b then Some 0 else column_from 1 p.atoms a.declared sub) ≡ Some k → IsNamedBy p a sub k → IsColumnOf s.atoms sub k × (k < 6)
      by true eb found named = (inl (same_key sub 0 eb, sym (same_some 0 k found)), zero_few k (same_some 0 k found))
      by false eb found (inl both) = absurd (true≢false (sym (subst (λ (n : ℕ). (n == 0) ≡ true) (sym both.0) refl) ∙ eb))
      by false eb found (inr it) =
          let there = user_there (atom_of_user s.atoms s.inputs.actions) it.0 sub it.2 in
          let own = atom_user s.atoms s.inputs.actions there.0 sub eb there.2 in
          let column : k ≡ user_place own.0 + 1 = it.1 ∙ ap (λ (n : ℕ). n + 1) (sym (own.2 ∙ there.1)) in
          (inr (own.0, own.1, column), few (user_place own.0) k column (user_few own.0))

  -- what is given by the columns that are read, and by the action
  abbrev given : Option (List ShownColumn) → Option PublishedAction → Gives
  given row found = unwrap_or (option_map (shown_by wanted) (option_and_then (λ k. option_and_then (λ columns. slice_get columns k) row) (column_read p found sub))) gives.Nothing

  -- the session that is read has room for the columns of an action that it has
  row_fits : (it : Read s session) (a : sets.Action) → action_at s.inputs action ≡ Some a → RowFits (shown_row s.handles it.its.columns a)
  row_fits it a found =
      let own = found_all (SessionFits (length p.actions)) (λ x. x.handle == session) p.sessions (published_session s.handles s.inputs.actions it.its) (is_found (session == 0) it.is) fits.room.sessions in
      found_all (λ b. RowFits (shown_row s.handles it.its.columns b)) (λ b. b.handle == action) s.inputs.actions a found (all_unmade RowFits (shown_row s.handles it.its.columns) s.inputs.actions own.each)
    where
      is_found : (b : Bool) → (if b then None else find (λ (x : PublishedSession). x.handle == session) p.sessions) ≡ Some (published_session s.handles s.inputs.actions it.its)
          → find (λ (x : PublishedSession). x.handle == session) p.sessions ≡ Some (published_session s.handles s.inputs.actions it.its)
      is_found true e = cc
      is_found false e = e

  -- what is given where nothing refuses it
  tells : (what : Call) → is_none (session_read p session) ≡ false → ((c : Column) → TellsOf c what (shown_by wanted (shown_of c))) → is_none (published_at p action) ≡ false → is_none (column_read p (published_at p action) sub) ≡ false
      → TellsItsColumn s session action sub what (getter_gives p wanted session action sub)
  tells what asked each some column =
      let it = read_listed s session asked in
      let read = action_read s action in
      let row = row_is_read s session it action in
      subst (λ (g : Gives). TellsItsColumn s session action sub what g) (sym (λ i. given (row i) (read i)))
      (by it (action_at s.inputs action) refl (ap is_none (sym read) ∙ some) (ap (λ (o : Option PublishedAction). is_none (column_read p o sub)) (sym read) ∙ column))
    where
      shown : (it : Read s session) (a : sets.Action) → action_at s.inputs action ≡ Some a → (k : ℕ) → column_by p (published_action a) sub ≡ Some k
          → TellsItsColumn s session action sub what (given (Some (shown_row s.handles it.its.columns a)) (Some (published_action a)))
      shown it a found k named =
          let six = (row_fits it a found).six in
          let at = stands_at it.its a (key_of (λ (b : sets.Action). b.handle) s.inputs.actions action a found) six in
          let named_so = column_asked (published_action a) k named in
          let long : length at.row ≡ 6 = sym (length-map at.row shown_of) ∙ ap length (sym at.shown) ∙ six in
          let less : k < length at.row = rw long named_so.1 in
          let c = got_within at.row k less in
          let is : slice_get (shown_row s.handles it.its.columns a) k ≡ Some (shown_of c.0) = ap (λ (l : List _). slice_get l k) at.shown ∙ slice_get-map shown_of at.row k ∙ ap (option_map shown_of) c.1 in
          record {
            its = it.its;
            listed = it.listed;
            place = at.place;
            slot = at.slot;
            stands = at.stands;
            own = at.own;
            row = at.row;
            there = at.there;
            column = k;
            asked = named_so.0;
            shown = c.0;
            stood = c.1;
            tells = rw (named, is) (each c.0);
          }

      of_action : (it : Read s session) (a : sets.Action) → action_at s.inputs action ≡ Some a → (o : Option ℕ) → column_by p (published_action a) sub ≡ o → is_none o ≡ false
          → TellsItsColumn s session action sub what (given (Some (shown_row s.handles it.its.columns a)) (Some (published_action a)))
      of_action it a found None eo column = absurd (true≢false column)
      of_action it a found (Some k) eo column = shown it a found k eo

      by : (it : Read s session) (o : Option sets.Action) → action_at s.inputs action ≡ o → is_none (option_map published_action o) ≡ false → is_none (column_read p (option_map published_action o) sub) ≡ false
          → TellsItsColumn s session action sub what (given (option_map (shown_row s.handles it.its.columns) o) (option_map published_action o))
      by it None eo some column = absurd (true≢false some)
      by it (Some a) eo some column = of_action it a eo (column_by p (published_action a) sub) refl column

  -- where it succeeds
  told : (what : Call) → ((c : Column) → TellsOf c what (shown_by wanted (shown_of c))) → (short : Bool) → is_success (carried_out s short (getter_rule s wanted session action sub)).code ≡ true
      → TellsItsColumn s session action sub what (carried_out s short (getter_rule s wanted session action sub)).gives
  told what each short =
      let f = getter_rule s wanted session action sub in
      where_done (λ x. TellsItsColumn s session action sub what x.gives) s f short refl
      (λ none.
      let free = clear f short none in
      let found = published_at p action in
      let handles = none_first (is_none (session_read p session)) HandleInvalid (when (is_none found) HandleInvalid ∷ []) free.handles in
      let action_is = none_first (is_none found) HandleInvalid [] handles.1 in
      let attached = none_first (not (has_attached p session action)) ActionsetNotAttached (when (not (is_action_of wanted found)) ActionTypeMismatch ∷ when (is_none (column_read p found sub)) PathUnsupported ∷ []) free.behind in
      let typed = none_first (not (is_action_of wanted found)) ActionTypeMismatch (when (is_none (column_read p found sub)) PathUnsupported ∷ []) attached.1 in
      let column = none_first (is_none (column_read p found sub)) PathUnsupported [] typed.1 in
      tells what handles.0 each action_is.0 column.0)

-- ---- each getter

pub getters_tell_their_columns : GettersTellTheirColumns
getters_tell_their_columns settings es e session action sub legal checked asked = by e.call asked
  where
    asks : ℕ → ℕ → ℕ → Option (ℕ × ℕ × ℕ)
    asks i a n = Some (i, a, n)

    fits : PublicationFits (publication_of (after (opening settings) es).core)
    fits = publications_fit settings es legal checked

    Told : ActionType → Call → ℕ → ℕ → ℕ → ℕ × ℕ × ℕ → Type 0
    Told wanted what i a n x =
        TellsItsColumn (after (opening settings) es).core x.0 x.1 x.2 what (carried_out (after (opening settings) es).core e.short (getter_rule (after (opening settings) es).core wanted i a n)).gives

    turned : (wanted : ActionType) (what : Call) (i a n : ℕ) → ((c : Column) → TellsOf c what (shown_by wanted (shown_of c))) → asks i a n ≡ asks session action sub
        → is_success (carried_out (after (opening settings) es).core e.short (getter_rule (after (opening settings) es).core wanted i a n)).code ≡ true
        → Told wanted what i a n (session, action, sub)
    turned wanted what i a n each same good =
        subst (Told wanted what i a n) (same_some (i, a, n) (session, action, sub) same) (told (after (opening settings) es).core fits wanted i a n what each e.short good)

    by : (r : Call) → asked_of r ≡ Some (session, action, sub) → is_success (step (after (opening settings) es) (record e { call = r })).1.reply.code ≡ true
        → TellsItsColumn (after (opening settings) es).core session action sub r (step (after (opening settings) es) (record e { call = r })).1.reply.gives
    by (ask.GetBoolean i a n) same good = turned type.Boolean (ask.GetBoolean i a n) i a n (λ c. (is_zero_is c.x, refl, refl, refl)) same good
    by (ask.GetFloat i a n) same good = turned type.Float (ask.GetFloat i a n) i a n (λ c. (refl, refl, refl, refl)) same good
    by (ask.GetVector i a n) same good = turned type.Vector (ask.GetVector i a n) i a n (λ c. (refl, refl, refl, refl, refl)) same good
    by (ask.GetPoseActive i a n) same good = turned type.Pose (ask.GetPoseActive i a n) i a n (λ c. refl) same good
    by _ same good = cc
