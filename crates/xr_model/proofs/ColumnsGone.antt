-- Which column a getter reads, and what goes with a session and with actions.
use Rattle.std.proofs.Common.{◌≡◌, not, ◌+◌, ◌==◌, ◌&&◌, inl, inr, ℕ, zero, suc, Bool, true, false, List, [], ◌∷◌, map, Option, Some, None, option_map, slice_get, refl, sym, ap, subst, ◌∙◌, arith, true≢false}
use Rattle.std.specs.Prelude.{option_and_then, replicate, if◌then◌else◌, unwrap_or}
use Rattle.xr_types.specs.Code.{is_success}
use Rattle.xr_types.specs.declared.calls.Call.{Call}
use Rattle.xr_types.specs.declared.calls.Call.TheVariants as ask
use Rattle.xr_types.specs.declared.handles.Kind.TheVariants as kind
use Rattle.xr_types.specs.declared.handles.TheConstants.{ACTIONS}
use Rattle.xr_types.specs.declared.input.Column.{Column}
use Rattle.xr_types.specs.declared.spaces.Root.{Root}
use Rattle.xr_types.specs.declared.spaces.Root.TheVariants.{Action}
use Rattle.xr_model.specs.machine.Destroyed.{has_action, without_handle, left_session}
use Rattle.xr_model.specs.machine.Handles.{destroyed_by, is_live, without, destroyed_instances, Handles, has}
use Rattle.xr_model.specs.machine.Publication.{column_from}
use Rattle.xr_model.specs.machine.Spaces.{Space, is_left, with_left, without_spaces}
use Rattle.xr_model.specs.machine.State.{CoreState}
use Rattle.xr_model.specs.machine.Sync.{each_from, inactive_row, left_columns, no_columns}
use Rattle.xr_model.specs.machine.Machine.{reads_of, rule, step}
use Rattle.xr_model.specs.laws.ColumnLaws.{IsNamedBy, GettersReadTheNamedColumn, are_inactive, ColumnsGoWithTheSession, is_action_end, LeavesNoColumn, ColumnsGoWithTheAction}
use Rattle.xr_model.proofs.ChainPlaces.{same_some}
use Rattle.xr_model.proofs.FrameCalls.{where_done}
use Rattle.xr_model.proofs.Rows.{cleared_away, same_key}
use Rattle.xr_model.specs.machine.LiveSessions.{session_at, Session}
use Rattle.xr_model.specs.machine.Rules.Session.{columns_of}
use Rattle.xr_model.proofs.SessionColumns.{columns_left}
use Rattle.xr_model.proofs.SessionLives.{where_left}

-- ---- the column that a getter reads

-- counted from a column, that of a declared user path
abbrev IsFrom : ℕ → List ℕ → List Bool → ℕ → ℕ → Type 0
IsFrom n atoms declared sub k = (place : ℕ) × (k ≡ place + n) × (slice_get atoms place ≡ Some sub) × (slice_get declared place ≡ Some true)

named_from : (n : ℕ) (atoms : List ℕ) (declared : List Bool) (sub k : ℕ) → column_from n atoms declared sub ≡ Some k → IsFrom n atoms declared sub k
named_from n [] declared sub k found = cc
named_from n (atom ∷ atoms) [] sub k found = cc
named_from n (atom ∷ atoms) (d ∷ declared) sub k found = by d (atom == sub) refl found (named_from (n + 1) atoms declared sub k)
  where
    later : (a : Bool) → IsFrom (n + 1) atoms declared sub k → IsFrom n (atom ∷ atoms) (a ∷ declared) sub k
    later a is = let place = is.1 in (suc is.0, omega (arith, place), is.2, is.3)

    by : (a b : Bool) → (atom == sub) ≡ b → (if a && b then Some n else column_from (n + 1) atoms declared sub) ≡ Some k
        → (column_from (n + 1) atoms declared sub ≡ Some k → IsFrom (n + 1) atoms declared sub k) → IsFrom n (atom ∷ atoms) (a ∷ declared) sub k
    by true true eb found more = let here : n ≡ 0 + n = omega arith in (zero, sym (same_some n k found) ∙ here, ap (λ (m : ℕ). Some m) (same_key atom sub eb), refl)
    by true false eb found more = later true (more found)
    by false b eb found more = later false (more found)

pub getters_read_the_named_column : GettersReadTheNamedColumn
getters_read_the_named_column p a sub k found = by (sub == 0) refl found
  where
    by : (b : Bool) → (sub == 0) ≡ b → (if b then Some 0 else column_from 1 p.atoms a.declared sub) ≡ Some k → IsNamedBy p a sub k
    by true eb is = inl (same_key sub 0 eb, sym (same_some 0 k is))
    by false eb is = let from = named_from 1 p.atoms a.declared sub k is in inr (from.0, from.1, from.2, from.3)

-- ---- a session

-- a session that is destroyed is live no more, so it isn't among those that are left
dead_without : (h : Handles) (session : ℕ) → is_live (without h session) kind.Session session ≡ false
dead_without h session = by (session == 0) refl
  where
    by : (z : Bool) → (session == 0) ≡ z → not z && has (without h session).sessions session ≡ false
    by true ez = refl
    by false ez = cleared_away session (destroyed_instances h session) h.sessions ez

no_columns_no_session : (o : Option Session) → option_map (λ (x : Session). x.columns) o ≡ None → o ≡ None
no_columns_no_session None none = refl
no_columns_no_session (Some x) none = cc

session_goes : (s : CoreState) (session : ℕ) → session_at (without_handle s session).sessions session ≡ None
session_goes s session =
    no_columns_no_session (session_at (without_handle s session).sessions session)
    (columns_left s session session ∙ ap (λ (b : Bool). option_map (λ (x : Session). x.columns) (option_map (left_session (without s.handles session) (destroyed_by s.handles session)) (where_left b (session_at s.sessions session)))) (dead_without s.handles session))

pub columns_go_with_the_session : ColumnsGoWithTheSession
columns_go_with_the_session s e session is = subst Goes (sym is) goes
  where
    Goes : Call → Type 0
    Goes r = is_success (step s (record e { call = r })).1.reply.code ≡ true → session_at (step s (record e { call = r })).0.core.sessions session ≡ None

    goes : Goes (ask.DestroySession session)
    goes =
        let f = rule s.core (reads_of s (ask.DestroySession session)) (record e { call = ask.DestroySession session }) in
        where_done (λ x. session_at x.state.sessions session ≡ None) s.core f e.short refl (λ none. session_goes s.core session)

-- ---- actions

pub got_from : {T : Type 0} (f : ℕ → T → T) (n : ℕ) (xs : List T) (k m : ℕ) → m ≡ n + k → slice_get (each_from f n xs) k ≡ option_map (f m) (slice_get xs k)
got_from f n [] k m is = refl
got_from f n (x ∷ xs) zero m is = let same : n ≡ m = omega (arith, is) in ap (λ (i : ℕ). Some (f i x)) same
got_from f n (x ∷ xs) (suc k) m is = got_from f (n + 1) xs k m (omega (arith, is))

-- a place without an action shows nothing
place_goes : (there : ℕ → Bool) (columns : List (List Column)) (place : ℕ) (row : List Column) → slice_get (left_columns there columns) place ≡ Some row → there place ≡ false → are_inactive row ≡ true
place_goes there columns place row found none =
    by (slice_get columns place) (sym (got_from (λ k old. if there k then old else inactive_row) 0 columns place place (omega arith)) ∙ found)
  where
    by : (o : Option (List Column)) → option_map (λ old. if there place then old else inactive_row) o ≡ Some row → are_inactive row ≡ true
    by None is = cc
    by (Some old) is = subst (λ (r : List Column). are_inactive r ≡ true) (same_some inactive_row row (rw none at is)) refl

none_shown : (n place : ℕ) (row : List Column) → slice_get (replicate n inactive_row) place ≡ Some row → are_inactive row ≡ true
none_shown zero place row found = cc
none_shown (suc n) zero row found = subst (λ (r : List Column). are_inactive r ≡ true) (same_some inactive_row row found) refl
none_shown (suc n) (suc place) row found = none_shown n place row found

columns_go : (s : CoreState) (handle session place : ℕ) (row : List Column) → slice_get (columns_of (without_handle s handle) session) place ≡ Some row → has_action (without s.handles handle).actions place ≡ false → are_inactive row ≡ true
columns_go s handle session place row found none =
    by (is_live (without s.handles handle) kind.Session session) (session_at s.sessions session)
    (ap (λ (o : Option (List (List Column))). slice_get (unwrap_or o no_columns) place) (sym (columns_left s handle session)) ∙ found)
  where
    by : (b : Bool) (o : Option Session)
        → slice_get (unwrap_or (option_map (λ (x : Session). x.columns) (option_map (left_session (without s.handles handle) (destroyed_by s.handles handle)) (where_left b o))) no_columns) place ≡ Some row → are_inactive row ≡ true
    by true None found = none_shown ACTIONS place row found
    by true (Some x) found = place_goes (has_action (without s.handles handle).actions) x.columns place row found none
    by false o found = none_shown ACTIONS place row found

-- a space that moves with an action has it in that place
moves_with : (there : ℕ → Bool) (spaces : List Space) (k : ℕ) (x : Space) (place column : ℕ) → slice_get (map (with_left there) spaces) k ≡ Some x → x.root ≡ Some (Action place column) → there place ≡ true
moves_with there [] k x place column found root = cc
moves_with there (y ∷ spaces) (suc k) x place column found root = moves_with there spaces k x place column found root
moves_with there (y ∷ spaces) zero x place column found root =
    by y.root (ap (λ (z : Space). z.root) (same_some (with_left there y) x found) ∙ root)
  where
    some_root : (a b : Root) → Some a ≡ Some b → a ≡ b
    some_root a b same = cc

    kept : (r : Root) (b : Bool) → is_left there r ≡ b → (if b then Some r else None) ≡ Some (Action place column) → there place ≡ true
    kept r true eb is = subst (λ (q : Root). is_left there q ≡ true) (some_root r (Action place column) is) eb
    kept r false eb is = cc

    by : (o : Option Root) → option_and_then (λ r. if is_left there r then Some r else None) o ≡ Some (Action place column) → there place ≡ true
    by None is = cc
    by (Some r) is = kept r (is_left there r) refl is

abbrev Leaves : CoreState → Type 0
Leaves t = ((session place : ℕ) (row : List Column) → slice_get (columns_of t session) place ≡ Some row → has_action t.handles.actions place ≡ false → are_inactive row ≡ true)
    × ((k : ℕ) (x : Space) (place column : ℕ) → slice_get t.room.spaces k ≡ Some x → x.root ≡ Some (Action place column) → has_action t.handles.actions place ≡ true)

gone_with : (s : CoreState) (handle : ℕ) → Leaves (without_handle s handle)
gone_with s handle = (
  (λ session place row found none. columns_go s handle session place row found none),
  (λ k x place column found root.
      moves_with (has_action (without s.handles handle).actions) (without_spaces s.room (destroyed_by s.handles handle)).spaces k x place column found root),
)

pub columns_go_with_the_action : ColumnsGoWithTheAction
columns_go_with_the_action s e ends good = by e.call ends good
  where
    by : (r : Call) → is_action_end r ≡ true → is_success (step s (record e { call = r })).1.reply.code ≡ true → LeavesNoColumn s (record e { call = r })
    by (ask.DestroyAction action) ends good =
        let two = where_done (λ x. Leaves x.state) s.core (rule s.core (reads_of s (ask.DestroyAction action)) (record e { call = ask.DestroyAction action })) e.short refl (λ none. gone_with s.core action) good in
        record { columns = two.0; spaces = two.1 }
    by (ask.DestroyActionSet set) ends good =
        let two = where_done (λ x. Leaves x.state) s.core (rule s.core (reads_of s (ask.DestroyActionSet set)) (record e { call = ask.DestroyActionSet set })) e.short refl (λ none. gone_with s.core set) good in
        record { columns = two.0; spaces = two.1 }
    by _ ends good = absurd (true≢false (sym ends))
