-- What a sync hears, which bindings a column has, and what it shows behind the sync.
use Rattle.std.proofs.Common.{◌≡◌, ◌+◌, ◌==◌, ◌&&◌, ◌||◌, ◌⊎◌, inl, inr, ℕ, ℤ, zero, suc, not, Bool, true, false, List, [], ◌∷◌, map, Option, Some, None, option_map, slice_get, refl, sym, ap, subst, ◌∙◌, arith, true≢false}
use Rattle.std.proofs.lemmas.Option.{slice_get-map}
use Rattle.std.specs.Prelude.{◌↔◌, flat_map, is_none, length, nat_le, unwrap_or, if◌then◌else◌}
use Rattle.std.specs.List.{filter}
use Rattle.xr_types.specs.Code.{is_success}
use Rattle.xr_types.specs.Users.{user_place}
use Rattle.xr_types.specs.declared.calls.Call.{Call}
use Rattle.xr_types.specs.declared.calls.Call.TheVariants as ask
use Rattle.xr_types.specs.declared.code.Code.TheVariants.{LimitReached, ActionsetNotAttached, PathInvalid, PathUnsupported}
use Rattle.xr_types.specs.declared.handles.Kind.TheVariants as kind
use Rattle.xr_types.specs.declared.input.ActiveSet.{ActiveSet}
use Rattle.xr_types.specs.declared.input.Column.{Column}
use Rattle.xr_types.specs.declared.input.Inputs.{Inputs}
use Rattle.xr_types.specs.declared.input.Heard.{Heard}
use Rattle.xr_types.specs.declared.input.Ranked.{Ranked}
use Rattle.xr_types.specs.declared.input.User.{User}
use Rattle.xr_types.specs.declared.limits.TheConstants.{MOST_SYNCED}
use Rattle.xr_types.specs.declared.session.SessionState.{SessionState}
use Rattle.xr_types.specs.declared.session.SessionState.TheVariants.{Focused}
use Rattle.xr_model.specs.machine.Handles.{no_handle}
use Rattle.xr_model.specs.machine.LiveSessions.{session_at, attached_in, with_columns, shown_in}
use Rattle.xr_model.specs.machine.Paths.{text_at}
use Rattle.xr_model.specs.machine.Publication.{is_attached}
use Rattle.xr_model.specs.machine.Refusals.{when, first_of}
use Rattle.xr_model.specs.machine.Rules.Session.{life_of, columns_of}
use Rattle.xr_model.specs.machine.Rules.Sets.{user_at}
use Rattle.xr_model.specs.machine.Rules.Sync.{bindings_of, columns_synced, heard_by, is_named, item_checks, with_synced}
use Rattle.xr_model.specs.machine.SessionLife.{is_state}
use Rattle.xr_model.specs.machine.Sets.{is_declared, set_declares}
use Rattle.xr_model.specs.machine.State.{CoreState}
use Rattle.xr_model.specs.machine.Sync.{column_after, counts_in, each_from, found_at, found_from, is_heard, is_live, is_of, live_in, nothing_found, synced_column}
use Rattle.xr_model.specs.machine.Machine.{reads_of, rule, step}
use Rattle.xr_model.specs.laws.InputLaws.{IsFor, is_in_focus}
use Rattle.xr_model.specs.laws.SyncLaws.{has_some}
use Rattle.xr_model.specs.laws.SyncedLaws.{IsAskedFor, SyncsHearTheirItems, IsOfColumn, ColumnsHaveTheirBindings, ShowsWhatIsFound, IsSynced, SyncsShowWhatIsFound}
use Rattle.xr_model.proofs.ChainPlaces.{same_some}
use Rattle.xr_model.proofs.ColumnsGone.{got_from}
use Rattle.xr_model.proofs.FrameCalls.{where_done}
use Rattle.xr_model.proofs.FrameOrder.{clear, none_first}
use Rattle.xr_model.proofs.HeardBindings.{heard_are_listed}
use Rattle.xr_model.proofs.InputsGive.{changes_are_told, items_fail}
use Rattle.xr_model.proofs.ListSteps.{none_behind, none_front}
use Rattle.xr_model.proofs.SessionLives as lives
use Rattle.xr_model.proofs.Rows.{both_of, itself, same_key}
use Rattle.xr_model.proofs.SyncColumns.{active_from}
use Rattle.xr_model.proofs.UserAtoms.{same_user}

-- ---- what is heard

-- a number that is taken for a user path is 0, or the atom of one
abbrev NamesUser : CoreState → ActiveSet → Type 0
NamesUser s item = (item.sub ≡ 0) ⊎ ((item.sub == 0) ≡ false) × (who : User) × (user_at s.atoms item.sub ≡ Some who)

names_user : (s : CoreState) (item : ActiveSet) → not (is_named s item) ≡ false → NamesUser s item
names_user s item named = by (item.sub == 0) refl (user_at s.atoms item.sub) refl named
  where
    by : (b : Bool) → (item.sub == 0) ≡ b → (o : Option User) → user_at s.atoms item.sub ≡ o → not (b || unwrap_or (option_map (set_declares s.inputs item.set) o) false) ≡ false
        → (item.sub ≡ 0) ⊎ ((item.sub == 0) ≡ false) × (who : User) × (user_at s.atoms item.sub ≡ Some who)
    by true eb o eo named = inl (same_key item.sub 0 eb)
    by false eb None eo named = absurd (true≢false named)
    by false eb (Some who) eo named = inr (eb, who, eo)

-- so is each of a sync that nothing refuses
all_named : (s : CoreState) (session : ℕ) (items : List ActiveSet) → first_of (flat_map (item_checks s session) items) ≡ None → (k : ℕ) (item : ActiveSet) → slice_get items k ≡ Some item → NamesUser s item
all_named s session [] none k item found = cc
all_named s session (x ∷ items) none (suc k) item found = all_named s session items (none_behind (item_checks s session x) (flat_map (item_checks s session) items) none) k item found
all_named s session (x ∷ items) none zero item found =
    let here = none_front (item_checks s session x) (flat_map (item_checks s session) items) none in
    let live = none_behind (no_handle s.handles kind.ActionSet x.set ∷ []) (when (not (is_attached (attached_in (session_at s.sessions session)) x.set)) ActionsetNotAttached ∷ when (not (x.sub == 0) && is_none (text_at s.atoms x.sub)) PathInvalid ∷ when (not (is_named s x)) PathUnsupported ∷ []) here in
    let attached = none_first (not (is_attached (attached_in (session_at s.sessions session)) x.set)) ActionsetNotAttached (when (not (x.sub == 0) && is_none (text_at s.atoms x.sub)) PathInvalid ∷ when (not (is_named s x)) PathUnsupported ∷ []) live in
    let known = none_first (not (x.sub == 0) && is_none (text_at s.atoms x.sub)) PathInvalid (when (not (is_named s x)) PathUnsupported ∷ []) attached.1 in
    subst (NamesUser s) (same_some x item found) (names_user s x (none_first (not (is_named s x)) PathUnsupported [] known.1).0)

module _ (s : CoreState) (active : List ActiveSet) (b : Ranked) (all : (k : ℕ) (item : ActiveSet) → slice_get active k ≡ Some item → NamesUser s item) where
  none_user : (n : ℕ) → n ≡ 0 → (n == 0) ≡ false → ⊥
  none_user n e f = true≢false (sym (subst (λ (m : ℕ). (m == 0) ≡ true) (sym e) refl) ∙ f)

  -- the user path that is heard of an item
  asked_user : (item : ActiveSet) → NamesUser s item → IsFor (heard_by s item).user b.bound.pick.user → (item.sub ≡ 0) ⊎ (user_at s.atoms item.sub ≡ Some b.bound.pick.user)
  asked_user item (inl zero_is) for = inl zero_is
  asked_user item (inr it) for =
      let is : IsFor (Some it.1) b.bound.pick.user = subst (λ (o : Option User). IsFor o b.bound.pick.user) (ap (λ (z : Bool). if z then None else user_at s.atoms item.sub) it.0 ∙ it.2) for in
      inr (it.2 ∙ ap (λ (w : User). Some w) (same_user it.1 b.bound.pick.user (subst (λ (n : ℕ). (user_place it.1 == n) ≡ true) is (itself (user_place it.1)))))

  user_asked : (item : ActiveSet) → (item.sub ≡ 0) ⊎ (user_at s.atoms item.sub ≡ Some b.bound.pick.user) → IsFor (heard_by s item).user b.bound.pick.user
  user_asked item is = by (item.sub == 0) refl is
    where
      by : (z : Bool) → (item.sub == 0) ≡ z → (item.sub ≡ 0) ⊎ (user_at s.atoms item.sub ≡ Some b.bound.pick.user) → IsFor (if z then None else user_at s.atoms item.sub) b.bound.pick.user
      by true ez is = tt
      by false ez (inl zero_is) = absurd (none_user item.sub zero_is ez)
      by false ez (inr there) = rw there refl

  hears : (is_heard (map (heard_by s) active) b ≡ true) ↔ IsAskedFor s.atoms active b
  hears = (there, back)
    where
      of_item : (k : ℕ) (h : Heard) → (o : Option ActiveSet) → slice_get active k ≡ o → option_map (heard_by s) o ≡ Some h → h.set ≡ b.set → IsFor h.user b.bound.pick.user → IsAskedFor s.atoms active b
      of_item k h None eo found set for = cc
      of_item k h (Some item) eo found set for =
          let same = same_some (heard_by s item) h found in
          record {
            place = k;
            item = item;
            there = eo;
            set = ap (λ (x : Heard). x.set) same ∙ set;
            user = asked_user item (all k item eo) (subst (λ (x : Heard). IsFor x.user b.bound.pick.user) (sym same) for);
          }

      there : is_heard (map (heard_by s) active) b ≡ true → IsAskedFor s.atoms active b
      there heard =
          let is = (heard_are_listed (map (heard_by s) active) b).0 heard in
          of_item is.place is.item (slice_get active is.place) refl (sym (slice_get-map (heard_by s) active is.place) ∙ is.there) is.set is.user

      back : IsAskedFor s.atoms active b → is_heard (map (heard_by s) active) b ≡ true
      back is =
          (heard_are_listed (map (heard_by s) active) b).1 (record {
            place = is.place;
            item = heard_by s is.item;
            there = slice_get-map (heard_by s) active is.place ∙ ap (option_map (heard_by s)) is.there;
            set = is.set;
            user = user_asked is.item is.user;
          })

pub syncs_hear_their_items : SyncsHearTheirItems
syncs_hear_their_items s e session active b is good = subst Hears (sym is) heard good
  where
    Hears : Call → Type 0
    Hears r = is_success (step s (record e { call = r })).1.reply.code ≡ true → (is_heard (map (heard_by s.core) active) b ≡ true) ↔ IsAskedFor s.core.atoms active b

    heard : Hears (ask.SyncActions session active)
    heard =
        let f = rule s.core (reads_of s (ask.SyncActions session active)) (record e { call = ask.SyncActions session active }) in
        where_done (λ x. (is_heard (map (heard_by s.core) active) b ≡ true) ↔ IsAskedFor s.core.atoms active b) s.core f e.short (items_fail s.core session active)
        (λ none.
        let few = none_first (not (nat_le (length active) MOST_SYNCED)) LimitReached (flat_map (item_checks s.core session) active) (clear f e.short none).behind in
        hears s.core active b (all_named s.core session active few.1))

-- ---- the bindings of a column

pub filters_twice : {T : Type 0} (p q r : T → Bool) → ((x : T) → r x ≡ p x && q x) → (xs : List T) → filter q (filter p xs) ≡ filter r xs
filters_twice p q r same [] = refl
filters_twice p q r same (x ∷ xs) = by (p x) refl (q x) refl (filters_twice p q r same xs)
  where
    by : (a : Bool) → p x ≡ a → (c : Bool) → q x ≡ c → filter q (filter p xs) ≡ filter r xs → filter q (if a then x ∷ filter p xs else filter p xs) ≡ (if r x then x ∷ filter r xs else filter r xs)
    by true ea true ec more = rw (same x, ea, ec) (ap (λ l. x ∷ l) more)
    by true ea false ec more = rw (same x, ea, ec) more
    by false ea c ec more = rw (same x, ea) more

same_bool : (a b : Bool) → (a ≡ true → b ≡ true) → (b ≡ true → a ≡ true) → a ≡ b
same_bool true b there back = sym (there refl)
same_bool false true there back = back refl
same_bool false false there back = refl

module _ (active : List Heard) (all : List Ranked) (place column : ℕ) (b : Ranked) where
  own_user : (column == 0) || ((column == user_place b.bound.pick.user + 1) && is_declared b.declared b.bound.pick.user) ≡ true
      → (column ≡ 0) ⊎ ((column ≡ user_place b.bound.pick.user + 1) × (is_declared b.declared b.bound.pick.user ≡ true))
  own_user is = by (column == 0) refl is
    where
      by : (z : Bool) → (column == 0) ≡ z → z || ((column == user_place b.bound.pick.user + 1) && is_declared b.declared b.bound.pick.user) ≡ true
          → (column ≡ 0) ⊎ ((column ≡ user_place b.bound.pick.user + 1) × (is_declared b.declared b.bound.pick.user ≡ true))
      by true ez is = inl (same_key column 0 ez)
      by false ez is = let two = both_of (column == user_place b.bound.pick.user + 1) (is_declared b.declared b.bound.pick.user) is in inr (same_key column (user_place b.bound.pick.user + 1) two.0, two.1)

  user_own : (column ≡ 0) ⊎ ((column ≡ user_place b.bound.pick.user + 1) × (is_declared b.declared b.bound.pick.user ≡ true)) → counts_in column b ≡ true
  user_own (inl zero_is) = rw zero_is refl
  user_own (inr it) = by (column == 0)
    where
      by : (z : Bool) → z || ((column == user_place b.bound.pick.user + 1) && is_declared b.declared b.bound.pick.user) ≡ true
      by true = refl
      by false = rw (it.1, subst (λ (n : ℕ). (n == user_place b.bound.pick.user + 1) ≡ true) (sym it.0) (itself (user_place b.bound.pick.user + 1))) refl

  of_column : is_live active all b && is_of place column b ≡ true → IsOfColumn active all place column b
  of_column is =
      let two = both_of (is_live active all b) (is_of place column b) is in
      let more = both_of (b.place == place) (counts_in column b) two.1 in
      record { live = two.0; action = same_key b.place place more.0; user = own_user more.1 }

  column_of : IsOfColumn active all place column b → is_live active all b && is_of place column b ≡ true
  column_of is =
      let action : (b.place == place) ≡ true = subst (λ (n : ℕ). (n == place) ≡ true) (sym is.action) (itself place) in
      rw (is.live, action, user_own is.user) refl

pub columns_have_their_bindings : ColumnsHaveTheirBindings
columns_have_their_bindings active all place column counts same =
    filters_twice (is_live active all) (is_of place column) counts
    (λ b. same_bool (counts b) (is_live active all b && is_of place column b) (λ e. column_of active all place column b ((same b).0 e)) (λ e. (same b).1 (of_column active all place column b e))) all

-- ---- what a column shows

shows : (clock : ℤ) (live : List Ranked) (inputs : Inputs) (old : Column) → ShowsWhatIsFound clock live (found_from inputs nothing_found live) old (column_after clock old (found_from inputs nothing_found live))
unfolding column_after
shows clock live inputs old = by (has_some live) refl (active_from inputs live nothing_found)
  where
    by : (b : Bool) → has_some live ≡ b → (found_from inputs nothing_found live).active ≡ has_some live
        → ShowsWhatIsFound clock live (found_from inputs nothing_found live) old (column_after clock old (found_from inputs nothing_found live))
    by true eb is = let here = is ∙ eb in record {
      active = rw here (sym eb);
      first = λ e. rw here refl;
      second = λ e. rw here refl;
      pose = λ e. rw here refl;
      change = λ e. changes_are_told clock old (found_from inputs nothing_found live) here;
      nothing = λ e. absurd (true≢false (sym eb ∙ e));
    }
    by false eb is = let here = is ∙ eb in record {
      active = rw here (sym eb);
      first = λ e. absurd (true≢false (sym e ∙ eb));
      second = λ e. absurd (true≢false (sym e ∙ eb));
      pose = λ e. absurd (true≢false (sym e ∙ eb));
      change = λ e. absurd (true≢false (sym e ∙ eb));
      nothing = λ e. rw here refl;
    }

in_focus : (state : SessionState) → is_in_focus state ≡ true → is_state state Focused ≡ true
in_focus Focused is = refl
in_focus _ is = absurd (true≢false (sym is))

pub syncs_show_what_is_found : SyncsShowWhatIsFound
syncs_show_what_is_found s e session active place column x row old is good focus listed at stood = subst Shows (sym is) shown good
  where
    Shows : Call → Type 0
    Shows r = is_success (step s (record e { call = r })).1.reply.code ≡ true → IsSynced s session active place column old (step s (record e { call = r })).0.core.sessions

    synced : IsSynced s session active place column old (with_synced s.core session true active).sessions
    synced =
        let heard = map (heard_by s.core) active in
        let all = bindings_of s.core in
        let each = λ (p : ℕ) (r : List Column). each_from (λ k c. synced_column heard all s.core.device.inputs s.core.device.clock p k c) 0 r in
        record {
          its = with_columns (columns_synced s.core true active (columns_of s.core session)) x;
          listed =
              lives.found_at session session (with_columns (columns_synced s.core true active (columns_of s.core session))) (λ y. refl) s.core.sessions
              ∙ rw (itself session) (ap (option_map (with_columns (columns_synced s.core true active (columns_of s.core session)))) listed);
          row = each place row;
          there = got_from (λ p r. each_from (λ k c. synced_column (map (heard_by s.core) active) (bindings_of s.core) s.core.device.inputs s.core.device.clock p k c) 0 r) 0 (columns_of s.core session) place place (omega arith)
              ∙ ap (option_map (λ r. each_from (λ k c. synced_column (map (heard_by s.core) active) (bindings_of s.core) s.core.device.inputs s.core.device.clock place k c) 0 r)) (ap (λ o. slice_get (shown_in o) place) listed ∙ at);
          new = column_after s.core.device.clock old (found_at heard all s.core.device.inputs place column);
          stands = got_from (λ k c. synced_column (map (heard_by s.core) active) (bindings_of s.core) s.core.device.inputs s.core.device.clock place k c) 0 row column column (omega arith)
              ∙ ap (option_map (λ c. synced_column (map (heard_by s.core) active) (bindings_of s.core) s.core.device.inputs s.core.device.clock place column c)) stood;
          shows = shows s.core.device.clock (live_in heard all place column) s.core.device.inputs old;
        }

    shown : Shows (ask.SyncActions session active)
    shown =
        let f = rule s.core (reads_of s (ask.SyncActions session active)) (record e { call = ask.SyncActions session active }) in
        where_done (λ y. IsSynced s session active place column old y.state.sessions) s.core f e.short (items_fail s.core session active)
        (λ none. subst (λ (b : Bool). IsSynced s session active place column old (with_synced s.core session b active).sessions) (sym (in_focus (life_of s.core session).state focus)) synced)
