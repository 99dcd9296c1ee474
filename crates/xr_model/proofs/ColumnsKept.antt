-- What stays: the columns over most calls, and where an action or a session goes those of the others, and the spaces that don't move
-- with an action that went.
use Rattle.std.proofs.Common.{◌≡◌, ◌==◌, ◌+◌, ◌++◌, ℕ, not, Bool, true, false, List, Option, Some, None, option_map, slice_get, refl, sym, ap, ◌∙◌, arith, true≢false, subst, [], ◌∷◌}
use Rattle.std.specs.Prelude.{option_and_then, if◌then◌else◌, is_some}
use Rattle.std.specs.List.{list_all}
use Rattle.xr_types.specs.Code.{is_success}
use Rattle.xr_types.specs.declared.calls.Call.{Call}
use Rattle.xr_types.specs.declared.calls.Call.TheVariants as ask
use Rattle.xr_types.specs.declared.device.DeviceEvent.{DeviceEvent}
use Rattle.xr_types.specs.declared.device.DeviceEvent.TheVariants as event
use Rattle.xr_types.specs.declared.handles.Kind.TheVariants as kind
use Rattle.xr_types.specs.declared.input.Column.{Column}
use Rattle.xr_types.specs.declared.spaces.Root.{Root}
use Rattle.xr_types.specs.declared.spaces.Root.TheVariants.{Fixed, Action}
use Rattle.xr_model.specs.machine.Destroyed.{has_action, without_handle, left_session}
use Rattle.xr_model.specs.machine.Handles.{destroyed_by, is_among, is_live, without}
use Rattle.xr_model.specs.machine.Refusals.{Refusal}
use Rattle.xr_model.specs.machine.Rule.{Effect, refusal, told_on, unless_refused}
use Rattle.xr_model.specs.machine.Rules.Device.{behind_event}
use Rattle.xr_model.specs.machine.Spaces.{Space, is_left, with_left, without_spaces}
use Rattle.xr_model.specs.machine.State.{CoreState, opening}
use Rattle.xr_model.specs.machine.Sync.{inactive_row, left_columns}
use Rattle.xr_model.specs.machine.Machine.{reads_of, rule, step}
use Rattle.xr_model.specs.machine.History.{after}
use Rattle.xr_model.specs.laws.ColumnLaws.{may_change_columns, ColumnsStay, moves_on, KeepsOthers, OthersKeepWhatTheyShow, ends_some, NewSessionsShowNothing, are_inactive}
use Rattle.xr_model.proofs.ChainPlaces.{same_some}
use Rattle.xr_model.proofs.ColumnsGone.{got_from}
use Rattle.xr_model.proofs.FrameCalls.{where_done}
use Rattle.xr_model.proofs.Keyed.{which_left, which_map}
use Rattle.xr_model.proofs.Rows.{same_key, is_false}
use Rattle.xr_model.specs.machine.LiveSessions.{with_columns, shown_in, session_at, with_session_at, with_frame_loop, each_changed, with_attached, told_states, Session}
use Rattle.xr_model.specs.machine.Rules.Session.{columns_of, loop_of, changed_in, told_of, with_change, with_loop, new_session}
use Rattle.xr_model.specs.machine.Rules.Frames.{next_time}
use Rattle.xr_model.proofs.SessionColumns.{columns_at, shown_by_columns, columns_beside, others_stay, columns_changed, columns_each, columns_settled, shown_more, columns_left}
use Rattle.xr_model.specs.machine.SessionLife.{unchanged, lost_session, losing_session, started_session, begun_session, ended_session, exiting_session, synced_session, Life, Changed}
use Rattle.xr_model.specs.machine.Frames.{FrameLoop, reset_loop, ended_loop, waited_loop, begun_loop}
use Rattle.xr_types.specs.declared.device.Wish.{Wish}
use Rattle.xr_types.specs.declared.device.Wish.TheVariants as wish
use Rattle.xr_model.specs.machine.Target.{Standing, rounds, most_rounds, all_changed}
use Rattle.xr_model.specs.machine.Sets.{sets_named}
use Rattle.xr_model.proofs.SessionLives.{where_left}
use Rattle.xr_model.specs.laws.SessionLaws.{is_session_creation}
use Rattle.xr_model.proofs.LostSessions.{new_session_given, sessions_are_listed}
use Rattle.xr_model.proofs.Destroying.{known_after, known_opening}

-- ---- over most calls

module _ (s : CoreState) (k : ℕ) where
  columns_so : (o : Option Refusal) (x : Effect) → columns_of x.state k ≡ columns_of s k → columns_of (unless_refused s o x).state k ≡ columns_of s k
  columns_so None x same = same
  columns_so (Some r) x same = refl

  settled_so : (w : Wish) (t : Standing) → columns_at t.sessions k ≡ columns_at s.sessions k → shown_in (session_at (rounds most_rounds w t).sessions k) ≡ columns_of s k
  settled_so w t same = shown_by_columns (rounds most_rounds w t).sessions s.sessions k (columns_settled w t k ∙ same)

  -- its loop of frames changes
  looped_so : (session : ℕ) (l : FrameLoop) → columns_at (with_session_at session (with_frame_loop l) s.sessions) k ≡ columns_at s.sessions k
  looped_so session l = columns_beside session k (with_frame_loop l) (λ y. refl) (λ y. refl) s.sessions

  -- and its life
  period_so : (session : ℕ) (f : Life → Changed) (l : FrameLoop) → columns_of (with_change (with_loop s session l) (session_at s.sessions session) f) k ≡ columns_of s k
  period_so session f l =
      settled_so s.device.wish (record { sessions = changed_in (session_at s.sessions session) f (with_session_at session (with_frame_loop l) s.sessions); events = told_of (session_at s.sessions session) f s.events })
      (columns_changed (session_at s.sessions session) f (with_session_at session (with_frame_loop l) s.sessions) k ∙ looped_so session l)

  lost_so : shown_in (session_at (each_changed (λ x. unchanged (lost_session x.life)) s.sessions) k) ≡ columns_of s k
  lost_so = shown_by_columns (each_changed (λ x. unchanged (lost_session x.life)) s.sessions) s.sessions k (columns_each (λ x. unchanged (lost_session x.life)) s.sessions k)

  told_so : (what : DeviceEvent) → columns_of (behind_event s what) k ≡ columns_of s k
  told_so (event.Wish wish) = settled_so wish (record { sessions = s.sessions; events = s.events }) refl
  told_so event.Loss = settled_so s.device.wish (all_changed (λ x. losing_session x.life) (record { sessions = s.sessions; events = s.events })) (columns_each (λ x. losing_session x.life) s.sessions k)
  told_so event.Lost = lost_so
  told_so event.Fault = lost_so
  told_so (event.Garbled line) = lost_so
  told_so _ = refl

pub columns_stay : ColumnsStay
columns_stay s e k aside = by e.call aside
  where
    by : (r : Call) → may_change_columns r k ≡ false → columns_of (step s (record e { call = r })).0.core k ≡ columns_of s.core k
    by (ask.SyncActions session active) aside =
        let f = rule s.core (reads_of s (ask.SyncActions session active)) (record e { call = ask.SyncActions session active }) in
        columns_so s.core k (refusal e.short f) (told_on f.on f.effect) (ap shown_in (others_stay session k (with_columns _) (λ x. refl) aside s.core.sessions))
    by (ask.DestroyInstance instance) aside = absurd (true≢false aside)
    by (ask.DestroySession session) aside = absurd (true≢false aside)
    by (ask.DestroyActionSet set) aside = absurd (true≢false aside)
    by (ask.DestroyAction action) aside = absurd (true≢false aside)
    by (ask.CreateSession instance system) aside =
        let f = rule s.core (reads_of s (ask.CreateSession instance system)) (record e { call = ask.CreateSession instance system }) in
        let new = new_session s.core e.given (started_session s.core.device.wish).life in
        let all : List Session = s.core.sessions ++ new ∷ [] in
        columns_so s.core k (refusal e.short f) (told_on f.on f.effect)
        (shown_by_columns _ all k (columns_settled s.core.device.wish (record { sessions = all; events = told_states s.core.events (s.core.created + 1) e.given (started_session s.core.device.wish).through }) k)
        ∙ shown_more new refl s.core.sessions k)
    by (ask.BeginSession session view) aside =
        let f = rule s.core (reads_of s (ask.BeginSession session view)) (record e { call = ask.BeginSession session view }) in
        columns_so s.core k (refusal e.short f) (told_on f.on f.effect) (period_so s.core k session (λ life. unchanged (begun_session life)) (reset_loop (loop_of s.core session)))
    by (ask.EndSession session) aside =
        let f = rule s.core (reads_of s (ask.EndSession session)) (record e { call = ask.EndSession session }) in
        columns_so s.core k (refusal e.short f) (told_on f.on f.effect) (period_so s.core k session (ended_session s.core.device.wish) (reset_loop (loop_of s.core session)))
    by (ask.EndFrame session time blend layers) aside =
        let f = rule s.core (reads_of s (ask.EndFrame session time blend layers)) (record e { call = ask.EndFrame session time blend layers }) in
        columns_so s.core k (refusal e.short f) (told_on f.on f.effect) (period_so s.core k session (synced_session wish.Ready) (ended_loop (loop_of s.core session)))
    by (ask.RequestExitSession session) aside =
        let f = rule s.core (reads_of s (ask.RequestExitSession session)) (record e { call = ask.RequestExitSession session }) in
        columns_so s.core k (refusal e.short f) (told_on f.on f.effect)
        (settled_so s.core k s.core.device.wish
        (record { sessions = changed_in (session_at s.core.sessions session) (exiting_session s.core.device.wish) s.core.sessions; events = told_of (session_at s.core.sessions session) (exiting_session s.core.device.wish) s.core.events })
        (columns_changed (session_at s.core.sessions session) (exiting_session s.core.device.wish) s.core.sessions k))
    by (ask.WaitFrame session) aside =
        let f = rule s.core (reads_of s (ask.WaitFrame session)) (record e { call = ask.WaitFrame session }) in
        columns_so s.core k (refusal e.short f) (told_on f.on f.effect) (shown_by_columns _ s.core.sessions k (looped_so s.core k session (waited_loop (loop_of s.core session) (next_time s.core session))))
    by (ask.BeginFrame session) aside =
        let f = rule s.core (reads_of s (ask.BeginFrame session)) (record e { call = ask.BeginFrame session }) in
        columns_so s.core k (refusal e.short f) (told_on f.on f.effect) (shown_by_columns _ s.core.sessions k (looped_so s.core k session (begun_loop (loop_of s.core session))))
    by (ask.AttachSets session sets) aside =
        let f = rule s.core (reads_of s (ask.AttachSets session sets)) (record e { call = ask.AttachSets session sets }) in
        columns_so s.core k (refusal e.short f) (told_on f.on f.effect) (shown_by_columns _ s.core.sessions k (columns_beside session k (with_attached (sets_named s.core.inputs sets)) (λ y. refl) (λ y. refl) s.core.sessions))
    by (ask.Device what) aside = told_so s.core k what
    by r aside = let f = rule s.core (reads_of s r) (record e { call = r }) in columns_so s.core k (refusal e.short f) (told_on f.on f.effect) refl

-- ---- a new session

creation_aside : (r : Call) (k : ℕ) → is_session_creation r ≡ true → may_change_columns r k ≡ false
creation_aside (ask.CreateSession instance system) k creates = refl
creation_aside _ k creates = absurd (true≢false (sym creates))

pub new_sessions_show_nothing : NewSessionsShowNothing
new_sessions_show_nothing settings es e x legal allowed creates good found =
    subst (λ (c : List (List Column)). list_all are_inactive c ≡ true) (sym (ap shown_in (sym found) ∙ columns_stay (after (opening settings) es) e e.given (creation_aside e.call e.given creates) ∙ ap shown_in unlisted)) refl
  where
    none : (o : Option Session) → is_some o ≡ false → o ≡ None
    none None is = refl
    none (Some y) is = absurd (true≢false is)

    -- before, nothing was found by its handle
    unlisted : session_at (after (opening settings) es).core.sessions e.given ≡ None
    unlisted =
        let fresh = new_session_given (after (opening settings) es) e allowed creates good in
        let nz : (e.given == 0) ≡ false = is_false (e.given == 0) (λ is. fresh.0 (same_key e.given 0 is)) in
        none (session_at (after (opening settings) es).core.sessions e.given)
        (sessions_are_listed settings es legal e.given ∙ rw (nz, (known_after (opening settings) es (known_opening settings) e.given nz fresh.1).sessions) refl)

-- ---- columns of others

left_there : (there : ℕ → Bool) (columns : List (List Column)) (place : ℕ) → there place ≡ true → slice_get (left_columns there columns) place ≡ slice_get columns place
left_there there columns place is = got_from (λ k row. if there k then row else inactive_row) 0 columns place place (omega arith) ∙ by (slice_get columns place)
  where
    by : (o : Option (List Column)) → option_map (λ row. if there place then row else inactive_row) o ≡ o
    by None = refl
    by (Some row) = rw is refl

-- ---- spaces

root_stays : (s : CoreState) (o : Option Root) → moves_on s o ≡ true → option_and_then (λ r. if is_left (has_action s.handles.actions) r then Some r else None) o ≡ o
root_stays s None on = refl
root_stays s (Some (Fixed what)) on = refl
root_stays s (Some (Action place column)) on = rw on refl

-- ---- one handle is destroyed

kept_with : (s : CoreState) (handle : ℕ) → KeepsOthers s (without_handle s handle)
kept_with s handle = record {
  columns = λ session old x place was found there.
      columns session old x place there (ap (option_map (λ (y : Session). y.columns)) (sym found) ∙ columns_left s handle session ∙ ap (λ (o : Option Session). option_map (λ (y : Session). y.columns) (option_map (left_session (without s.handles handle) (destroyed_by s.handles handle)) (where_left (is_live (without s.handles handle) kind.Session session) o))) was);
  spaces = λ k old x at found on.
      let new = without_handle s handle in
      let made = which_map (λ (y : Space). y.handle) (with_left (has_action (without s.handles handle).actions)) (λ y. refl) (without_spaces s.room (destroyed_by s.handles handle)).spaces k x found in
      let left = which_left (λ (y : Space). y.handle) (λ n. not (is_among (destroyed_by s.handles handle) n)) s.room.spaces k made.0 made.1 in
      let same : made.0 ≡ old = same_some made.0 old (sym left.0 ∙ at) in
      made.2 ∙ ap (with_left (has_action (without s.handles handle).actions)) same ∙ ap (λ (o : Option Root). record old { root = o }) (root_stays new old.root on);
}
  where
    columns : (session : ℕ) (old x : Session) (place : ℕ) → has_action (without s.handles handle).actions place ≡ true
        → Some x.columns ≡ option_map (λ (y : Session). y.columns) (option_map (left_session (without s.handles handle) (destroyed_by s.handles handle)) (where_left (is_live (without s.handles handle) kind.Session session) (Some old)))
        → slice_get x.columns place ≡ slice_get old.columns place
    columns session old x place there same = by (is_live (without s.handles handle) kind.Session session) same
      where
        by : (b : Bool) → Some x.columns ≡ option_map (λ (y : Session). y.columns) (option_map (left_session (without s.handles handle) (destroyed_by s.handles handle)) (where_left b (Some old))) → slice_get x.columns place ≡ slice_get old.columns place
        by true same =
            let rows = same_some x.columns (left_columns (has_action (without s.handles handle).actions) old.columns) same in
            ap (λ (c : List (List Column)). slice_get c place) rows ∙ left_there (has_action (without s.handles handle).actions) old.columns place there
        by false same = cc

pub others_keep_what_they_show : OthersKeepWhatTheyShow
others_keep_what_they_show s e ends good = by e.call ends good
  where
    by : (r : Call) → ends_some r ≡ true → is_success (step s (record e { call = r })).1.reply.code ≡ true → KeepsOthers s.core (step s (record e { call = r })).0.core
    by (ask.DestroyAction action) ends good =
        let f = rule s.core (reads_of s (ask.DestroyAction action)) (record e { call = ask.DestroyAction action }) in
        let kept = where_done (λ x. KeepsOthers s.core x.state) s.core f e.short refl (λ none. kept_with s.core action) good in
        record { columns = kept.columns; spaces = kept.spaces }
    by (ask.DestroyActionSet set) ends good =
        let f = rule s.core (reads_of s (ask.DestroyActionSet set)) (record e { call = ask.DestroyActionSet set }) in
        let kept = where_done (λ x. KeepsOthers s.core x.state) s.core f e.short refl (λ none. kept_with s.core set) good in
        record { columns = kept.columns; spaces = kept.spaces }
    by (ask.DestroySession session) ends good =
        let f = rule s.core (reads_of s (ask.DestroySession session)) (record e { call = ask.DestroySession session }) in
        let kept = where_done (λ x. KeepsOthers s.core x.state) s.core f e.short refl (λ none. kept_with s.core session) good in
        record { columns = kept.columns; spaces = kept.spaces }
    by _ ends good = absurd (true≢false (sym ends))
