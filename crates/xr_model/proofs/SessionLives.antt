-- What an entry does to the life of one session, told by its handle: the one case split for laws on a session's life.
use Rattle.std.proofs.Common.{◌≡◌, ◌==◌, ◌&&◌, ◌||◌, ℕ, Bool, true, false, not, List, [], ◌∷◌, ◌++◌, map, Option, Some, None, option_map, refl, sym, ap, subst, ◌∙◌, true≢false, ℤ}
use Rattle.std.specs.Prelude.{if◌then◌else◌, pos}
use Rattle.std.specs.List.{filter}
use Rattle.xr_types.specs.Code.{is_success}
use Rattle.xr_types.specs.declared.device.DeviceEvent.{DeviceEvent}
use Rattle.xr_types.specs.declared.device.DeviceEvent.TheVariants as event
use Rattle.xr_types.specs.declared.device.Wish.{Wish}
use Rattle.xr_types.specs.declared.device.Wish.TheVariants as wish
use Rattle.xr_types.specs.declared.session.SessionState.TheVariants.{Ready, Synchronized, Exiting, LossPending, Focused}
use Rattle.xr_types.specs.declared.handles.Kind.TheVariants as kind
use Rattle.xr_types.specs.declared.calls.Call.{Call}
use Rattle.xr_types.specs.declared.calls.Call.TheVariants as ask
use Rattle.xr_model.specs.machine.Calls.{Entry}
use Rattle.xr_model.specs.machine.Handles.{is_live, destroyed_by, without, Handles}
use Rattle.xr_model.specs.machine.Refusals.{Refusal}
use Rattle.xr_model.specs.machine.State.{CoreState, CellReads}
use Rattle.xr_model.specs.machine.Rule.{Effect, refusal, refusals, told_on, unless_refused}
use Rattle.xr_model.specs.machine.SessionRule.{loss_of}
use Rattle.xr_model.specs.machine.Rules.Device.{behind_event}
use Rattle.xr_model.specs.machine.Rules.Session.{new_session, changed_in, life_of, loop_of, columns_of}
use Rattle.xr_model.specs.machine.SessionLife.{Life, Changed, unchanged, is_state, entered, started_session, begun_session, ended_session, exiting_session, losing_session, lost_session, synced_session}
use Rattle.xr_model.specs.machine.LiveSessions.{Session, session_at, with_session_at, with_life, with_attached, still_live, each_changed, loop_in, with_frame_loop, with_columns}
use Rattle.xr_model.specs.machine.Sets.{sets_named}
use Rattle.xr_model.specs.machine.Machine.{core_step, rule}
use Rattle.xr_model.specs.machine.Target.{Standing, rounds, most_rounds}
use Rattle.xr_model.specs.machine.Frames.{FrameLoop, new_loop, reset_loop, waited_loop, begun_loop, begun_code, ended_loop}
use Rattle.xr_model.specs.machine.Rules.Frames.{look_of, next_time}
use Rattle.xr_model.specs.laws.SessionLaws.{creates_session}
use Rattle.xr_model.proofs.Rows.{same_key}
use Rattle.xr_model.proofs.Targets.{Steady, rounds_keep}
use Rattle.xr_model.proofs.Listed.{handle_of}
use Rattle.xr_model.proofs.Successes.{success_succeeds, success_still, begun_succeeds}
use Rattle.xr_model.proofs.SessionAnswers.{none_in, first_none}
use Rattle.xr_model.proofs.LayerCodes.{layers_fail}
use Rattle.xr_model.specs.machine.Destroyed.{left_session, sessions_left}
use Rattle.xr_model.specs.machine.Rules.Sync.{columns_synced}
use Rattle.xr_types.specs.declared.input.Column.{Column}

-- ---- what is found by a handle, once the list has changed

apart : (a b c : ℕ) → (a == b) ≡ true → (a == c) ≡ false → (b == c) ≡ false
apart a b c same other = subst (λ (n : ℕ). (n == c) ≡ false) (same_key a b same) other

-- that with one handle has changed
pub found_at : (handle k : ℕ) (f : Session → Session) → ((x : Session) → (f x).handle ≡ x.handle) → (xs : List Session)
    → session_at (with_session_at handle f xs) k ≡ option_map (λ x. if handle == k then f x else x) (session_at xs k)
found_at handle k f named [] = refl
found_at handle k f named (z ∷ xs) = by (z.handle == handle) refl (z.handle == k) refl (found_at handle k f named xs)
  where
    moved : (if z.handle == k then Some (f z) else session_at xs k) ≡ session_at (f z ∷ xs) k
    moved = subst (λ (n : ℕ). (if n == k then Some (f z) else session_at xs k) ≡ session_at (f z ∷ xs) k) (named z) refl

    all_same : (o : Option Session) → o ≡ option_map (λ x. if false then f x else x) o
    all_same None = refl
    all_same (Some x) = refl

    by : (b : Bool) → (z.handle == handle) ≡ b → (c : Bool) → (z.handle == k) ≡ c
        → session_at (with_session_at handle f xs) k ≡ option_map (λ x. if handle == k then f x else x) (session_at xs k)
        → session_at (if b then f z ∷ xs else z ∷ with_session_at handle f xs) k
        ≡ option_map (λ x. if handle == k then f x else x) (if c then Some z else session_at xs k)
    by true eb true ec more =
        let both : (handle == k) ≡ true = subst (λ (n : ℕ). (n == k) ≡ true) (same_key z.handle handle eb) ec in
        sym moved ∙ rw (ec, both) refl
    by true eb false ec more = let not_it = apart z.handle handle k eb ec in sym moved ∙ rw (ec, not_it) (all_same (session_at xs k))
    by false eb true ec more = let not_it : (handle == k) ≡ false = other (handle == k) refl in rw (ec, not_it) refl
      where
        other : (d : Bool) → (handle == k) ≡ d → d ≡ false
        other true ed = absurd (true≢false (sym (subst (λ (n : ℕ). (z.handle == n) ≡ true) (sym (same_key handle k ed)) ec) ∙ eb))
        other false ed = refl
    by false eb false ec more = rw ec more

-- each has changed
pub found_each : (f : Session → Changed) (k : ℕ) (xs : List Session)
    → session_at (each_changed f xs) k ≡ option_map (λ x. with_life (f x).life x) (session_at xs k)
found_each f k [] = refl
found_each f k (z ∷ xs) = by (z.handle == k) (found_each f k xs)
  where
    by : (b : Bool) → session_at (each_changed f xs) k ≡ option_map (λ x. with_life (f x).life x) (session_at xs k)
        → (if b then Some (with_life (f z).life z) else session_at (each_changed f xs) k)
        ≡ option_map (λ x. with_life (f x).life x) (if b then Some z else session_at xs k)
    by true more = refl
    by false more = more

-- of each that is left some has gone
pub found_without : (h : Handles) (gone : List ℕ) (k : ℕ) (xs : List Session)
    → session_at (map (left_session h gone) xs) k ≡ option_map (left_session h gone) (session_at xs k)
found_without h gone k [] = refl
found_without h gone k (z ∷ xs) = by (z.handle == k) (found_without h gone k xs)
  where
    by : (b : Bool) → session_at (map (left_session h gone) xs) k ≡ option_map (left_session h gone) (session_at xs k)
        → (if b then Some (left_session h gone z) else session_at (map (left_session h gone) xs) k)
        ≡ option_map (left_session h gone) (if b then Some z else session_at xs k)
    by true more = refl
    by false more = more

-- some are left
abbrev pub where_left : Bool → Option Session → Option Session
where_left left o = if left then o else None

pub found_left : (p : ℕ → Bool) (k : ℕ) (xs : List Session) → session_at (filter (λ x. p x.handle) xs) k ≡ where_left (p k) (session_at xs k)
found_left p k [] = by (p k)
  where
    by : (b : Bool) → None ≡ where_left b None
    by true = refl
    by false = refl
found_left p k (z ∷ xs) = by (p z.handle) refl (z.handle == k) refl (found_left p k xs)
  where
    by : (b : Bool) → p z.handle ≡ b → (c : Bool) → (z.handle == k) ≡ c
        → session_at (filter (λ x. p x.handle) xs) k ≡ where_left (p k) (session_at xs k)
        → session_at (if b then z ∷ filter (λ x. p x.handle) xs else filter (λ x. p x.handle) xs) k
        ≡ where_left (p k) (if c then Some z else session_at xs k)
    by true eb true ec more = let here : p k ≡ true = subst (λ (n : ℕ). p n ≡ true) (same_key z.handle k ec) eb in rw (ec, here) refl
    by true eb false ec more = rw ec more
    by false eb true ec more = let gone : p k ≡ false = subst (λ (n : ℕ). p n ≡ false) (same_key z.handle k ec) eb in more ∙ rw gone refl
    by false eb false ec more = more

-- one has joined
abbrev pub or_new : Session → ℕ → Option Session → Option Session
or_new z k None = if z.handle == k then Some z else None
or_new z k (Some x) = Some x

pub found_more : (z : Session) (k : ℕ) (xs : List Session) → session_at (xs ++ z ∷ []) k ≡ or_new z k (session_at xs k)
found_more z k [] = refl
found_more z k (y ∷ ys) = by (y.handle == k) (found_more z k ys)
  where
    by : (b : Bool) → session_at (ys ++ z ∷ []) k ≡ or_new z k (session_at ys k)
        → (if b then Some y else session_at (ys ++ z ∷ []) k) ≡ or_new z k (if b then Some y else session_at ys k)
    by true more = refl
    by false more = more

-- ---- what an entry does to a life

-- what the life of the session with a handle is after a request, told whether it succeeds, but for the state
abbrev pub life_after : Call → ℕ → Bool → Life → Life
life_after (ask.BeginSession session view) handle good life = if good && (session == handle) then record life { running = true } else life
life_after (ask.EndSession session) handle good life = if good && (session == handle) then record life { running = false } else life
life_after (ask.RequestExitSession session) handle good life = if good && (session == handle) then record life { exit = true } else life
life_after (ask.Device event.Lost) handle good life = lost_session life
life_after (ask.Device event.Fault) handle good life = lost_session life
life_after (ask.Device (event.Garbled line)) handle good life = lost_session life
life_after _ handle good life = life

-- what the loop of frames of the session with a handle is after a request, told whether it succeeds and the time that it gives
abbrev pub loop_after : ℤ → Call → ℕ → Bool → FrameLoop → FrameLoop
loop_after time (ask.BeginSession session view) handle good l = if good && (session == handle) then reset_loop l else l
loop_after time (ask.EndSession session) handle good l = if good && (session == handle) then reset_loop l else l
loop_after time (ask.WaitFrame session) handle good l = if good && (session == handle) then waited_loop l time else l
loop_after time (ask.BeginFrame session) handle good l = if good && (session == handle) then begun_loop l else l
loop_after time (ask.EndFrame session time_ blend layers) handle good l = if good && (session == handle) then ended_loop l else l
loop_after time _ handle good l = l

-- the time that a wait gives
abbrev pub time_of : CoreState → Call → ℤ
time_of s (ask.WaitFrame session) = next_time s session
time_of s _ = pos 0

-- What is found after is what was found before, with a life that follows so from the life before, whatever its state, and a loop that
-- follows so from the loop before; or it is new.
abbrev pub Follows : (Life → Life) → (FrameLoop → FrameLoop) → Bool → Life → Option Session → Option Session → Type 0
Follows f k created new before None = Unit {0}
Follows f k created new None (Some y) = (created ≡ true) × Steady new y.life × (y.frame_loop ≡ new_loop)
Follows f k created new (Some x) (Some y) = Steady (f x.life) y.life × (y.frame_loop ≡ k x.frame_loop)

abbrev alike : Life → Life
alike life = life

abbrev same_loop : FrameLoop → FrameLoop
same_loop l = l

steadily : (a b c : Life) → Steady a b → Steady b c → Steady a c
steadily a b c one two = two ∙ ap (λ (life : Life). record life { state = c.state }) one

follows_same : (f : Life → Life) (k : FrameLoop → FrameLoop) (created : Bool) (new : Life) → ((life : Life) → f life ≡ life) → ((l : FrameLoop) → k l ≡ l) → (o : Option Session) → Follows f k created new o o
follows_same f k created new same still None = tt
follows_same f k created new same still (Some x) = (rw (same x.life) refl, sym (still x.frame_loop))

-- each changes once more, but for its state it stays
follows_on : (f : Life → Life) (k : FrameLoop → FrameLoop) (created : Bool) (new : Life) (g : Session → Changed) → ((x : Session) → Steady x.life (g x).life) → (o n : Option Session)
    → Follows f k created new o n → Follows f k created new o (option_map (λ x. with_life (g x).life x) n)
follows_on f k created new g steady o None follows = tt
follows_on f k created new g steady None (Some y) follows = (follows.0, steadily new y.life (g y).life follows.1 (steady y), follows.2)
follows_on f k created new g steady (Some x) (Some y) follows = (steadily (f x.life) y.life (g y).life follows.0 (steady y), follows.1)

follows_left : (created : Bool) (new : Life) (h : Handles) (gone : List ℕ) (left : Bool) (o : Option Session)
    → Follows alike same_loop created new o (option_map (left_session h gone) (where_left left o))
follows_left created new h gone true None = tt
follows_left created new h gone true (Some x) = (refl, refl)
follows_left created new h gone false None = tt
follows_left created new h gone false (Some x) = tt

follows_attached : (created : Bool) (new : Life) (sets : List ℕ) (b : Bool) (o : Option Session)
    → Follows alike same_loop created new o (option_map (λ x. if b then with_attached sets x else x) o)
follows_attached created new sets b None = tt
follows_attached created new sets true (Some x) = (refl, refl)
follows_attached created new sets false (Some x) = (refl, refl)

follows_synced : (created : Bool) (new : Life) (columns : List (List Column)) (b : Bool) (o : Option Session)
    → Follows alike same_loop created new o (option_map (λ x. if b then with_columns columns x else x) o)
follows_synced created new columns b None = tt
follows_synced created new columns true (Some x) = (refl, refl)
follows_synced created new columns false (Some x) = (refl, refl)

some_is : (x y : Session) → Some x ≡ Some y → x ≡ y
some_is x y e = cc

follows_more : (new : Session) (handle : ℕ) → new.frame_loop ≡ new_loop → (o : Option Session)
    → Follows alike same_loop (new.handle == handle) new.life o (or_new new handle o)
follows_more new handle fresh None = by (new.handle == handle)
  where
    by : (b : Bool) → Follows alike same_loop b new.life None (if b then Some new else None)
    by true = (refl, refl, fresh)
    by false = tt
follows_more new handle fresh (Some x) = (refl, refl)

-- the session has changed by a test of whether it is the one
abbrev where_it : Bool → (Life → Life) → Life → Life
where_it it f life = if it then f life else life

abbrev where_loop : Bool → (FrameLoop → FrameLoop) → FrameLoop → FrameLoop
where_loop it k l = if it then k l else l

-- its loop has changed
follows_loop : (k : FrameLoop → FrameLoop) (created : Bool) (new : Life) (xs : List Session) (session handle : ℕ)
    → Follows alike (where_loop (session == handle) k) created new (session_at xs handle) (session_at (with_session_at session (with_frame_loop (k (loop_in (session_at xs session)))) xs) handle)
follows_loop k created new xs session handle =
    rw (found_at session handle (with_frame_loop (k (loop_in (session_at xs session)))) (λ x. refl) xs) (by (session == handle) refl (session_at xs handle) refl)
  where
    by : (b : Bool) → (session == handle) ≡ b → (o : Option Session) → session_at xs handle ≡ o
        → Follows alike (where_loop b k) created new o (option_map (λ x. if b then with_frame_loop (k (loop_in (session_at xs session))) x else x) o)
    by b eb None eo = tt
    by false eb (Some x) eo = (refl, refl)
    by true eb (Some x) eo =
        let found : session_at xs session ≡ Some x = subst (λ (n : ℕ). session_at xs n ≡ Some x) (sym (same_key session handle eb)) eo in
        (refl, ap (λ (o : Option Session). k (loop_in o)) found)

-- its life changes behind that
follows_changed : (f : Life → Changed) (g : Life → Life) → ((life : Life) → Steady (g life) (f life).life) → (k : FrameLoop → FrameLoop) (created : Bool) (new : Life) (xs ys : List Session) (session handle : ℕ)
    → Follows alike (where_loop (session == handle) k) created new (session_at xs handle) (session_at ys handle)
    → Follows (where_it (session == handle) g) (where_loop (session == handle) k) created new (session_at xs handle) (session_at (changed_in (session_at xs session) f ys) handle)
follows_changed f g steady k created new xs ys session handle follows = by (session_at xs session) refl
  where
    none : (b : Bool) → (session == handle) ≡ b → session_at xs session ≡ None → Follows alike (where_loop b k) created new (session_at xs handle) (session_at ys handle)
        → Follows (where_it b g) (where_loop b k) created new (session_at xs handle) (session_at ys handle)
    none true eb eo follows =
        let away : session_at xs handle ≡ None = subst (λ (n : ℕ). session_at xs n ≡ None) (same_key session handle eb) eo in
        rw away (from_none (session_at ys handle) (rw away at follows))
      where
        from_none : (n : Option Session) → Follows alike k created new None n → Follows g k created new None n
        from_none None follows = tt
        from_none (Some y) follows = follows
    none false eb eo follows = follows

    one : (z : Session) → session_at xs session ≡ Some z → (b : Bool) → (session == handle) ≡ b → (o n : Option Session) → session_at xs handle ≡ o
        → Follows alike (where_loop b k) created new o n
        → Follows (where_it b g) (where_loop b k) created new o (option_map (λ x. if b then with_life (f z.life).life x else x) n)
    one z ez b eb o None eo follows = tt
    one z ez false eb None (Some y) eo follows = follows
    one z ez false eb (Some x) (Some y) eo follows = follows
    one z ez true eb None (Some y) eo follows =
        let there : session_at xs session ≡ None = subst (λ (n : ℕ). session_at xs n ≡ None) (sym (same_key session handle eb)) eo in absurd (never (sym there ∙ ez))
      where
        never : None ≡ Some z → ⊥
        never e = cc
    one z ez true eb (Some x) (Some y) eo follows =
        let found : session_at xs handle ≡ Some z = subst (λ (n : ℕ). session_at xs n ≡ Some z) (same_key session handle eb) ez in
        (subst (λ (w : Session). Steady (g w.life) (f z.life).life) (some_is z x (sym found ∙ eo)) (steady z.life), follows.1)

    by : (o : Option Session) → session_at xs session ≡ o
        → Follows (where_it (session == handle) g) (where_loop (session == handle) k) created new (session_at xs handle) (session_at (changed_in o f ys) handle)
    by None eo = none (session == handle) refl eo follows
    by (Some z) eo =
        let named = handle_of xs session z eo in
        rw (found_at z.handle handle (with_life (f z.life).life) (λ x. refl) ys, named)
        (one z eo (session == handle) refl (session_at xs handle) (session_at ys handle) refl follows)

losing_steady : (life : Life) → Steady life (losing_session life).life
losing_steady life = by (is_state life.state Exiting || is_state life.state LossPending)
  where
    by : (b : Bool) → Steady life (if b then unchanged life else record { life = record life { state = LossPending }; through = LossPending ∷ [] }).life
    by true = refl
    by false = refl

synced_steady : (w : Wish) (life : Life) → Steady life (synced_session w life).life
synced_steady w life = by (is_state life.state Ready)
  where
    by : (b : Bool) → Steady life (if b then entered w life Synchronized else unchanged life).life
    by true = refl
    by false = refl

-- ---- the one case split

-- a call none of whose refusals is a success
carried : (P : List Session → Bool → Type 0) (s : CoreState) (o : Option Refusal) (x : Effect)
    → none_in is_success o ≡ true → is_success x.code ≡ true
    → P s.sessions false → P x.state.sessions true
    → P (unless_refused s o x).state.sessions (is_success (unless_refused s o x).code)
carried P s None x none good same done = rw good done
carried P s (Some r) x none good same done = rw (refused (is_success r.code) none) same
  where
    refused : (b : Bool) → not b ≡ true → b ≡ false
    refused true none = absurd (true≢false (sym none))
    refused false none = refl

-- a call that does the same to a life, refused or not
kept : (P : List Session → Type 0) (s : CoreState) (o : Option Refusal) (x : Effect)
    → P s.sessions → P x.state.sessions → P (unless_refused s o x).state.sessions
kept P s None x same done = done
kept P s (Some r) x same done = same

module _ (s : CoreState) (reads : CellReads) (e : Entry) (handle : ℕ) where
  -- the life of a new session
  abbrev fresh : Life
  fresh = (started_session s.device.wish).life

  -- what is found after the request, told what is listed then and whether it succeeds
  abbrev Lives : Call → List Session → Bool → Type 0
  Lives r xs good =
      Follows (life_after r handle good) (loop_after (time_of s r) r handle good) (creates_session (record e { call = r }) handle) fresh
      (session_at s.sessions handle) (session_at xs handle)

  abbrev good : Call → Bool
  good r = is_success (core_step s reads (record e { call = r })).1.reply.code

  gone : (created : Bool) (top : ℕ)
      → Follows alike same_loop created fresh (session_at s.sessions handle) (session_at (sessions_left (without s.handles top) (destroyed_by s.handles top) s.sessions) handle)
  gone created top =
      let left = without s.handles top in
      let sets = destroyed_by s.handles top in
      rw (found_without left sets handle (still_live left s.sessions), found_left (λ n. is_live left kind.Session n) handle s.sessions)
      (follows_left created fresh left sets (is_live left kind.Session handle) (session_at s.sessions handle))

  all_same : Follows alike same_loop false fresh (session_at s.sessions handle) (session_at s.sessions handle)
  all_same = follows_same alike same_loop false fresh (λ life. refl) (λ l. refl) (session_at s.sessions handle)

  -- all settle, and what was found follows on
  settles : (f : Life → Life) (k : FrameLoop → FrameLoop) (created : Bool) (new : Life) (w : Wish) (t : Standing)
      → Follows f k created new (session_at s.sessions handle) (session_at t.sessions handle)
      → Follows f k created new (session_at s.sessions handle) (session_at (rounds most_rounds w t).sessions handle)
  settles f k created new w t follows =
      rounds_keep (λ xs. Follows f k created new (session_at s.sessions handle) (session_at xs handle))
      (λ g steady xs there. rw (found_each g handle xs) (follows_on f k created new g steady (session_at s.sessions handle) (session_at xs handle) there)) w t follows

  -- of a session whose loop and whose life change
  both : (session : ℕ) (f : Life → Changed) (g : Life → Life) → ((life : Life) → Steady (g life) (f life).life) → (k : FrameLoop → FrameLoop) (t : Standing)
      → t.sessions ≡ changed_in (session_at s.sessions session) f (with_session_at session (with_frame_loop (k (loop_of s session))) s.sessions)
      → Follows (where_it (session == handle) g) (where_loop (session == handle) k) false fresh (session_at s.sessions handle) (session_at (rounds most_rounds s.device.wish t).sessions handle)
  both session f g steady k t is =
      settles (where_it (session == handle) g) (where_loop (session == handle) k) false fresh s.device.wish t
      (subst (λ xs. Follows (where_it (session == handle) g) (where_loop (session == handle) k) false fresh (session_at s.sessions handle) (session_at xs handle)) (sym is)
      (follows_changed f g steady k false fresh s.sessions (with_session_at session (with_frame_loop (k (loop_of s session))) s.sessions) session handle (follows_loop k false fresh s.sessions session handle)))

  each : (f : Session → Changed) → ((x : Session) → Steady x.life (f x).life)
      → Follows alike same_loop false fresh (session_at s.sessions handle) (session_at (each_changed f s.sessions) handle)
  each f steady = rw (found_each f handle s.sessions) (follows_on alike same_loop false fresh f steady (session_at s.sessions handle) (session_at s.sessions handle) all_same)

  lost : Follows lost_session same_loop false fresh (session_at s.sessions handle) (session_at (each_changed (λ x. unchanged (lost_session x.life)) s.sessions) handle)
  lost = rw (found_each (λ x. unchanged (lost_session x.life)) handle s.sessions) (by (session_at s.sessions handle))
    where
      by : (o : Option Session) → Follows lost_session same_loop false fresh o (option_map (λ x. with_life (lost_session x.life) x) o)
      by None = tt
      by (Some x) = (refl, refl)

  events : (what : DeviceEvent) → Lives (ask.Device what) (behind_event s what).sessions true
  events (event.Wish wish) = settles alike same_loop false fresh wish _ all_same
  events event.Loss = settles alike same_loop false fresh s.device.wish _ (each (λ x. losing_session x.life) (λ x. losing_steady x.life))
  events event.Lost = lost
  events event.Fault = lost
  events (event.Garbled line) = lost
  events _ = all_same

  joined : (new : Session) → new.frame_loop ≡ new_loop → Follows alike same_loop (new.handle == handle) new.life (session_at s.sessions handle) (session_at (s.sessions ++ new ∷ []) handle)
  joined new bare = rw (found_more new handle s.sessions) (follows_more new handle bare (session_at s.sessions handle))

  -- no life is changed where none is to be
  no_life : (b : Bool) (k : FrameLoop → FrameLoop) (n : Option Session) → Follows (where_it b alike) k false fresh (session_at s.sessions handle) n → Follows alike k false fresh (session_at s.sessions handle) n
  no_life true k n follows = follows
  no_life false k n follows = follows

  no_loop : (b : Bool) (f : Life → Life) (n : Option Session) → Follows f (where_loop b same_loop) false fresh (session_at s.sessions handle) n → Follows f same_loop false fresh (session_at s.sessions handle) n
  no_loop true f n follows = follows
  no_loop false f n follows = follows

  pub lived : Follows (life_after e.call handle (is_success (core_step s reads e).1.reply.code)) (loop_after (time_of s e.call) e.call handle (is_success (core_step s reads e).1.reply.code)) (creates_session e handle)
      (started_session s.device.wish).life (session_at s.sessions handle) (session_at (core_step s reads e).0.sessions handle)
  lived = by e.call
    where
      by : (r : Call) → Lives r (core_step s reads (record e { call = r })).0.sessions (good r)
      by (ask.CreateSession instance system) =
          let f = rule s reads (record e { call = ask.CreateSession instance system }) in
          let new = new_session s e.given fresh in
          kept (λ xs. Lives (ask.CreateSession instance system) xs true) s (refusal e.short f) (told_on f.on f.effect)
          (follows_same alike same_loop (e.given == handle) new.life (λ life. refl) (λ l. refl) (session_at s.sessions handle))
          (settles alike same_loop (e.given == handle) new.life s.device.wish _ (joined new refl))
      by (ask.BeginSession session view) =
          let f = rule s reads (record e { call = ask.BeginSession session view }) in
          carried (Lives (ask.BeginSession session view)) s (refusal e.short f) (told_on f.on f.effect) (first_none is_success (refusals f) refl)
          (success_succeeds (loss_of (life_of s session))) all_same
          (both session (λ life. unchanged (begun_session life)) begun_session (λ life. refl) reset_loop _ refl)
      by (ask.EndSession session) =
          let f = rule s reads (record e { call = ask.EndSession session }) in
          carried (Lives (ask.EndSession session)) s (refusal e.short f) (told_on f.on f.effect) (first_none is_success (refusals f) refl)
          (success_succeeds (loss_of (life_of s session))) all_same
          (both session (ended_session s.device.wish) (λ life. record life { running = false }) (λ life. refl) reset_loop _ refl)
      by (ask.RequestExitSession session) =
          let f = rule s reads (record e { call = ask.RequestExitSession session }) in
          carried (Lives (ask.RequestExitSession session)) s (refusal e.short f) (told_on f.on f.effect) (first_none is_success (refusals f) refl)
          (success_succeeds (loss_of (life_of s session))) all_same
          (no_loop (session == handle) (where_it (session == handle) (λ life. record life { exit = true })) _
          (settles (where_it (session == handle) (λ life. record life { exit = true })) (where_loop (session == handle) same_loop) false fresh s.device.wish _
          (follows_changed (exiting_session s.device.wish) (λ life. record life { exit = true }) (λ life. refl) same_loop false fresh s.sessions s.sessions session handle
          (still (session == handle)))))
        where
          still : (b : Bool) → Follows alike (where_loop b same_loop) false fresh (session_at s.sessions handle) (session_at s.sessions handle)
          still true = all_same
          still false = all_same
      by (ask.WaitFrame session) =
          let f = rule s reads (record e { call = ask.WaitFrame session }) in
          carried (Lives (ask.WaitFrame session)) s (refusal e.short f) (told_on f.on f.effect) (first_none is_success (refusals f) refl)
          (success_succeeds (loss_of (life_of s session))) all_same
          (follows_loop (λ l. waited_loop l (next_time s session)) false fresh s.sessions session handle)
      by (ask.BeginFrame session) =
          let f = rule s reads (record e { call = ask.BeginFrame session }) in
          carried (Lives (ask.BeginFrame session)) s (refusal e.short f) (told_on f.on f.effect) (first_none is_success (refusals f) refl)
          (success_still (loss_of (life_of s session)) (begun_code (loop_of s session)) (begun_succeeds (loop_of s session))) all_same
          (follows_loop begun_loop false fresh s.sessions session handle)
      by (ask.EndFrame session time blend layers) =
          let f = rule s reads (record e { call = ask.EndFrame session time blend layers }) in
          carried (Lives (ask.EndFrame session time blend layers)) s (refusal e.short f) (told_on f.on f.effect) (first_none is_success (refusals f) (layers_fail (look_of s session) layers))
          (success_succeeds (loss_of (life_of s session))) all_same
          (no_life (session == handle) (where_loop (session == handle) ended_loop) _ (both session (synced_session wish.Ready) alike (synced_steady wish.Ready) ended_loop _ refl))
      by (ask.SyncActions session active) =
          let f = rule s reads (record e { call = ask.SyncActions session active }) in
          kept (λ xs. Lives (ask.SyncActions session active) xs true) s (refusal e.short f) (told_on f.on f.effect) all_same
          (rw (found_at session handle (with_columns (columns_synced s (is_state (life_of s session).state Focused) active (columns_of s session))) (λ x. refl) s.sessions)
          (follows_synced false fresh _ (session == handle) (session_at s.sessions handle)))
      by (ask.AttachSets session sets) =
          let f = rule s reads (record e { call = ask.AttachSets session sets }) in
          kept (λ xs. Lives (ask.AttachSets session sets) xs true) s (refusal e.short f) (told_on f.on f.effect) all_same
          (rw (found_at session handle (with_attached (sets_named s.inputs sets)) (λ x. refl) s.sessions)
          (follows_attached false fresh (sets_named s.inputs sets) (session == handle) (session_at s.sessions handle)))
      by (ask.DestroyInstance top) =
          let f = rule s reads (record e { call = ask.DestroyInstance top }) in
          kept (λ xs. Lives (ask.DestroyInstance top) xs true) s (refusal e.short f) (told_on f.on f.effect) all_same (settles alike same_loop false fresh s.device.wish _ (gone false top))
      by (ask.DestroySession top) =
          let f = rule s reads (record e { call = ask.DestroySession top }) in
          kept (λ xs. Lives (ask.DestroySession top) xs true) s (refusal e.short f) (told_on f.on f.effect) all_same (settles alike same_loop false fresh s.device.wish _ (gone false top))
      by (ask.DestroyActionSet top) =
          let f = rule s reads (record e { call = ask.DestroyActionSet top }) in
          kept (λ xs. Lives (ask.DestroyActionSet top) xs true) s (refusal e.short f) (told_on f.on f.effect) all_same (settles alike same_loop false fresh s.device.wish _ (gone false top))
      by (ask.DestroyAction top) =
          let f = rule s reads (record e { call = ask.DestroyAction top }) in
          kept (λ xs. Lives (ask.DestroyAction top) xs true) s (refusal e.short f) (told_on f.on f.effect) all_same (settles alike same_loop false fresh s.device.wish _ (gone false top))
      by (ask.Device what) = events what
      by r =
          let f = rule s reads (record e { call = r }) in
          kept (λ xs. Lives r xs true) s (refusal e.short f) (told_on f.on f.effect) all_same all_same

-- of a session that is found before and after
pub lived_on : (s : CoreState) (reads : CellReads) (e : Entry) (handle : ℕ) (x y : Session)
    → session_at s.sessions handle ≡ Some x → session_at (core_step s reads e).0.sessions handle ≡ Some y
    → Steady (life_after e.call handle (is_success (core_step s reads e).1.reply.code) x.life) y.life
lived_on s reads e handle x y before later =
    by (session_at s.sessions handle) (session_at (core_step s reads e).0.sessions handle) before later (lived s reads e handle)
  where
    f : Life → Life
    f = life_after e.call handle (is_success (core_step s reads e).1.reply.code)

    k : FrameLoop → FrameLoop
    k = loop_after (time_of s e.call) e.call handle (is_success (core_step s reads e).1.reply.code)

    by : (o n : Option Session) → o ≡ Some x → n ≡ Some y
        → Follows f k (creates_session e handle) (started_session s.device.wish).life o n → Steady (f x.life) y.life
    by None n before later follows = cc
    by (Some a) None before later follows = cc
    by (Some a) (Some b) before later follows = rw (some_is x a (sym before), some_is y b (sym later)) follows.0
