-- A session attaches sets at most once: once it has, it has some as long as it is listed.
use Rattle.std.proofs.Common.{◌&&◌, ◌≢◌, ◌≡◌, ◌==◌, ◌||◌, ◌⊎◌, inl, inr, ℕ, ℤ, not, Bool, true, false, List, [], ◌∷◌, ◌++◌, map, Option, Some, None, refl, sym, ap, subst, ◌∙◌, true≢false}
use Rattle.std.specs.Prelude.{is_some, option_map, length, if◌then◌else◌}
use Rattle.xr_types.specs.Code.{is_success}
use Rattle.xr_types.specs.declared.code.Code.TheVariants.{HandleInvalid, CallOrderInvalid, ValidationFailure}
use Rattle.xr_types.specs.declared.handles.Kind.TheVariants as kind
use Rattle.xr_model.specs.machine.Calls.{Entry}
use Rattle.xr_types.specs.declared.calls.Call.{Call}
use Rattle.xr_types.specs.declared.calls.Call.TheVariants as ask
use Rattle.xr_model.specs.machine.Handles.{Handles, has, is_live, no_handle, was_given, without, destroyed_by, is_among}
use Rattle.xr_model.specs.machine.Refusals.{Refusal, when, first_of}
use Rattle.xr_model.specs.machine.SessionLife.{is_lost, Changed, unchanged, lost_session, started_session}
use Rattle.xr_model.specs.machine.LiveSessions.{Session, session_at, attached_in, with_life, with_attached, with_session_at, still_live, each_changed}
use Rattle.xr_model.specs.machine.Rule.{Rule, Effect, refusals, unless_refused, told_on}
use Rattle.xr_model.specs.machine.Rules.Session.{life_of, new_session}
use Rattle.xr_model.specs.machine.State.{CoreState, State, opening}
use Rattle.xr_model.specs.machine.Machine.{step, rule, reads_of, IsAllowed}
use Rattle.xr_model.specs.machine.History.{after, opening_clocks, clocks_after, IsLegalFrom}
use Rattle.xr_model.specs.laws.SessionLaws.{is_session_creation, AreListed}
use Rattle.xr_model.specs.laws.ListLaws.{attaches, AttachesOnce, seals, AttachingSeals, NewSessionsAreBare}
use Rattle.xr_model.proofs.Histories.{after_is_in_turn}
use Rattle.xr_model.proofs.Rows.{same_key, is_false, both_of, not_true}
use Rattle.xr_model.proofs.Keyed.{key_of, which_more, which_left, which_map}
use Rattle.xr_model.proofs.Destroying.{known_after, known_opening}
use Rattle.xr_model.proofs.DestroyedForGood.{clocks_behind, legal_behind}
use Rattle.xr_model.specs.machine.Sets.{Set, attach_checks, set_at, is_sealed, sealed_by, sets_named}
use Rattle.std.specs.List.{find, filter}
use Rattle.xr_model.proofs.HandleSteps.{first_fails}
use Rattle.xr_model.proofs.ListSteps.{none_behind}
use Rattle.xr_model.proofs.AtomsAndSeals.{first_doesnt, sealed_in, found_sealed, sealed_named}
use Rattle.xr_model.proofs.SessionAnswers.{none_with, none_in, first_none}
use Rattle.xr_model.proofs.SessionSteps.{kept_by_step}
use Rattle.xr_model.proofs.LostSessions.{new_session_given, sessions_are_listed}
use Rattle.xr_model.specs.laws.Soundness.{AreKnown}
use Rattle.xr_model.specs.machine.Destroyed.{left_session}

-- a handle that was given, and whose session has attached sets if it is listed
record Has (session : ℕ) (h : Handles) (xs : List Session) : Type 0 where
  given : was_given h session ≡ true
  attached : (x : Session) → session_at xs session ≡ Some x → is_some x.attached ≡ true

which_lives : (xs : List Session) (handle : ℕ) (f : Session → Session) → ((x : Session) → (f x).handle ≡ x.handle) → (session : ℕ) (x : Session) → session_at (with_session_at handle f xs) session ≡ Some x
    → (y : Session) × (session_at xs session ≡ Some y) × ((x ≡ y) ⊎ ((x ≡ f y) × (y.handle ≡ handle)))
which_lives [] handle f named session x found = cc
which_lives (z ∷ xs) handle f named session x found = by (z.handle == handle) refl (z.handle == session) refl found (which_lives xs handle f named session x)
  where
    some_is : (a b : Session) → Some a ≡ Some b → a ≡ b
    some_is a b e = cc

    moved : session_at (f z ∷ xs) session ≡ Some x → (if z.handle == session then Some (f z) else session_at xs session) ≡ Some x
    moved found = subst (λ (n : ℕ). (if n == session then Some (f z) else session_at xs session) ≡ Some x) (named z) found

    by : (b : Bool) → (z.handle == handle) ≡ b → (c : Bool) → (z.handle == session) ≡ c
        → session_at (if b then f z ∷ xs else z ∷ with_session_at handle f xs) session ≡ Some x
        → (session_at (with_session_at handle f xs) session ≡ Some x → (y : Session) × (session_at xs session ≡ Some y) × ((x ≡ y) ⊎ ((x ≡ f y) × (y.handle ≡ handle))))
        → (y : Session) × ((if c then Some z else session_at xs session) ≡ Some y) × ((x ≡ y) ⊎ ((x ≡ f y) × (y.handle ≡ handle)))
    by true eb true ec found more = let there = moved found in (z, refl, inr (sym (some_is (f z) x (rw ec at there)), same_key z.handle handle eb))
    by true eb false ec found more = let there = moved found in (x, rw ec at there, inl refl)
    by false eb true ec found more = (z, refl, inl (sym (some_is z x (rw ec at found))))
    by false eb false ec found more = more (rw ec at found)

still_some : (gone : List ℕ) (o : Option (List ℕ)) → is_some (option_map (filter (λ set. not (is_among gone set))) o) ≡ is_some o
still_some gone None = refl
still_some gone (Some sets) = refl

or_given : (b c : Bool) → c ≡ true → b || c ≡ true
or_given true c e = refl
or_given false c e = e

module _ (s : State) (e : Entry) (allowed : IsAllowed s e) (session : ℕ) (has_some : Has session s.core.handles s.core.sessions) where
  more : (given : ℕ) → (given == session) || was_given s.core.handles session ≡ true
  more given = or_given (given == session) (was_given s.core.handles session) has_some.given

  each : (h : Handles) (xs : List Session) (f : Session → Changed) → Has session h xs → Has session h (each_changed f xs)
  each h xs f there = record {
    given = there.given;
    attached = λ x found. let one = which_map (λ (y : Session). y.handle) (λ y. with_life (f y).life y) (λ y. refl) xs session x found in ap (λ (y : Session). is_some y.attached) one.2 ∙ there.attached one.0 one.1;
  }

  has_step : Has session (step s e).0.core.handles (step s e).0.core.sessions
  has_step = kept_by_step (Has session) s.core (reads_of s e.call) e (record {
    same = λ d c. has_some;
    instance = λ d c. record { given = more e.given; attached = has_some.attached };
    chain = λ d c above. record { given = more e.given; attached = has_some.attached };
    session = λ d c good room instance. record { given = more e.given; attached = λ x found. added (new_session_given s e allowed c good).1 x (which_more (λ (y : Session). y.handle) s.core.sessions _ session x found) };
    set = λ d c instance. record { given = more e.given; attached = has_some.attached };
    action = λ d c set. record { given = more e.given; attached = has_some.attached };
    space = λ d c above. record { given = more e.given; attached = has_some.attached };
    without = λ d c handle. record {
      given = has_some.given;
      attached = λ x found.
          let one = which_map (λ (y : Session). y.handle) (left_session (without s.core.handles handle) (destroyed_by s.core.handles handle)) (λ y. refl) (still_live (without s.core.handles handle) s.core.sessions) session x found in
          let there = which_left (λ (y : Session). y.handle) (λ n. is_live (without s.core.handles handle) kind.Session n) s.core.sessions session one.0 one.1 in
          ap (λ (y : Session). is_some y.attached) one.2 ∙ still_some (destroyed_by s.core.handles handle) one.0.attached ∙ has_some.attached one.0 there.0;
    };
    alone = λ d c space. record { given = has_some.given; attached = has_some.attached };
    chain_alone = λ d c chain. record { given = has_some.given; attached = has_some.attached };
    lives = λ d c handle f named same keeps. record { given = has_some.given; attached = λ x found. changed f (λ y has. ap (λ o. is_some o) (keeps y) ∙ has) x (which_lives s.core.sessions handle f named session x found) };
    attach = λ d c handle sets. record {
      given = has_some.given;
      attached = λ x found. changed (with_attached (sets_named s.core.inputs sets)) (λ y has. refl) x (which_lives s.core.sessions handle (with_attached (sets_named s.core.inputs sets)) (λ y. refl) session x found);
    };
    each = λ h xs f same there. each h xs f there;
    lost = λ d c. each s.core.handles s.core.sessions (λ x. unchanged (lost_session x.life)) has_some;
  })
    where
      added : {z : Session} → was_given s.core.handles e.given ≡ false → (x : Session) → (session_at s.core.sessions session ≡ Some x) ⊎ ((e.given ≡ session) × (x ≡ z)) → is_some x.attached ≡ true
      added fresh x (inl there) = has_some.attached x there
      added fresh x (inr new) = absurd (true≢false (sym has_some.given ∙ subst (λ (n : ℕ). was_given s.core.handles n ≡ false) new.0 fresh))

      changed : (f : Session → Session) → ((x : Session) → is_some x.attached ≡ true → is_some (f x).attached ≡ true) → {handle : ℕ} → (x : Session) → (y : Session) × (session_at s.core.sessions session ≡ Some y) × ((x ≡ y) ⊎ ((x ≡ f y) × (y.handle ≡ handle))) → is_some x.attached ≡ true
      changed f keeps x one = by one.0 one.1 one.2
        where
          by : {handle : ℕ} (y : Session) → session_at s.core.sessions session ≡ Some y → (x ≡ y) ⊎ ((x ≡ f y) × (y.handle ≡ handle)) → is_some x.attached ≡ true
          by y there (inl is) = ap (λ (w : Session). is_some w.attached) is ∙ has_some.attached y there
          by y there (inr is) = ap (λ (w : Session). is_some w.attached) is.0 ∙ keeps y (has_some.attached y there)

has_after : (s : State) (clocks : List ℤ) (es : List Entry) (session : ℕ) → IsLegalFrom s clocks es → Has session s.core.handles s.core.sessions → Has session (after s es).core.handles (after s es).core.sessions
has_after s clocks [] session legal has_some = has_some
has_after s clocks (e ∷ es) session legal has_some = has_after (step s e).0 (clocks_after clocks e (step s e).0) es session legal.3 (has_step s e legal.0 session has_some)

-- a call that attaches, by what refuses it
module _ (s : State) (e : Entry) (known : AreKnown s.core.handles) (session : ℕ) where
  live_given : is_live s.core.handles kind.Session session ≡ true → was_given s.core.handles session ≡ true
  live_given live = by (was_given s.core.handles session) refl
    where
      by : (b : Bool) → was_given s.core.handles session ≡ b → b ≡ true
      by true eb = refl
      by false eb =
          let two = both_of (not (session == 0)) (has s.core.handles.sessions session) live in
          absurd (true≢false (sym two.1 ∙ (known session (not_true (session == 0) two.0) eb).sessions))

-- ---- a call that attaches

none_handles : (h : Handles) (handles : List ℕ) → none_with is_success (map (no_handle h kind.ActionSet) handles) ≡ true
none_handles h [] = refl
none_handles h (handle ∷ handles) = none_handles h handles

success_means : (s : CoreState) (o : Option Refusal) (x : Effect) → none_in is_success o ≡ true → is_success (unless_refused s o x).code ≡ true → o ≡ None
success_means s None x none good = refl
success_means s (Some r) x none good = absurd (true≢false (sym none ∙ ap not good))

found_at : (xs : List Session) (handle : ℕ) (sets : List ℕ) (x : Session) → session_at (with_session_at handle (with_attached sets) xs) handle ≡ Some x → is_some x.attached ≡ true
found_at [] handle sets x found = cc
found_at (z ∷ xs) handle sets x found = by (z.handle == handle) refl found (found_at xs handle sets x)
  where
    some_is : (a b : Session) → Some a ≡ Some b → a ≡ b
    some_is a b e = cc

    by : (b : Bool) → (z.handle == handle) ≡ b → session_at (if b then with_attached sets z ∷ xs else z ∷ with_session_at handle (with_attached sets) xs) handle ≡ Some x
        → (session_at (with_session_at handle (with_attached sets) xs) handle ≡ Some x → is_some x.attached ≡ true) → is_some x.attached ≡ true
    by true eb found more = ap (λ (w : Session). is_some w.attached) (sym (some_is (with_attached sets z) x (rw eb at found)))
    by false eb found more = more (rw eb at found)

module _ (s : State) (e : Entry) (session : ℕ) (handles : List ℕ) where
  f : Rule
  f = rule s.core (reads_of s (ask.AttachSets session handles)) (record e { call = ask.AttachSets session handles })

  unrefused : is_success (step s (record e { call = ask.AttachSets session handles })).1.reply.code ≡ true → first_of (refusals f) ≡ None
  unfolding f
  unrefused good = success_means s.core (first_of (refusals f)) (told_on f.on f.effect) (first_none is_success (refusals f) (none_handles s.core.handles handles)) good

  attached_so : AreKnown s.core.handles → is_success (step s (record e { call = ask.AttachSets session handles })).1.reply.code ≡ true
      → Has session (step s (record e { call = ask.AttachSets session handles })).0.core.handles (step s (record e { call = ask.AttachSets session handles })).0.core.sessions
  unfolding f
  attached_so known good =
      let none = unrefused good in
      let live = first_fails (is_live s.core.handles kind.Session session) HandleInvalid (is_lost (life_of s.core session) ∷ when f.disorder CallOrderInvalid ∷ f.behind) none in
      rw none (record { given = live_given s e known session live; attached = found_at s.core.sessions session (sets_named s.core.inputs handles) })

  fails_again : AreListed s.core.handles s.core.sessions → Has session s.core.handles s.core.sessions → is_success (step s (record e { call = ask.AttachSets session handles })).1.reply.code ≡ false
  unfolding f
  fails_again listed has_some = is_false _ (λ good.
      let none = unrefused good in
      let live = first_fails (is_live s.core.handles kind.Session session) HandleInvalid (is_lost (life_of s.core session) ∷ when f.disorder CallOrderInvalid ∷ f.behind) none in
      let rest = none_behind (no_handle s.core.handles kind.Session session ∷ is_lost (life_of s.core session) ∷ when false CallOrderInvalid ∷ []) (attach_checks (attached_in (session_at s.core.sessions session)) handles ++ map (no_handle s.core.handles kind.ActionSet) handles) none in
      let unattached = first_doesnt (is_some (attached_in (session_at s.core.sessions session))) (when (length handles == 0) ValidationFailure ∷ map (no_handle s.core.handles kind.ActionSet) handles) rest in
      true≢false (sym (there (session_at s.core.sessions session) (listed session ∙ live) has_some.attached) ∙ unattached))
    where
      there : (o : Option Session) → is_some o ≡ true → ((x : Session) → o ≡ Some x → is_some x.attached ≡ true) → is_some (attached_in o) ≡ true
      there None is each = absurd (true≢false (sym is))
      there (Some x) is each = each x refl

-- ---- a set that is attached

sealed_all : (handles : List ℕ) (xs : List Set) (set : ℕ) → is_among handles set ≡ true → is_some (find (λ x. x.handle == set) (map (sealed_by handles) xs)) ≡ true → sealed_in (find (λ x. x.handle == set) (map (sealed_by handles) xs)) ≡ true
sealed_all handles xs set among there = found_sealed (find (λ x. x.handle == set) (map (sealed_by handles) xs)) each there
  where
    seals_it : (x : Set) → is_among handles x.handle ≡ true → (sealed_by handles x).sealed ≡ true
    seals_it x e = rw e refl

    each : (x : Set) → find (λ y. y.handle == set) (map (sealed_by handles) xs) ≡ Some x → x.sealed ≡ true
    each x found =
        let one = which_map (λ (y : Set). y.handle) (sealed_by handles) (sealed_named handles) xs set x found in
        let named = key_of (λ (y : Set). y.handle) xs set one.0 one.1 in
        ap (λ (y : Set). y.sealed) one.2 ∙ seals_it one.0 (subst (λ (n : ℕ). is_among handles n ≡ true) (sym named) among)

carried : (P : CoreState → Type 0) (s : CoreState) (o : Option Refusal) (x : Effect) → o ≡ None → P x.state → P (unless_refused s o x).state
carried P s o x none is = rw none is

pub attaching_seals : AttachingSeals
unfolding f
attaching_seals s e set names good = by e.call names good
  where
    by : (r : Call) → seals r set ≡ true → is_success (step s (record e { call = r })).1.reply.code ≡ true → is_some (set_at (step s (record e { call = r })).0.core.inputs set) ≡ true → is_sealed (step s (record e { call = r })).0.core.inputs set ≡ true
    by (ask.AttachSets session handles) names good =
        let f = rule s.core (reads_of s (ask.AttachSets session handles)) (record e { call = ask.AttachSets session handles }) in
        carried (λ t. is_some (set_at t.inputs set) ≡ true → is_sealed t.inputs set ≡ true) s.core (first_of (refusals f)) (told_on f.on f.effect) (unrefused s e session handles good) (sealed_all handles s.core.inputs.sets set names)
    by _ names good = absurd (true≢false (sym names))

-- ---- a new session

found_last : (xs : List Session) (z : Session) (k : ℕ) → is_some (session_at xs k) ≡ false → (x : Session) → session_at (xs ++ z ∷ []) k ≡ Some x → x ≡ z
found_last xs z k none x found = by (which_more (λ (y : Session). y.handle) xs z k x found)
  where
    by : (session_at xs k ≡ Some x) ⊎ ((z.handle ≡ k) × (x ≡ z)) → x ≡ z
    by (inl there) = absurd (true≢false (ap (λ (o : Option Session). is_some o) (sym there) ∙ none))
    by (inr new) = new.1

pub new_sessions_are_bare : NewSessionsAreBare
new_sessions_are_bare settings es e legal allowed creates good = bare (after (opening settings) es) e allowed (known_after (opening settings) es (known_opening settings)) (sessions_are_listed settings es legal) creates good
  where
    none_of : (o : Option Session) → ((x : Session) → o ≡ Some x → x.attached ≡ None) → attached_in o ≡ None
    none_of None each = refl
    none_of (Some x) each = each x refl

    changed_bare : (f : Session → Changed) (xs : List Session) (k : ℕ) → attached_in (session_at xs k) ≡ None → attached_in (session_at (each_changed f xs) k) ≡ None
    changed_bare f [] k none = refl
    changed_bare f (x ∷ xs) k none = by (x.handle == k) none (changed_bare f xs k)
      where
        by : (b : Bool) → attached_in (if b then Some x else session_at xs k) ≡ None → (attached_in (session_at xs k) ≡ None → attached_in (session_at (each_changed f xs) k) ≡ None)
            → attached_in (if b then Some (with_life (f x).life x) else session_at (each_changed f xs) k) ≡ None
        by true none more = none
        by false none more = more none

    bare : (s : State) (e : Entry) → IsAllowed s e → AreKnown s.core.handles → AreListed s.core.handles s.core.sessions → is_session_creation e.call ≡ true → is_success (step s e).1.reply.code ≡ true → attached_in (session_at (step s e).0.core.sessions e.given) ≡ None
    bare s e allowed known listed creates good =
        kept_by_step (λ h xs. is_success (step s e).1.reply.code ≡ true → attached_in (session_at xs e.given) ≡ None) s.core (reads_of s e.call) e (record {
          same = λ d c good. absurd (true≢false (sym good ∙ (ap (λ b. b && is_success (step s e).1.reply.code) (sym creates) ∙ c)));
          instance = λ d c. absurd (true≢false (sym creates ∙ c));
          session = λ d c good room instance again. new (new_session_given s e allowed c good);
          set = λ d c. absurd (true≢false (sym creates ∙ c));
          action = λ d c. absurd (true≢false (sym creates ∙ c));
          space = λ d c. absurd (true≢false (sym creates ∙ c));
          chain = λ d c. absurd (true≢false (sym creates ∙ c));
          without = λ d c. absurd (true≢false (sym creates ∙ c));
          alone = λ d c. absurd (true≢false (sym creates ∙ c));
          chain_alone = λ d c. absurd (true≢false (sym creates ∙ c));
          lives = λ d c. absurd (true≢false (sym creates ∙ c));
          attach = λ d c. absurd (true≢false (sym creates ∙ c));
          each = λ h xs f keeps there good. changed_bare f xs e.given (there good);
          lost = λ d c. absurd (true≢false (sym creates ∙ c));
        }) good
      where
        new : (e.given ≢ 0) × (was_given s.core.handles e.given ≡ false) → attached_in (session_at (s.core.sessions ++ new_session s.core e.given (started_session s.core.device.wish).life ∷ []) e.given) ≡ None
        new fresh =
            let nz : (e.given == 0) ≡ false = is_false (e.given == 0) (λ is. fresh.0 (same_key e.given 0 is)) in
            let none : is_some (session_at s.core.sessions e.given) ≡ false = listed e.given ∙ rw (nz, (known e.given nz fresh.1).sessions) refl in
            none_of _ (λ x found. ap (λ (y : Session). y.attached) (found_last s.core.sessions _ e.given none x found))

-- ---- the law

attached_by : (s : State) (e : Entry) (session : ℕ) → AreKnown s.core.handles → attaches e.call session ≡ true → is_success (step s e).1.reply.code ≡ true → Has session (step s e).0.core.handles (step s e).0.core.sessions
attached_by s e session known = by e.call
  where
    by : (r : Call) → attaches r session ≡ true → is_success (step s (record e { call = r })).1.reply.code ≡ true → Has session (step s (record e { call = r })).0.core.handles (step s (record e { call = r })).0.core.sessions
    by (ask.AttachSets other handles) names good =
        subst (λ (n : ℕ). Has n (step s (record e { call = ask.AttachSets other handles })).0.core.handles (step s (record e { call = ask.AttachSets other handles })).0.core.sessions) (same_key other session names) (attached_so s e other handles known good)
    by _ names good = absurd (true≢false (sym names))

refused_again : (s : State) (e : Entry) (session : ℕ) → AreListed s.core.handles s.core.sessions → Has session s.core.handles s.core.sessions → attaches e.call session ≡ true → is_success (step s e).1.reply.code ≡ false
refused_again s e session listed has_some = by e.call
  where
    by : (r : Call) → attaches r session ≡ true → is_success (step s (record e { call = r })).1.reply.code ≡ false
    by (ask.AttachSets other handles) names = fails_again s e other handles listed (subst (λ (n : ℕ). Has n s.core.handles s.core.sessions) (sym (same_key other session names)) has_some)
    by _ names = absurd (true≢false (sym names))

pub attaches_once : AttachesOnce
attaches_once settings es fs e f session legal names good again =
    let there = after (opening settings) es in
    let known = known_after (opening settings) es (known_opening settings) in
    let clocks = clocks_behind (opening settings) (opening_clocks settings) es in
    let rest = legal_behind (opening settings) (opening_clocks settings) es (e ∷ fs) legal in
    let first = attached_by (after (opening settings) es) e session known names good in
    let later = has_after (step there e).0 (clocks_after clocks e (step there e).0) fs session rest.3 first in
    let same = after_is_in_turn (opening settings) es (e ∷ fs) in
    refused_again (after (opening settings) (es ++ e ∷ fs)) f session (sessions_are_listed settings (es ++ e ∷ fs) legal) (subst (λ (t : State). Has session t.core.handles t.core.sessions) (sym same) later) again
