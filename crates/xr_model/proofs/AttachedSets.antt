-- What sessions have attached are live sets.
use Rattle.std.proofs.Common.{◌≡◌, ◌==◌, ℕ, ℤ, not, Bool, true, false, List, [], ◌∷◌, ◌++◌, map, Option, Some, None, refl, sym, ap, ◌∙◌}
use Rattle.std.specs.Prelude.{option_map, unwrap_or, if◌then◌else◌}
use Rattle.std.specs.List.{filter, list_all}
use Rattle.xr_types.specs.declared.handles.Kind.TheVariants as kind
use Rattle.xr_model.specs.machine.Calls.{Entry}
use Rattle.xr_model.specs.machine.Handles.{Handles, has, is_live, is_among, destroyed_by, with_handle, without}
use Rattle.xr_model.specs.machine.LiveSessions.{Session, with_life, with_attached, with_session_at, still_live}
use Rattle.xr_model.specs.machine.SessionLife.{Changed, unchanged, lost_session}
use Rattle.xr_model.specs.machine.Sets.{Set, Sets, sets_named}
use Rattle.xr_model.specs.machine.State.{Settings, State, opening}
use Rattle.xr_model.specs.machine.Machine.{step, reads_of}
use Rattle.xr_model.specs.machine.History.{after, opening_clocks, clocks_after, IsLegal, IsLegalFrom}
use Rattle.xr_model.specs.laws.HandleLaws.{StandOnce}
use Rattle.xr_model.specs.laws.ListLaws.{attaches_live, ListedWhereLive}
use Rattle.xr_model.proofs.Rows.{both_of, not_true, has_put}
use Rattle.xr_model.proofs.Keyed.{IsRow, all_found}
use Rattle.xr_model.proofs.Destroying.{known_step, known_opening}
use Rattle.xr_model.proofs.StandOnce.{once_step, none_once, handles_stand_once}
use Rattle.xr_model.proofs.Orphans.{no_orphans}
use Rattle.xr_model.proofs.DestroyingTakes.{action_parent, roots_after}
use Rattle.xr_model.proofs.ListSteps.{Has}
use Rattle.xr_model.proofs.Lists.{Kept, all_weaker, all_left, all_map, set_gone, kept_step, none_kept, all_kept, listed_live}
use Rattle.xr_model.proofs.SessionSteps.{kept_by_step}
use Rattle.xr_model.specs.laws.Soundness.{AreKnown}
use Rattle.xr_model.specs.machine.Destroyed.{left_session}

abbrev pub AttachLive : Handles → List Session → Type 0
AttachLive h xs = list_all (attaches_live h) xs ≡ true

all_more : {T : Type 0} (p : T → Bool) (xs : List T) (x : T) → list_all p xs ≡ true → p x ≡ true → list_all p (xs ++ x ∷ []) ≡ true
all_more p [] x each good = rw good refl
all_more p (y ∷ ys) x each good = let two = both_of (p y) (list_all p ys) each in rw two.0 (all_more p ys x two.1 good)

all_lives : (p : Session → Bool) (handle : ℕ) (f : Session → Session) → ((x : Session) → p x ≡ true → p (f x) ≡ true) → (xs : List Session) → list_all p xs ≡ true → list_all p (with_session_at handle f xs) ≡ true
all_lives p handle f keeps [] each = refl
all_lives p handle f keeps (x ∷ xs) each = let two = both_of (p x) (list_all p xs) each in by (x.handle == handle) two.0 two.1 (all_lives p handle f keeps xs two.1)
  where
    by : (b : Bool) → p x ≡ true → list_all p xs ≡ true → list_all p (with_session_at handle f xs) ≡ true → list_all p (if b then f x ∷ xs else x ∷ with_session_at handle f xs) ≡ true
    by true here rest more = rw (keeps x here) rest
    by false here rest more = rw here more

-- the listed sets of some handles are live
named_live : (h : Handles) (s : Sets) (handles : List ℕ) → IsRow (λ (x : Set). x.handle) s.sets h.sets → list_all (is_live h kind.ActionSet) (sets_named s handles) ≡ true
named_live h s handles listed = by s.sets (all_weaker _ (λ (x : Set). is_live h kind.ActionSet x.handle) (λ x there. sym (listed x.handle) ∙ there) s.sets (all_found (λ (x : Set). x.handle) s.sets s.sets (λ k there. there)))
  where
    by : (xs : List Set) → list_all (λ (x : Set). is_live h kind.ActionSet x.handle) xs ≡ true → list_all (is_live h kind.ActionSet) (map (λ x. x.handle) (filter (λ x. is_among handles x.handle) xs)) ≡ true
    by [] each = refl
    by (x ∷ xs) each = let two = both_of (is_live h kind.ActionSet x.handle) (list_all (λ (y : Set). is_live h kind.ActionSet y.handle) xs) each in one (is_among handles x.handle) two.0 (by xs two.1)
      where
        one : (b : Bool) → is_live h kind.ActionSet x.handle ≡ true → list_all (is_live h kind.ActionSet) (map (λ (y : Set). y.handle) (filter (λ y. is_among handles y.handle) xs)) ≡ true
            → list_all (is_live h kind.ActionSet) (map (λ (y : Set). y.handle) (if b then x ∷ filter (λ y. is_among handles y.handle) xs else filter (λ y. is_among handles y.handle) xs)) ≡ true
        one true here rest = rw here rest
        one false here rest = rest

-- what stays live without a handle
left_live : (h : Handles) (top : ℕ) → StandOnce h → (x : Session) → attaches_live h x ≡ true → attaches_live (without h top) (left_session (without h top) (destroyed_by h top) x) ≡ true
left_live h top once x live = by x.attached live
  where
    still : (k : ℕ) → is_live h kind.ActionSet k ≡ true → not (is_among (destroyed_by h top) k) ≡ true → is_live (without h top) kind.ActionSet k ≡ true
    still k live stays =
        let two = both_of (not (k == 0)) (has h.sets k) live in
        let there = sym (set_gone h top once k (not_true (k == 0) two.0) two.1) ∙ stays in
        rw (two.0, there) refl

    by : (o : Option (List ℕ)) → list_all (is_live h kind.ActionSet) (unwrap_or o []) ≡ true → list_all (is_live (without h top) kind.ActionSet) (unwrap_or (option_map (filter (λ set. not (is_among (destroyed_by h top) set))) o) []) ≡ true
    by None live = refl
    by (Some sets) live = all_left (is_live h kind.ActionSet) (is_live (without h top) kind.ActionSet) (λ set. not (is_among (destroyed_by h top) set)) still sets live

attached_step : (s : State) (e : Entry) → StandOnce s.core.handles → Has Kept s.core → AttachLive s.core.handles s.core.sessions → AttachLive (step s e).0.core.handles (step s e).0.core.sessions
attached_step s e once kept each = kept_by_step AttachLive s.core (reads_of s e.call) e (record {
  same = λ d c. each;
  instance = λ d c. each;
  session = λ d c good room instance. all_more (attaches_live s.core.handles) s.core.sessions _ each refl;
  set = λ d c instance. all_weaker (attaches_live s.core.handles) (attaches_live (with_handle s.core.handles kind.ActionSet instance e.given)) (λ x live. all_weaker (is_live s.core.handles kind.ActionSet) (is_live (with_handle s.core.handles kind.ActionSet instance e.given) kind.ActionSet) (λ k there. still instance k there) (unwrap_or x.attached []) live) s.core.sessions each;
  action = λ d c set. each;
  space = λ d c session. each;
  chain = λ d c session. each;
  without = λ d c handle.
      all_map (attaches_live s.core.handles) (attaches_live (without s.core.handles handle)) (left_session (without s.core.handles handle) (destroyed_by s.core.handles handle)) (left_live s.core.handles handle once) (still_live (without s.core.handles handle) s.core.sessions)
      (all_left (attaches_live s.core.handles) (attaches_live s.core.handles) (λ x. is_live (without s.core.handles handle) kind.Session x.handle) (λ x live stays. live) s.core.sessions each);
  alone = λ d c space. each;
  chain_alone = λ d c chain. each;
  lives = λ d c session f named same keeps. all_lives (attaches_live s.core.handles) session f (λ x live. ap (λ o. list_all (is_live s.core.handles kind.ActionSet) (unwrap_or o [])) (keeps x) ∙ live) s.core.sessions each;
  attach = λ d c session sets. all_lives (attaches_live s.core.handles) session (with_attached (sets_named s.core.inputs sets)) (λ x live. named_live s.core.handles s.core.inputs sets kept.sets) s.core.sessions each;
  each = λ h xs f keeps there. changed h xs f there;
  lost = λ d c. changed s.core.handles s.core.sessions (λ x. unchanged (lost_session x.life)) each;
})
  where
    still : (instance k : ℕ) → is_live s.core.handles kind.ActionSet k ≡ true → is_live (with_handle s.core.handles kind.ActionSet instance e.given) kind.ActionSet k ≡ true
    still instance k live =
        let two = both_of (not (k == 0)) (has s.core.handles.sets k) live in
        rw (two.0, has_put (record { handle = e.given; parent = instance }) s.core.handles.sets k (not_true (k == 0) two.0) two.1) refl

    changed : (h : Handles) (xs : List Session) (f : Session → Changed) → AttachLive h xs → list_all (attaches_live h) (map (λ x. with_life (f x).life x) xs) ≡ true
    changed h xs f there = all_map (attaches_live h) (attaches_live h) (λ x. with_life (f x).life x) (λ x live. live) xs there

attached_after : (s : State) (clocks : List ℤ) (es : List Entry) → IsLegalFrom s clocks es → AreKnown s.core.handles → StandOnce s.core.handles → Has Kept s.core → AttachLive s.core.handles s.core.sessions → AttachLive (after s es).core.handles (after s es).core.sessions
attached_after s clocks [] legal known once kept each = each
attached_after s clocks (e ∷ es) legal known once kept each =
    attached_after (step s e).0 (clocks_after clocks e (step s e).0) es legal.3 (known_step s e known) (once_step s e legal.0 known once) (kept_step s e legal.0 known once kept) (attached_step s e once kept each)

pub all_attached : (settings : Settings) (es : List Entry) → IsLegal settings es → AttachLive (after (opening settings) es).core.handles (after (opening settings) es).core.sessions
all_attached settings es legal = attached_after (opening settings) (opening_clocks settings) es legal (known_opening settings) none_once (none_kept settings) refl

-- ---- the law

pub listed_where_live : ListedWhereLive
listed_where_live settings es legal =
    let kept = all_kept settings es legal in
    let h = (after (opening settings) es).core.handles in
    record {
      spaces = kept.spaces;
      sets = kept.sets;
      actions = kept.actions;
      above = λ k x found.
          let here = listed_live (after (opening settings) es).core.handles _ _ _ kept k x found in
          action_parent (after (opening settings) es).core.handles 1 refl (handles_stand_once settings es legal) (no_orphans settings es) (roots_after (opening settings) es refl) k here.0 here.1 ∙ ap Some (kept.above k x found);
      suggested = kept.suggested;
      attached = all_attached settings es legal;
    }
