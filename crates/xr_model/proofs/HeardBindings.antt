-- Which bindings a sync has, which it hears, and which are live.
use Rattle.std.proofs.Common.{◌≡◌, ◌≤◌, ◌==◌, ◌&&◌, ◌||◌, ◌++◌, ℕ, zero, suc, Bool, true, false, not, List, [], ◌∷◌, Option, Some, None, slice_get, refl, sym, ap, subst, ◌∙◌, arith, true≢false}
use Rattle.std.specs.Prelude.{flat_map, nat_lt, option_and_then, option_map, unwrap_or, if◌then◌else◌}
use Rattle.std.specs.List.{filter, list_any}
use Rattle.std.proofs.lemmas.Bool.Decides.{nat_tests}
use Rattle.xr_types.specs.Users.{user_place}
use Rattle.xr_types.specs.declared.input.Bound.{Bound}
use Rattle.xr_types.specs.declared.input.Heard.{Heard}
use Rattle.xr_types.specs.declared.input.Profile.{Profile}
use Rattle.xr_types.specs.declared.input.Ranked.{Ranked}
use Rattle.xr_types.specs.declared.input.User.{User}
use Rattle.xr_model.specs.machine.Bindings.{suggestions_of}
use Rattle.xr_model.specs.machine.Rules.Sync.{ranked, ranked_by, suggested_at, connected_at, bindings_of}
use Rattle.xr_model.specs.machine.Sets as sets
use Rattle.xr_model.specs.machine.Sets.{action_at}
use Rattle.xr_model.specs.machine.State.{CoreState}
use Rattle.xr_model.specs.machine.Sync.{hears, is_heard, is_same_source, is_same_user, is_outranked}
use Rattle.xr_model.specs.laws.InputLaws.{IsOfTheConnected, BindingsAreOfTheConnected, IsFor, IsListed, HeardAreListed, HaveOneSource, LiveHaveTheLargestPriority}
use Rattle.xr_model.proofs.ChainPlaces.{same_some}
use Rattle.xr_model.proofs.Rows.{both_of, itself, not_true, same_key}

-- ---- what is among some things

-- what is among two lists is among one
among_both : {T : Type 0} (P : T → Type 0) (xs ys : List T) → ((k : ℕ) (x : T) → slice_get xs k ≡ Some x → P x) → ((k : ℕ) (x : T) → slice_get ys k ≡ Some x → P x)
    → (k : ℕ) (x : T) → slice_get (xs ++ ys) k ≡ Some x → P x
among_both P [] ys left right k x found = right k x found
among_both P (y ∷ xs) ys left right zero x found = left zero x found
among_both P (y ∷ xs) ys left right (suc k) x found = among_both P xs ys (λ n z there. left (suc n) z there) right k x found

-- and of a list made of the lists of others
pub among_each : {S T : Type 0} (P : T → Type 0) (f : S → List T) (ss : List S) → ((n : ℕ) (s : S) → slice_get ss n ≡ Some s → (k : ℕ) (x : T) → slice_get (f s) k ≡ Some x → P x)
    → (k : ℕ) (x : T) → slice_get (flat_map f ss) k ≡ Some x → P x
among_each P f [] each k x found = cc
among_each P f (s ∷ ss) each k x found = among_both P (f s) (flat_map f ss) (each zero s refl) (among_each P f ss (λ n t there. each (suc n) t there)) k x found

-- what is left of a list was there, and meets the test
among_left : {T : Type 0} (p : T → Bool) (xs : List T) (k : ℕ) (x : T) → slice_get (filter p xs) k ≡ Some x → (p x ≡ true) × (n : ℕ) × (slice_get xs n ≡ Some x)
among_left p [] k x found = cc
among_left p (y ∷ xs) k x found = by (p y) refl k found (λ n there. among_left p xs n x there)
  where
    later : (p x ≡ true) × (n : ℕ) × (slice_get xs n ≡ Some x) → (p x ≡ true) × (n : ℕ) × (slice_get (y ∷ xs) n ≡ Some x)
    later is = (is.0, suc is.1, is.2)

    by : (b : Bool) → p y ≡ b → (k : ℕ) → slice_get (if b then y ∷ filter p xs else filter p xs) k ≡ Some x
        → ((n : ℕ) → slice_get (filter p xs) n ≡ Some x → (p x ≡ true) × (n : ℕ) × (slice_get xs n ≡ Some x))
        → (p x ≡ true) × (n : ℕ) × (slice_get (y ∷ xs) n ≡ Some x)
    by true eb zero found more = (ap p (sym (same_some y x found)) ∙ eb, zero, found)
    by true eb (suc k) found more = later (more k found)
    by false eb k found more = later (more k found)

-- ---- the bindings of a sync

module _ (s : CoreState) where
  -- a suggestion with what is known of its action
  of_action : (b : Bound) (who : User) (which : Profile) (place : ℕ) → slice_get s.device.profiles (user_place who) ≡ Some (Some which) → slice_get (suggestions_of s.suggestions which) place ≡ Some b
      → is_same_user b.pick.user who ≡ true → (k : ℕ) (r : Ranked) → slice_get (ranked s.inputs s.handles b) k ≡ Some r → IsOfTheConnected s r
  of_action b who which place connected suggested at = by (action_at s.inputs b.action) refl
    where
      made : (x : sets.Action) → action_at s.inputs b.action ≡ Some x → IsOfTheConnected s (ranked_by s.inputs s.handles x b)
      made x found = record {
        profile = which;
        connected = subst (λ (n : ℕ). slice_get s.device.profiles n ≡ Some (Some which)) (sym (same_key (user_place b.pick.user) (user_place who) at)) connected;
        place = place;
        suggested = suggested;
        action = x;
        listed = found;
        set = refl;
        kind = refl;
        declared = refl;
      }

      by : (o : Option sets.Action) → action_at s.inputs b.action ≡ o → (k : ℕ) (r : Ranked)
          → slice_get (unwrap_or (option_map (λ x. ranked_by s.inputs s.handles x b ∷ []) o) []) k ≡ Some r → IsOfTheConnected s r
      by None eo k r found = cc
      by (Some x) eo zero r found = subst (IsOfTheConnected s) (same_some (ranked_by s.inputs s.handles x b) r found) (made x eo)
      by (Some x) eo (suc k) r found = cc

  -- those of a user path
  at_user : (who : User) (k : ℕ) (r : Ranked) → slice_get (flat_map (ranked s.inputs s.handles) (connected_at s who)) k ≡ Some r → IsOfTheConnected s r
  at_user who = among_each (IsOfTheConnected s) (ranked s.inputs s.handles) (connected_at s who) (by (slice_get s.device.profiles (user_place who)) refl)
    where
      by : (o : Option (Option Profile)) → slice_get s.device.profiles (user_place who) ≡ o → (n : ℕ) (b : Bound) → slice_get (suggested_at s.suggestions who (option_and_then (λ p. p) o)) n ≡ Some b
          → (k : ℕ) (r : Ranked) → slice_get (ranked s.inputs s.handles b) k ≡ Some r → IsOfTheConnected s r
      by None eo n b found = cc
      by (Some None) eo n b found = cc
      by (Some (Some which)) eo n b found =
          let is = among_left (λ (x : Bound). is_same_user x.pick.user who) (suggestions_of s.suggestions which) n b found in
          of_action b who which is.1 eo is.2 is.0

  of_users : (users : List User) (k : ℕ) (b : Ranked) → slice_get (flat_map (λ who. flat_map (ranked s.inputs s.handles) (connected_at s who)) users) k ≡ Some b → IsOfTheConnected s b
  of_users users = among_each (IsOfTheConnected s) (λ who. flat_map (ranked s.inputs s.handles) (connected_at s who)) users (λ n who there. at_user who)

  pub of_the_connected : (k : ℕ) (b : Ranked) → slice_get (bindings_of s) k ≡ Some b → IsOfTheConnected s b
  of_the_connected k b found = search (of_users)

pub bindings_are_of_the_connected : BindingsAreOfTheConnected
bindings_are_of_the_connected = of_the_connected

-- ---- heard

some_any : {T : Type 0} (p : T → Bool) (xs : List T) (k : ℕ) (x : T) → slice_get xs k ≡ Some x → p x ≡ true → list_any p xs ≡ true
some_any p [] k x found is = cc
some_any p (y ∷ xs) zero x found is = rw (ap p (same_some y x found) ∙ is) refl
some_any p (y ∷ xs) (suc k) x found is = or_with (p y) (list_any p xs) (some_any p xs k x found is)
  where
    or_with : (a b : Bool) → b ≡ true → a || b ≡ true
    or_with true b e = refl
    or_with false b e = e

any_some : {T : Type 0} (p : T → Bool) (xs : List T) → list_any p xs ≡ true → (k : ℕ) × (x : T) × (slice_get xs k ≡ Some x) × (p x ≡ true)
any_some p [] any = absurd (true≢false (sym any))
any_some {T = T} p (y ∷ xs) any = by (p y) refl any (λ more. any_some p xs more)
  where
    by : (b : Bool) → p y ≡ b → b || list_any p xs ≡ true → (list_any p xs ≡ true → (k : ℕ) × (x : T) × (slice_get xs k ≡ Some x) × (p x ≡ true))
        → (k : ℕ) × (x : T) × (slice_get (y ∷ xs) k ≡ Some x) × (p x ≡ true)
    by true eb any more = (zero, y, refl, eb)
    by false eb any more = let is = more any in (suc is.0, is.1, is.2, is.3)

is_for : (o : Option User) (who : User) → hears o who ≡ true → IsFor o who
is_for None who is = tt
is_for (Some only) who is = same_key (user_place only) (user_place who) is

for_is : (o : Option User) (who : User) → IsFor o who → hears o who ≡ true
for_is None who is = refl
for_is (Some only) who is = subst (λ (n : ℕ). (user_place only == n) ≡ true) is (itself (user_place only))

pub heard_are_listed : HeardAreListed
heard_are_listed active b = (there, back)
  where
    there : is_heard active b ≡ true → IsListed active b
    there heard =
        let is = any_some (λ (h : Heard). (h.set == b.set) && hears h.user b.bound.pick.user) active heard in
        let two = both_of (is.1.set == b.set) (hears is.1.user b.bound.pick.user) is.3 in
        record { place = is.0; item = is.1; there = is.2; set = same_key is.1.set b.set two.0; user = is_for is.1.user b.bound.pick.user two.1 }

    back : IsListed active b → is_heard active b ≡ true
    back is =
        let set : (is.item.set == b.set) ≡ true = subst (λ (n : ℕ). (is.item.set == n) ≡ true) is.set (itself is.item.set) in
        some_any (λ (h : Heard). (h.set == b.set) && hears h.user b.bound.pick.user) active is.place is.item is.there (rw (set, for_is is.item.user b.bound.pick.user is.user) refl)

-- ---- live

none_any : {T : Type 0} (p : T → Bool) (xs : List T) → ((k : ℕ) (x : T) → slice_get xs k ≡ Some x → p x ≡ false) → list_any p xs ≡ false
none_any p [] none = refl
none_any p (y ∷ xs) none = rw (none zero y refl, none_any p xs (λ k x there. none (suc k) x there)) refl

pub live_have_the_largest_priority : LiveHaveTheLargestPriority
live_have_the_largest_priority active all b = (there, back)
  where
    not_less : (n m : ℕ) → nat_lt n m ≡ false → m ≤ n
    not_less n m e = grind (arith, nat_tests, e)

    no_less : (n m : ℕ) → m ≤ n → nat_lt n m ≡ false
    no_less n m e = grind (arith, nat_tests, e)

    there : is_heard active b && not (is_outranked active all b) ≡ true
        → (is_heard active b ≡ true) × ((k : ℕ) (o : Ranked) → slice_get all k ≡ Some o → is_heard active o ≡ true → HaveOneSource o b → o.priority ≤ b.priority)
    there live =
        let two = both_of (is_heard active b) (not (is_outranked active all b)) live in
        (two.0, λ k o at heard source. less k o at heard source (nat_lt b.priority o.priority) refl (not_true (is_outranked active all b) two.1))
      where
        less : (k : ℕ) (o : Ranked) → slice_get all k ≡ Some o → is_heard active o ≡ true → HaveOneSource o b → (c : Bool) → nat_lt b.priority o.priority ≡ c → is_outranked active all b ≡ false → o.priority ≤ b.priority
        less k o at heard source false ec none = not_less b.priority o.priority ec
        less k o at heard source true ec none =
            let user : is_same_user o.bound.pick.user b.bound.pick.user ≡ true = subst (λ (n : ℕ). (user_place o.bound.pick.user == n) ≡ true) source.0 (itself (user_place o.bound.pick.user)) in
            let same : (o.bound.pick.identifier == b.bound.pick.identifier) ≡ true = subst (λ (n : ℕ). (o.bound.pick.identifier == n) ≡ true) source.1 (itself o.bound.pick.identifier) in
            absurd (true≢false (sym (some_any (λ (x : Ranked). is_heard active x && (is_same_source x.bound.pick b.bound.pick && nat_lt b.priority x.priority)) all k o at (rw (heard, user, same, ec) refl)) ∙ none))

    back : (is_heard active b ≡ true) × ((k : ℕ) (o : Ranked) → slice_get all k ≡ Some o → is_heard active o ≡ true → HaveOneSource o b → o.priority ≤ b.priority)
        → is_heard active b && not (is_outranked active all b) ≡ true
    back is = rw (is.0, none_any (λ (x : Ranked). is_heard active x && (is_same_source x.bound.pick b.bound.pick && nat_lt b.priority x.priority)) all none) refl
      where
        none : (k : ℕ) (o : Ranked) → slice_get all k ≡ Some o → is_heard active o && (is_same_source o.bound.pick b.bound.pick && nat_lt b.priority o.priority) ≡ false
        none k o at = by (is_heard active o) refl (is_same_user o.bound.pick.user b.bound.pick.user) refl (o.bound.pick.identifier == b.bound.pick.identifier) refl
          where
            by : (c : Bool) → is_heard active o ≡ c → (d : Bool) → is_same_user o.bound.pick.user b.bound.pick.user ≡ d → (f : Bool) → (o.bound.pick.identifier == b.bound.pick.identifier) ≡ f
                → c && ((d && f) && nat_lt b.priority o.priority) ≡ false
            by false ec d ed f ef = refl
            by true ec false ed f ef = refl
            by true ec true ed false ef = refl
            by true ec true ed true ef =
                no_less b.priority o.priority (is.1 k o at ec (same_key (user_place o.bound.pick.user) (user_place b.bound.pick.user) ed, same_key o.bound.pick.identifier b.bound.pick.identifier ef))
