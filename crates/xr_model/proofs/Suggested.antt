-- What is suggested for a profile is the last list that was taken for it, without the actions that went.
use Rattle.std.proofs.Common.{◌≡◌, ◌≢◌, ◌<◌, ◌==◌, ◌&&◌, ℕ, zero, suc, not, Bool, true, false, List, [], ◌∷◌, ◌++◌, length, map, Option, Some, None, refl, sym, ap, subst, ◌∙◌, append_assoc, append-nil, arith, true≢false}
use Rattle.std.specs.Prelude.{is_some, slice_get, slice_set, unwrap_or, filter_map, if◌then◌else◌}
use Rattle.std.specs.List.{filter, list_all}
use Rattle.xr_types.specs.Code.{is_success}
use Rattle.xr_types.specs.declared.calls.Gives.TheVariants.{Nothing}
use Rattle.xr_types.specs.declared.device.DeviceEvent.{DeviceEvent}
use Rattle.xr_types.specs.declared.device.DeviceEvent.TheVariants as event
use Rattle.xr_types.specs.declared.handles.Kind.TheVariants.{Action}
use Rattle.xr_types.specs.declared.input.Binding.{Binding}
use Rattle.xr_types.specs.declared.input.Bound.{Bound}
use Rattle.xr_types.specs.declared.input.Profile.{Profile}
use Rattle.xr_types.specs.declared.input.Profile.TheVariants as profile
use Rattle.xr_model.specs.machine.Calls.{Entry}
use Rattle.xr_types.specs.declared.calls.Call.{Call}
use Rattle.xr_types.specs.declared.calls.Call.TheVariants as ask
use Rattle.xr_model.specs.machine.Bindings.{profile_place, suggestions_of}
use Rattle.xr_model.specs.machine.Handles.{Handles, has, is_live, was_given}
use Rattle.xr_model.specs.machine.Refusals.{Refusal, first_of}
use Rattle.xr_model.specs.machine.State.{CoreState, Settings, State, opening}
use Rattle.xr_model.specs.machine.Rule.{Effect, done, refusals, refusal, or_short, told_on, unless_refused}
use Rattle.xr_model.specs.machine.Rules.Bindings.{profile_at, bindings_checks, bound_of, suggested}
use Rattle.xr_model.specs.machine.Rules.Device.{behind_event}
use Rattle.xr_model.specs.machine.Machine.{rule, reads_of, step, IsAllowed, IsGiven}
use Rattle.xr_model.specs.machine.History.{after, opening_clocks, IsLegal}
use Rattle.xr_model.specs.laws.HandleLaws.{destroys, is_within}
use Rattle.xr_model.specs.laws.SuggestionLaws.{is_profile, taken_by, last_taken, SuggestionsAreTheLastTaken}
use Rattle.xr_model.proofs.Rows.{itself, same_key, both_of, or_true, not_true}
use Rattle.xr_model.proofs.Keyed.{filters_agree}
use Rattle.xr_model.proofs.Histories.{after_is_in_turn, fronts_are_legal}
use Rattle.xr_model.proofs.DestroyedForGood.{legal_behind}
use Rattle.xr_model.proofs.HandleSteps as handles
use Rattle.xr_model.proofs.HandleSteps.{gives_handle}
use Rattle.xr_model.proofs.ListSteps as lists
use Rattle.xr_model.proofs.Destroying.{known_after, known_opening}
use Rattle.xr_model.proofs.DestroyingTakes.{destroying_takes}
use Rattle.xr_model.proofs.Filters.{destroying_filters}
use Rattle.xr_model.proofs.Lists.{all_kept}
use Rattle.xr_model.proofs.SessionAnswers.{none_with, none_in, first_none}
use Rattle.xr_model.proofs.StandOnce.{creating_adds}

-- ---- lists

all_weaker : {T : Type 0} (p q : T → Bool) → ((x : T) → p x ≡ true → q x ≡ true) → (xs : List T) → list_all p xs ≡ true → list_all q xs ≡ true
all_weaker p q more [] each = refl
all_weaker p q more (x ∷ xs) each = let two = both_of (p x) (list_all p xs) each in rw (more x two.0) (all_weaker p q more xs two.1)

filter_full : {T : Type 0} (p : T → Bool) (xs : List T) → list_all p xs ≡ true → xs ≡ filter p xs
filter_full p [] each = refl
filter_full p (x ∷ xs) each = let two = both_of (p x) (list_all p xs) each in rw two.0 (ap (λ (l : List _). x ∷ l) (filter_full p xs two.1))

filter_twice : {T : Type 0} (p q : T → Bool) (xs : List T) → filter q (filter p xs) ≡ filter (λ x. p x && q x) xs
filter_twice p q [] = refl
filter_twice p q (x ∷ xs) = by (p x) (q x) refl (filter_twice p q xs)
  where
    by : (a b : Bool) → q x ≡ b → filter q (filter p xs) ≡ filter (λ x. p x && q x) xs → filter q (if a then x ∷ filter p xs else filter p xs) ≡ (if a && b then x ∷ filter (λ x. p x && q x) xs else filter (λ x. p x && q x) xs)
    by true true eb more = rw eb (ap (λ (l : List _). x ∷ l) more)
    by true false eb more = rw eb more
    by false b eb more = more

-- ---- the list at a place

found_filtered : (p : Bound → Bool) (su : List (List Bound)) (place : ℕ) → unwrap_or (slice_get (map (λ bs. filter p bs) su) place) [] ≡ filter p (unwrap_or (slice_get su place) [])
found_filtered p [] place = refl
found_filtered p (bs ∷ su) zero = refl
found_filtered p (bs ∷ su) (suc place) = found_filtered p su place

found_set : (su : List (List Bound)) (place : ℕ) (bs : List Bound) → place < length su → unwrap_or (slice_get (slice_set su place bs) place) [] ≡ bs
found_set [] place bs within = absurd (omega (arith, within))
found_set (b ∷ su) zero bs within = refl
found_set (b ∷ su) (suc place) bs within = found_set su place bs (omega (arith, within))

found_else : (su : List (List Bound)) (place other : ℕ) (bs : List Bound) → place ≢ other → unwrap_or (slice_get (slice_set su place bs) other) [] ≡ unwrap_or (slice_get su other) []
found_else [] place other bs apart = refl
found_else (b ∷ su) zero zero bs apart = absurd (apart refl)
found_else (b ∷ su) zero (suc other) bs apart = refl
found_else (b ∷ su) (suc place) zero bs apart = refl
found_else (b ∷ su) (suc place) (suc other) bs apart = found_else su place other bs (λ same. apart (ap (λ (n : ℕ). suc n) same))

length_set : (su : List (List Bound)) (place : ℕ) (bs : List Bound) → length (slice_set su place bs) ≡ length su
length_set [] place bs = refl
length_set (b ∷ su) zero bs = refl
length_set (b ∷ su) (suc place) bs = ap (λ (n : ℕ). suc n) (length_set su place bs)

length_same : (f : List Bound → List Bound) (su : List (List Bound)) → length (map f su) ≡ length su
length_same f [] = refl
length_same f (bs ∷ su) = ap (λ (n : ℕ). suc n) (length_same f su)

place_below : (which : Profile) → profile_place which < 4
place_below profile.Simple = omega arith
place_below _ = omega arith

same_profile : (a b : Profile) → (profile_place a == profile_place b) ≡ true → a ≡ b
same_profile profile.Simple profile.Simple e = refl
same_profile profile.Touch profile.Touch e = refl
same_profile profile.Vive profile.Vive e = refl
same_profile profile.Xbox profile.Xbox e = refl
same_profile _ _ e = cc

found_live : (p : Bound → Bool) (su : List (List Bound)) (place : ℕ) → list_all (list_all p) su ≡ true → list_all p (unwrap_or (slice_get su place) []) ≡ true
found_live p [] place each = refl
found_live p (bs ∷ su) zero each = (both_of (list_all p bs) (list_all (list_all p) su) each).0
found_live p (bs ∷ su) (suc place) each = found_live p su place (both_of (list_all p bs) (list_all (list_all p) su) each).1

-- ---- what holds of every entry

-- a handle that was given stays so
given_step : (s : State) (e : Entry) (k : ℕ) → was_given s.core.handles k ≡ true → was_given (step s e).0.core.handles k ≡ true
given_step s e k given = handles.kept_by_step (λ h. was_given h k ≡ true) s.core (reads_of s e.call) e (record {
  same = given;
  instance = λ gives. rw given (or_true (e.given == k));
  session = λ gives instance live. rw given (or_true (e.given == k));
  set = λ gives instance live. rw given (or_true (e.given == k));
  action = λ gives set live. rw given (or_true (e.given == k));
  space = λ gives session live. rw given (or_true (e.given == k));
  chain = λ is gives session live. rw given (or_true (e.given == k));
  without = λ handle. given;
  alone = λ space. given;
  chain_alone = λ chain. given;
})

suggested_four : (s : CoreState) (o : Option Profile) (list : List Binding) → length s.suggestions ≡ 4 → length (suggested s o list) ≡ 4
suggested_four s None list four = four
suggested_four s (Some which) list four = length_set s.suggestions (profile_place which) (filter_map (bound_of s which) list) ∙ four

-- there are lists for four profiles
four_step : (s : State) (e : Entry) → length s.core.suggestions ≡ 4 → length (step s e).0.core.suggestions ≡ 4
four_step s e four = lists.kept_by_step (λ h sp st su. length su ≡ 4) s.core (reads_of s e.call) e (record {
  same = four;
  instance = λ gives. four;
  session = λ gives instance. four;
  set = λ gives room instance name localized priority. four;
  action = λ gives room x named live free. four;
  space = λ gives room session root offset. four;
  chain = λ gives session. four;
  gone = λ handle. length_same _ s.core.suggestions ∙ four;
  alone = λ space. four;
  chain_alone = λ chain. four;
  suggest = λ o list none. suggested_four s.core o list four;
  attach = λ handles. four;
  sample = λ what time pose. four;
})

-- ---- what is suggested for one profile

-- these handles' list for a profile is what is live of the one that was taken
abbrev IsLeft : Profile → Handles → List (List Bound) → List Bound → Type 0
IsLeft which h su taken = suggestions_of su which ≡ filter (λ b. is_live h Action b.action) taken

record Told (which : Profile) (s : CoreState) (taken : List Bound) : Type 0 where
  left : IsLeft which s.handles s.suggestions taken
  given : list_all (λ b. was_given s.handles b.action) taken ≡ true
  four : length s.suggestions ≡ 4

kept : (P : Handles → List (List Bound) → Type 0) (s : CoreState) (o : Option Refusal) (x : Effect) → P s.handles s.suggestions
    → (is_success (unless_refused s o x).code ≡ true → P (unless_refused s o x).state.handles (unless_refused s o x).state.suggestions) → is_success x.code ≡ true
    → P (unless_refused s o x).state.handles (unless_refused s o x).state.suggestions
kept P s None x same done good = done good
kept P s (Some r) x same done good = same

either : (P : List Bound → Type 0) (b : Bool) (taken : List Bound) → P taken → P (if b then taken else taken)
either P true taken it = it
either P false taken it = it

-- a state that a refusal leaves, or that the effect leads to
so : (P : Handles → List (List Bound) → Type 0) (s : CoreState) (o : Option Refusal) (x : Effect) → P s.handles s.suggestions → P x.state.handles x.state.suggestions → P (unless_refused s o x).state.handles (unless_refused s o x).state.suggestions
so P s None x same done = done
so P s (Some r) x same done = same

none_bindings : (s : CoreState) (o : Option Profile) (list : List Binding) → none_with is_success (bindings_checks s o list) ≡ true
none_bindings s None list = refl
none_bindings s (Some which) [] = refl
none_bindings s (Some which) (b ∷ list) = none_bindings s (Some which) list

none_short : (short : Bool) (o : Option Refusal) → none_in is_success o ≡ true → none_in is_success (or_short short o) ≡ true
none_short false o none = none
none_short true None none = refl
none_short true (Some r) none = none

module _ (settings : Settings) (es : List Entry) (front : IsLegal settings es) (which : Profile) (taken : List Bound) (told : Told which (after (opening settings) es).core taken) where
  abbrev there : State
  there = after (opening settings) es

  abbrev Both : Handles → List (List Bound) → List Bound → Type 0
  Both h su list = IsLeft which h su list × (list_all (λ b. was_given h b.action) list ≡ true)

  -- the entry leads to it
  abbrev Comes : Entry → List Bound → Type 0
  Comes e list = Both (step there e).0.core.handles (step there e).0.core.suggestions list

  -- ---- a call that destroys

  gone : (e : Entry) (handle : ℕ) → destroys e.call handle ≡ true → is_success (step there e).1.reply.code ≡ true → IsLeft which (step there e).0.core.handles (step there e).0.core.suggestions taken
  gone e handle names good =
      ap (λ (su : List (List Bound)). suggestions_of su which) (destroying_filters settings es e handle front names good).suggestions
      ∙ found_filtered (λ b. not (is_within 2 there.core.handles b.action handle)) there.core.suggestions (profile_place which)
      ∙ ap (λ (l : List Bound). filter (λ b. not (is_within 2 there.core.handles b.action handle)) l) told.left
      ∙ filter_twice (λ b. is_live there.core.handles Action b.action) (λ b. not (is_within 2 there.core.handles b.action handle)) taken
      ∙ filters_agree (λ b. is_live there.core.handles Action b.action && not (is_within 2 there.core.handles b.action handle)) (λ b. is_live (step there e).0.core.handles Action b.action)
      (λ b. was_given there.core.handles b.action) taken told.given (λ b known. sym (destroying_takes settings es e handle front names good Action b.action))

  -- ---- a call that gives a handle

  apart : (h new : Handles) (g : Bool) (given k : ℕ) → IsGiven g h given → was_given h k ≡ true → (k == given) ≡ true → is_live new Action k ≡ is_live h Action k
  apart h new true given k fresh known same = absurd (true≢false (sym known ∙ subst (λ (n : ℕ). was_given h n ≡ false) (sym (same_key k given same)) fresh.1))
  apart h new false given k none known same = subst (λ (n : ℕ). is_live new Action n ≡ is_live h Action n) (sym (same_key k given same ∙ none)) refl

  still_live : (e : Entry) → IsAllowed there e → is_some (rule there.core (reads_of there e.call) e).creates ≡ true → (k : ℕ) → was_given there.core.handles k ≡ true
      → is_live (step there e).0.core.handles Action k ≡ is_live there.core.handles Action k
  still_live e allowed creates k known = by (k == e.given) refl
    where
      by : (b : Bool) → (k == e.given) ≡ b → is_live (step there e).0.core.handles Action k ≡ is_live there.core.handles Action k
      by true eb = apart there.core.handles (step there e).0.core.handles (gives_handle there.core (reads_of there e.call) e) e.given k allowed.handle known eb
      by false eb = creating_adds there e creates Action k eb

  grown : (e : Entry) → IsAllowed there e → is_some (rule there.core (reads_of there e.call) e).creates ≡ true → (step there e).0.core.suggestions ≡ there.core.suggestions → IsLeft which (step there e).0.core.handles (step there e).0.core.suggestions taken
  grown e allowed creates same =
      ap (λ (su : List (List Bound)). suggestions_of su which) same ∙ told.left
      ∙ filters_agree (λ b. is_live there.core.handles Action b.action) (λ b. is_live (step there e).0.core.handles Action b.action) (λ b. was_given there.core.handles b.action) taken told.given (λ b known. sym (still_live e allowed creates b.action known))

  -- ---- a call that suggests

  module _ (list : List Binding) where
    abbrev LiveIn : Option Profile → Type 0
    LiveIn o = list_all (list_all (λ b. is_live there.core.handles Action b.action)) (suggested there.core o list) ≡ true

    -- for the profile itself
    taken_so : LiveIn (Some which) → Both there.core.handles (suggested there.core (Some which) list) (filter_map (bound_of there.core which) list)
    taken_so live =
        let new = filter_map (bound_of there.core which) list in
        let within : profile_place which < length there.core.suggestions = subst (λ (n : ℕ). profile_place which < n) (sym told.four) (place_below which) in
        let found : suggestions_of (suggested there.core (Some which) list) which ≡ new = found_set there.core.suggestions (profile_place which) new within in
        let each : list_all (λ b. is_live there.core.handles Action b.action) new ≡ true =
        subst (λ (l : List Bound). list_all (λ b. is_live there.core.handles Action b.action) l ≡ true) found (found_live (λ b. is_live there.core.handles Action b.action) (suggested there.core (Some which) list) (profile_place which) live) in
        (found ∙ filter_full (λ b. is_live there.core.handles Action b.action) new each, all_weaker (λ b. is_live there.core.handles Action b.action) (λ b. was_given there.core.handles b.action) (λ b is. was_known b.action is) new each)
      where
        was_known : (k : ℕ) → is_live there.core.handles Action k ≡ true → was_given there.core.handles k ≡ true
        was_known k live = by (was_given there.core.handles k) refl
          where
            two : (not (k == 0) ≡ true) × (has there.core.handles.actions k ≡ true)
            two = both_of (not (k == 0)) (has there.core.handles.actions k) live

            by : (b : Bool) → was_given there.core.handles k ≡ b → b ≡ true
            by true eb = refl
            by false eb = absurd (true≢false (sym two.1 ∙ (known_after (opening settings) es (known_opening settings) k (not_true (k == 0) two.0) eb).actions))

    suggests : (o : Option Profile) → LiveIn o → Both there.core.handles (suggested there.core o list) (if is_profile o which then filter_map (bound_of there.core which) list else taken)
    suggests None live = (told.left, told.given)
    suggests (Some profile) live = by (profile_place profile == profile_place which) refl
      where
        by : (b : Bool) → (profile_place profile == profile_place which) ≡ b → Both there.core.handles (suggested there.core (Some profile) list) (if b then filter_map (bound_of there.core which) list else taken)
        by true eb =
            subst (λ (p : Profile). LiveIn (Some p) → Both there.core.handles (suggested there.core (Some p) list) (filter_map (bound_of there.core which) list)) (sym (same_profile profile which eb)) taken_so live
        by false eb =
            let other : profile_place profile ≢ profile_place which = λ same. true≢false (sym (itself (profile_place which)) ∙ subst (λ (n : ℕ). (n == profile_place which) ≡ false) same eb) in
            (found_else there.core.suggestions (profile_place profile) (profile_place which) (filter_map (bound_of there.core profile) list) other ∙ told.left, told.given)

    abbrev brings : ℕ → Effect
    brings profile = done (record there.core { suggestions = suggested there.core (profile_at there.core.atoms profile) list }) Nothing

    answered : (profile : ℕ) (o : Option Refusal) → none_in is_success o ≡ true
        → list_all (list_all (λ b. is_live (unless_refused there.core o (brings profile)).state.handles Action b.action)) (unless_refused there.core o (brings profile)).state.suggestions ≡ true
        → Both (unless_refused there.core o (brings profile)).state.handles (unless_refused there.core o (brings profile)).state.suggestions
        (if is_success (unless_refused there.core o (brings profile)).code then (if is_profile (profile_at there.core.atoms profile) which then filter_map (bound_of there.core which) list else taken) else taken)
    answered profile None none live = suggests (profile_at there.core.atoms profile) live
    answered profile (Some r) none live = rw (not_true (is_success r.code) none) (told.left, told.given)

  -- ---- any call

  -- a call that brings no list
  calm : (e : Entry) → IsLeft which (step there e).0.core.handles (step there e).0.core.suggestions taken → Comes e (if is_success (step there e).1.reply.code then taken else taken)
  calm e left = either (λ l. Comes e l) (is_success (step there e).1.reply.code) taken (left, all_weaker (λ b. was_given there.core.handles b.action) (λ b. was_given (step there e).0.core.handles b.action) (λ b given. given_step there e b.action given) taken told.given)

  events : (what : DeviceEvent) → IsLeft which (behind_event there.core what).handles (behind_event there.core what).suggestions taken
  events (event.Clock time) = told.left
  events _ = told.left

  abbrev P : Handles → List (List Bound) → Type 0
  P h su = IsLeft which h su taken

  both : (e : Entry) → IsLegal settings (es ++ e ∷ []) → Comes e (taken_by there which taken e)
  both e = by e.call
    where
      open_at : (e : Entry) → IsLegal settings (es ++ e ∷ []) → IsAllowed there e
      open_at e legal = (legal_behind (opening settings) (opening_clocks settings) es (e ∷ []) legal).0

      creates : (r : Call) → IsLegal settings (es ++ record e { call = r } ∷ []) → is_some (rule there.core (reads_of there r) (record e { call = r })).creates ≡ true
          → (told_on (rule there.core (reads_of there r) (record e { call = r })).on (rule there.core (reads_of there r) (record e { call = r })).effect).state.suggestions ≡ there.core.suggestions
          → Comes (record e { call = r }) (if is_success (step there (record e { call = r })).1.reply.code then taken else taken)
      creates r legal gives same =
          let f = rule there.core (reads_of there r) (record e { call = r }) in
          calm (record e { call = r }) (grown (record e { call = r }) (open_at (record e { call = r }) legal) gives (so (λ h su. su ≡ there.core.suggestions) there.core (refusal e.short f) (told_on f.on f.effect) refl same))

      by : (r : Call) → IsLegal settings (es ++ record e { call = r } ∷ []) → Comes (record e { call = r }) (taken_by there which taken (record e { call = r }))
      by (ask.SuggestBindings instance profile list) legal =
          let e' : Entry = record e { call = ask.SuggestBindings instance profile list } in
          let f = rule there.core (reads_of there (ask.SuggestBindings instance profile list)) e' in
          let none = none_short (f.takes_memory && e.short) (first_of (refusals f)) (first_none is_success (refusals f) (none_bindings there.core (profile_at there.core.atoms profile) list)) in
          let all = all_kept settings (es ++ e' ∷ []) legal in
          let live = subst (λ (t : State). list_all (list_all (λ b. is_live t.core.handles Action b.action)) t.core.suggestions ≡ true) (after_is_in_turn (opening settings) es (e' ∷ [])) all.suggested in
          answered list profile (refusal e.short f) none live
      by (ask.DestroyInstance handle) legal = let f = rule there.core (reads_of there (ask.DestroyInstance handle)) (record e { call = ask.DestroyInstance handle }) in
          calm (record e { call = ask.DestroyInstance handle }) (kept P there.core (refusal e.short f) (told_on f.on f.effect) told.left (λ good. gone (record e { call = ask.DestroyInstance handle }) handle (itself handle) good) refl)
      by (ask.DestroySession handle) legal = let f = rule there.core (reads_of there (ask.DestroySession handle)) (record e { call = ask.DestroySession handle }) in
          calm (record e { call = ask.DestroySession handle }) (kept P there.core (refusal e.short f) (told_on f.on f.effect) told.left (λ good. gone (record e { call = ask.DestroySession handle }) handle (itself handle) good) refl)
      by (ask.DestroySpace handle) legal = let f = rule there.core (reads_of there (ask.DestroySpace handle)) (record e { call = ask.DestroySpace handle }) in
          calm (record e { call = ask.DestroySpace handle }) (kept P there.core (refusal e.short f) (told_on f.on f.effect) told.left (λ good. gone (record e { call = ask.DestroySpace handle }) handle (itself handle) good) refl)
      by (ask.DestroyActionSet handle) legal = let f = rule there.core (reads_of there (ask.DestroyActionSet handle)) (record e { call = ask.DestroyActionSet handle }) in
          calm (record e { call = ask.DestroyActionSet handle }) (kept P there.core (refusal e.short f) (told_on f.on f.effect) told.left (λ good. gone (record e { call = ask.DestroyActionSet handle }) handle (itself handle) good) refl)
      by (ask.DestroyAction handle) legal = let f = rule there.core (reads_of there (ask.DestroyAction handle)) (record e { call = ask.DestroyAction handle }) in
          calm (record e { call = ask.DestroyAction handle }) (kept P there.core (refusal e.short f) (told_on f.on f.effect) told.left (λ good. gone (record e { call = ask.DestroyAction handle }) handle (itself handle) good) refl)
      by (ask.DestroySwapchain handle) legal = let f = rule there.core (reads_of there (ask.DestroySwapchain handle)) (record e { call = ask.DestroySwapchain handle }) in
          calm (record e { call = ask.DestroySwapchain handle }) (kept P there.core (refusal e.short f) (told_on f.on f.effect) told.left (λ good. gone (record e { call = ask.DestroySwapchain handle }) handle (itself handle) good) refl)
      by (ask.CreateInstance major minor) legal = creates (ask.CreateInstance major minor) legal refl refl
      by (ask.CreateSession instance system) legal = creates (ask.CreateSession instance system) legal refl refl
      by (ask.CreateReferenceSpace session kind offset) legal = creates (ask.CreateReferenceSpace session kind offset) legal refl refl
      by (ask.CreateSwapchain session format width height fixed) legal = creates (ask.CreateSwapchain session format width height fixed) legal refl refl
      by (ask.CreateActionSet instance name localized priority) legal = creates (ask.CreateActionSet instance name localized priority) legal refl refl
      by (ask.CreateAction set name kind subs localized) legal = creates (ask.CreateAction set name kind subs localized) legal refl refl
      by (ask.Device what) legal = calm (record e { call = ask.Device what }) (events what)
      by r legal =
          let f = rule there.core (reads_of there r) (record e { call = r }) in
          calm (record e { call = r }) (so P there.core (refusal e.short f) (told_on f.on f.effect) told.left told.left)

told_after : (settings : Settings) (es fs : List Entry) (which : Profile) (taken : List Bound) → IsLegal settings (es ++ fs) → Told which (after (opening settings) es).core taken
    → Told which (after (opening settings) (es ++ fs)).core (last_taken (after (opening settings) es) which taken fs)
told_after settings es [] which taken legal told = subst (λ (l : List Entry). Told which (after (opening settings) l).core taken) (sym (append-nil es)) told
told_after settings es (e ∷ fs) which taken legal told =
    let there = after (opening settings) es in
    let joined : (es ++ e ∷ []) ++ fs ≡ es ++ e ∷ fs = append_assoc es (e ∷ []) fs in
    let more = subst (λ (l : List Entry). IsLegal settings l) (sym joined) legal in
    let front = fronts_are_legal (opening settings) (opening_clocks settings) es (e ∷ fs) legal in
    let one = fronts_are_legal (opening settings) (opening_clocks settings) (es ++ e ∷ []) fs more in
    let turn = after_is_in_turn (opening settings) es (e ∷ []) in
    let two = both settings es front which taken told e one in
    let next : Told which (step there e).0.core (taken_by there which taken e) = record { left = two.0; given = two.1; four = four_step there e told.four } in
    let here = subst (λ (t : State). Told which t.core (taken_by there which taken e)) (sym turn) next in
    let rest = told_after settings (es ++ e ∷ []) fs which (taken_by there which taken e) more here in
    subst (λ (l : List Entry). Told which (after (opening settings) l).core (last_taken (step there e).0 which (taken_by there which taken e) fs)) joined
    (subst (λ (t : State). Told which (after (opening settings) ((es ++ e ∷ []) ++ fs)).core (last_taken t which (taken_by there which taken e) fs)) turn rest)

pub suggestions_are_the_last_taken : SuggestionsAreTheLastTaken
suggestions_are_the_last_taken settings es which legal = (told_after settings [] es which [] legal (record { left = none which; given = refl; four = refl })).left
  where
    none : (which : Profile) → suggestions_of (opening settings).core.suggestions which ≡ []
    none profile.Simple = refl
    none _ = refl
