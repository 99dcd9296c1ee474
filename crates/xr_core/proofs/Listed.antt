-- The listed sessions are those whose handles are live, and where one of them stands.
use Rattle.std.proofs.Common.{◌≡◌, ◌<◌, ◌==◌, ℕ, suc, Bool, true, false, List, [], ◌∷◌, ◌++◌, length, Option, Some, None, option_map, refl, sym, ap, ◌∙◌, arith}
use Rattle.std.specs.Prelude.{slice_set, slice_index_or, is_some, if◌then◌else◌}
use Rattle.std.specs.List.{position_from, refill}
use Rattle.std.proofs.lemmas.List.{length-map, length-set}
use Rattle.arrayvec.proofs.ArrayVecLemmas.{items-with_items}
use Rattle.xr_types.specs.declared.session.SessionState.{SessionState}
use Rattle.xr_model.specs.machine.Events.{Queue}
use Rattle.xr_model.specs.machine.SessionLife.{Life, Changed}
use Rattle.xr_types.specs.declared.handles.Kind.TheVariants as kind
use Rattle.xr_model.specs.machine.Frames.{new_loop}
use Rattle.xr_model.specs.machine.Handles.{Handles, is_live, has_room, with_handle}
use Rattle.xr_model.specs.machine.LiveSessions.{Session, no_life, life_in, session_at, with_life, with_session_at, each_changed, told_states}
use Rattle.xr_model.specs.machine.Sync.{no_columns}
use Rattle.xr_core.specs.inside.Changes.{place_at, ordinal_in}
use Rattle.xr_model.specs.laws.SessionLaws.{AreListed}
use Rattle.xr_model.proofs.Rows.{one_later, same_key}
use Rattle.xr_model.proofs.Listed.{listed_more}

-- ---- where a session stands

pub record Stands (xs : List Session) (handle place : ℕ) (d : Session) : Type 0 where
  pub found : session_at xs handle ≡ Some (slice_index_or xs place d)
  pub within : place < length xs
  pub named : (slice_index_or xs place d).handle ≡ handle
  pub replaces : (f : Session → Session) → slice_set xs place (f (slice_index_or xs place d)) ≡ with_session_at handle f xs

pub zero_is : (place : ℕ) → Some 0 ≡ Some place → place ≡ 0
zero_is place e = cc

pub next_is : (place : ℕ) (o : Option ℕ) → option_map (λ n. suc n) o ≡ Some place → (q : ℕ) × (o ≡ Some q) × (place ≡ suc q)
next_is place None e = cc
next_is place (Some q) e = (q, refl, cc)

pub stands : (xs : List Session) (handle place : ℕ) (d : Session) → place_at xs handle ≡ Some place → Stands xs handle place d
stands [] handle place d e = cc
stands (x ∷ xs) handle place d e = by (x.handle == handle) refl e (λ q more. stands xs handle q d more)
  where
    by : (b : Bool) → (x.handle == handle) ≡ b → (if b then Some 0 else position_from (λ y. y.handle == handle) 1 xs) ≡ Some place → ((q : ℕ) → place_at xs handle ≡ Some q → Stands xs handle q d) → Stands (x ∷ xs) handle place d
    by true is e more = rw (zero_is place e) (record { found = rw is refl; within = omega arith; named = same_key x.handle handle is; replaces = λ f. rw is refl })
    by false is e more =
        let next = next_is place (place_at xs handle) (sym (one_later (λ y. y.handle == handle) 0 xs) ∙ e) in
        let there = more next.0 next.1 in
        let within = there.within in
        rw next.2 (record {
          found = rw is there.found;
          within = omega (arith, within);
          named = there.named;
          replaces = λ f. rw is (ap (λ (ys : List Session). x ∷ ys) (there.replaces f));
        })

-- ---- what is written to a place of the list

-- a list that is written back, as long as it was, is the list from then on
pub written_back : (xs ys : List Session) → length ys ≡ length xs → refill (length xs) xs ys ≡ ys
written_back xs ys same = items-with_items (record { items = xs }) ys same

module _ (xs ys : List Session) (handle place : ℕ) (d : Session) where
  -- of a session in a place that is written
  pub written_at : (y : Session) (f : Session → Session) → ys ≡ xs → place_at xs handle ≡ Some place → y ≡ f (slice_index_or ys place d)
      → refill (length xs) xs (slice_set ys place y) ≡ with_session_at handle f xs
  written_at y f same found is =
      let there = stands xs handle place d found in
      let set : slice_set ys place y ≡ with_session_at handle f xs =
      ap (λ (zs : List Session). slice_set zs place y) same ∙ ap (λ (z : Session). slice_set xs place z) (is ∙ ap (λ (zs : List Session). f (slice_index_or zs place d)) same) ∙ there.replaces f
      in
      written_back xs (slice_set ys place y) (length-set ys place y ∙ ap (λ (zs : List Session). length zs) same) ∙ set

  -- its life
  pub life_there : ys ≡ xs → place_at xs handle ≡ Some place → (slice_index_or ys place d).life ≡ life_in (session_at xs handle)
  life_there same found = rw (stands xs handle place d found).found (ap (λ (zs : List Session). (slice_index_or zs place d).life) same)

  -- and what is told of it
  pub told_there : (q : Queue) (through : Life → List SessionState) → ys ≡ xs → place_at xs handle ≡ Some place
      → told_states q (slice_index_or ys place d).ordinal (slice_index_or ys place d).handle (through (slice_index_or ys place d).life)
      ≡ told_states q (ordinal_in (session_at xs handle)) handle (through (life_in (session_at xs handle)))
  told_there q through same found =
      let there = stands xs handle place d found in
      ap (λ (zs : List Session). told_states q (slice_index_or zs place d).ordinal (slice_index_or zs place d).handle (through (slice_index_or zs place d).life)) same
      ∙ rw there.found (ap (λ (k : ℕ). told_states q (slice_index_or xs place d).ordinal k (through (slice_index_or xs place d).life)) there.named)

-- all change
pub each_written : (xs ys new : List Session) (f : Session → Changed) → ys ≡ xs → new ≡ each_changed f ys → refill (length xs) xs new ≡ each_changed f xs
each_written xs ys new f same is =
    let all = is ∙ ap (each_changed f) same in
    written_back xs new (ap (λ (zs : List Session). length zs) all ∙ length-map xs (λ x. with_life (f x).life x)) ∙ all

-- any session, for the places where none stands
abbrev nobody : Session
nobody = record { handle = 0; ordinal = 0; life = no_life; frame_loop = new_loop; attached = None; columns = no_columns }

pub stands_within : (xs : List Session) (handle place : ℕ) → place_at xs handle ≡ Some place → place < length xs
stands_within xs handle place found = (stands xs handle place nobody found).within

pub found_at : (xs : List Session) (handle place : ℕ) → place_at xs handle ≡ Some place → (x : Session) × (session_at xs handle ≡ Some x)
found_at xs handle place found = (slice_index_or xs place nobody, (stands xs handle place nobody found).found)

pub live_at : (h : Handles) (xs : List Session) (handle place : ℕ) → AreListed h xs → place_at xs handle ≡ Some place → is_live h kind.Session handle ≡ true
live_at h xs handle place listed found = sym (listed handle) ∙ rw (stands xs handle place nobody found).found refl

pub stands_nowhere : (xs : List Session) (handle : ℕ) → place_at xs handle ≡ None → is_some (session_at xs handle) ≡ false
stands_nowhere [] handle e = refl
stands_nowhere (x ∷ xs) handle e = by (x.handle == handle) refl e (stands_nowhere xs handle)
  where
    nothing_later : (o : Option ℕ) → option_map (λ n. suc n) o ≡ None → o ≡ None
    nothing_later None e = refl
    nothing_later (Some q) e = cc

    by : (b : Bool) → (x.handle == handle) ≡ b → (if b then Some 0 else position_from (λ y. y.handle == handle) 1 xs) ≡ None → (place_at xs handle ≡ None → is_some (session_at xs handle) ≡ false) → is_some (session_at (x ∷ xs) handle) ≡ false
    by true is e more = cc
    by false is e more = rw is (more (nothing_later (place_at xs handle) (sym (one_later (λ y. y.handle == handle) 0 xs) ∙ e)))

-- ---- what keeps them listed

-- a session more, which stands behind the others
pub listed_give : (h new : Handles) (xs ys : List Session) (x : Session) (instance given : ℕ) → has_room h kind.Session ≡ true → new ≡ with_handle h kind.Session instance given
    → x.handle ≡ given → (given == 0) ≡ false → ys ≡ xs ++ x ∷ [] → AreListed h xs → AreListed new ys
listed_give h new xs ys x instance given room is named nz more listed = rw (is, more) (listed_more h xs x instance given listed named nz room)
