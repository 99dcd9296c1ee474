-- Where all sessions have settled, a round leaves them and tells nothing.
use Rattle.std.proofs.Common.{◌≡◌, Bool, true, false, ℕ, List, [], ◌∷◌, Option, Some, None, refl, sym, ap, ◌∙◌, true≢false}
use Rattle.std.specs.Prelude.{is_none, ◌&&◌, if◌then◌else◌}
use Rattle.std.specs.List.{list_all}
use Rattle.xr_types.specs.declared.device.Wish.{Wish}
use Rattle.xr_types.specs.declared.session.SessionState.{SessionState}
use Rattle.xr_types.specs.declared.handles.Slot.{Slot}
use Rattle.xr_types.specs.declared.input.Column.{Column}
use Rattle.xr_model.specs.machine.Events.{Queue}
use Rattle.xr_model.specs.machine.Frames.{FrameLoop}
use Rattle.xr_model.specs.machine.SessionLife.{Life, Changed, unchanged, next_state, changes, last_of, settled_session}
use Rattle.xr_model.specs.machine.LiveSessions.{Session}
use Rattle.xr_model.specs.machine.State.{CoreState}
use Rattle.xr_model.specs.machine.Target.{is_target, own_wish, target_of, other_settled, target_settled, settled, Standing, all_changed, round_for}
use Rattle.xr_model.proofs.Targets.{once_is_enough}
use Rattle.xr_core.specs.inside.Changes.{has_settled}
use Rattle.xr_core.specs.inside.Seats.{seated}

none_so : (o : Option SessionState) → is_none o ≡ true → o ≡ None
none_so None none = refl
none_so (Some to) none = absurd (true≢false (sym none))

both : (a b : Bool) → (a && b) ≡ true → (a ≡ true) × (b ≡ true)
both true true all = (refl, refl)
both true false all = absurd (true≢false (sym all))
both false b all = absurd (true≢false (sym all))

-- a life that no row fits stays
life_stays : (w : Wish) (life : Life) → is_none (next_state w life.exit life.state) ≡ true → settled_session w life ≡ unchanged life
life_stays w life none =
    ap (λ (o : Option SessionState).
    let through : List SessionState = elim o [ None ↦ [] | Some to ↦ to ∷ changes 3 w life.exit to ] in
    let c : Changed = record { life = record life { state = last_of life.state through }; through = through } in c)
    (none_so (next_state w life.exit life.state) none)

other_stays : (w : Wish) (target : ℕ) (x : Session) → has_settled w target x ≡ true → other_settled w target x ≡ unchanged x.life
other_stays w target x has = by (is_target target x)
  where
    by : (b : Bool) → (if b then unchanged x.life else settled_session (own_wish w target x) x.life) ≡ unchanged x.life
    by true = refl
    by false = life_stays (own_wish w target x) x.life has

target_stays : (w : Wish) (target : ℕ) (x : Session) → has_settled w target x ≡ true → target_settled w target x ≡ unchanged x.life
target_stays w target x has = by (is_target target x)
  where
    by : (b : Bool) → (if b then settled_session (own_wish w target x) x.life else unchanged x.life) ≡ unchanged x.life
    by true = life_stays (own_wish w target x) x.life has
    by false = refl

-- a change that leaves the life of each session leaves all
each_stays : (f : Session → Changed) (p : Session → Bool) → ((x : Session) → p x ≡ true → f x ≡ unchanged x.life) → (xs : List Session) (q : Queue) → list_all p xs ≡ true
    → all_changed f (record { sessions = xs; events = q }) ≡ record { sessions = xs; events = q }
each_stays f p stays [] q all = refl
each_stays f p stays (x ∷ xs) q all =
    let own = both (p x) (list_all p xs) all in
    let more = each_stays f p stays xs q own.1 in
    rw (stays x own.0) (ap (λ (t : Standing). let u : Standing = record { sessions = x ∷ t.sessions; events = t.events } in u) more)

-- where all have settled, settling changes nothing
pub settled_stays : (s : CoreState) → list_all (has_settled s.device.wish (target_of s.sessions)) s.sessions ≡ true → s ≡ settled s
settled_stays s all =
    let w = s.device.wish in
    let target = target_of s.sessions in
    let t : Standing = record { sessions = s.sessions; events = s.events } in
    let others = each_stays (other_settled w target) (has_settled w target) (other_stays w target) s.sessions s.events all in
    let own = each_stays (target_settled w target) (has_settled w target) (target_stays w target) s.sessions s.events all in
    let round : round_for w target t ≡ t = ap (λ (u : Standing). all_changed (target_settled w target) u) others ∙ own in
    ap (λ (u : Standing). let c : CoreState = record s { sessions = u.sessions; events = u.events } in c) (sym (once_is_enough w t ∙ round))

-- whether sessions have settled says nothing of what their slots keep
pub settled_seated : (loops : List FrameLoop) (columns : List (List (List Column))) (row : List Slot) (w : Wish) (target : ℕ) (xs : List Session) → list_all (has_settled w target) (seated loops columns row xs) ≡ list_all (has_settled w target) xs
settled_seated loops columns row w target [] = refl
settled_seated loops columns row w target (x ∷ xs) = ap (λ (b : Bool). has_settled w target x && b) (settled_seated loops columns row w target xs)

-- so where all have settled, the core stays
pub nothing_settles : (s : CoreState) (loops : List FrameLoop) (columns : List (List (List Column))) (row : List Slot) (xs ys : List Session) (w : Wish) (target : ℕ) → s.sessions ≡ seated loops columns row xs → w ≡ s.device.wish → target ≡ target_of s.sessions → ys ≡ xs
    → list_all (has_settled w target) ys ≡ true → s ≡ settled s
nothing_settles s loops columns row xs ys w target stand wished aimed same all =
    settled_stays s (
    ap (λ (u : Wish). list_all (has_settled u (target_of s.sessions)) s.sessions) (sym wished)
    ∙ ap (λ (n : ℕ). list_all (has_settled w n) s.sessions) (sym aimed)
    ∙ ap (λ (zs : List Session). list_all (has_settled w target) zs) stand
    ∙ settled_seated loops columns row w target xs
    ∙ ap (λ (zs : List Session). list_all (has_settled w target) zs) (sym same)
    ∙ all)
