-- What cells tell changes a call only where it looks at them.
use Rattle.std.proofs.Common.{◌≡◌, ◌||◌, ◌&&◌, ℕ, Bool, true, false, List, [], ◌∷◌, Option, refl, sym, subst, ◌∙◌}
use Rattle.std.specs.Prelude.{is_some}
use Rattle.xr_types.specs.Code.{is_success}
use Rattle.xr_types.specs.declared.frames.Image.{Image}
use Rattle.xr_types.specs.declared.handles.Kind.{Kind}
use Rattle.xr_types.specs.declared.handles.Kind.TheVariants.{Swapchain}
use Rattle.xr_model.specs.machine.Chains.{chain_at, is_wait_wrong}
use Rattle.xr_model.specs.machine.Handles.{is_live}
use Rattle.xr_model.specs.machine.Refusals.{first_of}
use Rattle.xr_model.specs.machine.Calls.{Entry}
use Rattle.xr_types.specs.declared.calls.Call.{Call}
use Rattle.xr_types.specs.declared.calls.Call.TheVariants as ask
use Rattle.xr_model.specs.machine.State.{CoreState, CellReads}
use Rattle.xr_model.specs.machine.Rule.{Effect, refusals, decided_call}
use Rattle.xr_model.specs.machine.Rules.Session.{life_of}
use Rattle.xr_model.specs.machine.Rules.Spaces.{session_above}
use Rattle.xr_model.specs.machine.Machine.{effect, rule, core_ready, IsGiven, CoreAllows}
use Rattle.xr_model.specs.laws.ImageWords.{MayWait}

-- ---- what cells tell

abbrev pub IsTold : CoreState → Call → Bool → Bool → Type 0
IsTold s (ask.WaitImage chain timeout start) u v = MayWait s chain → u ≡ v
IsTold s _ u v = Unit {0}

-- where no image is held, a frame is shown with these stamps
abbrev pub AreTold : List Image → Call → List ℕ → List ℕ → Type 0
AreTold held ask.NextFrame ns ms = held ≡ [] → ns ≡ ms
AreTold held _ ns ms = Unit {0}

-- the compositor's calls alone look at what is held
abbrev pub HoldTold : Call → List Image → List Image → Type 0
HoldTold ask.NextFrame hs gs = hs ≡ gs
HoldTold ask.ImageDone hs gs = hs ≡ gs
HoldTold _ hs gs = Unit {0}

-- Two readings tell a call the same.
pub record Told (s : CoreState) (r q : CellReads) (what : Call) : Type 0 where
  pub unused : IsTold s what r.unused q.unused
  pub stamps : AreTold q.held what r.stamps q.stamps
  pub held : HoldTold what r.held q.held

pub record Agrees (s : CoreState) (r q : CellReads) (e : Entry) : Type 0 where
  pub creates : (rule s r e).creates ≡ (rule s q e).creates
  pub takes : (rule s r e).takes_memory ≡ (rule s q e).takes_memory
  pub first : first_of (refusals (rule s r e)) ≡ first_of (refusals (rule s q e))
  pub readies : core_ready s r e ≡ core_ready s q e

pub or_true : (b : Bool) → (b || true) ≡ true
or_true true = refl
or_true false = refl

abbrev pub reads : Bool → List ℕ → List Image → CellReads
reads u ns hs = record { unused = u; stamps = ns; held = hs }

module _ (s : CoreState) (u v : Bool) (ns ms : List ℕ) (hs gs : List Image) where
  pub agree : (e : Entry) → IsTold s e.call u v → HoldTold e.call hs gs → Agrees s (reads u ns hs) (reads v ms gs) e
  agree e = by e.call
    where
      by : (r : Call) → IsTold s r u v → HoldTold r hs gs → Agrees s (reads u ns hs) (reads v ms gs) (record e { call = r })
      by (ask.WaitImage chain timeout start) is same = at (is_live s.handles Swapchain chain) refl (life_of s (session_above s.handles chain)).lost refl (is_wait_wrong (chain_at s.chains chain)) refl
        where
          at : (a : Bool) → is_live s.handles Swapchain chain ≡ a → (b : Bool) → (life_of s (session_above s.handles chain)).lost ≡ b → (d : Bool) → is_wait_wrong (chain_at s.chains chain) ≡ d
              → Agrees s (reads u ns hs) (reads v ms gs) (record e { call = ask.WaitImage chain timeout start })
          at false live b lost d order = record { creates = refl; takes = refl; first = rw live refl; readies = rw live (or_true _ ∙ sym (or_true _)) }
          at true live true lost d order = record { creates = refl; takes = refl; first = rw (lost, live) refl; readies = rw (lost, live) (or_true _ ∙ sym (or_true _)) }
          at true live false lost true order = record { creates = refl; takes = refl; first = rw (lost, order, live) refl; readies = rw (lost, order, live) (or_true _ ∙ sym (or_true _)) }
          at true live false lost false order = let equal : u ≡ v = is (record { live = live; lost = lost; order = order }) in rw equal (record { creates = refl; takes = refl; first = refl; readies = refl })
      by ask.NextFrame is same = rw same (record { creates = refl; takes = refl; first = refl; readies = refl })
      by ask.ImageDone is same = rw same (record { creates = refl; takes = refl; first = refl; readies = refl })
      by r is same = record { creates = refl; takes = refl; first = refl; readies = refl }

  pub same_effect : (e : Entry) → IsTold s e.call u v → AreTold gs e.call ns ms → HoldTold e.call hs gs → effect s (reads u ns hs) e ≡ effect s (reads v ms gs) e
  same_effect e = by e.call
    where
      by : (r : Call) → IsTold s r u v → AreTold gs r ns ms → HoldTold r hs gs → effect s (reads u ns hs) (record e { call = r }) ≡ effect s (reads v ms gs) (record e { call = r })
      by (ask.WaitImage chain timeout start) is are same = at (is_live s.handles Swapchain chain) refl (life_of s (session_above s.handles chain)).lost refl (is_wait_wrong (chain_at s.chains chain)) refl
        where
          at : (a : Bool) → is_live s.handles Swapchain chain ≡ a → (b : Bool) → (life_of s (session_above s.handles chain)).lost ≡ b → (d : Bool) → is_wait_wrong (chain_at s.chains chain) ≡ d
              → effect s (reads u ns hs) (record e { call = ask.WaitImage chain timeout start }) ≡ effect s (reads v ms gs) (record e { call = ask.WaitImage chain timeout start })
          at false live b lost d order = rw live refl
          at true live true lost d order = rw (lost, live) refl
          at true live false lost true order = rw (lost, order, live) refl
          at true live false lost false order = let equal : u ≡ v = is (record { live = live; lost = lost; order = order }) in rw equal refl
      by ask.NextFrame is are same = at gs refl
        where
          at : (ls : List Image) → gs ≡ ls → effect s (reads u ns hs) (record e { call = ask.NextFrame }) ≡ effect s (reads v ms gs) (record e { call = ask.NextFrame })
          at [] none = let equal : ns ≡ ms = are none in rw (same, equal) refl
          at (i ∷ ls) some = rw (same, some) refl
      by ask.ImageDone is are same = rw same refl
      by r is are same = refl

module _ (s : CoreState) (r q : CellReads) (e : Entry) (told : Told s r q e.call) where
  pub agrees : Agrees s r q e
  agrees = agree s r.unused q.unused r.stamps q.stamps r.held q.held e told.unused told.held

  pub same_by : effect s r e ≡ effect s q e
  same_by = same_effect s r.unused q.unused r.stamps q.stamps r.held q.held e told.unused told.stamps told.held

  -- an entry that is allowed, and ready, by one reading is so by the other
  pub allowed_by : CoreAllows s r e → CoreAllows s q e
  allowed_by a = let here = agrees in record {
    handle = subst (λ (k : Option Kind). IsGiven (is_some k && is_success (decided_call s e.call (effect s q e)).1.reply.code) s.handles e.given) here.creates
        (subst (λ (y : Effect). IsGiven (is_some (rule s r e).creates && is_success (decided_call s e.call y).1.reply.code) s.handles e.given) same_by a.handle);
    memory = λ short. let both = a.memory short in (sym here.takes ∙ both.0, sym here.first ∙ both.1);
    present = a.present;
  }
