-- What a wait that nothing but a count stands against comes to.
use Rattle.std.proofs.Common.{◌≡◌, ◌||◌, ◌==◌, ℕ, ℤ, Bool, true, false, not, List, [], ◌∷◌, Option, Some, None, refl, sym, ap, subst, ◌∙◌, true≢false}
use Rattle.std.specs.Prelude.{is_some}
use Rattle.xr_types.specs.declared.frames.Image.{Image}
use Rattle.xr_model.specs.machine.Chains.{oldest_image}
use Rattle.xr_types.specs.declared.code.Code.TheVariants.{TimeoutExpired}
use Rattle.xr_model.specs.machine.Refusals.{Refusal, when, first_of}
use Rattle.xr_model.specs.machine.Calls.{Entry}
use Rattle.xr_types.specs.declared.calls.Call.{Call}
use Rattle.xr_types.specs.declared.calls.Call.TheVariants as ask
use Rattle.xr_model.specs.machine.State.{CoreState, CellReads, State}
use Rattle.xr_model.specs.machine.Rule.{Rule, Effect, nothing_done, refusals, refusal, told_on, unless_refused}
use Rattle.xr_model.specs.machine.Rules.Swapchains.{is_up}
use Rattle.xr_model.specs.machine.Machine.{effect, rule, core_ready, reads_of, IsPresent, CoreAllows}
use Rattle.xr_model.specs.laws.ImageLaws.{count_now}
use Rattle.xr_model.specs.laws.ImageWordLaws.{Gets, Expires, WaitsComeToOneOfThree}
use Rattle.xr_model.proofs.FrameOrder.{goes}
use Rattle.xr_model.specs.laws.ImageWords.{MayWait, Claims, late_of}
use Rattle.xr_model.proofs.CellsTold.{reads, or_true}

-- ---- waits

module _ (s : CoreState) (ns : List ℕ) (hs : List Image) (e : Entry) (chain : ℕ) (timeout start : ℤ) (may : MayWait s chain) where
  abbrev pub waits : Entry
  waits = record e { call = ask.WaitImage chain timeout start }

  abbrev pub wait_rule : Bool → Rule
  wait_rule u = rule s (reads u ns hs) waits

  -- nothing refuses it where its image is unused, or its time isn't up
  pub clear_unused : first_of (refusals (wait_rule true)) ≡ None
  clear_unused = rw (may.lost, may.order, may.live) refl

  -- and a timeout does, where its image is used and the time is up
  pub timed_out : is_up s.device.clock timeout start ≡ true → first_of (refusals (wait_rule false)) ≡ Some (when true TimeoutExpired)
  timed_out up = rw (may.lost, may.order, may.live, up) refl

  pub clear_early : is_up s.device.clock timeout start ≡ false → first_of (refusals (wait_rule false)) ≡ None
  clear_early early = rw (may.lost, may.order, may.live, early) refl

  pub wait_got : effect s (reads true ns hs) waits ≡ told_on (wait_rule true).on (wait_rule true).effect
  wait_got = goes s (refusal e.short (wait_rule true)) (told_on (wait_rule true).on (wait_rule true).effect) clear_unused

  pub wait_claims : (effect s (reads true ns hs) waits).did.claimed ≡ oldest_image s.chains chain ∷ []
  wait_claims = ap (λ (x : Effect). x.did.claimed) wait_got

-- ---- what a claim comes to

left_by_timeout : (s : CoreState) (o : Option Refusal) (x : Effect) → o ≡ Some (when true TimeoutExpired) → (unless_refused s o x).did ≡ nothing_done
left_by_timeout s o x is = ap (λ (p : Option Refusal). (unless_refused s p x).did) is

is_there : (o : Option Refusal) (b : Bool) → o ≡ Some (when true TimeoutExpired) → b || is_some o ≡ true
is_there o b is = ap (λ (p : Option Refusal). b || is_some p) is ∙ or_true b

module _ (s : CoreState) (u : Bool) (ns : List ℕ) (hs : List Image) (e : Entry) (chain : ℕ) (timeout start : ℤ) (may : MayWait s chain) where
  abbrev wait : Entry
  wait = record e { call = ask.WaitImage chain timeout start }

  gets_by : u ≡ true → Gets s (reads u ns hs) wait (oldest_image s.chains chain)
  gets_by is =
      let got = wait_got s ns hs e chain timeout start may in
      subst (λ (b : Bool). Gets s (reads b ns hs) wait (oldest_image s.chains chain)) (sym is) record {
        claimed = ap (λ (x : Effect). x.did.claimed) got;
        used = ap (λ (x : Effect). x.did.used) got;
        freed = ap (λ (x : Effect). x.did.freed) got;
        returned = ap (λ (x : Effect). x.did.returned) got;
        stamped = ap (λ (x : Effect). x.did.stamped) got;
        is_ready = refl;
      }

  expires_by : u ≡ false → is_up s.device.clock timeout start ≡ true → Expires s (reads u ns hs) wait
  expires_by is up =
      let f : Rule = rule s (reads false ns hs) wait in
      let late = timed_out s ns hs e chain timeout start may up in
      subst (λ (b : Bool). Expires s (reads b ns hs) wait) (sym is) record { nothing = left_by_timeout s (refusal e.short f) (told_on f.on f.effect) late; is_ready = is_there (first_of (refusals f)) (not f.waits) late }

  held_back_by : u ≡ false → is_up s.device.clock timeout start ≡ false → core_ready s (reads u ns hs) wait ≡ false
  held_back_by is early =
      let f : Rule = rule s (reads false ns hs) wait in
      subst (λ (b : Bool). core_ready s (reads b ns hs) wait ≡ false) (sym is) (none_left (not f.waits) (first_of (refusals f)) (rw early refl) (clear_early s ns hs e chain timeout start may early))
    where
      none_left : (b : Bool) (o : Option Refusal) → b ≡ false → o ≡ None → b || is_some o ≡ false
      none_left b o is none = rw (is, none) refl

module _ (s : CoreState) (r : CellReads) (e : Entry) (i : Image) (c : Claims s e i) where
  pub gets : r.unused ≡ true → Gets s r e i
  gets is = subst (λ (x : Call × Image). Gets s r (record e { call = x.0 }) x.1) (λ k. (sym c.is k, sym c.image k)) (gets_by s r.unused r.stamps r.held e c.chain c.timeout c.start c.may is)

  pub expires : r.unused ≡ false → is_up s.device.clock c.timeout c.start ≡ true → Expires s r e
  expires is up = subst (λ (x : Call). Expires s r (record e { call = x })) (sym c.is) (expires_by s r.unused r.stamps r.held e c.chain c.timeout c.start c.may is up)

  pub held_back : r.unused ≡ false → is_up s.device.clock c.timeout c.start ≡ false → core_ready s r e ≡ false
  held_back is up = subst (λ (x : Call). core_ready s r (record e { call = x }) ≡ false) (sym c.is) (held_back_by s r.unused r.stamps r.held e c.chain c.timeout c.start c.may is up)

  pub wait_allowed : e.given ≡ 0 → e.short ≡ false → IsPresent s e.actor → CoreAllows s r e
  wait_allowed given short present = subst (λ (x : Call). CoreAllows s r (record e { call = x })) (sym c.is) (record {
    handle = given;
    memory = λ bad. absurd (true≢false (sym bad ∙ short));
    present = present;
  })

-- it gets it exactly where the image is unused
pub unused_is : (s : State) (e : Entry) (i : Image) → Claims s.core e i → (reads_of s e.call).unused ≡ (count_now s i == 0)
unused_is s e i c = subst (λ (x : Call × Image). (reads_of s x.0).unused ≡ (count_now s x.1 == 0)) (λ k. (sym c.is k, sym c.image k)) refl

-- the same claim where the core is the same
pub claims_at : (s t : CoreState) (e : Entry) (i : Image) → t ≡ s → Claims s e i → Claims t e i
claims_at s t e i same c = record {
  chain = c.chain;
  timeout = c.timeout;
  start = c.start;
  is = c.is;
  image = c.image ∙ ap (λ (x : CoreState). oldest_image x.chains c.chain) (sym same);
  may = subst (λ (x : CoreState). MayWait x c.chain) (sym same) c.may;
}

-- ---- the law

late_is : (s : CoreState) (e : Entry) (i : Image) (c : Claims s e i) → late_of s.device.clock e.call ≡ is_up s.device.clock c.timeout c.start
late_is s e i c = ap (late_of s.device.clock) c.is

pub waits_come_to : WaitsComeToOneOfThree
waits_come_to s r e i c = let late = late_is s e i c in record {
  gets = gets s r e i c;
  expires = λ is up. expires s r e i c is (sym late ∙ up);
  held_back = λ is up. held_back s r e i c is (sym late ∙ up);
}
