-- How the calls on swapchains are decided beside cells, by what their checks and the swapchains say.
use Rattle.std.proofs.Common.{◌≡◌, ◌&&◌, ◌++◌, ℕ, ℤ, Bool, true, false, not, List, [], ◌∷◌, append-nil, length, Option, Some, None, refl, sym, subst, ◌∙◌, true≢false}
use Rattle.std.specs.Prelude.{Result, Ok, Err, if◌then◌else◌}
use Rattle.xr_types.specs.Code.{is_out_of_memory}
use Rattle.xr_types.specs.declared.calls.Actor.{Actor}
use Rattle.xr_types.specs.declared.calls.Actor.TheVariants.{Compositor}
use Rattle.xr_types.specs.declared.calls.Gives.TheVariants.{Nothing, Handle}
use Rattle.xr_types.specs.declared.code.Code.{Code}
use Rattle.xr_types.specs.declared.code.Code.TheVariants.{Success, CallOrderInvalid, TimeoutExpired, LimitReached}
use Rattle.xr_types.specs.declared.frames.Image.{Image}
use Rattle.xr_types.specs.declared.handles.Kind.{Kind}
use Rattle.xr_types.specs.declared.handles.Kind.TheVariants as kind
use Rattle.xr_model.specs.machine.CellCalls.{CellCall, claim, stamp, stamp_calls, free_calls, MayCall, Leads}
use Rattle.xr_model.specs.machine.Chains.{new_chain, chain_at, chain_checks, no_place, has_free_place, is_wait_wrong, is_paint_wrong, oldest_image, waiting, releasing, first_place}
use Rattle.xr_model.specs.machine.Destroyed.{freed_by}
use Rattle.xr_model.specs.machine.Handles.{no_handle, no_room, has_room, was_given, destroyed_by}
use Rattle.xr_model.specs.machine.Images.{unstamped}
use Rattle.xr_model.specs.machine.Machine.{effect, rule_of, as_unused, held_after}
use Rattle.xr_model.specs.machine.Refusals.{Refusal, when, first_of, unless}
use Rattle.xr_types.specs.declared.calls.Call.{Call}
use Rattle.xr_types.specs.declared.calls.Call.TheVariants as ask
use Rattle.xr_model.specs.machine.Rule.{Rule, Did, ahead, refusals, nothing_done, told_on}
use Rattle.xr_model.specs.machine.SessionLife.{is_lost}
use Rattle.xr_model.specs.machine.SessionRule.{Loss, loss_of, code_on}
use Rattle.xr_model.specs.machine.Rules.Session.{life_of}
use Rattle.xr_model.specs.machine.Rules.Spaces.{session_above}
use Rattle.xr_model.specs.machine.Rules.Swapchains.{with_swapchain, with_changed_chain, create_swapchain_rule, acquire_image_rule, wait_image_rule, paint_rule, release_image_rule, is_up}
use Rattle.xr_model.specs.machine.State.{CoreState, CellReads}
use Rattle.xr_model.specs.machine.PartAnswers.{or_refused}
use Rattle.xr_model.proofs.OverCells.{told_nothing}
use Rattle.xr_model.proofs.SessionAnswers.{first_stays, first_skips}
use Rattle.xr_model.proofs.Successes.{success_succeeds}
use Rattle.xr_chains.specs.Waited.{waited_images}
use Rattle.xr_core.specs.declared.halt.Halt.TheVariants.{Refused, NotReady}
use Rattle.xr_core.specs.inside.Deciding.{DecidesCells, MayTouch}
use Rattle.xr_core.proofs.Along.{refused_did, refused_cells, done_cells, may_do}
use Rattle.xr_core.proofs.Deciding.{refused_comes, room_last, none_second, ok_none, success_found, then_err, then_ok}
use Rattle.xr_core.proofs.Plain.{IsPlain, first_plain, gives_size}

-- where this check says yes, it is in order
pub right_where : {T : Type 0} (wrong : Bool) (x y : T) → or_refused (first_of (when wrong CallOrderInvalid ∷ [])) x ≡ Ok y → (wrong ≡ false) × (y ≡ x)
right_where true x y is = cc
right_where false x y is = (refl, cc)

-- what isn't refused
pub ok_where : (r : Result (Unit {0}) Code) → ((code : Code) → r ≡ Err code → ⊥) → r ≡ Ok (tt {0})
ok_where (Ok x) good = refl
ok_where (Err code) good = absurd (good code refl)

-- what is refused is refused, whatever it is made for
or_else : {T U : Type 0} (o : Option Refusal) (x : T) (y : U) (code : Code) → or_refused o x ≡ Err code → or_refused o y ≡ Err code
or_else None x y code told = cc
or_else (Some r) x y code told = let is : r.code ≡ code = cc in rw is refl

-- the checks ahead of the call order are passed
pub passed_by : (s : CoreState) (chain : ℕ) (success : Code) → or_refused (first_of (ahead (acquire_image_rule s chain))) (code_on (loss_of (life_of s (session_above s.handles chain))) Success) ≡ Ok success
    → (or_refused (first_of (ahead (acquire_image_rule s chain))) (code_on (loss_of (life_of s (session_above s.handles chain))) Success) ≡ Ok (code_on (loss_of (life_of s (session_above s.handles chain))) Success)) × (success ≡ code_on (loss_of (life_of s (session_above s.handles chain))) Success)
passed_by s chain success told =
    let both = ok_none (first_of (ahead (acquire_image_rule s chain))) (code_on (loss_of (life_of s (session_above s.handles chain))) Success) success told in
    (rw both.0 refl, both.1)

module _ {C : Type 0} (does : C → CellCall → C → Type 0) (s : CoreState) (chain : ℕ) where
  abbrev loss : Loss
  loss = loss_of (life_of s (session_above s.handles chain))

  abbrev success : Code
  success = code_on loss Success

  abbrev front : List Refusal
  front = ahead (acquire_image_rule s chain)

  abbrev order : Bool → List Refusal
  order wrong = when wrong CallOrderInvalid ∷ []

  none_at : (wrong : Bool) → or_refused (first_of front) success ≡ Ok success → wrong ≡ false → first_of (front ++ order wrong) ≡ None
  none_at wrong passed right = (ok_none (first_of (front ++ order wrong)) success success (then_ok front (order wrong) success success success passed ∙ rw right refl)).0

  -- ---- painting

  module _ (value : ℕ) where
    pub paint_refused : (code : Code) (c : C) → or_refused (first_of front) success ≡ Err code → DecidesCells does s (ask.Paint chain value) s (Err (Refused code)) c c
    paint_refused code c told =
        refused_cells s (ask.Paint chain value) (λ given. paint_rule s chain value) (λ who reads given. refl) does success code c refl (then_err front (order (is_paint_wrong (chain_at s.chains chain))) success success code told)

    pub paint_disordered : {T : Type 0} (x : T) (code : Code) (c : C) → or_refused (first_of front) success ≡ Ok success → or_refused (first_of (order (is_paint_wrong (chain_at s.chains chain)))) x ≡ Err code → DecidesCells does s (ask.Paint chain value) s (Err (Refused code)) c c
    paint_disordered x code c passed told =
        refused_cells s (ask.Paint chain value) (λ given. paint_rule s chain value) (λ who reads given. refl) does success code c refl (then_ok front (order (is_paint_wrong (chain_at s.chains chain))) success success success passed ∙ or_else (first_of (order (is_paint_wrong (chain_at s.chains chain)))) x success code told)

    pub paint_done : (c d : C) → or_refused (first_of front) success ≡ Ok success → is_paint_wrong (chain_at s.chains chain) ≡ false → does c (stamp (oldest_image s.chains chain) value) d
        → DecidesCells does s (ask.Paint chain value) s (Ok (record { code = success; gives = Nothing; place = 0 })) c d
    paint_done c d passed right painted =
        done_cells s (ask.Paint chain value) (λ given. paint_rule s chain value) (λ who reads given. refl) does s success Nothing (record nothing_done { stamped = record { image = oldest_image s.chains chain; stamp = value } ∷ [] }) c d
        (none_at (is_paint_wrong (chain_at s.chains chain)) passed right) refl refl refl (success_found loss) (record { claimed = refl; taken = refl; returned = refl }) (d, painted, refl)

    pub may_paint : (may : C → CellCall → Type 0) (c : C) → MayTouch may does s c (ask.Paint chain value) → or_refused (first_of front) success ≡ Ok success → is_paint_wrong (chain_at s.chains chain) ≡ false → may c (stamp (oldest_image s.chains chain) value)
    may_paint may c touch passed right =
        (may_do s (ask.Paint chain value) (λ given. paint_rule s chain value) (λ who reads given. refl) does may c 0 (record nothing_done { stamped = record { image = oldest_image s.chains chain; stamp = value } ∷ [] }) touch
        (none_at (is_paint_wrong (chain_at s.chains chain)) passed right) refl refl (record { claimed = refl; taken = refl; returned = refl })).0

  -- ---- releasing

  pub release_refused : (code : Code) (c : C) → or_refused (first_of front) success ≡ Err code → DecidesCells does s (ask.ReleaseImage chain) s (Err (Refused code)) c c
  release_refused code c told =
      refused_cells s (ask.ReleaseImage chain) (λ given. release_image_rule s chain) (λ who reads given. refl) does success code c refl (then_err front (order (is_paint_wrong (chain_at s.chains chain))) success success code told)

  abbrev unordered : List Refusal
  unordered = order (is_paint_wrong (chain_at s.chains chain))

  -- where none was waited for nothing is released
  pub release_kept : (code : Code) (c d : C) → or_refused (first_of front) success ≡ Ok success → or_refused (first_of unordered) (tt {0}) ≡ Err code → Leads does c (free_calls (waited_images s.chains chain)) d
      → DecidesCells does s (ask.ReleaseImage chain) (unless (first_of unordered) s (with_changed_chain s chain releasing)) (Err (Refused code)) c d
  release_kept code c d passed told leads = by (is_paint_wrong (chain_at s.chains chain)) refl told leads
    where
      by : (b : Bool) → is_paint_wrong (chain_at s.chains chain) ≡ b → or_refused (first_of (order b)) (tt {0}) ≡ Err code → Leads does c (free_calls (if b then [] else oldest_image s.chains chain ∷ [])) d
          → DecidesCells does s (ask.ReleaseImage chain) (unless (first_of (order b)) s (with_changed_chain s chain releasing)) (Err (Refused code)) c d
      by false e told leads = cc
      by true e told leads =
          rw leads (refused_cells s (ask.ReleaseImage chain) (λ given. release_image_rule s chain) (λ who reads given. refl) does success code c refl (then_ok front unordered success success success passed ∙ rw e (or_else (first_of (order true)) (tt {0}) success code told)))

  pub released : (c d : C) → or_refused (first_of front) success ≡ Ok success → or_refused (first_of unordered) (tt {0}) ≡ Ok (tt {0}) → Leads does c (free_calls (waited_images s.chains chain)) d
      → DecidesCells does s (ask.ReleaseImage chain) (unless (first_of unordered) s (with_changed_chain s chain releasing)) (Ok (record { code = success; gives = Nothing; place = 0 })) c d
  released c d passed told leads = by (is_paint_wrong (chain_at s.chains chain)) refl told leads
    where
      by : (b : Bool) → is_paint_wrong (chain_at s.chains chain) ≡ b → or_refused (first_of (order b)) (tt {0}) ≡ Ok (tt {0}) → Leads does c (free_calls (if b then [] else oldest_image s.chains chain ∷ [])) d
          → DecidesCells does s (ask.ReleaseImage chain) (unless (first_of (order b)) s (with_changed_chain s chain releasing)) (Ok (record { code = success; gives = Nothing; place = 0 })) c d
      by true e told leads = cc
      by false e told leads =
          done_cells s (ask.ReleaseImage chain) (λ given. release_image_rule s chain) (λ who reads given. refl) does (with_changed_chain s chain releasing) success Nothing (record nothing_done { freed = oldest_image s.chains chain ∷ [] }) c d
          (none_at (is_paint_wrong (chain_at s.chains chain)) passed e) refl refl refl (success_found loss) (record { claimed = refl; taken = refl; returned = refl }) leads

  pub may_release : (may : C → CellCall → Type 0) (c : C) → MayTouch may does s c (ask.ReleaseImage chain) → or_refused (first_of front) success ≡ Ok success → MayCall may does c (free_calls (waited_images s.chains chain))
  may_release may c touch passed = by (is_paint_wrong (chain_at s.chains chain)) refl
    where
      by : (b : Bool) → is_paint_wrong (chain_at s.chains chain) ≡ b → MayCall may does c (free_calls (if b then [] else oldest_image s.chains chain ∷ []))
      by true e = tt
      by false e =
          may_do s (ask.ReleaseImage chain) (λ given. release_image_rule s chain) (λ who reads given. refl) does may c 0 (record nothing_done { freed = oldest_image s.chains chain ∷ [] }) touch
          (none_at (is_paint_wrong (chain_at s.chains chain)) passed e) refl refl (record { claimed = refl; taken = refl; returned = refl })

-- ---- coming

module _ {C : Type 0} (does : C → CellCall → C → Type 0) (s : CoreState) (session format width height : ℕ) (fixed : Bool) where
  abbrev session_loss : Loss
  session_loss = loss_of (life_of s session)

  pub create_refused : (code : Code) (c : C) → or_refused (first_of (refusals (create_swapchain_rule s 0 session format width height fixed))) (code_on session_loss Success) ≡ Err code → DecidesCells does s (ask.CreateSwapchain session format width height fixed) s (Err (Refused code)) c c
  create_refused code c told =
      refused_cells s (ask.CreateSwapchain session format width height fixed) (λ given. create_swapchain_rule s given session format width height fixed) (λ who reads given. refl) does (code_on session_loss Success) code c refl told

  pub create_done : (handle : ℕ) (c d : C) → first_of (refusals (create_swapchain_rule s 0 session format width height fixed)) ≡ None → (handle ≡ 0 → ⊥) × (was_given s.handles handle ≡ false) → Leads does c (stamp_calls (unstamped (first_place s.chains))) d
      → DecidesCells does s (ask.CreateSwapchain session format width height fixed) (with_swapchain s session (new_chain handle width height fixed)) (Ok (record { code = code_on session_loss Success; gives = Handle handle; place = 0 })) c d
  create_done handle c d none fresh stamped =
      done_cells s (ask.CreateSwapchain session format width height fixed) (λ given. create_swapchain_rule s given session format width height fixed) (λ who reads given. refl) does (with_swapchain s session (new_chain handle width height fixed)) (code_on session_loss Success) (Handle handle) (record nothing_done { stamped = unstamped (first_place s.chains) }) c d
      none refl refl (rw (success_succeeds session_loss) fresh) (success_found session_loss) (record { claimed = refl; taken = refl; returned = refl }) stamped

  -- where nothing refuses it there are a handle's place and a place for the chain
  pub room_where : first_of (refusals (create_swapchain_rule s 0 session format width height fixed)) ≡ None → has_room s.handles kind.Swapchain ≡ true
  room_where none = room_last (no_handle s.handles kind.Session session ∷ is_lost (life_of s session) ∷ when false CallOrderInvalid ∷ (chain_checks format width height ++ no_place s.chains ∷ [])) s.handles kind.Swapchain none

  pub place_where : first_of (refusals (create_swapchain_rule s 0 session format width height fixed)) ≡ None → has_free_place s.chains ≡ true
  place_where none = by (has_free_place s.chains) (none_second (no_handle s.handles kind.Session session ∷ is_lost (life_of s session) ∷ when false CallOrderInvalid ∷ chain_checks format width height) (no_place s.chains ∷ no_room s.handles kind.Swapchain ∷ []) none)
    where
      by : (b : Bool) → first_of (when (not b) LimitReached ∷ no_room s.handles kind.Swapchain ∷ []) ≡ None → b ≡ true
      by true none = refl
      by false none = cc

  pub may_create : (may : C → CellCall → Type 0) (c : C) → MayTouch may does s c (ask.CreateSwapchain session format width height fixed) → first_of (refusals (create_swapchain_rule s 0 session format width height fixed)) ≡ None → MayCall may does c (stamp_calls (unstamped (first_place s.chains)))
  may_create may c touch none =
      may_do s (ask.CreateSwapchain session format width height fixed) (λ given. create_swapchain_rule s given session format width height fixed) (λ who reads given. refl) does may c 0 (record nothing_done { stamped = unstamped (first_place s.chains) }) touch none refl refl (record { claimed = refl; taken = refl; returned = refl })

-- ---- going

-- what a call destroys, which its handle alone refuses
abbrev gone : CoreState → ℕ → Did
gone s handle = record nothing_done { destroyed = destroyed_by s.handles handle; freed = freed_by s handle }

module _ {C : Type 0} (does : C → CellCall → C → Type 0) (s : CoreState) (handle : ℕ) (what : Call) (k : Kind) (f : Rule) (new : CoreState) (sized : gives_size what ≡ false)
    (same : (who : Actor) (reads : CellReads) (given : ℕ) → rule_of s reads who given what ≡ f) (checks : refusals f ≡ no_handle s.handles k handle ∷ when false CallOrderInvalid ∷ []) (waits : f.waits ≡ false) (creates : f.creates ≡ None) (memory : f.takes_memory ≡ false)
    (effect : told_on f.on f.effect ≡ record { state = new; code = Success; gives = Nothing; text = []; shown = None; did = gone s handle }) where
  abbrev named : List Refusal
  named = no_handle s.handles k handle ∷ []

  pub going_refused : (code : Code) (c : C) → or_refused (first_of named) (tt {0}) ≡ Err code → DecidesCells does s what s (Err (Refused code)) c c
  going_refused code c told =
      refused_cells s what (λ given. f) same does (tt {0}) code c sized (rw checks (then_err named (when false CallOrderInvalid ∷ []) (tt {0}) (tt {0}) code told))

  passes : or_refused (first_of named) (tt {0}) ≡ Ok (tt {0}) → first_of (refusals f) ≡ None
  passes told = rw checks (ok_none (first_of (named ++ when false CallOrderInvalid ∷ [])) (tt {0}) (tt {0}) (then_ok named (when false CallOrderInvalid ∷ []) (tt {0}) (tt {0}) (tt {0}) told)).0

  pub going_done : (c d : C) → or_refused (first_of named) (tt {0}) ≡ Ok (tt {0}) → Leads does c (free_calls (freed_by s handle)) d → DecidesCells does s what new (Ok (record { code = Success; gives = Nothing; place = 0 })) c d
  going_done c d told freed =
      done_cells s what (λ given. f) same does new Success Nothing (gone s handle) c d (passes told) waits effect (rw creates refl) refl (record { claimed = refl; taken = refl; returned = refl }) (rw (append-nil (free_calls (freed_by s handle))) freed)

  pub may_go : (may : C → CellCall → Type 0) (c : C) → MayTouch may does s c what → or_refused (first_of named) (tt {0}) ≡ Ok (tt {0}) → MayCall may does c (free_calls (freed_by s handle))
  may_go may c touch told =
      let calls = may_do s what (λ given. f) same does may c 0 (gone s handle) touch (passes told) memory (rw effect refl) (record { claimed = refl; taken = refl; returned = refl }) in
      rw (append-nil (free_calls (freed_by s handle))) at calls

-- ---- waiting

-- The answer by what a claim told: where it was made, by its answer.
module _ {C : Type 0} (does : C → CellCall → C → Type 0) (s : CoreState) (chain : ℕ) (timeout start : ℤ) where
  abbrev reads_as : Bool → List Image → CellReads
  reads_as unused held = record { unused = unused; stamps = []; held = held }

  abbrev what : Call
  what = ask.WaitImage chain timeout start

  abbrev wrong : Bool
  wrong = is_wait_wrong (chain_at s.chains chain)

  abbrev checks_ahead : List Refusal
  checks_ahead = ahead (acquire_image_rule s chain)

  abbrev well : Code
  well = code_on (loss_of (life_of s (session_above s.handles chain))) Success

  abbrev late : Bool → Refusal
  late unused = when (not unused && is_up s.device.clock timeout start) TimeoutExpired

  -- a refusal before the claim
  early : (x : Refusal) (c : C) → IsPlain x → ((reads : CellReads) → first_of (refusals (wait_image_rule s reads chain timeout start)) ≡ Some x) → DecidesCells does s what s (Err (Refused x.code)) c c
  early x c plain first = λ who held lent.
      let reads : CellReads = told_nothing held in
      let did = refused_did s (wait_image_rule s reads chain timeout start) (is_out_of_memory x.code) x (first reads) in
      record {
        reads = reads;
        own = refl;
        each = rw did refl;
        cells = rw did refl;
        decides = refused_comes s (λ given. wait_image_rule s reads chain timeout start) x lent (first reads) plain;
        holds = rw did refl;
      }

  pub wait_refused : (code : Code) (c : C) → or_refused (first_of checks_ahead) well ≡ Err code → DecidesCells does s what s (Err (Refused code)) c c
  wait_refused code c told = by (first_of checks_ahead) refl told
    where
      by : (o : Option Refusal) → first_of checks_ahead ≡ o → or_refused o well ≡ Err code → DecidesCells does s what s (Err (Refused code)) c c
      by None e told = cc
      by (Some x) e told =
          let is : code ≡ x.code = cc in
          rw is (early x c (first_plain checks_ahead x refl e) (λ reads. first_stays checks_ahead (when wrong CallOrderInvalid ∷ late reads.unused ∷ []) x e))

  pub wait_disordered : {T : Type 0} (x : T) (code : Code) (c : C) → or_refused (first_of checks_ahead) well ≡ Ok well → or_refused (first_of (when wrong CallOrderInvalid ∷ [])) x ≡ Err code → DecidesCells does s what s (Err (Refused code)) c c
  wait_disordered x code c passed told = by wrong refl told
    where
      by : (b : Bool) → wrong ≡ b → or_refused (first_of (when b CallOrderInvalid ∷ [])) x ≡ Err code → DecidesCells does s what s (Err (Refused code)) c c
      by false e told = cc
      by true e told =
          let is : code ≡ CallOrderInvalid = cc in
          rw is (early (when true CallOrderInvalid) c (record { gives = refl; memory = refl; fails = refl }) (λ reads. first_skips checks_ahead (when wrong CallOrderInvalid ∷ late reads.unused ∷ []) (ok_none (first_of checks_ahead) well well passed).0 ∙ rw e refl))

  module _ (passed : or_refused (first_of checks_ahead) well ≡ Ok well) (right : wrong ≡ false) where
    front_none : first_of checks_ahead ≡ None
    front_none = (ok_none (first_of checks_ahead) well well passed).0

    -- all refusals, told whether the image is unused
    firsts : (reads : CellReads) → first_of (refusals (wait_image_rule s reads chain timeout start)) ≡ first_of (late reads.unused ∷ [])
    firsts reads = first_skips checks_ahead (when wrong CallOrderInvalid ∷ late reads.unused ∷ []) front_none ∙ rw right refl

    -- the claim is made whatever it tells
    claims : (who : Actor) (reads : CellReads) (given : ℕ) (short : Bool) → (effect s (as_unused reads) (record { actor = who; call = what; given = given; short = short })).did.claimed ≡ oldest_image s.chains chain ∷ []
    claims who reads given short = rw (firsts (as_unused reads)) refl

    pub may_claim : (may : C → CellCall → Type 0) (c : C) → MayTouch may does s c what → (answer : Bool) → may c (claim (oldest_image s.chains chain) answer)
    may_claim may c touch answer = (rw (claims Compositor (reads_as answer []) 0 false) at (touch Compositor (reads_as answer []) 0 false)).0

    pub wait_done : (c d : C) → does c (claim (oldest_image s.chains chain) true) d → DecidesCells does s what (with_changed_chain s chain waiting) (Ok (record { code = well; gives = Nothing; place = 0 })) c d
    wait_done c d claimed = λ who held lent.
        let reads : CellReads = reads_as true held in
        let short = is_out_of_memory well in
        let calls = claims who reads 0 short in
        let found = success_found (loss_of (life_of s (session_above s.handles chain))) in
        let did : (effect s reads (record { actor = who; call = what; given = 0; short = short })).did ≡ record nothing_done { claimed = oldest_image s.chains chain ∷ [] } = rw (firsts reads) refl in
        record {
          reads = reads;
          own = refl;
          each = subst (λ (x : Did). 0 ≡ length x.taken) (sym did) refl;
          cells = rw (calls, firsts reads) (d, claimed, refl);
          decides = record {
            ready = refl;
            handle = refl;
            memory = λ no_memory. absurd (true≢false (sym no_memory ∙ found));
            keeps = rw (firsts reads) refl;
            code = rw (firsts reads) refl;
            gives = rw (firsts reads) refl;
            writes = rw (firsts reads) refl;
          };
          holds = subst (λ (x : Did). held ≡ held_after held x) (sym did) refl;
        }

    pub wait_late : (c d : C) → does c (claim (oldest_image s.chains chain) false) d → is_up s.device.clock timeout start ≡ true → DecidesCells does s what s (Err (Refused TimeoutExpired)) c d
    wait_late c d claimed up = λ who held lent.
        let reads : CellReads = reads_as false held in
        let x : Refusal = when true TimeoutExpired in
        let first : first_of (refusals (wait_image_rule s reads chain timeout start)) ≡ Some x = firsts reads ∙ rw up refl in
        let did = refused_did s (wait_image_rule s reads chain timeout start) false x first in
        let calls = claims who reads 0 false in
        record {
          reads = reads;
          own = refl;
          each = rw did refl;
          cells = rw (calls, did) (d, claimed, refl);
          decides = refused_comes s (λ given. wait_image_rule s reads chain timeout start) x lent first (record { gives = refl; memory = refl; fails = refl });
          holds = rw did refl;
        }

    pub wait_waits : (c d : C) → does c (claim (oldest_image s.chains chain) false) d → is_up s.device.clock timeout start ≡ false → DecidesCells does s what s (Err NotReady) c d
    wait_waits c d claimed up = λ who held lent.
        let reads : CellReads = reads_as false held in
        let none : first_of (refusals (wait_image_rule s reads chain timeout start)) ≡ None = firsts reads ∙ rw up refl in
        let calls = claims who reads 0 false in
        record {
          reads = reads;
          own = refl;
          each = refl;
          cells = rw (calls, none) (d, claimed, refl);
          decides = record { not_ready = λ given. rw (none, up) refl; same = refl; unwritten = refl };
          holds = refl;
        }
