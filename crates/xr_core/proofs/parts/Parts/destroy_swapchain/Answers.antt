use Rattle.std.proofs.Common.{rules, ◌≡◌, ◌++◌, ℕ, false, List, [], ◌∷◌, append-nil, None, refl, sym}
use Rattle.std.specs.Prelude.{Ok, Err}
use Rattle.xr_types.specs.declared.calls.Gives.TheVariants.{Nothing}
use Rattle.xr_types.specs.declared.code.Code.TheVariants.{Success, CallOrderInvalid}
use Rattle.xr_types.specs.declared.handles.Kind.TheVariants.{Swapchain}
use Rattle.xr_model.specs.machine.CellCalls.{free_calls}
use Rattle.xr_model.specs.machine.Handles.{no_handle}
use Rattle.xr_model.specs.machine.PartAnswers.{or_refused}
use Rattle.xr_model.specs.machine.Refusals.{Refusal, when, first_of}
use Rattle.xr_types.specs.declared.calls.Call.TheVariants as ask
use Rattle.xr_model.specs.machine.Rule.{Did, refusals, nothing_done}
use Rattle.xr_model.specs.machine.Rules.Swapchains.{with_chain_gone, freed_with_chain, destroy_swapchain_rule}
use Rattle.xr_model.specs.machine.State.{CoreState}
use Rattle.xr_core.specs.declared.halt.Halt.TheVariants.{Refused}
use Rattle.xr_core.proofs.Along.{refused_cells, done_cells, may_do}
use Rattle.xr_core.proofs.Deciding.{ok_none, then_err, then_ok}
use Rattle.xr_core.proofs.parts.Parts.destroy_swapchain.Goals as goal

-- its handle alone refuses it
abbrev named : CoreState → ℕ → List Refusal
named s chain = no_handle s.handles Swapchain chain ∷ []

abbrev order : List Refusal
order = when false CallOrderInvalid ∷ []

passes : (s : CoreState) (chain : ℕ) → or_refused (first_of (named s chain)) (tt {0}) ≡ Ok (tt {0}) → first_of (refusals (destroy_swapchain_rule s chain)) ≡ None
passes s chain told = (ok_none (first_of (named s chain ++ order)) (tt {0}) (tt {0}) (then_ok (named s chain) order (tt {0}) (tt {0}) (tt {0}) told)).0

-- what it does
abbrev gone : CoreState → ℕ → Did
gone s chain = record nothing_done { destroyed = chain ∷ []; freed = freed_with_chain s chain }

pub returns-in_err-live : goal.returns-in_err-live
returns-in_err-live g c =
    let s = c.args.self.now in
    let code = c.in_err-live.field-0.0 in
    let is : c.from_residual.result ≡ Err (Refused code) = search rules in
    rw is (refused_cells s (ask.DestroySwapchain c.args.chain) (λ given. destroy_swapchain_rule s c.args.chain) (λ who reads given. refl) g.C.Cells.does (tt {0}) code c.args.cells.now refl
    (then_err (named s c.args.chain) order (tt {0}) (tt {0}) code (sym c.in_err-live.ensures)))

pub remove_chain-requires : goal.remove_chain-requires
remove_chain-requires g c =
    let s = c.args.self.now in
    let calls = may_do s (ask.DestroySwapchain c.args.chain) (λ given. destroy_swapchain_rule s c.args.chain) (λ who reads given. refl) g.C.Cells.does g.C.Cells.may c.args.cells.now 0 (gone s c.args.chain)
    c.requires.may (passes s c.args.chain (sym c.in_ok-live.ensures)) refl refl (record { claimed = refl; taken = refl; returned = refl }) in
    record { may = rw (append-nil (free_calls (freed_with_chain s c.args.chain))) at calls }

pub returns : goal.returns
returns g c =
    let s = c.args.self.now in
    rw (c.done.ensures, c.remove_chain.ensures.state)
    (done_cells s (ask.DestroySwapchain c.args.chain) (λ given. destroy_swapchain_rule s c.args.chain) (λ who reads given. refl) g.C.Cells.does (with_chain_gone s c.args.chain) Success Nothing (gone s c.args.chain)
    c.args.cells.now c.remove_chain.new.cells (passes s c.args.chain (sym c.in_ok-live.ensures)) refl refl refl refl (record { claimed = refl; taken = refl; returned = refl })
    (rw (append-nil (free_calls (freed_with_chain s c.args.chain))) c.remove_chain.ensures.cells))
