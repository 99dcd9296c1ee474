use Rattle.std.proofs.Common.{sym, subst}
use Rattle.xr_types.specs.declared.calls.Call.{Call}
use Rattle.xr_core.specs.inside.Deciding.{DecidesCells, MayTouch}
use Rattle.xr_core.proofs.parts.Parts.chain_call.Goals as goal

pub destroy_swapchain-requires : goal.destroy_swapchain-requires
destroy_swapchain-requires g c = record { may = subst (λ (r : Call). MayTouch g.C.Cells.may g.C.Cells.does c.args.self.now c.args.cells.now r) c.in-DestroySwapchain.is c.requires.may }

pub returns-in-DestroySwapchain : goal.returns-in-DestroySwapchain
returns-in-DestroySwapchain g c = subst (λ (r : Call). DecidesCells g.C.Cells.does c.args.self.now r c.destroy_swapchain.new.self c.destroy_swapchain.result c.args.cells.now c.destroy_swapchain.new.cells) (sym c.in-DestroySwapchain.is) c.destroy_swapchain.ensures

pub wait_image-requires : goal.wait_image-requires
wait_image-requires g c = record { may = subst (λ (r : Call). MayTouch g.C.Cells.may g.C.Cells.does c.args.self.now c.args.cells.now r) c.in-WaitImage.is c.requires.may }

pub returns-in-WaitImage : goal.returns-in-WaitImage
returns-in-WaitImage g c = subst (λ (r : Call). DecidesCells g.C.Cells.does c.args.self.now r c.wait_image.new.self c.wait_image.result c.args.cells.now c.wait_image.new.cells) (sym c.in-WaitImage.is) c.wait_image.ensures

pub paint-requires : goal.paint-requires
paint-requires g c = record { may = subst (λ (r : Call). MayTouch g.C.Cells.may g.C.Cells.does c.args.self.now c.args.cells.now r) c.in-Paint.is c.requires.may }

pub returns-in-Paint : goal.returns-in-Paint
returns-in-Paint g c = subst (λ (r : Call). DecidesCells g.C.Cells.does c.args.self.now r c.paint.new.self c.paint.result c.args.cells.now c.paint.new.cells) (sym c.in-Paint.is) c.paint.ensures

pub release_image-requires : goal.release_image-requires
release_image-requires g c = record { may = subst (λ (r : Call). MayTouch g.C.Cells.may g.C.Cells.does c.args.self.now c.args.cells.now r) c.in-ReleaseImage.is c.requires.may }

pub returns-in-ReleaseImage : goal.returns-in-ReleaseImage
returns-in-ReleaseImage g c = subst (λ (r : Call). DecidesCells g.C.Cells.does c.args.self.now r c.release_image.new.self c.release_image.result c.args.cells.now c.release_image.new.cells) (sym c.in-ReleaseImage.is) c.release_image.ensures

pub create_swapchain-requires-clause-may : goal.create_swapchain-requires-clause-may
create_swapchain-requires-clause-may g c = subst (λ (r : Call). MayTouch g.C.Cells.may g.C.Cells.does c.args.self.now c.args.cells.now r) c.in-CreateSwapchain.is c.requires.may

pub returns-in-CreateSwapchain : goal.returns-in-CreateSwapchain
returns-in-CreateSwapchain g c = subst (λ (r : Call). DecidesCells g.C.Cells.does c.args.self.now r c.create_swapchain.new.self c.create_swapchain.result c.args.cells.now c.create_swapchain.new.cells) (sym c.in-CreateSwapchain.is) c.create_swapchain.ensures
