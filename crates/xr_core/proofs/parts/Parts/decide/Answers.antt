use Rattle.std.proofs.Common.{rules, List, sym, subst}
use Rattle.xr_types.specs.declared.calls.Call.TheVariants as ask
use Rattle.xr_types.specs.declared.frames.Layer.{Layer}
use Rattle.xr_types.specs.declared.input.ActiveSet.{ActiveSet}
use Rattle.xr_types.specs.declared.input.Binding.{Binding}
use Rattle.xr_model.specs.machine.CoreCalls.{Lent}
use Rattle.xr_types.specs.declared.calls.Call.{Call}
use Rattle.xr_model.proofs.OverCells.{IsQuiet}
use Rattle.xr_core.specs.inside.Deciding.{Decides, DecidesCells, MayTouch}
use Rattle.xr_core.specs.inside.Groups.{IsInstanceCall, IsPathCall, IsSessionCall, IsSpaceCall, IsSetCall, IsGetter, IsFrameCall, IsOwnCall}
use Rattle.xr_core.proofs.Along.{quiet_along}
use Rattle.xr_core.proofs.Quiet.{quiet_instance, quiet_path, quiet_session, quiet_space, quiet_set, quiet_getter, quiet_frame, quiet_own}
use Rattle.xr_core.proofs.parts.Parts.decide.Goals as goal

pub returns-in-CreateInstance : goal.returns-in-CreateInstance
returns-in-CreateInstance g c = λ held frame.
    let group : IsInstanceCall c.args.call.now = search rules in
    let lent : Lent = record { text = c.args.text.now; frame = frame } in
    quiet_along g.C.Cells.does c.args.self.now c.instance_call.new.self held c.args.cells.now c.args.who c.args.call.now lent lent (quiet_instance c.args.call.now group) c.instance_call.result (c.instance_call.ensures c.args.who lent)

pub returns-in-CreateSession : goal.returns-in-CreateSession
returns-in-CreateSession g c = λ held frame.
    let group : IsSessionCall c.args.call.now = search rules in
    let lent : Lent = record { text = c.args.text.now; frame = frame } in
    quiet_along g.C.Cells.does c.args.self.now c.session_call.new.self held c.args.cells.now c.args.who c.args.call.now lent lent (quiet_session c.args.call.now group) c.session_call.result (c.session_call.ensures c.args.who lent)

pub returns-in-CreateReferenceSpace : goal.returns-in-CreateReferenceSpace
returns-in-CreateReferenceSpace g c = λ held frame.
    let group : IsSpaceCall c.args.call.now = search rules in
    let lent : Lent = record { text = c.args.text.now; frame = frame } in
    quiet_along g.C.Cells.does c.args.self.now c.space_call.new.self held c.args.cells.now c.args.who c.args.call.now lent lent (quiet_space c.args.call.now group) c.space_call.result (c.space_call.ensures c.args.who lent)

pub returns-in-CreateActionSet : goal.returns-in-CreateActionSet
returns-in-CreateActionSet g c = λ held frame.
    let group : IsSetCall c.args.call.now = search rules in
    let lent : Lent = record { text = c.args.text.now; frame = frame } in
    quiet_along g.C.Cells.does c.args.self.now c.set_call.new.self held c.args.cells.now c.args.who c.args.call.now lent lent (quiet_set c.args.call.now group) c.set_call.result (c.set_call.ensures c.args.who lent)

pub returns-in-WaitFrame : goal.returns-in-WaitFrame
returns-in-WaitFrame g c = λ held frame.
    let group : IsFrameCall c.args.call.now = search rules in
    let lent : Lent = record { text = c.args.text.now; frame = frame } in
    quiet_along g.C.Cells.does c.args.self.now c.frame_call.new.self held c.args.cells.now c.args.who c.args.call.now lent lent (quiet_frame c.args.call.now group) c.frame_call.result (c.frame_call.ensures c.args.who lent)

pub returns-in-Mark : goal.returns-in-Mark
returns-in-Mark g c = λ held frame.
    let group : IsOwnCall c.args.call.now = search rules in
    let lent : Lent = record { text = c.args.text.now; frame = frame } in
    quiet_along g.C.Cells.does c.args.self.now c.own_call.new.self held c.args.cells.now c.args.who c.args.call.now lent lent (quiet_own c.args.call.now group) c.own_call.result (c.own_call.ensures lent)

pub returns-in-StringToPath : goal.returns-in-StringToPath
returns-in-StringToPath g c = λ held frame.
    let group : IsPathCall c.args.call.now = search rules in
    quiet_along g.C.Cells.does c.args.self.now c.path_call.new.self held c.args.cells.now c.args.who c.args.call.now (record { text = c.args.text.now; frame = frame }) (record { text = c.path_call.new.out; frame = frame }) (quiet_path c.args.call.now group) c.path_call.result (c.path_call.ensures frame)

pub returns-in-SuggestBindings : goal.returns-in-SuggestBindings
returns-in-SuggestBindings g c = λ held frame.
    let lent : Lent = record { text = c.args.text.now; frame = frame } in
    let is = c.in-SuggestBindings.is in
    let listed = subst (λ (list : List Binding). Decides c.args.self.now (ask.SuggestBindings c.in-SuggestBindings.instance c.in-SuggestBindings.profile list) c.suggest_bindings.new.self c.suggest_bindings.result) c.as_slice.ensures c.suggest_bindings.ensures in
    let made = subst (λ (r : Call). Decides c.args.self.now r c.suggest_bindings.new.self c.suggest_bindings.result) (sym is) listed in
    quiet_along g.C.Cells.does c.args.self.now c.suggest_bindings.new.self held c.args.cells.now c.args.who c.args.call.now lent lent (subst IsQuiet (sym is) tt) c.suggest_bindings.result (made c.args.who lent)

pub returns-in-SyncActions : goal.returns-in-SyncActions
returns-in-SyncActions g c = λ held frame.
    let lent : Lent = record { text = c.args.text.now; frame = frame } in
    let is = c.in-SyncActions.is in
    let listed = subst (λ (active : List ActiveSet). Decides c.args.self.now (ask.SyncActions c.in-SyncActions.session active) c.sync_actions.new.self c.sync_actions.result) c.as_slice-in-SyncActions.ensures c.sync_actions.ensures in
    let made = subst (λ (r : Call). Decides c.args.self.now r c.sync_actions.new.self c.sync_actions.result) (sym is) listed in
    quiet_along g.C.Cells.does c.args.self.now c.sync_actions.new.self held c.args.cells.now c.args.who c.args.call.now lent lent (subst IsQuiet (sym is) tt) c.sync_actions.result (made c.args.who lent)

pub returns-in-GetBoolean : goal.returns-in-GetBoolean
returns-in-GetBoolean g c = λ held frame.
    let group : IsGetter c.args.call.now = search rules in
    let lent : Lent = record { text = c.args.text.now; frame = frame } in
    quiet_along g.C.Cells.does c.args.self.now c.args.self.now held c.args.cells.now c.args.who c.args.call.now lent lent (quiet_getter c.args.call.now group) c.getter_call.result (c.getter_call.ensures c.args.who lent)

pub returns-in-AcquireImage : goal.returns-in-AcquireImage
returns-in-AcquireImage g c = λ held frame.
    let lent : Lent = record { text = c.args.text.now; frame = frame } in
    let is = c.in-AcquireImage.is in
    let made = subst (λ (r : Call). Decides c.args.self.now r c.acquire_image.new.self c.acquire_image.result) (sym is) c.acquire_image.ensures in
    quiet_along g.C.Cells.does c.args.self.now c.acquire_image.new.self held c.args.cells.now c.args.who c.args.call.now lent lent (subst IsQuiet (sym is) tt) c.acquire_image.result (made c.args.who lent)

pub returns-in-Device : goal.returns-in-Device
returns-in-Device g c = λ held frame.
    let lent : Lent = record { text = c.args.text.now; frame = frame } in
    let is = c.in-Device.is in
    let made = subst (λ (r : Call). Decides c.args.self.now r c.device_event.new.self c.device_event.result) (sym is) c.device_event.ensures in
    quiet_along g.C.Cells.does c.args.self.now c.device_event.new.self held c.args.cells.now c.args.who c.args.call.now lent lent (subst IsQuiet (sym is) tt) c.device_event.result (made c.args.who lent)

pub destroy_instance-requires : goal.destroy_instance-requires
destroy_instance-requires g c = record { may = subst (λ (r : Call). MayTouch g.C.Cells.may g.C.Cells.does c.args.self.now c.args.cells.now r) c.in-DestroyInstance.is c.requires.cells }

pub returns-in-DestroyInstance : goal.returns-in-DestroyInstance
returns-in-DestroyInstance g c = λ held frame.
    (subst (λ (r : Call). DecidesCells g.C.Cells.does c.args.self.now r c.destroy_instance.new.self c.destroy_instance.result c.args.cells.now c.destroy_instance.new.cells) (sym c.in-DestroyInstance.is) c.destroy_instance.ensures) c.args.who held (record { text = c.args.text.now; frame = frame })

pub destroy_session-requires : goal.destroy_session-requires
destroy_session-requires g c = record { may = subst (λ (r : Call). MayTouch g.C.Cells.may g.C.Cells.does c.args.self.now c.args.cells.now r) c.in-DestroySession.is c.requires.cells }

pub returns-in-DestroySession : goal.returns-in-DestroySession
returns-in-DestroySession g c = λ held frame.
    (subst (λ (r : Call). DecidesCells g.C.Cells.does c.args.self.now r c.destroy_session.new.self c.destroy_session.result c.args.cells.now c.destroy_session.new.cells) (sym c.in-DestroySession.is) c.destroy_session.ensures) c.args.who held (record { text = c.args.text.now; frame = frame })

pub end_frame-requires-clause-may : goal.end_frame-requires-clause-may
end_frame-requires-clause-may g c =
    let may = subst (λ (r : Call). MayTouch g.C.Cells.may g.C.Cells.does c.args.self.now c.args.cells.now r) c.in-EndFrame.is c.requires.cells in
    subst (λ (layers : List Layer). MayTouch g.C.Cells.may g.C.Cells.does c.args.self.now c.args.cells.now (ask.EndFrame c.in-EndFrame.session c.in-EndFrame.time c.in-EndFrame.blend layers)) (sym c.as_slice-in-EndFrame.ensures) may

pub returns-in-EndFrame : goal.returns-in-EndFrame
returns-in-EndFrame g c = λ held frame.
    let listed = subst (λ (layers : List Layer). DecidesCells g.C.Cells.does c.args.self.now (ask.EndFrame c.in-EndFrame.session c.in-EndFrame.time c.in-EndFrame.blend layers) c.end_frame.new.self c.end_frame.result c.args.cells.now c.end_frame.new.cells) c.as_slice-in-EndFrame.ensures c.end_frame.ensures in
    (subst (λ (r : Call). DecidesCells g.C.Cells.does c.args.self.now r c.end_frame.new.self c.end_frame.result c.args.cells.now c.end_frame.new.cells) (sym c.in-EndFrame.is) listed) c.args.who held (record { text = c.args.text.now; frame = frame })

pub returns-in-CreateSwapchain : goal.returns-in-CreateSwapchain
returns-in-CreateSwapchain g c = λ held frame. c.chain_call.ensures c.args.who held (record { text = c.args.text.now; frame = frame })
