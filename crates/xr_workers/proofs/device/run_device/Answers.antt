use Rattle.std.proofs.Common.{rules, ◌≡◌, ◌<◌, ◌+◌, ◌++◌, ◌∷◌, ◌∙◌, [], Bool, length, pos, Option, Some, None, Err, sym, subst, refl, true≢false, arith}
use Rattle.xr_types.specs.declared.calls.Actor.TheVariants.{Device as Devices}
use Rattle.xr_types.specs.declared.device.DeviceEvent.{DeviceEvent}
use Rattle.xr_types.specs.declared.made.Made.{Made}
use Rattle.xr_types.specs.declared.names.CallName.TheVariants as name
use Rattle.xr_runtime.specs.Passes.{table_of}
use Rattle.xr_device.specs.Told.{Comes}
use Rattle.xr_workers.specs.inside.Telling.{MadeEvents}
use Rattle.xr_workers.proofs.EventsMade.{told_none, told_event, told_at, few_listed, event_calls, short_event, ran_device}
use Rattle.xr_workers.proofs.ScriptsMade.{op_gated}
use Rattle.xr_workers.proofs.device.run_device.Goals as goal
use Rattle.xr_workers.proofs.device.run_device.Goals.{in-Some-event+in_ok-push+in_ok-push-2, in_default}

pub overflow_cast-made : goal.overflow_cast-made
overflow_cast-made g c =
    let size : c.len.result ≡ length c.loop.calls.items = search rules in
    let few = few_listed (table_of c.args.context.now.runtime.now) _ _ c.args.pass.now c.loop.pass _ c.loop.calls.items c.loop.invariant.told in
    let small : c.len.result < 2147483648 = omega (arith, size, few) in
    search rules

pub overflow_add-made : goal.overflow_add-made
overflow_add-made g c =
    let size : c.len.result ≡ length c.loop.calls.items = search rules in
    let few = few_listed (table_of c.args.context.now.runtime.now) _ _ c.args.pass.now c.loop.pass _ c.loop.calls.items c.loop.invariant.told in
    let small : c.len.result + 1 < 2147483649 = omega (arith, size, few) in
    search rules

pub returns-in_err-push-clause-ran : goal.returns-in_err-push-clause-ran
returns-in_err-push-clause-ran g c =
    let start = g.D.Device.prospect c.args.device.now in
    let now = g.D.Device.prospect c.loop.device in
    let now2 = g.D.Device.prospect c.ask_next-told.new.device in
    let over = c.ask_next-told.result.is_last in
    let told = c.ask_next-told.ensures.told in
    let f : Comes now now2 (Some c.in-Some-event.event) over = subst (λ (e : Option DeviceEvent). Comes now now2 e over) c.in-Some-event.is told.comes in
    let is : c.from_residual.result ≡ Err (record {}) = search rules in
    rw is (short_event (table_of c.args.context.now.runtime.now) start now now2 c.args.pass.now c.loop.pass c.loop.events.items c.loop.calls.items c.loop.invariant.told told.later told.reads c.in-Some-event.event over c.make_event-reply.new.pass c.make_event-reply.result (record {}) f told.over c.make_event-reply.ensures.made)

pub returns-in_err-push-2-clause-ran : goal.returns-in_err-push-2-clause-ran
returns-in_err-push-2-clause-ran g c =
    let start = g.D.Device.prospect c.args.device.now in
    let now = g.D.Device.prospect c.loop.device in
    let now2 = g.D.Device.prospect c.ask_next-told.new.device in
    let over = c.ask_next-told.result.is_last in
    let told = c.ask_next-told.ensures.told in
    let f : Comes now now2 (Some c.in-Some-event.event) over = subst (λ (e : Option DeviceEvent). Comes now now2 e over) c.in-Some-event.is told.comes in
    let is : c.from_residual-in_err-push-2.result ≡ Err (record {}) = search rules in
    rw is (short_event (table_of c.args.context.now.runtime.now) start now now2 c.args.pass.now c.loop.pass c.loop.events.items c.loop.calls.items c.loop.invariant.told told.later told.reads c.in-Some-event.event over c.make_event-reply.new.pass c.make_event-reply.result (record {}) f told.over c.make_event-reply.ensures.made)

pub returns-in_err-push-clause-gated : goal.returns-in_err-push-clause-gated
returns-in_err-push-clause-gated g c =
    let i = c.loop.invariant in
    let one = event_calls (table_of c.args.context.now.runtime.now) c.loop.pass c.make_event-reply.new.pass c.in-Some-event.event c.make_event-reply.result i.told.is c.make_event-reply.ensures.made in
    op_gated (g.G.Gate.came c.args.context.now.gate.now) (g.G.Gate.went c.args.context.now.gate.now) Devices c.args.pass.now.calls c.loop.pass.calls c.make_event-reply.new.pass.calls one i.gated c.make_event-reply.ensures.gated

pub returns-then-told-clause-ran : goal.returns-then-told-clause-ran
returns-then-told-clause-ran g c =
    let table = table_of c.args.context.now.runtime.now in
    let start = g.D.Device.prospect c.args.device.now in
    let now = g.D.Device.prospect c.loop.device in
    let now2 = g.D.Device.prospect c.ask_next-told.new.device in
    let over = c.ask_next-told.result.is_last in
    let before = c.loop.invariant.told in
    let t : MadeEvents table start now2 c.args.pass.now c.match-told.pass c.match-told.events.items c.match-told.calls.items over = elim c.match-told.branch [
      | in-Some-event+in_ok-push+in_ok-push-2 w ↦
          let f : Comes now now2 (Some w.in-Some-event.event) over = subst (λ (e : Option DeviceEvent). Comes now now2 e over) w.in-Some-event.is c.ask_next-told.ensures.told.comes in
          let made : Made = record { op = length c.loop.calls.items + 1; name = name.Device; mark = 0; start = pos 0; reply = w.make_event-reply.result; text = [] } in
          let next = told_event table start now now2 c.args.pass.now c.loop.pass c.loop.events.items c.loop.calls.items before c.ask_next-told.ensures.told.later c.ask_next-told.ensures.told.reads w.in-Some-event.event over w.make_event-reply.new.pass w.make_event-reply.result made f c.ask_next-told.ensures.told.over w.make_event-reply.ensures.made refl in
          told_at table start now2 c.args.pass.now c.match-told.pass w.make_event-reply.new.pass c.match-told.events.items (c.loop.events.items ++ w.in-Some-event.event ∷ []) c.match-told.calls.items (c.loop.calls.items ++ made ∷ []) over w.pass-is (search rules) (search rules) next
      | in_default w ↦
          let none : c.ask_next-told.result.event ≡ None = search rules in
          let next = told_none table start now now2 c.args.pass.now c.loop.pass c.loop.events.items c.loop.calls.items before c.ask_next-told.ensures.told.later c.ask_next-told.ensures.told.reads c.ask_next-told.result.event over none c.ask_next-told.ensures.told.comes c.ask_next-told.ensures.told.over in
          told_at table start now2 c.args.pass.now c.match-told.pass c.loop.pass c.match-told.events.items c.loop.events.items c.match-told.calls.items c.loop.calls.items over w.pass-is (search rules) (search rules) next.0
    ] in
    let same = told_at table start now2 c.args.pass.now c.match-told.pass c.match-told.pass c.new-then-told.result c.match-told.events.items c.new-then-told-2.result c.match-told.calls.items over refl c.new-then-told.ensures c.new-then-told-2.ensures t in
    ran_device table start now2 c.args.pass.now c.match-told.pass (record { events = c.new-then-told.result; calls = c.new-then-told-2.result }) over same c.if-told.true

pub loop-preserved : goal.loop-preserved
loop-preserved g c =
    let table = table_of c.args.context.now.runtime.now in
    let start = g.D.Device.prospect c.args.device.now in
    let now = g.D.Device.prospect c.loop.device in
    let now2 = g.D.Device.prospect c.ask_next-told.new.device in
    let over = c.ask_next-told.result.is_last in
    let before = c.loop.invariant.told in
    let came = g.G.Gate.came c.args.context.now.gate.now in
    let went = g.G.Gate.went c.args.context.now.gate.now in
    elim c.match-told.branch [
      | in-Some-event+in_ok-push+in_ok-push-2 w ↦
          let f : Comes now now2 (Some w.in-Some-event.event) over = subst (λ (e : Option DeviceEvent). Comes now now2 e over) w.in-Some-event.is c.ask_next-told.ensures.told.comes in
          let made : Made = record { op = length c.loop.calls.items + 1; name = name.Device; mark = 0; start = pos 0; reply = w.make_event-reply.result; text = [] } in
          let next = told_event table start now now2 c.args.pass.now c.loop.pass c.loop.events.items c.loop.calls.items before c.ask_next-told.ensures.told.later c.ask_next-told.ensures.told.reads w.in-Some-event.event over w.make_event-reply.new.pass w.make_event-reply.result made f c.ask_next-told.ensures.told.over w.make_event-reply.ensures.made refl in
          let t = told_at table start now2 c.args.pass.now c.match-told.pass w.make_event-reply.new.pass c.match-told.events.items (c.loop.events.items ++ w.in-Some-event.event ∷ []) c.match-told.calls.items (c.loop.calls.items ++ made ∷ []) over w.pass-is (search rules) (search rules) next in
          let one = event_calls table c.loop.pass w.make_event-reply.new.pass w.in-Some-event.event w.make_event-reply.result before.is w.make_event-reply.ensures.made in
          let more = op_gated came went Devices c.args.pass.now.calls c.loop.pass.calls w.make_event-reply.new.pass.calls one c.loop.invariant.gated w.make_event-reply.ensures.gated in
          record { told = subst (λ (b : Bool). MadeEvents table start now2 c.args.pass.now c.match-told.pass c.match-told.events.items c.match-told.calls.items b) c.if-told.false t; gated = rw w.pass-is more }
      | in_default w ↦
          let none : c.ask_next-told.result.event ≡ None = search rules in
          let next = told_none table start now now2 c.args.pass.now c.loop.pass c.loop.events.items c.loop.calls.items before c.ask_next-told.ensures.told.later c.ask_next-told.ensures.told.reads c.ask_next-told.result.event over none c.ask_next-told.ensures.told.comes c.ask_next-told.ensures.told.over in
          absurd (true≢false (sym next.1 ∙ c.if-told.false))
    ]
