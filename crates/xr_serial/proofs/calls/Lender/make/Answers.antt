use Rattle.std.proofs.Common.{◌≡◌, ◌++◌, ◌∷◌, [], take, false, refl, sym, ap, ◌∙◌}
use Rattle.std.proofs.lemmas.List.{take-take}
use Rattle.xr_types.specs.declared.made.Made.{Made}
use Rattle.xr_types.specs.CallKinds.{lent_size, written_size}
use Rattle.xr_serial.specs.inside.Made.{outcome_with}
use Rattle.xr_serial.proofs.Lending.{made_of}
use Rattle.xr_serial.proofs.calls.Lender.make.Goals as goal

pub returns-in_default : goal.returns-in_default
returns-in_default c =
    let waits = c.in_default.ensures.applies 0 false in
    rw (← c.self.view_is) (record { waits = waits.not_ready; same = waits.same; unlisted = refl })

pub returns : goal.returns
returns c =
    let what = c.args.call.now in
    let reply = c.in-Done.reply in
    let n = c.written_size-written.result in
    let text = c.in_ok-text.text in
    let size : n ≡ written_size reply.gives (lent_size what) = c.written_size-written.ensures.written ∙ ap (written_size reply.gives) c.lent_size.ensures in
    let front : text ≡ take n (take (lent_size what) c.ask.new.buffer) = c.in_ok-text.ensures ∙ sym (take-take n (lent_size what) c.ask.new.buffer (rw (← c.lent_size.ensures) c.written_size-written.ensures.within)) in
    rw (← c.self.view_is) (record {
      outcome = outcome_with what reply text c.ask.new.shown;
      call = made_of c.self.inside.core c.ask.new.core c.args.who what reply (record { text = take (lent_size what) c.self.inside.buffer; frame = c.default-shown.result }) (record { text = take (lent_size what) c.ask.new.buffer; frame = c.ask.new.shown }) text n c.in-Done.ensures.applies size front;
      listed = c.in_ok-push.ensures.items ∙ ap (λ (m : Made). c.args.list.now.items ++ m ∷ []) c.listed.ensures;
    })
