use Rattle.std.proofs.Common.{◌≡◌, true, List, [], sym, refl, ap, ◌∙◌, subst, arith}
use Rattle.xr_model.specs.machine.History.{after, IsLegal}
use Rattle.xr_model.specs.machine.Calls.{Entry}
use Rattle.xr_model.specs.machine.State.{CoreState, with_apps, opening}
use Rattle.xr_model.specs.laws.Laws.{count_locked}
use Rattle.xr_model.specs.laws.Moments.{opening_moment, calls_by}
use Rattle.xr_model.proofs.Histories.{entries_are_counted}
use Rattle.xr_model.specs.laws.MomentLaws.{are_by_callers}
use Rattle.xr_rule.specs.View.{keepsake, joined_view}
use Rattle.xr_runtime.specs.Calling.{Has}
use Rattle.xr_runtime.specs.Closing.{Holds}
use Rattle.xr_runtime.specs.Passes.{table_of, apps_of, Rests}
use Rattle.xr_runtime.specs.declared.passes.AppPass.{AppPass}
use Rattle.xr_runtime.proofs.Gathering.{Gathered, gathers_two, holds_of_last, gathers, is_held, apps_are_held, none_is_left, from_none}
use Rattle.xr_runtime.proofs.calling.Runtime.close.Goals as goal

pub loop-pass-init : goal.loop-pass-init
loop-pass-init c =
    let p = c.requires.all in
    let x = c.args.passes.compositor.seat in
    let y = c.args.passes.device.seat in
    let kept : c.keep-closer.result.me ≡ (keepsake x.me.0, []) = c.keep-closer.ensures.new.1 in
    let same : c.keep-closer.new.seat.me ≡ x.me = c.keep-closer.ensures.same.1 in
    let one : c.join.new.seat.me ≡ (joined_view (keepsake x.me.0) x.me.0, []) = c.join.ensures.joined ∙ (λ i. (joined_view (kept i).0 (same i).0, [])) in
    let both : c.join-2.new.seat.me ≡ (joined_view (joined_view (keepsake x.me.0) x.me.0) y.me.0, []) = c.join-2.ensures.joined ∙ (λ i. (joined_view (one i).0 y.me.0, [])) in (
      c.join-2.ensures.own ∙ (c.join.ensures.own ∙ (c.keep-closer.ensures.new.0 ∙ p.compositor.own)),
      (ap (λ (z : Has). z.0.turn) both, ap (λ (z : Has). z.1) both, ap (λ (z : Has). z.0.eyes) both),
      subst (Gathered (apps_of c.args.self) c.args.passes.apps.items c.args.passes.apps.items x.me.0.know y.me.0.know) (sym (ap (λ (z : Has). z.0.know.own) both))
          (gathers_two (apps_of c.args.self) c.args.passes.apps.items x.me.0.know y.me.0.know p.count p.compositor.alone p.device.alone),
    )

pub join-requires-in-Some-clause-own : goal.join-requires-in-Some-clause-own
join-requires-in-Some-clause-own c =
    let i = c.loop-pass.invariant in
    let x = holds_of_last (apps_of c.args.self) c.args.passes.apps.items c.loop-pass.apps.items c.pop.new.self.items c.args.passes.compositor.seat.me.0.know c.args.passes.device.seat.me.0.know c.loop-pass.closer.me.0.know.own c.in-Some.pass i.2 c.in-Some.ensures.items (λ (a : AppPass). Rests (table_of c.args.self) a.seat) c.requires.all.apps in
    (i.0, x.own)

pub join-requires-in-Some-clause-between : goal.join-requires-in-Some-clause-between
join-requires-in-Some-clause-between c =
    let i = c.loop-pass.invariant in
    let x = holds_of_last (apps_of c.args.self) c.args.passes.apps.items c.loop-pass.apps.items c.pop.new.self.items c.args.passes.compositor.seat.me.0.know c.args.passes.device.seat.me.0.know c.loop-pass.closer.me.0.know.own c.in-Some.pass i.2 c.in-Some.ensures.items (λ (a : AppPass). Rests (table_of c.args.self) a.seat) c.requires.all.apps in
    x.between

pub loop-pass-preserved : goal.loop-pass-preserved
loop-pass-preserved c =
    let i = c.loop-pass.invariant in
    let x = holds_of_last (apps_of c.args.self) c.args.passes.apps.items c.loop-pass.apps.items c.pop.new.self.items c.args.passes.compositor.seat.me.0.know c.args.passes.device.seat.me.0.know c.loop-pass.closer.me.0.know.own c.in-Some.pass i.2 c.in-Some.ensures.items (λ (a : AppPass). Rests (table_of c.args.self) a.seat) c.requires.all.apps in
    let more = gathers (apps_of c.args.self) c.args.passes.apps.items c.loop-pass.apps.items c.pop.new.self.items c.args.passes.compositor.seat.me.0.know c.args.passes.device.seat.me.0.know c.loop-pass.closer.me.0.know.own c.in-Some.pass i.2 c.in-Some.ensures.items x.alone in
    let both : c.join-in-Some.new.seat.me ≡ (joined_view c.loop-pass.closer.me.0 c.in-Some.pass.seat.me.0, []) = c.join-in-Some.ensures.joined in (
      c.join-in-Some.ensures.own ∙ i.0,
      (ap (λ (z : Has). z.0.turn) both ∙ i.1.0, ap (λ (z : Has). z.1) both, ap (λ (z : Has). z.0.eyes) both ∙ i.1.2),
      subst (Gathered (apps_of c.args.self) c.args.passes.apps.items c.pop.new.self.items c.args.passes.compositor.seat.me.0.know c.args.passes.device.seat.me.0.know) (sym (ap (λ (z : Has). z.0.know.own) both)) more,
    )

pub returns : goal.returns
returns c =
    let i = c.loop-pass.invariant in
    let apps = apps_of c.args.self in
    let k = c.loop-pass.closer.me.0.know in
    let has = c.finish-finished.ensures.all in
    let ok = c.loop-pass.apps.ok in
    let cases = c.in_default.ensures.cases in
    let none : c.loop-pass.apps.items ≡ [] = none_is_left c.loop-pass.apps.items (omega arith) in
    let seen : c.finish-finished.result.seat.me.0.know.seen ≡ k.seen = c.finish-finished.ensures.seen.0 in
    let value : c.finish-finished.result.value.kept ≡ (after (opening (with_apps apps)) k.seen).core = c.finish-finished.ensures.value in
    let back : k.seen ≡ c.finish-finished.result.seat.me.0.know.seen = sym seen in record {
      closed = record {
        legal = subst (IsLegal (with_apps apps)) back has.legal;
        by_callers = subst (λ (l : List Entry). are_by_callers l ≡ true) back has.by_callers;
        apps = λ j a at. subst (λ (l : List Entry). Holds apps l a.seat.me.0.know) back (apps_are_held apps c.args.passes.apps.items c.loop-pass.apps.items _ _ k i.2 none has j a at);
        compositor = subst (λ (l : List Entry). Holds apps l c.args.passes.compositor.seat.me.0.know) back (is_held apps k c.args.passes.compositor.seat.me.0.know k.own refl has i.2.compositor);
        device = subst (λ (l : List Entry). Holds apps l c.args.passes.device.seat.me.0.know) back (is_held apps k c.args.passes.device.seat.me.0.know k.own refl has i.2.device);
        others = λ n beyond. subst (λ (l : List Entry). calls_by n (opening_moment apps) l ≡ []) back (has.by_actors.others n beyond);
        leads = value ∙ ap (λ (l : List Entry). (after (opening (with_apps apps)) l).core) back;
        places_are = c.calls.ensures ∙ (ap (λ (s : CoreState). s.locked) value ∙ (entries_are_counted (opening (with_apps apps)) k.seen ∙ (from_none (count_locked k.seen) ∙ ap count_locked back)));
      };
    }
