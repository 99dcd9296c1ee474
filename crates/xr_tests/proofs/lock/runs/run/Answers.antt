use Rattle.std.proofs.Common.{rules, ◌≡◌, ◌+◌, ◌<◌, ◌∙◌, length, sym, ap, subst}
use Rattle.std.proofs.lemmas.List.{with_items_is}
use Rattle.std.specs.Prelude.{slice_index_or}
use Rattle.xr_runtime.specs.Passes.{table_of, IsFirst}
use Rattle.xr_runtime.specs.declared.passes.AppPass.{AppPass}
use Rattle.xr_tests.proofs.Going.{each_first, all_rest}
use Rattle.xr_tests.proofs.lock.runs.run.Goals as goal

pub tell_all-requires-clause-first : goal.tell_all-requires-clause-first
tell_all-requires-clause-first g c κs within =
    let table = table_of c.in_ok-runtime.runtime in
    subst (λ l. (i : _) (d : AppPass) → i < length l → IsFirst table (i + 1) (slice_index_or l i d)) (sym c.as_mut_slice.ensures.value) (each_first table c.in_ok-runtime.passes.apps.items c.in_ok-runtime.ensures.started.passes)

pub close-calls-requires : goal.close-calls-requires
close-calls-requires g c =
    let started = c.in_ok-runtime.ensures.started in
    let old = c.in_ok-runtime.passes.apps in
    let long : length c.tell_all.new.passes ≡ length c.as_mut_slice.result.now = search rules in
    let were : length c.as_mut_slice.result.now ≡ length old.items = ap length c.as_mut_slice.ensures.value in
    let items = with_items_is old c.tell_all.new.passes (long ∙ (were ∙ sym old.ok.0)) in record {
      all = record {
        count = ap length items ∙ (long ∙ (were ∙ (started.count ∙ sym started.apps_are)));
        apps = all_rest (table_of c.in_ok-runtime.runtime) _ c.tell_all.new.passes (length c.as_mut_slice.result.now) items long c.tell_all.ensures.are;
        compositor = started.compositor.rests;
        device = started.device.rests;
      };
    }
