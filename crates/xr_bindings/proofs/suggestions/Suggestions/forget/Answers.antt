use Rattle.std.proofs.Common.{rules, nat_le, ◌<◌, ◌≡◌, ◌≤◌, ◌==◌, not, true, take, arith, refl, length, subst, Option, option_map, [], Global}
use Rattle.std.specs.Prelude.{unwrap_or}
use Rattle.std.specs.declared.boxed.BoxedSlice.{BoxedSlice}
use Rattle.xr_types.specs.declared.input.Bound.{Bound}
use Rattle.std.specs.List.{list_all}
use Rattle.std.proofs.lemmas.List.{append-nil}
use Rattle.std.proofs.lemmas.List.{drop_all, take_all}
use Rattle.xr_model.specs.machine.Sync.{is_source}
use Rattle.xr_bindings.proofs.Left.{left_all, none_behind, none_left_out}
use Rattle.xr_bindings.proofs.suggestions.Suggestions.forget.Goals as goal

pub invariant_of-self : goal.invariant_of-self
invariant_of-self c =
    let cut = drop_all (length c.keep_others-self-inside.new.list) c.in-Some.list.items.items (omega arith) in
    let all : list_all is_source (take c.self.inside.left c.in-Some.list.items.items) ≡ true =
    subst (λ (o : Option (BoxedSlice Bound Global)). list_all is_source (take c.self.inside.left (unwrap_or (option_map (λ list. list.items.items) o) [])) ≡ true) c.in-Some.is c.self.invariant.2 in
    let before : list_all (λ b. nat_le b.action c.self.inside.last) (take c.self.inside.left c.in-Some.list.items.items) ≡ true =
    subst (λ (o : Option (BoxedSlice Bound Global)). list_all (λ (b : Bound). nat_le b.action c.self.inside.last) (take c.self.inside.left (unwrap_or (option_map (λ list. list.items.items) o) [])) ≡ true) c.in-Some.is c.self.invariant.3 in
    let long : c.self.inside.left ≤ length c.in-Some.list.items.items =
    subst (λ (o : Option (BoxedSlice Bound Global)). c.self.inside.left ≤ length (unwrap_or (option_map (λ list. list.items.items) o) [])) c.in-Some.is c.self.invariant.0 in
    let within = c.keep_others-self-inside.ensures.within in
    let most = c.self.invariant.1 in
    rw (cut, append-nil c.keep_others-self-inside.new.list, take_all c.in-Some.list.items.len c.keep_others-self-inside.new.list (omega arith), c.keep_others-self-inside.ensures.list, c.as_mut_slice.ensures.value)
    (omega (arith, within, long), omega (arith, within, most), left_all is_source (λ b. not (b.action == c.args.action)) (take c.self.inside.left c.in-Some.list.items.items) all, left_all (λ (b : Bound). nat_le b.action c.self.inside.last) (λ b. not (b.action == c.args.action)) (take c.self.inside.left c.in-Some.list.items.items) before)

pub returns-in-Some : goal.returns-in-Some
returns-in-Some c =
    let cut = drop_all (length c.keep_others-self-inside.new.list) c.in-Some.list.items.items (omega arith) in
    rw (cut, append-nil c.keep_others-self-inside.new.list, take_all c.in-Some.list.items.len c.keep_others-self-inside.new.list (omega arith), c.keep_others-self-inside.ensures.list, ← c.self.view_is, c.in-Some.is, c.as_mut_slice.ensures.value) refl

pub returns-then-action-self : goal.returns-then-action-self
returns-then-action-self c =
    let behind : c.self.inside.last < c.args.action = search rules in
    let shown = take c.self.inside.left (unwrap_or (option_map (λ (list : BoxedSlice Bound Global). list.items.items) c.self.inside.list) []) in
    rw (← c.self.view_is) (none_left_out (λ (b : Bound). b.action == c.args.action) shown (none_behind c.self.inside.last c.args.action behind shown c.self.invariant.3))
