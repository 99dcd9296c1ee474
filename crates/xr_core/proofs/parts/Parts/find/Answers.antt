use Rattle.std.proofs.Common.{rules, ◌≡◌, ◌∙◌, ℕ, List, sym, ap, refl, false}
use Rattle.xr_types.specs.declared.handles.Kind.TheVariants as kind
use Rattle.xr_types.specs.declared.input.Column.{Column}
use Rattle.xr_model.specs.machine.Handles.{is_live}
use Rattle.xr_model.specs.machine.Rules.Session.{columns_of}
use Rattle.xr_model.specs.machine.Rules.Spaces.{session_above}
use Rattle.xr_model.specs.machine.Spaces.{located}
use Rattle.xr_model.specs.machine.Sync.{no_columns}
use Rattle.xr_core.proofs.SlotCalls.{nothing_shown}
use Rattle.xr_core.proofs.parts.Parts.find.Goals as goal

pub returns-then-not-is_live : goal.returns-then-not-is_live
returns-then-not-is_live c =
    let dead : is_live c.args.self.now.handles kind.Session (session_above c.args.self.now.handles c.args.space) ≡ false = search rules in
    let told : c.find_unshown.result ≡ located c.args.self.now.room (record { columns = no_columns }) c.args.space c.args.base c.args.time = search rules in
    told ∙ ap (λ (columns : List (List Column)). located c.args.self.now.room (record { columns = columns }) c.args.space c.args.base c.args.time) (sym (nothing_shown c.args.self.now _ c.self.inside.frames.loops c.self.inside.columns.items c.self.inside.sessions.items c.self.view_is refl c.self.invariant.0 (session_above c.args.self.now.handles c.args.space) dead))

pub returns : goal.returns
returns c =
    let session : c.unwrap_or-session.result ≡ session_above c.args.self.now.handles c.args.space = search rules in
    let shown : c.states.result.now.columns ≡ columns_of c.args.self.now (session_above c.args.self.now.handles c.args.space) = c.states.ensures.columns ∙ c.own_columns.ensures ∙ ap (λ (k : ℕ). columns_of c.args.self.now k) session in
    let told : c.locate.result ≡ located c.args.self.now.room (record { columns = c.states.result.now.columns }) c.args.space c.args.base c.args.time = search rules in
    told ∙ ap (λ (columns : List (List Column)). located c.args.self.now.room (record { columns = columns }) c.args.space c.args.base c.args.time) shown
