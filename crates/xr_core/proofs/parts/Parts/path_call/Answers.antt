use Rattle.std.proofs.Common.{◌≡◌, ℕ, List, length, sym, subst}
use Rattle.xr_model.specs.machine.CoreCalls.{Fits, asked}
use Rattle.xr_types.specs.declared.calls.Call.{Call}
use Rattle.xr_types.specs.declared.calls.Call.TheVariants as ask
use Rattle.xr_core.specs.inside.Deciding.{Decides, DecidesWriting}
use Rattle.xr_core.proofs.parts.Parts.path_call.Goals as goal

pub returns-in-StringToPath : goal.returns-in-StringToPath
returns-in-StringToPath c frame =
    let made = subst (λ (text : List ℕ). Decides c.args.self.now (ask.StringToPath c.in-StringToPath.instance text) c.string_to_path.new.self c.string_to_path.result) c.as_slice.ensures c.string_to_path.ensures in
    (subst (λ (r : Call). Decides c.args.self.now r c.string_to_path.new.self c.string_to_path.result) (sym c.in-StringToPath.is) made) c.args.who (record { text = c.args.out.now; frame = frame })

pub returns-in-PathToString : goal.returns-in-PathToString
returns-in-PathToString c =
    let fits : length c.args.out.now ≡ c.in-PathToString.capacity = subst (λ (r : Call). Fits (asked c.args.who r).lent (length c.args.out.now)) c.in-PathToString.is c.requires.buffer in
    subst (λ (r : Call). DecidesWriting c.args.who c.args.self.now r c.path_to_string.new.self c.path_to_string.result c.args.out.now c.path_to_string.new.out) (sym c.in-PathToString.is)
    (subst (λ (n : ℕ). DecidesWriting c.args.who c.args.self.now (ask.PathToString c.in-PathToString.instance c.in-PathToString.path n) c.path_to_string.new.self c.path_to_string.result c.args.out.now c.path_to_string.new.out) fits (c.path_to_string.ensures c.args.who))
