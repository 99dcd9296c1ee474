-- What each call may answer is what the table says, in its order.
use Rattle.std.specs.Prelude.{◌≡◌, ℕ, Bool, false, List, [], ◌∷◌, ◌++◌, ◌⊎◌, length, map, is_some, if◌then◌else◌}
use Rattle.xr_types.specs.declared.code.Code.{Code}
use Rattle.xr_types.specs.declared.code.Code.TheVariants.{CallOrderInvalid}
use Rattle.xr_model.specs.machine.Calls.{Entry}
use Rattle.xr_types.specs.declared.calls.Call.{Call}
use Rattle.xr_types.specs.declared.calls.Call.TheVariants as ask
use Rattle.xr_model.specs.machine.Refusals.{Refusal}
use Rattle.xr_model.specs.machine.State.{CoreState, CellReads, State}
use Rattle.xr_model.specs.machine.Rule.{Rule, ahead, told_on}
use Rattle.xr_model.specs.machine.Rules.Bindings.{profile_at}
use Rattle.xr_model.specs.machine.Machine.{rule, step}
use Rattle.xr_model.specs.laws.AnswerTable.{Row, answers_of, spelt_out, all_codes, is_ordered}

-- it is one of these codes
abbrev pub IsOneOf : List Code → Code → Type 0
IsOneOf [] code = ⊥
IsOneOf (c ∷ cs) code = (code ≡ c) ⊎ IsOneOf cs code

abbrev pub codes_of : List Refusal → List Code
codes_of refusals = map (λ r. r.code) refusals

-- The codes that a rule asks for in their order. The check of the call order is among them where the call has one.
abbrev pub codes_asked : Bool → Rule → List Code
codes_asked ordered r = codes_of (ahead r) ++ ((if ordered then CallOrderInvalid ∷ [] else []) ++ codes_of r.behind)

-- how many items the lists of a call have; bindings are looked at where the profile is one
abbrev pub items_of : CoreState → Call → List ℕ
items_of s (ask.CreateAction set name kind subs localized) = length subs ∷ []
items_of s (ask.SuggestBindings instance profile list) = (if is_some (profile_at s.atoms profile) then length list else 0) ∷ []
items_of s (ask.AttachSets session handles) = length handles ∷ []
items_of s (ask.SyncActions session active) = length active ∷ []
items_of s _ = []

-- The refusals of a rule are a row's, in its order, with the codes of an item as often as there are items. What the row doesn't
-- name isn't there: no check of the call order, no want of memory, and no other success.
pub record IsOfRow (row : Row) (items : List ℕ) (r : Rule) : Type 0 where
  pub refusals : codes_asked (is_ordered row) r ≡ spelt_out row.refuses items
  pub order : is_ordered row ≡ false → r.disorder ≡ false
  pub memory : row.memory ≡ false → r.takes_memory ≡ false
  pub success : IsOneOf row.succeeds (told_on r.on r.effect).code

-- so it is for each call, in any state
abbrev pub RefusalsAreTheTable : Type 0
RefusalsAreTheTable =
    (s : CoreState) (reads : CellReads) (e : Entry) → IsOfRow (answers_of e.call) (items_of s e.call) (rule s reads e)

-- what is answered to a call is one of the codes of its row
abbrev pub AnswersAreTheTable : Type 0
AnswersAreTheTable =
    (s : State) (e : Entry) → IsOneOf (all_codes (answers_of e.call)) (step s e).1.reply.code
