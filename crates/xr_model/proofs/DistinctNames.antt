-- Names tell apart what they name: each is found by its name among all of its kind.
use Rattle.std.proofs.Common.{◌≡◌, ◌≤◌, ℕ, List, [], ◌∷◌, ◌++◌, Some, refl, sym, ap, ◌∙◌, arith}
use Rattle.std.proofs.lemmas.Bool.Decides.{nat_tests}
use Rattle.xr_types.specs.declared.code.Code.{Code}
use Rattle.xr_types.specs.declared.code.Code.TheVariants as code
use Rattle.xr_types.specs.declared.device.Wish.{Wish}
use Rattle.xr_types.specs.declared.device.Wish.TheVariants as wish
use Rattle.xr_types.specs.declared.fields.FieldName.{FieldName}
use Rattle.xr_types.specs.declared.fields.FieldName.TheVariants as field
use Rattle.xr_types.specs.declared.frames.Blend.{Blend}
use Rattle.xr_types.specs.declared.frames.Blend.TheVariants as blend
use Rattle.xr_types.specs.declared.input.ActionType.{ActionType}
use Rattle.xr_types.specs.declared.input.ActionType.TheVariants as type
use Rattle.xr_types.specs.declared.input.Profile.{Profile}
use Rattle.xr_types.specs.declared.input.Profile.TheVariants as profile
use Rattle.xr_types.specs.declared.input.User.{User}
use Rattle.xr_types.specs.declared.input.User.TheVariants as user
use Rattle.xr_types.specs.declared.names.CallName.{CallName}
use Rattle.xr_types.specs.declared.names.CallName.TheVariants as call
use Rattle.xr_types.specs.declared.scenario.Op.TheVariants as op
use Rattle.xr_types.specs.declared.session.Form.{Form}
use Rattle.xr_types.specs.declared.session.Form.TheVariants as form
use Rattle.xr_types.specs.declared.session.SessionState.{SessionState}
use Rattle.xr_types.specs.declared.session.SessionState.TheVariants as state
use Rattle.xr_types.specs.declared.session.ViewConfig.{ViewConfig}
use Rattle.xr_types.specs.declared.session.ViewConfig.TheVariants as view
use Rattle.xr_types.specs.declared.spaces.Origin.{Origin}
use Rattle.xr_types.specs.declared.spaces.Origin.TheVariants as origin
use Rattle.xr_types.specs.declared.spaces.RefKind.{RefKind}
use Rattle.xr_types.specs.declared.spaces.RefKind.TheVariants as kind
use Rattle.xr_types.specs.Code.{name_of_code}
use Rattle.xr_types.specs.Field.{name_of_field}
use Rattle.xr_types.specs.InputNames.{input_name, row_of}
use Rattle.xr_types.specs.Op.{name_of_call, all_ops}
use Rattle.xr_types.specs.Printed.{form_name, all_forms, view_name, all_views, kind_name, all_kinds, action_type_name, all_action_types, blend_name, all_blends, state_name, wish_name, all_wishes, user_path, all_users, profile_name, all_profiles, origin_name}
use Rattle.xr_types.specs.Words.{named}
use Rattle.xr_model.specs.laws.NameLaws.{InputsAreDistinct, NamesAreDistinct, OpsAreFound, WordsAreFound}
use Rattle.xr_model.proofs.DeviceInputs.{row_good}

-- where each is found by its name, two with one name are the same
distinct : {T : Type 0} (name : T → List ℕ) (all : List T) → ((x : T) → named name all (name x) ≡ Some x) → (x y : T) → name x ≡ name y → x ≡ y
distinct name all found x y same = one (sym (found x) ∙ ap (named name all) same ∙ found y)
  where
    one : Some x ≡ Some y → x ≡ y
    one e = cc

-- ---- all of a kind

abbrev all_calls : List CallName
all_calls = all_ops ++ call.Leave ∷ call.Device ∷ call.NextFrame ∷ call.ImageDone ∷ []

call_found : (c : CallName) → named name_of_call all_calls (name_of_call c) ≡ Some c
call_found call.CreateInstance = refl
call_found _ = refl

abbrev all_keys : List FieldName
all_keys =
    field.Version ∷ field.Scripts ∷ field.Op ∷ field.Major ∷ field.Minor ∷ field.As ∷ field.Instance ∷ field.Form ∷ field.Text ∷ field.Path
    ∷ field.Capacity ∷ field.System ∷ field.Session ∷ field.View ∷ field.Mark ∷ field.Value ∷ field.Name ∷ field.Localized ∷ field.Priority
    ∷ field.Set ∷ field.ActionType ∷ field.Subactions ∷ field.Action ∷ field.Profile ∷ field.Bindings ∷ field.Sets ∷ field.Active ∷ field.Sub
    ∷ field.Kind ∷ field.Offset ∷ field.Space ∷ field.Base ∷ field.Time ∷ field.Format ∷ field.Width ∷ field.Height ∷ field.Static
    ∷ field.Chain ∷ field.Timeout ∷ field.Stamp ∷ field.Blend ∷ field.Layers ∷ field.Projection ∷ field.Views ∷ field.Quad ∷ field.Image
    ∷ field.Pose ∷ []

key_found : (k : FieldName) → named name_of_field all_keys (name_of_field k) ≡ Some k
key_found field.Version = refl
key_found _ = refl

abbrev all_codes : List Code
all_codes =
    code.Success ∷ code.TimeoutExpired ∷ code.SessionLossPending ∷ code.EventUnavailable ∷ code.SessionNotFocused ∷ code.FrameDiscarded
    ∷ code.ValidationFailure ∷ code.OutOfMemory ∷ code.ApiVersionUnsupported ∷ code.LimitReached ∷ code.SizeInsufficient ∷ code.HandleInvalid
    ∷ code.SessionRunning ∷ code.SessionNotRunning ∷ code.SessionLost ∷ code.SystemInvalid ∷ code.PathInvalid ∷ code.PathCountExceeded
    ∷ code.PathFormatInvalid ∷ code.PathUnsupported ∷ code.LayerInvalid ∷ code.LayerLimitExceeded ∷ code.SwapchainRectInvalid
    ∷ code.SwapchainFormatUnsupported ∷ code.ActionTypeMismatch ∷ code.SessionNotReady ∷ code.SessionNotStopping ∷ code.TimeInvalid
    ∷ code.ReferenceSpaceUnsupported ∷ code.FormFactorUnsupported ∷ code.CallOrderInvalid ∷ code.PoseInvalid
    ∷ code.ViewConfigurationTypeUnsupported ∷ code.EnvironmentBlendModeUnsupported ∷ code.NameDuplicated ∷ code.NameInvalid
    ∷ code.ActionsetNotAttached ∷ code.ActionsetsAlreadyAttached ∷ code.LocalizedNameDuplicated ∷ code.LocalizedNameInvalid ∷ []

code_found : (c : Code) → named name_of_code all_codes (name_of_code c) ≡ Some c
code_found code.Success = refl
code_found _ = refl

abbrev all_states : List SessionState
all_states = state.Idle ∷ state.Ready ∷ state.Synchronized ∷ state.Visible ∷ state.Focused ∷ state.Stopping ∷ state.LossPending ∷ state.Exiting ∷ []

state_found : (s : SessionState) → named state_name all_states (state_name s) ≡ Some s
state_found state.Idle = refl
state_found _ = refl

-- ---- words

form_found : (x : Form) → named form_name all_forms (form_name x) ≡ Some x
form_found form.Head = refl
form_found _ = refl

view_found : (x : ViewConfig) → named view_name all_views (view_name x) ≡ Some x
view_found view.Mono = refl
view_found _ = refl

kind_found : (x : RefKind) → named kind_name all_kinds (kind_name x) ≡ Some x
kind_found kind.View = refl
kind_found _ = refl

type_found : (x : ActionType) → named action_type_name all_action_types (action_type_name x) ≡ Some x
type_found type.Boolean = refl
type_found _ = refl

blend_found : (x : Blend) → named blend_name all_blends (blend_name x) ≡ Some x
blend_found blend.Opaque = refl
blend_found _ = refl

wish_found : (x : Wish) → named wish_name all_wishes (wish_name x) ≡ Some x
wish_found wish.Rest = refl
wish_found _ = refl

user_found : (x : User) → named user_path all_users (user_path x) ≡ Some x
user_found user.Left = refl
user_found _ = refl

profile_found : (x : Profile) → named profile_name all_profiles (profile_name x) ≡ Some x
profile_found profile.Simple = refl
profile_found _ = refl

-- also grips and aims that no hand has
abbrev every_origin : List Origin
every_origin =
    origin.View ∷ origin.Local ∷ origin.Stage
    ∷ origin.Grip user.Left ∷ origin.Grip user.Right ∷ origin.Grip user.Head ∷ origin.Grip user.Gamepad ∷ origin.Grip user.Treadmill
    ∷ origin.Aim user.Left ∷ origin.Aim user.Right ∷ origin.Aim user.Head ∷ origin.Aim user.Gamepad ∷ origin.Aim user.Treadmill ∷ []

origin_found : (x : Origin) → named origin_name every_origin (origin_name x) ≡ Some x
origin_found origin.View = refl
origin_found origin.Local = refl
origin_found origin.Stage = refl
origin_found (origin.Grip user.Left) = refl
origin_found (origin.Grip _) = refl
origin_found (origin.Aim user.Left) = refl
origin_found (origin.Aim _) = refl

-- ---- inputs

input_found : (row : ℕ) → 1 ≤ row → row ≤ 40 → row_of (input_name row) ≡ Some row
input_found row first last = (row_good row (grind (arith, nat_tests, first)) (grind (arith, nat_tests, last))).0

inputs_distinct : InputsAreDistinct
inputs_distinct j k j_least j_most k_least k_most same = one (sym (input_found j j_least j_most) ∙ ap row_of same ∙ input_found k k_least k_most)
  where
    one : Some j ≡ Some k → j ≡ k
    one e = cc

-- ---- the laws

pub names_are_distinct : NamesAreDistinct
names_are_distinct = record {
  calls = distinct name_of_call all_calls call_found;
  keys = distinct name_of_field all_keys key_found;
  codes = distinct name_of_code all_codes code_found;
  states = distinct state_name all_states state_found;
  inputs = inputs_distinct;
  forms = distinct form_name all_forms form_found;
  views = distinct view_name all_views view_found;
  kinds = distinct kind_name all_kinds kind_found;
  types = distinct action_type_name all_action_types type_found;
  blends = distinct blend_name all_blends blend_found;
  wishes = distinct wish_name all_wishes wish_found;
  users = distinct user_path all_users user_found;
  profiles = distinct profile_name all_profiles profile_found;
  origins = distinct origin_name every_origin origin_found;
}

pub ops_are_found : OpsAreFound
ops_are_found (op.CreateInstance major minor) = refl
ops_are_found _ = refl

pub words_are_found : WordsAreFound
words_are_found = record { forms = form_found; views = view_found; kinds = kind_found; types = type_found; blends = blend_found }
