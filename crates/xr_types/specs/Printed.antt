-- Words of scenarios, device texts and reports, and the values that have one of their own in the order of the formats.
use Rattle.std.specs.Prelude.{ℕ, List, [], ◌∷◌, ◌++◌, codes}
use Rattle.xr_types.specs.declared.frames.Blend.{Blend}
use Rattle.xr_types.specs.declared.frames.Blend.TheVariants as blend
use Rattle.xr_types.specs.declared.input.ActionType.{ActionType}
use Rattle.xr_types.specs.declared.input.ActionType.TheVariants as type
use Rattle.xr_types.specs.declared.session.Form.{Form}
use Rattle.xr_types.specs.declared.session.Form.TheVariants as form
use Rattle.xr_types.specs.declared.session.ViewConfig.{ViewConfig}
use Rattle.xr_types.specs.declared.session.ViewConfig.TheVariants as view
use Rattle.xr_types.specs.declared.spaces.RefKind.{RefKind}
use Rattle.xr_types.specs.declared.spaces.RefKind.TheVariants as kind
use Rattle.xr_types.specs.declared.spaces.Origin.{Origin}
use Rattle.xr_types.specs.declared.spaces.Origin.TheVariants as origin
use Rattle.xr_types.specs.declared.session.SessionState.{SessionState}
use Rattle.xr_types.specs.declared.session.SessionState.TheVariants as state
use Rattle.xr_types.specs.declared.device.Wish.{Wish}
use Rattle.xr_types.specs.declared.device.Wish.TheVariants as wish
use Rattle.xr_types.specs.declared.input.User.{User}
use Rattle.xr_types.specs.declared.input.User.TheVariants as user
use Rattle.xr_types.specs.declared.input.Profile.{Profile}
use Rattle.xr_types.specs.declared.input.Profile.TheVariants as profile

-- the kind of a device
abbrev pub form_name : Form → List ℕ
form_name form.Head = codes "head"
form_name form.Hand = codes "hand"

abbrev pub all_forms : List Form
all_forms = form.Head ∷ form.Hand ∷ []

-- how many views a session is begun with
abbrev pub view_name : ViewConfig → List ℕ
view_name view.Mono = codes "mono"
view_name view.Stereo = codes "stereo"

abbrev pub all_views : List ViewConfig
all_views = view.Mono ∷ view.Stereo ∷ []

-- a reference space
abbrev pub kind_name : RefKind → List ℕ
kind_name kind.View = codes "view"
kind_name kind.Local = codes "local"
kind_name kind.Stage = codes "stage"

abbrev pub all_kinds : List RefKind
all_kinds = kind.View ∷ kind.Local ∷ kind.Stage ∷ []

-- what an action gives
abbrev pub action_type_name : ActionType → List ℕ
action_type_name type.Boolean = codes "boolean"
action_type_name type.Float = codes "float"
action_type_name type.Vector = codes "vector"
action_type_name type.Pose = codes "pose"
action_type_name type.Vibration = codes "vibration"

abbrev pub all_action_types : List ActionType
all_action_types = type.Boolean ∷ type.Float ∷ type.Vector ∷ type.Pose ∷ type.Vibration ∷ []

-- how a frame is blended with what is around
abbrev pub blend_name : Blend → List ℕ
blend_name blend.Opaque = codes "opaque"
blend_name blend.Additive = codes "additive"
blend_name blend.Alpha = codes "alpha"

abbrev pub all_blends : List Blend
all_blends = blend.Opaque ∷ blend.Additive ∷ blend.Alpha ∷ []

-- a session's state, as OpenXR names it without its prefix
abbrev pub state_name : SessionState → List ℕ
state_name state.Idle = codes "IDLE"
state_name state.Ready = codes "READY"
state_name state.Synchronized = codes "SYNCHRONIZED"
state_name state.Visible = codes "VISIBLE"
state_name state.Focused = codes "FOCUSED"
state_name state.Stopping = codes "STOPPING"
state_name state.LossPending = codes "LOSS_PENDING"
state_name state.Exiting = codes "EXITING"

-- what the device wishes its session to be
abbrev pub wish_name : Wish → List ℕ
wish_name wish.Rest = codes "rest"
wish_name wish.Ready = codes "ready"
wish_name wish.Visible = codes "visible"
wish_name wish.Focused = codes "focused"

abbrev pub all_wishes : List Wish
all_wishes = wish.Rest ∷ wish.Ready ∷ wish.Visible ∷ wish.Focused ∷ []

-- a top-level user path
abbrev pub user_path : User → List ℕ
user_path user.Left = codes "/user/hand/left"
user_path user.Right = codes "/user/hand/right"
user_path user.Head = codes "/user/head"
user_path user.Gamepad = codes "/user/gamepad"
user_path user.Treadmill = codes "/user/treadmill"

abbrev pub all_users : List User
all_users = user.Left ∷ user.Right ∷ user.Head ∷ user.Gamepad ∷ user.Treadmill ∷ []

-- a profile behind `/interaction_profiles/`
abbrev pub profile_name : Profile → List ℕ
profile_name profile.Simple = codes "khr/simple_controller"
profile_name profile.Touch = codes "oculus/touch_controller"
profile_name profile.Vive = codes "htc/vive_controller"
profile_name profile.Xbox = codes "microsoft/xbox_controller"

abbrev pub all_profiles : List Profile
all_profiles = profile.Simple ∷ profile.Touch ∷ profile.Vive ∷ profile.Xbox ∷ []

-- what has a pose of its own; grip and aim are those of the hands alone
abbrev pub origin_name : Origin → List ℕ
origin_name origin.View = codes "view"
origin_name origin.Local = codes "local"
origin_name origin.Stage = codes "stage"
origin_name (origin.Grip who) = user_path who ++ codes "/input/grip/pose"
origin_name (origin.Aim who) = user_path who ++ codes "/input/aim/pose"

abbrev pub all_origins : List Origin
all_origins = origin.View ∷ origin.Local ∷ origin.Stage ∷ origin.Grip user.Left ∷ origin.Grip user.Right ∷ origin.Aim user.Left ∷ origin.Aim user.Right ∷ []
