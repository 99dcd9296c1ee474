-- The codes that each call may answer, one row a call. The codes of its refusals stand in the order in which they are asked for;
-- those of a frame's layers stand there layer by layer.
use Rattle.std.specs.Prelude.{zero, suc, ℕ, Bool, true, false, List, [], ◌∷◌, ◌++◌, flat_map, if◌then◌else◌}
use Rattle.std.specs.List.{list_any}
use Rattle.xr_types.specs.declared.code.Code.{Code}
use Rattle.xr_types.specs.declared.code.Code.TheVariants.{Success, TimeoutExpired, SessionLossPending, EventUnavailable, FrameDiscarded, LayerInvalid, LayerLimitExceeded, SwapchainRectInvalid, SwapchainFormatUnsupported, ValidationFailure, OutOfMemory, ApiVersionUnsupported, LimitReached, SizeInsufficient, HandleInvalid, SessionRunning, SessionNotRunning, SessionLost, SystemInvalid, PathInvalid, PathCountExceeded, PathFormatInvalid, PathUnsupported, SessionNotReady, SessionNotStopping, TimeInvalid, ReferenceSpaceUnsupported, FormFactorUnsupported, CallOrderInvalid, PoseInvalid, ViewConfigurationTypeUnsupported, NameDuplicated, NameInvalid, ActionsetsAlreadyAttached, LocalizedNameDuplicated, LocalizedNameInvalid, EnvironmentBlendModeUnsupported, SessionNotFocused, ActionsetNotAttached, ActionTypeMismatch}
use Rattle.xr_types.specs.declared.frames.Layer.{Layer}
use Rattle.xr_types.specs.declared.frames.Layer.TheVariants.{Projection, Quad}
use Rattle.xr_types.specs.declared.calls.Call.{Call}
use Rattle.xr_types.specs.declared.calls.Call.TheVariants as ask

-- ---- a row

-- a code that is asked for once, or the codes that are asked for of each item of a list, one item after another
pub data Refuses : Type 0 where
  one : Code → Refuses
  each : List Code → Refuses

-- What a call may answer: what refuses it, in order; whether it may want memory, which is asked for last; and the codes with
-- which it succeeds.
pub record Row : Type 0 where
  pub refuses : List Refuses
  pub memory : Bool
  pub succeeds : List Code

-- a call that succeeds plainly
abbrev pub plain : List Refuses → Row
plain refuses = record { refuses = refuses; memory = false; succeeds = Success ∷ [] }

-- a plain one that may want memory
abbrev pub storing : List Refuses → Row
storing refuses = record (plain refuses) { memory = true }

-- a call on a session, whose success also tells of a pending loss
abbrev pub on_session : List Refuses → Row
on_session refuses = record (plain refuses) { succeeds = Success ∷ SessionLossPending ∷ [] }

-- a call on a session that may also tell that a frame was discarded
abbrev pub discarding : List Refuses → Row
discarding refuses = record (on_session refuses) { succeeds = Success ∷ SessionLossPending ∷ FrameDiscarded ∷ [] }

-- what refuses a part of an image, and a layer
abbrev pub part_refuses : List Refuses
part_refuses = one HandleInvalid ∷ one SwapchainRectInvalid ∷ one LayerInvalid ∷ []

abbrev pub layer_refuses : Layer → List Refuses
layer_refuses (Projection space count views) = one HandleInvalid ∷ one ValidationFailure ∷ part_refuses ++ part_refuses
layer_refuses (Quad space image pose) = one HandleInvalid ∷ part_refuses ++ one PoseInvalid ∷ []

-- a getter, which answers from what was published last
abbrev pub getter_answers : Row
getter_answers =
    on_session (one HandleInvalid ∷ one HandleInvalid ∷ one SessionLost ∷ one ActionsetNotAttached ∷ one ActionTypeMismatch ∷ one PathUnsupported ∷ [])

-- ---- the table

abbrev pub answers_of : Call → Row
answers_of (ask.CreateInstance major minor) = plain (one ApiVersionUnsupported ∷ one LimitReached ∷ [])
answers_of (ask.DestroyInstance instance) = plain (one HandleInvalid ∷ [])
answers_of (ask.GetSystem instance form) = plain (one HandleInvalid ∷ one FormFactorUnsupported ∷ [])
answers_of (ask.StringToPath instance text) = storing (one HandleInvalid ∷ one PathFormatInvalid ∷ one PathCountExceeded ∷ [])
answers_of (ask.PathToString instance path capacity) = plain (one HandleInvalid ∷ one PathInvalid ∷ one SizeInsufficient ∷ [])
answers_of (ask.PollEvent instance) = plain (one HandleInvalid ∷ one EventUnavailable ∷ [])
answers_of (ask.CreateSession instance system) = plain (one HandleInvalid ∷ one SystemInvalid ∷ one LimitReached ∷ [])
answers_of (ask.DestroySession session) = plain (one HandleInvalid ∷ [])
answers_of (ask.BeginSession session view) =
    on_session (one HandleInvalid ∷ one SessionLost ∷ one SessionRunning ∷ one SessionNotReady ∷ one ViewConfigurationTypeUnsupported ∷ [])
answers_of (ask.EndSession session) = on_session (one HandleInvalid ∷ one SessionLost ∷ one SessionNotRunning ∷ one SessionNotStopping ∷ [])
answers_of (ask.RequestExitSession session) = on_session (one HandleInvalid ∷ one SessionLost ∷ one SessionNotRunning ∷ [])
answers_of (ask.CreateReferenceSpace session kind offset) =
    on_session (one HandleInvalid ∷ one SessionLost ∷ one ReferenceSpaceUnsupported ∷ one PoseInvalid ∷ one LimitReached ∷ [])
answers_of (ask.DestroySpace space) = plain (one HandleInvalid ∷ [])
answers_of (ask.LocateSpace space base time) = on_session (one HandleInvalid ∷ one HandleInvalid ∷ one SessionLost ∷ one TimeInvalid ∷ [])
answers_of (ask.CreateActionSet instance name localized priority) =
    plain (one HandleInvalid ∷ one NameInvalid ∷ one PathFormatInvalid ∷ one NameDuplicated
    ∷ one LocalizedNameInvalid ∷ one LocalizedNameDuplicated ∷ one LimitReached ∷ [])
answers_of (ask.DestroyActionSet set) = plain (one HandleInvalid ∷ [])
answers_of (ask.CreateAction set name kind subs localized) =
    plain (one HandleInvalid ∷ one ActionsetsAlreadyAttached ∷ one NameInvalid ∷ one PathFormatInvalid ∷ one NameDuplicated
    ∷ each (PathInvalid ∷ PathUnsupported ∷ []) ∷ one LocalizedNameInvalid ∷ one LocalizedNameDuplicated ∷ one LimitReached ∷ [])
answers_of (ask.DestroyAction action) = plain (one HandleInvalid ∷ [])
answers_of (ask.SuggestBindings instance profile list) =
    storing (one HandleInvalid ∷ one PathInvalid ∷ one PathUnsupported ∷ one ValidationFailure ∷ one LimitReached
    ∷ each (HandleInvalid ∷ ActionsetsAlreadyAttached ∷ PathInvalid ∷ PathUnsupported ∷ []) ∷ [])
answers_of (ask.AttachSets session handles) =
    on_session (one HandleInvalid ∷ one SessionLost ∷ one ActionsetsAlreadyAttached ∷ one ValidationFailure ∷ each (HandleInvalid ∷ []) ∷ [])
answers_of (ask.SyncActions session active) =
    record (on_session (one HandleInvalid ∷ one SessionLost ∷ one LimitReached ∷ each (HandleInvalid ∷ ActionsetNotAttached ∷ PathInvalid ∷ PathUnsupported ∷ []) ∷ [])) {
      succeeds = Success ∷ SessionLossPending ∷ SessionNotFocused ∷ [];
    }
answers_of (ask.GetBoolean session action sub) = getter_answers
answers_of (ask.GetFloat session action sub) = getter_answers
answers_of (ask.GetVector session action sub) = getter_answers
answers_of (ask.GetPoseActive session action sub) = getter_answers
answers_of (ask.CreateActionSpace session action sub offset) =
    on_session (one HandleInvalid ∷ one HandleInvalid ∷ one SessionLost ∷ one ActionTypeMismatch ∷ one PathUnsupported ∷ one PoseInvalid ∷ one LimitReached ∷ [])
answers_of (ask.CreateSwapchain session format width height fixed) =
    on_session (one HandleInvalid ∷ one SessionLost ∷ one SwapchainFormatUnsupported ∷ one ValidationFailure ∷ one LimitReached ∷ one LimitReached ∷ [])
answers_of (ask.DestroySwapchain chain) = plain (one HandleInvalid ∷ [])
answers_of (ask.AcquireImage chain) = on_session (one HandleInvalid ∷ one SessionLost ∷ one CallOrderInvalid ∷ [])
answers_of (ask.WaitImage chain timeout start) =
    on_session (one HandleInvalid ∷ one SessionLost ∷ one CallOrderInvalid ∷ one TimeoutExpired ∷ [])
answers_of (ask.Paint chain stamp) = on_session (one HandleInvalid ∷ one SessionLost ∷ one CallOrderInvalid ∷ [])
answers_of (ask.ReleaseImage chain) = on_session (one HandleInvalid ∷ one SessionLost ∷ one CallOrderInvalid ∷ [])
answers_of (ask.WaitFrame session) = on_session (one HandleInvalid ∷ one SessionLost ∷ one SessionNotRunning ∷ [])
answers_of (ask.BeginFrame session) =
    discarding (one HandleInvalid ∷ one SessionLost ∷ one SessionNotRunning ∷ one CallOrderInvalid ∷ [])
answers_of (ask.EndFrame session time blend layers) =
    on_session (one HandleInvalid ∷ one SessionLost ∷ one SessionNotRunning ∷ one CallOrderInvalid ∷ one TimeInvalid ∷ one EnvironmentBlendModeUnsupported
    ∷ one LayerLimitExceeded ∷ flat_map layer_refuses layers)
answers_of (ask.Mark number value) = plain []
answers_of (ask.AwaitMark number) = plain []
answers_of ask.Leave = plain []
answers_of (ask.Device what) = plain []
answers_of ask.NextFrame = plain (one CallOrderInvalid ∷ [])
answers_of ask.ImageDone = plain (one CallOrderInvalid ∷ [])

-- ---- the codes of a row

-- the codes of so many items, one item after another
abbrev pub repeated : ℕ → List Code → List Code
repeated zero codes = []
repeated (suc n) codes = codes ++ repeated n codes

-- the codes that are asked for in all, where the lists have so many items, list by list
abbrev pub spelt_out : List Refuses → List ℕ → List Code
spelt_out [] items = []
spelt_out (one code ∷ rest) items = code ∷ spelt_out rest items
spelt_out (each codes ∷ rest) [] = spelt_out rest []
spelt_out (each codes ∷ rest) (n ∷ items) = repeated n codes ++ spelt_out rest items

-- the codes of refusals, each once
abbrev pub codes_in : Refuses → List Code
codes_in (one code) = code ∷ []
codes_in (each codes) = codes

-- all codes that the row's call may answer
abbrev pub all_codes : Row → List Code
all_codes row = flat_map codes_in row.refuses ++ ((if row.memory then OutOfMemory ∷ [] else []) ++ row.succeeds)

-- ---- the check of the call order

abbrev pub is_order_check : Refuses → Bool
is_order_check (one CallOrderInvalid) = true
is_order_check _ = false

-- the call is checked for its order
abbrev pub is_ordered : Row → Bool
is_ordered row = list_any is_order_check row.refuses
