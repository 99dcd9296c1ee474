-- The results of OpenXR 1.0, by the names that reports print.
use Rattle.std.specs.Prelude.{◌≡◌, ℕ, Bool, true, false, List, length, slice_get, Some, codes}
use Rattle.xr_types.specs.declared.code.Code.{Code}
use Rattle.xr_types.specs.declared.code.TheConstants.Code.{ALL}
use Rattle.xr_types.specs.declared.code.Code.TheVariants.{Success, TimeoutExpired, SessionLossPending, EventUnavailable, SessionNotFocused, FrameDiscarded, ValidationFailure, OutOfMemory, ApiVersionUnsupported, LimitReached, SizeInsufficient, HandleInvalid, SessionRunning, SessionNotRunning, SessionLost, SystemInvalid, PathInvalid, PathCountExceeded, PathFormatInvalid, PathUnsupported, LayerInvalid, LayerLimitExceeded, SwapchainRectInvalid, SwapchainFormatUnsupported, ActionTypeMismatch, SessionNotReady, SessionNotStopping, TimeInvalid, ReferenceSpaceUnsupported, FormFactorUnsupported, CallOrderInvalid, PoseInvalid, ViewConfigurationTypeUnsupported, EnvironmentBlendModeUnsupported, NameDuplicated, NameInvalid, ActionsetNotAttached, ActionsetsAlreadyAttached, LocalizedNameDuplicated, LocalizedNameInvalid}

-- the name of a result
abbrev pub name_of_code : Code → List ℕ
name_of_code Success = codes "XR_SUCCESS"
name_of_code TimeoutExpired = codes "XR_TIMEOUT_EXPIRED"
name_of_code SessionLossPending = codes "XR_SESSION_LOSS_PENDING"
name_of_code EventUnavailable = codes "XR_EVENT_UNAVAILABLE"
name_of_code SessionNotFocused = codes "XR_SESSION_NOT_FOCUSED"
name_of_code FrameDiscarded = codes "XR_FRAME_DISCARDED"
name_of_code ValidationFailure = codes "XR_ERROR_VALIDATION_FAILURE"
name_of_code OutOfMemory = codes "XR_ERROR_OUT_OF_MEMORY"
name_of_code ApiVersionUnsupported = codes "XR_ERROR_API_VERSION_UNSUPPORTED"
name_of_code LimitReached = codes "XR_ERROR_LIMIT_REACHED"
name_of_code SizeInsufficient = codes "XR_ERROR_SIZE_INSUFFICIENT"
name_of_code HandleInvalid = codes "XR_ERROR_HANDLE_INVALID"
name_of_code SessionRunning = codes "XR_ERROR_SESSION_RUNNING"
name_of_code SessionNotRunning = codes "XR_ERROR_SESSION_NOT_RUNNING"
name_of_code SessionLost = codes "XR_ERROR_SESSION_LOST"
name_of_code SystemInvalid = codes "XR_ERROR_SYSTEM_INVALID"
name_of_code PathInvalid = codes "XR_ERROR_PATH_INVALID"
name_of_code PathCountExceeded = codes "XR_ERROR_PATH_COUNT_EXCEEDED"
name_of_code PathFormatInvalid = codes "XR_ERROR_PATH_FORMAT_INVALID"
name_of_code PathUnsupported = codes "XR_ERROR_PATH_UNSUPPORTED"
name_of_code LayerInvalid = codes "XR_ERROR_LAYER_INVALID"
name_of_code LayerLimitExceeded = codes "XR_ERROR_LAYER_LIMIT_EXCEEDED"
name_of_code SwapchainRectInvalid = codes "XR_ERROR_SWAPCHAIN_RECT_INVALID"
name_of_code SwapchainFormatUnsupported = codes "XR_ERROR_SWAPCHAIN_FORMAT_UNSUPPORTED"
name_of_code ActionTypeMismatch = codes "XR_ERROR_ACTION_TYPE_MISMATCH"
name_of_code SessionNotReady = codes "XR_ERROR_SESSION_NOT_READY"
name_of_code SessionNotStopping = codes "XR_ERROR_SESSION_NOT_STOPPING"
name_of_code TimeInvalid = codes "XR_ERROR_TIME_INVALID"
name_of_code ReferenceSpaceUnsupported = codes "XR_ERROR_REFERENCE_SPACE_UNSUPPORTED"
name_of_code FormFactorUnsupported = codes "XR_ERROR_FORM_FACTOR_UNSUPPORTED"
name_of_code CallOrderInvalid = codes "XR_ERROR_CALL_ORDER_INVALID"
name_of_code PoseInvalid = codes "XR_ERROR_POSE_INVALID"
name_of_code ViewConfigurationTypeUnsupported = codes "XR_ERROR_VIEW_CONFIGURATION_TYPE_UNSUPPORTED"
name_of_code EnvironmentBlendModeUnsupported = codes "XR_ERROR_ENVIRONMENT_BLEND_MODE_UNSUPPORTED"
name_of_code NameDuplicated = codes "XR_ERROR_NAME_DUPLICATED"
name_of_code NameInvalid = codes "XR_ERROR_NAME_INVALID"
name_of_code ActionsetNotAttached = codes "XR_ERROR_ACTIONSET_NOT_ATTACHED"
name_of_code ActionsetsAlreadyAttached = codes "XR_ERROR_ACTIONSETS_ALREADY_ATTACHED"
name_of_code LocalizedNameDuplicated = codes "XR_ERROR_LOCALIZED_NAME_DUPLICATED"
name_of_code LocalizedNameInvalid = codes "XR_ERROR_LOCALIZED_NAME_INVALID"

-- all results, as the code lists them: first those that are no errors, then the errors, in the order of their names above
abbrev pub every_code : List Code
every_code = ALL

-- the number of a result, this project's own: its place among all
abbrev pub number_of_code : Code → ℕ
number_of_code Success = 0
number_of_code TimeoutExpired = 1
number_of_code SessionLossPending = 2
number_of_code EventUnavailable = 3
number_of_code SessionNotFocused = 4
number_of_code FrameDiscarded = 5
number_of_code ValidationFailure = 6
number_of_code OutOfMemory = 7
number_of_code ApiVersionUnsupported = 8
number_of_code LimitReached = 9
number_of_code SizeInsufficient = 10
number_of_code HandleInvalid = 11
number_of_code SessionRunning = 12
number_of_code SessionNotRunning = 13
number_of_code SessionLost = 14
number_of_code SystemInvalid = 15
number_of_code PathInvalid = 16
number_of_code PathCountExceeded = 17
number_of_code PathFormatInvalid = 18
number_of_code PathUnsupported = 19
number_of_code LayerInvalid = 20
number_of_code LayerLimitExceeded = 21
number_of_code SwapchainRectInvalid = 22
number_of_code SwapchainFormatUnsupported = 23
number_of_code ActionTypeMismatch = 24
number_of_code SessionNotReady = 25
number_of_code SessionNotStopping = 26
number_of_code TimeInvalid = 27
number_of_code ReferenceSpaceUnsupported = 28
number_of_code FormFactorUnsupported = 29
number_of_code CallOrderInvalid = 30
number_of_code PoseInvalid = 31
number_of_code ViewConfigurationTypeUnsupported = 32
number_of_code EnvironmentBlendModeUnsupported = 33
number_of_code NameDuplicated = 34
number_of_code NameInvalid = 35
number_of_code ActionsetNotAttached = 36
number_of_code ActionsetsAlreadyAttached = 37
number_of_code LocalizedNameDuplicated = 38
number_of_code LocalizedNameInvalid = 39

-- There are forty results, and each stands among all at its number.
pub record NumbersArePlaces : Type 0 where
  pub forty : length every_code ≡ 40
  pub placed : (c : Code) → slice_get every_code (number_of_code c) ≡ Some c

-- the call had its effect
abbrev pub is_success : Code → Bool
is_success Success = true
is_success SessionLossPending = true
is_success SessionNotFocused = true
is_success FrameDiscarded = true
is_success _ = false

-- the call was refused: its result is one of those that the standard names XR_ERROR_..
abbrev pub is_error : Code → Bool
is_error Success = false
is_error TimeoutExpired = false
is_error SessionLossPending = false
is_error EventUnavailable = false
is_error SessionNotFocused = false
is_error FrameDiscarded = false
is_error _ = true

-- memory was short
abbrev pub is_out_of_memory : Code → Bool
is_out_of_memory OutOfMemory = true
is_out_of_memory _ = false
