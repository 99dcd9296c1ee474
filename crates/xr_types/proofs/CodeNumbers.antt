-- The number of each result is its place among all.
use Rattle.std.proofs.Common.{◌≡◌, refl}
use Rattle.std.specs.Prelude.{slice_get, Some}
use Rattle.xr_types.specs.declared.code.Code.{Code}
use Rattle.xr_types.specs.declared.code.Code.TheVariants as code
use Rattle.xr_types.specs.Code.{every_code, number_of_code, NumbersArePlaces}

placed : (c : Code) → slice_get every_code (number_of_code c) ≡ Some c
placed code.Success = refl
placed code.TimeoutExpired = refl
placed code.SessionLossPending = refl
placed code.EventUnavailable = refl
placed code.SessionNotFocused = refl
placed code.FrameDiscarded = refl
placed code.ValidationFailure = refl
placed code.OutOfMemory = refl
placed code.ApiVersionUnsupported = refl
placed code.LimitReached = refl
placed code.SizeInsufficient = refl
placed code.HandleInvalid = refl
placed code.SessionRunning = refl
placed code.SessionNotRunning = refl
placed code.SessionLost = refl
placed code.SystemInvalid = refl
placed code.PathInvalid = refl
placed code.PathCountExceeded = refl
placed code.PathFormatInvalid = refl
placed code.PathUnsupported = refl
placed code.LayerInvalid = refl
placed code.LayerLimitExceeded = refl
placed code.SwapchainRectInvalid = refl
placed code.SwapchainFormatUnsupported = refl
placed code.ActionTypeMismatch = refl
placed code.SessionNotReady = refl
placed code.SessionNotStopping = refl
placed code.TimeInvalid = refl
placed code.ReferenceSpaceUnsupported = refl
placed code.FormFactorUnsupported = refl
placed code.CallOrderInvalid = refl
placed code.PoseInvalid = refl
placed code.ViewConfigurationTypeUnsupported = refl
placed code.EnvironmentBlendModeUnsupported = refl
placed code.NameDuplicated = refl
placed code.NameInvalid = refl
placed code.ActionsetNotAttached = refl
placed code.ActionsetsAlreadyAttached = refl
placed code.LocalizedNameDuplicated = refl
placed code.LocalizedNameInvalid = refl

pub numbers_are_places : NumbersArePlaces
numbers_are_places = record { forty = refl; placed = placed }
