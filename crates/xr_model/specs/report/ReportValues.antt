-- The values that a report prints behind a call's code, each behind a space, by the name of the call.
use Rattle.std.specs.Prelude.{ℕ, ℤ, nat_le, Bool, List, [], ◌∷◌, ◌++◌, length, take, codes, decimal, if◌then◌else◌}
use Rattle.std.specs.Fmt.{signed_decimal}
use Rattle.xr_types.specs.declared.calls.Gives.{Gives}
use Rattle.xr_types.specs.declared.calls.Gives.TheVariants as gives
use Rattle.xr_types.specs.declared.code.Code.{Code}
use Rattle.xr_types.specs.declared.code.Code.TheVariants.{Success, SessionLossPending, SizeInsufficient}
use Rattle.xr_types.specs.declared.limits.TheConstants.{MOST_HANDLE_MARK}
use Rattle.xr_types.specs.declared.made.Made.{Made}
use Rattle.xr_types.specs.declared.names.CallName.{CallName}
use Rattle.xr_types.specs.declared.names.CallName.TheVariants as call
use Rattle.xr_types.specs.declared.session.Event.TheVariants as event
use Rattle.xr_types.specs.declared.spaces.Location.TheVariants as location
use Rattle.xr_types.specs.Printed.{state_name}

-- a truth value
abbrev pub flag : Bool → List ℕ
flag b = if b then codes "1" else codes "0"

-- ---- what each row prints of what a call gave

-- a number
abbrev pub number_values : Gives → List ℕ
number_values (gives.Number n) = codes " " ++ decimal n
number_values _ = []

-- the value of a mark, unless it is a handle: no handle is ever printed
abbrev pub mark_values : ℕ → Gives → List ℕ
mark_values mark given = if nat_le mark MOST_HANDLE_MARK then [] else number_values given

-- the size of a text
abbrev pub size_values : Gives → List ℕ
size_values (gives.Size n) = codes " " ++ decimal n
size_values _ = []

-- a text that was written, without its terminating zero
abbrev pub text_behind : List ℕ → List ℕ
text_behind [] = []
text_behind (b ∷ bs) = codes " " ++ take (length bs) (b ∷ bs)

-- a text with its size
abbrev pub text_values : Gives → List ℕ → List ℕ
text_values (gives.Size n) text = codes " " ++ decimal n ++ text_behind text
text_values _ text = []

abbrev pub event_values : Gives → List ℕ
event_values (gives.Event (event.Lost n)) = codes " events_lost " ++ decimal n
event_values (gives.Event (event.State ordinal session state)) = codes " state " ++ decimal ordinal ++ codes " " ++ state_name state
event_values _ = []

abbrev pub frame_values : Gives → List ℕ
frame_values (gives.Frame f) = codes " time " ++ signed_decimal f.time ++ codes " period " ++ signed_decimal f.period ++ codes " render " ++ flag f.render
frame_values _ = []

-- what the states of all actions have behind their value
abbrev pub change_values : Bool → ℤ → Bool → List ℕ
change_values changed time active = codes " changed " ++ flag changed ++ codes " time " ++ signed_decimal time ++ codes " active " ++ flag active

abbrev pub boolean_values : Gives → List ℕ
boolean_values (gives.Boolean s) = codes " value " ++ flag s.value ++ change_values s.changed s.time s.active
boolean_values _ = []

abbrev pub float_values : Gives → List ℕ
float_values (gives.Float s) = codes " value " ++ signed_decimal s.value ++ change_values s.changed s.time s.active
float_values _ = []

abbrev pub vector_values : Gives → List ℕ
vector_values (gives.Vector s) = codes " value " ++ signed_decimal s.x ++ codes " " ++ signed_decimal s.y ++ change_values s.changed s.time s.active
vector_values _ = []

abbrev pub active_values : Gives → List ℕ
active_values (gives.Active active) = codes " active " ++ flag active
active_values _ = []

-- the factors of a product, `-` before those that stand for inverses
abbrev pub location_values : Gives → List ℕ
location_values (gives.Location location.Missing) = codes " missing"
location_values (gives.Location (location.Factors base_offset base_sample sample offset)) =
    codes " -" ++ decimal base_offset ++ codes " -" ++ decimal base_sample ++ codes " +" ++ decimal sample ++ codes " +" ++ decimal offset
location_values _ = []

-- ---- rows

-- the values of a call that succeeded, by its name
abbrev pub success_values : CallName → Made → List ℕ
-- rows: success_values
success_values call.GetSystem m = number_values m.reply.gives
success_values call.StringToPath m = number_values m.reply.gives
success_values call.AcquireImage m = number_values m.reply.gives
success_values call.PathToString m = text_values m.reply.gives m.text
success_values call.PollEvent m = event_values m.reply.gives
success_values call.LocateSpace m = location_values m.reply.gives
success_values call.GetBoolean m = boolean_values m.reply.gives
success_values call.GetFloat m = float_values m.reply.gives
success_values call.GetVector m = vector_values m.reply.gives
success_values call.GetPoseActive m = active_values m.reply.gives
success_values call.WaitFrame m = frame_values m.reply.gives
success_values call.Await m = mark_values m.mark m.reply.gives
-- rows: end
success_values _ m = []

-- the values of a call whose buffer was too small
abbrev pub too_small_values : CallName → Gives → List ℕ
too_small_values call.PathToString given = size_values given
too_small_values _ given = []

abbrev pub values_at : Code → Made → List ℕ
values_at Success m = success_values m.name m
values_at SessionLossPending m = success_values m.name m
values_at SizeInsufficient m = too_small_values m.name m.reply.gives
values_at _ m = []

-- the values behind a call's code
abbrev pub values_of : Made → List ℕ
values_of m = values_at m.reply.code m
