-- What a report tells: the calls of each script with their codes, values and places can be read off its bytes.
use Rattle.std.specs.Prelude.{◌≡◌, ◌<◌, ◌^◌, ◌==◌, nat_le, Bool, true, false, not, ℕ, List, [], ◌∷◌, length, Some, FitsSigned}
use Rattle.std.specs.Int.{w64}
use Rattle.std.specs.List.{list_all}
use Rattle.xr_types.specs.declared.calls.Gives.{Gives}
use Rattle.xr_types.specs.declared.calls.Gives.TheVariants as gives
use Rattle.xr_types.specs.declared.code.Code.TheVariants.{Success}
use Rattle.xr_types.specs.declared.calls.Reply.{Reply}
use Rattle.xr_types.specs.declared.device.DeviceEvent.{DeviceEvent}
use Rattle.xr_types.specs.Device.{checks}
use Rattle.xr_model.specs.laws.DeviceLaws.{is_of_line}
use Rattle.xr_types.specs.declared.frames.ShownLayer.{ShownLayer}
use Rattle.xr_types.specs.declared.frames.ShownLayer.TheVariants as layer
use Rattle.xr_types.specs.declared.frames.Shown.{Shown}
use Rattle.xr_types.specs.declared.limits.TheConstants.{MOST_HANDLE_MARK}
use Rattle.xr_types.specs.declared.made.Lists.{Lists}
use Rattle.xr_types.specs.declared.made.Made.{Made}
use Rattle.xr_types.specs.declared.names.CallName.{CallName}
use Rattle.xr_types.specs.declared.names.CallName.TheVariants as call
use Rattle.xr_types.specs.declared.session.Event.TheVariants as event
use Rattle.xr_types.specs.declared.spaces.Location.TheVariants as location
use Rattle.xr_model.specs.report.Report.{report_of}
use Rattle.xr_model.specs.report.ReportLines.{frame_line, event_line}
use Rattle.xr_model.specs.report.ReportValues.{values_of}
use Rattle.xr_model.specs.scenario.InRange.{Each}

-- a text without `@`, by which a line's place begins
abbrev pub has_no_at : List ℕ → Bool
has_no_at text = list_all (λ b. not (b == 64)) text

-- a call whose numbers have 64 bits, and whose text has no `@`, as no path has one
pub record IsPrintable (m : Made) : Type 0 where
  pub op : m.op < 2 ^ 64
  pub place : m.reply.place < 2 ^ 64
  pub text : has_no_at m.text ≡ true

-- two calls that stand at one place of their scripts, have one name, and are answered alike: by one code, one place, and the same
-- printed values
pub record AnsweredAlike (m n : Made) : Type 0 where
  pub op : m.op ≡ n.op
  pub called : m.name ≡ n.name
  pub code : m.reply.code ≡ n.reply.code
  pub values : values_of m ≡ values_of n
  pub place : m.reply.place ≡ n.reply.place

-- as many calls, each answered like the other
abbrev pub AllAnsweredAlike : List Made → List Made → Type 0
AllAnsweredAlike [] [] = Unit {0}
AllAnsweredAlike [] (n ∷ ns) = ⊥
AllAnsweredAlike (m ∷ ms) [] = ⊥
AllAnsweredAlike (m ∷ ms) (n ∷ ns) = AnsweredAlike m n × AllAnsweredAlike ms ns

-- as many scripts, each with calls that are answered like the other's
abbrev pub ScriptsAnsweredAlike : List (List Made) → List (List Made) → Type 0
ScriptsAnsweredAlike [] [] = Unit {0}
ScriptsAnsweredAlike [] (ns ∷ more) = ⊥
ScriptsAnsweredAlike (ms ∷ more) [] = ⊥
ScriptsAnsweredAlike (ms ∷ more) (ns ∷ others) = AllAnsweredAlike ms ns × ScriptsAnsweredAlike more others

-- So a report with places tells each script's calls and what they were answered.
abbrev pub ReportsTellTheCalls : Type 0
ReportsTellTheCalls =
    (lists others : Lists) → Each (Each IsPrintable) lists.apps → Each (Each IsPrintable) others.apps → report_of lists true ≡ report_of others true
    → ScriptsAnsweredAlike lists.apps others.apps

-- ---- what values tell

-- a number that a call gives, of 64 bits
abbrev pub IsNumber : Gives → Type 0
IsNumber (gives.Number n) = n < 2 ^ 64
IsNumber _ = ⊥

abbrev pub IsSize : Gives → Type 0
IsSize (gives.Size n) = n < 2 ^ 64
IsSize _ = ⊥

abbrev pub IsEvent : Gives → Type 0
IsEvent (gives.Event (event.Lost n)) = n < 2 ^ 64
IsEvent (gives.Event (event.State ordinal session state)) = ordinal < 2 ^ 64
IsEvent _ = ⊥

abbrev pub IsFrame : Gives → Type 0
IsFrame (gives.Frame f) = FitsSigned w64 f.time × FitsSigned w64 f.period
IsFrame _ = ⊥

abbrev pub IsBoolean : Gives → Type 0
IsBoolean (gives.Boolean s) = FitsSigned w64 s.time
IsBoolean _ = ⊥

abbrev pub IsFloat : Gives → Type 0
IsFloat (gives.Float s) = FitsSigned w64 s.value × FitsSigned w64 s.time
IsFloat _ = ⊥

abbrev pub IsVector : Gives → Type 0
IsVector (gives.Vector s) = FitsSigned w64 s.x × FitsSigned w64 s.y × FitsSigned w64 s.time
IsVector _ = ⊥

abbrev pub IsActive : Gives → Type 0
IsActive (gives.Active active) = Unit {0}
IsActive _ = ⊥

abbrev pub IsLocation : Gives → Type 0
IsLocation (gives.Location location.Missing) = Unit {0}
IsLocation (gives.Location (location.Factors base_offset base_sample sample offset)) =
    (base_offset < 2 ^ 64) × (base_sample < 2 ^ 64) × (sample < 2 ^ 64) × (offset < 2 ^ 64)
IsLocation _ = ⊥

-- What a call of this name, and an await of this mark, gives that is printed: of the values of marks those that are no handles.
abbrev pub IsPrinted : CallName → ℕ → Gives → Type 0
IsPrinted call.GetSystem mark given = IsNumber given
IsPrinted call.StringToPath mark given = IsNumber given
IsPrinted call.AcquireImage mark given = IsNumber given
IsPrinted call.PathToString mark given = IsSize given
IsPrinted call.PollEvent mark given = IsEvent given
IsPrinted call.LocateSpace mark given = IsLocation given
IsPrinted call.GetBoolean mark given = IsBoolean given
IsPrinted call.GetFloat mark given = IsFloat given
IsPrinted call.GetVector mark given = IsVector given
IsPrinted call.GetPoseActive mark given = IsActive given
IsPrinted call.WaitFrame mark given = IsFrame given
IsPrinted call.Await mark given = (nat_le mark MOST_HANDLE_MARK ≡ false) × IsNumber given
IsPrinted _ mark given = ⊥

-- no handle is printed, so the session of an event isn't told
abbrev pub without_handles : Gives → Gives
without_handles (gives.Event (event.State ordinal session state)) = gives.Event (event.State ordinal 0 state)
without_handles given = given

-- The printed values of a call that succeeded tell what it gave, but for handles.
abbrev pub ValuesTellWhatWasGiven : Type 0
ValuesTellWhatWasGiven =
    (m n : Made) → m.reply.code ≡ Success → n.reply.code ≡ Success → m.name ≡ n.name → IsPrinted m.name m.mark m.reply.gives
    → IsPrinted n.name n.mark n.reply.gives → values_of m ≡ values_of n → without_handles m.reply.gives ≡ without_handles n.reply.gives

-- ---- what the line of a frame tells

-- a layer whose stamps have 64 bits
abbrev pub IsLayerPrintable : ShownLayer → Type 0
IsLayerPrintable (layer.Projection left right) = (left < 2 ^ 64) × (right < 2 ^ 64)
IsLayerPrintable (layer.Quad stamp) = stamp < 2 ^ 64

-- a frame whose numbers have 64 bits
pub record IsFramePrintable (f : Shown) : Type 0 where
  pub number : f.number < 2 ^ 64
  pub time : FitsSigned w64 f.time
  pub count : length f.layers < 2 ^ 64
  pub layers : Each IsLayerPrintable f.layers

-- The line of a frame with its place tells the whole frame, and the place of the reply that gave it.
abbrev pub FrameLinesTellTheFrame : Type 0
FrameLinesTellTheFrame =
    (f g : Shown) (r q : Reply) → IsFramePrintable f → IsFramePrintable g → r.place < 2 ^ 64 → q.place < 2 ^ 64
    → frame_line true f (Some r) ≡ frame_line true g (Some q) → (f ≡ g) × (r.place ≡ q.place)

-- ---- what the line of an event tells

-- an event that a line of a device's text tells, with its numbers in range
pub record IsTold (e : DeviceEvent) : Type 0 where
  pub line : is_of_line e ≡ true
  pub good : checks e ≡ true

-- The line of such an event with its place tells where it stands among the events, the whole event, and the place of its call.
abbrev pub EventLinesTellTheEvent : Type 0
EventLinesTellTheEvent =
    (j k : ℕ) (e f : DeviceEvent) (m n : Made) → j < 2 ^ 64 → k < 2 ^ 64 → IsTold e → IsTold f → m.reply.place < 2 ^ 64 → n.reply.place < 2 ^ 64
    → event_line true j e m ≡ event_line true k f n → (j ≡ k) × (e ≡ f) × (m.reply.place ≡ n.reply.place)
