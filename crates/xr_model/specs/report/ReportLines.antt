-- The lines of a report. With places the line of each call ends in the place of its reply.
use Rattle.std.specs.Prelude.{ℕ, Bool, List, [], ◌∷◌, ◌++◌, length, codes, decimal, Option, Some, None, if◌then◌else◌}
use Rattle.std.specs.Fmt.{signed_decimal}
use Rattle.xr_types.specs.declared.calls.Actor.{Actor}
use Rattle.xr_types.specs.declared.calls.Actor.TheVariants as actor
use Rattle.xr_types.specs.declared.calls.Reply.{Reply}
use Rattle.xr_types.specs.declared.device.DeviceEvent.{DeviceEvent}
use Rattle.xr_types.specs.declared.device.DeviceEvent.TheVariants as event
use Rattle.xr_types.specs.declared.frames.Shown.{Shown}
use Rattle.xr_types.specs.declared.frames.ShownLayer.{ShownLayer}
use Rattle.xr_types.specs.declared.frames.ShownLayer.TheVariants as layer
use Rattle.xr_types.specs.declared.made.Made.{Made}
use Rattle.xr_types.specs.declared.made.Waiting.{Waiting}
use Rattle.xr_types.specs.Code as code
use Rattle.xr_types.specs.Op as op
use Rattle.xr_model.specs.device_text.DeviceLines as device
use Rattle.xr_model.specs.report.ReportValues.{values_of}

-- the place of a reply, where places are asked for
abbrev pub place_behind : Bool → Reply → List ℕ
place_behind places reply = if places then codes " @" ++ decimal reply.place else []

-- a call of a script: its place there, its name, its code and its values
abbrev pub call_line : Bool → Made → List ℕ
call_line places m =
    decimal m.op ++ codes " " ++ op.name_of_call m.name ++ codes " " ++ code.name_of_code m.reply.code ++ values_of m
    ++ place_behind places m.reply ++ codes "\n"

-- a layer of a frame, by the stamps of its images
abbrev pub layer_text : ShownLayer → List ℕ
layer_text (layer.Projection left right) = codes " projection:" ++ decimal left ++ codes "," ++ decimal right
layer_text (layer.Quad stamp) = codes " quad:" ++ decimal stamp

abbrev pub layers_text : List ShownLayer → List ℕ
layers_text [] = []
layers_text (l ∷ ls) = layer_text l ++ layers_text ls

-- the place of the reply that gave a frame; a frame beyond the replies has none
abbrev pub frame_place : Bool → Option Reply → List ℕ
frame_place places None = []
frame_place places (Some reply) = place_behind places reply

-- a frame that the compositor has taken: its number, its time, and its layers with their count
abbrev pub frame_line : Bool → Shown → Option Reply → List ℕ
frame_line places f reply =
    codes "frame " ++ decimal f.number ++ codes " time " ++ signed_decimal f.time ++ codes " layers " ++ decimal (length f.layers)
    ++ layers_text f.layers ++ frame_place places reply ++ codes "\n"

-- how the compositor ended, where it did
abbrev pub ended_line : Bool → Option Reply → List ℕ
ended_line places None = []
ended_line places (Some reply) = codes "ended" ++ place_behind places reply ++ codes "\n"

-- an event by its line of the device's text, behind its place among the events; one that ends the device early has no place
abbrev pub event_text : ℕ → DeviceEvent → List ℕ
event_text number event.Fault = codes "fault"
event_text number (event.Garbled line) = codes "garbled " ++ decimal line
event_text number event = decimal number ++ codes " " ++ device.device_line event

abbrev pub event_line : Bool → ℕ → DeviceEvent → Made → List ℕ
event_line places number event m = event_text number event ++ place_behind places m.reply ++ codes "\n"

-- the next call of an actor that can't go on
abbrev pub waiting_line : Actor → Waiting → List ℕ
waiting_line (actor.App number) w = codes "thread " ++ decimal number ++ codes " " ++ decimal w.op ++ codes " " ++ op.name_of_call w.name ++ codes "\n"
waiting_line actor.Device w = codes "device await " ++ decimal w.op ++ codes "\n"
waiting_line actor.Compositor w = codes "compositor next_frame\n"
