-- The row of each op in version 1 of the format: its fields in order, how each is read, and whether it may give a name.
use Rattle.std.specs.Prelude.{pos}
use Rattle.serde_json.specs.Find.{as_bool}
use Rattle.xr_types.specs.declared.fields.FieldName.TheVariants as key
use Rattle.xr_types.specs.declared.limits.TheConstants.{MOST_CAPACITY, MOST_SUBACTIONS, MOST_BINDINGS, MOST_ATTACHED, MOST_ACTIVE, MOST_LISTED}
use Rattle.xr_types.specs.declared.names.CallName.{CallName}
use Rattle.xr_types.specs.declared.names.CallName.TheVariants as call
use Rattle.xr_types.specs.declared.scenario.Op.TheVariants as op
use Rattle.xr_types.specs.declared.scenario.Use.TheVariants.{Number}
use Rattle.xr_types.specs.Printed.{view_name, all_views, form_name, all_forms, action_type_name, all_action_types, blend_name, all_blends, kind_name, all_kinds}
use Rattle.xr_model.specs.scenario.Fields.{handle_in, atom_in, system_in, time_in, number_in, most, most_u32, text_in, mark_in, value_in, timeout_in, word_in}
use Rattle.xr_model.specs.scenario.ListItems.{handle_part, atom_part, binding_part, active_set_part, layer_part}
use Rattle.xr_model.specs.scenario.Row.{plain, list_by, ◌by◌then◌, optional_after, may_name, no_name, Row, ◌of◌, no_row}

abbrev pub row_of : CallName → Row
-- instances, paths, events and sessions (OpenXR 1.0 chapters 2, 4, 6 and 9)
-- rows: row_of, chapters 2 to 9
row_of call.CreateInstance =
    op.CreateInstance of key.Major by plain (number_in most_u32) then key.Minor by plain (number_in most_u32) then may_name
row_of call.DestroyInstance = op.DestroyInstance of key.Instance by handle_in then no_name
row_of call.PollEvent = op.PollEvent of key.Instance by handle_in then no_name
row_of call.GetSystem = op.GetSystem of key.Instance by handle_in then key.Form by plain (word_in form_name all_forms) then may_name
row_of call.StringToPath = op.StringToPath of key.Instance by handle_in then key.Text by plain text_in then may_name
row_of call.PathToString =
    op.PathToString of key.Instance by handle_in then key.Path by atom_in then key.Capacity by plain (number_in MOST_CAPACITY) then no_name
row_of call.CreateSession = op.CreateSession of key.Instance by handle_in then key.System by system_in then may_name
row_of call.DestroySession = op.DestroySession of key.Session by handle_in then no_name
row_of call.EndSession = op.EndSession of key.Session by handle_in then no_name
row_of call.RequestExitSession = op.RequestExitSession of key.Session by handle_in then no_name
row_of call.BeginSession = op.BeginSession of key.Session by handle_in then key.View by plain (word_in view_name all_views) then no_name
-- rows: end
-- spaces, swapchains and frames (chapters 7 and 10)
-- rows: row_of, chapters 7 and 10
row_of call.BeginFrame = op.BeginFrame of key.Session by handle_in then no_name
row_of call.CreateReferenceSpace =
    op.CreateReferenceSpace of key.Session by handle_in then key.Kind by plain (word_in kind_name all_kinds)
    then key.Offset by plain (number_in most) then may_name
row_of call.CreateActionSpace =
    op.CreateActionSpace of key.Session by handle_in then key.Action by handle_in then key.Sub by atom_in
    then key.Offset by plain (number_in most) then may_name
row_of call.DestroySpace = op.DestroySpace of key.Space by handle_in then no_name
row_of call.LocateSpace = op.LocateSpace of key.Space by handle_in then key.Base by handle_in then key.Time by time_in then no_name
row_of call.CreateSwapchain =
    op.CreateSwapchain of key.Session by handle_in then key.Format by plain (number_in most) then key.Width by plain (number_in most_u32)
    then key.Height by plain (number_in most_u32) then key.Static by plain as_bool then may_name
row_of call.DestroySwapchain = op.DestroySwapchain of key.Chain by handle_in then no_name
row_of call.AcquireImage = op.AcquireImage of key.Chain by handle_in then no_name
row_of call.ReleaseImage = op.ReleaseImage of key.Chain by handle_in then no_name
row_of call.WaitImage = op.WaitImage of key.Chain by handle_in then key.Timeout by plain timeout_in then no_name
row_of call.Paint = op.Paint of key.Chain by handle_in then key.Stamp by plain (number_in most) then no_name
row_of call.WaitFrame = op.WaitFrame of key.Session by handle_in then may_name
row_of call.EndFrame =
    op.EndFrame of key.Session by handle_in then key.Time by time_in then key.Blend by plain (word_in blend_name all_blends)
    then key.Layers by list_by layer_part MOST_LISTED then no_name
-- rows: end
-- action sets, actions, bindings and their states (chapter 11)
-- rows: row_of, chapter 11
row_of call.CreateActionSet =
    op.CreateActionSet of key.Instance by handle_in then key.Name by plain text_in then key.Localized by plain text_in
    then key.Priority by plain (number_in most_u32) then may_name
row_of call.DestroyActionSet = op.DestroyActionSet of key.Set by handle_in then no_name
row_of call.CreateAction =
    op.CreateAction of key.Set by handle_in then key.Name by plain text_in
    then key.ActionType by plain (word_in action_type_name all_action_types) then key.Subactions by list_by atom_part MOST_SUBACTIONS
    then key.Localized by plain text_in then may_name
row_of call.DestroyAction = op.DestroyAction of key.Action by handle_in then no_name
row_of call.SuggestBindings =
    op.SuggestBindings of key.Instance by handle_in then key.Profile by atom_in then key.Bindings by list_by binding_part MOST_BINDINGS
    then no_name
row_of call.AttachSets = op.AttachSets of key.Session by handle_in then key.Sets by list_by handle_part MOST_ATTACHED then no_name
row_of call.SyncActions = op.SyncActions of key.Session by handle_in then key.Active by list_by active_set_part MOST_ACTIVE then no_name
row_of call.GetBoolean = op.GetBoolean of key.Session by handle_in then key.Action by handle_in then key.Sub by atom_in then no_name
row_of call.GetFloat = op.GetFloat of key.Session by handle_in then key.Action by handle_in then key.Sub by atom_in then no_name
row_of call.GetVector = op.GetVector of key.Session by handle_in then key.Action by handle_in then key.Sub by atom_in then no_name
row_of call.GetPoseActive = op.GetPoseActive of key.Session by handle_in then key.Action by handle_in then key.Sub by atom_in then no_name
-- rows: end
-- marks
-- rows: row_of, marks
row_of call.Mark = op.Mark of optional_after key.Mark (plain mark_in) key.Value value_in (Number (pos 0)) no_name
row_of call.Await = op.Await of key.Mark by plain mark_in then may_name
-- rows: end
row_of _ = no_row
