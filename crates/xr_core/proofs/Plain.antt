-- Plain refusals: they give nothing, and are no success and no want of memory. All refusals of all rules are, but one: a text
-- that doesn't fit is refused with its size.
use Rattle.std.proofs.Common.{◌≡◌, ◌&&◌, ◌++◌, ℕ, Bool, true, false, not, List, [], ◌∷◌, map, Option, Some, None, refl, sym, true≢false}
use Rattle.std.specs.Prelude.{if◌then◌else◌}
use Rattle.std.specs.List.{list_all}
use Rattle.xr_types.specs.declared.calls.Actor.{Actor}
use Rattle.xr_types.specs.declared.calls.Gives.{Gives}
use Rattle.xr_types.specs.declared.calls.Gives.TheVariants.{Nothing}
use Rattle.xr_types.specs.declared.handles.Kind.{Kind}
use Rattle.xr_types.specs.declared.input.Binding.{Binding}
use Rattle.xr_types.specs.declared.input.Profile.{Profile}
use Rattle.xr_types.specs.declared.handles.Kind.TheVariants.{ActionSet, Action}
use Rattle.xr_types.specs.Code.{is_out_of_memory, is_success}
use Rattle.xr_types.specs.declared.input.ActiveSet.{ActiveSet}
use Rattle.xr_model.specs.machine.Rules.Sync.{item_checks}
use Rattle.xr_model.specs.machine.Handles.{Handles, no_handle, no_room}
use Rattle.xr_types.specs.declared.calls.Call.{Call}
use Rattle.xr_types.specs.declared.calls.Call.TheVariants as ask
use Rattle.xr_types.specs.declared.frames.Layer.{Layer}
use Rattle.xr_types.specs.declared.frames.Layer.TheVariants.{Projection, Quad}
use Rattle.xr_model.specs.machine.Layers.{Look, layer_checks}
use Rattle.xr_model.specs.machine.Rules.Frames.{look_of}
use Rattle.std.specs.Prelude.{flat_map}
use Rattle.xr_model.specs.machine.Refusals.{Refusal, first_of}
use Rattle.xr_model.specs.machine.Rule.{refusals}
use Rattle.xr_model.specs.machine.Rules.Bindings.{profile_at, bindings_checks}
use Rattle.xr_model.specs.machine.Rules.Sets.{sub_checks, with_user, user_at}
use Rattle.xr_model.specs.machine.Sets.{no_users, action_label_checks}
use Rattle.xr_model.specs.machine.State.{CoreState, CellReads}
use Rattle.xr_model.specs.machine.Machine.{rule_of}
use Rattle.xr_model.proofs.Rows.{both_of}

abbrev pub gives_nothing : Gives → Bool
gives_nothing Nothing = true
gives_nothing _ = false

abbrev pub is_plain : Refusal → Bool
is_plain r = gives_nothing r.gives && (not (is_out_of_memory r.code) && not (is_success r.code))

abbrev pub are_plain : List Refusal → Bool
are_plain rs = list_all is_plain rs

pub record IsPlain (r : Refusal) : Type 0 where
  pub gives : r.gives ≡ Nothing
  pub memory : is_out_of_memory r.code ≡ false
  pub fails : is_success r.code ≡ false

nothing_is : (g : Gives) → gives_nothing g ≡ true → g ≡ Nothing
nothing_is Nothing e = refl
nothing_is _ e = absurd (true≢false (sym e))

not_so : (b : Bool) → not b ≡ true → b ≡ false
not_so true e = absurd (true≢false (sym e))
not_so false e = refl

pub plain_one : (r : Refusal) → is_plain r ≡ true → IsPlain r
plain_one r plain =
    let two = both_of (gives_nothing r.gives) (not (is_out_of_memory r.code) && not (is_success r.code)) plain in
    let rest = both_of (not (is_out_of_memory r.code)) (not (is_success r.code)) two.1 in
    record { gives = nothing_is r.gives two.0; memory = not_so (is_out_of_memory r.code) rest.0; fails = not_so (is_success r.code) rest.1 }

pub first_plain : (rs : List Refusal) (r : Refusal) → are_plain rs ≡ true → first_of rs ≡ Some r → IsPlain r
first_plain [] r plain found = cc
first_plain (x ∷ xs) r plain found =
    let two = both_of (is_plain x) (are_plain xs) plain in
    by x.holds found (first_plain xs r two.1) two.0
  where
    same : (a b : Refusal) → Some a ≡ Some b → a ≡ b
    same a b e = cc

    by : (b : Bool) → (if b then Some x else first_of xs) ≡ Some r → (first_of xs ≡ Some r → IsPlain r) → is_plain x ≡ true → IsPlain r
    by true found more here = rw (← same x r found) (plain_one x here)
    by false found more here = more found

-- ---- lists of them

pub plain_more : (xs ys : List Refusal) → are_plain xs ≡ true → are_plain ys ≡ true → are_plain (xs ++ ys) ≡ true
plain_more [] ys one two = two
plain_more (x ∷ xs) ys one two = let both = both_of (is_plain x) (are_plain xs) one in rw both.0 (plain_more xs ys both.1 two)

pub plain_handles : (h : Handles) (kind : Kind) (handles : List ℕ) → are_plain (map (no_handle h kind) handles) ≡ true
plain_handles h kind [] = refl
plain_handles h kind (handle ∷ handles) = plain_handles h kind handles

pub plain_subs : (atoms : List (List ℕ)) (declared : List Bool) (subs : List ℕ) → are_plain (sub_checks atoms declared subs) ≡ true
plain_subs atoms declared [] = refl
plain_subs atoms declared (sub ∷ subs) = plain_subs atoms (with_user declared (user_at atoms sub)) subs

pub plain_bindings : (s : CoreState) (o : Option Profile) (list : List Binding) → are_plain (bindings_checks s o list) ≡ true
plain_bindings s None list = refl
plain_bindings s (Some which) [] = refl
plain_bindings s (Some which) (b ∷ list) = plain_bindings s (Some which) list

pub plain_layers : (look : Look) (layers : List Layer) → are_plain (flat_map (layer_checks look) layers) ≡ true
plain_layers look [] = refl
plain_layers look (Projection space count views ∷ layers) = plain_layers look layers
plain_layers look (Quad space image pose ∷ layers) = plain_layers look layers

pub plain_items : (s : CoreState) (session : ℕ) (active : List ActiveSet) → are_plain (flat_map (item_checks s session) active) ≡ true
plain_items s session [] = refl
plain_items s session (item ∷ active) = plain_items s session active

-- ---- all rules

-- the call whose refusal may give a size
abbrev pub gives_size : Call → Bool
gives_size (ask.PathToString instance path capacity) = true
gives_size _ = false

pub plain_rule : (s : CoreState) (reads : CellReads) (who : Actor) (given : ℕ) (what : Call) → gives_size what ≡ false → are_plain (refusals (rule_of s reads who given what)) ≡ true
plain_rule s reads who given = by
  where
    by : (r : Call) → gives_size r ≡ false → are_plain (refusals (rule_of s reads who given r)) ≡ true
    by (ask.PathToString instance path capacity) sized = absurd (true≢false sized)
    by (ask.CreateAction set name type subs localized) sized =
        plain_more (sub_checks s.atoms no_users subs) (action_label_checks s.inputs set localized ++ no_room s.handles Action ∷ []) (plain_subs s.atoms no_users subs) refl
    by (ask.SuggestBindings instance profile list) sized = plain_bindings s (profile_at s.atoms profile) list
    by (ask.AttachSets session handles) sized = plain_handles s.handles ActionSet handles
    by (ask.SyncActions session active) sized = plain_items s session active
    by (ask.EndFrame session time blend layers) sized = plain_layers (look_of s session) layers
    by (ask.CreateInstance major minor) sized = refl
    by _ sized = refl
