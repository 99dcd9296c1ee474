-- The line of an event tells the event, since its part is a line of a device's text, which reads back.
use Rattle.std.proofs.Common.{arith, ◌≡◌, ◌==◌, not, nat_le, ℕ, ℤ, Bool, true, false, List, [], ◌∷◌, ◌++◌, Option, Some, None, refl, sym, ap, ◌∙◌, true≢false}
use Rattle.std.specs.Prelude.{codes, decimal}
use Rattle.std.specs.List.{list_all}
use Rattle.std.specs.Fmt.{signed_decimal}
use Rattle.std.proofs.lemmas.Bool.Decides.{nat_tests}
use Rattle.std.proofs.lemmas.List.{append_assoc, append_cancel_right}
use Rattle.std.proofs.lemmas.Fmt.{decimal_injective}
use Rattle.xr_types.specs.declared.device.DeviceEvent.{DeviceEvent}
use Rattle.xr_types.specs.declared.device.DeviceEvent.TheVariants as event
use Rattle.xr_types.specs.declared.device.Wish.{Wish}
use Rattle.xr_types.specs.declared.device.Wish.TheVariants as wish
use Rattle.xr_types.specs.declared.input.Profile.{Profile}
use Rattle.xr_types.specs.declared.input.Profile.TheVariants as profile
use Rattle.xr_types.specs.declared.input.User.{User}
use Rattle.xr_types.specs.declared.input.User.TheVariants as user
use Rattle.xr_types.specs.declared.spaces.Origin.{Origin}
use Rattle.xr_types.specs.declared.spaces.Origin.TheVariants as origin
use Rattle.xr_types.specs.InputNames.{input_name}
use Rattle.xr_types.specs.Printed.{wish_name, user_path, origin_name}
use Rattle.xr_types.proofs.RowSorts.{each_under, under_each}
use Rattle.xr_model.specs.device_text.DeviceLines.{connected, device_line}
use Rattle.xr_model.specs.device_text.DeviceText.{event_of}
use Rattle.xr_model.specs.report.ReportLines.{event_text}
use Rattle.xr_model.specs.laws.DeviceLaws.{is_of_line}
use Rattle.xr_model.specs.laws.ReportLaws.{IsTold, EventLinesTellTheEvent}
use Rattle.xr_model.proofs.Cuts.{Free, free_both, cut, decimal_free, signed_free}
use Rattle.xr_model.proofs.LinesBack.{lines_read_back}

-- ---- no line has an `@`

number_plain : (n : ℕ) → Free 64 (decimal n)
number_plain n = decimal_free 64 n refl

signed_plain : (z : ℤ) → Free 64 (signed_decimal z)
signed_plain z = signed_free 64 z refl refl

wish_plain : (w : Wish) → Free 64 (wish_name w)
wish_plain wish.Rest = refl
wish_plain _ = refl

user_plain : (who : User) → Free 64 (user_path who)
user_plain user.Left = refl
user_plain _ = refl

connected_plain : (p : Option Profile) → Free 64 (connected p)
connected_plain None = refl
connected_plain (Some profile.Simple) = refl
connected_plain (Some _) = refl

origin_plain : (o : Origin) → Free 64 (origin_name o)
origin_plain origin.View = refl
origin_plain origin.Local = refl
origin_plain origin.Stage = refl
origin_plain (origin.Grip user.Left) = refl
origin_plain (origin.Grip _) = refl
origin_plain (origin.Aim user.Left) = refl
origin_plain (origin.Aim _) = refl

abbrev is_plain : ℕ → Bool
is_plain row = list_all (λ b. not (b == 64)) (input_name row)

rows_plain : each_under is_plain 41 ≡ true
rows_plain = refl

input_plain : (row : ℕ) → Free 64 (input_name row)
input_plain row = by (nat_le row 40) refl
  where
    by : (b : Bool) → nat_le row 40 ≡ b → Free 64 (input_name row)
    by true few = under_each is_plain 41 row rows_plain (grind (arith, nat_tests, few))
    by false few = let some : nat_le 1 row ≡ true = grind (arith, nat_tests, few) in rw (some, few) refl

pub line_plain : (e : DeviceEvent) → Free 64 (device_line e)
line_plain (event.Clock time) = signed_plain time
line_plain (event.Grid base period) = search (free_both, signed_plain) depth 12
line_plain (event.Wish w) = wish_plain w
line_plain event.Loss = refl
line_plain event.Lost = refl
line_plain (event.Stage true) = refl
line_plain (event.Stage false) = refl
line_plain (event.Profile who p) = search (free_both, user_plain, connected_plain) depth 12
line_plain (event.Input who row value) = search (free_both, user_plain, input_plain, signed_plain) depth 12
line_plain (event.Pose o time pose) = search (free_both, origin_plain, signed_plain, number_plain) depth 12
line_plain (event.Mark n) = number_plain n
line_plain (event.Await n) = number_plain n
line_plain event.Fault = refl
line_plain (event.Garbled line) = refl

-- ---- a line

pub text_is : (number : ℕ) (e : DeviceEvent) → is_of_line e ≡ true → event_text number e ≡ (decimal number ++ codes " ") ++ device_line e
text_is number event.Fault line = absurd (true≢false (sym line))
text_is number (event.Garbled at) line = absurd (true≢false (sym line))
text_is number _ line = refl

spread : (number line place : List ℕ) → ((number ++ codes " ") ++ line) ++ (codes " @" ++ place) ≡ number ++ 32 ∷ ((line ++ 32 ∷ []) ++ 64 ∷ place)
spread number line place = simp append_assoc refl

pub same_event : (e f : DeviceEvent) → IsTold e → IsTold f → device_line e ≡ device_line f → e ≡ f
same_event e f first second same = one (sym (lines_read_back e first.line first.good) ∙ ap event_of same ∙ lines_read_back f second.line second.good)
  where
    one : Some e ≡ Some f → e ≡ f
    one is = cc

pub event_lines_tell_the_event : EventLinesTellTheEvent
event_lines_tell_the_event j k e f m n j_small k_small first second m_small n_small is =
    let body = append_cancel_right (event_text j e ++ (codes " @" ++ decimal m.reply.place)) (event_text k f ++ (codes " @" ++ decimal n.reply.place)) (codes "\n") is in
    let one = ap (λ t. t ++ (codes " @" ++ decimal m.reply.place)) (text_is j e first.line) ∙ spread (decimal j) (device_line e) (decimal m.reply.place) in
    let other = ap (λ t. t ++ (codes " @" ++ decimal n.reply.place)) (text_is k f second.line) ∙ spread (decimal k) (device_line f) (decimal n.reply.place) in
    let number = cut 32 (decimal j) (decimal k) _ _ (decimal_free 32 j refl) (decimal_free 32 k refl) (sym one ∙ body ∙ other) in
    let line = cut 64 (device_line e ++ 32 ∷ []) (device_line f ++ 32 ∷ []) (decimal m.reply.place) (decimal n.reply.place)
    (free_both 64 (device_line e) (32 ∷ []) (line_plain e) refl) (free_both 64 (device_line f) (32 ∷ []) (line_plain f) refl) number.1 in (
      decimal_injective j k j_small k_small number.0,
      same_event e f first second (append_cancel_right (device_line e) (device_line f) (32 ∷ []) line.0),
      decimal_injective m.reply.place n.reply.place m_small n_small line.1,
    )
