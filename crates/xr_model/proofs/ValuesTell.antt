-- Printed values tell what a call gave: they are words, each behind a space.
use Rattle.std.proofs.Common.{arith, ◌≡◌, nat_le, ℕ, ℤ, Bool, true, false, List, [], ◌∷◌, ◌++◌, length, take, refl, sym, ap, subst, ◌∙◌}
use Rattle.std.specs.Prelude.{codes, decimal, FitsSigned, if◌then◌else◌}
use Rattle.std.specs.Int.{w64}
use Rattle.std.specs.Fmt.{signed_decimal}
use Rattle.std.proofs.lemmas.List.{append_assoc, append_cancel_left}
use Rattle.std.proofs.lemmas.Fmt.{decimal_injective, signed_decimal_injective}
use Rattle.xr_types.specs.declared.calls.Gives.{Gives}
use Rattle.xr_types.specs.declared.calls.Gives.TheVariants as gives
use Rattle.xr_types.specs.declared.input.BoolState.{BoolState}
use Rattle.xr_types.specs.declared.input.FloatState.{FloatState}
use Rattle.xr_types.specs.declared.input.VectorState.{VectorState}
use Rattle.xr_types.specs.declared.limits.TheConstants.{MOST_HANDLE_MARK}
use Rattle.xr_types.specs.declared.made.Made.{Made}
use Rattle.xr_types.specs.declared.names.CallName.{CallName}
use Rattle.xr_types.specs.declared.names.CallName.TheVariants as call
use Rattle.xr_types.specs.declared.session.Event.TheVariants as event
use Rattle.xr_types.specs.declared.session.FrameState.{FrameState}
use Rattle.xr_types.specs.declared.session.SessionState.{SessionState}
use Rattle.xr_types.specs.declared.session.SessionState.TheVariants as state
use Rattle.xr_types.specs.declared.spaces.Location.TheVariants as location
use Rattle.xr_types.specs.Printed.{state_name}
use Rattle.xr_model.specs.report.ReportValues.{flag, number_values, mark_values, text_behind, text_values, event_values, frame_values, change_values, boolean_values, float_values, vector_values, active_values, location_values, success_values, values_at}
use Rattle.xr_model.specs.laws.ReportLaws.{IsNumber, IsSize, IsEvent, IsFrame, IsBoolean, IsFloat, IsVector, IsActive, IsLocation, IsPrinted, without_handles, ValuesTellWhatWasGiven}
use Rattle.xr_model.proofs.DistinctNames.{names_are_distinct}
use Rattle.xr_model.proofs.Cuts.{Free, cut, same_first, same_others, decimal_free, signed_free}

-- ---- words

-- words, with a space behind each
abbrev pub follow : List (List ℕ) → List ℕ
follow [] = []
follow (w ∷ ws) = w ++ 32 ∷ follow ws

abbrev pub AllFree : List (List ℕ) → Type 0
AllFree [] = Unit {0}
AllFree (w ∷ ws) = Free 32 w × AllFree ws

-- as many words, each the same
abbrev pub SameWords : List (List ℕ) → List (List ℕ) → Type 0
SameWords [] [] = Unit {0}
SameWords [] (v ∷ vs) = ⊥
SameWords (w ∷ ws) [] = ⊥
SameWords (w ∷ ws) (v ∷ vs) = (w ≡ v) × SameWords ws vs

some_byte : (w rest : List ℕ) → [] ≡ w ++ 32 ∷ rest → ⊥
some_byte [] rest e = cc
some_byte (b ∷ bs) rest e = cc

pub words_tell : (ws vs : List (List ℕ)) → AllFree ws → AllFree vs → follow ws ≡ follow vs → SameWords ws vs
words_tell [] [] first second e = tt
words_tell [] (v ∷ vs) first second e = absurd (some_byte v (follow vs) e)
words_tell (w ∷ ws) [] first second e = absurd (some_byte w (follow ws) (sym e))
words_tell (w ∷ ws) (v ∷ vs) first second e =
    let parts = cut 32 w v (follow ws) (follow vs) first.0 second.0 e in
    (parts.0, words_tell ws vs first.1 second.1 parts.1)

-- values that are such words
values_tell : (us vs : List ℕ) (ws xs : List (List ℕ)) → AllFree ws → AllFree xs → us ++ 32 ∷ [] ≡ 32 ∷ follow ws → vs ++ 32 ∷ [] ≡ 32 ∷ follow xs → us ≡ vs
    → SameWords ws xs
values_tell us vs ws xs first second one other e =
    words_tell ws xs first second (same_others 32 32 (follow ws) (follow xs) (sym one ∙ ap (λ l. l ++ 32 ∷ []) e ∙ other))

pub number_word : (n : ℕ) → Free 32 (decimal n)
number_word n = decimal_free 32 n refl

pub signed_word : (z : ℤ) → Free 32 (signed_decimal z)
signed_word z = signed_free 32 z refl refl

flag_word : (b : Bool) → Free 32 (flag b)
flag_word true = refl
flag_word false = refl

state_word : (s : SessionState) → Free 32 (state_name s)
state_word state.Idle = refl
state_word _ = refl

pub same_signed : (y z : ℤ) → FitsSigned w64 y → FitsSigned w64 z → signed_decimal y ≡ signed_decimal z → y ≡ z
same_signed y z first second e = signed_decimal_injective y z first.sfits second.sfits e

same_flag : (a b : Bool) → flag a ≡ flag b → a ≡ b
same_flag true true e = refl
same_flag true false e = absurd (omega (arith, same_first 49 48 [] [] e))
same_flag false true e = absurd (omega (arith, same_first 48 49 [] [] e))
same_flag false false e = refl

-- values whose first words begin with other bytes differ
other_word : (a b : ℕ) (us vs : List ℕ) → (a ≡ b → ⊥) → 32 ∷ a ∷ us ≡ 32 ∷ b ∷ vs → ⊥
other_word a b us vs differ e = differ (same_first a b us vs (same_others 32 32 (a ∷ us) (b ∷ vs) e))

-- ---- what each row prints

number_tells : (g h : Gives) → IsNumber g → IsNumber h → number_values g ≡ number_values h → without_handles g ≡ without_handles h
number_tells (gives.Number a) (gives.Number b) first second e = ap gives.Number (decimal_injective a b first second (same_others 32 32 (decimal a) (decimal b) e))
number_tells (gives.Number a) _ first second e = absurd second
number_tells _ h first second e = absurd first

mark_tells : (m n : ℕ) (g h : Gives) → nat_le m MOST_HANDLE_MARK ≡ false → nat_le n MOST_HANDLE_MARK ≡ false → IsNumber g → IsNumber h
    → mark_values m g ≡ mark_values n h → without_handles g ≡ without_handles h
mark_tells m n g h low high first second e =
    number_tells g h first second (sym (ap (λ (b : Bool). if b then [] else number_values g) low) ∙ e ∙ ap (λ (b : Bool). if b then [] else number_values h) high)

-- behind a text's size stands a space
abbrev behind_size : List ℕ → List ℕ
behind_size [] = []
behind_size (b ∷ bs) = take (length bs) (b ∷ bs) ++ 32 ∷ []

size_first : (n : ℕ) (text : List ℕ) → (decimal n ++ text_behind text) ++ 32 ∷ [] ≡ decimal n ++ 32 ∷ behind_size text
size_first n [] = append_assoc (decimal n) [] (32 ∷ [])
size_first n (b ∷ bs) = append_assoc (decimal n) (text_behind (b ∷ bs)) (32 ∷ [])

size_tells : (g h : Gives) (text other : List ℕ) → IsSize g → IsSize h → text_values g text ≡ text_values h other → without_handles g ≡ without_handles h
size_tells (gives.Size a) (gives.Size b) text other first second e =
    let inner = ap (λ l. l ++ 32 ∷ []) (same_others 32 32 (decimal a ++ text_behind text) (decimal b ++ text_behind other) e) in
    let parts = cut 32 (decimal a) (decimal b) (behind_size text) (behind_size other) (number_word a) (number_word b)
    (sym (size_first a text) ∙ inner ∙ size_first b other) in
    ap gives.Size (decimal_injective a b first second parts.0)
size_tells (gives.Size a) _ text other first second e = absurd second
size_tells _ h text other first second e = absurd first

lost_words : (n : ℕ) → event_values (gives.Event (event.Lost n)) ++ 32 ∷ [] ≡ 32 ∷ follow (codes "events_lost" ∷ decimal n ∷ [])
lost_words n = simp append_assoc refl

state_words : (ordinal session : ℕ) (s : SessionState) → event_values (gives.Event (event.State ordinal session s)) ++ 32 ∷ []
    ≡ 32 ∷ follow (codes "state" ∷ decimal ordinal ∷ state_name s ∷ [])
state_words ordinal session s = simp append_assoc refl

event_tells : (g h : Gives) → IsEvent g → IsEvent h → event_values g ≡ event_values h → without_handles g ≡ without_handles h
event_tells (gives.Event (event.Lost a)) (gives.Event (event.Lost b)) first second e =
    let t = values_tell _ _ (codes "events_lost" ∷ decimal a ∷ []) (codes "events_lost" ∷ decimal b ∷ [])
    (refl, (number_word a, tt)) (refl, (number_word b, tt)) (lost_words a) (lost_words b) e in
    ap (λ n. gives.Event (event.Lost n)) (decimal_injective a b first second t.1.0)
event_tells (gives.Event (event.State a x r)) (gives.Event (event.State b y s)) first second e =
    let t = values_tell _ _ (codes "state" ∷ decimal a ∷ state_name r ∷ []) (codes "state" ∷ decimal b ∷ state_name s ∷ [])
    (refl, (number_word a, (state_word r, tt))) (refl, (number_word b, (state_word s, tt))) (state_words a x r) (state_words b y s) e in
    let ordinal = decimal_injective a b first second t.1.0 in
    let own = names_are_distinct.states r s t.1.1.0 in
    λ i. gives.Event (event.State (ordinal i) 0 (own i))
event_tells (gives.Event (event.Lost a)) (gives.Event (event.State b y s)) first second e = absurd (other_word 101 115 _ _ (λ f. omega (arith, f)) e)
event_tells (gives.Event (event.State a x r)) (gives.Event (event.Lost b)) first second e = absurd (other_word 115 101 _ _ (λ f. omega (arith, f)) e)
event_tells (gives.Event (event.Lost a)) _ first second e = absurd second
event_tells (gives.Event (event.State a x r)) _ first second e = absurd second
event_tells _ h first second e = absurd first

abbrev frame_list : FrameState → List (List ℕ)
frame_list f = codes "time" ∷ signed_decimal f.time ∷ codes "period" ∷ signed_decimal f.period ∷ codes "render" ∷ flag f.render ∷ []

frame_words : (f : FrameState) → frame_values (gives.Frame f) ++ 32 ∷ [] ≡ 32 ∷ follow (frame_list f)
frame_words f = simp append_assoc refl

frame_free : (f : FrameState) → AllFree (frame_list f)
frame_free f = (refl, (signed_word f.time, (refl, (signed_word f.period, (refl, (flag_word f.render, tt))))))

frame_tells : (g h : Gives) → IsFrame g → IsFrame h → frame_values g ≡ frame_values h → without_handles g ≡ without_handles h
frame_tells (gives.Frame f) (gives.Frame k) first second e =
    let t = values_tell _ _ (frame_list f) (frame_list k) (frame_free f) (frame_free k) (frame_words f) (frame_words k) e in
    let time = same_signed f.time k.time first.0 second.0 t.1.0 in
    let period = same_signed f.period k.period first.1 second.1 t.1.1.1.0 in
    let render = same_flag f.render k.render t.1.1.1.1.1.0 in
    λ i. gives.Frame (record { time = time i; period = period i; render = render i })
frame_tells (gives.Frame f) _ first second e = absurd second
frame_tells _ h first second e = absurd first

-- what the states of all actions have behind their value
change_spread : (value c changed d time f active last : List ℕ)
    → (value ++ (((((c ++ changed) ++ d) ++ time) ++ f) ++ active)) ++ last ≡ value ++ (c ++ (changed ++ (d ++ (time ++ (f ++ (active ++ last))))))
change_spread value c changed d time f active last = simp append_assoc refl

change_words : (value : List ℕ) (changed : Bool) (time : ℤ) (active : Bool) → (value ++ change_values changed time active) ++ 32 ∷ []
    ≡ value ++ 32 ∷ follow (codes "changed" ∷ flag changed ∷ codes "time" ∷ signed_decimal time ∷ codes "active" ∷ flag active ∷ [])
change_words value changed time active =
    change_spread value (codes " changed ") (flag changed) (codes " time ") (signed_decimal time) (codes " active ") (flag active) (32 ∷ [])

abbrev boolean_list : BoolState → List (List ℕ)
boolean_list s = codes "value" ∷ flag s.value ∷ codes "changed" ∷ flag s.changed ∷ codes "time" ∷ signed_decimal s.time ∷ codes "active" ∷ flag s.active ∷ []

boolean_words : (s : BoolState) → boolean_values (gives.Boolean s) ++ 32 ∷ [] ≡ 32 ∷ follow (boolean_list s)
boolean_words s = ap (λ l. codes " value " ++ l) (change_words (flag s.value) s.changed s.time s.active)

boolean_free : (s : BoolState) → AllFree (boolean_list s)
boolean_free s = (refl, (flag_word s.value, (refl, (flag_word s.changed, (refl, (signed_word s.time, (refl, (flag_word s.active, tt))))))))

boolean_tells : (g h : Gives) → IsBoolean g → IsBoolean h → boolean_values g ≡ boolean_values h → without_handles g ≡ without_handles h
boolean_tells (gives.Boolean s) (gives.Boolean k) first second e =
    let t = values_tell _ _ (boolean_list s) (boolean_list k) (boolean_free s) (boolean_free k) (boolean_words s) (boolean_words k) e in
    let value = same_flag s.value k.value t.1.0 in
    let changed = same_flag s.changed k.changed t.1.1.1.0 in
    let time = same_signed s.time k.time first second t.1.1.1.1.1.0 in
    let active = same_flag s.active k.active t.1.1.1.1.1.1.1.0 in
    λ i. gives.Boolean (record { value = value i; changed = changed i; time = time i; active = active i })
boolean_tells (gives.Boolean s) _ first second e = absurd second
boolean_tells _ h first second e = absurd first

abbrev float_list : FloatState → List (List ℕ)
float_list s =
    codes "value" ∷ signed_decimal s.value ∷ codes "changed" ∷ flag s.changed ∷ codes "time" ∷ signed_decimal s.time ∷ codes "active" ∷ flag s.active ∷ []

float_words : (s : FloatState) → float_values (gives.Float s) ++ 32 ∷ [] ≡ 32 ∷ follow (float_list s)
float_words s = ap (λ l. codes " value " ++ l) (change_words (signed_decimal s.value) s.changed s.time s.active)

float_free : (s : FloatState) → AllFree (float_list s)
float_free s = (refl, (signed_word s.value, (refl, (flag_word s.changed, (refl, (signed_word s.time, (refl, (flag_word s.active, tt))))))))

float_tells : (g h : Gives) → IsFloat g → IsFloat h → float_values g ≡ float_values h → without_handles g ≡ without_handles h
float_tells (gives.Float s) (gives.Float k) first second e =
    let t = values_tell _ _ (float_list s) (float_list k) (float_free s) (float_free k) (float_words s) (float_words k) e in
    let value = same_signed s.value k.value first.0 second.0 t.1.0 in
    let changed = same_flag s.changed k.changed t.1.1.1.0 in
    let time = same_signed s.time k.time first.1 second.1 t.1.1.1.1.1.0 in
    let active = same_flag s.active k.active t.1.1.1.1.1.1.1.0 in
    λ i. gives.Float (record { value = value i; changed = changed i; time = time i; active = active i })
float_tells (gives.Float s) _ first second e = absurd second
float_tells _ h first second e = absurd first

two_spread : (x y rest : List ℕ) → ((x ++ codes " ") ++ y) ++ rest ≡ x ++ 32 ∷ (y ++ rest)
two_spread x y rest = simp append_assoc refl

abbrev vector_list : VectorState → List (List ℕ)
vector_list s =
    codes "value" ∷ signed_decimal s.x ∷ signed_decimal s.y ∷ codes "changed" ∷ flag s.changed ∷ codes "time" ∷ signed_decimal s.time ∷ codes "active" ∷ flag s.active ∷ []

vector_words : (s : VectorState) → vector_values (gives.Vector s) ++ 32 ∷ [] ≡ 32 ∷ follow (vector_list s)
vector_words s =
    ap (λ l. codes " value " ++ l) (change_words ((signed_decimal s.x ++ codes " ") ++ signed_decimal s.y) s.changed s.time s.active
    ∙ two_spread (signed_decimal s.x) (signed_decimal s.y) _)

vector_free : (s : VectorState) → AllFree (vector_list s)
vector_free s =
    (refl, (signed_word s.x, (signed_word s.y, (refl, (flag_word s.changed, (refl, (signed_word s.time, (refl, (flag_word s.active, tt)))))))))

vector_tells : (g h : Gives) → IsVector g → IsVector h → vector_values g ≡ vector_values h → without_handles g ≡ without_handles h
vector_tells (gives.Vector s) (gives.Vector k) first second e =
    let t = values_tell _ _ (vector_list s) (vector_list k) (vector_free s) (vector_free k) (vector_words s) (vector_words k) e in
    let x = same_signed s.x k.x first.0 second.0 t.1.0 in
    let y = same_signed s.y k.y first.1 second.1 t.1.1.0 in
    let changed = same_flag s.changed k.changed t.1.1.1.1.0 in
    let time = same_signed s.time k.time first.2 second.2 t.1.1.1.1.1.1.0 in
    let active = same_flag s.active k.active t.1.1.1.1.1.1.1.1.0 in
    λ i. gives.Vector (record { x = x i; y = y i; changed = changed i; time = time i; active = active i })
vector_tells (gives.Vector s) _ first second e = absurd second
vector_tells _ h first second e = absurd first

active_tells : (g h : Gives) → IsActive g → IsActive h → active_values g ≡ active_values h → without_handles g ≡ without_handles h
active_tells (gives.Active a) (gives.Active b) first second e = ap gives.Active (same_flag a b (append_cancel_left (codes " active ") (flag a) (flag b) e))
active_tells (gives.Active a) _ first second e = absurd second
active_tells _ h first second e = absurd first

abbrev factor_list : ℕ → ℕ → ℕ → ℕ → List (List ℕ)
factor_list a b c d = (45 ∷ decimal a) ∷ (45 ∷ decimal b) ∷ (43 ∷ decimal c) ∷ (43 ∷ decimal d) ∷ []

factor_words : (a b c d : ℕ) → location_values (gives.Location (location.Factors a b c d)) ++ 32 ∷ [] ≡ 32 ∷ follow (factor_list a b c d)
factor_words a b c d = simp append_assoc refl

factor_free : (a b c d : ℕ) → AllFree (factor_list a b c d)
factor_free a b c d = (number_word a, (number_word b, (number_word c, (number_word d, tt))))

location_tells : (g h : Gives) → IsLocation g → IsLocation h → location_values g ≡ location_values h → without_handles g ≡ without_handles h
location_tells (gives.Location location.Missing) (gives.Location location.Missing) first second e = refl
location_tells (gives.Location (location.Factors a b c d)) (gives.Location (location.Factors p q r s)) first second e =
    let t = values_tell _ _ (factor_list a b c d) (factor_list p q r s) (factor_free a b c d) (factor_free p q r s) (factor_words a b c d) (factor_words p q r s) e in
    let one = decimal_injective a p first.0 second.0 (same_others 45 45 (decimal a) (decimal p) t.0) in
    let two = decimal_injective b q first.1 second.1 (same_others 45 45 (decimal b) (decimal q) t.1.0) in
    let three = decimal_injective c r first.2 second.2 (same_others 43 43 (decimal c) (decimal r) t.1.1.0) in
    let four = decimal_injective d s first.3 second.3 (same_others 43 43 (decimal d) (decimal s) t.1.1.1.0) in
    λ i. gives.Location (location.Factors (one i) (two i) (three i) (four i))
location_tells (gives.Location location.Missing) (gives.Location (location.Factors p q r s)) first second e = absurd (other_word 109 45 _ _ (λ f. omega (arith, f)) e)
location_tells (gives.Location (location.Factors a b c d)) (gives.Location location.Missing) first second e = absurd (other_word 45 109 _ _ (λ f. omega (arith, f)) e)
location_tells (gives.Location location.Missing) _ first second e = absurd second
location_tells (gives.Location (location.Factors a b c d)) _ first second e = absurd second
location_tells _ h first second e = absurd first

-- ---- a call that succeeded

success_tells : (c : CallName) (m n : Made) → IsPrinted c m.mark m.reply.gives → IsPrinted c n.mark n.reply.gives → success_values c m ≡ success_values c n
    → without_handles m.reply.gives ≡ without_handles n.reply.gives
-- rows: success_tells
success_tells call.GetSystem m n first second e = number_tells m.reply.gives n.reply.gives first second e
success_tells call.StringToPath m n first second e = number_tells m.reply.gives n.reply.gives first second e
success_tells call.AcquireImage m n first second e = number_tells m.reply.gives n.reply.gives first second e
success_tells call.PathToString m n first second e = size_tells m.reply.gives n.reply.gives m.text n.text first second e
success_tells call.PollEvent m n first second e = event_tells m.reply.gives n.reply.gives first second e
success_tells call.LocateSpace m n first second e = location_tells m.reply.gives n.reply.gives first second e
success_tells call.GetBoolean m n first second e = boolean_tells m.reply.gives n.reply.gives first second e
success_tells call.GetFloat m n first second e = float_tells m.reply.gives n.reply.gives first second e
success_tells call.GetVector m n first second e = vector_tells m.reply.gives n.reply.gives first second e
success_tells call.GetPoseActive m n first second e = active_tells m.reply.gives n.reply.gives first second e
success_tells call.WaitFrame m n first second e = frame_tells m.reply.gives n.reply.gives first second e
success_tells call.Await m n first second e = mark_tells m.mark n.mark m.reply.gives n.reply.gives first.0 second.0 first.1 second.1 e
-- rows: end
success_tells _ m n first second e = absurd first

pub values_tell_what_was_given : ValuesTellWhatWasGiven
values_tell_what_was_given m n one other same first second e =
    success_tells m.name m n first (subst (λ c. IsPrinted c n.mark n.reply.gives) (sym same) second)
    (ap (λ c. values_at c m) (sym one) ∙ e ∙ ap (λ c. values_at c n) other ∙ ap (λ c. success_values c n) (sym same))
