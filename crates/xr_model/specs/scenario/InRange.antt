-- Which ops have the forms, ranges and lengths of their rows, whatever the places that they use.
use Rattle.std.specs.Prelude.{ℕ, ℤ, pos, negsuc, ◌-◌, ◌^◌, ◌≤◌, ◌≤ℤ◌, nat_le, Bool, true, false, List, [], ◌∷◌, length, ⊤}
use Rattle.xr_types.specs.declared.limits.TheConstants.{MOST_TEXT, MOST_CAPACITY, MOST_SUBACTIONS, MOST_ATTACHED, MOST_BINDINGS, MOST_ACTIVE, MOST_LISTED, MOST_VIEWS, MOST_MARK, MOST_HANDLE_MARK}
use Rattle.xr_types.specs.declared.scenario.ActiveSetUse.{ActiveSetUse}
use Rattle.xr_types.specs.declared.scenario.AtomUse.{AtomUse}
use Rattle.xr_types.specs.declared.scenario.BindingUse.{BindingUse}
use Rattle.xr_types.specs.declared.scenario.HandleUse.{HandleUse}
use Rattle.xr_types.specs.declared.scenario.LayerUse.{LayerUse}
use Rattle.xr_types.specs.declared.scenario.LayerUse.TheVariants.{Projection, Quad}
use Rattle.xr_types.specs.declared.scenario.Op.{Op}
use Rattle.xr_types.specs.declared.scenario.Op.TheVariants as op
use Rattle.xr_types.specs.declared.scenario.Sort.{Sort}
use Rattle.xr_types.specs.declared.scenario.Sort.TheVariants as sort
use Rattle.xr_types.specs.declared.scenario.SubImageUse.{SubImageUse}
use Rattle.xr_types.specs.declared.scenario.Use.{Use}
use Rattle.xr_types.specs.declared.scenario.Use.TheVariants.{Number, Of}
use Rattle.xr_model.specs.scenario.Fields.{most, most_u32, least_i64, most_i64}

-- a number of a range, or a place
abbrev pub IsUse : (Sort → ℕ → Type 0) → Sort → ℤ → ℤ → Use → Type 0
IsUse P kind least greatest (Number n) = (least ≤ℤ n) × (n ≤ℤ greatest)
IsUse P kind least greatest (Of place) = P kind place

abbrev pub IsHandle : (Sort → ℕ → Type 0) → Use → Type 0
IsHandle P u = IsUse P sort.Handle (pos 0) (pos 0) u

abbrev pub IsAtom : (Sort → ℕ → Type 0) → Use → Type 0
IsAtom P u = IsUse P sort.Atom (pos 0) most_i64 u

abbrev pub IsSystem : (Sort → ℕ → Type 0) → Use → Type 0
IsSystem P u = IsUse P sort.Number (pos 0) most_i64 u

abbrev pub IsTime : (Sort → ℕ → Type 0) → Use → Type 0
IsTime P u = IsUse P sort.Number least_i64 most_i64 u

abbrev pub IsValueBy : Bool → (Sort → ℕ → Type 0) → Use → Type 0
IsValueBy true P u = IsHandle P u
IsValueBy false P u = IsAtom P u

-- the value of a mark is a handle for marks 1 to 32, and an atom for the others
abbrev pub IsValue : (Sort → ℕ → Type 0) → ℕ → Use → Type 0
IsValue P mark u = IsValueBy (nat_le mark MOST_HANDLE_MARK) P u

abbrev pub IsMark : ℕ → Type 0
IsMark n = (1 ≤ n) × (n ≤ MOST_MARK)

abbrev pub IsTimeout : ℤ → Type 0
IsTimeout n = (pos 0 ≤ℤ n) × (n ≤ℤ most_i64)

abbrev pub IsText : List ℕ → Type 0
IsText t = length t ≤ MOST_TEXT

-- ---- lists

abbrev pub Each : {T : Type 0} → (T → Type 0) → List T → Type 0
Each P [] = ⊤
Each P (x ∷ xs) = P x × Each P xs

-- a list of at most so many items, each of which is one
abbrev pub AreAtMost : {T : Type 0} → ℕ → (T → Type 0) → List T → Type 0
AreAtMost n P xs = (length xs ≤ n) × Each P xs

abbrev pub IsHandlePart : (Sort → ℕ → Type 0) → HandleUse → Type 0
IsHandlePart P u = IsHandle P u.handle

abbrev pub IsAtomPart : (Sort → ℕ → Type 0) → AtomUse → Type 0
IsAtomPart P u = IsAtom P u.atom

abbrev pub IsBinding : (Sort → ℕ → Type 0) → BindingUse → Type 0
IsBinding P u = IsHandle P u.action × IsAtom P u.path

abbrev pub IsActiveSet : (Sort → ℕ → Type 0) → ActiveSetUse → Type 0
IsActiveSet P u = IsHandle P u.set × IsAtom P u.sub

abbrev pub IsPixel : ℤ → Type 0
IsPixel n = (negsuc (2 ^ 31 - 1) ≤ℤ n) × (n ≤ℤ pos (2 ^ 31 - 1))

abbrev pub IsSubImage : (Sort → ℕ → Type 0) → SubImageUse → Type 0
IsSubImage P u = IsHandle P u.chain × IsPixel u.x × IsPixel u.y × IsPixel u.w × IsPixel u.h

abbrev pub IsLayer : (Sort → ℕ → Type 0) → LayerUse → Type 0
IsLayer P (Projection space views) = IsHandle P space × AreAtMost MOST_VIEWS (IsSubImage P) views
IsLayer P (Quad space image pose) = IsHandle P space × IsSubImage P image × (pose ≤ most)

-- ---- ops

-- An op whose numbers, texts and lists are in range, and of whose places this is so.
abbrev pub IsFormed : (Sort → ℕ → Type 0) → Op → Type 0
-- rows: IsFormed
IsFormed P (op.CreateInstance major minor) = (major ≤ most_u32) × (minor ≤ most_u32)
IsFormed P (op.DestroyInstance instance) = IsHandle P instance
IsFormed P (op.PollEvent instance) = IsHandle P instance
IsFormed P (op.GetSystem instance form) = IsHandle P instance
IsFormed P (op.StringToPath instance text) = IsHandle P instance × IsText text
IsFormed P (op.PathToString instance path capacity) = IsHandle P instance × IsAtom P path × (capacity ≤ MOST_CAPACITY)
IsFormed P (op.CreateSession instance system) = IsHandle P instance × IsSystem P system
IsFormed P (op.DestroySession session) = IsHandle P session
IsFormed P (op.EndSession session) = IsHandle P session
IsFormed P (op.RequestExitSession session) = IsHandle P session
IsFormed P (op.BeginFrame session) = IsHandle P session
IsFormed P (op.BeginSession session view) = IsHandle P session
IsFormed P (op.CreateReferenceSpace session kind offset) = IsHandle P session × (offset ≤ most)
IsFormed P (op.CreateActionSpace session action sub offset) = IsHandle P session × IsHandle P action × IsAtom P sub × (offset ≤ most)
IsFormed P (op.DestroySpace space) = IsHandle P space
IsFormed P (op.LocateSpace space base time) = IsHandle P space × IsHandle P base × IsTime P time
IsFormed P (op.CreateActionSet instance called localized priority) = IsHandle P instance × IsText called × IsText localized × (priority ≤ most_u32)
IsFormed P (op.DestroyActionSet set) = IsHandle P set
IsFormed P (op.CreateAction set called kind subactions localized) = IsHandle P set × IsText called × AreAtMost MOST_SUBACTIONS (IsAtomPart P) subactions × IsText localized
IsFormed P (op.DestroyAction action) = IsHandle P action
IsFormed P (op.SuggestBindings instance profile bindings) = IsHandle P instance × IsAtom P profile × AreAtMost MOST_BINDINGS (IsBinding P) bindings
IsFormed P (op.AttachSets session sets) = IsHandle P session × AreAtMost MOST_ATTACHED (IsHandlePart P) sets
IsFormed P (op.SyncActions session active) = IsHandle P session × AreAtMost MOST_ACTIVE (IsActiveSet P) active
IsFormed P (op.GetBoolean session action sub) = IsHandle P session × IsHandle P action × IsAtom P sub
IsFormed P (op.GetFloat session action sub) = IsHandle P session × IsHandle P action × IsAtom P sub
IsFormed P (op.GetVector session action sub) = IsHandle P session × IsHandle P action × IsAtom P sub
IsFormed P (op.GetPoseActive session action sub) = IsHandle P session × IsHandle P action × IsAtom P sub
IsFormed P (op.CreateSwapchain session format width height fixed) = IsHandle P session × (format ≤ most) × (width ≤ most_u32) × (height ≤ most_u32)
IsFormed P (op.DestroySwapchain chain) = IsHandle P chain
IsFormed P (op.AcquireImage chain) = IsHandle P chain
IsFormed P (op.ReleaseImage chain) = IsHandle P chain
IsFormed P (op.WaitImage chain timeout) = IsHandle P chain × IsTimeout timeout
IsFormed P (op.Paint chain stamp) = IsHandle P chain × (stamp ≤ most)
IsFormed P (op.WaitFrame session) = IsHandle P session
IsFormed P (op.EndFrame session time blend layers) = IsHandle P session × IsTime P time × AreAtMost MOST_LISTED (IsLayer P) layers
IsFormed P (op.Mark mark value) = IsMark mark × IsValue P mark value
IsFormed P (op.Await mark) = IsMark mark

-- rows: end
