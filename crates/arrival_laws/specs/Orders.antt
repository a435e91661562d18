-- Arrival orders: inputs of a cell that rise one by one within a phase, the circuit settling after each.
use Rattle.std.specs.Prelude.{◌≡◌, ℕ, Bool, true, false, cond, ◌||◌, ◌==◌, List, [], ◌∷◌, IsSome, option_and_then, slice_get, unwrap_or}
use Rattle.vrt_model.specs.Assignment.{Assignment}
use Rattle.vrt_model.specs.Comparison.{Comparison, is_observed}
use Rattle.vrt_model.specs.Constraints.{Meets}
use Rattle.vrt_model.specs.Equal.{IsPhaseEqual}
use Rattle.vrt_model.specs.Faults.{Solves, Stands}
use Rattle.vrt_model.specs.Held.{setting_of}
use Rattle.vrt_model.specs.Lists.{has_number}
use Rattle.vrt_model.specs.Reading.{Partial}
use Rattle.vrt_model.specs.Solution.{SameObserved}
use Rattle.vrt_model.specs.State.{Setting}
use Rattle.vrt_model.specs.declared.circuit.Circuit.{Circuit}
use Rattle.vrt_model.specs.declared.circuit.Hold.{Hold}
use Rattle.vrt_model.specs.declared.verdict.FaultKind.{FaultKind}
use Rattle.vrt_model.specs.declared.verdict.FaultKind.TheVariants.{Fight, FightKept, Float, Unsettled, Constraint, Differs, Next, Apart, Enter}

-- ---- settling

-- the faults of the circuit itself, which may stand at any setting; the others are of constraints, of the model and of the next phase
abbrev pub is_of_circuit : FaultKind → Bool
is_of_circuit Fight = true
is_of_circuit FightKept = true
is_of_circuit Float = true
is_of_circuit Unsettled = true
is_of_circuit Constraint = false
is_of_circuit Differs = false
is_of_circuit Next = false
is_of_circuit Apart = false
is_of_circuit Enter = false

-- the circuit settles at a setting: exactly one solution, a bit at each observed net, and none of these faults
pub record Settles (k : Comparison) (phase : ℕ) (s : Setting) : Type 0 where
  pub solution : (a : Partial) × Solves k phase s a
  pub one_solution : (a b : Partial) → Solves k phase s a → Solves k phase s b → SameObserved (is_observed k phase) a b
  pub defined : (a : Partial) → Solves k phase s a → (n : ℕ) → is_observed k phase n ≡ true → IsSome (a n)
  pub no_fault : (a : Partial) (g : Assignment) (kind : FaultKind) (at : ℕ) → Solves k phase s a → is_of_circuit kind ≡ true → ¬ Stands k phase s a g kind at

-- the two settings have the same solutions on every observed net
abbrev pub SettlesAlike : Comparison → ℕ → Setting → Setting → Type 0
SettlesAlike k phase s t = (a b : Partial) → Solves k phase s a → Solves k phase t b → SameObserved (is_observed k phase) a b

-- the bit that each hold takes from a solution: that of its net
abbrev pub taken_bits : Circuit → Partial → ℕ → Bool
taken_bits c a place = unwrap_or (option_and_then (λ (h : Hold). a h.net.0) (slice_get c.holds place)) false

-- ---- inputs that rise

-- a set of nets, as a test
abbrev pub Nets : Type 0
Nets = ℕ → Bool

-- inputs that rise in a phase: their nets, and the bits of a valuation, which are those at the end
pub record Rise : Type 0 where
  pub k : Comparison
  pub phase : ℕ
  pub nets : List ℕ
  pub end : Setting

-- the net of a rising input whose bit is 1 at the end
abbrev pub Rises : Rise → ℕ → Type 0
Rises r n = (has_number r.nets n ≡ true) × (r.end.inputs n ≡ true)

-- none has risen
abbrev pub none_yet : Nets
none_yet n = false

-- one more has
abbrev pub and_now : Nets → ℕ → Nets
and_now risen n m = risen m || (n == m)

-- a setting on the way: of the rising inputs these have risen, the other inputs are as at the end, and the holds have these bits
abbrev pub on_the_way : Rise → Nets → (ℕ → Bool) → Setting
on_the_way r risen held = record { inputs = λ n. cond (has_number r.nets n) (risen n) (r.end.inputs n); held = held; elements = r.end.elements }

-- the same inputs risen at once: the holds have the bits of the valuation
abbrev pub at_once : Rise → Nets → Setting
at_once r risen = on_the_way r risen r.end.held

-- ---- orders

-- an order: nets that rise and have not risen yet, each once
abbrev pub IsOrder : Rise → Nets → List ℕ → Type 0
IsOrder r risen [] = Unit {0}
IsOrder r risen (n ∷ ns) = Rises r n × (risen n ≡ false) × IsOrder r (and_now risen n) ns

-- what is left of an order goes well: the circuit settles at each setting on the way, the holds take their bits, and the next net rises;
-- at the end it settles as it does with all these inputs risen at once
abbrev pub GoesWell : Rise → Nets → (ℕ → Bool) → List ℕ → Type 0
GoesWell r risen held [] =
    Settles r.k r.phase (on_the_way r risen held) × Settles r.k r.phase (at_once r risen) × SettlesAlike r.k r.phase (on_the_way r risen held) (at_once r risen)
GoesWell r risen held (n ∷ ns) =
    Settles r.k r.phase (on_the_way r risen held)
    × ((a : Partial) → Solves r.k r.phase (on_the_way r risen held) a → GoesWell r (and_now risen n) (taken_bits r.k.circuit a) ns)

-- every order goes well
abbrev pub OrdersGoWell : Rise → Type 0
OrdersGoWell r = (ns : List ℕ) → IsOrder r none_yet ns → GoesWell r none_yet r.end.held ns

-- at every valuation that meets the constraints
abbrev pub AllOrdersGoWell : Comparison → ℕ → List ℕ → Type 0
AllOrdersGoWell k phase nets =
    (bits : List Bool) → Meets k phase bits → OrdersGoWell (record { k = k; phase = phase; nets = nets; end = setting_of k phase bits })

-- those that have risen behind an order
abbrev pub risen_by : Nets → List ℕ → Nets
risen_by risen [] = risen
risen_by risen (n ∷ ns) = risen_by (and_now risen n) ns

-- ---- the laws

-- The law: the circuit of an equal phase settles at each valuation that meets the constraints.
abbrev pub EqualPhasesSettle : Type 0
EqualPhasesSettle = (k : Comparison) (phase : ℕ) (bits : List Bool) → IsPhaseEqual k phase → Meets k phase bits → Settles k phase (setting_of k phase bits)

-- The law: an order of all inputs that rise ends at the valuation itself.
abbrev pub FullOrdersEnd : Type 0
FullOrdersEnd =
    (r : Rise) (ns : List ℕ) → IsOrder r none_yet ns → ((n : ℕ) → Rises r n → has_number ns n ≡ true) → at_once r (risen_by none_yet ns) ≡ r.end
