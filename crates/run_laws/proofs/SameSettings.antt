-- Settings that say the same have the same solutions and the same assignments.
use Rattle.std.proofs.Common.{◌≡◌, ℕ, ◌+◌, ◌<◌, ◌≤◌, Bool, true, false, not, cond, Option, Some, None, arith, ap, refl, sym, ◌∙◌, inl, inr, length}
use Rattle.std.specs.Prelude.{option_map, slice_get, unwrap_or}
use Rattle.std.specs.List.{list_all}
use Rattle.std.proofs.Math.Path.{fun_ext}
use Rattle.run_laws.proofs.Elements.{elements_below}
use Rattle.run_laws.specs.WellFormed.{IsWellFormed}
use Rattle.vrt_model.proofs.SameNetwork.{IsPartOf, response_same}
use Rattle.vrt_model.specs.Assignment.{Assignment, LatchHolds}
use Rattle.vrt_model.specs.CellRules.{assumed}
use Rattle.vrt_model.specs.Comparison.{Comparison, cell_at, phase_at}
use Rattle.vrt_model.specs.Constraints.{given_bit, given_by_kind, meets_assumes, named_net}
use Rattle.vrt_model.specs.Elements.{element_count, element_names}
use Rattle.vrt_model.specs.Expressions.{value_of}
use Rattle.vrt_model.specs.Faults.{Assigns, Solves}
use Rattle.vrt_model.specs.Lists.{At}
use Rattle.vrt_model.specs.Path.{IsRoot, Root}
use Rattle.vrt_model.specs.Reading.{HasGivenBit, Partial}
use Rattle.vrt_model.specs.Response.{IsResponse, Response, Shows}
use Rattle.vrt_model.specs.State.{IsState, Setting, State, network_of}
use Rattle.vrt_model.specs.declared.blif.LatchKind.{LatchKind}
use Rattle.vrt_model.specs.declared.blif.LatchKind.TheVariants.{Re, Fe, Ah, Al}
use Rattle.vrt_model.specs.declared.circuit.FlatNet.{FlatNet}
use Rattle.vrt_model.specs.declared.circuit.Hold.{Hold}
use Rattle.vrt_model.specs.declared.circuit.NetKind.{NetKind}
use Rattle.vrt_model.specs.declared.circuit.NetKind.TheVariants.{Supply, Clock, Input, Plain}
use Rattle.vrt_model.specs.declared.rules.Expr.{Expr}
use Rattle.vrt_model.specs.declared.rules.Phase.{Phase}

-- the same bits at the input nets and the holds of the circuit, and at the elements of the model
pub record AreAlike (k : Comparison) (s t : Setting) : Type 0 where
  pub inputs : (n : ℕ) (net : FlatNet) → At k.circuit.nets n net → net.kind ≡ Input → s.inputs n ≡ t.inputs n
  pub held : (place : ℕ) (h : Hold) → At k.circuit.holds place h → s.held place ≡ t.held place
  pub elements : (e : ℕ) → e < length (element_names k.model) → s.elements e ≡ t.elements e

turned : (k : Comparison) (s t : Setting) → AreAlike k s t → AreAlike k t s
turned k s t alike = record {
  inputs = λ n net there kind. sym (alike.inputs n net there kind);
  held = λ place h there. sym (alike.held place h there);
  elements = λ e lt. sym (alike.elements e lt);
}

-- ---- solutions

given_moves : (phase : Phase) (f g : ℕ → Bool) (n : ℕ) (kind : NetKind) (bit : Bool) → (kind ≡ Input → f n ≡ g n) → HasGivenBit phase f kind n bit → HasGivenBit phase g kind n bit
given_moves phase f g n (Supply value) bit same h = h
given_moves phase f g n (Clock clock) bit same h = h
given_moves phase f g n Input bit same h = h ∙ same refl
given_moves phase f g n Plain bit same h = h

module _ (k : Comparison) (phase : ℕ) (s t : Setting) (alike : AreAlike k s t) where
  state_moves : (x : State) → IsState k.circuit (phase_at k.rules phase) s.inputs x → IsState k.circuit (phase_at k.rules phase) t.inputs x
  state_moves x is = record {
    reading = λ n net there. given_moves (phase_at k.rules phase) s.inputs t.inputs n net.kind (x.reading n) (alike.inputs n net there) (is.reading n net there);
    driven = is.driven;
  }

  network_moves : (which : Bool) (x : State) → IsPartOf (network_of k.circuit which s.held x) (network_of k.circuit which t.held x)
  network_moves which x = record { roots = roots; devices = λ d on. on }
    where
      roots : (root : Root) → IsRoot (network_of k.circuit which s.held x) root → IsRoot (network_of k.circuit which t.held x) root
      roots root (inl given) = inl given
      roots root (inr (inl h)) = inr (inl (h.0, h.1, h.2, h.3, h.4, h.5 ∙ alike.held h.0 h.1 h.2))
      roots root (inr (inr out)) = inr (inr out)

module _ (k : Comparison) (phase : ℕ) (s t : Setting) (alike : AreAlike k s t) where
  response_moves : (which : Bool) (x : State) (n : ℕ) (r : Response) → IsResponse (network_of k.circuit which s.held x) n r → IsResponse (network_of k.circuit which t.held x) n r
  response_moves which x =
      response_same (network_of k.circuit which s.held x) (network_of k.circuit which t.held x) (network_moves k phase s t alike which x) (network_moves k phase t s (turned k s t alike) which x)

module _ (k : Comparison) (phase : ℕ) (s t : Setting) (alike : AreAlike k s t) where
  pub solves_moves : (a : Partial) → Solves k phase s a → Solves k phase t a
  solves_moves a solves n v seen = (
    λ e x is agrees. response_moves k phase s t alike true x n (Shows v) ((solves n v seen).0 e x (state_moves k phase t s (turned k s t alike) x is) agrees),
    λ always. (solves n v seen).1 (λ x is agrees. response_moves k phase t s (turned k s t alike) true x n (Shows v) (always x (state_moves k phase s t alike x is) agrees)),
  )

-- ---- assignments

latch_moves : (kind : LatchKind) (control input : Bool) (f g next : ℕ → Bool) (first : ℕ) (output : Bool) (count : ℕ)
    → first + element_count kind ≤ count → ((e : ℕ) → e < count → f e ≡ g e)
    → LatchHolds kind control input f next first output → LatchHolds kind control input g next first output
latch_moves Ah control input f g next first output count low same h = (h.0 ∙ ap (cond control input) (same first (omega (arith, low))), h.1)
latch_moves Al control input f g next first output count low same h = (h.0 ∙ ap (cond (not control) input) (same first (omega (arith, low))), h.1)
latch_moves Re control input f g next first output count low same h = (
  h.0 ∙ ap (cond (not control) input) (same first (omega (arith, low))),
  h.1 ∙ ap (cond control (next first)) (same (first + 1) (omega (arith, low))),
  h.2,
)
latch_moves Fe control input f g next first output count low same h = (
  h.0 ∙ ap (cond control input) (same first (omega (arith, low))),
  h.1 ∙ ap (cond (not control) (next first)) (same (first + 1) (omega (arith, low))),
  h.2,
)

module _ (k : Comparison) (good : IsWellFormed k) (phase : ℕ) (s t : Setting) (alike : AreAlike k s t) where
  pub assigns_moves : (g : Assignment) → Assigns k phase s g → Assigns k phase t g
  assigns_moves g is = record {
    clocks = is.clocks;
    inputs = λ tied among. let net = good.inputs tied among in is.inputs tied among ∙ alike.inputs tied.net net.0 net.1 net.2;
    obeys = record {
      covers = is.obeys.covers;
      latches = λ l among. latch_moves l.latch.kind _ _ s.elements t.elements g.next l.first _ (length (element_names k.model)) (elements_below k.model l among) alike.elements (is.obeys.latches l among);
    };
  }

-- ---- the `assume` lines

given_same : (phase : Phase) (f g : ℕ → Bool) (n : ℕ) (kind : NetKind) → (kind ≡ Input → f n ≡ g n) → given_by_kind phase f n kind ≡ given_by_kind phase g n kind
given_same phase f g n (Supply value) same = refl
given_same phase f g n (Clock clock) same = refl
given_same phase f g n Input same = same refl
given_same phase f g n Plain same = refl

module _ (k : Comparison) (phase : ℕ) (s t : Setting) (alike : AreAlike k s t) where
  bit_same : (n : ℕ) → given_bit k.circuit (phase_at k.rules phase) s.inputs n ≡ given_bit k.circuit (phase_at k.rules phase) t.inputs n
  bit_same n = by_net (slice_get k.circuit.nets n) refl
    where
      by_net : (o : Option FlatNet) → slice_get k.circuit.nets n ≡ o
          → unwrap_or (option_map (λ (net : FlatNet). given_by_kind (phase_at k.rules phase) s.inputs n net.kind) o) false
          ≡ unwrap_or (option_map (λ (net : FlatNet). given_by_kind (phase_at k.rules phase) t.inputs n net.kind) o) false
      by_net None e = refl
      by_net (Some net) e = given_same (phase_at k.rules phase) s.inputs t.inputs n net.kind (alike.inputs n net e)

  pub assumes_same : meets_assumes k.design k.rules k.cell k.circuit phase s.inputs ≡ meets_assumes k.design k.rules k.cell k.circuit phase t.inputs
  assumes_same =
      ap (λ (bit : ℕ → Bool). list_all (λ (e : Expr). value_of (λ name. bit (named_net k.rules (cell_at k.design k.cell) name)) e) (assumed k.rules (cell_at k.design k.cell).name phase))
      (fun_ext bit_same)
