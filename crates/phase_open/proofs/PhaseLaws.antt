-- The steps of opening a phase, one behind the other: what they count, and what stays.
use Rattle.std.proofs.Common.{◌≡◌, ℕ, ◌+◌, ◌*◌, ◌≤◌, List, length, Result, Ok, Err, arith, ap, sym, subst, ◌∙◌, inr}
use Rattle.std.specs.Prelude.{slice_index}
use Rattle.node_pool.specs.declared.region.Span.{Span}
use Rattle.bdd_core.proofs.Frames.{adds_then, adds_words}
use Rattle.bdd_core.specs.Store.{Adds, AddsNodes, Diagrams}
use Rattle.bdd_core.specs.Words.{WritesTwo}
use Rattle.bdd_core.specs.declared.handle.H.{H}
use Rattle.bdd_core.specs.declared.handle.Spent.{Spent}
use Rattle.bdd_ops.proofs.CountingLaws.{counts_err, counts_more, counts_then, counts_value}
use Rattle.bdd_ops.specs.Counting.{Counts}
use Rattle.constraints.specs.Cared.{assumed_size}
use Rattle.phase_open.proofs.OpenLaws.{roots_stay}
use Rattle.phase_open.specs.Given.{WritesOpened}
use Rattle.phase_terms.specs.Opened.{AreRootsOpen, opened_operations}
use Rattle.phase_terms.specs.declared.words.PhaseWords.{PhaseWords}
use Rattle.vrt_model.specs.Comparison.{Comparison, cell_at}
use Rattle.vrt_model.specs.Elements.{element_names}
use Rattle.vrt_model.specs.Held.{sources_of}

-- the operations on roots and on the care set
abbrev pub root_operations : Comparison → ℕ
root_operations k = 2 * length k.circuit.holds + length k.circuit.nets

abbrev pub care_operations : Comparison → ℕ → ℕ
care_operations k phase = 20 * (assumed_size k.rules (cell_at k.design k.cell).name phase + length k.circuit.holds)

module _ (k : Comparison) (phase : ℕ) (first roots care : Diagrams) where
  abbrev u : ℕ
  u = length (sources_of k phase)

  module _ (x : ℕ) (opened : Counts u (root_operations k) first roots (Ok x)) where
    with_care : (r : Result H Spent) → Counts u (care_operations k phase) roots care r → Counts u (root_operations k + care_operations k phase) first care r
    with_care r one = counts_then u (root_operations k) (care_operations k phase) first roots care r opened.added one

    pub care_refused : (e : Spent) → Counts {A = H} u (care_operations k phase) roots care (Err e) → Counts {A = H} u (opened_operations k phase) first care (Err e)
    care_refused e one = counts_more u (root_operations k + care_operations k phase) (opened_operations k phase) first care (Err e) (omega arith) (with_care (Err e) one)

    module _ (h : H) (made : Counts u (care_operations k phase) roots care (Ok h)) (last : Diagrams) (elements : ℕ) (count : elements ≡ length (element_names k.model)) where
      few : root_operations k + care_operations k phase + elements ≤ opened_operations k phase
      few = omega (arith, count)

      with_model : (r : Result H Spent) → Counts u elements care last r → Counts u (opened_operations k phase) first last r
      with_model r one =
          counts_more u (root_operations k + care_operations k phase + elements) (opened_operations k phase) first last r few
          (counts_then u (root_operations k + care_operations k phase) elements first care last r (with_care (Ok h) made).added one)

      pub model_refused : (e : Spent) → Counts {A = Unit {0}} u elements care last (Err e) → Counts {A = H} u (opened_operations k phase) first last (Err e)
      model_refused e one = with_model (Err e) (counts_err u elements care last e one)

      pub model_counted : (y : Unit {0}) → Counts {A = Unit {0}} u elements care last (Ok y) → Counts {A = H} u (opened_operations k phase) first last (Ok h)
      model_counted y one = with_model (Ok h) (counts_value u elements care last y h one)

-- roots stay where nodes are added alone
pub roots_added : (k : Comparison) (phase : ℕ) (roots : Span) (old new : Diagrams) → length k.circuit.nets ≤ roots.len → AddsNodes old new → AreRootsOpen k phase roots old → AreRootsOpen k phase roots new
roots_added k phase roots old new len adds are =
    let none : Span = record { start = 0; len = 0 } in
    let words : new.words ≡ old.words = adds_words old new old.words adds in
    let writes : WritesTwo none none old new = record {
      adds = subst (λ (ws : List ℕ). Adds old new ws) (sym words) adds;
      len = ap (λ (ws : List ℕ). length ws) words;
      others = λ j p q. ap (λ (ws : List ℕ). slice_index ws j) words;
    } in
    roots_stay none none roots old new writes (inr (omega arith)) (inr (omega arith)) are.live k phase len are

-- the roots are written, nodes are added for the care set, and then the inputs and the held bits of the model are written
pub opened_writes : (w : PhaseWords) (a b c d : Diagrams) → WritesTwo w.roots w.roots a b → AddsNodes b c → WritesTwo w.inputs w.held c d → WritesOpened w a d
opened_writes w a b c d first care last =
    let same : c.words ≡ b.words = adds_words b c b.words care in
    record {
      adds = adds_then a c d b.words d.words (adds_then a b c b.words b.words first.adds care) last.adds;
      len = last.len ∙ ap (λ (ws : List ℕ). length ws) same ∙ first.len;
      others = λ j roots inputs held. last.others j inputs held ∙ ap (λ (ws : List ℕ). slice_index ws j) same ∙ first.others j roots roots;
    }
