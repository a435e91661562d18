-- The roots of the third setting of a step: the holds took the bits of their nets.
use Rattle.std.proofs.Common.{◌≡◌, ℕ, ◌<◌, All, List, arith, ap, length, ◌∙◌}
use Rattle.node_pool.specs.declared.region.Span.{Span}
use Rattle.bdd_core.proofs.Frames.{shows_kept}
use Rattle.bdd_core.specs.Diagram.{meaning}
use Rattle.bdd_core.specs.Store.{Diagrams}
use Rattle.bdd_core.specs.Words.{IsFilled, Writes, word_at}
use Rattle.domino_order.proofs.StepGives.{after_gives}
use Rattle.domino_order.specs.StepSettings.{GivesSettings, after_at, net_bits, together_at}
use Rattle.domino_order.specs.StepWords.{AreInputs}
use Rattle.step_roots.specs.Roots.{IsPlainHold}
use Rattle.vrt_model.proofs.Members.{all_among, all_by}
use Rattle.vrt_model.specs.Circuits.{IsFlat, IsHold}
use Rattle.vrt_model.specs.Comparison.{Comparison}
use Rattle.vrt_model.specs.declared.circuit.Circuit.{Circuit}
use Rattle.vrt_model.specs.declared.circuit.Hold.{Hold}

-- the net of each hold has a word in spans that have one for each net
pub hold_words : (c : Circuit) (a b : ℕ) → IsFlat c → a ≡ length c.nets → b ≡ length c.nets → All (λ (h : Hold). (h.net.0 < a) × (h.net.0 < b)) c.holds
hold_words c a b flat left right =
    all_by (λ (h : Hold). (h.net.0 < a) × (h.net.0 < b)) c.holds
    (λ h m. (let lt = (all_among (IsHold c) c.holds h flat.holds m).net in (omega (arith, lt, left), omega (arith, lt, right))))

pub after_roots : (k : Comparison) (phase : ℕ) (nets : List ℕ) (n : ℕ) → AreInputs k.circuit nets → (setting rose : Span) (old new : Diagrams) → Writes setting old new
    → ((m : ℕ) → IsPlainHold k.circuit m → word_at new setting m ≡ word_at old rose m) → ((m : ℕ) → ¬ IsPlainHold k.circuit m → word_at new setting m ≡ word_at old setting m)
    → IsFilled old setting → IsFilled old rose → setting.len ≡ length k.circuit.nets → rose.len ≡ length k.circuit.nets
    → GivesSettings k phase nets n (together_at k phase nets n) setting old → GivesSettings k phase nets n (after_at k phase nets n (net_bits k phase nets old rose)) setting new
after_roots k phase nets n inputs setting rose old new writes taken others filled rose_filled len rose_len together =
    after_gives k phase nets n inputs setting rose old new together
    (λ m v lt hold. ap (λ (h : ℕ). meaning new.nodes h v) (taken m hold) ∙ writes.adds.kept (word_at old rose m) (rose_filled m (omega (arith, lt, rose_len))) v)
    (λ m v lt never. shows_kept setting setting old new m v writes (others m never) (filled m (omega (arith, lt, len))))
