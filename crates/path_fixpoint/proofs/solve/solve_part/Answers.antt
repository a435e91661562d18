use Rattle.std.proofs.Common.{subst, sym}
use Rattle.std.specs.Prelude.{IfOk, ℕ}
use Rattle.bdd_core.specs.Diagram.{Valuation}
use Rattle.bdd_core.specs.Words.{Writes}
use Rattle.path_fixpoint.specs.Parts.{AreSoftInside}
use Rattle.path_fixpoint.specs.Solved.{HasRootSpans, TellsReach, network_at}
use Rattle.path_fixpoint.specs.Spending.{AreGatesWithin, AreRootsWithin, HasOneHold, Spends, solving_operations}
use Rattle.path_fixpoint.specs.Strengths.{TellsStrengths}
use Rattle.path_fixpoint.specs.declared.words.NetWords.{NetWords}
use Rattle.path_fixpoint.proofs.solve.solve_part.Goals as goal

pub solve_words-requires-clause-spans : goal.solve_words-requires-clause-spans
solve_words-requires-clause-spans c =
    subst (λ (w : NetWords). HasRootSpans c.args.circuit.now c.args.part.now c.args.gates c.args.roots w c.args.store.now) (sym c.new-words.ensures) c.requires.spans

pub returns-clause-writes : goal.returns-clause-writes
returns-clause-writes c = subst (λ (w : NetWords). Writes w.span c.args.store.now c.solve_words.new.store) c.new-words.ensures c.solve_words.ensures.writes

pub returns-clause-strengths : goal.returns-clause-strengths
returns-clause-strengths c =
    let circuit = c.args.circuit.now in
    let part = c.args.part.now in
    subst (λ (w : NetWords). IfOk c.solve_words.result (λ _. (v : Valuation) → TellsStrengths circuit part w c.solve_words.new.store v (network_at c.args.store.now circuit part c.args.gates c.args.roots v)))
    c.new-words.ensures c.solve_words.ensures.strengths

pub returns-clause-reaches : goal.returns-clause-reaches
returns-clause-reaches c =
    let circuit = c.args.circuit.now in
    let part = c.args.part.now in
    subst (λ (w : NetWords). IfOk c.solve_words.result (λ _. AreSoftInside circuit part → (v : Valuation) → TellsReach part w c.solve_words.new.store v (network_at c.args.store.now circuit part c.args.gates c.args.roots v)))
    c.new-words.ensures c.solve_words.ensures.reaches

pub returns-clause-few : goal.returns-clause-few
returns-clause-few c =
    subst (λ (w : NetWords). HasOneHold c.args.circuit.now → (u : ℕ) → AreGatesWithin u c.args.circuit.now c.args.part.now c.args.gates c.args.store.now → AreRootsWithin u c.args.circuit.now c.args.part.now c.args.roots c.args.store.now
    → Spends u (solving_operations c.args.circuit.now c.args.part.now) w.span c.args.store.now c.solve_words.new.store c.solve_words.result)
    c.new-words.ensures c.solve_words.ensures.few
