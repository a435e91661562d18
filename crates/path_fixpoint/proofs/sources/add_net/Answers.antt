use Rattle.std.proofs.Common.{◌≡◌, ℕ, arith, sym, subst, ◌∙◌, inl, inr}
use Rattle.bdd_core.proofs.Results.{if_ok_more}
use Rattle.path_fixpoint.specs.Parts.{IsGiven}
use Rattle.path_fixpoint.specs.Sources.{AddsRoots}
use Rattle.path_fixpoint.proofs.SourceLaws.{adds_same}
use Rattle.path_fixpoint.proofs.SpendingLaws.{spends_more}
use Rattle.vrt_model.specs.Levels.{source_level}
use Rattle.path_fixpoint.proofs.sources.add_net.Goals as goal

pub returns-clause-adds : goal.returns-clause-adds
returns-clause-adds c =
    let circuit = c.args.circuit.now in
    let n0 = c.args.net.0 in
    let P : ℕ → ℕ → ℕ → Type 0 = λ n at size. (n ≡ n0) × (at ≡ n0) × (size ≡ c.args.out.source) in
    let R : ℕ → ℕ → ℕ → Type 0 = λ n at size. IsGiven circuit n × (n ≡ n0) × (at ≡ n) × (size ≡ source_level circuit) in
    if_ok_more (λ _. AddsRoots c.args.part.now c.args.roots c.args.out c.args.value P c.args.store.now c.add_root.new.store)
    (λ _. AddsRoots c.args.part.now c.args.roots c.args.out c.args.value R c.args.store.now c.add_root.new.store) c.add_root.result
    (λ u a. adds_same c.args.part.now c.args.roots c.args.out c.args.value P R
    c.args.store.now c.add_root.new.store (λ n at size q. (q.1, q.2 ∙ q.1, q.3 ∙ sym c.requires.source)) (λ n at size q. (subst (IsGiven circuit) (sym q.0) (c.is_given.ensures.0 c.if-not-is_given.false), q.0, q.1 ∙ sym q.0, q.2 ∙ c.requires.source)) a)
    c.add_root.ensures.adds

pub returns-clause-few : goal.returns-clause-few
returns-clause-few c u roots all = elim (c.add_root.ensures.few u (λ i p. roots (c.is_given.ensures.0 c.if-not-is_given.false)) all) [
  | inl none ↦ spends_more u c.args.out.span 0 3 c.args.store.now c.add_root.new.store c.add_root.result (omega arith) none
  | inr some ↦ some.2
]
