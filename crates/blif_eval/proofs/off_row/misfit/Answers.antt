use Rattle.std.proofs.Common.{ℕ, ap, arith, sym, subst, ◌∙◌}
use Rattle.std.specs.Prelude.{◌||◌, not}
use Rattle.bdd_core.proofs.Meaning.{meaning_one}
use Rattle.bdd_core.specs.Diagram.{Function, IsSame, choice, meaning}
use Rattle.bdd_ops.proofs.CountingLaws.{counts_made, counts_more, counts_none}
use Rattle.bdd_ops.proofs.WithinLaws.{within_choice, within_one}
use Rattle.bdd_ops.specs.Counting.{Counts}
use Rattle.bdd_core.proofs.Frames.{gives_made}
use Rattle.blif_eval.proofs.RowLaws.{one_misfit, zero_misfit}
use Rattle.blif_eval.specs.Operations.{literal_count}
use Rattle.vrt_model.specs.Covers.{byte_fits}
use Rattle.blif_eval.proofs.off_row.misfit.Goals as goal

pub returns-in-48-clause-gives : goal.returns-in-48-clause-gives
returns-in-48-clause-gives c =
    let ns = c.args.store.now.nodes in
    let whole : Function = choice (meaning ns c.args.value.0) (meaning ns 1) (meaning ns c.args.rest.0) in
    let goal_of : Function = λ v. not (byte_fits c.args.byte (meaning ns c.args.value.0 v)) || meaning ns c.args.rest.0 v in
    let same : IsSame whole goal_of =
    λ v. rw (meaning_one ns v) (zero_misfit (meaning ns c.args.value.0 v) (meaning ns c.args.rest.0 v)
    ∙ ap (λ (b : ℕ). not (byte_fits b (meaning ns c.args.value.0 v)) || meaning ns c.args.rest.0 v) (sym c.in-48.is)) in
    gives_made c.args.store.now c.ite.new.self whole goal_of c.ite.result same c.ite.ensures.makes

pub returns-in-48-clause-counts : goal.returns-in-48-clause-counts
returns-in-48-clause-counts c u value rest =
    let old = c.args.store.now in
    let f = meaning old.nodes c.args.value.0 in
    let one = meaning old.nodes 1 in
    let g = meaning old.nodes c.args.rest.0 in
    subst (λ (b : ℕ). Counts u (literal_count b) old c.ite.new.self c.ite.result) (sym c.in-48.is)
    (counts_made u old c.ite.new.self c.sound.ensures.sound.ends (choice f one g) c.ite.result c.ite.ensures.makes (within_choice u f one g value (within_one u old) rest))

pub returns-in-49-clause-gives : goal.returns-in-49-clause-gives
returns-in-49-clause-gives c =
    let ns = c.args.store.now.nodes in
    let whole : Function = choice (meaning ns c.args.value.0) (meaning ns c.args.rest.0) (meaning ns 1) in
    let goal_of : Function = λ v. not (byte_fits c.args.byte (meaning ns c.args.value.0 v)) || meaning ns c.args.rest.0 v in
    let same : IsSame whole goal_of =
    λ v. rw (meaning_one ns v) (one_misfit (meaning ns c.args.value.0 v) (meaning ns c.args.rest.0 v)
    ∙ ap (λ (b : ℕ). not (byte_fits b (meaning ns c.args.value.0 v)) || meaning ns c.args.rest.0 v) (sym c.in-49.is)) in
    gives_made c.args.store.now c.ite-in-49.new.self whole goal_of c.ite-in-49.result same c.ite-in-49.ensures.makes

pub returns-in-49-clause-counts : goal.returns-in-49-clause-counts
returns-in-49-clause-counts c u value rest =
    let old = c.args.store.now in
    let f = meaning old.nodes c.args.value.0 in
    let one = meaning old.nodes 1 in
    let g = meaning old.nodes c.args.rest.0 in
    subst (λ (b : ℕ). Counts u (literal_count b) old c.ite-in-49.new.self c.ite-in-49.result) (sym c.in-49.is)
    (counts_made u old c.ite-in-49.new.self c.sound.ensures.sound.ends (choice f g one) c.ite-in-49.result c.ite-in-49.ensures.makes
    (within_choice u f g one value rest (within_one u old)))

pub returns-in_default-clause-counts : goal.returns-in_default-clause-counts
returns-in_default-clause-counts c u value rest = counts_more u 0 (literal_count c.args.byte) c.args.store.now c.args.store.now _ (omega arith) (counts_none u c.args.store.now c.args.rest)
