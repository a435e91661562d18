use Rattle.std.proofs.Common.{◌+◌, [], ◌∷◌, Err, take, arith, refl, ◌∙◌}
use Rattle.std.specs.Prelude.{sum_by}
use Rattle.std.proofs.lemmas.List.Sums.{sum_by-take-le}
use Rattle.bdd_ops.proofs.CountingLaws.{counted_more, counted_none, counted_then, counts_more, counts_ok, counts_then}
use Rattle.channel_parts.specs.declared.part.Part.{Part}
use Rattle.output_levels.proofs.PartLevelLaws.{gates_within, in_first, in_none, in_then, one_among, spans_later, sum_next, told_more, words_care}
use Rattle.output_levels.specs.PartLevels.{level_operations}
use Rattle.vrt_model.proofs.Lists.{item_at}
use Rattle.vrt_model.specs.Lists.{At}
use Rattle.output_levels.proofs.parts.circuit_levels.Goals as goal

pub loop-part-init : goal.loop-part-init
loop-part-init c = record {
  writes = in_none c.args.out c.args.store.now c.sound.ensures.sound c.sound.ensures.within;
  len = refl;
  told = λ n e. absurd (let lt = e.2 in omega (arith, lt));
  counted = λ u care gates. counted_none u c.args.store.now;
}

pub part_levels-requires-clause-part : goal.part_levels-requires-clause-part
part_levels-requires-clause-part c =
    c.requires.parts c.part-item.result (c.loop-part.part-index, item_at c.args.parts.now c.args.parts.now c.loop-part.part-index c.part-item.result refl c.loop-part-test.true c.part-item.is)

pub part_levels-requires-clause-care : goal.part_levels-requires-clause-care
part_levels-requires-clause-care c = (let live = c.requires.care in let longer = c.loop-part.invariant.writes.adds.longer in omega (arith, live, longer))

pub part_levels-requires-clause-asked : goal.part_levels-requires-clause-asked
part_levels-requires-clause-asked c = (c.requires.asked.0, c.loop-part.invariant.len ∙ c.requires.asked.1)

pub part_levels-requires-clause-spans : goal.part_levels-requires-clause-spans
part_levels-requires-clause-spans c =
    let part : Part = c.part-item.result in
    let there : At c.args.parts.now c.loop-part.part-index part = item_at c.args.parts.now c.args.parts.now c.loop-part.part-index part refl c.loop-part-test.true c.part-item.is in
    spans_later c.args.out c.args.circuit.now c.args.parts.now (part ∷ []) c.args.gates c.args.store.now c.loop-part.store c.loop-part.invariant.writes c.requires.spans
    (λ other m. one_among part other c.args.parts.now (c.loop-part.part-index, there) m)

pub loop-part-preserved : goal.loop-part-preserved
loop-part-preserved c =
    let circuit = c.args.circuit.now in
    let parts = c.args.parts.now in
    let first = c.args.store.now in
    let now = c.loop-part.store in
    let new = c.part_levels.new.store in
    let k = c.loop-part.part-index in
    let part : Part = c.part-item.result in
    let there : At parts k part = item_at parts parts k part refl c.loop-part-test.true c.part-item.is in
    let i = c.loop-part.invariant in
    let sums = sum_next (level_operations circuit) parts k part there in
    record {
      writes = in_then c.args.out first now new i.writes c.part_levels.ensures.writes;
      len = c.part_levels.ensures.len ∙ i.len;
      told = told_more circuit parts c.args.asked.now c.args.gates c.args.out c.args.care first now c.requires.care c.requires.spans i.writes k part there
          c.loop-part.levels.items c.part_levels.new.levels.items i.told c.in-Ok.ensures.gives;
      counted = λ u care gates.
          counted_more u (sum_by (level_operations circuit) (take k parts) + level_operations circuit part) (sum_by (level_operations circuit) (take (k + 1) parts)) first new (omega (arith, sums))
          (counted_then u (sum_by (level_operations circuit) (take k parts)) (level_operations circuit part) first now new (i.counted u care gates)
          (c.in-Ok.ensures.few u (words_care u c.args.out first now c.args.care i.writes c.requires.care care) (gates_within c.args.out c.args.gates first now c.requires.spans.apart i.writes u c.requires.spans.gates_live gates)).added);
    }

pub returns-in-Err-clause-writes : goal.returns-in-Err-clause-writes
returns-in-Err-clause-writes c = in_then c.args.out c.args.store.now c.loop-part.store c.part_levels.new.store c.loop-part.invariant.writes c.part_levels.ensures.writes

pub returns-in-Err-clause-few : goal.returns-in-Err-clause-few
returns-in-Err-clause-few c u care gates =
    let circuit = c.args.circuit.now in
    let parts = c.args.parts.now in
    let first = c.args.store.now in
    let now = c.loop-part.store in
    let new = c.part_levels.new.store in
    let k = c.loop-part.part-index in
    let part : Part = c.part-item.result in
    let there : At parts k part = item_at parts parts k part refl c.loop-part-test.true c.part-item.is in
    let i = c.loop-part.invariant in
    let sums = sum_next (level_operations circuit) parts k part there in
    let all = sum_by-take-le (level_operations circuit) parts (k + 1) in
    counts_more u (sum_by (level_operations circuit) (take k parts) + level_operations circuit part) (sum_by (level_operations circuit) parts) first new (Err c.in-Err.spent) (omega (arith, sums, all))
    (counts_then u (sum_by (level_operations circuit) (take k parts)) (level_operations circuit part) first now new (Err c.in-Err.spent) (i.counted u care gates)
    (c.in-Err.ensures.few u (words_care u c.args.out first now c.args.care i.writes c.requires.care care) (gates_within c.args.out c.args.gates first now c.requires.spans.apart i.writes u c.requires.spans.gates_live gates)))

pub returns-clause-gives : goal.returns-clause-gives
returns-clause-gives c n part there inside mark =
    c.loop-part.invariant.told n (in_first c.args.parts.now c.loop-part.part-index part n (omega (arith, c.loop-part-test.false)) there inside) mark

pub returns-clause-few : goal.returns-clause-few
returns-clause-few c u care gates =
    let circuit = c.args.circuit.now in
    let parts = c.args.parts.now in
    let k = c.loop-part.part-index in
    counts_ok u (sum_by (level_operations circuit) parts) c.args.store.now c.loop-part.store _
    (counted_more u (sum_by (level_operations circuit) (take k parts)) (sum_by (level_operations circuit) parts) c.args.store.now c.loop-part.store (sum_by-take-le (level_operations circuit) parts k) (c.loop-part.invariant.counted u care gates))
