use Rattle.std.proofs.Common.{ap}
use Rattle.std.specs.Prelude.{slice_get}
use Rattle.vrt_model.specs.declared.rules.ClockportRule.{ClockportRule}
use Rattle.name_tables.specs.Tables.{named}
use Rattle.latch_match.proofs.TableLaws.{found}
use Rattle.latch_match.proofs.lookups.add_clock.Goals as goal

pub returns-in_ok-add-in-Some : goal.returns-in_ok-add-in-Some
returns-in_ok-add-in-Some c = λ entries t.
    found (λ (r : ClockportRule). named r.port r.clock) entries (slice_get c.args.rules.now c.args.place) c.in-Some.rule.now c.as_bytes.result.now c.in-Some.rule.now.clock c.add.new.self c.in-Some.ensures
    (ap (λ n. named n c.in-Some.rule.now.clock) c.as_bytes.ensures) (c.in_ok-add-in-Some.ensures entries t)
