use Rattle.std.proofs.Common.{ℕ, List, Option, ap, ap₂, ◌∙◌}
use Rattle.std.specs.Prelude.{slice_get}
use Rattle.vrt_model.specs.declared.rules.PortRule.{PortRule}
use Rattle.name_tables.specs.Tables.{first_value, named}
use Rattle.latch_match.proofs.TableLaws.{found}
use Rattle.latch_match.proofs.lookups.add_signal.Goals as goal

pub returns-in_ok-add-in-Some : goal.returns-in_ok-add-in-Some
returns-in_ok-add-in-Some c = λ entries t.
    found (λ (r : PortRule). named r.port (first_value c.args.signals.now r.signal)) entries (slice_get c.args.rules.now c.args.place) c.in-Some.rule.now c.as_bytes-in-Some.result.now c.first-signal.result c.add.new.self c.in-Some.ensures
    (ap₂ (λ (n : List ℕ) (s : Option ℕ). named n s) c.as_bytes-in-Some.ensures (c.first-signal.ensures ∙ ap (first_value c.args.signals.now) c.as_bytes.ensures)) (c.in_ok-add-in-Some.ensures entries t)
