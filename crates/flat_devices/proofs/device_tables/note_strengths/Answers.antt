use Rattle.std.proofs.Common.{arith, List, ℕ}
use Rattle.flat_devices.proofs.StrengthNotes.{noted_place, noted_places}
use Rattle.flat_devices.specs.DeviceTables.{first_some, level_at}
use Rattle.rule_index.proofs.FirstNotes.{starts}
use Rattle.rule_index.specs.Firsts.{value_in}
use Rattle.flat_devices.proofs.device_tables.note_strengths.Goals as goal

pub loop-place-init : goal.loop-place-init
loop-place-init c = record {
  even = c.requires.even;
  so_far = starts (value_in c.args.table.now) (λ (n : List ℕ). first_some (level_at c.args.rules.now n) c.args.places.now) c.requires.none;
}

pub note_strength-requires : goal.note_strength-requires
note_strength-requires c = c.loop-place.invariant.even

pub loop-place-preserved : goal.loop-place-preserved
loop-place-preserved c = record {
  even = c.in_ok-note_strength.ensures.even;
  so_far = noted_place (level_at c.args.rules.now) c.args.places.now c.loop-place.place-index (value_in c.loop-place.table) (value_in c.note_strength.new.table)
      (λ (n : List ℕ). first_some (level_at c.args.rules.now n) c.args.places.now) (omega arith) c.in_ok-note_strength.ensures.first c.loop-place.invariant.so_far;
}

pub returns : goal.returns
returns c =
    noted_places (level_at c.args.rules.now) c.args.places.now c.loop-place.place-index (value_in c.loop-place.table)
    (λ (n : List ℕ). first_some (level_at c.args.rules.now n) c.args.places.now) (omega arith) c.loop-place.invariant.so_far
