use Rattle.vrt_model.specs.Checked.{with_one}
use Rattle.vrt_model.specs.CheckedParts.{checked_devices}
use Rattle.vrt_model.specs.WholeInstances.{all_outputs}
use Rattle.substitute.proofs.CandidateLaws.{decides, decides_open, is_around, shut, tried_soundly}
use Rattle.substitute.proofs.candidate.passes.Goals as goal

pub is_acyclic_with-requires-clause-tried : goal.is_acyclic_with-requires-clause-tried
is_acyclic_with-requires-clause-tried c =
    let t = c.requires.candidate in
    let is = t.6 in (
      with_one t.0 t.3,
      t.1,
      t.2,
      tried_soundly _ t.0 t.1 t.2 t.3 t.4 t.5 _ _ _ _ _ is
          ((c.are_open-allowed.ensures (checked_devices (with_one t.0 t.3)) (all_outputs t.0 t.1 t.2) t.4.number (is_around _ t.0 t.1 t.2 t.3 t.4 t.5 _ _ _ _ _ is)).0 c.if-not-allowed.false) c.in_ok-marks.marks
          c.in_ok-marks.ensures,
    )

pub returns-then-not-allowed : goal.returns-then-not-allowed
returns-then-not-allowed c cut blif facts i p m is =
    shut _ cut blif facts i p m _ _ _ _ _ is c.are_open-allowed.result c.if-not-allowed.true
    (c.are_open-allowed.ensures (checked_devices (with_one cut i)) (all_outputs cut blif facts) p.number (is_around _ cut blif facts i p m _ _ _ _ _ is))

pub returns-then-not-asked : goal.returns-then-not-asked
returns-then-not-asked c cut blif facts i p m is =
    decides_open _ cut blif facts i p m _ _ _ _ _ is c.if-not-asked.true
    ((c.are_open-allowed.ensures (checked_devices (with_one cut i)) (all_outputs cut blif facts) p.number (is_around _ cut blif facts i p m _ _ _ _ _ is)).0 c.if-not-allowed.false)

pub returns : goal.returns
returns c cut blif facts i p m is =
    decides _ cut blif facts i p m _ _ _ _ _ is c.in_ok-free.free c.if-not-asked.false
    ((c.are_open-allowed.ensures (checked_devices (with_one cut i)) (all_outputs cut blif facts) p.number (is_around _ cut blif facts i p m _ _ _ _ _ is)).0 c.if-not-allowed.false)
    (c.in_ok-free.ensures (with_one cut i) blif facts (is.by c.in_ok-marks.marks c.in_ok-marks.ensures))
