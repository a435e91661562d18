-- Where the gates of all devices and the ports of all instances are marked, the marks are as the calls ask.
use Rattle.std.proofs.Common.{◌≡◌, ℕ, zero, suc, ◌<◌, Bool, true, All, List, [], ◌∷◌, length, arith}
use Rattle.std.proofs.lemmas.Bool.{false≢true}
use Rattle.channel_parts.specs.OneSolution.{AreObserved}
use Rattle.phase_rows.specs.Observing.{IsObserving, IsSeen}
use Rattle.vrt_model.proofs.Members.{all_among, among_filter}
use Rattle.vrt_model.specs.Lists.{Among, mark_at}
use Rattle.vrt_model.specs.Reading.{is_in}
use Rattle.vrt_model.specs.declared.circuit.Circuit.{Circuit}
use Rattle.vrt_model.specs.declared.circuit.Device.{Device}
use Rattle.vrt_model.specs.declared.design.Design.{Design}

-- no net past the end is marked
pub marked_within : (marks : List Bool) (n : ℕ) → mark_at marks n ≡ true → n < length marks
marked_within [] n e = absurd (false≢true e)
marked_within (b ∷ marks) zero e = omega arith
marked_within (b ∷ marks) (suc n) e = (let below = marked_within marks n e in omega (arith, below))

gate_marked : (c : Circuit) (marks : List Bool) → All (λ (d : Device). mark_at marks d.gate.0 ≡ true) c.devices
    → (d : Device) → Among c.devices d → mark_at marks d.gate.0 ≡ true
gate_marked c marks all d m = all_among (λ (x : Device). mark_at marks x.gate.0 ≡ true) c.devices d all m

pub observing : (design : Design) (c : Circuit) (marks : List Bool) → length marks ≡ length c.nets → All (λ (d : Device). mark_at marks d.gate.0 ≡ true) c.devices
    → All (IsSeen design marks) c.instances → IsObserving design c marks
observing design c marks len all seen =
    let bare : AreObserved c (mark_at marks) = record {
      gates = λ d m. gate_marked c marks all d (among_filter (is_in true) c.devices d m);
      nets = λ n e. (let below = marked_within marks n e in omega (arith, below, len));
    } in
    record { len = len; bare = bare; kept = (bare, gate_marked c marks all); seen = seen }
