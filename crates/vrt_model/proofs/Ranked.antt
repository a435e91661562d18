-- The nets of a part are plain, and plain nets have no given value.
use Rattle.std.proofs.Common.{◌≡◌, ℕ, Bool, ap, sym, ◌∙◌}
use Rattle.std.proofs.lemmas.Bool.{false≢true}
use Rattle.std.proofs.lemmas.Option.{same_Some}
use Rattle.vrt_model.proofs.GatesGiven.{IsGiven}
use Rattle.vrt_model.specs.Known.{IsPlain, IsTogether, itself, onward}
use Rattle.vrt_model.specs.Reading.{is_given}
use Rattle.vrt_model.specs.declared.circuit.Circuit.{Circuit}
use Rattle.vrt_model.specs.declared.circuit.FlatNet.{FlatNet}
use Rattle.vrt_model.specs.declared.rules.Phase.{Phase}

-- a net that is plain has no given value
pub plain_not_given : (c : Circuit) (n : ℕ) → IsPlain c n → IsGiven c n → ⊥
plain_not_given c n p g =
    let same : p.0 ≡ g.0 = same_Some p.0 g.0 (sym p.1 ∙ g.1) in
    false≢true (ap is_given (sym p.2) ∙ (ap (λ (x : FlatNet). is_given x.kind) same ∙ g.2))

-- the nets of a part are plain
pub together_plain : (c : Circuit) (phase : Phase) (bare : Bool) (n m : ℕ) → IsTogether c phase bare n m → IsPlain c m
together_plain c phase bare n m (itself p) = p
together_plain c phase bare n m (onward d t i j p) = p

pub together_first : (c : Circuit) (phase : Phase) (bare : Bool) (n m : ℕ) → IsTogether c phase bare n m → IsPlain c n
together_first c phase bare n m (itself p) = p
together_first c phase bare n m (onward {l = l} d t i j p) = together_first c phase bare n l t
