-- Parts of a cell: they are the same from each of their nets, and no smaller in the kept circuit.
use Rattle.std.proofs.Common.{ℕ, Bool, true, false, refl}
use Rattle.vrt_model.proofs.Filtered.{among_devices, device_among}
use Rattle.vrt_model.proofs.Laws.{turned}
use Rattle.vrt_model.proofs.Ranked.{together_plain}
use Rattle.vrt_model.specs.Known.{IsTogether, itself, onward}
use Rattle.vrt_model.specs.declared.circuit.Circuit.{Circuit}
use Rattle.vrt_model.specs.declared.rules.Phase.{Phase}

module _ (c : Circuit) (phase : Phase) (which : Bool) where
  pub part_further : (n m l : ℕ) → IsTogether c phase which n m → IsTogether c phase which m l → IsTogether c phase which n l
  part_further n m l first (itself p) = first
  part_further n m l first (onward {l = j} d t i join p) = onward d (part_further n m j first t) i join p

  pub part_back : (n m : ℕ) → IsTogether c phase which n m → IsTogether c phase which m n
  part_back n m (itself p) = itself p
  part_back n m (onward {l = l} d t i join p) =
      part_further m l n (onward d (itself p) i (turned d l m join) (together_plain c phase which n l t)) (part_back n l t)

-- a part of the bare circuit lies in one of the kept circuit
pub part_kept : (c : Circuit) (phase : Phase) (n m : ℕ) → IsTogether c phase true n m → IsTogether c phase false n m
part_kept c phase n m (itself p) = itself p
part_kept c phase n m (onward {l = l} d t i join p) =
    onward d (part_kept c phase n l t) (among_devices false c d (device_among true c d i.0).0 refl, i.1) join p
