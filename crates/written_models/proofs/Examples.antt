-- What the definitions compute of small cells.
use Rattle.std.proofs.Common.{◌≡◌, ℕ, true, false, not, ◌&&◌, ◌||◌, List, [], ◌∷◌, ◌++◌, length, arith, refl}
use Rattle.std.specs.Fmt.{digits}
use Rattle.std.specs.Prelude.{codes}
use Rattle.names.proofs.ApartLaws.{apart}
use Rattle.plain_models.specs.Texts.{model_lines}
use Rattle.vrt_model.specs.Lists.{bit_at, has_name}
use Rattle.written_models.proofs.Covers.{named_each}
use Rattle.written_models.specs.Written.{IsWritable, Logic, nodes_in, written_model}

-- the lines of the interface and of the constants, of a node, and of an output
abbrev head : List ℕ → List (List ℕ) → List (List ℕ) → List (List (List ℕ))
head name inputs outputs =
    (codes ".model" ∷ name ∷ []) ∷ (codes ".inputs" ∷ inputs) ∷ (codes ".outputs" ∷ outputs)
    ∷ (codes ".names" ∷ codes "=0" ∷ []) ∷ (codes ".names" ∷ codes "=1" ∷ []) ∷ (codes "1" ∷ []) ∷ []

abbrev node : List ℕ → List ℕ → List ℕ → List ℕ → List (List (List ℕ))
node variable low high k = (codes ".names" ∷ variable ∷ low ∷ high ∷ k ∷ []) ∷ (codes "01-" ∷ codes "1" ∷ []) ∷ (codes "1-1" ∷ codes "1" ∷ []) ∷ []

abbrev last : List ℕ → List ℕ → List (List (List ℕ))
last k name = (codes ".names" ∷ k ∷ name ∷ []) ∷ (codes "1" ∷ codes "1" ∷ []) ∷ []

abbrev end : List (List (List ℕ))
end = (codes ".end" ∷ []) ∷ []

-- an inverter
abbrev inverter : Logic
inverter = record { name = codes "inv"; inputs = codes "a" ∷ []; clocks = []; outputs = codes "y" ∷ []; variables = codes "a" ∷ []; functions = (λ bits. not (bit_at bits 0)) ∷ [] }

inverter_is : model_lines (written_model inverter) ≡ head (codes "inv") (codes "a" ∷ []) (codes "y" ∷ []) ++ node (codes "a") (codes "=1") (codes "=0") (codes "=2") ++ last (codes "=2") (codes "y") ++ end
unfolding digits
inverter_is = refl

-- what is asked of what may be written is so of it
inverter_is_writable : IsWritable inverter
inverter_is_writable =
    let one : length (nodes_in inverter) ≡ 1 = refl in
    record {
      name = refl;
      inputs = refl;
      clocks = refl;
      outputs = refl;
      inputs_apart = apart (codes "a" ∷ []) (refl, tt);
      clocks_apart = apart [] tt;
      outputs_apart = apart (codes "y" ∷ []) (refl, tt);
      outputs_other = λ name t. named_each (λ n. has_name (codes "a" ∷ []) n ≡ false) (codes "y" ∷ []) name (refl, tt) t;
      variables_there = λ name t. t;
      functions = refl;
      few = omega (arith, one);
    }

-- a gate of two inputs
abbrev gate : Logic
gate = record { name = codes "nand2"; inputs = codes "a" ∷ codes "b" ∷ []; clocks = []; outputs = codes "y" ∷ []; variables = codes "a" ∷ codes "b" ∷ []; functions = (λ bits. not (bit_at bits 0 && bit_at bits 1)) ∷ [] }

gate_is : model_lines (written_model gate)
    ≡ head (codes "nand2") (codes "a" ∷ codes "b" ∷ []) (codes "y" ∷ []) ++ node (codes "b") (codes "=1") (codes "=0") (codes "=2") ++ node (codes "a") (codes "=1") (codes "=2") (codes "=3")
    ++ last (codes "=3") (codes "y") ++ end
unfolding digits
gate_is = refl

-- two pairs of devices in rows below a load
abbrev pairs : Logic
pairs = record {
  name = codes "andor";
  inputs = codes "a1" ∷ codes "b1" ∷ codes "a2" ∷ codes "b2" ∷ [];
  clocks = [];
  outputs = codes "y" ∷ [];
  variables = codes "a1" ∷ codes "b1" ∷ codes "a2" ∷ codes "b2" ∷ [];
  functions = (λ bits. not ((bit_at bits 0 && bit_at bits 1) || (bit_at bits 2 && bit_at bits 3))) ∷ [];
}

pairs_are : model_lines (written_model pairs)
    ≡ head (codes "andor") (codes "a1" ∷ codes "b1" ∷ codes "a2" ∷ codes "b2" ∷ []) (codes "y" ∷ [])
    ++ node (codes "b2") (codes "=1") (codes "=0") (codes "=2") ++ node (codes "a2") (codes "=1") (codes "=2") (codes "=3")
    ++ node (codes "b1") (codes "=3") (codes "=0") (codes "=4") ++ node (codes "a1") (codes "=3") (codes "=4") (codes "=5")
    ++ last (codes "=5") (codes "y") ++ end
unfolding digits
pairs_are = refl

-- Three outputs: the second is a subfunction of the first, the third is constant. The variables stand in another order than the inputs, one is
-- not read, and a clock is an input too.
abbrev shared : Logic
shared = record {
  name = codes "m";
  inputs = codes "c" ∷ codes "a" ∷ codes "b" ∷ [];
  clocks = codes "a" ∷ codes "k" ∷ [];
  outputs = codes "y" ∷ codes "z" ∷ codes "o" ∷ [];
  variables = codes "a" ∷ codes "b" ∷ codes "c" ∷ [];
  functions = (λ bits. bit_at bits 0 && bit_at bits 2) ∷ (λ bits. bit_at bits 2) ∷ (λ bits. true) ∷ [];
}

shared_are : model_lines (written_model shared)
    ≡ (codes ".model" ∷ codes "m" ∷ []) ∷ (codes ".inputs" ∷ codes "c" ∷ codes "a" ∷ codes "b" ∷ []) ∷ (codes ".clock" ∷ codes "k" ∷ [])
    ∷ (codes ".outputs" ∷ codes "y" ∷ codes "z" ∷ codes "o" ∷ []) ∷ (codes ".names" ∷ codes "=0" ∷ []) ∷ (codes ".names" ∷ codes "=1" ∷ []) ∷ (codes "1" ∷ [])
    ∷ (node (codes "c") (codes "=0") (codes "=1") (codes "=2") ++ node (codes "a") (codes "=0") (codes "=2") (codes "=3")
    ++ last (codes "=3") (codes "y") ++ last (codes "=2") (codes "z") ++ last (codes "=1") (codes "o") ++ end)
unfolding digits
shared_are = refl
