-- The newest node of a chain.
use Rattle.std.proofs.Common.{◌≡◌, ℕ, zero, suc, ◌+◌, ◌<◌, ◌≤◌, ◌≢◌, Bool, true, false, cond, eqb, List, [], ◌∷◌, ◌++◌, length, get_or, take, refl, sym, ap, ◌∙◌, inl, inr, arith}
use Rattle.std.proofs.lemmas.List.{get_or_append_left, get_or-take}
use Rattle.std.proofs.lemmas.Bool.{cases_eq}
use Rattle.node_pool.specs.declared.region.Node.{Node}
use Rattle.node_pool.specs.Region.{newest, chain_of, no_node}

pub newest_le : (mask : ℕ) (nodes : List Node) (b n : ℕ) → newest mask nodes b n ≤ n
newest_le mask nodes b zero = omega arith
newest_le mask nodes b (suc i) = grind (arith, newest_le mask nodes b i)

-- what the chain leads to is on it
pub newest_hits : (mask : ℕ) (nodes : List Node) (b n i : ℕ) → newest mask nodes b n ≡ suc i → chain_of mask (get_or nodes i no_node) ≡ b
newest_hits mask nodes b zero i e = grind arith
newest_hits mask nodes b (suc k) i e = grind (arith, newest_hits mask nodes b k i)

-- what the chain skips is not on it
pub newest_skips : (mask : ℕ) (nodes : List Node) (b n k : ℕ) → newest mask nodes b n ≤ k → k < n → chain_of mask (get_or nodes k no_node) ≢ b
newest_skips mask nodes b zero k skipped below = absurd (omega arith)
newest_skips mask nodes b (suc i) k skipped below = grind (arith, newest_skips mask nodes b i k)

-- what is there before says it
pub newest-append : (mask : ℕ) (nodes more : List Node) (b n : ℕ) → n ≤ length nodes → newest mask (nodes ++ more) b n ≡ newest mask nodes b n
newest-append mask nodes more b zero within = refl
newest-append mask nodes more b (suc i) within = grind (arith, newest-append mask nodes more b i (omega arith), get_or_append_left nodes more no_node i (omega arith))

pub newest-take : (mask : ℕ) (nodes : List Node) (m b n : ℕ) → n ≤ m → newest mask (take m nodes) b n ≡ newest mask nodes b n
newest-take mask nodes m b zero within = refl
newest-take mask nodes m b (suc i) within = grind (arith, newest-take mask nodes m b i (omega arith), get_or-take m nodes i no_node (omega arith))

-- one node more
pub newest_same : (mask : ℕ) (nodes : List Node) (b n : ℕ) → chain_of mask (get_or nodes n no_node) ≡ b → newest mask nodes b (n + 1) ≡ n + 1
newest_same mask nodes b n on = rw Rattle.std.proofs.Common.add-one (grind arith)

pub newest_other : (mask : ℕ) (nodes : List Node) (b n : ℕ) → chain_of mask (get_or nodes n no_node) ≢ b → newest mask nodes b (n + 1) ≡ newest mask nodes b n
newest_other mask nodes b n off = rw Rattle.std.proofs.Common.add-one (grind arith)

-- the newest one is the newest below itself
pub newest_again : (mask : ℕ) (nodes : List Node) (b n : ℕ) → newest mask nodes b (newest mask nodes b n) ≡ newest mask nodes b n
newest_again mask nodes b zero = refl
newest_again mask nodes b (suc i) =
    elim (cases_eq (chain_of mask (get_or nodes i no_node)) b) [
      | inl on ↦ let e : newest mask nodes b (suc i) ≡ suc i = grind arith in rw e e
      | inr off ↦ let e : newest mask nodes b (suc i) ≡ newest mask nodes b i = grind arith in rw e (newest_again mask nodes b i)
    ]
