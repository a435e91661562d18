-- The bit of a variable by its place.
use Rattle.std.proofs.Common.{◌≡◌, ℕ, suc, ◌+◌, ◌<◌, ◌≤◌, Bool, true, false, cond, List, [], ◌∷◌, map, Option, Some, None, Result, Ok, length, arith, ap, ap₂, refl, sym, ◌∙◌}
use Rattle.std.specs.Prelude.{position}
use Rattle.std.specs.List.{position_from}
use Rattle.std.proofs.lemmas.Iterator.Adapters.{position_from-zero}
use Rattle.bdd_core.proofs.Meaning.{meaning_one, meaning_zero}
use Rattle.bdd_core.specs.Diagram.{Function, IsReduced, IsSame, IsWithin, Valuation, meaning}
use Rattle.bdd_core.specs.Store.{Diagrams, Gives}
use Rattle.bdd_core.specs.declared.handle.H.{H}
use Rattle.bdd_core.specs.declared.handle.Spent.{Spent}
use Rattle.bdd_core.proofs.Frames.{gives_none, gives_same}
use Rattle.node_pool.specs.declared.region.Node.{Node}
use Rattle.vrt_model.specs.Held.{bit_of, group_bit_at, is_element, is_group}
use Rattle.vrt_model.specs.Variables.{places}
use Rattle.vrt_model.specs.declared.groups.Source.{Source}
use Rattle.hold_keep.specs.Rooted.{bit_by, bits_at}

module _ (is : Source → Bool) (v : Valuation) where
  from_place : (k : ℕ) (sources : List Source) → bit_by (position_from is k sources) v ≡ bit_of is sources (map v (places k sources))
  from_place k [] = refl
  from_place k (s ∷ ss) = by_test (is s) (ap (λ (n : ℕ). bit_by (position_from is n ss) v) (omega arith) ∙ from_place (suc k) ss)
    where
      by_test : (b : Bool) → bit_by (position_from is (k + 1) ss) v ≡ bit_of is ss (map v (places (suc k) ss))
          → bit_by (cond b (Some k) (position_from is (k + 1) ss)) v ≡ cond b (v k) (bit_of is ss (map v (places (suc k) ss)))
      by_test true rest = refl
      by_test false rest = rest

  -- the bit that a test picks is that of the first variable that passes
  pub picked : (sources : List Source) → bit_by (position is sources) v ≡ bit_of is sources (bits_at sources v)
  picked sources = ap (λ (o : Option ℕ). bit_by o v) (position_from-zero is sources) ∙ from_place 0 sources

-- ---- functions that are the same

pub gives_as : (a b : Diagrams) (f g : Function) (r : Result H Spent) → Gives a b f r → IsSame f g → Gives a b g r
gives_as a b f g r x same = gives_same a b f g r same x

pub wider : (f : Function) (low high : ℕ) → low ≤ high → IsWithin low f → IsWithin high f
wider f low high le reads v w same = reads v w (λ y lt. same y (omega (arith, lt, le)))

-- the constant of a bit
pub constant_is : (nodes : List Node) (v : Valuation) (b : Bool) → meaning nodes (cond b 1 0) v ≡ b
constant_is nodes v true = meaning_one nodes v
constant_is nodes v false = meaning_zero nodes v

-- ---- the bit of a group

module _ (sources : List Source) (number : ℕ) (a b : Diagrams) (r : Result H Spent) where
  pub element_given : (e : ℕ) (place element : Option ℕ) (entered : Option Bool) → element ≡ Some e → place ≡ position (is_element e) sources → Gives a b (bit_by place) r
      → Gives a b (λ v. group_bit_at sources (bits_at sources v) number element entered) r
  element_given e place element entered is at gives =
      gives_as a b (bit_by place) (λ v. group_bit_at sources (bits_at sources v) number element entered) r gives
      (λ v.
      ap (λ (o : Option ℕ). bit_by o v) at ∙ picked (is_element e) v sources
      ∙ sym (ap (λ (o : Option ℕ). group_bit_at sources (bits_at sources v) number o entered) is))

  pub variable_given : (place element : Option ℕ) (entered : Option Bool) → element ≡ None → entered ≡ None → place ≡ position (is_group number) sources → Gives a b (bit_by place) r
      → Gives a b (λ v. group_bit_at sources (bits_at sources v) number element entered) r
  variable_given place element entered none out at gives =
      gives_as a b (bit_by place) (λ v. group_bit_at sources (bits_at sources v) number element entered) r gives
      (λ v.
      ap (λ (o : Option ℕ). bit_by o v) at ∙ picked (is_group number) v sources
      ∙ sym (ap₂ (λ (o : Option ℕ) (x : Option Bool). group_bit_at sources (bits_at sources v) number o x) none out))

pub entered_given : (sources : List Source) (number : ℕ) (d : Diagrams) (h : H) (bit : Bool) (element : Option ℕ) (entered : Option Bool) → IsReduced d.vars d.nodes → length d.nodes ≤ d.budget → h.0 ≡ cond bit 1 0
    → element ≡ None → entered ≡ Some bit → Gives d d (λ v. group_bit_at sources (bits_at sources v) number element entered) (Ok h)
entered_given sources number d h bit element entered sound within is none given =
    gives_none d (λ v. group_bit_at sources (bits_at sources v) number element entered) h sound within (live bit is)
    (λ v.
    ap (λ (k : ℕ). meaning d.nodes k v) is ∙ constant_is d.nodes v bit
    ∙ sym (ap₂ (λ (o : Option ℕ) (x : Option Bool). group_bit_at sources (bits_at sources v) number o x) none given))
  where
    live : (b : Bool) → h.0 ≡ cond b 1 0 → h.0 < length d.nodes
    live true e = let ends = sound.ends in omega (arith, e, ends)
    live false e = let ends = sound.ends in omega (arith, e, ends)

-- no bit of a variable
pub none_given : (d : Diagrams) (place : Option ℕ) (h : H) → IsReduced d.vars d.nodes → length d.nodes ≤ d.budget → h.0 ≡ 0 → place ≡ None → Gives d d (bit_by place) (Ok h)
none_given d place h sound within zero none =
    gives_none d (bit_by place) h sound within (let ends = sound.ends in omega (arith, zero, ends))
    (λ v. ap (λ (k : ℕ). meaning d.nodes k v) zero ∙ meaning_zero d.nodes v ∙ ap (λ (o : Option ℕ). bit_by o v) (sym none))
