use Rattle.std.proofs.Common.{ℕ, ◌≡◌, ◌<◌, ◌≤◌, ◌⊎◌, List, [], ◌∷◌, ◌++◌, length, set, slice_index, ap, arith, refl, subst, sym, ◌∙◌}
use Rattle.std.proofs.lemmas.Bool.{ltb-true}
use Rattle.std.specs.Prelude.{◌↔◌, true}
use Rattle.known_nets.proofs.ShutLaws.{alone_in, arrived_together, listed_from, region_of}
use Rattle.known_nets.proofs.SpreadLaws.{plain_within}
use Rattle.known_nets.specs.Regions.{IsRegion, has_amount}
use Rattle.vrt_model.specs.Lists.{At, Among, has_number}
use Rattle.known_nets.proofs.region.region.Goals as goal

-- the net alone was met at the beginning
began : (c : goal.After-clear) → c.begin_at.new.self.met.items ≡ c.args.net ∷ []
began c = c.in_ok-begin_at.ensures.met ∙ ap (λ (l : List ℕ). l ++ c.args.net ∷ []) c.requires.none.empty

first_met : (c : goal.After-clear) → At c.begin_at.new.self.met.items 0 c.args.net
first_met c = subst (λ (l : List ℕ). At l 0 c.args.net) (sym (began c)) refl

met : (c : goal.After-clear) → c.in_ok-nets.nets.items ≡ c.spread_from.new.amounts.met.items
met c = c.in_ok-nets.ensures ∙ c.as_slice.ensures.value

listed : (c : goal.After-clear) (n : ℕ) → (has_amount c.spread_from.new.amounts.table.items n ≡ true) ↔ Among c.spread_from.new.amounts.met.items n
listed c =
    let spread = c.in_ok-spread_from.ensures in
    let zeros = c.args.inside.now.table.items in
    let base = c.begin_at.new.self in
    let last = c.spread_from.new.amounts in
    let net = c.args.net in
    let is : base.table.items ≡ set zeros net 1 = c.in_ok-begin_at.ensures.table in
    let within = plain_within c.args.circuit.now net c.requires.plain in
    let size = c.requires.none.size in
    listed_from zeros net base.met.items last.met.items last.table.items c.requires.none.zero (omega (arith, within, size)) (ap length (began c)) (first_met c) spread.stays
    (subst (λ (b : List ℕ). (n : ℕ) → (slice_index last.table.items n ≡ slice_index b n) ⊎ Among last.met.items n) is spread.raised)
    spread.listed
    (subst (λ (b : List ℕ). (n : ℕ) → slice_index b n ≤ slice_index last.table.items n) is spread.grown)

pub returns-clause-region : goal.returns-clause-region
returns-clause-region c =
    let spread = c.in_ok-spread_from.ensures in
    let last = c.spread_from.new.amounts in
    subst (λ (l : List ℕ). IsRegion c.args.circuit.now c.args.known.now (has_number l)) (sym (met c))
    (region_of c.args.circuit.now c.args.known.now last.met.items last.table.items spread.plain (listed c) spread.closed)

pub returns-clause-has : goal.returns-clause-has
returns-clause-has c =
    subst (λ (l : List ℕ). Among l c.args.net) (sym (met c)) (c.in_ok-spread_from.ensures.stays c.args.net (0, first_met c))

pub returns-clause-together : goal.returns-clause-together
returns-clause-together c phase n m =
    let net = c.args.net in
    let table = c.spread_from.new.amounts.table.items in
    let base = c.begin_at.new.self.table.items in
    let alone : (k : ℕ) → 0 < slice_index base k → k ≡ net =
    subst (λ (b : List ℕ). (k : ℕ) → 0 < slice_index b k → k ≡ net) (sym c.in_ok-begin_at.ensures.table) (alone_in c.args.inside.now.table.items net c.requires.none.zero) in
    arrived_together c.args.circuit.now phase c.args.known.now [] base net n (slice_index table n) alone (c.in_ok-spread_from.ensures.arrived n)
    (ltb-true 0 (slice_index table n) ((listed c n).1 (subst (λ (l : List ℕ). Among l n) (met c) m)))
