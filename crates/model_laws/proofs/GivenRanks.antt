-- Ranks where each gate is a net with a given value: plain nets have rank 1, and nets with given values rank 0.
use Rattle.std.proofs.Common.{◌≡◌, ℕ, ◌<◌, Bool, true, false, cond, List, Option, arith, ap, subst, sym, ◌∙◌, inl, inr}
use Rattle.std.specs.Prelude.{option_map, unwrap_or}
use Rattle.std.proofs.lemmas.Option.{same_Some}
use Rattle.model_laws.specs.Ranks.{rank_of}
use Rattle.vrt_model.proofs.Filtered.{device_among}
use Rattle.vrt_model.proofs.GatesGiven.{HasGivenGates, IsGiven, shown, shown_is_solution}
use Rattle.vrt_model.proofs.Members.{at_none}
use Rattle.vrt_model.proofs.Ranked.{plain_not_given, together_first}
use Rattle.vrt_model.specs.Known.{HasArc, HasFixedBit, IsPlain, IsRanking, IsUnknown, fixed, settled}
use Rattle.vrt_model.specs.Lists.{At, Among}
use Rattle.vrt_model.specs.Reading.{Partial, Reading, is_given}
use Rattle.vrt_model.specs.Solution.{IsSolution}
use Rattle.vrt_model.specs.State.{Setting}
use Rattle.vrt_model.specs.declared.circuit.Circuit.{Circuit}
use Rattle.vrt_model.specs.declared.circuit.FlatNet.{FlatNet}
use Rattle.vrt_model.specs.declared.circuit.NetKind.{NetKind}
use Rattle.vrt_model.specs.declared.circuit.NetKind.TheVariants.{Input}
use Rattle.vrt_model.specs.declared.rules.Phase.{Phase}
use Rattle.vrt_model.specs.declared.whole.Whole.{Whole}

-- an input is not known
pub input_unknown : (c : Circuit) (phase : Phase) (n : ℕ) (net : FlatNet) → At c.nets n net → net.kind ≡ Input → IsUnknown c phase n
input_unknown c phase n net e is v (fixed f) =
    let same : f.0 ≡ net = same_Some f.0 net (sym f.1 ∙ e) in
    subst (λ (k : NetKind). HasFixedBit phase k v) (ap (λ (x : FlatNet). x.kind) same ∙ is) f.2
input_unknown c phase n net e is v (settled inside reading held driven shut ins own gates shows) =
    plain_not_given c n (shut.plain n ins).0 (net, e, ap is_given is)

rank_at : (c : Circuit) (n : ℕ) (net : FlatNet) → At c.nets n net → rank_of c n ≡ cond (is_given net.kind) 0 1
unfolding rank_of
rank_at c n net e = ap (λ (o : Option FlatNet). cond (unwrap_or (option_map (λ (x : FlatNet). is_given x.kind) o) false) 0 1) e

pub rank_given : (c : Circuit) (n : ℕ) → IsGiven c n → rank_of c n ≡ 0
rank_given c n g = rank_at c n g.0 g.1 ∙ ap {B = ℕ} (λ (b : Bool). cond b 0 1) g.2

pub rank_plain : (c : Circuit) (n : ℕ) → IsPlain c n → rank_of c n ≡ 1
rank_plain c n p = rank_at c n p.0 p.1 ∙ ap {B = ℕ} (λ (k : NetKind). cond (is_given k) 0 1) p.2

-- these are the ranks
pub given_ranking : (c : Circuit) (phase : Phase) → HasGivenGates c → IsRanking c phase (rank_of c)
given_ranking c phase good = record {
  given = λ n net e g. rank_given c n (net, e, g);
  above = λ n m arc. elim arc [ inl own ↦ up n m own.0 | inr named ↦ absurd (no_whole named.0 named.3.0) ];
  reached = λ m p. inl (rank_plain c m p);
}
  where
    no_whole : (w : Whole) → Among c.wholes w → ⊥
    no_whole w m = at_none m.0 w (subst (λ (ws : List Whole). At ws m.0 w) good.wholes m.1)

    up : (n m : ℕ) → HasArc c phase n m → rank_of c n < rank_of c m
    up n m (inl gate) =
        let low : rank_of c gate.0.gate.0 ≡ 0 = rank_given c gate.0.gate.0 (good.gates gate.0 (device_among true c gate.0 gate.1.3.0).0) in
        let high : rank_of c m ≡ 1 = rank_plain c m (together_first c phase true m gate.1.0 gate.1.2) in
        subst (λ (x : ℕ). rank_of c x < rank_of c m) gate.2 (omega (arith, low, high))
    up n m (inr whole) = absurd (no_whole whole.0 whole.2.0)

-- there is a solution: what the nets show
pub some_solution : (c : Circuit) (phase : Phase) → HasGivenGates c → (setting : Setting) (observed : Reading) → (a : Partial) × IsSolution c phase observed setting a
some_solution c phase good setting observed = (shown c phase good setting observed, shown_is_solution c phase good setting observed)
