-- The nets of a part have one rank and one least net.
use Rattle.std.proofs.Common.{◌≡◌, ℕ, ◌≤◌, arith, inl, inr}
use Rattle.vrt_model.proofs.Laws.{turned}
use Rattle.vrt_model.proofs.Ranked.{together_first, together_plain}
use Rattle.vrt_model.specs.Known.{HasArc, HasRankArc, IsLeastOfPart, IsRanking, IsTogether, Leads, itself, onward}
use Rattle.vrt_model.specs.Reading.{bare}
use Rattle.vrt_model.specs.declared.circuit.Circuit.{Circuit}
use Rattle.vrt_model.specs.declared.rules.Phase.{Phase}
use Rattle.vrt_model.specs.declared.whole.Link.{Link}
use Rattle.vrt_model.specs.declared.whole.Whole.{Whole}

module _ (c : Circuit) (phase : Phase) where
  further : (n m l : ℕ) → IsTogether c phase bare n m → IsTogether c phase bare m l → IsTogether c phase bare n l
  further n m l first (itself p) = first
  further n m l first (onward {l = j} d t i join p) = onward d (further n m j first t) i join p

  back : (n m : ℕ) → IsTogether c phase bare n m → IsTogether c phase bare m n
  back n m (itself p) = itself p
  back n m (onward {l = l} d t i join p) =
      further m l n (onward d (itself p) i (turned d l m join) (together_plain c phase bare n l t)) (back n l t)

  -- what leads to one net of a part leads to each
  leads_moved : (w : Whole) (link : Link) (k n m : ℕ) → IsTogether c phase bare n m → Leads c phase w link k n → Leads c phase w link k m
  leads_moved w link k n m t l =
      let pin = l.4 in (l.0, l.1, l.2, l.3, (pin.0, pin.1, further m n pin.0.net.0 (back n m t) pin.2))

  has_arc_moved : (k n m : ℕ) → IsTogether c phase bare n m → HasArc c phase k n → HasArc c phase k m
  has_arc_moved k n m t (inl gate) =
      let i = gate.1 in inl (gate.0, (i.0, i.1, further m n i.0 (back n m t) i.2, i.3, i.4), gate.2, gate.3)
  has_arc_moved k n m t (inr whole) = inr (whole.0, whole.1, leads_moved whole.0 whole.1 k n m t whole.2)

  arc_moved : (k n m : ℕ) → IsTogether c phase bare n m → HasRankArc c phase k n → HasRankArc c phase k m
  arc_moved k n m t (inl arc) = inl (has_arc_moved k n m t arc.0, arc.1)
  arc_moved k n m t (inr named) = inr (named.0, named.1, named.2, leads_moved named.0 named.1 k n m t named.3)

  not_above : (rank : ℕ → ℕ) → IsRanking c phase rank → (n m : ℕ) → IsTogether c phase bare n m → rank n ≤ rank m
  not_above rank ranks n m t =
      elim (ranks.reached n (together_first c phase bare n m t)) [
        | inl one ↦ elim (ranks.reached m (together_plain c phase bare n m t)) [
          | inl also ↦ omega (arith, one, also)
          | inr from ↦ (let up = from.2 in omega (arith, one, up))
        ]
        | inr from ↦ (let up = from.2 in let above = ranks.above from.0 m (arc_moved from.0 n m t from.1) in omega (arith, up, above))
      ]

  pub same_rank : (rank : ℕ → ℕ) → IsRanking c phase rank → (n m : ℕ) → IsTogether c phase bare n m → rank n ≡ rank m
  same_rank rank ranks n m t =
      let le = not_above rank ranks n m t in let ge = not_above rank ranks m n (back n m t) in omega (arith, le, ge)

  pub one_least : (n a b : ℕ) → IsLeastOfPart c phase n a → IsLeastOfPart c phase n b → a ≡ b
  one_least n a b one two = let le = one.lowest b two.together in let ge = two.lowest a one.together in omega (arith, le, ge)
