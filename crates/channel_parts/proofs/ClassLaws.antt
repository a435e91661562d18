-- The lines of the parts are the classes of the circuit.
use Rattle.std.proofs.Common.{◌≡◌, ℕ, zero, suc, ◌≤◌, Bool, true, false, cond, List, [], ◌∷◌, map, Option, Some, slice_get, arith, ap, refl, subst, sym, ◌∙◌}
use Rattle.std.specs.Prelude.{◌||◌}
use Rattle.std.proofs.lemmas.Bool.{false≢true}
use Rattle.std.proofs.lemmas.Option.{none-some, same_Some}
use Rattle.channel_parts.specs.PartLists.{least_of, net_numbers}
use Rattle.channel_parts.specs.declared.part.Part.{Part}
use Rattle.channel_parts.proofs.ClassTestLaws.{domino_is, is_domino_is, is_pass_is, linked_plain, pass_is}
use Rattle.channel_parts.specs.LinkedParts.{AreLinkedParts, IsLinkedPart}
use Rattle.channel_parts.specs.Classes.{AreClasses, HasClass, IsDomino, IsLeastLinked, IsLinked, IsPass}
use Rattle.channel_parts.specs.ClassTests.{class_by, first_net, has_hold, has_input, has_stage, line_by}
use Rattle.channel_parts.specs.PhaseTables.{AreTables}
use Rattle.channel_parts.specs.declared.class.Class.TheVariants.{Static, Pass, Domino}
use Rattle.channel_parts.specs.declared.class.ClassLine.{ClassLine}
use Rattle.known_nets.specs.Incidence.{AreHeldMarks}
use Rattle.vrt_model.proofs.Lists.{at_map, map_among}
use Rattle.vrt_model.proofs.Members.{among_map}
use Rattle.vrt_model.specs.Lists.{At}
use Rattle.vrt_model.specs.declared.circuit.Circuit.{Circuit}
use Rattle.vrt_model.specs.declared.ids.Net.{Net}
use Rattle.vrt_model.specs.declared.rules.Phase.{Phase}

-- ---- the least net

first_is : (nets : List Net) (least : ℕ) → slice_get (net_numbers nets) 0 ≡ Some least → (first_net nets).0 ≡ least
first_is [] least e = absurd (none-some least e)
first_is (n ∷ nets) least e = same_Some n.0 least e

part_least : (c : Circuit) (part : Part) → IsLinkedPart c part → IsLeastLinked c (least_of part)
part_least c part is = record {
  plain = linked_plain c (least_of part) (least_of part) ((is.nets (least_of part)).0 (0, is.first));
  lowest = λ m l. let among = (is.nets m).1 l in from_first m among.0 among.1;
}
  where
    from_first : (m i : ℕ) → At (net_numbers part.nets) i m → least_of part ≤ m
    from_first m zero a = let same : least_of part ≡ m = same_Some (least_of part) m (sym is.first ∙ a) in omega (arith, same)
    from_first m (suc i) a = let less = is.net_order 0 (suc i) (least_of part) m is.first a (omega arith) in omega (arith, less)

module _ (c : Circuit) (phases : List Phase) (held : List Bool) (tables : List (List (Option Bool))) (marks : AreHeldMarks c held) (are : AreTables c phases tables) where
  -- ---- the class of a part

  class_is : (part : Part) → IsLinkedPart c part → HasClass c phases (least_of part) (class_by c held tables part)
  class_is part is = pick (has_stage c held tables part.devices) refl (has_input c part.devices || has_hold held part.nets) refl
    where
      no_domino : has_stage c held tables part.devices ≡ false → ¬ IsDomino c phases (least_of part)
      no_domino f d = false≢true (sym f ∙ is_domino_is c part is held marks phases tables are d)

      no_pass : (has_input c part.devices || has_hold held part.nets) ≡ false → ¬ IsPass c (least_of part)
      no_pass f p = false≢true (sym f ∙ is_pass_is c part is held marks p)

      pick : (b : Bool) → has_stage c held tables part.devices ≡ b → (p : Bool) → (has_input c part.devices || has_hold held part.nets) ≡ p
          → HasClass c phases (least_of part) (cond b Domino (cond p Pass Static))
      pick true e p f = domino_is c part is held marks phases tables are e
      pick false e true f = (no_domino e, pass_is c part is held marks f)
      pick false e false f = (no_domino e, no_pass f)

  abbrev line_of : Part → ClassLine
  line_of part = line_by c held tables part

  line_net : (part : Part) → IsLinkedPart c part → least_of part ≡ (line_of part).net.0
  line_net part is = sym (first_is part.nets (least_of part) is.first)

  line_is : (part : Part) → IsLinkedPart c part → IsLeastLinked c (line_of part).net.0 × HasClass c phases (line_of part).net.0 (line_of part).class
  line_is part is =
      subst (λ (n : ℕ). IsLeastLinked c n × HasClass c phases n (class_by c held tables part)) (line_net part is) (part_least c part is, class_is part is)

  -- ---- all lines

  pub lines_are : (parts : List Part) → AreLinkedParts c parts → AreClasses c phases (map line_of parts)
  lines_are parts linked = record {
    each = λ line m.
        let from = among_map line_of parts line m in
        subst (λ (l : ClassLine). IsLeastLinked c l.net.0 × HasClass c phases l.net.0 l.class) from.2 (line_is from.0 (linked.each from.0 from.1));
    all = λ n p.
        let part = linked.all n p in
        let is = linked.each part.0 part.1 in
        (line_of part.0, map_among line_of parts part.0 part.1, subst (λ (x : ℕ). IsLinked c x n) (line_net part.0 is) ((is.nets n).0 part.2));
    sorted = λ i j a b at_a at_b lt.
        let first = net_at i a at_a in
        let second = net_at j b at_b in
        let less = linked.sorted i j first.0 second.0 first.1 second.1 lt in
        let one = first.2 in
        let other = second.2 in
        omega (arith, less, one, other);
  }
    where
      net_at : (i a : ℕ) → At (map (λ (line : ClassLine). line.net.0) (map line_of parts)) i a → (part : Part) × At parts i part × (least_of part ≡ a)
      net_at i a at =
          let line = at_map (λ (l : ClassLine). l.net.0) (map line_of parts) i a at in
          let part = at_map line_of parts i line.0 line.1 in
          (part.0, part.1, line_net part.0 (linked.each part.0 (i, part.1)) ∙ ap (λ (l : ClassLine). l.net.0) part.2 ∙ line.2)
