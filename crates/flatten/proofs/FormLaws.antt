-- A flat circuit in whose way nothing stands is well formed.
use Rattle.std.proofs.Common.{◌≡◌, ◌<◌, ◌≤◌, ◌+◌, ◌∷◌, ◌&&◌, [], ℕ, zero, suc, List, Bool, true, false, cond, nat_lt, All, map, length, Option, Some, None, refl, ap, sym, subst, ◌∙◌, arith, ltb-false}
use Rattle.std.specs.Prelude.{bytes_eq, drop, find, option_map, position, unwrap_or}
use Rattle.std.specs.List.{cons_option, filter_map}
use Rattle.std.specs.Option.{option_or}
use Rattle.std.proofs.lemmas.List.{length-map}
use Rattle.std.proofs.lemmas.List.Elements.{All-nil}
use Rattle.std.proofs.lemmas.Option.{none-some, same_Some}
use Rattle.flat_holds.proofs.FallLaws.{all_from}
use Rattle.flat_holds.specs.Falls.{holds_from}
use Rattle.flatten.proofs.RangeLaws.{device_named, net_below, ports_in}
use Rattle.names.proofs.PlaceLaws.{placed_within}
use Rattle.vrt_model.proofs.Lists.{among_filter_map}
use Rattle.vrt_model.proofs.Members.{all_among, all_by, among_flat_map, among_map, find_among, find_none}
use Rattle.vrt_model.proofs.Scales.{circuit_device_level, circuit_hold_size, rules_source, usual_within}
use Rattle.vrt_model.specs.Circuits.{IsCircuit, IsDevice, IsEnd, IsFlat, IsHold, IsNet, IsWhole}
use Rattle.vrt_model.specs.Comparison.{cell_at}
use Rattle.vrt_model.specs.FlatCircuit.{Ruled, end_by, falls_on, flat_circuit_of, flat_device, flat_devices, flat_hold, flat_holds, flat_instance, flat_instances, flat_nets, instance_of, is_outermost, led_up, level_of, match_of, net_id, rule_on, rules_on, same_path}
use Rattle.vrt_model.specs.Inputs.{AreRules, IsLevel}
use Rattle.vrt_model.specs.Levels.{IsHoldSizeAt, source_of, usual_level}
use Rattle.vrt_model.specs.Lists.{Among, At}
use Rattle.vrt_model.specs.Unrolled.{Place, Step, Top, all_places, net_at}
use Rattle.vrt_model.specs.Unsupported.{Limit, carried, circuit_limits, too_large}
use Rattle.vrt_model.specs.declared.circuit.Circuit.{Circuit}
use Rattle.vrt_model.specs.declared.circuit.FlatInstance.{FlatInstance}
use Rattle.vrt_model.specs.declared.circuit.Hold.{Hold}
use Rattle.vrt_model.specs.declared.circuit.HoldEnd.TheVariants.{Latch}
use Rattle.vrt_model.specs.declared.design.DeviceCard.{DeviceCard}
use Rattle.vrt_model.specs.declared.ids.Net.{Net}
use Rattle.vrt_model.specs.declared.rules.DeviceRule.{DeviceRule}
use Rattle.vrt_model.specs.declared.rules.HoldRule.{HoldRule}
use Rattle.vrt_model.specs.declared.rules.MatchRule.{MatchRule}
use Rattle.vrt_model.specs.declared.rules.Rules.{Rules}
use Rattle.vrt_model.specs.declared.rules.StrengthRule.{StrengthRule}

-- ---- lists

behind : {X : Type 0} (xs : List X) (x : X) → Among (drop 1 xs) x → Among xs x
behind [] x m = m
behind (y ∷ xs) x m = (suc m.0, m.1)

-- ---- counts

small : (limits : List Limit) (l : Limit) → too_large limits ≡ None → Among limits l → l.count ≤ l.limit
small limits l none m = by_found (find (λ (x : Limit). nat_lt x.limit x.count) limits) refl none where
  by_found : (o : Option Limit) → find (λ (x : Limit). nat_lt x.limit x.count) limits ≡ o → option_map (λ (x : Limit). carried x.count) o ≡ None → l.count ≤ l.limit
  by_found None e none = ltb-false l.limit l.count (find_none (λ (x : Limit). nat_lt x.limit x.count) limits l e m)
  by_found (Some x) e none = absurd (none-some (carried x.count) (sym none))

-- ---- levels

found_level : {X : Type 0} (rules : Rules) (f : X → ℕ) (p : X → Bool) (xs : List X) → All (λ (x : X). IsLevel rules (f x)) xs → (n : ℕ) → option_map f (find p xs) ≡ Some n → IsLevel rules n
found_level {X} rules f p xs all n e = by_found (find p xs) refl e where
  by_found : (o : Option X) → find p xs ≡ o → option_map f o ≡ Some n → IsLevel rules n
  by_found None h e = absurd (none-some n e)
  by_found (Some x) h e = subst (IsLevel rules) (same_Some (f x) n e) (all_among (λ (y : X). IsLevel rules (f y)) xs x all (find_among p xs x h).0)

level_by : (rules : Rules) (a b : Option ℕ) → ((n : ℕ) → a ≡ Some n → IsLevel rules n) → ((n : ℕ) → b ≡ Some n → IsLevel rules n) → IsLevel rules (unwrap_or (option_or a b) (usual_level rules))
level_by rules (Some n) b first second = first n refl
level_by rules None (Some n) first second = second n refl
level_by rules None None first second = usual_within rules

level_within : (rules : Rules) (name device model : List ℕ) → AreRules rules → IsLevel rules (level_of rules name device model)
level_within rules name device model are =
    level_by rules _ _
    (found_level rules (λ (r : StrengthRule). r.level) (λ (r : StrengthRule). bytes_eq r.cell name && bytes_eq r.device device) rules.strengths are.strength_levels)
    (found_level rules (λ (r : DeviceRule). r.level) (λ (r : DeviceRule). bytes_eq r.model model) rules.devices are.device_levels)

-- ---- holds

module _ (t : Top) where
  -- a hold of one of so many nets
  abbrev IsFrom : ℕ → ℕ → Hold → Type 0
  IsFrom n count h = (m : ℕ) × (n ≤ m) × (m < n + count) × (r : Ruled) × (rule_on t m ≡ Some r) × (flat_hold t m r ≡ h)

  hold_from : (n count i : ℕ) (h : Hold) → At (holds_from t n count) i h → IsFrom n count h
  hold_from n zero i h e = absurd (none-some h e)
  hold_from n (suc count) i h e = by_rule (rule_on t n) refl i (λ j m. hold_from (suc n) count j h m) e where
    later : IsFrom (suc n) count h → IsFrom n (suc count) h
    later f =
        let low = f.1 in
        let high = f.2 in
        (f.0, omega (arith, low), omega (arith, high), f.3, f.4, f.5)

    by_rule : (o : Option Ruled) → rule_on t n ≡ o → (j : ℕ) → ((k : ℕ) → At (holds_from t (suc n) count) k h → IsFrom (suc n) count h)
        → At (cons_option (option_map (flat_hold t n) o) (holds_from t (suc n) count)) j h → IsFrom n (suc count) h
    by_rule None is j rest e = later (rest j e)
    by_rule (Some r) is zero rest e = (n, omega arith, omega arith, r, is, same_Some (flat_hold t n r) h e)
    by_rule (Some r) is (suc j) rest e = later (rest j e)

  net_from : (n count i : ℕ) (h : Hold) → At (holds_from t n count) i h → n ≤ h.net.0
  net_from n count i h e =
      let f = hold_from n count i h e in
      let low = f.1 in
      let net : f.0 ≡ h.net.0 = ap (λ (x : Hold). x.net.0) f.5 in
      omega (arith, low, net)

  -- no net has two
  one_from : (n count i j : ℕ) (g h : Hold) → At (holds_from t n count) i g → At (holds_from t n count) j h → g.net ≡ h.net → i ≡ j
  one_from n zero i j g h a b same = absurd (none-some g a)
  one_from n (suc count) i j g h a b same = by_rule (rule_on t n) i j (λ k l x y. one_from (suc n) count k l g h x y same) a b where
    number : g.net.0 ≡ h.net.0
    number = ap (λ (x : Net). x.0) same

    by_rule : (o : Option Ruled) (i j : ℕ) → ((k l : ℕ) → At (holds_from t (suc n) count) k g → At (holds_from t (suc n) count) l h → k ≡ l)
        → At (cons_option (option_map (flat_hold t n) o) (holds_from t (suc n) count)) i g → At (cons_option (option_map (flat_hold t n) o) (holds_from t (suc n) count)) j h → i ≡ j
    by_rule None i j rest a b = rest i j a b
    by_rule (Some r) zero zero rest a b = refl
    by_rule (Some r) zero (suc j) rest a b =
        let first : n ≡ g.net.0 = ap (λ (x : Hold). x.net.0) (same_Some (flat_hold t n r) g a) in
        let more = net_from (suc n) count j h b in
        let e = number in
        absurd (omega (arith, first, more, e))
    by_rule (Some r) (suc i) zero rest a b =
        let first : n ≡ h.net.0 = ap (λ (x : Hold). x.net.0) (same_Some (flat_hold t n r) h b) in
        let more = net_from (suc n) count i g a in
        let e = number in
        absurd (omega (arith, first, more, e))
    by_rule (Some r) (suc i) (suc j) rest a b = ap suc (rest i j a b)

  -- the rule of a hold is one of the rules
  rule_among : (n : ℕ) (r : Ruled) → rule_on t n ≡ Some r → Among t.rules.holds r.rule
  rule_among n r e =
      let one = find_among (is_outermost (rules_on t n)) (rules_on t n) r e in
      let place = among_flat_map (λ (at : Place). filter_map (λ (rule : HoldRule). cond (falls_on t n at rule) (let x : Ruled = record { at = at; rule = rule } in Some x) None) t.rules.holds) (all_places t) r one.0 in
      let line = among_filter_map (λ (rule : HoldRule). cond (falls_on t n place.0 rule) (let x : Ruled = record { at = place.0; rule = rule } in Some x) None) t.rules.holds r place.2 in
      subst (λ (rule : HoldRule). Among t.rules.holds rule) (by_bit (falls_on t n place.0 line.0) place.0 line.0 line.2) line.1 where
        by_bit : (b : Bool) (at : Place) (rule : HoldRule) → cond b (let x : Ruled = record { at = at; rule = rule } in Some x) None ≡ Some r → rule ≡ r.rule
        by_bit true at rule e = ap (λ (x : Ruled). x.rule) (same_Some _ r e)
        by_bit false at rule e = absurd (none-some r e)

  -- ---- the circuit

  module _ (c : Circuit) (source : c.source ≡ source_of t.rules) (nets : c.nets ≡ flat_nets t) (instances : c.instances ≡ flat_instances t) where
    in_circuit : (n : ℕ) → n < length (flat_nets t) → n < length c.nets
    in_circuit n lt = let size = ap length nets in omega (arith, lt, size)

    -- an instance to which lines lead is there
    end_there : (steps : List Step) (element : List ℕ) → IsEnd c (Latch (instance_of t steps) element)
    end_there [] element = tt
    end_there (step ∷ steps) element = by_place (position (λ (at : Place). same_path at.path (step ∷ steps)) (drop 1 (all_places t))) refl where
      by_place : (o : Option ℕ) → position (λ (at : Place). same_path at.path (step ∷ steps)) (drop 1 (all_places t)) ≡ o → IsEnd c (Latch o element)
      by_place None e = tt
      by_place (Some k) e =
          let lt = placed_within (λ (at : Place). same_path at.path (step ∷ steps)) (drop 1 (all_places t)) k e in
          let size : length c.instances ≡ length (drop 1 (all_places t)) = ap length instances ∙ length-map (drop 1 (all_places t)) flat_instance in
          omega (arith, lt, size)

    end_is : (n : ℕ) (r : Ruled) (o : Option MatchRule) → n < length c.nets → IsEnd c (end_by t n r o)
    end_is n r None lt = lt
    end_is n r (Some line) lt = end_there (led_up t.rules r.at.path line.latch line.inverted).path (led_up t.rules r.at.path line.latch line.inverted).element

    hold_is : AreRules t.rules → (n : ℕ) (r : Ruled) → n < length c.nets → rule_on t n ≡ Some r → IsHold c (flat_hold t n r)
    hold_is ruled n r lt e = record {
      net = lt;
      size = circuit_hold_size c t.rules source r.rule.size (all_among (λ (h : HoldRule). IsHoldSizeAt t.rules.scale h.size) t.rules.holds r.rule ruled.sizes (rule_among n r e));
      end = end_is n r (match_of t.rules r.rule) lt;
    }

    holds_are : AreRules t.rules → All (IsHold c) (flat_holds t)
    holds_are ruled =
        all_by (IsHold c) (flat_holds t)
        (λ h m.
        let f = hold_from 0 (length (flat_nets t)) m.0 h (subst (λ (hs : List Hold). At hs m.0 h) (all_from t 0 (flat_nets t)) m.1) in
        let high = f.2 in
        subst (IsHold c) f.5 (hold_is ruled f.0 f.3 (in_circuit f.0 (omega (arith, high))) f.4))

    device_is : AreRules t.rules → (at : Place) (card : DeviceCard) → Among (all_places t) at → Among (cell_at t.design at.cell).devices card → IsDevice c (flat_device t at card)
    device_is ruled at card there m =
        let within : (name : List ℕ) → Among (card.drain ∷ card.gate ∷ card.source ∷ []) name → net_at t at name < length c.nets =
        λ name on. in_circuit (net_at t at name) (net_below t at name there (ports_in t at there) (device_named (cell_at t.design at.cell) card name m on)) in
        record {
          gate = within card.gate (1, refl);
          left = within card.drain (0, refl);
          right = within card.source (2, refl);
          level = circuit_device_level c t.rules source (level_of t.rules (cell_at t.design at.cell).name card.name card.model) (level_within t.rules (cell_at t.design at.cell).name card.name card.model ruled);
        }

    devices_are : AreRules t.rules → All (IsDevice c) (flat_devices t)
    devices_are ruled =
        all_by (IsDevice c) (flat_devices t)
        (λ d m.
        let place = among_flat_map (λ (at : Place). map (flat_device t at) (cell_at t.design at.cell).devices) (all_places t) d m in
        let card = among_map (flat_device t place.0) (cell_at t.design place.0.cell).devices d place.2 in
        subst (IsDevice c) card.2 (device_is ruled place.0 card.0 place.1 card.1))

    ports_are : All (λ (i : FlatInstance). All (IsNet c) i.ports) (flat_instances t)
    ports_are =
        all_by (λ (i : FlatInstance). All (IsNet c) i.ports) (flat_instances t)
        (λ i m.
        let place = among_map flat_instance (drop 1 (all_places t)) i m in
        let there : Among (all_places t) place.0 = behind (all_places t) place.0 place.1 in
        subst (λ (x : FlatInstance). All (IsNet c) x.ports) place.2
        (all_by (IsNet c) (map net_id place.0.ports)
        (λ net on.
        let n = among_map net_id place.0.ports net on in
        subst (IsNet c) n.2 (in_circuit n.0 (ports_in t place.0 there n.0 n.1)))))

  -- where no count is too large
  pub formed : AreRules t.rules → too_large (circuit_limits t) ≡ None → IsCircuit (flat_circuit_of t)
  unfolding flat_circuit_of
  formed ruled none = record {
    source = rules_source t.rules;
    net_limit = small (circuit_limits t) (record { count = length (flat_nets t); limit = 20000 }) none (0, refl);
    device_limit = small (circuit_limits t) (record { count = length (flat_devices t); limit = 40000 }) none (1, refl);
    instance_limit = small (circuit_limits t) (record { count = length (flat_instances t); limit = 40000 }) none (2, refl);
    devices = devices_are (flat_circuit_of t) refl refl refl ruled;
    holds = holds_are (flat_circuit_of t) refl refl refl ruled;
    instances = ports_are (flat_circuit_of t) refl refl refl;
    wholes = All-nil (IsWhole (flat_circuit_of t));
    one_hold = λ i j g h a b same.
        one_from 0 (length (flat_nets t)) i j g h (subst (λ (hs : List Hold). At hs i g) (all_from t 0 (flat_nets t)) a) (subst (λ (hs : List Hold). At hs j h) (all_from t 0 (flat_nets t)) b) same;
  }

  pub is_flat : AreRules t.rules → too_large (circuit_limits t) ≡ None → IsFlat (flat_circuit_of t)
  unfolding flat_circuit_of
  is_flat ruled none = let is = formed ruled none in record { wholes = refl; devices = is.devices; holds = is.holds }
