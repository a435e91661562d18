-- No value reaches a net that nothing drives, so the constant 0 says where one does.
use Rattle.std.proofs.Common.{◌≡◌, ℕ, zero, suc, ◌+◌, ◌<◌, Bool, true, false, List, [], ◌∷◌, ap, refl, subst, sym, ◌∙◌, inl, inr}
use Rattle.std.specs.Prelude.{slice_set}
use Rattle.std.proofs.lemmas.Bool.{cases_eq, false≢true}
use Rattle.std.proofs.lemmas.Option.{same_Some}
use Rattle.node_pool.specs.declared.region.Node.{Node}
use Rattle.node_pool.specs.declared.region.Span.{Span}
use Rattle.bdd_core.proofs.Frames.{word_apart, word_here}
use Rattle.bdd_core.proofs.Meaning.{meaning_zero}
use Rattle.bdd_core.specs.Diagram.{IsWithin, Valuation, meaning}
use Rattle.bdd_core.specs.Store.{Diagrams, IsSpan}
use Rattle.bdd_core.specs.Words.{shows, word_at}
use Rattle.bdd_core.specs.declared.handle.H.{H}
use Rattle.bdd_ops.proofs.WithinLaws.{within_zero}
use Rattle.bdd_ops.specs.Counting.{IsSpanWithin}
use Rattle.channel_parts.specs.declared.part.Part.{Part}
use Rattle.circuit_faults.specs.Faults.{ShowsFault}
use Rattle.circuit_faults.specs.Scans.{IsInside, IsPartClear}
use Rattle.circuit_faults.specs.Undriven.{IsUndriven}
use Rattle.path_fixpoint.proofs.PinLaws.{whole_pin}
use Rattle.path_fixpoint.specs.Parts.{part_devices}
use Rattle.path_fixpoint.specs.Solved.{network_at}
use Rattle.vrt_model.proofs.Members.{at_none}
use Rattle.vrt_model.proofs.Ranked.{plain_not_given}
use Rattle.vrt_model.specs.Lists.{Among, At}
use Rattle.vrt_model.specs.Path.{Hop, IsPath, IsRoot, Root, end_of}
use Rattle.vrt_model.specs.Response.{Reaches}
use Rattle.vrt_model.specs.declared.circuit.Circuit.{Circuit}
use Rattle.vrt_model.specs.declared.circuit.Device.{Device}
use Rattle.vrt_model.specs.declared.ids.Dev.{Dev}
use Rattle.vrt_model.specs.declared.ids.Net.{Net}
use Rattle.vrt_model.specs.declared.verdict.FaultKind.{FaultKind}
use Rattle.vrt_model.specs.declared.verdict.FaultKind.TheVariants.{Fight, FightKept, Float, Unsettled, Constraint, Differs, Next, Apart, Enter}

-- the only net of a list of one
only : (net other : Net) (i : ℕ) → At (net ∷ []) i other → other ≡ net
only net other zero e = sym (same_Some net other e)
only net other (suc i) e = absurd (at_none i other e)

module _ (c : Circuit) (part : Part) (net : Net) (is : IsUndriven c part net) where
  pub inside_here : (n : ℕ) → IsInside part n → n ≡ net.0
  inside_here n (i, (other, at, e)) =
      sym e ∙ ap (λ (x : Net). x.0) (only net other i (subst (λ (ns : List Net). At ns i other) is.alone at))

  pub here_inside : IsInside part net.0
  here_inside = (0, (net, subst (λ (ns : List Net). At ns 0 net) (sym is.alone) refl, refl))

  no_device : (d : Device) → ¬ Among (part_devices c part) d
  no_device d m =
      let none : part_devices c part ≡ [] = ap (λ (ds : List Dev). part_devices c (record part { devices = ds })) is.devices in
      at_none m.0 d (subst (λ (ds : List Device). At ds m.0 d) none m.1)

  module _ (d : Diagrams) (gates roots : Span) (v : Valuation) where
    no_root : (root : Root) → IsRoot (network_at d c part gates roots v) root → ¬ (root.net ≡ net.0)
    no_root root r e = elim r [
      | inl g ↦ plain_not_given c net.0 is.rootless.plain (g.0, subst (λ (n : ℕ). At c.nets n g.0) e g.1, g.2)
      | inr other ↦ elim other [
        | inl h ↦ is.rootless.held (h.1, (h.0, h.2), sym h.3 ∙ e)
        | inr o ↦
            let from = whole_pin c o.1 (o.0, o.2) in
            is.rootless.driven (from.0, o.1, from.1, from.2, sym o.3 ∙ e)
      ]
    ]

    no_path : (root : Root) (hops : List Hop) → IsPath (network_at d c part gates roots v) root hops → ¬ (end_of root hops ≡ net.0)
    no_path root [] p e = no_root root p e
    no_path root (hop ∷ hops) p e = no_device hop.device p.1.0

    pub none_reaches : (n : ℕ) (value : Bool) → IsInside part n → ¬ Reaches (network_at d c part gates roots v) n value
    none_reaches n value inside r = no_path r.0 r.1 r.2 (r.4 ∙ inside_here n inside)

  -- ---- its word becomes that of the constant 0

  module _ (to : Span) (old new : Diagrams) (in_to : net.0 < to.len) (span : IsSpan old to)
      (written : new ≡ record old { words = slice_set old.words (to.start + net.0) 0 }) where
    zero_word : word_at new to net.0 ≡ 0
    zero_word = word_here to old new net.0 0 written in_to span.1

    zero_shows : (n : ℕ) (v : Valuation) → IsInside part n → shows new to n v ≡ false
    zero_shows n v inside =
        ap (λ (k : ℕ). shows new to k v) (inside_here n inside) ∙ ap (λ (h : ℕ). meaning new.nodes h v) zero_word ∙ meaning_zero new.nodes v

    pub zero_others : (k : ℕ) → (¬ IsInside part k) → word_at new to k ≡ word_at old to k
    zero_others k away = word_apart to old new net.0 0 written in_to span.1 k (λ e. away (subst (IsInside part) (sym e) here_inside))

    pub zero_within : (u : ℕ) → IsSpanWithin u old to → IsSpanWithin u new to
    zero_within u all k lt =
        let nodes : new.nodes ≡ old.nodes = ap (λ (d : Diagrams). d.nodes) written in
        elim (cases_eq k net.0) [
          | inl e ↦ subst (λ (h : ℕ). IsWithin u (meaning new.nodes h)) (sym (ap (λ (n : ℕ). word_at new to n) e ∙ zero_word)) (within_zero u new)
          | inr ne ↦
              subst (λ (h : ℕ). IsWithin u (meaning new.nodes h)) (sym (word_apart to old new net.0 0 written in_to span.1 k ne))
              (subst (λ (ns : List Node). IsWithin u (meaning ns (word_at old to k))) (sym nodes) (all k lt))
        ]

  -- no fault stands at a net that is not observed
  module _ (observed : ℕ → Bool) (care : H) (roots gates : Span) (old new : Diagrams) (in_gates : net.0 < gates.len) (span : IsSpan old gates)
      (written : new ≡ record old { words = slice_set old.words (gates.start + net.0) 0 }) (unseen : observed net.0 ≡ false) where
    no_fault : (n : ℕ) (kind : FaultKind) (v : Valuation) → IsInside part n → ¬ ShowsFault observed (network_at old c part gates roots v) kind n
    no_fault n Fight v inside f = none_reaches old gates roots v n true inside f.0
    no_fault n Float v inside f = false≢true (sym unseen ∙ ap observed (sym (inside_here n inside)) ∙ f.0)
    no_fault n FightKept v inside f = f
    no_fault n Unsettled v inside f = f
    no_fault n Constraint v inside f = f
    no_fault n Differs v inside f = f
    no_fault n Next v inside f = f
    no_fault n Apart v inside f = f
    no_fault n Enter v inside f = f

    pub undriven_clear : IsPartClear c part observed care roots gates old new
    undriven_clear = record {
      clear = λ n kind v inside met. no_fault n kind v inside;
      bits = λ n v inside seen. (
        λ e. absurd (false≢true (sym (zero_shows gates old new in_gates span written n v inside) ∙ e)),
        λ r. absurd (none_reaches old gates roots v n true inside r),
      );
      others = λ k lt away. zero_others gates old new in_gates span written k away;
    }
