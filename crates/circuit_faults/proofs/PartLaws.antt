-- A part that was solved and looked through, by its network at each valuation.
use Rattle.std.proofs.Common.{◌≡◌, ◌≢◌, ℕ, ◌<◌, ◌⊎◌, Bool, true, false, Option, Some, None, length, refl, sym, subst, ◌∙◌, inl, inr}
use Rattle.std.specs.Prelude.{◌↔◌}
use Rattle.std.proofs.lemmas.Bool.{cases_Bool, false≢true}
use Rattle.node_pool.specs.declared.region.Span.{Span}
use Rattle.bdd_core.specs.Diagram.{Function, Valuation}
use Rattle.bdd_core.specs.Store.{Diagrams, IsLive, function_of}
use Rattle.bdd_core.specs.Words.{Writes}
use Rattle.bdd_core.specs.declared.handle.H.{H}
use Rattle.circuit_faults.proofs.NetLaws.{fight_says, float_says}
use Rattle.circuit_faults.specs.Faults.{ShowsFault}
use Rattle.circuit_faults.specs.Scans.{IsClearNet, IsFaultyNet, IsFoundIn, IsPartClear, IsPartFault, IsScannedTo, PartGives, Reach, ScanGives, TellsWhere, fight_of, float_of}
use Rattle.circuit_faults.specs.declared.net.CircuitFault.{CircuitFault}
use Rattle.channel_parts.specs.declared.part.Part.{Part}
use Rattle.bdd_core.proofs.Frames.{word_beside}
use Rattle.path_fixpoint.proofs.Places.{place_in}
use Rattle.path_fixpoint.specs.Parts.{IsPlace}
use Rattle.path_fixpoint.specs.Solved.{HasRootSpans, network_at}
use Rattle.vrt_model.specs.Path.{Network}
use Rattle.vrt_model.specs.Response.{Fight as Fights, Float as Floats, IsResponse, Reaches}
use Rattle.vrt_model.specs.declared.circuit.Circuit.{Circuit}
use Rattle.vrt_model.specs.declared.verdict.FaultKind.{FaultKind}
use Rattle.vrt_model.specs.declared.verdict.FaultKind.TheVariants.{Fight, FightKept, Float, Unsettled, Constraint, Differs, Next, Apart, Enter}
use Rattle.path_fixpoint.specs.declared.words.NetWords.{NetWords}

-- ---- at one valuation: what the two functions say of a net's response

module _ (care zero one : Function) (v : Valuation) (w : Network) (n : ℕ) (zeros : (zero v ≡ true) ↔ Reaches w n false) (ones : (one v ≡ true) ↔ Reaches w n true) where
  fight_where : (fight_of care zero one v ≡ true) ↔ ((care v ≡ true) × IsResponse w n Fights)
  fight_where = (
    λ e. let h = (fight_says care zero one v).0 e in (h.0, (ones.0 h.2, zeros.0 h.1)),
    λ h. (fight_says care zero one v).1 (h.0, zeros.1 h.1.1, ones.1 h.1.0),
  )

  not_reached : (f : Function) (value : Bool) → ((f v ≡ true) ↔ Reaches w n value) → ¬ Reaches w n value → f v ≡ false
  not_reached f value tells none = elim (cases_Bool (f v)) [ inl t ↦ absurd (none (tells.0 t)) | inr e ↦ e ]

  float_where : (float_of care zero one v ≡ true) ↔ ((care v ≡ true) × IsResponse w n Floats)
  float_where = (
    λ e.
        let h = (float_says care zero one v).0 e in
        (h.0, (λ r. false≢true (sym h.2 ∙ ones.1 r), λ r. false≢true (sym h.1 ∙ zeros.1 r))),
    λ h. (float_says care zero one v).1 (h.0, not_reached zero false zeros h.1.1, not_reached one true ones h.1.0),
  )

  -- a net that is clear shows no fault
  pub clear_shows : (observed : ℕ → Bool) (kind : FaultKind) → IsClearNet care zero one (observed n) → care v ≡ true → ¬ ShowsFault observed w kind n
  clear_shows observed Fight clear met f = false≢true (sym (clear.fight v) ∙ fight_where.1 (met, f))
  clear_shows observed Float clear met f = false≢true (sym (clear.float f.0 v) ∙ float_where.1 (met, f.1))
  clear_shows observed FightKept clear met f = f
  clear_shows observed Unsettled clear met f = f
  clear_shows observed Constraint clear met f = f
  clear_shows observed Differs clear met f = f
  clear_shows observed Next clear met f = f
  clear_shows observed Apart clear met f = f
  clear_shows observed Enter clear met f = f

  -- the handle of a faulty net says where it shows its fault
  pub faulty_shows : (observed : ℕ → Bool) (kind : FaultKind) (h : H) (d : Diagrams) → IsFaultyNet care zero one (observed n) kind h d
      → (function_of d h v ≡ true) ↔ ((care v ≡ true) × ShowsFault observed w kind n)
  faulty_shows observed Fight h d f = (λ e. fight_where.0 (sym (f.0.same v) ∙ e), λ s. f.0.same v ∙ fight_where.1 s)
  faulty_shows observed Float h d f = (
    λ e. let s = float_where.0 (sym (f.2.same v) ∙ e) in (s.0, (f.0, s.1)),
    λ s. f.2.same v ∙ float_where.1 (s.0, s.1.1),
  )
  faulty_shows observed FightKept h d f = absurd f
  faulty_shows observed Unsettled h d f = absurd f
  faulty_shows observed Constraint h d f = absurd f
  faulty_shows observed Differs h d f = absurd f
  faulty_shows observed Next h d f = absurd f
  faulty_shows observed Apart h d f = absurd f
  faulty_shows observed Enter h d f = absurd f

  -- it shows no fight where its fault is a float
  pub no_fight_shows : (observed : ℕ → Bool) (seen : Bool) (kind : FaultKind) (h : H) (d : Diagrams) → IsFaultyNet care zero one seen kind h d → kind ≡ Float → care v ≡ true
      → ¬ ShowsFault observed w Fight n
  no_fight_shows observed seen Float h d f e met s = false≢true (sym (f.1 v) ∙ fight_where.1 (met, s))
  no_fight_shows observed seen Fight h d f e met s = cc
  no_fight_shows observed seen FightKept h d f e met s = absurd f
  no_fight_shows observed seen Unsettled h d f e met s = absurd f
  no_fight_shows observed seen Constraint h d f e met s = absurd f
  no_fight_shows observed seen Differs h d f e met s = absurd f
  no_fight_shows observed seen Next h d f e met s = absurd f
  no_fight_shows observed seen Apart h d f e met s = absurd f
  no_fight_shows observed seen Enter h d f e met s = absurd f

faulty_kind : (care zero one : Function) (seen : Bool) (kind : FaultKind) (h : H) (d : Diagrams) → IsFaultyNet care zero one seen kind h d → (kind ≡ Fight) ⊎ (kind ≡ Float)
faulty_kind care zero one seen Fight h d f = inl refl
faulty_kind care zero one seen Float h d f = inr refl
faulty_kind care zero one seen FightKept h d f = absurd f
faulty_kind care zero one seen Unsettled h d f = absurd f
faulty_kind care zero one seen Constraint h d f = absurd f
faulty_kind care zero one seen Differs h d f = absurd f
faulty_kind care zero one seen Next h d f = absurd f
faulty_kind care zero one seen Apart h d f = absurd f
faulty_kind care zero one seen Enter h d f = absurd f

faulty_live : (care zero one : Function) (seen : Bool) (kind : FaultKind) (h : H) (d : Diagrams) → IsFaultyNet care zero one seen kind h d → IsLive d h × (h.0 ≢ 0)
faulty_live care zero one seen Fight h d f = (f.0.live, f.1)
faulty_live care zero one seen Float h d f = (f.2.live, f.3)
faulty_live care zero one seen FightKept h d f = absurd f
faulty_live care zero one seen Unsettled h d f = absurd f
faulty_live care zero one seen Constraint h d f = absurd f
faulty_live care zero one seen Differs h d f = absurd f
faulty_live care zero one seen Next h d f = absurd f
faulty_live care zero one seen Apart h d f = absurd f
faulty_live care zero one seen Enter h d f = absurd f

-- ---- a part: it was solved from `old` to `mid`, and looked through from `mid` to `new`, by where the values reach its nets

module _ (c : Circuit) (part : Part) (observed : ℕ → Bool) (care : H) (roots gates : Span) (out : NetWords) (reach : Reach) (old mid new : Diagrams) (spans : HasRootSpans c part gates roots out old)
    (care_live : IsLive old care) (solved : Writes out.span old mid)
    (tells : TellsWhere c part roots gates reach old) where
  abbrev pub net_alone : Valuation → Network
  net_alone v = network_at old c part gates roots v

  care_same : (v : Valuation) → function_of mid care v ≡ function_of old care v
  care_same v = solved.adds.kept care.0 care_live v

  pub part_clear : IsScannedTo part observed care gates reach (length part.nets) mid new → IsPartClear c part observed care roots gates old new
  part_clear s = record {
    clear = λ n kind v inside met.
        clear_shows (function_of mid care) (reach false inside.0) (reach true inside.0) v (net_alone v) n
        (tells v inside.0 n false inside.1) (tells v inside.0 n true inside.1) observed kind (s.clear inside.0 n (place_in part inside.0 n inside.1) inside.1) (care_same v ∙ met);
    bits = λ n v inside seen.
        let i = inside.0 in
        let same = s.bits i n (place_in part i n inside.1) inside.1 seen v in
        (λ e. (tells v i n true inside.1).0 (sym same ∙ e), λ r. same ∙ (tells v i n true inside.1).1 r);
    others = λ k lt away.
        s.others k (λ i below p. away (i, p)) ∙ word_beside out.span gates old mid k solved spans.spans.apart lt;
  }

  pub part_fault : (fault : CircuitFault) → IsFoundIn part observed care reach fault mid new → IsPartFault c part observed care roots gates fault old new
  part_fault fault f =
      let care' = function_of mid care in
      let zero = reach false f.place in
      let one = reach true f.place in
      let n = fault.place in
      let live = faulty_live care' zero one (observed n) fault.kind fault.at new f.is in
      record {
        place = f.place;
        stands = f.stands;
        kinds = faulty_kind care' zero one (observed n) fault.kind fault.at new f.is;
        live = live.0;
        some = live.1;
        exact = λ v.
            let says = faulty_shows care' zero one v (net_alone v) n (tells v f.place n false f.stands) (tells v f.place n true f.stands) observed fault.kind fault.at new f.is in
            (λ e. (let h = says.0 e in (sym (care_same v) ∙ h.0, h.1)), λ h. says.1 (care_same v ∙ h.0, h.1));
        before = λ i m kind v p order met. before i m kind v p order met;
      }
    where
      before : (i m : ℕ) (kind : FaultKind) (v : Valuation) → IsPlace part i m → (i < f.place) ⊎ ((i ≡ f.place) × (kind ≡ Fight) × (fault.kind ≡ Float))
          → function_of old care v ≡ true → ¬ ShowsFault observed (net_alone v) kind m
      before i m kind v p (inl lt) met shown =
          clear_shows (function_of mid care) (reach false i) (reach true i) v (net_alone v) m
          (tells v i m false p) (tells v i m true p) observed kind (f.before i m lt p) (care_same v ∙ met) shown
      before i m kind v p (inr last) met shown =
          let here : IsPlace part f.place m = subst (λ (x : ℕ). IsPlace part x m) last.0 p in
          no_fight_shows (function_of mid care) (reach false f.place) (reach true f.place) v (net_alone v) m
          (tells v f.place m false here) (tells v f.place m true here) observed (observed fault.place) fault.kind fault.at new f.is last.2 (care_same v ∙ met)
          (subst (λ (k : FaultKind). ShowsFault observed (net_alone v) k m) last.1 shown)

  pub part_gives : (found : Option CircuitFault) → ScanGives part observed care gates reach mid new found → PartGives c part observed care roots gates old new found
  part_gives None s = part_clear s
  part_gives (Some fault) f = part_fault fault f
