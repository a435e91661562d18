-- The input ports, one after the other, whose signals get the roots of their nets.
use Rattle.std.proofs.Common.{◌≡◌, ℕ, ◌+◌, ◌<◌, List, [], ◌∷◌, ◌++◌, length, append_assoc, Option, Some, None, ap, refl, sym, subst, ◌∙◌, inl, inr}
use Rattle.std.specs.Prelude.{◌≢◌, ◌≤◌}
use Rattle.std.proofs.lemmas.Bool.{cases_eq}
use Rattle.std.proofs.lemmas.Option.{none-some, same_Some}
use Rattle.node_pool.specs.declared.region.Span.{Span}
use Rattle.bdd_core.specs.Diagram.{IsReduced}
use Rattle.bdd_core.specs.Store.{Diagrams}
use Rattle.bdd_core.specs.Words.{IsApart, IsFilled, Writes, word_at}
use Rattle.bdd_core.proofs.Frames.{rest_then, word_beside, writes_none, writes_then}
use Rattle.phase_open.specs.Given.{AreTiesWithin, HasOneNet, IsTie}
use Rattle.phase_ports.specs.Ports.{net_by, next_by, port_at, ports_by, supply_bit}
use Rattle.phase_ports.specs.declared.port_list.Port.{Port}
use Rattle.vrt_model.proofs.Lists.{at_back, at_front, at_last, at_split}
use Rattle.vrt_model.specs.Comparison.{input_signal}
use Rattle.vrt_model.specs.Lists.{Among}
use Rattle.vrt_model.specs.declared.pairing.PortRole.{PortRole}

-- the signals of the input ports so far have the roots of their nets
pub record AreTied (ports : List Port) (roots inputs : Span) (first : Diagrams) (next : ℕ) (left : List PortRole) (d : Diagrams) : Type 0 where
  pub done : List Port
  pub place : ℕ
  pub all : done ++ ports_by place next left ≡ ports
  pub writes : Writes inputs first d
  pub rest : d ≡ record first { words = d.words }
  pub tied : (p : Port) (s : ℕ) → IsTie done p s → word_at d inputs s ≡ word_at first roots p.net
  pub others : (s : ℕ) → ((p : Port) → ¬ IsTie done p s) → word_at d inputs s ≡ word_at first inputs s

no_tie : (p : Port) (s : ℕ) → ¬ IsTie [] p s
no_tie p s is = none-some p is.there.1

pub tied_none : (roles : List PortRole) (roots inputs : Span) (d : Diagrams) → IsReduced d.vars d.nodes → length d.nodes ≤ d.budget → IsFilled d inputs
    → AreTied (ports_by 0 2 roles) roots inputs d 2 roles d
tied_none roles roots inputs d sound within live = record {
  done = [];
  place = 0;
  all = refl;
  writes = writes_none inputs d sound within live;
  rest = refl;
  tied = λ p s is. absurd (no_tie p s is);
  others = λ s none. refl;
}

-- an input port more
module _ (ports : List Port) (roots inputs : Span) (first old : Diagrams) (next : ℕ) (role : PortRole) (left : List PortRole) (so_far : AreTied ports roots inputs first next (role ∷ left) old)
    (nets : (p : Port) → Among ports p → p.net < roots.len) (within : AreTiesWithin ports roots.len inputs.len) (one : HasOneNet ports) (apart : IsApart roots inputs) where
  abbrev here : Port
  here = port_at so_far.place (net_by (supply_bit role) next) role

  abbrev behind : List Port
  behind = ports_by (so_far.place + 1) (next_by (supply_bit role) next) left

  pub here_among : Among ports here
  here_among = subst (λ (ps : List Port). Among ps here) so_far.all (length so_far.done + 0, at_back so_far.done (here ∷ behind) 0 here refl)

  done_among : (p : Port) → Among so_far.done p → Among ports p
  done_among p m = subst (λ (ps : List Port). Among ps p) so_far.all (m.0, at_front so_far.done (here ∷ behind) m.0 p m.1)

  pub net_below : net_by (supply_bit role) next < roots.len
  net_below = nets here here_among

  pub tie_within : (s : ℕ) → input_signal role ≡ Some s → (net_by (supply_bit role) next < roots.len) × (s < inputs.len)
  tie_within s e = within here s (record { there = here_among; signal = e })

  module _ (new : Diagrams) (writes : Writes inputs old new) (rest : new ≡ record old { words = new.words })
      (tied : (s : ℕ) → input_signal role ≡ Some s → word_at new inputs s ≡ word_at old roots (net_by (supply_bit role) next))
      (others : (s : ℕ) → input_signal role ≢ Some s → word_at new inputs s ≡ word_at old inputs s) where
    abbrev more : List Port
    more = so_far.done ++ here ∷ []

    tie_here : (s : ℕ) → input_signal role ≡ Some s → word_at new inputs s ≡ word_at first roots here.net
    tie_here s e = tied s e ∙ word_beside inputs roots first old here.net so_far.writes apart net_below

    tie_done : (p : Port) (s : ℕ) → IsTie so_far.done p s → word_at new inputs s ≡ word_at first roots p.net
    tie_done p s is = by_signal (input_signal role) refl
      where
        earlier : input_signal role ≢ Some s → word_at new inputs s ≡ word_at first roots p.net
        earlier ne = others s ne ∙ so_far.tied p s is

        same : input_signal role ≡ Some s → word_at new inputs s ≡ word_at first roots p.net
        same e =
            tie_here s e ∙ ap (λ (n : ℕ). word_at first roots n)
            (one here p s (record { there = here_among; signal = e }) (record { there = done_among p is.there; signal = is.signal }))

        by_signal : (o : Option ℕ) → input_signal role ≡ o → word_at new inputs s ≡ word_at first roots p.net
        by_signal None e = earlier (λ x. none-some s (sym e ∙ x))
        by_signal (Some x) e = elim (cases_eq x s) [
          | inl y ↦ same (e ∙ ap (λ (z : ℕ). Some z) y)
          | inr ne ↦ earlier (λ z. ne (same_Some x s (sym e ∙ z)))
        ]

    tie_all : (p : Port) (s : ℕ) → IsTie more p s → word_at new inputs s ≡ word_at first roots p.net
    tie_all p s is = elim (at_split so_far.done here is.there.0 p is.there.1) [
      | inl old_at ↦ tie_done p s (record { there = (is.there.0, old_at); signal = is.signal })
      | inr last ↦
          let role_is : input_signal role ≡ Some s = ap (λ (x : Port). input_signal x.role) (sym last.1) ∙ is.signal in
          tie_here s role_is ∙ ap (λ (x : Port). word_at first roots x.net) (sym last.1)
    ]

    tie_others : (s : ℕ) → ((p : Port) → ¬ IsTie more p s) → word_at new inputs s ≡ word_at first inputs s
    tie_others s none =
        others s (λ e. none here (record { there = (length so_far.done, at_last so_far.done here); signal = e }))
        ∙ so_far.others s (λ p is. none p (record { there = (is.there.0, at_front so_far.done (here ∷ []) is.there.0 p is.there.1); signal = is.signal }))

    pub tied_more : AreTied ports roots inputs first (next_by (supply_bit role) next) left new
    tied_more = record {
      done = more;
      place = so_far.place + 1;
      all = append_assoc so_far.done (here ∷ []) behind ∙ so_far.all;
      writes = writes_then inputs first old new so_far.writes writes;
      rest = rest_then first old new new.words so_far.rest rest;
      tied = tie_all;
      others = tie_others;
    }
