-- What output ports and holds ought to have, in two circuits with the same holds.
use Rattle.std.proofs.Common.{◌≡◌, ℕ, Bool, true, List, Option, Some, subst, sym, ◌∙◌, ap}
use Rattle.std.specs.Prelude.{option_map}
use Rattle.vrt_model.specs.Assignment.{Assignment}
use Rattle.vrt_model.specs.CellRules.{is_observed_port}
use Rattle.vrt_model.specs.Comparison.{CellPort, Comparison, cell_at, output_signal, ports_of}
use Rattle.vrt_model.specs.Faults.{HoldAt, Misses, WantsValue, next_phase}
use Rattle.vrt_model.specs.Lists.{Among, At, differ}
use Rattle.vrt_model.specs.Reading.{Partial}
use Rattle.vrt_model.specs.Variables.{enter_of}
use Rattle.vrt_model.specs.declared.circuit.Circuit.{Circuit}
use Rattle.vrt_model.specs.declared.circuit.Hold.{Hold}
use Rattle.vrt_model.specs.declared.groups.Group.{Group}
use Rattle.vrt_model.specs.declared.groups.Member.{Member}
use Rattle.vrt_model.specs.declared.verdict.FaultKind.TheVariants.{Differs, Next, Apart, Enter}

module _ (k : Comparison) (phase : ℕ) (c d : Circuit) (gs hs : List Group) (a b : Partial) (groups : gs ≡ hs)
    (holds : (i : ℕ) (h : Hold) → At c.holds i h → (x : Hold) × At d.holds i x × (x.net.0 ≡ h.net.0))
    (enters : (next i : ℕ) → enter_of d next i ≡ enter_of c next i)
    (hold_bits : (i : ℕ) (h : Hold) → At c.holds i h → a h.net.0 ≡ b h.net.0)
    (port_bits : (i signal : ℕ) (p : CellPort) → At (ports_of k) i p → output_signal p.role ≡ Some signal
    → is_observed_port k.rules (cell_at k.design k.cell).name p.name phase ≡ true → a p.net ≡ b p.net) where
  abbrev here : Comparison
  here = record k { circuit = c; groups = gs }

  abbrev there : Comparison
  there = record k { circuit = d; groups = hs }

  hold_there : (n place : ℕ) (group : Group) (m : Member) → HoldAt here n place group m → HoldAt there n place group m
  hold_there n place group m h =
      let x = holds place h.stands.0 h.stands.1 in
      record {
        stands = (x.0, x.1, x.2 ∙ h.stands.2);
        grouped = subst (λ (xs : List Group). Among xs group) groups h.grouped;
        joined = h.joined;
      }

  held_same : (n place : ℕ) (h : Hold) → At c.holds place h → h.net.0 ≡ n → a n ≡ b n
  held_same n place h here_is is = subst (λ (x : ℕ). a x ≡ b x) is (hold_bits place h here_is)

  -- what a ought to give a net here, b ought to give it there, and the net has the same bit in both
  pub differs_wanted : (g : Assignment) (at n : ℕ) (w : Option Bool) → WantsValue here phase a g Differs at n w → WantsValue there phase b g Differs at n w × (a n ≡ b n)
  differs_wanted g at n w (port, signal, is, out, seen, asked, net, want) =
      ((port, signal, is, out, seen, asked, net, want), subst (λ (x : ℕ). a x ≡ b x) (sym net) (port_bits at signal port is out seen))

  pub next_wanted : (g : Assignment) (at n : ℕ) (w : Option Bool) → WantsValue here phase a g Next at n w → WantsValue there phase b g Next at n w × (a n ≡ b n)
  next_wanted g at n w (net, (place, group, m, e, held, element, want)) =
      ((net, (place, group, m, e, hold_there n place group m held, element, want)), held_same n place held.stands.0 held.stands.1 held.stands.2)

  pub apart_wanted : (g : Assignment) (at n : ℕ) (w : Option Bool) → WantsValue here phase a g Apart at n w → WantsValue there phase b g Apart at n w × (a n ≡ b n)
  apart_wanted g at n w (net, (place, group, m, least, h, held, element, first, is, want)) =
      let x = holds least.hold h is in
      let bit : a h.net.0 ≡ b x.0.net.0 = hold_bits least.hold h is ∙ ap b (sym x.2) in (
        (
          net,
          (
            place,
            group,
            m,
            least,
            x.0,
            hold_there n place group m held,
            element,
            first,
            x.1,
            want ∙ ap (option_map (λ (v : Bool). differ (differ m.inverted least.inverted) v)) bit,
          ),
        ),
        held_same n place held.stands.0 held.stands.1 held.stands.2,
      )

  pub enter_wanted : (g : Assignment) (at n : ℕ) (w : Option Bool) → WantsValue here phase a g Enter at n w → WantsValue there phase b g Enter at n w × (a n ≡ b n)
  enter_wanted g at n w (net, (place, h, is, held, want, v, value)) =
      let x = holds place h is in
      ((net, (place, x.0, x.1, x.2 ∙ held, want ∙ sym (enters (next_phase k.rules phase) place), v, value)), held_same n place h is held)

  -- so where a misses it here, b does there
  pub differs_there : (g : Assignment) (at : ℕ) → Misses here phase a g Differs at → Misses there phase b g Differs at
  differs_there g at (n, w, want, differs) = let x = differs_wanted g at n w want in (n, w, x.0, λ e. differs (x.1 ∙ e))

  pub next_there : (g : Assignment) (at : ℕ) → Misses here phase a g Next at → Misses there phase b g Next at
  next_there g at (n, w, want, differs) = let x = next_wanted g at n w want in (n, w, x.0, λ e. differs (x.1 ∙ e))

  pub apart_there : (g : Assignment) (at : ℕ) → Misses here phase a g Apart at → Misses there phase b g Apart at
  apart_there g at (n, w, want, differs) = let x = apart_wanted g at n w want in (n, w, x.0, λ e. differs (x.1 ∙ e))

  pub enter_there : (g : Assignment) (at : ℕ) → Misses here phase a g Enter at → Misses there phase b g Enter at
  enter_there g at (n, w, want, differs) = let x = enter_wanted g at n w want in (n, w, x.0, λ e. differs (x.1 ∙ e))
