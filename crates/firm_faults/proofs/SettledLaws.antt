-- What is settled stands with each solution.
use Rattle.std.proofs.Common.{◌≡◌, ℕ, Bool, true, List, Some, subst, sym, refl}
use Rattle.cell_inside.proofs.RegionLaws.{region_is_local}
use Rattle.cell_inside.specs.Regions.{ArePinsPlain, IsGivenNet}
use Rattle.constraints.proofs.NamedLaws.{breaks_same}
use Rattle.firm_faults.specs.FirmGround.{FirmGroundStands, IsFirmIn}
use Rattle.firm_faults.specs.Settled.{IsSettled, SettledNetsStand, ShowsOwnBit, given, within}
use Rattle.vrt_model.proofs.GatesGiven.{given_once}
use Rattle.vrt_model.proofs.Laws.{one_response}
use Rattle.vrt_model.specs.Assignment.{Assignment}
use Rattle.vrt_model.specs.Comparison.{Comparison, phase_at}
use Rattle.vrt_model.specs.Faults.{Responds, Solves, Stands}
use Rattle.vrt_model.specs.Networks.{HasRanges}
use Rattle.vrt_model.specs.Reading.{Partial}
use Rattle.vrt_model.specs.Response.{Fight as FightResponse, Float as FloatResponse, IsResponse, Response, Shows}
use Rattle.vrt_model.specs.State.{IsState, Setting, State, network_of}
use Rattle.vrt_model.specs.declared.circuit.FlatInstance.{FlatInstance}
use Rattle.vrt_model.specs.declared.verdict.FaultKind.{FaultKind}
use Rattle.vrt_model.specs.declared.verdict.FaultKind.TheVariants.{Fight, FightKept, Float, Unsettled, Constraint, Differs, Next, Apart, Enter}
use Rattle.whole_solutions.proofs.GivenShow.{given_shows}

module _ (k : Comparison) (originals : List FlatInstance) (phase : ℕ) (setting : Setting) (s : State) (a : Partial)
    (ranges : HasRanges k.circuit) (pins_plain : ArePinsPlain k.circuit) (is : IsState k.circuit (phase_at k.rules phase) setting.inputs s) (solves : Solves k phase setting a) where
  -- a given net shows the same bit in each state
  given_responds : (t : State) → IsState k.circuit (phase_at k.rules phase) setting.inputs t → (n : ℕ) (r : Response) → IsGivenNet k.circuit n
      → IsResponse (network_of k.circuit true setting.held s) n r → IsResponse (network_of k.circuit true setting.held t) n r
  given_responds t it n r g h =
      let same : s.reading n ≡ t.reading n =
      given_once (phase_at k.rules phase) setting.inputs g.0.kind n (s.reading n) (t.reading n) g.2 (is.reading n g.0 g.1) (it.reading n g.0 g.1) in
      let shows : Shows (s.reading n) ≡ r = one_response (network_of k.circuit true setting.held s) n (Shows (s.reading n)) r (given_shows k.circuit ranges pins_plain true setting.held s n g) h in
      subst (IsResponse (network_of k.circuit true setting.held t) n) shows
      (subst (λ (v : Bool). IsResponse (network_of k.circuit true setting.held t) n (Shows v)) (sym same) (given_shows k.circuit ranges pins_plain true setting.held t n g))

  pub settled_responds : (n : ℕ) (r : Response) → IsSettled k originals phase setting s n → IsResponse (network_of k.circuit true setting.held s) n r → Responds k phase setting a true n r
  settled_responds n r (given g) h t it agrees = given_responds t it n r g h
  settled_responds n r (within region base p backed ins shows below calm linked) h t it agrees =
      region_is_local k.circuit (phase_at k.rules phase) setting region base s.reading s t ranges pins_plain p is it (λ m b. refl)
      (λ m b. agrees m (s.reading m) (shows m b).0 ((solves m (s.reading m) (shows m b).0).1 (settled_responds m (Shows (s.reading m)) (below m b) (shows m b).1)))
      n r ins h

  -- the solution has the bit that a settled net shows
  pub settled_bit : (n : ℕ) → IsSettled k originals phase setting s n → ShowsOwnBit k phase setting s n → a n ≡ Some (s.reading n)
  settled_bit n firm shows = (solves n (s.reading n) shows.0).1 (settled_responds n (Shows (s.reading n)) firm shows.1)

  firm_stands : (kind : FaultKind) (at : ℕ) (g : Assignment) → IsFirmIn k originals phase setting s kind at → Stands k phase setting a g kind at
  firm_stands Fight at g firm = (firm.0, settled_responds at FightResponse firm.1 firm.2)
  firm_stands Float at g firm = (firm.0, settled_responds at FloatResponse firm.1 firm.2)
  firm_stands Constraint at g firm =
      (firm.0, firm.1, breaks_same k.design k.rules phase firm.0 (λ n. Some (s.reading n)) a (λ n m. let has = firm.3 n m in sym (settled_bit n has.0 has.1)) firm.2)
  firm_stands FightKept at g firm = absurd firm
  firm_stands Unsettled at g firm = absurd firm
  firm_stands Differs at g firm = absurd firm
  firm_stands Next at g firm = absurd firm
  firm_stands Apart at g firm = absurd firm
  firm_stands Enter at g firm = absurd firm

pub settled_nets_stand : SettledNetsStand
settled_nets_stand k originals phase setting s a ranges pins_plain is solves n r firm h = settled_responds k originals phase setting s a ranges pins_plain is solves n r firm h

pub firm_ground_stands : FirmGroundStands
firm_ground_stands k originals phase setting kind at a g ranges pins_plain ground solves = firm_stands k originals phase setting ground.state a ranges pins_plain ground.is solves kind at g ground.firm
