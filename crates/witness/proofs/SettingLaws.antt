-- Values at one setting are values at each setting with the same bits of the inputs and holds.
use Rattle.std.proofs.Common.{◌≡◌, ℕ, Bool, true, false, List, Option, sym, refl, ◌∙◌, inl, inr}
use Rattle.vrt_model.proofs.SameNetwork.{IsPartOf, response_same}
use Rattle.vrt_model.specs.Lists.{At}
use Rattle.vrt_model.specs.Reading.{HasGivenBit}
use Rattle.vrt_model.specs.Response.{Fight as FightThere, Float as FloatThere, IsResponse, Response, Shows}
use Rattle.vrt_model.specs.State.{IsState, Setting, State, network_of}
use Rattle.vrt_model.specs.declared.circuit.Circuit.{Circuit}
use Rattle.vrt_model.specs.declared.circuit.FlatNet.{FlatNet}
use Rattle.vrt_model.specs.declared.circuit.NetKind.{NetKind}
use Rattle.vrt_model.specs.declared.circuit.NetKind.TheVariants.{Supply, Clock, Input, Plain}
use Rattle.vrt_model.specs.declared.rules.Phase.{Phase}
use Rattle.witness.specs.FirstFaults.{HasSameBits}
use Rattle.witness.specs.Replays.{AreValues, HasSeen, Responds, bits_shown}
use Rattle.witness.specs.declared.seen.Seen.{Seen}
use Rattle.witness.specs.declared.seen.Seen.TheVariants.{Bit, Fight, Float, Blocked}

pub turned_bits : (c : Circuit) (one other : Setting) → HasSameBits c one other → HasSameBits c other one
turned_bits c one other same = record {
  inputs = λ n net e k. sym (same.inputs n net e k);
  held = λ i hold e. sym (same.held i hold e);
}

module _ (c : Circuit) (phase : Phase) (one other : Setting) (same : HasSameBits c one other) where
  given_same : (n : ℕ) (net : FlatNet) (kind : NetKind) (bit : Bool) → At c.nets n net → net.kind ≡ kind → HasGivenBit phase one.inputs kind n bit → HasGivenBit phase other.inputs kind n bit
  given_same n net (Supply value) bit e k h = h
  given_same n net (Clock clock) bit e k h = h
  given_same n net Input bit e k h = h ∙ same.inputs n net e k
  given_same n net Plain bit e k h = tt

  pub given_moves : (n : ℕ) (net : FlatNet) (bit : Bool) → At c.nets n net → HasGivenBit phase one.inputs net.kind n bit → HasGivenBit phase other.inputs net.kind n bit
  given_moves n net bit e h = given_same n net net.kind bit e refl h

  pub state_moves : (s : State) → IsState c phase one.inputs s → IsState c phase other.inputs s
  state_moves s is = record {
    reading = λ n net e. given_moves n net (s.reading n) e (is.reading n net e);
    driven = is.driven;
  }

  roots_move : (which : Bool) (s : State) → IsPartOf (network_of c which one.held s) (network_of c which other.held s)
  roots_move which s = record {
    roots = λ root r. elim r [
      | inl g ↦ inl g
      | inr rest ↦ elim rest [ inl h ↦ inr (inl (h.0, h.1, h.2, h.3, h.4, h.5 ∙ same.held h.0 h.1 h.2)) | inr o ↦ inr (inr o) ]
    ];
    devices = λ d on. on;
  }

module _ (c : Circuit) (phase : Phase) (one other : Setting) (same : HasSameBits c one other) where
  response_moves : (which : Bool) (s : State) (n : ℕ) (r : Response) → IsResponse (network_of c which one.held s) n r → IsResponse (network_of c which other.held s) n r
  response_moves which s n r h =
      response_same (network_of c which one.held s) (network_of c which other.held s) (roots_move c phase one other same which s)
      (roots_move c phase other one (turned_bits c one other same) which s) n r h

  responds_moves : (bits : ℕ → Option Bool) (which : Bool) (n : ℕ) (r : Response) → Responds c phase one bits which n r → Responds c phase other bits which n r
  responds_moves bits which n r h s is has = response_moves which s n r (h s (state_moves c phase other one (turned_bits c one other same) s is) has)

  seen_moves : (bits : ℕ → Option Bool) (which : Bool) (n : ℕ) (seen : Seen) → HasSeen c phase one bits which n seen → HasSeen c phase other bits which n seen
  seen_moves bits which n Blocked h = h
  seen_moves bits which n (Bit v) h = (h.0, responds_moves bits which n (Shows v) h.1)
  seen_moves bits which n Fight h = (h.0, responds_moves bits which n FightThere h.1)
  seen_moves bits which n Float h = (h.0, responds_moves bits which n FloatThere h.1)

  pub values_move : (bare kept : List Seen) → AreValues c phase one bare kept → AreValues c phase other bare kept
  values_move bare kept values = record {
    bare_count = values.bare_count;
    kept_count = values.kept_count;
    given = λ n net v e g h. values.given n net v e g (given_moves c phase other one (turned_bits c one other same) n net v e h);
    known = values.known;
    bare_seen = λ n seen e. seen_moves (bits_shown bare) true n seen (values.bare_seen n seen e);
    kept_seen = λ n seen e. seen_moves (bits_shown bare) false n seen (values.kept_seen n seen e);
  }
