-- Bits of inputs and holds by their places give a replay at the valuation.
use Rattle.std.proofs.Common.{◌≡◌, ℕ, zero, suc, ◌+◌, Bool, true, false, cond, List, [], ◌∷◌, Some, None, Result, Ok, Err, length, take, arith, ap, refl, subst, ◌∙◌}
use Rattle.std.specs.Prelude.{filter}
use Rattle.std.specs.List.{cons_option}
use Rattle.std.proofs.lemmas.Option.{none-some, same_Some}
use Rattle.mode_lines.specs.Points.{held_from, inputs_from, setting_in}
use Rattle.mode_lines.specs.declared.points.CellPhase.{CellPhase}
use Rattle.vrt_model.specs.Lists.{At, bit_at}
use Rattle.vrt_model.specs.State.{Setting}
use Rattle.vrt_model.specs.Variables.{is_input}
use Rattle.vrt_model.specs.declared.circuit.Circuit.{Circuit}
use Rattle.vrt_model.specs.declared.circuit.FlatNet.{FlatNet}
use Rattle.vrt_model.specs.declared.circuit.Hold.{Hold}
use Rattle.vrt_model.specs.declared.circuit.NetKind.TheVariants.{Input}
use Rattle.vrt_model.specs.declared.rules.Phase.{Phase}
use Rattle.witness.proofs.SettingLaws.{values_move}
use Rattle.witness.specs.FirstFaults.{HasSameBits}
use Rattle.witness.specs.ReplayAnswers.{ReplayGives}
use Rattle.witness.specs.Replays.{setting_of}
use Rattle.witness.specs.declared.values.ReplayFault.{ReplayFault}
use Rattle.witness.specs.declared.values.ReplayFault.TheVariants.{Cycle, NoMemory}
use Rattle.witness.specs.declared.values.Values.{Values}

-- ---- places

module _ (bit : ℕ → Bool) where
  at_first : (b v : Bool) (rest : List Bool) → b ≡ true → bit_at (cons_option (cond b (Some v) None) rest) 0 ≡ v
  at_first true v rest e = refl
  at_first false v rest e = cc

  behind : (b v : Bool) (rest : List Bool) (x : FlatNet) (here : List FlatNet) → bit_at (cons_option (cond b (Some v) None) rest) (length (cond b (x ∷ here) here)) ≡ bit_at rest (length here)
  behind true v rest x here = refl
  behind false v rest x here = refl

  input_there : (k : ℕ) (nets : List FlatNet) (n : ℕ) (net : FlatNet) → At nets n net → net.kind ≡ Input
      → bit_at (inputs_from bit k nets) (length (filter (λ (x : FlatNet). is_input x.kind) (take n nets))) ≡ bit (k + n)
  input_there k [] n net e kind = absurd (none-some net e)
  input_there k (x ∷ xs) zero net e kind =
      at_first (is_input x.kind) (bit k) (inputs_from bit (k + 1) xs) (ap (λ (y : FlatNet). is_input y.kind) (same_Some x net e) ∙ ap is_input kind) ∙ ap bit (omega arith)
  input_there k (x ∷ xs) (suc n) net e kind =
      behind (is_input x.kind) (bit k) (inputs_from bit (k + 1) xs) x (filter (λ (y : FlatNet). is_input y.kind) (take n xs))
      ∙ input_there (k + 1) xs n net e kind ∙ ap bit (omega arith)

  hold_there : (k : ℕ) (holds : List Hold) (i : ℕ) (h : Hold) → At holds i h → bit_at (held_from bit k holds) i ≡ bit (k + i)
  hold_there k [] i h e = absurd (none-some h e)
  hold_there k (x ∷ xs) zero h e = ap bit (omega arith)
  hold_there k (x ∷ xs) (suc i) h e = hold_there (k + 1) xs i h e ∙ ap bit (omega arith)

-- ---- the replay

same_bits : (c : Circuit) (setting : Setting) → HasSameBits c (setting_of c (held_from setting.held 0 c.holds) (inputs_from setting.inputs 0 c.nets)) setting
same_bits c setting = record {
  inputs = λ n net e kind. input_there setting.inputs 0 c.nets n net e kind ∙ ap setting.inputs (omega arith);
  held = λ i hold e. hold_there setting.held 0 c.holds i hold e ∙ ap setting.held (omega arith);
}

moves : (c : Circuit) (phase : Phase) (one other : Setting) → HasSameBits c one other → (r : Result Values ReplayFault) → ReplayGives c phase one r → ReplayGives c phase other r
moves c phase one other same (Ok values) h = (h.0, values_move c phase one other same values.bare values.kept h.1)
moves c phase one other same (Err (Cycle nets)) h = h
moves c phase one other same (Err NoMemory) h = tt

pub replay_moves : (s : CellPhase) (phase : Phase) (bits held inputs : List Bool) (r : Result Values ReplayFault) → held ≡ held_from (setting_in s bits).held 0 s.circuit.now.holds → inputs ≡ inputs_from (setting_in s bits).inputs 0 s.circuit.now.nets
    → ReplayGives s.circuit.now phase (setting_of s.circuit.now held inputs) r → ReplayGives s.circuit.now phase (setting_in s bits) r
replay_moves s phase bits held inputs r h i gives =
    let c = s.circuit.now in
    let setting = setting_in s bits in
    let by_held : ReplayGives c phase (setting_of c (held_from setting.held 0 c.holds) inputs) r = subst (λ (xs : List Bool). ReplayGives c phase (setting_of c xs inputs) r) h gives in
    let by_both : ReplayGives c phase (setting_of c (held_from setting.held 0 c.holds) (inputs_from setting.inputs 0 c.nets)) r =
    subst (λ (xs : List Bool). ReplayGives c phase (setting_of c (held_from setting.held 0 c.holds) xs) r) i by_held in
    moves c phase (setting_of c (held_from setting.held 0 c.holds) (inputs_from setting.inputs 0 c.nets)) setting (same_bits c setting) r by_both
