use Rattle.std.proofs.Common.{◌≡◌, ℕ, Bool, List, Option, ap, subst, sym, ◌∙◌}
use Rattle.std.proofs.Math.Path.{fun_ext}
use Rattle.plain_paths.specs.Local.{ShowsRoots, filled_at}
use Rattle.plain_paths.specs.declared.signals.Signals.{Signals}
use Rattle.vrt_model.specs.Lists.{bit_at}
use Rattle.witness.proofs.SweepLaws.{filled_given}
use Rattle.witness.proofs.ViewLaws.{filled_bits}
use Rattle.witness.specs.Views.{filled_list}
use Rattle.witness.proofs.sweeping.sweep.Goals as goal

pub returns-clause-stands : goal.returns-clause-stands
returns-clause-stands c phase setting rank same each stands =
    let circuit = c.args.circuit.now in
    let old = c.args.bits.now.items in
    let held = bit_at c.args.held.now in
    let reading : c.in_ok-reading.reading.items ≡ filled_list old = c.in_ok-reading.ensures ∙ ap (λ (bs : List (Option Bool)). filled_list bs) c.as_slice.ensures.value in
    let there : (xs : List Bool) → xs ≡ c.in_ok-reading.reading.items → (m : ℕ) → bit_at xs m ≡ filled_at old m =
    λ xs e m. ap (λ (ys : List Bool). bit_at ys m) (e ∙ reading) ∙ filled_bits old m in
    let shown : (xs : List Bool) (t : Signals) → xs ≡ c.in_ok-reading.reading.items → ShowsRoots circuit (bit_at xs) held t → ShowsRoots circuit (filled_at old) setting.held t =
    λ xs t e shows.
    subst (λ (h : ℕ → Bool). ShowsRoots circuit (filled_at old) h t) (sym same)
    (subst (λ (g : ℕ → Bool). ShowsRoots circuit g held t) (fun_ext (there xs e)) shows) in
    let swept =
    c.in_ok-sweep_parts.ensures.swept phase setting rank (filled_at old) each (filled_given circuit phase c.requires.flat setting old stands)
    (shown c.as_slice-2.result.now c.in_ok-roots.roots c.as_slice-2.ensures.value c.in_ok-roots.ensures.signals)
    (record { stands = stands; roots = shown c.as_slice-3.result.now c.in_ok-tables.tables c.as_slice-3.ensures.value c.in_ok-tables.ensures.signals }) in
    swept.stands
