-- A step by its three settings.
use Rattle.std.proofs.Common.{◌≡◌, ℕ, Bool, true, Some, ap, subst, sym, ◌∙◌}
use Rattle.std.proofs.lemmas.Option.{same_Some}
use Rattle.arrival_laws.proofs.SettlingLaws.{same_taken}
use Rattle.arrival_laws.specs.Orders.{Nets, Rise, Settles, and_now, at_once, on_the_way, taken_bits}
use Rattle.arrival_laws.specs.Steps.{StepHolds}
use Rattle.domino_order.specs.ThreeSettings.{NotAfter, NotAlike, NotAtOnce, NotBefore, SettlesNot, SettlesThrice, SettlesTo, ThreeSettings, after_rise, before_rise, held_from}
use Rattle.vrt_model.specs.Comparison.{Comparison, is_observed}
use Rattle.vrt_model.specs.Faults.{Solves}
use Rattle.vrt_model.specs.Reading.{Partial}
use Rattle.vrt_model.specs.State.{Setting}

-- ---- the bits that holds take

module _ (k : Comparison) (phase : ℕ) (s : Setting) (bits : ℕ → Bool) (to : SettlesTo k phase s bits) (a : Partial) (solves : Solves k phase s a) where
  pub taken_from : taken_bits k.circuit a ≡ held_from k.circuit bits
  taken_from = same_taken k phase a (λ n. Some (bits n)) (to.shown a solves)

module _ (r : Rise) (risen : Nets) (n : ℕ) where
  abbrev P : (ℕ → Bool) → Setting
  P held = on_the_way r (and_now risen n) held

  module _ (first : ℕ → Bool) (to : SettlesTo r.k r.phase (before_rise r risen) first) (a : Partial) (solves : Solves r.k r.phase (at_once r risen) a) where
    same_setting : P (taken_bits r.k.circuit a) ≡ P (held_from r.k.circuit first)
    same_setting = ap P (taken_from r.k r.phase (before_rise r risen) first to a solves)

  -- ---- where it settles

  same_bits : (s t : Setting) (f g : ℕ → Bool) → SettlesTo r.k r.phase s f → SettlesTo r.k r.phase t g → ((m : ℕ) → is_observed r.k r.phase m ≡ true → f m ≡ g m)
      → (a b : Partial) → Solves r.k r.phase s a → Solves r.k r.phase t b → (m : ℕ) → is_observed r.k r.phase m ≡ true → a m ≡ b m
  same_bits s t f g x y alike a b sa sb m seen = x.shown a sa m seen ∙ ap (λ (v : Bool). Some v) (alike m seen) ∙ sym (y.shown b sb m seen)

  pub thrice_holds : SettlesThrice r risen n → StepHolds r risen n
  thrice_holds h = record {
    before = h.start.settles;
    after = λ a solves. subst (λ (s : Setting). Settles r.k r.phase s) (sym (same_setting h.first h.start a solves)) h.rose.settles;
    once = h.together.settles;
    alike = λ a solves x y sx sy m seen.
        same_bits (after_rise r risen n h.first) (at_once r (and_now risen n)) h.after h.once h.rose h.together h.alike x y
        (subst (λ (s : Setting). Solves r.k r.phase s x) (same_setting h.first h.start a solves) sx) sy m seen;
  }

  -- ---- where it does not

  pub not_holds : SettlesNot r risen n → ¬ StepHolds r risen n
  not_holds (NotBefore never) h = never h.before
  not_holds (NotAfter first to never) h =
      let a = h.before.solution in never (subst (λ (s : Setting). Settles r.k r.phase s) (same_setting first to a.0 a.1) (h.after a.0 a.1))
  not_holds (NotAtOnce never) h = never h.once
  not_holds (NotAlike first after once m to rose at_end seen differ) h =
      let a = h.before.solution in
      let x = rose.settles.solution in
      let y = at_end.settles.solution in
      let same = h.alike a.0 a.1 x.0 y.0 (subst (λ (s : Setting). Solves r.k r.phase s x.0) (sym (same_setting first to a.0 a.1)) x.1) y.1 m seen in
      differ (same_Some (after m) (once m) (sym (rose.shown x.0 x.1 m seen) ∙ same ∙ at_end.shown y.0 y.1 m seen))

pub three_settings : ThreeSettings
three_settings = record { holds = λ r risen n h. thrice_holds r risen n h; fails = λ r risen n h. not_holds r risen n h }
