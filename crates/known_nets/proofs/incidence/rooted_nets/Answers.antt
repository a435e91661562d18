use Rattle.std.proofs.Common.{◌≡◌, ℕ, true, inl, inr, subst}
use Rattle.vrt_model.specs.Lists.{mark_at}
use Rattle.known_nets.proofs.incidence.rooted_nets.Goals as goal

pub returns : goal.returns
returns c n =
    let wholes = c.mark_wholes.ensures in
    let held = c.in_ok-rooted.ensures.held in (
      λ e. elim (wholes.only n e) [ inl before ↦ inl ((held n).0 before) | inr driven ↦ inr driven ],
      λ root. elim root [
        | inl h ↦ wholes.grown n ((held n).1 h)
        | inr d ↦ subst (λ (m : ℕ). mark_at c.mark_wholes.new.marks.items m ≡ true) d.4 (wholes.pins d.0 d.1 d.2 d.3)
      ],
    )
