use Rattle.std.proofs.Common.{Global, Vec, ◌≡◌, ℕ, Bool, List, Option, true, ap, inl, inr, subst, sym, ◌∙◌}
use Rattle.std.proofs.lemmas.Bool.{false≢true}
use Rattle.known_nets.proofs.ShutLaws.{among_together}
use Rattle.known_nets.specs.Regions.{GoTogether, HasKept}
use Rattle.known_nets.specs.Waits.{waits}
use Rattle.vrt_model.specs.Lists.{Among}
use Rattle.known_nets.proofs.known.Search.learn_around.Goals as goal

pub learn_region-requires-clause-together : goal.learn_region-requires-clause-together
learn_region-requires-clause-together c phase m n one two =
    let circuit = c.args.circuit.now in
    let known = c.args.self.now.known.items in
    let nets : c.as_slice-3.result.now ≡ c.in_ok-nets.nets.items = c.as_slice-3.ensures.value in
    let goes : (k : ℕ) → Among c.as_slice-3.result.now k → GoTogether circuit phase known c.args.net k = λ k a.
    subst (λ (t : List (Option Bool)). GoTogether circuit phase t c.args.net k) c.as_slice.ensures.value (c.in_ok-nets.ensures.together phase k (subst (λ (l : List ℕ). Among l k) nets a)) in
    among_together circuit phase known c.args.net m n (goes m one) (goes n two)

pub returns : goal.returns
returns c =
    let circuit = c.args.circuit.now in
    let net = c.args.net in
    let old = c.args.self.now in
    let mid = c.forget.new.self in
    let forget = c.forget.ensures in
    let looked = c.in_ok-more.ensures in
    let nets : c.as_slice-2.result.now ≡ c.in_ok-nets.nets.items = c.as_slice-2.ensures.value in
    let kept : HasKept c.as_slice-3.result.now old.waiting.marks.items mid.marks.items =
    subst (λ (l : List ℕ). HasKept l old.waiting.marks.items mid.marks.items) (nets ∙ sym c.as_slice-3.ensures.value) forget.kept in
    let gone = forget.gone net (subst (λ (l : List ℕ). Among l net) (sym nets) c.in_ok-nets.ensures.has) in
    record {
      search = looked.search;
      learned = looked.learned;
      waiting = λ n e. elim (looked.waited.listed n e) [
        | inr m ↦ inr m
        | inl f ↦ inl (forget.only n f, λ same. false≢true (sym gone ∙ subst (λ (k : ℕ). waits mid k ≡ true) same f))
      ];
      plain = λ n e. elim (looked.waited.plain n e) [ inl o ↦ inl (forget.only n o) | inr p ↦ inr p ];
      stays = λ n m. looked.waited.stays n (subst (λ (v : Vec ℕ Global). Among v.items n) (sym forget.list) m);
      settled = λ phase has are settles. looked.settles phase old.waiting.marks.items has are kept settles;
      progress = record {
        list = λ e. looked.progress.list e ∙ ap (λ (v : Vec ℕ Global). v.items) forget.list;
        known = looked.progress.known;
        less = looked.progress.less;
      };
    }
