use Rattle.std.proofs.Common.{◌≡◌, ℕ, ◌<◌, List, get_or, length, arith, ap, subst, sym, ◌∙◌, inl, inr}
use Rattle.std.specs.Prelude.{slice_get, slice_index}
use Rattle.std.proofs.lemmas.Bool.{cases_eq}
use Rattle.std.proofs.lemmas.Option.{same_Some, slice_get-get_or, slice_get_within}
use Rattle.std.proofs.lemmas.List.{length-map}
use Rattle.channel_parts.specs.PartLists.{net_numbers}
use Rattle.vrt_model.proofs.Lists.{map_at}
use Rattle.vrt_model.proofs.Members.{all_among}
use Rattle.vrt_model.specs.Lists.{At}
use Rattle.vrt_model.specs.declared.ids.Net.{Net}
use Rattle.circuit_faults.proofs.ranking.note_part.Goals as goal

net_there : (xs ys : List Net) (i : ℕ) (d : Net) → ys ≡ xs → i < length ys → At xs i (get_or ys i d)
net_there xs ys i d same lt = subst (λ (zs : List Net). At zs i (get_or ys i d)) same (slice_get-get_or ys i d lt)

pub note-requires : goal.note-requires
note-requires c =
    let i = c.loop-i.i in
    let net : Net = get_or c.as_slice-nets.result.now i (record { 0 = 0 }) in
    let there : At c.args.part.now.nets i net = net_there c.args.part.now.nets c.as_slice-nets.result.now i (record { 0 = 0 }) c.as_slice-nets.ensures c.loop-i-test.true in
    let low = all_among (λ (x : Net). x.0 < length c.args.ranks.now.items) c.args.part.now.nets net c.requires (i, there) in
    let len = c.loop-i.invariant.len in
    omega (arith, low, len)

pub loop-i-preserved : goal.loop-i-preserved
loop-i-preserved c =
    let part = c.args.part.now in
    let i = c.loop-i.i in
    let net : Net = get_or c.as_slice-nets.result.now i (record { 0 = 0 }) in
    let there : At part.nets i net = net_there part.nets c.as_slice-nets.result.now i (record { 0 = 0 }) c.as_slice-nets.ensures c.loop-i-test.true in
    let number : At (net_numbers part.nets) i net.0 = map_at (λ (x : Net). x.0) part.nets i net there in
    let before = c.loop-i.invariant in
    record {
      len = (let now = c.note.ensures.len in let len = before.len in omega (arith, now, len));
      inside = λ j n lt e. elim (cases_eq n net.0) [
        | inl same ↦ subst (λ (m : ℕ). slice_index c.note.new.ranks.items m ≡ part.rank) (sym same) c.note.ensures.here
        | inr other ↦
            let earlier : j < i = elim (cases_eq j i) [
              | inl at ↦ absurd (other (same_Some n net.0 (sym e ∙ ap (slice_get (net_numbers part.nets)) at ∙ number)))
              | inr ne ↦ omega (arith, lt, ne)
            ] in
            c.note.ensures.others n other ∙ before.inside j n earlier e
      ];
      outside = λ n none. c.note.ensures.others n (λ same. none (i, subst (At (net_numbers part.nets) i) (sym same) number)) ∙ before.outside n none;
    }

pub returns-clause-noted : goal.returns-clause-noted
returns-clause-noted c =
    let part = c.args.part.now in
    let shown = ap (λ (xs : List Net). length xs) c.as_slice-nets.ensures in
    let numbers = length-map part.nets (λ (x : Net). x.0) in
    let end = c.loop-i-test.false in
    record {
      inside = λ n m. (let low = slice_get_within (net_numbers part.nets) m.0 n m.1 in c.loop-i.invariant.inside m.0 n (omega (arith, shown, numbers, end, low)) m.1);
      outside = c.loop-i.invariant.outside;
    }
