use Rattle.std.proofs.Common.{◌≡◌, ◌<◌, ◌++◌, ◌∷◌, ℕ, List, [], length, map, true, if◌then◌else◌, sym, ap, ◌∙◌, get_or}
use Rattle.linear_solve.proofs.{Shared.{bytes_eq, get_or-map, length-map, one_fraction, zero_fraction, name_of, entries_of}, Entries.{longer, mapped_all, mapped_more}}
use Rattle.calc_terms.proofs.SmallFractions.{zero_value}
use Rattle.linear_solve.proofs.Places.{below_mapped, past_mapped}
use Rattle.linear_solve.proofs.side.SideRow.name.Goals as goal

pub loop-other-preserved : goal.loop-other-preserved
loop-other-preserved c =
    let l : c.loop-other.other-index < length (map name_of c.args.names.now) = below_mapped (length-map c.args.names.now name_of) c.loop-other-test.true in
    let here : get_or (map name_of c.args.names.now) c.loop-other.other-index [] ≡ name_of c.other-item.result = get_or-map name_of c.args.names.now c.loop-other.other-index c.other-item.result [] c.loop-other-test.true ∙ ap name_of (sym c.other-item.is) in
    let test : c.eq.result ≡ bytes_eq (get_or (map name_of c.args.names.now) c.loop-other.other-index []) (name_of c.args.name) =
    c.eq.ensures ∙ ap (λ (y : List ℕ). bytes_eq y c.bytes-in-loop-other.result.now) (c.bytes.ensures.value ∙ sym here) ∙ ap
    (bytes_eq (get_or (map name_of c.args.names.now) c.loop-other.other-index [])) c.bytes-in-loop-other.ensures.value in
    record {
      made = mapped_more (λ (y : List ℕ). if bytes_eq y (name_of c.args.name) then one_fraction else zero_fraction)
          (map name_of c.args.names.now) c.loop-other.other-index [] _ _ _ l c.push.ensures c.loop-other.invariant.made
          (c.one_where.ensures ∙ ap (λ t. if t then one_fraction else zero_fraction) test);
      long = longer _ _ _ c.loop-other.other-index c.push.ensures c.loop-other.invariant.long;
    }

pub returns : goal.returns
returns c =
    let m : entries_of c.loop-other.row ≡ map (λ (y : List ℕ). if bytes_eq y (name_of c.args.name) then one_fraction else zero_fraction) (map name_of c.args.names.now) =
    mapped_all (λ (y : List ℕ). if bytes_eq y (name_of c.args.name) then one_fraction else zero_fraction) (map name_of c.args.names.now) c.loop-other.other-index _
    (past_mapped (length-map c.args.names.now name_of) c.loop-other-test.false) c.loop-other.invariant.made in
    let z = zero_value c.whole.result c.whole.ensures in
    let all = c.push-2.ensures ∙ (λ i. m i ++ z i ∷ []) in
    λ i. record { named = true; entries = all i }
