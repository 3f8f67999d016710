use Rattle.node_pool.proofs.Shared.{rules, List, [], arith, ap, length, subst, sym, ℕ, ◌+◌, ◌-◌, ◌≤◌, ◌∙◌, ◌∷◌, ◌≡◌, Header, Node, first_of, owed_behind, since, size_of, size_of_header, unheld, used}
use Rattle.node_pool.proofs.{Shared.{without_ids}, Sizes.size_from, Marks.{released, released_rest}, Unheld.{unheld_few, unheld_more, unheld_none}, Walk.{since_end}}
use Rattle.node_pool.proofs.identifiers.release_trees.Goals as goal

pub overflow_add-gone : goal.overflow_add-gone
overflow_add-gone c =
    let k = c.header_in-header.ensures.kept in
    record { fits = omega (arith, c.loop-owed.invariant.gone, unheld_few c.args.trees c.args.from c.args.buffer.now.nodes (omega (arith, k.fits, k.small))) }

pub loop-owed-preserved : goal.loop-owed-preserved
loop-owed-preserved c =
    let ns = c.args.buffer.now.nodes in
    let h = c.header_in-header.ensures in
    let same : c.size_in-at.result ≡ size_of_header c.header_in-header.result = c.size_in-at.ensures ∙ ap size_of_header (sym h.value) in
    let i = c.loop-owed.invariant in
    let at = c.loop-owed.at in
    let owed = c.loop-owed.owed in
    let next = at + c.size_in-at.result in
    let still = owed - 1 + c.from.result in
    let n = first_of (since at ns) in
    let size : c.size_in-at.result ≡ size_of n = c.size_in-at.ensures in
    let kids : c.from.result ≡ n.children = c.from.ensures ∙ ap (λ (y : Header). y.children) h.value in
    let id : c.header_in-header.result.id ≡ n.id = ap (λ (y : Header). y.id) h.value in
    let few : n.count ≤ 1 = subst (λ (y : Header). y.count ≤ 1) h.value (omega (arith, c.if-header-gt1.false)) in
    let rest : since at ns ≡ n ∷ since next ns = rw same h.rest in
    let left = unheld still (since next ns) in
    let more : unheld owed (since at ns) ≡ n ∷ left = unheld_more owed (since at ns) n (since next ns) rest c.loop-owed-test.true few ∙ ap (λ (k : ℕ). n ∷ unheld (owed - 1 + k) (since next ns)) (sym kids) in
    let r = released c.loop-owed.flags c.release-below.new.flags (since at ns) (since next ns) n c.header_in-header.result.id rest id c.release-below.ensures.flags i.known in
    record {
      boundary = rw same h.next;
      known = r.0;
      taken = c.release-below.ensures.taken;
      few = omega (arith, i.few, c.from.ensures, size, size_from n);
      place = omega (arith, i.place, ap used more, size);
      still = ap (λ (k : ℕ). owed_behind (owed - 1 + k) left) kids ∙ sym (ap (owed_behind owed) more) ∙ i.still;
      rest = released_rest c.loop-owed.flags c.release-below.new.flags (unheld owed (since at ns)) left n c.header_in-header.result.id more id c.release-below.ensures.flags ∙ i.rest;
      gone = omega (arith, i.gone, ap length more);
    }

-- behind the last node
ended : (c : goal.Else-at-end) → unheld c.loop-owed.owed (since c.loop-owed.at c.args.buffer.now.nodes) ≡ []
ended c = ap (unheld c.loop-owed.owed) (since_end c.loop-owed.at c.args.buffer.now.nodes (omega (arith, c.if-at-end.false, c.used-end.ensures)))

pub returns-else-at-end : goal.returns-else-at-end
returns-else-at-end c =
    record {
      flags = ap (λ (l : List Node). without_ids l c.loop-owed.flags) (sym (ended c)) ∙ c.loop-owed.invariant.rest;
      end = omega (arith, c.loop-owed.invariant.place, ap used (ended c));
      owed = ap (owed_behind c.loop-owed.owed) (sym (ended c)) ∙ c.loop-owed.invariant.still;
      gone = omega (arith, c.loop-owed.invariant.gone, ap length (ended c));
      taken = search rules;
      to = search rules;
    }

-- behind the last tree
done : (c : goal.After-loop-owed) → unheld c.loop-owed.owed (since c.loop-owed.at c.args.buffer.now.nodes) ≡ []
done c =
    let zero : c.loop-owed.owed ≡ 0 = omega (arith, c.loop-owed-test.false) in
    ap (λ (k : ℕ). unheld k (since c.loop-owed.at c.args.buffer.now.nodes)) zero ∙ unheld_none (since c.loop-owed.at c.args.buffer.now.nodes)

pub returns-after-loop-owed : goal.returns-after-loop-owed
returns-after-loop-owed c =
    record {
      flags = ap (λ (l : List Node). without_ids l c.loop-owed.flags) (sym (done c)) ∙ c.loop-owed.invariant.rest;
      end = omega (arith, c.loop-owed.invariant.place, ap used (done c));
      owed = ap (owed_behind c.loop-owed.owed) (sym (done c)) ∙ c.loop-owed.invariant.still;
      gone = omega (arith, c.loop-owed.invariant.gone, ap length (done c));
      taken = search rules;
      to = search rules;
    }
