use Rattle.node_pool.proofs.{Shared.{◌≡◌, ℕ, ◌≤◌, ap, ◌∙◌, length, replicate, [], arith, refl, length-replicate}, Fields.{IsOf, laid, contents_are}}
use Rattle.node_pool.specs.declared.buffer.Buffer.TheInside.{Inside}
use Rattle.node_pool.proofs.buffer.Buffer.new.Goals as goal

empty : (n : ℕ) (b : Inside) → n ≤ 524280 → b.store ≡ replicate n 0 → b.count ≡ 0 → b.used ≡ 0 → IsOf b []
empty n b h e k u =
    let len : length b.store ≡ n = ap length e ∙ length-replicate n 0 in
    record { bytes = e ∙ ap (λ (k : ℕ). replicate k 0) (omega arith); nodes = tt; fits = omega arith; small = omega arith; count = k; used = u }

pub invariant_of-result : goal.invariant_of-result
invariant_of-result c = laid _ [] (empty c.args.size _ c.requires c.in_ok-new.ensures refl refl)

pub returns : goal.returns
returns c = contents_are _ [] (empty c.args.size _ c.requires c.in_ok-new.ensures refl refl) ∙ ap (λ (k : ℕ). record { nodes = []; size = k }) (ap length c.in_ok-new.ensures ∙ length-replicate c.args.size 0)
