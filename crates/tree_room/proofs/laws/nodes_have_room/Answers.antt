use Rattle.tree_room.proofs.{Shared.{◌+◌, ◌*◌, ◌≤◌, arith}, Multiples.{scaled}}
use Rattle.tree_room.proofs.laws.nodes_have_room.Goals as goal

pub returns-clause-product : goal.returns-clause-product
returns-clause-product c = λ h n m k l. let p : h * m ≤ (n + 1) * m = scaled h (n + 1) m l in let q : 2 * m ≤ n * m = scaled 2 n m k in omega (arith, p, q)

pub returns-clause-inverse : goal.returns-clause-inverse
returns-clause-inverse c = λ a b n m s h i j k l.
    let p : (1 + a + b) * m ≤ n * m = scaled (1 + a + b) n m k in
    let q : 1 * m ≤ a * m = scaled 1 a m h in
    let r : 1 * m ≤ b * m = scaled 1 b m i in
    omega (arith, j, l, p, q, r)

pub returns-clause-placing : goal.returns-clause-placing
returns-clause-placing c = λ a n m s h i j k.
    let p : a * m ≤ n * m = scaled a n m j in
    let q : 1 * m ≤ n * m = scaled 1 n m i in
    omega (arith, h, k, p, q)
