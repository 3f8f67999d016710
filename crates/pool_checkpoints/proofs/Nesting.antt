-- Trees below two marks.
use Rattle.pool_checkpoints.proofs.Shared.{◌≡◌, ◌≤◌, ap, ◌∙◌, sym, arith, refl, Forest, empty, tree, join, node_of, first_trees, rest_trees, bytes_in, Starts, size_from, MarksNest}

-- of trees that stand first in one forest, the fewer stand first among the more
fewer_first : (few many b c : Forest) → join few b ≡ join many c → bytes_in few ≤ bytes_in many → Starts few many
fewer_first empty many b c e h = record { behind = many; whole = refl }
fewer_first (tree l k r) empty b c e h = absurd (omega (arith, size_from (node_of l k)))
fewer_first (tree l k r) (tree m j s) b c e h =
    let first : tree l k empty ≡ tree m j empty = ap (first_trees 1) e in
    let others = fewer_first r s b c (ap (rest_trees 1) e) (omega (arith, ap bytes_in first, h)) in
    record {
      behind = others.behind;
      whole = ap (λ (f : Forest). join f s) (sym first) ∙ ap (λ (f : Forest). tree l k f) others.whole;
    }

pub marks_nest : MarksNest
marks_nest outer inner few many f le a b =
    record { starts = fewer_first few many a.starts.behind b.starts.behind (sym a.starts.whole ∙ b.starts.whole) (omega (arith, a.bytes, b.bytes)); bytes = a.bytes }
