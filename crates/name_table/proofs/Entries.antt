-- Entries among trees.
use Rattle.name_table.proofs.Shared.{◌≡◌, List, [], ◌∷◌, sym, subst, AllExpressions, IsWhole, Forest, join, all-join, root-left, NamedTree, values, AreRoots, HasEntries, HoldLaterNames, IsHeld, Entry}
use Rattle.name_table.proofs.{Shared.{Table, entries}, Later.{roots-left, values-left}}

pub held_entries : (t : Table) (f : Forest) → IsHeld t f → HasEntries t f
held_entries t f h = record { roots = h.roots; whole = h.whole; later = h.later }

pub entries-left : (t : Table) (f g : Forest) → HasEntries t f → AllExpressions g → HasEntries t (join f g) × (values t (join f g) ≡ values t f)
entries-left t f g h w =
    let same : values t (join f g) ≡ values t f = values-left (entries t) f g h.roots in (
      record {
        roots = roots-left (entries t) f g h.roots;
        whole = all-join IsWhole f g h.whole w;
        later = subst (λ (vs : List NamedTree). HoldLaterNames [] vs) (sym same) h.later;
      },
      same,
    )
