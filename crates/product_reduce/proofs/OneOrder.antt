-- Factors no two of which have identical bases have one order, and with a coefficient they are one tree.
use Rattle.product_reduce.proofs.Shared.{◌≡◌, false, sym, ap, ◌∙◌, base_of, Tree, Trees, permuted_trans, Permuted-sym, IsSorting, IsWritten, coefficient_times, have_partners, rising_once, of_lists}
use Rattle.product_reduce.proofs.Sorted.{sorted_rising}

sorted_once : (ts us vs : Trees) → have_partners ts ≡ false → IsSorting 0 base_of ts us → IsSorting 0 base_of ts vs → us ≡ vs
sorted_once ts us vs h a b =
    let p = of_lists ts us a.moved in
    let q = of_lists ts vs b.moved in
    rising_once base_of (permuted_trans (Permuted-sym p) q) (sorted_rising ts us h a.moved a.rising) (sorted_rising ts vs h b.moved b.rising)

pub written_once : (c t u : Tree) (ts : Trees) → have_partners ts ≡ false → IsWritten c ts t → IsWritten c ts u → t ≡ u
written_once c t u ts h a b = a.is ∙ ap (coefficient_times c) (sorted_once ts a.us b.us h a.sorted b.sorted) ∙ sym b.is
