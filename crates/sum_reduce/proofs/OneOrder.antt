-- Terms no two of which have identical parts have one order, and with a Number they are one tree.
use Rattle.sum_reduce.proofs.Shared.{◌≡◌, sym, ap, ◌∙◌, none_number, is_number, part_of, NoneIs, RisesBy, Tree, Trees, none, more, append, permuted_trans, Permuted-sym, IsSorting, others_in}
use Rattle.sum_reduce.proofs.{Shared.{AreUnlike, IsWritten, terms_of_number, sum_tree, rising_once, none_permuted, of_lists}, Rearranged.{unlike_permuted}, Settled.{AreApart, rises_strictly}}

-- ---- rising strictly

unlike_apart : (us : Trees) → AreUnlike us → AreApart us
unlike_apart none h = tt
unlike_apart (more t none) h = tt
unlike_apart (more t (more u us)) h = (h.0.0, unlike_apart (more u us) h.1)

-- ---- one order

rising_sorted : (ts us : Trees) → NoneIs is_number ts → AreUnlike ts → IsSorting 0 part_of ts us → RisesBy part_of us
rising_sorted ts us n h a =
    let p = of_lists ts us a.moved in
    rises_strictly us (none_permuted is_number p n) (unlike_apart us (unlike_permuted p h)) a.rising

sorted_once : (ts us vs : Trees) → NoneIs is_number ts → AreUnlike ts → IsSorting 0 part_of ts us → IsSorting 0 part_of ts vs → us ≡ vs
sorted_once ts us vs n h a b =
    let p = of_lists ts us a.moved in
    let q = of_lists ts vs b.moved in
    rising_once part_of (permuted_trans (Permuted-sym p) q) (rising_sorted ts us n h a) (rising_sorted ts vs n h b)

pub written_once : (n t u : Tree) (ts : Trees) → AreUnlike (others_in ts) → IsWritten n (others_in ts) t → IsWritten n (others_in ts) u → t ≡ u
written_once n t u ts h a b =
    a.is ∙ ap (λ (x : Trees). sum_tree (append (terms_of_number n) x)) (sorted_once (others_in ts) a.us b.us (none_number ts) h a.sorted b.sorted) ∙ sym b.is
