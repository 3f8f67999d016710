-- The node at a place.
use Rattle.node_pool.proofs.Shared.{List, [], ap, append_assoc, arith, drop, eqb, false, refl, subst, sym, true, ℕ, ◌++◌, ◌+◌, ◌-◌, ◌<◌, ◌∙◌, ◌∷◌, ◌≡◌, ◌≤◌, ne_eqb, drop_at, IsNode, Node}
use Rattle.node_pool.proofs.{Shared.{encoding, node_at, size_of, node_at-encoding, AreNodes, encodings, first_of, has, place_of, used, IsBoundary, since, until}, Cuts.{step, until-since}}
use Rattle.node_pool.proofs.Sizes.{AreNodes-left, AreNodes-right, encodings-append, length-encodings, size_from}

-- the node at a place within
pub record IsHere (n : Node) (at : ℕ) (ns : List Node) (store : List ℕ) : Type 0 where
  pub behind : List ℕ
  pub bytes : drop at store ≡ encoding n ++ behind
  pub is : node_at (drop at store) ≡ n
  pub rest : since at ns ≡ n ∷ since (at + size_of n) ns
  pub next : IsBoundary (at + size_of n) ns
  pub room : at + size_of n ≤ used ns
  pub valid : IsNode n

pub here : (at : ℕ) (ns : List Node) (store zs : List ℕ) → store ≡ encodings ns ++ zs → AreNodes ns → IsBoundary at ns → at < used ns → (n : Node) × IsHere n at ns store
here at ns store zs e h b lt =
    let n = first_of (since at ns) in
    let a = until at ns in
    let s = step at ns b lt in
    let behind = since (at + size_of n) ns in
    let whole : ns ≡ a ++ (n ∷ behind) = sym (until-since at ns) ∙ ap (λ (x : List Node). a ++ x) s.rest in
    let parts : AreNodes (a ++ (n ∷ behind)) = subst AreNodes whole h in
    let valid : IsNode n = (AreNodes-right a (n ∷ behind) parts).0 in
    let bytes : store ≡ encodings a ++ (encoding n ++ (encodings behind ++ zs)) = e ∙ ap (λ (x : List Node). encodings x ++ zs) whole ∙ simp (encodings-append, append_assoc) in
    let left = length-encodings a (AreNodes-left a (n ∷ behind) parts) ∙ b in
    let there : drop at store ≡ encoding n ++ (encodings behind ++ zs) = ap (drop at) bytes ∙ drop_at (encodings a) (encoding n ++ (encodings behind ++ zs)) at left in
    let is = ap node_at there ∙ node_at-encoding n (encodings behind ++ zs) valid in
    (n, record { behind = encodings behind ++ zs; bytes = there; is = is; rest = s.rest; next = s.boundary; room = s.within; valid = valid })

-- the beginning and the end
pub starts : (ns : List Node) → IsBoundary 0 ns
starts [] = refl
starts (n ∷ ns) = refl

pub since-zero : (ns : List Node) → since 0 ns ≡ ns
since-zero [] = refl
since-zero (n ∷ ns) = refl

pub since_end : (at : ℕ) (ns : List Node) → used ns ≤ at → since at ns ≡ []
since_end at [] h = refl
since_end at (n ∷ ns) h =
    let no : eqb at 0 ≡ false = ne_eqb at 0 (λ e. absurd (omega (arith, size_from n))) in
    rw no (since_end (at - size_of n) ns (omega arith))

pub place_room : (i : ℕ) (ns : List Node) → has i ns ≡ true → place_of i ns + 8 ≤ used ns
place_room i [] h = absurd cc
place_room i (n ∷ ns) h = grind (arith, size_from, place_room i ns)
