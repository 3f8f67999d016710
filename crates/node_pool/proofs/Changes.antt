-- What a change of the bytes leaves.
use Rattle.node_pool.proofs.Shared.{List, [], ap, append-nil, append_assoc, arith, drop, false, length, refl, replicate, subst, sym, take, true, ℕ, ◌++◌, ◌+◌, ◌-◌, ◌<◌, ◌^◌, ◌∙◌, ◌∷◌, ◌≡◌, ◌≤◌}
use Rattle.node_pool.proofs.Shared.{Header, Kind, header_of, is_bare, parent, put_before, drop-drop, drop-replicate, drop_at, length-append, length-replicate, replicate-append-replicate, take_at}
use Rattle.node_pool.proofs.Shared.{code_of, form_of, IsNode, Node, encoding, fresh, header_bytes, low_bytes, payload_bytes, size_of, has_short_form, IsPayload, Payload, kind_of_payload}
use Rattle.node_pool.proofs.Shared.{size_of_payload, length-encoding, length-low_bytes, cleared, put, rotated, slid, switched, Contents, contents_of, AreNodes, encodings, has, place_of, used}
use Rattle.node_pool.proofs.Shared.{with_children, with_count, IsBoundary, between, exchanged, since, swapped, until, without, bare_size}
use Rattle.node_pool.proofs.{Cuts.{AreNodes-swap, AreNodes-without, cut, cut3, until-since}, Exchanges.{AreBlocks, cut4}, Fields.{IsDone, IsOf, contents_are}, Found.{IsFound, found}}
use Rattle.node_pool.proofs.{Sizes.{AreNodes-append, AreNodes-left, AreNodes-right, encodings-append, length-encodings, used-append}, Slides.{closed_up, opened_up, switched_parts, turned}}
use Rattle.node_pool.specs.declared.buffer.Buffer.TheInside.{Inside}

-- the fields afterwards
pub record IsNext (p q : Inside) (ns : List Node) : Type 0 where
  pub of : IsOf q ns
  pub size : length q.store ≡ length p.store

pub done : (p q : Inside) (c : Contents) (ns : List Node) → contents_of p ≡ c → IsNext p q ns → IsDone c q ns
done p q c ns e n = grind (arith, contents_are)

-- the bytes of other nodes that take no more of them
next : (p q : Inside) (ns ms : List Node) → IsOf p ns → AreNodes ms → used ms ≤ length p.store → q.store ≡ encodings ms ++ replicate (length p.store - used ms) 0 → q.count ≡ length ms
    → q.used ≡ used ms → IsNext p q ms
next p q ns ms o h fits e count used-is =
    let free = length p.store - used ms in
    let size : length q.store ≡ length p.store = ap length e ∙ omega (arith, length-append (encodings ms) (replicate free 0), length-encodings ms h, length-replicate {A = ℕ} free 0) in
    record {
      size = size;
      of = record {
        bytes = e ∙ ap (λ (k : ℕ). encodings ms ++ replicate (k - used ms) 0) (sym size);
        nodes = h;
        fits = omega (arith, size, fits);
        small = omega
            (arith, size, o.small);
        count = count;
        used = used-is;
      };
    }

-- ---- a block goes

removed_split : (p q : Inside) (s1 : List ℕ) (a b c : List Node) (i len : ℕ) → IsOf p (a ++ (b ++ c)) → used a ≡ i → used b ≡ len
    → s1 ≡ slid p.store (i + len) i (p.used - (i + len)) → q.store ≡ cleared s1 (i + (p.used - (i + len))) p.used → q.used ≡ i + (p.used - (i + len)) → q.count ≡ p.count - length b → IsNext p q (a ++ c)
removed_split p q s1 a b c i len o ha hb e1 e2 e3 e4 =
    let k = length p.store - used (a ++ (b ++ c)) in
    let z : List ℕ = replicate k 0 in
    let nbc = AreNodes-right a (b ++ c) o.nodes in
    let whole : used (a ++ (b ++ c)) ≡ i + len + used c = omega (arith, used-append a (b ++ c), used-append b c) in
    let j : p.used - (i + len) ≡ used c = omega (arith, o.used) in
    let end : p.used ≡ i + len + used c = omega (arith, o.used) in
    let bytes : p.store ≡ encodings a ++ (encodings b ++ (encodings c ++ z)) = o.bytes ∙ simp (encodings-append, append_assoc) in
    let slide : s1 ≡ slid p.store (i + len) i (used c) = e1 ∙ ap (slid p.store (i + len) i) j in
    let closed : cleared s1 (i + used c) (i + len + used c) ≡ (encodings a ++ encodings c) ++ (replicate len 0 ++ z) =
    closed_up (encodings a) (encodings b) (encodings c) z p.store s1 i len (used c) bytes (length-encodings a (AreNodes-left a (b ++ c) o.nodes) ∙ ha)
    (length-encodings b (AreNodes-left b c nbc) ∙ hb) (length-encodings c (AreNodes-right b c nbc)) slide in
    let zeros : replicate len 0 ++ z ≡ replicate (length p.store - used (a ++ c)) 0 = replicate-append-replicate len k 0 ∙ ap (λ (n : ℕ). replicate n 0) (omega (arith, used-append a c, o.fits)) in
    let bytes-are : q.store ≡ (encodings a ++ encodings c) ++ (replicate len 0 ++ z) = e2 ∙ ap (λ (x : ℕ). cleared s1 (i + x) p.used) j ∙ ap (cleared s1 (i + used c)) end ∙ closed in
    next p q (a ++ (b ++ c)) (a ++ c) o (AreNodes-without a b c o.nodes) (omega (arith, used-append a c, o.fits)) (rw (bytes-are, zeros, encodings-append a c) refl)
    (omega (arith, o.count, length-append a (b ++ c), length-append b c, length-append a c)) (omega (arith, used-append a c))

pub removed : (p q : Inside) (s1 : List ℕ) (ns : List Node) (i j : ℕ) → IsOf p ns → IsBoundary i ns → IsBoundary j ns → i ≤ j
    → s1 ≡ slid p.store j i (p.used - j) → q.store ≡ cleared s1 (i + (p.used - j)) p.used → q.used ≡ i + (p.used - j) → q.count ≡ p.count - length (between i j ns) → IsNext p q (without i j ns)
removed p q s1 ns i j o a b le e1 e2 e3 e4 =
    let x = cut i j ns a b le in
    let k : j ≡ i + (j - i) = omega arith in
    removed_split p q s1 (until i ns) (between i j ns) (since j ns) i (j - i) (subst (IsOf p) x.whole o) a x.size
    (subst (λ (n : ℕ). s1 ≡ slid p.store n i (p.used - n)) k e1) (subst (λ (n : ℕ). q.store ≡ cleared s1 (i + (p.used - n)) p.used) k e2) (subst (λ (n : ℕ). q.used ≡ i + (p.used - n)) k e3) e4

-- ---- blocks change places

rotated_split : (p q : Inside) (a x y d : List Node) (i j k : ℕ) → IsOf p (a ++ (x ++ (y ++ d))) → used a ≡ i → used x ≡ j - i → used y ≡ k - j → i ≤ j → j ≤ k
    → q.store ≡ rotated p.store i j k → q.used ≡ p.used → q.count ≡ p.count → IsNext p q (a ++ (y ++ (x ++ d)))
rotated_split p q a x y d i j k o ha hx hy h1 h2 e1 e2 e3 =
    let ns = a ++ (x ++ (y ++ d)) in
    let ms = a ++ (y ++ (x ++ d)) in
    let z : List ℕ = replicate (length p.store - used ns) 0 in
    let rest = AreNodes-right a (x ++ (y ++ d)) o.nodes in
    let bytes : p.store ≡ encodings a ++ (encodings x ++ (encodings y ++ (encodings d ++ z))) = o.bytes ∙ simp (encodings-append, append_assoc) in
    let turn = turned (encodings a) (encodings x) (encodings y) (encodings d ++ z) p.store i j k bytes (length-encodings a (AreNodes-left a (x ++ (y ++ d)) o.nodes) ∙ ha)
    (length-encodings x (AreNodes-left x (y ++ d) rest) ∙ hx)
    (length-encodings y (AreNodes-left y d (AreNodes-right x (y ++ d) rest)) ∙ hy) h1 h2 in
    let regroup : encodings ms ++ z ≡ encodings a ++ ((encodings y ++ encodings x) ++ (encodings d ++ z)) = simp (encodings-append, append_assoc) in
    let same : used ms ≡ used ns = simp used-append (omega arith) in
    next p q ns ms o (AreNodes-swap a x y d o.nodes) (omega (arith, same, o.fits)) (e1 ∙ turn ∙ sym regroup ∙ ap (λ (n : ℕ). encodings ms ++ replicate (length p.store - n) 0) (sym same))
    (e3 ∙ o.count ∙ simp length-append (omega arith)) (e2 ∙ o.used ∙ sym same)

pub turned_nodes : (p q : Inside) (ns : List Node) (i j k : ℕ) → IsOf p ns → IsBoundary i ns → IsBoundary j ns → IsBoundary k ns → i ≤ j → j ≤ k
    → q.store ≡ rotated p.store i j k → q.used ≡ p.used → q.count ≡ p.count → IsNext p q (swapped i j k ns)
turned_nodes p q ns i j k o a b c h1 h2 e1 e2 e3 =
    let x = cut3 i j k ns a b c h1 h2 in
    rotated_split p q (until i ns) (between i j ns) (between j k ns) (since k ns) i j k (subst (IsOf p) x.whole o) a x.second x.third h1 h2 e1 e2 e3

-- what is known of each part
parts : (a x y z b : List Node) → AreNodes (a ++ (x ++ (y ++ (z ++ b)))) → AreNodes a × AreNodes x × AreNodes y × AreNodes z × AreNodes (a ++ (z ++ (y ++ (x ++ b))))
parts a x y z b h = grind (arith, AreNodes-left, AreNodes-right, AreNodes-append)

exchanged_split : (p q : Inside) (a x y z b : List Node) (i k len : ℕ) → IsOf p (a ++ (x ++ (y ++ (z ++ b)))) → used a ≡ i → used x ≡ len → used y ≡ k - (i + len) → used z ≡ len → i + len ≤ k
    → q.store ≡ switched p.store i k len → q.used ≡ p.used → q.count ≡ p.count → IsNext p q (a ++ (z ++ (y ++ (x ++ b))))
exchanged_split p q a x y z b i k len o ha hx hy hz h e1 e2 e3 =
    let ns = a ++ (x ++ (y ++ (z ++ b))) in
    let ms = a ++ (z ++ (y ++ (x ++ b))) in
    let rest : List ℕ = replicate (length p.store - used ns) 0 in
    let n = parts a x y z b o.nodes in
    let bytes : p.store ≡ encodings a ++ (encodings x ++ (encodings y ++ (encodings z ++ (encodings b ++ rest)))) = o.bytes ∙ simp (encodings-append, append_assoc) in
    let switch = switched_parts (encodings a) (encodings x) (encodings y) (encodings z) (encodings b ++ rest) p.store i k len bytes
    (length-encodings a n.0 ∙ ha) (length-encodings x n.1 ∙ hx) (length-encodings y n.2 ∙ hy) (length-encodings z n.3 ∙ hz) h in
    let regroup : encodings ms ++ rest ≡ encodings a ++ (encodings z ++ (encodings y ++ (encodings x ++ (encodings b ++ rest)))) = simp (encodings-append, append_assoc) in
    let same : used ms ≡ used ns = simp used-append (omega arith) in
    next p q ns ms o n.4 (omega (arith, same, o.fits)) (e1 ∙ switch ∙ sym regroup ∙ ap (λ (n : ℕ). encodings ms ++ replicate (length p.store - n) 0) (sym same))
    (e3 ∙ o.count ∙ simp length-append (omega arith)) (e2 ∙ o.used ∙ sym same)

pub exchanged_nodes : (p q : Inside) (ns : List Node) (i j k l : ℕ) → IsOf p ns → AreBlocks i j k l ns → l - k ≡ j - i → q.store ≡ switched p.store i k (l - k) → q.used ≡ p.used → q.count ≡ p.count → IsNext p q (exchanged i j k l ns)
exchanged_nodes p q ns i j k l o r same e1 e2 e3 =
    let w = cut4 i j k l ns r in
    exchanged_split p q (until i ns) (between i j ns) (between j k ns) (between k l ns) (since l ns) i k (l - k) (subst (IsOf p) w.whole o) w.first
    (omega (arith, w.second, same)) (omega (arith, w.third, same, r.low, r.apart)) w.fourth (omega (arith, same, r.low, r.apart)) e1 e2 e3

-- ---- one number of a node changes

-- a part in the middle is overwritten
put_at : (x u v w t store : List ℕ) (i k : ℕ) → store ≡ x ++ (u ++ (v ++ t)) → length x ≡ i → length u ≡ k → length w ≡ length v → put store (i + k) w ≡ x ++ (u ++ (w ++ t))
put_at x u v w t store i k e hx hu hw =
    let front : store ≡ (x ++ u) ++ (v ++ t) = e ∙ sym (append_assoc x u (v ++ t)) in
    let whole : store ≡ ((x ++ u) ++ v) ++ t = front ∙ sym (append_assoc (x ++ u) v t) in
    let first : take (i + k) store ≡ x ++ u = ap (take (i + k)) front ∙ take_at (x ++ u) (v ++ t) (i + k) (omega (arith, length-append x u)) in
    let last : drop (i + k + length w) store ≡ t = ap (drop (i + k + length w)) whole ∙ drop_at ((x ++ u) ++ v) t (i + k + length w) (omega (arith, length-append (x ++ u) v, length-append x u)) in
    rw (first, last) (append_assoc x u (w ++ t))

-- the bytes before and behind a count, and before and behind a number of children
counts : (n : Node) (rest : List ℕ) → encoding n ++ rest ≡ (low_bytes 1 (code_of (kind_of_payload n.payload)) ++ (low_bytes 1 (form_of (has_short_form n.payload)) ++ low_bytes 2 n.id)) ++ (low_bytes 2 n.count ++ (low_bytes 2 n.children ++ (payload_bytes n.payload ++ rest)))
unfolding encoding header_bytes low_bytes
counts n rest = refl

parents : (n : Node) (rest : List ℕ) → encoding n ++ rest ≡ (low_bytes 1 (code_of (kind_of_payload n.payload)) ++ (low_bytes 1 (form_of (has_short_form n.payload)) ++ (low_bytes 2 n.id ++ low_bytes 2 n.count))) ++ (low_bytes 2 n.children ++ (payload_bytes n.payload ++ rest))
unfolding encoding header_bytes low_bytes
parents n rest = refl

four : (n : Node) → length (low_bytes 1 (code_of (kind_of_payload n.payload)) ++ (low_bytes 1 (form_of (has_short_form n.payload)) ++ low_bytes 2 n.id)) ≡ 4
unfolding low_bytes
four n = refl

six : (n : Node) → length (low_bytes 1 (code_of (kind_of_payload n.payload)) ++ (low_bytes 1 (form_of (has_short_form n.payload)) ++ (low_bytes 2 n.id ++ low_bytes 2 n.count))) ≡ 6
unfolding low_bytes
six n = refl

count_bytes : (x : List ℕ) (n : Node) (rest store : List ℕ) (i c : ℕ) → store ≡ x ++ (encoding n ++ rest) → length x ≡ i → put store (i + 4) (low_bytes 2 c) ≡ x ++ (encoding (record n { count = c }) ++ rest)
count_bytes x n rest store i c e h =
    put_at x _ (low_bytes 2 n.count) (low_bytes 2 c) _ store i 4 (e ∙ ap (λ (y : List ℕ). x ++ y) (counts n rest)) h (four n) (length-low_bytes 2 c ∙ sym (length-low_bytes 2 n.count))
    ∙ ap (λ (y : List ℕ). x ++ y) (sym (counts (record n { count = c }) rest))

children_bytes : (x : List ℕ) (n : Node) (rest store : List ℕ) (i c : ℕ) → store ≡ x ++ (encoding n ++ rest) → length x ≡ i → put store (i + 6) (low_bytes 2 c) ≡ x ++ (encoding (record n { children = c }) ++ rest)
children_bytes x n rest store i c e h =
    put_at x _ (low_bytes 2 n.children) (low_bytes 2 c) _ store i 6 (e ∙ ap (λ (y : List ℕ). x ++ y) (parents n rest)) h (six n) (length-low_bytes 2 c ∙ sym (length-low_bytes 2 n.children))
    ∙ ap (λ (y : List ℕ). x ++ y) (sym (parents (record n { children = c }) rest))

-- one node's bytes are those of another node of its size
changed : (p q : Inside) (ns ms : List Node) (id at : ℕ) (f : IsFound id ns) (m : Node) → IsOf p ns → at ≡ place_of id ns → (IsNode f.node → IsNode m) → size_of m ≡ size_of f.node
    → ms ≡ f.before ++ m ∷ f.after
    → ((x rest : List ℕ) → p.store ≡ x ++ (encoding f.node ++ rest) → length x ≡ at → q.store ≡ x ++ (encoding m ++ rest)) → q.used ≡ p.used → q.count ≡ p.count → IsNext p q ms
changed p q ns ms id at f m o place valid size is bytes e2 e3 =
    let a = f.before in
    let n = f.node in
    let b = f.after in
    let z : List ℕ = replicate (length p.store - used ns) 0 in
    let parts : AreNodes (a ++ n ∷ b) = subst AreNodes f.whole o.nodes in
    let left = AreNodes-left a (n ∷ b) parts in
    let right = AreNodes-right a (n ∷ b) parts in
    let old : p.store ≡ encodings a ++ (encoding n ++ (encodings b ++ z)) = o.bytes ∙ ap (λ (t : List Node). encodings t ++ z) f.whole ∙ simp (encodings-append, append_assoc) in
    let now = bytes (encodings a) (encodings b ++ z) old (length-encodings a left ∙ sym f.place ∙ sym place) in
    let regroup : encodings (a ++ m ∷ b) ++ z ≡ encodings a ++ (encoding m ++ (encodings b ++ z)) = simp (encodings-append, append_assoc) in
    let same : used (a ++ m ∷ b) ≡ used ns = omega (arith, used-append a (m ∷ b), used-append a (n ∷ b), ap used f.whole, size) in
    subst (IsNext p q) (sym is)
    (next p q ns (a ++ m ∷ b) o (AreNodes-append a (m ∷ b) left (valid right.0, right.1)) (omega (arith, same, o.fits))
    (now ∙ sym regroup ∙ ap (λ (k : ℕ). encodings (a ++ m ∷ b) ++ replicate (length p.store - k) 0) (sym same))
    (e3 ∙ o.count ∙ ap length f.whole ∙ length-append a (n ∷ b) ∙ sym (length-append a (m ∷ b))) (e2 ∙ o.used ∙ sym same))

pub recounted : (p q : Inside) (ns : List Node) (id at c : ℕ) → IsOf p ns → has id ns ≡ true → at ≡ place_of id ns → c < 2 ^ 16 → q.store ≡ put p.store (at + 4) (low_bytes 2 c) → q.used ≡ p.used → q.count ≡ p.count → IsNext p q (with_count id c ns)
recounted p q ns id at c o h place small e1 e2 e3 =
    let f = found id ns h in
    changed p q ns _ id at f (record f.node { count = c }) o place (λ v. record { id = v.id; count = small; children = v.children; payload = v.payload }) refl (f.counted c)
    (λ x rest e k. e1 ∙ count_bytes x f.node rest p.store at c e k) e2 e3

pub reparented : (p q : Inside) (ns : List Node) (id at c : ℕ) → IsOf p ns → has id ns ≡ true → at ≡ place_of id ns → c < 2 ^ 16 → q.store ≡ put p.store (at + 6) (low_bytes 2 c) → q.used ≡ p.used → q.count ≡ p.count → IsNext p q (with_children id c ns)
reparented p q ns id at c o h place small e1 e2 e3 =
    let f = found id ns h in
    changed p q ns _ id at f (record f.node { children = c }) o place (λ v. record { id = v.id; count = v.count; children = small; payload = v.payload }) refl (f.parented c)
    (λ x rest e k. e1 ∙ children_bytes x f.node rest p.store at c e k) e2 e3

-- ---- one node more

-- bytes behind the last node
behind : (ns : List Node) (n : Node) (store : List ℕ) → AreNodes ns → IsNode n → store ≡ encodings ns ++ replicate (length store - used ns) 0 → used ns + size_of n ≤ length store
    → put store (used ns) (encoding n) ≡ encodings (ns ++ n ∷ []) ++ replicate (length store - used (ns ++ n ∷ [])) 0
behind ns n store h v e room =
    let z : List ℕ = replicate (length store - used ns) 0 in
    let len : length (encodings ns) ≡ used ns = length-encodings ns h in
    let size : length (encoding n) ≡ size_of n = length-encoding n v in
    let first : take (used ns) store ≡ encodings ns = ap (take (used ns)) e ∙ take_at (encodings ns) z (used ns) len in
    let over : drop (used ns + length (encoding n)) store ≡ replicate (length store - used (ns ++ n ∷ [])) 0 =
    sym (drop-drop (length (encoding n)) (used ns) store)
    ∙ ap (drop (length (encoding n))) (ap (drop (used ns)) e ∙ drop_at (encodings ns) z (used ns) len)
    ∙ drop-replicate (length (encoding n)) (length store - used ns) 0
    ∙ ap (λ (k : ℕ). replicate k 0) (omega (arith, used-append ns (n ∷ []), size)) in
    let all : encodings (ns ++ n ∷ []) ≡ encodings ns ++ encoding n = encodings-append ns (n ∷ []) ∙ ap (λ (x : List ℕ). encodings ns ++ x) (append-nil (encoding n)) in
    rw (first, over, all) (sym (append_assoc (encodings ns) (encoding n) (replicate (length store - used (ns ++ n ∷ [])) 0)))

pub pushed : (p q : Inside) (ns : List Node) (id : ℕ) (x : Payload) → IsOf p ns → IsPayload x → id < 2 ^ 16 → size_of_payload x ≤ length p.store - used ns
    → q.store ≡ put p.store p.used (encoding (fresh id x)) → q.used ≡ p.used + size_of_payload x → q.count ≡ p.count + 1 → IsNext p q (ns ++ fresh id x ∷ [])
pushed p q ns id x o payload small room bytes used-is count-is =
    let n = fresh id x in
    let v : IsNode n = record { id = small; count = omega arith; children = omega arith; payload = payload } in
    let long : used (ns ++ n ∷ []) ≡ used ns + size_of_payload x = omega (arith, used-append ns (n ∷ [])) in
    next p q ns (ns ++ n ∷ []) o (AreNodes-append ns (n ∷ []) o.nodes (v, tt)) (omega (arith, long, o.fits))
    (bytes ∙ ap (λ (k : ℕ). put p.store k (encoding n)) o.used ∙ behind ns n p.store o.nodes v o.bytes (omega (arith, o.fits)))
    (omega (arith, length-append ns (n ∷ []), o.count)) (omega (arith, long, o.used))

-- ---- one node more, before others

pub parent_bytes : (id children : ℕ) (k : Kind) (h : Header) → h ≡ header_of (parent id k children) → header_bytes h ≡ encoding (parent id k children)
unfolding encoding
parent_bytes id children k h e = ap header_bytes e ∙ sym (append-nil (header_bytes (header_of (parent id k children))))

pub parent_node : (id children : ℕ) (k : Kind) → id < 2 ^ 16 → children < 2 ^ 16 → is_bare k ≡ true → IsNode (parent id k children) × (size_of (parent id k children) ≡ 8)
parent_node id children k h i b = (record { id = h; count = omega arith; children = i; payload = b }, bare_size k false b)

pub inserted : (p q : Inside) (s1 : List ℕ) (ns : List Node) (n : Node) (i : ℕ) → IsOf p ns → IsBoundary i ns → IsNode n × (size_of n ≡ 8) → 8 ≤ length p.store - used ns
    → s1 ≡ slid p.store i (i + 8) (p.used - i) → q.store ≡ put s1 i (encoding n) → q.used ≡ p.used + 8 → q.count ≡ p.count + 1 → IsNext p q (put_before i n ns)
inserted p q s1 ns n i o at v room e1 e2 e3 e4 =
    let a = until i ns in
    let b = since i ns in
    let ms = a ++ n ∷ b in
    let k = length p.store - used ns in
    let g : List ℕ = replicate 8 0 in
    let z : List ℕ = replicate (k - 8) 0 in
    let split : ns ≡ a ++ b = sym (until-since i ns) in
    let nodes : AreNodes (a ++ b) = subst AreNodes split o.nodes in
    let na = AreNodes-left a b nodes in
    let nb = AreNodes-right a b nodes in
    let whole : used ns ≡ i + used b = ap used split ∙ used-append a b ∙ ap (λ (x : ℕ). x + used b) at in
    let zeros : replicate k 0 ≡ g ++ z = sym (replicate-append-replicate 8 (k - 8) 0 ∙ ap (λ (x : ℕ). replicate x 0) (omega arith)) in
    let bytes : p.store ≡ encodings a ++ (encodings b ++ (g ++ z)) = o.bytes ∙ ap (λ (x : List ℕ). encodings ns ++ x) zeros ∙ ap (λ (x : List Node). encodings x ++ (g ++ z)) split
    ∙ simp (encodings-append, append_assoc) in
    let slide : s1 ≡ slid p.store i (i + 8) (used b) = e1 ∙ ap (slid p.store i (i + 8)) (omega (arith, o.used, whole)) in
    let opened = opened_up (encodings a) (encodings b) g (encoding n) z p.store s1 i (used b) bytes (length-encodings a na ∙ at) (length-encodings b nb) (length-replicate {A = ℕ} 8 0)
    (length-encoding n v.0 ∙ v.1) slide in
    let regroup : encodings ms ++ z ≡ encodings a ++ (encoding n ++ (encodings b ++ z)) = simp (encodings-append, append_assoc) in
    let long : used ms ≡ used ns + 8 = omega (arith, used-append a (n ∷ b), whole, at, v.1) in
    next p q ns ms o (AreNodes-append a (n ∷ b) na (v.0, nb)) (omega (arith, long, room)) (e2 ∙ opened ∙ sym regroup ∙ ap (λ (x : ℕ). encodings ms ++ replicate x 0) (omega (arith, long)))
    (omega (arith, e4, o.count, ap length split, length-append a b, length-append a (n ∷ b))) (omega (arith, e3, o.used, long))
