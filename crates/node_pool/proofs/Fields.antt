-- A buffer whose bytes are those of a list of nodes.
use Rattle.node_pool.proofs.Shared.{List, ap, arith, drop, get_or, length, refl, replicate, sym, take, ℕ, Bool, ◌*◌, ◌++◌, ◌+◌, ◌-◌, ◌<◌, ◌∙◌, ◌∷◌, ◌≡◌, ◌≤◌, bytes_in, code_of, code_small, drop-drop}
use Rattle.node_pool.proofs.Shared.{encoding, form_of, form_small, has_short_form, header_bytes, kind_of_payload, low_bytes, kind_of, Node, from_bytes, header_in, short_at, header_of, kind_at}
use Rattle.node_pool.proofs.Shared.{kind_or_undef, size_of, size_of_header, Kind, Header, header_in-encoding, Contents, IsContents, nodes_of, IsLaid, contents_of, AreNodes, encodings, first_of, used}
use Rattle.node_pool.proofs.{Shared.{IsBoundary, since, ◌==◌, Option}, Cuts.{boundary_le}, Numbers.{byte_read}, Walk.{here}, Sizes.{length-nodes_of, length_le_used, nodes_of-encodings, size_from}}
use Rattle.node_pool.specs.declared.buffer.Buffer.TheInside.{Inside}

-- what a list of nodes owes to be the buffer's
pub record IsOf (b : Inside) (ns : List Node) : Type 0 where
  pub bytes : b.store ≡ encodings ns ++ replicate (length b.store - used ns) 0
  pub nodes : AreNodes ns
  pub fits : used ns ≤ length b.store
  pub small : length b.store ≤ 524280
  pub count : b.count ≡ length ns
  pub used : b.used ≡ used ns

-- what a method that leaves a list of nodes ensures
pub record IsDone (c : Contents) (b : Inside) (ns : List Node) : Type 0 where
  pub laid : IsLaid b
  pub nodes : contents_of b ≡ record c { nodes = ns }
  pub kept : IsContents (contents_of b)

nodes_are : (b : Inside) (ns : List Node) → IsOf b ns → nodes_of b.count b.store ≡ ns
nodes_are b ns h = ap (λ (k : ℕ). nodes_of k b.store) h.count ∙ ap (nodes_of (length ns)) h.bytes ∙ nodes_of-encodings ns (replicate (length b.store - used ns) 0) h.nodes

pub laid : (b : Inside) (ns : List Node) → IsOf b ns → IsLaid b
laid b ns h = grind (arith, nodes_are)

pub contents_are : (b : Inside) (ns : List Node) → IsOf b ns → contents_of b ≡ record { nodes = ns; size = length b.store }
contents_are b ns h = rw (nodes_are b ns h) refl

pub opened : (b : Inside) (c : Contents) → IsLaid b → contents_of b ≡ c → IsOf b c.nodes
opened b c h e = grind (arith, length-nodes_of)

-- a place is within the bytes
pub record IsWithin (at : ℕ) (b : Inside) : Type 0 where
  pub low : at ≤ b.used
  pub fits : b.used ≤ length b.store
  pub small : length b.store ≤ 524280
  pub count : 8 * b.count ≤ b.used

pub within : (b : Inside) (c : Contents) (at : ℕ) → IsLaid b → contents_of b ≡ c → IsBoundary at c.nodes → IsWithin at b
within b c at k e p =
    let o = opened b c k e in
    record { low = omega (arith, boundary_le at c.nodes p, o.used); fits = omega (arith, o.used, o.fits); small = o.small; count = omega (arith, length_le_used c.nodes, o.count, o.used) }

pub size_is : (b : Inside) (c : Contents) → contents_of b ≡ c → length b.store ≡ c.size
size_is b c e = ap (λ (x : Contents). x.size) e

-- the node whose header is read at a place
pub record IsSeen (h : Header) (at : ℕ) (ns : List Node) : Type 0 where
  pub value : h ≡ header_of (first_of (since at ns))
  pub next : IsBoundary (at + size_of_header h) ns
  pub rest : since at ns ≡ first_of (since at ns) ∷ since (at + size_of_header h) ns
  pub within : at + size_of_header h ≤ used ns

pub seen : (b : Inside) (c : Contents) (h : Header) (at : ℕ) → IsLaid b → contents_of b ≡ c → IsBoundary at c.nodes → at < used c.nodes → h ≡ header_in (drop at b.store) → IsSeen h at c.nodes
seen b c h at k e place lt q =
    let o = opened b c k e in
    let ns = c.nodes in
    let x = here at ns b.store (replicate (length b.store - used ns) 0) o.bytes o.nodes place lt in
    let head : h ≡ header_of x.0 = q ∙ ap header_in x.1.bytes ∙ header_in-encoding x.0 x.1.behind x.1.valid in
    let size : size_of_header h ≡ size_of x.0 = ap size_of_header head in
    let first : first_of (since at ns) ≡ x.0 = ap first_of x.1.rest in
    record {
      value = head ∙ ap header_of (sym first);
      next = rw size x.1.next;
      rest = rw size (x.1.rest ∙ ap (λ (n : Node). n ∷ since (at + size_of x.0) ns) (sym first));
      within = rw size x.1.room;
    }

-- the bytes that are told are those that are kept
pub stored : (b : Inside) (c : Contents) (bytes : List ℕ) → IsLaid b → contents_of b ≡ c → bytes ≡ bytes_in c → bytes ≡ b.store
stored b c bytes k e h = h ∙ ap bytes_in (sym e) ∙ sym k.bytes

-- there is room for a header at each place before the end
pub has_room : (b : Inside) (c : Contents) (at : ℕ) → IsLaid b → contents_of b ≡ c → IsBoundary at c.nodes → at < used c.nodes → at + 8 ≤ length b.store
has_room b c at k e place lt =
    let o = opened b c k e in
    let x = here at c.nodes b.store (replicate (length b.store - used c.nodes) 0) o.bytes o.nodes place lt in
    omega (arith, x.1.room, size_from x.0, o.fits)

-- the first two bytes of the node at a place
code_byte : (n : Node) (rest : List ℕ) → from_bytes (take 1 (encoding n ++ rest)) ≡ code_of (kind_of_payload n.payload)
unfolding encoding header_bytes low_bytes
code_byte n rest = omega (arith, code_small (kind_of_payload n.payload))

form_byte : (n : Node) (rest : List ℕ) → from_bytes (take 1 (drop 1 (encoding n ++ rest))) ≡ form_of (has_short_form n.payload)
unfolding encoding header_bytes low_bytes
form_byte n rest = omega (arith, form_small (has_short_form n.payload))

pub record IsCoded (c f at : ℕ) (ns : List Node) : Type 0 where
  pub code : c ≡ code_of (kind_of_payload (first_of (since at ns)).payload)
  pub form : f ≡ form_of (has_short_form (first_of (since at ns)).payload)

pub coded : (b : Inside) (c : Contents) (at : ℕ) → IsLaid b → contents_of b ≡ c → IsBoundary at c.nodes → at < used c.nodes → IsCoded (get_or b.store at 0) (get_or b.store (at + 1) 0) at c.nodes
coded b c at k e place lt =
    let o = opened b c k e in
    let ns = c.nodes in
    let x = here at ns b.store (replicate (length b.store - used ns) 0) o.bytes o.nodes place lt in
    let room = has_room b c at k e place lt in
    let first : first_of (since at ns) ≡ x.0 = ap first_of x.1.rest in
    record {
      code = sym (byte_read b.store at (omega arith)) ∙ ap (λ (xs : List ℕ). from_bytes (take 1 xs)) x.1.bytes ∙ code_byte x.0 x.1.behind ∙ ap (λ (n : Node). code_of (kind_of_payload n.payload)) (sym first);
      form = sym (byte_read b.store (at + 1) (omega arith)) ∙ ap (λ (xs : List ℕ). from_bytes (take 1 xs)) (sym (drop-drop 1 at b.store)) ∙ ap (λ (xs : List ℕ). from_bytes (take 1 (drop 1 xs))) x.1.bytes ∙ form_byte x.0 x.1.behind ∙ ap (λ (n : Node). form_of (has_short_form n.payload)) (sym first);
    }

-- the kind whose code is read at a place
pub kind_is : (xs : List ℕ) (at code : ℕ) (k : Option Kind) → at < length xs → code ≡ get_or xs at 0 → k ≡ kind_of code → kind_or_undef k ≡ kind_at (drop at xs)
unfolding kind_at
kind_is xs at code k h e is = ap kind_or_undef (is ∙ ap kind_of (e ∙ sym (byte_read xs at h)))

-- the form that is read at a place
pub short_is : (xs : List ℕ) (at form : ℕ) (b : Bool) → at + 2 ≤ length xs → form ≡ get_or xs (at + 1) 0 → b ≡ (form == 1) → b ≡ short_at (drop at xs)
unfolding short_at
short_is xs at form b h e is = is ∙ ap (λ (x : ℕ). x == 1) (e ∙ sym (byte_read xs (at + 1) (omega arith)) ∙ ap (λ (x : List ℕ). from_bytes (take 1 x)) (sym (drop-drop 1 at xs)))

-- a header is read from eight bytes
pub front_is : (xs : List ℕ) → header_in (take 8 xs) ≡ header_in xs
unfolding header_in kind_at short_at
front_is xs = grind arith
