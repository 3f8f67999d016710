-- What a node holds, read from its bytes.
use Rattle.node_pool.proofs.Shared.{FitsSigned, List, ap, arith, drop, false, length, pos, refl, replicate, subst, sym, take, true, unsigned_abs, ℕ, ℤ, ◌++◌, ◌+◌, ◌-◌, ◌<◌, ◌∙◌, ◌∷◌, ◌≡◌, ◌≤◌, ints}
use Rattle.node_pool.proofs.Shared.{to_z-of_z, to_z_pos, drop-drop, take_at, w128, Node, from_bytes, number_at, short_at, payload_bytes, ratio_at, IsPayload, Payload, has_short_form, is_bare}
use Rattle.node_pool.proofs.Shared.{kind_of_payload, named, rational, size_of_payload, IsRat, size_by_form, Kind, drop-encoding, short_at-encoding, number_at-number_bytes, short_parts, Contents}
use Rattle.node_pool.proofs.Shared.{IsLaid, contents_of, first_of, has, payload_of_id, place_of, used, IsBoundary, since, of_z, to_z, ◌<ℤ◌, HoldsName, before_zero, is_name, padded, before_zero-padded}
use Rattle.node_pool.proofs.{Shared.{length-padded}, Cuts.{since-append}, Fields.{opened}, Found.{found, place_boundary}, Walk.{here, place_room}}
use Rattle.node_pool.specs.declared.buffer.Buffer.TheInside.{Inside}
use Rattle.calc_terms.specs.declared.kind.Kind.TheVariants as kind

-- the bytes of a payload stand behind a header
pub record IsHeld (x : Payload) (at : ℕ) (store : List ℕ) : Type 0 where
  pub behind : List ℕ
  pub bytes : drop (at + 8) store ≡ payload_bytes x ++ behind
  pub room : at + size_of_payload x ≤ length store
  pub valid : IsPayload x
  pub form : (short_at (drop at store)) ≡ has_short_form x

pub held : (b : Inside) (c : Contents) (i at : ℕ) → IsLaid b → contents_of b ≡ c → has i c.nodes ≡ true → at ≡ place_of i c.nodes → IsHeld (payload_of_id i c.nodes) at b.store
held b c i at k e live place =
    let o = opened b c k e in
    let ns = c.nodes in
    let boundary : IsBoundary at ns = place_boundary i ns at live place in
    let lt : at < used ns = omega (arith, place, place_room i ns live) in
    let x = here at ns b.store (replicate (length b.store - used ns) 0) o.bytes o.nodes boundary lt in
    let f = found i ns live in
    let there : since at ns ≡ f.node ∷ f.after = ap (λ (j : ℕ). since j ns) (place ∙ f.place) ∙ ap (since (used f.before)) f.whole ∙ since-append f.before (f.node ∷ f.after) in
    let same : x.0 ≡ f.node = ap first_of (sym x.1.rest ∙ there) in
    let payload : x.0.payload ≡ payload_of_id i ns = ap (λ (n : Node). n.payload) same ∙ sym f.leafed in
    subst (λ (y : Payload). IsHeld y at b.store) payload (record {
      behind = x.1.behind;
      bytes = sym (drop-drop 8 at b.store) ∙ ap (drop 8) x.1.bytes ∙ drop-encoding x.0 x.1.behind;
      room = omega (arith, x.1.room, o.fits);
      valid = x.1.valid.payload;
      form = ap short_at x.1.bytes ∙ short_at-encoding x.0 x.1.behind x.1.valid;
    })

-- ---- a number

pub record HoldsRational (x : Payload) (at : ℕ) (store : List ℕ) : Type 0 where
  pub room : at + size_by_form kind.Num (short_at (drop at store)) ≤ length store
  pub is : x ≡ rational (number_at (short_at (drop at store)) (drop (at + 8) store))
  pub rat : IsRat (number_at (short_at (drop at store)) (drop (at + 8) store))

bare_number : (k : Kind) → is_bare k ≡ true → k ≡ kind.Num → ⊥
bare_number k h e = let no : is_bare k ≡ false = ap is_bare e in cc

pub holds_rational : (x : Payload) (at : ℕ) (store : List ℕ) → IsHeld x at store → kind_of_payload x ≡ kind.Num → HoldsRational x at store
holds_rational x at store h k = grind (arith, number_at-number_bytes, short_parts, bare_number)

positive : (d : ℕ) → 1 ≤ d → pos 0 <ℤ pos d
positive d h = omega (arith, ints)

-- two numbers that were read are numerator and denominator
pub record ReadBack (s : List ℕ) (at : ℕ) (x y : ℤ) : Type 0 where
  pub positive : pos 0 <ℤ to_z w128 (of_z w128 y)
  pub is : (record { num = to_z w128 (of_z w128 x); den = unsigned_abs (to_z w128 (of_z w128 y)) }) ≡ ratio_at (drop (at + 8) s)
  pub rat : IsRat (record { num = to_z w128 (of_z w128 x); den = unsigned_abs (to_z w128 (of_z w128 y)) })

pub read_back : (s : List ℕ) (at n d : ℕ) (x y : ℤ) → IsRat (ratio_at (drop (at + 8) s)) → n ≡ from_bytes (take 16 (drop (at + 8) s)) → d ≡ from_bytes (take 16 (drop (at + 24) s)) → x ≡ to_z w128 n → y ≡ to_z w128 d → FitsSigned w128 x → FitsSigned w128 y → ReadBack s at x y
read_back s at n d x y rat hn hd hx hy fx fy =
    let f = ratio_at (drop (at + 8) s) in
    let back-x : to_z w128 (of_z w128 x) ≡ x = to_z-of_z w128 x fx in
    let back-y : to_z w128 (of_z w128 y) ≡ y = to_z-of_z w128 y fy in
    let num : x ≡ f.num = hx ∙ ap (to_z w128) hn in
    let den : d ≡ f.den = hd ∙ ap (λ (l : List ℕ). from_bytes (take 16 l)) (ap (λ (k : ℕ). drop k s) (omega arith) ∙ sym (drop-drop 16 (at + 8) s)) in
    let y-is : y ≡ pos f.den = hy ∙ ap (to_z w128) den ∙ to_z_pos w128 f.den rat.den_fits in
    let abs : unsigned_abs (to_z w128 (of_z w128 y)) ≡ f.den = ap unsigned_abs (back-y ∙ y-is) in
    let e : (record { num = to_z w128 (of_z w128 x); den = unsigned_abs (to_z w128 (of_z w128 y)) }) ≡ f = rw (back-x, abs, num) refl in
    record { positive = rw (back-y, y-is) (positive f.den rat.positive); is = e; rat = subst IsRat (sym e) rat }

-- ---- a symbol

pub record HoldsSymbol (x : Payload) (at : ℕ) (store : List ℕ) : Type 0 where
  pub room : at + 8 + 8 ≤ length store
  pub is : x ≡ named (before_zero (take 8 (drop (at + 8) store)))
  pub name : HoldsName (take 8 (drop (at + 8) store))

bare_symbol : (k : Kind) → is_bare k ≡ true → k ≡ kind.Sym → ⊥
bare_symbol k h e = let no : is_bare k ≡ false = ap is_bare e in cc

pub holds_symbol : (x : Payload) (at : ℕ) (store : List ℕ) → IsHeld x at store → kind_of_payload x ≡ kind.Sym → HoldsSymbol x at store
holds_symbol (named x) at store h k =
    let text : take 8 (drop (at + 8) store) ≡ padded x = ap (take 8) h.bytes ∙ take_at (padded x) h.behind 8 (length-padded x h.valid) in
    let name : before_zero (take 8 (drop (at + 8) store)) ≡ x = ap before_zero text ∙ before_zero-padded x h.valid in
    record {
      room = omega (arith, h.room);
      is = ap (λ (y : List ℕ). named y) (sym name);
      name = record { name = ap is_name name ∙ h.valid; whole = text ∙ ap padded (sym name) };
    }
holds_symbol x at store h e = grind (arith, bare_symbol)
