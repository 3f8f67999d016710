-- A block's bytes, at a walk of the functions that reach them. Assumes `Logic`.
--     only, Bk, Words, block_val      the arguments, a block's row, its fields' row, and its machine value
--     block_had, block_made, shows_start, shows_len      its fields, as it is owned and behind a `&`
--     block_size      a block for n bytes takes n bytes
--     next_room, grown      the first byte of the room is taken out, and joins the bytes once it is written
--     Rest, back      what stays while the bytes are lent, and the block once they are back
--     shows_laws, Lends-block      a `&` to a block shows its bytes
use Rattle.raw_region.proofs.Shared.{◌≡◌, ℕ, suc, ◌+◌, ◌-◌, ◌*◌, ◌^◌, ◌<◌, List, [], ◌∷◌, ◌++◌, length, refl, sym, ap, ◌∙◌, arith, full_share, ftrue, froom, ty_array, u8, cell_at, mem, cells}
use Rattle.raw_region.proofs.Shared.{rewritten, Ptr, block_ptr, bytes, elements_shared, byte, block_owns, block_shows, Val, vstruct, vcons, vnil, emp, sem, ◌⊛◌, ◌$◌, ◌∵◌, qed, move, by, use1, split}
use Rattle.raw_region.proofs.Shared.{drop, rewrite, fsplit, fjoin, feq_l, flt_i, RattleType, param, RawPtr, nothing, usize, hidden_shr, hide, unhide, flt_l, use0, keep, copy_shared, field_copy}
use Rattle.raw_region.proofs.Shared.{Struct, Ghosts, Ura, Lft, Fml, ffalse, fsep, fat, ent, sep, Ty, Args, Dict, a_type, dcons, dnil, w8, w64, vint, of_list, Logic, Item, Goal, Seq, ‵, !, fpick}
use Rattle.raw_region.proofs.Shared.{fpack, done, part_at, shared_of, whole_out, null_ptr, ptr_val, ptr_row_laws, ShrLaws, said, beside_shr_laws, said_shr_laws, elements_shr_laws, Shares}
use Rattle.raw_region.proofs.Shared.{uint_row_laws, uint_in, Lends, Lends-both, Lends-first, Lends-nothing, Lends-said, Lends-false, bounded, bytes_glue, makes_shadow, shr_dup, RowLaws}
use Rattle.raw_region.proofs.Shared.{Struct-row_laws, shape, fits, capped_is, size, capped, size-raw}
use Rattle.std.proofs.Common.{length-append}
use mir.{Raw.raw as bare}
use denote.Memory.{part_of}
use lib.{ListN.drop as drop_l, Seq.{take_at}}
use Rattle.core.specs.contracts.marker.PhantomData as marker
use Rattle.raw_region.specs.contracts.block.Block as block

abbrev pub only : RattleType → Dict → Dict → Args
only A d dd = bounded (a_type ∷ []) (A, tt) (dcons d (dcons dd dnil))

module _ (A : RattleType) (g : Ghosts A.Denot) where
  abbrev pub Bk : RattleType
  Bk = block.the_row (param 0 A) g

  -- its fields
  abbrev pub Words : RattleType
  Words = Struct (shape (block.the_type (param 0 A) g))

abbrev pub block_val : Ptr → ℕ → Val
block_val p n = vstruct (vcons (ptr_val p) (vcons (vint w64 n) (vcons (vstruct vnil) vnil)))

module _ (A : RattleType) (g : Ghosts A.Denot) (p : Ptr) (n : ℕ) {M : Type 1} {𝓤 : Ura M} where
  pub block_made : (𝓛 : Logic 𝓤) → n < 2 ^ 64 → ent 𝓤 (emp 𝓤) (sem 𝓛 ((Words A g).own_val (p, (n, (tt, tt))) (block_val p n ∷ [])))
  block_made 𝓛 fits = makes_shadow 𝓛 ((Words A g).own_val (p, (n, (tt, tt))) (block_val p n ∷ [])) (λ vss. (tt, (tt, ((tt, tt), ((λ uss. (tt, tt)), tt))))) ((ptr_val p ∷ [], (vint w64 n ∷ [], (vstruct vnil ∷ [], tt))), (refl, (refl, ((refl, fits), ((tt, (refl, tt)), tt)))))

  pub block_had : {𝓛 : Logic 𝓤} {K : Type 0} {Γ : List (Item 𝓤)} {G : Goal 𝓤 𝓛.H} → K → (vs : List Val) → (vs ≡ block_val p n ∷ [] → n < 2 ^ 64 → Seq K 𝓛 Γ G) → Seq K 𝓛 (‵ ((Words A g).own_val (p, (n, (tt, tt))) vs) ∷ Γ) G
  block_had t vs next = fpick t (λ vss. fsplit t $ feq_l t (λ all. fsplit t $ feq_l t (λ first. fsplit t $ fsplit t $ feq_l t (λ second. flt_l t (λ fits. fsplit t $ fpick t (λ uss. fsplit t $ feq_l t (λ third. drop t $ drop t $
      next (all ∙ (λ i. vstruct (of_list (first i ++ (second i ++ (third i ++ [])))) ∷ [])) fits)))))))

module _ (A : RattleType) (g : Ghosts A.Denot) {M : Type 1} {𝓤 : Ura M} (𝓛 : Logic 𝓤) (κ : Lft) (b o : ℕ) (p : Ptr) (n : ℕ) where
  abbrev Shown : Fml
  Shown = hidden_shr (Words A g) κ (p, (n, (tt, tt))) b o

  laws : RowLaws (Words A g)
  laws = Struct-row_laws (shape (block.the_type (param 0 A) g)) (ptr_row_laws, (uint_row_laws w64, ((copy_shared (marker.the_field RawPtr) (field_copy (marker.the_type RawPtr) tt)).shr_laws, tt)))

  pub shows_start : ent 𝓤 (sem 𝓛 Shown) (sep 𝓤 (sem 𝓛 (hidden_shr RawPtr κ p b (o + 0))) (sem 𝓛 Shown))
  shows_start = qed 𝓛 (‵ Shown ∷ []) ∵ shr_dup ! (Words A g) laws (p, (n, (tt, tt))) b o κ $ unhide ! $ fsplit ! $ fsplit ! $ hide ! $ keep ! (0 ∷ 3 ∷ []) $ done !

  pub shows_len : ent 𝓤 (sem 𝓛 Shown) (sep 𝓤 (sem 𝓛 (hidden_shr usize κ n b (o + 8))) (sem 𝓛 Shown))
  shows_len = qed 𝓛 (‵ Shown ∷ []) ∵ shr_dup ! (Words A g) laws (p, (n, (tt, tt))) b o κ $ unhide ! $ fsplit ! $ fsplit ! $ drop ! $ fsplit ! $ hide ! $ keep ! (0 ∷ 3 ∷ []) $ done !

pub block_size : (n : ℕ) → n < 2 ^ 64 → capped (size (bare (ty_array byte n))) ≡ n
block_size n fits = ap capped (size-raw (ty_array byte n)) ∙ capped_is (n * 1) (omega arith) ∙ omega arith

module _ {M : Type 1} {𝓤 : Ura M} (𝓛 : Logic 𝓤) (b o len : ℕ) (xs : List ℕ) (x at : ℕ) (next : at ≡ length xs) where
  pub next_room : at < len → ent 𝓤 (𝓛.H.room (ty_array byte (len - length xs)) b (o + length xs))
      (sep 𝓤 (𝓛.H.room byte b (at + o)) (𝓛.H.room (ty_array byte (len - length (xs ++ x ∷ []))) b (o + length (xs ++ x ∷ []))))
  next_room inside =
      let more = length-append xs (x ∷ []) in let left = len - length (xs ++ x ∷ []) in
      qed 𝓛 (‵ (froom (ty_array byte (len - length xs)) b (o + length xs)) ∷ []) ∵
      rewrite ! 0 (λ (n : ℕ). ‵ (froom (ty_array byte n) b (o + length xs))) {x = suc left} (omega (arith, more, next, inside)) refl $
      use1 𝓛 (‵ (froom byte b (o + length xs)) ⊛ ‵ (froom (ty_array byte left) b (o + length xs + 1))) (𝓛.laws.room_uncons byte left b (o + length xs)) $ split ! $
      rewrite ! 0 (λ (n : ℕ). ‵ (froom byte b n)) {x = at + o} (omega (arith, next)) refl $
      rewrite ! 1 (λ (n : ℕ). ‵ (froom (ty_array byte left) b n)) {x = o + length (xs ++ x ∷ [])} (omega (arith, more)) refl $ done !

  pub grown : ent 𝓤 (sep 𝓤 (sem 𝓛 (bytes full_share xs b o)) (𝓛.H.at full_share byte b (at + o) (vint w8 x))) (sem 𝓛 (bytes full_share (xs ++ x ∷ []) b o))
  grown =
      qed 𝓛 (‵ (bytes full_share xs b o) ∷ ‵ (fat full_share byte b (at + o) (vint w8 x)) ∷ []) ∵ move ! (1 ∷ []) $
      use1 𝓛 (‵ (part_at u8 full_share x b (at + o))) (uint_in 𝓛 full_share w8 x b (at + o)) $
      rewrite ! 0 (λ (n : ℕ). ‵ (part_at u8 full_share x b n)) {x = o + length xs} (omega (arith, next)) refl $
      nothing ! $ move ! (1 ∷ 0 ∷ []) $ fjoin ! $ move ! (1 ∷ 0 ∷ []) $ by ! (bytes_glue 𝓛 full_share xs (x ∷ []) b o)

module _ (A : RattleType) (g : Ghosts A.Denot) {M : Type 1} {𝓤 : Ura M} (𝓛 : Logic 𝓤) (rb ro : ℕ) (d : (Bk A g).Denot) (b o : ℕ) where
  abbrev behind : ℕ → Fml
  behind n = fsep (froom (ty_array byte (d.len - n)) b (o + n)) (g.dealloc_token d.alloc (bare (ty_array byte d.len)) (block_ptr b o))

  -- all of a block but the bytes that are written
  abbrev pub Rest : Fml
  Rest = fsep (behind (length d.bytes)) (cell_at full_share (Bk A g).mir (block_val d.start d.len ∷ []) rb ro)

  pub back : d.start ≡ block_ptr b o → length d.bytes < d.len + 1 → d.len < 2 ^ 63 → (ws : List ℕ) → length ws ≡ length d.bytes
      → ent 𝓤 (sep 𝓤 (sem 𝓛 (cells (mem u8) ws b o)) (sem 𝓛 Rest)) (sem 𝓛 ((mem (Bk A g)).own_at (rewritten d ws) rb ro))
  unfolding part_of
  back e most below ws same =
      let new = rewritten d ws in
      let all : new.bytes ≡ ws = take_at ws (drop_l (length ws) d.bytes) (length d.bytes) same in
      let long : length new.bytes ≡ length d.bytes = ap length all ∙ same in
      qed 𝓛 (‵ (cells (mem u8) ws b o) ∷ ‵ Rest ∷ []) ∵ use1 𝓛 (‵ (bytes full_share ws b o)) (whole_out 𝓛 u8 ws b o) $ rewrite ! 0 (λ (l : List ℕ). ‵ (bytes full_share l b o)) (sym all) refl $
      move ! (1 ∷ []) $ fsplit ! $ rewrite ! 0 (λ (n : ℕ). ‵ (behind n)) (sym long) refl $ move ! (2 ∷ 0 ∷ []) $ fjoin ! $
      flt_i ! d.len (2 ^ 63) below $ flt_i ! (length new.bytes) (d.len + 1) (omega (arith, long, most)) $ fjoin ! $ fjoin ! $
      rewrite ! 0 (λ (p : Ptr). ‵ (block_owns (g.dealloc_token d.alloc) p d.len new.bytes)) (sym e) refl $
      use0 𝓛 (‵ ((Words A g).own_val (d.start, (d.len, (tt, tt))) (block_val d.start d.len ∷ []))) (block_made A g d.start d.len 𝓛 (omega (arith, below))) $ fjoin ! $ move ! (1 ∷ 0 ∷ []) $ fjoin ! $
      fpack ! (List Val) (λ us. fsep (cell_at full_share (Bk A g).mir us rb ro) ((Bk A g).own_val new us)) (block_val d.start d.len ∷ []) $ done !

pub shows_laws : (p : Ptr) (len : ℕ) (xs : List ℕ) → ShrLaws (block_shows p len xs)
shows_laws (block_ptr b o) len xs = beside_shr_laws (said (fits len xs)) (elements_shared u8 xs b o) (said_shr_laws (fits len xs) (tt, tt)) (elements_shr_laws u8 (uint_row_laws w8) xs b o)
shows_laws null_ptr len xs = said_shr_laws ffalse tt

module _ {M : Type 1} {𝓤 : Ura M} (𝓛 : Logic 𝓤) (l : Lft) (one : Shares 𝓛 u8 l) where
  Lends-bytes : (xs : List ℕ) (b o : ℕ) → Lends 𝓛 (bytes full_share xs b o) (elements_shared u8 xs b o) l
  Lends-bytes [] b o = Lends-nothing 𝓛 ftrue l
  Lends-bytes (x ∷ xs) b o = Lends-both 𝓛 (part_at u8 full_share x b o) (bytes full_share xs b (o + 1)) (shared_of u8 x b o) (elements_shared u8 xs b (o + 1)) l (λ κ ts. one x κ ts b o) (Lends-bytes xs b (o + 1))

  pub Lends-block : (token : Ty → Ptr → Fml) (p : Ptr) (len : ℕ) (xs : List ℕ) → Lends 𝓛 (block_owns token p len xs) (block_shows p len xs) l
  Lends-block token (block_ptr b o) len xs =
      let rest = fsep (froom (ty_array byte (len - length xs)) b (o + length xs)) (token (bare (ty_array byte len)) (block_ptr b o)) in
      Lends-both 𝓛 (fits len xs) (fsep (bytes full_share xs b o) rest) (said (fits len xs)) (elements_shared u8 xs b o) l (Lends-said 𝓛 (fits len xs) (tt, tt) l) (Lends-first 𝓛 (bytes full_share xs b o) rest (elements_shared u8 xs b o) l (Lends-bytes xs b o))
  Lends-block token null_ptr len xs = Lends-false 𝓛 (said ffalse) l
