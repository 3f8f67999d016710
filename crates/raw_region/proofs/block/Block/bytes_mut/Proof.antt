-- `bytes_mut` lends what is written, and the block follows it. Assumes `Logic`.
use Rattle.raw_region.proofs.Shared.{◌≡◌, ◌*◌, ◌^◌, ◌<◌, ℕ, List, [], ◌∷◌, ◌++◌, length, refl, sym, ap, ◌∙◌, arith, Fn, inst_fn, Val, full_share, ftrue, flft, SProp, emp, never, id⊢, Env, WpFn, sem}
use Rattle.raw_region.proofs.Shared.{◌⊑◌, fact, fact_i, tables, raw, ◌⊛◌, later, prop, at_ret, ◌$◌, ◌∵◌, qed, by, move, drop, keep, use0, use1, split, split3, join, group, rewrite, regoal, fsplit}
use Rattle.raw_region.proofs.Shared.{fsplit3, fjoin, feq_l, flt_l, await, look_in, whole, sub, agg, stop, fld, load, of_opd, and_then, no_more, first, blocks, exec, returns, enter, alloc_all}
use Rattle.raw_region.proofs.Shared.{pass_all, free_all, look_at, get, through, sets, sets_last, env, cells, u8, no, mem, cell_at, owns, Ptr, in_a_block, plain, types_at, nothing, heard, opens, alive}
use Rattle.raw_region.proofs.Shared.{after, proved_at, leaves, block_owns, Stays, stay_dropped, walk_of, slice_val, rewritten, GName, ‵, some, !, pick, mut_ref_to, Goes-spent_ref, Array, follows}
use Rattle.raw_region.proofs.{Shared.{Elements, lends_Elements, whole_in, MutBor, MutSlice, named}, Blocks.{only, Bk, block_val, block_had, Rest, back}, block.Block.bytes_mut.Statement.{statement}}
use Rattle.raw_region.specs.{contracts.block.Block.bytes_mut.Key.name as #self, contracts.block.Block.bytes_mut.{ended, clauses}}
use Rattle.raw_region.proofs.block.Block.bytes_mut.Code as code

pub bytes_mut_spec : {M : Type 1} → statement M
bytes_mut_spec 𝓤 𝓛 𝓜 𝓡 wired A L g d dd met md =
    let H = 𝓛.H in let T = ended A g d dd in let c = clauses A g d dd 𝓛 𝓜.mem 𝓡.returns in
    let fn : Fn = inst_fn (only A d dd) code.function in
    let C = (tables 𝓤 H 𝓜 𝓡 𝓡.env).C in let Λ = (tables 𝓤 H 𝓜 𝓡 𝓡.env).Λ in
    let stays : Stays T.signature.params T.kept = (stay_dropped (mut_ref_to {n = 2} (0 ∷ []) tt (plain (λ _. Bk A g))) no, tt) in
    proved_at 𝓛 T stays c 𝓜 𝓡 (Goes-spent_ref 𝓛 2 (0 ∷ []) tt (plain (λ _. Bk A g)), tt) (#self (only A d dd)) fn
    (code.unfolded 𝓤 H 𝓜 𝓡 wired (A, tt) d dd) (λ z are.
    let Post : Val → SProp 𝓤 = (walk_of 𝓛 T stays c).post z in
    let κ = z.0.0.0 in let q = z.0.1.0 in let r = z.0.3.0 in let rb = r.ref_ptr.0 in let ro = r.ref_ptr.1 in let γ = r.ghost_name in let block = r.now in let xs = block.bytes in let len = block.len in let start = block.start in
    let Asked : Type 0 = length xs ≡ len in
    qed 𝓛 ((raw (alive 𝓛 T.signature z.0.0 z.0.1) ⊛ ‵ (owns (types_at T.signature.params z.0.0) z.0.3 z.0.4)) ∷ (raw (fact 𝓤 (z.0.0.1.0 ⊑ A.lives)) ⊛ raw (fact 𝓤 Asked)) ∷ []) ∵
    move ! (1 ∷ []) $ split ! $ heard ! (z.0.0.1.0 ⊑ A.lives) (λ le. heard ! Asked (λ asked. split ! $ use1 𝓛 (‵ (flft κ q) ⊛ ‵ (flft z.0.0.1.0 z.0.1.1.0) ⊛ ‵ ftrue) (id⊢ 𝓤 _) $ split3 ! $ move ! (3 ∷ []) $
    fsplit ! $ fsplit3 ! $ feq_l ! (λ e0. move ! (2 ∷ []) $ drop ! $
    -- [what γ is seen at; the borrow; the tokens]
    regoal ! (λ (us : List Val). prop (WpFn 𝓤 H C Λ fn us Post)) (λ i. e0 i ++ []) refl $
    enter ! C Λ fn _ Post $ alloc_all ! (λ l. pass_all ! refl ((tt, tt), tt) $ let En : Env 𝓤 H = env fn.locals l in
    opens ! tt (Bk A g) {h = block} rb ro (λ vs. move ! (1 ∷ []) $ fsplit ! $ block_had A g start len ! vs (λ is fits.
    in_a_block ! start (λ p. block_owns (g.dealloc_token block.alloc) p len xs) (id⊢ 𝓤 (never 𝓤)) (λ b o e. rewrite ! 1 (λ (us : List Val). ‵ (cell_at full_share (Bk A g).mir us rb ro)) (is ∙ ap (λ (p : Ptr). block_val p len ∷ []) e) refl $
    fsplit ! $ fsplit ! $ flt_l ! (λ most. flt_l ! (λ below. fsplit ! $ first ! $ blocks ! $
    -- [the bytes; the room and the token; the block's cell; ..]
    sets ! (of_opd ! (load ! (through ! refl (fld ! refl (stop !))) (look_in ! 2 (sub ! 0 refl (whole !))))) refl (tt, tt) $
    sets ! (of_opd ! (load ! (through ! refl (fld ! refl (stop !))) (look_in ! 2 (sub ! 1 refl (whole !))))) refl (tt, record { fits = fits }) $
    sets_last ! (agg ! (and_then ! (get ! refl) (and_then ! (get ! refl) (no_more !)))) refl (tt, (tt, (record { fits = fits }, tt))) $
    exec ! C Λ En (after 1 fn.body) (at_ret En Post) $ sets ! (of_opd ! (get ! refl)) refl (tt, (tt, (record { fits = fits }, tt))) $
    use1 𝓛 (‵ (cells (mem u8) xs b o)) (whole_in 𝓛 u8 xs b o) $ rewrite ! 2 (λ (p : Ptr). ‵ (cell_at full_share (Bk A g).mir (block_val p len ∷ []) rb ro)) (sym e) refl $
    let new = rewritten block in let way = back A g 𝓛 rb ro block b o e most below in let code = (Bk A g).coded.code block in
    let rest = sem 𝓛 (Rest A g 𝓛 rb ro block b o) in
    let fewer : length xs < 2 ^ 63 = omega (arith, most, below) in let roomy : length xs < 2 ^ 64 = omega (arith, fewer) in let fitting : length xs * 1 < 2 ^ 63 = omega (arith, fewer) in
    move ! (1 ∷ 2 ∷ []) $ fjoin ! $ move ! (2 ∷ 3 ∷ 4 ∷ 1 ∷ 0 ∷ []) $ group ! 5 $
    use1 𝓛 (later (some (λ (δ : GName). raw (Elements 𝓛 (Bk A g) u8 new (named 0) κ q rb ro b o γ xs (roomy, fitting) rest way δ)))) (lends_Elements 𝓛 (Bk A g) u8 new (named 0) κ q rb ro b o γ xs (roomy, fitting) rest way code code) $ await ! tt $ pick ! (λ δ.
    let lent : MutBor (List ℕ) = record { ref_ptr = (b, o); ghost_name = δ; now = xs } in let Row = MutSlice (named 0) κ u8 in
    use1 𝓛 (‵ (Row.own_val lent (slice_val (b, o) (length xs) ∷ [])) ⊛ ‵ (flft κ q) ⊛ ‵ (follows (Bk A g) (Array u8 0) γ δ new)) (id⊢ 𝓤 _) $ split3 ! $
    rewrite ! 0 (λ (n : ℕ). ‵ (Row.own_val lent (slice_val (b, o) n ∷ []))) asked refl $ returns ! (look_at ! 0 refl) $ free_all ! refl $ keep ! (0 ∷ 1 ∷ 2 ∷ 3 ∷ 4 ∷ []) $
    use0 𝓛 (raw (fact 𝓤 (xs ≡ xs))) (fact_i 𝓤 (xs ≡ xs) (emp 𝓤) refl) $ move ! (3 ∷ 0 ∷ []) $ join ! $ nothing ! $ nothing ! $ fjoin ! $
    move ! (4 ∷ 5 ∷ []) $ join ! $ move ! (4 ∷ []) $ join ! $ move ! (0 ∷ 1 ∷ 3 ∷ 2 ∷ []) $
    by ! (leaves 𝓛 T stays c z (slice_val (b, o) len) lent (tt, tt) (tt, tt)))))))))))))
