-- `append` writes the first byte of the room. Assumes `Logic`.
use Rattle.raw_region.proofs.Shared.{◌≡◌, ◌+◌, ◌-◌, ◌^◌, ◌<◌, List, [], ◌∷◌, ◌++◌, length, refl, sym, ap, ◌∙◌, arith, Fn, inst_fn, Val, vunit, full_share, ftrue, froom, flft, SProp, emp, never, id⊢}
use Rattle.raw_region.proofs.Shared.{Env, WpFn, ◌⊑◌, fact, fact_i, tables, raw, ◌⊛◌, prop, at_ret, ◌$◌, ◌∵◌, qed, by, move, drop, keep, use0, use1, use2, split, split3, join, rewrite, regoal, fsplit}
use Rattle.raw_region.proofs.Shared.{fsplit3, fjoin, feq_i, feq_l, flt_i, flt_l, look_in, whole, sub, stop, fld, load, unit_lit, of_opd, first, blocks, exec, returns, enter, alloc_all, pass_all}
use Rattle.raw_region.proofs.Shared.{free_all, look_at, get, through, sets, env, usize, u8, yes, cell_at, owns, Ptr, in_a_block, bytes, plain, types_at, nothing, heard, opens, alive, after, proved_at}
use Rattle.raw_region.proofs.Shared.{leaves, byte, block_owns, Stays, stay_dropped, walk_of, Goes-dropped, ty_array, vptr, ‵, !, fjoin3, init, bin, assigns_last, closes, stay_ref, Goes-ref}
use Rattle.raw_region.proofs.{Blocks.{only, Bk, Words, block_val, block_had, block_made, next_room, grown}, block.Block.append.Statement.{statement}}
use Rattle.std.proofs.Common.{length-append}
use Rattle.raw_region.specs.{contracts.block.Block.append.Key.name as #self, contracts.block.Block.append.{ended, clauses}}
use Rattle.raw_region.proofs.block.Block.append.Code as code

pub append_spec : {M : Type 1} → statement M
append_spec 𝓤 𝓛 𝓜 𝓡 wired A L g d dd met md =
    let H = 𝓛.H in let T = ended A g d dd in let c = clauses A g d dd 𝓛 𝓜.mem 𝓡.returns in
    let fn : Fn = inst_fn (only A d dd) code.function in
    let C = (tables 𝓤 H 𝓜 𝓡 𝓡.env).C in let Λ = (tables 𝓤 H 𝓜 𝓡 𝓡.env).Λ in
    let stays : Stays T.signature.params T.kept = (stay_ref (0 ∷ []) tt (plain (λ _. Bk A g)), (stay_dropped (plain (λ _. usize)) yes, (stay_dropped (plain (λ _. u8)) yes, tt))) in
    proved_at 𝓛 T stays c 𝓜 𝓡 (Goes-ref 𝓛 2 0 tt (plain (λ _. Bk A g)), (Goes-dropped 𝓛 2 (plain (λ _. usize)) yes (λ κs x f. refl), (Goes-dropped 𝓛 2 (plain (λ _. u8)) yes (λ κs x f. refl), tt))) (#self (only A d dd)) fn
    (code.unfolded 𝓤 H 𝓜 𝓡 wired (A, tt) d dd) (λ z are.
    let Post : Val → SProp 𝓤 = (walk_of 𝓛 T stays c).post z in
    let κ = z.0.0.0 in let q = z.0.1.0 in let r = z.0.3.0 in let rb = r.ref_ptr.0 in let ro = r.ref_ptr.1 in let block = r.now in let at = z.0.3.1.0 in let x = z.0.3.1.1.0 in
    let xs = block.bytes in let ys = xs ++ x ∷ [] in let len = block.len in let start = block.start in
    let new : (Bk A g).Denot = record { start = start; len = len; mark = block.mark; bytes = ys; alloc = block.alloc } in
    let Asked : Type 0 = (at ≡ length xs) × (at < len) in
    let Said : Type 0 = (len ≡ len) × (ys ≡ ys) × (block.alloc ≡ block.alloc) in
    let token = g.dealloc_token block.alloc in
    qed 𝓛 ((raw (alive 𝓛 T.signature z.0.0 z.0.1) ⊛ ‵ (owns (types_at T.signature.params z.0.0) z.0.3 z.0.4)) ∷ (raw (fact 𝓤 (z.0.0.1.0 ⊑ A.lives)) ⊛ raw (fact 𝓤 Asked)) ∷ []) ∵
    move ! (1 ∷ []) $ split ! $ heard ! (z.0.0.1.0 ⊑ A.lives) (λ le. heard ! Asked (λ asked. split ! $ use1 𝓛 (‵ (flft κ q) ⊛ ‵ (flft z.0.0.1.0 z.0.1.1.0) ⊛ ‵ ftrue) (id⊢ 𝓤 _) $ split3 ! $ move ! (3 ∷ []) $
    fsplit ! $ fsplit3 ! $ feq_l ! (λ e0. move ! (2 ∷ []) $ fsplit ! $ fsplit ! $ feq_l ! (λ e1. flt_l ! (λ fits. fsplit ! $ fsplit ! $ feq_l ! (λ e2. flt_l ! (λ small. drop ! $
    -- [what γ is seen at; the borrow; the tokens]
    regoal ! (λ (us : List Val). prop (WpFn 𝓤 H C Λ fn us Post)) (λ i. e0 i ++ (e1 i ++ (e2 i ++ []))) refl $
    enter ! C Λ fn _ Post $ alloc_all ! (λ l. pass_all ! refl ((tt, tt), ((tt, record { fits = fits }), ((tt, record { fits = small }), tt))) $ let En : Env 𝓤 H = env fn.locals l in
    opens ! tt (Bk A g) {h = block} rb ro (λ vs. move ! (1 ∷ []) $ fsplit ! $ block_had A g start len ! vs (λ is long.
    in_a_block ! start (λ p. block_owns token p len xs) (id⊢ 𝓤 (never 𝓤)) (λ b o e. rewrite ! 1 (λ (us : List Val). ‵ (cell_at full_share (Bk A g).mir us rb ro)) (is ∙ ap (λ (p : Ptr). block_val p len ∷ []) e) refl $
    fsplit ! $ fsplit ! $ flt_l ! (λ most. flt_l ! (λ below. fsplit ! $ move ! (1 ∷ []) $ fsplit ! $ first ! $ blocks ! $
    -- [the room; the token; the bytes; the block's cell; ..]
    sets ! (of_opd ! (load ! (through ! refl (fld ! refl (stop !))) (look_in ! 3 (sub ! 0 refl (whole !))))) refl (tt, tt) $
    sets ! (bin ! (get ! refl) (get ! refl) tt) refl (tt, tt) $
    use1 𝓛 (‵ (froom byte b (at + o)) ⊛ ‵ (froom (ty_array byte (len - length ys)) b (o + length ys))) (next_room 𝓛 b o len xs x at asked.0 asked.1) $ split ! $
    assigns_last ! (of_opd ! (get ! refl)) (through ! refl (stop !)) (init ! 0 refl (tt, record { fits = small })) $
    exec ! C Λ En (after 1 fn.body) (at_ret En Post) $ sets ! (of_opd ! (unit_lit !)) refl (tt, tt) $
    move ! (3 ∷ 0 ∷ []) $ use2 𝓛 (‵ (bytes full_share ys b o)) (grown 𝓛 b o len xs x at asked.0) $
    -- [the bytes; the room; the token; the block's cell; ..]
    move ! (1 ∷ 2 ∷ []) $ fjoin ! $ move ! (1 ∷ 0 ∷ []) $ fjoin ! $ flt_i ! len (2 ^ 63) below $ flt_i ! (length ys) (len + 1) (omega (arith, length-append xs (x ∷ []), asked.0, asked.1)) $ fjoin ! $ fjoin ! $
    rewrite ! 0 (λ (p : Ptr). ‵ (block_owns token p len ys)) (sym e) refl $ rewrite ! 1 (λ (p : Ptr). ‵ (cell_at full_share (Bk A g).mir (block_val p len ∷ []) rb ro)) (sym e) refl $
    use0 𝓛 (‵ ((Words A g).own_val (start, (len, (tt, tt))) (block_val start len ∷ []))) (block_made A g start len 𝓛 long) $ fjoin ! $ move ! (1 ∷ 0 ∷ []) $ closes ! tt (Bk A g) new (block_val start len ∷ []) rb ro $
    returns ! (look_at ! 0 refl) $ free_all ! refl $ keep ! (0 ∷ 1 ∷ 2 ∷ 3 ∷ 4 ∷ []) $
    -- [what γ is seen at; the borrow; the tokens]
    feq_i ! (List Val) z.0.4.0 (vptr rb ro ∷ []) e0 $ fjoin3 ! $ nothing ! $ nothing ! $ fjoin ! $ nothing ! $ fjoin ! $ move ! (1 ∷ 0 ∷ []) $ fjoin ! $
    feq_i ! (List Val) (vunit ∷ []) (vunit ∷ []) refl $ use0 𝓛 (raw (fact 𝓤 Said)) (fact_i 𝓤 Said (emp 𝓤) (refl, refl, refl)) $ move ! (4 ∷ 5 ∷ []) $ join ! $ move ! (4 ∷ []) $ join ! $ move ! (0 ∷ 3 ∷ 2 ∷ 1 ∷ []) $
    by ! (leaves 𝓛 T stays c z vunit tt (new, (tt, (tt, tt))) (tt, (tt, (tt, tt))))))))))))))))))
