-- `bytes` shows what is written. Assumes `Logic`.
use Rattle.raw_region.proofs.Shared.{◌≡◌, ◌+◌, ◌*◌, ◌^◌, ◌<◌, List, [], ◌∷◌, ◌++◌, length, refl, sym, ap, subst, arith, Fn, inst_fn, Val, ftrue, flft, SProp, emp, never, id⊢, Env, WpFn, ◌⊑◌, fact}
use Rattle.raw_region.proofs.Shared.{fact_i, tables, raw, ◌⊛◌, prop, at_ret, ◌$◌, ◌∵◌, qed, by, move, drop, keep, use0, use1, split, split3, join, rewrite, regoal, fsplit, fjoin, feq_i, feq_l, flt_i}
use Rattle.raw_region.proofs.Shared.{flt_l, agg, stop, fld, load, of_opd, and_then, no_more, first, blocks, exec, returns, enter, alloc_all, pass_all, free_all, look_at, get, through, sets, sets_last}
use Rattle.raw_region.proofs.Shared.{env, u8, RefOf, yes, hidden_shr, param, owns, Ptr, in_a_block, plain, types_at, nothing, heard, alive, after, proved_at, leaves, block_shows, hide, unhide}
use Rattle.raw_region.proofs.Shared.{slice_val, elements_shared, Stays, stay_dropped, walk_of, Goes-dropped, RawPtr, fhide, ‵, !, look, InBlock, block_of, count_of, lent_out, word_in, word_out}
use Rattle.raw_region.proofs.{Shared.{pointer_in, pointer_out}, Blocks.{only, Bk, Words, shows_start, shows_len}, block.Block.bytes.Statement.{statement}}
use Rattle.raw_region.specs.{contracts.block.Block.bytes.Key.name as #self, contracts.block.Block.bytes.{ended, clauses}}
use Rattle.core.specs.contracts.marker.PhantomData as marker
use Rattle.raw_region.specs.contracts.block.Block as block-type
use Rattle.raw_region.proofs.block.Block.bytes.Code as code

pub bytes_spec : {M : Type 1} → statement M
bytes_spec 𝓤 𝓛 𝓜 𝓡 wired A L g d dd met md =
    let H = 𝓛.H in let T = ended A g d dd in let c = clauses A g d dd 𝓛 𝓜.mem 𝓡.returns in
    let fn : Fn = inst_fn (only A d dd) code.function in
    let C = (tables 𝓤 H 𝓜 𝓡 𝓡.env).C in let Λ = (tables 𝓤 H 𝓜 𝓡 𝓡.env).Λ in
    let self = RefOf {n = 2} (0 ∷ []) tt (plain (λ _. Bk A g)) (λ _. tt) in
    let stays : Stays T.signature.params T.kept = (stay_dropped self yes, tt) in
    proved_at 𝓛 T stays c 𝓜 𝓡 (Goes-dropped 𝓛 2 self yes (λ κs x f. refl), tt) (#self (only A d dd)) fn
    (code.unfolded 𝓤 H 𝓜 𝓡 wired (A, tt) d dd) (λ z are.
    let Post : Val → SProp 𝓤 = (walk_of 𝓛 T stays c).post z in
    let κ = z.0.0.0 in let q = z.0.1.0 in let r = z.0.3.0 in let rb = r.ref_ptr.0 in let ro = r.ref_ptr.1 in let block = r.now in let xs = block.bytes in let len = block.len in let start = block.start in
    let P = param 0 A in let Asked : Type 0 = length xs ≡ len in
    qed 𝓛 ((raw (alive 𝓛 T.signature z.0.0 z.0.1) ⊛ ‵ (owns (types_at T.signature.params z.0.0) z.0.3 z.0.4)) ∷ (raw (fact 𝓤 (z.0.0.1.0 ⊑ A.lives)) ⊛ raw (fact 𝓤 Asked)) ∷ []) ∵
    move ! (1 ∷ []) $ split ! $ heard ! (z.0.0.1.0 ⊑ A.lives) (λ le. heard ! Asked (λ asked. split ! $ use1 𝓛 (‵ (flft κ q) ⊛ ‵ (flft z.0.0.1.0 z.0.1.1.0) ⊛ ‵ ftrue) (id⊢ 𝓤 _) $ split3 ! $ move ! (3 ∷ []) $
    fsplit ! $ fsplit ! $ feq_l ! (λ e0. move ! (1 ∷ []) $ drop ! $
    -- [the block, lent; the tokens]
    regoal ! (λ (us : List Val). prop (WpFn 𝓤 H C Λ fn us Post)) (λ i. e0 i ++ []) refl $
    enter ! C Λ fn _ Post $ alloc_all ! (λ l. pass_all ! refl ((tt, tt), tt) $ let En : Env 𝓤 H = env fn.locals l in
    use1 𝓛 (‵ (hidden_shr (Words A g) κ (start, (len, (tt, tt))) rb ro) ⊛ ‵ (fhide (block-type.the_lent P g block start κ)))
    (lent_out 𝓛 (block-type.struct P g) (block-type.the_codes A.Denot A.coded (marker.the_row RawPtr).coded) (block-type.the_heap P g) (block-type.the_lent P g) κ block rb ro) $ split ! $ move ! (1 ∷ []) $
    unhide ! $ in_a_block ! start (λ p. block_shows p len xs κ) (id⊢ 𝓤 (never 𝓤)) (λ b o e. fsplit ! $ fsplit ! $ flt_l ! (λ most. flt_l ! (λ small. hide ! $ move ! (1 ∷ 2 ∷ []) $ first ! $ blocks ! $
    -- [the fields, lent; the token; the bytes, lent]
    let inb : InBlock start = subst InBlock (sym e) tt in let fewer : length xs < 2 ^ 63 = omega (arith, most, small) in let long = slice_val (block_of start, count_of start) in
    pointer_in ! tt start inb rb (ro + 0) (shows_start A g 𝓛 κ rb ro start len) (λ q0.
    sets ! (of_opd ! (load ! (through ! refl (fld ! refl (stop !))) (look ! 1 refl))) refl (tt, tt) $ pointer_out ! tt start inb rb (ro + 0) $ move ! (1 ∷ 0 ∷ []) $
    word_in ! tt len rb (ro + 8) (shows_len A g 𝓛 κ rb ro start len) (λ q1 fits.
    sets ! (of_opd ! (load ! (through ! refl (fld ! refl (stop !))) (look ! 1 refl))) refl (tt, record { fits = fits }) $ word_out ! tt len rb (ro + 8) fits $
    sets_last ! (agg ! (and_then ! (get ! refl) (and_then ! (get ! refl) (no_more !)))) refl (tt, (tt, (record { fits = fits }, tt))) $
    exec ! C Λ En (after 1 fn.body) (at_ret En Post) $ sets ! (of_opd ! (get ! refl)) refl (tt, (tt, (record { fits = fits }, tt))) $
    -- [the token; the fields, lent; the bytes, lent; the other tokens]
    returns ! (look_at ! 0 refl) $ free_all ! refl $ move ! (2 ∷ 0 ∷ 3 ∷ 4 ∷ []) $
    rewrite ! 0 (λ (p : Ptr). ‵ (fhide (elements_shared u8 xs (block_of p) (count_of p) κ))) (sym e) refl $
    flt_i ! (length xs * 1) (2 ^ 63) (omega (arith, fewer)) $ flt_i ! (length xs) (2 ^ 64) (omega (arith, fewer)) $ fjoin ! $
    feq_i ! (List Val) (long len ∷ []) (long (length xs) ∷ []) (ap (λ n. long n ∷ []) (sym asked)) $ fjoin ! $ fjoin ! $ keep ! (0 ∷ 1 ∷ 2 ∷ 3 ∷ []) $
    use0 𝓛 (raw (fact 𝓤 (xs ≡ xs))) (fact_i 𝓤 (xs ≡ xs) (emp 𝓤) refl) $ nothing ! $ nothing ! $ fjoin ! $ move ! (4 ∷ 5 ∷ []) $ join ! $ move ! (4 ∷ []) $ join ! $ move ! (0 ∷ 1 ∷ 3 ∷ 2 ∷ []) $
    by ! (leaves 𝓛 T stays c z (long len) (record { ref_ptr = (block_of start, count_of start); now = xs }) (tt, tt) (tt, tt))))))))))))
