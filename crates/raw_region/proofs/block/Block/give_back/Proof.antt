-- `give_back` makes room of the bytes, and hands it back with the allocator's token. Assumes `Logic`.
use Rattle.raw_region.proofs.Shared.{◌≡◌, List, [], ◌∷◌, ◌++◌, length, refl, sym, ap, subst, ◌∙◌, lit<, Fn, inst_fn, Val, vunit, ftrue, froom, flft, SProp, never, id⊢, Env, WpFn, ◌⊑◌, ⊑_trans, fact}
use Rattle.raw_region.proofs.Shared.{tables, raw, ◌⊛◌, later, prop, at_ret, ◌$◌, ◌∵◌, qed, by, move, drop, keep, use1, split, split3, join, group, rewrite, regoal, fsplit, fjoin, feq_i, feq_l, await}
use Rattle.raw_region.proofs.Shared.{whole, sub, stop, fld, lit, unit_lit, of_opd, and_then, no_more, first, blocks, exec, returns, enter, alloc_all, pass_all, free_all, look_at, get, get_in, sets}
use Rattle.raw_region.proofs.Shared.{env, RefOf, yes, no, param, owns, Ptr, block_ptr, in_a_block, plain, types_at, nothing, heard, alive, after, proved_at, leaves, byte, block_owns, Stays}
use Rattle.raw_region.proofs.Shared.{stay_dropped, walk_of, Goes-dropped, ty_array, Al, fm, has_ty, WT, ty_unit, ‵, given, !, learn, lands_last, bytes-room, calls_at_last, Gives, at_gives, Gives-goes}
use Rattle.raw_region.proofs.{Shared.{Gives-Gives, Goes-blank, as_raw}, block.Block.give_back.Statement.{statement}, Blocks.{only, Bk, block_val, block_had, block_size}}
use mir.{Raw.raw as bare}
use lib.Dec.{T as Holds}
use Rattle.raw_region.specs.{contracts.block.Block.give_back.Key.name as #self, contracts.block.Block.give_back.{ended, clauses}}
use Rattle.raw_region.proofs.block.Block.give_back.Code as code

pub give_back_spec : {M : Type 1} → statement M
give_back_spec 𝓤 𝓛 𝓜 𝓡 wired A L g d dd met md =
    let H = 𝓛.H in let T = ended A g d dd in let c = clauses A g d dd 𝓛 𝓜.mem 𝓡.returns in
    let fn : Fn = inst_fn (only A d dd) code.function in
    let C = (tables 𝓤 H 𝓜 𝓡 𝓡.env).C in let Λ = (tables 𝓤 H 𝓜 𝓡 𝓡.env).Λ in
    let lent = RefOf {n = 2} (0 ∷ []) tt (plain (λ _. param 0 A)) (λ _. tt) in
    let stays : Stays T.signature.params T.kept = (stay_dropped (plain (λ _. Bk A g)) no, (stay_dropped lent yes, tt)) in
    proved_at 𝓛 T stays c 𝓜 𝓡 (Goes-blank 𝓛 2 (plain (λ _. Bk A g)) no (λ κs x f. tt), (Goes-dropped 𝓛 2 lent yes (λ κs x f. refl), tt)) (#self (only A d dd)) fn
    (code.unfolded 𝓤 H 𝓜 𝓡 wired (A, tt) d dd) (λ z are.
    let Post : Val → SProp 𝓤 = (walk_of 𝓛 T stays c).post z in
    let κ = z.0.0.0 in let q = z.0.1.0 in let block = z.0.3.0 in let r = z.0.3.1.0 in let at = r.ref_ptr in let start = block.start in let len = block.len in
    let xs = block.bytes in let Z : Al = record { row = A; laws = L; g = g; d = d; drops = dd } in
    let Asked : Type 0 = (length xs ≡ len) × (block.alloc ≡ r.now) in
    qed 𝓛 ((raw (alive 𝓛 T.signature z.0.0 z.0.1) ⊛ ‵ (owns (types_at T.signature.params z.0.0) z.0.3 z.0.4)) ∷ (raw (fact 𝓤 (z.0.0.1.0 ⊑ A.lives)) ⊛ raw (fact 𝓤 Asked)) ∷ []) ∵
    move ! (1 ∷ []) $ split ! $ heard ! (z.0.0.1.0 ⊑ A.lives) (λ le. heard ! Asked (λ asked. split ! $ use1 𝓛 (‵ (flft κ q) ⊛ ‵ (flft z.0.0.1.0 z.0.1.1.0) ⊛ ‵ ftrue) (id⊢ 𝓤 _) $ split3 ! $ move ! (3 ∷ []) $
    fsplit ! $ fsplit ! $ block_had A g start len ! z.0.4.0 (λ is fits. move ! (1 ∷ []) $ fsplit ! $ fsplit ! $ feq_l ! (λ e1. move ! (1 ∷ []) $ drop ! $ move ! (1 ∷ []) $
    -- [the block; the handle, lent; the tokens]
    in_a_block ! start (λ p. block_owns (g.dealloc_token block.alloc) p len xs) (id⊢ 𝓤 (never 𝓤)) (λ b o e.
    regoal ! (λ (us : List Val). prop (WpFn 𝓤 H C Λ fn us Post)) (λ i. (is ∙ ap (λ (p : Ptr). block_val p len ∷ []) e) i ++ (e1 i ++ [])) refl $
    enter ! C Λ fn _ Post $ alloc_all ! (λ l. pass_all ! refl ((tt, (tt, (record { fits = fits }, (tt, tt)))), ((tt, tt), tt)) $ let En : Env 𝓤 H = env fn.locals l in
    fsplit ! $ drop ! $ fsplit ! $
    use1 𝓛 (‵ (froom (ty_array byte (length xs)) b o)) (bytes-room 𝓛 xs b o) $ rewrite ! 0 (λ n. ‵ (froom (ty_array byte n) b o)) asked.0 refl $ as_raw ! (ty_array byte len) b o $
    move ! (1 ∷ []) $ fsplit ! $ drop ! $ rewrite ! 0 (λ (a : A.Denot). ‵ (g.dealloc_token a (bare (ty_array byte len)) (block_ptr b o))) asked.1 refl $ move ! (1 ∷ 0 ∷ []) $
    -- [the room; the token; the handle, lent; the tokens]
    sets ! (of_opd ! (get_in ! (fld ! refl (stop !)) (sub ! 0 refl (whole !)))) refl (tt, tt) $
    sets ! (of_opd ! (get_in ! (fld ! refl (stop !)) (sub ! 1 refl (whole !)))) refl (tt, record { fits = fits }) $ first ! $ blocks ! $
    let τ = bare (ty_array byte len) in let y = at_gives Z 𝓛 𝓜.mem 𝓡.returns κ q at r.now b o len 1 τ in
    group ! 4 $ use1 𝓛 (raw ((Gives Z 𝓛 𝓜.mem 𝓡.returns).pre y)) (Gives-goes Z 𝓛 𝓜.mem 𝓡.returns κ q at r.now (⊑_trans κ z.0.0.1.0 A.lives z.0.2.0 le) b o len 1 τ (block_size len fits) refl fits (lit< tt)) $
    calls_at_last ! (fm 𝓛 𝓜 𝓡) (Gives Z 𝓛 𝓜.mem 𝓡.returns) (met.deallocate dd) y (and_then ! (get ! refl) (and_then ! (get ! refl) (and_then ! (get ! refl) (and_then ! (lit ! tt) (no_more !))))) (λ v.
    use1 𝓛 (later (given (v ≡ vunit) (‵ (flft κ q)))) (Gives-Gives Z 𝓛 𝓜.mem 𝓡.returns κ q at r.now b o len 1 τ v) $ await ! tt $ learn ! (λ done_with.
    lands_last ! refl (subst (λ (u : Val). Holds (has_ty ty_unit u) × WT u) (sym done_with) (tt, tt)) $ exec ! C Λ En (after 3 fn.body) (at_ret En Post) $ sets ! (of_opd ! (unit_lit !)) refl (tt, tt) $
    returns ! (look_at ! 0 refl) $ free_all ! refl $ keep ! (0 ∷ 1 ∷ 2 ∷ []) $ move ! (1 ∷ 2 ∷ []) $ join ! $ move ! (1 ∷ 0 ∷ []) $ join ! $
    nothing ! $ feq_i ! (List Val) (vunit ∷ []) (vunit ∷ []) refl $ nothing ! $ nothing ! $ fjoin ! $ nothing ! $ fjoin ! $ move ! (3 ∷ 0 ∷ 1 ∷ 2 ∷ []) $
    by ! (leaves 𝓛 T stays c z vunit tt (tt, (tt, tt)) (tt, (tt, tt))))))))))))
