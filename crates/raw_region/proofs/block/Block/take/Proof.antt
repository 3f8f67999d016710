-- `take` keeps the new room, and the right to give it back. Assumes `Logic`.
use Rattle.raw_region.proofs.Shared.{◌≡◌, ℕ, ◌+◌, ◌-◌, ◌^◌, ◌<◌, List, [], ◌∷◌, ◌++◌, refl, arith, lit<, Fn, inst_fn, Val, vcons, vnil, vstruct, ftrue, froom, flft, SProp, emp, id⊢, Env, WpFn, ◌⊑◌}
use Rattle.raw_region.proofs.Shared.{⊑_trans, fact, fact_i, tables, raw, ◌⊛◌, later, prop, at_ret, ◌$◌, ◌∵◌, qed, by, move, drop, use0, use1, use2, split, split3, join, rewrite, regoal, fsplit, fjoin}
use Rattle.raw_region.proofs.Shared.{feq_l, flt_i, flt_l, await, whole, agg, stop, fld, lit, of_opd, and_then, no_more, first, exec, returns, enter, alloc_all, pass_all, free_all, look_at, get}
use Rattle.raw_region.proofs.Shared.{get_in, sets, sets_last, env, usize, RefOf, yes, param, RattleType, owns, Ptr, block_ptr, plain, types_at, nothing, heard, alive, after, proved_at, leaves, byte}
use Rattle.raw_region.proofs.Shared.{Stays, stay_dropped, walk_of, Goes-dropped, ty_array, Struct, Al, fm, ‵, !, any_q, switches_on, get_tag, lands_as, live, vrt, in_variant, head, arm_body, Takes}
use Rattle.raw_region.proofs.Shared.{at_takes, Answered, Answer-typed, Takes-goes, Takes-gives, answers, calls_at, Is, owned, Struct-Makes, Body, true, false, Wp, after_seq, at_return, Ok, Err}
use Rattle.raw_region.proofs.{Shared.{as_written, ok_of, err_of}, Blocks.{only, Bk, Words, block_val, block_made, block_size}, block.Block.take.Statement.{statement}}
use types.Kit.{Post as After}
use mir.{Raw.raw as bare}
use Rattle.raw_region.specs.{contracts.block.Block.take.Key.name as #self, contracts.block.Block.take.{ended, clauses}}
use denote.Struct.Declared as Declared
use Rattle.core.specs.contracts.result.Result as RS
use Rattle.core.specs.contracts.alloc.AllocError as AE
use Rattle.raw_region.proofs.block.Block.take.Code as code

all : (len o : ℕ) → ◌≡◌ {A = ℕ × ℕ} (len, o) (len - 0, o + 0)
all len o = let n : len ≡ len - 0 = omega arith in let at : o ≡ o + 0 = omega arith in λ i. (n i, at i)

pub take_spec : {M : Type 1} → statement M
take_spec 𝓤 𝓛 𝓜 𝓡 wired A L g d dd met md =
    let H = 𝓛.H in let T = ended A g d dd in let c = clauses A g d dd 𝓛 𝓜.mem 𝓡.returns in
    let fn : Fn = inst_fn (only A d dd) code.function in
    let C = (tables 𝓤 H 𝓜 𝓡 𝓡.env).C in let Λ = (tables 𝓤 H 𝓜 𝓡 𝓡.env).Λ in
    let lent = RefOf {n = 2} (0 ∷ []) tt (plain (λ _. param 0 A)) (λ _. tt) in
    let stays : Stays T.signature.params T.kept = (stay_dropped lent yes, (stay_dropped (plain (λ _. usize)) yes, tt)) in
    proved_at 𝓛 T stays c 𝓜 𝓡 (Goes-dropped 𝓛 2 lent yes (λ κs x f. refl), (Goes-dropped 𝓛 2 (plain (λ _. usize)) yes (λ κs x f. refl), tt)) (#self (only A d dd)) fn
    (code.unfolded 𝓤 H 𝓜 𝓡 wired (A, tt) d dd) (λ z are.
    let Post : Val → SProp 𝓤 = (walk_of 𝓛 T stays c).post z in
    let κ = z.0.0.0 in let q = z.0.1.0 in let r = z.0.3.0 in let at = r.ref_ptr in let a = r.now in let len = z.0.3.1.0 in let τ = bare (ty_array byte len) in
    let Z : Al = record { row = A; laws = L; g = g; d = d; drops = dd } in
    let Out : RattleType = RS.the_row (Bk A g) AE.the_row in
    let y = at_takes Z 𝓛 𝓜.mem 𝓡.returns κ q at a len 1 τ in
    let Asked : Type 0 = len < 2 ^ 63 in
    qed 𝓛 ((raw (alive 𝓛 T.signature z.0.0 z.0.1) ⊛ ‵ (owns (types_at T.signature.params z.0.0) z.0.3 z.0.4)) ∷ (raw (fact 𝓤 (z.0.0.1.0 ⊑ A.lives)) ⊛ raw (fact 𝓤 Asked)) ∷ []) ∵
    move ! (1 ∷ []) $ split ! $ heard ! (z.0.0.1.0 ⊑ A.lives) (λ le. heard ! Asked (λ asked. split ! $ use1 𝓛 (‵ (flft κ q) ⊛ ‵ (flft z.0.0.1.0 z.0.1.1.0) ⊛ ‵ ftrue) (id⊢ 𝓤 _) $ split3 ! $ move ! (3 ∷ []) $
    fsplit ! $ fsplit ! $ feq_l ! (λ e0. move ! (1 ∷ []) $ fsplit ! $ fsplit ! $ feq_l ! (λ e1. flt_l ! (λ fits. drop ! $
    -- [the handle, lent; the tokens]
    regoal ! (λ (us : List Val). prop (WpFn 𝓤 H C Λ fn us Post)) (λ i. e0 i ++ (e1 i ++ [])) refl $
    enter ! C Λ fn _ Post $ alloc_all ! (λ l. pass_all ! refl ((tt, tt), ((tt, record { fits = fits }), tt)) $ let En : Env 𝓤 H = env fn.locals l in
    use2 𝓛 (raw ((Takes Z 𝓛 𝓜.mem 𝓡.returns).pre y)) (Takes-goes Z 𝓛 𝓜.mem 𝓡.returns κ q at a (⊑_trans κ z.0.0.1.0 A.lives z.0.2.0 le) len 1 τ (block_size len fits) refl fits (lit< tt)) $
    calls_at ! (fm 𝓛 𝓜 𝓡) (Takes Z 𝓛 𝓜.mem 𝓡.returns) (met.allocate dd) y (and_then ! (get ! refl) (and_then ! (get ! refl) (and_then ! (lit ! tt) (no_more !)))) (λ v.
    use1 𝓛 (later (raw (Answered Z 𝓛 𝓜.mem 𝓡.returns a τ v) ⊛ ‵ (flft κ q))) (Takes-gives Z 𝓛 𝓜.mem 𝓡.returns κ q at a len 1 τ v) $ await ! tt $ split ! $
    let both : Body = head (after 1 fn.body) in
    let Then : After 𝓤 H = any_q (after_seq 𝓤 H (Wp 𝓤 H C Λ En (after 2 fn.body) (at_return 𝓤 H En Post)) (at_return 𝓤 H En Post)) in
    answers Z ! 𝓜.mem 𝓡.returns a τ v
    (λ b o e.
    -- [the room; the token; the tokens]
    let p : Ptr = block_ptr b o in
    let block : (Bk A g).Denot = record { start = p; len = len; mark = record {}; bytes = []; alloc = a } in
    let made : Val = block_val p len in
    let result : Out.Denot = Ok block in
    let Said : Type 0 = (len ≡ len) × (◌≡◌ {A = List ℕ} [] []) × (a ≡ a) in
    lands_as ! e refl (Answer-typed true b o) $ first ! $ switches_on ! (get_tag ! (vrt ! refl (fld ! refl (stop !))) (whole !)) $ exec ! C Λ En (arm_body 0 both) Then $
    sets ! (of_opd ! (get_in ! (vrt ! refl (fld ! refl (stop !))) (in_variant ! 0 0 refl refl (whole !)))) refl (tt, tt) $
    sets ! (agg ! (no_more !)) refl (tt, tt) $
    sets ! (agg ! (and_then ! (get ! refl) (and_then ! (get ! refl) (and_then ! (get ! refl) (no_more !))))) refl (tt, (tt, (record { fits = fits }, (tt, tt)))) $
    sets_last ! (agg ! (and_then ! (lit ! tt) (and_then ! (get ! refl) (no_more !)))) refl (tt, (record { fits = lit< tt }, ((tt, (record { fits = fits }, (tt, tt))), tt))) $
    exec ! C Λ En (after 2 fn.body) (at_ret En Post) $ sets ! (of_opd ! (get ! refl)) refl (tt, (record { fits = lit< tt }, ((tt, (record { fits = fits }, (tt, tt))), tt))) $
    as_written ! (ty_array byte len) b o $
    rewrite ! 0 (λ (n : ℕ × ℕ). ‵ (froom (ty_array byte n.0) b n.1)) {x = (len - 0, o + 0)} (all len o) refl $ fjoin ! $ nothing ! $ fjoin ! $
    flt_i ! len (2 ^ 63) asked $ flt_i ! 0 (len + 1) (omega arith) $ fjoin ! $ fjoin ! $ use0 𝓛 (‵ ((Words A g).own_val (p, (len, (tt, tt))) (made ∷ []))) (block_made A g p len 𝓛 fits) $ fjoin ! $
    use1 𝓛 (‵ (Out.own_val result (live 0 (vcons made vnil) ∷ []))) (ok_of 𝓛 (Bk A g) AE.the_row block made) $
    returns ! (look_at ! 0 refl) $ free_all ! refl $ use0 𝓛 (raw (fact 𝓤 Said)) (fact_i 𝓤 Said (emp 𝓤) (refl, refl, refl)) $ nothing ! $ nothing ! $ fjoin ! $ nothing ! $ fjoin ! $
    move ! (4 ∷ 5 ∷ []) $ join ! $ move ! (4 ∷ []) $ join ! $ move ! (0 ∷ 1 ∷ 3 ∷ 2 ∷ []) $
    by ! (leaves 𝓛 T stays c z (live 0 (vcons made vnil)) result (tt, (tt, tt)) (tt, (tt, tt))))
    (λ e.
    let Refusal : RattleType = Struct (Declared.shape AE.the_type) in let none : Val = live 1 (vcons (vstruct vnil) vnil) in
    lands_as ! e refl (Answer-typed false 0 0) $ first ! $ switches_on ! (get_tag ! (vrt ! refl (fld ! refl (stop !))) (whole !)) $ exec ! C Λ En (arm_body 1 both) Then $
    sets ! (of_opd ! (get_in ! (vrt ! refl (fld ! refl (stop !))) (in_variant ! 1 0 refl refl (whole !)))) refl (tt, tt) $
    sets_last ! (agg ! (and_then ! (lit ! tt) (and_then ! (get ! refl) (no_more !)))) refl (tt, (record { fits = lit< tt }, (tt, tt))) $
    exec ! C Λ En (after 2 fn.body) (at_ret En Post) $ sets ! (of_opd ! (get ! refl)) refl (tt, (record { fits = lit< tt }, (tt, tt))) $ returns ! (look_at ! 0 refl) $ free_all ! refl $
    owned ! Refusal (Is Refusal) (Struct-Makes 𝓛 (Declared.shape AE.the_type) tt) tt (vstruct vnil ∷ []) (tt, (refl, tt)) $
    use1 𝓛 (‵ (Out.own_val (Err (record {})) (none ∷ []))) (err_of 𝓛 (Bk A g) AE.the_row (record {}) (vstruct vnil)) $
    use0 𝓛 (raw (fact 𝓤 (Unit {0}))) (fact_i 𝓤 (Unit {0}) (emp 𝓤) tt) $ nothing ! $ nothing ! $ fjoin ! $ nothing ! $ fjoin ! $
    move ! (4 ∷ 5 ∷ []) $ join ! $ move ! (4 ∷ []) $ join ! $ move ! (0 ∷ 1 ∷ 3 ∷ 2 ∷ []) $
    by ! (leaves 𝓛 T stays c z none (Err (record {})) (tt, (tt, tt)) (tt, (tt, tt))))))))))))
