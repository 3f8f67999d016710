-- Both slots are lent for the call of `StopperSlot::open`, and come back.
use Rattle.poincare_c.proofs.Shared.{ℕ, [], ◌∷◌, ◌++◌, refl, w32, proved, full_share, id⊢, ftrue, fsep, flft, flent, fex, named, vptr, WpFn, Body, ‵, raw, ◌⊛◌, some, later, prop, ◌$◌, ◌∵◌, !, qed}
use Rattle.poincare_c.proofs.Shared.{done, move, keep, use1, use2, use3, split, join, fsplit, fjoin, fpack, pick, await, regoal, suffices, group, of_opd, addr, stop, no_more, and_then, returns, enter}
use Rattle.poincare_c.proofs.Shared.{alloc_all, pass_all, free_all, look_at, get, through, sets, lands_as, lft_new, lft_end, fact, tables, u32, RawPtr, yes, Is, shows, lends_ref, ref_back, mem}
use Rattle.poincare_c.proofs.Shared.{part_at, uint_Lawful, owns, Ptr, block_ptr, rawptr_vals, rawptr_Tells, in_a_block, MutRef, plain, nothing, heard, peeks, calls_at, lasts, triple_of, framed, Stays}
use Rattle.poincare_c.proofs.{Shared.{walk_of, stay_dropped, Goes-dropped, ends_at, holds_both, holds_session, holds_stopper, OpensStopper, Slot, StopperSlot}, stopper_slot.StopperSlot.open.Met.{met}}
use Rattle.poincare_c.proofs.exports.poincare_stopper_open.Statement.{statement}
use Rattle.poincare_c.specs.{contracts.slot.Slot.{the_row as session_row}, contracts.stopper_slot.StopperSlot.{the_row as stopper_row}}
use Rattle.poincare_c.specs.contracts.stopper_slot.StopperSlot.open as g
use Rattle.poincare_c.specs.contracts.exports.poincare_stopper_open as f
use Rattle.poincare_c.proofs.exports.poincare_stopper_open.Code as code

abbrev stayed : Stays f.ended.signature.params f.ended.kept
stayed = (stay_dropped (plain (λ _. RawPtr)) yes, (stay_dropped (plain (λ _. RawPtr)) yes, tt))

pub poincare_stopper_open_spec : {M : Type 1} → statement M
poincare_stopper_open_spec 𝓤 𝓛 𝓜 𝓡 wired =
    let c = f.clauses 𝓛 𝓜.mem 𝓡.returns in let W = walk_of 𝓛 f.ended stayed c in let 𝓣 = tables 𝓤 𝓛.H 𝓜 𝓡 𝓡.env in
    proved 𝓛 f.ended stayed c 𝓜 𝓡 (Goes-dropped 𝓛 0 (plain (λ _. RawPtr)) yes (λ κs x w. refl), (Goes-dropped 𝓛 0 (plain (λ _. RawPtr)) yes (λ κs x w. refl), tt))
    f.Key.name code.function (code.unfolded 𝓤 𝓛.H 𝓜 𝓡 wired)
    (λ κs. (rawptr_vals, (rawptr_vals, tt))) (λ κs. (rawptr_Tells, (rawptr_Tells, tt)))
    (λ κs qs bounds a h are.
    let y : Ptr → Ptr → W.Ghost = λ p p'. ((κs, qs, bounds, (p, (p', tt)), (rawptr_vals p, (rawptr_vals p', tt))), h) in
    let Are : ℕ → StopperSlot → Slot → Type 0 = λ r s t. OpensStopper h.0 h.1 r s t in
    qed 𝓛 ((‵ ftrue ⊛ ‵ (owns (RawPtr ∷ RawPtr ∷ []) (a.0, (a.1.0, tt)) (rawptr_vals a.0, (rawptr_vals a.1.0, tt)))) ∷ ‵ (holds_both a.0 a.1.0 h.0 h.1) ∷ []) ∵
    keep ! (1 ∷ []) $ fsplit ! $
    -- [the stopper's slot; the session's]
    in_a_block ! a.0 (λ p. holds_stopper p h.0) (id⊢ 𝓤 _) (λ b o e.
    regoal ! (λ p. prop (WpFn 𝓤 𝓛.H 𝓣.C 𝓣.Λ code.function (rawptr_vals p ++ (rawptr_vals a.1.0 ++ [])) (W.post (y p a.1.0)))) e refl $
    move ! (1 ∷ []) $ in_a_block ! a.1.0 (λ p. holds_session p h.1) (id⊢ 𝓤 _) (λ b' o' e'.
    regoal ! (λ p. prop (WpFn 𝓤 𝓛.H 𝓣.C 𝓣.Λ code.function (rawptr_vals (block_ptr b o) ++ (rawptr_vals p ++ [])) (W.post (y (block_ptr b o) p)))) e' refl $
    use1 𝓛 (‵ (part_at session_row full_share h.1 b' o')) (id⊢ 𝓤 _) $ move ! (1 ∷ []) $
    use1 𝓛 (‵ (part_at stopper_row full_share h.0 b o)) (id⊢ 𝓤 _) $
    enter ! _ _ _ _ _ $ alloc_all ! (λ l. pass_all ! refl ((tt, tt), ((tt, tt), tt)) $
    sets ! (of_opd ! (get ! refl)) refl (tt, tt) $
    sets ! (of_opd ! (get ! refl)) refl (tt, tt) $
    sets ! (addr ! (through ! refl (stop !))) refl (tt, tt) $
    sets ! (addr ! (through ! refl (stop !))) refl (tt, tt) $
    lft_new ! tt (λ α. move ! (1 ∷ []) $
    use1 𝓛 (later (some (λ (μ : ℕ). ‵ ((MutRef (named 0) (α ∷ []) stopper_row).own_val (record { ref_ptr = (b, o); ghost_name = μ; now = h.0 }) (vptr b o ∷ [])) ⊛ ‵ (flent (α ∷ []) (Body (mem stopper_row) b o μ)))))
    (lends_ref 𝓛 stopper_row (named 0) (α ∷ []) h.0 b o) $ await ! tt $ pick ! (λ μ. split ! $
    lft_new ! tt (λ β. move ! (4 ∷ []) $
    use1 𝓛 (later (some (λ (ν : ℕ). ‵ ((MutRef (named 1) (β ∷ []) session_row).own_val (record { ref_ptr = (b', o'); ghost_name = ν; now = h.1 }) (vptr b' o' ∷ [])) ⊛ ‵ (flent (β ∷ []) (Body (mem session_row) b' o' ν)))))
    (lends_ref 𝓛 session_row (named 1) (β ∷ []) h.1 b' o') $ await ! tt $ pick ! (λ ν. split ! $
    -- [the session's reference; what is lent; β; the stopper's reference; what is lent; α; the locals]
    let G = triple_of 𝓛 g.signature (g.spec 𝓛 𝓜.mem 𝓡.returns) in
    let z : G.Ghost = (((α ∷ [], (β ∷ [], tt)), (full_share, (full_share, tt)), tt, (record { ref_ptr = (b, o); ghost_name = μ; now = h.0 }, (record { ref_ptr = (b', o'); ghost_name = ν; now = h.1 }, tt)), (vptr b o ∷ [], (vptr b' o' ∷ [], tt))), tt) in
    nothing ! $ move ! (1 ∷ 0 ∷ []) $ fjoin ! $ move ! (3 ∷ 0 ∷ []) $ fjoin ! $
    nothing ! $ move ! (3 ∷ 0 ∷ []) $ join ! $ move ! (4 ∷ 0 ∷ []) $ join ! $ join ! $
    nothing ! $ move ! (1 ∷ 0 ∷ []) $ use2 𝓛 (raw (G.pre z)) (id⊢ 𝓤 _) $
    calls_at ! (framed 𝓤 𝓛.H 𝓜 𝓣) G (met 𝓤 𝓛 𝓜 𝓡 (code.calls-poincare_c::stopper_slot::StopperSlot::open 𝓡.env wired)) z
    (and_then ! (get ! refl) (and_then ! (get ! refl) (no_more !))) (λ v.
    use1 𝓛 (later (some (λ (r : ℕ). ((‵ (flft (α ∷ []) full_share) ⊛ (‵ (flft (β ∷ []) full_share) ⊛ ‵ ftrue)) ⊛ ‵ (u32.own_val r (v ∷ []))) ⊛
    some (λ (ws : StopperSlot × (Slot × Unit {0})). ‵ (lasts g.ended z.0.0 z.0.3 ws) ⊛ raw (fact 𝓤 (Are r ws.0 ws.1.0)))))) (id⊢ 𝓤 _) $
    await ! tt $ pick ! (λ r. split ! $ split ! $ split ! $ lft_end ! tt $ move ! (1 ∷ []) $ split ! $ lft_end ! tt $
    move ! (4 ∷ []) $ pick ! (λ ws. split ! $ move ! (1 ∷ []) $ heard ! (Are r ws.0 ws.1.0) (λ told. fsplit ! $ fsplit ! $
    -- [the stopper's last value; its borrow; the session's; β is over; nothing; α is over; the result; the session that is lent; the stopper; the locals]
    move ! (5 ∷ 8 ∷ 0 ∷ []) $ use3 𝓛 (later (‵ (part_at stopper_row full_share ws.0 b o))) (ref_back 𝓛 stopper_row (α ∷ []) μ ws.0 b o) $ await ! tt $
    move ! (2 ∷ []) $ fsplit ! $ fsplit ! $
    move ! (5 ∷ 8 ∷ 0 ∷ []) $ use3 𝓛 (later (‵ (part_at session_row full_share ws.1.0 b' o'))) (ref_back 𝓛 session_row (β ∷ []) ν ws.1.0 b' o') $ await ! tt $
    move ! (6 ∷ []) $ peeks ! u32 (Is u32) (shows 𝓛 u32) r (v ∷ []) (λ is. lands_as ! refl refl ((uint_Lawful 𝓛 w32).typed r _ is).0 $
    returns ! (look_at ! 0 refl) $ free_all ! refl $ keep ! (4 ∷ 1 ∷ 0 ∷ []) $ fjoin ! $
    nothing ! $ fpack ! (Are r ws.0 ws.1.0) (λ _. ftrue) told $ move ! (1 ∷ 0 ∷ []) $ fjoin ! $
    fpack ! Slot (λ t. fsep (holds_both (block_ptr b o) (block_ptr b' o') ws.0 t) (fex (Are r ws.0 t) (λ _. ftrue))) ws.1.0 $
    fpack ! StopperSlot (λ s. fex Slot (λ t. fsep (holds_both (block_ptr b o) (block_ptr b' o') s t) (fex (Are r s t) (λ _. ftrue)))) ws.0 $
    suffices ! _ (ends_at 𝓛 f.ended stayed c (y (block_ptr b o) (block_ptr b' o')) v r (tt, (tt, tt)) (tt, (tt, tt))) $
    nothing ! $ nothing ! $ nothing ! $ join ! $ nothing ! $ join ! $
    move ! (1 ∷ 0 ∷ 3 ∷ []) $ group ! 3 $ done !)))))))))))))
