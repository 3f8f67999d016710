-- The slot is lent for the call of `StopperSlot::clear`, and comes back.
use Rattle.poincare_c.proofs.Shared.{ℕ, [], ◌∷◌, ◌++◌, refl, w32, proved, full_share, id⊢, ftrue, fsep, flft, flent, fex, named, vptr, WpFn, Body, ‵, raw, ◌⊛◌, some, later, prop, ◌$◌, ◌∵◌, !, qed}
use Rattle.poincare_c.proofs.Shared.{done, move, keep, drop, use1, use2, use3, split, join, fsplit, fjoin, fpack, pick, await, regoal, suffices, group, of_opd, addr, stop, no_more, and_then, returns}
use Rattle.poincare_c.proofs.Shared.{enter, alloc_all, pass_all, free_all, look_at, get, through, sets, lands_as, lft_new, lft_end, fact, tables, u32, RawPtr, yes, Is, shows, lends_ref, ref_back, mem}
use Rattle.poincare_c.proofs.Shared.{part_at, uint_Lawful, owns, Ptr, block_ptr, rawptr_vals, rawptr_Tells, in_a_block, MutRef, plain, nothing, heard, peeks, calls_at, lasts, triple_of, framed, Stays}
use Rattle.poincare_c.proofs.{Shared.{walk_of, stay_dropped, Goes-dropped, ends_at, holds_stopper, Stops, StopperSlot}, stopper_slot.StopperSlot.clear.Met.{met}}
use Rattle.poincare_c.proofs.exports.poincare_clear.Statement.{statement}
use Rattle.poincare_c.specs.contracts.stopper_slot.StopperSlot.{the_row}
use Rattle.poincare_c.specs.contracts.stopper_slot.StopperSlot.clear as g
use Rattle.poincare_c.specs.contracts.exports.poincare_clear as f
use Rattle.poincare_c.proofs.exports.poincare_clear.Code as code

abbrev stayed : Stays f.ended.signature.params f.ended.kept
stayed = (stay_dropped (plain (λ _. RawPtr)) yes, tt)

pub poincare_clear_spec : {M : Type 1} → statement M
poincare_clear_spec 𝓤 𝓛 𝓜 𝓡 wired =
    let c = f.clauses 𝓛 𝓜.mem 𝓡.returns in let W = walk_of 𝓛 f.ended stayed c in let 𝓣 = tables 𝓤 𝓛.H 𝓜 𝓡 𝓡.env in
    proved 𝓛 f.ended stayed c 𝓜 𝓡 (Goes-dropped 𝓛 0 (plain (λ _. RawPtr)) yes (λ κs x w. refl), tt)
    f.Key.name code.function (code.unfolded 𝓤 𝓛.H 𝓜 𝓡 wired)
    (λ κs. (rawptr_vals, tt)) (λ κs. (rawptr_Tells, tt))
    (λ κs qs bounds a h are.
    let y : Ptr → W.Ghost = λ p. ((κs, qs, bounds, (p, tt), (rawptr_vals p, tt)), h) in
    let Is : ℕ → (StopperSlot × (Unit {0})) → Type 0 = λ r ws. Stops h r ws.0 in
    qed 𝓛 ((‵ ftrue ⊛ ‵ (owns (RawPtr ∷ []) (a.0, tt) (rawptr_vals a.0, tt))) ∷ ‵ (holds_stopper a.0 h) ∷ []) ∵
    split ! $ move ! (1 ∷ []) $ fsplit ! $ drop ! $ move ! (2 ∷ []) $
    -- [what C owns; the other arguments; the tokens of their lifetimes]
    in_a_block ! a.0 (λ p. holds_stopper p h) (id⊢ 𝓤 _) (λ b o e.
    regoal ! (λ p. prop (WpFn 𝓤 𝓛.H 𝓣.C 𝓣.Λ code.function (rawptr_vals p ++ ([])) (W.post (y p)))) e refl $
    use1 𝓛 (‵ (part_at the_row full_share h b o)) (id⊢ 𝓤 _) $
    enter ! _ _ _ _ _ $ alloc_all ! (λ l. pass_all ! refl ((tt, tt), tt) $
    sets ! (of_opd ! (get ! refl)) refl (tt, tt) $
    sets ! (addr ! (through ! refl (stop !))) refl (tt, tt) $
    lft_new ! tt (λ α. move ! (1 ∷ []) $
    use1 𝓛 (later (some (λ (μ : ℕ). ‵ ((MutRef (named 0) (α ∷ []) the_row).own_val (record { ref_ptr = (b, o); ghost_name = μ; now = h }) (vptr b o ∷ [])) ⊛ ‵ (flent (α ∷ []) (Body (mem the_row) b o μ)))))
    (lends_ref 𝓛 the_row (named 0) (α ∷ []) h b o) $ await ! tt $ pick ! (λ μ. split ! $
    -- [the reference; what is lent; α; the other arguments; the tokens; the locals]
    let G = triple_of 𝓛 g.signature (g.spec 𝓛 𝓜.mem 𝓡.returns) in
    let z : G.Ghost = (((α ∷ [], tt), (full_share, tt), tt, (record { ref_ptr = (b, o); ghost_name = μ; now = h }, tt), (vptr b o ∷ [], tt)), tt) in
    move ! (0 ∷ 3 ∷ []) $ fjoin ! $ move ! (2 ∷ 3 ∷ []) $ join ! $ join ! $
    nothing ! $ move ! (1 ∷ 0 ∷ []) $ use2 𝓛 (raw (G.pre z)) (id⊢ 𝓤 _) $
    calls_at ! (framed 𝓤 𝓛.H 𝓜 𝓣) G (met 𝓤 𝓛 𝓜 𝓡 (code.calls-poincare_c::stopper_slot::StopperSlot::clear 𝓡.env wired)) z
    (and_then ! (get ! refl) (no_more !)) (λ v.
    use1 𝓛 (later (some (λ (r : ℕ). ((‵ (flft (α ∷ []) full_share) ⊛ ‵ ftrue) ⊛ ‵ (u32.own_val r (v ∷ []))) ⊛
    some (λ (ws : StopperSlot × (Unit {0})). ‵ (lasts g.ended z.0.0 z.0.3 ws) ⊛ raw (fact 𝓤 (Is r ws)))))) (id⊢ 𝓤 _) $
    await ! tt $ pick ! (λ r. split ! $ split ! $ split ! $ lft_end ! tt $ move ! (3 ∷ []) $ pick ! (λ ws. split ! $
    move ! (1 ∷ []) $ heard ! (Is r ws) (λ told. nothing ! $ move ! (1 ∷ 0 ∷ []) $ fsplit ! $ fsplit ! $
    -- [the last value; its borrow; the others' last values; nothing; α is over; the tokens; the result; what is lent; the locals]
    move ! (4 ∷ 7 ∷ 0 ∷ []) $ use3 𝓛 (later (‵ (part_at the_row full_share ws.0 b o))) (ref_back 𝓛 the_row (α ∷ []) μ ws.0 b o) $ await ! tt $
    move ! (5 ∷ []) $ peeks ! u32 (denote.Laws.Is u32) (shows 𝓛 u32) r (v ∷ []) (λ is. lands_as ! refl refl ((uint_Lawful 𝓛 w32).typed r _ is).0 $
    returns ! (look_at ! 0 refl) $ free_all ! refl $ keep ! (1 ∷ 0 ∷ 5 ∷ []) $
    nothing ! $ fpack ! (Is r ws) (λ _. ftrue) told $ move ! (1 ∷ 0 ∷ []) $ fjoin ! $
    fpack ! StopperSlot (λ x. fsep (holds_stopper (block_ptr b o) x) (fex (Is r (x, ws.1)) (λ _. ftrue))) ws.0 $
    suffices ! _ (ends_at 𝓛 f.ended stayed c (y (block_ptr b o)) v r (tt, tt) (tt, tt)) $
    nothing ! $ nothing ! $ join ! $ move ! (3 ∷ 0 ∷ 2 ∷ []) $ group ! 3 $ done !))))))))))
